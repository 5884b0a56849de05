-- The search, step by step.
use Rattle.std.proofs.Common.{◌≡◌, ℕ, zero, suc, ◌+◌, ◌-◌, ◌*◌, ◌<◌, ◌≤◌, Bool, true, false, ◌&&◌, List, [], ◌∷◌, Option, Some, None, refl, sym, ap, ◌∙◌, subst, arith, length}
use Rattle.std.specs.Prelude.{IfSome, is_none, replicate}
use Rattle.std.specs.List.{slice_get}
use Rattle.std.proofs.lemmas.Bool.{and_parts}
use Rattle.nand_geometry.specs.declared.parts.Parts.{Parts}
use Rattle.micro_word.specs.declared.word.Word.{Word}
use Rattle.micro_word.specs.Text.{Microprogram}
use Rattle.micro_program.specs.Moves.{and_then}
use Rattle.micro_claims.specs.declared.state.State.{State}
use Rattle.micro_claims.specs.declared.bounds.Bounds.{Bounds}
use Rattle.micro_claims.specs.declared.refusal.Fault.{Fault}
use Rattle.micro_claims.specs.State.{first_state, bounds_of}
use Rattle.micro_claims.specs.Certificate.{if_there, is_certified}
use Rattle.micro_claims.specs.Order.{machine}
use Rattle.micro_walk.specs.Shape.{or_fault, shape_fault}
use Rattle.micro_walk.specs.Faults.{reached, has_loop, front_fault, early_fault}
use Rattle.micro_walk.specs.Searched.{Search, not_walked, forgotten, stepped, at_end_or, searched, search_first, is_found, finds_certificate}
use Rattle.micro_walk.specs.declared.search.Walk.{Walk}
use Rattle.micro_program.specs.Lines.{all_lead_on}
use Rattle.micro_walk.proofs.Forgetting.{forgets_all}
use Rattle.micro_walk.proofs.Verdicts.{no_loops}

-- ---- more steps

-- what is claimed in the end stays so where there are more steps
pub searched_more : (g : Parts) (b : Bounds) (words : List Word) (k m : ℕ) (s : Search) (found : List (Option State)) → k ≤ m → searched g b words k s ≡ Some found → searched g b words m s ≡ Some found
searched_more g b words zero m s found few h = absurd cc
searched_more g b words (suc k) zero s found few h = absurd (omega (arith, few))
searched_more g b words (suc k) (suc m) s found few h = at (slice_get words s.walk.at) (λ t. searched_more g b words k m t found (omega (arith, few))) h
  where
    on : (o : Option Search) → ((t : Search) → searched g b words k t ≡ Some found → searched g b words m t ≡ Some found) → and_then o (searched g b words k) ≡ Some found → and_then o (searched g b words m) ≡ Some found
    on None more e = absurd cc
    on (Some t) more e = more t e

    at : (o : Option Word) → ((t : Search) → searched g b words k t ≡ Some found → searched g b words m t ≡ Some found) → at_end_or o s.claims (λ word. and_then (stepped g b word s) (searched g b words k)) ≡ Some found → at_end_or o s.claims (λ word. and_then (stepped g b word s) (searched g b words m)) ≡ Some found
    at None more e = e
    at (Some word) more e = on (stepped g b word s) more e

-- ---- what the code does of it

-- what is left of a search, after so many of its steps
abbrev pub Left : Parts → Bounds → List Word → (most done : ℕ) → (first now : Search) → Type 0
Left g b words most done first now = (found : List (Option State)) → searched g b words most first ≡ Some found → searched g b words (most - done) now ≡ Some found

abbrev pub IsStep : Bool → Walk → List (Option State) → Search → Type 0
IsStep went walk claims s = (went ≡ true) × (walk ≡ s.walk) × (claims ≡ s.claims)

one_left : (g : Parts) (b : Bounds) (words : List Word) (most done : ℕ) (now : Search) (word : Word) (found : List (Option State)) → done < most → slice_get words now.walk.at ≡ Some word → searched g b words (most - done) now ≡ Some found
    → and_then (stepped g b word now) (searched g b words (most - (done + 1))) ≡ Some found
one_left g b words most done now word found less there h =
    let e : most - done ≡ suc (most - (done + 1)) = omega (arith, less) in
    let k = most - (done + 1) in
    sym (ap (λ (o : Option Word). at_end_or o now.claims (λ w. and_then (stepped g b w now) (searched g b words k))) there)
    ∙ (sym (ap (λ (n : ℕ). searched g b words n now) e) ∙ h)

-- what is told of a step is what has come of it: so there is less left
pub step_done : (g : Parts) (b : Bounds) (words : List Word) (most done : ℕ) (first now : Search) (word : Word) (went : Bool) (walk : Walk) (claims : List (Option State)) → done < most → slice_get words now.walk.at ≡ Some word
    → IfSome (stepped g b word now) (IsStep went walk claims) → Left g b words most done first now → Left g b words most (done + 1) first (record { walk = walk; claims = claims })
step_done g b words most done first now word went walk claims less there is left found h =
    on (stepped g b word now) is (one_left g b words most done now word found less there (left found h))
  where
    on : (o : Option Search) → IfSome o (IsStep went walk claims) → and_then o (searched g b words (most - (done + 1))) ≡ Some found → searched g b words (most - (done + 1)) (record { walk = walk; claims = claims }) ≡ Some found
    on None i e = absurd cc
    on (Some s) i e =
        subst (λ (w : Walk). searched g b words (most - (done + 1)) (record { walk = w; claims = claims }) ≡ Some found) (sym i.1)
        (subst (λ (cs : List (Option State)). searched g b words (most - (done + 1)) (record { walk = s.walk; claims = cs }) ≡ Some found) (sym i.2) e)

abbrev pub Comes : Option ℕ → List (Option State) → List (Option State) → Type 0
Comes stopped claims found = (stopped ≡ None) × (claims ≡ found)

-- at first all is left
pub first_left : (g : Parts) (b : Bounds) (words : List Word) (most : ℕ) (old claims : List (Option State)) (s : State) → s ≡ first_state → claims ≡ reached (forgotten 0 (length old - 0) old) 0 s
    → Left g b words most 0 (search_first (length old)) (record { walk = record { at = 0; depth = 0; loops = replicate 4 not_walked }; claims = claims })
first_left g b words most old claims s first is found h =
    let none : length old - 0 ≡ length old = omega arith in
    let all : most - 0 ≡ most = omega arith in
    let begins : claims ≡ reached (replicate (length old) None) 0 first_state =
    is ∙ (ap (λ (n : ℕ). reached (forgotten 0 n old) 0 s) none ∙ (ap (λ (cs : List (Option State)). reached cs 0 s) (forgets_all old) ∙ ap (reached (replicate (length old) None) 0) first)) in
    ap (λ (n : ℕ). searched g b words n (record { walk = record { at = 0; depth = 0; loops = replicate 4 not_walked }; claims = claims })) all
    ∙ (ap (λ (cs : List (Option State)). searched g b words most (record { walk = record { at = 0; depth = 0; loops = replicate 4 not_walked }; claims = cs })) begins ∙ h)

pub no_word : (words : List Word) (at : ℕ) → length words ≤ at → slice_get words at ≡ None
no_word [] at h = refl
no_word (word ∷ words) zero h = absurd (omega (arith, h))
no_word (word ∷ words) (suc at) h = no_word words at (omega (arith, h))

of_found : (o : Option (List (Option State))) (P : List (Option State) → Type 0) → ((found : List (Option State)) → o ≡ Some found → P found) → IfSome o P
of_found None P h = tt
of_found (Some found) P h = h found refl

-- it stops at a word: then nothing was told of it
pub stops : (g : Parts) (b : Bounds) (words : List Word) (most done : ℕ) (first now : Search) (word : Word) (went : Bool) (walk : Walk) (claims : List (Option State)) (P : List (Option State) → Type 0) → done < most → slice_get words now.walk.at ≡ Some word
    → IfSome (stepped g b word now) (IsStep went walk claims) → went ≡ false → Left g b words most done first now → IfSome (searched g b words most first) P
stops g b words most done first now word went walk claims P less there is stopped left =
    of_found (searched g b words most first) P (λ found h. absurd (on (stepped g b word now) is (one_left g b words most done now word _ less there (left found h))))
  where
    on : (o : Option Search) {found : List (Option State)} → IfSome o (IsStep went walk claims) → and_then o (searched g b words (most - (done + 1))) ≡ Some found → ⊥
    on None i e = absurd cc
    on (Some s) i e = let clash = sym stopped ∙ i.0 in absurd cc

-- it is behind the last word
pub through : (g : Parts) (b : Bounds) (words : List Word) (most done : ℕ) (first now : Search) → done < most → slice_get words now.walk.at ≡ None → Left g b words most done first now → IfSome (searched g b words most first) (Comes None now.claims)
through g b words most done first now less past left =
    of_found (searched g b words most first) (Comes None now.claims) (λ found h. (refl, same found (left found h)))
  where
    same : (found : List (Option State)) → searched g b words (most - done) now ≡ Some found → now.claims ≡ found
    same found h =
        let e : most - done ≡ suc (most - (done + 1)) = omega (arith, less) in
        let k = most - (done + 1) in
        let is : Some now.claims ≡ Some found =
        sym (ap (λ (o : Option Word). at_end_or o now.claims (λ w. and_then (stepped g b w now) (searched g b words k))) past)
        ∙ (sym (ap (λ (n : ℕ). searched g b words n now) e) ∙ h) in
        cc

-- no step is left
pub too_few : (g : Parts) (b : Bounds) (words : List Word) (most done : ℕ) (first now : Search) (P : List (Option State) → Type 0) → most ≤ done → Left g b words most done first now → IfSome (searched g b words most first) P
too_few g b words most done first now P all left =
    of_found (searched g b words most first) P
    (λ found h. (let e : most - done ≡ 0 = omega (arith, all) in let none : None ≡ Some found = sym (ap (λ (n : ℕ). searched g b words n now) e) ∙ left found h in absurd cc))

-- ---- a certificate

there_of : {A : Type 0} (o : Option A) (f : A → Bool) → if_there o f ≡ true → (x : A) × (o ≡ Some x) × (f x ≡ true)
there_of None f h = absurd cc
there_of (Some x) f h = (x, refl, h)

-- the search that finds a certificate of some words leaves it
pub leaves_certificate : (g : Parts) (b : Bounds) (words : List Word) (most places : ℕ) (stopped : Option ℕ) (claims : List (Option State)) → 256 * length words ≤ most → places ≡ length words
    → IfSome (searched g b words most (search_first places)) (Comes stopped claims) → is_found g b words ≡ true → (stopped ≡ None) × (is_certified (machine g b) words claims ≡ true)
leaves_certificate g b words most places stopped claims enough long is found =
    let t = there_of (searched g b words (256 * length words) (search_first (length words))) (is_certified (machine g b) words) found in
    let more = searched_more g b words (256 * length words) most (search_first (length words)) t.0 enough t.1 in
    let all = ap (λ (n : ℕ). searched g b words most (search_first n)) long ∙ more in
    let comes : Comes stopped claims t.0 = subst (λ (o : Option (List (Option State))). IfSome o (Comes stopped claims)) all is in
    (comes.0, ap (is_certified (machine g b) words) comes.1 ∙ t.2)

-- ---- of a text

pub record Finds (g : Parts) (text : Microprogram) : Type 0 where
  pub loops : has_loop text.words ≡ true
  pub shape : shape_fault text.words ≡ None
  pub front : front_fault g (bounds_of text) text.words ≡ None
  pub found : is_found g (bounds_of text) text.words ≡ true

neither_fault : (a b : Option Fault) → is_none (or_fault a b) ≡ true → (a ≡ None) × (b ≡ None)
neither_fault None None h = (refl, refl)
neither_fault None (Some fault) h = absurd cc
neither_fault (Some fault) b h = absurd cc

pub finds : (g : Parts) (text : Microprogram) → finds_certificate g text ≡ true → Finds g text
finds g text h =
    let one = and_parts (has_loop text.words) (is_none (early_fault g text) && is_found g (bounds_of text) text.words) h in
    let two = and_parts (is_none (early_fault g text)) (is_found g (bounds_of text) text.words) one.1 in
    let none = neither_fault (shape_fault text.words) (front_fault g (bounds_of text) text.words) two.0 in
    record { loops = one.0; shape = none.0; front = none.1; found = two.1 }

-- what is found has loops: so a way leads elsewhere
pub not_straight : (g : Parts) (text : Microprogram) → finds_certificate g text ≡ true → all_lead_on text.words ≡ true → ⊥
not_straight g text h leads = let clash = sym (no_loops text.words leads) ∙ (finds g text h).loops in absurd cc

-- the same of a text, as it is read
pub found_of_text : (g : Parts) (text : Microprogram) (b : Bounds) (words : List Word) (most places : ℕ) (stopped : Option ℕ) (claims : List (Option State)) → b ≡ bounds_of text → words ≡ text.words → 256 * length text.words ≤ most → places ≡ length words
    → IfSome (searched g b words most (search_first places)) (Comes stopped claims) → is_found g (bounds_of text) text.words ≡ true → is_certified (machine g (bounds_of text)) text.words claims ≡ true
found_of_text g text b words most places stopped claims eb ew enough long is found =
    (leaves_certificate g (bounds_of text) text.words most places stopped claims enough (long ∙ ap (λ (ws : List Word). length ws) ew)
    (subst (λ (x : Bounds). IfSome (searched g x text.words most (search_first places)) (Comes stopped claims)) eb
    (subst (λ (ws : List Word). IfSome (searched g b ws most (search_first places)) (Comes stopped claims)) ew is)) found).1
