-- The search over a loop of straight words and branches that all lead to its `next`: it is walked once, or once more, and then left.
use Rattle.std.proofs.Common.{◌≡◌, ℕ, zero, suc, ◌+◌, ◌-◌, ◌*◌, ◌<◌, ◌≤◌, ◌==◌, Bool, true, false, ◌||◌, nat_lt, nat_le, cond, List, [], ◌∷◌, ◌++◌, Option, Some, None, refl, ap, ◌∙◌, subst, arith, length}
use Rattle.std.specs.Prelude.{is_none, replicate}
use Rattle.std.specs.List.{slice_get}
use Rattle.std.proofs.lemmas.List.{length-replicate}
use Rattle.std.proofs.lemmas.Bool.{and_from}
use Rattle.std.proofs.lemmas.Bool.Decides.{nat_tests}
use Rattle.nand_geometry.specs.declared.parts.Parts.{Parts}
use Rattle.micro_word.specs.declared.word.Word.{Word}
use Rattle.micro_word.specs.declared.word.Word.TheVariants.{End, Loop, Next}
use Rattle.micro_program.specs.Moves.{and_then}
use Rattle.micro_claims.specs.declared.state.State.{State}
use Rattle.micro_claims.specs.declared.bounds.Bounds.{Bounds}
use Rattle.micro_claims.specs.State.{first_state}
use Rattle.micro_claims.specs.Reasons.{reason_against}
use Rattle.micro_claims.specs.Certificate.{claim, if_there, is_certified}
use Rattle.micro_claims.specs.Order.{machine, is_state_within, state_at_head, state_at_heads, state_after_turns}
use Rattle.micro_claims.specs.Joins.{joined}
use Rattle.micro_walk.specs.Faults.{reached}
use Rattle.micro_walk.specs.Searched.{Loops, Search, not_walked, search_first, forgotten, left_at, again_at, turn_with, led_on, led_by, walk_on, stepped, at_end_or, searched, is_found}
use Rattle.micro_walk.proofs.Searching.{searched_more, no_word}
use Rattle.looped_plain.proofs.Through.{within_itself}
use Rattle.looped_plain.proofs.Walks.{AreInside, ended, Along, along_first, along_same, Has, has_first, has_rest, steps_over, at_place, one_on, Opens, reached_long, reached_there, reached_elsewhere, Walks, body_walked}
use Rattle.looped_plain.proofs.Certifying.{Claimed, Turns, loop_is_certified, looped, closes}

-- ---- places

pub has_behind : (words : List Word) (ws more : List Word) (at last : ℕ) → at + length ws ≡ last → Has words at (ws ++ more) → Has words last more
has_behind words [] more at last long h = let e : at ≡ last = omega (arith, long) in subst (λ (q : ℕ). Has words q more) e h
has_behind words (w ∷ ws) more at last long h = has_behind words ws more (at + 1) last (omega (arith, long)) (has_rest words at w (ws ++ more) h)

over_words : (ws : List Word) (k : ℕ) → steps_over ws k ≡ length ws + k
over_words [] k = omega arith
over_words (w ∷ ws) k = let more = over_words ws k in omega (arith, more)

pub behind_words : (ws more : List Word) → length (ws ++ more) ≡ length ws + length more
behind_words [] more = omega arith
behind_words (w ∷ ws) more = let rest = behind_words ws more in omega (arith, rest)

nothing_known : (count p : ℕ) → claim (replicate {A = Option State} count None) p ≡ None
nothing_known zero p = refl
nothing_known (suc count) zero = refl
nothing_known (suc count) (suc p) = nothing_known count p

forgotten_long : (claims : List (Option State)) (from count : ℕ) → length (forgotten from count claims) ≡ length claims
forgotten_long [] from count = refl
forgotten_long (o ∷ claims) zero zero = refl
forgotten_long (o ∷ claims) zero (suc count) = ap (λ (n : ℕ). suc n) (forgotten_long claims zero count)
forgotten_long (o ∷ claims) (suc from) count = ap (λ (n : ℕ). suc n) (forgotten_long claims from count)

forgotten_there : (claims : List (Option State)) (from count p : ℕ) → from ≤ p → p < from + count → claim (forgotten from count claims) p ≡ None
forgotten_there [] from count p h k = refl
forgotten_there (o ∷ claims) zero zero p h k = absurd (omega (arith, k))
forgotten_there (o ∷ claims) zero (suc count) zero h k = refl
forgotten_there (o ∷ claims) zero (suc count) (suc p) h k = forgotten_there claims zero count p (omega arith) (omega (arith, k))
forgotten_there (o ∷ claims) (suc from) count zero h k = absurd (omega (arith, h))
forgotten_there (o ∷ claims) (suc from) count (suc p) h k = forgotten_there claims from count p (omega (arith, h)) (omega (arith, k))

kept_before : (claims : List (Option State)) (from count p : ℕ) → p < from → claim (forgotten from count claims) p ≡ claim claims p
kept_before [] from count p h = refl
kept_before (o ∷ claims) zero count p h = absurd (omega (arith, h))
kept_before (o ∷ claims) (suc from) count zero h = refl
kept_before (o ∷ claims) (suc from) count (suc p) h = kept_before claims from count p (omega (arith, h))

kept_behind : (claims : List (Option State)) (from count p : ℕ) → from + count ≤ p → claim (forgotten from count claims) p ≡ claim claims p
kept_behind [] from count p h = refl
kept_behind (o ∷ claims) zero zero p h = refl
kept_behind (o ∷ claims) zero (suc count) zero h = absurd (omega (arith, h))
kept_behind (o ∷ claims) zero (suc count) (suc p) h = kept_behind claims zero count p (omega (arith, h))
kept_behind (o ∷ claims) (suc from) count zero h = absurd (omega (arith, h))
kept_behind (o ∷ claims) (suc from) count (suc p) h = kept_behind claims from count p (omega (arith, h))

-- ---- the loop that is walked

-- the one loop, at the first word of the text, so often walked again
abbrev loops_of : (turns again : ℕ) → Loops
loops_of turns again = record { head = 1; entry = Some first_state; turns = turns; again = again } ∷ (not_walked ∷ (not_walked ∷ (not_walked ∷ [])))

-- whether it is left
abbrev is_left : (turns again : ℕ) → (r h : State) → Bool
is_left turns again r h = nat_le turns 1 || (nat_le 13 again || is_state_within (state_at_heads first_state r turns) h)

abbrev heads : (turns : ℕ) → State → State
heads turns r = state_at_heads first_state r turns

-- what is claimed while it is walked
record Walked (g : Parts) (ws : List Word) (last : ℕ) (claims : List (Option State)) (h r : State) : Type 0 where
  long : length claims ≡ last + 1 + 1
  first : claim claims 0 ≡ Some first_state
  head : claim claims 1 ≡ Some h
  along : Along g claims 1 h ws
  ends : claim claims last ≡ Some r
  after : claim claims (last + 1) ≡ None

-- what a turn comes to
abbrev left_with : (last turns again : ℕ) → List (Option State) → (r : State) → Search
left_with last turns again claims r = at_place (last + 1) 0 (loops_of turns again) (reached claims (last + 1) (state_after_turns first_state r turns))

abbrev again_with : (last turns : ℕ) → List (Option State) → (h r : State) → Search
again_with last turns claims h r = at_place 1 1 (loops_of turns 1) (reached (forgotten 1 (last + 1 - 1) claims) 1 (joined h (heads turns r)))

at_next : (g : Parts) (b : Bounds) (ws : List Word) (last turns again : ℕ) (claims : List (Option State)) (h r : State) (s : Search) → Walked g ws last claims h r
    → and_then (turn_with claims last (record { head = 1; entry = Some first_state; turns = turns; again = again }) (Some first_state) (Some h) (Some r)) (λ t. Some (record { walk = walk_on (record { at = last; depth = 1; loops = loops_of turns again }) t.again; claims = t.claims })) ≡ Some s
    → stepped g b Next (at_place last 1 (loops_of turns again) claims) ≡ Some s
at_next g b ws last turns again claims h r s c is =
    let long = c.long in
    let inside : nat_lt last (length claims) ≡ true = grind (arith, nat_tests, long) in
    let l = loops_of turns again in
    let on : Option State → Option State → Option Search =
    λ o p. and_then (turn_with claims last (record { head = 1; entry = Some first_state; turns = turns; again = again }) (Some first_state) o p) (λ t. Some (record { walk = walk_on (record { at = last; depth = 1; loops = l }) t.again; claims = t.claims })) in
    ap (λ (t : Bool). cond t (on (claim claims 1) (claim claims last)) None) inside
    ∙ (ap (λ (o : Option State). on o (claim claims last)) c.head ∙ (ap (λ (o : Option State). on (Some h) o) c.ends ∙ is))

leaves : (g : Parts) (b : Bounds) (ws : List Word) (last turns again : ℕ) (claims : List (Option State)) (h r : State) → Walked g ws last claims h r → is_left turns again r h ≡ true
    → stepped g b Next (at_place last 1 (loops_of turns again) claims) ≡ Some (left_with last turns again claims r)
leaves g b ws last turns again claims h r c left =
    let l : Loops = loops_of turns again in
    at_next g b ws last turns again claims h r (left_with last turns again claims r) c
    (ap (λ (t : Bool). and_then (cond t (Some (left_at claims last (record { head = 1; entry = Some first_state; turns = turns; again = again }) first_state r))
    (cond (nat_lt again 7) (Some (again_at claims last (record { head = 1; entry = Some first_state; turns = turns; again = again }) first_state h r)) None)) (λ t. Some (record { walk = walk_on (record { at = last; depth = 1; loops = l }) t.again; claims = t.claims }))) left)

goes_again : (g : Parts) (b : Bounds) (ws : List Word) (last turns : ℕ) (claims : List (Option State)) (h r : State) → Walked g ws last claims h r → is_left turns 0 r h ≡ false
    → stepped g b Next (at_place last 1 (loops_of turns 0) claims) ≡ Some (again_with last turns claims h r)
goes_again g b ws last turns claims h r c left =
    let l : Loops = loops_of turns 0 in
    at_next g b ws last turns 0 claims h r (again_with last turns claims h r) c
    (ap (λ (t : Bool). and_then (cond t (Some (left_at claims last (record { head = 1; entry = Some first_state; turns = turns; again = 0 }) first_state r))
    (cond (nat_lt 0 7) (Some (again_at claims last (record { head = 1; entry = Some first_state; turns = turns; again = 0 }) first_state h r)) None)) (λ t. Some (record { walk = walk_on (record { at = last; depth = 1; loops = l }) t.again; claims = t.claims }))) left)

-- at the end
at_end : (g : Parts) (b : Bounds) (at : ℕ) (loops : Loops) (claims : List (Option State)) (a : State) → at < length claims → claim claims at ≡ Some a → is_none (reason_against g b a (End 0)) ≡ true
    → stepped g b (End 0) (at_place at 0 loops claims) ≡ Some (at_place (at + 1) 0 loops claims)
at_end g b at loops claims a inside there none =
    let test : nat_lt at (length claims) ≡ true = grind (arith, nat_tests, inside) in
    let w : Search = at_place at 0 loops claims in
    ap (λ (t : Bool). cond t (led_on w.walk (led_by g b claims at (claim claims at) (End 0))) None) test
    ∙ (ap (λ (o : Option State). led_on w.walk (led_by g b claims at o (End 0))) there
    ∙ ap (λ (t : Bool). led_on w.walk (cond t (Some claims) None)) none)

-- ---- the search behind the last turn

-- what it comes to, and that this is a certificate
record Ends (g : Parts) (b : Bounds) (words : List Word) (steps : ℕ) (s : Search) : Type 0 where
  found : List (Option State)
  walked : searched g b words steps s ≡ Some found
  certified : is_certified (machine g b) words found ≡ true

pub text_long : (turns : ℕ) (ws : List Word) (last : ℕ) → 1 + length ws ≡ last → length (looped turns ws) ≡ last + 1 + 1
text_long turns ws last long = let more = behind_words ws (Next ∷ (End 0 ∷ [])) in omega (arith, more, long)

pub has_all : (words : List Word) → Has words 0 words
has_all words i = let e : 0 + i ≡ i = omega arith in ap (slice_get words) e

finishes : (g : Parts) (b : Bounds) (ws : List Word) (turns again last : ℕ) (claims : List (Option State)) (h r : State) → 1 + length ws ≡ last → AreInside last ws → Walked g ws last claims h r → is_left turns again r h ≡ true → Turns g b ws turns h r
    → Ends g b (looped turns ws) 3 (at_place last 1 (loops_of turns again) claims)
finishes g b ws turns again last claims h r long inside c left t =
    let words = looped turns ws in
    let a = state_after_turns first_state r turns in
    let found = reached claims (last + 1) a in
    let all = text_long turns ws last long in
    let behind = has_behind words ws (Next ∷ (End 0 ∷ [])) 1 last long (has_rest words 0 (Loop turns) (ws ++ (Next ∷ (End 0 ∷ []))) (has_all words)) in
    let end = has_rest words last Next (End 0 ∷ []) behind in
    let clong = c.long in
    let flong : length found ≡ last + 1 + 1 = reached_long claims (last + 1) a ∙ clong in
    let there : claim found (last + 1) ≡ Some a = reached_there claims (last + 1) a None (omega (arith, clong)) c.after in
    let kept : (p : ℕ) → p < last + 1 → claim found p ≡ claim claims p = λ p less. reached_elsewhere claims (last + 1) p a (λ e. omega (arith, e, less)) in
    let claimed : Claimed g ws turns last found h r =
    record {
      long = flong;
      first = kept 0 (omega arith) ∙ c.first;
      head = kept 1 (omega (arith, long)) ∙ c.head;
      along = along_same g claims found ws 1 last h long (λ p less. kept p (omega (arith, less))) c.along;
      ends = kept last (omega arith) ∙ c.ends;
      after = there;
    } in
    let same : length words ≡ length found = omega (arith, all, flong) in
    let test : (length words == length found) ≡ true = grind (arith, nat_tests, same) in
    record {
      found = found;
      walked =
          one_on g b words 2 (at_place last 1 (loops_of turns again) claims) (left_with last turns again claims r) Next (has_first words last Next (End 0 ∷ []) behind) (leaves g b ws last turns again claims h r c left)
          ∙ (one_on g b words 1 (left_with last turns again claims r) (at_place (last + 1 + 1) 0 (loops_of turns again) found) (End 0) (has_first words (last + 1) (End 0) [] end) (at_end g b (last + 1) (loops_of turns again) found a (omega (arith, flong)) there t.ready)
          ∙ ap (λ (o : Option Word). at_end_or o found (λ word. and_then (stepped g b word (at_place (last + 1 + 1) 0 (loops_of turns again) found)) (searched g b words 0))) (no_word words (last + 1 + 1) (omega (arith, all))));
      certified = and_from _ _ test (and_from _ _ (reaches_first g b found claimed.first) (loop_is_certified g b words found ws turns last h r long inside (closes turns ws last long inside) claimed t));
    }
  where
    reaches_first : (g : Parts) (b : Bounds) (cs : List (Option State)) → claim cs 0 ≡ Some first_state → if_there (claim cs 0) (is_state_within first_state) ≡ true
    reaches_first g b cs e = ap (λ (o : Option State). if_there o (is_state_within first_state)) e ∙ within_itself first_state refl

-- ---- the whole search

walked_of : (g : Parts) (b : Bounds) (words : List Word) (loops : Loops) (k : ℕ) (base : List (Option State)) (last : ℕ) (h : State) (ws : List Word) (r : State) → 1 < last → 1 + length ws ≡ last → length base ≡ last + 1 + 1 → claim base 0 ≡ Some first_state → claim base (last + 1) ≡ None
    → (d : Walks g b words 1 loops k base 1 last h ws r) → Walked g ws last d.after h r
walked_of g b words loops k base last h [] r some long size first after d = absurd (omega (arith, some, long))
walked_of g b words loops k base last h (w ∷ ws) r some long size first after d =
    record {
      long = d.long ∙ size;
      first = d.before 0 (omega arith) ∙ first;
      head = along_first g d.after 1 h w ws d.along;
      along = d.along;
      ends = d.ends;
      after = d.behind (last + 1) (omega arith) ∙ after;
    }

-- into the loop, from what is claimed at first
abbrev base_of : (turns : ℕ) (ws : List Word) → List (Option State)
base_of turns ws = Some first_state ∷ replicate (length (ws ++ (Next ∷ (End 0 ∷ [])))) None

enters : (g : Parts) (b : Bounds) (turns : ℕ) (ws : List Word) → stepped g b (Loop turns) (search_first (length (looped turns ws))) ≡ Some (at_place 1 1 (loops_of turns 0) (reached (base_of turns ws) 1 (state_at_head first_state)))
enters g b turns ws =
    let s = search_first (length (looped turns ws)) in
    let size : length s.claims ≡ length (looped turns ws) = reached_long (replicate (length (looped turns ws)) None) 0 first_state ∙ length-replicate (length (looped turns ws)) None in
    let some : 0 < length (looped turns ws) = omega arith in
    let test : nat_lt 0 (length s.claims) ≡ true = grind (arith, nat_tests, size, some) in
    ap (λ (t : Bool). cond t (Some (at_place 1 1 (loops_of turns 0) (reached (base_of turns ws) 1 (state_at_head first_state)))) None) test

base_none : (turns : ℕ) (ws : List Word) (p : ℕ) → 1 ≤ p → claim (base_of turns ws) p ≡ None
base_none turns ws zero h = absurd (omega (arith, h))
base_none turns ws (suc p) h = nothing_known (length (ws ++ (Next ∷ (End 0 ∷ [])))) p

base_long : (turns : ℕ) (ws : List Word) (last : ℕ) → 1 + length ws ≡ last → length (base_of turns ws) ≡ last + 1 + 1
base_long turns ws last long =
    let rest : length (replicate {A = Option State} (length (ws ++ (Next ∷ (End 0 ∷ [])))) None) ≡ length (ws ++ (Next ∷ (End 0 ∷ []))) = length-replicate _ None in
    let more = behind_words ws (Next ∷ (End 0 ∷ [])) in
    omega (arith, rest, more, long)

-- a certificate is found, where the loop is left after its first walk, or after its second one
pub record Found (g : Parts) (b : Bounds) (ws : List Word) (turns : ℕ) (r : State) : Type 0 where
  pub first : ended g b (state_at_head first_state) None ws ≡ Some r
  -- left at once
  pub at_once : (nat_le turns 1 || is_state_within (state_at_heads first_state r turns) (state_at_head first_state)) ≡ true → Turns g b ws turns (state_at_head first_state) r
  -- walked again
  pub again : nat_le turns 1 ≡ false → (q : State) × Turns g b ws turns (joined (state_at_head first_state) (state_at_heads first_state r turns)) q

not_one : (a b : Bool) → (a || b) ≡ false → a ≡ false
not_one true b h = absurd cc
not_one false b h = refl

pub loop_found : (g : Parts) (b : Bounds) (ws : List Word) (turns last : ℕ) (r : State) → 1 < last → 1 + length ws ≡ last → AreInside last ws → Found g b ws turns r → is_found g b (looped turns ws) ≡ true
loop_found g b ws turns last r some long inside f = by (is_left turns 0 r h0) refl
  where
    h0 : State
    h0 = state_at_head first_state

    words : List Word
    words = looped turns ws

    base : List (Option State)
    base = base_of turns ws

    has : Has words 1 (ws ++ (Next ∷ (End 0 ∷ [])))
    has = has_rest words 0 (Loop turns) (ws ++ (Next ∷ (End 0 ∷ []))) (has_all words)

    opens : Opens base 1 last None
    opens = record {
      inside = (let size = base_long turns ws last long in omega (arith, size));
      between = λ p from before. base_none turns ws p from;
      failed = base_none turns ws last (omega (arith, some));
    }

    one : (k : ℕ) → Walks g b words 1 (loops_of turns 0) k base 1 last h0 ws r
    one k = body_walked g b words 1 (loops_of turns 0) k ws (Next ∷ (End 0 ∷ [])) 1 last base h0 None r long has opens inside f.first

    one_walked : (k : ℕ) → Walked g ws last (one k).after h0 r
    one_walked k = walked_of g b words (loops_of turns 0) k base last h0 ws r some long (base_long turns ws last long) refl (base_none turns ws (last + 1) (omega arith)) (one k)

    into : (k : ℕ) → searched g b words (suc (steps_over ws k)) (search_first (length words)) ≡ searched g b words k (at_place last 1 (loops_of turns 0) (one k).after)
    into k = one_on g b words (steps_over ws k) (search_first (length words)) (at_place 1 1 (loops_of turns 0) (reached base 1 h0)) (Loop turns) refl (enters g b turns ws) ∙ (one k).walked

    enough : (steps : ℕ) → steps ≤ 2 * length ws + 16 → steps ≤ 256 * length words
    enough steps few = let all = text_long turns ws last long in omega (arith, few, all, long)

    comes : (steps : ℕ) (found : List (Option State)) → steps ≤ 2 * length ws + 16 → searched g b words steps (search_first (length words)) ≡ Some found → is_certified (machine g b) words found ≡ true → is_found g b words ≡ true
    comes steps found few walked certified =
        ap (λ (o : Option (List (Option State))). if_there o (is_certified (machine g b) words)) (searched_more g b words steps (256 * length words) (search_first (length words)) found (enough steps few) walked) ∙ certified

    by : (left : Bool) → is_left turns 0 r h0 ≡ left → is_found g b words ≡ true
    by true e =
        let d = finishes g b ws turns 0 last (one 3).after h0 r long inside (one_walked 3) e (f.at_once e) in
        let n = over_words ws 3 in
        comes (suc (steps_over ws 3)) d.found (omega (arith, n)) (into 3 ∙ d.walked) d.certified
    by false e =
        let t = f.again (not_one (nat_le turns 1) _ e) in
        let k = suc (steps_over ws 3) in
        let c1 = (one k).after in
        let w1 = one_walked k in
        let h1 = joined h0 (heads turns r) in
        let base2 = forgotten 1 (last + 1 - 1) c1 in
        let clong = w1.long in
        let flong = forgotten_long c1 1 (last + 1 - 1) in
        let size : length base2 ≡ last + 1 + 1 = flong ∙ clong in
        let opens2 : Opens base2 1 last None =
        record {
          inside = omega (arith, size);
          between = λ p from before. forgotten_there c1 1 (last + 1 - 1) p from (omega (arith, before));
          failed = forgotten_there c1 1 (last + 1 - 1) last (omega (arith, some)) (omega arith);
        } in
        let two = body_walked g b words 1 (loops_of turns 1) 3 ws (Next ∷ (End 0 ∷ [])) 1 last base2 h1 None t.0 long has opens2 inside t.1.ended in
        let w2 = walked_of g b words (loops_of turns 1) 3 base2 last h1 ws t.0 some long size (kept_before c1 1 (last + 1 - 1) 0 (omega arith) ∙ w1.first) (kept_behind c1 1 (last + 1 - 1) (last + 1) (omega arith) ∙ w1.after) two in
        let d = finishes g b ws turns 1 last two.after h1 t.0 long inside w2 t.1.again t.1 in
        let next = has_first words last Next (End 0 ∷ []) (has_behind words ws (Next ∷ (End 0 ∷ [])) 1 last long has) in
        let n = over_words ws 3 in
        let m = over_words ws k in
        comes (suc (steps_over ws k)) d.found (omega (arith, n, m))
        (into k ∙ (one_on g b words (steps_over ws 3) (at_place last 1 (loops_of turns 0) c1) (again_with last turns c1 h0 r) Next next (goes_again g b ws last turns c1 h0 r w1 e) ∙ (two.walked ∙ d.walked))) d.certified
