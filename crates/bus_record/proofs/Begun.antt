-- A target that begins anew, or forgets its open sequence.
use Rattle.std.proofs.Common.{◌≡◌, ℕ, zero, suc, ◌<◌, ◌≤◌, ◌==◌, ◌&&◌, Bool, true, false, if◌then◌else◌, List, [], ◌∷◌, Option, Some, None, is_none, length, map, take, get_or, slice_set, refl, sym, ap, ◌∙◌, arith, subst}
use Rattle.std.specs.List.{slice_get}
use Rattle.std.proofs.lemmas.Bool.Decides.{nat_tests}
use Rattle.std.proofs.lemmas.List.{length-set}
use Rattle.std.proofs.lemmas.List.Elements.{All-set}
use Rattle.nand_geometry.specs.declared.parts.Parts.{Parts}
use Rattle.onfi_cycle.specs.declared.item.Item.{Item}
use Rattle.onfi_cycle.specs.declared.forbidden.Forbidden.{Forbidden}
use Rattle.onfi_cycle.specs.Bounds.{BusFits}
use Rattle.onfi_cycle.specs.Permitted.{broken, is_legal, is_permitted}
use Rattle.onfi_cycle.specs.Sequence.{target_of as target_of_item}
use Rattle.onfi_cycle.specs.State.{TargetView, BusView, Follows, bus, bus_after, changed_at, judged, judged_on, target_after, target_view, targets_from, without_sequence}
use Rattle.onfi_cycle.proofs.Dropped.{dropped_fits}
use Rattle.onfi_cycle.proofs.Following.{beginning, bus_goes_on, count_of, found_target, judged_is_broken, set_changes}
use Rattle.onfi_cycle.proofs.Runs.{changed_length}
use Rattle.target_record.specs.Geometry.{parts_of}
use Rattle.target_record.specs.Record.{IsTarget, target_of}
use Rattle.target_record.specs.declared.record.OnfiseqTarget.{OnfiseqTarget}
use Rattle.bus_record.specs.Anew.{KeepsOthers, begun, bus_begun, elsewhere}
use Rattle.bus_record.specs.Bus.{IsSound, bus_view}
use Rattle.bus_record.specs.Kept.{Kept}
use Rattle.bus_record.proofs.Pushed.{places_of, get_seen, set_seen, views_count, sound_after}

-- 1. one target of a list

set_elsewhere : {X : Type 0} (xs : List X) (k m : ℕ) (x : X) → (m ≡ k → ⊥) → slice_get (slice_set xs k x) m ≡ slice_get xs m
set_elsewhere [] k m x ne = refl
set_elsewhere (y ∷ xs) zero zero x ne = absurd (ne refl)
set_elsewhere (y ∷ xs) zero (suc m) x ne = refl
set_elsewhere (y ∷ xs) (suc k) zero x ne = refl
set_elsewhere (y ∷ xs) (suc k) (suc m) x ne = set_elsewhere xs k m x (λ e. ne (ap suc e))

over_itself : (c f : TargetView → TargetView) → ((s t : TargetView) → c s ≡ c t) → (ts : List TargetView) (k : ℕ) → changed_at c k (changed_at f k ts) ≡ changed_at c k ts
over_itself c f same [] k = refl
over_itself c f same (s ∷ ts) zero = ap (λ (v : TargetView). v ∷ ts) (same (f s) s)
over_itself c f same (s ∷ ts) (suc k) = ap (λ (us : List TargetView). s ∷ us) (over_itself c f same ts k)

apart : (c f : TargetView → TargetView) (ts : List TargetView) (k m : ℕ) → (k ≡ m → ⊥) → changed_at f m (changed_at c k ts) ≡ changed_at c k (changed_at f m ts)
apart c f [] k m ne = refl
apart c f (s ∷ ts) zero zero ne = absurd (ne refl)
apart c f (s ∷ ts) zero (suc m) ne = refl
apart c f (s ∷ ts) (suc k) zero ne = refl
apart c f (s ∷ ts) (suc k) (suc m) ne = ap (λ (us : List TargetView). s ∷ us) (apart c f ts k m (λ e. ne (ap suc e)))

seen_elsewhere : (c : TargetView → TargetView) (ts : List TargetView) (k m : ℕ) → (k ≡ m → ⊥) → slice_get (changed_at c k ts) m ≡ slice_get ts m
seen_elsewhere c [] k m ne = refl
seen_elsewhere c (s ∷ ts) zero zero ne = absurd (ne refl)
seen_elsewhere c (s ∷ ts) zero (suc m) ne = refl
seen_elsewhere c (s ∷ ts) (suc k) zero ne = refl
seen_elsewhere c (s ∷ ts) (suc k) (suc m) ne = seen_elsewhere c ts k m (λ e. ne (ap suc e))

is_there_already : (c : TargetView → TargetView) (ts : List TargetView) (k : ℕ) (v : TargetView) → slice_get ts k ≡ Some v → c v ≡ v → changed_at c k ts ≡ ts
is_there_already c [] k v found same = refl
is_there_already c (s ∷ ts) zero v found same = let here : s ≡ v = cc in ap (λ (u : TargetView). u ∷ ts) (subst (λ (u : TargetView). c u ≡ u) (sym here) same)
is_there_already c (s ∷ ts) (suc k) v found same = ap (λ (us : List TargetView). s ∷ us) (is_there_already c ts k v found same)

-- 2. what has happened elsewhere leaves the target as at the start, and the others as they are

abbrev state : Parts → ℕ → List Item → BusView
state g n past = bus g (targets_from g past n 0)

abbrev anew : Parts → ℕ → ℕ → List Item → BusView
anew g n ce past = bus g (changed_at (begun g ce) ce (targets_from g past n 0))

permitted_of : (o : Option Forbidden) → is_none o ≡ true → o ≡ None
permitted_of None h = refl
permitted_of (Some rule) h = cc

parted : (a b : Bool) → (a && b) ≡ true → (a ≡ true) × (b ≡ true)
parted true b h = (refl, h)
parted false b h = cc

legal_goes : (g : Parts) (n : ℕ) (i : Item) (past : List Item) → is_legal g n (i ∷ past) ≡ true → (broken g n past i ≡ None) × (is_legal g n past ≡ true)
legal_goes g n i past h = let both = parted (is_permitted g n past i) (is_legal g n past) h in (permitted_of (broken g n past i) both.0, both.1)

follows_there : (g : Parts) (n : ℕ) (past : List Item) → is_legal g n past ≡ true → Follows g n (state g n past) past
follows_there g n past legal = record { legal = legal; geometry = refl; facts = refl }

judged_there : (g : Parts) (n : ℕ) (i : Item) (past : List Item) → is_legal g n (i ∷ past) ≡ true → judged (state g n past) i ≡ None
judged_there g n i past h = let goes = legal_goes g n i past h in judged_is_broken g n (state g n past) past i (follows_there g n past goes.1) ∙ goes.0

after_there : (g : Parts) (n : ℕ) (i : Item) (past : List Item) → is_legal g n (i ∷ past) ≡ true → changed_at (target_after g i) (target_of_item i) (targets_from g past n 0) ≡ targets_from g (i ∷ past) n 0
after_there g n i past h =
    let goes = legal_goes g n i past h in
    (bus_goes_on g n (state g n past) past i (judged_there g n i past h) (follows_there g n past goes.1)).facts

-- an item of the target leaves it as at the start
here : (g : Parts) (n ce : ℕ) (i : Item) (past : List Item) → is_legal g n (i ∷ past) ≡ true → target_of_item i ≡ ce → anew g n ce (i ∷ past) ≡ anew g n ce past
here g n ce i past h on =
    ap (λ (ts : List TargetView). bus g (changed_at (begun g ce) ce ts)) (sym (after_there g n i past h))
    ∙ (ap (λ (k : ℕ). bus g (changed_at (begun g ce) ce (changed_at (target_after g i) k (targets_from g past n 0)))) on
    ∙ ap (bus g) (over_itself (begun g ce) (target_after g i) (λ s t. refl) (targets_from g past n 0) ce))

-- one of another target is judged as it was, and does what it did
judged_anew : (g : Parts) (n ce : ℕ) (i : Item) (past : List Item) → (ce ≡ target_of_item i → ⊥) → judged (anew g n ce past) i ≡ judged (state g n past) i
judged_anew g n ce i past ne =
    ap (λ (k : ℕ). judged_on g k (slice_get (changed_at (begun g ce) ce (targets_from g past n 0)) (target_of_item i)) i) (changed_length (begun g ce) (targets_from g past n 0) ce)
    ∙ ap (λ (o : Option TargetView). judged_on g (length (targets_from g past n 0)) o i) (seen_elsewhere (begun g ce) (targets_from g past n 0) ce (target_of_item i) ne)

there : (g : Parts) (n ce : ℕ) (i : Item) (past : List Item) → is_legal g n (i ∷ past) ≡ true → (ce ≡ target_of_item i → ⊥) → bus_after i (anew g n ce past) ≡ anew g n ce (i ∷ past)
there g n ce i past h ne =
    ap (bus g) (apart (begun g ce) (target_after g i) (targets_from g past n 0) ce (target_of_item i) ne)
    ∙ ap (λ (ts : List TargetView). bus g (changed_at (begun g ce) ce ts)) (after_there g n i past h)

anew_follows : (g : Parts) (n ce : ℕ) → ce < n → (past : List Item) → is_legal g n past ≡ true → Follows g n (anew g n ce past) (elsewhere ce past)
anew_follows g n ce low [] legal =
    subst (λ (s : BusView). Follows g n s []) (ap (bus g) (sym (is_there_already (begun g ce) (targets_from g [] n 0) ce (target_view g [] ce) (found_target g n (state g n []) [] ce (follows_there g n [] legal) low) refl)))
    (follows_there g n [] legal)
anew_follows g n ce low (i ∷ past) legal = at (anew_follows g n ce low past (legal_goes g n i past legal).1) (target_of_item i == ce) refl
  where
    at : Follows g n (anew g n ce past) (elsewhere ce past) → (b : Bool) → (target_of_item i == ce) ≡ b → Follows g n (anew g n ce (i ∷ past)) (if b then elsewhere ce past else i ∷ elsewhere ce past)
    at rest true e =
        let on : target_of_item i ≡ ce = grind (arith, nat_tests) in
        subst (λ (s : BusView). Follows g n s (elsewhere ce past)) (sym (here g n ce i past legal on)) rest
    at rest false e =
        let ne : ce ≡ target_of_item i → ⊥ = λ same. grind (arith, nat_tests) in
        subst (λ (s : BusView). Follows g n s (i ∷ elsewhere ce past)) (there g n ce i past legal ne)
        (bus_goes_on g n (anew g n ce past) (elsewhere ce past) i (judged_anew g n ce i past ne ∙ judged_there g n i past legal) rest)

-- a state that follows a past is that of the past
pub begun_follows : (g : Parts) (n ce : ℕ) (s : BusView) (past : List Item) → ce < n → Follows g n s past → Follows g n (bus_begun ce s) (elsewhere ce past)
begun_follows g n ce s past low f =
    subst (λ (b : BusView). Follows g n b (elsewhere ce past))
    (sym (ap (λ (h : Parts). bus h (changed_at (begun h ce) ce s.targets)) f.geometry ∙ ap (λ (ts : List TargetView). bus g (changed_at (begun g ce) ce ts)) f.facts))
    (anew_follows g n ce low past f.legal)

-- 3. the records

beyond : (c : TargetView → TargetView) (ts : List TargetView) (k : ℕ) → length ts ≤ k → changed_at c k ts ≡ ts
beyond c [] k h = refl
beyond c (s ∷ ts) zero h = absurd (omega arith)
beyond c (s ∷ ts) (suc k) h = ap (λ (us : List TargetView). s ∷ us) (beyond c ts k (omega (arith, h)))

pub stays_beyond : (change : TargetView → TargetView) (k : Kept) (ce : ℕ) → IsSound k → k.count ≤ ce → bus_view k ≡ bus (parts_of k.geometry) (changed_at change ce (bus_view k).targets)
stays_beyond change k ce s h =
    let count = views_count k (places_of k s) in
    ap (bus (parts_of k.geometry)) (sym (beyond change (map target_of (take k.count k.targets)) ce (omega (arith, count, h))))

pub never_beyond : (g : Parts) (n ce : ℕ) (k : Kept) (past : List Item) → IsSound k → k.count ≤ ce → ce < n → Follows g n (bus_view k) past → ⊥
never_beyond g n ce k past s h low f =
    let count = views_count k (places_of k s) in let same = count_of g n (bus_view k) past f in
    omega (arith, count, same, h, low)

pub changed_there : (change : TargetView → TargetView) (k : Kept) (ce place : ℕ) (d t : OnfiseqTarget) → place ≡ ce → place < k.count → target_of t ≡ change (target_of (get_or k.targets place d))
    → bus (parts_of k.geometry) (map target_of (take k.count (slice_set k.targets place t))) ≡ bus (parts_of k.geometry) (changed_at change ce (bus_view k).targets)
changed_there change k ce place d t is low after =
    ap (bus (parts_of k.geometry)) (set_seen target_of k.count k.targets place t low)
    ∙ (ap (λ (v : TargetView). bus (parts_of k.geometry) (slice_set (map target_of (take k.count k.targets)) place v))
    (after ∙ ap change (sym (get_seen target_of k.count k.targets place d low)))
    ∙ (ap (bus (parts_of k.geometry)) (set_changes change (map target_of (take k.count k.targets)) place (target_of d))
    ∙ ap (λ (m : ℕ). bus (parts_of k.geometry) (changed_at change m (map target_of (take k.count k.targets)))) is))

pub keeps_others : (k : Kept) (ce place : ℕ) (t : OnfiseqTarget) → place ≡ ce → KeepsOthers ce k (record { magic = k.magic; geometry = k.geometry; count = k.count; targets = slice_set k.targets place t })
keeps_others k ce place t is =
    record {
      magic = refl;
      geometry = refl;
      count = refl;
      others = λ m ne. set_elsewhere k.targets place m t (λ e. ne (e ∙ is));
    }

pub keeps_all : (ce : ℕ) (k : Kept) → KeepsOthers ce k k
keeps_all ce k = record { magic = refl; geometry = refl; count = refl; others = λ m ne. refl }

-- what stands there fits again
pub sound_anew : (k : Kept) (ce place : ℕ) (t : OnfiseqTarget) → IsSound k → place ≡ ce → place < k.count → IsTarget t → ((c : ℕ) → target_of t ≡ target_view (parts_of k.geometry) [] c)
    → IsSound (record { magic = k.magic; geometry = k.geometry; count = k.count; targets = slice_set k.targets place t })
sound_anew k ce place t s is low numbers fresh =
    let some : 1 ≤ k.count = omega (arith, low) in
    let first : BusFits (bus (parts_of k.geometry) (target_of t ∷ [])) = beginning (parts_of k.geometry) (target_of t ∷ []) 1 (s.fits some).limits (omega arith) (ap (λ (v : TargetView). v ∷ []) (fresh 0)) in
    sound_after k s place low t numbers (first.targets 0 (target_of t) (omega arith))

pub sound_dropped : (k : Kept) (ce place : ℕ) (d t : OnfiseqTarget) → IsSound k → place ≡ ce → place < k.count → IsTarget t → target_of t ≡ without_sequence (target_of (get_or k.targets place d))
    → IsSound (record { magic = k.magic; geometry = k.geometry; count = k.count; targets = slice_set k.targets place t })
sound_dropped k ce place d t s is low numbers after =
    record {
      few = s.few;
      room = length-set _ _ _ ∙ s.room;
      records = All-set IsTarget k.targets place t numbers s.records;
      fits = λ some. subst (λ (b : BusView). BusFits b) (sym (changed_there without_sequence k ce place d t is low after))
          (dropped_fits (parts_of k.geometry) (bus_view k).targets ce (s.fits some));
    }
