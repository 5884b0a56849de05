-- A running state follows its past.
use Rattle.std.proofs.Common.{◌≡◌, ◌≢◌, ℕ, zero, suc, ◌+◌, ◌<◌, ◌≤◌, ◌==◌, Bool, true, false, ◌&&◌, cond, not, List, [], ◌∷◌, Option, Some, None, refl, sym, ap, ◌∙◌, arith, length, set, get_or, ◌^◌, IfSome, leb, ◌++◌}
use Rattle.std.proofs.lemmas.Bool.Decides.{nat_tests}
use Rattle.std.specs.List.{slice_get, All, refill}
use Rattle.std.proofs.lemmas.Grind.{common_steps}
use Rattle.nand_geometry.specs.declared.parts.Parts.{Parts}
use Rattle.nand_geometry.specs.Limits.{InLimits}
use Rattle.onfi_cycle.specs.declared.effect.Effect.{Effect}
use Rattle.onfi_cycle.specs.declared.effect.Effect.TheVariants.{Unaffected}
use Rattle.onfi_cycle.specs.declared.forbidden.Forbidden.TheVariants.{NotThere}
use Rattle.onfi_cycle.specs.declared.item.Item.{Item}
use Rattle.onfi_cycle.specs.declared.item.Item.TheVariants.{Cyc, Rdy, Ard}
use Rattle.onfi_cycle.specs.declared.latch.Latch.{Latch}
use Rattle.onfi_cycle.specs.declared.latch.Latch.TheVariants.{Off, Status, Data}
use Rattle.onfi_cycle.specs.declared.lun.Lun.{Lun}
use Rattle.onfi_cycle.specs.declared.tail_facts.TailFacts.{TailFacts}
use Rattle.onfi_cycle.specs.LunView.{LunView}
use Rattle.onfi_cycle.specs.declared.opening.Opening.{Opening}
use Rattle.onfi_cycle.specs.Rules.{breaks_not_there}
use Rattle.std.proofs.lemmas.Option.{slice_get_past, slice_get-get_or}
use Rattle.std.proofs.lemmas.List.Elements.{All-set}
use Rattle.std.proofs.Common.{subst, ltb}
use Rattle.std.proofs.lemmas.List.{length-set}
use Rattle.onfi_cycle.specs.Sequence.{AreSmall, target_of, tail, facts_of}
use Rattle.onfi_cycle.specs.Effect.{is_off, effect_given}
use Rattle.onfi_cycle.specs.Lun.{latch, latch_alone, effect_on, effect_among, drivers, is_only, lun_view, luns_of, views_from, first_view, view_after}
use Rattle.onfi_cycle.specs.Rules.{driver, is_some_and}
use Rattle.onfi_cycle.specs.Permitted.{judge, broken}
use Rattle.onfi_cycle.specs.State.{TargetView, BusView, Follows, target_view, targets_from, judged, judged_on, tail_after, effect_alone, luns_after, has_driver, target_after, changed_at, bus_after, target, bus}
use Rattle.onfi_cycle.specs.Bounds.{TailFits, LunFits, LunsFit, TargetFits, BusFits}
use Rattle.onfi_cycle.proofs.Others.{rests_elsewhere, targets_keep}
use Rattle.onfi_cycle.proofs.Drivers.{driver_of_target}
use Rattle.onfi_cycle.proofs.Latches.{one_by_views, sole_off}
use Rattle.onfi_cycle.proofs.Steps.{facts_of_cycle}
use Rattle.onfi_cycle.proofs.Keeping.{view_goes_on, views_length, view_with, view_at, legal_more}
use Rattle.onfi_cycle.specs.Look.{look_at, look_at_some, look_on, looked, look_after}
use Rattle.onfi_cycle.proofs.TailBounds.{tail_fits, no_tail_fits}
use Rattle.onfi_cycle.proofs.LunBounds.{lun_fits}
use Rattle.onfi_cycle.proofs.EffectBounds.{effect_fits}
use Rattle.onfi_cycle.proofs.RowBounds.{row_fits}
use Rattle.onfi_cycle.proofs.RowStands.{row_stands}

-- 1. what a LUN shows alone, by the views

is_off_off : (l : Latch) → is_off l ≡ true → l ≡ Off
is_off_off Off h = refl
is_off_off Status h = cc
is_off_off Data h = cc

pub alone_by_views : (g : Parts) (past : List Item) (l : Lun) → l.lun < g.luns → latch_alone g past l ≡ cond (has_driver (luns_of g past l.ce)) (latch g past l) Off
alone_by_views g past l low = at (driver (luns_of g past l.ce)) refl (is_only (drivers g past l.ce) l.lun) refl
  where
    other : (v : LunView) → driver (luns_of g past l.ce) ≡ Some v → is_only (drivers g past l.ce) l.lun ≡ false → Off ≡ latch g past l
    other v e not_it =
        let one = one_by_views g past l.ce g.luns 0 v e in
        let differs : not (one.m == l.lun) ≡ true = ap not (ap (λ (ds : List ℕ). is_only ds l.lun) (sym one.is) ∙ not_it) in
        sym (is_off_off (latch g past l) (sole_off (λ m. latch g past (record { ce = l.ce; lun = m })) g.luns 0 one.m l.lun one.is (omega arith) (omega arith) ∙ differs))

    at : (d : Option LunView) → driver (luns_of g past l.ce) ≡ d → (b : Bool) → is_only (drivers g past l.ce) l.lun ≡ b → cond b (latch g past l) Off ≡ cond (is_some_and (λ v. true) d) (latch g past l) Off
    at None e true only = let found = driver_of_target g past l.ce l.lun only in cc
    at None e false only = refl
    at (Some v) e true only = refl
    at (Some v) e false only = other v e only

-- 2. a target goes on by the items that happen on it

pub effect_by_state : (g : Parts) (past : List Item) (i : Item) (n : ℕ) → n < g.luns → effect_on g past i (record { ce = target_of i; lun = n }) ≡ effect_alone g (facts_of (tail past (target_of i))) (has_driver (luns_of g past (target_of i))) i n (lun_view g past (record { ce = target_of i; lun = n }))
unfolding effect_among
effect_by_state g past i n low =
    ap (λ (s : Latch). effect_given g past s i (record { ce = target_of i; lun = n })) (alone_by_views g past (record { ce = target_of i; lun = n }) low)

luns_go_on : (g : Parts) (targets : ℕ) (past : List Item) (i : Item) → broken g targets past i ≡ None → (count n : ℕ) → n + count ≤ g.luns → luns_after g (facts_of (tail past (target_of i))) (has_driver (luns_of g past (target_of i))) i n (views_from g past (target_of i) count n) ≡ views_from g (i ∷ past) (target_of i) count n
luns_go_on g targets past i h zero n low = refl
luns_go_on g targets past i h (suc count) n low =
    let here : n < g.luns = omega arith in
    let l : Lun = record { ce = target_of i; lun = n } in
    let more : n + 1 + count ≤ g.luns = omega arith in
    let first : lun_view g (i ∷ past) l ≡ view_after (effect_alone g (facts_of (tail past (target_of i))) (has_driver (luns_of g past (target_of i))) i n (lun_view g past l)) (lun_view g past l) =
    view_goes_on g targets past i l h here ∙ ap (λ (e : Effect). view_after e (lun_view g past l)) (effect_by_state g past i n here) in
    let rest = luns_go_on g targets past i h count (n + 1) more in
    ap (λ (v : LunView). v ∷ luns_after g (facts_of (tail past (target_of i))) (has_driver (luns_of g past (target_of i))) i (n + 1) (views_from g past (target_of i) count (n + 1))) (sym first) ∙
    ap (λ (vs : List LunView). lun_view g (i ∷ past) l ∷ vs) rest

tail_goes_on : (past : List Item) (i : Item) → facts_of (tail (i ∷ past) (target_of i)) ≡ tail_after i (facts_of (tail past (target_of i)))
tail_goes_on past (Cyc c) = facts_of_cycle c past c.ce refl
tail_goes_on past (Rdy ce lun fail) = refl
tail_goes_on past (Ard ce lun fail) = refl

pub target_goes_on : (g : Parts) (targets : ℕ) (past : List Item) (i : Item) → broken g targets past i ≡ None → target_after g i (target_view g past (target_of i)) ≡ target_view g (i ∷ past) (target_of i)
target_goes_on g targets past i h =
    ap (λ (t : TailFacts). record { tail = t; luns = luns_after g (facts_of (tail past (target_of i))) (has_driver (luns_of g past (target_of i))) i 0 (luns_of g past (target_of i)) }) (sym (tail_goes_on past i)) ∙
    ap (λ (vs : List LunView). record { tail = facts_of (tail (i ∷ past) (target_of i)); luns = vs }) (luns_go_on g targets past i h g.luns 0 (omega arith))

-- 3. the others stay

lun_elsewhere : (g : Parts) (past : List Item) (i : Item) (l : Lun) → target_of i ≢ l.ce → lun_view g (i ∷ past) l ≡ lun_view g past l
unfolding effect_among
lun_elsewhere g past i l ne = view_with g past i l Unaffected (rests_elsewhere g past (latch_alone g past l) i l ne) (rests_elsewhere g past (latch g past l) i l ne)

luns_elsewhere : (g : Parts) (past : List Item) (i : Item) (ce count n : ℕ) → target_of i ≢ ce → views_from g (i ∷ past) ce count n ≡ views_from g past ce count n
luns_elsewhere g past i ce zero n ne = refl
luns_elsewhere g past i ce (suc count) n ne = rw (lun_elsewhere g past i (record { ce = ce; lun = n }) ne) (ap (λ (vs : List LunView). lun_view g past (record { ce = ce; lun = n }) ∷ vs) (luns_elsewhere g past i ce count (n + 1) ne))

target_elsewhere : (g : Parts) (past : List Item) (i : Item) (ce : ℕ) → target_of i ≢ ce → target_view g (i ∷ past) ce ≡ target_view g past ce
target_elsewhere g past i ce ne =
    ap (λ (t : TailFacts). record { tail = t; luns = luns_of g (i ∷ past) ce }) (ap facts_of (targets_keep g past i ce ne).tail) ∙
    ap (λ (vs : List LunView). record { tail = facts_of (tail past ce); luns = vs }) (luns_elsewhere g past i ce g.luns 0 ne)

targets_elsewhere : (g : Parts) (past : List Item) (i : Item) (count n : ℕ) → target_of i < n → targets_from g (i ∷ past) count n ≡ targets_from g past count n
targets_elsewhere g past i zero n below = refl
targets_elsewhere g past i (suc count) n below =
    let ne : target_of i ≢ n = omega arith in
    let more : target_of i < n + 1 = omega arith in
    rw (target_elsewhere g past i n ne) (ap (λ (vs : List TargetView). target_view g past n ∷ vs) (targets_elsewhere g past i count (n + 1) more))

pub targets_go_on : (g : Parts) (past : List Item) (i : Item) (count n k : ℕ) → target_of i ≡ n + k → set (targets_from g past count n) k (target_view g (i ∷ past) (target_of i)) ≡ targets_from g (i ∷ past) count n
targets_go_on g past i zero n k h = refl
targets_go_on g past i (suc count) n zero h =
    let here : target_of i ≡ n = omega arith in
    let below : target_of i < n + 1 = omega arith in
    ap (λ (ce : ℕ). target_view g (i ∷ past) ce ∷ targets_from g past count (n + 1)) here ∙ ap (λ (vs : List TargetView). target_view g (i ∷ past) n ∷ vs) (sym (targets_elsewhere g past i count (n + 1) below))
targets_go_on g past i (suc count) n (suc k) h =
    let ne : target_of i ≢ n = omega arith in
    let later : target_of i ≡ n + 1 + k = omega arith in
    ap (λ (v : TargetView). v ∷ set (targets_from g past count (n + 1)) k (target_view g (i ∷ past) (target_of i))) (sym (target_elsewhere g past i n ne)) ∙ ap (λ (vs : List TargetView). target_view g (i ∷ past) n ∷ vs) (targets_go_on g past i count (n + 1) k later)

-- 4. what fits goes on to fit

luns_fit : (g : Parts) → InLimits g → (targets : ℕ) (t : TailFacts) (luns : List LunView) (i : Item) → judge g targets t luns i ≡ None → length luns ≡ g.luns → TailFits g t → (n : ℕ) (vs : List LunView) → ((k : ℕ) → slice_get luns (n + k) ≡ slice_get vs k) → LunsFit g t n vs → LunsFit g (tail_after i t) n (luns_after g t (has_driver luns) i n vs)
luns_fit g limits targets t luns i h count tf n [] at f = tt
luns_fit g limits targets t luns i h count tf n (v ∷ vs) at f =
    let zeroth : n ≡ n + 0 = omega arith in
    let found : slice_get luns n ≡ Some v = ap (slice_get luns) zeroth ∙ at 0 in
    let fits = effect_fits g limits targets t luns i n v h tf f.1 f.2 found in (
      lun_fits g limits (effect_alone g t (has_driver luns) i n v) v fits f.0,
      row_fits g targets t luns i n v h found tf f.1,
      row_stands g targets t luns i n v h count found tf f.2,
      luns_fit g limits targets t luns i h count tf (n + 1) vs (λ k. ap (slice_get luns) (later k) ∙ at (suc k)) f.3,
    )
  where
    later : (k : ℕ) → n + 1 + k ≡ n + suc k
    later k = omega arith

luns_after_length : (g : Parts) (t : TailFacts) (sole : Bool) (i : Item) (n : ℕ) (vs : List LunView) → length (luns_after g t sole i n vs) ≡ length vs
luns_after_length g t sole i n [] = refl
luns_after_length g t sole i n (v ∷ vs) = ap suc (luns_after_length g t sole i (n + 1) vs)

zero_more : (luns : List LunView) (k : ℕ) → slice_get luns (0 + k) ≡ slice_get luns k
zero_more luns k = let same : 0 + k ≡ k = omega arith in ap (slice_get luns) same

pub target_fits : (g : Parts) → InLimits g → (targets : ℕ) (i : Item) (s : TargetView) → judge g targets s.tail s.luns i ≡ None → (tail_after i s.tail).column < 2 ^ 16 → TargetFits g s → TargetFits g (target_after g i s)
target_fits g limits targets i s h small f =
    record {
      tail = tail_fits g targets s.luns i s.tail h small f.tail;
      luns = luns_fit g limits targets s.tail s.luns i h f.count f.tail 0 s.luns (zero_more s.luns) f.luns;
      count = luns_after_length g s.tail (has_driver s.luns) i 0 s.luns ∙ f.count;
    }

-- 5. the state of a channel

pub small_tail : (g : Parts) (t : TailFacts) → InLimits g → TailFits g t → AreSmall (2 ^ 63) t
small_tail g t limits f = record { column = f.column; inputs = omega (arith, f.inputs, limits.page_bytes_most, limits.spare_bytes_most); opening = five t.opening f.addresses }
  where
    five : (o : Option Opening) → IfSome o (λ o. o.addresses ≤ 5) → IfSome o (λ o. o.addresses ≤ 2 ^ 63)
    five None h = tt
    five (Some o) h = omega (arith, h)

pub targets_length : (g : Parts) (past : List Item) (count n : ℕ) → length (targets_from g past count n) ≡ count
targets_length g past zero n = refl
targets_length g past (suc count) n = ap suc (targets_length g past count (n + 1))

target_there : (g : Parts) (past : List Item) (count n k : ℕ) → k < count → slice_get (targets_from g past count n) k ≡ Some (target_view g past (n + k))
target_there g past zero n k h = absurd (omega arith)
target_there g past (suc count) n zero h = ap (λ (m : ℕ). Some (target_view g past m)) (omega arith)
target_there g past (suc count) n (suc k) h =
    let below : k < count = omega arith in
    let same : n + 1 + k ≡ n + suc k = omega arith in
    target_there g past count (n + 1) k below ∙ ap (λ (m : ℕ). Some (target_view g past m)) same

-- what a state that follows a past has at a target
pub found_target : (g : Parts) (n : ℕ) (s : BusView) (past : List Item) (ce : ℕ) → Follows g n s past → ce < n → slice_get s.targets ce ≡ Some (target_view g past ce)
found_target g n s past ce f h = ap (λ (ts : List TargetView). slice_get ts ce) f.facts ∙ (target_there g past n 0 ce h ∙ ap (λ (m : ℕ). Some (target_view g past m)) (omega arith))

pub count_of : (g : Parts) (n : ℕ) (s : BusView) (past : List Item) → Follows g n s past → length s.targets ≡ n
count_of g n s past f = ap length f.facts ∙ targets_length g past n 0

-- an item of a target that isn't there
beyond_not_there : (n : ℕ) (luns : List LunView) (i : Item) → leb n (target_of i) ≡ true → breaks_not_there n luns i ≡ true
unfolding breaks_not_there
beyond_not_there n luns (Cyc c) h = h
beyond_not_there n luns (Rdy ce lun fail) h = rw h refl
beyond_not_there n luns (Ard ce lun fail) h = rw h refl

-- the state judges as the definition does
pub judged_is_broken : (g : Parts) (n : ℕ) (s : BusView) (past : List Item) (i : Item) → Follows g n s past → judged s i ≡ broken g n past i
judged_is_broken g n s past i f = at (leb n (target_of i)) refl
  where
    parts : (o : Option TargetView) → slice_get s.targets (target_of i) ≡ o → judged s i ≡ judged_on g n o i
    parts o e = ap (λ (x : Parts). judged_on x (length s.targets) (slice_get s.targets (target_of i)) i) f.geometry ∙ (ap (λ (k : ℕ). judged_on g k (slice_get s.targets (target_of i)) i) (count_of g n s past f) ∙ ap (λ (x : Option TargetView). judged_on g n x i) e)

    at : (b : Bool) → leb n (target_of i) ≡ b → judged s i ≡ broken g n past i
    at true e =
        let beyond : length s.targets ≤ target_of i = grind (arith, nat_tests, count_of g n s past f) in
        let first : breaks_not_there n (luns_of g past (target_of i)) i ≡ true = beyond_not_there n (luns_of g past (target_of i)) i e in
        parts None (slice_get_past s.targets (target_of i) beyond) ∙ rw first refl
    at false e = let below : target_of i < n = grind (arith, nat_tests) in parts (Some (target_view g past (target_of i))) (found_target g n s past (target_of i) f below)

-- an item that the state permits has its target there
pub permitted_there : (s : BusView) (i : Item) → judged s i ≡ None → target_of i < length s.targets
permitted_there s i h = at (ltb (target_of i) (length s.targets)) refl
  where
    at : (b : Bool) → ltb (target_of i) (length s.targets) ≡ b → target_of i < length s.targets
    at true e = grind (arith, nat_tests)
    at false e =
        let beyond : length s.targets ≤ target_of i = grind (arith, nat_tests) in
        let clash : judged s i ≡ Some NotThere = ap (λ (x : Option TargetView). judged_on s.geometry (length s.targets) x i) (slice_get_past s.targets (target_of i) beyond) in
        cc

pub set_changes : (change : TargetView → TargetView) (targets : List TargetView) (k : ℕ) (d : TargetView) → set targets k (change (get_or targets k d)) ≡ changed_at change k targets
set_changes change [] k d = refl
set_changes change (s ∷ targets) zero d = refl
set_changes change (s ∷ targets) (suc k) d = ap (λ (ts : List TargetView). s ∷ ts) (set_changes change targets k d)

changes_found : (change : TargetView → TargetView) (targets : List TargetView) (k : ℕ) (s t : TargetView) → slice_get targets k ≡ Some s → change s ≡ t → changed_at change k targets ≡ set targets k t
changes_found change [] k s t found e = refl
changes_found change (x ∷ targets) zero s t found e = let same : x ≡ s = cc in ap (λ (v : TargetView). v ∷ targets) (ap change same ∙ e)
changes_found change (x ∷ targets) (suc k) s t found e = ap (λ (ts : List TargetView). x ∷ ts) (changes_found change targets k s t found e)

-- a state goes on with its past
pub bus_goes_on : (g : Parts) (n : ℕ) (s : BusView) (past : List Item) (i : Item) → judged s i ≡ None → Follows g n s past → Follows g n (bus_after i s) (i ∷ past)
bus_goes_on g n s past i h f =
    let permitted : broken g n past i ≡ None = sym (judged_is_broken g n s past i f) ∙ h in
    let there : target_of i < n = omega (arith, permitted_there s i h, count_of g n s past f) in
    let found = found_target g n s past (target_of i) f there in
    let goes : target_after s.geometry i (target_view g past (target_of i)) ≡ target_view g (i ∷ past) (target_of i) = ap (λ (x : Parts). target_after x i (target_view g past (target_of i))) f.geometry ∙ target_goes_on g n past i permitted in
    record {
      legal = legal_more g n past i f.legal permitted;
      geometry = f.geometry;
      facts =
          changes_found (target_after s.geometry i) s.targets (target_of i) (target_view g past (target_of i)) (target_view g (i ∷ past) (target_of i)) found goes ∙
          (ap (λ (ts : List TargetView). set ts (target_of i) (target_view g (i ∷ past) (target_of i))) f.facts ∙
          targets_go_on g past i n 0 (target_of i) (omega arith));
    }

-- and fits
pub bus_fits_on : (s : BusView) (i : Item) (d t : TargetView) → judged s i ≡ None → BusFits s → t ≡ target_after s.geometry i (get_or s.targets (target_of i) d) → t.tail.column < 2 ^ 16 → BusFits (bus s.geometry (set s.targets (target_of i) t))
bus_fits_on s i d t h f is small =
    let there = permitted_there s i h in
    let here = f.targets (target_of i) d there in
    let found = slice_get-get_or s.targets (target_of i) d there in
    let permitted : judge s.geometry (length s.targets) (get_or s.targets (target_of i) d).tail (get_or s.targets (target_of i) d).luns i ≡ None = sym (ap (λ (x : Option TargetView). judged_on s.geometry (length s.targets) x i) found) ∙ h in
    record {
      limits = f.limits;
      targets = All-set (TargetFits s.geometry) s.targets (target_of i) t (subst (TargetFits s.geometry) (sym is) (target_fits s.geometry f.limits (length s.targets) i (get_or s.targets (target_of i) d) permitted (subst (λ (v : TargetView). v.tail.column < 2 ^ 16) is small) here)) f.targets;
      count = let same = length-set s.targets (target_of i) t in omega (arith, f.count);
    }

-- as the code does it, by a place in a list
pub applied : (g : Parts) (targets : List TargetView) (i : Item) (k : ℕ) (d t : TargetView) → k ≡ target_of i → t ≡ target_after g i (get_or targets k d) → bus g (set targets k t) ≡ bus_after i (bus g targets)
applied g targets i k d t place is =
    ap (λ (v : TargetView). bus g (set targets k v)) is ∙ (ap (bus g) (set_changes (target_after g i) targets k d) ∙ ap (λ (m : ℕ). bus g (changed_at (target_after g i) m targets)) place)

pub applied_fits : (g : Parts) (targets : List TargetView) (i : Item) (k : ℕ) (d t : TargetView) → judged (bus g targets) i ≡ None → BusFits (bus g targets) → k ≡ target_of i → t ≡ target_after g i (get_or targets k d) → t.tail.column < 2 ^ 16 → BusFits (bus g (set targets k t))
applied_fits g targets i k d t h f place is small =
    subst (λ (m : ℕ). BusFits (bus g (set targets m t))) (sym place)
    (bus_fits_on (bus g targets) i d t h f (is ∙ ap (λ (m : ℕ). target_after g i (get_or targets m d)) place) small)

-- a LUN of a target that fits
pub lun_fits_at : (g : Parts) (t : TailFacts) (n : ℕ) (vs : List LunView) (k : ℕ) (v : LunView) → LunsFit g t n vs → slice_get vs k ≡ Some v → LunFits g v
lun_fits_at g t n [] k v f found = cc
lun_fits_at g t n (x ∷ vs) zero v f found = let same : x ≡ v = cc in subst (LunFits g) same f.0
lun_fits_at g t n (x ∷ vs) (suc k) v f found = lun_fits_at g t (n + 1) vs k v f.3 found

-- a look at a LUN, by the state and by the past
pub lun_beyond : (g : Parts) (past : List Item) (ce k : ℕ) → g.luns ≤ k → slice_get (luns_of g past ce) k ≡ None
lun_beyond g past ce k h = slice_get_past (luns_of g past ce) k (omega (arith, views_length g past ce g.luns 0))

pub looked_is_look : (g : Parts) (n : ℕ) (s : BusView) (past : List Item) (l : Lun) → Follows g n s past → looked s l ≡ look_after g n past l
looked_is_look g n s past l f = at (ltb l.ce n) refl (ltb l.lun g.luns) refl
  where
    at : (a : Bool) → ltb l.ce n ≡ a → (b : Bool) → ltb l.lun g.luns ≡ b → looked s l ≡ cond (a && b) (Some (look_at (lun_view g past l))) None
    at true e true d =
        let here : l.ce < n = grind (arith, nat_tests) in
        let there : l.lun < g.luns = grind (arith, nat_tests) in
        ap (λ (x : Option TargetView). look_on x l.lun) (found_target g n s past l.ce f here) ∙ ap look_at_some (view_at g past l there)
    at true e false d =
        let here : l.ce < n = grind (arith, nat_tests) in
        let beyond : g.luns ≤ l.lun = grind (arith, nat_tests) in
        ap (λ (x : Option TargetView). look_on x l.lun) (found_target g n s past l.ce f here) ∙ ap look_at_some (lun_beyond g past l.ce l.lun beyond)
    at false e b d =
        let beyond : length s.targets ≤ l.ce = grind (arith, nat_tests, count_of g n s past f) in
        ap (λ (x : Option TargetView). look_on x l.lun) (slice_get_past s.targets l.ce beyond)

-- what an item does to a LUN, by the state and by the past
pub effect_elsewhere : (g : Parts) (past : List Item) (i : Item) (l : Lun) → target_of i ≢ l.ce → Unaffected ≡ effect_on g past i l
unfolding effect_among
effect_elsewhere g past i l ne = sym (rests_elsewhere g past (latch_alone g past l) i l ne)

pub target_not_missing : (g : Parts) (n : ℕ) (s : BusView) (past : List Item) (ce : ℕ) → Follows g n s past → ce < n → slice_get s.targets ce ≡ None → ⊥
target_not_missing g n s past ce f h none = let found = found_target g n s past ce f h in missing (slice_get s.targets ce) found none
  where
    missing : (o : Option TargetView) → o ≡ Some (target_view g past ce) → o ≡ None → ⊥
    missing None a b = cc
    missing (Some t) a b = cc

pub effect_there : (g : Parts) (n : ℕ) (s : BusView) (past : List Item) (i : Item) (l : Lun) (t : TargetView) (e : Effect) → Follows g n s past → l.ce < n → l.lun < g.luns → target_of i ≡ l.ce → slice_get s.targets l.ce ≡ Some t → ((v : LunView) → slice_get t.luns l.lun ≡ Some v → e ≡ effect_alone s.geometry t.tail (has_driver t.luns) i l.lun v) → e ≡ effect_on g past i l
effect_there g n s past i l t e f here low on found is =
    let same : t ≡ target_view g past l.ce = the_same (sym found ∙ found_target g n s past l.ce f here) in
    let by_state = subst (λ (ce : ℕ). effect_on g past i (record { ce = ce; lun = l.lun }) ≡ effect_alone g (facts_of (tail past ce)) (has_driver (luns_of g past ce)) i l.lun (lun_view g past (record { ce = ce; lun = l.lun }))) on (effect_by_state g past i l.lun low) in
    is (lun_view g past l) (ap (λ (u : TargetView). slice_get u.luns l.lun) same ∙ view_at g past l low) ∙
    (ap (λ (h : Parts). effect_alone h t.tail (has_driver t.luns) i l.lun (lun_view g past l)) f.geometry ∙
    (ap (λ (u : TargetView). effect_alone g u.tail (has_driver u.luns) i l.lun (lun_view g past l)) same ∙ sym by_state))
  where
    the_same : {x y : TargetView} → Some x ≡ Some y → x ≡ y
    the_same h = cc

-- 6. the beginning

views_last : (g : Parts) (past : List Item) (ce count n : ℕ) → views_from g past ce count n ++ (lun_view g past (record { ce = ce; lun = n + count }) ∷ []) ≡ views_from g past ce (suc count) n
views_last g past ce zero n = ap (λ (m : ℕ). lun_view g past (record { ce = ce; lun = m }) ∷ []) (omega arith)
views_last g past ce (suc count) n =
    let same : n + suc count ≡ n + 1 + count = omega arith in
    ap (λ (vs : List LunView). lun_view g past (record { ce = ce; lun = n }) ∷ vs)
    (ap (λ (m : ℕ). views_from g past ce count (n + 1) ++ (lun_view g past (record { ce = ce; lun = m }) ∷ [])) same ∙ views_last g past ce count (n + 1))

-- one LUN more
pub more_luns : (luns more : List LunView) (k : ℕ) (v : LunView) → ((g : Parts) (ce : ℕ) → luns ≡ views_from g [] ce k 0) → v ≡ first_view k → more ≡ luns ++ (v ∷ []) → (g : Parts) (ce : ℕ) → more ≡ views_from g [] ce (k + 1) 0
more_luns luns more k v all fresh is g ce =
    let next : suc k ≡ k + 1 = omega arith in
    let last : k ≡ 0 + k = omega arith in
    is ∙ (ap (λ (vs : List LunView). vs ++ (v ∷ [])) (all g ce) ∙ (ap (λ (w : LunView). views_from g [] ce k 0 ++ (w ∷ [])) (fresh ∙ ap first_view last) ∙ (views_last g [] ce k 0 ∙ ap (λ (m : ℕ). views_from g [] ce m 0) next)))

pub luns_so_far : (g : Parts) (luns : List LunView) (k : ℕ) → ((h : Parts) (ce : ℕ) → luns ≡ views_from h [] ce k 0) → length luns ≡ k
luns_so_far g luns k all = ap length (all g 0) ∙ views_length g [] 0 k 0

pub fresh_target : (t : TailFacts) (luns : List LunView) (k n : ℕ) → t ≡ facts_of [] → ((g : Parts) (ce : ℕ) → luns ≡ views_from g [] ce k 0) → k ≡ n → (g : Parts) (ce : ℕ) → g.luns ≡ n → target t luns ≡ target_view g [] ce
fresh_target t luns k n is all whole g ce count =
    ap (λ (u : TailFacts). target u luns) is ∙ ap (target (facts_of [])) (all g ce ∙ ap (λ (m : ℕ). views_from g [] ce m 0) (whole ∙ sym count))

targets_last : (g : Parts) (past : List Item) (count n : ℕ) → targets_from g past count n ++ (target_view g past (n + count) ∷ []) ≡ targets_from g past (suc count) n
targets_last g past zero n = ap (λ (m : ℕ). target_view g past m ∷ []) (omega arith)
targets_last g past (suc count) n =
    let same : n + suc count ≡ n + 1 + count = omega arith in
    ap (λ (ts : List TargetView). target_view g past n ∷ ts)
    (ap (λ (m : ℕ). targets_from g past count (n + 1) ++ (target_view g past m ∷ [])) same ∙ targets_last g past count (n + 1))

-- one target more
pub more_targets : (g : Parts) (targets more : List TargetView) (k : ℕ) (s : TargetView) → targets ≡ targets_from g [] k 0 → ((ce : ℕ) → s ≡ target_view g [] ce) → more ≡ targets ++ (s ∷ []) → more ≡ targets_from g [] (k + 1) 0
more_targets g targets more k s all fresh is =
    let next : suc k ≡ k + 1 = omega arith in
    is ∙ (ap (λ (ts : List TargetView). ts ++ (s ∷ [])) all ∙ (ap (λ (w : TargetView). targets_from g [] k 0 ++ (w ∷ [])) (fresh (0 + k)) ∙ (targets_last g [] k 0 ∙ ap (λ (m : ℕ). targets_from g [] m 0) next)))

no_luns_fit : (g : Parts) (ce count n : ℕ) → LunsFit g (facts_of []) n (views_from g [] ce count n)
no_luns_fit g ce zero n = tt
no_luns_fit g ce (suc count) n = (
  record { outputs = omega arith; given = tt; array_page = omega arith; queue = omega arith; held = omega arith },
  record { read = λ named h. cc; erase = λ named h. cc; program = λ named h. cc },
  record { inside = λ named h. cc; ready = λ named h. cc; identity = λ h. cc; alone = λ narrow h. cc },
  no_luns_fit g ce count (n + 1),
)

beginning_fits : (g : Parts) (ce : ℕ) → g.luns ≤ 4 → TargetFits g (target_view g [] ce)
beginning_fits g ce most = record { tail = no_tail_fits g; luns = no_luns_fit g ce g.luns 0; count = views_length g [] ce g.luns 0 }

all_fit : (g : Parts) → g.luns ≤ 4 → (count n : ℕ) → All (TargetFits g) (targets_from g [] count n)
all_fit g most zero n k d h = absurd (omega arith)
all_fit g most (suc count) n zero d h = beginning_fits g n most
all_fit g most (suc count) n (suc k) d h = all_fit g most count (n + 1) k d (omega arith)

-- a channel to which nothing has happened
pub beginning : (g : Parts) (targets : List TargetView) (n : ℕ) → InLimits g → n ≤ 4 → targets ≡ targets_from g [] n 0 → BusFits (bus g targets)
beginning g targets n limits few is =
    record {
      limits = limits;
      targets = subst (All (TargetFits g)) (sym is) (all_fit g limits.luns_most n 0);
      count = let same = ap length is ∙ targets_length g [] n 0 in omega (arith, few);
    }

-- a list filled up from another of its length is itself
pub refilled : {X : Type 0} (n : ℕ) (xs ws : List X) → length ws ≡ n → n ≡ length xs → refill n xs ws ≡ ws
refilled n xs ws a b = grind (arith, common_steps)
