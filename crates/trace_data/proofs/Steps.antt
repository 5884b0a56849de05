-- What an item leaves of the works on the LUNs of a channel, and where a page has its bytes from.
use Rattle.std.proofs.Common.{◌≡◌, ◌≢◌, ℕ, zero, suc, ◌%◌, ◌<◌, ◌≤◌, ◌==◌, Bool, true, false, cond, List, [], ◌∷◌, ◌++◌, Some, refl, sym, ap, ◌∙◌, arith, length, set, replicate}
use Rattle.std.proofs.lemmas.Bool.Decides.{nat_tests}
use Rattle.std.proofs.lemmas.Option.{slice_get_within}
use Rattle.std.specs.List.{slice_get}
use Rattle.nand_geometry.specs.declared.parts.Parts.{Parts}
use Rattle.onfi_cycle.specs.declared.lun.Lun.{Lun}
use Rattle.onfi_cycle.specs.declared.latch.Latch.{Latch}
use Rattle.onfi_cycle.specs.declared.latch.Latch.TheVariants as latch
use Rattle.onfi_cycle.specs.declared.item.Item.{Item}
use Rattle.onfi_cycle.specs.declared.item.Kind.TheVariants.{Din, Dout}
use Rattle.onfi_cycle.specs.declared.effect.Effect.{Effect}
use Rattle.onfi_cycle.specs.declared.effect.Effect.TheVariants.{Unaffected, FeaturesSet, Deselected}
use Rattle.onfi_cycle.specs.Effect.{ends_features, acts_for_target}
use Rattle.onfi_cycle.specs.Sequence.{facts_of, tail}
use Rattle.onfi_cycle.specs.Lun.{effect_on, latch_alone, effect_among}
use Rattle.onfi_cycle.specs.Channel.{cycle}
use Rattle.target_bus.specs.Bus.{numbered}
use Rattle.target_bus.proofs.Numbers.{set_here, set_other}
use Rattle.trace_data.specs.Data.{Works, no_works, works_after, works_on, AreWorks}

-- ---- going on, LUN by LUN

-- those below this number have gone on, the others haven't
pub record HasGone (g : Parts) (past : List Item) (i : Item) (place k : ℕ) (w : Works) : Type 0 where
  pub below : k < place → w ≡ works_on g (i ∷ past) (numbered g k)
  pub above : place ≤ k → w ≡ works_on g past (numbered g k)

abbrev pub HaveGone : Parts → List Item → Item → ℕ → List Works → Type 0
HaveGone g past i place all = (k : ℕ) (w : Works) → slice_get all k ≡ Some w → HasGone g past i place k w

pub none_gone : (g : Parts) (past : List Item) (i : Item) (all : List Works) → AreWorks g past all → HaveGone g past i 0 all
none_gone g past i all are k w found = record { below = λ low. absurd (omega (arith, low)); above = λ high. are k w found }

pub one_more : (g : Parts) (past : List Item) (i : Item) (place next n : ℕ) (e : Effect) (old : Works) (all : List Works) → HaveGone g past i place all
    → slice_get all place ≡ Some old → e ≡ effect_on g past i (numbered g place) → n ≡ length past → next ≡ suc place
    → HaveGone g past i next (set all place (works_after e n old))
one_more g past i place next n e old all gone found is number after k w there = at (k == place) refl
  where
    at : (b : Bool) → (k == place) ≡ b → HasGone g past i next k w
    at true q =
        let same : k ≡ place = grind (arith, nat_tests) in
        let new : w ≡ works_after e n old = set_here all place _ w (ap (slice_get (set all place (works_after e n old))) (sym same) ∙ there) in
        let was : old ≡ works_on g past (numbered g place) = (gone place old found).above (omega arith) in
        let goes = new ∙ (ap (λ (x : Effect). works_after x n old) is ∙ (ap (λ (m : ℕ). works_after (effect_on g past i (numbered g place)) m old) number ∙ ap (works_after (effect_on g past i (numbered g place)) (length past)) was)) in
        record {
          below = λ low. goes ∙ ap (λ (m : ℕ). works_on g (i ∷ past) (numbered g m)) (sym same);
          above = λ high. absurd (omega (arith, high, same, after));
        }
    at false q =
        let other : k ≢ place = grind (arith, nat_tests) in
        let before = gone k w (sym (set_other all place k _ other) ∙ there) in
        record { below = λ low. before.below (omega (arith, low, other, after)); above = λ high. before.above (omega (arith, high, after)) }

pub all_gone : (g : Parts) (past : List Item) (i : Item) (place : ℕ) (all : List Works) → HaveGone g past i place all → length all ≤ place → AreWorks g (i ∷ past) all
all_gone g past i place all gone most k w found = let low = slice_get_within all k w found in (gone k w found).below (omega (arith, low, most))

pub set_length : {X : Type 0} (xs : List X) (k : ℕ) (x : X) → length (set xs k x) ≡ length xs
set_length [] k x = refl
set_length (y ∷ xs) zero x = refl
set_length (y ∷ xs) (suc k) x = ap suc (set_length xs k x)

-- ---- no work

pub none_begun : (count k : ℕ) (w : Works) → slice_get (replicate count no_works) k ≡ Some w → w ≡ no_works
none_begun zero k w h = cc
none_begun (suc count) zero w h = cc
none_begun (suc count) (suc k) w h = none_begun count k w h

pub one_new_more : (n : ℕ) → replicate n no_works ++ (no_works ∷ []) ≡ replicate (suc n) no_works
one_new_more zero = refl
one_new_more (suc n) = ap (λ (all : List Works). no_works ∷ all) (one_new_more n)

pub stand_at_first : (g : Parts) (count : ℕ) → AreWorks g [] (replicate count no_works)
stand_at_first g count k w found = none_begun count k w found

-- ---- data cycles begin and end no work on a page

output_leaves : (g : Parts) (past : List Item) (ce byte n : ℕ) (l : Lun) (w : Works) → works_after (effect_on g past (cycle ce Dout byte) l) n w ≡ w
unfolding effect_among
output_leaves g past ce byte n l w = at (ce == l.ce) (latch_alone g past l) refl refl
  where
    at : (here : Bool) (x : Latch) → (ce == l.ce) ≡ here → latch_alone g past l ≡ x → works_after (effect_on g past (cycle ce Dout byte) l) n w ≡ w
    at false x e f = rw (e) refl
    at true latch.Off e f = rw (e, f) refl
    at true latch.Status e f = rw (e, f) refl
    at true latch.Data e f = rw (e, f) refl

-- a feature that is set is no work on a page
set_leaves : (ends acts : Bool) (address n : ℕ) (w : Works) → works_after (cond ends (cond acts (FeaturesSet address) Deselected) Unaffected) n w ≡ w
set_leaves true true address n w = refl
set_leaves true false address n w = refl
set_leaves false acts address n w = refl

input_leaves : (g : Parts) (past : List Item) (ce byte n : ℕ) (l : Lun) (w : Works) → works_after (effect_on g past (cycle ce Din byte) l) n w ≡ w
unfolding effect_among
input_leaves g past ce byte n l w = at (ce == l.ce) refl
  where
    at : (here : Bool) → (ce == l.ce) ≡ here → works_after (effect_on g past (cycle ce Din byte) l) n w ≡ w
    at false e = rw (e) refl
    at true e = rw (e) (set_leaves (ends_features (facts_of (tail past l.ce))) (acts_for_target g l.lun) ((facts_of (tail past l.ce)).column % 256) n w)

pub stay_at_output : (g : Parts) (past : List Item) (ce byte : ℕ) (all : List Works) → AreWorks g past all → AreWorks g (cycle ce Dout byte ∷ past) all
stay_at_output g past ce byte all are k w found = are k w found ∙ sym (output_leaves g past ce byte (length past) (numbered g k) (works_on g past (numbered g k)))

pub stay_at_input : (g : Parts) (past : List Item) (ce byte : ℕ) (all : List Works) → AreWorks g past all → AreWorks g (cycle ce Din byte ∷ past) all
stay_at_input g past ce byte all are k w found = are k w found ∙ sym (input_leaves g past ce byte (length past) (numbered g k) (works_on g past (numbered g k)))
