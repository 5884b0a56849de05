-- What a cycle can't do, by its kind.
use Rattle.std.proofs.Common.{◌≡◌, ℕ, ◌+◌, ◌%◌, ◌<◌, ◌≤◌, ◌==◌, Bool, true, false, ◌&&◌, cond, List, Some, None, Result, Ok, Err, OnErr, length, refl, sym, ap, ◌∙◌, arith}
use Rattle.std.proofs.lemmas.Bool.Decides.{nat_tests}
use Rattle.std.proofs.lemmas.Bool.{or_from, or_left}
use Rattle.nand_geometry.specs.declared.parts.Parts.{Parts}
use Rattle.onfi_cycle.specs.declared.item.Cycle.{Cycle}
use Rattle.onfi_cycle.specs.declared.item.Item.{Item}
use Rattle.onfi_cycle.specs.declared.item.Item.TheVariants.{Cyc}
use Rattle.onfi_cycle.specs.declared.item.Kind.{Kind}
use Rattle.onfi_cycle.specs.declared.item.Kind.TheVariants.{Cmd, Adr, Din, Dout}
use Rattle.onfi_cycle.specs.declared.lun.Lun.{Lun}
use Rattle.onfi_cycle.specs.declared.page_address.PageAddress.{PageAddress}
use Rattle.onfi_cycle.specs.declared.tail_facts.TailFacts.{TailFacts}
use Rattle.onfi_cycle.specs.declared.data_phase.DataPhase.{DataPhase}
use Rattle.onfi_cycle.specs.declared.data_phase.DataPhase.TheVariants.{Outside, Inputs, FirstColumn, SecondColumn, FeatureInputs}
use Rattle.onfi_cycle.specs.declared.effect.Effect.TheVariants.{Unaffected, FeaturesSet}
use Rattle.onfi_cycle.specs.declared.filling.Filling.TheVariants.{Leaves}
use Rattle.onfi_cycle.specs.Sequence.{tail, facts_of, target_cycle, takes_data, takes_features}
use Rattle.onfi_cycle.specs.Effect.{of_target, cycle_effect}
use Rattle.onfi_cycle.specs.Filling.{filling, cycle_filling}
use Rattle.onfi_cycle.specs.Lun.{effect_on, latch_alone, effect_among, held}
use Rattle.onfi_cycle.specs.Permitted.{broken}
use Rattle.onfi_cycle.specs.State.{BusView, Follows}
use Rattle.onfi_cycle.specs.Working.{fills, begins}
use Rattle.onfi_cycle.specs.declared.filling.Filling.{Filling}
use Rattle.die_model.specs.Die.{Die}
use Rattle.target_bus.specs.declared.working.Worked.{Worked}
use Rattle.target_bus.specs.Bus.{Entries, is_input, may_fill, lun_at, FindsWork, LeavesBelow, IsStanding}
use Rattle.target_bus.proofs.Standing.{cycle_there}

-- a command or an output changes no page register
pub leaves : (g : Parts) (t : TailFacts) (c : Cycle) (l : Lun) (held : List PageAddress) → may_fill c.kind ≡ false → Leaves ≡ filling g t (Cyc c) l held
leaves g t c l held h = by c.kind (c.ce == l.ce) h
  where
    by : (k : Kind) (b : Bool) → may_fill k ≡ false → Leaves ≡ cond b (cycle_filling g t (target_cycle k c.byte) l.lun held) Leaves
    by Cmd true h = refl
    by Cmd false h = refl
    by Dout true h = refl
    by Dout false h = refl
    by Adr b h = cc
    by Din b h = cc

-- in the data of a program no feature is set
no_feature : (p : DataPhase) (k : ℕ) → takes_data p ≡ true → (takes_features p && k == 3) ≡ false
no_feature Outside k h = cc
no_feature Inputs k h = refl
no_feature FirstColumn k h = cc
no_feature SecondColumn k h = cc
no_feature FeatureInputs k h = cc

-- an input of a program does nothing to a LUN but to its page registers
pub unaffected : (g : Parts) (past : List Item) (c : Cycle) (l : Lun) → is_input c.kind ≡ true → takes_data (facts_of (tail past l.ce)).phase ≡ true → Unaffected ≡ effect_on g past (Cyc c) l
unfolding effect_among
unaffected g past c l h takes = by c.kind (c.ce == l.ce) h
  where
    t : TailFacts
    t = facts_of (tail past l.ce)

    by : (k : Kind) (b : Bool) → is_input k ≡ true → Unaffected ≡ cond b (cycle_effect g t (latch_alone g past l) (target_cycle k c.byte) l.lun) Unaffected
    by Din true h = sym (ap (λ (b : Bool). cond b (of_target g l.lun (FeaturesSet (t.column % 256))) Unaffected) (no_feature t.phase t.inputs takes))
    by Din false h = refl
    by Cmd b h = cc
    by Adr b h = cc
    by Dout b h = cc

-- one LUN more is left
pub leaves_more : (g : Parts) (past : List Item) (c : Cycle) (n : ℕ) → fills (filling g (facts_of (tail past c.ce)) (Cyc c) (lun_at c.ce n) (held g past (lun_at c.ce n))) ≡ false → LeavesBelow g past (Cyc c) c.ce n → LeavesBelow g past (Cyc c) c.ce (n + 1)
leaves_more g past c n none f = λ m low. at m (m == n) refl low
  where
    at : (m : ℕ) (b : Bool) → (m == n) ≡ b → m < n + 1 → fills (filling g (facts_of (tail past c.ce)) (Cyc c) (lun_at c.ce m) (held g past (lun_at c.ce m))) ≡ false
    at m true q low = let same : m ≡ n = grind (arith, nat_tests) in ap (λ (k : ℕ). fills (filling g (facts_of (tail past c.ce)) (Cyc c) (lun_at c.ce k) (held g past (lun_at c.ce k)))) same ∙ none
    at m false q low = let below : m < n = grind (arith, nat_tests) in f m below

-- an input that fills a page register of a LUN works on it, and does nothing else
abbrev pub filled : ℕ → Filling → Worked
filled lun x = record { lun = lun; filling = x; effect = Unaffected }

-- the target of a cycle is in the data of a program, whatever its state stands for
abbrev pub InData : BusView → Cycle → Type 0
InData state c = (g : Parts) (n : ℕ) (past : List Item) → Follows g n state past → c.ce < n → takes_data (facts_of (tail past c.ce)).phase ≡ true

pub none_filled : (state : BusView) (opened : List Entries) (dies : List Die) (past : List Item) (c : Cycle) (luns n : ℕ) → IsStanding state opened dies past → broken state.geometry (length state.targets) past (Cyc c) ≡ None → is_input c.kind ≡ true → InData state c → luns ≡ state.geometry.luns → luns ≤ n → ((g : Parts) (targets : ℕ) (past : List Item) → Follows g targets state past → c.ce < targets → LeavesBelow g past (Cyc c) c.ce n) → FindsWork state.geometry past (Cyc c) c.ce 0 None
none_filled state opened dies past c luns n f h input takes same all rest = λ m least low.
    or_from _ _ (none m (omega (arith, low, same, all)))
    (ap begins (sym (unaffected state.geometry past c (lun_at c.ce m) input (takes state.geometry (length state.targets) past f.follows (cycle_there state.geometry (length state.targets) past c h)))))
  where
    none : LeavesBelow state.geometry past (Cyc c) c.ce n
    none = rest state.geometry (length state.targets) past f.follows (cycle_there state.geometry (length state.targets) past c h)

pub one_filled : (state : BusView) (opened : List Entries) (dies : List Die) (past : List Item) (c : Cycle) (luns n : ℕ) (x : Filling) → IsStanding state opened dies past → broken state.geometry (length state.targets) past (Cyc c) ≡ None → is_input c.kind ≡ true → InData state c → luns ≡ state.geometry.luns → n < luns → fills x ≡ true → ((g : Parts) (targets : ℕ) (past : List Item) → Follows g targets state past → c.ce < targets → n < g.luns → x ≡ filling g (facts_of (tail past c.ce)) (Cyc c) (lun_at c.ce n) (held g past (lun_at c.ce n))) → FindsWork state.geometry past (Cyc c) c.ce 0 (Some (filled n x))
one_filled state opened dies past c luns n x f h input takes same low one fillings =
    record {
      lun = omega (arith, low, same);
      filling_is = is;
      effect_is = unaffected state.geometry past c (lun_at c.ce n) input (takes state.geometry (length state.targets) past f.follows (cycle_there state.geometry (length state.targets) past c h));
      works = or_left _ _ (ap fills (sym is) ∙ one);
    }
  where
    is : x ≡ filling state.geometry (facts_of (tail past c.ce)) (Cyc c) (lun_at c.ce n) (held state.geometry past (lun_at c.ce n))
    is = fillings state.geometry (length state.targets) past f.follows (cycle_there state.geometry (length state.targets) past c h) (omega (arith, low, same))

pub on_err : {T E : Type 0} (r : Result T E) (P Q : Type 0) → OnErr r P → (P → Q) → OnErr r Q
on_err (Ok x) P Q h f = tt
on_err (Err e) P Q h f = f h
