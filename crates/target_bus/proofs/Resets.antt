-- A reset of a target with several LUNs: each of its dies is reset, one after the other.
use Rattle.std.proofs.Common.{◌≡◌, ◌≢◌, ℕ, ◌+◌, ◌<◌, ◌==◌, Bool, true, false, ◌&&◌, cond, eqb-true, eq-eqb, List, ◌∷◌, Some, None, refl, sym, ap, subst, ◌∙◌, arith, length, set, length-set}
use Rattle.std.proofs.lemmas.Bool.Decides.{nat_tests}
use Rattle.std.proofs.lemmas.Bool.{and_parts}
use Rattle.std.proofs.lemmas.Option.{slice_get_within}
use Rattle.std.specs.List.{slice_get}
use Rattle.nand_geometry.specs.declared.parts.Parts.{Parts}
use Rattle.onfi_cycle.specs.declared.command.Command.TheVariants.{Reset, SynchronousReset}
use Rattle.onfi_cycle.specs.declared.effect.Effect.{Effect}
use Rattle.onfi_cycle.specs.declared.effect.Effect.TheVariants.{Unaffected, ResetStarted, TargetResetStarted}
use Rattle.onfi_cycle.specs.declared.filling.Filling.{Filling}
use Rattle.onfi_cycle.specs.declared.filling.Filling.TheVariants.{Leaves}
use Rattle.onfi_cycle.specs.declared.item.Cycle.{Cycle}
use Rattle.onfi_cycle.specs.declared.item.Item.{Item}
use Rattle.onfi_cycle.specs.declared.item.Item.TheVariants.{Cyc}
use Rattle.onfi_cycle.specs.declared.latch.Latch.{Latch}
use Rattle.onfi_cycle.specs.declared.lun.Lun.{Lun}
use Rattle.onfi_cycle.specs.declared.page_address.PageAddress.{PageAddress}
use Rattle.onfi_cycle.specs.declared.tail_facts.TailFacts.{TailFacts}
use Rattle.onfi_cycle.specs.declared.target_cycle.TargetCycle.{TargetCycle}
use Rattle.onfi_cycle.specs.declared.target_cycle.TargetCycle.TheVariants.{CommandCycle, AddressCycle, InputCycle, OutputCycle}
use Rattle.onfi_cycle.specs.Sequence.{tail, facts_of, target_cycle}
use Rattle.onfi_cycle.specs.Effect.{is_shared, cycle_effect}
use Rattle.onfi_cycle.specs.Filling.{filling, cycle_filling}
use Rattle.onfi_cycle.specs.Lun.{effect_on, effect_among, latch_alone, lun_view, held}
use Rattle.onfi_cycle.specs.Permitted.{broken}
use Rattle.onfi_cycle.specs.Channel.{Channel}
use Rattle.onfi_cycle.specs.Working.{is_reset_cycle, resets_several, FactsFit}
use Rattle.die_model.specs.Die.{Die, IsAfter}
use Rattle.onfi_cycle.specs.State.{BusView}
use Rattle.die_model.specs.Standing.{IsDieOf, WorkedBy, CanWork, IsWorked}
use Rattle.target_bus.specs.Bus.{Entries, channel_on, numbered, number_of, lun_at, StandFor, IsStanding}
use Rattle.target_bus.proofs.Numbers.{numbered_number, number_apart, set_here, set_other}
use Rattle.target_bus.proofs.Standing.{can_begin, number_there, die_goes_on, rests}

-- 1. what the reset does to a LUN

resets_cycle : (g : Parts) (t : TailFacts) (la : Latch) (k : TargetCycle) (n : ℕ) (held : List PageAddress) → (is_shared g && is_reset_cycle k) ≡ true → (cycle_effect g t la k n ≡ TargetResetStarted (n == 0)) × (cycle_filling g t k n held ≡ Leaves)
resets_cycle g t la (CommandCycle Reset) n held h = (ap (λ (b : Bool). cond b (TargetResetStarted (n == 0)) ResetStarted) (and_parts (is_shared g) true h).0, refl)
resets_cycle g t la (CommandCycle SynchronousReset) n held h = (ap (λ (b : Bool). cond b (TargetResetStarted (n == 0)) ResetStarted) (and_parts (is_shared g) true h).0, refl)
resets_cycle g t la (CommandCycle c) n held h = let no = (and_parts (is_shared g) false h).1 in cc
resets_cycle g t la (AddressCycle byte) n held h = let no = (and_parts (is_shared g) false h).1 in cc
resets_cycle g t la (InputCycle byte) n held h = let no = (and_parts (is_shared g) false h).1 in cc
resets_cycle g t la OutputCycle n held h = let no = (and_parts (is_shared g) false h).1 in cc

-- on a LUN of the target, and on another
reset_on : (g : Parts) (past : List Item) (c : Cycle) (l : Lun) → resets_several g (Cyc c) ≡ true → effect_on g past (Cyc c) l ≡ cond (c.ce == l.ce) (TargetResetStarted (l.lun == 0)) Unaffected
unfolding effect_among
reset_on g past c l h = ap (λ (e : Effect). cond (c.ce == l.ce) e Unaffected) (resets_cycle g (facts_of (tail past l.ce)) (latch_alone g past l) (target_cycle c.kind c.byte) l.lun (held g past l) h).0

leaves_on : (g : Parts) (past : List Item) (c : Cycle) (l : Lun) → resets_several g (Cyc c) ≡ true → filling g (facts_of (tail past l.ce)) (Cyc c) l (held g past l) ≡ Leaves
leaves_on g past c l h = at (c.ce == l.ce)
  where
    at : (b : Bool) → cond b (cycle_filling g (facts_of (tail past l.ce)) (target_cycle c.kind c.byte) l.lun (held g past l)) Leaves ≡ Leaves
    at true = (resets_cycle g (facts_of (tail past l.ce)) (latch_alone g past l) (target_cycle c.kind c.byte) l.lun (held g past l) h).1
    at false = refl

-- 2. the dies, as far as the reset has come

-- the LUN of this place is one of the target below this number
abbrev pub IsBehind : Parts → (ce n k : ℕ) → Type 0
IsBehind g ce n k = ((numbered g k).ce ≡ ce) × ((numbered g k).lun < n)

pub record AreReset (g : Parts) (ce n : ℕ) (before after : List Die) : Type 0 where
  pub count : length after ≡ length before
  pub reset : (k : ℕ) (new : Die) → IsBehind g ce n k → slice_get after k ≡ Some new → (old : Die) × (slice_get before k ≡ Some old) × IsAfter (TargetResetStarted ((numbered g k).lun == 0)) old new
  pub still : (k : ℕ) → (IsBehind g ce n k → ⊥) → slice_get after k ≡ slice_get before k

pub none_reset : (g : Parts) (ce : ℕ) (dies : List Die) → AreReset g ce 0 dies dies
none_reset g ce dies = record { count = refl; reset = λ k new behind found. absurd (omega (arith, behind.1)); still = λ k ahead. refl }

-- one more is reset
pub reset_more : (g : Parts) (ce n m : ℕ) (before after : List Die) (old new : Die) → n < g.luns → m ≡ number_of g (lun_at ce n) → AreReset g ce n before after → slice_get after m ≡ Some old → IsAfter (TargetResetStarted (n == 0)) old new → AreReset g ce (n + 1) before (set after m new)
reset_more g ce n m before after old new low place a here reset =
    record {
      count = length-set after m new ∙ a.count;
      reset = λ k d behind found. at k d behind found (k == m) refl;
      still = λ k ahead. set_other after m k new (λ same. ahead (subst (IsBehind g ce (n + 1)) (sym same) itself)) ∙ a.still k (λ behind. ahead (behind.0, more behind.1));
    }
  where
    is : numbered g m ≡ lun_at ce n
    is = ap (numbered g) place ∙ numbered_number g (lun_at ce n) low

    more : {x : ℕ} → x < n → x < n + 1
    more h = omega (arith, h)

    itself : IsBehind g ce (n + 1) m
    itself = let number : (numbered g m).lun ≡ n = ap (λ (l : Lun). l.lun) is in (ap (λ (l : Lun). l.ce) is, omega (arith, number))

    not_yet : IsBehind g ce n m → ⊥
    not_yet behind = let number : (numbered g m).lun ≡ n = ap (λ (l : Lun). l.lun) is in let less = behind.1 in absurd (omega (arith, number, less))

    was : slice_get before m ≡ Some old
    was = sym (a.still m not_yet) ∙ here

    below : (k : ℕ) → IsBehind g ce (n + 1) k → k ≢ m → (numbered g k).lun < n
    below k behind other = of ((numbered g k).lun == n) refl
      where
        of : (b : Bool) → ((numbered g k).lun == n) ≡ b → (numbered g k).lun < n
        of true q =
            let number : (numbered g k).lun ≡ n = eqb-true (numbered g k).lun n q in
            let lun : numbered g k ≡ numbered g m = (λ j. record { ce = behind.0 j; lun = number j }) ∙ sym is in
            absurd (other (number_apart g k m lun))
        of false q = let less = behind.1 in grind (arith, nat_tests, less)

    at : (k : ℕ) (d : Die) → IsBehind g ce (n + 1) k → slice_get (set after m new) k ≡ Some d → (b : Bool) → (k == m) ≡ b → (o : Die) × (slice_get before k ≡ Some o) × IsAfter (TargetResetStarted ((numbered g k).lun == 0)) o d
    at k d behind found true q =
        let same : k ≡ m = eqb-true k m q in
        let new_here : d ≡ new = set_here after m new d (ap (slice_get (set after m new)) (sym same) ∙ found) in
        let number : (numbered g k).lun ≡ n = ap (λ (x : ℕ). (numbered g x).lun) same ∙ ap (λ (l : Lun). l.lun) is in
        (old, ap (slice_get before) same ∙ was, subst (λ (x : ℕ). IsAfter (TargetResetStarted (x == 0)) old d) (sym number) (subst (IsAfter (TargetResetStarted (n == 0)) old) (sym new_here) reset))
    at k d behind found false q =
        let other : k ≢ m = grind (arith, nat_tests) in
        a.reset k d (behind.0, below k behind other) (sym (set_other after m k new other) ∙ found)

-- 3. when it has come to all of them, they stand for their LUNs

pub all_reset : (state : BusView) (opened : List Entries) (dies after : List Die) (past : List Item) (c : Cycle) → IsStanding state opened dies past → broken state.geometry (length state.targets) past (Cyc c) ≡ None → FactsFit state.geometry (length state.targets) past → resets_several state.geometry (Cyc c) ≡ true → AreReset state.geometry c.ce state.geometry.luns dies after → StandFor (channel_on state.geometry (length state.targets) opened) (Cyc c ∷ past) after
all_reset state opened dies after past c f h facts several a = λ k new found. at k new found (c.ce == (numbered g k).ce) refl
  where
    g : Parts
    g = state.geometry

    s : Channel
    s = channel_on g (length state.targets) opened

    worked : (k : ℕ) (old new : Die) (e : Effect) → cond (c.ce == (numbered g k).ce) (TargetResetStarted ((numbered g k).lun == 0)) Unaffected ≡ e → IsAfter e old new → IsWorked s past (Cyc c) (numbered g k) old new
    worked k old new e is after =
        subst (λ (x : Filling). WorkedBy g x (effect_on g past (Cyc c) (numbered g k)) old new) (sym (leaves_on g past c (numbered g k) several))
        (subst (λ (x : Effect). IsAfter x old new) (sym (reset_on g past c (numbered g k) several ∙ is)) after)

    at : (k : ℕ) (new : Die) → slice_get after k ≡ Some new → (b : Bool) → (c.ce == (numbered g k).ce) ≡ b → IsDieOf s (Cyc c ∷ past) (numbered g k) new
    at k new found true q =
        let within = slice_get_within after k new found in
        let count = a.count in
        let there = number_there state opened dies past k f (omega (arith, within, count)) in
        let was = a.reset k new (sym (eqb-true c.ce (numbered g k).ce q), there.lun) found in
        die_goes_on state opened dies past (Cyc c) k was.0 new f h facts was.1 (worked k was.0 new _ (ap (λ (b : Bool). cond b (TargetResetStarted ((numbered g k).lun == 0)) Unaffected) q) was.2)
    at k new found false q =
        let same : slice_get dies k ≡ Some new = sym (a.still k (λ behind. apart behind q)) ∙ found in
        die_goes_on state opened dies past (Cyc c) k new new f h facts same (worked k new new _ (ap (λ (b : Bool). cond b (TargetResetStarted ((numbered g k).lun == 0)) Unaffected) q) (rests Unaffected new refl refl))
      where
        apart : IsBehind g c.ce g.luns k → (c.ce == (numbered g k).ce) ≡ false → ⊥
        apart behind q = let yes : (c.ce == (numbered g k).ce) ≡ true = eq-eqb c.ce (numbered g k).ce (sym behind.0) in absurd (cc)

-- 4. each of them can be reset

pub can_reset : (state : BusView) (opened : List Entries) (dies after : List Die) (past : List Item) (ce n m : ℕ) (d : Die) → IsStanding state opened dies past → FactsFit state.geometry (length state.targets) past → ce < length state.targets → n < state.geometry.luns → m ≡ number_of state.geometry (lun_at ce n) → AreReset state.geometry ce n dies after → slice_get after m ≡ Some d → CanWork Leaves (TargetResetStarted (n == 0)) d
can_reset state opened dies after past ce n m d f facts target low place a here =
    let die = subst (λ (l : Lun). IsDieOf (channel_on state.geometry (length state.targets) opened) past l d) is (f.stand m d (sym (a.still m not_yet) ∙ here)) in
    (can_begin state.geometry (lun_view state.geometry past (lun_at ce n)) d (TargetResetStarted (n == 0)) (record { geometry = die.geometry; busy = die.busy; queue = die.queue; array_page = die.array_page }) (facts.lun (lun_at ce n) (record { target = target; lun = low })) tt, refl, tt)
  where
    is : numbered state.geometry m ≡ lun_at ce n
    is = ap (numbered state.geometry) place ∙ numbered_number state.geometry (lun_at ce n) low

    not_yet : IsBehind state.geometry ce n m → ⊥
    not_yet behind = let number : (numbered state.geometry m).lun ≡ n = ap (λ (l : Lun). l.lun) is in let less = behind.1 in absurd (omega (arith, number, less))
