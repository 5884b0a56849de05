-- After a past that is legal in the base profile: on a target with several LUNs each LUN is what it is there, but for what it shows where
-- several show something.
use Rattle.std.proofs.Common.{◌≡◌, ℕ, ◌<◌, ◌==◌, Bool, true, false, ◌&&◌, ◌||◌, cond, ltb, List, [], ◌∷◌, Option, Some, None, refl, sym, arith, subst, eqb-true, not}
use Rattle.std.proofs.lemmas.Bool.{not-false, and_parts, or_parts}
use Rattle.nand_geometry.specs.declared.parts.Parts.{Parts}
use Rattle.nand_geometry.specs.Optional.{is_wide}
use Rattle.onfi_cycle.specs.declared.command.Command.{Command}
use Rattle.onfi_cycle.specs.declared.command.Command.TheVariants.{ChangeReadColumn, ChangeReadColumnConfirm, ReadCacheSequential, ReadCacheEnd, ChangeReadColumnEnhanced}
use Rattle.onfi_cycle.specs.declared.effect.Effect.{Effect}
use Rattle.onfi_cycle.specs.declared.effect.Effect.TheVariants.{Unaffected, BecameReady, ArrayBecameReady}
use Rattle.onfi_cycle.specs.declared.item.Cycle.{Cycle}
use Rattle.onfi_cycle.specs.declared.item.Failures.{Failures}
use Rattle.onfi_cycle.specs.declared.item.Item.{Item}
use Rattle.onfi_cycle.specs.declared.item.Item.TheVariants.{Cyc, Rdy, Ard}
use Rattle.onfi_cycle.specs.declared.latch.Latch.{Latch}
use Rattle.onfi_cycle.specs.declared.latch.Latch.TheVariants.{Off}
use Rattle.onfi_cycle.specs.declared.opening.Opening.{Opening}
use Rattle.onfi_cycle.specs.declared.tail_facts.TailFacts.{TailFacts}
use Rattle.onfi_cycle.specs.declared.target_cycle.TargetCycle.{TargetCycle}
use Rattle.onfi_cycle.specs.declared.target_cycle.TargetCycle.TheVariants.{CommandCycle, AddressCycle, InputCycle, OutputCycle}
use Rattle.onfi_cycle.specs.declared.lun.Lun.{Lun}
use Rattle.onfi_cycle.specs.LunView.{LunView}
use Rattle.onfi_cycle.specs.Base.{is_of_base}
use Rattle.onfi_cycle.specs.Command.{closes, address_cycles, is_change_read_column, wants_one_lun}
use Rattle.onfi_cycle.specs.Sequence.{opened, tail, target_cycle, facts_of, is_open, wants_command}
use Rattle.onfi_cycle.specs.Effect.{is_shared, cycle_effect}
use Rattle.onfi_cycle.specs.Lun.{latch, latch_alone, latch_after, closer, is_target_work, drivers, is_only, is_selected, is_busy, is_array_busy, effect_on, effect_among, lun_view, luns_of}
use Rattle.onfi_cycle.specs.Applied.{asks_driver}
use Rattle.onfi_cycle.specs.Rules.{driver_is, continues_cache, ends_cache, breaks_several_luns, breaks_command_misplaced, breaks_no_sole_driver, breaks_cache_read_misplaced, breaks_sequence_open}
use Rattle.onfi_cycle.specs.Permitted.{broken, is_legal}
use Rattle.onfi_cycle.proofs.Latches.{IsOne}
use Rattle.onfi_cycle.proofs.Others.{other_openings, chosen_else}
use Rattle.onfi_cycle.proofs.Passed.{KeepsRules, permitted_keeps}
use Rattle.onfi_profiles.specs.Widening.{in_base}
use Rattle.onfi_profiles.proofs.OldTails.{AreOfBase, facts_base, tails_kept, base_cycle}
use Rattle.onfi_profiles.proofs.Turns.{Turn, kept, Shows, alike, shows_on, alike_by_sole, drivers_same}
use Rattle.onfi_profiles.proofs.Shared.{IsPlain, Like, equal, core, one_lun_cycle, cycle_turn, cycle_like, core_on, calm_on}
use Rattle.onfi_profiles.proofs.Pasts.{lun_at, both_legal, in_column, driver_one, column_driver, read_inside}
use Rattle.onfi_profiles.proofs.Unwanted.{unwanted}

-- what each LUN of a target is in both profiles
pub record AreAlike (g : Parts) (past : List Item) (ce : ℕ) : Type 0 where
  pub shows : (m : ℕ) → m < g.luns → Shows g.luns (λ k. latch (in_base g) past (lun_at ce k)) (λ k. latch g past (lun_at ce k)) m
  pub rest : (m : ℕ) → m < g.luns → core (lun_view (in_base g) past (lun_at ce m)) ≡ core (lun_view g past (lun_at ce m))
  pub calm : (m : ℕ) → m < g.luns → is_target_work (closer (in_base g) past (lun_at ce m)) ≡ false

several : (g : Parts) → is_shared g ≡ true → ltb 1 g.luns ≡ true
several g shared = (and_parts (is_wide g.optional) (ltb 1 g.luns) shared).1

-- 1. what a permitted cycle finds

one_false : (a b : Bool) → (a && b) ≡ false → b ≡ true → a ≡ false
one_false true b h e = cc
one_false false b h e = refl

command_is_of_one : (g : Parts) (luns : List LunView) (k : TargetCycle) → ltb 1 g.luns ≡ true → breaks_several_luns (in_base g) luns k ≡ false → one_lun_cycle k ≡ false
unfolding breaks_several_luns
command_is_of_one g luns (CommandCycle c) more h = one_false (wants_one_lun c) (ltb 1 g.luns) h more
command_is_of_one g luns (AddressCycle byte) more h = refl
command_is_of_one g luns (InputCycle byte) more h = refl
command_is_of_one g luns OutputCycle more h = refl

pub base_tail : (g : Parts) (targets : ℕ) (past : List Item) (ce : ℕ) → is_legal (in_base g) targets past ≡ true → AreOfBase (facts_of (tail past ce))
base_tail g targets past ce legal = subst AreOfBase (sym (tails_kept g targets past ce legal)) (facts_base g targets past ce legal)

pub plain : (g : Parts) (targets : ℕ) (past : List Item) (c : Cycle) (ce : ℕ) → is_shared g ≡ true → is_legal (in_base g) targets past ≡ true → broken (in_base g) targets past (Cyc c) ≡ None → c.ce ≡ ce → IsPlain g (facts_of (tail past ce)) (target_cycle c.kind c.byte)
plain g targets past c ce shared legal h here =
    let old = base_tail g targets past ce legal in
    record {
      command = command_is_of_one g (luns_of (in_base g) past c.ce) (target_cycle c.kind c.byte) (several g shared) (permitted_keeps (in_base g) targets past c h).f4;
      base = base_cycle g (target_cycle c.kind c.byte) (permitted_keeps (in_base g) targets past c h).f2;
      opener = old.opener;
      identity = (other_openings (in_base g) targets past ce refl (several g shared) legal).opens;
      phase = old.phase;
      inside = read_inside (in_base g) targets past ce legal;
      alone = λ is. unwanted (in_base g) (facts_of (tail past ce)) refl
          (subst (λ (k : TargetCycle). breaks_sequence_open (in_base g) (facts_of (tail past ce)) k ≡ false) is
          (subst (λ (x : ℕ). breaks_sequence_open (in_base g) (facts_of (tail past x)) (target_cycle c.kind c.byte) ≡ false) here (permitted_keeps (in_base g) targets past c h).f3));
    }

column_wanted : (o : Option Opening) → opened (λ c n. not (is_of_base c)) o ≡ false → opened (λ c n. closes c ChangeReadColumnConfirm && n == address_cycles c) o ≡ true → in_column o ≡ true
column_wanted None base h = cc
column_wanted (Some o) base h = of o.opener o.addresses base h
  where
    of : (c : Command) (n : ℕ) → not (is_of_base c) ≡ false → (closes c ChangeReadColumnConfirm && n == address_cycles c) ≡ true → is_change_read_column c ≡ true
    of ChangeReadColumn n base h = refl
    of ChangeReadColumnEnhanced n base h = cc
    of c n base h = cc

-- a cycle whose work hangs on the one driver finds one
sole : (g : Parts) (targets : ℕ) (past : List Item) (c : Cycle) (ce : ℕ) → is_legal (in_base g) targets past ≡ true → broken (in_base g) targets past (Cyc c) ≡ None → c.ce ≡ ce → asks_driver (target_cycle c.kind c.byte) ≡ true → IsOne (drivers (in_base g) past ce)
unfolding breaks_command_misplaced breaks_no_sole_driver breaks_cache_read_misplaced
sole g targets past c ce legal h here asks =
    subst (λ (x : ℕ). IsOne (drivers (in_base g) past x)) here
    (of (target_cycle c.kind c.byte) asks (permitted_keeps (in_base g) targets past c h))
  where
    of : (k : TargetCycle) → asks_driver k ≡ true → KeepsRules (in_base g) (facts_of (tail past c.ce)) (luns_of (in_base g) past c.ce) k → IsOne (drivers (in_base g) past c.ce)
    of (CommandCycle ReadCacheSequential) asks r =
        let f15 : not (driver_is (continues_cache (in_base g)) (luns_of (in_base g) past c.ce)) ≡ false = chosen_else (wants_command (facts_of (tail past c.ce)) ReadCacheSequential) _ _ r.f15 (unwanted (in_base g) (facts_of (tail past c.ce)) refl r.f3) in
        driver_one (in_base g) past c.ce (continues_cache (in_base g)) (not-false (driver_is (continues_cache (in_base g)) (luns_of (in_base g) past c.ce)) f15)
    of (CommandCycle ReadCacheEnd) asks r = driver_one (in_base g) past c.ce ends_cache (not-false (driver_is ends_cache (luns_of (in_base g) past c.ce)) r.f15)
    of (CommandCycle ChangeReadColumnConfirm) asks r = column_driver (in_base g) targets past c.ce legal (column_wanted _ (base_tail g targets past c.ce legal).opener (not-false (wants_command (facts_of (tail past c.ce)) ChangeReadColumnConfirm) r.f6))
    of (CommandCycle c) asks r = cc
    of (AddressCycle byte) asks r = cc
    of (InputCycle byte) asks r = cc
    of OutputCycle asks r = driver_one (in_base g) past c.ce (λ v. true) (not-false _ (or_parts (is_open (facts_of (tail past c.ce))) _ r.f12).1)

-- where one LUN alone drives, all show the same, alone too
pub same_latches : (g : Parts) (past : List Item) (ce : ℕ) → AreAlike g past ce → IsOne (drivers (in_base g) past ce) → (m : ℕ) → m < g.luns → latch g past (lun_at ce m) ≡ latch (in_base g) past (lun_at ce m)
same_latches g past ce a one m low = alike_by_sole g.luns one.m (λ k. latch (in_base g) past (lun_at ce k)) (λ k. latch g past (lun_at ce k)) a.shows one.is m low

pub same_drivers : (g : Parts) (past : List Item) (ce : ℕ) → AreAlike g past ce → IsOne (drivers (in_base g) past ce) → drivers g past ce ≡ drivers (in_base g) past ce
same_drivers g past ce a one = drivers_same (λ k. latch (in_base g) past (lun_at ce k)) (λ k. latch g past (lun_at ce k)) g.luns 0 (λ m low. same_latches g past ce a one m (omega (arith, low)))

same_alone : (g : Parts) (past : List Item) (ce : ℕ) → AreAlike g past ce → IsOne (drivers (in_base g) past ce) → (m : ℕ) → m < g.luns → latch_alone g past (lun_at ce m) ≡ latch_alone (in_base g) past (lun_at ce m)
same_alone g past ce a one m low = λ i. cond (is_only (same_drivers g past ce a one i) m) (same_latches g past ce a one m low i) Off

-- 2. one item more

kept_turn : (count : ℕ) (lb lw : ℕ → Latch) (b : Bool) (e : Effect) (sb wb sw ww : ℕ → Bool) → ((s w : Bool) (l : Latch) → latch_after e s w l ≡ l) → (test : ℕ → Bool) → Turn count lb lw (λ m. latch_after (cond (b && test m) e Unaffected) (sb m) (wb m) (lb m)) (λ m. latch_after (cond (b && test m) e Unaffected) (sw m) (ww m) (lw m))
kept_turn count lb lw b e sb wb sw ww h test = kept (λ x. x) refl (λ x on. on) (λ m low. either (b && test m) (sb m) (wb m) (lb m)) (λ m low. either (b && test m) (sw m) (ww m) (lw m))
  where
    either : (b s w : Bool) (l : Latch) → latch_after (cond b e Unaffected) s w l ≡ l
    either true s w l = h s w l
    either false s w l = refl

ready_like : (b : Bool) (e : Effect) → Like e e → Like (cond b e Unaffected) (cond b e Unaffected)
ready_like true e h = h
ready_like false e h = equal refl refl

ready_step : (g : Parts) (past : List Item) (a b ce : ℕ) (f : Failures) → AreAlike g past ce → AreAlike g (Rdy a b f ∷ past) ce
unfolding effect_among
ready_step g past a b ce f before =
    record {
      shows = shows_on g.luns _ _ _ _ (kept_turn g.luns (λ k. latch (in_base g) past (lun_at ce k)) (λ k. latch g past (lun_at ce k)) (a == ce) (BecameReady f) (λ m. is_selected (in_base g) past (lun_at ce m)) (λ m. is_busy (in_base g) past (lun_at ce m) || is_array_busy (in_base g) past (lun_at ce m)) (λ m. is_selected g past (lun_at ce m)) (λ m. is_busy g past (lun_at ce m) || is_array_busy g past (lun_at ce m)) (λ s w l. refl) (λ m. b == m)) before.shows;
      rest = λ m low. core_on _ _ (lun_view (in_base g) past (lun_at ce m)) (lun_view g past (lun_at ce m)) (ready_like (a == ce && b == m) (BecameReady f) (equal refl refl)) (before.rest m low);
      calm = λ m low. calm_on _ _ (closer (in_base g) past (lun_at ce m)) (ready_like (a == ce && b == m) (BecameReady f) (equal refl refl)) (before.calm m low);
    }

array_ready_step : (g : Parts) (past : List Item) (a b ce : ℕ) (fail : Bool) → AreAlike g past ce → AreAlike g (Ard a b fail ∷ past) ce
unfolding effect_among
array_ready_step g past a b ce fail before =
    record {
      shows = shows_on g.luns _ _ _ _ (kept_turn g.luns (λ k. latch (in_base g) past (lun_at ce k)) (λ k. latch g past (lun_at ce k)) (a == ce) (ArrayBecameReady fail) (λ m. is_selected (in_base g) past (lun_at ce m)) (λ m. is_busy (in_base g) past (lun_at ce m) || is_array_busy (in_base g) past (lun_at ce m)) (λ m. is_selected g past (lun_at ce m)) (λ m. is_busy g past (lun_at ce m) || is_array_busy g past (lun_at ce m)) (λ s w l. refl) (λ m. b == m)) before.shows;
      rest = λ m low. core_on _ _ (lun_view (in_base g) past (lun_at ce m)) (lun_view g past (lun_at ce m)) (ready_like (a == ce && b == m) (ArrayBecameReady fail) (equal refl refl)) (before.rest m low);
      calm = λ m low. calm_on _ _ (closer (in_base g) past (lun_at ce m)) (ready_like (a == ce && b == m) (ArrayBecameReady fail) (equal refl refl)) (before.calm m low);
    }

-- a cycle, here or on another target
here_or_not : (g : Parts) (t : TailFacts) (k : TargetCycle) (lb lw la law : ℕ → Latch) (sb wb sw ww : ℕ → Bool) (b : Bool) → (b ≡ true → Turn g.luns lb lw (λ m. latch_after (cycle_effect (in_base g) t (la m) k m) (sb m) (wb m) (lb m)) (λ m. latch_after (cycle_effect g t (law m) k m) (sw m) (ww m) (lw m))) → Turn g.luns lb lw (λ m. latch_after (cond b (cycle_effect (in_base g) t (la m) k m) Unaffected) (sb m) (wb m) (lb m)) (λ m. latch_after (cond b (cycle_effect g t (law m) k m) Unaffected) (sw m) (ww m) (lw m))
here_or_not g t k lb lw la law sb wb sw ww true f = f refl
here_or_not g t k lb lw la law sb wb sw ww false f = kept (λ x. x) refl (λ x on. on) (λ m low. refl) (λ m low. refl)

like_or_not : (b : Bool) (x y : Effect) → (b ≡ true → Like x y) → Like (cond b x Unaffected) (cond b y Unaffected)
like_or_not true x y f = f refl
like_or_not false x y f = equal refl refl

cycle_step : (g : Parts) (targets : ℕ) (past : List Item) (c : Cycle) (ce : ℕ) → is_shared g ≡ true → is_legal (in_base g) targets past ≡ true → broken (in_base g) targets past (Cyc c) ≡ None → AreAlike g past ce → AreAlike g (Cyc c ∷ past) ce
unfolding effect_among
cycle_step g targets past c ce shared legal h before =
    record {
      shows = shows_on g.luns _ _ _ _
          (here_or_not g (facts_of (tail past ce)) (target_cycle c.kind c.byte) (λ k. latch (in_base g) past (lun_at ce k)) (λ k. latch g past (lun_at ce k)) (λ k. latch (in_base g) past (lun_at ce k)) (λ k. latch g past (lun_at ce k)) (λ m. is_selected (in_base g) past (lun_at ce m)) (λ m. is_busy (in_base g) past (lun_at ce m) || is_array_busy (in_base g) past (lun_at ce m)) (λ m. is_selected g past (lun_at ce m)) (λ m. is_busy g past (lun_at ce m) || is_array_busy g past (lun_at ce m)) (c.ce == ce)
          (λ e. cycle_turn g (facts_of (tail past ce)) (target_cycle c.kind c.byte) shared (plain g targets past c ce shared legal h (eqb-true c.ce ce e)) (λ k. latch (in_base g) past (lun_at ce k)) (λ k. latch g past (lun_at ce k)) (λ k. latch (in_base g) past (lun_at ce k)) (λ k. latch g past (lun_at ce k)) (λ m. is_selected (in_base g) past (lun_at ce m)) (λ m. is_busy (in_base g) past (lun_at ce m) || is_array_busy (in_base g) past (lun_at ce m)) (λ m. is_selected g past (lun_at ce m)) (λ m. is_busy g past (lun_at ce m) || is_array_busy g past (lun_at ce m))
          (λ asks m low. (same_latches g past ce before (one e asks) m low, same_latches g past ce before (one e asks) m low))))
          before.shows;
      rest = λ m low. core_on _ _ (lun_view (in_base g) past (lun_at ce m)) (lun_view g past (lun_at ce m)) (like m low) (before.rest m low);
      calm = λ m low. calm_on _ _ (closer (in_base g) past (lun_at ce m)) (like m low) (before.calm m low);
    }
  where
    one : (c.ce == ce) ≡ true → asks_driver (target_cycle c.kind c.byte) ≡ true → IsOne (drivers (in_base g) past ce)
    one e asks = sole g targets past c ce legal h (eqb-true c.ce ce e) asks

    like : (m : ℕ) → m < g.luns → Like (cond (c.ce == ce) (cycle_effect (in_base g) (facts_of (tail past ce)) (latch_alone (in_base g) past (lun_at ce m)) (target_cycle c.kind c.byte) m) Unaffected) (cond (c.ce == ce) (cycle_effect g (facts_of (tail past ce)) (latch_alone g past (lun_at ce m)) (target_cycle c.kind c.byte) m) Unaffected)
    like m low = like_or_not (c.ce == ce) _ _ (λ e. cycle_like g (facts_of (tail past ce)) (target_cycle c.kind c.byte) m (latch_alone (in_base g) past (lun_at ce m)) (latch_alone g past (lun_at ce m)) (plain g targets past c ce shared legal h (eqb-true c.ce ce e)) (λ asks. same_alone g past ce before (one e asks) m low))

pub are_alike : (g : Parts) (targets : ℕ) (past : List Item) (ce : ℕ) → is_shared g ≡ true → is_legal (in_base g) targets past ≡ true → AreAlike g past ce
are_alike g targets [] ce shared legal = record { shows = λ m low. alike refl; rest = λ m low. refl; calm = λ m low. refl }
are_alike g targets (Rdy a b f ∷ past) ce shared legal = ready_step g past a b ce f (are_alike g targets past ce shared (both_legal (in_base g) targets past (Rdy a b f) legal).1)
are_alike g targets (Ard a b fail ∷ past) ce shared legal = array_ready_step g past a b ce fail (are_alike g targets past ce shared (both_legal (in_base g) targets past (Ard a b fail) legal).1)
are_alike g targets (Cyc c ∷ past) ce shared legal =
    let parts = both_legal (in_base g) targets past (Cyc c) legal in
    cycle_step g targets past c ce shared parts.1 parts.0 (are_alike g targets past ce shared parts.1)

-- what an item does to a LUN in both
pub effects_like : (g : Parts) (targets : ℕ) (past : List Item) (i : Item) (l : Lun) → is_shared g ≡ true → is_legal (in_base g) targets past ≡ true → broken (in_base g) targets past i ≡ None → l.lun < g.luns → Like (effect_on (in_base g) past i l) (effect_on g past i l)
unfolding effect_among
effects_like g targets past (Rdy a b f) l shared legal h low = ready_like (a == l.ce && b == l.lun) (BecameReady f) (equal refl refl)
effects_like g targets past (Ard a b fail) l shared legal h low = ready_like (a == l.ce && b == l.lun) (ArrayBecameReady fail) (equal refl refl)
effects_like g targets past (Cyc c) l shared legal h low =
    like_or_not (c.ce == l.ce) _ _
    (λ e. cycle_like g (facts_of (tail past l.ce)) (target_cycle c.kind c.byte) l.lun (latch_alone (in_base g) past (lun_at l.ce l.lun)) (latch_alone g past (lun_at l.ce l.lun)) (plain g targets past c l.ce shared legal h (eqb-true c.ce l.ce e))
    (λ asks. same_alone g past l.ce (are_alike g targets past l.ce shared legal) (sole g targets past c l.ce legal h (eqb-true c.ce l.ce e) asks) l.lun low))
