-- A permitted item breaks no rule by what is seen, and what is known afterwards fits what is.
use Rattle.std.proofs.Common.{◌≡◌, ◌⊎◌, inl, inr, ℕ, ◌<◌, Bool, true, false, cond, not, ◌||◌, ◌&&◌, leb, ltb, true≢false, List, [], length, Option, Some, None, refl, sym, ap, ◌∙◌, subst, slice_get, slice_set, get_or, arith}
use Rattle.std.proofs.lemmas.Bool.{ltb-false, or_parts, not-false, not_from_true, not_from_false}
use Rattle.std.proofs.lemmas.List.{set-get_or}
use Rattle.std.proofs.lemmas.Option.{slice_get-get_or}
use Rattle.nand_geometry.specs.declared.parts.Parts.{Parts}
use Rattle.nand_geometry.specs.Optional.{has_enhanced_column, has_plane_reads, has_copyback, has_program_cache}
use Rattle.onfi_cycle.specs.declared.forbidden.Forbidden.{Forbidden}
use Rattle.onfi_cycle.specs.declared.forbidden.Forbidden.TheVariants.{NotThere}
use Rattle.onfi_cycle.specs.declared.item.Cycle.{Cycle}
use Rattle.onfi_cycle.specs.declared.item.Item.{Item}
use Rattle.onfi_cycle.specs.declared.item.Item.TheVariants.{Cyc}
use Rattle.onfi_cycle.specs.declared.command.Command.TheVariants.{Reset}
use Rattle.onfi_cycle.specs.declared.tail_facts.TailFacts.{TailFacts}
use Rattle.onfi_cycle.specs.Effect.{is_shared}
use Rattle.onfi_cycle.specs.LunView.{LunView}
use Rattle.onfi_cycle.specs.Permitted.{judge_cycle, judge_item, judge}
use Rattle.onfi_cycle.specs.Rules.{lun_is, breaks_not_there, breaks_several_luns}
use Rattle.onfi_cycle.specs.Sequence.{facts_of, target_of, target_cycle}
use Rattle.onfi_cycle.specs.declared.target_cycle.TargetCycle.{TargetCycle}
use Rattle.onfi_cycle.specs.declared.target_cycle.TargetCycle.TheVariants.{CommandCycle, AddressCycle, InputCycle, OutputCycle}
use Rattle.onfi_cycle.specs.State.{TargetView, BusView, judged, judged_on as judged_at, target_after, changed_at, bus_after, bus_without, without_sequence, target}
use Rattle.onfi_cycle.proofs.Following.{permitted_there}
use Rattle.onfi_cycle.proofs.Passed.{keeps_rules}
use Rattle.trace_faults.specs.declared.known.Known.{Known}
use Rattle.trace_faults.specs.declared.readies.Readies.TheVariants.{Written}
use Rattle.trace_faults.specs.declared.standing.Standing.{Standing}
use Rattle.trace_faults.specs.declared.trace_state.TraceState.{TraceState}
use Rattle.trace_faults.specs.declared.verdict.Verdict.{Verdict}
use Rattle.trace_faults.specs.declared.verdict.Verdict.TheVariants.{Permitted, PassedOver, Granted}
use Rattle.trace_faults.specs.Outside.{standings_after, opens_sequence}
use Rattle.trace_faults.specs.Recovery.{all_inside, judged_here, gone_on, gone_on_by}
use Rattle.trace_faults.specs.Middle.{Seen, nothing_known, known_of, knows, has_begun, doubts_ready, doubts, hangs_on_before, of_cycle, of_ready, looks_of, is_reset_cycle, is_reset, waits_for_reset, begins_here, learned, is_passed_over, granted_to, seen_by, verdict_here, verdict, seen_after, broken_in, stops_others}
use Rattle.trace_faults.proofs.Judged.{standings_inside, is_inside, judged_inside}
use Rattle.recording_laws.proofs.Luns.{IsNarrow}
use Rattle.recording_laws.proofs.Never.{narrow_of}
use Rattle.recording_laws.proofs.Changed.{IsLearned, under_each, below_each, known_each}
use Rattle.recording_laws.proofs.Rules.{IsKnown, plain_clear, OnlyHangs, only_hangs, only_hangs_fresh, none_broken, none_broken_fresh}
use Rattle.recording_laws.proofs.Lists.{spare_each, Each}
use Rattle.recording_laws.proofs.Targets.{FitsTarget, IsAlone, seen_opened, seen_fresh, granted_opened, granted_fresh, passed_over, known_anew}
use Rattle.recording_laws.proofs.Readies.{IsReady}
use Rattle.recording_laws.proofs.Twins.{reset_judged}
use Rattle.recording_laws.proofs.Shared.{FitsShared, FitsEither, of_plain, of_shared, alike_judged, seen_alike, reset_alike, rests_unseen, either_doubted, either_seen, either_granted}
use Rattle.recording_laws.proofs.Walk.{verdict_is, after_is, put_here, put_length, put_nothing, known_length, FitsBus, puts, learned_there, undoubted, doubt_at}

-- no rule is broken, and what is known fits
pub record Stepped (g : Parts) (bus : BusView) (seen : Seen) (i : Item) (later : List Item) : Type 0 where
  pub broken : (n : ℕ) → broken_in n (verdict Written seen i later) ≡ []
  pub fits : FitsBus g (bus_after i bus) (seen_after Written seen i later)

first_none : (b : Bool) (x : Forbidden) (y : Option Forbidden) → cond b (Some x) y ≡ None → (b ≡ false) × (y ≡ None)
first_none true x y h = cc
first_none false x y h = (refl, h)

no_target : TargetView
no_target = target (facts_of []) []

-- the target of a permitted item, as it is and as it is seen
pub record Here (g : Parts) (bus : BusView) (seen : Seen) (i : Item) : Type 0 where
  pub is : TargetView
  pub shown : TargetView
  pub found : slice_get bus.targets (target_of i) ≡ Some is
  pub found_shown : slice_get seen.state.bus.targets (target_of i) ≡ Some shown
  pub there : target_of i < length bus.targets
  pub permitted : judge g (length bus.targets) is.tail is.luns i ≡ None
  pub judged : judged_here seen.state i ≡ judge g (length bus.targets) shown.tail shown.luns i

pub here_of : (g : Parts) (bus : BusView) (seen : Seen) (i : Item) → FitsBus g bus seen → judged bus i ≡ None → Here g bus seen i
here_of g bus seen i f h =
    let there = permitted_there bus i h in
    let t = get_or bus.targets (target_of i) no_target in
    let s = get_or seen.state.bus.targets (target_of i) no_target in
    let found : slice_get bus.targets (target_of i) ≡ Some t = slice_get-get_or bus.targets (target_of i) no_target there in
    let found_shown : slice_get seen.state.bus.targets (target_of i) ≡ Some s = slice_get-get_or seen.state.bus.targets (target_of i) no_target (omega (arith, there, f.count)) in
    record {
      is = t;
      shown = s;
      found = found;
      found_shown = found_shown;
      there = there;
      permitted =
          sym (ap (λ (x : Parts). judged_at x (length bus.targets) (slice_get bus.targets (target_of i)) i) f.geometry
          ∙ ap (λ (o : Option TargetView). judged_at g (length bus.targets) o i) found)
          ∙ h;
      judged =
          judged_inside seen.state i f.inside
          ∙ ap (λ (x : Parts). judged_at x (length seen.state.bus.targets) (slice_get seen.state.bus.targets (target_of i)) i) f.seen_geometry
          ∙ ap (λ n. judged_at g n (slice_get seen.state.bus.targets (target_of i)) i) f.count
          ∙ ap (λ (o : Option TargetView). judged_at g (length bus.targets) o i) found_shown;
    }

module _ (g : Parts) (bus : BusView) (seen : Seen) (i : Item) (later : List Item) (f : FitsBus g bus seen) (x : Here g bus seen i) where
  abbrev k : Known
  k = known_of seen.known (target_of i)

  low : target_of i < length seen.known
  low = let there = x.there in let few = f.few in let known = f.known in omega (arith, there, few, known)

  fits_here : FitsEither g k x.is x.shown
  fits_here = f.each (target_of i) x.is x.shown x.found x.found_shown

  -- what is told, and what is left
  told : (p : Bool) (v : Verdict) (next : Seen) → is_passed_over seen.state.bus.geometry k i ≡ p → cond p PassedOver (verdict_here seen i) ≡ v → cond p seen (seen_by (verdict_here seen i) i seen) ≡ next → ((n : ℕ) → broken_in n v ≡ []) → FitsBus g (bus_after i bus) next →
      Stepped g bus seen i later
  told p v next over said left none fits =
      let verdict_so : verdict Written seen i later ≡ v = verdict_is seen i later ∙ ap (λ b. cond b PassedOver (verdict_here seen i)) over ∙ said in
      let left_so : seen_after Written seen i later ≡ next = after_is seen i later ∙ ap (λ b. cond b seen (seen_by (verdict_here seen i) i seen)) over ∙ left in
      record {
        broken = λ n. ap (broken_in n) verdict_so ∙ none n;
        fits = subst (FitsBus g (bus_after i bus)) (sym left_so) fits;
      }

  -- the channel as it is goes on, and as it is seen it does by a change of its target
  changed_fits : (h : TargetView → TargetView) (y : Known) (state : TraceState) → state.bus.geometry ≡ g → state.standings ≡ all_inside → state.bus.targets ≡ changed_at h (target_of i) seen.state.bus.targets →
      FitsEither g y (target_after g i x.is) (h x.shown) → FitsBus g (bus_after i bus) (record { state = state; known = slice_set seen.known (target_of i) y })
  changed_fits h y state geometry inside targets own =
      record {
        geometry = f.geometry;
        seen_geometry = geometry;
        inside = inside;
        count = ap length targets ∙ put_length h (target_of i) seen.state.bus.targets ∙ f.count ∙ sym (put_length (target_after bus.geometry i) (target_of i) bus.targets);
        few = let same = put_length (target_after bus.geometry i) (target_of i) bus.targets in let few = f.few in omega (arith, same, few);
        known = known_length seen.known (target_of i) y ∙ f.known;
        each = λ m t s ft fs.
            puts g bus.targets seen.state.bus.targets seen.known (target_of i) y (target_after bus.geometry i) h low f.each (λ a b fa fb. mine a b fa fb) m t s ft (ap (λ (us : List TargetView). slice_get us m) (sym targets) ∙ fs);
      }
    where
      mine : (a b : TargetView) → slice_get bus.targets (target_of i) ≡ Some a → slice_get seen.state.bus.targets (target_of i) ≡ Some b → FitsEither g y (target_after bus.geometry i a) (h b)
      mine a b fa fb =
          let same_a : x.is ≡ a = let found = x.found in cc in
          let same_b : x.shown ≡ b = let found = x.found_shown in cc in
          rw f.geometry (subst (λ (u : TargetView). FitsEither g y (target_after g i u) (h b)) same_a (subst (λ (u : TargetView). FitsEither g y (target_after g i x.is) (h u)) same_b own))

  -- an item that is permitted by what is seen
  abbrev learned_by_it : TraceState → Known
  learned_by_it state = learned seen.state.bus.geometry i (looks_of seen.state.bus (target_of i)) (looks_of state.bus (target_of i)) k

  next_state : judged_here seen.state i ≡ None → gone_on i seen.state ≡ gone_on_by None i seen.state
  next_state h =
      ap (λ b. cond b seen.state (gone_on_by (judged seen.state.bus i) i seen.state)) (is_inside seen.state i f.inside)
      ∙ ap (λ (o : Option Forbidden). gone_on_by o i seen.state) (sym (judged_inside seen.state i f.inside) ∙ h)

  seen_step : judged_here seen.state i ≡ None → is_passed_over seen.state.bus.geometry k i ≡ false → verdict_here seen i ≡ Permitted → FitsEither g (learned_by_it (gone_on_by None i seen.state)) (target_after g i x.is) (target_after g i x.shown) → Stepped g bus seen i later
  seen_step h over said own =
      told false Permitted (record { state = gone_on_by None i seen.state; known = slice_set seen.known (target_of i) (learned_by_it (gone_on_by None i seen.state)) }) over said
      (ap (λ (v : Verdict). seen_by v i seen) said
      ∙ ap (λ (t : TraceState). record { state = t; known = slice_set seen.known (target_of i) (learned_by_it t) }) (next_state h))
      (λ n. refl)
      (changed_fits (target_after seen.state.bus.geometry i) (learned_by_it (gone_on_by None i seen.state)) (gone_on_by None i seen.state) f.seen_geometry
      (ap (λ (xs : List Standing). standings_after None seen.state.bus i xs) f.inside ∙ standings_inside seen.state.bus i) refl
      (subst (λ (y : Parts). FitsEither g (learned_by_it (gone_on_by None i seen.state)) (target_after g i x.is) (target_after y i x.shown)) (sym f.seen_geometry) own))

  -- what is learned of its target
  shown_after : slice_get (bus_after i seen.state.bus).targets (target_of i) ≡ Some (target_after g i x.shown)
  shown_after = put_here (target_after seen.state.bus.geometry i) (target_of i) seen.state.bus.targets x.shown x.found_shown ∙ ap (λ (y : Parts). Some (target_after y i x.shown)) f.seen_geometry

-- ---- cycles

rule_granted : (doubted : Bool) (rule : Forbidden) → doubted ≡ true → hangs_on_before rule ≡ true → of_cycle doubted (Some rule) ≡ Granted rule
rule_granted doubted rule d h = rw (d, h) refl

unfold_there : (n : ℕ) (luns : List LunView) (c : Cycle) → breaks_not_there n luns (Cyc c) ≡ leb n c.ce
unfolding breaks_not_there
unfold_there n luns c = refl

module _ (g : Parts) (bus : BusView) (seen : Seen) (c : Cycle) (later : List Item) (f : FitsBus g bus seen) (x : Here g bus seen (Cyc c)) (narrow : waits_for_reset g ≡ false) where
  still : stops_others g ≡ false
  still = (or_parts (stops_others g) (has_copyback g.optional || has_program_cache g.optional) narrow).0

  plain : is_shared g ≡ false
  plain = (or_parts (is_shared g) (has_enhanced_column g.optional && ltb 1 g.luns) still).0

  copyless : IsNarrow g
  copyless = narrow_of g narrow

  one : IsAlone g
  one = at (has_enhanced_column g.optional) refl (or_parts (is_shared g) (has_enhanced_column g.optional && ltb 1 g.luns) still).1
    where
      at : (b : Bool) → has_enhanced_column g.optional ≡ b → (b && ltb 1 g.luns) ≡ false → IsAlone g
      at true e h = inr (ltb-false 1 g.luns h)
      at false e h = inl e

  abbrev d : TargetCycle
  d = target_cycle c.kind c.byte

  abbrev at : Known
  at = known_of seen.known c.ce

  own : FitsTarget g at x.is x.shown
  own = (fits_here g bus seen (Cyc c) later f x).plain narrow

  parted : (leb (length bus.targets) c.ce ≡ false) × (judge_cycle g x.is.tail x.is.luns d ≡ None)
  parted =
      let p = first_none (breaks_not_there (length bus.targets) x.is.luns (Cyc c)) NotThere (judge_cycle g x.is.tail x.is.luns d) x.permitted in
      (sym (unfold_there (length bus.targets) x.is.luns c) ∙ p.0, p.1)

  kept : judge_cycle g x.is.tail x.is.luns d ≡ None
  kept = parted.1

  -- by what is seen it is judged by its target alone
  judged_so : judged_here seen.state (Cyc c) ≡ judge_cycle g x.shown.tail x.shown.luns d
  judged_so = x.judged ∙ ap (λ b. cond b (Some NotThere) (judge_cycle g x.shown.tail x.shown.luns d)) (unfold_there (length bus.targets) x.shown.luns c ∙ parted.0)

  said_so : (rule : Option Forbidden) → judge_cycle g x.shown.tail x.shown.luns d ≡ rule → verdict_here seen (Cyc c) ≡ of_cycle (doubts seen.state.bus at c.ce) rule
  said_so rule h = ap (of_cycle (doubts seen.state.bus at c.ce)) (judged_so ∙ h)

  known_luns : doubts seen.state.bus at c.ce ≡ false → Each IsKnown x.is.luns x.shown.luns
  known_luns h = known_each (has_plane_reads g.optional) at 0 x.is.luns x.shown.luns own.luns (undoubted seen.state.bus at c.ce x.shown x.found_shown own.few h)

  granted_fits : FitsTarget g nothing_known (target_after g (Cyc c) x.is) (without_sequence x.shown) → FitsBus g (bus_after (Cyc c) bus) (granted_to (Cyc c) seen)
  granted_fits h =
      changed_fits g bus seen (Cyc c) later f x without_sequence nothing_known (record seen.state { bus = bus_without c.ce seen.state.bus }) f.seen_geometry f.inside refl
      (of_plain g nothing_known (target_after g (Cyc c) x.is) (without_sequence x.shown) narrow h)

  -- a rule that is seen to be broken hangs on what was before, and some LUN is in doubt
  granted_step : (rule : Forbidden) → judge_cycle g x.shown.tail x.shown.luns d ≡ Some rule → is_passed_over seen.state.bus.geometry at (Cyc c) ≡ false → hangs_on_before rule ≡ true → (doubts seen.state.bus at c.ce ≡ false → judge_cycle g x.shown.tail x.shown.luns d ≡ None) →
      FitsTarget g nothing_known (target_after g (Cyc c) x.is) (without_sequence x.shown) → Stepped g bus seen (Cyc c) later
  granted_step rule h over hangs known fits =
      let said : verdict_here seen (Cyc c) ≡ Granted rule = said_so (Some rule) h ∙ rule_granted (doubts seen.state.bus at c.ce) rule (in_doubt (doubts seen.state.bus at c.ce) refl) hangs in
      told g bus seen (Cyc c) later f x false (Granted rule) (granted_to (Cyc c) seen) over said (ap (λ (v : Verdict). seen_by v (Cyc c) seen) said) (λ n. refl) (granted_fits fits)
    where
      in_doubt : (b : Bool) → doubts seen.state.bus at c.ce ≡ b → doubts seen.state.bus at c.ce ≡ true
      in_doubt true e = e
      in_doubt false e = let none = known e in cc

  abbrev learned_own : Known
  learned_own = learned_by_it g bus seen (Cyc c) later f x (gone_on_by None (Cyc c) seen.state)

  begins_plain : begins_here seen.state.bus.geometry (Cyc c) ≡ opens_sequence g d
  begins_plain = ap (λ (y : Parts). begins_here y (Cyc c)) f.seen_geometry ∙ ap (λ (b : Bool). cond b (is_reset (Cyc c)) (opens_sequence g d)) narrow

  open_now : at.opened ≡ true ⊎ opens_sequence g d ≡ true → is_passed_over seen.state.bus.geometry at (Cyc c) ≡ false
  open_now (inl h) = rw h refl
  open_now (inr h) = ap (λ (b : Bool). not (at.opened || b)) (begins_plain ∙ h) ∙ not_from_true (at.opened || true) (of at.opened)
    where
      of : (b : Bool) → (b || true) ≡ true
      of true = refl
      of false = refl

  open_later : at.opened ≡ true ⊎ opens_sequence g d ≡ true → learned_own.opened ≡ true
  open_later (inl h) = rw h refl
  open_later (inr h) = ap (λ (b : Bool). at.opened || b) (begins_plain ∙ h) ∙ of at.opened
    where
      of : (b : Bool) → (b || true) ≡ true
      of true = refl
      of false = refl

  permitted_step : at.opened ≡ true ⊎ opens_sequence g d ≡ true → judge_cycle g x.shown.tail x.shown.luns d ≡ None → FitsTarget g learned_own (target_after g (Cyc c) x.is) (target_after g (Cyc c) x.shown) → Stepped g bus seen (Cyc c) later
  permitted_step some h fits = seen_step g bus seen (Cyc c) later f x (judged_so ∙ h) (open_now some) (said_so None h) (of_plain g learned_own (target_after g (Cyc c) x.is) (target_after g (Cyc c) x.shown) narrow fits)

  plain_step : Stepped g bus seen (Cyc c) later
  plain_step = by_opened at.opened refl
    where
      hangs_of : (rule : Forbidden) (o : Option Forbidden) → OnlyHangs o → o ≡ Some rule → hangs_on_before rule ≡ true
      hangs_of rule None h e = cc
      hangs_of rule (Some other) h e = let same : other ≡ rule = cc in ap hangs_on_before (sym same) ∙ h

      learned_now : IsLearned (has_plane_reads g.optional) (Cyc c) at learned_own x.shown.luns (target_after g (Cyc c) x.shown).luns
      learned_now =
          subst (λ (y : Parts). IsLearned (has_plane_reads y.optional) (Cyc c) at learned_own x.shown.luns (target_after g (Cyc c) x.shown).luns) f.seen_geometry
          (learned_there seen.state.bus.geometry (Cyc c) seen.state.bus (bus_after (Cyc c) seen.state.bus) c.ce at x.shown (target_after g (Cyc c) x.shown) x.found_shown (shown_after g bus seen (Cyc c) later f x))

      opened_known : at.opened ≡ true → doubts seen.state.bus at c.ce ≡ false → judge_cycle g x.shown.tail x.shown.luns d ≡ None
      opened_known e h =
          let o = own.opened e in
          ap (λ w. judge_cycle g w x.shown.luns d) (sym o.tail) ∙ none_broken g x.is.luns x.shown.luns (known_luns h) (plain_clear g x.is.luns x.shown.luns plain) (λ has. absurd (true≢false (sym has ∙ copyless.copyback))) x.is.tail d (keeps_rules g x.is.tail x.is.luns d kept)

      opened_step : at.opened ≡ true → (r : Option Forbidden) → judge_cycle g x.shown.tail x.shown.luns d ≡ r → Stepped g bus seen (Cyc c) later
      opened_step e None h = permitted_step (inl e) h (seen_opened g plain copyless at learned_own x.is x.shown c own e (open_later (inl e)) kept h learned_now)
      opened_step e (Some rule) h =
          let o = own.opened e in
          granted_step rule h (open_now (inl e))
          (hangs_of rule (judge_cycle g x.is.tail x.shown.luns d) (only_hangs g copyless x.is.tail x.is.luns x.shown.luns d (under_each x.is.luns x.shown.luns (below_each (has_plane_reads g.optional) at 0 x.is.luns x.shown.luns own.luns)) (plain_clear g x.is.luns x.shown.luns plain) (spare_each x.is.luns x.shown.luns (below_each (has_plane_reads g.optional) at 0 x.is.luns x.shown.luns own.luns)) (keeps_rules g x.is.tail x.is.luns d kept)) (ap (λ w. judge_cycle g w x.shown.luns d) o.tail ∙ h))
          (opened_known e) (granted_opened g plain copyless one at x.is x.shown c own rule e kept h)

      fresh_hangs : (e : TargetCycle) → e ≡ d → opens_sequence g e ≡ true → at.opened ≡ false → OnlyHangs (judge_cycle g x.shown.tail x.shown.luns e)
      fresh_hangs (CommandCycle y) e b h =
          subst (λ w. OnlyHangs (judge_cycle g w x.shown.luns (CommandCycle y))) (sym (own.closed h).tail)
          (only_hangs_fresh g copyless x.is.tail x.is.luns x.shown.luns y b (under_each x.is.luns x.shown.luns (below_each (has_plane_reads g.optional) at 0 x.is.luns x.shown.luns own.luns)) (plain_clear g x.is.luns x.shown.luns plain) (spare_each x.is.luns x.shown.luns (below_each (has_plane_reads g.optional) at 0 x.is.luns x.shown.luns own.luns)) (keeps_rules g x.is.tail x.is.luns (CommandCycle y) (ap (judge_cycle g x.is.tail x.is.luns) e ∙ kept)))
      fresh_hangs (AddressCycle byte) e b h = cc
      fresh_hangs (InputCycle byte) e b h = cc
      fresh_hangs OutputCycle e b h = cc

      fresh_known : (e : TargetCycle) → e ≡ d → opens_sequence g e ≡ true → at.opened ≡ false → doubts seen.state.bus at c.ce ≡ false → judge_cycle g x.shown.tail x.shown.luns e ≡ None
      fresh_known (CommandCycle y) e b h doubt =
          ap (λ w. judge_cycle g w x.shown.luns (CommandCycle y)) (own.closed h).tail
          ∙ none_broken_fresh g x.is.luns x.shown.luns (known_luns doubt) (plain_clear g x.is.luns x.shown.luns plain) copyless (spare_each x.is.luns x.shown.luns (below_each (has_plane_reads g.optional) at 0 x.is.luns x.shown.luns own.luns)) x.is.tail y b
          (known_anew g copyless x.is.tail x.is.luns x.shown.luns y b (keeps_rules g x.is.tail x.is.luns (CommandCycle y) (ap (judge_cycle g x.is.tail x.is.luns) e ∙ kept)) (own.closed h).comes (known_luns doubt))
          (keeps_rules g x.is.tail x.is.luns (CommandCycle y) (ap (judge_cycle g x.is.tail x.is.luns) e ∙ kept))
      fresh_known (AddressCycle byte) e b h doubt = cc
      fresh_known (InputCycle byte) e b h doubt = cc
      fresh_known OutputCycle e b h doubt = cc

      fresh_step : at.opened ≡ false → opens_sequence g d ≡ true → (r : Option Forbidden) → judge_cycle g x.shown.tail x.shown.luns d ≡ r → Stepped g bus seen (Cyc c) later
      fresh_step e b None h = permitted_step (inr b) h (seen_fresh g plain copyless at learned_own x.is x.shown c own e (open_later (inr b)) b kept h learned_now)
      fresh_step e b (Some rule) h =
          granted_step rule h (open_now (inr b)) (hangs_of rule (judge_cycle g x.shown.tail x.shown.luns d) (fresh_hangs d refl b e) h) (fresh_known d refl b e)
          (granted_fresh g plain copyless one at x.is x.shown c own rule e b kept h)

      over : at.opened ≡ false → opens_sequence g d ≡ false → is_passed_over seen.state.bus.geometry at (Cyc c) ≡ true
      over e b = ap (λ (o : Bool). not (o || begins_here seen.state.bus.geometry (Cyc c))) e ∙ ap not (begins_plain ∙ b)

      same_known : slice_set seen.known c.ce at ≡ seen.known
      same_known = set-get_or seen.known c.ce Rattle.trace_faults.specs.Middle.all_known

      passed_step : at.opened ≡ false → opens_sequence g d ≡ false → Stepped g bus seen (Cyc c) later
      passed_step e b =
          told g bus seen (Cyc c) later f x true PassedOver seen (over e b) refl refl (λ n. refl)
          (subst (λ (ks : List Known). FitsBus g (bus_after (Cyc c) bus) (record { state = seen.state; known = ks })) same_known
          (changed_fits g bus seen (Cyc c) later f x (λ s. s) at seen.state f.seen_geometry f.inside (sym (put_nothing c.ce seen.state.bus.targets)) (of_plain g at (target_after g (Cyc c) x.is) x.shown narrow (passed_over g plain copyless one at x.is x.shown c own e b kept))))

      by_begun : at.opened ≡ false → (b : Bool) → opens_sequence g d ≡ b → Stepped g bus seen (Cyc c) later
      by_begun e true b = fresh_step e b (judge_cycle g x.shown.tail x.shown.luns d) refl
      by_begun e false b = passed_step e b

      by_opened : (b : Bool) → at.opened ≡ b → Stepped g bus seen (Cyc c) later
      by_opened true e = opened_step e (judge_cycle g x.shown.tail x.shown.luns d) refl
      by_opened false e = by_begun e (opens_sequence g d) refl

-- ---- cycles of a target that waits for a reset

one_alone : (g : Parts) (luns : List LunView) → is_shared g ≡ false → breaks_several_luns g luns (CommandCycle Reset) ≡ false → ltb 1 g.luns ≡ false
unfolding breaks_several_luns
one_alone g luns plain h = rw plain at h

module _ (g : Parts) (bus : BusView) (seen : Seen) (c : Cycle) (later : List Item) (f : FitsBus g bus seen) (x : Here g bus seen (Cyc c)) (shared : waits_for_reset g ≡ true) where
  abbrev known : Known
  known = known_of seen.known c.ce

  abbrev done : TargetCycle
  done = target_cycle c.kind c.byte

  fit : FitsShared g known x.is x.shown
  fit = (fits_here g bus seen (Cyc c) later f x).shared shared

  split : (leb (length bus.targets) c.ce ≡ false) × (judge_cycle g x.is.tail x.is.luns done ≡ None)
  split =
      let p = first_none (breaks_not_there (length bus.targets) x.is.luns (Cyc c)) NotThere (judge_cycle g x.is.tail x.is.luns done) x.permitted in
      (sym (unfold_there (length bus.targets) x.is.luns c) ∙ p.0, p.1)

  seen_judged : judged_here seen.state (Cyc c) ≡ judge_cycle g x.shown.tail x.shown.luns done
  seen_judged = x.judged ∙ ap (λ b. cond b (Some NotThere) (judge_cycle g x.shown.tail x.shown.luns done)) (unfold_there (length bus.targets) x.shown.luns c ∙ split.0)

  begins_shared : begins_here seen.state.bus.geometry (Cyc c) ≡ is_reset_cycle done
  begins_shared = ap (λ (y : Parts). begins_here y (Cyc c)) f.seen_geometry ∙ ap (λ (b : Bool). cond b (is_reset_cycle done) (opens_sequence g done)) shared

  abbrev known_later : Known
  known_later = learned_by_it g bus seen (Cyc c) later f x (gone_on_by None (Cyc c) seen.state)

  permitted : judge_cycle g x.shown.tail x.shown.luns done ≡ None → is_passed_over seen.state.bus.geometry known (Cyc c) ≡ false → FitsShared g known_later (target_after g (Cyc c) x.is) (target_after g (Cyc c) x.shown) → Stepped g bus seen (Cyc c) later
  permitted h over fits =
      seen_step g bus seen (Cyc c) later f x (seen_judged ∙ h) over (ap (of_cycle (doubts seen.state.bus known c.ce)) (seen_judged ∙ h))
      (of_shared g known_later (target_after g (Cyc c) x.is) (target_after g (Cyc c) x.shown) shared fits)

  reset_is : (d : TargetCycle) → is_reset_cycle d ≡ true → d ≡ CommandCycle Reset
  reset_is (CommandCycle Reset) h = refl
  reset_is d h = cc

  or_true : (b : Bool) → (b || true) ≡ true
  or_true true = refl
  or_true false = refl

  -- a permitted reset is of all LUNs, or of the one LUN of its target
  reset_can : done ≡ CommandCycle Reset → (is_shared g ≡ true) ⊎ ((is_shared g ≡ false) × (ltb 1 g.luns ≡ false))
  reset_can reset = at (is_shared g) refl
    where
      kept : breaks_several_luns g x.is.luns (CommandCycle Reset) ≡ false
      kept = ap (λ (d : TargetCycle). breaks_several_luns g x.is.luns d) (sym reset) ∙ (keeps_rules g x.is.tail x.is.luns done split.1).f4

      at : (b : Bool) → is_shared g ≡ b → (is_shared g ≡ true) ⊎ ((is_shared g ≡ false) × (ltb 1 g.luns ≡ false))
      at true e = inl e
      at false e = inr (e, one_alone g x.is.luns e kept)

  shared_step : Stepped g bus seen (Cyc c) later
  shared_step = at known.opened refl (is_reset_cycle done) refl
    where
      at : (b : Bool) → known.opened ≡ b → (r : Bool) → is_reset_cycle done ≡ r → Stepped g bus seen (Cyc c) later
      at true e r is =
          permitted (alike_judged g known known_later x.is x.shown c fit e split.1)
          (ap (λ (o : Bool). not (o || begins_here seen.state.bus.geometry (Cyc c))) e)
          (seen_alike g known known_later x.is x.shown c fit e (ap (λ (o : Bool). o || begins_here seen.state.bus.geometry (Cyc c)) e) split.1)
      at false e true is =
          let reset = reset_is done is in
          permitted
          (ap (λ (d : TargetCycle). judge_cycle g x.shown.tail x.shown.luns d) reset ∙ ap (λ (u : TailFacts). judge_cycle g u x.shown.luns (CommandCycle Reset)) (fit.closed e).tail ∙ reset_judged g x.shown.luns (reset_can reset))
          (ap (λ (o : Bool). not (known.opened || o)) (begins_shared ∙ is) ∙ not_from_true (known.opened || true) (or_true known.opened))
          (reset_alike g known known_later x.is x.shown c fit reset (ap (λ (o : Bool). known.opened || o) (begins_shared ∙ is) ∙ or_true known.opened))
      at false e false is =
          told g bus seen (Cyc c) later f x true PassedOver seen (ap (λ (o : Bool). not (o || begins_here seen.state.bus.geometry (Cyc c))) e ∙ ap not (begins_shared ∙ is)) refl refl (λ n. refl)
          (subst (λ (ks : List Known). FitsBus g (bus_after (Cyc c) bus) (record { state = seen.state; known = ks })) (set-get_or seen.known c.ce Rattle.trace_faults.specs.Middle.all_known)
          (changed_fits g bus seen (Cyc c) later f x (λ s. s) known seen.state f.seen_geometry f.inside (sym (put_nothing c.ce seen.state.bus.targets))
          (of_shared g known (target_after g (Cyc c) x.is) x.shown shared (rests_unseen g known known_later x.is x.shown c fit e))))

pub cycle_step : (g : Parts) (bus : BusView) (seen : Seen) (c : Cycle) (later : List Item) (f : FitsBus g bus seen) (x : Here g bus seen (Cyc c)) → Stepped g bus seen (Cyc c) later
cycle_step g bus seen c later f x = at (waits_for_reset g) refl
  where
    at : (b : Bool) → waits_for_reset g ≡ b → Stepped g bus seen (Cyc c) later
    at true e = shared_step g bus seen c later f x e
    at false e = plain_step g bus seen c later f x e

-- ---- readies

module _ (g : Parts) (bus : BusView) (seen : Seen) (i : Item) (later : List Item) (f : FitsBus g bus seen) (x : Here g bus seen i) (lun : ℕ) (e : Rattle.onfi_cycle.specs.declared.effect.Effect.Effect) (works : LunView → Bool) (is : IsReady i lun e works)
    (there : (n : ℕ) (luns : List LunView) → breaks_not_there n luns i ≡ (leb n (target_of i) || not (lun_is works luns lun))) (plain : (t : TargetView) → judge_item g t.tail t.luns i ≡ None)
    (says : verdict_here seen i ≡ of_ready (doubts_ready seen.state.bus (known_of seen.known (target_of i)) (target_of i) lun) (judged_here seen.state i)) (never : is_passed_over seen.state.bus.geometry (known_of seen.known (target_of i)) i ≡ false)
    (grants_nothing : (rule : Forbidden) → seen_by (Granted rule) i seen ≡ seen) (opens_nothing : (before after : BusView) → (learned seen.state.bus.geometry i (looks_of before (target_of i)) (looks_of after (target_of i)) (known_of seen.known (target_of i))).opened ≡ (known_of seen.known (target_of i)).opened) where
  abbrev of_it : Known
  of_it = known_of seen.known (target_of i)

  mine : FitsEither g of_it x.is x.shown
  mine = fits_here g bus seen i later f x

  split_there : (leb (length bus.targets) (target_of i) ≡ false) × (lun_is works x.is.luns lun ≡ true)
  split_there =
      let p = first_none (breaks_not_there (length bus.targets) x.is.luns i) NotThere (judge_item g x.is.tail x.is.luns i) x.permitted in
      let o = or_parts (leb (length bus.targets) (target_of i)) (not (lun_is works x.is.luns lun)) (sym (there (length bus.targets) x.is.luns) ∙ p.0) in
      (o.0, not-false (lun_is works x.is.luns lun) o.1)

  seen_so : judged_here seen.state i ≡ cond (not (lun_is works x.shown.luns lun)) (Some NotThere) None
  seen_so =
      x.judged
      ∙ ap (λ b. cond b (Some NotThere) (judge_item g x.shown.tail x.shown.luns i)) (there (length bus.targets) x.shown.luns)
      ∙ ap (λ b. cond (b || not (lun_is works x.shown.luns lun)) (Some NotThere) (judge_item g x.shown.tail x.shown.luns i)) split_there.0
      ∙ ap (λ (o : Option Forbidden). cond (not (lun_is works x.shown.luns lun)) (Some NotThere) o) (plain x.shown)

  pub ready_step : Stepped g bus seen i later
  ready_step = at (lun_is works x.shown.luns lun) refl
    where
      works_there : lun_is works x.shown.luns lun ≡ true → judged_here seen.state i ≡ None
      works_there h = seen_so ∙ ap (λ b. cond (not b) (Some NotThere) None) h

      idle_there : lun_is works x.shown.luns lun ≡ false → judged_here seen.state i ≡ Some NotThere
      idle_there h = seen_so ∙ ap (λ b. cond (not b) (Some NotThere) None) h

      doubt : lun_is works x.shown.luns lun ≡ false → doubts_ready seen.state.bus of_it (target_of i) lun ≡ true
      doubt h =
          let y = either_doubted i lun e works is g of_it of_it x.is x.shown mine split_there.1 h in
          doubt_at seen.state.bus of_it (target_of i) lun x.shown y.lun_seen x.found_shown y.found (has_begun (knows of_it lun)) ∙ not_from_false (has_begun (knows of_it lun)) y.none

      said : lun_is works x.shown.luns lun ≡ false → verdict_here seen i ≡ Granted NotThere
      said h =
          says
          ∙ ap (of_ready (doubts_ready seen.state.bus of_it (target_of i) lun)) (idle_there h)
          ∙ ap (λ b. of_ready b (Some NotThere)) (doubt h)

      at : (b : Bool) → lun_is works x.shown.luns lun ≡ b → Stepped g bus seen i later
      at true h =
          seen_step g bus seen i later f x (works_there h) never (says ∙ ap (of_ready (doubts_ready seen.state.bus of_it (target_of i) lun)) (works_there h))
          (either_seen i lun e works is g of_it (learned_by_it g bus seen i later f x (gone_on_by None i seen.state)) x.is x.shown mine h
          (subst (λ (y : Parts). IsLearned (has_plane_reads y.optional) i of_it (learned_by_it g bus seen i later f x (gone_on_by None i seen.state)) x.shown.luns (target_after g i x.shown).luns) f.seen_geometry
          (learned_there seen.state.bus.geometry i seen.state.bus (bus_after i seen.state.bus) (target_of i) of_it x.shown (target_after g i x.shown) x.found_shown (shown_after g bus seen i later f x)))
          (opens_nothing seen.state.bus (bus_after i seen.state.bus)))
      at false h =
          let y = either_doubted i lun e works is g of_it of_it x.is x.shown mine split_there.1 h in
          told g bus seen i later f x false (Granted NotThere) seen never (said h) (ap (λ (v : Verdict). seen_by v i seen) (said h) ∙ grants_nothing NotThere) (λ n. refl)
          (subst (λ (ks : List Known). FitsBus g (bus_after i bus) (record { state = seen.state; known = ks })) (set-get_or seen.known (target_of i) Rattle.trace_faults.specs.Middle.all_known)
          (changed_fits g bus seen i later f x (λ s. s) of_it seen.state f.seen_geometry f.inside (sym (put_nothing (target_of i) seen.state.bus.targets)) (either_granted i lun e works is g of_it of_it x.is x.shown mine split_there.1 h y.none)))
