-- No rule is seen to be broken by a part of a legal trace.
use Rattle.std.proofs.Common.{◌≡◌, ℕ, zero, suc, ◌+◌, ◌<◌, ◌≤◌, Bool, true, false, cond, not, ◌||◌, leb, List, [], ◌∷◌, ◌++◌, length, reverse, Some, None, refl, sym, ap, ◌∙◌, subst, slice_get, arith, lt-ltb}
use Rattle.std.proofs.lemmas.Bool.{and_parts}
use Rattle.std.proofs.lemmas.List.{reverse-append}
use Rattle.std.proofs.lemmas.Option.{slice_get_within}
use Rattle.nand_geometry.specs.declared.parts.Parts.{Parts}
use Rattle.nand_geometry.specs.Optional.{has_plane_reads}
use Rattle.onfi_cycle.specs.declared.effect.Effect.TheVariants.{BecameReady, ArrayBecameReady}
use Rattle.onfi_cycle.specs.declared.item.Failures.{Failures}
use Rattle.onfi_cycle.specs.declared.item.Item.{Item}
use Rattle.onfi_cycle.specs.declared.item.Item.TheVariants.{Cyc, Rdy, Ard}
use Rattle.onfi_cycle.specs.declared.lun.Lun.{Lun}
use Rattle.onfi_cycle.specs.Lun.{lun_view, views_from, luns_of}
use Rattle.onfi_cycle.specs.LunView.{LunView}
use Rattle.onfi_cycle.specs.Permitted.{broken, is_permitted, is_legal}
use Rattle.onfi_cycle.specs.Rules.{lun_is, breaks_not_there}
use Rattle.onfi_cycle.specs.State.{TargetView, BusView, Follows, judged, target_view, targets_from, bus, bus_after}
use Rattle.onfi_cycle.proofs.Following.{found_target, targets_length, judged_is_broken, bus_goes_on}
use Rattle.onfi_cycle.proofs.Keeping.{views_length}
use Rattle.trace_faults.specs.declared.broken_rule.BrokenRule.{BrokenRule}
use Rattle.trace_faults.specs.declared.known.Known.{Known}
use Rattle.trace_faults.specs.declared.readies.Readies.TheVariants.{Written}
use Rattle.trace_faults.specs.Middle.{Seen, nothing_known, first_known, all_first_known, known_of, waits_for_reset, first_seen, seen_after, verdicts_from, all_broken}
use Rattle.trace_faults.proofs.Judged.{onto, before, nothing}
use Rattle.recording_laws.specs.FromMiddle.{PartsHaveNoFaults}
use Rattle.recording_laws.proofs.Never.{narrow_of, spare_past}
use Rattle.recording_laws.proofs.Luns.{IsBelow, IsBlank, IsSpare}
use Rattle.recording_laws.proofs.Lists.{Each}
use Rattle.recording_laws.proofs.Changed.{all_nothing}
use Rattle.recording_laws.proofs.Unseen.{blank}
use Rattle.recording_laws.proofs.Targets.{FitsTarget}
use Rattle.recording_laws.proofs.Twins.{Beside}
use Rattle.recording_laws.proofs.Shared.{FitsEither}
use Rattle.recording_laws.proofs.Readies.{ready_is, array_ready_is}
use Rattle.recording_laws.proofs.Walk.{FitsBus}
use Rattle.recording_laws.proofs.Stepped.{Stepped, here_of, cycle_step, ready_step}

-- ---- 1. each item

ready_there : (ce lun : ℕ) (fail : Failures) (n : ℕ) (luns : List LunView) → breaks_not_there n luns (Rdy ce lun fail) ≡ (leb n ce || not (lun_is (λ v. v.busy) luns lun))
unfolding breaks_not_there
ready_there ce lun fail n luns = refl

array_ready_there : (ce lun : ℕ) (fail : Bool) (n : ℕ) (luns : List LunView) → breaks_not_there n luns (Ard ce lun fail) ≡ (leb n ce || not (lun_is (λ v. v.array_busy) luns lun))
unfolding breaks_not_there
array_ready_there ce lun fail n luns = refl

or_nothing : (b : Bool) → (b || false) ≡ b
or_nothing true = refl
or_nothing false = refl

opens_nothing : (g : Parts) (b : Bool) → (b || cond (waits_for_reset g) false false) ≡ b
opens_nothing g b = ap (λ (x : Bool). b || x) (at (waits_for_reset g)) ∙ or_nothing b
  where
    at : (x : Bool) → cond x false false ≡ false
    at true = refl
    at false = refl

stepped : (g : Parts) (bus : BusView) (seen : Seen) (i : Item) (later : List Item) → FitsBus g bus seen → judged bus i ≡ None → Stepped g bus seen i later
stepped g bus seen (Cyc c) later f h = cycle_step g bus seen c later f (here_of g bus seen (Cyc c) f h)
stepped g bus seen (Rdy ce lun fail) later f h =
    ready_step g bus seen (Rdy ce lun fail) later f (here_of g bus seen (Rdy ce lun fail) f h) lun (BecameReady fail) (λ v. v.busy) (ready_is ce lun fail)
    (ready_there ce lun fail) (λ t. refl) refl refl (λ rule. refl) (λ x y. opens_nothing seen.state.bus.geometry (known_of seen.known ce).opened)
stepped g bus seen (Ard ce lun fail) later f h =
    ready_step g bus seen (Ard ce lun fail) later f (here_of g bus seen (Ard ce lun fail) f h) lun (ArrayBecameReady fail) (λ v. v.array_busy) (array_ready_is ce lun fail)
    (array_ready_there ce lun fail) (λ t. refl) refl refl (λ rule. refl) (λ x y. opens_nothing seen.state.bus.geometry (known_of seen.known ce).opened)

-- ---- 2. where the recording begins

first_below : (g : Parts) (past : List Item) → ((l : Lun) → IsSpare (lun_view g past l)) → (ce count n : ℕ) → Each IsBelow (views_from g past ce count n) (views_from g [] ce count n)
first_below g past spare ce zero n = tt
first_below g past spare ce (suc count) n = (record { busy = λ h. cc; queue = λ test h. cc; latch = tt; calm = λ h. refl; spare = spare (record { ce = ce; lun = n }); spare_seen = record { closer = refl; array = λ h. refl } }, first_below g past spare ce count (n + 1))

blank_from : (g : Parts) (ce count n m : ℕ) (s : LunView) → slice_get (views_from g [] ce count n) m ≡ Some s → IsBlank s
blank_from g ce zero n m s h = cc
blank_from g ce (suc count) n zero s h =
    let l : Lun = record { ce = ce; lun = n } in
    let same : lun_view g [] l ≡ s = cc in
    subst IsBlank same (record { busy = refl; array_busy = refl; queue = refl; latch = refl; closer = refl })
blank_from g ce (suc count) n (suc m) s h = blank_from g ce count (n + 1) m s h

first_is_known : (targets ce : ℕ) → ce < targets → targets ≤ 4 → known_of (all_first_known targets) ce ≡ nothing_known
first_is_known targets zero h few = ap first_known (lt-ltb 0 targets h)
first_is_known targets (suc zero) h few = ap first_known (lt-ltb 1 targets h)
first_is_known targets (suc (suc zero)) h few = ap first_known (lt-ltb 2 targets h)
first_is_known targets (suc (suc (suc zero))) h few = ap first_known (lt-ltb 3 targets h)
first_is_known targets (suc (suc (suc (suc ce)))) h few = absurd (omega (arith, h, few))

first_plain : (g : Parts) (past : List Item) (ce : ℕ) → g.luns ≤ 4 → ((l : Lun) → IsSpare (lun_view g past l)) → FitsTarget g nothing_known (target_view g past ce) (target_view g [] ce)
first_plain g past ce few spare =
    let short : length (luns_of g [] ce) ≤ 4 = let len = views_length g [] ce g.luns 0 in omega (arith, len, few) in
    record {
      few = short;
      count = let len = views_length g [] ce g.luns 0 in omega (arith, len);
      luns = all_nothing (has_plane_reads g.optional) (luns_of g past ce) (luns_of g [] ce) short (first_below g past spare ce g.luns 0);
      opened = λ h. cc;
      closed = λ h. record { tail = refl; nothing = refl; comes = blank (λ m s found. blank_from g ce g.luns 0 m s found) };
    }

beside_from : (g : Parts) (past : List Item) (ce count n : ℕ) → Each Beside (views_from g past ce count n) (views_from g [] ce count n)
beside_from g past ce zero n = tt
beside_from g past ce (suc count) n = (tt, beside_from g past ce count (n + 1))

first_target : (g : Parts) (past : List Item) (ce : ℕ) → g.luns ≤ 4 → (waits_for_reset g ≡ false → (l : Lun) → IsSpare (lun_view g past l)) → FitsEither g nothing_known (target_view g past ce) (target_view g [] ce)
first_target g past ce few spare =
    let short : length (luns_of g [] ce) ≤ 4 = let len = views_length g [] ce g.luns 0 in omega (arith, len, few) in
    record {
      plain = λ h. first_plain g past ce few (spare h);
      shared = λ h.
          record {
            few = short;
            beside = beside_from g past ce g.luns 0;
            opened = λ y. cc;
            closed = λ y. record { tail = refl; nothing = refl; blank = λ m s found. blank_from g ce g.luns 0 m s found };
          };
    }

begins_fitting : (g : Parts) (targets : ℕ) (past items : List Item) → targets ≤ 4 → g.luns ≤ 4 → is_legal g targets past ≡ true → FitsBus g (bus g (targets_from g past targets 0)) (first_seen g targets items)
begins_fitting g targets past items few luns legal =
    record {
      geometry = refl;
      seen_geometry = refl;
      inside = refl;
      count = targets_length g [] targets 0 ∙ sym (targets_length g past targets 0);
      few = let len = targets_length g past targets 0 in omega (arith, len, few);
      known = refl;
      each = λ ce t s ft fs.
          let within = slice_get_within (targets_from g past targets 0) ce t ft in
          let len = targets_length g past targets 0 in
          let there : ce < targets = omega (arith, within, len) in
          let is = found_target g targets (bus g (targets_from g past targets 0)) past ce follows there in
          let shown = found_target g targets (bus g (targets_from g [] targets 0)) [] ce (record { legal = refl; geometry = refl; facts = refl }) there in
          let same_t : target_view g past ce ≡ t = cc in
          let same_s : target_view g [] ce ≡ s = cc in
          subst (λ (k : Known). FitsEither g k t s) (sym (first_is_known targets ce there few))
          (subst (λ (u : TargetView). FitsEither g nothing_known u s) same_t (subst (λ (u : TargetView). FitsEither g nothing_known (target_view g past ce) u) same_s (first_target g past ce luns (λ h. spare_past g targets past (narrow_of g h).cache legal))));
    }
  where
    follows : Follows g targets (bus g (targets_from g past targets 0)) past
    follows = record { legal = legal; geometry = refl; facts = refl }

-- ---- 3. item by item

walk : (g : Parts) (n : ℕ) (items : List Item) (m : ℕ) (b : BusView) (past : List Item) (seen : Seen) → Follows g n b past → FitsBus g b seen → is_legal g n (reverse items ++ past) ≡ true →
    all_broken m (verdicts_from Written seen items) ≡ []
walk g n [] m b past seen follows f legal = refl
walk g n (i ∷ items) m b past seen follows f legal =
    let more : is_legal g n (reverse items ++ (i ∷ past)) ≡ true = sym (ap (is_legal g n) (onto i items past)) ∙ legal in
    let permitted = (and_parts (is_permitted g n past i) (is_legal g n past) (before g n (reverse items) (i ∷ past) more)).0 in
    let is : judged b i ≡ None = judged_is_broken g n b past i follows ∙ nothing (broken g n past i) permitted in
    let step = stepped g b seen i items f is in
    ap (λ (fs : List BrokenRule). fs ++ all_broken (m + 1) (verdicts_from Written (seen_after Written seen i items) items)) (step.broken m)
    ∙ walk g n items (m + 1) (bus_after i b) (i ∷ past) (seen_after Written seen i items) (bus_goes_on g n b past i is follows) step.fits more

pub parts_have_no_faults : PartsHaveNoFaults
parts_have_no_faults g targets unseen items few luns legal =
    let all : is_legal g targets (reverse items ++ reverse unseen) ≡ true = sym (ap (is_legal g targets) (reverse-append unseen items)) ∙ legal in
    let past : is_legal g targets (reverse unseen) ≡ true = before g targets (reverse items) (reverse unseen) all in
    walk g targets items 0 (bus g (targets_from g (reverse unseen) targets 0)) (reverse unseen) (first_seen g targets items)
    (record { legal = past; geometry = refl; facts = refl }) (begins_fitting g targets (reverse unseen) items few luns past) all
