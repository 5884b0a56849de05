-- What a permitted output or ready tells of the past: the target has a tail, the LUN or its array works.
use Rattle.std.proofs.Common.{◌≡◌, ℕ, zero, suc, ◌+◌, ◌<◌, ◌==◌, Bool, true, false, ◌&&◌, ◌||◌, not, cond, List, [], ◌∷◌, Option, Some, None, refl, sym, ap, ◌∙◌, arith, leb, leb-false}
use Rattle.std.specs.Prelude.{slice_get}
use Rattle.std.proofs.lemmas.Bool.{or_parts, not-false}
use Rattle.std.proofs.lemmas.Option.{slice_get_within}
use Rattle.nand_geometry.specs.declared.parts.Parts.{Parts}
use Rattle.onfi_cycle.specs.declared.command.Command.{Command}
use Rattle.onfi_cycle.specs.declared.command.Command.TheVariants.{Read, ReadConfirm, ChangeReadColumn, ChangeReadColumnEnhanced, ChangeReadColumnConfirm, BlockErase, BlockEraseConfirm, BlockErasePlane, ReadStatus, ReadStatusEnhanced, PageProgram, ChangeWriteColumn, ProgramConfirm, ProgramPlane, ReadId, ReadParameterPage, Reset, ReadCacheSequential, ReadCacheEnd, ReadUniqueId, GetFeatures, SetFeatures, ResetLun, SynchronousReset, Unknown, ReadPlane, CopybackRead, ProgramCache}
use Rattle.onfi_cycle.specs.declared.effect.Effect.{Effect}
use Rattle.onfi_cycle.specs.declared.effect.Effect.TheVariants.{BecameReady, ArrayBecameReady, ReadStarted, ReadQueued, EraseStarted, ProgramStarted, IdRead, IdentityRead, UniqueIdReadStarted, FeaturesReadStarted, FeaturesSet, ParameterPageReadStarted, CacheReadContinued, CacheReadEnded, ResetStarted, TargetResetStarted, CopybackReadStarted, CacheProgramStarted}
use Rattle.onfi_cycle.specs.declared.forbidden.Forbidden.TheVariants.{NotThere}
use Rattle.onfi_cycle.specs.declared.item.Cycle.{Cycle}
use Rattle.onfi_cycle.specs.declared.item.Failures.{Failures}
use Rattle.onfi_cycle.specs.declared.item.Item.{Item}
use Rattle.onfi_cycle.specs.declared.item.Item.TheVariants.{Cyc, Rdy, Ard}
use Rattle.onfi_cycle.specs.declared.item.Kind.TheVariants.{Dout}
use Rattle.onfi_cycle.specs.declared.latch.Latch.{Latch}
use Rattle.onfi_cycle.specs.declared.latch.Latch.TheVariants.{Off}
use Rattle.onfi_cycle.specs.declared.lun.Lun.{Lun}
use Rattle.onfi_cycle.specs.declared.tail_facts.TailFacts.{TailFacts}
use Rattle.onfi_cycle.specs.declared.target_cycle.TargetCycle.{TargetCycle}
use Rattle.onfi_cycle.specs.declared.target_cycle.TargetCycle.TheVariants.{CommandCycle, AddressCycle, InputCycle, OutputCycle}
use Rattle.onfi_cycle.specs.LunView.{LunView}
use Rattle.onfi_cycle.specs.Command.{is_opener}
use Rattle.onfi_cycle.specs.Effect.{is_off, cycle_effect}
use Rattle.onfi_cycle.specs.Lun.{latch, latch_after, array_busy_after, leaves_array_busy, keeps_array_busy, closer, effect_on, is_busy, is_array_busy, lun_view, luns_of, views_from}
use Rattle.onfi_cycle.specs.Permitted.{broken}
use Rattle.onfi_cycle.specs.Rules.{driving, driver_is, is_some_and, lun_is, breaks_not_there, breaks_no_sole_driver}
use Rattle.trace_faults.specs.Outside.{begins_alone}
use Rattle.onfi_cycle.specs.Sequence.{begins_anew, continued, with_cycle, tail, facts_of, is_open, target_cycle}
use Rattle.onfi_cycle.specs.Working.{IsLun}
use Rattle.onfi_cycle.proofs.Keeping.{views_length, view_at}
use Rattle.onfi_cycle.proofs.Others.{first_passed}
use Rattle.onfi_cycle.proofs.Passed.{permitted_keeps}

-- ---- who shows something has had a command

-- without a tail no cycle but an opener turns a latch on
off_command : (g : Parts) (selected working : Bool) (c : Command) (lun : ℕ) → begins_alone (CommandCycle c) ≡ false → latch_after (cycle_effect g (facts_of []) Off (CommandCycle c) lun) selected working Off ≡ Off
off_command g selected working ReadConfirm lun h = refl
off_command g selected working ChangeReadColumnConfirm lun h = refl
off_command g selected working BlockEraseConfirm lun h = refl
off_command g selected working BlockErasePlane lun h = refl
off_command g selected working ReadPlane lun h = refl
off_command g selected working CopybackRead lun h = refl
off_command g selected working ProgramCache lun h = refl
off_command g selected working ChangeWriteColumn lun h = refl
off_command g selected working ProgramConfirm lun h = refl
off_command g selected working ProgramPlane lun h = refl
off_command g selected working Unknown lun h = refl
off_command g selected working Read lun h = cc
off_command g selected working ChangeReadColumn lun h = cc
off_command g selected working ChangeReadColumnEnhanced lun h = cc
off_command g selected working BlockErase lun h = cc
off_command g selected working ReadStatus lun h = cc
off_command g selected working ReadStatusEnhanced lun h = cc
off_command g selected working PageProgram lun h = cc
off_command g selected working ReadId lun h = cc
off_command g selected working ReadParameterPage lun h = cc
off_command g selected working Reset lun h = cc
off_command g selected working ReadCacheSequential lun h = cc
off_command g selected working ReadCacheEnd lun h = cc
off_command g selected working ReadUniqueId lun h = cc
off_command g selected working GetFeatures lun h = cc
off_command g selected working SetFeatures lun h = cc
off_command g selected working ResetLun lun h = cc
off_command g selected working SynchronousReset lun h = cc

off_cycle : (g : Parts) (selected working : Bool) (c : TargetCycle) (lun : ℕ) → begins_alone c ≡ false → latch_after (cycle_effect g (facts_of []) Off c lun) selected working Off ≡ Off
off_cycle g selected working (CommandCycle c) lun h = off_command g selected working c lun h
off_cycle g selected working (AddressCycle byte) lun h = refl
off_cycle g selected working (InputCycle byte) lun h = refl
off_cycle g selected working OutputCycle lun h = refl

-- behind no tail an opener begins one
command_of_nothing : (c : Command) → begins_anew (facts_of []) (CommandCycle c) ≡ is_opener c
command_of_nothing ReadConfirm = refl
command_of_nothing ChangeReadColumnConfirm = refl
command_of_nothing BlockEraseConfirm = refl
command_of_nothing BlockErasePlane = refl
command_of_nothing ReadPlane = refl
command_of_nothing CopybackRead = refl
command_of_nothing ProgramCache = refl
command_of_nothing ChangeWriteColumn = refl
command_of_nothing ProgramConfirm = refl
command_of_nothing ProgramPlane = refl
command_of_nothing Unknown = refl
command_of_nothing Read = refl
command_of_nothing ChangeReadColumn = refl
command_of_nothing ChangeReadColumnEnhanced = refl
command_of_nothing BlockErase = refl
command_of_nothing ReadStatus = refl
command_of_nothing ReadStatusEnhanced = refl
command_of_nothing PageProgram = refl
command_of_nothing ReadId = refl
command_of_nothing ReadParameterPage = refl
command_of_nothing Reset = refl
command_of_nothing ReadCacheSequential = refl
command_of_nothing ReadCacheEnd = refl
command_of_nothing ReadUniqueId = refl
command_of_nothing GetFeatures = refl
command_of_nothing SetFeatures = refl
command_of_nothing ResetLun = refl
command_of_nothing SynchronousReset = refl

no_opener_alone : (c : Command) → is_opener c ≡ false → begins_alone (CommandCycle c) ≡ false
no_opener_alone ChangeWriteColumn h = refl
no_opener_alone c h = h

none_anew : (c : TargetCycle) → begins_anew (facts_of []) c ≡ false → begins_alone c ≡ false
none_anew (CommandCycle c) h = no_opener_alone c (sym (command_of_nothing c) ∙ h)
none_anew (AddressCycle byte) h = refl
none_anew (InputCycle byte) h = refl
none_anew OutputCycle h = refl

-- a tail that is empty after a cycle was so before it
empty_before : (c : TargetCycle) (t : List TargetCycle) → with_cycle c t ≡ [] → (begins_alone c ≡ false) × (t ≡ [])
empty_before c t h = at t (begins_anew (facts_of t) c) refl h
  where
    at : (u : List TargetCycle) (b : Bool) → begins_anew (facts_of u) c ≡ b → cond b (c ∷ []) (continued c u) ≡ [] → (begins_alone c ≡ false) × (u ≡ [])
    at u true e h = cc
    at [] false e h = (none_anew c e, refl)
    at (d ∷ u) false e h = cc

off_by : (g : Parts) (past : List Item) (selected working : Bool) (c : TargetCycle) (l : Lun) → tail past l.ce ≡ [] → latch g past l ≡ Off → begins_alone c ≡ false →
    latch_after (cycle_effect g (facts_of (tail past l.ce)) (latch g past l) c l.lun) selected working (latch g past l) ≡ Off
off_by g past selected working c l empty off h =
    ap (λ (t : List TargetCycle). latch_after (cycle_effect g (facts_of t) (latch g past l) c l.lun) selected working (latch g past l)) empty
    ∙ ap (λ (x : Latch). latch_after (cycle_effect g (facts_of []) x c l.lun) selected working x) off ∙ off_cycle g selected working c l.lun h

-- an item more, where the LUN showed nothing before it
off_after : (g : Parts) (past : List Item) (i : Item) (l : Lun) → (tail past l.ce ≡ [] → latch g past l ≡ Off) → tail (i ∷ past) l.ce ≡ [] → latch g (i ∷ past) l ≡ Off
off_after g past (Cyc c) l off h = at (c.ce == l.ce) refl h
  where
    at : (b : Bool) → (c.ce == l.ce) ≡ b → cond b (with_cycle (target_cycle c.kind c.byte) (tail past l.ce)) (tail past l.ce) ≡ [] → latch g (Cyc c ∷ past) l ≡ Off
    at true e h =
        let before = empty_before (target_cycle c.kind c.byte) (tail past l.ce) h in
        rw (e) (off_by g past _ _ (target_cycle c.kind c.byte) l before.1 (off before.1) before.0)
    at false e h = rw (e) (off h)
off_after g past (Rdy ce lun fail) l off h = at (ce == l.ce && lun == l.lun) refl
  where
    at : (b : Bool) → (ce == l.ce && lun == l.lun) ≡ b → latch g (Rdy ce lun fail ∷ past) l ≡ Off
    at true e = rw (e) (off h)
    at false e = rw (e) (off h)
off_after g past (Ard ce lun fail) l off h = at (ce == l.ce && lun == l.lun) refl
  where
    at : (b : Bool) → (ce == l.ce && lun == l.lun) ≡ b → latch g (Ard ce lun fail ∷ past) l ≡ Off
    at true e = rw (e) (off h)
    at false e = rw (e) (off h)

-- a LUN of a target without a tail shows nothing
pub off_without : (g : Parts) (past : List Item) (l : Lun) → tail past l.ce ≡ [] → latch g past l ≡ Off
off_without g [] l h = refl
off_without g (i ∷ past) l h = off_after g past i l (off_without g past l) h

none_drives : (g : Parts) (past : List Item) (ce count n : ℕ) → ((lun : ℕ) → latch g past (record { ce = ce; lun = lun }) ≡ Off) → driving (views_from g past ce count n) ≡ []
none_drives g past ce zero n off = refl
none_drives g past ce (suc count) n off =
    ap (λ (x : Latch). cond (is_off x) (driving (views_from g past ce count (n + 1))) (lun_view g past (record { ce = ce; lun = n }) ∷ driving (views_from g past ce count (n + 1)))) (off n)
    ∙ none_drives g past ce count (n + 1) off

driven : (t : TailFacts) (luns : List LunView) → breaks_no_sole_driver t luns OutputCycle ≡ false → driver_is (λ v. true) luns ≡ true
unfolding breaks_no_sole_driver
driven t luns h = not-false (driver_is (λ v. true) luns) ((or_parts (is_open t) (not (driver_is (λ v. true) luns)) h).1)

-- before a permitted output its target has had a command
pub output_tailed : (g : Parts) (targets : ℕ) (past : List Item) (c : Cycle) → c.kind ≡ Dout → broken g targets past (Cyc c) ≡ None → tail past c.ce ≡ [] → ⊥
output_tailed g targets past c is h empty = no (sym none ∙ driven (facts_of (tail past c.ce)) (luns_of g past c.ce) sole)
  where
    no : false ≡ true → ⊥
    no e = cc

    sole : breaks_no_sole_driver (facts_of (tail past c.ce)) (luns_of g past c.ce) OutputCycle ≡ false
    sole = ap (λ k. breaks_no_sole_driver (facts_of (tail past c.ce)) (luns_of g past c.ce) (target_cycle k c.byte)) (sym is) ∙ (permitted_keeps g targets past c h).f12

    none : driver_is (λ v. true) (luns_of g past c.ce) ≡ false
    none = rw (none_drives g past c.ce g.luns 0 (λ lun. off_without g past (record { ce = c.ce; lun = lun }) empty)) refl

-- ---- a ready is of a LUN that works

there_is : (test : LunView → Bool) (g : Parts) (past : List Item) (ce lun : ℕ) → lun_is test (luns_of g past ce) lun ≡ true → (lun < g.luns) × (test (lun_view g past (record { ce = ce; lun = lun })) ≡ true)
there_is test g past ce lun h = at (slice_get (luns_of g past ce) lun) refl h
  where
    at : (x : Option LunView) → slice_get (luns_of g past ce) lun ≡ x → is_some_and test x ≡ true → (lun < g.luns) × (test (lun_view g past (record { ce = ce; lun = lun })) ≡ true)
    at None e h = cc
    at (Some v) e h =
        let small = slice_get_within (luns_of g past ce) lun v e in
        let long = views_length g past ce g.luns 0 in
        let low : lun < g.luns = omega (arith, small, long) in
        (low, ap (is_some_and test) (sym (view_at g past (record { ce = ce; lun = lun }) low) ∙ e) ∙ h)

two_false : (a b : Bool) → (a || not b) ≡ false → (a ≡ false) × (b ≡ true)
two_false true b h = cc
two_false false true h = (refl, refl)
two_false false false h = cc

-- a LUN of the channel of which this is so
pub record IsOf (g : Parts) (targets : ℕ) (l : Lun) (so : Bool) : Type 0 where
  pub is_lun : IsLun g targets l
  pub works : so ≡ true

pub ready_of : (g : Parts) (targets : ℕ) (past : List Item) (ce lun : ℕ) (fail : Failures) → broken g targets past (Rdy ce lun fail) ≡ None →
    IsOf g targets (record { ce = ce; lun = lun }) (is_busy g past (record { ce = ce; lun = lun }))
unfolding breaks_not_there
ready_of g targets past ce lun fail h =
    let passed = (first_passed (leb targets ce || not (lun_is (λ v. v.busy) (luns_of g past ce) lun)) NotThere None h).0 in
    let both = two_false (leb targets ce) (lun_is (λ v. v.busy) (luns_of g past ce) lun) passed in
    let there' = there_is (λ v. v.busy) g past ce lun both.1 in
    record { is_lun = record { target = leb-false targets ce both.0; lun = there'.0 }; works = there'.1 }

pub array_ready_of : (g : Parts) (targets : ℕ) (past : List Item) (ce lun : ℕ) (fail : Bool) → broken g targets past (Ard ce lun fail) ≡ None →
    IsOf g targets (record { ce = ce; lun = lun }) (is_array_busy g past (record { ce = ce; lun = lun }))
unfolding breaks_not_there
array_ready_of g targets past ce lun fail h =
    let passed = (first_passed (leb targets ce || not (lun_is (λ v. v.array_busy) (luns_of g past ce) lun)) NotThere None h).0 in
    let both = two_false (leb targets ce) (lun_is (λ v. v.array_busy) (luns_of g past ce) lun) passed in
    let there' = there_is (λ v. v.array_busy) g past ce lun both.1 in
    record { is_lun = record { target = leb-false targets ce both.0; lun = there'.0 }; works = there'.1 }

-- ---- an array works once its LUN has

two_true : (a b c : Bool) → (a || (b && c)) ≡ true → (a || b) ≡ true
two_true true b c h = refl
two_true false true c h = refl
two_true false false c h = cc

first_of : (a b : Bool) → a ≡ true → (a || b) ≡ true
first_of true b h = refl
first_of false b h = cc

kept_array : (queued keeps array : Bool) → queued && (keeps && array) ≡ true → array ≡ true
kept_array true true array h = h
kept_array true false array h = cc
kept_array false keeps array h = cc

array_after : (e : Effect) (busy : Bool) (last : Option Command) (array : Bool) → array_busy_after e busy last array ≡ true → (array || busy) ≡ true
array_after (BecameReady fail) busy last array h = two_true array busy (leaves_array_busy last) h
array_after (ArrayBecameReady fail) busy last array h = cc
array_after (ReadStarted at from) busy last array h = cc
array_after (ReadQueued at) busy last array h = cc
array_after (CopybackReadStarted at from count) busy last array h = cc
array_after (EraseStarted queued at) busy last array h = cc
array_after (ProgramStarted queued at) busy last array h = first_of array busy (kept_array queued (keeps_array_busy last) array h)
array_after (CacheProgramStarted at) busy last array h = cc
array_after IdRead busy last array h = cc
array_after (IdentityRead jedec) busy last array h = cc
array_after ParameterPageReadStarted busy last array h = cc
array_after UniqueIdReadStarted busy last array h = cc
array_after (FeaturesReadStarted address) busy last array h = cc
array_after (FeaturesSet address) busy last array h = cc
array_after (CacheReadContinued to) busy last array h = cc
array_after CacheReadEnded busy last array h = cc
array_after ResetStarted busy last array h = cc
array_after (TargetResetStarted first) busy last array h = cc
array_after e busy last array h = first_of array busy h

pub array_before : (g : Parts) (past : List Item) (i : Item) (l : Lun) → is_array_busy g (i ∷ past) l ≡ true → (is_array_busy g past l || is_busy g past l) ≡ true
array_before g past i l h = array_after (effect_on g past i l) (is_busy g past l) (closer g past l) (is_array_busy g past l) h
