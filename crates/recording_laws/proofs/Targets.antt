-- A target as it is, and as it is seen: what a permitted cycle of it leaves of both.
use Rattle.std.proofs.Common.{◌≡◌, ◌⊎◌, inl, inr, zero, suc, not, ℕ, ◌+◌, ◌<◌, ◌≤◌, ◌==◌, Bool, true, false, cond, ◌&&◌, ◌||◌, List, [], ◌∷◌, length, Option, Some, None, refl, sym, ap, ◌∙◌, subst, slice_get, eqb-true, eq-eqb, ltb, leb, true≢false, arith}
use Rattle.std.proofs.lemmas.Bool.{ltb-true, and_parts, or_left, or_right, not-false}
use Rattle.nand_geometry.specs.declared.parts.Parts.{Parts}
use Rattle.nand_geometry.specs.Row.{parts_of, is_inside}
use Rattle.onfi_cycle.specs.declared.command.Command.{Command}
use Rattle.onfi_cycle.specs.declared.command.Command.TheVariants.{Read, ReadConfirm, ChangeReadColumn, ChangeReadColumnEnhanced, BlockErase, BlockEraseConfirm, BlockErasePlane, PageProgram, ProgramConfirm, ProgramPlane, ReadCacheSequential, ReadPlane, CopybackRead, ChangeWriteColumn, ProgramCache}
use Rattle.onfi_cycle.specs.declared.data_phase.DataPhase.{DataPhase}
use Rattle.onfi_cycle.specs.declared.data_phase.DataPhase.TheVariants.{Outside, Inputs, FirstColumn, SecondColumn, FeatureInputs}
use Rattle.onfi_cycle.specs.declared.effect.Effect.{Effect}
use Rattle.onfi_cycle.specs.declared.effect.Effect.TheVariants.{Unaffected}
use Rattle.onfi_cycle.specs.declared.forbidden.Forbidden.{Forbidden}
use Rattle.onfi_cycle.specs.declared.item.Cycle.{Cycle}
use Rattle.onfi_cycle.specs.declared.item.Item.TheVariants.{Cyc}
use Rattle.onfi_cycle.specs.declared.latch.Latch.{Latch}
use Rattle.onfi_cycle.specs.declared.latch.Latch.TheVariants.{Off}
use Rattle.onfi_cycle.specs.declared.opening.Opening.{Opening}
use Rattle.onfi_cycle.specs.declared.page_address.PageAddress.{PageAddress}
use Rattle.onfi_cycle.specs.declared.queued.Queued.{Queued}
use Rattle.onfi_cycle.specs.declared.queued.Queued.TheVariants.{Erase, Program, Read as QueuedRead}
use Rattle.onfi_cycle.specs.declared.tail_facts.TailFacts.{TailFacts}
use Rattle.onfi_cycle.specs.declared.target_cycle.TargetCycle.{TargetCycle}
use Rattle.onfi_cycle.specs.declared.target_cycle.TargetCycle.TheVariants.{CommandCycle, AddressCycle, InputCycle, OutputCycle}
use Rattle.onfi_cycle.specs.Bounds.{is_read, is_block_erase}
use Rattle.nand_geometry.specs.Optional.{is_wide, has_enhanced_column, has_plane_reads}
use Rattle.onfi_cycle.specs.Command.{is_opener, closes, address_cycles, at_last_row, is_change_read_column, is_enhanced_column, begins_data}
use Rattle.onfi_cycle.specs.Effect.{is_off, is_shared, names_lun, page_address, address_effect, opening_address_effect, cycle_effect}
use Rattle.onfi_cycle.specs.Lun.{is_page_read, view_after}
use Rattle.onfi_cycle.specs.LunView.{LunView}
use Rattle.onfi_cycle.specs.Permitted.{judge_cycle}
use Rattle.onfi_cycle.specs.Rules.{is_some_and, driving, only, driver, driver_is, lun_is, named_lun_is, continues_cache, has_read_one, has_some, some_read_clashes, holds_plane_of, may_change_column, refused_by, is_refused_by, ends_row, breaks_command_unknown, breaks_row_outside, breaks_sequence_open, breaks_no_column_to_change, breaks_queue_clash, breaks_cache_read_misplaced, breaks_plane_not_held, opens_here}
use Rattle.onfi_cycle.specs.Sequence.{target_cycle, facts_of, opened, one_address_more, row, row_with, wants_command, extended_facts, facts_after, begins_anew, goes_on_with}
use Rattle.onfi_cycle.specs.State.{TargetView, luns_after, has_driver, target_after, without_sequence}
use Rattle.onfi_cycle.proofs.Booleans.{and_rest}
use Rattle.onfi_cycle.proofs.Passed.{KeepsRules, keeps_rules}
use Rattle.onfi_cycle.proofs.TableLemmas.{command_opens}
use Rattle.trace_faults.specs.declared.known.Known.{Known}
use Rattle.trace_faults.specs.Outside.{opens_sequence}
use Rattle.trace_faults.specs.Middle.{nothing_known, is_reset_cycle}
use Rattle.recording_laws.proofs.Luns.{IsBelow, IsHarmless, IsNarrow}
use Rattle.recording_laws.proofs.Never.{never_cycle}
use Rattle.recording_laws.proofs.Lists.{SpareSeen, spare_each, Each, lun_up}
use Rattle.recording_laws.proofs.Rules.{six_of, IsKnown, IsClear, plain_clear, judged_six, judged_six_fresh, opens_is}
use Rattle.recording_laws.proofs.Changed.{changed, changed_length, AtEach, at_each, AllFit, under_each, below_each, GoEach, all_fit_on, IsLearned, learns_each, below_unseen, all_nothing}
use Rattle.recording_laws.proofs.Cycles.{by_cycle, luns_by_cycle, ReadsClear, PlaneClear, go_command, go_opener, go_address, go_input, go_output}
use Rattle.recording_laws.proofs.Unseen.{is_led, is_quiet_by, is_quiet, is_named_by, is_named, is_plane_by, is_plane, NoneQueued, AllNamed, AreBlank, MayCome, blank, quiet, named, selecting, not_led, may_come_on, unseen_harmless, quiet_command}
use Rattle.recording_laws.proofs.Granted.{is_sound, is_sound_by, sound_after, grants, is_granted, granted_row, command_granted, command_comes, Comes, address_granted, input_granted, output_granted, no_copyback}

-- ---- 1. a target

-- a target of which an opener was seen
pub record IsOpened (g : Parts) (t s : TargetView) : Type 0 where
  pub tail : t.tail ≡ s.tail
  pub some : t.tail.is_empty ≡ false
  pub sound : is_sound t.tail ≡ true
  pub column : opened (λ c n. is_change_read_column c) t.tail.opening ≡ true → (has_driver t.luns ≡ true) × (has_driver s.luns ≡ true)
  pub read : has_plane_reads g.optional ≡ false → opened (λ c n. is_read c && n == 5) t.tail.opening ≡ true → NoneQueued g (row t.tail) t.luns
  pub plane : opened (λ c n. is_enhanced_column c && n == 5) t.tail.opening ≡ true → NoneQueued g (row t.tail) s.luns
  pub declared : opened (λ c n. is_enhanced_column c) t.tail.opening ≡ true → has_enhanced_column g.optional ≡ true

-- one of which none was
pub record IsClosed (g : Parts) (k : Known) (t s : TargetView) : Type 0 where
  pub tail : s.tail ≡ facts_of []
  pub nothing : k ≡ nothing_known
  pub comes : MayCome g t.tail s.luns

pub record FitsTarget (g : Parts) (k : Known) (t s : TargetView) : Type 0 where
  pub few : length s.luns ≤ 4
  pub count : length s.luns ≤ g.luns
  pub luns : AllFit (has_plane_reads g.optional) k 0 t.luns s.luns
  pub opened : k.opened ≡ true → IsOpened g t s
  pub closed : k.opened ≡ false → IsClosed g k t s

-- ---- 2. tails of permitted cycles

-- effects that are none
unaffected_from : (f : ℕ → LunView → Effect) → ((n : ℕ) (v : LunView) → f n v ≡ Unaffected) → (n : ℕ) (vs : List LunView) → changed f n vs ≡ vs
unaffected_from f h n [] = refl
unaffected_from f h n (v ∷ vs) = ap (λ (e : Effect). view_after e v ∷ changed f (n + 1) vs) (h n v) ∙ ap (λ (ws : List LunView). v ∷ ws) (unaffected_from f h (n + 1) vs)

some_after : (cycle : TargetCycle) (t : TailFacts) → t.is_empty ≡ false → (facts_after cycle t).is_empty ≡ false
some_after (CommandCycle c) t some = at (begins_anew t (CommandCycle c)) t.is_empty some
  where
    at : (b e : Bool) → e ≡ false → (cond b (extended_facts (CommandCycle c) (facts_of [])) (cond e t (extended_facts (CommandCycle c) t))).is_empty ≡ false
    at true e f = refl
    at false true f = cc
    at false false f = refl
some_after (AddressCycle byte) t some = rw some refl
some_after (InputCycle byte) t some = rw some refl
some_after OutputCycle t some = rw some refl

neither : (b : Bool) → cond b Unaffected Unaffected ≡ Unaffected
neither true = refl
neither false = refl

-- the openers whose addresses do nothing to a LUN: 05h, 00h and 06h
abbrev rests : Command → Bool
rests c = is_change_read_column c || (is_read c || is_enhanced_column c)

-- the tail of 05h and its addresses, where nothing happens to a LUN
module _ (g : Parts) (u : TailFacts) where
  column_command : (sole : Bool) (n : ℕ) (v : LunView) → by_cycle g u sole (CommandCycle ChangeReadColumn) n v ≡ Unaffected
  column_command sole n v = neither (wants_command u ChangeReadColumn && names_lun g (row u) n)

  quiet_address : (c : Command) (byte m n : ℕ) → rests c ≡ true → address_effect g u byte c m n ≡ Unaffected
  quiet_address ChangeReadColumn byte m n h = refl
  quiet_address Read byte m n h = refl
  quiet_address ChangeReadColumnEnhanced byte m n h = refl
  quiet_address c byte m n h = cc

  quiet_opening : (o : Option Opening) (byte n : ℕ) → opened (λ c m. rests c) o ≡ true → opening_address_effect g u byte o n ≡ Unaffected
  quiet_opening None byte n h = cc
  quiet_opening (Some o) byte n h = quiet_address o.opener byte o.addresses n h

  address_rests : (byte : ℕ) (vs : List LunView) (sole : Bool) → opened (λ c m. rests c) u.opening ≡ true → changed (by_cycle g u sole (AddressCycle byte)) 0 vs ≡ vs
  address_rests byte vs sole h = unaffected_from (by_cycle g u sole (AddressCycle byte)) (λ n v. quiet_opening u.opening byte n h) 0 vs

some_driver : (p : LunView → Bool) (o : Option LunView) → is_some_and p o ≡ true → is_some_and (λ v. true) o ≡ true
some_driver p None h = h
some_driver p (Some v) h = refl

column_driver : (luns : List LunView) → breaks_no_column_to_change luns (CommandCycle ChangeReadColumn) ≡ false → has_driver luns ≡ true
unfolding breaks_no_column_to_change
column_driver luns h = some_driver may_change_column (driver luns) (not-false (driver_is may_change_column luns) h)

is_column : (c : Command) → is_change_read_column c ≡ true → c ≡ ChangeReadColumn
is_column ChangeReadColumn h = refl
is_column c h = cc

one_more_column : (o : Option Opening) → opened (λ c n. is_change_read_column c) (one_address_more o) ≡ true → opened (λ c n. is_change_read_column c) o ≡ true
one_more_column None h = h
one_more_column (Some o) h = h

column_or_read : (o : Option Opening) → opened (λ c n. is_change_read_column c) o ≡ true → opened (λ c n. rests c) o ≡ true
column_or_read None h = h
column_or_read (Some o) h = or_left (is_change_read_column o.opener) (is_read o.opener || is_enhanced_column o.opener) h

-- 05h has one driver, and its addresses keep it
opened_driver : (g : Parts) (w : TailFacts) (vs : List LunView) (c : Command) → breaks_no_column_to_change vs (CommandCycle c) ≡ false → is_change_read_column c ≡ true → has_driver (changed (by_cycle g w (has_driver vs) (CommandCycle c)) 0 vs) ≡ true
opened_driver g w vs c f5 h = at c (is_column c h) f5
  where
    at : (c : Command) → c ≡ ChangeReadColumn → breaks_no_column_to_change vs (CommandCycle c) ≡ false → has_driver (changed (by_cycle g w (has_driver vs) (CommandCycle c)) 0 vs) ≡ true
    at ChangeReadColumn e f = ap has_driver (unaffected_from (by_cycle g w (has_driver vs) (CommandCycle ChangeReadColumn)) (column_command g w (has_driver vs)) 0 vs) ∙ column_driver vs f
    at c e f = cc

driver_after : (g : Parts) (u : TailFacts) (vs : List LunView) (cycle : TargetCycle) → u.is_empty ≡ false → (opened (λ c n. is_change_read_column c) u.opening ≡ true → has_driver vs ≡ true) → breaks_no_column_to_change vs cycle ≡ false →
    opened (λ c n. is_change_read_column c) (facts_after cycle u).opening ≡ true → has_driver (changed (by_cycle g u (has_driver vs) cycle) 0 vs) ≡ true
driver_after g u vs (CommandCycle c) some before f5 h = at (begins_anew u (CommandCycle c)) u.is_empty some h
  where
    at : (b e : Bool) → e ≡ false → opened (λ c n. is_change_read_column c) (cond b (extended_facts (CommandCycle c) (facts_of [])) (cond e u (extended_facts (CommandCycle c) (record u { is_empty = e })))).opening ≡ true →
        has_driver (changed (by_cycle g u (has_driver vs) (CommandCycle c)) 0 vs) ≡ true
    at true e f x = opened_driver g u vs c f5 x
    at false true f x = cc
    at false false f x = cc
driver_after g u vs (AddressCycle byte) some before f5 h =
    let more = one_more_column u.opening (rw some at h) in
    ap has_driver (address_rests g u byte vs (has_driver vs) (column_or_read u.opening more)) ∙ before more
driver_after g u vs (InputCycle byte) some before f5 h = let none = rw some at h in cc
driver_after g u vs OutputCycle some before f5 h = let none = rw some at h in cc

-- a read has no queue behind its last address, where the chip reads one plane at once
reads_none : (g : Parts) (p : PageAddress) (q : List Queued) → has_plane_reads g.optional ≡ false → some_read_clashes g p q ≡ false → q ≡ []
reads_none g p [] single e = refl
reads_none g p (QueuedRead x ∷ q) single e = let clash : true ≡ false = rw single at e in cc
reads_none g p (Erase x ∷ q) single e = cc
reads_none g p (Program x ∷ q) single e = cc

read_queue : (g : Parts) (c : Command) (n : ℕ) (p : PageAddress) (q : List Queued) → has_plane_reads g.optional ≡ false → (is_read c && n + 1 == 5) ≡ true → (at_last_row c n && refused_by g c p q) ≡ false → q ≡ []
read_queue g Read n p q single h f =
    let five : n + 1 ≡ 5 = eqb-true (n + 1) 5 h in
    let four : n ≡ 4 = omega (arith, five) in
    reads_none g p q single (rw (eq-eqb n 4 four) at f)
read_queue g c n p q single h f = cc

read_address : (g : Parts) (u : TailFacts) (ts : List LunView) (byte : ℕ) (o : Option Opening) → has_plane_reads g.optional ≡ false → u.opening ≡ o → breaks_queue_clash g u ts (AddressCycle byte) ≡ false → opened (λ c n. is_read c && n == 5) (one_address_more o) ≡ true →
    NoneQueued g (row (extended_facts (AddressCycle byte) u)) ts
unfolding breaks_queue_clash
read_address g u ts byte None single e f h m t found names = cc
read_address g u ts byte (Some o) single e f h m t found names =
    let named : names_lun g (row_with u byte) m ≡ true = rw e at names in
    let here : (parts_of g (row_with u byte)).lun ≡ m = eqb-true (parts_of g (row_with u byte)).lun m named in
    let at : slice_get ts (parts_of g (row_with u byte)).lun ≡ Some t = ap (slice_get ts) here ∙ found in
    let page = page_address g (row_with u byte) in
    let free : is_refused_by g u.opening page t.queue ≡ false = sym (ap (is_some_and (λ v. is_refused_by g u.opening page v.queue)) at) ∙ f in
    read_queue g o.opener o.addresses page t.queue single h (sym (ap (λ (x : Option Opening). is_refused_by g x page t.queue) e) ∙ free)

one_more_read : (o : Option Opening) → opened (λ c n. is_read c && n == 5) (one_address_more o) ≡ true → opened (λ c n. rests c) o ≡ true
one_more_read None h = h
one_more_read (Some o) h = or_right (is_change_read_column o.opener) (is_read o.opener || is_enhanced_column o.opener) (or_left (is_read o.opener) (is_enhanced_column o.opener) (and_parts (is_read o.opener) _ h).0)

read_after : (g : Parts) (u : TailFacts) (ts : List LunView) (cycle : TargetCycle) → has_plane_reads g.optional ≡ false → u.is_empty ≡ false → breaks_queue_clash g u ts cycle ≡ false → opened (λ c n. is_read c && n == 5) (facts_after cycle u).opening ≡ true →
    NoneQueued g (row (facts_after cycle u)) (changed (by_cycle g u (has_driver ts) cycle) 0 ts)
read_after g u ts (CommandCycle c) single some f h = absurd (at (begins_anew u (CommandCycle c)) u.is_empty some h)
  where
    at : (b e : Bool) → e ≡ false → opened (λ c n. is_read c && n == 5) (cond b (extended_facts (CommandCycle c) (facts_of [])) (cond e u (extended_facts (CommandCycle c) (record u { is_empty = e })))).opening ≡ true → ⊥
    at true e f x = let five = (and_parts (is_read c) (0 == 5) x).1 in cc
    at false true f x = cc
    at false false f x = cc
read_after g u ts (AddressCycle byte) single some f h =
    let more : opened (λ c n. is_read c && n == 5) (one_address_more u.opening) ≡ true = rw some at h in
    let none : NoneQueued g (row (extended_facts (AddressCycle byte) u)) ts = read_address g u ts byte u.opening single refl f more in
    subst (λ (vs : List LunView). NoneQueued g (row (facts_after (AddressCycle byte) u)) vs) (sym (address_rests g u byte ts (has_driver ts) (one_more_read u.opening more)))
    (rw some none)
read_after g u ts (InputCycle byte) single some f h = let none = rw some at h in cc
read_after g u ts OutputCycle single some f h = let none = rw some at h in cc

-- of the LUN of a 06h nothing is queued behind its last address
plane_queue : (g : Parts) (c : Command) (n : ℕ) (q : Bool) (p : PageAddress) (s : LunView) → (is_enhanced_column c && n + 1 == 5) ≡ true → ((is_enhanced_column c && at_last_row c n) && q) ≡ false → (q ≡ not (holds_plane_of g p s)) → s.queue ≡ []
plane_queue g ChangeReadColumnEnhanced n q p s h f is =
    let five : n + 1 ≡ 5 = eqb-true (n + 1) 5 h in
    let four : n ≡ 4 = omega (arith, five) in
    let held : not (holds_plane_of g p s) ≡ false = sym is ∙ (rw (eq-eqb n 4 four) at f) in
    nothing s.queue (and_parts (not (has_some s.queue)) _ (not-false (holds_plane_of g p s) held)).0
  where
    nothing : (r : List Queued) → not (has_some r) ≡ true → r ≡ []
    nothing [] e = refl
    nothing (x ∷ rest) e = cc
plane_queue g c n q p s h f is = cc

plane_address : (g : Parts) (u : TailFacts) (ss : List LunView) (byte : ℕ) (o : Option Opening) → u.opening ≡ o → breaks_plane_not_held g u ss (AddressCycle byte) ≡ false → opened (λ c n. is_enhanced_column c && n == 5) (one_address_more o) ≡ true →
    NoneQueued g (row (extended_facts (AddressCycle byte) u)) ss
unfolding breaks_plane_not_held
plane_address g u ss byte None e f h m s found names = cc
plane_address g u ss byte (Some o) e f h m s found names =
    let named : names_lun g (row_with u byte) m ≡ true = rw e at names in
    let here : (parts_of g (row_with u byte)).lun ≡ m = eqb-true (parts_of g (row_with u byte)).lun m named in
    let at : slice_get ss (parts_of g (row_with u byte)).lun ≡ Some s = ap (slice_get ss) here ∙ found in
    let page = page_address g (row_with u byte) in
    plane_queue g o.opener o.addresses (named_lun_is g (row_with u byte) (λ v. not (holds_plane_of g page v)) ss) page s h
    (sym (ap (λ (x : Option Opening). opened (λ c n. is_enhanced_column c && at_last_row c n) x && named_lun_is g (row_with u byte) (λ v. not (holds_plane_of g page v)) ss) e) ∙ f)
    (ap (is_some_and (λ v. not (holds_plane_of g page v))) at)

one_more_plane : (o : Option Opening) → opened (λ c n. is_enhanced_column c && n == 5) (one_address_more o) ≡ true → opened (λ c n. rests c) o ≡ true
one_more_plane None h = h
one_more_plane (Some o) h = or_right (is_change_read_column o.opener) (is_read o.opener || is_enhanced_column o.opener) (or_right (is_read o.opener) (is_enhanced_column o.opener) (and_parts (is_enhanced_column o.opener) _ h).0)

plane_after : (g : Parts) (u : TailFacts) (ss : List LunView) (cycle : TargetCycle) → u.is_empty ≡ false → breaks_plane_not_held g u ss cycle ≡ false → opened (λ c n. is_enhanced_column c && n == 5) (facts_after cycle u).opening ≡ true →
    NoneQueued g (row (facts_after cycle u)) (changed (by_cycle g u (has_driver ss) cycle) 0 ss)
plane_after g u ss (CommandCycle c) some f h = absurd (at (begins_anew u (CommandCycle c)) u.is_empty some h)
  where
    at : (b e : Bool) → e ≡ false → opened (λ c n. is_enhanced_column c && n == 5) (cond b (extended_facts (CommandCycle c) (facts_of [])) (cond e u (extended_facts (CommandCycle c) (record u { is_empty = e })))).opening ≡ true → ⊥
    at true e f x = let five = (and_parts (is_enhanced_column c) (0 == 5) x).1 in cc
    at false true f x = cc
    at false false f x = cc
plane_after g u ss (AddressCycle byte) some f h =
    let more : opened (λ c n. is_enhanced_column c && n == 5) (one_address_more u.opening) ≡ true = rw some at h in
    let none : NoneQueued g (row (extended_facts (AddressCycle byte) u)) ss = plane_address g u ss byte u.opening refl f more in
    subst (λ (vs : List LunView). NoneQueued g (row (facts_after (AddressCycle byte) u)) vs) (sym (address_rests g u byte ss (has_driver ss) (one_more_plane u.opening more)))
    (rw some none)
plane_after g u ss (InputCycle byte) some f h = let none = rw some at h in cc
plane_after g u ss OutputCycle some f h = let none = rw some at h in cc

-- 06h is declared where it is permitted
column_declared : (g : Parts) (c : Command) → breaks_command_unknown g (CommandCycle c) ≡ false → is_enhanced_column c ≡ true → has_enhanced_column g.optional ≡ true
unfolding breaks_command_unknown
column_declared g ChangeReadColumnEnhanced f h = not-false (has_enhanced_column g.optional) f
column_declared g c f h = cc

one_more_enhanced : (o : Option Opening) → opened (λ c n. is_enhanced_column c) (one_address_more o) ≡ true → opened (λ c n. is_enhanced_column c) o ≡ true
one_more_enhanced None h = h
one_more_enhanced (Some o) h = h

declared_after : (g : Parts) (u : TailFacts) (cycle : TargetCycle) → u.is_empty ≡ false → (opened (λ c n. is_enhanced_column c) u.opening ≡ true → has_enhanced_column g.optional ≡ true) → breaks_command_unknown g cycle ≡ false →
    opened (λ c n. is_enhanced_column c) (facts_after cycle u).opening ≡ true → has_enhanced_column g.optional ≡ true
declared_after g u (CommandCycle c) some before f2 h = at (begins_anew u (CommandCycle c)) u.is_empty some h
  where
    at : (b e : Bool) → e ≡ false → opened (λ c n. is_enhanced_column c) (cond b (extended_facts (CommandCycle c) (facts_of [])) (cond e u (extended_facts (CommandCycle c) (record u { is_empty = e })))).opening ≡ true → has_enhanced_column g.optional ≡ true
    at true e f x = column_declared g c f2 x
    at false true f x = cc
    at false false f x = cc
declared_after g u (AddressCycle byte) some before f2 h = before (one_more_enhanced u.opening (rw some at h))
declared_after g u (InputCycle byte) some before f2 h = let none = rw some at h in cc
declared_after g u OutputCycle some before f2 h = let none = rw some at h in cc

-- on a target with one LUN, or where no 06h is declared
abbrev pub IsAlone : Parts → Type 0
IsAlone g = (has_enhanced_column g.optional ≡ false) ⊎ (g.luns ≤ 1)

last_enhanced : (o : Option Opening) → opened (λ c n. is_enhanced_column c && at_last_row c n) o ≡ true → (opened (λ c n. is_enhanced_column c) o ≡ true) × (opened (λ c n. true && at_last_row c n) o ≡ true)
last_enhanced None h = cc
last_enhanced (Some o) h = and_parts (is_enhanced_column o.opener) (at_last_row o.opener o.addresses) h

-- there the row of a 06h names each LUN
alone_named : (g : Parts) (u : TailFacts) (ss : List LunView) (byte : ℕ) → IsAlone g → length ss ≤ g.luns → (opened (λ c n. is_enhanced_column c) u.opening ≡ true → has_enhanced_column g.optional ≡ true) → breaks_row_outside g u (AddressCycle byte) ≡ false →
    ends_row is_enhanced_column u ≡ true → AllNamed g (row_with u byte) ss
unfolding breaks_row_outside
alone_named g u ss byte (inl none) count declared f8 ends m within = let some = declared (last_enhanced u.opening ends).0 in absurd (true≢false (sym some ∙ none))
alone_named g u ss byte (inr one) count declared f8 ends m within =
    let p = parts_of g (row_with u byte) in
    let inside : is_inside g p ≡ true = not-false (is_inside g p) (and_rest (ends_row (λ c. true) u) (not (is_inside g p)) (last_enhanced u.opening ends).1 f8) in
    let low : p.lun < g.luns = ltb-true p.lun g.luns (and_parts (ltb p.lun g.luns) _ (and_parts (ltb p.lun g.luns && ltb p.block g.blocks) _ inside).0).0 in
    eq-eqb p.lun m (omega (arith, low, one, count, within))

reads_clear : (g : Parts) (u : TailFacts) (ts : List LunView) → (has_plane_reads g.optional ≡ false → opened (λ c n. is_read c && n == 5) u.opening ≡ true → NoneQueued g (row u) ts) → AtEach (ReadsClear g u) 0 ts
reads_clear g u ts h = at_each (ReadsClear g u) ts (λ m t found single r names. h single r m t found names)

plane_clear : (g : Parts) (u : TailFacts) (ss : List LunView) → (opened (λ c n. is_enhanced_column c && n == 5) u.opening ≡ true → NoneQueued g (row u) ss) → AtEach (PlaneClear g u) 0 ss
plane_clear g u ss h = at_each (PlaneClear g u) ss (λ m s found r names. h r m s found names)

-- ---- 3. a cycle that is seen

module _ (g : Parts) (plain : is_shared g ≡ false) (copyless : IsNarrow g) (k later : Known) (t s : TargetView) (c : Cycle) (f : FitsTarget g k t s) where
  abbrev cycle : TargetCycle
  cycle = target_cycle c.kind c.byte

  each : Each IsBelow t.luns s.luns
  each = below_each (has_plane_reads g.optional) k 0 t.luns s.luns f.luns

  few_after : (w : TailFacts) → length (luns_after g w (has_driver s.luns) (Cyc c) 0 s.luns) ≤ 4
  few_after w = subst (λ n. n ≤ 4) (sym (ap length (luns_by_cycle g w (has_driver s.luns) c s.luns) ∙ changed_length (by_cycle g w (has_driver s.luns) cycle) 0 s.luns)) f.few

  count_after : (w : TailFacts) → length (luns_after g w (has_driver s.luns) (Cyc c) 0 s.luns) ≤ g.luns
  count_after w = subst (λ n. n ≤ g.luns) (sym (ap length (luns_by_cycle g w (has_driver s.luns) c s.luns) ∙ changed_length (by_cycle g w (has_driver s.luns) cycle) 0 s.luns)) f.count

  fit_after : (u w : TailFacts) → GoEach (has_plane_reads g.optional) (Cyc c) k (by_cycle g u (has_driver t.luns) cycle) (by_cycle g w (has_driver s.luns) cycle) 0 t.luns s.luns → IsLearned (has_plane_reads g.optional) (Cyc c) k later s.luns (luns_after g w (has_driver s.luns) (Cyc c) 0 s.luns) →
      AllFit (has_plane_reads g.optional) later 0 (luns_after g u (has_driver t.luns) (Cyc c) 0 t.luns) (luns_after g w (has_driver s.luns) (Cyc c) 0 s.luns)
  fit_after u w go learned =
      rw (luns_by_cycle g u (has_driver t.luns) c t.luns, luns_by_cycle g w (has_driver s.luns) c s.luns)
      (all_fit_on (has_plane_reads g.optional) (Cyc c) k later (by_cycle g u (has_driver t.luns) cycle) (by_cycle g w (has_driver s.luns) cycle) 0 t.luns s.luns f.luns go
      (learns_each (has_plane_reads g.optional) (Cyc c) k later (by_cycle g w (has_driver s.luns) cycle) s.luns f.few (subst (IsLearned (has_plane_reads g.optional) (Cyc c) k later s.luns) (luns_by_cycle g w (has_driver s.luns) c s.luns) learned)))

  go_cycle : (u : TailFacts) (d : TargetCycle) → d ≡ cycle → KeepsRules g u t.luns d → KeepsRules g u s.luns d → (opened (λ c n. is_change_read_column c) u.opening ≡ true → (has_driver t.luns ≡ true) × (has_driver s.luns ≡ true)) →
      (has_plane_reads g.optional ≡ false → opened (λ c n. is_read c && n == 5) u.opening ≡ true → NoneQueued g (row u) t.luns) → (opened (λ c n. is_enhanced_column c && n == 5) u.opening ≡ true → NoneQueued g (row u) s.luns) → GoEach (has_plane_reads g.optional) (Cyc c) k (by_cycle g u (has_driver t.luns) d) (by_cycle g u (has_driver s.luns) d) 0 t.luns s.luns
  go_cycle u (CommandCycle x) e a b column read plane = go_command g plain copyless (Cyc c) k t.luns s.luns each u x (λ h. ap is_reset_cycle e ∙ h) a b column (reads_clear g u t.luns read) (plane_clear g u s.luns plane)
  go_cycle u (AddressCycle byte) e a b column read plane = go_address g plain copyless (Cyc c) k t.luns s.luns each u byte (λ h. ap is_reset_cycle e ∙ h)
  go_cycle u (InputCycle byte) e a b column read plane = go_input g plain copyless (Cyc c) k t.luns s.luns each u byte (λ h. ap is_reset_cycle e ∙ h)
  go_cycle u OutputCycle e a b column read plane = go_output g plain copyless (Cyc c) k t.luns s.luns each u (λ h. ap is_reset_cycle e ∙ h) a b

  -- a cycle of a target of which an opener was seen
  pub seen_opened : k.opened ≡ true → later.opened ≡ true → judge_cycle g t.tail t.luns cycle ≡ None → judge_cycle g s.tail s.luns cycle ≡ None → IsLearned (has_plane_reads g.optional) (Cyc c) k later s.luns (target_after g (Cyc c) s).luns →
      FitsTarget g later (target_after g (Cyc c) t) (target_after g (Cyc c) s)
  seen_opened was later_open permitted seen learned =
      record {
        few = few_after s.tail;
        count = count_after s.tail;
        luns = fit_after t.tail s.tail (subst (λ (w : TailFacts). GoEach (has_plane_reads g.optional) (Cyc c) k (by_cycle g t.tail (has_driver t.luns) cycle) (by_cycle g w (has_driver s.luns) cycle) 0 t.luns s.luns) o.tail (go_cycle t.tail cycle refl a b o.column o.read o.plane)) learned;
        opened = λ h. record {
          tail = ap (facts_after cycle) o.tail;
          some = some_after cycle t.tail o.some;
          sound = sound_after cycle t.tail o.some o.sound;
          column = λ x. (
            ap has_driver (luns_by_cycle g t.tail (has_driver t.luns) c t.luns) ∙ driver_after g t.tail t.luns cycle o.some (λ y. (o.column y).0) a.f5 x,
            ap has_driver (luns_by_cycle g s.tail (has_driver s.luns) c s.luns)
                ∙ ap (λ (w : TailFacts). has_driver (changed (by_cycle g w (has_driver s.luns) cycle) 0 s.luns)) (sym o.tail)
                ∙ driver_after g t.tail s.luns cycle o.some (λ y. (o.column y).1) b.f5 x,
          );
          read = λ single x. subst (NoneQueued g (row (facts_after cycle t.tail))) (sym (luns_by_cycle g t.tail (has_driver t.luns) c t.luns)) (read_after g t.tail t.luns cycle single o.some a.f10 x);
          plane = λ x.
              subst (NoneQueued g (row (facts_after cycle t.tail)))
              (sym (luns_by_cycle g s.tail (has_driver s.luns) c s.luns ∙ ap (λ (w : TailFacts). changed (by_cycle g w (has_driver s.luns) cycle) 0 s.luns) (sym o.tail)))
              (plane_after g t.tail s.luns cycle o.some b.f18 x);
          declared = declared_after g t.tail cycle o.some o.declared a.f2;
        };
        closed = λ h. cc;
      }
    where
      o : IsOpened g t s
      o = f.opened was

      a : KeepsRules g t.tail t.luns cycle
      a = keeps_rules g t.tail t.luns cycle permitted

      b : KeepsRules g t.tail s.luns cycle
      b = keeps_rules g t.tail s.luns cycle (ap (λ (w : TailFacts). judge_cycle g w s.luns cycle) o.tail ∙ seen)

-- ---- 4. an opener behind what wasn't seen

record Fresh (g : Parts) (d : TargetCycle) (u : TailFacts) : Type 0 where
  same : facts_after d u ≡ facts_after d (facts_of [])
  some : (facts_after d u).is_empty ≡ false
  sound : is_sound (facts_after d u) ≡ true
  column : opened (λ c n. is_change_read_column c) (facts_after d u).opening ≡ true → (w : TailFacts) (vs : List LunView) → breaks_no_column_to_change vs d ≡ false → has_driver (changed (by_cycle g w (has_driver vs) d) 0 vs) ≡ true
  read : opened (λ c n. is_read c && n == 5) (facts_after d u).opening ≡ true → ⊥
  plane : opened (λ c n. is_enhanced_column c && n == 5) (facts_after d u).opening ≡ true → ⊥
  declared : opened (λ c n. is_enhanced_column c) (facts_after d u).opening ≡ true → breaks_command_unknown g d ≡ false → has_enhanced_column g.optional ≡ true

-- behind no tail an opener begins one
opens_nothing : (c : Command) → is_opener c ≡ true → begins_anew (facts_of []) (CommandCycle c) ≡ true
opens_nothing ReadConfirm h = cc
opens_nothing BlockEraseConfirm h = cc
opens_nothing BlockErasePlane h = cc
opens_nothing ReadPlane h = cc
opens_nothing CopybackRead h = cc
opens_nothing ProgramConfirm h = cc
opens_nothing ProgramPlane h = cc
opens_nothing ProgramCache h = cc
opens_nothing ReadCacheSequential h = refl
opens_nothing ChangeWriteColumn h = refl
opens_nothing c h = h

-- so does each behind another, but a 31h that it wants, where an 85h begins none
anew_by : (g : Parts) → IsNarrow g → (t : TailFacts) (c : Command) → opens_here g c ≡ true → (c ≡ ReadCacheSequential → wants_command t ReadCacheSequential ≡ false) → begins_anew t (CommandCycle c) ≡ true
anew_by g copyless t ReadConfirm h w = cc
anew_by g copyless t BlockEraseConfirm h w = cc
anew_by g copyless t BlockErasePlane h w = cc
anew_by g copyless t ReadPlane h w = cc
anew_by g copyless t CopybackRead h w = cc
anew_by g copyless t ChangeWriteColumn h w = absurd (true≢false (sym h ∙ copyless.copyback))
anew_by g copyless t ProgramConfirm h w = cc
anew_by g copyless t ProgramPlane h w = cc
anew_by g copyless t ProgramCache h w = cc
anew_by g copyless t ReadCacheSequential h w = ap not (w refl)
anew_by g copyless t c h w = h

-- in the base profile none that is permitted is wanted
unwanted : (g : Parts) (t : TailFacts) → is_wide g.optional ≡ false → breaks_sequence_open g t (CommandCycle ReadCacheSequential) ≡ false → wants_command t ReadCacheSequential ≡ false
unfolding breaks_sequence_open
unwanted g t narrow h = at (wants_command t ReadCacheSequential) refl
  where
    at : (w : Bool) → wants_command t ReadCacheSequential ≡ w → w ≡ false
    at true w = let no : true ≡ false = rw (command_opens t ReadCacheSequential w, w, narrow) at h in cc
    at false w = refl

abbrev ReadClosed : Option Opening → Bool
ReadClosed o = opened (λ c n. closes c ReadCacheSequential && n == address_cycles c) o

led_unread : (c : Command) (n : ℕ) → is_led c ≡ false → (closes c ReadCacheSequential && n == address_cycles c) ≡ false
led_unread Read n h = cc
led_unread c n h = refl

erase_unread : (c : Command) (n : ℕ) → is_block_erase c ≡ true → (closes c ReadCacheSequential && n == address_cycles c) ≡ false
erase_unread BlockErase n h = refl
erase_unread c n h = cc

program_unread : (c : Command) (n : ℕ) → begins_data c ≡ true → (closes c ReadCacheSequential && n == address_cycles c) ≡ false
program_unread PageProgram n h = refl
program_unread ChangeWriteColumn n h = refl
program_unread c n h = cc

quiet_unread : (o : Option Opening) (p : DataPhase) → is_quiet_by o p ≡ true → ReadClosed o ≡ false
quiet_unread None p h = refl
quiet_unread (Some o) p h = led_unread o.opener o.addresses (not_led o p h)

named_unread : (g : Parts) (o : Option Opening) (p : DataPhase) → is_wide g.optional ≡ true → is_named_by g o p ≡ true → ReadClosed o ≡ false
named_unread g None p w h = refl
named_unread g (Some o) Inputs w h = program_unread o.opener o.addresses (and_parts (begins_data o.opener) (o.addresses == 5) h).0
named_unread g (Some o) Outside w h = at (is_block_erase o.opener && o.addresses == 3) refl h
  where
    at : (b : Bool) → (is_block_erase o.opener && o.addresses == 3) ≡ b → (b || (not (is_wide g.optional) && (is_read o.opener && o.addresses == 5))) ≡ true → ReadClosed (Some o) ≡ false
    at true x y = erase_unread o.opener o.addresses (and_parts (is_block_erase o.opener) (o.addresses == 3) x).0
    at false x y = let no : false ≡ true = rw w at y in cc
named_unread g (Some o) FirstColumn w h = cc
named_unread g (Some o) SecondColumn w h = cc
named_unread g (Some o) FeatureInputs w h = cc

-- behind what wasn't seen, where something was seen before, no 31h that is permitted is wanted
quiet_read : (g : Parts) (t : TailFacts) → is_quiet t ≡ true → wants_command t ReadCacheSequential ≡ false
quiet_read g t h = quiet_unread t.opening t.phase h

named_read : (g : Parts) (t : TailFacts) → is_named g t ≡ true → breaks_sequence_open g t (CommandCycle ReadCacheSequential) ≡ false → wants_command t ReadCacheSequential ≡ false
named_read g t h f3 = at (is_wide g.optional) refl
  where
    at : (w : Bool) → is_wide g.optional ≡ w → wants_command t ReadCacheSequential ≡ false
    at true e = named_unread g t.opening t.phase e h
    at false e = unwanted g t e f3

plane_unread : (c : Command) (n : ℕ) → is_enhanced_column c ≡ true → (closes c ReadCacheSequential && n == address_cycles c) ≡ false
plane_unread ChangeReadColumnEnhanced n h = refl
plane_unread c n h = cc

selecting_unread : (o : Option Opening) (p : DataPhase) → is_plane_by o p ≡ true → ReadClosed o ≡ false
selecting_unread None p h = refl
selecting_unread (Some o) Outside h = plane_unread o.opener o.addresses (and_parts (is_enhanced_column o.opener) (o.addresses == 5) h).0
selecting_unread (Some o) p h = cc

selecting_read : (g : Parts) (t : TailFacts) → is_plane t ≡ true → wants_command t ReadCacheSequential ≡ false
selecting_read g t h = selecting_unread t.opening t.phase h

-- of LUNs of which nothing was seen none drives the bus
blank_driving : (vs : List LunView) → AreBlank vs → driving vs ≡ []
blank_driving [] b = refl
blank_driving (v ∷ vs) b = ap (λ (l : Latch). cond (is_off l) (driving vs) (v ∷ driving vs)) (b 0 v refl).latch ∙ blank_driving vs (λ m s found. b (suc m) s found)

blank_driver : (vs : List LunView) (test : LunView → Bool) → AreBlank vs → driver_is test vs ≡ true → ⊥
blank_driver vs test b h = let none : is_some_and test (only []) ≡ true = ap (λ (ds : List LunView). is_some_and test (only ds)) (sym (blank_driving vs b)) ∙ h in cc

-- and none has read a page
blank_reader : (vs : List LunView) (n : ℕ) → AreBlank vs → lun_is (λ v. is_page_read v.closer) vs n ≡ true → ⊥
blank_reader [] n b h = cc
blank_reader (v ∷ vs) zero b h = let none : is_page_read None ≡ true = ap is_page_read (sym (b 0 v refl).closer) ∙ h in cc
blank_reader (v ∷ vs) (suc n) b h = blank_reader vs n (λ m s found. b (suc m) s found) h

-- an opener that is seen to be permitted behind what wasn't seen begins a tail
fresh_anew : (g : Parts) → IsNarrow g → (t : TailFacts) (ts ss : List LunView) (c : Command) → opens_here g c ≡ true → KeepsRules g t ts (CommandCycle c) → KeepsRules g (facts_of []) ss (CommandCycle c) → MayCome g t ss → begins_anew t (CommandCycle c) ≡ true
unfolding breaks_cache_read_misplaced
fresh_anew g copyless t ts ss ReadCacheSequential h a b (blank e) = absurd (blank_driver ss (continues_cache g) e (not-false (driver_is (continues_cache g) ss) b.f15))
fresh_anew g copyless t ts ss ReadCacheSequential h a b (quiet e) = ap not (quiet_read g t e)
fresh_anew g copyless t ts ss ReadCacheSequential h a b (named e n) = ap not (named_read g t e a.f3)
fresh_anew g copyless t ts ss ReadCacheSequential h a b (selecting e n) = ap not (selecting_read g t e)
fresh_anew g copyless t ts ss ReadConfirm h a b m = cc
fresh_anew g copyless t ts ss BlockEraseConfirm h a b m = cc
fresh_anew g copyless t ts ss BlockErasePlane h a b m = cc
fresh_anew g copyless t ts ss ReadPlane h a b m = cc
fresh_anew g copyless t ts ss CopybackRead h a b m = cc
fresh_anew g copyless t ts ss ChangeWriteColumn h a b m = absurd (true≢false (sym h ∙ copyless.copyback))
fresh_anew g copyless t ts ss ProgramConfirm h a b m = cc
fresh_anew g copyless t ts ss ProgramPlane h a b m = cc
fresh_anew g copyless t ts ss ProgramCache h a b m = cc
fresh_anew g copyless t ts ss c h a b m = h

-- so does one where all is known of each LUN
pub known_anew : (g : Parts) → IsNarrow g → (t : TailFacts) (ts ss : List LunView) (c : Command) → opens_here g c ≡ true → KeepsRules g t ts (CommandCycle c) → MayCome g t ss → Each IsKnown ts ss → begins_anew t (CommandCycle c) ≡ true
unfolding breaks_cache_read_misplaced
known_anew g copyless t ts ss ReadCacheSequential h a (blank e) each = ap not (at (wants_command t ReadCacheSequential) refl a.f15)
  where
    at : (w : Bool) → wants_command t ReadCacheSequential ≡ w → cond w (not (named_lun_is g (row t) has_read_one ts)) (not (driver_is (continues_cache g) ts)) ≡ false → w ≡ false
    at false x f = refl
    at true x f =
        absurd (blank_reader ss (parts_of g (row t)).lun e
        (lun_up IsKnown has_read_one (λ v. is_page_read v.closer) (λ x y k r. ap is_page_read (sym k.begun.closer) ∙ (and_parts (is_page_read x.closer) (leb (length x.held) 1) r).0) ts ss (parts_of g (row t)).lun each
        (not-false (named_lun_is g (row t) has_read_one ts) f)))
known_anew g copyless t ts ss ReadCacheSequential h a (quiet e) each = ap not (quiet_read g t e)
known_anew g copyless t ts ss ReadCacheSequential h a (named e n) each = ap not (named_read g t e a.f3)
known_anew g copyless t ts ss ReadCacheSequential h a (selecting e n) each = ap not (selecting_read g t e)
known_anew g copyless t ts ss ReadConfirm h a m each = cc
known_anew g copyless t ts ss BlockEraseConfirm h a m each = cc
known_anew g copyless t ts ss BlockErasePlane h a m each = cc
known_anew g copyless t ts ss ReadPlane h a m each = cc
known_anew g copyless t ts ss CopybackRead h a m each = cc
known_anew g copyless t ts ss ChangeWriteColumn h a m each = absurd (true≢false (sym h ∙ copyless.copyback))
known_anew g copyless t ts ss ProgramConfirm h a m each = cc
known_anew g copyless t ts ss ProgramPlane h a m each = cc
known_anew g copyless t ts ss ProgramCache h a m each = cc
known_anew g copyless t ts ss c h a m each = h

-- what comes behind one that is taken for granted
fresh_comes_on : (g : Parts) → IsNarrow g → (t : TailFacts) (ts ss : List LunView) (c : Command) → opens_here g c ≡ true → grants c ≡ true → KeepsRules g t ts (CommandCycle c) → MayCome g t ss → MayCome g (facts_after (CommandCycle c) t) ss
fresh_comes_on g copyless t ts ss c h grant a (blank e) = blank e
fresh_comes_on g copyless t ts ss c h grant a (quiet e) = command_comes g t ss c (inr (anew_by g copyless t c h (λ same. quiet_read g t e))) grant
fresh_comes_on g copyless t ts ss c h grant a (selecting e n) = command_comes g t ss c (inr (anew_by g copyless t c h (λ same. selecting_read g t e))) grant
fresh_comes_on g copyless t ts ss c h grant a (named e n) =
    command_comes g t ss c (inr (anew_by g copyless t c h (λ same. named_read g t e (ap (λ (x : Command). breaks_sequence_open g t (CommandCycle x)) (sym same) ∙ a.f3)))) grant

fresh_of : (g : Parts) (d : TargetCycle) (u : TailFacts) → begins_anew u d ≡ true → Fresh g d u
fresh_of g (CommandCycle c) u h =
    record {
      same = rw (h, opens_nothing c (and_parts (is_opener c) (not (goes_on_with u c)) h).0) refl;
      some = rw h refl;
      sound = rw h (ap (is_sound_by (Some (record { opener = c; addresses = 0 }))) (quiet_command c Outside refl));
      column = λ x w vs f5. opened_driver g w vs c f5 (rw h at x);
      read = λ x. let five = (and_parts (is_read c) (0 == 5) (rw h at x)).1 in cc;
      plane = λ x. let five = (and_parts (is_enhanced_column c) (0 == 5) (rw h at x)).1 in cc;
      declared = λ x f2. column_declared g c f2 (rw h at x);
    }
fresh_of g (AddressCycle byte) u h = cc
fresh_of g (InputCycle byte) u h = cc
fresh_of g OutputCycle u h = cc

module _ (g : Parts) (plain : is_shared g ≡ false) (copyless : IsNarrow g) (k later : Known) (t s : TargetView) (c : Cycle) (f : FitsTarget g k t s) where
  go_fresh : (u : TailFacts) (d : TargetCycle) → d ≡ target_cycle c.kind c.byte → opens_sequence g d ≡ true → begins_anew u d ≡ true → KeepsRules g u t.luns d → KeepsRules g (facts_of []) s.luns d →
      GoEach (has_plane_reads g.optional) (Cyc c) k (by_cycle g u (has_driver t.luns) d) (by_cycle g (facts_of []) (has_driver s.luns) d) 0 t.luns s.luns
  go_fresh u (CommandCycle x) e h anew a b = go_opener g plain copyless (Cyc c) k t.luns s.luns (each g plain copyless k later t s c f) u x (opens_is g x h) anew (λ y. ap is_reset_cycle e ∙ y) a b
  go_fresh u (AddressCycle byte) e h anew a b = cc
  go_fresh u (InputCycle byte) e h anew a b = cc
  go_fresh u OutputCycle e h anew a b = cc

  pub seen_fresh : k.opened ≡ false → later.opened ≡ true → opens_sequence g (target_cycle c.kind c.byte) ≡ true → judge_cycle g t.tail t.luns (target_cycle c.kind c.byte) ≡ None → judge_cycle g s.tail s.luns (target_cycle c.kind c.byte) ≡ None →
      IsLearned (has_plane_reads g.optional) (Cyc c) k later s.luns (target_after g (Cyc c) s).luns → FitsTarget g later (target_after g (Cyc c) t) (target_after g (Cyc c) s)
  seen_fresh was later_open begins permitted seen learned =
      record {
        few = few_after g plain copyless k later t s c f s.tail;
        count = count_after g plain copyless k later t s c f s.tail;
        luns = fit_after g plain copyless k later t s c f t.tail s.tail (subst (λ (w : TailFacts). GoEach (has_plane_reads g.optional) (Cyc c) k (by_cycle g t.tail (has_driver t.luns) d) (by_cycle g w (has_driver s.luns) d) 0 t.luns s.luns) (sym q.tail) (go_fresh t.tail d refl begins anew a b)) learned;
        opened = λ h. record {
          tail = fresh.same ∙ ap (facts_after d) (sym q.tail);
          some = fresh.some;
          sound = fresh.sound;
          column = λ x. (
            ap has_driver (luns_by_cycle g t.tail (has_driver t.luns) c t.luns) ∙ fresh.column x t.tail t.luns a.f5,
            ap has_driver (luns_by_cycle g s.tail (has_driver s.luns) c s.luns) ∙ fresh.column x s.tail s.luns b.f5,
          );
          read = λ single x. absurd (fresh.read x);
          plane = λ x. absurd (fresh.plane x);
          declared = λ x. fresh.declared x a.f2;
        };
        closed = λ h. cc;
      }
    where
      d : TargetCycle
      d = target_cycle c.kind c.byte

      q : IsClosed g k t s
      q = f.closed was

      a : KeepsRules g t.tail t.luns d
      a = keeps_rules g t.tail t.luns d permitted

      b : KeepsRules g (facts_of []) s.luns d
      b = keeps_rules g (facts_of []) s.luns d (ap (λ (w : TailFacts). judge_cycle g w s.luns d) (sym q.tail) ∙ seen)

      opens_anew : (e : TargetCycle) → opens_sequence g e ≡ true → KeepsRules g t.tail t.luns e → KeepsRules g (facts_of []) s.luns e → begins_anew t.tail e ≡ true
      opens_anew (CommandCycle x) h x' y = fresh_anew g copyless t.tail t.luns s.luns x h x' y q.comes
      opens_anew (AddressCycle byte) h x' y = cc
      opens_anew (InputCycle byte) h x' y = cc
      opens_anew OutputCycle h x' y = cc

      anew : begins_anew t.tail d ≡ true
      anew = opens_anew d begins a b

      fresh : Fresh g d t.tail
      fresh = fresh_of g d t.tail anew

-- ---- 5. a cycle that is taken for granted, or passed over

module _ (g : Parts) (plain : is_shared g ≡ false) (copyless : IsNarrow g) (one : IsAlone g) (k : Known) (t s : TargetView) (c : Cycle) (f : FitsTarget g k t s) where
  abbrev clear : is_shared g ≡ true → IsClear t.luns s.luns
  clear = plain_clear g t.luns s.luns plain

  below : Each IsBelow t.luns s.luns
  below = below_each (has_plane_reads g.optional) k 0 t.luns s.luns f.luns

  spare : Each SpareSeen t.luns s.luns
  spare = spare_each t.luns s.luns below

  left_below : breaks_command_unknown g (target_cycle c.kind c.byte) ≡ false → ((la : Latch) (n : ℕ) (v : LunView) → slice_get s.luns n ≡ Some v → IsHarmless (cycle_effect g t.tail la (target_cycle c.kind c.byte) n) v) → AllFit (has_plane_reads g.optional) nothing_known 0 (target_after g (Cyc c) t).luns s.luns
  left_below f2 h =
      all_nothing (has_plane_reads g.optional) (target_after g (Cyc c) t).luns s.luns f.few
      (subst (λ (vs : List LunView). Each IsBelow vs s.luns) (sym (luns_by_cycle g t.tail (has_driver t.luns) c t.luns))
      (below_unseen (by_cycle g t.tail (has_driver t.luns) (target_cycle c.kind c.byte)) t.luns s.luns below (λ m x. never_cycle g copyless.cache t.tail (cond (has_driver t.luns) x.latch Off) (target_cycle c.kind c.byte) m f2) (λ m v found x. h (cond (has_driver t.luns) x.latch Off) m v found)))

  by_comes : breaks_command_unknown g (target_cycle c.kind c.byte) ≡ false → Comes g t.tail s.luns (target_cycle c.kind c.byte) → FitsTarget g nothing_known (target_after g (Cyc c) t) (without_sequence s)
  by_comes f2 x =
      record {
        few = f.few;
        count = f.count;
        luns = left_below f2 (λ la n v found. x.harmless la n v found);
        opened = λ h. cc;
        closed = λ h. record { tail = refl; nothing = refl; comes = x.comes };
      }

  by_command : (u : TailFacts) (x : Command) (rule : Forbidden) → (x ≡ CopybackRead → ⊥) → (x ≡ ReadConfirm → NoneQueued g (row t.tail) s.luns) → six_of g u s.luns (CommandCycle x) ≡ Some rule → (grants x ≡ true → MayCome g (facts_after (CommandCycle x) t.tail) s.luns) → Comes g t.tail s.luns (CommandCycle x)
  by_command u x rule never calm h comes =
      let grant = is_granted g u s.luns x rule h in
      record { comes = comes grant; harmless = λ la n v found. command_granted g plain t.tail la x n v grant never (λ same names. calm same n v found names) }

  open_comes : (d : TargetCycle) (rule : Forbidden) → KeepsRules g t.tail t.luns d → IsOpened g t s → judge_cycle g t.tail s.luns d ≡ Some rule → Comes g t.tail s.luns d
  open_comes (CommandCycle x) rule a o h =
      let six = sym (judged_six g copyless t.tail t.luns s.luns (CommandCycle x) (under_each t.luns s.luns below) clear spare a) ∙ h in
      by_command t.tail x rule (no_copyback g copyless x a.f2) (λ same. granted_row g t.tail t.luns s.luns rule below (sym (ap (λ (y : Command). six_of g t.tail s.luns (CommandCycle y)) same) ∙ six)) six (command_comes g t.tail s.luns x (inl o.some))
  open_comes (AddressCycle byte) rule a o h = address_granted g t.tail t.luns s.luns byte rule below a o.some o.sound (alone_named g t.tail s.luns byte one f.count o.declared a.f8) (sym (judged_six g copyless t.tail t.luns s.luns (AddressCycle byte) (under_each t.luns s.luns below) clear spare a) ∙ h)
  open_comes (InputCycle byte) rule a o h = absurd (input_granted g t.tail t.luns s.luns byte rule a (sym (judged_six g copyless t.tail t.luns s.luns (InputCycle byte) (under_each t.luns s.luns below) clear spare a) ∙ h))
  open_comes OutputCycle rule a o h = output_granted g t.tail s.luns o.some

  pub granted_opened : (rule : Forbidden) → k.opened ≡ true → judge_cycle g t.tail t.luns (target_cycle c.kind c.byte) ≡ None → judge_cycle g s.tail s.luns (target_cycle c.kind c.byte) ≡ Some rule →
      FitsTarget g nothing_known (target_after g (Cyc c) t) (without_sequence s)
  granted_opened rule was permitted h =
      let o = f.opened was in
      by_comes (keeps_rules g t.tail t.luns (target_cycle c.kind c.byte) permitted).f2 (open_comes (target_cycle c.kind c.byte) rule (keeps_rules g t.tail t.luns (target_cycle c.kind c.byte) permitted) o (ap (λ (w : TailFacts). judge_cycle g w s.luns (target_cycle c.kind c.byte)) o.tail ∙ h))

  fresh_comes : (d : TargetCycle) (rule : Forbidden) → opens_sequence g d ≡ true → KeepsRules g t.tail t.luns d → MayCome g t.tail s.luns → judge_cycle g (facts_of []) s.luns d ≡ Some rule → Comes g t.tail s.luns d
  fresh_comes (CommandCycle x) rule begins a m h =
      by_command (facts_of []) x rule (no_copyback g copyless x a.f2) (λ same. let opens : false ≡ true = sym (ap (opens_here g) same) ∙ begins in cc) (sym (judged_six_fresh g copyless t.tail t.luns s.luns x begins (under_each t.luns s.luns below) clear spare a) ∙ h) (λ grant. fresh_comes_on g copyless t.tail t.luns s.luns x begins grant a m)
  fresh_comes (AddressCycle byte) rule begins a m h = cc
  fresh_comes (InputCycle byte) rule begins a m h = cc
  fresh_comes OutputCycle rule begins a m h = cc

  pub granted_fresh : (rule : Forbidden) → k.opened ≡ false → opens_sequence g (target_cycle c.kind c.byte) ≡ true → judge_cycle g t.tail t.luns (target_cycle c.kind c.byte) ≡ None → judge_cycle g s.tail s.luns (target_cycle c.kind c.byte) ≡ Some rule →
      FitsTarget g nothing_known (target_after g (Cyc c) t) (without_sequence s)
  granted_fresh rule was begins permitted h =
      let q = f.closed was in
      by_comes (keeps_rules g t.tail t.luns (target_cycle c.kind c.byte) permitted).f2 (fresh_comes (target_cycle c.kind c.byte) rule begins (keeps_rules g t.tail t.luns (target_cycle c.kind c.byte) permitted) q.comes (ap (λ (w : TailFacts). judge_cycle g w s.luns (target_cycle c.kind c.byte)) (sym q.tail) ∙ h))

  pub passed_over : k.opened ≡ false → opens_sequence g (target_cycle c.kind c.byte) ≡ false → judge_cycle g t.tail t.luns (target_cycle c.kind c.byte) ≡ None → FitsTarget g k (target_after g (Cyc c) t) s
  passed_over was begins permitted =
      let q = f.closed was in
      let a = keeps_rules g t.tail t.luns (target_cycle c.kind c.byte) permitted in
      record {
        few = f.few;
        count = f.count;
        luns = subst (λ (x : Known). AllFit (has_plane_reads g.optional) x 0 (target_after g (Cyc c) t).luns s.luns) (sym q.nothing) (left_below a.f2 (λ la n v found. unseen_harmless g plain t.tail t.luns s.luns (target_cycle c.kind c.byte) begins a q.comes n v found la));
        opened = λ h. cc;
        closed = λ h. record { tail = q.tail; nothing = q.nothing; comes = may_come_on g t.tail t.luns s.luns (target_cycle c.kind c.byte) begins a q.comes };
      }
