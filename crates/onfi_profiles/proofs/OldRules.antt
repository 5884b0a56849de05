-- After a past that is legal in the base profile an item is judged as it was.
use Rattle.std.proofs.Common.{◌≡◌, ℕ, ◌==◌, Bool, true, false, ◌&&◌, ◌||◌, cond, not, ltb, nat_le, List, [], ◌∷◌, Option, Some, None, refl, sym, ap, ◌∙◌}
use Rattle.std.proofs.Math.Bool.{or-false}
use Rattle.std.specs.List.{list_any}
use Rattle.nand_geometry.specs.declared.parts.Parts.{Parts}
use Rattle.nand_geometry.specs.Limits.{page_len}
use Rattle.nand_geometry.specs.Row.{parts_of, is_inside}
use Rattle.std.proofs.lemmas.Bool.{not-false}
use Rattle.onfi_cycle.proofs.Booleans.{by_case}
use Rattle.onfi_cycle.specs.declared.command.Command.{Command}
use Rattle.onfi_cycle.specs.declared.command.Command.TheVariants.{ChangeWriteColumn, ProgramConfirm, ProgramPlane, ReadId, ReadUniqueId, GetFeatures, SetFeatures, ResetLun, SynchronousReset, Unknown, ReadCacheSequential, ChangeReadColumnEnhanced, ReadPlane, CopybackRead, Read, BlockErase, PageProgram, ProgramCache}
use Rattle.onfi_cycle.specs.declared.data_phase.DataPhase.{DataPhase}
use Rattle.onfi_cycle.specs.declared.data_phase.DataPhase.TheVariants.{Outside, Inputs, FirstColumn, SecondColumn, FeatureInputs}
use Rattle.onfi_cycle.specs.declared.forbidden.Forbidden.{Forbidden}
use Rattle.onfi_cycle.specs.declared.forbidden.Forbidden.TheVariants.{NotThere, CommandUnknown, SequenceOpen, SeveralLuns, NoColumnToChange, CommandMisplaced, AddressMisplaced, RowOutside, LunBusy, QueueClash, InputMisplaced, NoSoleDriver, DataNotReady, ColumnOutside, CacheReadMisplaced, CacheProgramMisplaced, CopybackMisplaced, PlaneNotHeld}
use Rattle.onfi_cycle.specs.declared.item.Item.{Item}
use Rattle.onfi_cycle.specs.declared.item.Item.TheVariants.{Cyc, Rdy, Ard}
use Rattle.onfi_cycle.specs.declared.opening.Opening.{Opening}
use Rattle.onfi_cycle.specs.declared.page_address.PageAddress.{PageAddress}
use Rattle.onfi_cycle.specs.declared.queued.Queued.{Queued}
use Rattle.onfi_cycle.specs.declared.queued.Queued.TheVariants.{Erase, Program, Read as QueuedRead}
use Rattle.onfi_cycle.specs.declared.tail_facts.TailFacts.{TailFacts}
use Rattle.onfi_cycle.specs.declared.target_cycle.TargetCycle.{TargetCycle}
use Rattle.onfi_cycle.specs.declared.target_cycle.TargetCycle.TheVariants.{CommandCycle, AddressCycle, InputCycle, OutputCycle}
use Rattle.onfi_cycle.specs.LunView.{LunView}
use Rattle.onfi_cycle.specs.Base.{is_of_base}
use Rattle.onfi_cycle.specs.Command.{is_known, is_opener, is_write_column, is_change_read_column, addresses_a_page, at_last_row, is_read_id, is_reset, address_cycles, takes_address, addresses_the_array}
use Rattle.onfi_cycle.specs.Sequence.{target_of, target_cycle, opened, takes_data, takes_features, takes_inputs, wants_column, wants_command, wants_address, is_open, is_proper_beginning, row_with, input_column, column_with, wants_second_column, goes_on_with, row}
use Rattle.onfi_cycle.specs.Effect.{page_address}
use Rattle.onfi_cycle.specs.Lun.{luns_of}
use Rattle.onfi_cycle.specs.Rules.{opens_here, second_column, register_len, is_refused_by, breaks_copyback_misplaced, driver_is, named_lun_is, is_undeclared, breaks_not_there, breaks_command_unknown, breaks_sequence_open, breaks_several_luns, breaks_no_column_to_change, breaks_command_misplaced, breaks_address_misplaced, breaks_row_outside, breaks_lun_busy, breaks_queue_clash, breaks_input_misplaced, breaks_no_sole_driver, breaks_data_not_ready, breaks_column_outside, breaks_cache_read_misplaced, continues_cache, caching, has_read_one, has_some, queued_clashes, refused_by, some_read_clashes}
use Rattle.onfi_cycle.specs.Permitted.{judge_cycle, judge_item, judge}
use Rattle.onfi_profiles.specs.Widening.{in_base}
use Rattle.onfi_profiles.specs.Tails.{base_is_opener, base_takes_inputs, base_takes_address, base_wants_command, base_wants_address, base_is_open, base_facts}
use Rattle.onfi_profiles.specs.Judging.{base_row_outside, base_undeclared, base_command_unknown, base_sequence_open, base_command_misplaced, base_several_luns, base_lun_busy, base_address_misplaced, base_input_misplaced, base_no_sole_driver, base_column_outside, base_judge_cycle, base_judge_item, JudgesBase, base_cache_read_misplaced, base_continues_cache, base_queued_clashes, base_refused_by, base_queue_clash}
use Rattle.onfi_profiles.proofs.OldTails.{AreOfBase, is_base_cycle, base_cycle, facts_base, tails_kept}
use Rattle.onfi_profiles.proofs.Few.{driver_same, NonePrograms, none_of_base, program_kept}
use Rattle.onfi_profiles.proofs.Unwanted.{unwanted, unwritten, excluded_same, plane_kept}

-- 1. parts of rules

inputs_same : (p : DataPhase) → takes_features p ≡ false → takes_inputs p ≡ base_takes_inputs p
inputs_same Outside f = refl
inputs_same Inputs f = refl
inputs_same FirstColumn f = refl
inputs_same SecondColumn f = refl
inputs_same FeatureInputs f = cc

open_same : (t : TailFacts) → AreOfBase t → is_open t ≡ base_is_open t
open_same t a = λ i. unwritten is_proper_beginning t.opening a.written i || inputs_same t.phase a.phase i || wants_column t.phase

unknown_same : (g : Parts) (c : Command) → (not (is_known c) || is_undeclared (in_base g) c) ≡ (not (is_of_base c) || base_undeclared (in_base g) c)
unknown_same g ChangeReadColumnEnhanced = refl
unknown_same g ReadPlane = refl
unknown_same g CopybackRead = refl
unknown_same g ProgramCache = refl
unknown_same g ReadUniqueId = refl
unknown_same g GetFeatures = refl
unknown_same g SetFeatures = refl
unknown_same g ResetLun = refl
unknown_same g SynchronousReset = refl
unknown_same g Unknown = refl
unknown_same g c = refl

data_same : (p : DataPhase) → takes_data p ≡ base_takes_inputs p
data_same Outside = refl
data_same Inputs = refl
data_same FirstColumn = refl
data_same SecondColumn = refl
data_same FeatureInputs = refl

wants_same : (t : TailFacts) (c : Command) → is_of_base c ≡ true → wants_command t c ≡ base_wants_command t c
wants_same t ChangeWriteColumn b = data_same t.phase
wants_same t ProgramConfirm b = data_same t.phase
wants_same t ProgramPlane b = data_same t.phase
wants_same t ProgramCache b = cc
wants_same t c b = refl

-- the addresses of 90h that came with the wider profile are forbidden
id_address : (l a z w : Bool) → w ≡ false → (not ((l && (a || z)) || w) || (true && not a)) ≡ not ((l && a) || w)
id_address true true z false h = refl
id_address false true z false h = refl
id_address true false true false h = refl
id_address true false false false h = refl
id_address false false z false h = refl
id_address l a z true h = cc

not_none : (o : Opening) (b : Bool) → (b ≡ true → Some o ≡ None) → b ≡ false
not_none o true h = let none = h refl in cc
not_none o false h = refl

address_same : (t : TailFacts) (byte : ℕ) → AreOfBase t
    → (not (wants_address t byte) || (true && (opened (λ c n. is_read_id c) t.opening && not (byte == 0x20)))) ≡ not (base_wants_address t byte)
address_same t byte a = by t.opening a.opener a.written a.alone
  where
    by : (o : Option Opening) → opened (λ c n. not (is_of_base c)) o ≡ false → opened (λ c n. is_write_column c) o ≡ false → (wants_column t.phase ≡ true → o ≡ None)
        → (not (opened (λ c n. is_opener c && ltb n (address_cycles c) && takes_address c byte) o || wants_column t.phase) || (true && (opened (λ c n. is_read_id c) o && not (byte == 0x20))))
        ≡ not (opened (λ c n. base_is_opener c && ltb n (address_cycles c) && base_takes_address c byte) o || wants_column t.phase)
    by None b r h = or-false _
    by (Some o) b r h = of o.opener o.addresses b r (not_none o (wants_column t.phase) h)
      where
        of : (c : Command) (n : ℕ) → not (is_of_base c) ≡ false → is_write_column c ≡ false → wants_column t.phase ≡ false
            → (not ((is_opener c && ltb n (address_cycles c) && takes_address c byte) || wants_column t.phase) || (true && (is_read_id c && not (byte == 0x20))))
            ≡ not ((base_is_opener c && ltb n (address_cycles c) && base_takes_address c byte) || wants_column t.phase)
        of ReadId n b r w = id_address (ltb n 1) (byte == 0x20) (byte == 0x00 || byte == 0x40) (wants_column t.phase) w
        of ReadUniqueId n b r w = cc
        of ChangeWriteColumn n b r w = cc
        of c n b r w = or-false _

no_exception : (a o r : Bool) → (a && (o && not (r && false))) ≡ (a && o)
no_exception false o r = refl
no_exception true true true = refl
no_exception true true false = refl
no_exception true false r = refl

-- 2. the rules

f2 : (g : Parts) (k : TargetCycle) → breaks_command_unknown (in_base g) k ≡ base_command_unknown (in_base g) k
unfolding breaks_command_unknown
f2 g (CommandCycle c) = unknown_same g c
f2 g (AddressCycle byte) = refl
f2 g (InputCycle byte) = refl
f2 g OutputCycle = refl

-- 85 begins no sequence of the base profile
opens_same : (g : Parts) (c : Command) → opens_here (in_base g) c ≡ base_is_opener c
opens_same g ChangeWriteColumn = refl
opens_same g c = refl

f3 : (g : Parts) (t : TailFacts) (k : TargetCycle) → AreOfBase t → breaks_sequence_open (in_base g) t k ≡ base_sequence_open t k
unfolding breaks_sequence_open
f3 g t (CommandCycle c) a = no_exception (opens_here (in_base g) c) (is_open t) (is_reset c || goes_on_with t c) ∙ (λ i. opens_same g c i && open_same t a i)
f3 g t (AddressCycle byte) a = refl
f3 g t (InputCycle byte) a = refl
f3 g t OutputCycle a = refl

f6 : (g : Parts) (t : TailFacts) (k : TargetCycle) → is_base_cycle k ≡ true → breaks_command_misplaced (in_base g) t k ≡ base_command_misplaced t k
unfolding breaks_command_misplaced
f6 g t (CommandCycle c) b = λ i. not (opens_same g c i) && not (wants_same t c b i)
f6 g t (AddressCycle byte) b = refl
f6 g t (InputCycle byte) b = refl
f6 g t OutputCycle b = refl

f7 : (g : Parts) (t : TailFacts) (k : TargetCycle) → AreOfBase t → breaks_address_misplaced (in_base g) t k ≡ base_address_misplaced t k
unfolding breaks_address_misplaced
f7 g t (AddressCycle byte) a = address_same t byte a
f7 g t (CommandCycle c) a = refl
f7 g t (InputCycle byte) a = refl
f7 g t OutputCycle a = refl

f11 : (t : TailFacts) (k : TargetCycle) → AreOfBase t → breaks_input_misplaced t k ≡ base_input_misplaced t k
unfolding breaks_input_misplaced
f11 t (InputCycle byte) a = ap not (inputs_same t.phase a.phase)
f11 t (CommandCycle c) a = refl
f11 t (AddressCycle byte) a = refl
f11 t OutputCycle a = refl

f12 : (t : TailFacts) (luns : List LunView) (k : TargetCycle) → AreOfBase t → breaks_no_sole_driver t luns k ≡ base_no_sole_driver t luns k
unfolding breaks_no_sole_driver
f12 t luns OutputCycle a = ap (λ (b : Bool). b || not (driver_is (λ v. true) luns)) (open_same t a)
f12 t luns (CommandCycle c) a = refl
f12 t luns (AddressCycle byte) a = refl
f12 t luns (InputCycle byte) a = refl

f14 : (g : Parts) (t : TailFacts) (luns : List LunView) (k : TargetCycle) → AreOfBase t → breaks_column_outside (in_base g) t luns k ≡ base_column_outside (in_base g) t luns k
unfolding breaks_column_outside
f14 g t luns (InputCycle byte) a = ap (λ (b : Bool). not b && nat_le (page_len g) (input_column t)) a.phase
f14 g t luns (CommandCycle c) a = refl
f14 g t luns (AddressCycle byte) a =
    ap (λ (b : Bool). ((b || wants_second_column t.phase) && nat_le (page_len g) (column_with t byte)) || (second_column is_change_read_column t && driver_is (λ v. nat_le (register_len (in_base g) v.register) (column_with t byte)) luns))
    (unwritten (λ c n. addresses_a_page c && n == 1) t.opening a.written)
f14 g t luns OutputCycle a = refl

f4 : (g : Parts) (luns : List LunView) (k : TargetCycle) → breaks_several_luns (in_base g) luns k ≡ base_several_luns (in_base g) k
unfolding breaks_several_luns
f4 g luns (CommandCycle c) = refl
f4 g luns (AddressCycle byte) = refl
f4 g luns (InputCycle byte) = refl
f4 g luns OutputCycle = refl

f8 : (g : Parts) (t : TailFacts) (k : TargetCycle) → AreOfBase t → breaks_row_outside (in_base g) t k ≡ base_row_outside (in_base g) t k
unfolding breaks_row_outside
f8 g t (AddressCycle byte) a = ap (λ (b : Bool). b && not (is_inside g (parts_of g (row_with t byte)))) (unwritten (λ c n. true && at_last_row c n) t.opening a.written)
f8 g t (CommandCycle c) a = refl
f8 g t (InputCycle byte) a = refl
f8 g t OutputCycle a = refl

f9 : (g : Parts) (t : TailFacts) (luns : List LunView) (k : TargetCycle) → AreOfBase t → breaks_command_misplaced (in_base g) t k ≡ false → breaks_lun_busy (in_base g) t luns k ≡ base_lun_busy (in_base g) t luns k
unfolding breaks_lun_busy breaks_command_misplaced
f9 g t luns (CommandCycle ChangeWriteColumn) a placed = rw (not-false (wants_command t ChangeWriteColumn) placed) refl
f9 g t luns (CommandCycle c) a placed = or-false _
f9 g t luns (AddressCycle byte) a placed = λ i. unwritten (λ c n. addresses_the_array c && at_last_row c n) t.opening a.written i && or-false (named_lun_is (in_base g) (row_with t byte) (λ v. v.busy) luns) i
f9 g t luns (InputCycle byte) a placed = refl
f9 g t luns OutputCycle a placed = refl

-- a read finds the queue empty
reads_same : (g : Parts) (p : PageAddress) (queue : List Queued) → some_read_clashes (in_base g) p queue ≡ has_some queue
reads_same g p [] = refl
reads_same g p (Erase q ∷ queue) = refl
reads_same g p (Program q ∷ queue) = refl
reads_same g p (QueuedRead q ∷ queue) = refl

clashes_same : (g : Parts) (erase : Bool) (p : PageAddress) (q : Queued) → queued_clashes (in_base g) erase p q ≡ base_queued_clashes (in_base g) erase p q
clashes_same g erase p (Erase q) = refl
clashes_same g erase p (Program q) = refl
clashes_same g erase p (QueuedRead q) = refl

refused_same : (g : Parts) (c : Command) → is_write_column c ≡ false → (p : PageAddress) (queue : List Queued) → refused_by (in_base g) c p queue ≡ base_refused_by (in_base g) c p queue
refused_same g Read w p queue = reads_same g p queue
refused_same g BlockErase w p queue = λ i. list_any (λ q. clashes_same g true p q i) queue
refused_same g PageProgram w p queue = λ i. list_any (λ q. clashes_same g false p q i) queue
refused_same g ChangeWriteColumn w p queue = cc
refused_same g c w p queue = refl

refused_opened : (g : Parts) (o : Option Opening) → opened (λ c n. is_write_column c) o ≡ false → (p : PageAddress) (queue : List Queued) → is_refused_by (in_base g) o p queue ≡ opened (λ c n. at_last_row c n && base_refused_by (in_base g) c p queue) o
refused_opened g None w p queue = refl
refused_opened g (Some o) w p queue = ap (λ (b : Bool). at_last_row o.opener o.addresses && b) (refused_same g o.opener w p queue)

f10 : (g : Parts) (t : TailFacts) (luns : List LunView) (k : TargetCycle) → AreOfBase t → breaks_queue_clash (in_base g) t luns k ≡ base_queue_clash (in_base g) t luns k
unfolding breaks_queue_clash
f10 g t luns (AddressCycle byte) a = λ i. named_lun_is g (row_with t byte) (λ v. refused_opened g t.opening a.written (page_address g (row_with t byte)) v.queue i) luns
f10 g t luns (CommandCycle c) a = refl
f10 g t luns (InputCycle byte) a = refl
f10 g t luns OutputCycle a = refl

-- the one driver may go on with a cache read where it might
abbrev GoesOn : Parts → List LunView → Type 0
GoesOn g luns = driver_is (continues_cache (in_base g)) luns ≡ driver_is (base_continues_cache (in_base g)) luns

f15 : (g : Parts) (t : TailFacts) (luns : List LunView) (k : TargetCycle) → AreOfBase t → is_base_cycle k ≡ true → GoesOn g luns → breaks_sequence_open (in_base g) t k ≡ false → breaks_cache_read_misplaced (in_base g) t luns k ≡ base_cache_read_misplaced (in_base g) t luns k
unfolding breaks_cache_read_misplaced
f15 g t luns (CommandCycle ReadCacheSequential) a b go h = ap (λ (w : Bool). cond w (not (named_lun_is (in_base g) (row t) has_read_one luns)) (not (driver_is (continues_cache (in_base g)) luns))) (unwanted (in_base g) t refl h) ∙ ap not go
f15 g t luns (CommandCycle ReadPlane) a b go h = cc
f15 g t luns (CommandCycle CopybackRead) a b go h = cc
f15 g t luns (CommandCycle ProgramCache) a b go h = cc
f15 g t luns (CommandCycle c) a b go h = refl
f15 g t luns (AddressCycle byte) a b go h = ap (λ (b : Bool). b && named_lun_is (in_base g) (row_with t byte) caching luns) (excluded_same g t a.opener ∙ unwritten (λ c n. addresses_the_array c && at_last_row c n) t.opening a.written)
f15 g t luns (InputCycle byte) a b go h = refl
f15 g t luns OutputCycle a b go h = refl

-- F17 is of no chip of the base profile
copy_kept : (g : Parts) (t : TailFacts) (luns : List LunView) (k : TargetCycle) → breaks_copyback_misplaced (in_base g) t luns k ≡ false
unfolding breaks_copyback_misplaced
copy_kept g t luns (AddressCycle byte) = refl
copy_kept g t luns (CommandCycle ProgramCache) = refl
copy_kept g t luns (CommandCycle c) = refl
copy_kept g t luns (InputCycle byte) = refl
copy_kept g t luns OutputCycle = refl

-- 3. all of them

cycle_same : (g : Parts) (t : TailFacts) (luns : List LunView) (k : TargetCycle) → AreOfBase t → GoesOn g luns → NonePrograms luns → judge_cycle (in_base g) t luns k ≡ base_judge_cycle (in_base g) t luns k
cycle_same g t luns k a go none = by (breaks_command_unknown (in_base g) k) refl
  where
    -- a misplaced command
    misplaced : is_base_cycle k ≡ true → breaks_sequence_open (in_base g) t k ≡ false → breaks_command_misplaced (in_base g) t k ≡ true → judge_cycle (in_base g) t luns k ≡ base_judge_cycle (in_base g) t luns k
    misplaced base e m =
        rw (e, sym (f3 g t k a) ∙ e, m, sym (f6 g t k base) ∙ m)
        (λ i.
        cond (f2 g k i) (Some CommandUnknown)
        (cond (f4 g luns k i) (Some SeveralLuns)
        (cond (breaks_no_column_to_change luns k) (Some NoColumnToChange) (Some CommandMisplaced))))

    placed : is_base_cycle k ≡ true → breaks_sequence_open (in_base g) t k ≡ false → breaks_command_misplaced (in_base g) t k ≡ false → judge_cycle (in_base g) t luns k ≡ base_judge_cycle (in_base g) t luns k
    placed base e m = λ i.
        cond (f2 g k i) (Some CommandUnknown)
        (cond (f3 g t k a i) (Some SequenceOpen)
        (cond (f4 g luns k i) (Some SeveralLuns)
        (cond (breaks_no_column_to_change luns k) (Some NoColumnToChange)
        (cond (f6 g t k base i) (Some CommandMisplaced)
        (cond (f7 g t k a i) (Some AddressMisplaced)
        (cond (f8 g t k a i) (Some RowOutside)
        (cond (f9 g t luns k a m i) (Some LunBusy)
        (cond (f10 g t luns k a i) (Some QueueClash)
        (cond (f11 t k a i) (Some InputMisplaced)
        (cond (f12 t luns k a i) (Some NoSoleDriver)
        (cond (breaks_data_not_ready luns k) (Some DataNotReady)
        (cond (f14 g t luns k a i) (Some ColumnOutside)
        (cond (f15 g t luns k a base go e i) (Some CacheReadMisplaced)
        (cond (program_kept (in_base g) t luns k none base i) (Some CacheProgramMisplaced)
        (cond (copy_kept g t luns k i) (Some CopybackMisplaced)
        (cond (plane_kept (in_base g) t luns k a.opener i) (Some PlaneNotHeld) None))))))))))))))))

    at : is_base_cycle k ≡ true → (b : Bool) → breaks_sequence_open (in_base g) t k ≡ b → judge_cycle (in_base g) t luns k ≡ base_judge_cycle (in_base g) t luns k
    at base true e = rw (f2 g k, e, sym (f3 g t k a) ∙ e) refl
    at base false e = by_case (breaks_command_misplaced (in_base g) t k) (misplaced base e) (placed base e)

    by : (b : Bool) → breaks_command_unknown (in_base g) k ≡ b → judge_cycle (in_base g) t luns k ≡ base_judge_cycle (in_base g) t luns k
    by true u = rw (u, sym (f2 g k) ∙ u) refl
    by false u = at (base_cycle g k u) (breaks_sequence_open (in_base g) t k) refl

item_same : (g : Parts) (t : TailFacts) (luns : List LunView) (i : Item) → AreOfBase t → GoesOn g luns → NonePrograms luns → judge_item (in_base g) t luns i ≡ base_judge_item (in_base g) t luns i
item_same g t luns (Cyc c) a go none = cycle_same g t luns (target_cycle c.kind c.byte) a go none
item_same g t luns (Rdy ce lun fail) a go none = refl
item_same g t luns (Ard ce lun fail) a go none = refl

pub judged_so : JudgesBase
judged_so g targets past i h =
    let luns = luns_of (in_base g) past (target_of i) in
    ap (λ (t : TailFacts). judge (in_base g) targets t luns i) (tails_kept g targets past (target_of i) h)
    ∙ ap (λ (o : Option Forbidden). cond (breaks_not_there targets luns i) (Some NotThere) o) (item_same g (base_facts past (target_of i)) luns i (facts_base g targets past (target_of i) h) (driver_same g targets past (target_of i) h) (none_of_base g targets past (target_of i) h))
