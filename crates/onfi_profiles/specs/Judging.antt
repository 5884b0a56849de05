-- How the base profile judged before there was a wider one. Rules whose definitions haven't changed since stand here by their names.
use Rattle.std.specs.Prelude.{◌≡◌, ℕ, ◌+◌, ◌/◌, ◌%◌, ◌==◌, Bool, true, false, ◌&&◌, ◌||◌, not, nat_lt, nat_le, if◌then◌else◌, List, Option, Some, None}
use Rattle.std.specs.List.{list_any}
use Rattle.nand_geometry.specs.declared.parts.Parts.{Parts}
use Rattle.nand_geometry.specs.Limits.{page_len, planes}
use Rattle.nand_geometry.specs.Row.{parts_of, is_inside}
use Rattle.onfi_cycle.specs.declared.command.Command.{Command}
use Rattle.onfi_cycle.specs.declared.command.Command.TheVariants.{Read, BlockErase, PageProgram, BlockErasePlane, ReadStatusEnhanced, ProgramPlane, ReadCacheSequential, ReadCacheEnd}
use Rattle.onfi_cycle.specs.declared.forbidden.Forbidden.{Forbidden}
use Rattle.onfi_cycle.specs.declared.forbidden.Forbidden.TheVariants.{NotThere, CommandUnknown, SequenceOpen, SeveralLuns, NoColumnToChange, CommandMisplaced, AddressMisplaced, RowOutside, LunBusy, QueueClash, InputMisplaced, NoSoleDriver, DataNotReady, ColumnOutside, CacheReadMisplaced}
use Rattle.onfi_cycle.specs.declared.item.Item.{Item}
use Rattle.onfi_cycle.specs.declared.item.Item.TheVariants.{Cyc, Rdy, Ard}
use Rattle.onfi_cycle.specs.declared.page_address.PageAddress.{PageAddress}
use Rattle.onfi_cycle.specs.declared.queued.Queued.{Queued}
use Rattle.onfi_cycle.specs.declared.queued.Queued.TheVariants.{Erase, Program, Read as QueuedRead}
use Rattle.onfi_cycle.specs.declared.tail_facts.TailFacts.{TailFacts}
use Rattle.onfi_cycle.specs.declared.target_cycle.TargetCycle.{TargetCycle}
use Rattle.onfi_cycle.specs.declared.target_cycle.TargetCycle.TheVariants.{CommandCycle, AddressCycle, InputCycle, OutputCycle}
use Rattle.onfi_cycle.specs.Effect.{page_address}
use Rattle.onfi_cycle.specs.LunView.{LunView}
use Rattle.onfi_cycle.specs.Base.{is_of_base}
use Rattle.onfi_cycle.specs.Command.{at_last_row, is_change_read_column, is_write_column, addresses_the_array, addresses_a_page, reads_identity, wants_ready, wants_one_lun}
use Rattle.onfi_cycle.specs.Sequence.{opened, wants_second_column, target_of, target_cycle, row_with, column_with, input_column}
use Rattle.onfi_cycle.specs.Lun.{luns_of, is_page_read}
use Rattle.onfi_cycle.specs.Rules.{driver_is, is_past_register, register_len, second_column, named_lun_is, breaks_not_there, breaks_no_column_to_change, has_some, breaks_data_not_ready, caching, ends_cache}
use Rattle.onfi_cycle.specs.Permitted.{is_legal, broken}
use Rattle.onfi_profiles.specs.Tails.{base_is_opener, base_opened, base_takes_inputs, base_wants_address, base_wants_command, base_is_open, base_facts}
use Rattle.onfi_profiles.specs.Widening.{in_base}

abbrev pub base_undeclared : Parts → Command → Bool
base_undeclared g ReadStatusEnhanced = not g.enhanced
base_undeclared g BlockErasePlane = not g.multi_plane
base_undeclared g ProgramPlane = not g.multi_plane
base_undeclared g ReadCacheSequential = not g.cache
base_undeclared g ReadCacheEnd = not g.cache
base_undeclared g _ = false

-- F2
abbrev pub base_command_unknown : Parts → TargetCycle → Bool
base_command_unknown g (CommandCycle c) = not (is_of_base c) || base_undeclared g c
base_command_unknown g _ = false

-- F3
abbrev pub base_sequence_open : TailFacts → TargetCycle → Bool
base_sequence_open t (CommandCycle c) = base_is_opener c && base_is_open t
base_sequence_open t _ = false

-- F4
abbrev pub base_several_luns : Parts → TargetCycle → Bool
base_several_luns g (CommandCycle c) = wants_one_lun c && nat_lt 1 g.luns
base_several_luns g _ = false

-- F6
abbrev pub base_command_misplaced : TailFacts → TargetCycle → Bool
base_command_misplaced t (CommandCycle c) = not (base_is_opener c) && not (base_wants_command t c)
base_command_misplaced t _ = false

-- F7
abbrev pub base_address_misplaced : TailFacts → TargetCycle → Bool
base_address_misplaced t (AddressCycle byte) = not (base_wants_address t byte)
base_address_misplaced t _ = false

-- this address is the last row cycle of the opener, if one of these
abbrev pub base_ends_row : (Command → Bool) → TailFacts → Bool
base_ends_row among t = base_opened (λ c n. among c && at_last_row c n) t.opening

-- F8
abbrev pub base_row_outside : Parts → TailFacts → TargetCycle → Bool
base_row_outside g t (AddressCycle byte) = base_ends_row (λ c. true) t && not (is_inside g (parts_of g (row_with t byte)))
base_row_outside g t _ = false

-- F9
abbrev pub base_lun_busy : Parts → TailFacts → List LunView → TargetCycle → Bool
base_lun_busy g t luns (CommandCycle c) = not (is_write_column c) && wants_ready c && not (list_any (λ v. not v.busy) luns)
base_lun_busy g t luns (AddressCycle byte) = base_ends_row addresses_the_array t && named_lun_is g (row_with t byte) (λ v. v.busy) luns
base_lun_busy g t luns _ = false

-- two pages of one queue don't go together: the same plane, another page or other block bits above the plane
abbrev pub base_planes_clash : Parts → PageAddress → PageAddress → Bool
base_planes_clash g p q =
    p.block % planes g == q.block % planes g || not (p.page == q.page) || not (p.block / planes g == q.block / planes g)

-- a queued row doesn't go together with an erase of this page, or with a program of it
abbrev pub base_queued_clashes : Parts → (erase : Bool) → PageAddress → Queued → Bool
base_queued_clashes g erase p (Erase q) = not erase || base_planes_clash g p q
base_queued_clashes g erase p (Program q) = erase || base_planes_clash g p q
base_queued_clashes g erase p (QueuedRead q) = true

-- a queue refuses the last row cycle of this opener, with this page
abbrev pub base_refused_by : Parts → Command → PageAddress → List Queued → Bool
base_refused_by g Read p q = has_some q
base_refused_by g BlockErase p q = list_any (base_queued_clashes g true p) q
base_refused_by g PageProgram p q = list_any (base_queued_clashes g false p) q
base_refused_by g _ p q = false

-- F10
abbrev pub base_queue_clash : Parts → TailFacts → List LunView → TargetCycle → Bool
base_queue_clash g t luns (CommandCycle c) = reads_identity c && list_any (λ v. has_some v.queue) luns
base_queue_clash g t luns (AddressCycle byte) =
    named_lun_is g (row_with t byte) (λ v. opened (λ c n. at_last_row c n && base_refused_by g c (page_address g (row_with t byte)) v.queue) t.opening) luns
base_queue_clash g t luns _ = false

-- F11
abbrev pub base_input_misplaced : TailFacts → TargetCycle → Bool
base_input_misplaced t (InputCycle byte) = not (base_takes_inputs t.phase)
base_input_misplaced t _ = false

-- F12
abbrev pub base_no_sole_driver : TailFacts → List LunView → TargetCycle → Bool
base_no_sole_driver t luns OutputCycle = base_is_open t || not (driver_is (λ v. true) luns)
base_no_sole_driver t luns _ = false

-- this address is the second column cycle of 00 or 80, or of an 85
abbrev pub base_second_of_page : TailFacts → Bool
base_second_of_page t = base_opened (λ c n. addresses_a_page c && n == 1) t.opening || wants_second_column t.phase

-- F14
abbrev pub base_column_outside : Parts → TailFacts → List LunView → TargetCycle → Bool
base_column_outside g t luns (AddressCycle byte) =
    (base_second_of_page t && nat_le (page_len g) (column_with t byte)) || (second_column is_change_read_column t && driver_is (λ v. nat_le (register_len g v.register) (column_with t byte)) luns)
base_column_outside g t luns (InputCycle byte) = nat_le (page_len g) (input_column t)
base_column_outside g t luns OutputCycle = driver_is (is_past_register g) luns
base_column_outside g t luns (CommandCycle c) = false

-- a page was read, and the block has a page after it
abbrev pub base_continues_cache : Parts → LunView → Bool
base_continues_cache g v = not v.busy && (is_page_read v.closer && nat_lt (v.array_page.page + 1) g.pages)

-- F15
abbrev pub base_cache_read_misplaced : Parts → TailFacts → List LunView → TargetCycle → Bool
base_cache_read_misplaced g t luns (CommandCycle ReadCacheSequential) = not (driver_is (base_continues_cache g) luns)
base_cache_read_misplaced g t luns (CommandCycle ReadCacheEnd) = not (driver_is ends_cache luns)
base_cache_read_misplaced g t luns (CommandCycle c) = reads_identity c && list_any caching luns
base_cache_read_misplaced g t luns (AddressCycle byte) = base_ends_row addresses_the_array t && named_lun_is g (row_with t byte) caching luns
base_cache_read_misplaced g t luns _ = false

abbrev pub base_judge_cycle : Parts → TailFacts → List LunView → TargetCycle → Option Forbidden
base_judge_cycle g t luns cycle =
    if base_command_unknown g cycle then Some CommandUnknown
    else (if base_sequence_open t cycle then Some SequenceOpen
    else (if base_several_luns g cycle then Some SeveralLuns
    else (if breaks_no_column_to_change luns cycle then Some NoColumnToChange
    else (if base_command_misplaced t cycle then Some CommandMisplaced
    else (if base_address_misplaced t cycle then Some AddressMisplaced
    else (if base_row_outside g t cycle then Some RowOutside
    else (if base_lun_busy g t luns cycle then Some LunBusy
    else (if base_queue_clash g t luns cycle then Some QueueClash
    else (if base_input_misplaced t cycle then Some InputMisplaced
    else (if base_no_sole_driver t luns cycle then Some NoSoleDriver
    else (if breaks_data_not_ready luns cycle then Some DataNotReady
    else (if base_column_outside g t luns cycle then Some ColumnOutside
    else (if base_cache_read_misplaced g t luns cycle then Some CacheReadMisplaced
    else None)))))))))))))

abbrev pub base_judge_item : Parts → TailFacts → List LunView → Item → Option Forbidden
base_judge_item g t luns (Cyc c) = base_judge_cycle g t luns (target_cycle c.kind c.byte)
base_judge_item g t luns (Rdy _ _ _) = None
base_judge_item g t luns (Ard _ _ _) = None

abbrev pub base_judge : Parts → ℕ → TailFacts → List LunView → Item → Option Forbidden
base_judge g targets t luns i = if breaks_not_there targets luns i then Some NotThere else base_judge_item g t luns i

-- the law: after a past that is legal in the base profile an item is judged as it was, by what the rules see of the LUNs
abbrev pub JudgesBase : Type 0
JudgesBase =
    (g : Parts) (targets : ℕ) (past : List Item) (i : Item) → is_legal (in_base g) targets past ≡ true
    → broken (in_base g) targets past i ≡ base_judge (in_base g) targets (base_facts past (target_of i)) (luns_of (in_base g) past (target_of i)) i
