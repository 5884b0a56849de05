-- The rules F1 to F18: what each forbids, by the facts of the tail and of the LUNs of one target.
use Rattle.std.specs.Prelude.{ℕ, ◌+◌, ◌/◌, ◌%◌, ◌==◌, Bool, true, false, ◌||◌, ◌&&◌, not, nat_lt, nat_le, if◌then◌else◌, List, [], ◌∷◌, Option, Some, None, slice_get, length}
use Rattle.std.specs.List.{list_any}
use Rattle.nand_geometry.specs.declared.parts.Parts.{Parts}
use Rattle.nand_geometry.specs.Limits.{page_len, planes}
use Rattle.nand_geometry.specs.Row.{parts_of, is_inside}
use Rattle.onfi_cycle.specs.declared.command.Command.{Command}
use Rattle.onfi_cycle.specs.declared.command.Command.TheVariants.{Read, ReadConfirm, ChangeReadColumn, ChangeReadColumnEnhanced, BlockErase, BlockErasePlane, ReadStatus, ReadStatusEnhanced, PageProgram, ProgramPlane, ReadCacheSequential, ReadCacheEnd, ReadUniqueId, GetFeatures, SetFeatures, ResetLun, SynchronousReset, ReadPlane, ChangeWriteColumn, CopybackRead, ProgramCache}
use Rattle.onfi_cycle.specs.declared.item.Item.{Item}
use Rattle.onfi_cycle.specs.declared.item.Item.TheVariants.{Cyc, Rdy, Ard}
use Rattle.nand_geometry.specs.Optional.{is_wide, has_features, has_unique_id, has_enhanced_column, has_lun_reset, has_plane_reads, has_free_blocks, has_synchronous_reset, has_copyback, has_odd_even, has_program_cache, has_group_cache}
use Rattle.onfi_cycle.specs.Command.{is_known, is_opener, is_read_id, is_reset, at_last_row, is_change_read_column, is_enhanced_column, is_page_program, is_write_column, addresses_the_array, addresses_a_page, reads_identity, wants_ready, wants_one_lun}
use Rattle.onfi_cycle.specs.declared.target_cycle.TargetCycle.{TargetCycle}
use Rattle.onfi_cycle.specs.declared.target_cycle.TargetCycle.TheVariants.{CommandCycle, AddressCycle, InputCycle, OutputCycle}
use Rattle.onfi_cycle.specs.declared.page_address.PageAddress.{PageAddress}
use Rattle.onfi_cycle.specs.declared.queued.Queued.{Queued}
use Rattle.onfi_cycle.specs.declared.queued.Queued.TheVariants.{Erase, Program, Read as QueuedRead}
use Rattle.onfi_cycle.specs.declared.register.Register.{Register}
use Rattle.onfi_cycle.specs.declared.register.Register.TheVariants.{Empty, Page, ParameterPage, Identifier, Identity, JedecIdentity, UniqueId, Features}
use Rattle.onfi_cycle.specs.declared.opening.Opening.{Opening}
use Rattle.onfi_cycle.specs.declared.tail_facts.TailFacts.{TailFacts}
use Rattle.onfi_cycle.specs.Sequence.{opened, takes_features, takes_inputs, wants_second_column, wants_command, wants_address, goes_on_with, is_open, row, row_with, column_with, input_column}
use Rattle.onfi_cycle.specs.Effect.{is_off, is_data, is_shared, page_address}
use Rattle.onfi_cycle.specs.LunView.{LunView}
use Rattle.onfi_cycle.specs.Lun.{is_cache_read, is_page_read, is_target_work, output_column, page_in_plane, is_copyback_read, programs}

-- the LUNs of a target that aren't off
abbrev pub driving : List LunView → List LunView
driving [] = []
driving (v ∷ vs) = if is_off v.latch then driving vs else v ∷ driving vs

abbrev pub are_none : List LunView → Bool
are_none [] = true
are_none (v ∷ vs) = false

-- the only member of a list
abbrev pub only : List LunView → Option LunView
only [] = None
only (v ∷ vs) = if are_none vs then Some v else None

-- the one LUN that isn't off
abbrev pub driver : List LunView → Option LunView
driver luns = only (driving luns)

abbrev pub is_some_and : (LunView → Bool) → Option LunView → Bool
is_some_and test None = false
is_some_and test (Some v) = test v

-- a test of the one driver; false where there is none, or more
abbrev pub driver_is : (LunView → Bool) → List LunView → Bool
driver_is test luns = is_some_and test (driver luns)

-- the LUN of this number is there and passes
abbrev pub lun_is : (LunView → Bool) → List LunView → ℕ → Bool
lun_is test luns n = is_some_and test (slice_get luns n)

-- the LUN that a row names passes
abbrev pub named_lun_is : Parts → ℕ → (LunView → Bool) → List LunView → Bool
named_lun_is g row test luns = lun_is test luns (parts_of g row).lun

-- this address is the last row cycle of the opener, if one of these
abbrev pub ends_row : (Command → Bool) → TailFacts → Bool
ends_row among t = opened (λ c n. among c && at_last_row c n) t.opening

-- the command needs what the parameter page doesn't declare
abbrev pub is_undeclared : Parts → Command → Bool
is_undeclared g ReadStatusEnhanced = not g.enhanced
is_undeclared g BlockErasePlane = not g.multi_plane
is_undeclared g ProgramPlane = not g.multi_plane
is_undeclared g ReadCacheSequential = not g.cache
is_undeclared g ReadCacheEnd = not g.cache
is_undeclared g ReadUniqueId = not (has_unique_id g.optional)
is_undeclared g ChangeReadColumnEnhanced = not (has_enhanced_column g.optional)
is_undeclared g ReadPlane = not (has_plane_reads g.optional)
is_undeclared g CopybackRead = not (has_copyback g.optional)
is_undeclared g ProgramCache = not (has_program_cache g.optional)
is_undeclared g GetFeatures = not (has_features g.optional)
is_undeclared g SetFeatures = not (has_features g.optional)
is_undeclared g ResetLun = not (has_lun_reset g.optional)
is_undeclared g SynchronousReset = not (has_synchronous_reset g.optional)
is_undeclared g _ = false

-- how many bytes a register has
abbrev pub register_len : Parts → Register → ℕ
register_len g Empty = 0
register_len g (Page p) = page_len g
register_len g ParameterPage = 768
register_len g Identifier = 4
register_len g Identity = 8
register_len g JedecIdentity = 6
register_len g UniqueId = 512
register_len g (Features address) = 4

abbrev pub is_page_or_parameters : Register → Bool
is_page_or_parameters (Page p) = true
is_page_or_parameters ParameterPage = true
is_page_or_parameters UniqueId = true
is_page_or_parameters _ = false

abbrev pub is_empty : Register → Bool
is_empty Empty = true
is_empty _ = false

abbrev pub lacks : Option ℕ → Bool
lacks None = true
lacks (Some k) = false

abbrev pub is_past : Option ℕ → ℕ → Bool
is_past None len = false
is_past (Some k) len = nat_le len k

-- two pages of one queue have other block bits above the plane, where that matters
abbrev pub blocks_clash : Parts → PageAddress → PageAddress → Bool
blocks_clash g p q = not (has_free_blocks g.optional) && not (p.block / planes g == q.block / planes g)

-- two pages of one queue don't go together: the same plane, another page or other block bits above the plane
abbrev pub planes_clash : Parts → PageAddress → PageAddress → Bool
planes_clash g p q =
    p.block % planes g == q.block % planes g || not (p.page == q.page) || blocks_clash g p q

-- a queued row doesn't go together with an erase of this page, or with a program of it
abbrev pub queued_clashes : Parts → (erase : Bool) → PageAddress → Queued → Bool
queued_clashes g erase p (Erase q) = not erase || planes_clash g p q
queued_clashes g erase p (Program q) = erase || planes_clash g p q
queued_clashes g erase p (QueuedRead q) = true

abbrev pub some_queued_clashes : Parts → (erase : Bool) → PageAddress → List Queued → Bool
some_queued_clashes g erase p queue = list_any (queued_clashes g erase p) queue

-- a queued row doesn't go together with a read of this page: it is no read, or the chip doesn't read several planes at once, or the pages don't go together
abbrev pub read_clashes : Parts → PageAddress → Queued → Bool
read_clashes g p (QueuedRead q) = not (has_plane_reads g.optional) || planes_clash g p q
read_clashes g p _ = true

abbrev pub some_read_clashes : Parts → PageAddress → List Queued → Bool
some_read_clashes g p queue = list_any (read_clashes g p) queue

abbrev pub has_some : List Queued → Bool
has_some [] = false
has_some (c ∷ cs) = true

-- F1: it names a target or a LUN past those of the channel; it is a ready, and the LUN or its array has no work
unfoldable pub breaks_not_there : ℕ → List LunView → Item → Bool
breaks_not_there targets luns (Cyc c) = nat_le targets c.ce
breaks_not_there targets luns (Rdy ce lun fail) = nat_le targets ce || not (lun_is (λ v. v.busy) luns lun)
breaks_not_there targets luns (Ard ce lun fail) = nat_le targets ce || not (lun_is (λ v. v.array_busy) luns lun)

-- F2: a byte that is no command, or one that needs what isn't declared
unfoldable pub breaks_command_unknown : Parts → TargetCycle → Bool
breaks_command_unknown g (CommandCycle c) = not (is_known c) || is_undeclared g c
breaks_command_unknown g _ = false

-- the command begins sequences of the chip: 85 does where a copyback is declared
abbrev pub opens_here : Parts → Command → Bool
opens_here g ChangeWriteColumn = has_copyback g.optional
opens_here g c = is_opener c

-- F3: an opener while a sequence is open, but in the wider profile a reset, and one that goes on with the tail
unfoldable pub breaks_sequence_open : Parts → TailFacts → TargetCycle → Bool
breaks_sequence_open g t (CommandCycle c) = opens_here g c && (is_open t && not ((is_reset c || goes_on_with t c) && is_wide g.optional))
breaks_sequence_open g t _ = false

-- work of the whole target goes on at the LUN
abbrev pub works_for_target : LunView → Bool
works_for_target v = v.busy && is_target_work v.closer

-- several LUNs could answer 70, and none answers 78 while work of the whole target goes on
abbrev pub is_unclear : List LunView → Command → Bool
is_unclear luns ReadStatus = list_any (λ v. v.overlapped) luns
is_unclear luns ReadStatusEnhanced = list_any works_for_target luns
is_unclear luns _ = false

-- F4: 70, FF, FC, or what reads or sets what stands beside the array, on a target with several LUNs; in the wider profile 70 and 78 alone,
-- where it isn't clear who answers
unfoldable pub breaks_several_luns : Parts → List LunView → TargetCycle → Bool
breaks_several_luns g luns (CommandCycle c) = if is_shared g then is_unclear luns c else wants_one_lun c && nat_lt 1 g.luns
breaks_several_luns g luns _ = false

-- 05h finds something to read: data is shown, no work goes on, and a page, the parameter page or the unique identifier is in the register
abbrev pub may_change_column : LunView → Bool
may_change_column v = is_data v.latch && (not v.busy && is_page_or_parameters v.register)

-- F5: 05 where not exactly one LUN drives, or that one has nothing for it to read
unfoldable pub breaks_no_column_to_change : List LunView → TargetCycle → Bool
breaks_no_column_to_change luns (CommandCycle ChangeReadColumn) = not (driver_is may_change_column luns)
breaks_no_column_to_change luns _ = false

-- F6: a command that begins no sequence, and that the tail doesn't want
unfoldable pub breaks_command_misplaced : Parts → TailFacts → TargetCycle → Bool
breaks_command_misplaced g t (CommandCycle c) = not (opens_here g c) && not (wants_command t c)
breaks_command_misplaced g t _ = false

-- the address of a Read ID that the base profile hasn't
abbrev pub is_undeclared_address : Parts → TailFacts → ℕ → Bool
is_undeclared_address g t byte = not (is_wide g.optional) && (opened (λ c n. is_read_id c) t.opening && not (byte == 0x20))

-- F7: an address that the tail doesn't want, or that needs the wider profile
unfoldable pub breaks_address_misplaced : Parts → TailFacts → TargetCycle → Bool
breaks_address_misplaced g t (AddressCycle byte) = not (wants_address t byte) || is_undeclared_address g t byte
breaks_address_misplaced g t _ = false

-- F8: the last row cycle of a row outside the geometry
unfoldable pub breaks_row_outside : Parts → TailFacts → TargetCycle → Bool
breaks_row_outside g t (AddressCycle byte) = ends_row (λ c. true) t && not (is_inside g (parts_of g (row_with t byte)))
breaks_row_outside g t _ = false

-- the command begins a sequence and wants a ready LUN for it
abbrev pub begins_on_ready : TailFacts → Command → Bool
begins_on_ready t c = wants_ready c && not (goes_on_with t c)

-- F9: an opener that wants a ready LUN where there is none; the last row cycle of 00, 06, 60, 80 or 85 names a busy LUN.
-- In the wider profile, on a target with several LUNs: too what reads or sets what stands beside the array, while some LUN is busy, and
-- such a row cycle while work of the whole target goes on
unfoldable pub breaks_lun_busy : Parts → TailFacts → List LunView → TargetCycle → Bool
breaks_lun_busy g t luns (CommandCycle c) =
    (begins_on_ready t c && not (list_any (λ v. not v.busy) luns)) || (is_shared g && (reads_identity c && list_any (λ v. v.busy) luns))
breaks_lun_busy g t luns (AddressCycle byte) =
    ends_row addresses_the_array t && (named_lun_is g (row_with t byte) (λ v. v.busy) luns || (is_shared g && list_any works_for_target luns))
breaks_lun_busy g t luns _ = false

-- a queue refuses the last row cycle of this opener, with this page
abbrev pub refused_by : Parts → Command → PageAddress → List Queued → Bool
refused_by g Read p q = some_read_clashes g p q
refused_by g BlockErase p q = some_queued_clashes g true p q
refused_by g PageProgram p q = some_queued_clashes g false p q
refused_by g ChangeWriteColumn p q = some_queued_clashes g false p q
refused_by g _ p q = false

abbrev pub is_refused_by : Parts → Option Opening → PageAddress → List Queued → Bool
is_refused_by g o p q = opened (λ c n. at_last_row c n && refused_by g c p q) o

-- F10: what reads or sets what stands beside the array, while a LUN has a queue; the last row cycle of 00, 60, 80 or 85 that doesn't go together with
-- the queue of its LUN, as a 00 does with reads alone
unfoldable pub breaks_queue_clash : Parts → TailFacts → List LunView → TargetCycle → Bool
breaks_queue_clash g t luns (CommandCycle c) = reads_identity c && list_any (λ v. has_some v.queue) luns
breaks_queue_clash g t luns (AddressCycle byte) =
    named_lun_is g (row_with t byte) (λ v. is_refused_by g t.opening (page_address g (row_with t byte)) v.queue) luns
breaks_queue_clash g t luns _ = false

-- F11: an input where neither a program nor a Set Features waits for data
unfoldable pub breaks_input_misplaced : TailFacts → TargetCycle → Bool
breaks_input_misplaced t (InputCycle byte) = not (takes_inputs t.phase)
breaks_input_misplaced t _ = false

-- F12: an output amid a sequence, or one that no LUN or several would drive
unfoldable pub breaks_no_sole_driver : TailFacts → List LunView → TargetCycle → Bool
breaks_no_sole_driver t luns OutputCycle = is_open t || not (driver_is (λ v. true) luns)
breaks_no_sole_driver t luns _ = false

-- data is shown, and no byte is there to give: work goes on, the register is empty, or the column was lost
abbrev pub has_no_byte : LunView → Bool
has_no_byte v = is_data v.latch && (v.busy || is_empty v.register || lacks (output_column v.column))

-- F13: an output whose LUN shows data and has no byte to give
unfoldable pub breaks_data_not_ready : List LunView → TargetCycle → Bool
breaks_data_not_ready luns OutputCycle = driver_is has_no_byte luns
breaks_data_not_ready luns _ = false

-- the LUN shows data, and its column is past its register
abbrev pub is_past_register : Parts → LunView → Bool
is_past_register g v = is_data v.latch && is_past (output_column v.column) (register_len g v.register)

-- this address is the second column cycle of the opener, if one of these
abbrev pub second_column : (Command → Bool) → TailFacts → Bool
second_column among t = opened (λ c n. among c && n == 1) t.opening

-- this address is the second column cycle of 00, 06, 80 or 85
abbrev pub second_of_page : TailFacts → Bool
second_of_page t = second_column addresses_a_page t || wants_second_column t.phase

-- F14: the last cycle of a column that the page (for 05 the register) doesn't have, an input of a program behind the page's end, an output of data behind the register's
unfoldable pub breaks_column_outside : Parts → TailFacts → List LunView → TargetCycle → Bool
breaks_column_outside g t luns (AddressCycle byte) =
    (second_of_page t && nat_le (page_len g) (column_with t byte)) || (second_column is_change_read_column t && driver_is (λ v. nat_le (register_len g v.register) (column_with t byte)) luns)
breaks_column_outside g t luns (InputCycle byte) = not (takes_features t.phase) && nat_le (page_len g) (input_column t)
breaks_column_outside g t luns OutputCycle = driver_is (is_past_register g) luns
breaks_column_outside g t luns (CommandCycle c) = false

-- a page was read, and no more than one is held, so that a cache read may go on from it
abbrev pub has_read_one : LunView → Bool
has_read_one v = is_page_read v.closer && nat_le (length v.held) 1

-- a cache read goes on
abbrev pub caching : LunView → Bool
caching v = is_cache_read v.closer

abbrev pub continues_cache : Parts → LunView → Bool
continues_cache g v = not v.busy && (has_read_one v && nat_lt (v.array_page.page + 1) g.pages)

abbrev pub ends_cache : LunView → Bool
ends_cache v = not v.busy && caching v

-- the openers whose row names a LUN that does no cache read: 00 may name one in the wider profile, and so may 06, which is of that alone
abbrev pub excludes_cache : Parts → Command → Bool
excludes_cache g Read = not (is_wide g.optional)
excludes_cache g ChangeReadColumnEnhanced = false
excludes_cache g c = addresses_the_array c

-- a 31 finds no LUN that may go on with a cache read: that of the row, where the tail wants it, or the one driver
abbrev pub finds_no_cache_read : Parts → TailFacts → List LunView → Bool
finds_no_cache_read g t luns =
    if wants_command t ReadCacheSequential then not (named_lun_is g (row t) has_read_one luns) else not (driver_is (continues_cache g) luns)

-- F15: 31 or 3F without one driver that isn't busy; 31 after another closer than 30 or 31, or with no page left in the block;
-- 3F without a cache read; the last row cycle of 00, 60, 80 or 85, or what reads or sets what stands beside the array, while one goes on.
-- In the wider profile a 31 that the tail wants is of the LUN that its row names, and asks for its last closer alone; the last row cycle of 00
-- may come while a cache read goes on, and its 30, 32 or 35 may not; and none goes on where more than one page is held
unfoldable pub breaks_cache_read_misplaced : Parts → TailFacts → List LunView → TargetCycle → Bool
breaks_cache_read_misplaced g t luns (CommandCycle ReadCacheSequential) = finds_no_cache_read g t luns
breaks_cache_read_misplaced g t luns (CommandCycle ReadConfirm) = is_wide g.optional && named_lun_is g (row t) caching luns
breaks_cache_read_misplaced g t luns (CommandCycle ReadPlane) = named_lun_is g (row t) caching luns
breaks_cache_read_misplaced g t luns (CommandCycle CopybackRead) = named_lun_is g (row t) caching luns
breaks_cache_read_misplaced g t luns (CommandCycle ReadCacheEnd) = not (driver_is ends_cache luns)
breaks_cache_read_misplaced g t luns (CommandCycle c) = reads_identity c && list_any caching luns
breaks_cache_read_misplaced g t luns (AddressCycle byte) = ends_row (excludes_cache g) t && named_lun_is g (row_with t byte) caching luns
breaks_cache_read_misplaced g t luns _ = false

-- the openers whose row names a LUN that programs no cache
abbrev pub excludes_program : Command → Bool
excludes_program Read = true
excludes_program ChangeReadColumnEnhanced = true
excludes_program BlockErase = true
excludes_program ChangeWriteColumn = true
excludes_program _ = false

-- F16: the last row cycle of 00, 06, 60 or 85 of a LUN that programs behind a 15; what reads or sets what stands beside the array, where some
-- LUN does; 15 of a LUN with a queue, where the chip doesn't cache programs of several planes
unfoldable pub breaks_cache_program_misplaced : Parts → TailFacts → List LunView → TargetCycle → Bool
breaks_cache_program_misplaced g t luns (CommandCycle ProgramCache) = not (has_group_cache g.optional) && named_lun_is g (row t) (λ v. has_some v.queue) luns
breaks_cache_program_misplaced g t luns (CommandCycle c) = reads_identity c && list_any programs luns
breaks_cache_program_misplaced g t luns (AddressCycle byte) = ends_row excludes_program t && named_lun_is g (row_with t byte) programs luns
breaks_cache_program_misplaced g t luns _ = false

-- a program may take what is held: the last closer is a 35, or an 11 behind one
abbrev pub keeps_copy : Option Command → Bool
keeps_copy (Some CopybackRead) = true
keeps_copy (Some ProgramPlane) = true
keeps_copy _ = false

-- a page may be copied to another of its plane: both are odd, or both even, where that matters
abbrev pub may_copy_to : Parts → PageAddress → Option PageAddress → Bool
may_copy_to g p None = false
may_copy_to g p (Some q) = has_odd_even g.optional || p.page % 2 == q.page % 2

-- the LUN holds a page that was read for a copyback and may be copied to this one
abbrev pub may_copy : Parts → PageAddress → LunView → Bool
may_copy g p v = keeps_copy v.closer && may_copy_to g p (page_in_plane (planes g) (p.block % planes g) v.held)

abbrev pub holds_none : List PageAddress → Bool
holds_none [] = true
holds_none (p ∷ held) = false

-- a group of copybacks has begun
abbrev pub is_copying : LunView → Bool
is_copying v = has_some v.queue && not (holds_none v.held)

-- F17: the last row cycle of 85, where its LUN holds no page that may be copied to its row; that of 80 in a group of copybacks; 15 of a LUN that
-- holds a page
unfoldable pub breaks_copyback_misplaced : Parts → TailFacts → List LunView → TargetCycle → Bool
breaks_copyback_misplaced g t luns (CommandCycle ProgramCache) = has_copyback g.optional && named_lun_is g (row t) (λ v. not (holds_none v.held)) luns
breaks_copyback_misplaced g t luns (AddressCycle byte) =
    has_copyback g.optional
    && ((ends_row is_write_column t && named_lun_is g (row_with t byte) (λ v. not (may_copy g (page_address g (row_with t byte)) v)) luns)
    || (ends_row is_page_program t && named_lun_is g (row_with t byte) is_copying luns))
breaks_copyback_misplaced g t luns _ = false

-- the LUN holds a page of the plane in which this one lies, and nothing is queued
abbrev pub holds_plane_of : Parts → PageAddress → LunView → Bool
holds_plane_of g p v = not (has_some v.queue) && list_any (λ q. q.block % planes g == p.block % planes g) v.held

-- F18: the last row cycle of 06, whose LUN holds no page of the plane of the row, or has a queue
unfoldable pub breaks_plane_not_held : Parts → TailFacts → List LunView → TargetCycle → Bool
breaks_plane_not_held g t luns (AddressCycle byte) =
    ends_row is_enhanced_column t && named_lun_is g (row_with t byte) (λ v. not (holds_plane_of g (page_address g (row_with t byte)) v)) luns
breaks_plane_not_held g t luns _ = false
