-- What is against a cycle that may come where a state is known: commands, addresses, inputs and outputs.
use Rattle.std.specs.Prelude.{ℕ, ◌+◌, ◌-◌, ◌/◌, ◌%◌, ◌==◌, Bool, true, false, ◌&&◌, ◌||◌, not, nat_lt, nat_le, min, if◌then◌else◌, Option, Some, None}
use Rattle.nand_geometry.specs.declared.parts.Parts.{Parts}
use Rattle.nand_geometry.specs.Limits.{page_len, planes}
use Rattle.nand_geometry.specs.Optional.{is_wide, has_copyback, has_odd_even, has_group_cache}
use Rattle.onfi_cycle.specs.declared.command.Command.{Command}
use Rattle.onfi_cycle.specs.declared.command.Command.TheVariants.{Read, ReadConfirm, ChangeReadColumn, ChangeReadColumnEnhanced, ChangeReadColumnConfirm, BlockErase, ReadStatus, ReadStatusEnhanced, PageProgram, ChangeWriteColumn, ProgramConfirm, ProgramPlane, ReadId, ReadParameterPage, ReadCacheSequential, ReadCacheEnd, ReadUniqueId, GetFeatures, SetFeatures, ResetLun, ReadPlane, CopybackRead, ProgramCache}
use Rattle.onfi_cycle.specs.Base.{is_of_base}
use Rattle.onfi_cycle.specs.Command.{is_known, is_opener, is_reset, address_cycles, closes, addresses_the_array, reads_identity, wants_one_lun}
use Rattle.onfi_cycle.specs.Sequence.{is_proper_beginning}
use Rattle.onfi_cycle.specs.Rules.{is_undeclared, excludes_cache, excludes_program}
use Rattle.micro_claims.specs.Spans.{bound_plus, is_at_most, only}
use Rattle.micro_claims.specs.Planes.{share_a_plane, are_planes_within, are_below}
use Rattle.micro_claims.specs.State.{State, KnownLun, Span, Planes, Place, Closed, After, InData, InColumn, InFeatures, Unknown, Shown, Held, OutputColumn, QueuedRows, NoRows, SomeRows, SomeReads, AnyRows, Bounds, shows_status, shows_register, holds_page, holds_parameters, holds_identifier, holds_identity, holds_jedec, holds_unique_id, holds_feature, may_be_30, may_be_31, may_be_other}

-- ---- places of the tail

abbrev pub is_open_place : Place → Bool
is_open_place Closed = false
is_open_place (After opener n) = is_proper_beginning opener n
is_open_place InData = true
is_open_place (InColumn n) = true
is_open_place (InFeatures n) = true
is_open_place Unknown = true

abbrev pub may_be_open : State → Bool
may_be_open s = is_open_place s.target.tail

abbrev pub is_in_data : Place → Bool
is_in_data InData = true
is_in_data _ = false

-- in the four bytes of a Set Features
abbrev pub is_in_features : Place → Bool
is_in_features (InFeatures n) = true
is_in_features _ = false

-- so many inputs may come: any number in the data of a program, as far as the place goes, and up to four of a Set Features
abbrev pub takes_inputs_at : ℕ → Place → Bool
takes_inputs_at n InData = true
takes_inputs_at n (InFeatures inputs) = nat_le (inputs + n) 4
takes_inputs_at n _ = false

abbrev pub is_data_command : Command → Bool
is_data_command ChangeWriteColumn = true
is_data_command ProgramConfirm = true
is_data_command ProgramPlane = true
is_data_command ProgramCache = true
is_data_command _ = false

-- a command that is no opener goes on with the sequence
abbrev pub place_wants : Command → Place → Bool
place_wants c Closed = false
place_wants c (After opener n) = closes opener c && n == address_cycles opener
place_wants c InData = is_data_command c
place_wants c (InColumn n) = false
place_wants c (InFeatures n) = false
place_wants c Unknown = false

-- how many addresses are still to come, and which of C1 C2 R1 R2 R3 is the next
abbrev pub addresses_left : Place → ℕ
addresses_left Closed = 0
addresses_left (After opener n) = address_cycles opener - n
addresses_left InData = 0
addresses_left (InColumn n) = 2 - n
addresses_left (InFeatures n) = 0
addresses_left Unknown = 0

abbrev pub first_address : Command → ℕ
first_address BlockErase = 2
first_address ResetLun = 2
first_address _ = 0

abbrev pub next_address : Place → ℕ
next_address Closed = 0
next_address (After opener n) = first_address opener + n
next_address InData = 0
next_address (InColumn n) = n
next_address (InFeatures n) = 0
next_address Unknown = 0

abbrev pub takes_identity_at : Place → Bool
takes_identity_at (After opener n) = reads_identity opener
takes_identity_at _ = false

-- 06h began the sequence, and E0h selects the plane of its row
abbrev pub selects_plane_at : Place → Bool
selects_plane_at (After ChangeReadColumnEnhanced n) = true
selects_plane_at _ = false

-- some of its addresses have come, but not all
abbrev pub is_inside_address : Place → Bool
is_inside_address Closed = false
is_inside_address (After opener n) = nat_lt 0 n && nat_lt n (address_cycles opener)
is_inside_address InData = false
is_inside_address (InColumn n) = nat_lt 0 n && nat_lt n 2
is_inside_address (InFeatures n) = false
is_inside_address Unknown = true

-- ---- what the LUN may be

abbrev pub shows_only_data : Option Shown → Bool
shows_only_data None = false
shows_only_data (Some w) = not (shows_status w)

abbrev pub drives : Option Shown → Bool
drives None = false
drives (Some w) = true

abbrev pub may_show_data : Option Shown → Bool
may_show_data None = false
may_show_data (Some w) = shows_register w

abbrev pub has_register : Option Held → Bool
has_register None = false
has_register (Some r) = true

-- what may be held is too short for 05h: neither a page nor the parameter page nor the unique identifier
abbrev pub holds_short : Held → Bool
holds_short r = holds_identifier r || (holds_identity r || (holds_jedec r || holds_feature r))

abbrev pub has_page_or_parameters : Option Held → Bool
has_page_or_parameters None = false
has_page_or_parameters (Some r) = not (holds_short r)

abbrev pub has_column : Option OutputColumn → Bool
has_column None = false
has_column (Some k) = true

-- the least length that the register may have; no page is shorter than the unique identifier
abbrev pub long_length_of : Parts → Held → ℕ
long_length_of g r = if holds_page r then (if holds_parameters r then min 768 (page_len g) else page_len g) else 768

abbrev pub length_of : Parts → Held → ℕ
length_of g r =
    if holds_identifier r || holds_feature r then 4
    else (if holds_jedec r then 6
    else (if holds_identity r then 8
    else (if holds_unique_id r then 512
    else long_length_of g r)))

abbrev pub least_length : Parts → Option Held → ℕ
least_length g None = 0
least_length g (Some r) = length_of g r

abbrev pub may_be_queued : QueuedRows → Bool
may_be_queued NoRows = false
may_be_queued _ = true

abbrev pub is_read : Command → Bool
is_read Read = true
is_read _ = false

abbrev pub is_erase : Command → Bool
is_erase BlockErase = true
is_erase _ = false

abbrev pub same_test : Bool → Bool → Bool
same_test true b = b
same_test false b = not b

-- the queue may refuse the row of this opener
abbrev pub queue_refuses : QueuedRows → Planes → Command → Bool
queue_refuses NoRows planes opener = false
queue_refuses AnyRows planes opener = true
queue_refuses (SomeRows erase queued drift) planes opener =
    is_read opener || not (same_test erase (is_erase opener)) || not (drift.ahead == drift.behind) || share_a_plane planes queued
queue_refuses (SomeReads queued surely drift) planes opener =
    not (is_read opener) || not (drift.ahead == drift.behind) || share_a_plane planes queued

-- ---- commands

-- the command is one of the profile of the geometry
abbrev pub is_of_profile : Parts → Command → Bool
is_of_profile g c = is_of_base c || (is_known c && is_wide g.optional)

-- not a command of the profile, or one that isn't declared
abbrev pub is_unfit : Parts → Command → Bool
is_unfit g c = not (is_of_profile g c) || is_undeclared g c

-- 90h, ECh, EDh, EEh or EFh may not come, though nothing is open: only a target of one LUN is asked, as another refuses them by a rule that
-- comes first
abbrev pub identity_opener_refused : Parts → State → Bool
identity_opener_refused g s = not (nat_lt 1 g.luns) && (s.lun.busy || may_be_queued s.lun.queue || may_be_31 s.lun.last || s.lun.programming)

-- an opener may not come, though nothing is open
abbrev pub opener_refused : Parts → State → Command → Bool
opener_refused g s ChangeReadColumn = not (shows_only_data s.target.shows) || s.lun.busy || not (has_page_or_parameters s.lun.register)
opener_refused g s Read = s.lun.busy
opener_refused g s ChangeReadColumnEnhanced = s.lun.busy
opener_refused g s BlockErase = s.lun.busy
opener_refused g s PageProgram = s.lun.busy
opener_refused g s ChangeWriteColumn = s.lun.busy
opener_refused g s ReadId = identity_opener_refused g s
opener_refused g s ReadParameterPage = identity_opener_refused g s
opener_refused g s ReadUniqueId = identity_opener_refused g s
opener_refused g s GetFeatures = identity_opener_refused g s
opener_refused g s SetFeatures = identity_opener_refused g s
opener_refused g s ReadCacheSequential =
    not (drives s.target.shows) || s.lun.busy || may_be_other s.lun.last || not (is_at_most (bound_plus s.lun.cached.page.hi 2) g.pages)
opener_refused g s ReadCacheEnd = not (drives s.target.shows) || s.lun.busy || may_be_other s.lun.last || may_be_30 s.lun.last
opener_refused g s _ = false

-- a command that the tail wants may be refused: it works on the one driver, and there may be none, where no plane is selected; it reads, and a
-- cache read may go on; or it goes on with a cache read, and in the base profile none may there, and nothing may have been read; or it is a 15,
-- of several planes, where the chip doesn't cache programs of those, or of a LUN that may hold a page
abbrev pub closer_refused : Parts → State → Command → Bool
closer_refused g s ChangeReadColumnConfirm = not (selects_plane_at s.target.tail) && not (drives s.target.shows)
closer_refused g s ReadConfirm = is_wide g.optional && may_be_31 s.lun.last
closer_refused g s ReadPlane = may_be_31 s.lun.last
closer_refused g s CopybackRead = may_be_31 s.lun.last
closer_refused g s ReadCacheSequential = not (is_wide g.optional) || may_be_other s.lun.last
closer_refused g s ProgramCache = (not (has_group_cache g.optional) && may_be_queued s.lun.queue) || (has_copyback g.optional && s.lun.copies.holds)
closer_refused g s _ = false

-- an opener goes on with the sequence: a 31 or an 85 that the tail wants; where no copyback is declared no 85 begins a sequence
abbrev pub goes_on_at : Parts → Command → Place → Bool
goes_on_at g ReadCacheSequential p = place_wants ReadCacheSequential p
goes_on_at g ChangeWriteColumn p = place_wants ChangeWriteColumn p || not (has_copyback g.optional)
goes_on_at g c p = false

-- a reset ends an open sequence in the wider profile
abbrev pub may_end_sequence : Parts → Command → Bool
may_end_sequence g c = is_reset c && is_wide g.optional

abbrev pub command_out_of_place : Parts → State → Command → Bool
command_out_of_place g s c =
    if is_unfit g c then false
    else (if is_opener c && not (goes_on_at g c s.target.tail) then (not (may_end_sequence g c) && may_be_open s) || opener_refused g s c
    else not (place_wants c s.target.tail) || closer_refused g s c)

-- 31h may go past the rows of the text, where it goes to the next one
abbrev pub command_past_rows : Parts → ℕ → State → Command → Bool
command_past_rows g rows s ReadCacheSequential =
    not (is_unfit g ReadCacheSequential) && (not (place_wants ReadCacheSequential s.target.tail) && not (is_at_most (bound_plus s.lun.cached.index.hi 2) rows))
command_past_rows g rows s _ = false

abbrev pub asks_status : Command → Bool
asks_status ReadStatus = true
asks_status ReadStatusEnhanced = true
asks_status _ = false

-- programs may not use the command
abbrev pub command_not_for_programs : Parts → Command → Bool
command_not_for_programs g c = is_unfit g c || asks_status c || (wants_one_lun c && nat_lt 1 g.luns)

-- 31h, where no word of the text is known to be one
abbrev pub continues_unseen : Bounds → Command → Bool
continues_unseen b ReadCacheSequential = not b.continues_cache_read
continues_unseen b _ = false

-- ---- addresses

-- the second column cycle is among these
abbrev pub has_second_column : (from count : ℕ) → Bool
has_second_column from count = nat_le from 1 && nat_le 2 (from + count)

-- how long what the column is of may be
abbrev pub column_limit : Parts → State → Place → ℕ
column_limit g s (After ChangeReadColumn n) = if drives s.target.shows then least_length g s.lun.register else 0
column_limit g s _ = page_len g

abbrev pub byte_of_column : ℕ → ℕ → ℕ
byte_of_column from column = if from == 0 then column % 256 else column / 256 % 256

-- the address of a feature, of which the profile says nothing more
abbrev pub takes_any_byte : Command → Bool
takes_any_byte GetFeatures = true
takes_any_byte SetFeatures = true
takes_any_byte _ = false

-- the address bytes of 90h, ECh and EDh, and any of EEh and EFh
abbrev pub takes_identity : Parts → Command → ℕ → Bool
takes_identity g ReadId byte = byte == 0x20 || (is_wide g.optional && (byte == 0x00 || byte == 0x40))
takes_identity g ReadParameterPage byte = byte == 0x00
takes_identity g ReadUniqueId byte = byte == 0x00
takes_identity g c byte = takes_any_byte c

-- the byte of the column register is one of them, whatever it may be
abbrev pub is_identity_byte : Parts → Command → ℕ → Option ℕ → Bool
is_identity_byte g opener from None = nat_le from 1 && takes_any_byte opener
is_identity_byte g opener from (Some column) = nat_le from 1 && takes_identity g opener (byte_of_column from column)

-- the one address of 90h, ECh, EDh, EEh or EFh
abbrev pub identity_refused : Parts → State → (from count : ℕ) → Place → Bool
identity_refused g s from count (After opener n) = nat_lt 1 g.luns || not (count == 1) || not (is_identity_byte g opener from (only s.registers.column))
identity_refused g s from count _ = false

-- the row of 06h may be of a plane that holds no page, or something may be queued
abbrev pub plane_refused : State → Command → Bool
plane_refused s ChangeReadColumnEnhanced = may_be_queued s.lun.queue || not (are_planes_within s.registers.planes s.lun.held)
plane_refused s _ = false

-- the planes whose page a program may copy to a row, as far as its parity goes
abbrev pub copied_planes : Parts → KnownLun → Planes
copied_planes g l = if has_odd_even g.optional then l.held else l.copies.even

-- the row of 85h may be of a plane that holds no page to be copied there; that of 80h may come in a group of copies
abbrev pub copy_refused : Parts → State → Command → Bool
copy_refused g s ChangeWriteColumn = not s.lun.copies.keeps || not (are_planes_within s.registers.planes (copied_planes g s.lun))
copy_refused g s PageProgram = has_copyback g.optional && (may_be_queued s.lun.queue && s.lun.copies.holds)
copy_refused g s _ = false

-- the last row cycle may be refused; that of FAh is fine whatever the LUN does
abbrev pub row_refused : Parts → State → Place → Bool
row_refused g s (After opener n) =
    addresses_the_array opener
    && (s.lun.busy || (excludes_cache g opener && may_be_31 s.lun.last) || queue_refuses s.lun.queue s.registers.planes opener || plane_refused s opener || copy_refused g s opener
    || (excludes_program opener && s.lun.programming))
row_refused g s _ = false

-- the column is surely past its limit, so that nothing is asked of the cycles after it
abbrev pub surely_past : Parts → State → (from count : ℕ) → Place → Bool
surely_past g s from count p = from == next_address p && has_second_column from count && nat_le (column_limit g s p) s.registers.column.lo

abbrev pub address_out_of_place : Parts → State → (from count : ℕ) → Place → Bool
address_out_of_place g s from count p =
    if addresses_left p == 0 then true
    else (if takes_identity_at p then identity_refused g s from count p
    else (if surely_past g s from count p then false
    else (nat_lt (addresses_left p) count || (from == next_address p && nat_le 5 (from + count) && row_refused g s p))))

-- it begins at another byte than the one that is wanted
abbrev pub begins_elsewhere : (from : ℕ) → Place → Bool
begins_elsewhere from p = not (addresses_left p == 0) && not (takes_identity_at p) && not (from == next_address p)

abbrev pub column_past : Parts → State → (from count : ℕ) → Place → Bool
column_past g s from count p =
    not (addresses_left p == 0) && not (takes_identity_at p) && from == next_address p && has_second_column from count
    && not (is_at_most (bound_plus s.registers.column.hi 1) (column_limit g s p))

-- a row cycle, with the index or the plane perhaps outside
abbrev pub row_outside : Parts → ℕ → State → (from count : ℕ) → Bool
row_outside g rows s from count =
    nat_lt 2 (from + count) && (not (is_at_most (bound_plus s.registers.index.hi 1) rows) || not (are_below (planes g) s.registers.planes))

-- ---- inputs and outputs

abbrev pub output_refused : State → Bool
output_refused s =
    may_be_open s || not (drives s.target.shows)
    || (may_show_data s.target.shows && (s.lun.busy || not (has_register s.lun.register) || not (has_column s.lun.column)))

abbrev pub column_bound : Option OutputColumn → Option ℕ
column_bound None = None
column_bound (Some k) = k.at.hi

abbrev pub output_past : Parts → State → ℕ → Bool
output_past g s n = may_show_data s.target.shows && not (is_at_most (bound_plus (column_bound s.lun.column) n) (least_length g s.lun.register))

abbrev pub span_bound : Option Span → Option ℕ
span_bound None = None
span_bound (Some k) = k.hi

abbrev pub input_past : Parts → State → ℕ → Bool
input_past g s n = not (is_in_features s.target.tail) && not (is_at_most (bound_plus (span_bound s.target.column) n) (page_len g))

abbrev pub may_be_unready : State → Bool
may_be_unready s = s.lun.busy || may_be_open s || may_be_queued s.lun.queue || may_be_31 s.lun.last || s.lun.programming
