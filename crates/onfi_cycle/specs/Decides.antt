-- What decides each fact of a LUN, in the words of the trace: the newest item that says something of it.
use Rattle.std.specs.Prelude.{◌≡◌, ℕ, ◌+◌, ◌<◌, ◌==◌, Bool, true, false, ◌||◌, ◌&&◌, not, nat_lt, if◌then◌else◌, List, [], ◌∷◌, Option, Some, None, unwrap_or, take, ◌++◌}
use Rattle.nand_geometry.specs.declared.parts.Parts.{Parts}
use Rattle.nand_geometry.specs.Limits.{planes}
use Rattle.onfi_cycle.specs.declared.command.Command.{Command}
use Rattle.onfi_cycle.specs.declared.command.Command.TheVariants.{Read, ReadConfirm, ChangeReadColumnConfirm, BlockEraseConfirm, BlockErasePlane, ReadStatus, ReadStatusEnhanced, ProgramConfirm, ProgramPlane, ReadId, ReadParameterPage, Reset, ReadCacheSequential, ReadCacheEnd, ReadUniqueId, GetFeatures, SetFeatures, ResetLun, SynchronousReset, ReadPlane, CopybackRead, ProgramCache}
use Rattle.onfi_cycle.specs.declared.lun.Lun.{Lun}
use Rattle.onfi_cycle.specs.declared.latch.Latch.{Latch}
use Rattle.onfi_cycle.specs.declared.latch.Latch.TheVariants.{Off, Status, Data}
use Rattle.onfi_cycle.specs.declared.item.Item.{Item}
use Rattle.onfi_cycle.specs.declared.item.Item.TheVariants.{Cyc, Rdy, Ard}
use Rattle.onfi_cycle.specs.declared.opening.Opening.{Opening}
use Rattle.onfi_cycle.specs.declared.target_cycle.TargetCycle.{TargetCycle}
use Rattle.onfi_cycle.specs.declared.target_cycle.TargetCycle.TheVariants.{CommandCycle, AddressCycle, InputCycle, OutputCycle}
use Rattle.onfi_cycle.specs.declared.page_address.PageAddress.{PageAddress}
use Rattle.onfi_cycle.specs.declared.queued.Queued.{Queued}
use Rattle.onfi_cycle.specs.declared.queued.Queued.TheVariants.{Erase, Program, Read as QueuedRead}
use Rattle.onfi_cycle.specs.declared.register.Register.{Register}
use Rattle.onfi_cycle.specs.declared.register.Register.TheVariants.{Empty, Page, ParameterPage, Identifier, Identity, JedecIdentity, UniqueId, Features}
use Rattle.onfi_cycle.specs.declared.tail_facts.TailFacts.{TailFacts}
use Rattle.onfi_cycle.specs.Command.{closes_row, reads_row, is_set_features, is_page_program, reads_identity}
use Rattle.onfi_cycle.specs.Sequence.{target_cycle, tail, facts_of, row, row_with, selects_plane, wants_command, wants_address}
use Rattle.onfi_cycle.specs.Effect.{is_data, is_shared, acts_for_target, page_address, names_lun, ends_features, plane_of_row}
use Rattle.onfi_cycle.specs.Lun.{latch, drivers, is_only, is_selected, is_overlapped, is_busy, leaves_array_busy, keeps_array_busy, closer, is_array_busy, array_page, register, read_column, queue, held, has_reads, pages_of_reads, page_in_plane, register_of_plane, held_on, is_copyback_read}
use Rattle.onfi_cycle.specs.Permitted.{is_legal}

-- 1. the newest item that decides, and what stands since

-- what an item decides, and else what was decided before it
abbrev pub or_before : {A : Type 0} → Option A → Option A → Option A
or_before (Some decided) before = Some decided
or_before None before = before

-- what the newest item decides that decides something; each item is asked together with the past before it
abbrev pub last_decided : {A : Type 0} → (List Item → Item → Option A) → List Item → Option A
last_decided decides [] = None
last_decided decides (i ∷ past) = or_before (decides past i) (last_decided decides past)

-- how many items count that stand after the newest one that begins anew
abbrev pub count_since : (begins counts : List Item → Item → Bool) → List Item → ℕ
count_since begins counts [] = 0
count_since begins counts (i ∷ past) =
    if begins past i then 0 else (if counts past i then count_since begins counts past + 1 else count_since begins counts past)

-- some item counts that stands after the newest one that begins anew
abbrev pub some_since : (begins counts : List Item → Item → Bool) → List Item → Bool
some_since begins counts [] = false
some_since begins counts (i ∷ past) = if begins past i then false else (some_since begins counts past || counts past i)

abbrev pub with_some : {A : Type 0} → Option A → List A → List A
with_some None rest = rest
with_some (Some x) rest = x ∷ rest

-- what the items give that stand after the newest one that begins anew, the newest first
abbrev pub all_since : {A : Type 0} → (List Item → Item → Bool) → (List Item → Item → Option A) → List Item → List A
all_since begins gives [] = []
all_since begins gives (i ∷ past) = if begins past i then [] else with_some (gives past i) (all_since begins gives past)

-- 2. what an item is to a LUN

-- the facts of the tail of the LUN's target
abbrev pub tail_of : List Item → Lun → TailFacts
tail_of past l = facts_of (tail past l.ce)

-- the LUN is the one driver of its target
abbrev pub drives_alone : Parts → List Item → Lun → Bool
drives_alone g past l = is_only (drivers g past l.ce) l.lun

-- the closers of a row: the tail wants them, and its row names their LUN
abbrev pub row_closer : Bool → Command → Option Command
row_closer named ReadConfirm = if named then Some ReadConfirm else None
row_closer named ReadPlane = if named then Some ReadPlane else None
row_closer named CopybackRead = if named then Some CopybackRead else None
row_closer named ReadCacheSequential = if named then Some ReadCacheSequential else None
row_closer named BlockEraseConfirm = if named then Some BlockEraseConfirm else None
row_closer named BlockErasePlane = if named then Some BlockErasePlane else None
row_closer named ProgramConfirm = if named then Some ProgramConfirm else None
row_closer named ProgramPlane = if named then Some ProgramPlane else None
row_closer named ProgramCache = if named then Some ProgramCache else None
row_closer named _ = None

-- a command that closes something on the LUN: a closer of a row that names it, a reset of the target, and a cache read of the one driver
-- behind no row
abbrev pub closing_command : Parts → List Item → Lun → Command → Option Command
closing_command g past l Reset = Some Reset
closing_command g past l SynchronousReset = Some Reset
closing_command g past l ReadCacheSequential =
    if wants_command (tail_of past l) ReadCacheSequential then row_closer (names_lun g (row (tail_of past l)) l.lun) ReadCacheSequential
    else (if drives_alone g past l then Some ReadCacheSequential else None)
closing_command g past l ReadCacheEnd = if drives_alone g past l then Some ReadCacheEnd else None
closing_command g past l c = row_closer (wants_command (tail_of past l) c && names_lun g (row (tail_of past l)) l.lun) c

-- the one address of an opener that reads what stands beside the array closes it at the LUN that acts for its target, and the last one of
-- Reset LUN at the LUN that it names
abbrev pub address_closer : (wanted named : Bool) → Command → ℕ → Option Command
address_closer wanted named ReadId n = if wanted then Some ReadId else None
address_closer wanted named ReadParameterPage n = if wanted then Some ReadParameterPage else None
address_closer wanted named ReadUniqueId n = if wanted then Some ReadUniqueId else None
address_closer wanted named GetFeatures n = if wanted then Some GetFeatures else None
address_closer wanted named ResetLun n = if n == 2 && named then Some Reset else None
address_closer wanted named _ n = None

abbrev pub closing_address : Parts → Lun → TailFacts → ℕ → Option Opening → Option Command
closing_address g l t byte None = None
closing_address g l t byte (Some o) =
    address_closer (wants_address t byte && acts_for_target g l.lun) (names_lun g (row_with t byte) l.lun) o.opener o.addresses

abbrev pub closing_cycle : Parts → List Item → Lun → TargetCycle → Option Command
closing_cycle g past l (CommandCycle c) = closing_command g past l c
closing_cycle g past l (AddressCycle byte) = closing_address g l (tail_of past l) byte (tail_of past l).opening
closing_cycle g past l (InputCycle byte) = if ends_features (tail_of past l) && acts_for_target g l.lun then Some SetFeatures else None
closing_cycle g past l OutputCycle = None

-- the command that closes something on the LUN, if the item does
abbrev pub closing : Parts → Lun → List Item → Item → Option Command
closing g l past (Cyc c) = if c.ce == l.ce then closing_cycle g past l (target_cycle c.kind c.byte) else None
closing g l past (Rdy ce lun fail) = None
closing g l past (Ard ce lun fail) = None

-- the item makes the LUN ready, or its array
abbrev pub readies : Lun → Item → Bool
readies l (Cyc c) = false
readies l (Rdy ce lun fail) = ce == l.ce && lun == l.lun
readies l (Ard ce lun fail) = false

abbrev pub readies_array : Lun → Item → Bool
readies_array l (Cyc c) = false
readies_array l (Rdy ce lun fail) = false
readies_array l (Ard ce lun fail) = ce == l.ce && lun == l.lun

-- a cycle on the LUN's target that passes
abbrev pub is_cycle_of : (TargetCycle → Bool) → Lun → Item → Bool
is_cycle_of test l (Cyc c) = c.ce == l.ce && test (target_cycle c.kind c.byte)
is_cycle_of test l (Rdy ce lun fail) = false
is_cycle_of test l (Ard ce lun fail) = false

abbrev pub is_output : TargetCycle → Bool
is_output OutputCycle = true
is_output _ = false

abbrev pub is_status_command : TargetCycle → Bool
is_status_command (CommandCycle ReadStatus) = true
is_status_command (CommandCycle ReadStatusEnhanced) = true
is_status_command _ = false

abbrev pub is_column_confirm : TargetCycle → Bool
is_column_confirm (CommandCycle ChangeReadColumnConfirm) = true
is_column_confirm _ = false

-- 3. busy

abbrev pub starts_work : Command → Option Bool
starts_work ReadId = None
starts_work c = Some true

abbrev pub work_of : Option Command → Option Bool
work_of None = None
work_of (Some c) = starts_work c

-- each closer but Read ID makes the LUN busy, and a ready ends that
abbrev pub busy_decided : Parts → Lun → List Item → Item → Option Bool
busy_decided g l past i = if readies l i then Some false else work_of (closing g l past i)

-- a closer ends the work of the array; behind this last one an 11 leaves it
abbrev pub ends_array_work : Option Command → Option Command → Option Bool
ends_array_work last None = None
ends_array_work last (Some ProgramPlane) = if keeps_array_busy last then None else Some false
ends_array_work last (Some c) = Some false

-- the ready of a Read Cache Sequential, or of a Program Cache, leaves the array busy; its own ready ends that, and so does each closer, but an 11 where it programs
abbrev pub array_busy_decided : Parts → Lun → List Item → Item → Option Bool
array_busy_decided g l past i =
    if readies_array l i then Some false
    else (if readies l i then (if is_busy g past l && leaves_array_busy (closer g past l) then Some true else None)
    else ends_array_work (closer g past l) (closing g l past i))

-- 4. the register and the page of the array

-- a closer reads the page of its row: a 30 or 35, and a 31 that its tail wants
abbrev pub reads_page : (wanted : Bool) → Option Command → Bool
reads_page wanted (Some ReadConfirm) = true
reads_page wanted (Some CopybackRead) = true
reads_page wanted (Some ReadCacheSequential) = wanted
reads_page wanted _ = false

abbrev pub reads_on : Option Command → Bool
reads_on (Some ReadCacheSequential) = true
reads_on _ = false

-- the item reads the page of a row on the LUN
abbrev pub reads_its_row : Parts → Lun → List Item → Item → Bool
reads_its_row g l past i = reads_page (wants_command (tail_of past l) ReadCacheSequential) (closing g l past i)

-- the page that it reads
abbrev pub page_read : Parts → Lun → List Item → Item → Option PageAddress
page_read g l past i = if reads_its_row g l past i then Some (page_address g (row (tail_of past l))) else None

-- so many pages on in its block
abbrev pub pages_on : PageAddress → ℕ → PageAddress
pages_on p k = record { block = p.block; page = p.page + k }

abbrev pub first_page : PageAddress
first_page = record { block = 0; page = 0 }

-- the page of the last row that was read, and one more for each Read Cache Sequential since
abbrev pub page_of_array : Parts → Lun → List Item → PageAddress
page_of_array g l past =
    pages_on (unwrap_or (last_decided (page_read g l) past) first_page)
    (count_since (reads_its_row g l) (λ past i. reads_on (closing g l past i)) past)

-- the byte of a cycle
abbrev pub byte_of : Item → ℕ
byte_of (Cyc c) = c.byte
byte_of (Rdy ce lun fail) = 0
byte_of (Ard ce lun fail) = 0

-- what the address of a Read ID asks for
abbrev pub id_register : ℕ → Register
id_register byte = if byte == 0x20 then Identifier else (if byte == 0x40 then JedecIdentity else Identity)

-- what a closer leaves in the register: a page, what stands beside the array, or nothing; the byte is that of the item
abbrev pub register_of : Parts → List Item → Lun → ℕ → Option Command → Option Register
register_of g past l byte None = None
register_of g past l byte (Some ReadConfirm) = Some (if has_reads (queue g past l) then Empty else Page (page_address g (row (tail_of past l))))
register_of g past l byte (Some CopybackRead) = Some (if has_reads (queue g past l) then Empty else Page (page_address g (row (tail_of past l))))
register_of g past l byte (Some ReadParameterPage) = Some ParameterPage
register_of g past l byte (Some ReadId) = Some (id_register byte)
register_of g past l byte (Some ReadUniqueId) = Some UniqueId
register_of g past l byte (Some GetFeatures) = Some (Features byte)
register_of g past l byte (Some ReadCacheSequential) = Some (Page (array_page g past l))
register_of g past l byte (Some ReadCacheEnd) = Some (Page (array_page g past l))
register_of g past l byte (Some c) = Some Empty

-- E0 behind 06 names the LUN
abbrev pub selects_here : Parts → Lun → List Item → Item → Bool
selects_here g l past i = is_cycle_of is_column_confirm l i && (selects_plane (tail_of past l) && names_lun g (row (tail_of past l)) l.lun)

-- E0 behind 06 chooses the page that is held in the plane of the row
abbrev pub register_decided : Parts → Lun → List Item → Item → Option Register
register_decided g l past i =
    if selects_here g l past i then Some (register_of_plane (page_in_plane (planes g) (plane_of_row g (row (tail_of past l))) (held g past l)))
    else register_of g past l (byte_of i) (closing g l past i)

-- the page of the row is read for a copyback: it is held, with the reads that were queued and, behind another 35, those of other planes
abbrev pub copies_held : Parts → List Item → Lun → List PageAddress
copies_held g past l =
    let at = page_address g (row (tail_of past l)) in
    take 4 (at ∷ (pages_of_reads (queue g past l) ++ held_on (planes g) at (is_copyback_read (closer g past l)) (held g past l)))

-- the pages that a closer leaves in the plane registers; an 11 leaves those that are there
abbrev pub held_of : Parts → List Item → Lun → Option Command → Option (List PageAddress)
held_of g past l None = None
held_of g past l (Some ReadConfirm) = Some (take 4 (page_address g (row (tail_of past l)) ∷ pages_of_reads (queue g past l)))
held_of g past l (Some CopybackRead) = Some (copies_held g past l)
held_of g past l (Some ReadCacheSequential) = Some (array_page g past l ∷ [])
held_of g past l (Some ReadCacheEnd) = Some (array_page g past l ∷ [])
held_of g past l (Some ProgramPlane) = None
held_of g past l (Some c) = Some []

-- the address ends the row of an 80 that names the LUN, which clears its registers
abbrev pub clears_by_opening : Parts → Lun → TailFacts → ℕ → Option Opening → Bool
clears_by_opening g l t byte None = false
clears_by_opening g l t byte (Some o) = is_page_program o.opener && (o.addresses == 4 && names_lun g (row_with t byte) l.lun)

abbrev pub clears_by_cycle : Parts → Lun → TailFacts → TargetCycle → Bool
clears_by_cycle g l t (AddressCycle byte) = clears_by_opening g l t byte t.opening
clears_by_cycle g l t _ = false

abbrev pub clears_here : Parts → Lun → List Item → Item → Bool
clears_here g l past (Cyc c) = c.ce == l.ce && clears_by_cycle g l (tail_of past l) (target_cycle c.kind c.byte)
clears_here g l past (Rdy ce lun fail) = false
clears_here g l past (Ard ce lun fail) = false

abbrev pub held_decided : Parts → Lun → List Item → Item → Option (List PageAddress)
held_decided g l past i = if clears_here g l past i then Some [] else held_of g past l (closing g l past i)

-- 5. the read column

-- E0 gives a column to a LUN that is named by the row of a 06, or drives alone
abbrev pub confirms_column : TailFacts → (named alone : Bool) → Bool
confirms_column t named alone = if selects_plane t then named else wants_command t ChangeReadColumnConfirm && alone

-- the one driver changes its column by a Change Read Column that the tail wants to confirm, and the LUN that a Change Read Column Enhanced names
abbrev pub changes_column : Parts → Lun → List Item → Item → Bool
changes_column g l past i =
    is_cycle_of is_column_confirm l i && confirms_column (tail_of past l) (names_lun g (row (tail_of past l)) l.lun) (drives_alone g past l)

abbrev pub column_of : List Item → Lun → Option Command → Option ℕ
column_of past l None = None
column_of past l (Some ReadConfirm) = Some (tail_of past l).column
column_of past l (Some CopybackRead) = Some (tail_of past l).column
column_of past l (Some ReadParameterPage) = Some 0
column_of past l (Some ReadId) = Some 0
column_of past l (Some ReadUniqueId) = Some 0
column_of past l (Some GetFeatures) = Some 0
column_of past l (Some ReadCacheSequential) = Some 0
column_of past l (Some ReadCacheEnd) = Some 0
column_of past l (Some c) = None

-- the column that an item gives: by a Read, by a Change Read Column, or 0
abbrev pub column_decided : Parts → Lun → List Item → Item → Option ℕ
column_decided g l past i = if changes_column g l past i then Some (tail_of past l).column else column_of past l (closing g l past i)

abbrev pub is_given : Option ℕ → Bool
is_given None = false
is_given (Some k) = true

abbrev pub gives_column : Parts → Lun → List Item → Item → Bool
gives_column g l past i = is_given (column_decided g l past i)

-- an output of the one driver, which shows data
abbrev pub outputs_data : Parts → Lun → List Item → Item → Bool
outputs_data g l past i = is_cycle_of is_output l i && (drives_alone g past l && is_data (latch g past l))

abbrev pub outputs_since : Parts → Lun → List Item → ℕ
outputs_since g l past = count_since (gives_column g l) (outputs_data g l) past

-- a status command behind a data output, both since the column was last given
abbrev pub loses_column : Parts → Lun → List Item → Item → Bool
loses_column g l past i = is_cycle_of is_status_command l i && nat_lt 0 (outputs_since g l past)

-- 6. the queue

abbrev pub is_queueing : Option Command → Bool
is_queueing (Some BlockErasePlane) = true
is_queueing (Some ProgramPlane) = true
is_queueing (Some ReadPlane) = true
is_queueing _ = false

abbrev pub empties_queue : Option Command → Bool
empties_queue (Some BlockEraseConfirm) = true
empties_queue (Some ProgramConfirm) = true
empties_queue (Some ProgramCache) = true
empties_queue (Some Reset) = true
empties_queue (Some ReadConfirm) = true
empties_queue (Some CopybackRead) = true
empties_queue _ = false

abbrev pub queued_row : PageAddress → Option Command → Option Queued
queued_row p (Some BlockErasePlane) = Some (Erase p)
queued_row p (Some ProgramPlane) = Some (Program p)
queued_row p (Some ReadPlane) = Some (QueuedRead p)
queued_row p _ = None

-- 7. the latch

abbrev pub closed_latch : Option Command → Option Latch
closed_latch None = None
closed_latch (Some Reset) = Some Off
closed_latch (Some ReadConfirm) = Some Data
closed_latch (Some ReadPlane) = Some Data
closed_latch (Some CopybackRead) = Some Data
closed_latch (Some ReadParameterPage) = Some Data
closed_latch (Some ReadId) = Some Data
closed_latch (Some ReadUniqueId) = Some Data
closed_latch (Some GetFeatures) = Some Data
closed_latch (Some ReadCacheSequential) = Some Data
closed_latch (Some ReadCacheEnd) = Some Data
closed_latch (Some c) = None

-- a Read turns a LUN that shows status to data
abbrev pub read_latch : Latch → Option Latch
read_latch Status = Some Data
read_latch _ = None

-- the last row cycle of a Read Status Enhanced selects the LUN that it names, and the others not
abbrev pub selected_latch : Bool → Option Latch
selected_latch named = if named then Some Status else Some Off

abbrev pub third_of_status : Command → ℕ → Bool → Option Latch
third_of_status ReadStatusEnhanced n named = if n == 2 then selected_latch named else None
third_of_status _ n named = None

abbrev pub selecting_latch : Parts → List Item → Lun → ℕ → Option Opening → Option Latch
selecting_latch g past l byte None = None
selecting_latch g past l byte (Some o) = third_of_status o.opener o.addresses (names_lun g (row_with (tail_of past l) byte) l.lun)

-- 70 shows the status of a LUN; where its target has several in the wider profile, that of the selected one alone
abbrev pub status_latch : (shared selected : Bool) → Latch
status_latch shared selected = if shared then (if selected then Status else Off) else Status

-- the closer of a row of another LUN, in the wider profile
abbrev pub closes_another : Parts → List Item → Lun → Command → Bool
closes_another g past l c =
    closes_row c && (is_shared g && (wants_command (tail_of past l) c && not (names_lun g (row (tail_of past l)) l.lun)))

-- a read of another LUN turns a LUN off that doesn't work
abbrev pub passed_latch : Parts → List Item → Lun → Command → Option Latch
passed_latch g past l c =
    if closes_another g past l c && (reads_row c && not (is_busy g past l || is_array_busy g past l)) then Some Off else None

-- E0 behind 06 shows the data of the LUN that the row names, and turns the others off
abbrev pub plane_latch : TailFacts → (named : Bool) → Option Latch
plane_latch t named = if selects_plane t then Some (if named then Data else Off) else None

-- what is read or set for the whole target, and its first LUN does, turns the others off
abbrev pub turned_off : (wanted first : Bool) → Command → Option Latch
turned_off wanted first c = if wanted && (not first && reads_identity c) then Some Off else None

abbrev pub left_latch : Parts → Lun → TailFacts → ℕ → Option Opening → Option Latch
left_latch g l t byte None = None
left_latch g l t byte (Some o) = turned_off (wants_address t byte && not (is_set_features o.opener)) (acts_for_target g l.lun) o.opener

abbrev pub latch_cycle : Parts → List Item → Lun → TargetCycle → Option Latch
latch_cycle g past l (CommandCycle ReadStatus) = Some (status_latch (is_shared g) (is_selected g past l))
latch_cycle g past l (CommandCycle Read) = read_latch (latch g past l)
latch_cycle g past l (CommandCycle ChangeReadColumnConfirm) = plane_latch (tail_of past l) (names_lun g (row (tail_of past l)) l.lun)
latch_cycle g past l (CommandCycle c) = or_before (closed_latch (closing_command g past l c)) (passed_latch g past l c)
latch_cycle g past l (AddressCycle byte) =
    or_before (selecting_latch g past l byte (tail_of past l).opening)
    (or_before (closed_latch (closing_address g l (tail_of past l) byte (tail_of past l).opening)) (left_latch g l (tail_of past l) byte (tail_of past l).opening))
latch_cycle g past l (InputCycle byte) = turned_off (ends_features (tail_of past l)) (acts_for_target g l.lun) SetFeatures
latch_cycle g past l OutputCycle = None

abbrev pub latch_decided : Parts → Lun → List Item → Item → Option Latch
latch_decided g l past (Cyc c) = if c.ce == l.ce then latch_cycle g past l (target_cycle c.kind c.byte) else None
latch_decided g l past (Rdy ce lun fail) = None
latch_decided g l past (Ard ce lun fail) = None

-- 8. which LUN of a target is selected, and which is overlapped

-- the row of work names a LUN: in the wider profile the others of its target are selected no more
abbrev pub selected_by_row : (begun named shared : Bool) → Option Bool
selected_by_row begun named shared = if begun && (named || shared) then Some named else None

-- the closer of a row
abbrev pub begins_on_row : List Item → Lun → Command → Bool
begins_on_row past l c = closes_row c && wants_command (tail_of past l) c

-- the address of what is read for the whole target
abbrev pub begins_for_target : TailFacts → ℕ → Command → Bool
begins_for_target t byte c = reads_identity c && (wants_address t byte && not (is_set_features c))

abbrev pub selected_by_address : Parts → Lun → TailFacts → ℕ → Command → ℕ → Option Bool
selected_by_address g l t byte ReadStatusEnhanced n = if n == 2 then Some (names_lun g (row_with t byte) l.lun) else None
selected_by_address g l t byte ResetLun n = selected_by_row (n == 2) (names_lun g (row_with t byte) l.lun) (is_shared g)
selected_by_address g l t byte c n = if begins_for_target t byte c then Some (acts_for_target g l.lun) else None

abbrev pub selected_by_opening : Parts → Lun → TailFacts → ℕ → Option Opening → Option Bool
selected_by_opening g l t byte None = None
selected_by_opening g l t byte (Some o) = selected_by_address g l t byte o.opener o.addresses

-- a LUN is selected by its work and by a 78 or 06 of it, and the first one by what is done for the whole target
abbrev pub selected_cycle : Parts → List Item → Lun → TargetCycle → Option Bool
selected_cycle g past l (CommandCycle Reset) = Some (acts_for_target g l.lun)
selected_cycle g past l (CommandCycle SynchronousReset) = Some (acts_for_target g l.lun)
selected_cycle g past l (CommandCycle ChangeReadColumnConfirm) = if selects_plane (tail_of past l) then Some (names_lun g (row (tail_of past l)) l.lun) else None
selected_cycle g past l (CommandCycle c) = selected_by_row (begins_on_row past l c) (names_lun g (row (tail_of past l)) l.lun) (is_shared g)
selected_cycle g past l (AddressCycle byte) = selected_by_opening g l (tail_of past l) byte (tail_of past l).opening
selected_cycle g past l (InputCycle byte) = if ends_features (tail_of past l) then Some (acts_for_target g l.lun) else None
selected_cycle g past l OutputCycle = None

abbrev pub selected_decided : Parts → Lun → List Item → Item → Option Bool
selected_decided g l past (Cyc c) = if c.ce == l.ce then selected_cycle g past l (target_cycle c.kind c.byte) else None
selected_decided g l past (Rdy ce lun fail) = None
selected_decided g l past (Ard ce lun fail) = None

-- the work of another LUN overlaps one that works
abbrev pub overlapped_by_row : (begun named shared works : Bool) → Option Bool
overlapped_by_row begun named shared works = if begun && (not named && (shared && works)) then Some true else None

abbrev pub overlapped_by_address : Parts → Lun → (works : Bool) → TailFacts → ℕ → Command → ℕ → Option Bool
overlapped_by_address g l works t byte ReadStatusEnhanced n = if n == 2 then Some false else None
overlapped_by_address g l works t byte ResetLun n = overlapped_by_row (n == 2) (names_lun g (row_with t byte) l.lun) (is_shared g) works
overlapped_by_address g l works t byte c n = if begins_for_target t byte c then Some false else None

abbrev pub overlapped_by_opening : Parts → Lun → (works : Bool) → TailFacts → ℕ → Option Opening → Option Bool
overlapped_by_opening g l works t byte None = None
overlapped_by_opening g l works t byte (Some o) = overlapped_by_address g l works t byte o.opener o.addresses

-- a LUN that works is overlapped by the work of another; a 78 ends that, and so do a 06 and what is done for the whole target
abbrev pub overlapped_cycle : Parts → List Item → Lun → TargetCycle → Option Bool
overlapped_cycle g past l (CommandCycle Reset) = if is_shared g then Some false else None
overlapped_cycle g past l (CommandCycle SynchronousReset) = if is_shared g then Some false else None
overlapped_cycle g past l (CommandCycle ChangeReadColumnConfirm) = if selects_plane (tail_of past l) then Some false else None
overlapped_cycle g past l (CommandCycle c) =
    overlapped_by_row (begins_on_row past l c) (names_lun g (row (tail_of past l)) l.lun) (is_shared g) (is_busy g past l || is_array_busy g past l)
overlapped_cycle g past l (AddressCycle byte) =
    overlapped_by_opening g l (is_busy g past l || is_array_busy g past l) (tail_of past l) byte (tail_of past l).opening
overlapped_cycle g past l (InputCycle byte) = if ends_features (tail_of past l) then Some false else None
overlapped_cycle g past l OutputCycle = None

abbrev pub overlapped_decided : Parts → Lun → List Item → Item → Option Bool
overlapped_decided g l past (Cyc c) = if c.ce == l.ce then overlapped_cycle g past l (target_cycle c.kind c.byte) else None
overlapped_decided g l past (Rdy ce lun fail) = None
overlapped_decided g l past (Ard ce lun fail) = None

-- 9. each fact of a LUN is what the newest item says that says something of it
pub record FactsAreDecided : Type 0 where
  pub busy : (g : Parts) (past : List Item) (l : Lun) → is_busy g past l ≡ unwrap_or (last_decided (busy_decided g l) past) false
  pub closer : (g : Parts) (past : List Item) (l : Lun) → closer g past l ≡ last_decided (closing g l) past
  pub array_busy : (g : Parts) (past : List Item) (l : Lun) → is_array_busy g past l ≡ unwrap_or (last_decided (array_busy_decided g l) past) false
  pub array_page : (g : Parts) (past : List Item) (l : Lun) → array_page g past l ≡ page_of_array g l past
  pub register : (g : Parts) (past : List Item) (l : Lun) → register g past l ≡ unwrap_or (last_decided (register_decided g l) past) Empty
  pub column : (g : Parts) (past : List Item) (l : Lun) → read_column g past l ≡ record { given = last_decided (column_decided g l) past; outputs = outputs_since g l past; lost = some_since (gives_column g l) (loses_column g l) past }
  pub queue : (g : Parts) (past : List Item) (l : Lun) → queue g past l ≡ all_since (λ past i. empties_queue (closing g l past i)) (λ past i. queued_row (page_address g (row (tail_of past l))) (closing g l past i)) past
  pub held : (g : Parts) (past : List Item) (l : Lun) → held g past l ≡ unwrap_or (last_decided (held_decided g l) past) []
  pub selected : (g : Parts) (past : List Item) (l : Lun) → is_selected g past l ≡ unwrap_or (last_decided (selected_decided g l) past) (l.lun == 0)
  pub overlapped : (g : Parts) (past : List Item) (l : Lun) → is_overlapped g past l ≡ unwrap_or (last_decided (overlapped_decided g l) past) false
  pub latch : (g : Parts) (targets : ℕ) (past : List Item) (l : Lun) → is_legal g targets past ≡ true → l.lun < g.luns → latch g past l ≡ unwrap_or (last_decided (latch_decided g l) past) Off
