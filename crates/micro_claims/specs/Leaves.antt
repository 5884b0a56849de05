-- What a word leaves of what is known before it.
use Rattle.std.specs.Prelude.{ℕ, ◌+◌, ◌-◌, ◌/◌, ◌%◌, ◌==◌, Bool, true, false, ◌&&◌, not, nat_lt, nat_le, min, if◌then◌else◌, Option, Some, None}
use Rattle.nand_geometry.specs.declared.parts.Parts.{Parts}
use Rattle.onfi_cycle.specs.declared.command.Command.{Command}
use Rattle.onfi_cycle.specs.declared.command.Command.TheVariants.{Read, ReadConfirm, ChangeReadColumn, ChangeReadColumnEnhanced, ChangeReadColumnConfirm, BlockErase, BlockEraseConfirm, BlockErasePlane, PageProgram, ChangeWriteColumn, ProgramConfirm, ProgramPlane, ReadId, ReadParameterPage, Reset, ReadCacheSequential, ReadCacheEnd, ReadUniqueId, GetFeatures, SetFeatures, ResetLun, SynchronousReset, ReadPlane, CopybackRead, ProgramCache}
use Rattle.micro_claims.specs.Spans.{copied, plus, plus_between, greatest_bound}
use Rattle.micro_claims.specs.Planes.{no_planes, either_plane, share_a_plane, is_one_plane, sure_plane, are_planes_within}
use Rattle.micro_claims.specs.State.{State, Registers, KnownTarget, KnownLun, Span, PageRange, Place, Closed, After, InData, InColumn, InFeatures, Unknown, Drift, IndexMove, On, To, NamedRow, Shown, Held, OutputColumn, QueuedRows, NoRows, SomeRows, SomeReads, AnyRows, LastCloser, CachedPage, Copies, Planes, exactly, not_cached, any_but_31, other_closer, no_copies, uncopied, closed, shows_status, shows_register}
use Rattle.micro_claims.specs.Against.{same_test, place_wants, selects_plane_at, byte_of_column, may_be_queued}
use Rattle.micro_claims.specs.Copies.{no_distance, parity_of, copies_moved, copies_queued, copies_cleared, first_copies, more_copies}

-- ---- parts of a state

abbrev pub with_registers : State → Registers → State
with_registers s r = record { registers = r; target = s.target; lun = s.lun }

abbrev pub with_target : State → KnownTarget → State
with_target s t = record { registers = s.registers; target = t; lun = s.lun }

abbrev pub with_lun : State → KnownLun → State
with_lun s l = record { registers = s.registers; target = s.target; lun = l }

abbrev pub status_shown : Option Shown
status_shown = Some (record { 0 = 1 })

abbrev pub data_shown : Option Shown
data_shown = Some (record { 0 = 2 })

-- what is shown behind 00h
abbrev pub resumed_shows : Option Shown → Option Shown
resumed_shows None = None
resumed_shows (Some w) = data_shown

-- a status after data was read loses the column
abbrev pub unread : Option OutputColumn → Option OutputColumn
unread None = None
unread (Some k) = if k.read then None else Some k

abbrev pub given_at : Option Span → Option OutputColumn
given_at None = None
given_at (Some at) = Some (record { at = copied at; read = false })

abbrev pub page_register : Option Held
page_register = Some (record { 0 = 1 })

-- ---- cost and status

-- what costs nothing leaves the state as it is
abbrev pub cost_plus : ℕ → Span → Span
cost_plus n s = if n == 0 then s else plus s n

abbrev pub paid : ℕ → Registers → Registers
paid n r = record r { cost = cost_plus n r.cost }

-- behind a status poll
abbrev pub polled : State → State
polled s =
    record {
      registers = record s.registers { polled = true };
      target = closed status_shown;
      lun = record s.lun { column = unread s.lun.column };
    }

-- behind a poll that says ready
abbrev pub found_ready : State → State
found_ready s = with_lun s (record s.lun { busy = false })

-- what is still known where others may have the bus
abbrev pub handed_over : Parts → State → State
handed_over g s =
    if nat_lt 1 g.luns then record { registers = s.registers; target = closed None; lun = record s.lun { column = unread s.lun.column } } else s

-- ---- drifts

-- as far as this, one of the two being 0; or unknown
abbrev pub drift_of : (ahead behind : ℕ) → Option Drift
drift_of ahead behind =
    if nat_le ahead greatest_bound && nat_le behind greatest_bound
    then Some (record { ahead = ahead - min ahead behind; behind = behind - min ahead behind }) else None

-- the index register moved on
abbrev pub drift_more : ℕ → Drift → Option Drift
drift_more n d = drift_of (d.ahead + n) d.behind

-- the index register was at one number over the base, and is now at another
abbrev pub drift_moved : (from to : ℕ) → Drift → Option Drift
drift_moved from to d = drift_of (d.ahead + to) (d.behind + from)

abbrev pub and_drift : Option Drift → (Drift → Option Drift) → Option Drift
and_drift None move = None
and_drift (Some d) move = move d

abbrev pub rows_at : Bool → Planes → Option Drift → QueuedRows
rows_at erase planes None = AnyRows
rows_at erase planes (Some d) = SomeRows erase planes d

abbrev pub reads_at : (planes surely : Planes) → Option Drift → QueuedRows
reads_at planes surely None = AnyRows
reads_at planes surely (Some d) = SomeReads planes surely d

abbrev pub named_moved : (Drift → Option Drift) → Option NamedRow → Option NamedRow
named_moved move None = None
named_moved move (Some n) = Some (record n { drift = and_drift n.drift move })

abbrev pub rows_moved : (Drift → Option Drift) → QueuedRows → QueuedRows
rows_moved move NoRows = NoRows
rows_moved move AnyRows = AnyRows
rows_moved move (SomeRows erase planes d) = rows_at erase planes (move d)
rows_moved move (SomeReads planes surely d) = reads_at planes surely (move d)

-- the index register moves: what is said of rows by their distance from it moves too
abbrev pub index_moved : (pages : ℕ) → (Drift → Option Drift) → Span → PageRange → State → State
index_moved pages move index page s =
    record {
      registers = record s.registers { index = index; page = page };
      target = record s.target { named = named_moved move s.target.named };
      lun = record s.lun { queue = rows_moved move s.lun.queue; copies = copies_moved (parity_of pages (move no_distance)) s.lun.copies };
    }

-- from a known index the distance is known
abbrev pub drift_set : Option ℕ → ℕ → Drift → Option Drift
drift_set None to d = None
drift_set (Some from) to d = drift_moved from to d

-- how a row that is as far from the index register is after a move of the register
abbrev pub moved_by : IndexMove → Drift → Option Drift
moved_by (On rows) d = drift_more rows d
moved_by (To from row) d = drift_set from row d

-- the place in the block, n pages on
abbrev pub page_plus : ℕ → ℕ → PageRange → PageRange
page_plus pages n r =
    if r.lo == r.hi then record { lo = (r.lo + n) % pages; hi = (r.lo + n) % pages }
    else (if nat_le r.lo r.hi && nat_lt (r.hi + n % pages) pages then record { lo = r.lo + n % pages; hi = r.hi + n % pages } else record { lo = 0; hi = pages - 1 })

-- ---- commands

abbrev pub opened_by : Command → State → State
opened_by c s = with_target s (record { tail = After c 0; column = None; named = None; shows = s.target.shows })

-- work on the LUN that leaves it without a register and without a page
abbrev pub work_started : QueuedRows → State → State
work_started queue s =
    record {
      registers = s.registers;
      target = closed s.target.shows;
      lun = record { busy = true; register = None; column = None; queue = queue; last = other_closer; cached = s.lun.cached; held = no_planes; array = no_planes; copies = no_copies; programming = false };
    }

-- the row of the tail joins the queue
abbrev pub queued_planes : QueuedRows → Planes
queued_planes NoRows = no_planes
queued_planes AnyRows = no_planes
queued_planes (SomeRows erase planes d) = planes
queued_planes (SomeReads planes surely d) = no_planes

-- the queued rows are of this kind, and as far from the index register
abbrev pub same_drift : Option Drift → Drift → Bool
same_drift None d = false
same_drift (Some c) d = c.ahead == d.ahead && c.behind == d.behind

abbrev pub goes_along : Bool → Option Drift → QueuedRows → Bool
goes_along erase drift NoRows = true
goes_along erase drift AnyRows = false
goes_along erase drift (SomeRows kind planes d) = same_test erase kind && same_drift drift d
goes_along erase drift (SomeReads planes surely d) = false

abbrev pub queued_more : Bool → QueuedRows → Option NamedRow → QueuedRows
queued_more erase queue None = AnyRows
queued_more erase queue (Some n) = if goes_along erase n.drift queue then rows_at erase (either_plane n.planes (queued_planes queue)) n.drift else AnyRows

-- the row of the tail is read later; it goes beside reads of other planes alone, as far from the index register
abbrev pub reads_beside : NamedRow → QueuedRows → QueuedRows
reads_beside n NoRows = reads_at n.planes (sure_plane n.planes) n.drift
reads_beside n (SomeReads planes surely d) =
    if same_drift n.drift d && not (share_a_plane n.planes planes) then SomeReads (either_plane n.planes planes) (either_plane (sure_plane n.planes) surely) d else AnyRows
reads_beside n _ = AnyRows

abbrev pub reads_more : QueuedRows → Option NamedRow → QueuedRows
reads_more queue None = AnyRows
reads_more queue (Some n) = reads_beside n queue

-- reads may be queued
abbrev pub may_be_reads : QueuedRows → Bool
may_be_reads NoRows = false
may_be_reads (SomeRows erase planes d) = false
may_be_reads (SomeReads planes surely d) = true
may_be_reads AnyRows = true

-- the plane of the row of the tail, where it is sure
abbrev pub named_plane : Option NamedRow → Planes
named_plane None = no_planes
named_plane (Some n) = sure_plane n.planes

-- the planes that surely hold a page behind a read of the row of the tail: that of the row, and those of the reads before it
abbrev pub held_beside : NamedRow → QueuedRows → Planes
held_beside n (SomeReads planes surely d) = if share_a_plane n.planes planes then sure_plane n.planes else either_plane (sure_plane n.planes) surely
held_beside n _ = sure_plane n.planes

abbrev pub held_by_read : QueuedRows → Option NamedRow → Planes
held_by_read queue None = no_planes
held_by_read queue (Some n) = held_beside n queue

abbrev pub cached_at : Option NamedRow → CachedPage
cached_at None = not_cached
cached_at (Some n) = record { index = copied n.index; page = record { lo = 0; hi = Some n.page; grown = None } }

abbrev pub shows_after_read : Parts → Option Shown → Option Shown
shows_after_read g None = if nat_lt 1 g.luns then None else data_shown
shows_after_read g (Some w) = data_shown

-- a 32: the row is read later, and no page is held any more
abbrev pub read_queued : Parts → State → State
read_queued g s =
    record {
      registers = s.registers;
      target = closed (shows_after_read g s.target.shows);
      lun = record {
        busy = true;
        register = None;
        column = None;
        queue = reads_more s.lun.queue s.target.named;
        last = other_closer;
        cached = s.lun.cached;
        held = no_planes;
        array = no_planes;
        copies = no_copies;
        programming = false;
      };
    }

-- a 30: the array reads the page of the row, and nothing is queued behind it; where reads were queued no page is selected, and no 31 may follow
abbrev pub read_started : Parts → State → State
read_started g s =
    record {
      registers = s.registers;
      target = closed (shows_after_read g s.target.shows);
      lun = record {
        busy = true;
        register = if may_be_reads s.lun.queue then None else page_register;
        column = given_at s.target.column;
        queue = NoRows;
        last = if may_be_reads s.lun.queue then any_but_31 else record { 0 = 1 };
        cached = cached_at s.target.named;
        held = held_by_read s.lun.queue s.target.named;
        array = named_plane s.target.named;
        copies = uncopied;
        programming = false;
      };
    }

-- another 35 leaves the pages that are held: the last closer was surely one, and nothing is queued
abbrev pub gathers : KnownLun → Bool
gathers l = l.copies.copying && not (may_be_queued l.queue)

-- the planes that surely hold a page behind a 35 of this row, with these rows queued before it: that of the row, and those of the reads, where
-- it is sure of each that its page was read
abbrev pub copied_beside : NamedRow → QueuedRows → Planes
copied_beside n (SomeReads planes surely d) =
    if is_one_plane n.planes && (not (share_a_plane n.planes planes) && are_planes_within planes surely) then either_plane n.planes surely else sure_plane n.planes
copied_beside n _ = sure_plane n.planes

-- those of them whose rows are as far from the index register as this one
abbrev pub alike_beside : NamedRow → QueuedRows → Planes
alike_beside n (SomeReads planes surely d) = if same_drift n.drift d then copied_beside n (SomeReads planes surely d) else sure_plane n.planes
alike_beside n _ = sure_plane n.planes

abbrev pub held_by_copy : KnownLun → Option NamedRow → Planes
held_by_copy l None = no_planes
held_by_copy l (Some n) = if gathers l then (if is_one_plane n.planes then either_plane n.planes l.held else no_planes) else copied_beside n l.queue

abbrev pub copies_read : (pages : ℕ) → KnownLun → Option NamedRow → Copies
copies_read pages l None = first_copies None no_planes
copies_read pages l (Some n) = if gathers l then more_copies (parity_of pages n.drift) n.planes l.copies else first_copies (parity_of pages n.drift) (alike_beside n l.queue)

-- a 35: as a 30, but that no 31 may follow, and that programs may copy the pages that are held then
abbrev pub copy_started : Parts → State → State
copy_started g s =
    record {
      registers = s.registers;
      target = closed (shows_after_read g s.target.shows);
      lun = record {
        busy = true;
        register = if may_be_reads s.lun.queue then None else page_register;
        column = given_at s.target.column;
        queue = NoRows;
        last = other_closer;
        cached = s.lun.cached;
        held = held_by_copy s.lun s.target.named;
        array = named_plane s.target.named;
        copies = copies_read g.pages s.lun s.target.named;
        programming = false;
      };
    }

-- an 11: the row is programmed later; the pages that are held stay, and the array goes on with what a 15 gave it
abbrev pub program_queued : State → State
program_queued s =
    record {
      registers = s.registers;
      target = closed s.target.shows;
      lun = record {
        busy = true;
        register = None;
        column = None;
        queue = queued_more false s.lun.queue s.target.named;
        last = other_closer;
        cached = s.lun.cached;
        held = s.lun.held;
        array = no_planes;
        copies = copies_queued s.lun.copies;
        programming = s.lun.programming;
      };
    }

-- a 15: as a 10, but that the array goes on behind the ready
abbrev pub cache_programmed : State → State
cache_programmed s =
    record {
      registers = s.registers;
      target = closed s.target.shows;
      lun = record {
        busy = true;
        register = None;
        column = None;
        queue = NoRows;
        last = other_closer;
        cached = s.lun.cached;
        held = no_planes;
        array = no_planes;
        copies = no_copies;
        programming = true;
      };
    }

-- the register takes the page that the array read, and the array reads one of this plane
abbrev pub cache_read : LastCloser → CachedPage → (array : Planes) → Option Shown → State → State
cache_read last cached array shows s =
    record {
      registers = s.registers;
      target = closed shows;
      lun = record {
        busy = true;
        register = page_register;
        column = Some (record { at = exactly 0; read = false });
        queue = s.lun.queue;
        last = last;
        cached = cached;
        held = s.lun.array;
        array = array;
        copies = uncopied;
        programming = false;
      };
    }

abbrev pub next_cached : CachedPage → CachedPage
next_cached cached = record { index = plus cached.index 1; page = plus cached.page 1 }

-- a 31: the array reads the page of the row, where the tail wants it, and else the next one
abbrev pub cache_read_on : Parts → State → State
cache_read_on g s =
    if place_wants ReadCacheSequential s.target.tail
    then cache_read (record { 0 = 2 }) (cached_at s.target.named) (named_plane s.target.named) (shows_after_read g s.target.shows) s
    else cache_read (record { 0 = 2 }) (next_cached s.lun.cached) s.lun.array data_shown s

-- a reset: whatever the LUN did ends, and nothing is held or queued
abbrev pub reset_started : State → State
reset_started s =
    record {
      registers = s.registers;
      target = closed None;
      lun = record { busy = true; register = None; column = None; queue = NoRows; last = other_closer; cached = s.lun.cached; held = no_planes; array = no_planes; copies = no_copies; programming = false };
    }

-- the register is the page that the plane of the row holds
abbrev pub register_selected : Option NamedRow → (held : Planes) → Option Held
register_selected None held = None
register_selected (Some n) held = if are_planes_within n.planes held then page_register else None

-- an E0: the column that 05h gave; behind 06h the LUN alone shows data, from the page of the plane
abbrev pub column_changed : State → State
column_changed s =
    if selects_plane_at s.target.tail
    then record { registers = s.registers; target = closed data_shown; lun = record s.lun { register = register_selected s.target.named s.lun.held; column = given_at s.target.column } }
    else record { registers = s.registers; target = closed s.target.shows; lun = record s.lun { column = given_at s.target.column } }

abbrev pub command_leaves : Parts → State → Command → State
command_leaves g s Read = with_target s (record { tail = After Read 0; column = None; named = None; shows = resumed_shows s.target.shows })
command_leaves g s ChangeReadColumn = opened_by ChangeReadColumn s
command_leaves g s ChangeReadColumnEnhanced = opened_by ChangeReadColumnEnhanced s
command_leaves g s BlockErase = opened_by BlockErase s
command_leaves g s PageProgram = opened_by PageProgram s
command_leaves g s ReadId = opened_by ReadId s
command_leaves g s ReadParameterPage = opened_by ReadParameterPage s
command_leaves g s ReadUniqueId = opened_by ReadUniqueId s
command_leaves g s GetFeatures = opened_by GetFeatures s
command_leaves g s SetFeatures = opened_by SetFeatures s
command_leaves g s ResetLun = opened_by ResetLun s
command_leaves g s ChangeWriteColumn = if place_wants ChangeWriteColumn s.target.tail then with_target s (record s.target { tail = InColumn 0 }) else opened_by ChangeWriteColumn s
command_leaves g s ReadConfirm = read_started g s
command_leaves g s ReadPlane = read_queued g s
command_leaves g s CopybackRead = copy_started g s
command_leaves g s ChangeReadColumnConfirm = column_changed s
command_leaves g s BlockEraseConfirm = work_started NoRows s
command_leaves g s ProgramConfirm = work_started NoRows s
command_leaves g s BlockErasePlane = work_started (queued_more true s.lun.queue s.target.named) s
command_leaves g s ProgramPlane = program_queued s
command_leaves g s ProgramCache = cache_programmed s
command_leaves g s Reset = reset_started s
command_leaves g s SynchronousReset = reset_started s
command_leaves g s ReadCacheSequential = cache_read_on g s
command_leaves g s ReadCacheEnd = cache_read other_closer s.lun.cached s.lun.array data_shown s
command_leaves g s _ = s

-- ---- addresses

-- after so many addresses; no opener takes more than five
abbrev pub after_few : Command → ℕ → Place
after_few opener n = if nat_le n 5 then After opener n else Unknown

-- where the tail is after so many addresses of an opener; those of 80h, and of an 85h that began a sequence, lead into data, the one of EFh leads to its four bytes, and that of
-- 90h, ECh, EDh or EEh closes
abbrev pub opener_leads_to : Command → ℕ → Place
opener_leads_to PageProgram n = if n == 5 then InData else after_few PageProgram n
opener_leads_to ChangeWriteColumn n = if n == 5 then InData else after_few ChangeWriteColumn n
opener_leads_to ReadId n = Closed
opener_leads_to ReadParameterPage n = Closed
opener_leads_to ReadUniqueId n = Closed
opener_leads_to GetFeatures n = Closed
opener_leads_to SetFeatures n = InFeatures 0
opener_leads_to opener n = after_few opener n

-- those of an 85h in data lead back into it
abbrev pub column_leads_to : ℕ → Place
column_leads_to n = if n == 2 then InData else (if nat_le n 1 then InColumn n else Unknown)

-- where the tail is after so many addresses more
abbrev pub address_leads_to : ℕ → Place → Place
address_leads_to count Closed = Closed
address_leads_to count (After opener n) = opener_leads_to opener (n + count)
address_leads_to count InData = InData
address_leads_to count (InColumn n) = column_leads_to (n + count)
address_leads_to count (InFeatures n) = InFeatures n
address_leads_to count Unknown = Unknown

-- the greatest page of the index register in its block
abbrev pub greatest_page_of : ℕ → PageRange → ℕ → Option ℕ → ℕ
greatest_page_of pages r lo None = r.hi
greatest_page_of pages r lo (Some hi) = if lo / pages == hi / pages && nat_lt (hi % pages) r.hi && nat_le hi greatest_bound then hi % pages else r.hi

abbrev pub name_now : Parts → Registers → NamedRow
name_now g r =
    record { index = copied r.index; planes = r.planes; page = greatest_page_of g.pages r.page r.index.lo r.index.hi; drift = Some (record { ahead = 0; behind = 0 }) }

abbrev pub target_after_addresses : Parts → State → (from count : ℕ) → KnownTarget
target_after_addresses g s from count =
    record {
      tail = address_leads_to count s.target.tail;
      column = if nat_le from 1 && nat_le 2 (from + count) then Some (copied s.registers.column) else s.target.column;
      named = if nat_le 5 (from + count) then Some (name_now g s.registers) else s.target.named;
      shows = s.target.shows;
    }

-- what 90h reads by its address byte
abbrev pub id_held : ℕ → Held
id_held byte = if byte == 0x20 then record { 0 = 4 } else (if byte == 0x40 then record { 0 = 16 } else record { 0 = 8 })

-- what stands beside the array is in the register, and no page is held; all but 90h begin work for it
abbrev pub beside_read : (busy : Bool) → Held → State → State
beside_read busy held s =
    record {
      registers = s.registers;
      target = closed data_shown;
      lun = record s.lun { busy = busy; register = Some held; column = Some (record { at = exactly 0; read = false }); last = other_closer; held = no_planes; array = no_planes; copies = no_copies; programming = false };
    }

-- behind the address of EFh its four bytes come
abbrev pub features_opened : State → State
features_opened s = with_target s (record { tail = InFeatures 0; column = None; named = None; shows = s.target.shows })

abbrev pub identity_read : State → (from : ℕ) → Command → State
identity_read s from ReadId = beside_read s.lun.busy (id_held (byte_of_column from s.registers.column.lo)) s
identity_read s from ReadParameterPage = beside_read true (record { 0 = 2 }) s
identity_read s from ReadUniqueId = beside_read true (record { 0 = 32 }) s
identity_read s from GetFeatures = beside_read true (record { 0 = 64 }) s
identity_read s from SetFeatures = features_opened s
identity_read s from _ = s

-- the last row cycle of FAh resets the LUN
abbrev pub lun_reset : Parts → State → (from count n : ℕ) → State
lun_reset g s from count n = if n + count == 3 then reset_started s else with_target s (target_after_addresses g s from count)

-- no page is held any more
abbrev pub without_pages : KnownLun → KnownLun
without_pages l = record l { held = no_planes; copies = copies_cleared l.copies }

-- the last row cycle of 80h clears the page register
abbrev pub program_addressed : Parts → State → (from count n : ℕ) → State
program_addressed g s from count n =
    record { registers = s.registers; target = target_after_addresses g s from count; lun = if n + count == 5 then without_pages s.lun else s.lun }

-- the one address of 90h, ECh, EDh, EEh or EFh shows what it reads, or what comes; others are an address of the sequence
abbrev pub address_leaves_at : Parts → State → (from count : ℕ) → Place → State
address_leaves_at g s from count (After ReadId n) = identity_read s from ReadId
address_leaves_at g s from count (After ReadParameterPage n) = identity_read s from ReadParameterPage
address_leaves_at g s from count (After ReadUniqueId n) = identity_read s from ReadUniqueId
address_leaves_at g s from count (After GetFeatures n) = identity_read s from GetFeatures
address_leaves_at g s from count (After SetFeatures n) = identity_read s from SetFeatures
address_leaves_at g s from count (After ResetLun n) = lun_reset g s from count n
address_leaves_at g s from count (After PageProgram n) = program_addressed g s from count n
address_leaves_at g s from count _ = with_target s (target_after_addresses g s from count)

abbrev pub address_leaves : Parts → State → (from count : ℕ) → State
address_leaves g s from count = address_leaves_at g s from count s.target.tail

-- ---- outputs and inputs

abbrev pub column_read : Option Shown → ℕ → Option OutputColumn → Option OutputColumn
column_read None n k = None
column_read (Some w) n None = None
column_read (Some w) n (Some k) = if shows_register w then Some (record { at = plus_between k.at (if shows_status w then 0 else n) n; read = true }) else Some k

abbrev pub get_leaves : State → ℕ → State
get_leaves s n =
    record {
      registers = record s.registers { place = plus s.registers.place n };
      target = closed s.target.shows;
      lun = record s.lun { column = column_read s.target.shows n s.lun.column };
    }

abbrev pub span_more : ℕ → Option Span → Option Span
span_more n None = None
span_more n (Some k) = Some (plus k n)

abbrev pub place_moved : ℕ → State → State
place_moved n s = with_registers s (record s.registers { place = plus s.registers.place n })

-- behind so many of the four bytes of EFh, the fourth of which begins its work
abbrev pub features_put : State → ℕ → State
features_put s inputs = if nat_lt inputs 4 then with_target s (record s.target { tail = InFeatures inputs }) else work_started s.lun.queue s

abbrev pub put_leaves_at : State → ℕ → Place → State
put_leaves_at s n (InFeatures inputs) = place_moved n (features_put s (inputs + n))
put_leaves_at s n _ = place_moved n (with_target s (record s.target { column = span_more n s.target.column }))

abbrev pub put_leaves : State → ℕ → State
put_leaves s n = put_leaves_at s n s.target.tail
