-- Work that takes longer than it may: which item shows it first.
use Rattle.std.specs.Prelude.{ℕ, ◌+◌, ◌%◌, ◌<◌, ◌^◌, ◌==◌, Bool, true, false, ◌&&◌, ◌||◌, nat_lt, if◌then◌else◌, List, [], ◌∷◌, ◌++◌, drop, slice_get, Option, Some, None}
use Rattle.std.specs.Option.{unwrap_or}
use Rattle.onfi_cycle.specs.declared.item.Item.{Item}
use Rattle.onfi_cycle.specs.declared.item.Item.TheVariants.{Cyc, Rdy, Ard}
use Rattle.onfi_cycle.specs.declared.item.Kind.{Kind}
use Rattle.onfi_cycle.specs.declared.item.Kind.TheVariants.{Cmd, Adr, Din, Dout}
use Rattle.trace_ops.specs.declared.operation.Beginning.{Beginning}
use Rattle.trace_ops.specs.declared.operation.Beginning.TheVariants as begins
use Rattle.trace_ops.specs.declared.operation.Ending.{Ending}
use Rattle.trace_ops.specs.declared.operation.Ending.TheVariants.{Ready, Shown, NotShown, Abandoned}
use Rattle.trace_ops.specs.declared.operation.Operation.{Operation}
use Rattle.trace_timing.specs.declared.busy_time.BusyTime.{BusyTime}
use Rattle.trace_timing.specs.declared.busy_time.BusyTime.TheVariants as busy
use Rattle.trace_timing.specs.declared.timing_fault.TimingFault.TheVariants.{TooLong}
use Rattle.trace_timing.specs.declared.violation.Violation.{Violation}
use Rattle.trace_timing.specs.declared.watch.TimedItem.{TimedItem}
use Rattle.trace_timing.specs.Clock.{elapsed}
use Rattle.trace_timing.specs.Longest.{AreFinite, time_of}
use Rattle.busy_times.specs.declared.overrun.BusyRuler.{BusyRuler}
use Rattle.busy_times.specs.declared.overrun.Bounded.{Bounded}

-- ---- which time bounds work

abbrev pub is_closer : Option ℕ → ℕ → Bool
is_closer None byte = false
is_closer (Some other) byte = other == byte

-- the closer of a 00 reads a page: 30, 31 or 35
abbrev pub reads_page : Option ℕ → Bool
reads_page closer = is_closer closer 0x30 || (is_closer closer 0x31 || is_closer closer 0x35)

-- the closer of a program programs a page: 10 or 15
abbrev pub programs_page : Option ℕ → Bool
programs_page closer = is_closer closer 0x10 || is_closer closer 0x15

-- a read, a cache read and the parameter page tR, a program tPROG, an erase tBERS, a reset tRST, a feature tFEAT
abbrev pub bound_by : (opener : ℕ) → (closer : Option ℕ) → Option BusyTime
bound_by opener closer =
    if opener == 0x31 || (opener == 0x3f || opener == 0xec) then Some busy.Read
    else (if opener == 0x00 && reads_page closer then Some busy.Read
    else (if (opener == 0x80 || opener == 0x85) && programs_page closer then Some busy.Program
    else (if opener == 0x60 && is_closer closer 0xd0 then Some busy.Erase
    else (if opener == 0xff then Some busy.Reset
    else (if opener == 0xee || opener == 0xef then Some busy.Features else None)))))

abbrev pub bound_from : Beginning → Option ℕ → Option BusyTime
bound_from (begins.Opener opener) closer = bound_by opener closer
bound_from begins.Cut closer = None
bound_from begins.Ready closer = None

abbrev pub bound_of : Operation → Option BusyTime
bound_of o = bound_from o.beginning o.closer

-- ---- which items show that a LUN works

abbrev pub is_status : Beginning → Bool
is_status (begins.Opener opener) = opener == 0x70 || opener == 0x78
is_status begins.Cut = false
is_status begins.Ready = false

abbrev pub is_lun : Option ℕ → ℕ → Bool
is_lun None number = false
is_lun (Some other) number = other == number

abbrev pub is_same_lun : Option ℕ → Option ℕ → Bool
is_same_lun None other = false
is_same_lun (Some number) other = is_lun other number

-- the first asks for the status of the LUN of the second
abbrev pub asks_after : Operation → Operation → Bool
asks_after asker worker = is_status asker.beginning && (asker.ce == worker.ce && is_same_lun asker.lun worker.lun)

abbrev pub asks_if : Option Operation → Operation → Bool
asks_if None worker = false
asks_if (Some asker) worker = asks_after asker worker

abbrev pub asked_by : List Operation → (mark : ℕ) → Operation → Bool
asked_by ops mark worker = asks_if (slice_get ops mark) worker

-- a byte that comes out without RDY, its bit 6
abbrev pub is_busy_output : Kind → (byte : ℕ) → Bool
is_busy_output Cmd byte = false
is_busy_output Adr byte = false
is_busy_output Din byte = false
is_busy_output Dout byte = nat_lt (byte % 128) 64

abbrev pub is_ready_at : Option Ending → ℕ → Bool
is_ready_at None n = false
is_ready_at (Some (Ready at failed)) n = at == n
is_ready_at (Some (Shown at failed)) n = false
is_ready_at (Some (NotShown at)) n = false
is_ready_at (Some (Abandoned at)) n = false

-- a status byte of its LUN that says busy, or its written ready
abbrev pub shows_work : List Operation → (mark : ℕ) → Operation → (n : ℕ) → Item → Bool
shows_work ops mark worker n (Cyc c) = is_busy_output c.kind c.byte && asked_by ops mark worker
shows_work ops mark worker n (Rdy ce lun fail) = is_ready_at worker.end n
shows_work ops mark worker n (Ard ce lun fail) = false

abbrev pub has_ended : Option Ending → ℕ → Bool
has_ended None n = false
has_ended (Some (Ready at failed)) n = nat_lt at n
has_ended (Some (Shown at failed)) n = nat_lt at n
has_ended (Some (NotShown at)) n = nat_lt at n
has_ended (Some (Abandoned at)) n = nat_lt at n

abbrev pub is_abandoned : Option Ending → Bool
is_abandoned None = false
is_abandoned (Some (Ready at failed)) = false
is_abandoned (Some (Shown at failed)) = false
is_abandoned (Some (NotShown at)) = false
is_abandoned (Some (Abandoned at)) = true

-- ---- how long it takes

-- the times are below 2 ^ 62
pub record AreJudgeable (r : BusyRuler) : Type 0 where
  pub longest : AreFinite r.longest
  pub to_busy : r.to_busy < 2 ^ 62

-- work that began at this time
abbrev pub bound_work : BusyRuler → Operation → BusyTime → (since : ℕ) → Bounded
bound_work r worker work since =
    record { worker = worker; work = work; since = since; wanted = time_of r.longest work + r.to_busy; unit = r.unit; slack = r.slack }

abbrev pub is_long : Bounded → Option ℕ → Bool
is_long b None = false
is_long b (Some time) = nat_lt (b.wanted + b.slack) (elapsed b.unit b.since time)

abbrev pub falls : (latest : ℕ) → Option ℕ → Bool
falls latest None = false
falls latest (Some time) = nat_lt time latest

abbrev pub overrun_at : Bounded → (n : ℕ) → Option ℕ → Violation
overrun_at b n time = record { item = n; fault = TooLong b.work; seen = elapsed b.unit b.since (unwrap_or time b.since); wanted = b.wanted }

abbrev pub mark_at : List ℕ → ℕ → ℕ
mark_at marks n = unwrap_or (slice_get marks n) 0

abbrev pub is_late : Bounded → List Operation → List ℕ → (n : ℕ) → TimedItem → Bool
is_late b ops marks n i = is_long b i.time && shows_work ops (mark_at marks n) b.worker n i.item

-- the first of items, counted from this number, that shows that the work takes too long: up to its end, and up to a time that falls
abbrev pub overrun_from : Bounded → List Operation → List ℕ → (n latest : ℕ) → List TimedItem → Option Violation
overrun_from b ops marks n latest [] = None
overrun_from b ops marks n latest (i ∷ items) =
    if has_ended b.worker.end n || falls latest i.time then None
    else (if is_late b ops marks n i then Some (overrun_at b n i.time) else overrun_from b ops marks (n + 1) (unwrap_or i.time latest) items)

-- ---- all of a trace

abbrev pub time_in : Option TimedItem → Option ℕ
time_in None = None
time_in (Some i) = i.time

abbrev pub overrun_since : BusyRuler → List Operation → List ℕ → List TimedItem → Operation → BusyTime → (start : ℕ) → Option ℕ → Option Violation
overrun_since r ops marks items worker work start None = None
overrun_since r ops marks items worker work start (Some since) = overrun_from (bound_work r worker work since) ops marks start since (drop start items)

-- nothing is told of work whose time nobody says
abbrev pub overrun_by : BusyRuler → List Operation → List ℕ → List TimedItem → Operation → Option BusyTime → (start : Option ℕ) → Option Violation
overrun_by r ops marks items worker None start = None
overrun_by r ops marks items worker (Some work) None = None
overrun_by r ops marks items worker (Some work) (Some start) =
    if time_of r.longest work == 0 then None else overrun_since r ops marks items worker work start (time_in (slice_get items start))

-- of work that was abandoned nothing is told
abbrev pub overrun_of : BusyRuler → List Operation → List ℕ → List TimedItem → Operation → Option Violation
overrun_of r ops marks items worker = if is_abandoned worker.end then None else overrun_by r ops marks items worker (bound_of worker) worker.start

abbrev pub told : Option Violation → List Violation
told None = []
told (Some v) = v ∷ []

abbrev pub overruns_in : BusyRuler → List Operation → List ℕ → List TimedItem → List Operation → List Violation
overruns_in r ops marks items [] = []
overruns_in r ops marks items (worker ∷ workers) = told (overrun_of r ops marks items worker) ++ overruns_in r ops marks items workers

-- of the operations of a trace, in their order
abbrev pub overruns_of : BusyRuler → List Operation → List ℕ → List TimedItem → List Violation
overruns_of r ops marks items = overruns_in r ops marks items ops
