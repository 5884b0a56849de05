-- Which pause of a trace ends at which edge of a strobe.
use Rattle.std.specs.Prelude.{ℕ, ◌&&◌, not, Bool, true, false, if◌then◌else◌, List, [], ◌∷◌, Option, Some, None}
use Rattle.onfi_cycle.specs.declared.item.Kind.{Kind}
use Rattle.onfi_cycle.specs.declared.item.Kind.TheVariants.{Cmd, Adr, Din, Dout}
use Rattle.onfi_pauses.specs.declared.pause.LastCycle.{LastCycle}
use Rattle.onfi_pauses.specs.declared.pause.LastCycle.TheVariants as last
use Rattle.onfi_pauses.specs.Pauses.{pauses_before}
use Rattle.trace_timing.specs.declared.clock.Clock.{Clock}
use Rattle.trace_timing.specs.declared.timings.Timings.{Timings}
use Rattle.trace_timing.specs.declared.timings.Want.{Want}
use Rattle.trace_timing.specs.declared.timing_fault.TimingFault.{TimingFault}
use Rattle.trace_timing.specs.declared.timing_fault.TimingFault.TheVariants as fault
use Rattle.trace_timing.specs.Wanted.{cycle_want, pause_want}
use Rattle.edge_timing.specs.declared.distance.Distance.{Distance}
use Rattle.edge_timing.specs.declared.edge.Edge.{Edge}
use Rattle.edge_timing.specs.declared.edge.Edge.TheVariants as edge
use Rattle.edge_timing.specs.declared.edge_timing.EdgeTiming.{EdgeTiming}
use Rattle.edge_timing.specs.declared.edge_timing.EdgeTiming.TheVariants as timing
use Rattle.edge_timing.specs.declared.since.Since.{Since}
use Rattle.edge_timing.specs.declared.since.Since.TheVariants as since
use Rattle.edge_timing.specs.declared.strobed.Strobed.{Strobed}
use Rattle.edge_timing.specs.Lines.{between}

-- the time between edges that a pause of a trace is
abbrev pub timing_of : TimingFault → Option EdgeTiming
timing_of fault.WriteCycle = Some timing.WriteCycle
timing_of fault.ReadCycle = Some timing.ReadCycle
timing_of fault.AddressToInput = Some timing.AddressToInput
timing_of fault.ToOutput = Some timing.ToOutput
timing_of fault.ColumnChange = Some timing.ColumnChange
timing_of fault.OutputToCommand = Some timing.OutputToCommand
timing_of fault.ReadyToOutput = Some timing.ReadyToOutput
timing_of fault.ToBusy = Some timing.ToBusy
timing_of fault.NoTimes = None
timing_of (fault.TooLong work) = None
timing_of fault.Backwards = None

-- of an output a period ends at the rise of RE#, and any other pause at its fall
abbrev pub edge_of_output : TimingFault → Edge
edge_of_output fault.ReadCycle = edge.ReRises
edge_of_output _ = edge.ReFalls

-- of a cycle that is written tRHW ends at the fall of WE#, and any other pause at its rise
abbrev pub edge_of_written : TimingFault → Edge
edge_of_written fault.OutputToCommand = edge.WeFalls
edge_of_written _ = edge.WeRises

abbrev pub edge_of : TimingFault → Kind → Edge
edge_of f Dout = edge_of_output f
edge_of f Cmd = edge_of_written f
edge_of f Adr = edge_of_written f
edge_of f Din = edge_of_written f

-- the cycle before
abbrev pub cycle_before : LastCycle → Since
cycle_before last.Nothing = since.Command
cycle_before (last.Command c) = since.Command
cycle_before (last.Address c) = since.Address
cycle_before last.Input = since.Input
cycle_before (last.FeatureByte number) = since.Input
cycle_before last.Output = since.Output

abbrev pub is_address : LastCycle → Bool
is_address (last.Address c) = true
is_address _ = false

-- the cycle that begins work
abbrev pub work_before : LastCycle → Since
work_before (last.Address c) = since.WorkAddress
work_before (last.FeatureByte number) = since.WorkInput
work_before _ = since.WorkCommand

-- what a pause after this cycle begins with
abbrev pub since_of : TimingFault → LastCycle → Since
since_of fault.AddressToInput l = since.LastAddress
since_of fault.ColumnChange l = if is_address l then since.ColumnAddress else since.ColumnConfirm
since_of fault.OutputToCommand l = since.LastOutput
since_of fault.ReadyToOutput l = since.Ready
since_of fault.ToBusy l = work_before l
since_of fault.WriteCycle l = cycle_before l
since_of fault.ReadCycle l = cycle_before l
since_of fault.ToOutput l = cycle_before l
since_of fault.NoTimes l = cycle_before l
since_of (fault.TooLong work) l = cycle_before l
since_of fault.Backwards l = cycle_before l

-- when an edge of a cycle's strobe was
abbrev pub time_of : Strobed → Edge → Option ℕ
time_of s edge.WeFalls = s.fell
time_of s edge.ReFalls = s.fell
time_of s edge.WeRises = Some s.rose
time_of s edge.ReRises = Some s.rose
time_of s edge.DqChanges = Some s.rose
time_of s edge.CleChanges = Some s.rose
time_of s edge.AleChanges = Some s.rose
time_of s edge.EnableFalls = Some s.rose
time_of s edge.EnableRises = Some s.rose

abbrev pub pause_as : Strobed → LastCycle → TimingFault → (since : Option ℕ) → Option EdgeTiming → Option Distance
pause_as s l f from None = None
pause_as s l f from (Some timing) = between timing (edge_of f s.cycle.kind) (since_of f l) from (time_of s (edge_of f s.cycle.kind))

-- a pause before a cycle, since this time
abbrev pub pause_by : Strobed → LastCycle → (since : Option ℕ) → Option Want → Option Distance
pause_by s l from None = None
pause_by s l from (Some want) = pause_as s l want.fault from (timing_of want.fault)

-- the pauses since the last cycle of the target, since it where it began work, and since the ready, of data on a target of one LUN
abbrev pub cycle_pause : Timings → Clock → Strobed → Option Distance
cycle_pause t c s = pause_by s c.last c.at (cycle_want t c.has_command c.last s.cycle.kind)

abbrev pub busy_pause : Timings → Clock → Strobed → Option Distance
busy_pause t c s = pause_by s c.last c.at (pause_want t s.cycle.kind (pauses_before c.last c.is_ready s.cycle.kind).busy)

abbrev pub ready_pause : Timings → (one_lun : Bool) → Clock → Strobed → Option Distance
ready_pause t one_lun c s =
    if one_lun && not c.may_give_status then pause_by s c.last c.ready_at (pause_want t s.cycle.kind (pauses_before c.last c.is_ready s.cycle.kind).ready) else None

-- the pauses of a trace that a cycle ends
abbrev pub pauses_of : Timings → (one_lun : Bool) → Clock → Strobed → List (Option Distance)
pauses_of t one_lun c s = cycle_pause t c s ∷ (busy_pause t c s ∷ (ready_pause t one_lun c s ∷ []))
