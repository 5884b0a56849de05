-- By which times a trace is judged, and what comes too soon or takes too long in it.
use Rattle.std.specs.Prelude.{◌≡◌, ◌++◌, ◌==◌, ⊤, ℕ, Bool, true, false, List, [], ◌∷◌, Option, Some, None, map, take}
use Rattle.seq_files.specs.Store.{Store, Holds}
use Rattle.nand_geometry.specs.declared.parts.Parts.{Parts}
use Rattle.onfi_cycle.specs.declared.item.Item.{Item}
use Rattle.trace_faults.specs.declared.broken_rule.BrokenRule.{BrokenRule}
use Rattle.trace_timing.specs.declared.page_times.PageTimes.{PageTimes}
use Rattle.trace_timing.specs.declared.timings.Timings.{Timings}
use Rattle.trace_timing.specs.declared.violation.Violation.{Violation}
use Rattle.trace_timing.specs.declared.watch.Ruler.{Ruler}
use Rattle.trace_timing.specs.declared.watch.TimedItem.{TimedItem}
use Rattle.trace_timing.specs.declared.busy_time.LongestTimes.{LongestTimes}
use Rattle.trace_timing.specs.PageTimes.{times_in}
use Rattle.trace_timing.specs.Longest.{longest_of}
use Rattle.trace_timing.specs.Modes.{timings_of}
use Rattle.trace_timing.specs.Wanted.{AreBounded}
use Rattle.trace_timing.specs.Watch.{violations_of}
use Rattle.trace_ops.specs.Listing.{ops_of, marks_of}
use Rattle.busy_times.specs.declared.overrun.BusyRuler.{BusyRuler}
use Rattle.busy_times.specs.Overruns.{overruns_of, AreJudgeable}
use Rattle.busy_times.specs.Order.{IsInOrder}
use Rattle.recording.specs.declared.recording_fault.RecordingFault.{RecordingFault}
use Rattle.recording.specs.declared.recording_fault.RecordingFault.TheVariants.{TimingFile}
use Rattle.recording.specs.declared.times_request.TimesRequest.{TimesRequest}
use Rattle.recording.specs.declared.times_request.TimingSource.{TimingSource}
use Rattle.recording.specs.declared.times_request.TimingSource.TheVariants.{Mode, File}
use Rattle.recording.specs.declared.time_rulers.TimeRulers.{TimeRulers}
use Rattle.recording.specs.declared.trace_view.TraceView.{TraceView}
use Rattle.recording.specs.Targets.{count_of}
use Rattle.recording.specs.Traces.{item_of}

-- ---- the least times and the most

-- a timing file is there
abbrev pub IsTimingFile : Option Store → (path : List ℕ) → Type 0
IsTimingFile files path = (text : List ℕ) × Holds files path text

-- those of a mode, for a chip whose page has these times; or those that are read of a timing file that is there
abbrev pub AreTimings : Option Store → TimingSource → PageTimes → Timings → Type 0
AreTimings files (Mode mode) page t = t ≡ timings_of mode page
AreTimings files (File path) page t = IsTimingFile files path.now

-- the most times, of a mode or of a timing file
abbrev pub AreLongest : Option Store → TimingSource → PageTimes → LongestTimes → Type 0
AreLongest files (Mode mode) page l = l ≡ longest_of mode page
AreLongest files (File path) page l = IsTimingFile files path.now

-- by what the times of a trace are judged
abbrev pub ruler_of : TimesRequest → Parts → Timings → Ruler
ruler_of request g t = record { timings = t; unit = request.unit; slack = request.slack; one_lun = g.luns == 1 }

abbrev pub busy_ruler_of : TimesRequest → Timings → LongestTimes → BusyRuler
busy_ruler_of request t l = record { longest = l; to_busy = t.t_wb; unit = request.unit; slack = request.slack }

-- the rulers of a request, for a chip with this page and geometry
pub record AreRulersOf (files : Option Store) (request : TimesRequest) (page : List ℕ) (g : Parts) (r : TimeRulers) : Type 0 where
  pub timings : Timings
  pub are_timings : AreTimings files request.source (times_in page) timings
  pub longest : LongestTimes
  pub are_longest : AreLongest files request.source (times_in page) longest
  pub least : r.least ≡ ruler_of request g timings
  pub most : r.most ≡ busy_ruler_of request timings longest

-- those that are asked for, if any are
abbrev pub AreRulers : Option Store → Option TimesRequest → (page : List ℕ) → Parts → Option TimeRulers → Type 0
AreRulers files None page g rulers = rulers ≡ None
AreRulers files (Some request) page g None = ⊥
AreRulers files (Some request) page g (Some r) = AreRulersOf files request page g r

-- a trace can be judged by them
abbrev pub AreUsable : Option TimeRulers → Type 0
AreUsable None = ⊤
AreUsable (Some r) = AreBounded r.least.timings × AreJudgeable r.most

-- the timing file is refused; of which line isn't said
abbrev pub RefusesTiming : Option Store → TimingSource → RecordingFault → Type 0
RefusesTiming files (File path) (TimingFile fault line) = IsTimingFile files path.now
RefusesTiming files _ _ = ⊥

abbrev pub RefusesTimes : Option Store → Option TimesRequest → RecordingFault → Type 0
RefusesTimes files None fault = ⊥
RefusesTimes files (Some request) fault = RefusesTiming files request.source fault

-- ---- what comes too soon, and what takes too long

-- what takes too long of the operations of a trace
abbrev pub long_of : TraceView → BusyRuler → List TimedItem → List Violation
long_of v r timed =
    overruns_of r (ops_of v.readies v.beginning v.geometry (count_of v.targets) (map item_of timed)) (marks_of v.readies v.beginning v.geometry (count_of v.targets) (map item_of timed)) timed

-- both in the order of items
abbrev pub AreLateBy : TimeRulers → TraceView → List TimedItem → List Violation → Type 0
AreLateBy r v timed late = IsInOrder (violations_of r.least timed ++ long_of v r.most timed) late

abbrev pub AreLate : Option TimeRulers → TraceView → List TimedItem → List Violation → Type 0
AreLate None v timed late = late ≡ []
AreLate (Some r) v timed late = AreLateBy r v timed late

-- all of it; or what is first of the trace, where nothing else is wrong with it
abbrev pub late_told : (all : Bool) → List BrokenRule → List Violation → List Violation
late_told true told late = late
late_told false [] late = take 1 late
late_told false (fault ∷ told) late = []
