-- How long work takes at the most.
use Rattle.std.specs.Prelude.{ℕ, ◌*◌, ◌<◌, ◌^◌, Option, Some, None}
use Rattle.onfi_cycle.specs.declared.command.Command.{Command}
use Rattle.onfi_cycle.specs.declared.command.Command.TheVariants.{ReadConfirm, CopybackRead, ReadCacheSequential, ReadCacheEnd, ReadParameterPage, ProgramConfirm, ProgramCache, BlockEraseConfirm, Reset, GetFeatures, SetFeatures}
use Rattle.trace_timing.specs.declared.busy_time.BusyTime.{BusyTime}
use Rattle.trace_timing.specs.declared.busy_time.BusyTime.TheVariants.{Read, Program, Erase, Features}
use Rattle.trace_timing.specs.declared.busy_time.BusyTime.TheVariants as busy
use Rattle.trace_timing.specs.declared.busy_time.LongestTimes.{LongestTimes}
use Rattle.trace_timing.specs.declared.modes.TimingMode.{TimingMode}
use Rattle.trace_timing.specs.declared.modes.TimingMode.TheVariants.{Zero, One, Two, Three, Four, Five}
use Rattle.trace_timing.specs.declared.page_times.PageTimes.{PageTimes}
use Rattle.trace_timing.specs.Modes.{femtoseconds}

-- each time is below 2 ^ 62 femtoseconds
pub record AreFinite (t : LongestTimes) : Type 0 where
  pub read : t.read < 2 ^ 62
  pub program : t.program < 2 ^ 62
  pub erase : t.erase < 2 ^ 62
  pub reset : t.reset < 2 ^ 62
  pub features : t.features < 2 ^ 62

-- the time that bounds the work which a command, or an address or an input behind it, begins
abbrev pub bound_of : Command → Option BusyTime
bound_of ReadConfirm = Some Read
bound_of CopybackRead = Some Read
bound_of ReadCacheSequential = Some Read
bound_of ReadCacheEnd = Some Read
bound_of ReadParameterPage = Some Read
bound_of ProgramConfirm = Some Program
bound_of ProgramCache = Some Program
bound_of BlockEraseConfirm = Some Erase
bound_of Reset = Some busy.Reset
bound_of GetFeatures = Some Features
bound_of SetFeatures = Some Features
bound_of _ = None

abbrev pub time_of : LongestTimes → BusyTime → ℕ
time_of t Read = t.read
time_of t Program = t.program
time_of t Erase = t.erase
time_of t busy.Reset = t.reset
time_of t Features = t.features

-- a number of microseconds in femtoseconds
abbrev pub microseconds : ℕ → ℕ
microseconds us = us * 1000000000

-- tRST: 1 ms in mode 0, and half of it in the others
abbrev pub reset_time : TimingMode → ℕ
reset_time Zero = microseconds 1000
reset_time One = microseconds 500
reset_time Two = microseconds 500
reset_time Three = microseconds 500
reset_time Four = microseconds 500
reset_time Five = microseconds 500

-- the most times of a mode for a chip of this page: 0 where the page says none
abbrev pub longest_of : TimingMode → PageTimes → LongestTimes
longest_of m page = record {
  read = microseconds page.read_us;
  program = microseconds page.program_us;
  erase = microseconds page.erase_us;
  reset = reset_time m;
  features = femtoseconds 1000;
}
