-- Each of the most times is below 2 ^ 62.
use Rattle.std.proofs.Common.{◌<◌, ◌^◌}
use Rattle.trace_timing.specs.declared.busy_time.BusyTime.{BusyTime}
use Rattle.trace_timing.specs.declared.busy_time.BusyTime.TheVariants.{Read, Program, Erase, Reset, Features}
use Rattle.trace_timing.specs.declared.busy_time.LongestTimes.{LongestTimes}
use Rattle.trace_timing.specs.Longest.{AreFinite, time_of}

pub finite : (t : LongestTimes) (work : BusyTime) → AreFinite t → time_of t work < 2 ^ 62
finite t Read are = are.read
finite t Program are = are.program
finite t Erase are = are.erase
finite t Reset are = are.reset
finite t Features are = are.features
