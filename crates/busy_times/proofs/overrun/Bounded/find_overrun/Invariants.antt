use Rattle.std.proofs.Common.{◌≡◌, ◌<◌, ◌+◌, ◌^◌, length}
use Rattle.busy_times.specs.Overruns.{overrun_from}
use Rattle.busy_times.proofs.overrun.Bounded.find_overrun.Given as goal

abbrev pub invariant-rest : goal.invariant-rest
invariant-rest l =
    (overrun_from l.self l.ops l.marks l.number l.latest l.rest ≡ overrun_from l.fn.self l.ops l.marks l.fn.begun l.fn.self.since l.items)
    × (l.number + length l.rest < 2 ^ 64)

abbrev pub decreases-rest : goal.decreases-rest
decreases-rest l = length l.rest
