use Rattle.std.proofs.Common.{◌≡◌, ◌≤◌, ◌-◌, None}
use Rattle.bus_capture.specs.Sampling.{enabled_from}
use Rattle.bus_capture.proofs.sampling.enabled_of.Given as goal

abbrev pub invariant-numbers : goal.invariant-numbers
invariant-numbers l = record {
  within : l.number ≤ l.targets;
  rest : enabled_from l.levels.of (l.targets - l.number) l.number l.enabled ≡ enabled_from l.levels.of l.targets 0 None;
}

abbrev pub decreases-numbers : goal.decreases-numbers
decreases-numbers l = l.targets - l.number
