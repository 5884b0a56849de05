use Rattle.std.proofs.Common.{◌≡◌, ◌-◌}
use Rattle.bus_signals.specs.Roles.{sources_from, sources_of}
use Rattle.bus_signals.proofs.source.sources_of.Given as goal

abbrev pub invariant-loop-number : goal.invariant-loop-number
invariant-loop-number g l = sources_from l.targets l.carriers l.sources.items (68 - l.number) l.number ≡ sources_of l.targets l.carriers
