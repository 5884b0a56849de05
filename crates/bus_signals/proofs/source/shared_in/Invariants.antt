use Rattle.std.proofs.Common.{◌≡◌, drop, None}
use Rattle.bus_signals.specs.Roles.{shared_from}
use Rattle.bus_signals.proofs.source.shared_in.Given as goal

abbrev pub invariant-loop-carrier : goal.invariant-loop-carrier
invariant-loop-carrier l = shared_from l.role l.found (drop l.carrier-index l.carriers) ≡ shared_from l.role None l.carriers
