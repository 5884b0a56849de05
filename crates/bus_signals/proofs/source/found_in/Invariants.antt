use Rattle.std.proofs.Common.{◌≡◌, drop, None}
use Rattle.bus_signals.specs.Roles.{found_from}
use Rattle.bus_signals.proofs.source.found_in.Given as goal

abbrev pub invariant-loop-carrier : goal.invariant-loop-carrier
invariant-loop-carrier l = found_from l.role l.given l.found (drop l.carrier-index l.carriers) ≡ found_from l.role l.given None l.carriers
