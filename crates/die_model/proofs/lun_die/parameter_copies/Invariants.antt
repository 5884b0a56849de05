use Rattle.std.proofs.Common.{◌≡◌}
use Rattle.die_model.proofs.Copies.{copies_of}
use Rattle.die_model.proofs.lun_die.parameter_copies.Given as goal

abbrev pub invariant-loop : goal.invariant-loop
invariant-loop g l = l.copies.items ≡ copies_of l.counter l.page
