use Rattle.std.proofs.Common.{◌≡◌, replicate}
use Rattle.die_model.proofs.lun_die.registers.Given as goal

abbrev pub invariant-loop : goal.invariant-loop
invariant-loop g l = l.all.items ≡ replicate l.counter (replicate l.len 0xff)
