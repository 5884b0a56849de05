use Rattle.std.proofs.Common.{length}
use Rattle.die_model.proofs.lun_die.+copy_registers.Given as goal

abbrev pub decreases-copy_registers : goal.decreases-copy_registers
decreases-copy_registers g l = length l.from.now
