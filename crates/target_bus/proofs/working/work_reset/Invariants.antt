use Rattle.target_bus.proofs.Resets.{AreReset}
use Rattle.target_bus.proofs.working.work_reset.Given as goal

abbrev pub invariant-loop-lun : goal.invariant-loop-lun
invariant-loop-lun g l = AreReset l.state.geometry l.cycle.ce l.lun l.initial.dies l.dies
