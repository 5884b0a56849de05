use Rattle.seq_live.proofs.Lives.{not_unloaded, too_early}
use Rattle.seq_live.proofs.live.Live.admits_unload.Goals as goal

pub returns-in-Empty-clause-err : goal.returns-in-Empty-clause-err
returns-in-Empty-clause-err g c = not_unloaded c.args.self.now c.args.lun c.state_at.ensures.live c.in-Empty.ensures.value

pub returns-in-Running-clause-err : goal.returns-in-Running-clause-err
returns-in-Running-clause-err g c = too_early c.args.self.now c.args.lun c.state_at.ensures.live c.in-Running.ensures.value
