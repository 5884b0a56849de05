use Rattle.seq_core.proofs.Cores.{none_unloaded, early_now, would_unload}
use Rattle.seq_core.proofs.sequencer.Core.admits_unload.Goals as goal

pub returns-in-Empty-clause-err : goal.returns-in-Empty-clause-err
returns-in-Empty-clause-err g c = none_unloaded c.args.self.now c.args.lun c.state_at.ensures.core c.in-Empty.ensures.value

pub returns-in-Running-clause-err : goal.returns-in-Running-clause-err
returns-in-Running-clause-err g c = early_now c.args.self.now c.args.lun c.state_at.ensures.core c.in-Running.ensures.value

pub returns-in-Ended-clause-ok : goal.returns-in-Ended-clause-ok
returns-in-Ended-clause-ok g c = would_unload c.args.self.now c.args.lun c.in-Ended.code c.state_at.ensures.core c.in-Ended.ensures.value
