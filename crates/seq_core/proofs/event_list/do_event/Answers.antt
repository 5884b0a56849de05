use Rattle.seq_core.proofs.EventList.{load_answered, unload_answered}
use Rattle.seq_core.proofs.event_list.do_event.Goals as goal

pub returns-in-Load-clause-ok : goal.returns-in-Load-clause-ok
returns-in-Load-clause-ok g c =
    rw c.in-Load.is (load_answered c.args.core.now c.load.new.self c.in-Load.lun c.in-Load.job c.load.result c.load.ensures.ok c.load.ensures.err)

pub returns-in-Ok-clause-ok : goal.returns-in-Ok-clause-ok
returns-in-Ok-clause-ok g c = rw c.in-Step.is c.in-Ok.ensures.came

pub returns-in-Ready-clause-ok : goal.returns-in-Ready-clause-ok
returns-in-Ready-clause-ok g c = rw c.in-Ready.is c.ready.ensures.came

pub returns-in-ArrayReady-clause-ok : goal.returns-in-ArrayReady-clause-ok
returns-in-ArrayReady-clause-ok g c = rw c.in-ArrayReady.is c.array_ready.ensures.came

pub returns-in-Unload-clause-ok : goal.returns-in-Unload-clause-ok
returns-in-Unload-clause-ok g c =
    rw c.in-Unload.is (unload_answered c.args.core.now c.unload.new.self c.in-Unload.lun c.unload.result c.unload.ensures.ok c.unload.ensures.err)
