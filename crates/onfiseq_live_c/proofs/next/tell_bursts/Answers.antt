use Rattle.std.proofs.Common.{sym, subst}
use Rattle.bus_record.specs.Bus.{bus_view}
use Rattle.onfiseq_live_c.specs.Bursts.{AllOn}
use Rattle.onfiseq_live_c.specs.Job.{lun_in, registers_in}
use Rattle.onfiseq_live_c.proofs.Told.{bursts_on}
use Rattle.onfiseq_live_c.proofs.next.tell_bursts.Goals as goal

pub try_bursts-requires-clause-on : goal.try_bursts-requires-clause-on
try_bursts-requires-clause-on c =
    subst (AllOn c.args.job.now.ce) (sym c.as_slice.ensures.value)
    (bursts_on (bus_view c.args.bus.now).geometry (lun_in c.args.job.now) (registers_in c.args.job.now) c.args.word c.in-Some.bursts.items c.in-Some.ensures.some)
