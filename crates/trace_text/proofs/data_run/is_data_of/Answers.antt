use Rattle.onfi_cycle.specs.declared.item.Kind.TheVariants.{Din, Dout}
use Rattle.trace_text.proofs.Runs.{cycle_is}
use Rattle.trace_text.proofs.data_run.is_data_of.Goals as goal

pub returns-in-Din-Din : goal.returns-in-Din-Din
returns-in-Din-Din c = λ yes. cycle_is c.args.kind Din c.args.ce c.args.item c.in-Cyc.cycle c.in-Cyc.is c.if-cycle-ce.true c.in-Din-Din.is-0 c.in-Din-Din.is-1

pub returns-in-Din-Din-2 : goal.returns-in-Din-Din-2
returns-in-Din-Din-2 c = λ yes. cycle_is c.args.kind Dout c.args.ce c.args.item c.in-Cyc.cycle c.in-Cyc.is c.if-cycle-ce.true c.in-Din-Din.is-0 c.in-Din-Din.is-1
