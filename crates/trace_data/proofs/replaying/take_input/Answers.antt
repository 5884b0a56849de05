use Rattle.trace_data.proofs.Walks.{input_stands}
use Rattle.trace_data.proofs.replaying.take_input.Goals as goal

pub returns-in-Ok-clause-works : goal.returns-in-Ok-clause-works
returns-in-Ok-clause-works c = input_stands c.args.bus.now c.put.new.self c.args.works.now c.args.ce c.args.byte c.requires c.in-Ok.ensures.ok.1
