use Rattle.onfi_cycle.specs.declared.item.Kind.TheVariants.{Din, Dout}
use Rattle.trace_text.proofs.Runs.{followed}
use Rattle.trace_text.proofs.data_run.go_on_by_run.Goals as goal

pub returns-in-Din-clause-past : goal.returns-in-Din-clause-past
returns-in-Din-clause-past c = λ g n past f.
    followed Din g n c.go_on_by_inputs.new.state past c.in-Cyc.first.ce c.args.items.now c.count_cycles.result c.go_on_by_inputs.result c.go_on_by_inputs.ensures.most c.count_cycles.ensures.inside c.count_cycles.ensures.cycles
    (λ bytes size. c.go_on_by_inputs.ensures.past g n past bytes f size)

pub returns-in-Dout-clause-past : goal.returns-in-Dout-clause-past
returns-in-Dout-clause-past c = λ g n past f.
    followed Dout g n c.go_on_by_outputs.new.state past c.in-Cyc.first.ce c.args.items.now c.count_cycles-in-Dout.result c.go_on_by_outputs.result c.go_on_by_outputs.ensures.most c.count_cycles-in-Dout.ensures.inside c.count_cycles-in-Dout.ensures.cycles
    (λ bytes size. c.go_on_by_outputs.ensures.past g n past bytes f size)
