use Rattle.std.proofs.Common.{ap, ◌∙◌}
use Rattle.onfi_cycle.specs.Permitted.{broken}
use Rattle.onfi_cycle.specs.State.{judged}
use Rattle.target_bus.proofs.Shown.{any_byte, any_byte_judged}
use Rattle.target_bus.proofs.going_on.judge_output.Goals as goal

pub returns-clause-state : goal.returns-clause-state
returns-clause-state c = λ byte. c.judge.ensures.state ∙ (ap (judged c.args.state.now) c.output.ensures ∙ any_byte_judged c.args.state.now c.args.ce 0 byte)

pub returns-clause-past : goal.returns-clause-past
returns-clause-past c = λ g n past byte f. c.judge.ensures.past g n past f ∙ (ap (broken g n past) c.output.ensures ∙ any_byte g n past c.args.ce 0 byte)
