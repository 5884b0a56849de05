use Rattle.std.proofs.Common.{rules, ◌∙◌}
use Rattle.onfi_cycle.proofs.Following.{judged_is_broken}
use Rattle.onfi_cycle.proofs.bus_state.BusState.judge.Goals as goal

pub returns-clause-state : goal.returns-clause-state
returns-clause-state c = search rules

pub returns-clause-past : goal.returns-clause-past
returns-clause-past c = λ g n past f. returns-clause-state c ∙ judged_is_broken g n c.args.self.now past c.args.item f
