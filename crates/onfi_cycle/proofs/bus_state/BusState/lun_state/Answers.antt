use Rattle.std.proofs.Common.{rules, ◌∙◌}
use Rattle.onfi_cycle.proofs.Following.{looked_is_look}
use Rattle.onfi_cycle.proofs.bus_state.BusState.lun_state.Goals as goal

pub returns-in-None-clause-state : goal.returns-in-None-clause-state
returns-in-None-clause-state c = search rules

pub returns-in-None-clause-past : goal.returns-in-None-clause-past
returns-in-None-clause-past c = λ g n past f. returns-in-None-clause-state c ∙ looked_is_look g n c.args.self.now past c.args.lun f

pub returns-in-Some-clause-state : goal.returns-in-Some-clause-state
returns-in-Some-clause-state c = search rules

pub returns-in-Some-clause-past : goal.returns-in-Some-clause-past
returns-in-Some-clause-past c = λ g n past f. returns-in-Some-clause-state c ∙ looked_is_look g n c.args.self.now past c.args.lun f
