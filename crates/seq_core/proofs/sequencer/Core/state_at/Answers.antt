use Rattle.std.proofs.Common.{ap, subst, ◌∙◌}
use Rattle.seq_core.specs.Calls.{IsCore}
use Rattle.seq_core.specs.Shows.{CoreView}
use Rattle.seq_core.proofs.Cores.{code_without, state_of_place}
use Rattle.seq_core.proofs.sequencer.Core.state_at.Goals as goal

pub returns-in-None-clause-value : goal.returns-in-None-clause-value
returns-in-None-clause-value g c = code_without c.args.self.now c.args.lun c.in-None.ensures.value

pub returns-in-Some-clause-value : goal.returns-in-Some-clause-value
returns-in-Some-clause-value g c =
    state_of_place c.args.self.now c.args.lun c.in-Some.place c.as_slice.result.now c.state_in.result c.in-Some.ensures.value (c.as_slice.ensures.value ∙ ap (λ (v : CoreView). v.slots) c.self.view_is) c.state_in.ensures

pub returns-in-None-clause-core : goal.returns-in-None-clause-core
returns-in-None-clause-core g c = subst IsCore c.self.view_is c.self.invariant

pub returns-in-Some-clause-core : goal.returns-in-Some-clause-core
returns-in-Some-clause-core g c = subst IsCore c.self.view_is c.self.invariant
