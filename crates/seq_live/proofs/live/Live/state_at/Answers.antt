use Rattle.std.proofs.Common.{ap, subst, ◌∙◌, []}
use Rattle.seq_live.specs.Kept.{LiveView, IsLive, core_at}
use Rattle.seq_core.proofs.Cores.{code_without, state_of_place}
use Rattle.seq_live.proofs.live.Live.state_at.Goals as goal

pub returns-in-None-clause-value : goal.returns-in-None-clause-value
returns-in-None-clause-value g c = code_without (core_at c.args.self.now []) c.args.lun c.in-None.ensures.value

pub returns-in-Some-clause-value : goal.returns-in-Some-clause-value
returns-in-Some-clause-value g c =
    state_of_place (core_at c.args.self.now []) c.args.lun c.in-Some.place c.as_slice.result.now c.state_in.result c.in-Some.ensures.value (c.as_slice.ensures.value ∙ ap (λ (v : LiveView). v.slots) c.self.view_is) c.state_in.ensures

pub returns-in-None-clause-live : goal.returns-in-None-clause-live
returns-in-None-clause-live g c = subst IsLive c.self.view_is c.self.invariant

pub returns-in-Some-clause-live : goal.returns-in-Some-clause-live
returns-in-Some-clause-live g c = subst IsLive c.self.view_is c.self.invariant
