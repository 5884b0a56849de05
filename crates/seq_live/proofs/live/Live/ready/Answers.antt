use Rattle.std.proofs.Common.{subst}
use Rattle.seq_core.specs.Reply.{ToReady}
use Rattle.seq_live.specs.Event.{Ready}
use Rattle.seq_live.specs.Kept.{LiveView, IsLive}
use Rattle.seq_live.specs.Calls.{IsLiveEvent, KeepsSlots}
use Rattle.seq_live.proofs.Lives.{ready_ran, live_after, ready_stays}
use Rattle.seq_live.proofs.Truth.{ready_truth}
use Rattle.onfi_cycle.specs.declared.item.Item.TheVariants.{Rdy}
use Rattle.seq_live.proofs.live.Live.ready.Goals as goal

pub returns-clause-came : goal.returns-clause-came
returns-clause-came g c =
    let before : LiveView = record { state = c.self.inside.state; slots = c.self.inside.slots.items; holder = c.self.inside.holder; going = c.self.inside.going } in
    subst (λ (x : LiveView). IsLiveEvent x (Ready c.args.lun c.args.fail) (ToReady c.go_on_if.result) (record before { state = c.go_on_if.new.state })) c.self.view_is
    (ready_ran before c.go_on_if.new.state c.args.lun c.args.fail c.go_on_if.result c.self.invariant c.go_on_if.ensures.past)

pub returns-clause-truth : goal.returns-clause-truth
returns-clause-truth g c =
    let before : LiveView = record { state = c.self.inside.state; slots = c.self.inside.slots.items; holder = c.self.inside.holder; going = c.self.inside.going } in
    ready_truth before c.go_on_if.new.state c.args.lun c.args.fail c.go_on_if.result c.self.invariant c.go_on_if.ensures.past

pub returns-clause-stays : goal.returns-clause-stays
returns-clause-stays g c =
    let before : LiveView = record { state = c.self.inside.state; slots = c.self.inside.slots.items; holder = c.self.inside.holder; going = c.self.inside.going } in
    subst (λ (x : LiveView). KeepsSlots x (record before { state = c.go_on_if.new.state })) c.self.view_is
    (ready_stays before c.go_on_if.new.state (Rdy c.args.lun.ce c.args.lun.lun c.args.fail) c.go_on_if.result c.self.invariant c.go_on_if.ensures.past)

pub invariant_of-self : goal.invariant_of-self
invariant_of-self g c = live_after c.args.self.now _ _ _ (subst IsLive c.self.view_is c.self.invariant) (returns-clause-came g c)
