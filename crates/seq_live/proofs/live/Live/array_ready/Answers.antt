use Rattle.std.proofs.Common.{sym, subst}
use Rattle.seq_core.specs.Reply.{ToArrayReady}
use Rattle.seq_live.specs.Event.{ArrayReady}
use Rattle.seq_live.specs.Kept.{LiveView, IsLive}
use Rattle.seq_live.specs.Calls.{IsLiveEvent, KeepsSlots, IsReadyNow}
use Rattle.seq_live.proofs.Lives.{array_ready_ran, live_after, ready_stays}
use Rattle.seq_live.proofs.Truth.{array_truth}
use Rattle.onfi_cycle.specs.declared.item.Item.TheVariants.{Ard}
use Rattle.seq_live.proofs.live.Live.array_ready.Goals as goal

pub returns-clause-came : goal.returns-clause-came
returns-clause-came g c =
    let before : LiveView = record { state = c.self.inside.state; slots = c.self.inside.slots.items; holder = c.self.inside.holder; going = c.self.inside.going } in
    subst (λ (x : LiveView). IsLiveEvent x (ArrayReady c.args.lun c.args.fail) (ToArrayReady c.go_on_if.result) (record before { state = c.go_on_if.new.state })) c.self.view_is
    (array_ready_ran before c.go_on_if.new.state c.args.lun c.args.fail c.go_on_if.result c.self.invariant c.go_on_if.ensures.past)

pub returns-clause-truth : goal.returns-clause-truth
returns-clause-truth g c = λ ready.
    let before : LiveView = record { state = c.self.inside.state; slots = c.self.inside.slots.items; holder = c.self.inside.holder; going = c.self.inside.going } in
    array_truth before c.go_on_if.new.state c.args.lun c.args.fail c.go_on_if.result c.self.invariant c.go_on_if.ensures.past (subst (λ (x : LiveView). IsReadyNow x.state c.args.lun) (sym c.self.view_is) ready)

pub returns-clause-stays : goal.returns-clause-stays
returns-clause-stays g c =
    let before : LiveView = record { state = c.self.inside.state; slots = c.self.inside.slots.items; holder = c.self.inside.holder; going = c.self.inside.going } in
    subst (λ (x : LiveView). KeepsSlots x (record before { state = c.go_on_if.new.state })) c.self.view_is
    (ready_stays before c.go_on_if.new.state (Ard c.args.lun.ce c.args.lun.lun c.args.fail) c.go_on_if.result c.self.invariant c.go_on_if.ensures.past)

pub invariant_of-self : goal.invariant_of-self
invariant_of-self g c = live_after c.args.self.now _ _ _ (subst IsLive c.self.view_is c.self.invariant) (returns-clause-came g c)
