use Rattle.std.proofs.Common.{◌≡◌, ◌∙◌, List, Option, ap, sym, subst, refl, length, get_or, set, Some, None, false}
use Rattle.onfi_cycle.specs.declared.lun.Lun.{Lun}
use Rattle.std.specs.List.{refill}
use Rattle.seq_core.specs.Progress.{Progress}
use Rattle.seq_core.specs.Shows.{CoreView}
use Rattle.seq_core.specs.Event.{Step}
use Rattle.seq_core.specs.Reply.{ToStep}
use Rattle.seq_core.specs.After.{is_held}
use Rattle.seq_core.specs.declared.slot_state.SlotState.TheVariants as state
use Rattle.seq_core.specs.Calls.{IsCore, IsEvent, slot_at, slot_state}
use Rattle.seq_core.proofs.Below.{refilled}
use Rattle.seq_core.proofs.Cores.{view_of, place_of, can_now, went_now, went_on, bus_after, untouched, never_there}
use Rattle.seq_core.proofs.sequencer.Core.step_on.Goals as goal

pub unreachable-requires : goal.unreachable-requires
unreachable-requires g c = never_there c.args.self.now c.args.lun c.in-None.ensures.value c.requires.running

pub step_in-requires-clause-can : goal.step_in-requires-clause-can
step_in-requires-clause-can g c =
    let can = can_now (view_of c.self.inside.bus c.self.inside.slots.items c.self.inside.holder) c.args.lun c.in-Some.place c.self.invariant
    (subst (λ (x : CoreView). Some c.in-Some.place ≡ place_of x c.args.lun) (sym c.self.view_is) c.in-Some.ensures.value)
    (subst (λ (x : CoreView). state.Running ≡ slot_state (slot_at x c.args.lun)) (sym c.self.view_is) c.requires.running)
    (subst (λ (x : CoreView). is_held x.holder c.args.lun ≡ false) (sym c.self.view_is) c.requires.free) in
    (can.0, ap (λ (ss : List (Option Progress)). get_or ss c.in-Some.place None) c.as_mut_slice.ensures.value ∙ can.1, can.2)

pub returns-in-Err-clause-err : goal.returns-in-Err-clause-err
returns-in-Err-clause-err g c = (
  untouched c.self.inside.bus c.step_in.new.bus c.self.inside.slots.items _ c.self.inside.holder c.in-Err.ensures.err.0
      (refilled (length c.self.inside.slots.items) c.self.inside.slots.items c.step_in.new.slots (c.step_in.auto.slots ∙ ap length c.as_mut_slice.ensures.value) refl ∙ (c.in-Err.ensures.err.1 ∙ c.as_mut_slice.ensures.value)) ∙ c.self.view_is,
  record { running = c.requires.running; free = c.requires.free },
)

pub invariant_of-self : goal.invariant_of-self
invariant_of-self g c =
    subst IsCore (sym (untouched c.self.inside.bus c.step_in.new.bus c.self.inside.slots.items _ c.self.inside.holder c.in-Err.ensures.err.0
    (refilled (length c.self.inside.slots.items) c.self.inside.slots.items c.step_in.new.slots (c.step_in.auto.slots ∙ ap length c.as_mut_slice.ensures.value) refl ∙ (c.in-Err.ensures.err.1 ∙ c.as_mut_slice.ensures.value)))) c.self.invariant

pub returns-in-Ok-clause-came : goal.returns-in-Ok-clause-came
returns-in-Ok-clause-came g c =
    let event = went_now c.self.inside.bus c.step_in.new.bus c.self.inside.slots.items _ c.self.inside.holder c.args.lun c.in-Some.place c.in-Ok.answer c.in-Ok.ensures.ok.0 c.in-Ok.ensures.ok.1 c.self.invariant
    (subst (λ (x : CoreView). Some c.in-Some.place ≡ place_of x c.args.lun) (sym c.self.view_is) c.in-Some.ensures.value)
    (subst (λ (x : CoreView). state.Running ≡ slot_state (slot_at x c.args.lun)) (sym c.self.view_is) c.requires.running)
    (subst (λ (x : CoreView). is_held x.holder c.args.lun ≡ false) (sym c.self.view_is) c.requires.free) c.step_in.ensures.same
    (ap (λ (ss : List (Option Progress)). get_or ss c.in-Some.place None) (sym c.as_mut_slice.ensures.value) ∙ c.in-Ok.ensures.ok.2) c.in-Ok.ensures.ok.3
    (refilled (length c.self.inside.slots.items) c.self.inside.slots.items c.step_in.new.slots (c.step_in.auto.slots ∙ ap length c.as_mut_slice.ensures.value) refl ∙ (c.in-Ok.ensures.ok.4 ∙ ap (λ (ss : List (Option Progress)). set ss c.in-Some.place (Some c.in-Ok.ensures.ok.1)) c.as_mut_slice.ensures.value)) in
    subst (λ (x : CoreView). IsEvent x (Step c.args.lun) (ToStep c.in-Ok.answer) (view_of c.step_in.new.bus (refill (length c.self.inside.slots.items) c.self.inside.slots.items c.step_in.new.slots) c.holder_after-self-inside.result)) c.self.view_is
    (subst (λ (h : Option Lun). IsEvent (view_of c.self.inside.bus c.self.inside.slots.items c.self.inside.holder) (Step c.args.lun) (ToStep c.in-Ok.answer) (view_of c.step_in.new.bus (refill (length c.self.inside.slots.items) c.self.inside.slots.items c.step_in.new.slots) h)) (sym c.holder_after-self-inside.ensures) event)

pub invariant_of-self-in-Ok : goal.invariant_of-self-in-Ok
invariant_of-self-in-Ok g c =
    let event = went_now c.self.inside.bus c.step_in.new.bus c.self.inside.slots.items _ c.self.inside.holder c.args.lun c.in-Some.place c.in-Ok.answer c.in-Ok.ensures.ok.0 c.in-Ok.ensures.ok.1 c.self.invariant
    (subst (λ (x : CoreView). Some c.in-Some.place ≡ place_of x c.args.lun) (sym c.self.view_is) c.in-Some.ensures.value)
    (subst (λ (x : CoreView). state.Running ≡ slot_state (slot_at x c.args.lun)) (sym c.self.view_is) c.requires.running)
    (subst (λ (x : CoreView). is_held x.holder c.args.lun ≡ false) (sym c.self.view_is) c.requires.free) c.step_in.ensures.same
    (ap (λ (ss : List (Option Progress)). get_or ss c.in-Some.place None) (sym c.as_mut_slice.ensures.value) ∙ c.in-Ok.ensures.ok.2) c.in-Ok.ensures.ok.3
    (refilled (length c.self.inside.slots.items) c.self.inside.slots.items c.step_in.new.slots (c.step_in.auto.slots ∙ ap length c.as_mut_slice.ensures.value) refl ∙ (c.in-Ok.ensures.ok.4 ∙ ap (λ (ss : List (Option Progress)). set ss c.in-Some.place (Some c.in-Ok.ensures.ok.1)) c.as_mut_slice.ensures.value)) in
    subst (λ (h : Option Lun). IsCore (view_of c.step_in.new.bus (refill (length c.self.inside.slots.items) c.self.inside.slots.items c.step_in.new.slots) h)) (sym c.holder_after-self-inside.ensures) (went_on _ c.args.lun c.in-Ok.answer _ c.self.invariant event)

pub returns-in-Ok-clause-bus : goal.returns-in-Ok-clause-bus
returns-in-Ok-clause-bus g c = bus_after c.in-Ok.answer c.args.lun c.holder_after-self-inside.result c.holder_after-self-inside.ensures
