use Rattle.std.proofs.Common.{◌≡◌, ◌∙◌, List, Option, ap, sym, subst, refl, length, get_or, set, Some, None}
use Rattle.std.specs.List.{refill}
use Rattle.seq_core.specs.Progress.{Progress}
use Rattle.seq_core.specs.Shows.{CoreView}
use Rattle.seq_core.specs.Event.{Unload}
use Rattle.seq_core.specs.Reply.{ToUnload, Unloaded}
use Rattle.seq_core.specs.declared.slot_state.SlotState.TheVariants as state
use Rattle.seq_core.specs.Calls.{IsCore, IsEvent, slot_at, slot_state}
use Rattle.seq_core.proofs.Below.{refilled}
use Rattle.seq_core.proofs.Replies.{is_core_after}
use Rattle.seq_core.proofs.Cores.{view_of, place_of, never_empty, unloaded_now, never_coded}
use Rattle.seq_core.proofs.sequencer.Core.empty.Goals as goal

pub unreachable-requires : goal.unreachable-requires
unreachable-requires g c = never_coded c.args.self.now c.args.lun c.args.code c.in-None.ensures.value c.requires

pub unreachable-requires-in-None-take_in : goal.unreachable-requires-in-None-take_in
unreachable-requires-in-None-take_in g c =
    never_empty c.args.self.now c.args.lun c.in-Some.place c.args.code c.in-Some.ensures.value c.requires
    (ap (λ (ss : List (Option Progress)). get_or ss c.in-Some.place None) (sym (c.as_mut_slice.ensures.value ∙ ap (λ (v : CoreView). v.slots) c.self.view_is)) ∙ (sym c.take_in.ensures.value ∙ c.in-None-take_in.is))

pub returns : goal.returns
returns g c =
    let event = unloaded_now c.self.inside.bus c.self.inside.slots.items _ c.self.inside.holder c.args.lun c.in-Some.place c.args.code c.in-Some-take_in.slot c.self.invariant
    (subst (λ (x : CoreView). Some c.in-Some.place ≡ place_of x c.args.lun) (sym c.self.view_is) c.in-Some.ensures.value)
    (subst (λ (x : CoreView). state.Ended c.args.code ≡ slot_state (slot_at x c.args.lun)) (sym c.self.view_is) c.requires)
    (ap (λ (ss : List (Option Progress)). get_or ss c.in-Some.place None) (sym c.as_mut_slice.ensures.value) ∙ (sym c.take_in.ensures.value ∙ c.in-Some-take_in.is))
    (refilled (length c.self.inside.slots.items) c.self.inside.slots.items c.take_in.new.slots (c.take_in.auto.slots ∙ ap length c.as_mut_slice.ensures.value) refl ∙
    (c.take_in.ensures.slots ∙ ap (λ (ss : List (Option Progress)). set ss c.in-Some.place None) c.as_mut_slice.ensures.value)) in
    subst (λ (x : CoreView). IsEvent x (Unload c.args.lun) (ToUnload (Unloaded c.into_job.result c.args.code)) (view_of c.self.inside.bus (refill (length c.self.inside.slots.items) c.self.inside.slots.items c.take_in.new.slots) c.self.inside.holder)) c.self.view_is
    (subst (λ j. IsEvent (view_of c.self.inside.bus c.self.inside.slots.items c.self.inside.holder) (Unload c.args.lun) (ToUnload (Unloaded j c.args.code)) (view_of c.self.inside.bus (refill (length c.self.inside.slots.items) c.self.inside.slots.items c.take_in.new.slots) c.self.inside.holder)) (sym c.into_job.ensures) event)

pub invariant_of-self : goal.invariant_of-self
invariant_of-self g c = is_core_after c.args.self.now _ _ _ (subst IsCore c.self.view_is c.self.invariant) (returns g c)
