use Rattle.std.proofs.Common.{◌≡◌, ◌∙◌, [], List, Option, ap, sym, subst, refl, length, get_or, set, Some, None}
use Rattle.std.specs.List.{refill}
use Rattle.micro_program.specs.Program.{Job}
use Rattle.seq_core.specs.Progress.{Progress}
use Rattle.seq_core.specs.Reply.{ToUnload, Unloaded}
use Rattle.seq_core.specs.declared.slot_state.SlotState.TheVariants as state
use Rattle.seq_core.specs.Calls.{slot_state}
use Rattle.seq_core.proofs.Below.{refilled}
use Rattle.seq_core.proofs.Cores.{place_of, never_empty, never_coded}
use Rattle.seq_live.specs.Event.{Unload}
use Rattle.seq_live.specs.Kept.{LiveView, IsLive, core_at}
use Rattle.seq_live.specs.Calls.{IsLiveEvent, live_slot}
use Rattle.seq_live.proofs.Lives.{unloaded, live_after}
use Rattle.seq_live.proofs.live.Live.empty.Goals as goal

pub unreachable-requires : goal.unreachable-requires
unreachable-requires g c = never_coded (core_at c.args.self.now []) c.args.lun c.args.code c.in-None.ensures.value c.requires

pub unreachable-requires-in-None-take_in : goal.unreachable-requires-in-None-take_in
unreachable-requires-in-None-take_in g c =
    never_empty (core_at c.args.self.now []) c.args.lun c.in-Some.place c.args.code c.in-Some.ensures.value c.requires
    (ap (λ (ss : List (Option Progress)). get_or ss c.in-Some.place None) (sym (c.as_mut_slice.ensures.value ∙ ap (λ (v : LiveView). v.slots) c.self.view_is)) ∙ (sym c.take_in.ensures.value ∙ c.in-None-take_in.is))

pub returns : goal.returns
returns g c =
    let before : LiveView = record { state = c.self.inside.state; slots = c.self.inside.slots.items; holder = c.self.inside.holder; going = c.self.inside.going } in
    let later : LiveView = record before { slots = refill (length c.self.inside.slots.items) c.self.inside.slots.items c.take_in.new.slots } in
    let event = unloaded before _ c.args.lun c.in-Some.place c.args.code c.in-Some-take_in.slot c.self.invariant
    (subst (λ (x : LiveView). Some c.in-Some.place ≡ place_of (core_at x []) c.args.lun) (sym c.self.view_is) c.in-Some.ensures.value)
    (subst (λ (x : LiveView). state.Ended c.args.code ≡ slot_state (live_slot x c.args.lun)) (sym c.self.view_is) c.requires)
    (ap (λ (ss : List (Option Progress)). get_or ss c.in-Some.place None) (sym c.as_mut_slice.ensures.value) ∙ (sym c.take_in.ensures.value ∙ c.in-Some-take_in.is))
    (refilled (length c.self.inside.slots.items) c.self.inside.slots.items c.take_in.new.slots (c.take_in.auto.slots ∙ ap length c.as_mut_slice.ensures.value) refl ∙
    (c.take_in.ensures.slots ∙ ap (λ (ss : List (Option Progress)). set ss c.in-Some.place None) c.as_mut_slice.ensures.value)) in
    subst (λ (x : LiveView). IsLiveEvent x (Unload c.args.lun) (ToUnload (Unloaded c.into_job.result c.args.code)) later) c.self.view_is
    (subst (λ (j : Job). IsLiveEvent before (Unload c.args.lun) (ToUnload (Unloaded j c.args.code)) later) (sym c.into_job.ensures) event)

pub invariant_of-self : goal.invariant_of-self
invariant_of-self g c = live_after c.args.self.now _ _ _ (subst IsLive c.self.view_is c.self.invariant) (returns g c)
