use Rattle.std.proofs.Common.{◌≡◌, ◌∙◌, List, Option, ap, sym, subst, refl, length, set, Some, None}
use Rattle.std.specs.List.{refill}
use Rattle.seq_core.specs.Progress.{Progress}
use Rattle.seq_core.specs.Shows.{CoreView}
use Rattle.seq_core.specs.Event.{Load}
use Rattle.seq_core.specs.Reply.{ToLoad, Loaded}
use Rattle.seq_core.specs.Calls.{IsCore, IsEvent, load_fault_at}
use Rattle.seq_core.proofs.Below.{refilled}
use Rattle.seq_core.proofs.Replies.{is_core_after}
use Rattle.seq_core.proofs.Cores.{view_of, place_of, admitted_there, loaded_now}
use Rattle.seq_core.proofs.sequencer.Core.fill.Goals as goal

pub unreachable-requires : goal.unreachable-requires
unreachable-requires g c = admitted_there c.args.self.now c.args.lun c.args.job c.requires c.in-None.ensures.value

pub returns : goal.returns
returns g c =
    let event = loaded_now c.self.inside.bus c.self.inside.slots.items _ c.self.inside.holder c.args.lun c.in-Some.place c.args.job c.self.invariant c.new.ensures.verified c.new.ensures.shaped c.new.ensures.base
    (subst (λ (x : CoreView). load_fault_at x c.args.lun c.args.job ≡ None) (sym c.self.view_is) c.requires)
    (subst (λ (x : CoreView). Some c.in-Some.place ≡ place_of x c.args.lun) (sym c.self.view_is) c.in-Some.ensures.value)
    (refilled (length c.self.inside.slots.items) c.self.inside.slots.items c.put_in.new.slots (c.put_in.auto.slots ∙ ap length c.as_mut_slice.ensures.value) refl ∙
    (c.put_in.ensures ∙ (ap (λ (ss : List (Option Progress)). set ss c.in-Some.place (Some c.new.result)) c.as_mut_slice.ensures.value ∙ ap (λ (v : Progress). set c.self.inside.slots.items c.in-Some.place (Some v)) c.new.ensures.value))) in
    subst (λ (x : CoreView). IsEvent x (Load c.args.lun c.args.job) (ToLoad Loaded) (view_of c.self.inside.bus (refill (length c.self.inside.slots.items) c.self.inside.slots.items c.put_in.new.slots) c.self.inside.holder)) c.self.view_is event

pub invariant_of-self : goal.invariant_of-self
invariant_of-self g c = is_core_after c.args.self.now _ _ _ (subst IsCore c.self.view_is c.self.invariant) (returns g c)
