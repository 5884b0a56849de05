use Rattle.std.proofs.Common.{◌≡◌, ◌∙◌, [], List, Option, ap, sym, subst, refl, length, set, Some, None}
use Rattle.std.specs.List.{refill}
use Rattle.seq_core.specs.Progress.{Progress}
use Rattle.seq_core.specs.Reply.{ToLoad, Loaded}
use Rattle.seq_core.proofs.Below.{refilled}
use Rattle.seq_core.proofs.Cores.{place_of, admitted_there}
use Rattle.seq_live.specs.Event.{Load}
use Rattle.seq_live.specs.Kept.{LiveView, IsLive, core_at}
use Rattle.seq_live.specs.Calls.{IsLiveEvent, live_load_fault}
use Rattle.seq_live.proofs.Lives.{loaded, live_after}
use Rattle.seq_live.proofs.live.Live.fill.Goals as goal

pub unreachable-requires : goal.unreachable-requires
unreachable-requires g c = admitted_there (core_at c.args.self.now []) c.args.lun c.args.job c.requires c.in-None.ensures.value

pub returns : goal.returns
returns g c =
    let before : LiveView = record { state = c.self.inside.state; slots = c.self.inside.slots.items; holder = c.self.inside.holder; going = c.self.inside.going } in
    let event = loaded before _ c.args.lun c.in-Some.place c.args.job c.self.invariant c.new.ensures.verified c.new.ensures.shaped c.new.ensures.base
    (subst (λ (x : LiveView). live_load_fault x c.args.lun c.args.job ≡ None) (sym c.self.view_is) c.requires)
    (subst (λ (x : LiveView). Some c.in-Some.place ≡ place_of (core_at x []) c.args.lun) (sym c.self.view_is) c.in-Some.ensures.value)
    (refilled (length c.self.inside.slots.items) c.self.inside.slots.items c.put_in.new.slots (c.put_in.auto.slots ∙ ap length c.as_mut_slice.ensures.value) refl ∙
    (c.put_in.ensures ∙ (ap (λ (ss : List (Option Progress)). set ss c.in-Some.place (Some c.new.result)) c.as_mut_slice.ensures.value ∙ ap (λ (v : Progress). set c.self.inside.slots.items c.in-Some.place (Some v)) c.new.ensures.value))) in
    subst (λ (x : LiveView). IsLiveEvent x (Load c.args.lun c.args.job) (ToLoad Loaded) (record before { slots = refill (length c.self.inside.slots.items) c.self.inside.slots.items c.put_in.new.slots })) c.self.view_is event

pub invariant_of-self : goal.invariant_of-self
invariant_of-self g c = live_after c.args.self.now _ _ _ (subst IsLive c.self.view_is c.self.invariant) (returns g c)
