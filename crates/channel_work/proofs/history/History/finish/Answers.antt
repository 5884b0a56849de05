use Rattle.std.proofs.Common.{List, ◌≡◌, ◌∙◌, ◌∷◌, ◌++◌, [], Some, sym, ap, subst, reverse, map}
use Rattle.std.proofs.lemmas.List.{map-append}
use Rattle.channel_work.specs.declared.stored.NamedJob.{NamedJob}
use Rattle.channel_work.specs.declared.stored.Stored.{Stored}
use Rattle.channel_work.specs.declared.stored.Stored.TheVariants.{Unload as WasUnloaded}
use Rattle.channel_work.specs.Stored.{last_started}
use Rattle.channel_work.specs.Channel.{HistoryView}
use Rattle.channel_work.specs.Done.{ended_of}
use Rattle.channel_work.specs.Finished.{HasFinished, HasNotEnded, IsFinish}
use Rattle.channel_work.proofs.Jobs.{unload_keeps}
use Rattle.channel_work.proofs.Naming.{named_if_unloaded}
use Rattle.channel_work.proofs.Finishing.{has_finished, has_not_ended, refused_finish}
use Rattle.seq_core.specs.Event.{Unload}
use Rattle.seq_core.specs.Reply.{ToUnload, Unloaded}
use Rattle.channel_work.proofs.Staying.{event_stays}
use Rattle.channel_work.proofs.history.History.finish.Goals as goal

pub invariant_of-self-in-Some : goal.invariant_of-self-in-Some
invariant_of-self-in-Some g c =
    let v : HistoryView = record { core = c.self.inside.core; taker = c.self.inside.taker; events = c.self.inside.events.items; taken = c.self.inside.taken.items; started = c.self.inside.started.items; backlog = c.self.inside.backlog.items; done = map ended_of c.self.inside.done.items; counts = c.self.inside.counts; turns = c.self.inside.turns } in
    let h = c.self.invariant.0 in
    let d : NamedJob _ = record { name = c.in-Some.name; done = c.in-Ok.done } in
    let named : last_started c.args.lun (reverse v.events) ≡ Some c.in-Some.name = sym (sym c.in-Some.is ∙ (c.find_last_started-name.ensures ∙ ap (λ (xs : List Stored). last_started c.args.lun (reverse xs)) c.make_room_to_finish.ensures.same.0)) in (
      unload_keeps v c.unload.new.self c.push_reserved.new.self.items c.args.lun c.in-Some.name c.in-Ok.done.job c.in-Ok.done.code (map ended_of c.push_reserved-in-Some.new.self.items)
          h c.in-Ok.ensures.ok named
          (c.push_reserved.ensures.items ∙ ap (λ (xs : List Stored). xs ++ (WasUnloaded c.args.lun ∷ [])) c.make_room_to_finish.ensures.same.0)
          (ap (map ended_of) (c.push_reserved-in-Some.ensures.items ∙ ap (λ xs. xs ++ (d ∷ [])) c.make_room_to_finish.ensures.same.1) ∙ map-append ended_of c.self.inside.done.items (d ∷ [])),
      c.self.invariant.1,
      event_stays _ v c.unload.new.self (Unload c.args.lun) (ToUnload (Unloaded c.in-Ok.done.job c.in-Ok.done.code)) h c.in-Ok.ensures.ok c.self.invariant.2,
    )

pub returns-in-Err : goal.returns-in-Err
returns-in-Err g c =
    let v : HistoryView = record { core = c.self.inside.core; taker = c.self.inside.taker; events = c.self.inside.events.items; taken = c.self.inside.taken.items; started = c.self.inside.started.items; backlog = c.self.inside.backlog.items; done = map ended_of c.self.inside.done.items; counts = c.self.inside.counts; turns = c.self.inside.turns } in
    let h = c.self.invariant.0 in
    let u : HistoryView = record v { core = c.unload.new.self; events = c.make_room_to_finish.new.events.items; done = map ended_of c.make_room_to_finish.new.done.items } in
    subst (λ (x : HistoryView). HasNotEnded x c.args.lun u) c.self.view_is
    (has_not_ended v c.args.lun c.unload.new.self c.make_room_to_finish.new.events.items (map ended_of c.make_room_to_finish.new.done.items) c.in-Err.field-0 c.in-Err.ensures.err.0 c.in-Err.ensures.err.1 c.make_room_to_finish.ensures.same.0 (ap (map ended_of) c.make_room_to_finish.ensures.same.1))

pub returns-in-Some : goal.returns-in-Some
returns-in-Some g c =
    let v : HistoryView = record { core = c.self.inside.core; taker = c.self.inside.taker; events = c.self.inside.events.items; taken = c.self.inside.taken.items; started = c.self.inside.started.items; backlog = c.self.inside.backlog.items; done = map ended_of c.self.inside.done.items; counts = c.self.inside.counts; turns = c.self.inside.turns } in
    let h = c.self.invariant.0 in
    let d : NamedJob _ = record { name = c.in-Some.name; done = c.in-Ok.done } in
    let named : last_started c.args.lun (reverse v.events) ≡ Some c.in-Some.name = sym (sym c.in-Some.is ∙ (c.find_last_started-name.ensures ∙ ap (λ (xs : List Stored). last_started c.args.lun (reverse xs)) c.make_room_to_finish.ensures.same.0)) in
    let u : HistoryView = record v { core = c.unload.new.self; events = c.push_reserved.new.self.items; done = map ended_of c.push_reserved-in-Some.new.self.items } in
    subst (λ (x : HistoryView). HasFinished x c.args.lun u) c.self.view_is
    (has_finished v c.args.lun c.unload.new.self c.push_reserved.new.self.items (map ended_of c.push_reserved-in-Some.new.self.items) c.in-Some.name c.in-Ok.done.job c.in-Ok.done.code named c.in-Ok.ensures.ok
    (c.push_reserved.ensures.items ∙ ap (λ (xs : List Stored). xs ++ (WasUnloaded c.args.lun ∷ [])) c.make_room_to_finish.ensures.same.0)
    (ap (map ended_of) (c.push_reserved-in-Some.ensures.items ∙ ap (λ xs. xs ++ (d ∷ [])) c.make_room_to_finish.ensures.same.1) ∙ map-append ended_of c.self.inside.done.items (d ∷ [])))

pub unreachable-requires : goal.unreachable-requires
unreachable-requires g c =
    let v : HistoryView = record { core = c.self.inside.core; taker = c.self.inside.taker; events = c.self.inside.events.items; taken = c.self.inside.taken.items; started = c.self.inside.started.items; backlog = c.self.inside.backlog.items; done = map ended_of c.self.inside.done.items; counts = c.self.inside.counts; turns = c.self.inside.turns } in
    named_if_unloaded v c.unload.new.self c.args.lun c.in-Ok.done.job c.in-Ok.done.code c.self.invariant.0 c.in-Ok.ensures.ok
    (sym (sym c.in-None.is ∙ (c.find_last_started-name.ensures ∙ ap (λ (xs : List Stored). last_started c.args.lun (reverse xs)) c.make_room_to_finish.ensures.same.0)))

pub returns-then-not-make_room_to_finish : goal.returns-then-not-make_room_to_finish
returns-then-not-make_room_to_finish g c =
    let v : HistoryView = record { core = c.self.inside.core; taker = c.self.inside.taker; events = c.self.inside.events.items; taken = c.self.inside.taken.items; started = c.self.inside.started.items; backlog = c.self.inside.backlog.items; done = map ended_of c.self.inside.done.items; counts = c.self.inside.counts; turns = c.self.inside.turns } in
    subst (λ (w : HistoryView). IsFinish w c.args.lun c.refuse_finish.result (record v { events = c.make_room_to_finish.new.events.items; done = map ended_of c.make_room_to_finish.new.done.items })) c.self.view_is
    (refused_finish v c.args.lun c.make_room_to_finish.new.events.items (map ended_of c.make_room_to_finish.new.done.items) c.refuse_finish.result c.refuse_finish.ensures c.make_room_to_finish.ensures.same.0 (ap (map ended_of) c.make_room_to_finish.ensures.same.1))
