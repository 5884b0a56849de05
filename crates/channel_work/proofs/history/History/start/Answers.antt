use Rattle.std.proofs.Common.{List, ◌∙◌, ◌∷◌, ◌++◌, [], ap, subst, map}
use Rattle.channel_work.specs.declared.stored.Stored.{Stored}
use Rattle.channel_work.specs.declared.stored.Stored.TheVariants.{Load as WasLoaded}
use Rattle.channel_work.specs.declared.stored.Name.{Name}
use Rattle.channel_work.specs.Stored.{name_of}
use Rattle.channel_work.specs.Channel.{HistoryView}
use Rattle.channel_work.specs.Done.{ended_of}
use Rattle.channel_work.specs.Starting.{HasStarted}
use Rattle.channel_work.proofs.Jobs.{load_keeps}
use Rattle.channel_work.proofs.Begun.{taken_view, middle, has_started}
use Rattle.seq_core.specs.Event.{Load}
use Rattle.seq_core.specs.Reply.{ToLoad, Loaded}
use Rattle.channel_work.proofs.Staying.{event_stays, taking_stays}
use Rattle.channel_work.proofs.history.History.start.Goals as goal

pub invariant_of-self-in-None : goal.invariant_of-self-in-None
invariant_of-self-in-None g c =
    let v : HistoryView = record { core = c.self.inside.core; taker = c.self.inside.taker; events = c.self.inside.events.items; taken = c.self.inside.taken.items; started = c.self.inside.started.items; backlog = c.self.inside.backlog.items; done = map ended_of c.self.inside.done.items; counts = c.self.inside.counts; turns = c.self.inside.turns } in
    let t = c.take_one-took in
    let same = c.make_room.ensures.same in
    let mid = middle v t.result t.new.taker c.make_room.new.taken.items t.new.taken.items c.make_room.new.backlog.items t.new.backlog.items c.self.invariant.0 same.2 same.3 t.ensures.yes t.ensures.no in
    (rw (same.0, same.1) mid.0, c.self.invariant.1, taking_stays _ v (taken_view v t.new.taker t.new.taken.items t.new.backlog.items) t.result mid.1 c.self.invariant.2)

pub push-requires : goal.push-requires
push-requires g c = c.in-Some.ensures.room

pub invariant_of-self-in-PicksNone : goal.invariant_of-self-in-PicksNone
invariant_of-self-in-PicksNone g c =
    let v : HistoryView = record { core = c.self.inside.core; taker = c.self.inside.taker; events = c.self.inside.events.items; taken = c.self.inside.taken.items; started = c.self.inside.started.items; backlog = c.self.inside.backlog.items; done = map ended_of c.self.inside.done.items; counts = c.self.inside.counts; turns = c.self.inside.turns } in
    let t = c.take_one-took in
    let same = c.make_room.ensures.same in
    let mid = middle v t.result t.new.taker c.make_room.new.taken.items t.new.taken.items c.make_room.new.backlog.items t.new.backlog.items c.self.invariant.0 same.2 same.3 t.ensures.yes t.ensures.no in
    (rw (same.0, same.1, c.in-PicksNone.ensures.1) mid.0, c.self.invariant.1, taking_stays _ v (taken_view v t.new.taker t.new.taken.items t.new.backlog.items) t.result mid.1 c.self.invariant.2)

pub invariant_of-self-in-Picks : goal.invariant_of-self-in-Picks
invariant_of-self-in-Picks g c =
    let v : HistoryView = record { core = c.self.inside.core; taker = c.self.inside.taker; events = c.self.inside.events.items; taken = c.self.inside.taken.items; started = c.self.inside.started.items; backlog = c.self.inside.backlog.items; done = map ended_of c.self.inside.done.items; counts = c.self.inside.counts; turns = c.self.inside.turns } in
    let t = c.take_one-took in
    let same = c.make_room.ensures.same in
    let mid = middle v t.result t.new.taker c.make_room.new.taken.items t.new.taken.items c.make_room.new.backlog.items t.new.backlog.items c.self.invariant.0 same.2 same.3 t.ensures.yes t.ensures.no in
    let x = c.in-Picks.queued in
    let one = c.load_one.ensures in (
      load_keeps (taken_view v t.new.taker t.new.taken.items t.new.backlog.items) c.load_one.new.core c.load_one.new.events.items c.load_one.new.started.items x c.pick.new.self.items mid.0 c.in-Picks.ensures.2 one.verified one.event
          (one.stored ∙ ap (λ (es : List Stored). es ++ (WasLoaded x.job.lun (name_of x) ∷ [])) same.0) (one.names ∙ ap (λ (ns : List Name). ns ++ (name_of x ∷ [])) same.1),
      c.self.invariant.1,
      event_stays _ (taken_view v t.new.taker t.new.taken.items t.new.backlog.items) c.load_one.new.core (Load x.job.lun x.job) (ToLoad Loaded) mid.0 one.event
          (taking_stays _ v (taken_view v t.new.taker t.new.taken.items t.new.backlog.items) t.result mid.1 c.self.invariant.2),
    )

pub returns-in-Picks : goal.returns-in-Picks
returns-in-Picks g c =
    let v : HistoryView = record { core = c.self.inside.core; taker = c.self.inside.taker; events = c.self.inside.events.items; taken = c.self.inside.taken.items; started = c.self.inside.started.items; backlog = c.self.inside.backlog.items; done = map ended_of c.self.inside.done.items; counts = c.self.inside.counts; turns = c.self.inside.turns } in
    let t = c.take_one-took in
    let same = c.make_room.ensures.same in
    let mid = middle v t.result t.new.taker c.make_room.new.taken.items t.new.taken.items c.make_room.new.backlog.items t.new.backlog.items c.self.invariant.0 same.2 same.3 t.ensures.yes t.ensures.no in
    let u : HistoryView = record (taken_view v t.new.taker t.new.taken.items t.new.backlog.items) { core = c.load_one.new.core; events = c.load_one.new.events.items; started = c.load_one.new.started.items; backlog = c.pick.new.self.items } in
    subst (λ (x : HistoryView). HasStarted x c.args.seats.now c.in-Picks.lease u c.pop.new.self) c.self.view_is
    (has_started v c.args.seats.now c.pop.new.self c.in-Some.seat t.result t.new.taker t.new.taken.items t.new.backlog.items c.pick.new.self.items c.load_one.new.core c.make_room.new.events.items c.load_one.new.events.items c.make_room.new.started.items c.load_one.new.started.items c.in-Picks.queued c.in-Picks.lease
    mid.1 c.in-Some.ensures.some c.in-Picks.ensures same.0 same.1 c.load_one.ensures)
