use Rattle.std.proofs.Common.{List, Some, ◌∷◌, ◌++◌, [], ◌∙◌, true, refl, ap, subst, map}
use Rattle.seq_core.specs.Event.{ArrayReady}
use Rattle.seq_core.specs.Reply.{ToArrayReady}
use Rattle.seq_core.specs.Calls.{IsEvent}
use Rattle.channel_work.specs.declared.stored.Stored.{Stored}
use Rattle.channel_work.specs.declared.stored.Stored.TheVariants.{ArrayReady as ArrayBecameReady}
use Rattle.channel_work.specs.Channel.{HistoryView}
use Rattle.channel_work.specs.Coming.{IsComing}
use Rattle.channel_work.specs.Done.{ended_of}
use Rattle.channel_work.proofs.Keeping.{plain_keeps}
use Rattle.channel_work.proofs.Readying.{none_came, refused}
use Rattle.channel_work.proofs.Staying.{event_stays}
use Rattle.channel_work.proofs.history.History.array_ready.Goals as goal

pub invariant_of-self-then-came : goal.invariant_of-self-then-came
invariant_of-self-then-came g c =
    let v : HistoryView = record { core = c.self.inside.core; taker = c.self.inside.taker; events = c.self.inside.events.items; taken = c.self.inside.taken.items; started = c.self.inside.started.items; backlog = c.self.inside.backlog.items; done = map ended_of c.self.inside.done.items; counts = c.self.inside.counts; turns = c.self.inside.turns } in
    let h = c.self.invariant.0 in
    let event = subst (λ b. IsEvent v.core (ArrayReady c.args.lun c.args.fail) (ToArrayReady b) c.array_ready-came.new.self) c.if-came.true c.array_ready-came.ensures.came in (
      plain_keeps v c.array_ready-came.new.self c.push_reserved.new.self.items c.count_luns-self-inside.result v.turns (ArrayBecameReady c.args.lun c.args.fail) (ArrayReady c.args.lun c.args.fail) (ToArrayReady true)
          h (record { stored = refl; answered = refl; verified = tt; no_load = refl; no_unload = refl; names = λ past. refl }) event
          (c.push_reserved.ensures.items ∙ ap (λ (xs : List Stored). xs ++ (ArrayBecameReady c.args.lun c.args.fail ∷ [])) c.reserve.ensures.items)
          c.count_luns-self-inside.ensures.counts c.count_luns-self-inside.ensures.size h.turns h.turn_count,
      c.self.invariant.1,
      event_stays _ v c.array_ready-came.new.self (ArrayReady c.args.lun c.args.fail) (ToArrayReady true) h event c.self.invariant.2,
    )

pub returns-else-came : goal.returns-else-came
returns-else-came g c =
    let v : HistoryView = record { core = c.self.inside.core; taker = c.self.inside.taker; events = c.self.inside.events.items; taken = c.self.inside.taken.items; started = c.self.inside.started.items; backlog = c.self.inside.backlog.items; done = map ended_of c.self.inside.done.items; counts = c.self.inside.counts; turns = c.self.inside.turns } in
    subst (λ (w : HistoryView). IsComing w (ArrayReady c.args.lun c.args.fail) ToArrayReady (ArrayBecameReady c.args.lun c.args.fail) (Some c.array_ready-came.result) (record v { core = c.array_ready-came.new.self; events = c.reserve.new.self.items })) c.self.view_is
    (none_came v c.array_ready-came.new.self c.reserve.new.self.items (ArrayReady c.args.lun c.args.fail) ToArrayReady (ArrayBecameReady c.args.lun c.args.fail) c.array_ready-came.result c.if-came.false c.array_ready-came.ensures.no c.array_ready-came.ensures.came c.reserve.ensures.items)

pub returns-in-Err : goal.returns-in-Err
returns-in-Err g c =
    let v : HistoryView = record { core = c.self.inside.core; taker = c.self.inside.taker; events = c.self.inside.events.items; taken = c.self.inside.taken.items; started = c.self.inside.started.items; backlog = c.self.inside.backlog.items; done = map ended_of c.self.inside.done.items; counts = c.self.inside.counts; turns = c.self.inside.turns } in
    subst (λ (w : HistoryView). IsComing w (ArrayReady c.args.lun c.args.fail) ToArrayReady (ArrayBecameReady c.args.lun c.args.fail) c.refuse_array_ready.result (record v { events = c.reserve.new.self.items })) c.self.view_is
    (refused v c.reserve.new.self.items (ArrayReady c.args.lun c.args.fail) ToArrayReady (ArrayBecameReady c.args.lun c.args.fail) c.refuse_array_ready.result c.refuse_array_ready.ensures c.reserve.ensures.items)
