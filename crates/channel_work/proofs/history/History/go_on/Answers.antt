use Rattle.std.proofs.Common.{map, List, ◌∷◌, ◌++◌, [], ◌∙◌, refl, sym, ap, subst, reverse, inr}
use Rattle.seq_core.specs.Event.{Step}
use Rattle.seq_core.specs.Reply.{ToStep}
use Rattle.channel_work.specs.declared.stored.Stored.{Stored}
use Rattle.channel_work.specs.declared.stored.Stored.TheVariants.{Step as WasStepped}
use Rattle.channel_work.specs.Channel.{HistoryView}
use Rattle.channel_work.specs.Done.{ended_of}
use Rattle.channel_work.specs.Turns.{IsInTurn}
use Rattle.channel_work.proofs.Counting.{were_counted, last_turn}
use Rattle.channel_work.proofs.Keeping.{step_keeps}
use Rattle.channel_work.proofs.Staying.{event_stays}
use Rattle.channel_work.proofs.history.History.go_on.Goals as goal

pub count_luns-self-inside-requires-clause-from : goal.count_luns-self-inside-requires-clause-from
count_luns-self-inside-requires-clause-from g c =
    let v : HistoryView = record { core = c.self.inside.core; taker = c.self.inside.taker; events = c.self.inside.events.items; taken = c.self.inside.taken.items; started = c.self.inside.started.items; backlog = c.self.inside.backlog.items; done = map ended_of c.self.inside.done.items; counts = c.self.inside.counts; turns = c.self.inside.turns } in
    (were_counted v c.step.new.self (Step c.args.lun) (ToStep c.in-Ok-step.answer) c.trace-from.result.now _ c.self.invariant.0 c.in-Ok-step.ensures.came c.trace-from.ensures.value refl).0

pub count_luns-self-inside-requires-clause-counts : goal.count_luns-self-inside-requires-clause-counts
count_luns-self-inside-requires-clause-counts g c =
    let v : HistoryView = record { core = c.self.inside.core; taker = c.self.inside.taker; events = c.self.inside.events.items; taken = c.self.inside.taken.items; started = c.self.inside.started.items; backlog = c.self.inside.backlog.items; done = map ended_of c.self.inside.done.items; counts = c.self.inside.counts; turns = c.self.inside.turns } in
    (were_counted v c.step.new.self (Step c.args.lun) (ToStep c.in-Ok-step.answer) c.trace-from.result.now _ c.self.invariant.0 c.in-Ok-step.ensures.came c.trace-from.ensures.value refl).1

pub invariant_of-self-in-Ok-step : goal.invariant_of-self-in-Ok-step
invariant_of-self-in-Ok-step g c =
    let v : HistoryView = record { core = c.self.inside.core; taker = c.self.inside.taker; events = c.self.inside.events.items; taken = c.self.inside.taken.items; started = c.self.inside.started.items; backlog = c.self.inside.backlog.items; done = map ended_of c.self.inside.done.items; counts = c.self.inside.counts; turns = c.self.inside.turns } in
    let h = c.self.invariant.0 in
    let in_turn : IsInTurn c.args.lun c.args.turn (reverse v.events) = subst (λ (x : HistoryView). IsInTurn c.args.lun c.args.turn (reverse x.events)) (sym c.self.view_is) c.requires.in_turn in (
      step_keeps v c.step.new.self c.push_reserved.new.self.items c.count_luns-self-inside.result v.turns c.args.lun c.args.turn c.in-Ok-step.answer h c.in-Ok-step.ensures.came
          (c.push_reserved.ensures.items ∙ ap (λ (xs : List Stored). xs ++ (WasStepped c.args.lun c.args.turn ∷ [])) c.reserve.ensures.items)
          c.count_luns-self-inside.ensures.counts c.count_luns-self-inside.ensures.size (inr in_turn) (h.turn_count ∙ last_turn c.args.lun c.args.turn (reverse v.events) in_turn),
      c.self.invariant.1,
      event_stays _ v c.step.new.self (Step c.args.lun) (ToStep c.in-Ok-step.answer) h c.in-Ok-step.ensures.came c.self.invariant.2,
    )
