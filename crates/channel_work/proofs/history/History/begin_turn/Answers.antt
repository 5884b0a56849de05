use Rattle.std.proofs.Common.{map, List, ℕ, ◌∷◌, ◌+◌, ◌++◌, [], ◌∙◌, refl, ap, subst, length, reverse, inl, arith}
use Rattle.std.proofs.lemmas.List.{length-reverse, length-append}
use Rattle.seq_core.specs.Event.{Step}
use Rattle.seq_core.specs.Reply.{ToStep}
use Rattle.channel_work.specs.declared.stored.Stored.{Stored}
use Rattle.channel_work.specs.declared.stored.Stored.TheVariants.{Step as WasStepped}
use Rattle.channel_work.specs.Channel.{HistoryView}
use Rattle.channel_work.specs.Done.{ended_of}
use Rattle.channel_work.specs.Turned.{TookSteps}
use Rattle.channel_work.proofs.Counting.{were_counted, few_turns}
use Rattle.channel_work.proofs.Keeping.{step_keeps}
use Rattle.channel_work.proofs.Turning.{one_step}
use Rattle.channel_work.proofs.Staying.{event_stays}
use Rattle.channel_work.proofs.history.History.begin_turn.Goals as goal

pub count_luns-self-inside-requires-clause-from : goal.count_luns-self-inside-requires-clause-from
count_luns-self-inside-requires-clause-from g c =
    let v : HistoryView = record { core = c.self.inside.core; taker = c.self.inside.taker; events = c.self.inside.events.items; taken = c.self.inside.taken.items; started = c.self.inside.started.items; backlog = c.self.inside.backlog.items; done = map ended_of c.self.inside.done.items; counts = c.self.inside.counts; turns = c.self.inside.turns } in
    (were_counted v c.step.new.self (Step c.args.lun) (ToStep c.in-Ok-step.answer) c.trace-from.result.now _ c.self.invariant.0 c.in-Ok-step.ensures.came c.trace-from.ensures.value refl).0

pub count_luns-self-inside-requires-clause-counts : goal.count_luns-self-inside-requires-clause-counts
count_luns-self-inside-requires-clause-counts g c =
    let v : HistoryView = record { core = c.self.inside.core; taker = c.self.inside.taker; events = c.self.inside.events.items; taken = c.self.inside.taken.items; started = c.self.inside.started.items; backlog = c.self.inside.backlog.items; done = map ended_of c.self.inside.done.items; counts = c.self.inside.counts; turns = c.self.inside.turns } in
    (were_counted v c.step.new.self (Step c.args.lun) (ToStep c.in-Ok-step.answer) c.trace-from.result.now _ c.self.invariant.0 c.in-Ok-step.ensures.came c.trace-from.ensures.value refl).1

pub overflow_add-self : goal.overflow_add-self
overflow_add-self g c =
    let v : HistoryView = record { core = c.self.inside.core; taker = c.self.inside.taker; events = c.self.inside.events.items; taken = c.self.inside.taken.items; started = c.self.inside.started.items; backlog = c.self.inside.backlog.items; done = map ended_of c.self.inside.done.items; counts = c.self.inside.counts; turns = c.self.inside.turns } in
    let h = c.self.invariant.0 in
    let few = few_turns (reverse v.events) h.turns in
    let size = length-reverse v.events in
    let stored = c.push_reserved.ensures.items ∙ ap (λ (xs : List Stored). xs ++ (WasStepped c.args.lun v.turns ∷ [])) c.reserve.ensures.items in
    let longer = ap length stored ∙ length-append v.events (WasStepped c.args.lun v.turns ∷ []) in
    let fits = c.len-events.type_inv in
    let is = c.len-events.ensures in
    let count = h.turn_count in
    omega (arith, few, size, longer, fits, is, count)

pub invariant_of-self-in-Ok-step : goal.invariant_of-self-in-Ok-step
invariant_of-self-in-Ok-step g c =
    let v : HistoryView = record { core = c.self.inside.core; taker = c.self.inside.taker; events = c.self.inside.events.items; taken = c.self.inside.taken.items; started = c.self.inside.started.items; backlog = c.self.inside.backlog.items; done = map ended_of c.self.inside.done.items; counts = c.self.inside.counts; turns = c.self.inside.turns } in
    let h = c.self.invariant.0 in (
      step_keeps v c.step.new.self c.push_reserved.new.self.items c.count_luns-self-inside.result (v.turns + 1) c.args.lun v.turns c.in-Ok-step.answer h c.in-Ok-step.ensures.came
          (c.push_reserved.ensures.items ∙ ap (λ (xs : List Stored). xs ++ (WasStepped c.args.lun v.turns ∷ [])) c.reserve.ensures.items)
          c.count_luns-self-inside.ensures.counts c.count_luns-self-inside.ensures.size (inl h.turn_count) refl,
      c.add.ensures.total ∙ ap (λ (n : ℕ). n + 1) c.self.invariant.1,
      event_stays _ v c.step.new.self (Step c.args.lun) (ToStep c.in-Ok-step.answer) h c.in-Ok-step.ensures.came c.self.invariant.2,
    )

pub returns-in-Ok-step-clause-some : goal.returns-in-Ok-step-clause-some
returns-in-Ok-step-clause-some g c =
    let v : HistoryView = record { core = c.self.inside.core; taker = c.self.inside.taker; events = c.self.inside.events.items; taken = c.self.inside.taken.items; started = c.self.inside.started.items; backlog = c.self.inside.backlog.items; done = map ended_of c.self.inside.done.items; counts = c.self.inside.counts; turns = c.self.inside.turns } in
    let u : HistoryView = record v { core = c.step.new.self; events = c.push_reserved.new.self.items; counts = c.count_luns-self-inside.result; turns = v.turns + 1 } in (
      subst (λ (x : HistoryView). TookSteps x c.args.lun (c.in-Ok-step.answer ∷ []) u) c.self.view_is
          (one_step v u c.args.lun c.in-Ok-step.answer c.in-Ok-step.ensures.came
          (c.push_reserved.ensures.items ∙ ap (λ (xs : List Stored). xs ++ (WasStepped c.args.lun v.turns ∷ [])) c.reserve.ensures.items) refl
          (record { taker = refl; taken = refl; started = refl; backlog = refl; done = refl })),
      c.add.ensures.amount,
    )
