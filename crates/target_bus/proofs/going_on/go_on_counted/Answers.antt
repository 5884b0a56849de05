use Rattle.std.proofs.Common.{ℕ, ◌∙◌, ap, arith}
use Rattle.std.specs.List.{slice_get}
use Rattle.onfi_cycle.specs.Readies.{due_there}
use Rattle.target_bus.proofs.Due.{Counts, counts, there_at_most}
use Rattle.target_bus.proofs.going_on.go_on_counted.Goals as goal

pub overflow_sub-result : goal.overflow_sub-result
overflow_sub-result c = let most = there_at_most c.args.state.now.targets c.target-ce.result in omega (arith, most, c.due-before.ensures.value, c.requires.due)

counted : (c : goal.After-due) → Counts c.args.state.now c.apply.new.self c.args.item c.args.due c.due-before.result c.due.result
counted c =
    counts c.readies_are_due.ensures c.args.state.now c.apply.new.self c.args.item c.args.due c.due-before.result c.due.result c.facts_fit.ensures.state c.requires.permitted c.apply.ensures.state
    (c.due-before.ensures.value ∙ ap (λ (n : ℕ). due_there (slice_get c.args.state.now.targets n)) c.target-ce.ensures)
    (c.due.ensures.value ∙ ap (λ (n : ℕ). due_there (slice_get c.apply.new.self.targets n)) c.target-ce.ensures)
    c.requires.due

pub returns-clause-due : goal.returns-clause-due
returns-clause-due c = (counted c).enough

pub returns-clause-idle : goal.returns-clause-idle
returns-clause-idle c = (counted c).idle

pub returns-clause-ready : goal.returns-clause-ready
returns-clause-ready c = (counted c).ready
