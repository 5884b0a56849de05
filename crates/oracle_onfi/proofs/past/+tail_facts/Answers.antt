use Rattle.std.proofs.Common.{◌∙◌, ap}
use Rattle.onfi_cycle.specs.declared.target_cycle.TargetCycle.{TargetCycle}
use Rattle.onfi_cycle.specs.Sequence.{facts_after}
use Rattle.onfi_cycle.proofs.Steps.{facts_after_first}
use Rattle.oracle_onfi.proofs.past.+tail_facts.Goals as goal

pub returns-then-c-ce-clause-value : goal.returns-then-c-ce-clause-value
returns-then-c-ce-clause-value t c =
    facts_after_first c.args.past.now _ c.in-Cyc.c c.args.ce _ c.tail_facts-t.result c.in-len1-up.len_at_least c.in-Cyc.is c.if-c-ce.true c.tail_facts-t.ensures.value
    (c.after.ensures.value ∙ ap (λ (x : TargetCycle). facts_after x c.tail_facts-t.result) c.of.ensures)
