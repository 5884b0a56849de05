use Rattle.std.proofs.Common.{sym, ◌∙◌}
use Rattle.micro_asm.proofs.Cuts.{field_first, field_empty, field_last, field_none}
use Rattle.micro_asm.proofs.fields.next_field.Goals as goal

pub returns-then-not-is_empty-clause-some : goal.returns-then-not-is_empty-clause-some
returns-then-not-is_empty-clause-some c =
    sym c.blanks.invariant ∙ field_first c.blanks.rest.now c.in-Some.front.now c.in-Some.after.now c.in-Some.ensures.some (sym c.is_empty.ensures ∙ c.if-not-is_empty.true)

pub blanks-preserved : goal.blanks-preserved
blanks-preserved c =
    sym (field_empty c.blanks.rest.now c.in-Some.front.now c.in-Some.after.now c.in-Some.ensures.some (sym c.is_empty.ensures ∙ c.if-not-is_empty.false)) ∙ c.blanks.invariant

pub returns-then-is_empty-clause-none : goal.returns-then-is_empty-clause-none
returns-then-is_empty-clause-none c = sym c.blanks.invariant ∙ field_none c.blanks.rest.now (sym c.is_empty-2.ensures ∙ c.if-is_empty.true)

pub returns-else-is_empty-clause-some : goal.returns-else-is_empty-clause-some
returns-else-is_empty-clause-some c = sym c.blanks.invariant ∙ field_last c.blanks.rest.now c.in_default.ensures.none (sym c.is_empty-2.ensures ∙ c.if-is_empty.false)
