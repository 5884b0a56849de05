use Rattle.std.proofs.Common.{eqb, sym, ◌∙◌}
use Rattle.micro_asm.proofs.Cuts.{cut_some, cut_none}
use Rattle.micro_asm.proofs.LineByLine.{line_first, line_last, line_none}
use Rattle.micro_asm.proofs.lines.next_line.Goals as goal

pub returns-in-Some-clause-some : goal.returns-in-Some-clause-some
returns-in-Some-clause-some c = line_first c.args.text.now _ c.split_at.result.1.now (rw c.split_at.ensures.back (cut_some (λ b. eqb b 10) c.args.text.now c.in-Some.at c.in-Some.ensures))

pub returns-in-None-clause-none : goal.returns-in-None-clause-none
returns-in-None-clause-none c = line_none c.args.text.now (sym c.is_empty.ensures ∙ c.if-is_empty.true)

pub returns-in-None-2-clause-some : goal.returns-in-None-2-clause-some
returns-in-None-2-clause-some c = line_last c.args.text.now (cut_none (λ b. eqb b 10) c.args.text.now c.in-None-2.ensures) (sym c.is_empty.ensures ∙ c.if-is_empty.false)
