use Rattle.micro_asm.specs.Line.{is_blank}
use Rattle.micro_asm.proofs.Cuts.{cut_some, cut_none}
use Rattle.micro_asm.proofs.fields.cut_at_blank.Goals as goal

pub returns-in_err-at-clause-none : goal.returns-in_err-at-clause-none
returns-in_err-at-clause-none c = rw c.from_residual.ensures (cut_none is_blank c.args.text.now c.in_err-at.ensures)

pub returns-clause-some : goal.returns-clause-some
returns-clause-some c = rw c.split_at.ensures.back (cut_some is_blank c.args.text.now c.in_ok-at.at c.in_ok-at.ensures)
