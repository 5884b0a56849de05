use Rattle.std.proofs.Common.{eqb}
use Rattle.micro_asm.proofs.Cuts.{before_some, before_none}
use Rattle.micro_asm.proofs.fields.before_comment.Goals as goal

pub returns-in-Some : goal.returns-in-Some
returns-in-Some c = before_some (λ b. eqb b 59) c.args.line.now c.in-Some.at c.in-Some.ensures

pub returns-in-None : goal.returns-in-None
returns-in-None c = before_none (λ b. eqb b 59) c.args.line.now c.in-None.ensures
