use Rattle.std.proofs.Common.{sym, ◌∙◌, arith}
use Rattle.csv_text.proofs.Ends.{trimmed_at}
use Rattle.csv_text.proofs.fields.trimmed_len.Goals as goal

pub returns-else-is_blank-clause-value : goal.returns-else-is_blank-clause-value
returns-else-is_blank-clause-value c =
    trimmed_at c.args.text.now c.blanks.count c.blanks.invariant.within c.blanks.invariant.blank (λ some. sym c.is_blank.ensures ∙ c.if-is_blank.false)

pub returns-after-blanks-clause-value : goal.returns-after-blanks-clause-value
returns-after-blanks-clause-value c = trimmed_at c.args.text.now c.blanks.count c.blanks.invariant.within c.blanks.invariant.blank (λ some. absurd (omega (arith, some)))
