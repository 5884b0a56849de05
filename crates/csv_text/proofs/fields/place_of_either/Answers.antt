use Rattle.std.proofs.Common.{sym, ◌∙◌, arith}
use Rattle.csv_text.specs.Fields.{is_either}
use Rattle.csv_text.proofs.Ends.{first_here}
use Rattle.csv_text.proofs.fields.place_of_either.Goals as goal

pub returns-else-not-is_either-clause-value : goal.returns-else-not-is_either-clause-value
returns-else-not-is_either-clause-value c =
    first_here (is_either c.args.one c.args.other) c.args.text.now c.bytes.count c.bytes.invariant.within c.bytes.invariant.none (λ more. sym c.is_either.ensures ∙ c.if-not-is_either.false)

pub returns-after-bytes-clause-value : goal.returns-after-bytes-clause-value
returns-after-bytes-clause-value c = first_here (is_either c.args.one c.args.other) c.args.text.now c.bytes.count c.bytes.invariant.within c.bytes.invariant.none (λ more. absurd (omega (arith, more)))
