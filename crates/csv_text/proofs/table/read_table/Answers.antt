use Rattle.std.proofs.Common.{[], subst}
use Rattle.std.proofs.lemmas.List.{append-nil}
use Rattle.csv_text.specs.Rows.{rows}
use Rattle.csv_text.specs.Table.{table_of}
use Rattle.csv_text.specs.Shown.{IsRefusalOf}
use Rattle.csv_text.proofs.table.read_table.Goals as goal

pub returns-in-Err-clause-err : goal.returns-in-Err-clause-err
returns-in-Err-clause-err g c = subst (λ text. IsRefusalOf c.in-Err.refusal (table_of (rows text))) (append-nil c.args.text.now) (c.in-Err.ensures.err [] tt)
