use Rattle.onfi_cycle.proofs.NamingLemmas.{tails_name}
use Rattle.onfi_cycle.proofs.laws.tails_name_rows_and_columns.Goals as goal

pub returns : goal.returns
returns c = tails_name
