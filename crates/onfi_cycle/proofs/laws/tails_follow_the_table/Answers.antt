use Rattle.onfi_cycle.proofs.TableLemmas.{tails_follow}
use Rattle.onfi_cycle.proofs.laws.tails_follow_the_table.Goals as goal

pub returns : goal.returns
returns c = tails_follow
