use Rattle.onfi_cycle.proofs.Bytes.{work_changes_pages}
use Rattle.onfi_cycle.proofs.laws.work_changes_pages.Goals as goal

pub returns : goal.returns
returns c = work_changes_pages
