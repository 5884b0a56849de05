use Rattle.onfi_profiles.proofs.OldTails.{tails_kept}
use Rattle.onfi_profiles.proofs.tails_base.Goals as goal

pub returns : goal.returns
returns c = tails_kept
