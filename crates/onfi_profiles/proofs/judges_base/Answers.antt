use Rattle.onfi_profiles.proofs.OldRules.{judged_so}
use Rattle.onfi_profiles.proofs.judges_base.Goals as goal

pub returns : goal.returns
returns c = judged_so
