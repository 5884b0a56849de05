use Rattle.onfi_profiles.proofs.Widened.{wider_profile}
use Rattle.onfi_profiles.proofs.widens.Goals as goal

pub returns : goal.returns
returns c = wider_profile
