use Rattle.onfi_profiles.proofs.Decoded.{decodes}
use Rattle.onfi_profiles.proofs.decodes_base.Goals as goal

pub returns : goal.returns
returns c = decodes
