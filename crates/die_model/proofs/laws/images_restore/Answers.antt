use Rattle.die_model.proofs.Restored.{images_restore}
use Rattle.die_model.proofs.laws.images_restore.Goals as goal

pub returns : goal.returns
returns c = images_restore
