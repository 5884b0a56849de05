use Rattle.std.proofs.Common.{length}
use Rattle.die_model.proofs.effects.+take_effect.Given as goal

abbrev pub decreases-take_effect : goal.decreases-take_effect
decreases-take_effect g l = length l.rows.now
