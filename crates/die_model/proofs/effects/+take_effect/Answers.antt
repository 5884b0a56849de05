use Rattle.die_model.proofs.Rows.{first_there}
use Rattle.die_model.proofs.effects.+take_effect.Goals as goal

pub take_one-requires-clause-there : goal.take_one-requires-clause-there
take_one-requires-clause-there g t c = first_there c.args.pages.now c.take_effect.new.pages c.args.rows.now _ c.in-len1-up.len_at_least c.requires.there c.requires.alike c.take_effect.ensures.still
