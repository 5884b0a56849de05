use Rattle.micro_walk.proofs.Verdicts.{shown_verified}
use Rattle.micro_walk.proofs.certifying.shown_by.Goals as goal

pub of-requires-clause-safe : goal.of-requires-clause-safe
of-requires-clause-safe g c = (shown_verified c.args.text c.args.geometry c.args.claims.now c.parts.ensures.limits c.words.ensures.fits c.requires).0

pub of-requires-clause-shaped : goal.of-requires-clause-shaped
of-requires-clause-shaped g c = (shown_verified c.args.text c.args.geometry c.args.claims.now c.parts.ensures.limits c.words.ensures.fits c.requires).1
