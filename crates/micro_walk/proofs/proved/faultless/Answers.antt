use Rattle.micro_walk.proofs.Verdicts.{faultless_verified}
use Rattle.micro_walk.proofs.proved.faultless.Goals as goal

pub of-requires-clause-safe : goal.of-requires-clause-safe
of-requires-clause-safe g c = (faultless_verified c.args.text c.args.geometry c.parts.ensures.limits c.words.ensures.fits c.requires.no_loops c.requires.faultless).safe

pub of-requires-clause-shaped : goal.of-requires-clause-shaped
of-requires-clause-shaped g c = (faultless_verified c.args.text c.args.geometry c.parts.ensures.limits c.words.ensures.fits c.requires.no_loops c.requires.faultless).shaped
