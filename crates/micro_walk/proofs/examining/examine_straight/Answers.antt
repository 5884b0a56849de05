use Rattle.std.proofs.Common.{◌∙◌, sym}
use Rattle.micro_walk.proofs.Verdicts.{was_read, straight_verified, straight_refused}
use Rattle.micro_walk.proofs.examining.examine_straight.Goals as goal

pub returns-in-None-clause-verified : goal.returns-in-None-clause-verified
returns-in-None-clause-verified g c =
    straight_verified c.args.text.now c.args.geometry.now c.bounds_of.result c.words-words.result.now (was_read c.args.text.now _ _ c.bounds_of.ensures c.words-words.ensures.value) c.words-words.ensures.fits c.requires.shape c.requires.straight (sym c.first_fault.ensures ∙ c.in-None.is)

pub returns-in-Some-clause-refused : goal.returns-in-Some-clause-refused
returns-in-Some-clause-refused g c =
    straight_refused c.args.text.now c.args.geometry.now c.bounds_of.result c.words-words.result.now c.in-Some.fault (was_read c.args.text.now _ _ c.bounds_of.ensures c.words-words.ensures.value) c.requires.shape c.requires.straight (sym c.first_fault.ensures ∙ c.in-Some.is)
