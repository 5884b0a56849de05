use Rattle.std.proofs.Common.{◌∙◌, sym}
use Rattle.micro_walk.proofs.Verdicts.{was_read, front_refused, loops_verified, loops_refused}
use Rattle.micro_walk.proofs.examining.examine_loops.Goals as goal

pub returns-in-Some-clause-refused : goal.returns-in-Some-clause-refused
returns-in-Some-clause-refused g c =
    front_refused c.args.text.now c.args.geometry.now c.bounds_of-bounds.result c.words-words.result.now c.in-Some.fault (was_read c.args.text.now _ _ c.bounds_of-bounds.ensures c.words-words.ensures.value) c.requires.shape c.requires.loops (sym c.front_fault.ensures.value ∙ c.in-Some.is)

pub returns-in-Ok-clause-verified : goal.returns-in-Ok-clause-verified
returns-in-Ok-clause-verified g c =
    loops_verified c.args.text.now c.args.geometry.now c.bounds_of-bounds.result c.words-words.result.now c.find_certificate.new.claims c.in-Ok.walked (was_read c.args.text.now _ _ c.bounds_of-bounds.ensures c.words-words.ensures.value) c.parts.ensures.limits c.words-words.ensures.fits c.requires.shape c.requires.loops (sym c.front_fault.ensures.value ∙ c.in_default.is) c.in-Ok.ensures.certified c.in-Ok.ensures.walked

pub returns-in-Err-clause-refused : goal.returns-in-Err-clause-refused
returns-in-Err-clause-refused g c =
    loops_refused c.args.text.now c.args.geometry.now c.bounds_of-bounds.result c.words-words.result.now c.in-Err.fault c.count_before_loops.result (was_read c.args.text.now _ _ c.bounds_of-bounds.ensures c.words-words.ensures.value) c.requires.shape c.requires.loops (sym c.front_fault.ensures.value ∙ c.in_default.is) c.count_before_loops.ensures.value c.in-Err.ensures.behind c.in-Err.ensures.refused
