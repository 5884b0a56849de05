use Rattle.std.proofs.Common.{◌∙◌, sym}
use Rattle.std.proofs.lemmas.Option.{slice_get-get_or}
use Rattle.micro_walk.proofs.Ends.{found_against}
use Rattle.micro_walk.proofs.looping.fault_there.Goals as goal

pub returns-in-Some-clause-of_word : goal.returns-in-Some-clause-of_word
returns-in-Some-clause-of_word c =
    found_against c.args.geometry.now c.args.bounds c.args.words.now _ _ c.args.at c.in-Some.reason (slice_get-get_or c.args.words.now c.args.at _ c.requires.inside) (sym c.reason_at.ensures ∙ c.in-Some.is)
