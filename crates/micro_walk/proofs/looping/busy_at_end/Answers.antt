use Rattle.micro_walk.proofs.Ends.{end_against}
use Rattle.micro_walk.proofs.looping.busy_at_end.Goals as goal

pub returns-clause-of_word : goal.returns-clause-of_word
returns-clause-of_word c = end_against c.args.geometry.now c.args.bounds c.args.words.now c.requires.ends
