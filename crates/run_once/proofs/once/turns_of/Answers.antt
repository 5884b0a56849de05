use Rattle.run_once.proofs.Ends.{enough_turns}
use Rattle.run_once.proofs.once.turns_of.Goals as goal

pub returns : goal.returns
returns g c = enough_turns c.args.job.now c.text.result.now c.words.result.now c.text.ensures.value c.words.ensures.value c.text.ensures.shaped
