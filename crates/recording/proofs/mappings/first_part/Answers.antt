use Rattle.recording.proofs.Sayings.{first_some, first_none}
use Rattle.recording.proofs.mappings.first_part.Goals as goal

pub returns-clause-some : goal.returns-clause-some
returns-clause-some c = first_some c.args.line.now c.split_once.result c.split_once.ensures.cases

pub returns-clause-none : goal.returns-clause-none
returns-clause-none c = first_none c.args.line.now c.split_once.result c.split_once.ensures.cases
