use Rattle.run_once.proofs.Ends.{ends_within}
use Rattle.run_once.proofs.once.start.Goals as goal

pub returns-clause-ends : goal.returns-clause-ends
returns-clause-ends g c = ends_within c.in_ok-core.core c.args.job c.turns_of-turns.result c.requires c.in_ok-core.ensures c.turns_of-turns.ensures
