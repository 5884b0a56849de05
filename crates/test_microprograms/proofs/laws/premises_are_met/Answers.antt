use Rattle.test_microprograms.proofs.Premises.{met}
use Rattle.test_microprograms.proofs.laws.premises_are_met.Goals as goal

pub returns : goal.returns
returns c = met
