use Rattle.micro_verify.proofs.Refused.{has_cause}
use Rattle.micro_verify.proofs.verifying.refuse.Goals as goal

pub returns-in-Ok-clause-caused : goal.returns-in-Ok-clause-caused
returns-in-Ok-clause-caused g c = has_cause c.args.geometry.now c.args.text.now c.args.fault c.requires
