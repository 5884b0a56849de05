use Rattle.lun_lease.proofs.Parts.{none_beside}
use Rattle.lun_lease.proofs.laws.none_beside_sixteen.Goals as goal

pub returns : goal.returns
returns c = none_beside
