use Rattle.nand_geometry.proofs.LimitLemmas.{faultless}
use Rattle.target_record.specs.Geometry.{parts_of}
use Rattle.bus_record.proofs.bus.begin.Goals as goal

pub renew-requires-clause-limits : goal.renew-requires-clause-limits
renew-requires-clause-limits c = (faultless (parts_of c.args.geometry.now)).0 (c.begin_code-code.ensures.can c.if-code-eq0.true).0
