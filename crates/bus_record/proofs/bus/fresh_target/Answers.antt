use Rattle.std.proofs.Common.{[], List, ap}
use Rattle.onfi_cycle.specs.LunView.{LunView}
use Rattle.onfi_cycle.specs.Sequence.{facts_of, tail}
use Rattle.bus_record.proofs.Fresh.{fresh_are}
use Rattle.bus_record.proofs.bus.fresh_target.Goals as goal

pub returns-clause-value : goal.returns-clause-value
returns-clause-value c g ce same =
    rw (c.from.ensures, same) (ap (λ (luns : List LunView). record { tail = facts_of (tail [] ce); luns = luns }) (fresh_are g ce c.args.luns c.requires))
