use Rattle.std.proofs.Common.{arith}
use Rattle.onfi_cycle.specs.declared.effect.Effect.TheVariants.{BecameReady}
use Rattle.bus_record.proofs.Changed.{one_written, none_written}
use Rattle.bus_record.proofs.luns_change.end_work.Goals as goal

pub returns-then-place-luns-clause-value : goal.returns-then-place-luns-clause-value
returns-then-place-luns-clause-value c = one_written (BecameReady c.args.fail) c.args.luns.now c.args.number c.from-place.result _ _ c.from-place.ensures c.become_ready.ensures.value

pub returns-else-place-luns-clause-value : goal.returns-else-place-luns-clause-value
returns-else-place-luns-clause-value c = none_written (BecameReady c.args.fail) c.args.luns.now c.args.number c.from-place.result c.from-place.ensures (omega arith)
