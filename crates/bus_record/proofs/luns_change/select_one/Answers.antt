use Rattle.std.proofs.Common.{arith, refl}
use Rattle.onfi_cycle.specs.declared.effect.Effect.TheVariants.{SelectedForStatus}
use Rattle.bus_record.proofs.Changed.{one_written, none_written}
use Rattle.bus_record.proofs.luns_change.select_one.Goals as goal

pub returns-then-place-luns-clause-value : goal.returns-then-place-luns-clause-value
returns-then-place-luns-clause-value c = one_written SelectedForStatus c.args.luns.now c.args.number c.args.number _ _ refl c.select.ensures.value

pub returns-else-place-luns-clause-value : goal.returns-else-place-luns-clause-value
returns-else-place-luns-clause-value c = none_written SelectedForStatus c.args.luns.now c.args.number c.args.number refl (omega arith)
