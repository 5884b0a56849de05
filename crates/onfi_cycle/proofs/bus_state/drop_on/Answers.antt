use Rattle.std.proofs.Common.{arith}
use Rattle.onfi_cycle.proofs.Dropped.{dropped_there, dropped_beyond}
use Rattle.onfi_cycle.proofs.bus_state.drop_on.Goals as goal

pub returns-then-place-targets : goal.returns-then-place-targets
returns-then-place-targets c = dropped_there c.args.targets.now c.args.ce c.from-place.result c.index-targets-place.result _ (omega arith) c.drop_sequence.ensures

pub returns-else-place-targets : goal.returns-else-place-targets
returns-else-place-targets c = dropped_beyond c.args.targets.now c.args.ce (omega arith)
