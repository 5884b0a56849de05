use Rattle.std.proofs.Common.{arith}
use Rattle.onfi_cycle.specs.declared.effect.Effect.TheVariants.{BecameReady}
use Rattle.onfi_cycle.proofs.Applied.{one_set, one_beyond}
use Rattle.onfi_cycle.proofs.target_state.end_work.Goals as goal

pub returns-then-place-luns : goal.returns-then-place-luns
returns-then-place-luns c = one_set (BecameReady c.args.fail) c.args.luns.now c.args.number c.from-place.result c.index-luns-place.result _ (omega arith) c.become_ready.ensures

pub returns-else-place-luns : goal.returns-else-place-luns
returns-else-place-luns c = one_beyond (BecameReady c.args.fail) c.args.luns.now c.args.number (omega arith)
