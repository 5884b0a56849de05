use Rattle.std.proofs.Common.{subst}
use Rattle.onfi_cycle.specs.declared.item.Item.TheVariants.{Ard}
use Rattle.seq_core.specs.Shows.{CoreView}
use Rattle.seq_core.specs.Event.{ArrayReady}
use Rattle.seq_core.specs.Reply.{ToArrayReady}
use Rattle.seq_core.specs.Calls.{IsEvent, with_item}
use Rattle.seq_core.proofs.Cores.{array_ready_admitted}
use Rattle.seq_core.proofs.sequencer.Core.admits_array_ready.Goals as goal

pub returns : goal.returns
returns g c =
    subst (λ (x : CoreView). IsEvent x (ArrayReady c.args.lun c.args.fail) (ToArrayReady c.is_none.result) (with_item x (Ard c.args.lun.ce c.args.lun.lun c.args.fail) c.is_none.result)) c.self.view_is
    (array_ready_admitted c.self.inside.bus c.self.inside.slots.items c.self.inside.holder c.args.lun c.args.fail c.judge.result c.is_none.result c.self.invariant (c.judge.ensures.past _ _ _ c.state.ensures) c.is_none.ensures)
