use Rattle.std.proofs.Common.{[]}
use Rattle.seq_live.proofs.Moves.{can_give, given}
use Rattle.seq_live.proofs.moving.give.Goals as goal

pub apply-requires : goal.apply-requires
apply-requires c = can_give c.args.state.now c.args.lun c.args.kind c.args.byte [] c.requires

pub returns : goal.returns
returns c = given c.args.state.now c.apply.new.self c.args.lun.ce c.args.kind c.args.byte c.apply.ensures.past
