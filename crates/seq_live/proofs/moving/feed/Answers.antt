use Rattle.std.proofs.Common.{length, refl}
use Rattle.seq_live.proofs.Moves.{can_feed, fed}
use Rattle.seq_live.proofs.moving.feed.Goals as goal

pub apply_inputs-requires : goal.apply_inputs-requires
apply_inputs-requires c = can_feed c.args.state.now c.args.lun c.args.bytes.now (length c.args.bytes.now) refl c.requires

pub returns : goal.returns
returns c = fed c.args.state.now c.apply_inputs.new.self c.args.lun.ce (length c.args.bytes.now) c.args.bytes.now refl c.apply_inputs.ensures.past
