use Rattle.seq_live.proofs.Moves.{can_take, taken}
use Rattle.seq_live.proofs.moving.take.Goals as goal

pub apply_outputs-requires : goal.apply_outputs-requires
apply_outputs-requires c = can_take c.args.state.now c.args.lun c.args.len c.requires

pub returns : goal.returns
returns c = λ bytes size. taken c.args.state.now c.apply_outputs.new.self c.args.lun.ce c.args.len bytes size c.apply_outputs.ensures.past
