use Rattle.std.proofs.Common.{length, length-take, length-drop, drop, ◌-◌, arith}
use Rattle.seq_live.specs.declared.burst.Burst.TheVariants.{Command}
use Rattle.seq_live.proofs.Moves.{first_can, rest_can, all_moved, first_and_rest, rest_fits}
use Rattle.seq_live.proofs.moving.+apply_all.Goals as goal

pub apply-requires-clause-can : goal.apply-requires-clause-can
apply-requires-clause-can t c =
    first_can c.args.state.now c.args.lun c.args.buffer.now c.args.bursts.now _ _ (first_and_rest c.args.bursts.now (Command 0 0) c.in-len1-up.len_at_least) c.requires.can

pub apply_all-requires : goal.apply_all-requires
apply_all-requires t c =
    let is = first_and_rest c.args.bursts.now (Command 0 0) c.in-len1-up.len_at_least in (
      omega (arith, c.decreases, c.in-len1-up.len_at_least, length-take (length c.args.bursts.now - 1) (drop 1 c.args.bursts.now), length-drop 1 c.args.bursts.now),
      (rest_fits (length c.args.buffer.now) c.args.bursts.now _ _ is c.requires.fits, rest_can c.args.state.now c.apply.new.state c.args.lun c.args.buffer.now c.args.bursts.now _ _ is c.requires.can c.apply.ensures),
    )

pub returns-in-len1-up : goal.returns-in-len1-up
returns-in-len1-up t c =
    let is = first_and_rest c.args.bursts.now (Command 0 0) c.in-len1-up.len_at_least in
    all_moved c.args.state.now c.apply.new.state c.apply_all.new.state c.args.lun.ce c.args.buffer.now c.args.bursts.now _ _ is c.apply.ensures c.apply_all.ensures
