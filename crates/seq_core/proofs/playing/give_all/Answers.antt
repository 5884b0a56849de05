use Rattle.seq_core.proofs.Played.{next_given, more_given}
use Rattle.seq_core.proofs.playing.give_all.Goals as goal

pub give-requires-clause-own : goal.give-requires-clause-own
give-requires-clause-own g c =
    next_given c.args.bus.now c.loop-byte.bus c.args.lun c.args.kind c.args.bytes.now c.loop-byte.byte-index 0 c.loop-byte-test.true c.requires.own c.loop-byte.invariant

pub loop-byte-preserved : goal.loop-byte-preserved
loop-byte-preserved g c =
    more_given c.args.bus.now c.loop-byte.bus c.give.new.bus c.args.lun.ce c.args.kind c.args.bytes.now c.loop-byte.byte-index 0 c.loop-byte-test.true c.loop-byte.invariant c.give.ensures
