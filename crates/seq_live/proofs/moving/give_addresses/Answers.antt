use Rattle.onfi_cycle.specs.declared.item.Kind.TheVariants.{Adr}
use Rattle.seq_live.proofs.Moves.{next_given, more_given}
use Rattle.seq_live.proofs.moving.give_addresses.Goals as goal

pub give-requires : goal.give-requires
give-requires c =
    next_given c.args.state.now c.loop-byte.state c.args.lun Adr c.args.bytes.now c.loop-byte.byte-index 0 c.loop-byte-test.true c.requires c.loop-byte.invariant

pub loop-byte-preserved : goal.loop-byte-preserved
loop-byte-preserved c =
    more_given c.args.state.now c.loop-byte.state c.give.new.state c.args.lun.ce Adr c.args.bytes.now c.loop-byte.byte-index 0 c.loop-byte-test.true c.loop-byte.invariant c.give.ensures
