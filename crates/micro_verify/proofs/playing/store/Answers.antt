use Rattle.micro_verify.proofs.Steps.{next_written}
use Rattle.micro_verify.proofs.playing.store.Goals as goal

pub loop-k-preserved : goal.loop-k-preserved
loop-k-preserved c =
    next_written c.args.bytes.now c.loop-k.k c.args.place _ c.loop-k.buffer c.put_at.new.buffer _ c.loop-k-test.true c.loop-k.invariant c.put_at.ensures
