use Rattle.std.proofs.Common.{arith}
use Rattle.seq_files.proofs.Several.{one_more, all_made, behind}
use Rattle.seq_files.proofs.map_files.MapFiles.make_each.Goals as goal

pub loop-place-preserved : goal.loop-place-preserved
loop-place-preserved c = (
  one_more c.args.files.now c.loop-place.place _ _ _ _ c.loop-place-test.true c.in-Ok.ensures.written c.loop-place.invariant.0,
  behind c.args.self.now.files.items c.loop-place.self.files.items c.make.new.self.files.items c.loop-place.invariant.1 c.in-Ok.ensures.more,
)

pub returns-clause-written : goal.returns-clause-written
returns-clause-written c =
    all_made c.args.files.now c.loop-place.place _ _ (omega (arith, c.loop-place-test.false, c.loop-place.auto.place-end)) c.loop-place.invariant.0
