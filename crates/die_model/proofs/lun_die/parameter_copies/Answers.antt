use Rattle.std.proofs.Common.{arith}
use Rattle.die_model.proofs.Copies.{one_more, all_copied}
use Rattle.die_model.proofs.lun_die.parameter_copies.Goals as goal

pub loop-preserved : goal.loop-preserved
loop-preserved g c = one_more c.page-page.result _ _ c.loop.counter c.loop.invariant c.in_ok-extend_from_slice.ensures.items

pub returns : goal.returns
returns g c = all_copied c.args.geometry.now c.page-page.result c.loop.copies.items c.loop.counter c.page-page.ensures c.loop.invariant (omega (arith, c.loop-test.false, c.loop.auto.counter-end))
