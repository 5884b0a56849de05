use Rattle.std.proofs.Common.{sym, ◌∙◌, add-one}
use Rattle.die_model.proofs.Blank.{blank_step, blank_stop, blank_end}
use Rattle.die_model.proofs.image.are_blank.Goals as goal

pub loop-b-preserved : goal.loop-b-preserved
loop-b-preserved c = rw add-one (blank_step c.args.bytes.now c.loop-b.b-index 0 c.loop-b-test.true c.if-b.false ∙ c.loop-b.invariant)

pub returns-then-b : goal.returns-then-b
returns-then-b c = sym (blank_stop c.args.bytes.now c.loop-b.b-index 0 c.loop-b-test.true c.if-b.true) ∙ c.loop-b.invariant

pub returns : goal.returns
returns c = sym (blank_end c.args.bytes.now c.loop-b.b-index c.loop-b-test.false) ∙ c.loop-b.invariant
