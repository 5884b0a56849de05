use Rattle.std.proofs.Common.{◌-◌, ◌∙◌, arith, length-set}
use Rattle.micro_walk.proofs.ShapeTable.{tells_more}
use Rattle.micro_walk.proofs.shape.tell_around.Goals as goal

pub loop-at-preserved : goal.loop-at-preserved
loop-at-preserved c =
    let v = c.loop-at.invariant in
    let size = v.size in
    let inside = v.inside in
    let more = c.loop-at-test.true in
    let few = c.requires.few in
    record {
      inside = omega (arith, inside);
      size = length-set c.loop-at.table (c.loop-at.at - 1) c.around_word.result ∙ size;
      told = tells_more c.args.words.now c.loop-at.table (c.loop-at.at - 1) c.loop-at.at c.around_word.result (omega (arith, more)) (omega (arith, inside, few, size, more)) v.told c.around_word.ensures;
    }
