use Rattle.std.proofs.Common.{sym, ◌∙◌, arith, add-one, length-set}
use Rattle.die_model.proofs.Ands.{and_step, and_end}
use Rattle.die_model.proofs.page.and_into.Goals as goal

pub loop-k-preserved : goal.loop-k-preserved
loop-k-preserved c =
    let e = c.loop-k.invariant.length in
    record {
      length = length-set _ _ _ ∙ e;
      bytes = rw add-one (and_step c.loop-k.k c.loop-k.old c.args.new.now (omega (arith, e, c.requires)) (c.requires ∙ sym e) ∙ c.loop-k.invariant.bytes);
    }

pub returns : goal.returns
returns c =
    let e = c.loop-k.invariant.length in
    sym (and_end c.loop-k.k c.loop-k.old c.args.new.now (omega (arith, e, c.requires)) (c.requires ∙ sym e)) ∙ c.loop-k.invariant.bytes
