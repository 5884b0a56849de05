use Rattle.std.proofs.Common.{sym, ◌∙◌, arith}
use Rattle.onfiseq_show_c.proofs.Scanned.{ends, is_none, goes_on}
use Rattle.onfiseq_show_c.proofs.trace.items_of.Goals as goal

pub returns-in_default-item-clause-err : goal.returns-in_default-item-clause-err
returns-in_default-item-clause-err c =
    c.items.invariant.so_far ∙ is_none c.args.wide c.items.rest.now c.in-Some.first.now c.in-Some.behind.now c.items.at c.in-Some.ensures.cases.0 (sym c.item.ensures.value ∙ c.in_default-item.is)

pub items-preserved : goal.items-preserved
items-preserved c =
    let shorter = c.in-Some.ensures.cases.1 in
    let counted = c.items.invariant.counted in
    record {
      counted = omega arith;
      so_far = c.items.invariant.so_far ∙ goes_on c.args.wide c.items.rest.now c.in-Some.first.now c.in-Some.behind.now c.items.at c.in-Some-item.item
          c.in-Some.ensures.cases.0 (sym c.item.ensures.value ∙ c.in-Some-item.is);
    }

pub returns-clause-ok : goal.returns-clause-ok
returns-clause-ok c = c.items.invariant.so_far ∙ ends c.args.wide c.items.rest.now c.items.at c.in_default.ensures.cases
