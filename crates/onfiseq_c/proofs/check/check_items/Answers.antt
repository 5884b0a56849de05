use Rattle.std.proofs.Common.{sym, ◌∙◌, arith}
use Rattle.onfi_cycle.specs.Sequence.{target_of}
use Rattle.bus_record.specs.Bus.{bus_view}
use Rattle.bus_record.proofs.Pushed.{fits_each}
use Rattle.onfiseq_c.proofs.Checked.{begun, stops_at_none, stops_at_rule, plays_on, ends_there, is_empty}
use Rattle.onfiseq_c.proofs.check.check_items.Goals as goal

pub items-init : goal.items-init
items-init c = record {
  counted = omega arith;
  so_far = λ g n f. begun g n (bus_view c.args.bus.now) c.args.items.now f;
  sound = c.requires.sound;
}

pub push_item-requires : goal.push_item-requires
push_item-requires c = fits_each c.items.bus c.items.invariant.sound (target_of c.in-Some-item.item)

pub returns-in_default-item : goal.returns-in_default-item
returns-in_default-item c g n f =
    c.of.ensures ∙ stops_at_none g n (bus_view c.args.bus.now) (bus_view c.items.bus) c.args.items.now c.items.rest.now c.items.at c.in-Some.first.now c.in-Some.behind.now c.args.wide
    c.requires.wide f (c.items.invariant.so_far g n f) c.in-Some.ensures.cases.0 (sym c.item.ensures.value ∙ c.in_default-item.is)

pub returns-in-Some-push_item : goal.returns-in-Some-push_item
returns-in-Some-push_item c g n f =
    let number = rw c.number.ensures at c.of-in-Some-push_item.ensures in
    number ∙ stops_at_rule g n (bus_view c.args.bus.now) (bus_view c.items.bus) c.args.items.now c.items.rest.now c.items.at c.in-Some.first.now c.in-Some.behind.now c.args.wide
    c.in-Some-item.item c.in-Some-push_item.rule c.requires.wide f (c.items.invariant.so_far g n f) c.in-Some.ensures.cases.0 (sym c.item.ensures.value ∙ c.in-Some-item.is)
    (sym c.push_item.ensures.rule ∙ c.in-Some-push_item.is)

pub items-preserved : goal.items-preserved
items-preserved c =
    let shorter = c.in-Some.ensures.cases.1 in
    let counted = c.items.invariant.counted in
    record {
      counted = omega arith;
      so_far = λ g n f.
          plays_on g n (bus_view c.args.bus.now) (bus_view c.items.bus) (bus_view c.push_item.new.bus) c.args.items.now c.items.rest.now c.items.at c.in-Some.first.now c.in-Some.behind.now
          c.args.wide c.in-Some-item.item c.requires.wide f (c.items.invariant.so_far g n f) c.in-Some.ensures.cases.0 (sym c.item.ensures.value ∙ c.in-Some-item.is)
          (sym c.push_item.ensures.rule ∙ c.in_default-push_item.is) (c.push_item.ensures.after c.in_default-push_item.is);
      sound = c.push_item.ensures.sound c.items.invariant.sound;
    }

pub returns : goal.returns
returns c g n f =
    c.of-2.ensures ∙ ends_there g n (bus_view c.items.bus) c.args.items.now c.items.rest.now c.items.at (c.items.invariant.so_far g n f) (is_empty c.items.rest.now c.in_default.ensures.cases)
