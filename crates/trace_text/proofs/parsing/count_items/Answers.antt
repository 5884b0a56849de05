use Rattle.std.proofs.Common.{◌+◌, ◌<◌, [], ◌∷◌, ◌++◌, length, ap, arith}
use Rattle.std.specs.Prelude.{is_ok}
use Rattle.trace_text.proofs.Loop.{goes_on, is_done}
use Rattle.trace_text.proofs.parsing.count_items.Goals as goal

pub lines-preserved : goal.lines-preserved
lines-preserved c =
    let before = c.lines.invariant.so_far in
    let first = rw c.in-Ok-Some.field-0-is at c.in-Ok-Some.ensures.ok in
    let text = rw c.in-Ok-Some.field-0-is at c.in-Ok-Some.ensures.utf8 in
    let shorter : length c.in-Ok-Some.after.now < length c.lines.rest.now = first.shorter in
    record {
      counted = omega arith;
      utf8 = text;
      so_far = (before.0 ++ c.in-Ok-Some.field-0-0-0 ∷ [], goes_on c.args.profile (c.lines.count + 1) c.lines.rest.now c.args.text.now c.in-Ok-Some.after.now before.0 c.in-Ok-Some.field-0-0-0 first before.1);
    }

pub returns-in-Ok-None-clause-ok : goal.returns-in-Ok-None-clause-ok
returns-in-Ok-None-clause-ok c =
    let before = c.lines.invariant.so_far in
    let empty = rw c.in-Ok-None.field-0-is at c.in-Ok-None.ensures.ok in
    ap is_ok (is_done c.args.profile (c.lines.count + 1) c.lines.rest.now c.args.text.now before.0 empty before.1)

pub lines-preserved-in-Some : goal.lines-preserved-in-Some
lines-preserved-in-Some c =
    let before = c.lines.invariant.so_far in
    let first = c.in-Some.ensures.some in
    let shorter : length c.in-Some.after.now < length c.lines.rest.now = first.shorter in
    record {
      counted = omega arith;
      utf8 = c.in-Some.ensures.utf8;
      so_far = (before.0 ++ c.in-Some.field-0-0 ∷ [], goes_on c.args.profile (c.lines.count + 1) c.lines.rest.now c.args.text.now c.in-Some.after.now before.0 c.in-Some.field-0-0 first before.1);
    }
