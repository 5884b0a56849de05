use Rattle.std.proofs.Common.{rules, arith, ◌≡◌, ◌∷◌, ◌+◌, suc, ap, length}
use Rattle.trace_faults.specs.Middle.{Seen, seen_after}
use Rattle.trace_ops.specs.Listing.{Listing, listed, ops_of, marks_of, verdicts_as}
use Rattle.trace_ops.proofs.Listed.{pair, paired, seen_is, ops_go_on, marks_go_on, verdicts_go_on}
use Rattle.trace_ops.proofs.listing.find_operations.Goals as goal

pub rest-preserved : goal.rest-preserved
rest-preserved g c =
    let cons : c.rest.rest.now ≡ c.in-Some.first.now ∷ c.in-Some.later.now = search rules in
    let seen : Seen = record { state = c.rest.judge.state; known = c.rest.judge.known } in
    let after = seen_after c.args.readies seen c.in-Some.first.now c.in-Some.later.now in
    let next = seen_is after c.judge_item-judged.new.judge.state c.judge_item-judged.new.judge.known c.judge_item-judged.ensures.state c.judge_item-judged.ensures.known in
    let l : Listing = pair c.rest.places c.rest.operations.items in
    let list = paired (listed c.judge_item-judged.result l) c.take.new.places c.take.new.ops.items c.in_ok-take.ensures.places c.in_ok-take.ensures.ops in (
      ops_go_on c.args.readies _ seen _ c.rest.number c.in-Some.first.now c.in-Some.later.now c.rest.rest.now l _ c.judge_item-judged.result (ops_of c.args.readies c.args.beginning c.args.geometry.now c.args.targets c.args.items.now) cons c.judge_item-judged.ensures.judged next list c.rest.invariant.0,
      marks_go_on c.args.readies _ seen _ c.rest.number c.in-Some.first.now c.in-Some.later.now c.rest.rest.now l _ c.judge_item-judged.result _ c.rest.marks.items _ (marks_of c.args.readies c.args.beginning c.args.geometry.now c.args.targets c.args.items.now) cons c.judge_item-judged.ensures.judged next list c.in_ok-take.ensures.mark c.in_ok-push.ensures.items c.rest.invariant.1,
      (let n : c.rest.number + length c.rest.rest.now ≡ length c.args.items.now = c.rest.invariant.2 in let longer : length c.rest.rest.now ≡ suc (length c.in-Some.later.now) = ap length cons in omega (arith, n, longer)),
      verdicts_go_on c.args.readies _ seen _ c.rest.number c.in-Some.first.now c.in-Some.later.now c.rest.rest.now c.judge_item-judged.result c.rest.verdicts.items _ (verdicts_as c.args.readies c.args.beginning c.args.geometry.now c.args.targets c.args.items.now) cons c.judge_item-judged.ensures.judged next c.in_ok-push-2.ensures.items c.rest.invariant.3,
    )
