use Rattle.trace_ops.proofs.Listed.{judged_is}
use Rattle.trace_ops.proofs.judging.judge_item.Goals as goal

pub returns-clause-judged : goal.returns-clause-judged
returns-clause-judged c =
    judged_is c.args.readies c.args.one_lun (record { state = c.args.judge.now.state; known = c.args.judge.now.known }) c.args.number c.target-ce.result c.args.item c.args.later.now c.take-said.result c.of-before.result c.of.result _ c.target-ce.ensures c.take-said.ensures.said c.of-before.ensures c.take-said.ensures.state c.of.ensures
