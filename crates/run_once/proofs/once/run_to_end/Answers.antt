use Rattle.std.proofs.Common.{subst}
use Rattle.run_once.specs.Runs.{TookTurn}
use Rattle.run_once.proofs.Turns.{runs_on, has_ended, never_out}
use Rattle.run_once.proofs.once.run_to_end.Goals as goal

pub returns-then-branch : goal.returns-then-branch
returns-then-branch g c =
    has_ended c.args.core.now c.loop.core c.turn.new.core c.args.turns c.loop.counter c.loop-test.true c.loop.invariant (subst (λ ended. TookTurn c.loop.core ended c.turn.new.core) c.if-branch.true c.in_ok-turn.ensures)

pub loop-preserved : goal.loop-preserved
loop-preserved g c =
    runs_on c.args.core.now c.loop.core c.turn.new.core c.args.turns c.loop.counter c.loop-test.true c.loop.invariant (subst (λ ended. TookTurn c.loop.core ended c.turn.new.core) c.if-branch.false c.in_ok-turn.ensures)

pub unreachable-requires : goal.unreachable-requires
unreachable-requires g c = never_out c.args.core.now c.loop.core c.args.turns c.loop.counter c.loop-test.false c.loop.invariant c.requires
