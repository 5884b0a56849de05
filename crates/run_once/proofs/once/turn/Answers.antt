use Rattle.std.proofs.Common.{subst}
use Rattle.seq_core.specs.Event.{Step}
use Rattle.seq_core.specs.Reply.{ToStep}
use Rattle.seq_core.specs.Calls.{IsEvent}
use Rattle.run_once.specs.Once.{the_lun}
use Rattle.run_once.proofs.Turns.{ended_turn, more_turn, ready_turn}
use Rattle.run_once.proofs.once.turn.Goals as goal

pub returns-in-Ended : goal.returns-in-Ended
returns-in-Ended g c =
    ended_turn c.args.core.now c.step.new.self (subst (λ answer. IsEvent c.args.core.now (Step the_lun) (ToStep answer) c.step.new.self) c.in-Ended.is c.in_ok-step.ensures.came)

pub returns-in-NotReady : goal.returns-in-NotReady
returns-in-NotReady g c =
    ready_turn c.args.core.now c.step.new.self c.become_ready.new.core c.become_ready.result (subst (λ answer. IsEvent c.args.core.now (Step the_lun) (ToStep answer) c.step.new.self) c.in-NotReady.is c.in_ok-step.ensures.came) c.become_ready.ensures

pub returns-in_default : goal.returns-in_default
returns-in_default g c = more_turn c.args.core.now c.step.new.self c.in_ok-step.field-0 c.in_ok-step.ensures.came c.in_default.not-Ended c.in_default.not-NotReady
