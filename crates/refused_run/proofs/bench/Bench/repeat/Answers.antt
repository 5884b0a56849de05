use Rattle.std.proofs.Common.{Option, subst}
use Rattle.refused_run.specs.declared.bench.Stop.{Stop}
use Rattle.refused_run.specs.Course.{HasPushed}
use Rattle.refused_run.proofs.Coming.{next_time}
use Rattle.refused_run.proofs.bench.Bench.repeat.Goals as goal

pub loop-preserved : goal.loop-preserved
loop-preserved g c =
    next_time c.args.self.now c.loop.self c.push.new.self c.args.count c.loop.counter c.args.item c.loop-test.true c.loop.invariant (subst (λ (o : Option Stop). HasPushed c.loop.self c.push.new.self c.args.item o) c.in_default.is c.in_ok-stop.ensures.value)
