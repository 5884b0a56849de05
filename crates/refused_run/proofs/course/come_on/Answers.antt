use Rattle.std.proofs.Common.{Option, IfSome, subst}
use Rattle.refused_run.specs.declared.bench.Stop.{Stop}
use Rattle.refused_run.specs.declared.stand.Stand.{Stand}
use Rattle.refused_run.specs.Course.{HasPlayed, MayGoOn, listed}
use Rattle.refused_run.proofs.Courses.{come_run}
use Rattle.refused_run.proofs.course.come_on.Goals as goal

pub returns-in-Some-clause-run : goal.returns-in-Some-clause-run
returns-in-Some-clause-run g c = λ words here run.
    come_run words c.args.bounds.now c.args.bench.now c.perform.new.self c.args.progress.now c.args.word c.args.status c.args.cycles.now c.in-Some.next c.requires.goes_on here c.requires.cycles
    (subst (λ (o : Option Stand). IfSome o (λ s. MayGoOn words c.args.bounds.now c.args.bench.now c.args.progress.now.stand c.args.word c.args.status s)) c.in-Some.is (c.requires.next words))
    (subst (λ (o : Option Stop). HasPlayed c.args.bench.now c.perform.new.self (listed c.args.cycles.now) o) c.in-Ok-None.field-0-is c.in-Ok-None.ensures.value) run

pub returns-in-None-clause-run : goal.returns-in-None-clause-run
returns-in-None-clause-run g c = λ words here run. c.begin_anew.ensures.run words c.args.bounds.now

pub returns-in-Err-clause-run : goal.returns-in-Err-clause-run
returns-in-Err-clause-run g c = λ words here run. c.begin_anew-in-Err.ensures.run words c.args.bounds.now
