use Rattle.std.proofs.Common.{Option, sym, subst, ◌∙◌}
use Rattle.onfi_cycle.specs.declared.item.Item.TheVariants.{Rdy}
use Rattle.refused_run.specs.declared.bench.Stop.{Stop}
use Rattle.refused_run.specs.Course.{HasPushed}
use Rattle.refused_run.proofs.Courses.{no_end, ready_run}
use Rattle.refused_run.proofs.course.ready_on.Goals as goal

pub returns-in-Ok-None-clause-run : goal.returns-in-Ok-None-clause-run
returns-in-Ok-None-clause-run g c = λ words bounds run.
    ready_run words bounds c.args.bench.now c.push.new.self c.args.progress c.args.failed (no_end c.args.progress.end (sym c.is_some.ensures ∙ c.if-is_some.false))
    (subst (λ (o : Option Stop). HasPushed c.args.bench.now c.push.new.self (Rdy 0 0 c.args.failed) o) c.in-Ok-None.field-0-is c.in-Ok-None.ensures.value) run
