use Rattle.std.proofs.Common.{Option, ap, sym, subst, ◌∙◌}
use Rattle.nand_geometry.specs.declared.parts.Parts.{Parts}
use Rattle.nand_geometry.specs.Row.{row_bytes_of}
use Rattle.onfi_cycle.specs.Sequence.{is_open}
use Rattle.refused_run.specs.declared.bench.Stop.{Stop}
use Rattle.refused_run.specs.Course.{HasPlayed, work_items}
use Rattle.refused_run.proofs.Courses.{no_end, other_run}
use Rattle.refused_run.proofs.course.other_on.Goals as goal

pub returns-in-Ok-None-clause-run : goal.returns-in-Ok-None-clause-run
returns-in-Ok-None-clause-run g c = λ words bounds run.
    other_run words bounds c.args.bench.now c.perform.new.bench c.args.progress.now c.args.work c.in-Some.row (no_end c.args.progress.now.end (sym c.is_some.ensures ∙ c.if-is_some.false)) c.if-stand.false
    (ap is_open (sym c.tail.ensures) ∙ (sym c.is_open.ensures ∙ c.if-is_open.false))
    (ap (λ (h : Parts). row_bytes_of h 1 0 0) (sym c.geometry.ensures) ∙ (sym c.row_bytes.ensures ∙ c.in-Some.is))
    (subst (λ (o : Option Stop). HasPlayed c.args.bench.now c.perform.new.bench (work_items c.args.work c.in-Some.row) o) c.in-Ok-None.field-0-is c.in-Ok-None.ensures.value) run

pub returns-in-Ok-Some-clause-run : goal.returns-in-Ok-Some-clause-run
returns-in-Ok-Some-clause-run g c = λ words bounds run. c.begin_anew.ensures.run words bounds

pub returns-in-Err-clause-run : goal.returns-in-Err-clause-run
returns-in-Err-clause-run g c = λ words bounds run. c.begin_anew-in-Err.ensures.run words bounds
