use Rattle.std.proofs.Common.{Result, subst}
use Rattle.std.specs.Prelude.{IfOk}
use Rattle.micro_asm.specs.declared.refusal.AsmRefusal.{AsmRefusal}
use Rattle.micro_asm.specs.Fits.{SeenFits}
use Rattle.micro_asm.specs.Kept.{seen}
use Rattle.micro_asm.specs.Reading.{Seen}
use Rattle.micro_asm.specs.Shown.{shown_line}
use Rattle.micro_asm.proofs.Judgements.{placed_ok, placed_err}
use Rattle.micro_asm.proofs.Ranges.{placed_fits}
use Rattle.micro_asm.proofs.survey.Survey.place.Goals as goal

pub returns-in_ok-keep-in-Ok-clause-ok : goal.returns-in_ok-keep-in-Ok-clause-ok
returns-in_ok-keep-in-Ok-clause-ok g c =
    placed_ok c.args.last (seen c.args.self.now) (seen c.keep.new.self) (shown_line c.args.statement) c.progress.result c.in-Ok.next c.is_taken-is_taken.result
    c.in-Ok.ensures.value c.progress.ensures c.is_taken-is_taken.ensures c.in_ok-keep-in-Ok.ensures.ok

pub returns-in_ok-keep-in-Ok-clause-fits : goal.returns-in_ok-keep-in-Ok-clause-fits
returns-in_ok-keep-in-Ok-clause-fits g c =
    let s = seen c.args.self.now in
    let l = shown_line c.args.statement in
    let is = placed_ok c.args.last s (seen c.keep.new.self) l c.progress.result c.in-Ok.next c.is_taken-is_taken.result
    c.in-Ok.ensures.value c.progress.ensures c.is_taken-is_taken.ensures c.in_ok-keep-in-Ok.ensures.ok in
    subst (λ (r : Result Seen AsmRefusal). IfOk r SeenFits) is (placed_fits c.args.last s l c.requires.fits c.requires.line)

pub returns-in-Err-clause-err : goal.returns-in-Err-clause-err
returns-in-Err-clause-err g c =
    rw c.fault.ensures (placed_err c.args.last (seen c.args.self.now) (shown_line c.args.statement) c.progress.result c.in-Err.code c.is_taken-is_taken.result
    c.in-Err.ensures.value c.progress.ensures c.is_taken-is_taken.ensures)
