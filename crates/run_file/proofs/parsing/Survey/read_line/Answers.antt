use Rattle.run_file.proofs.Steps.{told_fault, told_nothing, told_statement}
use Rattle.run_file.proofs.parsing.Survey.read_line.Goals as goal

pub returns-in_ok-add-in-Ok-Some-clause-read : goal.returns-in_ok-add-in-Ok-Some-clause-read
returns-in_ok-add-in-Ok-Some-clause-read g c = λ ls.
    let judge = rw c.in-Ok-Some.field-0-is at c.in-Ok-Some.ensures in
    told_statement _ _ _ _ c.args.line.now ls _ judge c.in_ok-add-in-Ok-Some.ensures.line c.in_ok-add-in-Ok-Some.ensures.statements

pub returns-in-Ok-None-clause-read : goal.returns-in-Ok-None-clause-read
returns-in-Ok-None-clause-read g c = λ ls. told_nothing _ _ c.args.line.now ls (rw c.in-Ok-None.field-0-is at c.in-Ok-None.ensures)

pub returns-in-Err-clause-read : goal.returns-in-Err-clause-read
returns-in-Err-clause-read g c = λ ls. told_fault _ _ c.args.line.now ls _ c.in-Err.ensures
