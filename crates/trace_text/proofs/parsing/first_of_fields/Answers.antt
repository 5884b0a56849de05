use Rattle.std.proofs.Common.{◌≡◌, Ok, Err, length, sym, ◌∙◌, arith}
use Rattle.std.proofs.lemmas.Bool.{eqb-false}
use Rattle.std.proofs.lemmas.Result.{err_from_is_err_and}
use Rattle.trace_text.specs.Reading.{line_item}
use Rattle.trace_text.proofs.Texts.{begins, fails, unended}
use Rattle.trace_text.proofs.parsing.first_of_fields.Goals as goal

pub returns-in_err-line_item-in-Some-clause-err : goal.returns-in_err-line_item-in-Some-clause-err
returns-in_err-line_item-in-Some-clause-err c =
    let p = err_from_is_err_and c.from_residual.result c.from_residual.ensures.1 in
    let failed : line_item c.args.profile c.in-Some.line.now ≡ Err c.in_err-line_item-in-Some.field-0.0 = sym c.in_err-line_item-in-Some.ensures in
    rw (p.1, p.2) (fails c.args.profile c.args.text.now (c.in-Some.line, c.in-Some.rest) c.in_err-line_item-in-Some.field-0.0 c.in-Some.ensures.cases failed)

pub returns-in_ok-line_item-in-Some-clause-ok : goal.returns-in_ok-line_item-in-Some-clause-ok
returns-in_ok-line_item-in-Some-clause-ok c =
    let read : line_item c.args.profile c.in-Some.line.now ≡ Ok c.in_ok-line_item-in-Some.field-0 = sym c.in_ok-line_item-in-Some.ensures in
    begins c.args.profile c.args.text.now (c.in-Some.line, c.in-Some.rest) c.in_ok-line_item-in-Some.field-0 c.in-Some.ensures.cases read

pub returns-in-None-2-clause-err : goal.returns-in-None-2-clause-err
returns-in-None-2-clause-err c =
    let some : length c.args.text.now ≡ 0 → ⊥ = eqb-false (length c.args.text.now) 0 (sym c.is_empty.ensures ∙ c.if-is_empty.false) in
    unended c.args.profile c.args.text.now c.in-None-2.ensures.cases (omega (arith, some))
