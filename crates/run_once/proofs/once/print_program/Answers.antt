use Rattle.std.proofs.Common.{inl, inr}
use Rattle.seq_inputs.specs.Inputs.{RefusesProgram}
use Rattle.seq_inputs.proofs.Said.{said}
use Rattle.run_once.proofs.once.print_program.Goals as goal

pub returns-in-Ok-clause-done : goal.returns-in-Ok-clause-done
returns-in-Ok-clause-done g c = λ is.
    let k = c.print_run.ensures.done is in
    (k.0, (c.in-Ok.text, c.in-Ok.ensures.ok, k.1), k.2)

pub returns-in-Ok-clause-refused : goal.returns-in-Ok-clause-refused
returns-in-Ok-clause-refused g c = λ refusal is.
    let k = c.print_run.ensures.refused refusal is in
    ((inr (c.in-Ok.text, c.in-Ok.ensures.ok, k.0.0), k.0.1), k.1)

pub returns-in-Err-clause-refused : goal.returns-in-Err-clause-refused
returns-in-Err-clause-refused g c = λ refusal is.
    let k = c.fail.ensures.refused refusal is in
    let t = said (RefusesProgram c.args.given.now) c.in-Err.stop refusal c.in-Err.ensures.err k.0 in
    ((inl t.0, t.1), k.1)
