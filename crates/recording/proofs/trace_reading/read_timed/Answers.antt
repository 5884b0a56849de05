use Rattle.trace_text.specs.declared.form.TraceForm.TheVariants.{Recorded}
use Rattle.recording.proofs.Texts.{says_refused, recorded_timed, recorded_refused}
use Rattle.recording.proofs.trace_reading.read_timed.Goals as goal

pub returns-in_ok-timed_of-in-Ok-clause-items : goal.returns-in_ok-timed_of-in-Ok-clause-items
returns-in_ok-timed_of-in-Ok-clause-items c =
    recorded_timed c.args.profile c.args.text.now c.in-Ok.items.items c.as_slice.result.now c.in_ok-timed_of-in-Ok.field-0.items c.in-Ok.ensures.ok c.as_slice.ensures.value c.in_ok-timed_of-in-Ok.ensures

pub returns-in-Err-clause-err : goal.returns-in-Err-clause-err
returns-in-Err-clause-err c =
    says_refused Recorded c.args.profile c.args.text.now c.in-Err.refusal c.refuse_text.result (recorded_refused c.args.profile c.args.text.now c.in-Err.refusal c.in-Err.ensures.err) c.refuse_text.ensures
