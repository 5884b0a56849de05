use Rattle.recording.proofs.Texts.{says_refused}
use Rattle.recording.proofs.trace_reading.read_items.Goals as goal

pub returns-in-Err-clause-err : goal.returns-in-Err-clause-err
returns-in-Err-clause-err c = says_refused c.args.form c.args.profile c.args.text.now c.in-Err.refusal c.refuse_text.result c.in-Err.ensures.err c.refuse_text.ensures
