use Rattle.recording.proofs.Texts.{recorded_printable, has_times, no_times}
use Rattle.recording.proofs.trace_reading.read_trace.Goals as goal

pub returns-in_ok-items-clause-times : goal.returns-in_ok-items-clause-times
returns-in_ok-items-clause-times c = has_times c.args.has_times c.args.profile c.args.text.now c.in_ok-timed.timed.items c.if-has_times.true c.in_ok-timed.ensures.ok

pub returns-in_ok-items-clause-printable : goal.returns-in_ok-items-clause-printable
returns-in_ok-items-clause-printable c =
    recorded_printable c.args.profile c.args.text.now c.in_ok-timed.timed.items c.as_slice.result.now c.in_ok-items.items.items c.in_ok-timed.ensures.items c.as_slice.ensures.value c.in_ok-items.ensures

pub returns-in_ok-items-2-clause-times : goal.returns-in_ok-items-2-clause-times
returns-in_ok-items-2-clause-times c = no_times c.args.has_times c.args.profile c.args.text.now c.new-timed.result.items c.if-has_times.false c.new-timed.ensures.items
