use Rattle.std.proofs.Common.{false}
use Rattle.seq_inputs.specs.Inputs.{PageIsRefused}
use Rattle.recording.specs.Traces.{TraceIsRefused}
use Rattle.recording.proofs.Stopped.{refused, wrong}
use Rattle.trace_commands.proofs.drawing.draw_trace.Goals as goal

pub returns-in-Err-clause-refused : goal.returns-in-Err-clause-refused
returns-in-Err-clause-refused g c = λ refusal is.
    let k = c.end_stopped.ensures.refused refusal is in
    (refused (PageIsRefused (g.F.Files.store c.args.files.now) c.args.request.trace.page.now) (TraceIsRefused (g.F.Files.store c.args.files.now) false c.args.request.trace) c.in-Err.stop refusal c.in-Err.ensures.err k.0, c.in-Err.ensures.stays, k.1)

pub returns-in-Err-clause-faulty : goal.returns-in-Err-clause-faulty
returns-in-Err-clause-faulty g c = λ fault is.
    let k = c.end_stopped.ensures.faulty fault is in
    (wrong (PageIsRefused (g.F.Files.store c.args.files.now) c.args.request.trace.page.now) (TraceIsRefused (g.F.Files.store c.args.files.now) false c.args.request.trace) c.in-Err.stop fault c.in-Err.ensures.err k.0, c.in-Err.ensures.stays, k.1)
