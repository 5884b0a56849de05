use Rattle.std.proofs.Common.{inl, inr, refl, true, false}
use Rattle.recording.specs.Checks.{InputIsRefused, RecordingIsRefused}
use Rattle.recording.specs.Recordings.{fault_line}
use Rattle.recording.proofs.Stopped.{refused, wrong}
use Rattle.trace_commands.specs.Reports.{report_text}
use Rattle.trace_commands.proofs.Verdicts.{passed, faulty}
use Rattle.trace_commands.proofs.checking.check_trace.Goals as goal

pub returns-in-Ok-clause-done : goal.returns-in-Ok-clause-done
returns-in-Ok-clause-done g c = λ is.
    let k = c.tell_found.ensures.done is in
    let t = c.in-Ok.trace in (
      report_text t.told.items t.late.items t.differences.items t.assumed.items,
      passed (g.F.Files.store c.args.files.now) (g.F.Files.store c.judge_trace.new.files) c.args.request true t.geometry t.told.items t.late.items t.differences.items t.dies.items t.whole.items t.assumed.items k.0 k.1 c.in-Ok.ensures.ok,
      k.2,
    )

pub returns-in-Ok-clause-flagged : goal.returns-in-Ok-clause-flagged
returns-in-Ok-clause-flagged g c = λ is.
    let k = c.tell_found.ensures.flagged is in
    let t = c.in-Ok.trace in (
      report_text t.told.items t.late.items t.differences.items t.assumed.items,
      passed (g.F.Files.store c.args.files.now) (g.F.Files.store c.judge_trace.new.files) c.args.request false t.geometry t.told.items t.late.items t.differences.items t.dies.items t.whole.items t.assumed.items k.0 k.1 c.in-Ok.ensures.ok,
      k.2,
    )

pub returns-in-Ok-clause-faulty : goal.returns-in-Ok-clause-faulty
returns-in-Ok-clause-faulty g c = λ fault is.
    let k = c.tell_found.ensures.faulty fault is in
    let t = c.in-Ok.trace in (
      report_text t.told.items t.late.items t.differences.items t.assumed.items,
      inr (faulty (g.F.Files.store c.args.files.now) (g.F.Files.store c.judge_trace.new.files) c.args.request fault t.geometry t.told.items t.late.items t.differences.items t.dies.items t.whole.items t.assumed.items k.0 c.in-Ok.ensures.ok),
      k.1,
    )

pub returns-in-Err-clause-refused : goal.returns-in-Err-clause-refused
returns-in-Err-clause-refused g c = λ refusal is.
    let k = c.end_stopped-ending.ensures.refused refusal is in
    (refused (InputIsRefused (g.F.Files.store c.args.files.now) c.args.request c.args.request.dies) (RecordingIsRefused (g.F.Files.store c.args.files.now) c.args.request) c.in-Err.stop refusal c.in-Err.ensures.err k.0, c.in-Err.ensures.stays, k.1)

pub returns-in-Err-clause-faulty : goal.returns-in-Err-clause-faulty
returns-in-Err-clause-faulty g c = λ fault is.
    let k = c.end_stopped-ending.ensures.faulty fault is in (
      fault_line fault,
      inl (wrong (InputIsRefused (g.F.Files.store c.args.files.now) c.args.request c.args.request.dies) (RecordingIsRefused (g.F.Files.store c.args.files.now) c.args.request) c.in-Err.stop fault c.in-Err.ensures.err k.0, c.in-Err.ensures.stays, refl),
      k.1,
    )
