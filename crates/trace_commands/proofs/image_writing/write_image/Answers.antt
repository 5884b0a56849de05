use Rattle.std.proofs.Common.{inl, inr, refl}
use Rattle.recording.specs.Checks.{RecordingIsRefused}
use Rattle.recording.specs.Recordings.{fault_line}
use Rattle.recording.proofs.Stopped.{refused, wrong}
use Rattle.trace_commands.specs.Images.{check_of, ImageRefuses}
use Rattle.trace_commands.specs.Reports.{fault_lines}
use Rattle.trace_commands.proofs.Written.{has_fault, left_alone, is_die}
use Rattle.trace_commands.proofs.image_writing.write_image.Goals as goal

pub returns-clause-refused : goal.returns-clause-refused
returns-clause-refused g c = λ refusal is.
    let k = c.end_stopped.ensures.refused refusal is in
    (refused (ImageRefuses (g.F.Files.store c.args.files.now) c.args.request) (RecordingIsRefused (g.F.Files.store c.args.files.now) (check_of c.args.request)) c.in-Err.stop refusal c.in-Err.ensures.err k.0, c.in-Err.ensures.stays, k.1)

pub returns-clause-faulty : goal.returns-clause-faulty
returns-clause-faulty g c = λ fault is.
    let k = c.end_stopped.ensures.faulty fault is in
    (fault_line fault, inl (wrong (ImageRefuses (g.F.Files.store c.args.files.now) c.args.request) (RecordingIsRefused (g.F.Files.store c.args.files.now) (check_of c.args.request)) c.in-Err.stop fault c.in-Err.ensures.err k.0, refl), c.in-Err.ensures.stays, k.1)

pub returns-in-Ok-clause-faulty : goal.returns-in-Ok-clause-faulty
returns-in-Ok-clause-faulty g c = λ fault is.
    let k = c.tell_fault.ensures.faulty fault is in
    let t = c.in-Ok.trace in (
      fault_lines t.told.items,
      inr (has_fault (g.F.Files.store c.args.files.now) (g.F.Files.store c.write_on.new.files) c.args.request t.geometry c.as_slice.result.now t.told.items t.assumed.items t.dies.items t.whole.items _ fault c.as_slice.ensures.value c.in-len1-up.len_at_least k.0 c.in-Ok.ensures.ok),
      left_alone (g.F.Files.store c.args.files.now) (g.F.Files.store c.write_on.new.files) c.args.request t.geometry c.as_slice.result.now t.told.items t.assumed.items t.dies.items t.whole.items c.as_slice.ensures.value c.in-len1-up.len_at_least c.in-Ok.ensures.ok,
      k.1,
    )

pub returns-in-empty-clause-files : goal.returns-in-empty-clause-files
returns-in-empty-clause-files g c =
    let t = c.in-Ok.trace in
    inr (t.assumed.items, is_die (g.F.Files.store c.args.files.now) (g.F.Files.store c.write_on.new.files) c.args.request t.geometry c.as_slice.result.now t.told.items t.assumed.items t.dies.items t.whole.items c.as_slice.ensures.value c.in-empty.len_below c.in-Ok.ensures.ok)

pub returns-in-Ok-clause-files : goal.returns-in-Ok-clause-files
returns-in-Ok-clause-files g c =
    let t = c.in-Ok.trace in
    inl (left_alone (g.F.Files.store c.args.files.now) (g.F.Files.store c.write_on.new.files) c.args.request t.geometry c.as_slice.result.now t.told.items t.assumed.items t.dies.items t.whole.items c.as_slice.ensures.value c.in-len1-up.len_at_least c.in-Ok.ensures.ok)
