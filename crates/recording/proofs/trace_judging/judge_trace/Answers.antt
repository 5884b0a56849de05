use Rattle.std.proofs.Common.{sym, ◌∙◌}
use Rattle.std.specs.Option.{option_map}
use Rattle.recording.specs.Checks.{view_of}
use Rattle.recording.specs.Targets.{count_of}
use Rattle.recording.proofs.Judged.{opened_of, text_refused, left_printable, judged}
use Rattle.recording.proofs.trace_judging.judge_trace.Goals as goal

pub returns-in-Err-read_text-clause-err : goal.returns-in-Err-read_text-clause-err
returns-in-Err-read_text-clause-err g c =
    text_refused (g.F.Files.store c.args.files.now) (g.F.Files.store c.read_inputs.new.files) c.args.request c.args.given c.in-Ok.inputs.geometry c.in-Ok.inputs.steps.items c.in-Ok.inputs.rulers c.in-Err-read_text.stop
    c.in-Ok.ensures.stays c.in-Ok.ensures.ok c.in-Err-read_text.ensures.err

pub judge_dies-requires : goal.judge_dies-requires
judge_dies-requires g c = opened_of (g.F.Files.store c.args.files.now) c.in-Ok.inputs.geometry (count_of c.args.request.trace.targets) c.args.given c.in-Ok.inputs.dies c.in-Ok.ensures.opened

pub copy_trace-requires : goal.copy_trace-requires
copy_trace-requires g c =
    left_printable c.in-Ok.inputs.steps.items c.as_slice.result.now (view_of c.args.request c.in-Ok.inputs.geometry) c.in-Ok-read_text.read.trace.items.items c.as_slice-3.result.now c.in-Ok-read_text.read.trace.timed.items c.in_ok-kept.kept
    c.as_slice.ensures.value c.in_ok-kept.ensures c.as_slice-3.ensures.value c.in-Ok-read_text.ensures.printable

pub returns-clause-ok : goal.returns-clause-ok
returns-clause-ok g c =
    judged (g.F.Files.store c.args.files.now) (g.F.Files.store c.read_inputs.new.files) (g.F.Files.store c.read_text.new.files) (g.F.Files.store c.copy_trace.new.files) c.args.request c.args.given c.in-Ok.inputs.geometry
    c.in-Ok.inputs.steps.items c.as_slice.result.now c.in-Ok.inputs.rulers c.in-Ok.inputs.dies c.in-Ok-read_text.read.trace.items.items c.as_slice-3.result.now c.in-Ok-read_text.read.trace.timed.items c.in_ok-kept.kept
    c.in_ok-told.field-0.faults.items c.as_slice-2.result.now c.in_ok-late.field-0.late.items c.in_ok-differences.field-0.differences.items c.in_ok-differences.field-0.dies.items c.in_ok-differences.field-0.whole.items
    c.in_ok-told.field-0.not_shown.items (option_map (λ path. path.now) c.copied_to-copy.result) c.breaks_off.result
    c.in-Ok.ensures.stays (c.in-Ok-read_text.ensures.stays ∙ c.in-Ok.ensures.stays) c.as_slice.ensures.value c.as_slice-2.ensures.value c.as_slice-3.ensures.value
    c.in-Ok.ensures.ok c.in-Ok.ensures.opened c.in-Ok-read_text.ensures.ok c.in_ok-kept.ensures c.in_ok-told.ensures.told c.in_ok-told.ensures.assumed c.in_ok-late.ensures c.in_ok-differences.ensures c.breaks_off.ensures c.copied_to-copy.ensures c.in_ok-copy_trace.ensures.ok
