use Rattle.std.proofs.Common.{ap, ◌∙◌}
use Rattle.trace_faults.specs.Faults.{completed}
use Rattle.recording.specs.Targets.{count_of}
use Rattle.recording.proofs.Checked.{completed_printable}
use Rattle.recording.proofs.trace_judging.copy_trace.Goals as goal

pub put_items-requires-in-Shown : goal.put_items-requires-in-Shown
put_items-requires-in-Shown g c =
    completed_printable c.args.view.now.geometry (count_of c.args.view.now.targets) c.args.items.now c.as_slice.result.now c.requires
    (c.as_slice.ensures.value ∙ (c.in_ok-whole-in-Shown.ensures ∙ ap (λ n. completed c.args.view.now.geometry n c.args.items.now) c.count.ensures.value))
