use Rattle.std.proofs.Common.{◌∙◌}
use Rattle.recording.proofs.Captured.{timed_printable}
use Rattle.recording.proofs.capture_converter.push_timed.Goals as goal

pub print_recorded-requires : goal.print_recorded-requires
print_recorded-requires g c = timed_printable c.args.stamped.now c.as_slice.result.now c.requires (c.as_slice.ensures.value ∙ c.in_ok-items.ensures)
