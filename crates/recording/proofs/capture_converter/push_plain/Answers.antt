use Rattle.std.proofs.Common.{◌∙◌}
use Rattle.recording.proofs.Captured.{captured_printable}
use Rattle.recording.proofs.capture_converter.push_plain.Goals as goal

pub print_bytes-requires : goal.print_bytes-requires
print_bytes-requires g c = captured_printable c.args.stamped.now c.as_slice.result.now c.requires (c.as_slice.ensures.value ∙ c.in_ok-items.ensures)
