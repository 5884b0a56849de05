use Rattle.std.proofs.Common.{◌∙◌}
use Rattle.recording.proofs.Kept.{items_printable}
use Rattle.trace_commands.proofs.drawing.draw_at.Goals as goal

pub make_drawing-requires-clause-printable : goal.make_drawing-requires-clause-printable
make_drawing-requires-clause-printable g c =
    items_printable c.as_slice-2.result.now c.view_of.result c.in-Ok-read_items.items.items c.items.result.now (c.items.ensures ∙ c.in_ok-kept.ensures) c.in-Ok-read_items.ensures.printable
