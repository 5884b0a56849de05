use Rattle.std.proofs.Common.{◌++◌, take, sym, ap, ◌∙◌}
use Rattle.onfi_cycle.specs.declared.item.Item.{Item}
use Rattle.trace_wave.specs.Wave.{item_frames}
use Rattle.trace_wave.proofs.dump.Dump.write_item.Goals as goal

pub returns-in-Cyc-clause-drawn : goal.returns-in-Cyc-clause-drawn
returns-in-Cyc-clause-drawn c p targets d at =
    c.write_cycle.ensures.drawn p targets d at ∙ ap (λ (i : Item). take c.args.place c.args.room.now ++ item_frames p targets d i) (sym c.in-Cyc.is)
