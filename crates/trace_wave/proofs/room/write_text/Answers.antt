use Rattle.std.proofs.Common.{◌+◌, ◌-◌, ◌++◌, take, ap, ◌∙◌, arith}
use Rattle.trace_wave.proofs.Rooms.{text_written}
use Rattle.trace_wave.proofs.room.write_text.Goals as goal

pub returns-clause-value : goal.returns-clause-value
returns-clause-value c =
    text_written c.args.room.now c.copy_from_slice.new.self c.args.place (c.args.place + 24 - c.args.place) c.args.len (omega (arith, c.told-room, c.requires.places)) (omega (arith, c.requires.text, c.copy_from_slice.ensures.len))
    ∙ ap (λ xs. take c.args.place c.args.room.now ++ take c.args.len xs) c.copy_from_slice.ensures.after
