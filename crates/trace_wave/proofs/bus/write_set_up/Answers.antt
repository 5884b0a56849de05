use Rattle.std.proofs.Common.{◌*◌, ◌+◌, ◌++◌, take, ap, ◌∙◌, arith, ◌≡◌, ℕ}
use Rattle.trace_wave.specs.Changes.{changes, time_line}
use Rattle.trace_wave.specs.Levels.{bus_levels}
use Rattle.bus_lines.specs.Lines.{set_up}
use Rattle.trace_wave.proofs.Rooms.{frame_empty, frame_full}
use Rattle.trace_wave.proofs.bus.write_set_up.Goals as goal

pub returns-then-end-start-clause-value : goal.returns-then-end-start-clause-value
returns-then-end-start-clause-value c =
    frame_empty c.args.room.now c.write_time-start.new.room c.write_set_up_lines-end.new.room (changes 33 (bus_levels c.args.targets c.args.lines) (bus_levels c.args.targets (set_up c.args.lines c.args.cycle)))
    c.args.place c.write_time-start.result c.write_set_up_lines-end.result (10 * c.args.items.now)
    (omega (arith, c.told-room, c.requires.places)) (omega (arith, c.write_time-start.array_long, c.write_time-start.ensures.len, c.requires.places)) (omega (arith, c.write_set_up_lines-end.array_long, c.write_set_up_lines-end.ensures.len, c.write_time-start.ensures.len, c.requires.places))
    c.write_time-start.ensures.len.0 (c.write_time-start.ensures.value ∙ ap (λ (k : ℕ). take c.args.place c.args.room.now ++ time_line k) (plus_none (10 * c.args.items.now))) c.write_set_up_lines-end.ensures.value c.if-end-start.true
  where
    plus_none : (k : ℕ) → k + 0 ≡ k
    plus_none k = omega arith

pub returns-clause-value : goal.returns-clause-value
returns-clause-value c =
    frame_full c.args.room.now c.write_time-start.new.room c.write_set_up_lines-end.new.room (changes 33 (bus_levels c.args.targets c.args.lines) (bus_levels c.args.targets (set_up c.args.lines c.args.cycle)))
    c.args.place c.write_time-start.result c.write_set_up_lines-end.result (10 * c.args.items.now)
    (omega (arith, c.write_time-start.array_long, c.write_time-start.ensures.len, c.requires.places)) (omega (arith, c.write_set_up_lines-end.array_long, c.write_set_up_lines-end.ensures.len, c.write_time-start.ensures.len, c.requires.places))
    (c.write_time-start.ensures.value ∙ ap (λ (k : ℕ). take c.args.place c.args.room.now ++ time_line k) (plus_none (10 * c.args.items.now))) c.write_set_up_lines-end.ensures.value c.if-end-start.false
  where
    plus_none : (k : ℕ) → k + 0 ≡ k
    plus_none k = omega arith
