use Rattle.std.proofs.Common.{◌+◌, ◌*◌, ◌++◌, take, sym, ap, ◌∙◌, arith}
use Rattle.trace_wave.specs.Levels.{model_levels}
use Rattle.trace_wave.specs.Changes.{changes}
use Rattle.trace_wave.specs.Wave.{Drawing, item_frames, past_next}
use Rattle.trace_wave.proofs.Drawn.{drawing_is, ready_frames}
use Rattle.trace_wave.proofs.Rooms.{frame_empty, frame_full}
use Rattle.trace_wave.proofs.dump.Dump.write_ready.Goals as goal

pub returns-then-end-start-clause-drawn : goal.returns-then-end-start-clause-drawn
returns-then-end-start-clause-drawn c p targets d at ready =
    let self = c.args.self.now in
    let rule = c.write_model-end.new.rule in
    let told = changes (45 + targets) (model_levels p targets d.past self.rule) (model_levels p targets (past_next d.past rule c.args.item) rule) in
    let old = take c.args.place c.args.room.now in
    frame_empty c.args.room.now c.write_time-start.new.room c.write_model-end.new.room told c.args.place c.write_time-start.result c.write_model-end.result (10 * self.items + 6)
    (omega (arith, c.told-room, c.requires.places)) (omega (arith, c.write_time-start.array_long, c.write_time-start.ensures.len, c.requires.places)) (omega (arith, c.write_model-end.array_long, c.write_model-end.ensures.len, c.write_time-start.ensures.len, c.requires.places))
    c.write_time-start.ensures.len.0 c.write_time-start.ensures.value (c.write_model-end.ensures.value p targets d.past at.stands at.kept) c.if-end-start.true
    ∙ ap (λ xs. old ++ xs) (sym (ready_frames p targets self.items self.rule rule d.past self.lines c.args.item ready (c.write_model-end.ensures.rule p targets d.past at.stands)))
    ∙ ap (λ (e : Drawing). old ++ item_frames p targets e c.args.item) (drawing_is p targets d self at)

pub returns-else-end-start-clause-drawn : goal.returns-else-end-start-clause-drawn
returns-else-end-start-clause-drawn c p targets d at ready =
    let self = c.args.self.now in
    let rule = c.write_model-end.new.rule in
    let told = changes (45 + targets) (model_levels p targets d.past self.rule) (model_levels p targets (past_next d.past rule c.args.item) rule) in
    let old = take c.args.place c.args.room.now in
    frame_full c.args.room.now c.write_time-start.new.room c.write_model-end.new.room told c.args.place c.write_time-start.result c.write_model-end.result (10 * self.items + 6)
    (omega (arith, c.write_time-start.array_long, c.write_time-start.ensures.len, c.requires.places)) (omega (arith, c.write_model-end.array_long, c.write_model-end.ensures.len, c.write_time-start.ensures.len, c.requires.places))
    c.write_time-start.ensures.value (c.write_model-end.ensures.value p targets d.past at.stands at.kept) c.if-end-start.false
    ∙ ap (λ xs. old ++ xs) (sym (ready_frames p targets self.items self.rule rule d.past self.lines c.args.item ready (c.write_model-end.ensures.rule p targets d.past at.stands)))
    ∙ ap (λ (e : Drawing). old ++ item_frames p targets e c.args.item) (drawing_is p targets d self at)
