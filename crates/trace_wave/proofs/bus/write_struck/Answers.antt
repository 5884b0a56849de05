use Rattle.std.proofs.Common.{[], ◌∷◌, ◌*◌, ◌+◌, ◌++◌, take, ap, ◌∙◌, sym, ℕ}
use Rattle.trace_wave.proofs.Strobes.{input_struck, output_struck}
use Rattle.trace_wave.proofs.bus.write_struck.Goals as goal

pub returns-then-not-is_output-clause-value : goal.returns-then-not-is_output-clause-value
returns-then-not-is_output-clause-value c high =
    let mid = take c.write_time-place.result c.write_time-place.new.room in
    input_struck (take c.args.place c.args.room.now) mid (take c.write_level-place.result c.write_level-place.new.room) c.args.targets (10 * c.args.items.now + 2) c.args.lines c.args.cycle
    (sym c.is_output.ensures ∙ c.if-not-is_output.true) high c.write_time-place.ensures.value
    (c.write_level-place.ensures.value ∙ ap (λ (k : ℕ). mid ++ 48 ∷ k ∷ 10 ∷ []) c.strobe_code.ensures)

pub returns-clause-value : goal.returns-clause-value
returns-clause-value c high =
    let mid = take c.write_time-place.result c.write_time-place.new.room in
    output_struck (take c.args.place c.args.room.now) mid (take c.write_level-place.result c.write_level-place.new.room) (take c.write_dq.result c.write_dq.new.room) c.args.targets (10 * c.args.items.now + 2) c.args.lines c.args.cycle
    (sym c.is_output.ensures ∙ c.if-not-is_output.false) high c.write_time-place.ensures.value
    (c.write_level-place.ensures.value ∙ ap (λ (k : ℕ). mid ++ 48 ∷ k ∷ 10 ∷ []) c.strobe_code.ensures) c.write_dq.ensures.value
