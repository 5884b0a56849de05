use Rattle.std.proofs.Common.{◌≡◌, ◌++◌, ◌+◌, ◌*◌, ℕ, take, sym, ap, ◌∙◌, subst, arith}
use Rattle.trace_wave.specs.Changes.{time_line, changes}
use Rattle.trace_wave.specs.Keeping.{IsAt}
use Rattle.trace_wave.specs.Levels.{bus_levels, model_levels}
use Rattle.trace_wave.specs.Wave.{Drawing, last_frame}
use Rattle.bus_lines.specs.Lines.{at_rest}
use Rattle.trace_wave.proofs.Drawn.{drawing_is}
use Rattle.trace_wave.proofs.Lists.{bus_changes}
use Rattle.trace_wave.proofs.Strobes.{rest_drawn}
use Rattle.trace_wave.proofs.dump.Dump.end.Goals as goal

pub returns-clause-drawn : goal.returns-clause-drawn
returns-clause-drawn g c p targets d there =
    let self = c.args.self in
    let n = c.targets-targets.result in
    let same = c.targets-targets.ensures.value p targets d.past there.stands in
    let at : IsAt p n d self = subst (λ (k : ℕ). IsAt p k d self) (sym same) there in
    let out = c.args.out.now.items in
    let new = c.push_bytes.new.out.items in
    let l = self.lines in
    let drawn = take c.write_enables_if_changed-end.result c.write_enables_if_changed-end.new.room in
    let bus = changes 33 (bus_levels n l) (bus_levels n (at_rest l)) in
    subst (λ (k : ℕ). new ≡ out ++ last_frame p k d) same
    (subst (λ (e : Drawing). new ≡ out ++ last_frame p n e) (drawing_is p n d self at)
    (c.push_bytes.ensures.value ∙ ap (λ xs. xs ++ drawn) c.in_ok-reserve.ensures.items
    ∙ ap (λ xs. out ++ xs) (rest_drawn (take c.write_time-start.result c.write_time-start.new.room) drawn n l c.write_enables_if_changed-end.ensures.value
    ∙ ap (λ xs. xs ++ bus) (c.write_time-start.ensures.value ∙ ap (λ (k : ℕ). time_line k) (plus_none (10 * self.items)))
    ∙ ap (λ xs. time_line (10 * self.items) ++ xs) (sym (bus_changes n l (at_rest l) (model_levels p n d.past self.rule))))))
  where
    plus_none : (k : ℕ) → k + 0 ≡ k
    plus_none k = omega arith
