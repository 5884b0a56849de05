use Rattle.std.proofs.Common.{◌≡◌, ◌++◌, ℕ, take, sym, ap, ◌∙◌, subst}
use Rattle.bus_lines.specs.declared.lines.Lines.{Lines}
use Rattle.onfi_cycle.specs.declared.item.Item.TheVariants.{Cyc}
use Rattle.trace_wave.specs.Keeping.{IsAt}
use Rattle.trace_wave.specs.Wave.{Drawing, item_frames}
use Rattle.trace_wave.proofs.Drawn.{drawing_is, cycle_drawn}
use Rattle.trace_wave.proofs.dump.Dump.write_cycle.Goals as goal

pub returns-clause-drawn : goal.returns-clause-drawn
returns-clause-drawn c p targets d there =
    let n = c.targets-targets.result in
    let same = c.targets-targets.ensures.value p targets d.past there.stands in
    let at : IsAt p n d c.args.self.now = subst (λ (k : ℕ). IsAt p k d c.args.self.now) (sym same) there in
    let up = c.set_up-set_up.ensures in
    let old = take c.args.place c.args.room.now in
    let new = take c.write_model-place.result c.write_model-place.new.room in
    subst (λ (k : ℕ). new ≡ old ++ item_frames p k d (Cyc c.args.cycle)) same
    (subst (λ (e : Drawing). new ≡ old ++ item_frames p n e (Cyc c.args.cycle)) (drawing_is p n d c.args.self.now at)
    (cycle_drawn p n c.args.self.now.items c.args.self.now.rule c.write_model-place.new.rule d.past c.args.self.now.lines c.set_up-set_up.result c.args.cycle
    old (take c.write_set_up-place.result c.write_set_up-place.new.room) (take c.write_struck-place.result c.write_struck-place.new.room) (take c.write_rise-place.result c.write_rise-place.new.room) new
    at.high up (c.write_model-place.ensures.rule p n d.past at.stands)
    c.write_set_up-place.ensures.value
    (c.write_struck-place.ensures.value (ap (λ (l : Lines). l.we) up ∙ at.high.0, ap (λ (l : Lines). l.re) up ∙ at.high.1))
    c.write_rise-place.ensures.value (c.write_model-place.ensures.value p n d.past at.stands at.kept)))
