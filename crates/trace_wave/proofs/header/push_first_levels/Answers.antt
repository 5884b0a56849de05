use Rattle.std.proofs.Common.{◌++◌, ◌+◌, ℕ, [], ap, ◌∙◌, arith}
use Rattle.bus_lines.specs.declared.lines.Lines.{Lines}
use Rattle.bus_lines.specs.Lines.{idle}
use Rattle.trace_wave.specs.Levels.{bus_levels, model_levels}
use Rattle.trace_wave.specs.Header.{settings}
use Rattle.trace_wave.proofs.Lists.{settings_drawn, length_bus}
use Rattle.trace_wave.proofs.header.push_first_levels.Goals as goal

pub returns-clause-value : goal.returns-clause-value
returns-clause-value g c p targets stands =
    let n = c.targets-targets.ensures.value p targets [] stands in
    let bus = c.bus_levels-bus.ensures.value ∙ ap (λ (k : ℕ). bus_levels k c.idle.result) n ∙ ap (λ (l : Lines). bus_levels targets l) c.idle.ensures in
    let place = length_bus targets idle in
    settings_drawn c.args.out.now.items c.push_settings.new.out.items c.push_settings-2.new.out.items (bus_levels targets idle) (model_levels p targets [] 0) (45 + c.targets-targets.result)
    (omega (arith, n, place))
    (c.push_settings.ensures.value ∙ ap (λ xs. c.args.out.now.items ++ settings 33 xs) (c.deref.ensures.0 ∙ bus))
    (c.push_settings-2.ensures.value ∙ ap (λ xs. c.push_settings.new.out.items ++ settings (45 + c.targets-targets.result) xs) (c.deref-2.ensures.0 ∙ c.model_levels-model.ensures.value p targets [] stands))
