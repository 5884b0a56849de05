use Rattle.std.proofs.Common.{[], ◌++◌, ◌+◌, ℕ, ap, ◌∙◌}
use Rattle.std.specs.Prelude.{codes}
use Rattle.bus_lines.specs.Lines.{idle}
use Rattle.trace_wave.specs.Levels.{levels}
use Rattle.trace_wave.specs.Header.{bus_lines, model_lines, settings}
use Rattle.trace_wave.proofs.Lists.{six_joined}
use Rattle.trace_wave.proofs.header.push_header.Goals as goal

pub returns : goal.returns
returns g c = record {
  value = λ p targets stands.
      let n = c.targets-targets.ensures.value p targets [] stands in
      let luns = c.luns-luns.ensures.value p targets [] stands in
      six_joined c.args.out.now.items c.push_bytes.new.out.items c.push_bus_lines.new.out.items c.push_model_lines.new.out.items c.push_bytes-2.new.out.items c.push_first_levels.new.out.items c.push_bytes-3.new.out.items
      (codes "$version onfiseq $end\n$timescale 1 ns $end\n$scope module channel $end\n") (bus_lines targets) (model_lines (45 + targets) targets p.luns)
      (codes "$upscope $end\n$enddefinitions $end\n#0\n$dumpvars\n") (settings 33 (levels p targets [] 0 idle)) (codes "$end\n")
      c.push_bytes.ensures.value
      (c.push_bus_lines.ensures.value ∙ ap (λ (k : ℕ). c.push_bytes.new.out.items ++ bus_lines k) n)
      (c.push_model_lines.ensures.value ∙ ap (λ (k : ℕ). c.push_bus_lines.new.out.items ++ model_lines (45 + k) k c.luns-luns.result) n
      ∙ ap (λ (k : ℕ). c.push_bus_lines.new.out.items ++ model_lines (45 + targets) targets k) luns)
      c.push_bytes-2.ensures.value (c.push_first_levels.ensures.value p targets stands) c.push_bytes-3.ensures.value;
}
