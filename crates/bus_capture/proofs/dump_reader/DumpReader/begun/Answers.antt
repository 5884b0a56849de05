use Rattle.std.proofs.Common.{rules, ◌≡◌, ◌++◌, ap, sym, ◌∙◌}
use Rattle.vcd_text.specs.Sections.{shown_variables}
use Rattle.vcd_text.specs.Shown.{told_at}
use Rattle.bus_signals.specs.Roles.{carriers_of, sources_of}
use Rattle.bus_capture.specs.Capturing.{in_roles}
use Rattle.bus_capture.specs.Tracing.{traced}
use Rattle.bus_capture.proofs.Tracing.{begins_at}
use Rattle.bus_capture.proofs.dump_reader.DumpReader.begun.Goals as goal

pub returns-clause-ok : goal.returns-clause-ok
returns-clause-ok g c =
    let left : c.in_ok-left.left.items ≡ c.args.dump.body.words.rest.now ++ c.args.tail.now = search rules in
    let variables : c.args.dump.header.variables.items ≡ c.as_slice.result.now = search rules in
    λ cut stamped rest.
    begins_at c.args.setup.now c.args.dump c.in_ok-sources.sources.items c.in_ok-tracer.tracer c.standing.result c.in_ok-left.left.items c.args.tail.now c.standing.ensures
    (ap (λ variables. in_roles (sources_of c.args.setup.now.targets (carriers_of c.args.setup.now.mappings.now (shown_variables variables)))) variables ∙ c.in_ok-sources.ensures.ok) c.requires.begins
    c.in_ok-tracer.ensures.traced left cut stamped rest
    ∙ ap (λ widths. traced c.in_ok-tracer.tracer stamped (told_at widths c.standing.result (c.in_ok-left.left.items ++ rest))) (sym c.in_ok-widths.ensures.ok)
