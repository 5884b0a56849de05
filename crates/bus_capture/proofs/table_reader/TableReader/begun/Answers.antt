use Rattle.std.proofs.Common.{rules, ◌≡◌, ◌++◌, [], ap, ◌∙◌}
use Rattle.vcd_text.specs.Sections.{shown_variables}
use Rattle.csv_text.specs.Shown.{standing_of, table_before}
use Rattle.bus_signals.specs.Roles.{carriers_of, sources_of}
use Rattle.bus_capture.specs.Capturing.{in_roles}
use Rattle.bus_capture.proofs.Tracing.{table_begins}
use Rattle.bus_capture.proofs.table_reader.TableReader.begun.Goals as goal

pub returns-clause-ok : goal.returns-clause-ok
returns-clause-ok g c =
    let variables : c.args.table.variables.items ≡ c.as_slice.result.now = search rules in
    let names : c.in_ok-names.names.items ≡ c.args.table.body.names.now ++ [] = search rules in
    let left : c.in_ok-left.left.items ≡ c.args.table.body.rows.rest.now ++ c.args.tail.now = search rules in
    λ stamped rest.
    table_begins c.args.setup.now (table_before c.args.table (c.args.tail.now ++ rest)) c.in_ok-sources.sources.items c.in_ok-tracer.tracer (standing_of c.args.table.body) c.standing.result
    c.args.table.body.names.now c.in_ok-names.names.items c.args.table.body.rows.rest.now c.args.tail.now c.in_ok-left.left.items rest stamped
    (ap (λ variables. in_roles (sources_of c.args.setup.now.targets (carriers_of c.args.setup.now.mappings.now (shown_variables variables)))) variables ∙ c.in_ok-sources.ensures.ok)
    c.in_ok-tracer.ensures.traced (c.requires.told (c.args.tail.now ++ rest)) c.standing.ensures names left
