use Rattle.std.proofs.Common.{◌≡◌, ◌++◌, drop}
use Rattle.vcd_text.specs.Sections.{shown_variable}
use Rattle.bus_signals.specs.Roles.{given_carriers}
use Rattle.bus_signals.proofs.carrier.push_given.Given as goal

abbrev pub invariant-loop-mapping : goal.invariant-loop-mapping
invariant-loop-mapping g l =
    l.carriers.items ++ given_carriers (drop l.mapping-index l.mappings) (shown_variable l.variable) ≡ l.initial.carriers.items ++ given_carriers l.mappings (shown_variable l.variable)
