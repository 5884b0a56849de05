use Rattle.std.proofs.Common.{◌≡◌, drop}
use Rattle.vcd_text.specs.Sections.{shown_variable}
use Rattle.bus_signals.specs.Roles.{is_given}
use Rattle.bus_signals.proofs.mapping.is_given.Given as goal

abbrev pub invariant-loop-mapping : goal.invariant-loop-mapping
invariant-loop-mapping l = is_given (drop l.mapping-index l.mappings) (shown_variable l.variable) ≡ is_given l.mappings (shown_variable l.variable)
