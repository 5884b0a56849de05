use Rattle.std.proofs.Common.{◌≡◌, ◌++◌, drop}
use Rattle.vcd_text.specs.Sections.{shown_variables}
use Rattle.bus_signals.specs.Roles.{carriers_of}
use Rattle.bus_signals.proofs.carrier.carriers_of.Given as goal

abbrev pub invariant-loop-variable : goal.invariant-loop-variable
invariant-loop-variable g l = l.carriers.items ++ carriers_of l.mappings (shown_variables (drop l.variable-index l.variables)) ≡ carriers_of l.mappings (shown_variables l.variables)
