-- Runs of data cycles on one target: what is against them, the first rule that the first forbidden one breaks.
use Rattle.std.specs.Prelude.{ℕ, zero, suc, if◌then◌else◌, Option}
use Rattle.nand_geometry.specs.declared.parts.Parts.{Parts}
use Rattle.onfi_cycle.specs.declared.forbidden.Forbidden.{Forbidden}
use Rattle.onfi_cycle.specs.declared.item.Kind.TheVariants.{Din, Dout}
use Rattle.onfi_cycle.specs.Channel.{cycle}
use Rattle.onfi_cycle.specs.Permitted.{judge}
use Rattle.onfi_cycle.specs.Runs.{first_rule}
use Rattle.onfi_cycle.specs.Inputs.{against_inputs, fed_target}
use Rattle.onfi_cycle.specs.Outputs.{against_rest, given_target}
use Rattle.onfi_cycle.specs.Sequence.{takes_features}
use Rattle.onfi_cycle.specs.State.{TargetView, target_after}
use Rattle.bus_record.specs.Rule.{by_option}

-- so many inputs, one at least
abbrev pub inputs_rule : Parts → (targets ce count : ℕ) → TargetView → Option Forbidden
inputs_rule g targets ce count s = first_rule (judge g targets s.tail s.luns (cycle ce Din 0)) (against_inputs g count s.tail)

-- so many outputs, one at least
abbrev pub outputs_rule : Parts → (targets ce count : ℕ) → TargetView → Option Forbidden
outputs_rule g targets ce count s = first_rule (judge g targets s.tail s.luns (cycle ce Dout 0)) (against_rest g count s.luns)

-- the target after permitted inputs: those of a Set Features one by one, those of a program at once
abbrev pub each_taken : Parts → (ce count : ℕ) → TargetView → TargetView
each_taken g ce zero s = s
each_taken g ce (suc count) s = each_taken g ce count (target_after g (cycle ce Din 0) s)

abbrev pub inputs_taken : Parts → (ce count : ℕ) → TargetView → TargetView
inputs_taken g ce count s = if takes_features s.tail.phase then each_taken g ce count s else fed_target count s

-- the target after them; those that break a rule change nothing
abbrev pub inputs_pushed : Parts → (targets ce count : ℕ) → TargetView → TargetView
inputs_pushed g targets ce count s = by_option (inputs_rule g targets ce count s) (inputs_taken g ce count s) (λ rule. s)

abbrev pub outputs_pushed : Parts → (targets ce count : ℕ) → TargetView → TargetView
outputs_pushed g targets ce count s = by_option (outputs_rule g targets ce count s) (given_target count s) (λ rule. s)
