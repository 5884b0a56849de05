-- What the rules say of a trace: its faults, and the readies that are taken for granted.
use Rattle.std.specs.Prelude.{◌≡◌, ℕ, true, Bool, List, [], reverse, take, if◌then◌else◌}
use Rattle.nand_geometry.specs.declared.parts.Parts.{Parts}
use Rattle.onfi_cycle.specs.declared.item.Item.{Item}
use Rattle.onfi_cycle.specs.Permitted.{is_legal}
use Rattle.trace_faults.specs.declared.broken_rule.BrokenRule.{BrokenRule}
use Rattle.trace_faults.specs.declared.readies.Readies.{Readies}
use Rattle.trace_faults.specs.declared.readies.Readies.TheVariants.{Written, Shown}
use Rattle.trace_faults.specs.declared.beginning.Beginning.{Beginning}
use Rattle.trace_faults.specs.declared.beginning.Beginning.TheVariants.{Start, Middle}
use Rattle.trace_faults.specs.declared.unshown.NotShown.{NotShown}
use Rattle.trace_faults.specs.Faults.{faults_of, not_shown_of, completed}
use Rattle.trace_faults.specs.Middle.{verdicts_of, all_broken, all_not_shown}
use Rattle.recording.specs.declared.trace_view.TraceView.{TraceView}
use Rattle.recording.specs.Targets.{count_of}

-- the trace that is judged: as it is written, or with the readies that its status outputs show and those that are taken for granted
abbrev pub judged_trace : Readies → Parts → ℕ → List Item → List Item
judged_trace Written g targets items = items
judged_trace Shown g targets items = completed g targets items

-- the faults of a trace whose recording begins there
abbrev pub faults_as : Beginning → Readies → Parts → ℕ → List Item → List BrokenRule
faults_as Start readies g targets items = faults_of readies g targets items
faults_as Middle readies g targets items = all_broken 0 (verdicts_of readies g targets items)

-- what is permitted in a trace whose recording begins there, with a ready that nothing showed
abbrev pub not_shown_as : Beginning → Readies → Parts → ℕ → List Item → List NotShown
not_shown_as Start readies g targets items = not_shown_of readies g targets items
not_shown_as Middle readies g targets items = all_not_shown 0 (verdicts_of readies g targets items)

-- the trace is legal from its start; from the middle on, nothing in it is forbidden whatever was before
abbrev pub IsLegalAs : Beginning → Readies → Parts → ℕ → List Item → Type 0
IsLegalAs Start readies g targets items = is_legal g targets (reverse (judged_trace readies g targets items)) ≡ true
IsLegalAs Middle readies g targets items = faults_as Middle readies g targets items ≡ []

-- all faults, or the first
abbrev pub told_of : Bool → List BrokenRule → List BrokenRule
told_of all faults = if all then faults else take 1 faults

-- ---- of a trace that is looked at so

abbrev pub judged_in : TraceView → List Item → List Item
judged_in v items = judged_trace v.readies v.geometry (count_of v.targets) items

abbrev pub faults_in : TraceView → List Item → List BrokenRule
faults_in v items = faults_as v.beginning v.readies v.geometry (count_of v.targets) items

abbrev pub not_shown_in : TraceView → List Item → List NotShown
not_shown_in v items = not_shown_as v.beginning v.readies v.geometry (count_of v.targets) items

abbrev pub IsLegalIn : TraceView → List Item → Type 0
IsLegalIn v items = IsLegalAs v.beginning v.readies v.geometry (count_of v.targets) items
