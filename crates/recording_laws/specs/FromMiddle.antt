-- What a check says of a part of a legal trace, whose recording began in its middle.
use Rattle.std.specs.Prelude.{◌≡◌, ℕ, ◌≤◌, ◌++◌, true, List, [], reverse}
use Rattle.nand_geometry.specs.declared.parts.Parts.{Parts}
use Rattle.onfi_cycle.specs.declared.item.Item.{Item}
use Rattle.onfi_cycle.specs.Permitted.{is_legal}
use Rattle.trace_faults.specs.declared.readies.Readies.TheVariants.{Written}
use Rattle.trace_faults.specs.Middle.{verdicts_of, all_broken}

-- no rule is broken by what is left of a legal trace whose first items weren't recorded, where its readies are written
abbrev pub PartsHaveNoFaults : Type 0
PartsHaveNoFaults =
    (g : Parts) (targets : ℕ) (unseen items : List Item) → targets ≤ 4 → g.luns ≤ 4 → is_legal g targets (reverse (unseen ++ items)) ≡ true →
    all_broken 0 (verdicts_of Written g targets items) ≡ []
