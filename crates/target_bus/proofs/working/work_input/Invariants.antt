use Rattle.std.proofs.Common.{◌≡◌, ℕ, ◌<◌, List}
use Rattle.nand_geometry.specs.declared.parts.Parts.{Parts}
use Rattle.onfi_cycle.specs.declared.item.Item.{Item}
use Rattle.onfi_cycle.specs.declared.item.Item.TheVariants.{Cyc}
use Rattle.onfi_cycle.specs.State.{Follows}
use Rattle.target_bus.specs.Bus.{LeavesBelow}
use Rattle.target_bus.proofs.working.work_input.Given as goal

abbrev pub invariant-loop-lun : goal.invariant-loop-lun
invariant-loop-lun g l = (l.dies ≡ l.initial.dies) × ((h : Parts) (targets : ℕ) (past : List Item) → Follows h targets l.state past → l.cycle.ce < targets → LeavesBelow h past (Cyc l.cycle) l.cycle.ce l.lun)
