use Rattle.std.proofs.Common.{◌≡◌, ℕ, []}
use Rattle.nand_geometry.specs.declared.parts.Parts.{Parts}
use Rattle.onfi_cycle.specs.Lun.{views_from}
use Rattle.onfi_cycle.proofs.target_state.TargetState.new.Given as goal

abbrev pub invariant-loop-number : goal.invariant-loop-number
invariant-loop-number l = (g : Parts) (ce : ℕ) → l.luns.items ≡ views_from g [] ce l.number 0
