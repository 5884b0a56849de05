use Rattle.std.proofs.Common.{◌≡◌, ◌*◌, ℕ, List, length}
use Rattle.nand_geometry.specs.declared.parts.Parts.{Parts}
use Rattle.onfi_cycle.specs.declared.item.Item.{Item}
use Rattle.onfi_cycle.specs.State.{Follows}
use Rattle.trace_data.specs.Data.{AreWorks}
use Rattle.trace_data.proofs.Steps.{HaveGone}
use Rattle.trace_data.proofs.replaying.go_on_all.Given as goal

abbrev pub invariant-loop-place : goal.invariant-loop-place
invariant-loop-place l =
    (length l.works ≡ length l.initial.works)
    × ((g : Parts) (n : ℕ) (past : List Item) → Follows g n l.state past → length l.initial.works ≡ n * g.luns → l.number ≡ length past
    → AreWorks g past l.initial.works → HaveGone g past l.item l.place l.works)
