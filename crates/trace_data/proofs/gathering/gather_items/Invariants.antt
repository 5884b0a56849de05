use Rattle.std.proofs.Common.{◌≡◌, List, [], length}
use Rattle.onfi_cycle.specs.declared.item.Item.{Item}
use Rattle.onfi_cycle.specs.State.{Follows}
use Rattle.trace_data.specs.Reads.{nothing_gathered, gathered_from}
use Rattle.trace_data.proofs.gathering.gather_items.Given as goal

abbrev pub invariant-rest : goal.invariant-rest
invariant-rest l = (past : List Item) × Follows l.geometry l.targets l.state past
    × (gathered_from l.geometry l.targets l.lun past l.rest l.gathered ≡ gathered_from l.geometry l.targets l.lun [] l.items nothing_gathered)

abbrev pub decreases-rest : goal.decreases-rest
decreases-rest l = length l.rest
