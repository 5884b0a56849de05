use Rattle.std.proofs.Common.{◌+◌, ◌≤◌, List, length}
use Rattle.std.specs.Str.{IsUtf8}
use Rattle.onfi_cycle.specs.declared.item.Item.{Item}
use Rattle.trace_text.proofs.Loop.{IsSoFar}
use Rattle.trace_text.proofs.parsing.count_items.Given as goal

abbrev pub invariant-lines : goal.invariant-lines
invariant-lines l = record { counted : l.count + length l.rest ≤ length l.text; utf8 : IsUtf8 l.rest; so_far : (front : List Item) × IsSoFar l.profile (l.count + 1) l.rest l.text front }

abbrev pub decreases-lines : goal.decreases-lines
decreases-lines l = length l.rest
