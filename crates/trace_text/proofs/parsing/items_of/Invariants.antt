use Rattle.std.proofs.Common.{◌+◌, length}
use Rattle.std.specs.Str.{IsUtf8}
use Rattle.trace_text.proofs.Loop.{IsSoFar}
use Rattle.trace_text.proofs.parsing.items_of.Given as goal

abbrev pub invariant-lines : goal.invariant-lines
invariant-lines g l = record { utf8 : IsUtf8 l.rest; so_far : IsSoFar l.profile (length l.items.items + 1) l.rest l.text l.items.items }

abbrev pub decreases-lines : goal.decreases-lines
decreases-lines g l = length l.rest
