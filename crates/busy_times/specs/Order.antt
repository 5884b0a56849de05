-- What is told of a trace, in the order of its items.
use Rattle.std.specs.Prelude.{List}
use Rattle.std.specs.Ordering.{nat_cmp}
use Rattle.std.specs.List.Sorted.{IsPermutation, IsNonDecreasingBy, IsStableByKey}
use Rattle.trace_timing.specs.declared.violation.Violation.{Violation}

-- the same violations in the order of their items, and those of one item in their old order
abbrev pub IsInOrder : List Violation → List Violation → Type 0
IsInOrder told ordered =
    IsPermutation told ordered × IsNonDecreasingBy (λ (v : Violation). v.item) ordered × IsStableByKey (λ (v : Violation). v.item) nat_cmp told ordered
