-- A run of data cycles of one kind on one target: which rule its first forbidden cycle breaks, and what it leaves.
use Rattle.std.specs.Prelude.{ℕ, zero, suc, List, [], ◌∷◌, Option, Some, None}
use Rattle.nand_geometry.specs.declared.parts.Parts.{Parts}
use Rattle.onfi_cycle.specs.declared.item.Item.{Item}
use Rattle.onfi_cycle.specs.declared.item.Kind.{Kind}
use Rattle.onfi_cycle.specs.declared.forbidden.Forbidden.{Forbidden}
use Rattle.onfi_cycle.specs.Permitted.{broken}
use Rattle.onfi_cycle.specs.Channel.{cycle}
use Rattle.onfi_cycle.specs.State.{BusView, judged, bus_after}

-- a past with cycles of these bytes after it, the first byte first
abbrev pub with_run : Kind → ℕ → List ℕ → List Item → List Item
with_run kind ce [] past = past
with_run kind ce (byte ∷ bytes) past = with_run kind ce bytes (cycle ce kind byte ∷ past)

-- the rule of the first, and where it breaks none that of the rest
abbrev pub first_rule : Option Forbidden → Option Forbidden → Option Forbidden
first_rule None rest = rest
first_rule (Some rule) rest = Some rule

-- the rule that the first forbidden one of these cycles breaks first
abbrev pub broken_run : Parts → ℕ → Kind → ℕ → List ℕ → List Item → Option Forbidden
broken_run g targets kind ce [] past = None
broken_run g targets kind ce (byte ∷ bytes) past =
    first_rule (broken g targets past (cycle ce kind byte)) (broken_run g targets kind ce bytes (cycle ce kind byte ∷ past))

-- the same by a running state, which sees no byte of data
abbrev pub judged_run : Kind → ℕ → ℕ → BusView → Option Forbidden
judged_run kind ce zero s = None
judged_run kind ce (suc count) s = first_rule (judged s (cycle ce kind 0)) (judged_run kind ce count (bus_after (cycle ce kind 0) s))

-- what so many of them leave of a running state
abbrev pub after_run : Kind → ℕ → ℕ → BusView → BusView
after_run kind ce zero s = s
after_run kind ce (suc count) s = after_run kind ce count (bus_after (cycle ce kind 0) s)
