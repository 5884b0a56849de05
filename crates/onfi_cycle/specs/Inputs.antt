-- A run of inputs on one target: which rule its first forbidden input breaks, and what it leaves.
use Rattle.std.specs.Prelude.{ℕ, ◌+◌, Bool, false, nat_lt, if◌then◌else◌, List, Option, Some, None}
use Rattle.nand_geometry.specs.declared.parts.Parts.{Parts}
use Rattle.nand_geometry.specs.Limits.{page_len}
use Rattle.onfi_cycle.specs.declared.item.Item.{Item}
use Rattle.onfi_cycle.specs.declared.item.Kind.TheVariants.{Din}
use Rattle.onfi_cycle.specs.declared.forbidden.Forbidden.{Forbidden}
use Rattle.onfi_cycle.specs.declared.forbidden.Forbidden.TheVariants.{InputMisplaced, ColumnOutside}
use Rattle.onfi_cycle.specs.declared.tail_facts.TailFacts.{TailFacts}
use Rattle.onfi_cycle.specs.Sequence.{takes_features, input_column}
use Rattle.onfi_cycle.specs.State.{TargetView, BusView, changed_at}
use Rattle.onfi_cycle.specs.Runs.{with_run, broken_run, judged_run, after_run}

-- a past with inputs of these bytes after it, the first byte first
abbrev pub with_inputs : ℕ → List ℕ → List Item → List Item
with_inputs = with_run Din

-- the rule that the first forbidden one of these inputs breaks first
abbrev pub broken_inputs : Parts → ℕ → ℕ → List ℕ → List Item → Option Forbidden
broken_inputs g targets = broken_run g targets Din

-- the same by a running state
abbrev pub judged_inputs : ℕ → ℕ → BusView → Option Forbidden
judged_inputs = judged_run Din

-- what so many inputs leave of a running state
abbrev pub after_inputs : ℕ → ℕ → BusView → BusView
after_inputs = after_run Din

-- a tail in the data of a program with so many inputs more, one at least
abbrev pub fed_tail : ℕ → TailFacts → TailFacts
fed_tail count t =
    record { opening = None; phase = t.phase; row = t.row; column = t.column; inputs = t.inputs + count; is_empty = false }

-- a target after so many inputs of a program, one at least, whose first is permitted
abbrev pub fed_target : ℕ → TargetView → TargetView
fed_target count s = record { tail = fed_tail count s.tail; luns = s.luns }

abbrev pub fed_bus : ℕ → ℕ → BusView → BusView
fed_bus ce count s = record { geometry = s.geometry; targets = changed_at (fed_target count) ce s.targets }

-- the page has no place for so many inputs more
abbrev pub has_no_room : Parts → ℕ → TailFacts → Bool
has_no_room g count t = nat_lt (page_len g) (input_column t + count)

-- a Set Features takes fewer inputs more than these
abbrev pub takes_fewer_features : ℕ → TailFacts → Bool
takes_fewer_features count t = nat_lt 4 (t.inputs + count)

-- what is against so many inputs, one at least, whose first is permitted: the page has no place for all, or a Set Features takes fewer
abbrev pub against_inputs : Parts → ℕ → TailFacts → Option Forbidden
against_inputs g count t =
    if takes_features t.phase then (if takes_fewer_features count t then Some InputMisplaced else None)
    else (if has_no_room g count t then Some ColumnOutside else None)
