-- A run of outputs on one target: which rule its first forbidden output breaks, and what it leaves.
use Rattle.std.specs.Prelude.{ℕ, ◌+◌, ◌^◌, ◌≤◌, ◌&&◌, Bool, false, nat_lt, if◌then◌else◌, List, [], ◌∷◌, Option, Some, None, map}
use Rattle.nand_geometry.specs.declared.parts.Parts.{Parts}
use Rattle.onfi_cycle.specs.declared.item.Item.{Item}
use Rattle.onfi_cycle.specs.declared.item.Kind.TheVariants.{Dout}
use Rattle.onfi_cycle.specs.declared.forbidden.Forbidden.{Forbidden}
use Rattle.onfi_cycle.specs.declared.forbidden.Forbidden.TheVariants.{ColumnOutside}
use Rattle.onfi_cycle.specs.declared.target_cycle.TargetCycle.TheVariants.{OutputCycle}
use Rattle.onfi_cycle.specs.LunView.{LunView}
use Rattle.onfi_cycle.specs.Sequence.{facts_after}
use Rattle.onfi_cycle.specs.Effect.{is_data}
use Rattle.onfi_cycle.specs.Lun.{output_column}
use Rattle.onfi_cycle.specs.Rules.{driver_is, register_len}
use Rattle.onfi_cycle.specs.State.{TargetView, BusView, changed_at}
use Rattle.onfi_cycle.specs.Runs.{with_run, broken_run, judged_run, after_run}

-- a past with outputs of these bytes after it, the first byte first
abbrev pub with_outputs : ℕ → List ℕ → List Item → List Item
with_outputs = with_run Dout

-- the rule that the first forbidden one of these outputs breaks first
abbrev pub broken_outputs : Parts → ℕ → ℕ → List ℕ → List Item → Option Forbidden
broken_outputs g targets = broken_run g targets Dout

-- the same by a running state
abbrev pub judged_outputs : ℕ → ℕ → BusView → Option Forbidden
judged_outputs = judged_run Dout

-- what so many outputs leave of a running state
abbrev pub after_outputs : ℕ → ℕ → BusView → BusView
after_outputs = after_run Dout

-- a LUN that has given so many bytes more, where it shows data
abbrev pub given_on : ℕ → LunView → LunView
given_on count v = if is_data v.latch then record v { column = record v.column { outputs = v.column.outputs + count } } else v

-- a target with one driver after so many outputs, one at least
abbrev pub given_target : ℕ → TargetView → TargetView
given_target count s = record { tail = facts_after OutputCycle s.tail; luns = map (given_on count) s.luns }

abbrev pub given_bus : ℕ → ℕ → BusView → BusView
given_bus ce count s = record { geometry = s.geometry; targets = changed_at (given_target count) ce s.targets }

abbrev pub is_over : Option ℕ → ℕ → ℕ → Bool
is_over None count len = false
is_over (Some k) count len = nat_lt len (k + count)

-- the LUN shows data, and has fewer bytes left than these
abbrev pub has_fewer : Parts → ℕ → LunView → Bool
has_fewer g count v = is_data v.latch && is_over (output_column v.column) count (register_len g v.register)

-- what is against so many outputs, one at least, whose first is permitted
abbrev pub against_rest : Parts → ℕ → List LunView → Option Forbidden
against_rest g count luns = if driver_is (has_fewer g count) luns then Some ColumnOutside else None

-- none of these LUNs has given more bytes than a register may have
abbrev pub AreFew : List LunView → Type 0
AreFew [] = Unit {0}
AreFew (v ∷ vs) = (v.column.outputs ≤ 2 ^ 16) × AreFew vs
