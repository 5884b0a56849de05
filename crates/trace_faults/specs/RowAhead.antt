-- The row that the addresses give which come next on a target.
use Rattle.std.specs.Prelude.{ℕ, ◌-◌, ◌==◌, nat_le, List, [], ◌∷◌, Option, Some, None, if◌then◌else◌}
use Rattle.onfi_cycle.specs.declared.item.Kind.{Kind}
use Rattle.onfi_cycle.specs.declared.item.Kind.TheVariants.{Cmd, Adr, Din, Dout}
use Rattle.onfi_cycle.specs.declared.item.Cycle.{Cycle}
use Rattle.onfi_cycle.specs.declared.item.Item.{Item}
use Rattle.onfi_cycle.specs.declared.item.Item.TheVariants.{Cyc, Rdy, Ard}
use Rattle.onfi_cycle.specs.declared.target_cycle.TargetCycle.{TargetCycle}
use Rattle.onfi_cycle.specs.declared.target_cycle.TargetCycle.TheVariants.{CommandCycle, AddressCycle, InputCycle, OutputCycle}
use Rattle.onfi_cycle.specs.Command.{addresses_the_array, address_cycles}
use Rattle.nand_geometry.specs.Row.{row_of}
use Rattle.onfi_cycle.specs.Sequence.{target_cycle, shifted}
use Rattle.trace_faults.specs.declared.row_ahead.RowComing.{RowComing}
use Rattle.trace_faults.specs.declared.row_ahead.RowStep.{RowStep}
use Rattle.trace_faults.specs.declared.row_ahead.RowStep.TheVariants.{Given, BrokenOff, GoesOn}

-- an address more: the row is the last three of them
abbrev pub with_address : RowComing → ℕ → RowStep
with_address coming byte =
    if nat_le coming.left 1 then Given (row_of coming.row.r2 coming.row.r3 byte) else GoesOn (record { left = coming.left - 1; row = shifted coming.row byte })

abbrev pub step_by : Kind → RowComing → ℕ → RowStep
step_by Cmd coming byte = BrokenOff
step_by Adr coming byte = with_address coming byte
step_by Din coming byte = BrokenOff
step_by Dout coming byte = BrokenOff

-- what an item says of the row that is coming on a target: another cycle of that breaks it off, and so does a ready, which stands there for itself
abbrev pub step_of : ℕ → RowComing → Item → RowStep
step_of ce coming (Cyc c) = if c.ce == ce then step_by c.kind coming c.byte else GoesOn coming
step_of ce coming (Rdy other lun fail) = if other == ce then BrokenOff else GoesOn coming
step_of ce coming (Ard other lun fail) = GoesOn coming

abbrev pub row_by : RowStep → (RowComing → Option ℕ) → Option ℕ
row_by (Given row) more = Some row
row_by BrokenOff more = None
row_by (GoesOn coming) more = more coming

-- the row, once so many addresses have come
abbrev pub row_ahead : ℕ → RowComing → List Item → Option ℕ
row_ahead ce coming [] = None
row_ahead ce coming (i ∷ items) = row_by (step_of ce coming i) (λ coming. row_ahead ce coming items)

-- how many addresses follow an opener whose row is of a LUN that has to be ready; none for any other cycle
abbrev pub array_addresses : TargetCycle → ℕ
array_addresses (CommandCycle c) = if addresses_the_array c then address_cycles c else 0
array_addresses (AddressCycle byte) = 0
array_addresses (InputCycle byte) = 0
array_addresses OutputCycle = 0

abbrev pub row_after : ℕ → (addresses : ℕ) → List Item → Option ℕ
row_after ce addresses later = if addresses == 0 then None else row_ahead ce (record { left = addresses; row = record { r1 = 0; r2 = 0; r3 = 0 } }) later

-- the row that is given to this opener by what comes later
abbrev pub given_row : Cycle → List Item → Option ℕ
given_row c later = row_after c.ce (array_addresses (target_cycle c.kind c.byte)) later
