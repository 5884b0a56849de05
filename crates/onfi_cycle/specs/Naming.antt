-- The row and the column that a tail names: its last three row cycles and its last two column cycles.
use Rattle.std.specs.Prelude.{◌≡◌, ℕ, ◌+◌, ◌*◌, ◌<◌, Bool, true, false, nat_lt, nat_le, if◌then◌else◌, List, [], ◌∷◌, reverse, length, Option, Some, None}
use Rattle.nand_geometry.specs.Row.{row_of}
use Rattle.onfi_cycle.specs.declared.command.Command.{Command}
use Rattle.onfi_cycle.specs.declared.command.Command.TheVariants.{Read, ChangeReadColumn, ChangeReadColumnEnhanced, BlockErase, ReadStatusEnhanced, PageProgram, ChangeWriteColumn, ResetLun}
use Rattle.onfi_cycle.specs.declared.opening.Opening.{Opening}
use Rattle.onfi_cycle.specs.declared.target_cycle.TargetCycle.{TargetCycle}
use Rattle.onfi_cycle.specs.declared.target_cycle.TargetCycle.TheVariants.{CommandCycle, AddressCycle, InputCycle, OutputCycle}
use Rattle.onfi_cycle.specs.Sequence.{one_address_more, opened, opening, data_phase, next_address_place, facts_of, row, row_with, column, column_with}
use Rattle.onfi_cycle.specs.Table.{IsBeginning}

-- a command, and how many address cycles have come since
abbrev pub since_command : List TargetCycle → Option Opening
since_command [] = None
since_command (CommandCycle c ∷ t) = Some (record { opener = c; addresses = 0 })
since_command (AddressCycle byte ∷ t) = one_address_more (since_command t)
since_command (InputCycle byte ∷ t) = since_command t
since_command (OutputCycle ∷ t) = since_command t

-- after this command and so many addresses the next address is of a row
abbrev pub is_row_place : Command → ℕ → Bool
is_row_place Read n = nat_le 2 n
is_row_place ChangeReadColumnEnhanced n = nat_le 2 n
is_row_place PageProgram n = nat_le 2 n
is_row_place ChangeWriteColumn n = nat_le 2 n
is_row_place BlockErase n = true
is_row_place ReadStatusEnhanced n = true
is_row_place ResetLun n = true
is_row_place _ n = false

-- and of a column
abbrev pub is_column_place : Command → ℕ → Bool
is_column_place Read n = nat_lt n 2
is_column_place ChangeReadColumnEnhanced n = nat_lt n 2
is_column_place PageProgram n = nat_lt n 2
is_column_place ChangeReadColumn n = true
is_column_place ChangeWriteColumn n = nat_lt n 2
is_column_place _ n = false

-- the address bytes of a tail at the places that pass, the newest first
abbrev pub bytes_at : (Command → ℕ → Bool) → List TargetCycle → List ℕ
bytes_at place [] = []
bytes_at place (CommandCycle c ∷ t) = bytes_at place t
bytes_at place (AddressCycle byte ∷ t) = if opened place (since_command t) then byte ∷ bytes_at place t else bytes_at place t
bytes_at place (InputCycle byte ∷ t) = bytes_at place t
bytes_at place (OutputCycle ∷ t) = bytes_at place t

-- the row cycles of a tail, and its column cycles, the newest first
abbrev pub row_cycles : List TargetCycle → List ℕ
row_cycles t = bytes_at is_row_place t

abbrev pub column_cycles : List TargetCycle → List ℕ
column_cycles t = bytes_at is_column_place t

-- column bytes come in pairs, the low byte first: all of them have come whole
abbrev pub AreWhole : List ℕ → Type 0
AreWhole columns = (pairs : ℕ) × (length columns ≡ 2 * pairs)

-- of each tail that is a beginning of a sequence: its row is that of its last three row cycles, and its column that of its
-- last two column cycles, where these have come whole; what the rules see with one address byte more is the row, or the
-- column, of the tail with that byte
pub record TailsName : Type 0 where
  pub names_row : (t : List TargetCycle) → IsBeginning (reverse t) → (r1 r2 r3 : ℕ) (older : List ℕ) → row_cycles t ≡ r3 ∷ (r2 ∷ (r1 ∷ older)) → row (facts_of t) ≡ row_of r1 r2 r3
  pub names_column : (t : List TargetCycle) → IsBeginning (reverse t) → AreWhole (column_cycles t) → (c1 c2 : ℕ) (older : List ℕ) → column_cycles t ≡ c2 ∷ (c1 ∷ older) → c1 < 256 → column t ≡ c1 + 256 * c2
  pub next_row : (t : List TargetCycle) (byte : ℕ) (o : Opening) → opening t ≡ Some o → row_with (facts_of t) byte ≡ row (facts_of (AddressCycle byte ∷ t))
  pub next_column : (t : List TargetCycle) (byte : ℕ) → next_address_place (opening t) (data_phase t) ≡ 1 → column_with (facts_of t) byte ≡ column (AddressCycle byte ∷ t)
