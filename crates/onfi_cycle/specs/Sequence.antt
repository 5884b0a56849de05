-- The tail of a target, which is its cycles from the last opener on, and what the rules see of it.
-- A past is a list of items, the newest first; so is a tail.
use Rattle.std.specs.Prelude.{ℕ, ◌%◌, ◌+◌, ◌*◌, ◌==◌, Bool, true, false, ◌||◌, ◌&&◌, not, nat_lt, nat_le, if◌then◌else◌, List, [], ◌∷◌, Option, Some, None, replicate, slice_set, IfSome, ◌≤◌, ◌<◌, ◌^◌}
use Rattle.nand_geometry.specs.Row.{row_of}
use Rattle.onfi_cycle.specs.declared.target_cycle.TargetCycle.{TargetCycle}
use Rattle.onfi_cycle.specs.declared.target_cycle.TargetCycle.TheVariants.{CommandCycle, AddressCycle, InputCycle, OutputCycle}
use Rattle.onfi_cycle.specs.declared.row_bytes.RowBytes.{RowBytes}
use Rattle.onfi_cycle.specs.declared.opening.Opening.{Opening}
use Rattle.onfi_cycle.specs.declared.data_phase.DataPhase.{DataPhase}
use Rattle.onfi_cycle.specs.declared.data_phase.DataPhase.TheVariants.{Outside, Inputs, FirstColumn, SecondColumn, FeatureInputs}
use Rattle.onfi_cycle.specs.declared.tail_facts.TailFacts.{TailFacts}
use Rattle.onfi_cycle.specs.declared.command.Command.{Command}
use Rattle.onfi_cycle.specs.declared.command.Command.TheVariants.{Read, ChangeReadColumnConfirm, ChangeWriteColumn, ProgramConfirm, ProgramPlane, ProgramCache, ReadCacheSequential}
use Rattle.onfi_cycle.specs.declared.item.Kind.{Kind}
use Rattle.onfi_cycle.specs.declared.item.Kind.TheVariants.{Cmd, Adr, Din, Dout}
use Rattle.onfi_cycle.specs.declared.item.Item.{Item}
use Rattle.onfi_cycle.specs.declared.item.Item.TheVariants.{Cyc, Rdy, Ard}
use Rattle.onfi_cycle.specs.Command.{command, is_opener, address_cycles, wants_closer, closes, closes_row, takes_address, is_enhanced_column, begins_data, is_set_features}

-- where an item happens
abbrev pub target_of : Item → ℕ
target_of (Cyc c) = c.ce
target_of (Rdy ce lun fail) = ce
target_of (Ard ce lun fail) = ce

-- a cycle without its chip enable; the byte of an output isn't looked at
abbrev pub target_cycle : Kind → ℕ → TargetCycle
target_cycle Cmd byte = CommandCycle (command byte)
target_cycle Adr byte = AddressCycle byte
target_cycle Din byte = InputCycle byte
target_cycle Dout byte = OutputCycle

-- the cycle is an opener
abbrev pub begins_sequence : TargetCycle → Bool
begins_sequence (CommandCycle c) = is_opener c
begins_sequence (AddressCycle byte) = false
begins_sequence (InputCycle byte) = false
begins_sequence OutputCycle = false

-- a tail goes on with a cycle, if there is a tail
abbrev pub continued : TargetCycle → List TargetCycle → List TargetCycle
continued cycle [] = []
continued cycle (c ∷ t) = cycle ∷ (c ∷ t)

-- an opener, if nothing stands before it
abbrev pub opening_of_command : Command → List TargetCycle → Option Opening
opening_of_command c [] = Some (record { opener = c; addresses = 0 })
opening_of_command c (d ∷ t) = None

abbrev pub one_address_more : Option Opening → Option Opening
one_address_more None = None
one_address_more (Some o) = Some (record { opener = o.opener; addresses = o.addresses + 1 })

-- the opener and how many address cycles follow it, where nothing else does
abbrev pub opening : List TargetCycle → Option Opening
opening [] = None
opening (CommandCycle c ∷ t) = opening_of_command c t
opening (AddressCycle byte ∷ t) = one_address_more (opening t)
opening (InputCycle byte ∷ t) = None
opening (OutputCycle ∷ t) = None

-- a test of the opener and the number of its address cycles so far
abbrev pub opened : (Command → ℕ → Bool) → Option Opening → Bool
opened test None = false
opened test (Some o) = test o.opener o.addresses

-- the data of a program goes on
abbrev pub takes_data : DataPhase → Bool
takes_data Inputs = true
takes_data _ = false

-- a Set Features waits for more of its four bytes
abbrev pub takes_features : DataPhase → Bool
takes_features FeatureInputs = true
takes_features _ = false

-- the next cycle may be an input
abbrev pub takes_inputs : DataPhase → Bool
takes_inputs phase = takes_data phase || takes_features phase

-- the column of a Change Write Column isn't whole yet
abbrev pub wants_column : DataPhase → Bool
wants_column FirstColumn = true
wants_column SecondColumn = true
wants_column _ = false

abbrev pub wants_second_column : DataPhase → Bool
wants_second_column SecondColumn = true
wants_second_column _ = false

-- the fifth address of 80, or of 85, begins the data of a program, and the one of a Set Features its four bytes
abbrev pub phase_after_last_address : Option Opening → DataPhase
phase_after_last_address o =
    if opened (λ c n. begins_data c && n == 4) o then Inputs
    else (if opened (λ c n. is_set_features c && n == 0) o then FeatureInputs
    else Outside)

abbrev pub phase_after_address : Option Opening → DataPhase → DataPhase
phase_after_address o Outside = phase_after_last_address o
phase_after_address o FirstColumn = SecondColumn
phase_after_address o SecondColumn = Inputs
phase_after_address o Inputs = Outside
phase_after_address o FeatureInputs = Outside

abbrev pub phase_after_command : Command → DataPhase → DataPhase
phase_after_command ChangeWriteColumn Inputs = FirstColumn
phase_after_command _ _ = Outside

-- after an input behind so many others; the fourth byte of a Set Features ends it
abbrev pub phase_after_input : ℕ → DataPhase → DataPhase
phase_after_input inputs Inputs = Inputs
phase_after_input inputs FeatureInputs = if nat_lt inputs 3 then FeatureInputs else Outside
phase_after_input inputs _ = Outside

-- the inputs since the last other cycle
abbrev pub inputs : List TargetCycle → ℕ
inputs [] = 0
inputs (CommandCycle c ∷ t) = 0
inputs (AddressCycle byte ∷ t) = 0
inputs (InputCycle byte ∷ t) = inputs t + 1
inputs (OutputCycle ∷ t) = 0

-- where a tail is in the data of a program, or of a Set Features
abbrev pub data_phase : List TargetCycle → DataPhase
data_phase [] = Outside
data_phase (CommandCycle c ∷ t) = phase_after_command c (data_phase t)
data_phase (AddressCycle byte ∷ t) = phase_after_address (opening t) (data_phase t)
data_phase (InputCycle byte ∷ t) = phase_after_input (inputs t) (data_phase t)
data_phase (OutputCycle ∷ t) = Outside

-- three bytes, the oldest pushed out by one more
abbrev pub shifted : RowBytes → ℕ → RowBytes
shifted r byte = record { r1 = r.r2; r2 = r.r3; r3 = byte }

abbrev pub row_after_address : Option Opening → ℕ → RowBytes → RowBytes
row_after_address None byte r = r
row_after_address (Some o) byte r = shifted r byte

-- the last three address bytes of the opener
abbrev pub row_bytes : List TargetCycle → RowBytes
row_bytes [] = record { r1 = 0; r2 = 0; r3 = 0 }
row_bytes (CommandCycle c ∷ t) = row_bytes t
row_bytes (AddressCycle byte ∷ t) = row_after_address (opening t) byte (row_bytes t)
row_bytes (InputCycle byte ∷ t) = row_bytes t
row_bytes (OutputCycle ∷ t) = row_bytes t

abbrev pub next_column_place : DataPhase → ℕ
next_column_place FirstColumn = 0
next_column_place SecondColumn = 1
next_column_place _ = 2

-- which address byte comes next, counted from the last command
abbrev pub next_address_place : Option Opening → DataPhase → ℕ
next_address_place (Some o) d = o.addresses
next_address_place None d = next_column_place d

abbrev pub column_after_address : ℕ → ℕ → ℕ → ℕ
column_after_address place byte k = if place == 0 then byte else (if place == 1 then k % 256 + 256 * byte else k)

-- the column of a tail: the first two address bytes after its last command that takes some
abbrev pub column : List TargetCycle → ℕ
column [] = 0
column (CommandCycle c ∷ t) = column t
column (AddressCycle byte ∷ t) = column_after_address (next_address_place (opening t) (data_phase t)) byte (column t)
column (InputCycle byte ∷ t) = column t
column (OutputCycle ∷ t) = column t

abbrev pub is_nil : List TargetCycle → Bool
is_nil [] = true
is_nil (c ∷ t) = false

-- what the rules see of a tail
abbrev pub facts_of : List TargetCycle → TailFacts
facts_of t =
    record { opening = opening t; phase = data_phase t; row = row_bytes t; column = column t; inputs = inputs t; is_empty = is_nil t }

-- the next cycle may be this address
abbrev pub wants_address : TailFacts → ℕ → Bool
wants_address t byte =
    opened (λ c n. is_opener c && nat_lt n (address_cycles c) && takes_address c byte) t.opening || wants_column t.phase

-- the next cycle may be this command, which closes the sequence or is amid its data
abbrev pub wants_command : TailFacts → Command → Bool
wants_command t ChangeWriteColumn = takes_data t.phase
wants_command t ProgramConfirm = takes_data t.phase
wants_command t ProgramPlane = takes_data t.phase
wants_command t ProgramCache = takes_data t.phase
wants_command t d = opened (λ c n. closes c d && n == address_cycles c) t.opening

-- the sequence is a Change Read Column Enhanced with its row, which E0 closes
abbrev pub selects_plane : TailFacts → Bool
selects_plane t = opened (λ c n. is_enhanced_column c && n == 5) t.opening

-- the command works on the row of its tail: the closers of a row, of which 31 is one where the tail wants it, and E0 one behind 06
abbrev pub works_on_row : TailFacts → Command → Bool
works_on_row t ReadCacheSequential = wants_command t ReadCacheSequential
works_on_row t ChangeReadColumnConfirm = selects_plane t
works_on_row t c = closes_row c

-- an opener goes on with the tail: a 31 that it wants, and an 85 in the data of a program
abbrev pub goes_on_with : TailFacts → Command → Bool
goes_on_with t ReadCacheSequential = wants_command t ReadCacheSequential
goes_on_with t ChangeWriteColumn = wants_command t ChangeWriteColumn
goes_on_with t c = false

-- a tail begins anew with the cycle: with an opener that doesn't go on with it
abbrev pub begins_anew : TailFacts → TargetCycle → Bool
begins_anew t (CommandCycle c) = is_opener c && not (goes_on_with t c)
begins_anew t (AddressCycle byte) = false
begins_anew t (InputCycle byte) = false
begins_anew t OutputCycle = false

-- a tail with one cycle more
abbrev pub with_cycle : TargetCycle → List TargetCycle → List TargetCycle
with_cycle cycle t = if begins_anew (facts_of t) cycle then cycle ∷ [] else continued cycle t

-- the tail: the cycles of a target from its last opener on that began it anew, the newest first
abbrev pub tail : List Item → ℕ → List TargetCycle
tail [] ce = []
tail (Cyc c ∷ past) ce = if c.ce == ce then with_cycle (target_cycle c.kind c.byte) (tail past ce) else tail past ce
tail (Rdy _ _ _ ∷ past) ce = tail past ce
tail (Ard _ _ _ ∷ past) ce = tail past ce

-- the tail with this cycle is a beginning of a sequence
abbrev pub wants : TailFacts → TargetCycle → Bool
wants t (CommandCycle c) = wants_command t c
wants t (AddressCycle byte) = wants_address t byte
wants t (InputCycle byte) = takes_inputs t.phase
wants t OutputCycle = false

-- an opener with so many address cycles is a proper beginning of a sequence, and not the command 00 alone
abbrev pub is_proper_beginning : Command → ℕ → Bool
is_proper_beginning Read n = nat_lt 0 n && nat_le n 5
is_proper_beginning c n = nat_lt n (address_cycles c) || (n == address_cycles c && wants_closer c)

-- the tail has begun a sequence of the table and not ended it; a lone 00 doesn't count
abbrev pub is_open : TailFacts → Bool
is_open t = opened is_proper_beginning t.opening || takes_inputs t.phase || wants_column t.phase

-- the row of a tail, and with one address more
abbrev pub row : TailFacts → ℕ
row t = row_of t.row.r1 t.row.r2 t.row.r3

abbrev pub row_with : TailFacts → ℕ → ℕ
row_with t byte = row_of t.row.r2 t.row.r3 byte

-- the column with its second address
abbrev pub column_with : TailFacts → ℕ → ℕ
column_with t byte = t.column % 256 + 256 * byte

-- the column of the next input of a program
abbrev pub input_column : TailFacts → ℕ
input_column t = t.column + t.inputs

-- the bytes of a program that began with these: in each column the newest input there
abbrev pub filled : List ℕ → List TargetCycle → List ℕ
filled begun [] = begun
filled begun (CommandCycle c ∷ t) = filled begun t
filled begun (AddressCycle byte ∷ t) = filled begun t
filled begun (InputCycle byte ∷ t) = slice_set (filled begun t) (input_column (facts_of t)) byte
filled begun (OutputCycle ∷ t) = filled begun t

-- what one cycle more makes of the facts of a tail
abbrev pub extended_facts : TargetCycle → TailFacts → TailFacts
extended_facts (CommandCycle c) t =
    record {
      opening = if t.is_empty then Some (record { opener = c; addresses = 0 }) else None;
      phase = phase_after_command c t.phase;
      row = t.row;
      column = t.column;
      inputs = 0;
      is_empty = false;
    }
extended_facts (AddressCycle byte) t =
    record {
      opening = one_address_more t.opening;
      phase = phase_after_address t.opening t.phase;
      row = row_after_address t.opening byte t.row;
      column = column_after_address (next_address_place t.opening t.phase) byte t.column;
      inputs = 0;
      is_empty = false;
    }
extended_facts (InputCycle byte) t =
    record { opening = None; phase = phase_after_input t.inputs t.phase; row = t.row; column = t.column; inputs = t.inputs + 1; is_empty = false }
extended_facts OutputCycle t = record { opening = None; phase = Outside; row = t.row; column = t.column; inputs = 0; is_empty = false }

-- what a cycle makes of them; where there is no tail nothing but an opener begins one
abbrev pub facts_after : TargetCycle → TailFacts → TailFacts
facts_after cycle t = if begins_anew t cycle then extended_facts cycle (facts_of []) else (if t.is_empty then t else extended_facts cycle t)

-- a bound on the counts of a tail, for numbers of fixed width
pub record AreSmall (n : ℕ) (t : TailFacts) : Type 0 where
  pub column : t.column < 2 ^ 16
  pub inputs : t.inputs ≤ n
  pub opening : IfSome t.opening (λ o. o.addresses ≤ n)
