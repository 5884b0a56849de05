-- What a tail of the base profile was before there was a wider one.
use Rattle.std.specs.Prelude.{◌≡◌, ℕ, ◌+◌, ◌==◌, Bool, true, false, ◌&&◌, ◌||◌, not, nat_lt, if◌then◌else◌, List, [], ◌∷◌, Option, Some, None}
use Rattle.nand_geometry.specs.declared.parts.Parts.{Parts}
use Rattle.onfi_cycle.specs.declared.command.Command.{Command}
use Rattle.onfi_cycle.specs.declared.command.Command.TheVariants.{ReadId, ReadParameterPage, ChangeWriteColumn, ProgramConfirm, ProgramPlane}
use Rattle.onfi_cycle.specs.declared.data_phase.DataPhase.{DataPhase}
use Rattle.onfi_cycle.specs.declared.data_phase.DataPhase.TheVariants.{Outside, Inputs, FirstColumn, SecondColumn}
use Rattle.onfi_cycle.specs.declared.item.Item.{Item}
use Rattle.onfi_cycle.specs.declared.item.Item.TheVariants.{Cyc, Rdy, Ard}
use Rattle.onfi_cycle.specs.declared.opening.Opening.{Opening}
use Rattle.onfi_cycle.specs.declared.tail_facts.TailFacts.{TailFacts}
use Rattle.onfi_cycle.specs.declared.target_cycle.TargetCycle.{TargetCycle}
use Rattle.onfi_cycle.specs.declared.target_cycle.TargetCycle.TheVariants.{CommandCycle, AddressCycle, InputCycle, OutputCycle}
use Rattle.onfi_cycle.specs.Command.{is_opener, address_cycles, closes, is_page_program, is_write_column}
use Rattle.onfi_cycle.specs.Sequence.{target_cycle, tail, facts_of, opened, wants_column, one_address_more, phase_after_command, row_after_address, column_after_address, next_address_place, is_proper_beginning}
use Rattle.onfi_cycle.specs.Permitted.{is_legal}
use Rattle.onfi_profiles.specs.Widening.{in_base}

-- ---- the openers

-- the commands that begin a sequence: 85 begins none
abbrev pub base_is_opener : Command → Bool
base_is_opener ChangeWriteColumn = false
base_is_opener c = is_opener c

-- an opener of the base profile is among these, with so many addresses
abbrev pub base_opened : (Command → ℕ → Bool) → Option Opening → Bool
base_opened P o = opened (λ c n. not (is_write_column c) && P c n) o

-- ---- what comes next

abbrev pub base_takes_inputs : DataPhase → Bool
base_takes_inputs Inputs = true
base_takes_inputs _ = false

-- 90h and ECh have one address
abbrev pub base_takes_address : Command → ℕ → Bool
base_takes_address ReadId byte = byte == 0x20
base_takes_address ReadParameterPage byte = byte == 0x00
base_takes_address _ byte = true

abbrev pub base_wants_address : TailFacts → ℕ → Bool
base_wants_address t byte =
    opened (λ c n. base_is_opener c && nat_lt n (address_cycles c) && base_takes_address c byte) t.opening || wants_column t.phase

abbrev pub base_wants_command : TailFacts → Command → Bool
base_wants_command t ChangeWriteColumn = base_takes_inputs t.phase
base_wants_command t ProgramConfirm = base_takes_inputs t.phase
base_wants_command t ProgramPlane = base_takes_inputs t.phase
base_wants_command t d = opened (λ c n. closes c d && n == address_cycles c) t.opening

abbrev pub base_is_open : TailFacts → Bool
base_is_open t = base_opened is_proper_beginning t.opening || base_takes_inputs t.phase || wants_column t.phase

-- ---- what a cycle makes of the facts of a tail

-- the fifth address of a Page Program begins its data
abbrev pub base_phase_after_last_address : Option Opening → DataPhase
base_phase_after_last_address o = if opened (λ c n. is_page_program c && n == 4) o then Inputs else Outside

abbrev pub base_phase_after_address : Option Opening → DataPhase → DataPhase
base_phase_after_address o Outside = base_phase_after_last_address o
base_phase_after_address o FirstColumn = SecondColumn
base_phase_after_address o SecondColumn = Inputs
base_phase_after_address o _ = Outside

abbrev pub base_phase_after_input : DataPhase → DataPhase
base_phase_after_input Inputs = Inputs
base_phase_after_input _ = Outside

abbrev pub base_extended_facts : TargetCycle → TailFacts → TailFacts
base_extended_facts (CommandCycle c) t =
    record {
      opening = if t.is_empty then Some (record { opener = c; addresses = 0 }) else None;
      phase = phase_after_command c t.phase;
      row = t.row;
      column = t.column;
      inputs = 0;
      is_empty = false;
    }
base_extended_facts (AddressCycle byte) t =
    record {
      opening = one_address_more t.opening;
      phase = base_phase_after_address t.opening t.phase;
      row = row_after_address t.opening byte t.row;
      column = column_after_address (next_address_place t.opening t.phase) byte t.column;
      inputs = 0;
      is_empty = false;
    }
base_extended_facts (InputCycle byte) t =
    record { opening = None; phase = base_phase_after_input t.phase; row = t.row; column = t.column; inputs = t.inputs + 1; is_empty = false }
base_extended_facts OutputCycle t = record { opening = None; phase = Outside; row = t.row; column = t.column; inputs = 0; is_empty = false }

abbrev pub base_begins_sequence : TargetCycle → Bool
base_begins_sequence (CommandCycle c) = base_is_opener c
base_begins_sequence (AddressCycle byte) = false
base_begins_sequence (InputCycle byte) = false
base_begins_sequence OutputCycle = false

abbrev pub base_facts_after : TargetCycle → TailFacts → TailFacts
base_facts_after cycle t =
    if base_begins_sequence cycle then base_extended_facts cycle (facts_of []) else (if t.is_empty then t else base_extended_facts cycle t)

-- the facts of a target's tail, one item after the other
abbrev pub base_facts : List Item → ℕ → TailFacts
base_facts [] ce = facts_of []
base_facts (Cyc c ∷ past) ce = if c.ce == ce then base_facts_after (target_cycle c.kind c.byte) (base_facts past ce) else base_facts past ce
base_facts (Rdy _ _ _ ∷ past) ce = base_facts past ce
base_facts (Ard _ _ _ ∷ past) ce = base_facts past ce

-- the law: after a past that is legal in the base profile a tail is what it was
abbrev pub TailsBase : Type 0
TailsBase = (g : Parts) (targets : ℕ) (past : List Item) (ce : ℕ) → is_legal (in_base g) targets past ≡ true → facts_of (tail past ce) ≡ base_facts past ce
