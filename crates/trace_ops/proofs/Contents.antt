-- What an operation keeps of the tail of its target: who opened it, and whether a command has closed it.
use Rattle.std.proofs.Common.{◌≡◌, ◌⊎◌, inl, inr, ℕ, ◌==◌, Bool, true, false, ◌&&◌, ◌||◌, not, cond, List, [], ◌∷◌, Option, Some, None, is_some, refl, sym, ap, ◌∙◌, eqb-true, ltb, if◌then◌else◌}
use Rattle.std.proofs.Math.Bool.{and-false}
use Rattle.std.proofs.lemmas.Bool.{and_parts}
use Rattle.onfi_cycle.specs.declared.command.Command.{Command}
use Rattle.onfi_cycle.specs.declared.command.Command.TheVariants.{Read, ReadConfirm, ChangeReadColumn, ChangeReadColumnEnhanced, ChangeReadColumnConfirm, BlockErase, BlockEraseConfirm, BlockErasePlane, ReadStatus, ReadStatusEnhanced, PageProgram, ChangeWriteColumn, ProgramConfirm, ProgramPlane, ReadId, ReadParameterPage, Reset, ReadCacheSequential, ReadCacheEnd, ReadUniqueId, GetFeatures, SetFeatures, ResetLun, SynchronousReset, Unknown, ReadPlane, CopybackRead, ProgramCache}
use Rattle.onfi_cycle.specs.declared.data_phase.DataPhase.{DataPhase}
use Rattle.onfi_cycle.specs.declared.data_phase.DataPhase.TheVariants.{Outside, Inputs, FirstColumn, SecondColumn, FeatureInputs}
use Rattle.onfi_cycle.specs.declared.opening.Opening.{Opening}
use Rattle.onfi_cycle.specs.declared.target_cycle.TargetCycle.{TargetCycle}
use Rattle.onfi_cycle.specs.declared.target_cycle.TargetCycle.TheVariants.{CommandCycle, AddressCycle, InputCycle, OutputCycle}
use Rattle.onfi_cycle.specs.Base.{is_of_base}
use Rattle.onfi_cycle.specs.Command.{command, opcode, is_known, begins_data, is_set_features}
use Rattle.onfi_cycle.specs.Sequence.{continued, opening, one_address_more, inputs, data_phase, phase_after_last_address, phase_after_address, phase_after_command, phase_after_input, facts_of, wants_command, takes_data}
use Rattle.onfi_cycle.proofs.CommandBytes.{commands_have_bytes}
use Rattle.trace_ops.specs.declared.operation.Beginning.{Beginning}
use Rattle.trace_ops.specs.declared.operation.Beginning.TheVariants as begins
use Rattle.trace_ops.specs.declared.operation.Operation.{Operation}
use Rattle.trace_faults.specs.Outside.{begins_alone}
use Rattle.trace_ops.specs.Operation.{opener_of, is_byte, is_unknown, closes_as_known, is_open_program}
use Rattle.trace_ops.specs.Listing.{is_open_program_op, is_open_read_op, closes_read, opens_alone, begins_one}
use Rattle.trace_ops.proofs.Spans.{same_some}

-- the operation began with this opener, and no command has closed it
pub record Opens (b : Beginning) (closer : Option ℕ) (o : Opening) : Type 0 where
  pub byte : ℕ
  pub begun : b ≡ begins.Opener byte
  pub is_of : command byte ≡ o.opener
  pub unclosed : closer ≡ None

abbrev pub in_program : DataPhase → Bool
in_program Outside = false
in_program Inputs = true
in_program FirstColumn = true
in_program SecondColumn = true
in_program FeatureInputs = false

abbrev pub is_program_open : Beginning → Option ℕ → Bool
is_program_open b closer = (is_byte (opener_of b) 0x80 || is_byte (opener_of b) 0x85) && not (is_some closer)

pub record Content (b : Beginning) (closer : Option ℕ) (t : List TargetCycle) : Type 0 where
  pub opens : (o : Opening) → opening t ≡ Some o → Opens b closer o
  pub program : in_program (data_phase t) ≡ true → is_program_open b closer ≡ true

-- ---- the bytes of commands

not_unknown : (c : Command) (byte : ℕ) → opcode c ≡ Some byte → c ≡ Unknown → ⊥
not_unknown c byte h e = none (sym h ∙ ap opcode e)
  where
    none : Some byte ≡ None → ⊥
    none e = cc

pub byte_of : (byte code : ℕ) (c : Command) → opcode c ≡ Some code → command byte ≡ c → byte ≡ code
byte_of byte code c h is =
    let known : command byte ≡ Unknown → ⊥ = λ e. not_unknown c code h (sym is ∙ e) in
    same_some (sym (commands_have_bytes.byte_of_command byte known) ∙ ap opcode is ∙ h)

-- ---- one cycle more

pub content_output : (b : Beginning) (closer : Option ℕ) (t : List TargetCycle) → Content b closer (continued OutputCycle t)
content_output b closer [] = record { opens = λ o h. none o h; program = λ h. cc }
  where
    none : (o : Opening) → None ≡ Some o → Opens b closer o
    none o h = cc
content_output b closer (c ∷ t) = record { opens = λ o h. none o h; program = λ h. cc }
  where
    none : (o : Opening) → None ≡ Some o → Opens b closer o
    none o h = cc

after_nothing : (c : Command) → in_program (phase_after_command c Outside) ≡ true → ⊥
after_nothing Read h = cc
after_nothing ReadConfirm h = cc
after_nothing ChangeReadColumn h = cc
after_nothing ChangeReadColumnEnhanced h = cc
after_nothing ChangeReadColumnConfirm h = cc
after_nothing BlockErase h = cc
after_nothing BlockEraseConfirm h = cc
after_nothing BlockErasePlane h = cc
after_nothing ReadPlane h = cc
after_nothing CopybackRead h = cc
after_nothing ProgramCache h = cc
after_nothing ReadStatus h = cc
after_nothing ReadStatusEnhanced h = cc
after_nothing PageProgram h = cc
after_nothing ChangeWriteColumn h = cc
after_nothing ProgramConfirm h = cc
after_nothing ProgramPlane h = cc
after_nothing ReadId h = cc
after_nothing ReadParameterPage h = cc
after_nothing Reset h = cc
after_nothing ReadCacheSequential h = cc
after_nothing ReadCacheEnd h = cc
after_nothing ReadUniqueId h = cc
after_nothing GetFeatures h = cc
after_nothing SetFeatures h = cc
after_nothing ResetLun h = cc
after_nothing SynchronousReset h = cc
after_nothing Unknown h = cc

pub content_opener : (byte : ℕ) → Content (begins.Opener byte) None (CommandCycle (command byte) ∷ [])
content_opener byte = record {
  opens = λ o h. record { byte = byte; begun = refl; is_of = ap (λ (x : Opening). x.opener) (same_some h); unclosed = refl };
  program = λ h. absurd (after_nothing (command byte) h);
}

-- a command in the data of a program that leaves it there changes the column
column_alone : (c : Command) (d : DataPhase) → in_program (phase_after_command c d) ≡ true → (c ≡ ChangeWriteColumn) × (in_program d ≡ true)
column_alone ChangeWriteColumn Outside h = cc
column_alone ChangeWriteColumn Inputs h = (refl, refl)
column_alone ChangeWriteColumn FirstColumn h = cc
column_alone ChangeWriteColumn SecondColumn h = cc
column_alone ChangeWriteColumn FeatureInputs h = cc
column_alone Read d h = cc
column_alone ReadConfirm d h = cc
column_alone ChangeReadColumn d h = cc
column_alone ChangeReadColumnEnhanced d h = cc
column_alone ChangeReadColumnConfirm d h = cc
column_alone BlockErase d h = cc
column_alone BlockEraseConfirm d h = cc
column_alone BlockErasePlane d h = cc
column_alone ReadPlane d h = cc
column_alone CopybackRead d h = cc
column_alone ProgramCache d h = cc
column_alone ReadStatus d h = cc
column_alone ReadStatusEnhanced d h = cc
column_alone PageProgram d h = cc
column_alone ProgramConfirm d h = cc
column_alone ProgramPlane d h = cc
column_alone ReadId d h = cc
column_alone ReadParameterPage d h = cc
column_alone Reset d h = cc
column_alone ReadCacheSequential d h = cc
column_alone ReadCacheEnd d h = cc
column_alone ReadUniqueId d h = cc
column_alone GetFeatures d h = cc
column_alone SetFeatures d h = cc
column_alone ResetLun d h = cc
column_alone SynchronousReset d h = cc
column_alone Unknown d h = cc

-- the closer once a command has come
abbrev pub closer_by : Beginning → Option ℕ → ℕ → Option ℕ
closer_by b closer byte = if is_some closer || (byte == 0x85 || is_byte (opener_of b) byte) then closer else Some byte

closer_stays : (b : Beginning) (closer : Option ℕ) (byte : ℕ) → byte ≡ 0x85 → closer_by b closer byte ≡ closer
closer_stays b closer byte h = ap (λ n. closer_by b closer n) h ∙ at (is_some closer)
  where
    at : (x : Bool) → cond (x || true) closer (Some 0x85) ≡ closer
    at true = refl
    at false = refl

pub content_command : (b : Beginning) (closer : Option ℕ) (byte : ℕ) (d : TargetCycle) (t : List TargetCycle) → Content b closer (d ∷ t) →
    Content b (closer_by b closer byte) (CommandCycle (command byte) ∷ (d ∷ t))
content_command b closer byte d t was = record {
  opens = λ o h. none o h;
  program = λ h. (
      let both = column_alone (command byte) (data_phase (d ∷ t)) h in
      ap (is_program_open b) (closer_stays b closer byte (byte_of byte 0x85 ChangeWriteColumn refl both.0)) ∙ was.program both.1
      );
}
  where
    none : (o : Opening) → None ≡ Some o → Opens b (closer_by b closer byte) o
    none o h = cc

pub one_less : (x : Option Opening) (o : Opening) → one_address_more x ≡ Some o → (y : Opening) × (x ≡ Some y) × (y.opener ≡ o.opener)
one_less None o h = cc
one_less (Some y) o h = (y, refl, ap (λ (z : Opening). z.opener) (same_some h))

is_program : (c : Command) → begins_data c ≡ true → (c ≡ PageProgram) ⊎ (c ≡ ChangeWriteColumn)
is_program PageProgram h = inl refl
is_program ChangeWriteColumn h = inr refl
is_program c h = cc

-- the fifth address of a program is behind its opener
opens_data : (b : Beginning) (closer : Option ℕ) (x : Option Opening) → ((o : Opening) → x ≡ Some o → Opens b closer o) →
    in_program (phase_after_last_address x) ≡ true → is_program_open b closer ≡ true
opens_data b closer None opens h = cc
opens_data b closer (Some o) opens h = at (begins_data o.opener && o.addresses == 4) refl (is_set_features o.opener && o.addresses == 0) h
  where
    of : (byte code : ℕ) → b ≡ begins.Opener byte → closer ≡ None → byte ≡ code → is_program_open (begins.Opener code) None ≡ true → is_program_open b closer ≡ true
    of byte code begun unclosed same so =
        ap (λ (z : Beginning). is_program_open z closer) begun ∙ ap (λ (n : ℕ). is_program_open (begins.Opener n) closer) same ∙ ap (λ (z : Option ℕ). is_program_open (begins.Opener code) z) unclosed ∙ so

    at : (p : Bool) → (begins_data o.opener && o.addresses == 4) ≡ p → (q : Bool) → in_program (cond p Inputs (cond q FeatureInputs Outside)) ≡ true → is_program_open b closer ≡ true
    at true e q h =
        let mine = opens o refl in
        elim (is_program o.opener (and_parts _ _ e).0) [
          | inl whole ↦ of mine.byte 0x80 mine.begun mine.unclosed (byte_of mine.byte 0x80 PageProgram refl (mine.is_of ∙ whole)) refl
          | inr whole ↦ of mine.byte 0x85 mine.begun mine.unclosed (byte_of mine.byte 0x85 ChangeWriteColumn refl (mine.is_of ∙ whole)) refl
        ]
    at false e true h = cc
    at false e false h = cc

pub content_address : (b : Beginning) (closer : Option ℕ) (byte : ℕ) (t : List TargetCycle) → Content b closer t → Content b closer (AddressCycle byte ∷ t)
content_address b closer byte t was = record {
  opens = λ o h. (
      let less = one_less (opening t) o h in
      let mine = was.opens less.0 less.1 in
      record { byte = mine.byte; begun = mine.begun; is_of = mine.is_of ∙ less.2; unclosed = mine.unclosed }
      );
  program = λ h. at (data_phase t) refl h;
}
  where
    at : (d : DataPhase) → data_phase t ≡ d → in_program (phase_after_address (opening t) d) ≡ true → is_program_open b closer ≡ true
    at Outside e h = opens_data b closer (opening t) was.opens h
    at Inputs e h = cc
    at FirstColumn e h = was.program (ap in_program e)
    at SecondColumn e h = was.program (ap in_program e)
    at FeatureInputs e h = cc

pub content_input : (b : Beginning) (closer : Option ℕ) (byte : ℕ) (t : List TargetCycle) → Content b closer t → Content b closer (InputCycle byte ∷ t)
content_input b closer byte t was = record { opens = λ o h. none o h; program = λ h. at (data_phase t) refl h }
  where
    none : (o : Opening) → None ≡ Some o → Opens b closer o
    none o h = cc

    fourth : (x : Bool) → in_program (cond x FeatureInputs Outside) ≡ true → is_program_open b closer ≡ true
    fourth true h = cc
    fourth false h = cc

    at : (d : DataPhase) → data_phase t ≡ d → in_program (phase_after_input (inputs t) d) ≡ true → is_program_open b closer ≡ true
    at Outside e h = cc
    at Inputs e h = was.program (ap in_program e)
    at FirstColumn e h = cc
    at SecondColumn e h = cc
    at FeatureInputs e h = fourth (ltb (inputs t) 3) h

-- ---- which command begins one

-- a command that closes a sequence is one of the base profile, or 32h, 35h or 15h
base_closer : (c : Command) → begins_alone (CommandCycle c) ≡ false → is_known c ≡ true → (is_of_base c ≡ true) ⊎ ((c ≡ ReadPlane) ⊎ ((c ≡ CopybackRead) ⊎ (c ≡ ProgramCache)))
base_closer ReadConfirm o k = inl refl
base_closer ChangeReadColumnConfirm o k = inl refl
base_closer BlockEraseConfirm o k = inl refl
base_closer BlockErasePlane o k = inl refl
base_closer ReadPlane o k = inr (inl refl)
base_closer CopybackRead o k = inr (inr (inl refl))
base_closer ProgramCache o k = inr (inr (inr refl))
base_closer ChangeWriteColumn o k = inl refl
base_closer ProgramConfirm o k = inl refl
base_closer ProgramPlane o k = inl refl
base_closer Unknown o k = cc
base_closer Read o k = cc
base_closer ChangeReadColumn o k = cc
base_closer ChangeReadColumnEnhanced o k = cc
base_closer BlockErase o k = cc
base_closer ReadStatus o k = cc
base_closer ReadStatusEnhanced o k = cc
base_closer PageProgram o k = cc
base_closer ReadId o k = cc
base_closer ReadParameterPage o k = cc
base_closer Reset o k = cc
base_closer ReadCacheSequential o k = cc
base_closer ReadCacheEnd o k = cc
base_closer ReadUniqueId o k = cc
base_closer GetFeatures o k = cc
base_closer SetFeatures o k = cc
base_closer ResetLun o k = cc
base_closer SynchronousReset o k = cc

-- so it doesn't begin an operation as one that isn't known
no_unknown : (byte : ℕ) → opens_alone byte ≡ false → is_known (command byte) ≡ true → (is_unknown byte && not (closes_as_known byte)) ≡ false
no_unknown byte o k = at (base_closer (command byte) o k)
  where
    at : ((is_of_base (command byte) ≡ true) ⊎ ((command byte ≡ ReadPlane) ⊎ ((command byte ≡ CopybackRead) ⊎ (command byte ≡ ProgramCache)))) → (is_unknown byte && not (closes_as_known byte)) ≡ false
    at (inl base) = ap (λ x. not x && not (closes_as_known byte)) base
    at (inr (inr (inr cached))) =
        let is : byte ≡ 0x15 = byte_of byte 0x15 ProgramCache refl cached in
        ap (λ n. is_unknown byte && not (closes_as_known n)) is ∙ and-false (is_unknown byte)
    at (inr (inr (inl copy))) =
        let is : byte ≡ 0x35 = byte_of byte 0x35 CopybackRead refl copy in
        ap (λ n. is_unknown byte && not (closes_as_known n)) is ∙ and-false (is_unknown byte)
    at (inr (inl plane)) =
        let is : byte ≡ 0x32 = same_some (sym (commands_have_bytes.byte_of_command byte (λ unknown. let clash = sym plane ∙ unknown in cc)) ∙ ap opcode plane) in
        ap (λ n. is_unknown byte && not (closes_as_known n)) is ∙ and-false (is_unknown byte)

-- an opener begins an operation, if it isn't a 31h that closes a read
pub opener_begins : (newest : Option Operation) (byte : ℕ) → opens_alone byte ≡ true → closes_read newest byte ≡ false → begins_one newest byte ≡ true
opener_begins newest byte h apart =
    ap (λ x. (x && not (closes_read newest byte)) || ((is_unknown byte && not (closes_as_known byte)) || (byte == 0x85 && not (is_open_program_op newest)))) h
    ∙ ap (λ x. not x || ((is_unknown byte && not (closes_as_known byte)) || (byte == 0x85 && not (is_open_program_op newest)))) apart

-- a command that isn't 31h closes no read so
pub closes_none : (newest : Option Operation) (byte : ℕ) → (byte == 0x31) ≡ false → closes_read newest byte ≡ false
closes_none newest byte h = ap (λ x. x && is_open_read_op newest) h

-- a 31h that closes a read begins none
pub closing_begins_none : (newest : Option Operation) (byte : ℕ) → closes_read newest byte ≡ true → begins_one newest byte ≡ false
closing_begins_none newest byte h =
    let is : byte ≡ 0x31 = eqb-true byte 0x31 (and_parts (byte == 0x31) (is_open_read_op newest) h).0 in
    let code : command byte ≡ ReadCacheSequential = commands_have_bytes.command_of_byte ReadCacheSequential byte (ap Some (sym is)) in
    let other : (byte == 0x85) ≡ false = ap (λ n. n == 0x85) is in
    ap (λ c. (begins_alone (CommandCycle c) && not (closes_read newest byte)) || ((not (is_of_base c) && not (closes_as_known byte)) || (byte == 0x85 && not (is_open_program_op newest)))) code
    ∙ ap (λ x. not x || (byte == 0x85 && not (is_open_program_op newest))) h ∙ ap (λ x. x && not (is_open_program_op newest)) other

pub in_data : (d : DataPhase) → takes_data d ≡ true → in_program d ≡ true
in_data Inputs h = refl
in_data d h = cc

-- a command that is wanted begins none
pub wanted_begins_none : (o : Operation) (t : List TargetCycle) (byte : ℕ) → Content o.beginning o.closer t → is_known (command byte) ≡ true → opens_alone byte ≡ false →
    wants_command (facts_of t) (command byte) ≡ true → begins_one (Some o) byte ≡ false
wanted_begins_none o t byte content known no_opener wanted =
    ap (λ x. (x && not (closes_read (Some o) byte)) || ((is_unknown byte && not (closes_as_known byte)) || (byte == 0x85 && not (is_open_program o)))) no_opener
    ∙ ap (λ x. x || (byte == 0x85 && not (is_open_program o))) (no_unknown byte no_opener known)
    ∙ at (byte == 0x85) refl
  where
    at : (x : Bool) → (byte == 0x85) ≡ x → (x && not (is_open_program o)) ≡ false
    at false e = refl
    at true e =
        let code : command byte ≡ ChangeWriteColumn = commands_have_bytes.command_of_byte ChangeWriteColumn byte (ap Some (sym (eqb-true byte 0x85 e))) in
        let takes : takes_data (data_phase t) ≡ true = sym (ap (wants_command (facts_of t)) code) ∙ wanted in
        ap not (content.program (in_data (data_phase t) takes))
