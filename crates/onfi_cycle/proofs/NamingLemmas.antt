-- A tail names its last three row cycles and its last two column cycles.
use Rattle.std.proofs.Common.{◌≡◌, ℕ, suc, ◌+◌, ◌*◌, ◌%◌, ◌<◌, ◌≤◌, ◌==◌, ◌⊎◌, Bool, true, false, ◌&&◌, cond, List, [], ◌∷◌, ◌++◌, reverse, length, Option, Some, None, refl, sym, ap, ◌∙◌, subst, inl, inr, arith, ltb, leb, append_assoc}
use Rattle.std.proofs.lemmas.Bool.Decides.{nat_tests}
use Rattle.std.proofs.lemmas.List.{reverse-reverse}
use Rattle.std.proofs.lemmas.Bool.{or_cases, and_parts}
use Rattle.nand_geometry.specs.Row.{row_of}
use Rattle.onfi_cycle.specs.declared.command.Command.{Command}
use Rattle.onfi_cycle.specs.declared.command.Command.TheVariants.{Read, ChangeReadColumn, BlockErase, ReadStatusEnhanced, PageProgram, ChangeWriteColumn, ReadId, ReadParameterPage, ReadUniqueId, GetFeatures, SetFeatures, ResetLun, ChangeReadColumnEnhanced}
use Rattle.onfi_cycle.specs.declared.opening.Opening.{Opening}
use Rattle.onfi_cycle.specs.declared.row_bytes.RowBytes.{RowBytes}
use Rattle.onfi_cycle.specs.declared.data_phase.DataPhase.{DataPhase}
use Rattle.onfi_cycle.specs.declared.data_phase.DataPhase.TheVariants.{Outside, Inputs, FirstColumn, SecondColumn, FeatureInputs}
use Rattle.onfi_cycle.specs.declared.target_cycle.TargetCycle.{TargetCycle}
use Rattle.onfi_cycle.specs.declared.target_cycle.TargetCycle.TheVariants.{CommandCycle, AddressCycle, InputCycle, OutputCycle}
use Rattle.onfi_cycle.specs.Command.{is_opener, address_cycles, takes_address, begins_data, is_set_features}
use Rattle.onfi_cycle.specs.Sequence.{opening, opened, one_address_more, next_address_place, next_column_place, data_phase, phase_after_command, phase_after_address, phase_after_input, phase_after_last_address, facts_of, row, row_with, column, column_with, wants_address, wants_column, inputs}
use Rattle.onfi_cycle.specs.Table.{IsSequence, IsBeginning}
use Rattle.onfi_cycle.specs.Naming.{since_command, row_cycles, column_cycles, AreWhole, TailsName}
use Rattle.onfi_cycle.proofs.TableLemmas.{IsOpening, opening_shape, addresses, beginning_wants, reverse_more}

-- a beginning stays one without its last cycle
beginning_before : (c : TargetCycle) (t : List TargetCycle) → IsBeginning (reverse (c ∷ t)) → IsBeginning (reverse t)
beginning_before c t (more, s) = (c ∷ more, subst IsSequence (ap (λ x. x ++ more) (reverse_more c t) ∙ append_assoc (reverse t) (c ∷ []) more) s)

bytes_of : (r1 r2 r3 : ℕ) → RowBytes
bytes_of r1 r2 r3 = record { r1 = r1; r2 = r2; r3 = r3 }

abbrev RowsAgree : List TargetCycle → Type 0
RowsAgree t = (r1 r2 r3 : ℕ) (older : List ℕ) → row_cycles t ≡ r3 ∷ (r2 ∷ (r1 ∷ older)) → row (facts_of t) ≡ row_of r1 r2 r3

abbrev ColumnsAgree : List TargetCycle → Type 0
ColumnsAgree t = AreWhole (column_cycles t) → (c1 c2 : ℕ) (older : List ℕ) → column_cycles t ≡ c2 ∷ (c1 ∷ older) → c1 < 256 → column t ≡ c1 + 256 * c2

same_row : (a b c r1 r2 r3 : ℕ) (older : List ℕ) → (c ∷ (b ∷ (a ∷ []))) ≡ r3 ∷ (r2 ∷ (r1 ∷ older)) → row_of a b c ≡ row_of r1 r2 r3
same_row a b c r1 r2 r3 older h =
    let e : c ≡ r3 = cc in
    let f : b ≡ r2 = cc in
    let g : a ≡ r1 = cc in
    omega arith

same_column : (a b c1 c2 : ℕ) (older : List ℕ) → (b ∷ (a ∷ [])) ≡ c2 ∷ (c1 ∷ older) → c1 < 256 → a % 256 + 256 * b ≡ c1 + 256 * c2
same_column a b c1 c2 older h small =
    let e : b ≡ c2 = cc in
    let f : a ≡ c1 = cc in
    omega arith

odd_is_not_whole : (a : ℕ) → AreWhole (a ∷ []) → ⊥
odd_is_not_whole a (pairs, h) = absurd (omega arith)

-- an opener with its addresses, written out
opening_rows : (c : Command) (bs : List ℕ) → length bs ≤ address_cycles c → RowsAgree (reverse (CommandCycle c ∷ addresses bs))
opening_rows Read [] h = λ r1 r2 r3 older is. cc
opening_rows Read (a ∷ []) h = λ r1 r2 r3 older is. cc
opening_rows Read (a ∷ (b ∷ [])) h = λ r1 r2 r3 older is. cc
opening_rows Read (a ∷ (b ∷ (c ∷ []))) h = λ r1 r2 r3 older is. cc
opening_rows Read (a ∷ (b ∷ (c ∷ (d ∷ [])))) h = λ r1 r2 r3 older is. cc
opening_rows Read (a ∷ (b ∷ (c ∷ (d ∷ (e ∷ []))))) h = λ r1 r2 r3 older is. same_row c d e r1 r2 r3 older is
opening_rows Read (a ∷ (b ∷ (c ∷ (d ∷ (e ∷ (x ∷ more)))))) h = absurd (omega arith)
opening_rows ChangeReadColumn [] h = λ r1 r2 r3 older is. cc
opening_rows ChangeReadColumn (a ∷ []) h = λ r1 r2 r3 older is. cc
opening_rows ChangeReadColumn (a ∷ (b ∷ [])) h = λ r1 r2 r3 older is. cc
opening_rows ChangeReadColumn (a ∷ (b ∷ (x ∷ more))) h = absurd (omega arith)
opening_rows ChangeReadColumnEnhanced [] h = λ r1 r2 r3 older is. cc
opening_rows ChangeReadColumnEnhanced (a ∷ []) h = λ r1 r2 r3 older is. cc
opening_rows ChangeReadColumnEnhanced (a ∷ (b ∷ [])) h = λ r1 r2 r3 older is. cc
opening_rows ChangeReadColumnEnhanced (a ∷ (b ∷ (c ∷ []))) h = λ r1 r2 r3 older is. cc
opening_rows ChangeReadColumnEnhanced (a ∷ (b ∷ (c ∷ (d ∷ [])))) h = λ r1 r2 r3 older is. cc
opening_rows ChangeReadColumnEnhanced (a ∷ (b ∷ (c ∷ (d ∷ (e ∷ []))))) h = λ r1 r2 r3 older is. same_row c d e r1 r2 r3 older is
opening_rows ChangeReadColumnEnhanced (a ∷ (b ∷ (c ∷ (d ∷ (e ∷ (x ∷ more)))))) h = absurd (omega arith)
opening_rows BlockErase [] h = λ r1 r2 r3 older is. cc
opening_rows BlockErase (a ∷ []) h = λ r1 r2 r3 older is. cc
opening_rows BlockErase (a ∷ (b ∷ [])) h = λ r1 r2 r3 older is. cc
opening_rows BlockErase (a ∷ (b ∷ (c ∷ []))) h = λ r1 r2 r3 older is. same_row a b c r1 r2 r3 older is
opening_rows BlockErase (a ∷ (b ∷ (c ∷ (x ∷ more)))) h = absurd (omega arith)
opening_rows ReadStatusEnhanced [] h = λ r1 r2 r3 older is. cc
opening_rows ReadStatusEnhanced (a ∷ []) h = λ r1 r2 r3 older is. cc
opening_rows ReadStatusEnhanced (a ∷ (b ∷ [])) h = λ r1 r2 r3 older is. cc
opening_rows ReadStatusEnhanced (a ∷ (b ∷ (c ∷ []))) h = λ r1 r2 r3 older is. same_row a b c r1 r2 r3 older is
opening_rows ReadStatusEnhanced (a ∷ (b ∷ (c ∷ (x ∷ more)))) h = absurd (omega arith)
opening_rows PageProgram [] h = λ r1 r2 r3 older is. cc
opening_rows PageProgram (a ∷ []) h = λ r1 r2 r3 older is. cc
opening_rows PageProgram (a ∷ (b ∷ [])) h = λ r1 r2 r3 older is. cc
opening_rows PageProgram (a ∷ (b ∷ (c ∷ []))) h = λ r1 r2 r3 older is. cc
opening_rows PageProgram (a ∷ (b ∷ (c ∷ (d ∷ [])))) h = λ r1 r2 r3 older is. cc
opening_rows PageProgram (a ∷ (b ∷ (c ∷ (d ∷ (e ∷ []))))) h = λ r1 r2 r3 older is. same_row c d e r1 r2 r3 older is
opening_rows PageProgram (a ∷ (b ∷ (c ∷ (d ∷ (e ∷ (x ∷ more)))))) h = absurd (omega arith)
opening_rows ChangeWriteColumn [] h = λ r1 r2 r3 older is. cc
opening_rows ChangeWriteColumn (a ∷ []) h = λ r1 r2 r3 older is. cc
opening_rows ChangeWriteColumn (a ∷ (b ∷ [])) h = λ r1 r2 r3 older is. cc
opening_rows ChangeWriteColumn (a ∷ (b ∷ (c ∷ []))) h = λ r1 r2 r3 older is. cc
opening_rows ChangeWriteColumn (a ∷ (b ∷ (c ∷ (d ∷ [])))) h = λ r1 r2 r3 older is. cc
opening_rows ChangeWriteColumn (a ∷ (b ∷ (c ∷ (d ∷ (e ∷ []))))) h = λ r1 r2 r3 older is. same_row c d e r1 r2 r3 older is
opening_rows ChangeWriteColumn (a ∷ (b ∷ (c ∷ (d ∷ (e ∷ (x ∷ more)))))) h = absurd (omega arith)
opening_rows ReadId [] h = λ r1 r2 r3 older is. cc
opening_rows ReadId (a ∷ []) h = λ r1 r2 r3 older is. cc
opening_rows ReadId (a ∷ (x ∷ more)) h = absurd (omega arith)
opening_rows ReadParameterPage [] h = λ r1 r2 r3 older is. cc
opening_rows ReadParameterPage (a ∷ []) h = λ r1 r2 r3 older is. cc
opening_rows ReadParameterPage (a ∷ (x ∷ more)) h = absurd (omega arith)
opening_rows ReadUniqueId [] h = λ r1 r2 r3 older is. cc
opening_rows ReadUniqueId (a ∷ []) h = λ r1 r2 r3 older is. cc
opening_rows ReadUniqueId (a ∷ (x ∷ more)) h = absurd (omega arith)
opening_rows GetFeatures [] h = λ r1 r2 r3 older is. cc
opening_rows GetFeatures (a ∷ []) h = λ r1 r2 r3 older is. cc
opening_rows GetFeatures (a ∷ (x ∷ more)) h = absurd (omega arith)
opening_rows SetFeatures [] h = λ r1 r2 r3 older is. cc
opening_rows SetFeatures (a ∷ []) h = λ r1 r2 r3 older is. cc
opening_rows SetFeatures (a ∷ (x ∷ more)) h = absurd (omega arith)
opening_rows ResetLun [] h = λ r1 r2 r3 older is. cc
opening_rows ResetLun (a ∷ []) h = λ r1 r2 r3 older is. cc
opening_rows ResetLun (a ∷ (b ∷ [])) h = λ r1 r2 r3 older is. cc
opening_rows ResetLun (a ∷ (b ∷ (c ∷ []))) h = λ r1 r2 r3 older is. same_row a b c r1 r2 r3 older is
opening_rows ResetLun (a ∷ (b ∷ (c ∷ (x ∷ more)))) h = absurd (omega arith)
opening_rows c [] h = λ r1 r2 r3 older is. cc
opening_rows c (x ∷ bs) h = absurd (omega arith)

opening_columns : (c : Command) (bs : List ℕ) → length bs ≤ address_cycles c → ColumnsAgree (reverse (CommandCycle c ∷ addresses bs))
opening_columns Read [] h = λ w c1 c2 older is s. cc
opening_columns Read (a ∷ []) h = λ w c1 c2 older is s. absurd (odd_is_not_whole a w)
opening_columns Read (a ∷ (b ∷ [])) h = λ w c1 c2 older is s. same_column a b c1 c2 older is s
opening_columns Read (a ∷ (b ∷ (c ∷ []))) h = λ w c1 c2 older is s. same_column a b c1 c2 older is s
opening_columns Read (a ∷ (b ∷ (c ∷ (d ∷ [])))) h = λ w c1 c2 older is s. same_column a b c1 c2 older is s
opening_columns Read (a ∷ (b ∷ (c ∷ (d ∷ (e ∷ []))))) h = λ w c1 c2 older is s. same_column a b c1 c2 older is s
opening_columns Read (a ∷ (b ∷ (c ∷ (d ∷ (e ∷ (x ∷ more)))))) h = absurd (omega arith)
opening_columns ChangeReadColumn [] h = λ w c1 c2 older is s. cc
opening_columns ChangeReadColumn (a ∷ []) h = λ w c1 c2 older is s. absurd (odd_is_not_whole a w)
opening_columns ChangeReadColumn (a ∷ (b ∷ [])) h = λ w c1 c2 older is s. same_column a b c1 c2 older is s
opening_columns ChangeReadColumn (a ∷ (b ∷ (x ∷ more))) h = absurd (omega arith)
opening_columns ChangeReadColumnEnhanced [] h = λ w c1 c2 older is s. cc
opening_columns ChangeReadColumnEnhanced (a ∷ []) h = λ w c1 c2 older is s. absurd (odd_is_not_whole a w)
opening_columns ChangeReadColumnEnhanced (a ∷ (b ∷ [])) h = λ w c1 c2 older is s. same_column a b c1 c2 older is s
opening_columns ChangeReadColumnEnhanced (a ∷ (b ∷ (c ∷ []))) h = λ w c1 c2 older is s. same_column a b c1 c2 older is s
opening_columns ChangeReadColumnEnhanced (a ∷ (b ∷ (c ∷ (d ∷ [])))) h = λ w c1 c2 older is s. same_column a b c1 c2 older is s
opening_columns ChangeReadColumnEnhanced (a ∷ (b ∷ (c ∷ (d ∷ (e ∷ []))))) h = λ w c1 c2 older is s. same_column a b c1 c2 older is s
opening_columns ChangeReadColumnEnhanced (a ∷ (b ∷ (c ∷ (d ∷ (e ∷ (x ∷ more)))))) h = absurd (omega arith)
opening_columns BlockErase [] h = λ w c1 c2 older is s. cc
opening_columns BlockErase (a ∷ []) h = λ w c1 c2 older is s. cc
opening_columns BlockErase (a ∷ (b ∷ [])) h = λ w c1 c2 older is s. cc
opening_columns BlockErase (a ∷ (b ∷ (c ∷ []))) h = λ w c1 c2 older is s. cc
opening_columns BlockErase (a ∷ (b ∷ (c ∷ (x ∷ more)))) h = absurd (omega arith)
opening_columns ReadStatusEnhanced [] h = λ w c1 c2 older is s. cc
opening_columns ReadStatusEnhanced (a ∷ []) h = λ w c1 c2 older is s. cc
opening_columns ReadStatusEnhanced (a ∷ (b ∷ [])) h = λ w c1 c2 older is s. cc
opening_columns ReadStatusEnhanced (a ∷ (b ∷ (c ∷ []))) h = λ w c1 c2 older is s. cc
opening_columns ReadStatusEnhanced (a ∷ (b ∷ (c ∷ (x ∷ more)))) h = absurd (omega arith)
opening_columns PageProgram [] h = λ w c1 c2 older is s. cc
opening_columns PageProgram (a ∷ []) h = λ w c1 c2 older is s. absurd (odd_is_not_whole a w)
opening_columns PageProgram (a ∷ (b ∷ [])) h = λ w c1 c2 older is s. same_column a b c1 c2 older is s
opening_columns PageProgram (a ∷ (b ∷ (c ∷ []))) h = λ w c1 c2 older is s. same_column a b c1 c2 older is s
opening_columns PageProgram (a ∷ (b ∷ (c ∷ (d ∷ [])))) h = λ w c1 c2 older is s. same_column a b c1 c2 older is s
opening_columns PageProgram (a ∷ (b ∷ (c ∷ (d ∷ (e ∷ []))))) h = λ w c1 c2 older is s. same_column a b c1 c2 older is s
opening_columns PageProgram (a ∷ (b ∷ (c ∷ (d ∷ (e ∷ (x ∷ more)))))) h = absurd (omega arith)
opening_columns ChangeWriteColumn [] h = λ w c1 c2 older is s. cc
opening_columns ChangeWriteColumn (a ∷ []) h = λ w c1 c2 older is s. absurd (odd_is_not_whole a w)
opening_columns ChangeWriteColumn (a ∷ (b ∷ [])) h = λ w c1 c2 older is s. same_column a b c1 c2 older is s
opening_columns ChangeWriteColumn (a ∷ (b ∷ (c ∷ []))) h = λ w c1 c2 older is s. same_column a b c1 c2 older is s
opening_columns ChangeWriteColumn (a ∷ (b ∷ (c ∷ (d ∷ [])))) h = λ w c1 c2 older is s. same_column a b c1 c2 older is s
opening_columns ChangeWriteColumn (a ∷ (b ∷ (c ∷ (d ∷ (e ∷ []))))) h = λ w c1 c2 older is s. same_column a b c1 c2 older is s
opening_columns ChangeWriteColumn (a ∷ (b ∷ (c ∷ (d ∷ (e ∷ (x ∷ more)))))) h = absurd (omega arith)
opening_columns ReadId [] h = λ w c1 c2 older is s. cc
opening_columns ReadId (a ∷ []) h = λ w c1 c2 older is s. cc
opening_columns ReadId (a ∷ (x ∷ more)) h = absurd (omega arith)
opening_columns ReadParameterPage [] h = λ w c1 c2 older is s. cc
opening_columns ReadParameterPage (a ∷ []) h = λ w c1 c2 older is s. cc
opening_columns ReadParameterPage (a ∷ (x ∷ more)) h = absurd (omega arith)
opening_columns ReadUniqueId [] h = λ w c1 c2 older is s. cc
opening_columns ReadUniqueId (a ∷ []) h = λ w c1 c2 older is s. cc
opening_columns ReadUniqueId (a ∷ (x ∷ more)) h = absurd (omega arith)
opening_columns GetFeatures [] h = λ w c1 c2 older is s. cc
opening_columns GetFeatures (a ∷ []) h = λ w c1 c2 older is s. cc
opening_columns GetFeatures (a ∷ (x ∷ more)) h = absurd (omega arith)
opening_columns SetFeatures [] h = λ w c1 c2 older is s. cc
opening_columns SetFeatures (a ∷ []) h = λ w c1 c2 older is s. cc
opening_columns SetFeatures (a ∷ (x ∷ more)) h = absurd (omega arith)
opening_columns ResetLun [] h = λ w c1 c2 older is s. cc
opening_columns ResetLun (a ∷ []) h = λ w c1 c2 older is s. cc
opening_columns ResetLun (a ∷ (b ∷ [])) h = λ w c1 c2 older is s. cc
opening_columns ResetLun (a ∷ (b ∷ (c ∷ []))) h = λ w c1 c2 older is s. cc
opening_columns ResetLun (a ∷ (b ∷ (c ∷ (x ∷ more)))) h = absurd (omega arith)
opening_columns c [] h = λ w c1 c2 older is s. cc
opening_columns c (x ∷ bs) h = absurd (omega arith)

-- a tail that waits for a column of a Change Write Column goes on behind that command
record WaitsForColumn (t : List TargetCycle) : Type 0 where
  no_opening : opening t ≡ None
  addresses : ℕ
  after : since_command t ≡ Some (record { opener = ChangeWriteColumn; addresses = addresses })
  count : addresses ≡ next_column_place (data_phase t)
  in_column : ltb addresses 2 ≡ true
  in_row : leb 2 addresses ≡ false

not_while_outside : (t : List TargetCycle) (x : Option Opening) → wants_column (phase_after_last_address x) ≡ true → WaitsForColumn t
not_while_outside t None h = cc
not_while_outside t (Some o) h = at (begins_data o.opener && o.addresses == 4) (is_set_features o.opener && o.addresses == 0) h
  where
    at : (v w : Bool) → wants_column (cond v Inputs (cond w FeatureInputs Outside)) ≡ true → WaitsForColumn t
    at true w h = cc
    at false true h = cc
    at false false h = cc

first_place : (p : DataPhase) → wants_column (phase_after_command ChangeWriteColumn p) ≡ true → 0 ≡ next_column_place (phase_after_command ChangeWriteColumn p)
first_place Inputs h = refl
first_place Outside h = cc
first_place FirstColumn h = cc
first_place SecondColumn h = cc
first_place FeatureInputs h = cc

waits_after_command : (c : Command) (t : List TargetCycle) → wants_column (phase_after_command c (data_phase t)) ≡ true → WaitsForColumn (CommandCycle c ∷ t)
waits_after_command ChangeWriteColumn [] h = cc
waits_after_command ChangeWriteColumn (d ∷ t) h = record { no_opening = refl; addresses = 0; after = refl; count = first_place (data_phase (d ∷ t)) h; in_column = refl; in_row = refl }
waits_after_command _ t h = cc

waits_after_address : (b : ℕ) (t : List TargetCycle) (d : DataPhase) → data_phase t ≡ d → (d ≡ FirstColumn → WaitsForColumn t) → wants_column (phase_after_address (opening t) d) ≡ true → WaitsForColumn (AddressCycle b ∷ t)
waits_after_address b t Outside e before h = not_while_outside (AddressCycle b ∷ t) (opening t) h
waits_after_address b t FirstColumn e before h =
    let w = before refl in
    let none : w.addresses ≡ 0 = w.count ∙ ap next_column_place e in
    record {
      no_opening = ap one_address_more w.no_opening;
      addresses = w.addresses + 1;
      after = ap one_address_more w.after;
      count = ap (λ n. n + 1) none ∙ sym (ap (λ p. next_column_place (phase_after_address (opening t) p)) e);
      in_column = ap (λ n. ltb (n + 1) 2) none;
      in_row = ap (λ n. leb 2 (n + 1)) none;
    }
waits_after_address b t SecondColumn e before h = cc
waits_after_address b t Inputs e before h = cc
waits_after_address b t FeatureInputs e before h = cc

no_column_after_input : (n : ℕ) (d : DataPhase) → wants_column (phase_after_input n d) ≡ true → ⊥
no_column_after_input n Inputs h = cc
no_column_after_input n Outside h = cc
no_column_after_input n FirstColumn h = cc
no_column_after_input n SecondColumn h = cc
no_column_after_input n FeatureInputs h = at (ltb n 3) h
  where
    at : (b : Bool) → wants_column (cond b FeatureInputs Outside) ≡ true → ⊥
    at true h = cc
    at false h = cc

waits_for_column : (t : List TargetCycle) → wants_column (data_phase t) ≡ true → WaitsForColumn t
waits_for_column [] h = cc
waits_for_column (CommandCycle c ∷ t) h = waits_after_command c t h
waits_for_column (AddressCycle b ∷ t) h = waits_after_address b t (data_phase t) refl (λ e. waits_for_column t (ap wants_column e)) h
waits_for_column (InputCycle b ∷ t) h = absurd (no_column_after_input (inputs t) (data_phase t) h)
waits_for_column (OutputCycle ∷ t) h = cc

-- where a tail with one address more has an opening, written out
opening_of_address : (b : ℕ) (t : List TargetCycle) (x : Option Opening) → opening t ≡ x → opened (λ c n. is_opener c && ltb n (address_cycles c) && takes_address c b) x ≡ true → (o : Opening) × (IsOpening o (AddressCycle b ∷ t) × (o.addresses ≤ address_cycles o.opener))
opening_of_address b t None e h = cc
opening_of_address b t (Some o) e h =
    let more : Opening = record { opener = o.opener; addresses = o.addresses + 1 } in
    let below : o.addresses + 1 ≤ address_cycles o.opener = grind (arith, nat_tests, (and_parts (ltb o.addresses (address_cycles o.opener)) (takes_address o.opener b) (and_parts (is_opener o.opener) _ (and_left (is_opener o.opener) (ltb o.addresses (address_cycles o.opener)) (takes_address o.opener b) h)).1).0) in
    (more, (opening_shape (AddressCycle b ∷ t) more (ap one_address_more e), below))
  where
    and_left : (p q r : Bool) → (p && q && r) ≡ true → (p && (q && r)) ≡ true
    and_left true q r h = h
    and_left false q r h = cc

tail_of_opening : (t : List TargetCycle) (c : Command) (bs : List ℕ) → reverse t ≡ CommandCycle c ∷ addresses bs → t ≡ reverse (CommandCycle c ∷ addresses bs)
tail_of_opening t c bs h = sym (reverse-reverse t) ∙ ap reverse h

-- what holds of openers with their addresses, and is kept by a column of a Change Write Column, holds after each address of a beginning
after_address : (P : List TargetCycle → Type 0) → ((c : Command) (bs : List ℕ) → length bs ≤ address_cycles c → P (reverse (CommandCycle c ∷ addresses bs))) → (b : ℕ) (t : List TargetCycle) → (wants_column (data_phase t) ≡ true → P (AddressCycle b ∷ t)) → IsBeginning (reverse (AddressCycle b ∷ t)) → P (AddressCycle b ∷ t)
after_address P opens b t waits begins = at (beginning_wants t (AddressCycle b) begins)
  where
    at : ((t ≡ []) × (false ≡ true)) ⊎ (wants_address (facts_of t) b ≡ true) → P (AddressCycle b ∷ t)
    at (inl p) = let h : false ≡ true = p.1 in cc
    at (inr w) =
        elim (or_cases (opened (λ c n. is_opener c && ltb n (address_cycles c) && takes_address c b) (opening t)) (wants_column (data_phase t)) w) [
          | inl e ↦ (let o = opening_of_address b t (opening t) refl e in
              let s = o.1.0 in
              subst P (sym (tail_of_opening (AddressCycle b ∷ t) o.0.opener s.bytes s.is)) (opens o.0.opener s.bytes (subst (λ n. n ≤ address_cycles o.0.opener) (sym s.count) o.1.1)))
          | inr e ↦ waits e
        ]

-- the rows
rows_kept : (b : ℕ) (t : List TargetCycle) → RowsAgree t → WaitsForColumn t → RowsAgree (AddressCycle b ∷ t)
rows_kept b t before w r1 r2 r3 older h =
    let same_cycles : row_cycles (AddressCycle b ∷ t) ≡ row_cycles t = rw (w.after, w.in_row) refl in
    let same_row : row (facts_of (AddressCycle b ∷ t)) ≡ row (facts_of t) = rw w.no_opening refl in
    same_row ∙ before r1 r2 r3 older (sym same_cycles ∙ h)

rows_agree : (t : List TargetCycle) → IsBeginning (reverse t) → RowsAgree t
rows_agree [] begins = λ r1 r2 r3 older h. cc
rows_agree (CommandCycle c ∷ t) begins = rows_agree t (beginning_before (CommandCycle c) t begins)
rows_agree (AddressCycle b ∷ t) begins =
    after_address RowsAgree opening_rows b t (λ e. rows_kept b t (rows_agree t (beginning_before (AddressCycle b) t begins)) (waits_for_column t e)) begins
rows_agree (InputCycle b ∷ t) begins = rows_agree t (beginning_before (InputCycle b) t begins)
rows_agree (OutputCycle ∷ t) begins = rows_agree t (beginning_before OutputCycle t begins)

-- the first byte of a column has come, behind whole columns
record HasHalf (t : List TargetCycle) : Type 0 where
  low : ℕ
  older : List ℕ
  is : column_cycles t ≡ low ∷ older
  whole : AreWhole older
  first : column t ≡ low

-- the columns that a tail has in the data of a program
abbrev HasColumns : DataPhase → List TargetCycle → Type 0
HasColumns Outside t = Unit {0}
HasColumns Inputs t = AreWhole (column_cycles t)
HasColumns FirstColumn t = AreWhole (column_cycles t)
HasColumns SecondColumn t = HasHalf t
HasColumns FeatureInputs t = Unit {0}

whole_more : (a b : ℕ) (older : List ℕ) → AreWhole older → AreWhole (a ∷ (b ∷ older))
whole_more a b older (pairs, h) = (suc pairs, omega arith)

columns_as : (a b : List ℕ) → a ≡ b → AreWhole b → AreWhole a
columns_as a b e w = subst AreWhole (sym e) w

columns_after_command : (c : Command) (t : List TargetCycle) (d : DataPhase) → HasColumns d t → HasColumns (phase_after_command c d) (CommandCycle c ∷ t)
columns_after_command ChangeWriteColumn t Inputs h = h
columns_after_command c t d h = tt

columns_after_input : (b : ℕ) (t : List TargetCycle) (d : DataPhase) → HasColumns d t → HasColumns (phase_after_input (inputs t) d) (InputCycle b ∷ t)
columns_after_input b t Inputs h = h
columns_after_input b t Outside h = tt
columns_after_input b t FirstColumn h = tt
columns_after_input b t SecondColumn h = tt
columns_after_input b t FeatureInputs h = at (ltb (inputs t) 3)
  where
    at : (v : Bool) → HasColumns (cond v FeatureInputs Outside) (InputCycle b ∷ t)
    at true = tt
    at false = tt

-- the fifth address of a program, written out
program_columns : (c : Command) → begins_data c ≡ true → (bs : List ℕ) → length bs ≡ 5 → AreWhole (column_cycles (reverse (CommandCycle c ∷ addresses bs)))
program_columns PageProgram is (a ∷ (b ∷ (c ∷ (d ∷ (e ∷ []))))) h = (1, refl)
program_columns ChangeWriteColumn is (a ∷ (b ∷ (c ∷ (d ∷ (e ∷ []))))) h = (1, refl)
program_columns o is (a ∷ (b ∷ (c ∷ (d ∷ (e ∷ []))))) h = cc
program_columns o is [] h = absurd (omega arith)
program_columns o is (a ∷ []) h = absurd (omega arith)
program_columns o is (a ∷ (b ∷ [])) h = absurd (omega arith)
program_columns o is (a ∷ (b ∷ (c ∷ []))) h = absurd (omega arith)
program_columns o is (a ∷ (b ∷ (c ∷ (d ∷ [])))) h = absurd (omega arith)
program_columns o is (a ∷ (b ∷ (c ∷ (d ∷ (e ∷ (x ∷ more)))))) h = absurd (omega arith)

columns_after_last_address : (b : ℕ) (t : List TargetCycle) (x : Option Opening) → opening t ≡ x → HasColumns (phase_after_last_address x) (AddressCycle b ∷ t)
columns_after_last_address b t None e = tt
columns_after_last_address b t (Some o) e = at (begins_data o.opener && o.addresses == 4) refl (is_set_features o.opener && o.addresses == 0)
  where
    at : (v : Bool) → (begins_data o.opener && o.addresses == 4) ≡ v → (w : Bool) → HasColumns (cond v Inputs (cond w FeatureInputs Outside)) (AddressCycle b ∷ t)
    at false k true = tt
    at false k false = tt
    at true k w =
        let both = and_parts (begins_data o.opener) (o.addresses == 4) k in
        let more : Opening = record { opener = o.opener; addresses = o.addresses + 1 } in
        let s = opening_shape (AddressCycle b ∷ t) more (ap one_address_more e) in
        let five : length s.bytes ≡ 5 = s.count ∙ grind (arith, nat_tests, both.1) in
        subst (λ l. AreWhole (column_cycles l)) (sym (tail_of_opening (AddressCycle b ∷ t) o.opener s.bytes s.is)) (program_columns o.opener both.0 s.bytes five)

columns_after_address : (b : ℕ) (t : List TargetCycle) (d : DataPhase) → data_phase t ≡ d → HasColumns d t → HasColumns (phase_after_address (opening t) d) (AddressCycle b ∷ t)
columns_after_address b t Outside e h = columns_after_last_address b t (opening t) refl
columns_after_address b t Inputs e h = tt
columns_after_address b t FeatureInputs e h = tt
columns_after_address b t FirstColumn e h =
    let w = waits_for_column t (ap wants_column e) in
    record { low = b; older = column_cycles t; is = rw (w.after, w.in_column) refl; whole = h; first = rw (w.no_opening, e) refl }
columns_after_address b t SecondColumn e h =
    let w = waits_for_column t (ap wants_column e) in
    let is : column_cycles (AddressCycle b ∷ t) ≡ b ∷ column_cycles t = rw (w.after, w.in_column) refl in
    columns_as (column_cycles (AddressCycle b ∷ t)) (b ∷ (h.low ∷ h.older)) (is ∙ ap (λ l. b ∷ l) h.is) (whole_more b h.low h.older h.whole)

has_columns : (t : List TargetCycle) → HasColumns (data_phase t) t
has_columns [] = tt
has_columns (CommandCycle c ∷ t) = columns_after_command c t (data_phase t) (has_columns t)
has_columns (AddressCycle b ∷ t) = columns_after_address b t (data_phase t) refl (has_columns t)
has_columns (InputCycle b ∷ t) = columns_after_input b t (data_phase t) (has_columns t)
has_columns (OutputCycle ∷ t) = tt

odd_and_even : (older : List ℕ) (b : ℕ) → AreWhole older → AreWhole (b ∷ older) → ⊥
odd_and_even older b (n, h) (m, k) = let e : length (b ∷ older) ≡ 2 * n + 1 = omega arith in absurd (grind (arith, h, k))

second_column_names : (c1 c2 low b : ℕ) (older rest : List ℕ) → (b ∷ (low ∷ older)) ≡ c2 ∷ (c1 ∷ rest) → c1 < 256 → low % 256 + 256 * b ≡ c1 + 256 * c2
second_column_names c1 c2 low b older rest h small =
    let e : b ≡ c2 = cc in
    let f : low ≡ c1 = cc in
    omega arith

columns_kept : (b : ℕ) (t : List TargetCycle) (d : DataPhase) → data_phase t ≡ d → HasColumns d t → wants_column d ≡ true → WaitsForColumn t → ColumnsAgree (AddressCycle b ∷ t)
columns_kept b t FirstColumn e h k w whole_now c1 c2 older is small =
    let one_more : column_cycles (AddressCycle b ∷ t) ≡ b ∷ column_cycles t = rw (w.after, w.in_column) refl in
    absurd (odd_and_even (column_cycles t) b h (columns_as (b ∷ column_cycles t) (column_cycles (AddressCycle b ∷ t)) (sym one_more) whole_now))
columns_kept b t SecondColumn e h k w whole_now c1 c2 older is small =
    let one_more : column_cycles (AddressCycle b ∷ t) ≡ b ∷ column_cycles t = rw (w.after, w.in_column) refl in
    let now : column (AddressCycle b ∷ t) ≡ column t % 256 + 256 * b = rw (w.no_opening, e) refl in
    now ∙ (ap (λ n. n % 256 + 256 * b) h.first ∙ second_column_names c1 c2 h.low b h.older older (ap (λ l. b ∷ l) (sym h.is) ∙ (sym one_more ∙ is)) small)
columns_kept b t _ e h k w whole_now c1 c2 older is small = cc

columns_agree : (t : List TargetCycle) → IsBeginning (reverse t) → ColumnsAgree t
columns_agree [] begins = λ w c1 c2 older h small. cc
columns_agree (CommandCycle c ∷ t) begins = columns_agree t (beginning_before (CommandCycle c) t begins)
columns_agree (AddressCycle b ∷ t) begins = after_address ColumnsAgree opening_columns b t (λ e. columns_kept b t (data_phase t) refl (has_columns t) e (waits_for_column t e)) begins
columns_agree (InputCycle b ∷ t) begins = columns_agree t (beginning_before (InputCycle b) t begins)
columns_agree (OutputCycle ∷ t) begins = columns_agree t (beginning_before OutputCycle t begins)

-- with one address byte more
next_row : (t : List TargetCycle) (byte : ℕ) (o : Opening) → opening t ≡ Some o → row_with (facts_of t) byte ≡ row (facts_of (AddressCycle byte ∷ t))
next_row t byte o e = rw e refl

next_column : (t : List TargetCycle) (byte : ℕ) → next_address_place (opening t) (data_phase t) ≡ 1 → column_with (facts_of t) byte ≡ column (AddressCycle byte ∷ t)
next_column t byte e = rw e refl

pub tails_name : TailsName
tails_name = record { names_row = rows_agree; names_column = columns_agree; next_row = next_row; next_column = next_column }
