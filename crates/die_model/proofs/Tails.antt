-- What a cycle makes of the program that a tail opens.
use Rattle.std.proofs.Common.{◌≡◌, ℕ, ◌==◌, Bool, true, false, ◌&&◌, ◌||◌, cond, List, [], ◌∷◌, Option, Some, None, refl, sym, ap, ◌∙◌}
use Rattle.std.proofs.lemmas.Bool.{and_from as both_of}
use Rattle.nand_geometry.specs.declared.parts.Parts.{Parts}
use Rattle.onfi_cycle.specs.declared.command.Command.{Command}
use Rattle.onfi_cycle.specs.declared.command.Command.TheVariants.{PageProgram, ChangeWriteColumn}
use Rattle.onfi_cycle.specs.declared.data_phase.DataPhase.{DataPhase}
use Rattle.onfi_cycle.specs.declared.data_phase.DataPhase.TheVariants.{Outside, Inputs, FirstColumn, SecondColumn, FeatureInputs}
use Rattle.onfi_cycle.specs.declared.opening.Opening.{Opening}
use Rattle.onfi_cycle.specs.declared.target_cycle.TargetCycle.{TargetCycle}
use Rattle.onfi_cycle.specs.declared.target_cycle.TargetCycle.TheVariants.{CommandCycle, AddressCycle, InputCycle, OutputCycle}
use Rattle.onfi_cycle.specs.Command.{begins_data, is_page_program, is_write_column, at_last_row, is_set_features}
use Rattle.onfi_cycle.specs.Sequence.{with_cycle, continued, opening, opened, one_address_more, data_phase, takes_data, wants_column, phase_after_command, phase_after_address, phase_after_input, row_bytes, row_after_address, facts_of, filled, row, row_with, input_column, inputs, begins_anew}
use Rattle.onfi_cycle.specs.Bounds.{names_program}
use Rattle.onfi_cycle.specs.declared.page_address.PageAddress.{PageAddress}
use Rattle.onfi_cycle.specs.Effect.{names_lun, page_address, plane_of_row}
use Rattle.onfi_cycle.specs.Lun.{page_in_plane}
use Rattle.nand_geometry.specs.Limits.{planes}
use Rattle.onfi_cycle.proofs.RowBounds.{input_inside}
use Rattle.onfi_cycle.specs.Rules.{ends_row}
use Rattle.onfi_cycle.specs.declared.filling.Filling.TheVariants.{Leaves, Clears, Fills}
use Rattle.onfi_cycle.specs.Filling.{cycle_filling, row_filling, copied}

abbrev is_data : DataPhase → Bool
is_data p = takes_data p || wants_column p

no_data : (c : Command) → is_data (phase_after_command c Outside) ≡ false
no_data ChangeWriteColumn = refl
no_data _ = refl

from_data : (c : Command) (p : DataPhase) → is_data (phase_after_command c p) ≡ true → is_data p ≡ true
from_data ChangeWriteColumn Inputs h = refl
from_data ChangeWriteColumn Outside h = cc
from_data ChangeWriteColumn FirstColumn h = cc
from_data ChangeWriteColumn SecondColumn h = cc
from_data ChangeWriteColumn FeatureInputs h = cc
from_data _ p h = cc

column_before : (o : Option Opening) (p : DataPhase) → wants_column (phase_after_address o p) ≡ true → wants_column p ≡ true
column_before o FirstColumn h = refl
column_before o SecondColumn h = refl
column_before o Inputs h = cc
column_before o FeatureInputs h = cc
column_before o Outside h = of (opened (λ c n. begins_data c && n == 4) o) (opened (λ c n. is_set_features c && n == 0) o) h
  where
    of : (b c : Bool) → wants_column (cond b Inputs (cond c FeatureInputs Outside)) ≡ true → false ≡ true
    of true c h = h
    of false true h = h
    of false false h = h

-- a column of the data is no address of an opener
pub no_opening : (t : List TargetCycle) → wants_column (data_phase t) ≡ true → opening t ≡ None
no_opening [] h = cc
no_opening (CommandCycle c ∷ []) h = let e = no_data c in let x : false ≡ true = columns (phase_after_command c Outside) e h in cc
  where
    columns : (p : DataPhase) → is_data p ≡ false → wants_column p ≡ true → false ≡ true
    columns Outside e h = h
    columns Inputs e h = h
    columns FirstColumn e h = sym e
    columns SecondColumn e h = sym e
    columns FeatureInputs e h = h
no_opening (CommandCycle c ∷ (d ∷ t)) h = refl
no_opening (AddressCycle byte ∷ t) h = ap one_address_more (no_opening t (column_before (opening t) (data_phase t) h))
no_opening (InputCycle byte ∷ t) h = refl
no_opening (OutputCycle ∷ t) h = refl

-- before the first input the bytes are those that the program began with
pub blank : (begun : List ℕ) (t : List TargetCycle) (o : Opening) → opening t ≡ Some o → filled begun t ≡ begun
blank begun [] o h = refl
blank begun (CommandCycle c ∷ []) o h = refl
blank begun (CommandCycle c ∷ (d ∷ t)) o h = cc
blank begun (AddressCycle byte ∷ t) o h = of (opening t) refl h (λ q e. blank begun t q e)
  where
    of : (q : Option Opening) → opening t ≡ q → one_address_more q ≡ Some o → ((q : Opening) → opening t ≡ Some q → filled begun t ≡ begun) → filled begun t ≡ begun
    of None e h f = cc
    of (Some q) e h f = f q e
blank begun (InputCycle byte ∷ t) o h = cc
blank begun (OutputCycle ∷ t) o h = cc

-- a program that was open before stays as it was
pub record Stays (t u : List TargetCycle) : Type 0 where
  pub named : names_program (facts_of t) ≡ true
  pub same_row : row (facts_of u) ≡ row (facts_of t)
  pub bytes : (begun : List ℕ) → filled begun u ≡ filled begun t

stays_command : (t : List TargetCycle) (c : Command) (b : Bool) → names_program (facts_of (cond b (CommandCycle c ∷ []) (continued (CommandCycle c) t))) ≡ true → Stays t (cond b (CommandCycle c ∷ []) (continued (CommandCycle c) t))
stays_command t c true h = let x : false ≡ true = sym (no_data c) ∙ h in cc
stays_command [] c false h = cc
stays_command (d ∷ t) c false h = record { named = from_data c (data_phase (d ∷ t)) h; same_row = refl; bytes = λ begun. refl }

copied_fills : (at : PageAddress) (held : Option PageAddress) → copied at held ≡ Leaves → ⊥
copied_fills at None h = cc
copied_fills at (Some from) h = cc

-- the last address of the row of a program changes a register
pub row_fills : (g : Parts) (t : List TargetCycle) (o : Opening) (row : ℕ) (held : List PageAddress) → opening t ≡ Some o → (begins_data o.opener && o.addresses == 4) ≡ true → row_filling g (facts_of t) row held ≡ Leaves → ⊥
row_fills g t o row held opens ends leaves = of o.opener o.addresses opens ends
  where
    whole : (c : Command) (n : ℕ) → opening t ≡ Some (record { opener = c; addresses = n }) → (program copyback : Bool) → (is_page_program c && at_last_row c n) ≡ program → (is_write_column c && at_last_row c n) ≡ copyback
        → cond program (Clears (page_address g row)) (cond copyback (copied (page_address g row) (page_in_plane (planes g) (plane_of_row g row) held)) Leaves) ≡ Leaves
    whole c n is program copyback p k =
        sym (λ i. cond (sees_program i) (Clears (page_address g row)) (cond (sees_copyback i) (copied (page_address g row) (page_in_plane (planes g) (plane_of_row g row) held)) Leaves)) ∙ leaves
      where
        sees_program : ends_row is_page_program (facts_of t) ≡ program
        sees_program = ap (opened (λ c n. is_page_program c && at_last_row c n)) is ∙ p

        sees_copyback : ends_row is_write_column (facts_of t) ≡ copyback
        sees_copyback = ap (opened (λ c n. is_write_column c && at_last_row c n)) is ∙ k

    of : (c : Command) (n : ℕ) → opening t ≡ Some (record { opener = c; addresses = n }) → (begins_data c && n == 4) ≡ true → ⊥
    of PageProgram n is h = let x : Clears (page_address g row) ≡ Leaves = whole PageProgram n is true false h refl in cc
    of ChangeWriteColumn n is h = copied_fills _ _ (whole ChangeWriteColumn n is false true refl h)
    of c n is h = cc

-- an address that begins no data: its row is as before where it belongs to the data
stays_address : (g : Parts) (t : List TargetCycle) (byte lun : ℕ) (held : List PageAddress) → cycle_filling g (facts_of t) (AddressCycle byte) lun held ≡ Leaves → names_program (facts_of (AddressCycle byte ∷ t)) ≡ true → names_lun g (row (facts_of (AddressCycle byte ∷ t))) lun ≡ true → Stays t (AddressCycle byte ∷ t)
stays_address g t byte lun held leaves named is = of (data_phase t) refl named
  where
    in_column : wants_column (data_phase t) ≡ true → is_data (data_phase t) ≡ true → Stays t (AddressCycle byte ∷ t)
    in_column h d = record { named = d; same_row = ap (λ (o : Option Opening). row (record (facts_of t) { row = row_after_address o byte (row_bytes t) })) (no_opening t h); bytes = λ begun. refl }

    opens : (o : Option Opening) → opening t ≡ o → opened (λ c n. begins_data c && n == 4) o ≡ true → Stays t (AddressCycle byte ∷ t)
    opens None e h = cc
    opens (Some o) e h =
        let here : names_lun g (row_with (facts_of t) byte) lun ≡ true = sym (ap (λ (q : Option Opening). names_lun g (row (record (facts_of t) { row = row_after_address q byte (row_bytes t) })) lun) e) ∙ is in
        absurd (row_fills g t o (row_with (facts_of t) byte) held e h (sym (ap (λ (b : Bool). cond b (row_filling g (facts_of t) (row_with (facts_of t) byte) held) Leaves) here) ∙ leaves))

    last : (b : Bool) → opened (λ c n. begins_data c && n == 4) (opening t) ≡ b → (c : Bool) → is_data (cond b Inputs (cond c FeatureInputs Outside)) ≡ true → Stays t (AddressCycle byte ∷ t)
    last true e c h = opens (opening t) refl e
    last false e true h = cc
    last false e false h = cc

    of : (p : DataPhase) → data_phase t ≡ p → is_data (phase_after_address (opening t) p) ≡ true → Stays t (AddressCycle byte ∷ t)
    of Outside e h = last (opened (λ c n. begins_data c && n == 4) (opening t)) refl (opened (λ c n. is_set_features c && n == 0) (opening t)) h
    of Inputs e h = cc
    of FeatureInputs e h = cc
    of FirstColumn e h = in_column (ap wants_column e) (ap is_data e)
    of SecondColumn e h = in_column (ap wants_column e) (ap is_data e)

stays_input : (g : Parts) (t : List TargetCycle) (byte lun : ℕ) (held : List PageAddress) → cycle_filling g (facts_of t) (InputCycle byte) lun held ≡ Leaves → names_program (facts_of (InputCycle byte ∷ t)) ≡ true → names_lun g (row (facts_of t)) lun ≡ true → Stays t (InputCycle byte ∷ t)
stays_input g t byte lun held leaves named is = of (data_phase t) refl named
  where
    of : (p : DataPhase) → data_phase t ≡ p → is_data (phase_after_input (inputs t) p) ≡ true → Stays t (InputCycle byte ∷ t)
    of Inputs e h =
        let x : Fills (page_address g (row (facts_of t))) (input_column (facts_of t)) byte ≡ Leaves = sym (ap (λ (b : Bool). cond b (Fills (page_address g (row (facts_of t))) (input_column (facts_of t)) byte) Leaves) (both_of _ _ (ap takes_data e) is)) ∙ leaves in
        cc
    of Outside e h = cc
    of FirstColumn e h = cc
    of SecondColumn e h = cc
    of FeatureInputs e h = let x = input_inside (inputs t) FeatureInputs h in cc

pub stays : (g : Parts) (t : List TargetCycle) (cycle : TargetCycle) (lun : ℕ) (held : List PageAddress) → cycle_filling g (facts_of t) cycle lun held ≡ Leaves → names_program (facts_of (with_cycle cycle t)) ≡ true → names_lun g (row (facts_of (with_cycle cycle t))) lun ≡ true → Stays t (with_cycle cycle t)
stays g t (CommandCycle c) lun held leaves named is = stays_command t c (begins_anew (facts_of t) (CommandCycle c)) named
stays g [] (AddressCycle byte) lun held leaves named is = cc
stays g (d ∷ t) (AddressCycle byte) lun held leaves named is = stays_address g (d ∷ t) byte lun held leaves named is
stays g [] (InputCycle byte) lun held leaves named is = cc
stays g (d ∷ t) (InputCycle byte) lun held leaves named is = stays_input g (d ∷ t) byte lun held leaves named is
stays g [] OutputCycle lun held leaves named is = cc
stays g (d ∷ t) OutputCycle lun held leaves named is = cc
