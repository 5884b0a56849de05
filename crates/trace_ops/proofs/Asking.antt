-- After a question for the status or a 00h alone nothing is wanted but the addresses of that, which start no work.
use Rattle.std.proofs.Common.{◌≡◌, ℕ, ◌+◌, ◌==◌, Bool, true, false, ◌&&◌, ◌||◌, not, cond, List, [], ◌∷◌, Option, Some, None, is_some, refl, sym, ap, ◌∙◌, eqb-true, ltb}
use Rattle.std.proofs.lemmas.Bool.{and_parts, and_right, or_right}
use Rattle.nand_geometry.specs.declared.parts.Parts.{Parts}
use Rattle.onfi_cycle.specs.declared.command.Command.{Command}
use Rattle.onfi_cycle.specs.declared.command.Command.TheVariants.{Read, ReadStatus, ReadStatusEnhanced, ChangeWriteColumn, ProgramConfirm, ProgramPlane, ProgramCache}
use Rattle.onfi_cycle.specs.declared.data_phase.DataPhase.TheVariants.{Outside, Inputs, FeatureInputs}
use Rattle.onfi_cycle.specs.declared.item.Item.{Item}
use Rattle.onfi_cycle.specs.declared.lun.Lun.{Lun}
use Rattle.onfi_cycle.specs.declared.opening.Opening.{Opening}
use Rattle.onfi_cycle.specs.declared.tail_facts.TailFacts.{TailFacts}
use Rattle.onfi_cycle.specs.declared.target_cycle.TargetCycle.{TargetCycle}
use Rattle.onfi_cycle.specs.declared.target_cycle.TargetCycle.TheVariants.{CommandCycle, AddressCycle, OutputCycle}
use Rattle.onfi_cycle.specs.Command.{command, is_opener, address_cycles, closes, takes_address, begins_data, is_set_features}
use Rattle.onfi_cycle.specs.Effect.{names_lun, address_effect, opening_address_effect}
use Rattle.onfi_cycle.specs.Sequence.{continued, tail, opening, opened, one_address_more, data_phase, phase_after_last_address, phase_after_address, facts_of, takes_data, takes_inputs, wants_command, wants_address, wants_column, row_with}
use Rattle.onfi_cycle.proofs.CommandBytes.{commands_have_bytes}
use Rattle.trace_ops.specs.declared.operation.Beginning.{Beginning}
use Rattle.trace_ops.specs.Operation.{opener_of, is_byte}
use Rattle.trace_ops.proofs.Addressed.{program_byte, in_column}
use Rattle.trace_ops.proofs.Contents.{Opens, Content}
use Rattle.trace_ops.proofs.Legal.{or_other}
use Rattle.trace_ops.proofs.Starts.{starts, starts_by, either_false, outside_opening, unopened_starts}

-- an opener that asks, with so many addresses
abbrev asking_opener : Command → ℕ → Bool
asking_opener ReadStatus n = true
asking_opener ReadStatusEnhanced n = true
asking_opener Read n = n == 0
asking_opener c n = false

abbrev asked : Option Opening → Bool
asked None = true
asked (Some o) = asking_opener o.opener o.addresses

-- a tail that asks
pub record Asking (t : List TargetCycle) : Type 0 where
  pub outside : data_phase t ≡ Outside
  pub opening : asked (opening t) ≡ true

-- ---- nothing is wanted

closes_none : (c d : Command) (n : ℕ) → asking_opener c n ≡ true → (closes c d && n == address_cycles c) ≡ false
closes_none ReadStatus d n h = refl
closes_none ReadStatusEnhanced d n h = refl
closes_none Read d n h = and_right (closes Read d) (n == 5) (ap (λ m. m == 5) (eqb-true n 0 h))
closes_none c d n h = cc

closed_none : (d : Command) (o : Option Opening) → asked o ≡ true → opened (λ c n. closes c d && n == address_cycles c) o ≡ false
closed_none d None h = refl
closed_none d (Some o) h = closes_none o.opener d o.addresses h

closer_none : (t : List TargetCycle) (d : Command) → Asking t → opened (λ c n. closes c d && n == address_cycles c) (opening t) ≡ false
closer_none t d a = closed_none d (opening t) a.opening

pub asking_command : (t : List TargetCycle) (d : Command) → Asking t → wants_command (facts_of t) d ≡ false
asking_command t ChangeWriteColumn a = ap takes_data a.outside
asking_command t ProgramConfirm a = ap takes_data a.outside
asking_command t ProgramPlane a = ap takes_data a.outside
asking_command t ProgramCache a = ap takes_data a.outside
asking_command t d a = closer_none t d a

pub asking_input : (t : List TargetCycle) → Asking t → takes_inputs (data_phase t) ≡ false
asking_input t a = ap takes_inputs a.outside

-- ---- an address starts nothing

address_rests : (g : Parts) (t : TailFacts) (byte : ℕ) (c : Command) (n lun : ℕ) → asking_opener c n ≡ true → starts (address_effect g t byte c n lun) ≡ false
address_rests g t byte ReadStatus n lun h = refl
address_rests g t byte Read n lun h = refl
address_rests g t byte ReadStatusEnhanced n lun h = either_false starts (n == 2) _ _ (either_false starts (names_lun g (row_with t byte) lun) _ _ refl refl) refl
address_rests g t byte c n lun h = cc

pub asking_rests : (g : Parts) (past : List Item) (l : Lun) (byte : ℕ) → Asking (tail past l.ce) → starts_by g past l (AddressCycle byte) ≡ false
asking_rests g past l byte a = at (opening (tail past l.ce)) refl a.opening
  where
    at : (o : Option Opening) → opening (tail past l.ce) ≡ o → asked o ≡ true → starts_by g past l (AddressCycle byte) ≡ false
    at None e h = unopened_starts g past l byte e
    at (Some o) e h =
        ap (λ x. starts (opening_address_effect g (facts_of (tail past l.ce)) byte x l.lun)) e
        ∙ address_rests g (facts_of (tail past l.ce)) byte o.opener o.addresses l.lun h

-- ---- the tail goes on to ask

pub asking_output : (t : List TargetCycle) → Asking (continued OutputCycle t)
asking_output [] = record { outside = refl; opening = refl }
asking_output (c ∷ t) = record { outside = refl; opening = refl }

phase_stays : (c : Command) (n : ℕ) → asking_opener c n ≡ true → cond (begins_data c && n == 4) Inputs (cond (is_set_features c && n == 0) FeatureInputs Outside) ≡ Outside
phase_stays ReadStatus n h = refl
phase_stays ReadStatusEnhanced n h = refl
phase_stays Read n h = refl
phase_stays c n h = cc

outside_after : (o : Option Opening) → asked o ≡ true → phase_after_last_address o ≡ Outside
outside_after None h = refl
outside_after (Some o) h = phase_stays o.opener o.addresses h

one_more : (c : Command) (n : ℕ) → (c ≡ Read → ⊥) → asking_opener c n ≡ true → asking_opener c (n + 1) ≡ true
one_more ReadStatus n apart h = refl
one_more ReadStatusEnhanced n apart h = refl
one_more Read n apart h = absurd (apart refl)
one_more c n apart h = cc

asked_after : (o : Option Opening) → ((x : Opening) → o ≡ Some x → x.opener ≡ Read → ⊥) → asked o ≡ true → asked (one_address_more o) ≡ true
asked_after None apart h = refl
asked_after (Some o) apart h = one_more o.opener o.addresses (apart o refl) h

pub asking_address : (t : List TargetCycle) (byte : ℕ) → ((x : Opening) → opening t ≡ Some x → x.opener ≡ Read → ⊥) → Asking t → Asking (continued (AddressCycle byte) t)
asking_address [] byte apart a = record { outside = refl; opening = refl }
asking_address (c ∷ t) byte apart a = record {
  outside = ap (phase_after_address (opening (c ∷ t))) a.outside ∙ outside_after (opening (c ∷ t)) a.opening;
  opening = asked_after (opening (c ∷ t)) apart a.opening;
}

-- the opener of an operation that asks for a status is no 00h
pub not_read : (b : Beginning) (closer : Option ℕ) (t : List TargetCycle) → Content b closer t → (is_byte (opener_of b) 0x70 || is_byte (opener_of b) 0x78) ≡ true →
    (x : Opening) → opening t ≡ Some x → x.opener ≡ Read → ⊥
not_read b closer t content asks x e reads = at (is_byte (opener_of b) 0x70) refl asks
  where
    opens : Opens b closer x
    opens = content.opens x e

    code : (v : ℕ) (c : Command) → command v ≡ c → is_byte (opener_of b) v ≡ true → Read ≡ c
    code v c is h = sym reads ∙ sym opens.is_of ∙ ap command (eqb-true opens.byte v (ap (λ (y : Beginning). is_byte (opener_of y) v) (sym opens.begun) ∙ h)) ∙ is

    status : Read ≡ ReadStatus → ⊥
    status h = cc

    enhanced : Read ≡ ReadStatusEnhanced → ⊥
    enhanced h = cc

    at : (s : Bool) → is_byte (opener_of b) 0x70 ≡ s → (s || is_byte (opener_of b) 0x78) ≡ true → ⊥
    at true h asks = status (code 0x70 ReadStatus (commands_have_bytes.command_of_byte ReadStatus 0x70 refl) h)
    at false h asks = enhanced (code 0x78 ReadStatusEnhanced (commands_have_bytes.command_of_byte ReadStatusEnhanced 0x78 refl) asks)

-- ---- it begins to ask

pub asking_status : Asking (CommandCycle ReadStatus ∷ [])
asking_status = record { outside = refl; opening = refl }

pub asking_read : Asking (CommandCycle Read ∷ [])
asking_read = record { outside = refl; opening = refl }

-- an address of a 78h
pub record Enhanced (closer : Option ℕ) (t : List TargetCycle) (byte : ℕ) : Type 0 where
  pub asking : Asking (continued (AddressCycle byte) t)
  pub unclosed : is_some closer ≡ false

pub enhanced_of : (b : Beginning) (closer : Option ℕ) (t : List TargetCycle) (byte : ℕ) → Content b closer t → is_byte (opener_of b) 0x78 ≡ true → wants_address (facts_of t) byte ≡ true → Enhanced closer t byte
enhanced_of b closer t byte content h wanted = at (opening t) refl
  where
    at : (o : Option Opening) → opening t ≡ o → Enhanced closer t byte
    at None e = absurd (program_byte (opener_of b) 0x78 refl refl program h)
      where
        column : wants_column (data_phase t) ≡ true
        column =
            or_other (opened (λ c n. is_opener c && ltb n (address_cycles c) && takes_address c byte) (opening t)) (wants_column (data_phase t))
            (ap (opened (λ c n. is_opener c && ltb n (address_cycles c) && takes_address c byte)) e) wanted

        program : (is_byte (opener_of b) 0x80 || is_byte (opener_of b) 0x85) ≡ true
        program = (and_parts (is_byte (opener_of b) 0x80 || is_byte (opener_of b) 0x85) (not (is_some closer)) (content.program (in_column (data_phase t) column))).0
    at (Some o) e = record { asking = asking_address t byte apart (record { outside = outside; opening = ap asked e ∙ ap (λ c. asking_opener c o.addresses) is }); unclosed = ap (λ (x : Option ℕ). is_some x) opens.unclosed }
      where
        opens : Opens b closer o
        opens = content.opens o e

        is : o.opener ≡ ReadStatusEnhanced
        is =
            sym opens.is_of ∙ ap command (eqb-true opens.byte 0x78 (ap (λ (x : Beginning). is_byte (opener_of x) 0x78) (sym opens.begun) ∙ h))
            ∙ commands_have_bytes.command_of_byte ReadStatusEnhanced 0x78 refl

        outside : data_phase t ≡ Outside
        outside = outside_opening t o e (ap begins_data is) (ap is_set_features is)

        apart : (x : Opening) → opening t ≡ Some x → x.opener ≡ Read → ⊥
        apart x f reads = not_read b closer t content (or_right (is_byte (opener_of b) 0x70) (is_byte (opener_of b) 0x78) h) x f reads
