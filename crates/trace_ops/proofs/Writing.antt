-- A tail that is in a program: amid its addresses, or in its data.
use Rattle.std.proofs.Common.{◌≡◌, ◌⊎◌, inl, inr, ℕ, zero, suc, ◌+◌, ◌==◌, Bool, true, false, ◌&&◌, ◌||◌, cond, List, [], ◌∷◌, Option, Some, None, refl, sym, ap, ◌∙◌, subst, arith, ltb, ltb-true, eqb-true}
use Rattle.std.proofs.lemmas.Bool.{and_parts}
use Rattle.onfi_cycle.specs.declared.command.Command.{Command}
use Rattle.onfi_cycle.specs.declared.command.Command.TheVariants.{PageProgram, ChangeWriteColumn}
use Rattle.onfi_cycle.specs.declared.data_phase.DataPhase.{DataPhase}
use Rattle.onfi_cycle.specs.declared.data_phase.DataPhase.TheVariants.{Outside, Inputs, FirstColumn, SecondColumn, FeatureInputs}
use Rattle.onfi_cycle.specs.declared.opening.Opening.{Opening}
use Rattle.onfi_cycle.specs.declared.target_cycle.TargetCycle.{TargetCycle}
use Rattle.onfi_cycle.specs.declared.target_cycle.TargetCycle.TheVariants.{CommandCycle, AddressCycle, InputCycle, OutputCycle}
use Rattle.onfi_cycle.specs.Command.{is_opener, address_cycles, takes_address, begins_data, is_set_features}
use Rattle.onfi_cycle.specs.Sequence.{opening, opened, one_address_more, data_phase, phase_after_command, phase_after_address, phase_after_input, inputs, facts_of, wants_address, wants_column, takes_inputs, takes_data, is_proper_beginning, is_open}
use Rattle.trace_ops.proofs.Contents.{in_program, one_less}

-- it has begun a program, and not all five addresses came
abbrev amid_addresses : Option Opening → Bool
amid_addresses o = opened (λ c n. begins_data c && ltb n 5) o

abbrev pub is_writing : List TargetCycle → Bool
is_writing t = amid_addresses (opening t) || in_program (data_phase t)

-- such a tail is open
pub writing_is_open : (t : List TargetCycle) → is_writing t ≡ true → is_open (facts_of t) ≡ true
writing_is_open t h = at (opening t) (data_phase t) h
  where
    at : (x : Option Opening) (d : DataPhase) → (amid_addresses x || in_program d) ≡ true → (opened is_proper_beginning x || takes_inputs d || wants_column d) ≡ true
    at None Outside h = cc
    at None FeatureInputs h = refl
    at None Inputs h = refl
    at None FirstColumn h = refl
    at None SecondColumn h = refl
    at (Some o) d h = of o.opener o.addresses d h
      where
        of : (c : Command) (n : ℕ) (d : DataPhase) → ((begins_data c && ltb n 5) || in_program d) ≡ true → (is_proper_beginning c n || takes_inputs d || wants_column d) ≡ true
        of c n Inputs h = at_end (is_proper_beginning c n)
          where
            at_end : (x : Bool) → (x || true || false) ≡ true
            at_end true = refl
            at_end false = refl
        of c n FirstColumn h = at_end (is_proper_beginning c n)
          where
            at_end : (x : Bool) → (x || false || true) ≡ true
            at_end true = refl
            at_end false = refl
        of c n SecondColumn h = at_end (is_proper_beginning c n)
          where
            at_end : (x : Bool) → (x || false || true) ≡ true
            at_end true = refl
            at_end false = refl
        of c n FeatureInputs h = at_end (is_proper_beginning c n)
          where
            at_end : (x : Bool) → (x || true || false) ≡ true
            at_end true = refl
            at_end false = refl
        of PageProgram n Outside h = low n (ltb n 5) refl h
          where
            low : (n : ℕ) (b : Bool) → ltb n 5 ≡ b → (b || false) ≡ true → (is_proper_beginning PageProgram n || false || false) ≡ true
            low n true e h = rw e refl
            low n false e h = cc
        of ChangeWriteColumn n Outside h = low n (ltb n 5) refl h
          where
            low : (n : ℕ) (b : Bool) → ltb n 5 ≡ b → (b || false) ≡ true → (is_proper_beginning ChangeWriteColumn n || false || false) ≡ true
            low n true e h = rw e refl
            low n false e h = cc
        of c n Outside h = cc

-- the opener of a program begins it
pub writing_opener : (c : Command) → (c ≡ PageProgram) ⊎ (c ≡ ChangeWriteColumn) → is_writing (CommandCycle c ∷ []) ≡ true
writing_opener c (inl e) = ap (λ (x : Command). is_writing (CommandCycle x ∷ [])) e
writing_opener c (inr e) = ap (λ (x : Command). is_writing (CommandCycle x ∷ [])) e

-- ---- the phase of a tail that is an opener with addresses

abbrev Fits : DataPhase → Opening → Type 0
Fits Outside o = Unit {0}
Fits Inputs o = (begins_data o.opener ≡ true) × (o.addresses ≡ 5)
Fits FirstColumn o = ⊥
Fits SecondColumn o = ⊥
Fits FeatureInputs o = is_set_features o.opener ≡ true

abbrev FitsSome : DataPhase → Option Opening → Type 0
FitsSome d None = Unit {0}
FitsSome d (Some o) = Fits d o

after_command : (c : Command) (o : Opening) → Fits (phase_after_command c Outside) o
after_command ChangeWriteColumn o = tt
after_command c o = tt

after_address : (y o : Opening) (d : DataPhase) → Fits d y → y.opener ≡ o.opener → y.addresses + 1 ≡ o.addresses → Fits (phase_after_address (Some y) d) o
after_address y o Outside fits same more = at (begins_data y.opener && y.addresses == 4) refl (is_set_features y.opener && y.addresses == 0) refl
  where
    at : (p : Bool) → (begins_data y.opener && y.addresses == 4) ≡ p → (q : Bool) → (is_set_features y.opener && y.addresses == 0) ≡ q → Fits (cond p Inputs (cond q FeatureInputs Outside)) o
    at true e q f = (
      ap begins_data (sym same) ∙ (and_parts (begins_data y.opener) _ e).0,
      sym more ∙ ap (λ n. n + 1) (eqb-true y.addresses 4 (and_parts (begins_data y.opener) _ e).1),
    )
    at false e true f = ap is_set_features (sym same) ∙ (and_parts (is_set_features y.opener) _ f).0
    at false e false f = tt
after_address y o Inputs fits same more = tt
after_address y o FirstColumn fits same more = absurd fits
after_address y o SecondColumn fits same more = absurd fits
after_address y o FeatureInputs fits same more = tt

abbrev addresses_of : Option Opening → ℕ
addresses_of None = 0
addresses_of (Some o) = o.addresses

phase_fits : (t : List TargetCycle) (o : Opening) → opening t ≡ Some o → Fits (data_phase t) o
phase_fits [] o h = tt
phase_fits (CommandCycle c ∷ []) o h = after_command c o
phase_fits (CommandCycle c ∷ (d ∷ t)) o h = cc
phase_fits (AddressCycle byte ∷ t) o h =
    let less = one_less (opening t) o h in
    let more : less.0.addresses + 1 ≡ o.addresses = ap (λ (x : Option Opening). addresses_of x) (sym (ap one_address_more less.1) ∙ h) in
    subst (λ (x : Option Opening). Fits (phase_after_address x (data_phase t)) o) (sym less.1) (after_address less.0 o (data_phase t) (phase_fits t less.0 less.1) less.2 more)
phase_fits (InputCycle byte ∷ t) o h = cc
phase_fits (OutputCycle ∷ t) o h = cc

some_fits : (t : List TargetCycle) (x : Option Opening) → opening t ≡ x → FitsSome (data_phase t) x
some_fits t None h = tt
some_fits t (Some o) h = phase_fits t o h

-- ---- one cycle more

no_features : (c : Command) (b : Bool) → ((begins_data c && b) || false) ≡ true → is_set_features c ≡ true → ⊥
no_features PageProgram b h e = cc
no_features ChangeWriteColumn b h e = cc
no_features c b h e = cc

low : (n : ℕ) → ltb n 5 ≡ true → (n == 4) ≡ false → ltb (n + 1) 5 ≡ true
low zero h e = refl
low (suc zero) h e = refl
low (suc (suc zero)) h e = refl
low (suc (suc (suc zero))) h e = refl
low (suc (suc (suc (suc zero)))) h e = cc
low (suc (suc (suc (suc (suc n))))) h e = absurd (let small = ltb-true (suc (suc (suc (suc (suc n))))) 5 h in omega (arith, small))

last_true : (x : Bool) → (x || true) ≡ true
last_true true = refl
last_true false = refl

-- what an address asks for of an opener
abbrev takes_one : ℕ → Option Opening → Bool
takes_one byte x = opened (λ c n. is_opener c && ltb n (address_cycles c) && takes_address c byte) x

full : (c : Command) (n byte : ℕ) → begins_data c ≡ true → n ≡ 5 → takes_one byte (Some (record { opener = c; addresses = n })) ≡ true → ⊥
full PageProgram n byte b e h = no (sym (ap (λ m. true && ltb m 5 && takes_address PageProgram byte) e) ∙ h)
  where
    no : false ≡ true → ⊥
    no x = cc
full ChangeWriteColumn n byte b e h = no (sym (ap (λ m. true && ltb m 5 && takes_address ChangeWriteColumn byte) e) ∙ h)
  where
    no : false ≡ true → ⊥
    no x = cc
full c n byte b e h = cc

first_true : (a : Bool) → (a || false) ≡ true → a ≡ true
first_true true h = refl
first_true false h = cc

address_next : (x : Option Opening) (d : DataPhase) (byte : ℕ) → FitsSome d x → (amid_addresses x || in_program d) ≡ true → (takes_one byte x || wants_column d) ≡ true → (amid_addresses (one_address_more x) || in_program (phase_after_address x d)) ≡ true
address_next None Outside byte fits h w = cc
address_next None Inputs byte fits h w = cc
address_next None FirstColumn byte fits h w = refl
address_next None SecondColumn byte fits h w = refl
address_next None FeatureInputs byte fits h w = cc
address_next (Some o) Outside byte fits h w = at (o.addresses == 4) refl
  where
    parts : (begins_data o.opener ≡ true) × (ltb o.addresses 5 ≡ true)
    parts = and_parts (begins_data o.opener) (ltb o.addresses 5) (first_true _ h)

    at : (e : Bool) → (o.addresses == 4) ≡ e → (amid_addresses (one_address_more (Some o)) || in_program (phase_after_address (Some o) Outside)) ≡ true
    at true e =
        ap (λ (x : Bool). amid_addresses (one_address_more (Some o)) || in_program (cond x Inputs (cond (is_set_features o.opener && o.addresses == 0) FeatureInputs Outside)))
        (ap (λ b. b && o.addresses == 4) parts.0 ∙ e) ∙ last_true (amid_addresses (one_address_more (Some o)))
    at false e = ap (λ (x : Bool). x || in_program (phase_after_address (Some o) Outside)) (ap (λ b. b && ltb (o.addresses + 1) 5) parts.0 ∙ low o.addresses parts.1 e)
address_next (Some o) Inputs byte fits h w = absurd (full o.opener o.addresses byte fits.0 fits.1 (first_true _ w))
address_next (Some o) FirstColumn byte fits h w = absurd fits
address_next (Some o) SecondColumn byte fits h w = absurd fits
address_next (Some o) FeatureInputs byte fits h w = absurd (no_features o.opener (ltb o.addresses 5) h fits)

-- an address that it wants
pub writing_address : (t : List TargetCycle) (byte : ℕ) → is_writing t ≡ true → wants_address (facts_of t) byte ≡ true → is_writing (AddressCycle byte ∷ t) ≡ true
writing_address t byte h wanted = address_next (opening t) (data_phase t) byte (some_fits t (opening t) refl) h wanted

input_next : (x : Option Opening) (d : DataPhase) (count : ℕ) → FitsSome d x → (amid_addresses x || in_program d) ≡ true → takes_inputs d ≡ true → in_program (phase_after_input count d) ≡ true
input_next x Inputs count fits h w = refl
input_next None FeatureInputs count fits h w = cc
input_next (Some o) FeatureInputs count fits h w = absurd (no_features o.opener (ltb o.addresses 5) h fits)
input_next x Outside count fits h w = cc
input_next x FirstColumn count fits h w = cc
input_next x SecondColumn count fits h w = cc

-- an input that it takes
pub writing_input : (t : List TargetCycle) (byte : ℕ) → is_writing t ≡ true → takes_inputs (data_phase t) ≡ true → is_writing (InputCycle byte ∷ t) ≡ true
writing_input t byte h wanted = input_next (opening t) (data_phase t) (inputs t) (some_fits t (opening t) refl) h wanted

column_next : (d : DataPhase) → takes_data d ≡ true → in_program (phase_after_command ChangeWriteColumn d) ≡ true
column_next Inputs h = refl
column_next d h = cc

-- an 85h in its data
pub writing_column : (d : TargetCycle) (t : List TargetCycle) → takes_data (data_phase (d ∷ t)) ≡ true → is_writing (CommandCycle ChangeWriteColumn ∷ (d ∷ t)) ≡ true
writing_column d t h = column_next (data_phase (d ∷ t)) h
