-- What an operation keeps of a read: its addresses, until a command closes it.
use Rattle.std.proofs.Common.{◌≡◌, ◌⊎◌, inl, inr, ℕ, ◌+◌, ◌==◌, Bool, true, false, ◌&&◌, ◌||◌, not, cond, List, [], ◌∷◌, Option, Some, None, is_some, refl, sym, ap, ◌∙◌, ltb, eqb-true}
use Rattle.std.proofs.lemmas.Bool.{and_parts}
use Rattle.onfi_cycle.specs.declared.command.Command.{Command}
use Rattle.onfi_cycle.specs.declared.command.Command.TheVariants.{Read, PageProgram, ChangeWriteColumn, ReadCacheSequential}
use Rattle.onfi_cycle.specs.declared.data_phase.DataPhase.{DataPhase}
use Rattle.onfi_cycle.specs.declared.data_phase.DataPhase.TheVariants.{Outside, FirstColumn, SecondColumn}
use Rattle.onfi_cycle.specs.declared.opening.Opening.{Opening}
use Rattle.onfi_cycle.specs.declared.target_cycle.TargetCycle.{TargetCycle}
use Rattle.onfi_cycle.specs.declared.target_cycle.TargetCycle.TheVariants.{CommandCycle, AddressCycle, InputCycle, OutputCycle}
use Rattle.onfi_cycle.specs.Bounds.{is_read}
use Rattle.onfi_cycle.specs.Command.{command, is_opener, address_cycles, closes, takes_address, begins_data, is_set_features}
use Rattle.onfi_cycle.specs.Sequence.{continued, opening, opened, one_address_more, data_phase, facts_of, wants_command, wants_address, wants_column, takes_inputs, is_proper_beginning, is_open}
use Rattle.onfi_cycle.proofs.Booleans.{clash}
use Rattle.onfi_cycle.proofs.CommandBytes.{commands_have_bytes}
use Rattle.trace_ops.specs.declared.operation.Beginning.{Beginning}
use Rattle.trace_ops.specs.declared.operation.Beginning.TheVariants as begins
use Rattle.trace_ops.specs.declared.operation.Operation.{Operation}
use Rattle.trace_ops.specs.Operation.{opener_of, is_byte}
use Rattle.trace_ops.proofs.Contents.{Content, is_program_open, byte_of, closer_by, in_program, in_data, content_output, content_opener, content_command, content_address, content_input}
use Rattle.trace_ops.proofs.Spans.{same_some}
use Rattle.trace_ops.proofs.Starts.{outside_opening}
use Rattle.trace_ops.proofs.Writing.{is_writing, writing_is_open, writing_opener, writing_address, writing_input, writing_column}

-- the parts of an operation that its bytes change
pub record Kept : Type 0 where
  pub closer : Option ℕ
  pub is_addressed : Bool
  pub address_count : ℕ

abbrev pub kept_of : Operation → Kept
kept_of o = record { closer = o.closer; is_addressed = o.is_addressed; address_count = o.address_count }

-- a 00h with its five addresses that no command has closed
abbrev pub is_reading : Beginning → Kept → Bool
is_reading b kept = is_byte (opener_of b) 0 && (kept.address_count == 5 && not (is_some kept.closer))

abbrev pub whole_read : Opening
whole_read = record { opener = Read; addresses = 5 }

pub record Held (b : Beginning) (kept : Kept) (t : List TargetCycle) : Type 0 where
  pub content : Content b kept.closer t
  pub counted : (o : Opening) → opening t ≡ Some o → is_read o.opener ≡ true → (kept.is_addressed ≡ true) × (kept.address_count ≡ o.addresses)
  pub reads : is_reading b kept ≡ true → opening t ≡ Some whole_read
  pub writing : is_program_open b kept.closer ≡ true → is_writing t ≡ true

-- ---- small facts

nothing_opened : {A : Type 0} (o : Opening) → None ≡ Some o → A
nothing_opened o h = cc

two_openers : (x : Option ℕ) → (is_byte x 0x80 || is_byte x 0x85) ≡ true → is_byte x 0 ≡ true → ⊥
two_openers None p q = cc
two_openers (Some byte) p q = clash (0 == 0x80 || 0 == 0x85) (ap (λ n. n == 0x80 || n == 0x85) (sym (eqb-true byte 0 q)) ∙ p) refl

in_column : (d : DataPhase) → wants_column d ≡ true → in_program d ≡ true
in_column FirstColumn h = refl
in_column SecondColumn h = refl
in_column d h = cc

read_is : (c : Command) → is_read c ≡ true → c ≡ Read
read_is Read h = refl
read_is c h = cc

-- the opener of a reading
reading_opens : (b : Beginning) (kept : Kept) → is_reading b kept ≡ true → is_byte (opener_of b) 0 ≡ true
reading_opens b kept h = (and_parts (is_byte (opener_of b) 0) _ h).0

reading_five : (b : Beginning) (kept : Kept) → is_reading b kept ≡ true → kept.address_count ≡ 5
reading_five b kept h = eqb-true kept.address_count 5 (and_parts (kept.address_count == 5) _ (and_parts (is_byte (opener_of b) 0) _ h).1).0

reading_unclosed : (b : Beginning) (kept : Kept) → is_reading b kept ≡ true → not (is_some kept.closer) ≡ true
reading_unclosed b kept h = (and_parts (kept.address_count == 5) _ (and_parts (is_byte (opener_of b) 0) _ h).1).1

-- a program and a read don't begin alike
no_program : (b : Beginning) (kept more : Kept) (t : List TargetCycle) → Held b kept t → is_reading b more ≡ true → in_program (data_phase t) ≡ true → ⊥
no_program b kept more t was h inside =
    two_openers (opener_of b) (and_parts (is_byte (opener_of b) 0x80 || is_byte (opener_of b) 0x85) (not (is_some kept.closer)) (was.content.program inside)).0 (reading_opens b more h)

-- the data of a read is outside
pub read_outside : (t : List TargetCycle) (o : Opening) → opening t ≡ Some o → is_read o.opener ≡ true → data_phase t ≡ Outside
read_outside t o h r =
    let is = read_is o.opener r in
    outside_opening t o h (ap begins_data is) (ap is_set_features is)

-- a read with its addresses is open, and wants its 31h
pub whole_is_open : (t : List TargetCycle) → opening t ≡ Some whole_read → is_open (facts_of t) ≡ true
whole_is_open t h = ap (λ o. opened is_proper_beginning o || takes_inputs (data_phase t) || wants_column (data_phase t)) h

pub whole_wants : (t : List TargetCycle) → opening t ≡ Some whole_read → wants_command (facts_of t) ReadCacheSequential ≡ true
whole_wants t h = ap (opened (λ c n. closes c ReadCacheSequential && n == address_cycles c)) h

-- and none but that does
closed_by_31 : (c : Command) (n : ℕ) → (closes c ReadCacheSequential && n == address_cycles c) ≡ true → (c ≡ Read) × (n ≡ 5)
closed_by_31 Read n h = (refl, eqb-true n 5 h)
closed_by_31 c n h = cc

pub wants_whole : (t : List TargetCycle) → wants_command (facts_of t) ReadCacheSequential ≡ true → opening t ≡ Some whole_read
wants_whole t h = at (opening t) h
  where
    at : (o : Option Opening) → opened (λ c n. closes c ReadCacheSequential && n == address_cycles c) o ≡ true → o ≡ Some whole_read
    at None h = cc
    at (Some o) h =
        let is = closed_by_31 o.opener o.addresses h in
        ap (λ c. Some (record { opener = c; addresses = o.addresses })) is.0 ∙ ap (λ n. Some (record { opener = Read; addresses = n })) is.1

-- a tail that wants a 31h is held by a reading
pub wanted_reading : (b : Beginning) (kept : Kept) (t : List TargetCycle) → Held b kept t → wants_command (facts_of t) ReadCacheSequential ≡ true → is_reading b kept ≡ true
wanted_reading b kept t held h =
    let whole = wants_whole t h in
    let opens = held.content.opens whole_read whole in
    let five = (held.counted whole_read whole refl).1 in
    let byte : opens.byte ≡ 0 = read_byte opens.byte opens.is_of in
    ap (λ x. is_reading x kept) opens.begun ∙ ap (λ n. is_reading (begins.Opener n) kept) byte ∙ ap (λ n. (0 == 0) && (n == 5 && not (is_some kept.closer))) five
    ∙ ap (λ (x : Option ℕ). not (is_some x)) opens.unclosed
  where
    read_byte : (byte : ℕ) → command byte ≡ Read → byte ≡ 0
    read_byte byte is = byte_of byte 0 Read refl is

-- ---- one cycle more

pub held_output : (b : Beginning) (kept : Kept) (t : List TargetCycle) → Held b kept t → is_open (facts_of t) ≡ false → Held b kept (continued OutputCycle t)
held_output b kept t was closed = record {
  content = content_output b kept.closer t;
  counted = λ o h r. unopened t o h;
  reads = λ h. absurd (clash (is_open (facts_of t)) (whole_is_open t (was.reads h)) closed);
  writing = λ h. absurd (clash (is_open (facts_of t)) (writing_is_open t (was.writing h)) closed);
}
  where
    unopened : {A : Type 0} (u : List TargetCycle) (o : Opening) → opening (continued OutputCycle u) ≡ Some o → A
    unopened [] o h = cc
    unopened (c ∷ u) o h = cc

-- of an operation that isn't begun by a command
pub held_cut : (kept : Kept) (t : List TargetCycle) → Held begins.Cut kept (continued OutputCycle t)
held_cut kept t = record { content = content_output begins.Cut kept.closer t; counted = λ o h r. unopened t o h; reads = λ h. cc; writing = λ h. cc }
  where
    unopened : {A : Type 0} (u : List TargetCycle) (o : Opening) → opening (continued OutputCycle u) ≡ Some o → A
    unopened [] o h = cc
    unopened (c ∷ u) o h = cc

pub held_opener : (byte : ℕ) → Held (begins.Opener byte) (record { closer = None; is_addressed = true; address_count = 0 }) (CommandCycle (command byte) ∷ [])
held_opener byte = record {
  content = content_opener byte;
  counted = λ o h r. (refl, ap (λ (x : Opening). x.addresses) (same_some h));
  reads = λ h. absurd (none (and_parts (byte == 0) _ h).1);
  writing = λ h. writing_opener (command byte) (writes (byte == 0x80) refl (byte == 0x85) refl (and_parts (byte == 0x80 || byte == 0x85) true h).0);
}
  where
    none : false ≡ true → ⊥
    none h = cc

    writes : (x : Bool) → (byte == 0x80) ≡ x → (y : Bool) → (byte == 0x85) ≡ y → (x || y) ≡ true → (command byte ≡ PageProgram) ⊎ (command byte ≡ ChangeWriteColumn)
    writes true e y f h = inl (commands_have_bytes.command_of_byte PageProgram byte (ap Some (sym (eqb-true byte 0x80 e))))
    writes false e true f h = inr (commands_have_bytes.command_of_byte ChangeWriteColumn byte (ap Some (sym (eqb-true byte 0x85 f))))
    writes false e false f h = cc

-- a command that the tail wants
abbrev pub kept_by : Beginning → Kept → ℕ → Kept
kept_by b kept byte = record { closer = closer_by b kept.closer byte; is_addressed = false; address_count = kept.address_count }

still_unclosed : (closer : Option ℕ) (b : Bool) (byte : ℕ) → not (is_some (cond (is_some closer || b) closer (Some byte))) ≡ true → b ≡ true
still_unclosed None true byte h = refl
still_unclosed None false byte h = cc
still_unclosed (Some c) b byte h = cc

closes_no_read : (o : Option Opening) → opened (λ c n. closes c Read && n == address_cycles c) o ≡ true → ⊥
closes_no_read None h = cc
closes_no_read (Some o) h = at o.opener o.addresses h
  where
    at : (c : Command) (n : ℕ) → (closes c Read && n == address_cycles c) ≡ true → ⊥
    at Read n h = cc
    at c n h = cc

closes_no_program : (o : Option Opening) → opened (λ c n. closes c PageProgram && n == address_cycles c) o ≡ true → ⊥
closes_no_program None h = cc
closes_no_program (Some o) h = at o.opener o.addresses h
  where
    at : (c : Command) (n : ℕ) → (closes c PageProgram && n == address_cycles c) ≡ true → ⊥
    at PageProgram n h = cc
    at c n h = cc

pub held_command : (b : Beginning) (kept : Kept) (byte : ℕ) (d : TargetCycle) (t : List TargetCycle) → Held b kept (d ∷ t) → wants_command (facts_of (d ∷ t)) (command byte) ≡ true →
    Held b (kept_by b kept byte) (CommandCycle (command byte) ∷ (d ∷ t))
held_command b kept byte d t was wanted = record {
  content = content_command b kept.closer byte d t was.content;
  counted = λ o h r. nothing_opened o h;
  reads = λ h. absurd (at (byte == 0x85) refl h (still_unclosed kept.closer (byte == 0x85 || is_byte (opener_of b) byte) byte (reading_unclosed b (kept_by b kept byte) h)));
  writing = λ h. writes (byte == 0x85) refl h (still_unclosed kept.closer (byte == 0x85 || is_byte (opener_of b) byte) byte (and_parts (is_byte (opener_of b) 0x80 || is_byte (opener_of b) 0x85) _ h).1);
}
  where
    wants : (c : Command) → command byte ≡ c → wants_command (facts_of (d ∷ t)) c ≡ true
    wants c is = ap (wants_command (facts_of (d ∷ t))) (sym is) ∙ wanted

    same_byte : (x : Option ℕ) → is_byte x byte ≡ true → is_byte x 0 ≡ true → byte ≡ 0
    same_byte None p q = cc
    same_byte (Some other) p q = sym (eqb-true other byte p) ∙ eqb-true other 0 q

    changes_column : (byte == 0x85) ≡ true → is_writing (CommandCycle (command byte) ∷ (d ∷ t)) ≡ true
    changes_column e =
        let code = commands_have_bytes.command_of_byte ChangeWriteColumn byte (ap Some (sym (eqb-true byte 0x85 e))) in
        ap (λ (c : Command). is_writing (CommandCycle c ∷ (d ∷ t))) code ∙ writing_column d t (wants ChangeWriteColumn code)

    begins_again : (x : Option ℕ) → is_byte x byte ≡ true → (p : Bool) → is_byte x 0x80 ≡ p → (q : Bool) → is_byte x 0x85 ≡ q → (p || q) ≡ true → is_writing (CommandCycle (command byte) ∷ (d ∷ t)) ≡ true
    begins_again None e p f q i h = cc
    begins_again (Some other) e true f q i h =
        absurd (closes_no_program (opening (d ∷ t))
        (wants PageProgram (commands_have_bytes.command_of_byte PageProgram byte (ap Some (sym (sym (eqb-true other byte e) ∙ eqb-true other 0x80 f))))))
    begins_again (Some other) e false f true i h = changes_column (ap (λ n. n == 0x85) (sym (eqb-true other byte e)) ∙ i)
    begins_again (Some other) e false f false i h = cc

    writes : (x : Bool) → (byte == 0x85) ≡ x → is_program_open b (closer_by b kept.closer byte) ≡ true → (x || is_byte (opener_of b) byte) ≡ true → is_writing (CommandCycle (command byte) ∷ (d ∷ t)) ≡ true
    writes true e h y = changes_column e
    writes false e h y =
        begins_again (opener_of b) y (is_byte (opener_of b) 0x80) refl (is_byte (opener_of b) 0x85) refl (and_parts (is_byte (opener_of b) 0x80 || is_byte (opener_of b) 0x85) _ h).0

    at : (x : Bool) → (byte == 0x85) ≡ x → is_reading b (kept_by b kept byte) ≡ true → (x || is_byte (opener_of b) byte) ≡ true → ⊥
    at true e h y =
        no_program b kept (kept_by b kept byte) (d ∷ t) was h
        (in_data (data_phase (d ∷ t)) (wants ChangeWriteColumn (commands_have_bytes.command_of_byte ChangeWriteColumn byte (ap Some (sym (eqb-true byte 0x85 e))))))
    at false e h y =
        closes_no_read (opening (d ∷ t))
        (wants Read (commands_have_bytes.command_of_byte Read byte (ap Some (sym (same_byte (opener_of b) y (reading_opens b (kept_by b kept byte) h))))))

-- an address that it wants
abbrev pub count_after : Kept → ℕ
count_after kept = cond (kept.is_addressed && ltb kept.address_count 5) (kept.address_count + 1) kept.address_count

abbrev pub kept_address : Kept → Kept
kept_address kept = record { closer = kept.closer; is_addressed = kept.is_addressed; address_count = count_after kept }

record Less (x : Option Opening) (o : Opening) : Type 0 where
  opener : Command
  addresses : ℕ
  was : x ≡ Some (record { opener = opener; addresses = addresses })
  same : opener ≡ o.opener
  more : addresses + 1 ≡ o.addresses

less_of : (x : Option Opening) (o : Opening) → one_address_more x ≡ Some o → Less x o
less_of None o h = cc
less_of (Some y) o h = record {
  opener = y.opener;
  addresses = y.addresses;
  was = refl;
  same = ap (λ (z : Opening). z.opener) (same_some h);
  more = ap (λ (z : Opening). z.addresses) (same_some h);
}

first_of : (a b : Bool) → (a || b) ≡ true → b ≡ false → a ≡ true
first_of true b h e = refl
first_of false b h e = (let z = sym h ∙ e in cc)

middle_of : (a b c : Bool) → (a && b && c) ≡ true → b ≡ true
middle_of true true c h = refl
middle_of true false c h = cc
middle_of false b c h = cc

later_of : (a b : Bool) → a ≡ false → (a || b) ≡ true → b ≡ true
later_of true b e h = cc
later_of false b e h = h

pub held_address : (b : Beginning) (kept : Kept) (byte : ℕ) (t : List TargetCycle) → Held b kept t → wants_address (facts_of t) byte ≡ true → Held b (kept_address kept) (AddressCycle byte ∷ t)
held_address b kept byte t was wanted = record { content = content_address b kept.closer byte t was.content; counted = counts; reads = λ h. whole (opening t) refl h; writing = λ h. writing_address t byte (was.writing h) wanted }
  where
    -- behind a read with so many addresses
    low : (n : ℕ) → opening t ≡ Some (record { opener = Read; addresses = n }) → ltb n 5 ≡ true
    low n e =
        let outside : data_phase t ≡ Outside = read_outside t (record { opener = Read; addresses = n }) e refl in
        let first = first_of (opened (λ c n. is_opener c && ltb n (address_cycles c) && takes_address c byte) (opening t)) (wants_column (data_phase t)) wanted (ap wants_column outside) in
        middle_of true (ltb n 5) true (sym (ap (opened (λ c n. is_opener c && ltb n (address_cycles c) && takes_address c byte)) e) ∙ first)

    one_more : (n : ℕ) → opening t ≡ Some (record { opener = Read; addresses = n }) → (kept.is_addressed ≡ true) × (count_after kept ≡ n + 1)
    one_more n e =
        let old = was.counted (record { opener = Read; addresses = n }) e refl in (
          old.0,
          ap (λ x. cond (x && ltb kept.address_count 5) (kept.address_count + 1) kept.address_count) old.0
              ∙ ap (λ x. cond x (kept.address_count + 1) kept.address_count) (ap (λ m. ltb m 5) old.1 ∙ low n e) ∙ ap (λ m. m + 1) old.1,
        )

    counts : (o : Opening) → one_address_more (opening t) ≡ Some o → is_read o.opener ≡ true → (kept.is_addressed ≡ true) × (count_after kept ≡ o.addresses)
    counts o h r =
        let less = less_of (opening t) o h in
        let is : less.opener ≡ Read = less.same ∙ read_is o.opener r in
        let both = one_more less.addresses (less.was ∙ ap (λ c. Some (record { opener = c; addresses = less.addresses })) is) in
        (both.0, both.1 ∙ less.more)

    whole : (x : Option Opening) → opening t ≡ x → is_reading b (kept_address kept) ≡ true → one_address_more (opening t) ≡ Some whole_read
    whole None e h =
        absurd (no_program b kept (kept_address kept) t was h
        (in_column (data_phase t)
        (later_of (opened (λ c n. is_opener c && ltb n (address_cycles c) && takes_address c byte) (opening t)) (wants_column (data_phase t))
        (ap (opened (λ c n. is_opener c && ltb n (address_cycles c) && takes_address c byte)) e) wanted)))
    whole (Some y) e h =
        let opens = was.content.opens y e in
        let byte : opens.byte ≡ 0 = eqb-true opens.byte 0 (ap (λ (z : Beginning). is_byte (opener_of z) 0) (sym opens.begun) ∙ reading_opens b (kept_address kept) h) in
        let read : y.opener ≡ Read = sym opens.is_of ∙ ap command byte ∙ commands_have_bytes.command_of_byte Read 0 refl in
        let here : opening t ≡ Some (record { opener = Read; addresses = y.addresses }) = e ∙ ap (λ c. Some (record { opener = c; addresses = y.addresses })) read in
        ap one_address_more here ∙ ap (λ n. Some (record { opener = Read; addresses = n })) (sym (one_more y.addresses here).1 ∙ reading_five b (kept_address kept) h)

-- an input that it takes
abbrev pub kept_input : Kept → Kept
kept_input kept = record { closer = kept.closer; is_addressed = false; address_count = kept.address_count }

pub held_input : (b : Beginning) (kept : Kept) (byte : ℕ) (t : List TargetCycle) → Held b kept t → takes_inputs (data_phase t) ≡ true → Held b (kept_input kept) (InputCycle byte ∷ t)
held_input b kept byte t was wanted = record {
  content = content_input b kept.closer byte t was.content;
  counted = λ o h r. nothing_opened o h;
  reads = λ h. absurd (clash (takes_inputs (data_phase t)) wanted (ap takes_inputs (read_outside t whole_read (was.reads h) refl)));
  writing = λ h. writing_input t byte (was.writing h) wanted;
}
