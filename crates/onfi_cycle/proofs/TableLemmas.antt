-- The rules follow the table of sequences.
use Rattle.std.proofs.Common.{◌≡◌, ℕ, ◌+◌, ◌≤◌, ◌==◌, ◌⊎◌, Bool, true, false, ◌&&◌, ◌||◌, cond, List, [], ◌∷◌, ◌++◌, reverse, length, Option, Some, None, refl, sym, ap, ◌∙◌, subst, inl, inr, arith, ltb, eqb-true, append_assoc, append-nil, ◌<◌}
use Rattle.std.proofs.lemmas.Bool.Decides.{nat_tests}
use Rattle.std.proofs.lemmas.List.{reverse-append, reverse-reverse}
use Rattle.std.proofs.lemmas.Bool.{or_cases, or_right, and_parts, and_from, or_left}
use Rattle.onfi_cycle.proofs.Booleans.{clash}
use Rattle.onfi_cycle.specs.declared.command.Command.{Command}
use Rattle.onfi_cycle.specs.declared.command.Command.TheVariants.{Read, ReadConfirm, ChangeReadColumn, ChangeReadColumnConfirm, BlockErase, BlockEraseConfirm, BlockErasePlane, ReadStatusEnhanced, PageProgram, ChangeWriteColumn, ProgramConfirm, ProgramPlane, ReadId, ReadParameterPage, ReadUniqueId, GetFeatures, SetFeatures, ResetLun, ReadCacheSequential, ChangeReadColumnEnhanced, ReadPlane, CopybackRead, ProgramCache}
use Rattle.onfi_cycle.specs.declared.opening.Opening.{Opening}
use Rattle.onfi_cycle.specs.declared.data_phase.DataPhase.{DataPhase}
use Rattle.onfi_cycle.specs.declared.data_phase.DataPhase.TheVariants.{Outside, Inputs, FirstColumn, SecondColumn, FeatureInputs}
use Rattle.onfi_cycle.specs.declared.tail_facts.TailFacts.{TailFacts}
use Rattle.onfi_cycle.specs.declared.target_cycle.TargetCycle.{TargetCycle}
use Rattle.onfi_cycle.specs.declared.target_cycle.TargetCycle.TheVariants.{CommandCycle, AddressCycle, InputCycle, OutputCycle}
use Rattle.onfi_cycle.specs.Command.{is_opener, address_cycles, takes_address, closes, begins_data, is_set_features}
use Rattle.onfi_cycle.specs.Sequence.{begins_sequence, one_address_more, opening, opened, data_phase, phase_after_command, phase_after_address, phase_after_input, phase_after_last_address, facts_of, extended_facts, wants, wants_command, wants_address, is_proper_beginning, is_open, takes_inputs, wants_column, takes_data, takes_features, inputs}
use Rattle.onfi_cycle.specs.Table.{IsProgramData, IsProgramOpener, IsProgramCloser, IsSequence, IsBeginning, IsProperBeginning, TailsFollowTheTable, cache}
use Rattle.onfi_cycle.specs.Table.IsProgramData.{nothing, input, column}
use Rattle.onfi_cycle.specs.Table.IsProgramOpener.{write, copy}
use Rattle.onfi_cycle.specs.Table.IsProgramCloser.{whole, plane}
use Rattle.onfi_cycle.specs.Table.IsSequence.{read, read_plane, copyback_read, read_cache_random, change_read_column, change_read_column_enhanced, erase, erase_plane, read_status, read_status_enhanced, program, read_id, read_parameter_page, reset, read_cache_sequential, read_cache_end, read_manufacturer, read_jedec, read_unique_id, get_features, set_features, reset_lun, synchronous_reset}

-- 1. A sequence, read in the order of time, is wanted cycle by cycle.

abbrev wanted_along : TailFacts → List TargetCycle → Bool
wanted_along f [] = true
wanted_along f (c ∷ cs) = wants f c && wanted_along (extended_facts c f) cs

abbrev facts_along : TailFacts → List TargetCycle → TailFacts
facts_along f [] = f
facts_along f (c ∷ cs) = facts_along (extended_facts c f) cs

pub facts_extended : (c : TargetCycle) (t : List TargetCycle) → facts_of (c ∷ t) ≡ extended_facts c (facts_of t)
facts_extended (CommandCycle c) [] = refl
facts_extended (CommandCycle c) (d ∷ t) = refl
facts_extended (AddressCycle b) t = refl
facts_extended (InputCycle b) t = refl
facts_extended OutputCycle t = refl

abbrev scans : List TargetCycle → Bool
scans [] = false
scans (c ∷ cs) = begins_sequence c && wanted_along (facts_of (c ∷ [])) cs

-- the data of a program, up to its closer
data_scans : (f : TailFacts) (bytes : List TargetCycle) (closer : Command) → IsProgramData bytes → IsProgramCloser closer → f.phase ≡ Inputs → wanted_along f (bytes ++ (CommandCycle closer ∷ [])) ≡ true
data_scans f _ _ nothing whole h = and_from (takes_data f.phase) true (ap takes_data h) refl
data_scans f _ _ nothing plane h = and_from (takes_data f.phase) true (ap takes_data h) refl
data_scans f _ _ nothing cache h = and_from (takes_data f.phase) true (ap takes_data h) refl
data_scans f _ closer (input byte more rest) k h =
    and_from (takes_inputs f.phase) _ (ap takes_inputs h) (data_scans (extended_facts (InputCycle byte) f) more closer rest k (ap (phase_after_input f.inputs) h))
data_scans f _ closer (column c1 c2 more rest) k h =
    let f1 = extended_facts (CommandCycle ChangeWriteColumn) f in
    let f2 = extended_facts (AddressCycle c1) f1 in
    let e1 : f1.phase ≡ FirstColumn = ap (phase_after_command ChangeWriteColumn) h in
    let e2 : f2.phase ≡ SecondColumn = ap (phase_after_address f1.opening) e1 in
    and_from (takes_data f.phase) _ (ap takes_data h)
    (and_from (wants_address f1 c1) _ (or_right (opens_for f1 c1) (wants_column f1.phase) (ap wants_column e1))
    (and_from (wants_address f2 c2) _ (or_right (opens_for f2 c2) (wants_column f2.phase) (ap wants_column e2))
    (data_scans (extended_facts (AddressCycle c2) f2) more closer rest k (ap (phase_after_address f2.opening) e2))))
  where
    opens_for : TailFacts → ℕ → Bool
    opens_for t byte = opened (λ c n. is_opener c && ltb n (address_cycles c) && takes_address c byte) t.opening

-- each sequence of the table
sequence_scans : (s : List TargetCycle) → IsSequence s → scans s ≡ true
sequence_scans _ (read c1 c2 r1 r2 r3) = refl
sequence_scans _ (read_plane c1 c2 r1 r2 r3) = refl
sequence_scans _ (copyback_read c1 c2 r1 r2 r3) = refl
sequence_scans _ (read_cache_random c1 c2 r1 r2 r3) = refl
sequence_scans _ (change_read_column c1 c2) = refl
sequence_scans _ (change_read_column_enhanced c1 c2 r1 r2 r3) = refl
sequence_scans _ (erase r1 r2 r3) = refl
sequence_scans _ (erase_plane r1 r2 r3) = refl
sequence_scans _ read_status = refl
sequence_scans _ (read_status_enhanced r1 r2 r3) = refl
sequence_scans _ (program _ c1 c2 r1 r2 r3 bytes closer write d k) =
    data_scans (facts_of (AddressCycle r3 ∷ (AddressCycle r2 ∷ (AddressCycle r1 ∷ (AddressCycle c2 ∷ (AddressCycle c1 ∷ (CommandCycle PageProgram ∷ []))))))) bytes closer d k refl
sequence_scans _ (program _ c1 c2 r1 r2 r3 bytes closer copy d k) =
    data_scans (facts_of (AddressCycle r3 ∷ (AddressCycle r2 ∷ (AddressCycle r1 ∷ (AddressCycle c2 ∷ (AddressCycle c1 ∷ (CommandCycle ChangeWriteColumn ∷ []))))))) bytes closer d k refl
sequence_scans _ read_id = refl
sequence_scans _ read_parameter_page = refl
sequence_scans _ reset = refl
sequence_scans _ read_cache_sequential = refl
sequence_scans _ read_cache_end = refl
sequence_scans _ read_manufacturer = refl
sequence_scans _ read_jedec = refl
sequence_scans _ read_unique_id = refl
sequence_scans _ (get_features feature) = refl
sequence_scans _ (set_features feature p1 p2 p3 p4) = refl
sequence_scans _ (reset_lun r1 r2 r3) = refl
sequence_scans _ synchronous_reset = refl

-- where cycles in the order of time scan, each is wanted by the facts before it
wanted_at : (f : TailFacts) (cs : List TargetCycle) (c : TargetCycle) (more : List TargetCycle) → wanted_along f (cs ++ (c ∷ more)) ≡ true → wants (facts_along f cs) c ≡ true
wanted_at f [] c more h = (and_parts (wants f c) _ h).0
wanted_at f (d ∷ cs) c more h = wanted_at (extended_facts d f) cs c more (and_parts (wants f d) _ h).1

-- the facts along a list are those of the tail that it makes
facts_along_append : (f : TailFacts) (cs ds : List TargetCycle) → facts_along f (cs ++ ds) ≡ facts_along (facts_along f cs) ds
facts_along_append f [] ds = refl
facts_along_append f (c ∷ cs) ds = facts_along_append (extended_facts c f) cs ds

pub reverse_more : (c : TargetCycle) (t : List TargetCycle) → reverse (c ∷ t) ≡ reverse t ++ (c ∷ [])
reverse_more c t = reverse-append (c ∷ []) t

facts_reversed : (t : List TargetCycle) → facts_along (facts_of []) (reverse t) ≡ facts_of t
facts_reversed [] = refl
facts_reversed (c ∷ t) =
    ap (facts_along (facts_of [])) (reverse_more c t) ∙ (facts_along_append (facts_of []) (reverse t) (c ∷ []) ∙ (ap (extended_facts c) (facts_reversed t) ∙ sym (facts_extended c t)))

-- after the first cycle, each cycle of a beginning is wanted by the facts of the tail before it
scanned_wants : (xs : List TargetCycle) (f : TailFacts) (c : TargetCycle) (more : List TargetCycle) → facts_along (facts_of []) xs ≡ f → scans (xs ++ (c ∷ more)) ≡ true → ((xs ≡ []) × (begins_sequence c ≡ true)) ⊎ (wants f c ≡ true)
scanned_wants [] f c more e h = inl (refl, (and_parts (begins_sequence c) _ h).0)
scanned_wants (o ∷ ys) f c more e h =
    let here : wants (facts_along (facts_of (o ∷ [])) ys) c ≡ true = wanted_at (facts_of (o ∷ [])) ys c more (and_parts (begins_sequence o) _ h).1 in
    let same : facts_along (facts_of (o ∷ [])) ys ≡ f = ap (λ g. facts_along g ys) (facts_extended o []) ∙ e in
    inr (ap (λ g. wants g c) (sym same) ∙ here)

nil_of_reverse : (t : List TargetCycle) → reverse t ≡ [] → t ≡ []
nil_of_reverse t h = sym (reverse-reverse t) ∙ ap reverse h

pub beginning_wants : (t : List TargetCycle) (c : TargetCycle) → IsBeginning (reverse (c ∷ t)) → ((t ≡ []) × (begins_sequence c ≡ true)) ⊎ (wants (facts_of t) c ≡ true)
beginning_wants t c (more, s) =
    let is : reverse (c ∷ t) ++ more ≡ reverse t ++ (c ∷ more) = ap (λ x. x ++ more) (reverse_more c t) ∙ append_assoc (reverse t) (c ∷ []) more in
    let scan : scans (reverse t ++ (c ∷ more)) ≡ true = ap scans (sym is) ∙ sequence_scans (reverse (c ∷ t) ++ more) s in
    elim (scanned_wants (reverse t) (facts_of t) c more (facts_reversed t) scan) [ inl p ↦ inl (nil_of_reverse t p.0, p.1) | inr w ↦ inr w ]

-- 2. What the facts of a tail tell of its shape.

abbrev pub addresses : List ℕ → List TargetCycle
addresses [] = []
addresses (b ∷ bs) = AddressCycle b ∷ addresses bs

addresses_append : (bs : List ℕ) (b : ℕ) → addresses bs ++ (AddressCycle b ∷ []) ≡ addresses (bs ++ (b ∷ []))
addresses_append [] b = refl
addresses_append (x ∷ bs) b = ap (λ l. AddressCycle x ∷ l) (addresses_append bs b)

length_more : (bs : List ℕ) (b : ℕ) → length (bs ++ (b ∷ [])) ≡ length bs + 1
length_more [] b = refl
length_more (x ∷ bs) b = let e : length (bs ++ (b ∷ [])) ≡ length bs + 1 = length_more bs b in omega arith

-- an opener with its addresses
pub record IsOpening (o : Opening) (t : List TargetCycle) : Type 0 where
  pub bytes : List ℕ
  pub count : length bytes ≡ o.addresses
  pub is : reverse t ≡ CommandCycle o.opener ∷ addresses bytes

pub opening_shape : (t : List TargetCycle) (o : Opening) → opening t ≡ Some o → IsOpening o t
opening_shape [] o h = cc
opening_shape (CommandCycle c ∷ []) o h =
    let e : (let p : Opening = record { opener = c; addresses = 0 } in p) ≡ o = cc in
    subst (λ p. IsOpening p (CommandCycle c ∷ [])) e (record { bytes = []; count = refl; is = refl })
opening_shape (CommandCycle c ∷ (d ∷ t)) o h = cc
opening_shape (AddressCycle b ∷ t) o h = at (opening t) (opening_shape t) h
  where
    at : (x : Option Opening) → ((p : Opening) → x ≡ Some p → IsOpening p t) → one_address_more x ≡ Some o → IsOpening o (AddressCycle b ∷ t)
    at None shape h = cc
    at (Some p) shape h =
        let before = shape p refl in
        let is_o : (let q : Opening = record { opener = p.opener; addresses = p.addresses + 1 } in q) ≡ o = cc in
        subst (λ q. IsOpening q (AddressCycle b ∷ t)) is_o (record {
          bytes = before.bytes ++ (b ∷ []);
          count = length_more before.bytes b ∙ ap (λ n. n + 1) before.count;
          is = reverse_more (AddressCycle b) t ∙ (ap (λ l. l ++ (AddressCycle b ∷ [])) before.is ∙ ap (λ l. CommandCycle p.opener ∷ l) (addresses_append before.bytes b));
        })
opening_shape (InputCycle b ∷ t) o h = cc
opening_shape (OutputCycle ∷ t) o h = cc

-- a program with its addresses and some of its data
abbrev program_with : (opener : Command) (c1 c2 r1 r2 r3 : ℕ) → List TargetCycle → List TargetCycle
program_with opener c1 c2 r1 r2 r3 rest =
    CommandCycle opener ∷ (AddressCycle c1 ∷ (AddressCycle c2 ∷ (AddressCycle r1 ∷ (AddressCycle r2 ∷ (AddressCycle r3 ∷ rest)))))

-- a program whose data goes on with this
record IsInProgram (behind t : List TargetCycle) : Type 0 where
  opener : Command
  opens : IsProgramOpener opener
  c1 : ℕ
  c2 : ℕ
  r1 : ℕ
  r2 : ℕ
  r3 : ℕ
  bytes : List TargetCycle
  is_data : IsProgramData bytes
  is : reverse t ≡ program_with opener c1 c2 r1 r2 r3 (bytes ++ behind)

-- some inputs
abbrev input_cycles : List ℕ → List TargetCycle
input_cycles [] = []
input_cycles (b ∷ bs) = InputCycle b ∷ input_cycles bs

input_cycles_append : (bs : List ℕ) (b : ℕ) → input_cycles bs ++ (InputCycle b ∷ []) ≡ input_cycles (bs ++ (b ∷ []))
input_cycles_append [] b = refl
input_cycles_append (x ∷ bs) b = ap (λ l. InputCycle x ∷ l) (input_cycles_append bs b)

-- a Set Features with some of its bytes
record IsInFeatures (t : List TargetCycle) : Type 0 where
  feature : ℕ
  bytes : List ℕ
  count : length bytes ≡ inputs t
  few : length bytes < 4
  is : reverse t ≡ CommandCycle SetFeatures ∷ (AddressCycle feature ∷ input_cycles bytes)

-- what the phase of a tail tells
abbrev HasPhase : DataPhase → List TargetCycle → Type 0
HasPhase Outside t = Unit {0}
HasPhase Inputs t = IsInProgram [] t
HasPhase FirstColumn t = IsInProgram (CommandCycle ChangeWriteColumn ∷ []) t
HasPhase FeatureInputs t = IsInFeatures t
HasPhase SecondColumn t = (c : ℕ) × IsInProgram (CommandCycle ChangeWriteColumn ∷ (AddressCycle c ∷ [])) t

data_append : (a b : List TargetCycle) → IsProgramData a → IsProgramData b → IsProgramData (a ++ b)
data_append _ b nothing k = k
data_append _ b (input byte more d) k = input byte (more ++ b) (data_append more b d k)
data_append _ b (column c1 c2 more d) k = column c1 c2 (more ++ b) (data_append more b d k)

-- one cycle more behind the data
in_program_more : (behind t : List TargetCycle) (c : TargetCycle) → IsInProgram behind t → IsInProgram (behind ++ (c ∷ [])) (c ∷ t)
in_program_more behind t c p =
    record {
      opener = p.opener;
      opens = p.opens;
      c1 = p.c1;
      c2 = p.c2;
      r1 = p.r1;
      r2 = p.r2;
      r3 = p.r3;
      bytes = p.bytes;
      is_data = p.is_data;
      is = reverse_more c t ∙ (ap (λ l. l ++ (c ∷ [])) p.is ∙ ap (program_with p.opener p.c1 p.c2 p.r1 p.r2 p.r3) (append_assoc p.bytes behind (c ∷ [])));
    }

-- what stands behind the data is data too
in_program_whole : (behind t : List TargetCycle) → IsProgramData behind → IsInProgram behind t → IsInProgram [] t
in_program_whole behind t d p =
    record {
      opener = p.opener;
      opens = p.opens;
      c1 = p.c1;
      c2 = p.c2;
      r1 = p.r1;
      r2 = p.r2;
      r3 = p.r3;
      bytes = p.bytes ++ behind;
      is_data = data_append p.bytes behind p.is_data d;
      is = p.is ∙ ap (program_with p.opener p.c1 p.c2 p.r1 p.r2 p.r3) (sym (append-nil (p.bytes ++ behind)));
    }

-- four bytes
record AreFour (bs : List ℕ) : Type 0 where
  a : ℕ
  b : ℕ
  c : ℕ
  d : ℕ
  is : bs ≡ a ∷ (b ∷ (c ∷ (d ∷ [])))

four_of : (bs : List ℕ) → length bs ≡ 4 → AreFour bs
four_of (a ∷ (b ∷ (c ∷ (d ∷ [])))) h = record { a = a; b = b; c = c; d = d; is = refl }
four_of [] h = absurd (omega arith)
four_of (a ∷ []) h = absurd (omega arith)
four_of (a ∷ (b ∷ [])) h = absurd (omega arith)
four_of (a ∷ (b ∷ (c ∷ []))) h = absurd (omega arith)
four_of (a ∷ (b ∷ (c ∷ (d ∷ (e ∷ bs))))) h = absurd (omega arith)

program_opener_is : (c : Command) → begins_data c ≡ true → IsProgramOpener c
program_opener_is PageProgram h = write
program_opener_is ChangeWriteColumn h = copy
program_opener_is _ h = cc

-- the fifth address of a program
fifth_address : (t : List TargetCycle) (b : ℕ) (o : Opening) → IsOpening o t → IsProgramOpener o.opener → o.addresses ≡ 4 → IsInProgram [] (AddressCycle b ∷ t)
fifth_address t b o shape opens count =
    let four = four_of shape.bytes (shape.count ∙ count) in
    let before : reverse t ≡ CommandCycle o.opener ∷ addresses (four.a ∷ (four.b ∷ (four.c ∷ (four.d ∷ [])))) =
    shape.is ∙ ap (λ l. CommandCycle o.opener ∷ addresses l) four.is in
    record {
      opener = o.opener;
      opens = opens;
      c1 = four.a;
      c2 = four.b;
      r1 = four.c;
      r2 = four.d;
      r3 = b;
      bytes = [];
      is_data = nothing;
      is = reverse_more (AddressCycle b) t ∙ ap (λ l. l ++ (AddressCycle b ∷ [])) before;
    }

set_features_is : (c : Command) → is_set_features c ≡ true → c ≡ SetFeatures
set_features_is SetFeatures h = refl
set_features_is _ h = cc

none_of : (bs : List ℕ) → length bs ≡ 0 → bs ≡ []
none_of [] h = refl
none_of (b ∷ bs) h = absurd (omega arith)

-- the address of a Set Features
feature_address : (t : List TargetCycle) (b : ℕ) (o : Opening) → IsOpening o t → o.opener ≡ SetFeatures → o.addresses ≡ 0 → IsInFeatures (AddressCycle b ∷ t)
feature_address t b o shape opener count =
    let none = none_of shape.bytes (shape.count ∙ count) in
    let before : reverse t ≡ CommandCycle SetFeatures ∷ [] = shape.is ∙ (ap (λ c. CommandCycle c ∷ addresses shape.bytes) opener ∙ ap (λ l. CommandCycle SetFeatures ∷ addresses l) none) in
    record {
      feature = b;
      bytes = [];
      count = refl;
      few = omega arith;
      is = reverse_more (AddressCycle b) t ∙ ap (λ l. l ++ (AddressCycle b ∷ [])) before;
    }

-- one byte more, where another is to come
feature_more : (t : List TargetCycle) (b : ℕ) → IsInFeatures t → inputs t < 3 → IsInFeatures (InputCycle b ∷ t)
feature_more t b p low =
    record {
      feature = p.feature;
      bytes = p.bytes ++ (b ∷ []);
      count = length_more p.bytes b ∙ ap (λ n. n + 1) p.count;
      few = omega (arith, low, p.count, length_more p.bytes b);
      is = reverse_more (InputCycle b) t ∙ (ap (λ l. l ++ (InputCycle b ∷ [])) p.is ∙ ap (λ l. CommandCycle SetFeatures ∷ (AddressCycle p.feature ∷ l)) (input_cycles_append p.bytes b));
    }

last_address_phase : (t : List TargetCycle) (b : ℕ) (x : Option Opening) → ((p : Opening) → x ≡ Some p → IsOpening p t) → HasPhase (phase_after_last_address x) (AddressCycle b ∷ t)
last_address_phase t b None shape = tt
last_address_phase t b (Some o) shape = at (begins_data o.opener && o.addresses == 4) refl (is_set_features o.opener && o.addresses == 0) refl
  where
    at : (v : Bool) → (begins_data o.opener && o.addresses == 4) ≡ v → (w : Bool) → (is_set_features o.opener && o.addresses == 0) ≡ w → HasPhase (cond v Inputs (cond w FeatureInputs Outside)) (AddressCycle b ∷ t)
    at true e w k =
        let both = and_parts (begins_data o.opener) (o.addresses == 4) e in
        fifth_address t b o (shape o refl) (program_opener_is o.opener both.0) (eqb-true o.addresses 4 both.1)
    at false e true k =
        let both = and_parts (is_set_features o.opener) (o.addresses == 0) k in
        feature_address t b o (shape o refl) (set_features_is o.opener both.0) (eqb-true o.addresses 0 both.1)
    at false e false k = tt

address_phase : (t : List TargetCycle) (b : ℕ) (d : DataPhase) → HasPhase d t → HasPhase (phase_after_address (opening t) d) (AddressCycle b ∷ t)
address_phase t b Outside h = last_address_phase t b (opening t) (opening_shape t)
address_phase t b FirstColumn h = (b, in_program_more (CommandCycle ChangeWriteColumn ∷ []) t (AddressCycle b) h)
address_phase t b SecondColumn (c, p) =
    in_program_whole (CommandCycle ChangeWriteColumn ∷ (AddressCycle c ∷ (AddressCycle b ∷ []))) (AddressCycle b ∷ t) (column c b [] nothing)
    (in_program_more (CommandCycle ChangeWriteColumn ∷ (AddressCycle c ∷ [])) t (AddressCycle b) p)
address_phase t b Inputs h = tt
address_phase t b FeatureInputs h = tt

command_phase : (t : List TargetCycle) (c : Command) (d : DataPhase) → HasPhase d t → HasPhase (phase_after_command c d) (CommandCycle c ∷ t)
command_phase t ChangeWriteColumn Inputs h = in_program_more [] t (CommandCycle ChangeWriteColumn) h
command_phase t c d h = tt

input_phase : (t : List TargetCycle) (b : ℕ) (d : DataPhase) → HasPhase d t → HasPhase (phase_after_input (inputs t) d) (InputCycle b ∷ t)
input_phase t b Inputs h = in_program_whole (InputCycle b ∷ []) (InputCycle b ∷ t) (input b [] nothing) (in_program_more [] t (InputCycle b) h)
input_phase t b FeatureInputs h = at (ltb (inputs t) 3) refl
  where
    at : (v : Bool) → ltb (inputs t) 3 ≡ v → HasPhase (cond v FeatureInputs Outside) (InputCycle b ∷ t)
    at true e = feature_more t b h (grind (arith, nat_tests))
    at false e = tt
input_phase t b Outside h = tt
input_phase t b FirstColumn h = tt
input_phase t b SecondColumn h = tt

phase_shape : (t : List TargetCycle) → HasPhase (data_phase t) t
phase_shape [] = tt
phase_shape (CommandCycle c ∷ t) = command_phase t c (data_phase t) (phase_shape t)
phase_shape (AddressCycle b ∷ t) = address_phase t b (data_phase t) (phase_shape t)
phase_shape (InputCycle b ∷ t) = input_phase t b (data_phase t) (phase_shape t)
phase_shape (OutputCycle ∷ t) = tt

-- 3. Each wanted cycle leads on to a whole sequence.

below_none : (n : ℕ) → ltb n 0 ≡ true → ⊥
below_none n h = grind (arith, nat_tests)

-- an opener with some of its addresses is a beginning of a sequence
read_begins : (bs : List ℕ) → length bs ≤ 5 → IsBeginning (CommandCycle Read ∷ addresses bs)
read_begins [] h = (AddressCycle 0 ∷ (AddressCycle 0 ∷ (AddressCycle 0 ∷ (AddressCycle 0 ∷ (AddressCycle 0 ∷ (CommandCycle ReadConfirm ∷ []))))), read 0 0 0 0 0)
read_begins (a ∷ []) h = (AddressCycle 0 ∷ (AddressCycle 0 ∷ (AddressCycle 0 ∷ (AddressCycle 0 ∷ (CommandCycle ReadConfirm ∷ [])))), read a 0 0 0 0)
read_begins (a ∷ (b ∷ [])) h = (AddressCycle 0 ∷ (AddressCycle 0 ∷ (AddressCycle 0 ∷ (CommandCycle ReadConfirm ∷ []))), read a b 0 0 0)
read_begins (a ∷ (b ∷ (c ∷ []))) h = (AddressCycle 0 ∷ (AddressCycle 0 ∷ (CommandCycle ReadConfirm ∷ [])), read a b c 0 0)
read_begins (a ∷ (b ∷ (c ∷ (d ∷ [])))) h = (AddressCycle 0 ∷ (CommandCycle ReadConfirm ∷ []), read a b c d 0)
read_begins (a ∷ (b ∷ (c ∷ (d ∷ (e ∷ []))))) h = (CommandCycle ReadConfirm ∷ [], read a b c d e)
read_begins (a ∷ (b ∷ (c ∷ (d ∷ (e ∷ (x ∷ more)))))) h = absurd (omega arith)

change_begins : (bs : List ℕ) → length bs ≤ 2 → IsBeginning (CommandCycle ChangeReadColumn ∷ addresses bs)
change_begins [] h = (AddressCycle 0 ∷ (AddressCycle 0 ∷ (CommandCycle ChangeReadColumnConfirm ∷ [])), change_read_column 0 0)
change_begins (a ∷ []) h = (AddressCycle 0 ∷ (CommandCycle ChangeReadColumnConfirm ∷ []), change_read_column a 0)
change_begins (a ∷ (b ∷ [])) h = (CommandCycle ChangeReadColumnConfirm ∷ [], change_read_column a b)
change_begins (a ∷ (b ∷ (x ∷ more))) h = absurd (omega arith)

plane_begins : (bs : List ℕ) → length bs ≤ 5 → IsBeginning (CommandCycle ChangeReadColumnEnhanced ∷ addresses bs)
plane_begins [] h = (AddressCycle 0 ∷ (AddressCycle 0 ∷ (AddressCycle 0 ∷ (AddressCycle 0 ∷ (AddressCycle 0 ∷ (CommandCycle ChangeReadColumnConfirm ∷ []))))), change_read_column_enhanced 0 0 0 0 0)
plane_begins (a ∷ []) h = (AddressCycle 0 ∷ (AddressCycle 0 ∷ (AddressCycle 0 ∷ (AddressCycle 0 ∷ (CommandCycle ChangeReadColumnConfirm ∷ [])))), change_read_column_enhanced a 0 0 0 0)
plane_begins (a ∷ (b ∷ [])) h = (AddressCycle 0 ∷ (AddressCycle 0 ∷ (AddressCycle 0 ∷ (CommandCycle ChangeReadColumnConfirm ∷ []))), change_read_column_enhanced a b 0 0 0)
plane_begins (a ∷ (b ∷ (c ∷ []))) h = (AddressCycle 0 ∷ (AddressCycle 0 ∷ (CommandCycle ChangeReadColumnConfirm ∷ [])), change_read_column_enhanced a b c 0 0)
plane_begins (a ∷ (b ∷ (c ∷ (d ∷ [])))) h = (AddressCycle 0 ∷ (CommandCycle ChangeReadColumnConfirm ∷ []), change_read_column_enhanced a b c d 0)
plane_begins (a ∷ (b ∷ (c ∷ (d ∷ (e ∷ []))))) h = (CommandCycle ChangeReadColumnConfirm ∷ [], change_read_column_enhanced a b c d e)
plane_begins (a ∷ (b ∷ (c ∷ (d ∷ (e ∷ (x ∷ more)))))) h = absurd (omega arith)

erase_begins : (bs : List ℕ) → length bs ≤ 3 → IsBeginning (CommandCycle BlockErase ∷ addresses bs)
erase_begins [] h = (AddressCycle 0 ∷ (AddressCycle 0 ∷ (AddressCycle 0 ∷ (CommandCycle BlockEraseConfirm ∷ []))), erase 0 0 0)
erase_begins (a ∷ []) h = (AddressCycle 0 ∷ (AddressCycle 0 ∷ (CommandCycle BlockEraseConfirm ∷ [])), erase a 0 0)
erase_begins (a ∷ (b ∷ [])) h = (AddressCycle 0 ∷ (CommandCycle BlockEraseConfirm ∷ []), erase a b 0)
erase_begins (a ∷ (b ∷ (c ∷ []))) h = (CommandCycle BlockEraseConfirm ∷ [], erase a b c)
erase_begins (a ∷ (b ∷ (c ∷ (x ∷ more)))) h = absurd (omega arith)

status_begins : (bs : List ℕ) → length bs ≤ 3 → IsBeginning (CommandCycle ReadStatusEnhanced ∷ addresses bs)
status_begins [] h = (AddressCycle 0 ∷ (AddressCycle 0 ∷ (AddressCycle 0 ∷ [])), read_status_enhanced 0 0 0)
status_begins (a ∷ []) h = (AddressCycle 0 ∷ (AddressCycle 0 ∷ []), read_status_enhanced a 0 0)
status_begins (a ∷ (b ∷ [])) h = (AddressCycle 0 ∷ [], read_status_enhanced a b 0)
status_begins (a ∷ (b ∷ (c ∷ []))) h = ([], read_status_enhanced a b c)
status_begins (a ∷ (b ∷ (c ∷ (x ∷ more)))) h = absurd (omega arith)

program_begins : (opener : Command) → IsProgramOpener opener → (bs : List ℕ) → length bs ≤ 5 → IsBeginning (CommandCycle opener ∷ addresses bs)
program_begins opener opens [] h = (AddressCycle 0 ∷ (AddressCycle 0 ∷ (AddressCycle 0 ∷ (AddressCycle 0 ∷ (AddressCycle 0 ∷ (CommandCycle ProgramConfirm ∷ []))))), program opener 0 0 0 0 0 [] ProgramConfirm opens nothing whole)
program_begins opener opens (a ∷ []) h = (AddressCycle 0 ∷ (AddressCycle 0 ∷ (AddressCycle 0 ∷ (AddressCycle 0 ∷ (CommandCycle ProgramConfirm ∷ [])))), program opener a 0 0 0 0 [] ProgramConfirm opens nothing whole)
program_begins opener opens (a ∷ (b ∷ [])) h = (AddressCycle 0 ∷ (AddressCycle 0 ∷ (AddressCycle 0 ∷ (CommandCycle ProgramConfirm ∷ []))), program opener a b 0 0 0 [] ProgramConfirm opens nothing whole)
program_begins opener opens (a ∷ (b ∷ (c ∷ []))) h = (AddressCycle 0 ∷ (AddressCycle 0 ∷ (CommandCycle ProgramConfirm ∷ [])), program opener a b c 0 0 [] ProgramConfirm opens nothing whole)
program_begins opener opens (a ∷ (b ∷ (c ∷ (d ∷ [])))) h = (AddressCycle 0 ∷ (CommandCycle ProgramConfirm ∷ []), program opener a b c d 0 [] ProgramConfirm opens nothing whole)
program_begins opener opens (a ∷ (b ∷ (c ∷ (d ∷ (e ∷ []))))) h = (CommandCycle ProgramConfirm ∷ [], program opener a b c d e [] ProgramConfirm opens nothing whole)
program_begins opener opens (a ∷ (b ∷ (c ∷ (d ∷ (e ∷ (x ∷ more)))))) h = absurd (omega arith)

reset_begins : (bs : List ℕ) → length bs ≤ 3 → IsBeginning (CommandCycle ResetLun ∷ addresses bs)
reset_begins [] h = (AddressCycle 0 ∷ (AddressCycle 0 ∷ (AddressCycle 0 ∷ [])), reset_lun 0 0 0)
reset_begins (a ∷ []) h = (AddressCycle 0 ∷ (AddressCycle 0 ∷ []), reset_lun a 0 0)
reset_begins (a ∷ (b ∷ [])) h = (AddressCycle 0 ∷ [], reset_lun a b 0)
reset_begins (a ∷ (b ∷ (c ∷ []))) h = ([], reset_lun a b c)
reset_begins (a ∷ (b ∷ (c ∷ (x ∷ more)))) h = absurd (omega arith)

-- a Set Features with its address and some of its bytes
features_begin : (f : ℕ) (bs : List ℕ) → length bs ≤ 4 → IsBeginning (CommandCycle SetFeatures ∷ (AddressCycle f ∷ input_cycles bs))
features_begin f [] h = (InputCycle 0 ∷ (InputCycle 0 ∷ (InputCycle 0 ∷ (InputCycle 0 ∷ []))), set_features f 0 0 0 0)
features_begin f (a ∷ []) h = (InputCycle 0 ∷ (InputCycle 0 ∷ (InputCycle 0 ∷ [])), set_features f a 0 0 0)
features_begin f (a ∷ (b ∷ [])) h = (InputCycle 0 ∷ (InputCycle 0 ∷ []), set_features f a b 0 0)
features_begin f (a ∷ (b ∷ (c ∷ []))) h = (InputCycle 0 ∷ [], set_features f a b c 0)
features_begin f (a ∷ (b ∷ (c ∷ (d ∷ [])))) h = ([], set_features f a b c d)
features_begin f (a ∷ (b ∷ (c ∷ (d ∷ (x ∷ more))))) h = absurd (omega arith)

-- the address of a Read ID
id_begins : (b : ℕ) → (b == 0x20 || (b == 0x00 || b == 0x40)) ≡ true → IsBeginning (CommandCycle ReadId ∷ (AddressCycle b ∷ []))
id_begins b h = at (b == 0x20) (b == 0x00) (b == 0x40) refl refl refl h
  where
    at : (x y z : Bool) → (b == 0x20) ≡ x → (b == 0x00) ≡ y → (b == 0x40) ≡ z → (x || (y || z)) ≡ true → IsBeginning (CommandCycle ReadId ∷ (AddressCycle b ∷ []))
    at true y z e f g h = subst (λ x. IsBeginning (CommandCycle ReadId ∷ (AddressCycle x ∷ []))) (sym (eqb-true b 0x20 e)) ([], read_id)
    at false true z e f g h = subst (λ x. IsBeginning (CommandCycle ReadId ∷ (AddressCycle x ∷ []))) (sym (eqb-true b 0x00 f)) ([], read_manufacturer)
    at false false true e f g h = subst (λ x. IsBeginning (CommandCycle ReadId ∷ (AddressCycle x ∷ []))) (sym (eqb-true b 0x40 g)) ([], read_jedec)
    at false false false e f g h = cc

-- one address more after an opener that wants it
address_begins : (c : Command) (bs : List ℕ) (b : ℕ) → (is_opener c && ltb (length bs) (address_cycles c) && takes_address c b) ≡ true → IsBeginning (CommandCycle c ∷ addresses (bs ++ (b ∷ [])))
address_begins Read bs b h = read_begins (bs ++ (b ∷ [])) (grind (arith, nat_tests, length_more bs b, h))
address_begins ChangeReadColumn bs b h = change_begins (bs ++ (b ∷ [])) (grind (arith, nat_tests, length_more bs b, h))
address_begins ChangeReadColumnEnhanced bs b h = plane_begins (bs ++ (b ∷ [])) (grind (arith, nat_tests, length_more bs b, h))
address_begins BlockErase bs b h = erase_begins (bs ++ (b ∷ [])) (grind (arith, nat_tests, length_more bs b, h))
address_begins ReadStatusEnhanced bs b h = status_begins (bs ++ (b ∷ [])) (grind (arith, nat_tests, length_more bs b, h))
address_begins ChangeWriteColumn bs b h = program_begins ChangeWriteColumn copy (bs ++ (b ∷ [])) (grind (arith, nat_tests, length_more bs b, h))
address_begins PageProgram bs b h = program_begins PageProgram write (bs ++ (b ∷ [])) (grind (arith, nat_tests, length_more bs b, h))
address_begins ReadId [] b h = id_begins b h
address_begins ReadId (x ∷ bs) b h = absurd (grind (arith, nat_tests, h))
address_begins ReadParameterPage [] b h = subst (λ x. IsBeginning (CommandCycle ReadParameterPage ∷ (AddressCycle x ∷ []))) (sym (eqb-true b 0x00 h)) ([], read_parameter_page)
address_begins ReadParameterPage (x ∷ bs) b h = absurd (grind (arith, nat_tests, h))
address_begins ReadUniqueId [] b h = subst (λ x. IsBeginning (CommandCycle ReadUniqueId ∷ (AddressCycle x ∷ []))) (sym (eqb-true b 0x00 h)) ([], read_unique_id)
address_begins ReadUniqueId (x ∷ bs) b h = absurd (grind (arith, nat_tests, h))
address_begins GetFeatures [] b h = ([], get_features b)
address_begins GetFeatures (x ∷ bs) b h = absurd (grind (arith, nat_tests, h))
address_begins SetFeatures [] b h = features_begin b [] (omega arith)
address_begins SetFeatures (x ∷ bs) b h = absurd (grind (arith, nat_tests, h))
address_begins ResetLun bs b h = reset_begins (bs ++ (b ∷ [])) (grind (arith, nat_tests, length_more bs b, h))
address_begins c bs b h = absurd (grind (arith, nat_tests, h))

-- a closer straight after the addresses of its opener
cache_read_ends : (bs : List ℕ) → length bs ≡ 5 → IsSequence (CommandCycle Read ∷ (addresses bs ++ (CommandCycle ReadCacheSequential ∷ [])))
cache_read_ends (a ∷ (b ∷ (c ∷ (d ∷ (e ∷ []))))) h = read_cache_random a b c d e
cache_read_ends [] h = absurd (omega arith)
cache_read_ends (a ∷ []) h = absurd (omega arith)
cache_read_ends (a ∷ (b ∷ [])) h = absurd (omega arith)
cache_read_ends (a ∷ (b ∷ (c ∷ []))) h = absurd (omega arith)
cache_read_ends (a ∷ (b ∷ (c ∷ (d ∷ [])))) h = absurd (omega arith)
cache_read_ends (a ∷ (b ∷ (c ∷ (d ∷ (e ∷ (x ∷ more)))))) h = absurd (omega arith)

plane_read_ends : (bs : List ℕ) → length bs ≡ 5 → IsSequence (CommandCycle Read ∷ (addresses bs ++ (CommandCycle ReadPlane ∷ [])))
plane_read_ends (a ∷ (b ∷ (c ∷ (d ∷ (e ∷ []))))) h = read_plane a b c d e
plane_read_ends [] h = absurd (omega arith)
plane_read_ends (a ∷ []) h = absurd (omega arith)
plane_read_ends (a ∷ (b ∷ [])) h = absurd (omega arith)
plane_read_ends (a ∷ (b ∷ (c ∷ []))) h = absurd (omega arith)
plane_read_ends (a ∷ (b ∷ (c ∷ (d ∷ [])))) h = absurd (omega arith)
plane_read_ends (a ∷ (b ∷ (c ∷ (d ∷ (e ∷ (x ∷ more)))))) h = absurd (omega arith)

copyback_read_ends : (bs : List ℕ) → length bs ≡ 5 → IsSequence (CommandCycle Read ∷ (addresses bs ++ (CommandCycle CopybackRead ∷ [])))
copyback_read_ends (a ∷ (b ∷ (c ∷ (d ∷ (e ∷ []))))) h = copyback_read a b c d e
copyback_read_ends [] h = absurd (omega arith)
copyback_read_ends (a ∷ []) h = absurd (omega arith)
copyback_read_ends (a ∷ (b ∷ [])) h = absurd (omega arith)
copyback_read_ends (a ∷ (b ∷ (c ∷ []))) h = absurd (omega arith)
copyback_read_ends (a ∷ (b ∷ (c ∷ (d ∷ [])))) h = absurd (omega arith)
copyback_read_ends (a ∷ (b ∷ (c ∷ (d ∷ (e ∷ (x ∷ more)))))) h = absurd (omega arith)

read_ends : (bs : List ℕ) → length bs ≡ 5 → IsSequence (CommandCycle Read ∷ (addresses bs ++ (CommandCycle ReadConfirm ∷ [])))
read_ends (a ∷ (b ∷ (c ∷ (d ∷ (e ∷ []))))) h = read a b c d e
read_ends [] h = absurd (omega arith)
read_ends (a ∷ []) h = absurd (omega arith)
read_ends (a ∷ (b ∷ [])) h = absurd (omega arith)
read_ends (a ∷ (b ∷ (c ∷ []))) h = absurd (omega arith)
read_ends (a ∷ (b ∷ (c ∷ (d ∷ [])))) h = absurd (omega arith)
read_ends (a ∷ (b ∷ (c ∷ (d ∷ (e ∷ (x ∷ more)))))) h = absurd (omega arith)

change_ends : (bs : List ℕ) → length bs ≡ 2 → IsSequence (CommandCycle ChangeReadColumn ∷ (addresses bs ++ (CommandCycle ChangeReadColumnConfirm ∷ [])))
change_ends (a ∷ (b ∷ [])) h = change_read_column a b
change_ends [] h = absurd (omega arith)
change_ends (a ∷ []) h = absurd (omega arith)
change_ends (a ∷ (b ∷ (x ∷ more))) h = absurd (omega arith)

plane_ends : (bs : List ℕ) → length bs ≡ 5 → IsSequence (CommandCycle ChangeReadColumnEnhanced ∷ (addresses bs ++ (CommandCycle ChangeReadColumnConfirm ∷ [])))
plane_ends (a ∷ (b ∷ (c ∷ (d ∷ (e ∷ []))))) h = change_read_column_enhanced a b c d e
plane_ends [] h = absurd (omega arith)
plane_ends (a ∷ []) h = absurd (omega arith)
plane_ends (a ∷ (b ∷ [])) h = absurd (omega arith)
plane_ends (a ∷ (b ∷ (c ∷ []))) h = absurd (omega arith)
plane_ends (a ∷ (b ∷ (c ∷ (d ∷ [])))) h = absurd (omega arith)
plane_ends (a ∷ (b ∷ (c ∷ (d ∷ (e ∷ (x ∷ more)))))) h = absurd (omega arith)

erase_ends : (bs : List ℕ) → length bs ≡ 3 → IsSequence (CommandCycle BlockErase ∷ (addresses bs ++ (CommandCycle BlockEraseConfirm ∷ [])))
erase_ends (a ∷ (b ∷ (c ∷ []))) h = erase a b c
erase_ends [] h = absurd (omega arith)
erase_ends (a ∷ []) h = absurd (omega arith)
erase_ends (a ∷ (b ∷ [])) h = absurd (omega arith)
erase_ends (a ∷ (b ∷ (c ∷ (x ∷ more)))) h = absurd (omega arith)

erase_plane_ends : (bs : List ℕ) → length bs ≡ 3 → IsSequence (CommandCycle BlockErase ∷ (addresses bs ++ (CommandCycle BlockErasePlane ∷ [])))
erase_plane_ends (a ∷ (b ∷ (c ∷ []))) h = erase_plane a b c
erase_plane_ends [] h = absurd (omega arith)
erase_plane_ends (a ∷ []) h = absurd (omega arith)
erase_plane_ends (a ∷ (b ∷ [])) h = absurd (omega arith)
erase_plane_ends (a ∷ (b ∷ (c ∷ (x ∷ more)))) h = absurd (omega arith)

closer_ends : (c d : Command) (bs : List ℕ) → (closes c d && length bs == address_cycles c) ≡ true → IsSequence (CommandCycle c ∷ (addresses bs ++ (CommandCycle d ∷ [])))
closer_ends Read ReadConfirm bs h = read_ends bs (eqb-true (length bs) 5 h)
closer_ends Read CopybackRead bs h = copyback_read_ends bs (eqb-true (length bs) 5 h)
closer_ends Read ReadPlane bs h = plane_read_ends bs (eqb-true (length bs) 5 h)
closer_ends Read ReadCacheSequential bs h = cache_read_ends bs (eqb-true (length bs) 5 h)
closer_ends ChangeReadColumn ChangeReadColumnConfirm bs h = change_ends bs (eqb-true (length bs) 2 h)
closer_ends ChangeReadColumnEnhanced ChangeReadColumnConfirm bs h = plane_ends bs (eqb-true (length bs) 5 h)
closer_ends BlockErase BlockEraseConfirm bs h = erase_ends bs (eqb-true (length bs) 3 h)
closer_ends BlockErase BlockErasePlane bs h = erase_plane_ends bs (eqb-true (length bs) 3 h)
closer_ends _ _ bs h = cc

-- a beginning, said of a list that is another
begins_as : (a b : List TargetCycle) → a ≡ b → IsBeginning b → IsBeginning a
begins_as a b e h = subst IsBeginning (sym e) h

-- data that may be made whole is a beginning of a program
in_program_begins : (behind t rest : List TargetCycle) → IsInProgram behind t → IsProgramData (behind ++ rest) → IsBeginning (reverse t)
in_program_begins behind t rest p d =
    let bytes = p.bytes in
    let closing = CommandCycle ProgramConfirm ∷ [] in
    let same : (bytes ++ behind) ++ (rest ++ closing) ≡ (bytes ++ (behind ++ rest)) ++ closing =
    sym (append_assoc (bytes ++ behind) rest closing) ∙ ap (λ l. l ++ closing) (append_assoc bytes behind rest) in
    begins_as (reverse t) (program_with p.opener p.c1 p.c2 p.r1 p.r2 p.r3 (bytes ++ behind)) p.is (
      rest ++ closing,
      subst (λ l. IsSequence (program_with p.opener p.c1 p.c2 p.r1 p.r2 p.r3 l)) (sym same)
          (program p.opener p.c1 p.c2 p.r1 p.r2 p.r3 (bytes ++ (behind ++ rest)) ProgramConfirm p.opens (data_append bytes (behind ++ rest) p.is_data d) whole),
    )

-- a closer behind the data is a beginning, and a whole program
program_ends : (t : List TargetCycle) (c : Command) → IsProgramCloser c → IsInProgram [] t → IsBeginning (reverse (CommandCycle c ∷ t))
program_ends t c k p =
    let is : reverse (CommandCycle c ∷ t) ≡ program_with p.opener p.c1 p.c2 p.r1 p.r2 p.r3 (p.bytes ++ (CommandCycle c ∷ [])) =
    reverse_more (CommandCycle c) t ∙ (ap (λ l. l ++ (CommandCycle c ∷ [])) p.is ∙ ap (program_with p.opener p.c1 p.c2 p.r1 p.r2 p.r3) (append_assoc p.bytes [] (CommandCycle c ∷ []))) in
    begins_as (reverse (CommandCycle c ∷ t)) (program_with p.opener p.c1 p.c2 p.r1 p.r2 p.r3 (p.bytes ++ (CommandCycle c ∷ []))) is
    ([], subst IsSequence (sym (append-nil (program_with p.opener p.c1 p.c2 p.r1 p.r2 p.r3 (p.bytes ++ (CommandCycle c ∷ []))))) (program p.opener p.c1 p.c2 p.r1 p.r2 p.r3 p.bytes c p.opens p.is_data k))

-- a command that the opener and its addresses want
opened_command : (t : List TargetCycle) (d : Command) (x : Option Opening) → ((p : Opening) → x ≡ Some p → IsOpening p t) → opened (λ c n. closes c d && n == address_cycles c) x ≡ true → IsBeginning (reverse (CommandCycle d ∷ t))
opened_command t d None shape h = cc
opened_command t d (Some o) shape h =
    let s = shape o refl in
    let whole_list = CommandCycle o.opener ∷ (addresses s.bytes ++ (CommandCycle d ∷ [])) in
    let counted : (closes o.opener d && length s.bytes == address_cycles o.opener) ≡ true = ap (λ n. closes o.opener d && n == address_cycles o.opener) s.count ∙ h in
    begins_as (reverse (CommandCycle d ∷ t)) whole_list (reverse_more (CommandCycle d) t ∙ ap (λ l. l ++ (CommandCycle d ∷ [])) s.is)
    ([], subst IsSequence (sym (append-nil whole_list)) (closer_ends o.opener d s.bytes counted))

-- a command in the data of a program
data_command : (t : List TargetCycle) (c : Command) (d : DataPhase) → HasPhase d t → takes_data d ≡ true → (IsInProgram [] t → IsBeginning (reverse (CommandCycle c ∷ t))) → IsBeginning (reverse (CommandCycle c ∷ t))
data_command t c Inputs p h f = f p
data_command t c _ p h f = cc

-- a Change Write Column, with a column to come
change_write_begins : (t : List TargetCycle) → IsInProgram [] t → IsBeginning (reverse (CommandCycle ChangeWriteColumn ∷ t))
change_write_begins t p =
    in_program_begins (CommandCycle ChangeWriteColumn ∷ []) (CommandCycle ChangeWriteColumn ∷ t) (AddressCycle 0 ∷ (AddressCycle 0 ∷ []))
    (in_program_more [] t (CommandCycle ChangeWriteColumn) p) (column 0 0 [] nothing)

wanted_command : (t : List TargetCycle) (c : Command) → wants_command (facts_of t) c ≡ true → IsBeginning (reverse (CommandCycle c ∷ t))
wanted_command t ChangeWriteColumn h = data_command t ChangeWriteColumn (data_phase t) (phase_shape t) h (change_write_begins t)
wanted_command t ProgramConfirm h = data_command t ProgramConfirm (data_phase t) (phase_shape t) h (program_ends t ProgramConfirm whole)
wanted_command t ProgramPlane h = data_command t ProgramPlane (data_phase t) (phase_shape t) h (program_ends t ProgramPlane plane)
wanted_command t ProgramCache h = data_command t ProgramCache (data_phase t) (phase_shape t) h (program_ends t ProgramCache cache)
wanted_command t c h = opened_command t c (opening t) (opening_shape t) h

opened_address : (t : List TargetCycle) (b : ℕ) (x : Option Opening) → ((p : Opening) → x ≡ Some p → IsOpening p t) → opened (λ c n. is_opener c && ltb n (address_cycles c) && takes_address c b) x ≡ true → IsBeginning (reverse (AddressCycle b ∷ t))
opened_address t b None shape h = cc
opened_address t b (Some o) shape h =
    let s = shape o refl in
    let counted : (is_opener o.opener && ltb (length s.bytes) (address_cycles o.opener) && takes_address o.opener b) ≡ true =
    ap (λ n. is_opener o.opener && ltb n (address_cycles o.opener) && takes_address o.opener b) s.count ∙ h in
    begins_as (reverse (AddressCycle b ∷ t)) (CommandCycle o.opener ∷ addresses (s.bytes ++ (b ∷ [])))
    (reverse_more (AddressCycle b) t ∙ (ap (λ l. l ++ (AddressCycle b ∷ [])) s.is ∙ ap (λ l. CommandCycle o.opener ∷ l) (addresses_append s.bytes b)))
    (address_begins o.opener s.bytes b counted)

data_column : (t : List TargetCycle) (b : ℕ) (d : DataPhase) → HasPhase d t → wants_column d ≡ true → IsBeginning (reverse (AddressCycle b ∷ t))
data_column t b FirstColumn p h =
    in_program_begins (CommandCycle ChangeWriteColumn ∷ (AddressCycle b ∷ [])) (AddressCycle b ∷ t) (AddressCycle 0 ∷ [])
    (in_program_more (CommandCycle ChangeWriteColumn ∷ []) t (AddressCycle b) p) (column b 0 [] nothing)
data_column t b SecondColumn p h = in_program_begins [] (AddressCycle b ∷ t) [] (address_phase t b SecondColumn p) nothing
data_column t b _ p h = cc

wanted_address : (t : List TargetCycle) (b : ℕ) → wants_address (facts_of t) b ≡ true → IsBeginning (reverse (AddressCycle b ∷ t))
wanted_address t b h =
    elim (or_cases (opened (λ c n. is_opener c && ltb n (address_cycles c) && takes_address c b) (opening t)) (wants_column (data_phase t)) h) [
      | inl e ↦ opened_address t b (opening t) (opening_shape t) e
      | inr e ↦ data_column t b (data_phase t) (phase_shape t) e
    ]

wanted_input : (t : List TargetCycle) (b : ℕ) (d : DataPhase) → HasPhase d t → takes_inputs d ≡ true → IsBeginning (reverse (InputCycle b ∷ t))
wanted_input t b Inputs p h = in_program_begins [] (InputCycle b ∷ t) [] (input_phase t b Inputs p) nothing
wanted_input t b FeatureInputs p h =
    begins_as (reverse (InputCycle b ∷ t)) (CommandCycle SetFeatures ∷ (AddressCycle p.feature ∷ input_cycles (p.bytes ++ (b ∷ []))))
    (reverse_more (InputCycle b) t ∙ (ap (λ l. l ++ (InputCycle b ∷ [])) p.is ∙ ap (λ l. CommandCycle SetFeatures ∷ (AddressCycle p.feature ∷ l)) (input_cycles_append p.bytes b)))
    (features_begin p.feature (p.bytes ++ (b ∷ [])) (omega (arith, p.few, length_more p.bytes b)))
wanted_input t b Outside p h = cc
wanted_input t b FirstColumn p h = cc
wanted_input t b SecondColumn p h = cc

-- a tail with a wanted cycle is a beginning of a sequence
pub wanted_begins : (t : List TargetCycle) (c : TargetCycle) → wants (facts_of t) c ≡ true → IsBeginning (reverse (c ∷ t))
wanted_begins t (CommandCycle c) h = wanted_command t c h
wanted_begins t (AddressCycle b) h = wanted_address t b h
wanted_begins t (InputCycle b) h = wanted_input t b (data_phase t) (phase_shape t) h
wanted_begins t OutputCycle h = cc

-- 4. Open is a proper beginning.

-- a whole sequence begins one
whole_begins : (s : List TargetCycle) → IsSequence s → IsBeginning s
whole_begins s k = ([], subst IsSequence (sym (append-nil s)) k)

-- an opener with some of its addresses goes on with this one
address_next : (c : Command) (bs : List ℕ) (b : ℕ) → (is_opener c && ltb (length bs) (address_cycles c) && takes_address c b) ≡ true → (next : TargetCycle) × IsBeginning (CommandCycle c ∷ (addresses bs ++ (next ∷ [])))
address_next c bs b h = (AddressCycle b, begins_as (CommandCycle c ∷ (addresses bs ++ (AddressCycle b ∷ []))) (CommandCycle c ∷ addresses (bs ++ (b ∷ []))) (ap (λ l. CommandCycle c ∷ l) (addresses_append bs b)) (address_begins c bs b h))

program_end : (opener : Command) → IsProgramOpener opener → (bs : List ℕ) → length bs ≡ 5 → IsSequence (CommandCycle opener ∷ (addresses bs ++ (CommandCycle ProgramConfirm ∷ [])))
program_end opener opens (a ∷ (b ∷ (c ∷ (d ∷ (e ∷ []))))) h = program opener a b c d e [] ProgramConfirm opens nothing whole
program_end opener opens [] h = absurd (omega arith)
program_end opener opens (a ∷ []) h = absurd (omega arith)
program_end opener opens (a ∷ (b ∷ [])) h = absurd (omega arith)
program_end opener opens (a ∷ (b ∷ (c ∷ []))) h = absurd (omega arith)
program_end opener opens (a ∷ (b ∷ (c ∷ (d ∷ [])))) h = absurd (omega arith)
program_end opener opens (a ∷ (b ∷ (c ∷ (d ∷ (e ∷ (x ∷ more)))))) h = absurd (omega arith)

-- where not all addresses have come another may, and else the closer
next_or_closer : (c d : Command) (bs : List ℕ) (b : ℕ) → is_opener c ≡ true → takes_address c b ≡ true → length bs ≤ address_cycles c → (length bs ≡ address_cycles c → IsSequence (CommandCycle c ∷ (addresses bs ++ (CommandCycle d ∷ [])))) → (next : TargetCycle) × IsBeginning (CommandCycle c ∷ (addresses bs ++ (next ∷ [])))
next_or_closer c d bs b o k le ends = at (ltb (length bs) (address_cycles c)) refl
  where
    at : (v : Bool) → ltb (length bs) (address_cycles c) ≡ v → (next : TargetCycle) × IsBeginning (CommandCycle c ∷ (addresses bs ++ (next ∷ [])))
    at true e = address_next c bs b (rw (o, e, k) refl)
    at false e = (CommandCycle d, whole_begins _ (ends (grind (arith, nat_tests, e, le))))

proper_next : (c : Command) (bs : List ℕ) → is_proper_beginning c (length bs) ≡ true → (next : TargetCycle) × IsBeginning (CommandCycle c ∷ (addresses bs ++ (next ∷ [])))
proper_next Read bs h = next_or_closer Read ReadConfirm bs 0 refl refl (grind (arith, nat_tests, h)) (read_ends bs)
proper_next ChangeReadColumn bs h = next_or_closer ChangeReadColumn ChangeReadColumnConfirm bs 0 refl refl (grind (arith, nat_tests, h)) (change_ends bs)
proper_next ChangeReadColumnEnhanced bs h = next_or_closer ChangeReadColumnEnhanced ChangeReadColumnConfirm bs 0 refl refl (grind (arith, nat_tests, h)) (plane_ends bs)
proper_next BlockErase bs h = next_or_closer BlockErase BlockEraseConfirm bs 0 refl refl (grind (arith, nat_tests, h)) (erase_ends bs)
proper_next PageProgram bs h = next_or_closer PageProgram ProgramConfirm bs 0 refl refl (grind (arith, nat_tests, h)) (program_end PageProgram write bs)
proper_next ChangeWriteColumn bs h = next_or_closer ChangeWriteColumn ProgramConfirm bs 0 refl refl (grind (arith, nat_tests, h)) (program_end ChangeWriteColumn copy bs)
proper_next ReadStatusEnhanced bs h = address_next ReadStatusEnhanced bs 0 (grind (arith, nat_tests, h))
proper_next ReadId bs h = address_next ReadId bs 0x20 (grind (arith, nat_tests, h))
proper_next ReadParameterPage bs h = address_next ReadParameterPage bs 0x00 (grind (arith, nat_tests, h))
proper_next ReadUniqueId bs h = address_next ReadUniqueId bs 0x00 (grind (arith, nat_tests, h))
proper_next GetFeatures bs h = address_next GetFeatures bs 0 (grind (arith, nat_tests, h))
proper_next SetFeatures bs h = address_next SetFeatures bs 0 (grind (arith, nat_tests, h))
proper_next ResetLun bs h = address_next ResetLun bs 0 (grind (arith, nat_tests, h))
proper_next c bs h = absurd (grind (arith, nat_tests, h))

proper_as : (t : List TargetCycle) (next : TargetCycle) → IsBeginning (reverse (next ∷ t)) → IsProperBeginning (reverse t)
proper_as t next b = (next, subst IsBeginning (reverse_more next t) b)

opened_is_proper : (t : List TargetCycle) (x : Option Opening) → ((p : Opening) → x ≡ Some p → IsOpening p t) → opened is_proper_beginning x ≡ true → IsProperBeginning (reverse t)
opened_is_proper t None shape h = cc
opened_is_proper t (Some o) shape h =
    let s = shape o refl in
    let counted : is_proper_beginning o.opener (length s.bytes) ≡ true = ap (is_proper_beginning o.opener) s.count ∙ h in
    subst IsProperBeginning (sym s.is) (proper_next o.opener s.bytes counted)

inputs_are_proper : (t : List TargetCycle) (d : DataPhase) → HasPhase d t → takes_inputs d ≡ true → IsProperBeginning (reverse t)
inputs_are_proper t Inputs p h = proper_as t (CommandCycle ProgramConfirm) (program_ends t ProgramConfirm whole p)
inputs_are_proper t FeatureInputs p h = proper_as t (InputCycle 0) (wanted_input t 0 FeatureInputs p refl)
inputs_are_proper t Outside p h = cc
inputs_are_proper t FirstColumn p h = cc
inputs_are_proper t SecondColumn p h = cc

pub open_is_proper : (t : List TargetCycle) → is_open (facts_of t) ≡ true → IsProperBeginning (reverse t)
open_is_proper t h =
    elim (or_cases (opened is_proper_beginning (opening t) || takes_inputs (data_phase t)) (wants_column (data_phase t)) h) [
      | inl e ↦ elim (or_cases (opened is_proper_beginning (opening t)) (takes_inputs (data_phase t)) e) [
        | inl a ↦ opened_is_proper t (opening t) (opening_shape t) a
        | inr a ↦ inputs_are_proper t (data_phase t) (phase_shape t) a
      ]
      | inr e ↦ proper_as t (AddressCycle 0) (data_column t 0 (data_phase t) (phase_shape t) e)
    ]

left_true : (a b c : Bool) → a ≡ true → (a || b || c) ≡ true
left_true true b c h = refl
left_true false b c h = cc

middle_true : (a b c : Bool) → b ≡ true → (a || b || c) ≡ true
middle_true true b c h = refl
middle_true false true c h = refl
middle_true false false c h = cc

right_true : (a b c : Bool) → c ≡ true → (a || b || c) ≡ true
right_true true b c h = refl
right_true false true c h = refl
right_true false false c h = h

-- an opener that is closed by this, with its addresses whole
closed_is_proper : (c d : Command) (n : ℕ) → (closes c d && n == address_cycles c) ≡ true → is_proper_beginning c n ≡ true
closed_is_proper Read ReadConfirm n h = grind (arith, nat_tests, h)
closed_is_proper Read CopybackRead n h = grind (arith, nat_tests, h)
closed_is_proper Read ReadPlane n h = grind (arith, nat_tests, h)
closed_is_proper Read ReadCacheSequential n h = grind (arith, nat_tests, h)
closed_is_proper ChangeReadColumn ChangeReadColumnConfirm n h = grind (arith, nat_tests, h)
closed_is_proper ChangeReadColumnEnhanced ChangeReadColumnConfirm n h = grind (arith, nat_tests, h)
closed_is_proper BlockErase BlockEraseConfirm n h = grind (arith, nat_tests, h)
closed_is_proper BlockErase BlockErasePlane n h = grind (arith, nat_tests, h)
closed_is_proper _ _ n h = cc

opened_by_command : (x : Option Opening) (d : Command) → opened (λ c n. closes c d && n == address_cycles c) x ≡ true → opened is_proper_beginning x ≡ true
opened_by_command None d h = cc
opened_by_command (Some o) d h = closed_is_proper o.opener d o.addresses h

pub command_opens : (x : TailFacts) (c : Command) → wants_command x c ≡ true → is_open x ≡ true
command_opens x ChangeWriteColumn h = middle_true (opened is_proper_beginning x.opening) (takes_inputs x.phase) (wants_column x.phase) (or_left (takes_data x.phase) (takes_features x.phase) h)
command_opens x ProgramConfirm h = middle_true (opened is_proper_beginning x.opening) (takes_inputs x.phase) (wants_column x.phase) (or_left (takes_data x.phase) (takes_features x.phase) h)
command_opens x ProgramPlane h = middle_true (opened is_proper_beginning x.opening) (takes_inputs x.phase) (wants_column x.phase) (or_left (takes_data x.phase) (takes_features x.phase) h)
command_opens x ProgramCache h = middle_true (opened is_proper_beginning x.opening) (takes_inputs x.phase) (wants_column x.phase) (or_left (takes_data x.phase) (takes_features x.phase) h)
command_opens x c h = left_true (opened is_proper_beginning x.opening) (takes_inputs x.phase) (wants_column x.phase) (opened_by_command x.opening c h)

-- the command 00 with no address
is_lone_read : Command → ℕ → Bool
is_lone_read Read n = n == 0
is_lone_read _ n = false

begun_is_proper : (c : Command) (n b : ℕ) → (is_opener c && ltb n (address_cycles c) && takes_address c b) ≡ true → is_lone_read c n ≡ false → is_proper_beginning c n ≡ true
unfolding is_lone_read
begun_is_proper Read n b h k = grind (arith, nat_tests, h, k)
begun_is_proper ChangeReadColumn n b h k = grind (arith, nat_tests, h)
begun_is_proper ChangeReadColumnEnhanced n b h k = grind (arith, nat_tests, h)
begun_is_proper BlockErase n b h k = grind (arith, nat_tests, h)
begun_is_proper ReadStatusEnhanced n b h k = grind (arith, nat_tests, h)
begun_is_proper ChangeWriteColumn n b h k = grind (arith, nat_tests, h)
begun_is_proper PageProgram n b h k = grind (arith, nat_tests, h)
begun_is_proper ReadId n b h k = grind (arith, nat_tests, h)
begun_is_proper ReadParameterPage n b h k = grind (arith, nat_tests, h)
begun_is_proper ReadUniqueId n b h k = grind (arith, nat_tests, h)
begun_is_proper GetFeatures n b h k = grind (arith, nat_tests, h)
begun_is_proper SetFeatures n b h k = grind (arith, nat_tests, h)
begun_is_proper ResetLun n b h k = grind (arith, nat_tests, h)
begun_is_proper c n b h k = absurd (grind (arith, nat_tests, h))

no_bytes : (bs : List ℕ) → length bs ≡ 0 → bs ≡ []
no_bytes [] h = refl
no_bytes (b ∷ bs) h = absurd (omega arith)

-- the tail with this opening is the command 00 alone
lone_read : (t : List TargetCycle) (o : Opening) → IsOpening o t → is_lone_read o.opener o.addresses ≡ true → t ≡ CommandCycle Read ∷ []
unfolding is_lone_read
lone_read t o s h = at o.opener o.addresses s.count s.is h
  where
    at : (c : Command) (n : ℕ) → length s.bytes ≡ n → reverse t ≡ CommandCycle c ∷ addresses s.bytes → is_lone_read c n ≡ true → t ≡ CommandCycle Read ∷ []
    at Read n count is k =
        let none : s.bytes ≡ [] = no_bytes s.bytes (count ∙ eqb-true n 0 k) in
        sym (reverse-reverse t) ∙ ap reverse (is ∙ ap (λ l. CommandCycle Read ∷ addresses l) none)
    at _ n count is k = cc

opened_by_address : (t : List TargetCycle) (b : ℕ) (x : Option Opening) → ((p : Opening) → x ≡ Some p → IsOpening p t) → (t ≡ CommandCycle Read ∷ [] → ⊥) → opened (λ c n. is_opener c && ltb n (address_cycles c) && takes_address c b) x ≡ true → opened is_proper_beginning x ≡ true
opened_by_address t b None shape ne h = cc
opened_by_address t b (Some o) shape ne h = begun_is_proper o.opener o.addresses b h (at (is_lone_read o.opener o.addresses) refl)
  where
    at : (v : Bool) → is_lone_read o.opener o.addresses ≡ v → v ≡ false
    at true e = absurd (ne (lone_read t o (shape o refl) e))
    at false e = refl

address_opens : (t : List TargetCycle) (b : ℕ) → (t ≡ CommandCycle Read ∷ [] → ⊥) → wants_address (facts_of t) b ≡ true → is_open (facts_of t) ≡ true
address_opens t b ne h =
    elim (or_cases (opened (λ c n. is_opener c && ltb n (address_cycles c) && takes_address c b) (opening t)) (wants_column (data_phase t)) h) [
      | inl e ↦ left_true (opened is_proper_beginning (opening t)) (takes_inputs (data_phase t)) (wants_column (data_phase t)) (opened_by_address t b (opening t) (opening_shape t) ne e)
      | inr e ↦ right_true (opened is_proper_beginning (opening t)) (takes_inputs (data_phase t)) (wants_column (data_phase t)) e
    ]

-- a tail that goes on is open, but for the command 00 alone
pub wanted_opens : (t : List TargetCycle) (c : TargetCycle) → (t ≡ CommandCycle Read ∷ [] → ⊥) → wants (facts_of t) c ≡ true → is_open (facts_of t) ≡ true
wanted_opens t (CommandCycle c) ne h = command_opens (facts_of t) c h
wanted_opens t (AddressCycle b) ne h = address_opens t b ne h
wanted_opens t (InputCycle b) ne h = middle_true (opened is_proper_beginning (opening t)) (takes_inputs (data_phase t)) (wants_column (data_phase t)) h
wanted_opens t OutputCycle ne h = cc

pub proper_is_open : (t : List TargetCycle) → (t ≡ [] → ⊥) → (t ≡ CommandCycle Read ∷ [] → ⊥) → IsProperBeginning (reverse t) → is_open (facts_of t) ≡ true
proper_is_open t some ne (next, b) =
    elim (beginning_wants t next (subst IsBeginning (sym (reverse_more next t)) b)) [
      | inl p ↦ absurd (some p.0)
      | inr w ↦ wanted_opens t next ne w
    ]

cons_is_some : (c : TargetCycle) (t : List TargetCycle) → (c ∷ t) ≡ [] → ⊥
cons_is_some c t h = cc

pub tails_follow : TailsFollowTheTable
tails_follow =
    record {
      goes_on = λ t c h. (
        λ w. wanted_begins t c w,
        λ b. elim (beginning_wants t c b) [ inl p ↦ absurd (clash (begins_sequence c) p.1 h) | inr w ↦ w ],
      );
      opener_inside = λ d t c h. (
        λ w. wanted_begins (d ∷ t) c w,
        λ b. elim (beginning_wants (d ∷ t) c b) [ inl p ↦ absurd (cons_is_some d t p.0) | inr w ↦ w ],
      );
      opens = λ t some ne. (λ o. open_is_proper t o, λ p. proper_is_open t some ne p);
      lone_read = refl;
      no_tail = refl;
    }
