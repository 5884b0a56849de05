-- The row that a tail names is inside the geometry and its LUN ready, from its last address to its closer.
use Rattle.std.specs.List.{list_any}
use Rattle.std.proofs.Common.{◌≡◌, ℕ, suc, ◌+◌, ◌==◌, ◌≤◌, Bool, true, false, ◌&&◌, ◌||◌, cond, not, List, [], ◌∷◌, Option, Some, None, refl, sym, ap, ◌∙◌, arith, length, ltb, subst, zero, ◌<◌}
use Rattle.std.proofs.lemmas.Bool.Decides.{nat_tests}
use Rattle.std.specs.List.{slice_get}
use Rattle.std.proofs.lemmas.Bool.{not-false, not-true, or_left, or_right, and_parts as both, or_parts as neither}
use Rattle.std.proofs.Math.Bool.{and-false, or-false}
use Rattle.onfi_cycle.proofs.Booleans.{and_rest, clash}
use Rattle.nand_geometry.specs.declared.parts.Parts.{Parts}
use Rattle.nand_geometry.specs.Row.{parts_of, is_inside}
use Rattle.onfi_cycle.specs.declared.command.Command.{Command}
use Rattle.onfi_cycle.specs.declared.command.Command.TheVariants.{Read, BlockErase, PageProgram, ChangeWriteColumn, ReadId, ReadParameterPage, ReadUniqueId, GetFeatures, SetFeatures, ChangeReadColumnEnhanced}
use Rattle.onfi_cycle.specs.declared.data_phase.DataPhase.{DataPhase}
use Rattle.onfi_cycle.specs.declared.data_phase.DataPhase.TheVariants.{Inputs, Outside, FirstColumn, SecondColumn, FeatureInputs}
use Rattle.onfi_cycle.specs.declared.effect.Effect.{Effect}
use Rattle.onfi_cycle.specs.declared.effect.Effect.TheVariants.{Unaffected, BecameReady, ArrayBecameReady}
use Rattle.onfi_cycle.specs.declared.forbidden.Forbidden.TheVariants.{NotThere}
use Rattle.onfi_cycle.specs.declared.item.Item.{Item}
use Rattle.onfi_cycle.specs.declared.item.Item.TheVariants.{Cyc, Rdy, Ard}
use Rattle.onfi_cycle.specs.declared.latch.Latch.{Latch}
use Rattle.onfi_cycle.specs.declared.latch.Latch.TheVariants.{Off}
use Rattle.onfi_cycle.specs.declared.opening.Opening.{Opening}
use Rattle.onfi_cycle.specs.declared.tail_facts.TailFacts.{TailFacts}
use Rattle.onfi_cycle.specs.declared.target_cycle.TargetCycle.{TargetCycle}
use Rattle.onfi_cycle.specs.declared.target_cycle.TargetCycle.TheVariants.{CommandCycle, AddressCycle, InputCycle, OutputCycle}
use Rattle.onfi_cycle.specs.LunView.{LunView}
use Rattle.onfi_cycle.specs.Command.{begins_data, at_last_row, addresses_the_array, reads_identity, is_set_features}
use Rattle.onfi_cycle.specs.Sequence.{target_cycle, begins_anew, facts_of, facts_after, extended_facts, opened, one_address_more, row_after_address, wants_command, phase_after_command, phase_after_address, row, row_with, takes_features, phase_after_input}
use Rattle.onfi_cycle.specs.Effect.{is_shared, names_lun, page_address, cycle_effect, address_effect, program_row_effect, opening_address_effect, ends_features}
use Rattle.onfi_cycle.specs.Lun.{busy_after, view_after}
use Rattle.onfi_cycle.specs.Rules.{named_lun_is, ends_row, breaks_not_there, breaks_several_luns, breaks_row_outside, breaks_lun_busy}
use Rattle.onfi_cycle.specs.Permitted.{judge, judge_cycle}
use Rattle.onfi_cycle.specs.State.{tail_after, effect_alone, has_driver}
use Rattle.onfi_cycle.specs.Bounds.{TailFits, RowStands, is_read, is_block_erase, names_read, names_erase, names_program, names_row, names_identity, is_row}
use Rattle.onfi_cycle.proofs.Others.{first_passed}
use Rattle.onfi_cycle.proofs.Passed.{KeepsRules, keeps_rules}
use Rattle.onfi_cycle.proofs.RowBounds.{goes_on_inside, begun_outside, judged_row, next_is, later_address, last_address, input_inside, no_features_inside}
use Rattle.onfi_cycle.proofs.TailBounds.{command_in_features, input_in_features}

-- a tail that names no row and waits for no address of an identity
unnamed : (g : Parts) (t : TailFacts) (n : ℕ) (v : LunView) → names_row t ≡ false → names_identity t ≡ false → RowStands g t n v
unnamed g t n v row identity = record { inside = λ named h. cc; ready = λ named h. cc; identity = λ h. cc; alone = λ narrow h. cc }

-- a LUN that is ready if it was
stays_ready : (g : Parts) (t : TailFacts) (n : ℕ) (v w : LunView) → (v.busy ≡ false → w.busy ≡ false) → RowStands g t n v → RowStands g t n w
stays_ready g t n v w keeps f =
    record { inside = f.inside; ready = λ named h. keeps (f.ready named h); identity = λ h. keeps (f.identity h); alone = f.alone }

-- ---- where there is one LUN alone

some_of_one : (test : LunView → Bool) (luns : List LunView) (n : ℕ) (v : LunView) → length luns ≤ 1 → slice_get luns n ≡ Some v → list_any test luns ≡ true → test v ≡ true
some_of_one test [] n v one found h = cc
some_of_one test (x ∷ []) zero v one found h = let same : x ≡ v = cc in ap test (sym same) ∙ (sym (or-false (test x)) ∙ h)
some_of_one test (x ∷ []) (suc n) v one found h = cc
some_of_one test (x ∷ (y ∷ luns)) n v one found h = absurd (omega arith)

number_of_one : (luns : List LunView) (n : ℕ) (v : LunView) → length luns ≤ 1 → slice_get luns n ≡ Some v → n ≡ 0
number_of_one [] n v one found = cc
number_of_one (x ∷ []) zero v one found = refl
number_of_one (x ∷ []) (suc n) v one found = cc
number_of_one (x ∷ (y ∷ luns)) n v one found = absurd (omega arith)

-- ---- an opener

record Identity (g : Parts) (v : LunView) (n : ℕ) : Type 0 where
  ready : v.busy ≡ false
  alone : is_shared g ≡ false → n ≡ 0

-- what no LUN does this one doesn't
none_at : (test : LunView → Bool) (luns : List LunView) (n : ℕ) (v : LunView) → list_any test luns ≡ false → slice_get luns n ≡ Some v → test v ≡ false
none_at test [] n v h found = cc
none_at test (x ∷ luns) zero v h found = let same : x ≡ v = cc in ap test (sym same) ∙ (neither (test x) (list_any test luns) h).0
none_at test (x ∷ luns) (suc n) v h found = none_at test luns n v (neither (test x) (list_any test luns) h).1 found

identity_stands : (g : Parts) (t : TailFacts) (luns : List LunView) (n : ℕ) (v : LunView) (c : Command) → KeepsRules g t luns (CommandCycle c) → length luns ≡ g.luns → slice_get luns n ≡ Some v → reads_identity c ≡ true → Identity g v n
unfolding breaks_several_luns breaks_lun_busy
identity_stands g t luns n v c keeps count found h = of c h keeps.f4 keeps.f9
  where
    few : ltb 1 g.luns ≡ false → length luns ≤ 1
    few e = grind (arith, nat_tests, count)

    by : (shared : Bool) → is_shared g ≡ shared → cond shared false (ltb 1 g.luns) ≡ false → not (list_any (λ v. not v.busy) luns) ≡ false → (shared && list_any (λ v. v.busy) luns) ≡ false → Identity g v n
    by true e f4 some none = record { ready = none_at (λ v. v.busy) luns n v none found; alone = λ narrow. absurd (clash (is_shared g) e narrow) }
    by false e one some none = record { ready = not-true v.busy (some_of_one (λ v. not v.busy) luns n v (few one) found (not-false _ some)); alone = λ narrow. number_of_one luns n v (few one) found }

    when : cond (is_shared g) false (ltb 1 g.luns) ≡ false → (not (list_any (λ v. not v.busy) luns) || (is_shared g && list_any (λ v. v.busy) luns)) ≡ false → Identity g v n
    when f4 f9 = let both_free = neither (not (list_any (λ v. not v.busy) luns)) (is_shared g && list_any (λ v. v.busy) luns) f9 in by (is_shared g) refl f4 both_free.0 both_free.1

    of : (c : Command) → reads_identity c ≡ true → breaks_several_luns g luns (CommandCycle c) ≡ false → breaks_lun_busy g t luns (CommandCycle c) ≡ false → Identity g v n
    of ReadId h f4 f9 = when f4 f9
    of ReadParameterPage h f4 f9 = when f4 f9
    of ReadUniqueId h f4 f9 = when f4 f9
    of GetFeatures h f4 f9 = when f4 f9
    of SetFeatures h f4 f9 = when f4 f9
    of _ h f4 f9 = cc

neither_starts : (b busy : Bool) → busy_after (cond b Unaffected Unaffected) busy ≡ busy
neither_starts true busy = refl
neither_starts false busy = refl

identity_keeps : (g : Parts) (t : TailFacts) (la : Latch) (n : ℕ) (c : Command) (busy : Bool) → reads_identity c ≡ true → busy_after (cycle_effect g t la (CommandCycle c) n) busy ≡ busy
identity_keeps g t la n ReadId busy h = neither_starts (wants_command t ReadId && names_lun g (row t) n) busy
identity_keeps g t la n ReadParameterPage busy h = neither_starts (wants_command t ReadParameterPage && names_lun g (row t) n) busy
identity_keeps g t la n ReadUniqueId busy h = neither_starts (wants_command t ReadUniqueId && names_lun g (row t) n) busy
identity_keeps g t la n GetFeatures busy h = neither_starts (wants_command t GetFeatures && names_lun g (row t) n) busy
identity_keeps g t la n SetFeatures busy h = neither_starts (wants_command t SetFeatures && names_lun g (row t) n) busy
identity_keeps g t la n _ busy h = cc

no_row_yet : (c : Command) → names_row (extended_facts (CommandCycle c) (facts_of [])) ≡ false
no_row_yet c = rw (and-false (is_read c), and-false (is_block_erase c), begun_outside c) refl

begun_identity : (c : Command) → names_identity (extended_facts (CommandCycle c) (facts_of [])) ≡ true → reads_identity c ≡ true
begun_identity c h = of (reads_identity c) (rw (begun_outside c) at h)
  where
    of : (b : Bool) → ((b && true) || false) ≡ true → b ≡ true
    of true h = refl
    of false h = cc

begun_stands : (g : Parts) (t : TailFacts) (la : Latch) (luns : List LunView) (n : ℕ) (v : LunView) (cycle : TargetCycle) → KeepsRules g t luns cycle → length luns ≡ g.luns → slice_get luns n ≡ Some v → begins_anew t cycle ≡ true → RowStands g (extended_facts cycle (facts_of [])) n (view_after (cycle_effect g t la cycle n) v)
begun_stands g t la luns n v (CommandCycle c) keeps count found h =
    record {
      inside = λ named r. let no = no_row_yet c in cc;
      ready = λ named r. let no = no_row_yet c in cc;
      identity = λ r. let is = begun_identity c r in identity_keeps g t la n c v.busy is ∙ (identity_stands g t luns n v c keeps count found is).ready;
      alone = λ narrow r. (identity_stands g t luns n v c keeps count found (begun_identity c r)).alone narrow;
    }
begun_stands g t la luns n v (AddressCycle byte) keeps count found h = cc
begun_stands g t la luns n v (InputCycle byte) keeps count found h = cc
begun_stands g t la luns n v OutputCycle keeps count found h = cc

-- ---- a command that goes on

program_named : (t : TailFacts) → names_program t ≡ true → names_row t ≡ true
program_named t h = or_right (names_read t) _ (or_right (names_erase t) _ h)

command_stands : (g : Parts) (t : TailFacts) (la : Latch) (n : ℕ) (v : LunView) (c : Command) → t.is_empty ≡ false → RowStands g t n v → RowStands g (extended_facts (CommandCycle c) t) n (view_after (cycle_effect g t la (CommandCycle c) n) v)
command_stands g t la n v c some f = of t.is_empty some
  where
    inputs_named : t.phase ≡ Inputs → names_row t ≡ true
    inputs_named e = program_named t (rw e refl)

    kept : (d : Command) → d ≡ ChangeWriteColumn → (busy : Bool) → busy_after (cycle_effect g t la (CommandCycle d) n) busy ≡ busy
    kept ChangeWriteColumn is busy = either (wants_command t ChangeWriteColumn && names_lun g (row t) n)
      where
        either : (b : Bool) → busy_after (cond b Unaffected Unaffected) busy ≡ busy
        either true = refl
        either false = refl
    kept d is busy = cc

    of : (e : Bool) → e ≡ false → RowStands g (record { opening = cond e (Some (record { opener = c; addresses = 0 })) None; phase = phase_after_command c t.phase; row = t.row; column = t.column; inputs = 0; is_empty = false }) n (view_after (cycle_effect g t la (CommandCycle c) n) v)
    of true h = cc
    of false h =
        record {
          inside = λ named r. let is = goes_on_inside c t.phase r in f.inside named (inputs_named is.phase);
          ready = λ named r. let is = goes_on_inside c t.phase r in kept c is.command v.busy ∙ f.ready named (inputs_named is.phase);
          identity = λ r. let no = command_in_features c t.phase in cc;
          alone = λ narrow r. let no = command_in_features c t.phase in cc;
        }

-- ---- an address

-- the last row cycle of an opener that addresses the array
read_ends : (c : Command) (m : ℕ) → (is_read c && m + 1 == 5) ≡ true → (addresses_the_array c && at_last_row c m) ≡ true
read_ends Read m h = let two = next_is m 4 h in rw two refl
read_ends c m h = cc

erase_ends : (c : Command) (m : ℕ) → (is_block_erase c && m + 1 == 3) ≡ true → (addresses_the_array c && at_last_row c m) ≡ true
erase_ends BlockErase m h = let two = next_is m 2 h in rw two refl
erase_ends c m h = cc

program_ends : (c : Command) (m : ℕ) → (begins_data c && m == 4) ≡ true → (addresses_the_array c && at_last_row c m) ≡ true
program_ends PageProgram m h = h
program_ends ChangeWriteColumn m h = h
program_ends c m h = cc

one_of : {A : Type 0} (a b c : Bool) → (a || (b || c)) ≡ true → (a ≡ true → A) → (b ≡ true → A) → (c ≡ true → A) → A
one_of true b c h x y z = x refl
one_of false true c h x y z = y refl
one_of false false c h x y z = z h

-- no address of theirs begins work
array_rests : (g : Parts) (t : TailFacts) (byte : ℕ) (c : Command) (m n : ℕ) (busy : Bool) → addresses_the_array c ≡ true → busy_after (address_effect g t byte c m n) busy ≡ busy
array_rests g t byte Read m n busy h = refl
array_rests g t byte ChangeReadColumnEnhanced m n busy h = refl
array_rests g t byte BlockErase m n busy h = refl
array_rests g t byte ChangeWriteColumn m n busy h = refl
array_rests g t byte PageProgram m n busy h = of (m == 4) (names_lun g (row_with t byte) n)
  where
    of : (b named : Bool) → busy_after (cond b (program_row_effect named) Unaffected) busy ≡ busy
    of true true = refl
    of true false = refl
    of false named = refl
array_rests g t byte _ m n busy h = cc

lies_inside : (g : Parts) (r : ℕ) → is_inside g (parts_of g r) ≡ true → is_row g (page_address g r) ≡ true
lies_inside g r h = of (ltb (parts_of g r).lun g.luns) (ltb (parts_of g r).block g.blocks) (ltb (parts_of g r).page g.pages) h
  where
    of : (a b c : Bool) → (a && b && c) ≡ true → (b && c) ≡ true
    of true true true h = refl
    of true true false h = cc
    of true false c h = cc
    of false b c h = cc

-- the address of a Set Features does nothing yet, and its bytes come at the LUN that was ready for it
pub no_features_alone : (p : DataPhase) → takes_features (phase_after_address None p) ≡ false
no_features_alone Outside = refl
no_features_alone Inputs = refl
no_features_alone FirstColumn = refl
no_features_alone SecondColumn = refl
no_features_alone FeatureInputs = refl

pub features_begin : (o : Opening) (p : DataPhase) → takes_features (phase_after_address (Some o) p) ≡ true → (is_set_features o.opener && o.addresses == 0) ≡ true
features_begin o Outside h = at (begins_data o.opener && o.addresses == 4) (is_set_features o.opener && o.addresses == 0) h
  where
    at : (b c : Bool) → takes_features (cond b Inputs (cond c FeatureInputs Outside)) ≡ true → c ≡ true
    at true c h = cc
    at false true h = refl
    at false false h = cc
features_begin o Inputs h = cc
features_begin o FirstColumn h = cc
features_begin o SecondColumn h = cc
features_begin o FeatureInputs h = cc

set_rests : (g : Parts) (t : TailFacts) (byte : ℕ) (c : Command) (m n : ℕ) → is_set_features c ≡ true → address_effect g t byte c m n ≡ Unaffected
set_rests g t byte SetFeatures m n h = refl
set_rests g t byte _ m n h = cc

set_is_identity : (c : Command) (b : Bool) → (is_set_features c && b) ≡ true → (reads_identity c && b) ≡ true
set_is_identity SetFeatures b h = h
set_is_identity _ b h = cc

not_zero : (m : ℕ) → (m + 1 == 0) ≡ true → false ≡ true
not_zero m h = grind (arith, nat_tests)

address_stands : (g : Parts) (t : TailFacts) (la : Latch) (luns : List LunView) (n : ℕ) (v : LunView) (byte : ℕ) → KeepsRules g t luns (AddressCycle byte) → slice_get luns n ≡ Some v → TailFits g t → RowStands g t n v → RowStands g (extended_facts (AddressCycle byte) t) n (view_after (cycle_effect g t la (AddressCycle byte) n) v)
unfolding breaks_row_outside breaks_lun_busy
address_stands g t la luns n v byte keeps found tf f = at t.opening refl
  where
    next : Option Opening → TailFacts
    next o = record { opening = one_address_more o; phase = phase_after_address o t.phase; row = row_after_address o byte t.row; column = (extended_facts (AddressCycle byte) t).column; inputs = 0; is_empty = false }

    after : Option Opening → LunView
    after o = view_after (opening_address_effect g t byte o n) v

    later : RowStands g (next None) n (after None)
    later =
        record {
          inside = λ named h. f.inside named (program_named t (later_address t.phase h));
          ready = λ named h. f.ready named (program_named t (later_address t.phase h));
          identity = λ h. let no = no_features_alone t.phase in cc;
          alone = λ narrow h. let no = no_features_alone t.phase in cc;
        }

    ends : (o : Opening) → t.opening ≡ Some o → names_row (next (Some o)) ≡ true → (addresses_the_array o.opener && at_last_row o.opener o.addresses) ≡ true
    ends o is h =
        one_of _ _ _ h
        (read_ends o.opener o.addresses)
        (erase_ends o.opener o.addresses)
        (λ p. program_ends o.opener o.addresses (last_address o t.phase (λ e. sym is ∙ tf.in_column e) p))

    row_is_inside : (o : Opening) → t.opening ≡ Some o → (addresses_the_array o.opener && at_last_row o.opener o.addresses) ≡ true → is_row g (page_address g (row_with t byte)) ≡ true
    row_is_inside o is h =
        lies_inside g (row_with t byte)
        (not-false _ (and_rest (ends_row (λ c. true) t) _ (ap (opened (λ c n. true && at_last_row c n)) is ∙ (both (addresses_the_array o.opener) _ h).1) keeps.f8))

    lun_is_ready : (o : Opening) → t.opening ≡ Some o → (addresses_the_array o.opener && at_last_row o.opener o.addresses) ≡ true → names_lun g (row_with t byte) n ≡ true → v.busy ≡ false
    lun_is_ready o is h named =
        judged_row g (row_with t byte) (λ v. v.busy) luns n v
        (neither (named_lun_is g (row_with t byte) (λ v. v.busy) luns) _ (and_rest (ends_row addresses_the_array t) _ (ap (opened (λ c n. addresses_the_array c && at_last_row c n)) is ∙ h) keeps.f9)).0
        named found

    first : (o : Opening) → t.opening ≡ Some o → RowStands g (next (Some o)) n (after (Some o))
    first o is =
        record {
          inside = λ named h. row_is_inside o is (ends o is h);
          ready = λ named h.
              let last = ends o is h in
              array_rests g t byte o.opener o.addresses n v.busy (both (addresses_the_array o.opener) _ last).0
              ∙ lun_is_ready o is last named;
          identity = λ h.
              let begin = begins_features o h in
              ap (λ (e : Effect). busy_after e v.busy) (set_rests g t byte o.opener o.addresses n (both (is_set_features o.opener) _ begin).0) ∙ f.identity (waits o is begin);
          alone = λ narrow h. f.alone narrow (waits o is (begins_features o h));
        }
      where
        begins_features : (o : Opening) → names_identity (next (Some o)) ≡ true → (is_set_features o.opener && o.addresses == 0) ≡ true
        begins_features o h = features_begin o t.phase (second (reads_identity o.opener) (o.addresses + 1 == 0) (not_zero o.addresses) _ h)
          where
            second : (a b : Bool) → (b ≡ true → false ≡ true) → (c : Bool) → ((a && b) || c) ≡ true → c ≡ true
            second a b never true h = refl
            second true true never false h = let x = never refl in cc
            second true false never false h = cc
            second false b never false h = cc

        waits : (o : Opening) → t.opening ≡ Some o → (is_set_features o.opener && o.addresses == 0) ≡ true → names_identity t ≡ true
        waits o is begin =
            or_left (opened (λ c n. reads_identity c && n == 0) t.opening) (takes_features t.phase)
            (ap (opened (λ c n. reads_identity c && n == 0)) is ∙ set_is_identity o.opener (o.addresses == 0) begin)

    at : (o : Option Opening) → t.opening ≡ o → RowStands g (next t.opening) n (after t.opening)
    at None e = subst (λ (o : Option Opening). RowStands g (next o) n (after o)) (sym e) later
    at (Some o) e = subst (λ (o : Option Opening). RowStands g (next o) n (after o)) (sym e) (first o e)

-- ---- all cycles

extended_stands : (g : Parts) (t : TailFacts) (la : Latch) (luns : List LunView) (n : ℕ) (v : LunView) (cycle : TargetCycle) → t.is_empty ≡ false → KeepsRules g t luns cycle → slice_get luns n ≡ Some v → TailFits g t → RowStands g t n v → RowStands g (extended_facts cycle t) n (view_after (cycle_effect g t la cycle n) v)
extended_stands g t la luns n v (CommandCycle c) some keeps found tf f = command_stands g t la n v c some f
extended_stands g t la luns n v (AddressCycle byte) some keeps found tf f = address_stands g t la luns n v byte keeps found tf f
extended_stands g t la luns n v (InputCycle byte) some keeps found tf f =
    record {
      inside = λ named h. f.inside named (program_named t (input_inside t.inputs t.phase h));
      ready = λ named h.
          let inside = input_inside t.inputs t.phase h in
          rests (ap (λ b. b && t.inputs == 3) (no_features_inside t.phase inside)) (f.ready named (program_named t inside));
      identity = λ h. rests (not_last h) (f.identity (still h));
      alone = λ narrow h. f.alone narrow (still h);
    }
  where
    rests : ends_features t ≡ false → v.busy ≡ false → busy_after (cycle_effect g t la (InputCycle byte) n) v.busy ≡ false
    rests e b = rw e b

    was : (n : ℕ) (p : DataPhase) → takes_features (phase_after_input n p) ≡ true → takes_features p ≡ true
    was n Outside h = cc
    was n Inputs h = cc
    was n FirstColumn h = cc
    was n SecondColumn h = cc
    was n FeatureInputs h = refl

    still : names_identity (extended_facts (InputCycle byte) t) ≡ true → names_identity t ≡ true
    still h = or_right (opened (λ c n. reads_identity c && n == 0) t.opening) (takes_features t.phase) (was t.inputs t.phase h)

    not_last : names_identity (extended_facts (InputCycle byte) t) ≡ true → ends_features t ≡ false
    not_last h = let few = input_in_features t.inputs t.phase h in both_or_not (takes_features t.phase) (fewer t.inputs few)
      where
        fewer : (k : ℕ) → k + 1 < 4 → (k == 3) ≡ false
        fewer k low = grind (arith, nat_tests)

        both_or_not : (a : Bool) → (t.inputs == 3) ≡ false → (a && t.inputs == 3) ≡ false
        both_or_not true e = e
        both_or_not false e = refl
extended_stands g t la luns n v OutputCycle some keeps found tf f = record { inside = λ named h. cc; ready = λ named h. cc; identity = λ h. cc; alone = λ narrow h. cc }

cycle_stands : (g : Parts) (t : TailFacts) (la : Latch) (luns : List LunView) (n : ℕ) (v : LunView) (cycle : TargetCycle) → KeepsRules g t luns cycle → length luns ≡ g.luns → slice_get luns n ≡ Some v → TailFits g t → RowStands g t n v → RowStands g (facts_after cycle t) n (view_after (cycle_effect g t la cycle n) v)
cycle_stands g t la luns n v cycle keeps count found tf f = at (begins_anew t cycle) refl
  where
    w : LunView
    w = view_after (cycle_effect g t la cycle n) v

    empty : t.is_empty ≡ true → RowStands g t n w
    empty e = unnamed g t n w (rw (tf.nothing e, tf.outside e) refl) (rw (tf.nothing e, tf.outside e) refl)

    on : (e : Bool) → t.is_empty ≡ e → RowStands g (cond e t (extended_facts cycle t)) n w
    on true e = empty e
    on false e = extended_stands g t la luns n v cycle e keeps found tf f

    at : (b : Bool) → begins_anew t cycle ≡ b → RowStands g (cond b (extended_facts cycle (facts_of [])) (cond t.is_empty t (extended_facts cycle t))) n w
    at true e = begun_stands g t la luns n v cycle keeps count found e
    at false e = on t.is_empty refl

-- a permitted item on its target
pub row_stands : (g : Parts) (targets : ℕ) (t : TailFacts) (luns : List LunView) (i : Item) (n : ℕ) (v : LunView) → judge g targets t luns i ≡ None → length luns ≡ g.luns → slice_get luns n ≡ Some v → TailFits g t → RowStands g t n v → RowStands g (tail_after i t) n (view_after (effect_alone g t (has_driver luns) i n v) v)
row_stands g targets t luns (Cyc c) n v h count found tf f =
    let cycle = target_cycle c.kind c.byte in
    let keeps = keeps_rules g t luns cycle (first_passed (breaks_not_there targets luns (Cyc c)) NotThere (judge_cycle g t luns cycle) h).1 in
    at (c.ce == c.ce) refl (cycle_stands g t (cond (has_driver luns) v.latch Off) luns n v cycle keeps count found tf f)
  where
    at : (b : Bool) → (c.ce == c.ce) ≡ b → RowStands g (facts_after (target_cycle c.kind c.byte) t) n (view_after (cycle_effect g t (cond (has_driver luns) v.latch Off) (target_cycle c.kind c.byte) n) v) → RowStands g (facts_after (target_cycle c.kind c.byte) t) n (view_after (cond b (cycle_effect g t (cond (has_driver luns) v.latch Off) (target_cycle c.kind c.byte) n) Unaffected) v)
    at true e h = h
    at false e h = let same : (c.ce == c.ce) ≡ true = grind (arith, nat_tests) in cc
row_stands g targets t luns (Rdy ce lun fail) n v h count found tf f = stays_ready g t n v _ (either (ce == ce && lun == n)) f
  where
    either : (b : Bool) → v.busy ≡ false → busy_after (cond b (BecameReady fail) Unaffected) v.busy ≡ false
    either true h = refl
    either false h = h
row_stands g targets t luns (Ard ce lun fail) n v h count found tf f = stays_ready g t n v _ (either (ce == ce && lun == n)) f
  where
    either : (b : Bool) → v.busy ≡ false → busy_after (cond b (ArrayBecameReady fail) Unaffected) v.busy ≡ false
    either true h = h
    either false h = h
