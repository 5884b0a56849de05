-- Behind the last address of a read, a program or an erase its row names the one LUN of its target, and that is ready; so the closer begins work.
use Rattle.std.proofs.Common.{◌≡◌, ℕ, ◌+◌, ◌==◌, Bool, true, false, ◌&&◌, ◌||◌, cond, List, [], ◌∷◌, Option, Some, None, refl, sym, ap, ◌∙◌, subst, arith, ltb, eqb-true, eq-eqb, ltb-true}
use Rattle.std.specs.Prelude.{slice_get}
use Rattle.std.proofs.lemmas.Bool.{and_parts, not-false, or_left, or_right, or_parts}
use Rattle.std.proofs.Math.Bool.{and-false}
use Rattle.nand_geometry.specs.declared.parts.Parts.{Parts}
use Rattle.nand_geometry.specs.Row.{parts_of}
use Rattle.onfi_cycle.specs.declared.command.Command.{Command}
use Rattle.onfi_cycle.specs.declared.command.Command.TheVariants.{Read, ReadConfirm, ChangeReadColumnEnhanced, BlockErase, BlockEraseConfirm, PageProgram, ChangeWriteColumn, ProgramConfirm}
use Rattle.onfi_cycle.specs.declared.data_phase.DataPhase.{DataPhase}
use Rattle.onfi_cycle.specs.declared.data_phase.DataPhase.TheVariants.{Outside, Inputs, FirstColumn, SecondColumn, FeatureInputs}
use Rattle.onfi_cycle.specs.declared.effect.Effect.TheVariants.{Unaffected}
use Rattle.onfi_cycle.specs.declared.item.Cycle.{Cycle}
use Rattle.onfi_cycle.specs.declared.item.Item.{Item}
use Rattle.onfi_cycle.specs.declared.item.Item.TheVariants.{Cyc, Rdy, Ard}
use Rattle.onfi_cycle.specs.declared.latch.Latch.{Latch}
use Rattle.onfi_cycle.specs.declared.opening.Opening.{Opening}
use Rattle.onfi_cycle.specs.declared.tail_facts.TailFacts.{TailFacts}
use Rattle.onfi_cycle.specs.declared.target_cycle.TargetCycle.{TargetCycle}
use Rattle.onfi_cycle.specs.declared.target_cycle.TargetCycle.TheVariants.{CommandCycle, AddressCycle, InputCycle, OutputCycle}
use Rattle.onfi_cycle.specs.Bounds.{is_read, is_block_erase, names_read, names_erase, names_program, names_row}
use Rattle.onfi_cycle.specs.Command.{address_cycles, closes, begins_data, is_set_features, at_last_row, addresses_the_array}
use Rattle.onfi_cycle.specs.Effect.{names_lun, cycle_effect, address_effect, opening_address_effect}
use Rattle.onfi_cycle.specs.Lun.{is_busy, latch_alone, luns_of, lun_view}
use Rattle.onfi_cycle.specs.LunView.{LunView}
use Rattle.onfi_cycle.specs.Permitted.{broken, is_permitted, is_legal}
use Rattle.onfi_cycle.specs.Rules.{opens_here, ends_row, breaks_row_outside, breaks_lun_busy}
use Rattle.onfi_cycle.specs.Sequence.{target_cycle, begins_anew, continued, with_cycle, tail, opening, opened, one_address_more, data_phase, phase_after_address, phase_after_last_address, row_bytes, row_after_address, column, facts_of, row, row_with, wants_command, wants_column, takes_data}
use Rattle.onfi_cycle.proofs.Booleans.{and_rest, clash}
use Rattle.onfi_cycle.proofs.Keeping.{view_at}
use Rattle.onfi_cycle.proofs.Others.{permitted_none}
use Rattle.onfi_cycle.proofs.Passed.{KeepsRules, permitted_keeps}
use Rattle.onfi_cycle.proofs.RowBounds.{begun_outside, goes_on_inside, judged_row, next_is, later_address, last_address, input_inside, no_features_inside}
use Rattle.trace_ops.proofs.Contents.{one_less}
use Rattle.trace_ops.proofs.Legal.{at_lun}
use Rattle.trace_ops.proofs.Starts.{starts, starts_by, either_false, cycle_busy, ready_busy, array_ready_busy}
use Rattle.trace_ops.proofs.Tails.{wanted_command}

-- the row that the tail names is one of the first LUN, and that is ready
pub record RowReady (g : Parts) (t : TailFacts) (busy : Bool) : Type 0 where
  pub named : names_row t ≡ true → names_lun g (row t) 0 ≡ true
  pub ready : names_row t ≡ true → busy ≡ false

unnamed : (g : Parts) (t : TailFacts) (busy : Bool) → names_row t ≡ false → RowReady g t busy
unnamed g t busy none = record { named = λ h. absurd (clash (names_row t) h none); ready = λ h. absurd (clash (names_row t) h none) }

-- ---- tails

after_last_row : (o : Option Opening) → wants_column (phase_after_last_address o) ≡ false
after_last_row o = at (opened (λ c n. begins_data c && n == 4) o) (opened (λ c n. is_set_features c && n == 0) o)
  where
    at : (b c : Bool) → wants_column (cond b Inputs (cond c FeatureInputs Outside)) ≡ false
    at true c = refl
    at false true = refl
    at false false = refl

no_column_behind : (o : Option Opening) (d : DataPhase) → wants_column d ≡ false → wants_column (phase_after_address o d) ≡ false
no_column_behind o Outside h = after_last_row o
no_column_behind o FirstColumn h = cc
no_column_behind o SecondColumn h = cc
no_column_behind o Inputs h = refl
no_column_behind o FeatureInputs h = refl

-- behind an opener and addresses alone there is no column of a program
no_column : (t : List TargetCycle) (o : Opening) → opening t ≡ Some o → wants_column (data_phase t) ≡ false
no_column [] o h = refl
no_column (CommandCycle c ∷ []) o h = ap wants_column (begun_outside c)
no_column (CommandCycle c ∷ (d ∷ t)) o h = cc
no_column (AddressCycle byte ∷ t) o h = (let less = one_less (opening t) o h in no_column_behind (opening t) (data_phase t) (no_column t less.0 less.1))
no_column (InputCycle byte ∷ t) o h = cc
no_column (OutputCycle ∷ t) o h = cc

program_named : (t : TailFacts) → names_program t ≡ true → names_row t ≡ true
program_named t h = or_right (names_read t) _ (or_right (names_erase t) _ h)

inputs_named : (t : TailFacts) → t.phase ≡ Inputs → names_row t ≡ true
inputs_named t e = program_named t (ap (λ p. takes_data p || wants_column p) e)

-- the last row cycle of an opener that addresses the array
read_ends : (c : Command) (m : ℕ) → (is_read c && m + 1 == 5) ≡ true → (addresses_the_array c && at_last_row c m) ≡ true
read_ends Read m h = eq-eqb m 4 (next_is m 4 h)
read_ends c m h = cc

erase_ends : (c : Command) (m : ℕ) → (is_block_erase c && m + 1 == 3) ≡ true → (addresses_the_array c && at_last_row c m) ≡ true
erase_ends BlockErase m h = eq-eqb m 2 (next_is m 2 h)
erase_ends c m h = cc

program_ends : (c : Command) (m : ℕ) → (begins_data c && m == 4) ≡ true → (addresses_the_array c && at_last_row c m) ≡ true
program_ends PageProgram m h = h
program_ends ChangeWriteColumn m h = h
program_ends c m h = cc

one_of : {A : Type 0} (a b c : Bool) → (a || (b || c)) ≡ true → (a ≡ true → A) → (b ≡ true → A) → (c ≡ true → A) → A
one_of true b c h x y z = x refl
one_of false true c h x y z = y refl
one_of false false c h x y z = z h

array_rests : (g : Parts) (t : TailFacts) (byte : ℕ) (c : Command) (m n : ℕ) → addresses_the_array c ≡ true → starts (address_effect g t byte c m n) ≡ false
array_rests g t byte Read m n h = refl
array_rests g t byte ChangeReadColumnEnhanced m n h = refl
array_rests g t byte BlockErase m n h = refl
array_rests g t byte ChangeWriteColumn m n h = refl
array_rests g t byte PageProgram m n h = either_false starts (m == 4) _ _ (either_false starts (names_lun g (row_with t byte) n) _ _ refl refl) refl
array_rests g t byte c m n h = cc

first_of_three : (a b c : Bool) → (a && b && c) ≡ true → a ≡ true
first_of_three true b c h = refl
first_of_three false b c h = cc

only_lun : (lun luns : ℕ) → luns ≡ 1 → ltb lun luns ≡ true → (lun == 0) ≡ true
only_lun lun luns one h = (let low = ltb-true lun luns h in eq-eqb lun 0 (omega (arith, low, one)))

still_ready : (busy starts : Bool) → busy ≡ false → starts ≡ false → (busy || starts) ≡ false
still_ready busy starts p q = ap (λ b. b || starts) p ∙ q

-- ---- a cycle of the target

module _ (g : Parts) (t : List TargetCycle) (luns : List LunView) (v : LunView) (found : slice_get luns 0 ≡ Some v) (one : g.luns ≡ 1) (was : RowReady g (facts_of t) v.busy) (la : Latch) where
  abbrev After : TargetCycle → TailFacts → Type 0
  After cycle f = RowReady g f (v.busy || starts (cycle_effect g (facts_of t) la cycle 0))

  column_rests : (c : Command) → c ≡ ChangeWriteColumn → starts (cycle_effect g (facts_of t) la (CommandCycle c) 0) ≡ false
  column_rests ChangeWriteColumn e = at (wants_command (facts_of t) ChangeWriteColumn && names_lun g (row (facts_of t)) 0)
    where
      at : (b : Bool) → starts (cond b Unaffected Unaffected) ≡ false
      at true = refl
      at false = refl
  column_rests c e = cc

  abbrev next : ℕ → Option Opening → TailFacts
  next byte o = record {
    opening = one_address_more o;
    phase = phase_after_address o (data_phase t);
    row = row_after_address o byte (row_bytes t);
    column = column (AddressCycle byte ∷ t);
    inputs = 0;
    is_empty = false;
  }

  later : (byte : ℕ) → RowReady g (next byte None) (v.busy || starts Unaffected)
  later byte = record {
    named = λ h. was.named (program_named (facts_of t) (later_address (data_phase t) h));
    ready = λ h. still_ready v.busy false (was.ready (program_named (facts_of t) (later_address (data_phase t) h))) refl;
  }

  module _ (byte : ℕ) (keeps : KeepsRules g (facts_of t) luns (AddressCycle byte)) (o : Opening) (is : opening t ≡ Some o) where
    ends : names_row (next byte (Some o)) ≡ true → (addresses_the_array o.opener && at_last_row o.opener o.addresses) ≡ true
    ends h =
        one_of _ _ _ h (read_ends o.opener o.addresses) (erase_ends o.opener o.addresses)
        (λ p. program_ends o.opener o.addresses (last_address o (data_phase t) (λ e. absurd (clash (wants_column (data_phase t)) e (no_column t o is))) p))

    row_inside : (addresses_the_array o.opener && at_last_row o.opener o.addresses) ≡ true → names_lun g (row_with (facts_of t) byte) 0 ≡ true
    unfolding breaks_row_outside
    row_inside h =
        only_lun (parts_of g (row_with (facts_of t) byte)).lun g.luns one
        (first_of_three _ _ _
        (not-false _ (and_rest (ends_row (λ c. true) (facts_of t)) _ (ap (opened (λ c n. true && at_last_row c n)) is ∙ (and_parts (addresses_the_array o.opener) _ h).1) keeps.f8)))

    lun_ready : (addresses_the_array o.opener && at_last_row o.opener o.addresses) ≡ true → v.busy ≡ false
    unfolding breaks_lun_busy
    lun_ready h =
        judged_row g (row_with (facts_of t) byte) (λ v. v.busy) luns 0 v
        (or_parts _ _ (and_rest (ends_row addresses_the_array (facts_of t)) _ (ap (opened (λ c n. addresses_the_array c && at_last_row c n)) is ∙ h) keeps.f9)).0
        (row_inside h) found

    first : RowReady g (next byte (Some o)) (v.busy || starts (opening_address_effect g (facts_of t) byte (Some o) 0))
    first = record {
      named = λ h. row_inside (ends h);
      ready = λ h. (
          let last = ends h in
          still_ready v.busy _ (lun_ready last) (array_rests g (facts_of t) byte o.opener o.addresses 0 (and_parts (addresses_the_array o.opener) _ last).0)
          );
    }

  address_ready : (byte : ℕ) → KeepsRules g (facts_of t) luns (AddressCycle byte) → After (AddressCycle byte) (next byte (opening t))
  address_ready byte keeps = at (opening t) refl
    where
      so : Option Opening → Type 0
      so o = RowReady g (next byte o) (v.busy || starts (opening_address_effect g (facts_of t) byte o 0))

      at : (o : Option Opening) → opening t ≡ o → so (opening t)
      at None e = subst so (sym e) (later byte)
      at (Some o) e = subst so (sym e) (first byte keeps o e)

no_row_yet : (c : Command) → names_row (facts_of (CommandCycle c ∷ [])) ≡ false
no_row_yet c = rw (and-false (is_read c), and-false (is_block_erase c), begun_outside c) refl

-- a cycle that goes on
goes_on_ready : (g : Parts) (d : TargetCycle) (t : List TargetCycle) (luns : List LunView) (v : LunView) → slice_get luns 0 ≡ Some v → g.luns ≡ 1 → RowReady g (facts_of (d ∷ t)) v.busy → (la : Latch) (cycle : TargetCycle) →
    KeepsRules g (facts_of (d ∷ t)) luns cycle → RowReady g (facts_of (cycle ∷ (d ∷ t))) (v.busy || starts (cycle_effect g (facts_of (d ∷ t)) la cycle 0))
goes_on_ready g d t luns v found one was la (CommandCycle c) keeps = record {
  named = λ h. (let is = goes_on_inside c (data_phase (d ∷ t)) h in was.named (inputs_named (facts_of (d ∷ t)) is.phase));
  ready = λ h. (
      let is = goes_on_inside c (data_phase (d ∷ t)) h in
      still_ready v.busy _ (was.ready (inputs_named (facts_of (d ∷ t)) is.phase)) (column_rests g (d ∷ t) luns v found one was la c is.command)
      );
}
goes_on_ready g d t luns v found one was la (AddressCycle byte) keeps = address_ready g (d ∷ t) luns v found one was la byte keeps
goes_on_ready g d t luns v found one was la (InputCycle byte) keeps = record {
  named = λ h. was.named (program_named (facts_of (d ∷ t)) (input_inside (facts_of (d ∷ t)).inputs (data_phase (d ∷ t)) h));
  ready = λ h. (
      let inside = input_inside (facts_of (d ∷ t)).inputs (data_phase (d ∷ t)) h in
      still_ready v.busy _ (was.ready (program_named (facts_of (d ∷ t)) inside)) (rests inside)
      );
}
  where
    rests : names_program (facts_of (d ∷ t)) ≡ true → starts (cycle_effect g (facts_of (d ∷ t)) la (InputCycle byte) 0) ≡ false
    rests inside = rw (no_features_inside (data_phase (d ∷ t)) inside) refl
goes_on_ready g d t luns v found one was la OutputCycle keeps = record { named = λ h. cc; ready = λ h. cc }

any_ready : (g : Parts) (t : List TargetCycle) (luns : List LunView) (v : LunView) → slice_get luns 0 ≡ Some v → g.luns ≡ 1 → RowReady g (facts_of t) v.busy → (la : Latch) (cycle : TargetCycle) →
    KeepsRules g (facts_of t) luns cycle → RowReady g (facts_of (with_cycle cycle t)) (v.busy || starts (cycle_effect g (facts_of t) la cycle 0))
any_ready g t luns v found one was la cycle keeps = at (begins_anew (facts_of t) cycle) refl
  where
    busy : Bool
    busy = v.busy || starts (cycle_effect g (facts_of t) la cycle 0)

    opens : (c : TargetCycle) → begins_anew (facts_of t) c ≡ true → RowReady g (facts_of (c ∷ [])) busy
    opens (CommandCycle c) h = unnamed g (facts_of (CommandCycle c ∷ [])) busy (no_row_yet c)
    opens (AddressCycle byte) h = cc
    opens (InputCycle byte) h = cc
    opens OutputCycle h = cc

    on : (u : List TargetCycle) → u ≡ t → RowReady g (facts_of (continued cycle u)) busy
    on [] e = unnamed g (facts_of []) busy refl
    on (d ∷ u) e =
        subst (λ (x : List TargetCycle). RowReady g (facts_of (cycle ∷ (d ∷ u))) (v.busy || starts (cycle_effect g (facts_of x) la cycle 0))) e
        (goes_on_ready g d u luns v found one (subst (λ (x : List TargetCycle). RowReady g (facts_of x) v.busy) (sym e) was) la cycle
        (subst (λ (x : List TargetCycle). KeepsRules g (facts_of x) luns cycle) (sym e) keeps))

    at : (b : Bool) → begins_anew (facts_of t) cycle ≡ b → RowReady g (facts_of (cond b (cycle ∷ []) (continued cycle t))) busy
    at true e = opens cycle e
    at false e = on t refl

-- ---- an item of a legal trace

same_ready : (g : Parts) (t : TailFacts) (busy more : Bool) → (busy ≡ false → more ≡ false) → RowReady g t busy → RowReady g t more
same_ready g t busy more keeps was = record { named = was.named; ready = λ h. keeps (was.ready h) }

cycle_rows : (g : Parts) (targets : ℕ) (past : List Item) (ce : ℕ) (c : Cycle) → g.luns ≡ 1 → broken g targets past (Cyc c) ≡ None → RowReady g (facts_of (tail past ce)) (is_busy g past (at_lun ce 0)) →
    RowReady g (facts_of (tail (Cyc c ∷ past) ce)) (is_busy g (Cyc c ∷ past) (at_lun ce 0))
cycle_rows g targets past ce c one h was = at (c.ce == ce) refl
  where
    own : c.ce ≡ ce → RowReady g (facts_of (with_cycle (target_cycle c.kind c.byte) (tail past ce))) (is_busy g past (at_lun ce 0) || starts_by g past (at_lun ce 0) (target_cycle c.kind c.byte))
    own e =
        any_ready g (tail past ce) (luns_of g past ce) (lun_view g past (at_lun ce 0)) (view_at g past (at_lun ce 0) (omega (arith, one))) one was (latch_alone g past (at_lun ce 0)) (target_cycle c.kind c.byte)
        (subst (λ (x : ℕ). KeepsRules g (facts_of (tail past x)) (luns_of g past x) (target_cycle c.kind c.byte)) e (permitted_keeps g targets past c h))

    at : (b : Bool) → (c.ce == ce) ≡ b → RowReady g (facts_of (tail (Cyc c ∷ past) ce)) (is_busy g (Cyc c ∷ past) (at_lun ce 0))
    at true e =
        subst (λ (b : Bool). RowReady g (facts_of (cond b (with_cycle (target_cycle c.kind c.byte) (tail past ce)) (tail past ce))) (is_busy g (Cyc c ∷ past) (at_lun ce 0))) (sym e)
        (subst (λ (b : Bool). RowReady g (facts_of (with_cycle (target_cycle c.kind c.byte) (tail past ce))) b)
        (sym (cycle_busy g past c (at_lun ce 0) ∙ ap (λ b. is_busy g past (at_lun ce 0) || (b && starts_by g past (at_lun ce 0) (target_cycle c.kind c.byte))) e))
        (own (eqb-true c.ce ce e)))
    at false e =
        subst (λ (b : Bool). RowReady g (facts_of (cond b (with_cycle (target_cycle c.kind c.byte) (tail past ce)) (tail past ce))) (is_busy g (Cyc c ∷ past) (at_lun ce 0))) (sym e)
        (same_ready g (facts_of (tail past ce)) (is_busy g past (at_lun ce 0)) (is_busy g (Cyc c ∷ past) (at_lun ce 0))
        (λ rests. cycle_busy g past c (at_lun ce 0) ∙ ap (λ b. is_busy g past (at_lun ce 0) || (b && starts_by g past (at_lun ce 0) (target_cycle c.kind c.byte))) e ∙ ap (λ b. b || false) rests) was)

pub rows_ready : (g : Parts) (targets : ℕ) (past : List Item) (ce : ℕ) → g.luns ≡ 1 → is_legal g targets past ≡ true → RowReady g (facts_of (tail past ce)) (is_busy g past (at_lun ce 0))
rows_ready g targets [] ce one legal = unnamed g (facts_of []) _ refl
rows_ready g targets (Cyc c ∷ past) ce one legal =
    let here = and_parts (is_permitted g targets past (Cyc c)) (is_legal g targets past) legal in
    cycle_rows g targets past ce c one (permitted_none g targets past (Cyc c) here.0) (rows_ready g targets past ce one here.1)
rows_ready g targets (Rdy x lun fail ∷ past) ce one legal =
    same_ready g (facts_of (tail past ce)) (is_busy g past (at_lun ce 0)) _
    (λ rests. ready_busy g past x lun fail (at_lun ce 0) ∙ ap (cond (x == ce && lun == 0) false) rests ∙ either (x == ce && lun == 0))
    (rows_ready g targets past ce one (and_parts (is_permitted g targets past (Rdy x lun fail)) (is_legal g targets past) legal).1)
  where
    either : (b : Bool) → cond b false false ≡ false
    either true = refl
    either false = refl
rows_ready g targets (Ard x lun fail ∷ past) ce one legal =
    same_ready g (facts_of (tail past ce)) (is_busy g past (at_lun ce 0)) _ (λ rests. array_ready_busy g past x lun fail (at_lun ce 0) ∙ rests)
    (rows_ready g targets past ce one (and_parts (is_permitted g targets past (Ard x lun fail)) (is_legal g targets past) legal).1)

-- ---- the closer

read_named : (o : Option Opening) → opened (λ c n. closes c ReadConfirm && n == address_cycles c) o ≡ true → opened (λ c n. is_read c && n == 5) o ≡ true
read_named None h = cc
read_named (Some o) h = at o.opener o.addresses h
  where
    at : (c : Command) (n : ℕ) → (closes c ReadConfirm && n == address_cycles c) ≡ true → (is_read c && n == 5) ≡ true
    at Read n h = h
    at c n h = cc

erase_named : (o : Option Opening) → opened (λ c n. closes c BlockEraseConfirm && n == address_cycles c) o ≡ true → opened (λ c n. is_block_erase c && n == 3) o ≡ true
erase_named None h = cc
erase_named (Some o) h = at o.opener o.addresses h
  where
    at : (c : Command) (n : ℕ) → (closes c BlockEraseConfirm && n == address_cycles c) ≡ true → (is_block_erase c && n == 3) ≡ true
    at BlockErase n h = h
    at c n h = cc

-- it closes a read, a program or an erase
abbrev pub closes_work : Command → Bool
closes_work ReadConfirm = true
closes_work BlockEraseConfirm = true
closes_work ProgramConfirm = true
closes_work c = false

row_wanted : (t : TailFacts) (c : Command) → closes_work c ≡ true → wants_command t c ≡ true → names_row t ≡ true
row_wanted t ReadConfirm h w = or_left (names_read t) _ (read_named t.opening w)
row_wanted t BlockEraseConfirm h w = or_right (names_read t) _ (or_left (names_erase t) _ (erase_named t.opening w))
row_wanted t ProgramConfirm h w = program_named t (or_left (takes_data t.phase) (wants_column t.phase) w)
row_wanted t c h w = cc

closer_starts : (g : Parts) (t : TailFacts) (la : Latch) (c : Command) → closes_work c ≡ true → wants_command t c ≡ true → names_lun g (row t) 0 ≡ true → starts (cycle_effect g t la (CommandCycle c) 0) ≡ true
closer_starts g t la ReadConfirm h w n = rw (w, n) refl
closer_starts g t la BlockEraseConfirm h w n = rw (w, n) refl
closer_starts g t la ProgramConfirm h w n = rw (w, n) refl
closer_starts g t la c h w n = cc

closes_opens : (g : Parts) (c : Command) → closes_work c ≡ true → opens_here g c ≡ false
closes_opens g ReadConfirm h = refl
closes_opens g BlockEraseConfirm h = refl
closes_opens g ProgramConfirm h = refl
closes_opens g c h = cc

-- a LUN that doesn't work, and that a cycle starts
pub record Started (g : Parts) (past : List Item) (ce : ℕ) (c : Command) : Type 0 where
  pub rested : is_busy g past (at_lun ce 0) ≡ false
  pub started : starts_by g past (at_lun ce 0) (CommandCycle c) ≡ true

pub closer_begins : (g : Parts) (targets : ℕ) (past : List Item) (ce : ℕ) (c : Command) → g.luns ≡ 1 → is_legal g targets past ≡ true → closes_work c ≡ true →
    KeepsRules g (facts_of (tail past ce)) (luns_of g past ce) (CommandCycle c) → Started g past ce c
closer_begins g targets past ce c one legal closes' keeps =
    let wanted = wanted_command g (facts_of (tail past ce)) c keeps.f6 (closes_opens g c closes') in
    let named = row_wanted (facts_of (tail past ce)) c closes' wanted in
    let ready = rows_ready g targets past ce one legal in
    record { rested = ready.ready named; started = closer_starts g (facts_of (tail past ce)) (latch_alone g past (at_lun ce 0)) c closes' wanted (ready.named named) }
