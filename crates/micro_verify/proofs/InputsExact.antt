-- Inputs are exact: at which one a `put` stops, and what it leaves.
use Rattle.std.proofs.lemmas.Bool.Decides.{nat_tests}
use Rattle.std.proofs.Common.{◌≡◌, ℕ, zero, suc, ◌+◌, ◌-◌, ◌≤◌, ◌<◌, ◌==◌, Bool, true, false, ◌&&◌, ◌||◌, cond, ltb, nat_le, List, [], ◌∷◌, ◌++◌, Option, Some, None, refl, sym, ap, ◌∙◌, subst, arith, replicate, length, take, not}
use Rattle.std.proofs.lemmas.Bool.{not-false, not-true}
use Rattle.nand_geometry.specs.declared.parts.Parts.{Parts}
use Rattle.nand_geometry.specs.Limits.{page_len}
use Rattle.onfi_cycle.specs.declared.data_phase.DataPhase.TheVariants.{Inputs, FirstColumn, SecondColumn}
use Rattle.onfi_cycle.specs.declared.forbidden.Forbidden.{Forbidden}
use Rattle.onfi_cycle.specs.declared.forbidden.Forbidden.TheVariants.{InputMisplaced, ColumnOutside}
use Rattle.onfi_cycle.specs.declared.item.Kind.TheVariants.{Din}
use Rattle.onfi_cycle.specs.declared.tail_facts.TailFacts.{TailFacts}
use Rattle.onfi_cycle.specs.declared.target_cycle.TargetCycle.TheVariants.{InputCycle}
use Rattle.onfi_cycle.specs.LunView.{LunView}
use Rattle.onfi_cycle.specs.Command.{closes, address_cycles, is_opener, takes_address}
use Rattle.onfi_cycle.specs.Sequence.{facts_after, is_proper_beginning, takes_inputs, wants_column, opened, input_column}
use Rattle.onfi_cycle.specs.Rules.{breaks_command_unknown, breaks_sequence_open, breaks_several_luns, breaks_no_column_to_change, breaks_command_misplaced, breaks_address_misplaced, breaks_row_outside, breaks_lun_busy, breaks_queue_clash, breaks_input_misplaced, breaks_no_sole_driver, breaks_data_not_ready, breaks_column_outside, breaks_cache_read_misplaced, breaks_cache_program_misplaced, breaks_copyback_misplaced, breaks_plane_not_held}
use Rattle.onfi_cycle.specs.Channel.{Channel}
use Rattle.micro_word.specs.declared.word.Word.TheVariants.{Put}
use Rattle.micro_word.specs.Text.{Microprogram}
use Rattle.micro_claims.specs.declared.refusal.Reason.{Reason}
use Rattle.micro_claims.specs.declared.refusal.Reason.TheVariants.{CycleForbidden, BufferPassed, ColumnTooLarge, OverBudget}
use Rattle.micro_program.specs.Program.{Job, place_now, index_now, buffer_now, fits}
use Rattle.micro_program.specs.Moves.{Move, Give, gives, part, moves}
use Rattle.micro_claims.specs.declared.state.State.{State}
use Rattle.micro_claims.specs.declared.place.Place.{Place}
use Rattle.micro_claims.specs.declared.place.Place.TheVariants.{Closed, After, InData, InColumn, InFeatures, Unknown}
use Rattle.micro_claims.specs.Spans.{Span}
use Rattle.micro_claims.specs.State.{bounds_of}
use Rattle.micro_claims.specs.Spans.{greatest_bound, bound_plus, is_at_most, plus}
use Rattle.micro_claims.specs.Against.{is_in_features, takes_inputs_at, span_bound, input_past}
use Rattle.micro_claims.specs.Leaves.{paid, with_registers, with_target, span_more, place_moved, put_leaves_at, put_leaves}
use Rattle.micro_claims.specs.Reasons.{reason_against, breaks_cycle_forbidden, breaks_address_unaligned, breaks_handover_in_sequence, breaks_buffer_passed, breaks_row_or_plane_outside, breaks_column_too_large, breaks_no_status, breaks_ends_too_soon, breaks_command_not_allowed}
use Rattle.micro_claims.specs.Accepts.{state_after}
use Rattle.micro_program.proofs.Costs.{buffer_len}
use Rattle.micro_claims.proofs.Fits.{Address, InProgram, RowIs, has_column, has_row}
use Rattle.micro_claims.proofs.Sounding.{no_reasons}
use Rattle.micro_verify.specs.Lazy.{lone_job, Run}
use Rattle.micro_verify.specs.Cause.{Cause, WordStops, is_of_cycle_forbidden, is_of_column_too_large}
use Rattle.micro_verify.proofs.Lone.{Lone, IsAlone, IsLone, MovesPass, lone_after, lone_behind, judged, stops_there}
use Rattle.micro_verify.proofs.Mirrors.{Mirrors, LunMirror, PlaceMirror, InInputs, BoundIs, NameIs, begun, kept_plus, exact_test, shows_of}
use Rattle.micro_verify.proofs.Told.{wants_by}
use Rattle.micro_verify.proofs.Causes.{Goes, ExactWord, IsFit, reason_holds, reason_is, cost_cause, lowest_column_too_large}
use Rattle.micro_verify.proofs.WordsExact.{goes_by, registers_moved}

-- 1. what an input is judged

astray : (g : Parts) (c : Lone) (byte : ℕ) → takes_inputs c.facts.phase ≡ false → judged g c (InputCycle byte) ≡ Some InputMisplaced
unfolding breaks_command_unknown breaks_sequence_open breaks_several_luns breaks_no_column_to_change breaks_command_misplaced breaks_address_misplaced breaks_row_outside breaks_lun_busy breaks_queue_clash breaks_input_misplaced breaks_no_sole_driver breaks_data_not_ready breaks_column_outside breaks_cache_read_misplaced breaks_cache_program_misplaced breaks_copyback_misplaced breaks_plane_not_held
astray g c byte h = rw h refl

in_place : (g : Parts) (c : Lone) (byte : ℕ) → c.facts.phase ≡ Inputs → judged g c (InputCycle byte) ≡ cond (nat_le (page_len g) (input_column c.facts)) (Some ColumnOutside) None
unfolding breaks_command_unknown breaks_sequence_open breaks_several_luns breaks_no_column_to_change breaks_command_misplaced breaks_address_misplaced breaks_row_outside breaks_lun_busy breaks_queue_clash breaks_input_misplaced breaks_no_sole_driver breaks_data_not_ready breaks_column_outside breaks_cache_read_misplaced breaks_cache_program_misplaced breaks_copyback_misplaced breaks_plane_not_held
in_place g c byte h = rw h refl

-- inputs are taken where the claim is in data
or_middle : (a b c : Bool) → (a || b || c) ≡ false → b ≡ false
or_middle true b c h = cc
or_middle false true c h = cc
or_middle false false c h = refl

no_inputs : (b : Bool) → takes_inputs (cond b FirstColumn SecondColumn) ≡ false
no_inputs true = refl
no_inputs false = refl

inputs_there : (n : ℕ) (p : Place) (a : Address) (t : TailFacts) → PlaceMirror p a t → takes_inputs_at n p ≡ takes_inputs t.phase
inputs_there k Closed a t is = sym (or_middle (opened is_proper_beginning t.opening) (takes_inputs t.phase) (wants_column t.phase) is.closed)
inputs_there k (After o n) a t is = sym (ap takes_inputs (begun o n a t is).phase)
inputs_there k InData a t is = sym (ap takes_inputs is.program.phase)
inputs_there k (InColumn n) a t is = sym (ap takes_inputs is.program.phase ∙ no_inputs (n == 0))
inputs_there k (InFeatures n) a t is = absurd is
inputs_there k Unknown a t is = absurd is

-- 2. so many inputs

pub inputs_facts : (a : Address) (t : TailFacts) → t.opening ≡ None → InProgram a Inputs t → InInputs a t
inputs_facts a t o p = record { program = p; address = λ b i. opened (λ c n. is_opener c && ltb n (address_cycles c) && takes_address c b) (o i) || wants_column (p.phase i); command = λ d e. (wants_by t d).1 e ∙ ap (opened (λ c n. closes c d && n == address_cycles c)) o }

one_input : (a : Address) (t : TailFacts) (b : ℕ) → InProgram a Inputs t → InInputs a (facts_after (InputCycle b) t)
one_input a t b p = inputs_facts a (facts_after (InputCycle b) t) (rw p.begun refl) (record { phase = rw (p.begun, p.phase) refl; row = rw p.begun p.row; begun = rw p.begun refl })

input_more : (t : TailFacts) (b : ℕ) → t.is_empty ≡ false → input_column (facts_after (InputCycle b) t) ≡ input_column t + 1
input_more t b e = rw e (omega arith)

-- an input of a program leaves the LUN as it is
calm_view : (g : Parts) (c : Lone) (byte : ℕ) → c.facts.phase ≡ Inputs → (lone_behind g (InputCycle byte) c).view ≡ c.view
calm_view g c byte h = rw h refl

record InputsPass (g : Parts) (a : Address) (bytes : List ℕ) (c : Lone) : Type 0 where
  pass : MovesPass g (gives Din bytes) c
  view_is : (lone_after g (gives Din bytes) c).view ≡ c.view
  program : InInputs a (lone_after g (gives Din bytes) c).facts
  column : input_column (lone_after g (gives Din bytes) c).facts ≡ input_column c.facts + length bytes

inputs_pass : (g : Parts) (a : Address) (bytes : List ℕ) (c : Lone) → InInputs a c.facts → input_column c.facts + length bytes ≤ page_len g → InputsPass g a bytes c
inputs_pass g a [] c p inside = record { pass = tt; view_is = refl; program = p; column = omega arith }
inputs_pass g a (b ∷ bytes) c p inside =
    let next : Lone = lone_behind g (InputCycle b) c in
    let more = input_more c.facts b p.program.begun in
    let rest = inputs_pass g a bytes next (one_input a c.facts b p.program) (omega (arith, more, inside)) in
    let low : nat_le (page_len g) (input_column c.facts) ≡ false = grind (arith, nat_tests, inside) in
    let column = rest.column in
    record {
      pass = (in_place g c b p.program.phase ∙ ap (λ (x : Bool). cond x (Some ColumnOutside) None) low, rest.pass);
      view_is = rest.view_is ∙ calm_view g c b p.program.phase;
      program = rest.program;
      column = omega (arith, column, more);
    }

-- 3. the bytes

part_length : (from n : ℕ) (xs : List ℕ) → from + n ≤ length xs → length (part from n xs) ≡ n
part_length zero zero xs h = refl
part_length zero (suc n) [] h = absurd (omega (arith, h))
part_length zero (suc n) (x ∷ xs) h = ap suc (part_length zero n xs (omega (arith, h)))
part_length (suc m) n [] h = let e : suc m + n ≤ 0 = h in absurd (omega (arith, e))
part_length (suc m) n (x ∷ xs) h = part_length m n xs (omega (arith, h))

-- the bytes up to one of them
record Cut (m : ℕ) (bytes : List ℕ) : Type 0 where
  byte : ℕ
  rest : List ℕ
  parts : gives Din bytes ≡ gives Din (take m bytes) ++ (Give Din byte ∷ gives Din rest)
  few : length (take m bytes) ≡ m

cut : (m : ℕ) (bytes : List ℕ) → m < length bytes → Cut m bytes
cut m [] h = absurd (omega (arith, h))
cut zero (b ∷ bytes) h = record { byte = b; rest = bytes; parts = refl; few = refl }
cut (suc m) (b ∷ bytes) h =
    let later = cut m bytes (omega (arith, h)) in
    record { byte = later.byte; rest = later.rest; parts = ap (λ (ms : List Move). Give Din b ∷ ms) later.parts; few = ap suc later.few }

-- the bytes of the word, where they are inside the buffer
record Bytes (text : Microprogram) (g : Parts) (r : Run) (n : ℕ) : Type 0 where
  bytes : List ℕ
  count : length bytes ≡ n
  is_moved : moves g (lone_job g text) r.done (Put n) ≡ Some (gives Din bytes)

length_replicate : (n x : ℕ) → length (replicate n x) ≡ n
length_replicate zero x = refl
length_replicate (suc n) x = ap suc (length_replicate n x)

bytes_there : (g : Parts) (text : Microprogram) (r : Run) (n : ℕ) → fits text.buffer (place_now r.done) (Put n) ≡ true → Bytes text g r n
bytes_there g text r n h =
    let whole : length (buffer_now (replicate text.buffer 0) r.done) ≡ text.buffer = buffer_len (replicate text.buffer 0) r.done ∙ length_replicate text.buffer 0 in
    let there : nat_le (place_now r.done + n) (length (buffer_now (replicate text.buffer 0) r.done)) ≡ true = ap (nat_le (place_now r.done + n)) whole ∙ h in
    let inside : place_now r.done + n ≤ length (buffer_now (replicate text.buffer 0) r.done) = grind (arith, nat_tests, there) in
    record {
      bytes = part (place_now r.done) n (buffer_now (replicate text.buffer 0) r.done);
      count = part_length (place_now r.done) n (buffer_now (replicate text.buffer 0) r.done) inside;
      is_moved = rw there refl;
    }

put_stops : (s : Channel) (text : Microprogram) (r : Run) (c : Lone) (n m : ℕ) (sort : Forbidden → Bool) (b : Bytes text s.geometry r n) (x : Cut m b.bytes) → IsAlone s → IsLone s r.past c → MovesPass s.geometry (gives Din (take m b.bytes)) c → (rule : Forbidden) → judged s.geometry (lone_after s.geometry (gives Din (take m b.bytes)) c) (InputCycle x.byte) ≡ Some rule → sort rule ≡ true → WordStops s (lone_job s.geometry text) r (Put n) sort
put_stops s text r c n m sort b x k is pass rule breaks sorted =
    record {
      moved = gives Din (take m b.bytes) ++ (Give Din x.byte ∷ gives Din x.rest);
      is_moved = b.is_moved ∙ ap (λ (ms : List Move). Some ms) x.parts;
      stops = stops_there s (gives Din (take m b.bytes)) (Give Din x.byte) (gives Din x.rest) r.past c sort k is pass rule breaks sorted;
    }

-- 4. put

-- in the data of a program
record InPut (g : Parts) (j : Job) (v : State) (r : Run) (c : Lone) : Type 0 where
  address : Address
  inputs : InInputs address c.facts
  row : RowIs g j address
  named : NameIs g address (index_now 0 r.done) v.target.named
  column : BoundIs (input_column c.facts) v.target.column
  tail : v.target.tail ≡ InData

in_put : (g : Parts) (text : Microprogram) (v : State) (r : Run) (c : Lone) → Mirrors g (lone_job g text) v r.done c → (n : ℕ) → takes_inputs_at n v.target.tail ≡ true → InPut g (lone_job g text) v r c
in_put g text v r c m n h = at m.tail.place m.tail.single m.tail.is m.tail.column m.tail.row m.tail.named (sym (ap (takes_inputs_at n) m.tail.single) ∙ h)
  where
    at : (p : Place) → v.target.tail ≡ p → PlaceMirror p m.tail.address c.facts → (has_column p ≡ true → BoundIs (input_column c.facts) v.target.column) → (has_row p ≡ true → RowIs g (lone_job g text) m.tail.address) → (has_row p ≡ true → NameIs g m.tail.address (index_now 0 r.done) v.target.named) → takes_inputs_at n p ≡ true → InPut g (lone_job g text) v r c
    at InData single is column row named h = record { address = m.tail.address; inputs = is; row = row refl; named = named refl; column = column refl; tail = single }
    at Closed single is column row named h = cc
    at (After o n) single is column row named h = cc
    at (InColumn n) single is column row named h = cc
    at (InFeatures n) single is column row named h = absurd is
    at Unknown single is column row named h = cc

column_test : (o : Option Span) (column n limit : ℕ) → limit ≤ greatest_bound → BoundIs column o → is_at_most (bound_plus (span_bound o) n) limit ≡ nat_le (column + n) limit
column_test None column n limit low h = absurd h
column_test (Some k) column n limit low h = ap (λ (q : Option ℕ). is_at_most (bound_plus q n) limit) h ∙ exact_test column n limit low

column_on : (o : Option Span) (column n : ℕ) → BoundIs column o → BoundIs (column + n) (span_more n o)
column_on None column n h = absurd h
column_on (Some k) column n h = ap (λ (q : Option ℕ). bound_plus q n) h ∙ kept_plus column n

pub put_exact : (s : Channel) (text : Microprogram) (v : State) (r : Run) (c : Lone) (n : ℕ) → 1 ≤ n → IsFit s text → IsLone s r.past c → Mirrors s.geometry (lone_job s.geometry text) v r.done c → ExactWord s text v r (Put n)
unfolding state_after breaks_cycle_forbidden breaks_address_unaligned breaks_handover_in_sequence breaks_buffer_passed breaks_row_or_plane_outside breaks_column_too_large breaks_no_status breaks_ends_too_soon breaks_command_not_allowed
put_exact s text v r c n some k is m =
    record {
      cause = λ reason e. by reason (reason_is s.geometry text v (Put n) reason e) e;
      goes = λ e f. let clear = no_reasons s.geometry text v (Put n) e in goes (in_put g text v r c m n (not-false _ clear.no_cycle_forbidden)) (bytes_there g text r n (sym place_test ∙ not-false _ clear.no_buffer_passed)) clear.no_column_too_large;
    }
  where
    g : Parts
    g = s.geometry

    j : Job
    j = lone_job g text

    place_test : is_at_most (bound_plus v.registers.place.hi n) text.buffer ≡ nat_le (place_now r.done + n) text.buffer
    place_test = ap (λ (o : Option ℕ). is_at_most (bound_plus o n) text.buffer) m.registers.place ∙ exact_test (place_now r.done) n text.buffer k.buffer

    page_small : page_len g ≤ greatest_bound
    page_small = let x = k.alone.is_channel.limits.page_bytes_most in let y = k.alone.is_channel.limits.spare_bytes_most in omega (arith, x, y)

    page_test : InPut g j v r c → is_at_most (bound_plus (span_bound v.target.column) n) (page_len g) ≡ nat_le (input_column c.facts + n) (page_len g)
    page_test p = column_test v.target.column (input_column c.facts) n (page_len g) page_small p.column

    stops_astray : takes_inputs_at n v.target.tail ≡ false → Bytes text g r n → WordStops s j r (Put n) is_of_cycle_forbidden
    stops_astray h b =
        let count = b.count in
        let x = cut 0 b.bytes (omega (arith, count, some)) in
        put_stops s text r c n 0 is_of_cycle_forbidden b x k.alone is tt InputMisplaced (astray g c x.byte (sym (ap (takes_inputs_at n) m.tail.single ∙ inputs_there n m.tail.place m.tail.address c.facts m.tail.is) ∙ h)) refl

    -- in the data of a program the page is asked
    past_is : InPut g j v r c → input_past g v n ≡ not (is_at_most (bound_plus (span_bound v.target.column) n) (page_len g))
    past_is p = ap (λ (q : Place). not (is_in_features q) && not (is_at_most (bound_plus (span_bound v.target.column) n) (page_len g))) p.tail

    stops_past : InPut g j v r c → Bytes text g r n → input_past g v n ≡ true → WordStops s j r (Put n) is_of_column_too_large
    stops_past p b h = begins (nat_le (page_len g) (input_column c.facts)) refl
      where
        count : length b.bytes ≡ n
        count = b.count

        over : nat_le (input_column c.facts + n) (page_len g) ≡ false
        over = sym (page_test p) ∙ not-true _ (sym (past_is p) ∙ h)

        begins : (x : Bool) → nat_le (page_len g) (input_column c.facts) ≡ x → WordStops s j r (Put n) is_of_column_too_large
        begins true e =
            let x = cut 0 b.bytes (omega (arith, count, some)) in
            put_stops s text r c n 0 is_of_column_too_large b x k.alone is tt ColumnOutside (in_place g c x.byte p.inputs.program.phase ∙ ap (λ (y : Bool). cond y (Some ColumnOutside) None) e) refl
        begins false e =
            let low : input_column c.facts < page_len g = grind (arith, nat_tests, e) in
            let few : page_len g - input_column c.facts < n = grind (arith, nat_tests, over, low) in
            let x = cut (page_len g - input_column c.facts) b.bytes (omega (arith, count, few)) in
            let taken = x.few in
            let pass = inputs_pass g p.address (take (page_len g - input_column c.facts) b.bytes) c p.inputs (omega (arith, taken, low)) in
            let column = pass.column in
            let full : nat_le (page_len g) (input_column (lone_after g (gives Din (take (page_len g - input_column c.facts) b.bytes)) c).facts) ≡ true = let most : page_len g ≤ input_column (lone_after g (gives Din (take (page_len g - input_column c.facts) b.bytes)) c).facts = omega (arith, column, taken, low) in grind (arith, nat_tests, most) in
            put_stops s text r c n (page_len g - input_column c.facts) is_of_column_too_large b x k.alone is pass.pass ColumnOutside (in_place g (lone_after g (gives Din (take (page_len g - input_column c.facts) b.bytes)) c) x.byte pass.program.program.phase ∙ ap (λ (y : Bool). cond y (Some ColumnOutside) None) full) refl

    by : (reason : Reason) → reason_holds g text v (Put n) reason ≡ true → reason_against g (bounds_of text) v (Put n) ≡ Some reason → Cause s j r (Put n) reason
    by CycleForbidden h e = λ lacks. stops_astray (not-true _ h) (bytes_there g text r n (not-false _ lacks))
    by BufferPassed h e = sym place_test ∙ not-true _ h
    by ColumnTooLarge h e = let low = lowest_column_too_large g text v (Put n) e in stops_past (in_put g text v r c m n (not-false _ low.no_cycle_forbidden)) (bytes_there g text r n (sym place_test ∙ not-false _ low.no_buffer_passed)) h
    by OverBudget h e = cost_cause g v r (Put n) text.budget k.budget m.registers h
    by _ h e = cc

    left : InPut g j v r c → put_leaves v n ≡ place_moved n (with_target v (record v.target { column = span_more n v.target.column }))
    left p = ap (put_leaves_at v n) p.tail

    goes : InPut g j v r c → Bytes text g r n → input_past g v n ≡ false → Goes s text (state_after g v (Put n)) r (Put n)
    goes p b past =
        let count = b.count in
        let inside : nat_le (input_column c.facts + n) (page_len g) ≡ true = sym (page_test p) ∙ not-false _ (sym (past_is p) ∙ past) in
        let most : input_column c.facts + length b.bytes ≤ page_len g = grind (arith, nat_tests, inside, count) in
        let pass = inputs_pass g p.address b.bytes c p.inputs most in
        goes_by s text (state_after g v (Put n)) r (Put n) (gives Din b.bytes) r.past c k.alone b.is_moved refl is pass.pass
        (λ answer. subst (λ (x : State). Mirrors g j (with_registers x (paid n x.registers)) (record { word = Put n; answer = answer } ∷ r.done) (lone_after g (gives Din b.bytes) c)) (sym (left p)) (record {
          registers = registers_moved g v.registers (plus v.registers.place n) v.registers.polled r.done (Put n) answer (record { column = λ n. refl; plane = λ n. refl; index = λ b n. refl }) (ap (λ (o : Option ℕ). bound_plus o n) m.registers.place ∙ kept_plus (place_now r.done) n) m.registers;
          tail = record {
            place = InData;
            single = p.tail;
            address = p.address;
            is = pass.program;
            now = λ e. cc;
            column = λ e. subst (λ (q : ℕ). BoundIs q (span_more n v.target.column)) (sym (pass.column ∙ ap (λ (q : ℕ). input_column c.facts + q) count)) (column_on v.target.column (input_column c.facts) n p.column);
            row = λ e. p.row;
            named = λ e. p.named;
            base = refl;
            changes = λ e. cc;
          };
          shows = m.shows ∙ ap (λ (w : LunView). shows_of w.latch) (sym pass.view_is);
          lun = subst (λ (w : LunView). LunMirror g v.lun (index_now 0 r.done) w) (sym pass.view_is) m.lun;
          along = m.along;
        }))
