-- What the addresses of an opener make of the tail.
use Rattle.std.proofs.lemmas.Bool.Decides.{nat_tests}
use Rattle.std.proofs.Common.{◌≡◌, ℕ, ◌+◌, ◌-◌, ◌/◌, ◌%◌, ◌≤◌, ◌==◌, Bool, true, false, ◌&&◌, ◌||◌, cond, not, ltb, nat_le, List, Option, Some, refl, sym, ap, ◌∙◌, subst, arith, take, length, eqb-true, eq-eqb}
use Rattle.std.proofs.lemmas.Bool.{not-false, and_parts, and_from, or_parts}
use Rattle.nand_geometry.specs.declared.parts.Parts.{Parts}
use Rattle.onfi_cycle.specs.declared.command.Command.{Command}
use Rattle.onfi_cycle.specs.declared.command.Command.TheVariants.{Read, ChangeReadColumn, ChangeReadColumnEnhanced, BlockErase, PageProgram, ChangeWriteColumn}
use Rattle.onfi_cycle.specs.declared.queued.Queued.{Queued}
use Rattle.onfi_cycle.specs.Command.{address_cycles}
use Rattle.onfi_cycle.specs.Sequence.{input_column}
use Rattle.onfi_cycle.specs.Channel.{Channel}
use Rattle.micro_word.specs.Text.{Microprogram}
use Rattle.micro_claims.specs.declared.planes.Planes.{Planes}
use Rattle.micro_claims.specs.declared.state.State.{State}
use Rattle.micro_claims.specs.declared.drift.Drift.{Drift}
use Rattle.micro_claims.specs.declared.page_range.PageRange.{PageRange}
use Rattle.micro_claims.specs.declared.place.Place.TheVariants.{After, InData}
use Rattle.micro_claims.specs.declared.queued_rows.QueuedRows.{QueuedRows}
use Rattle.micro_claims.specs.declared.queued_rows.QueuedRows.TheVariants.{NoRows, SomeRows, SomeReads, AnyRows}
use Rattle.micro_claims.specs.Spans.{greatest_bound, kept, copied}
use Rattle.micro_claims.specs.Against.{first_address, same_test, is_read, is_erase, queue_refuses}
use Rattle.micro_claims.specs.Planes.{share_a_plane}
use Rattle.onfi_cycle.specs.LunView.{LunView}
use Rattle.onfi_cycle.specs.Rules.{may_change_column}
use Rattle.micro_claims.specs.Leaves.{greatest_page_of, name_now, goes_along, opener_leads_to, address_leads_to, target_after_addresses}
use Rattle.micro_program.specs.Program.{Job, Done, column_now, index_now}
use Rattle.micro_claims.proofs.Fits.{Address, bytes_of, opener_facts, facts_behind, takes_column, takes_row, has_column, has_row, is_place, now_of}
use Rattle.micro_claims.proofs.Addressing.{AddressNow, of_now, carried_is}
use Rattle.micro_claims.proofs.AddressSteps.{carried}
use Rattle.micro_claims.proofs.SoundAddress.{read_column, program_column, column_column, enhanced_column, copy_column}
use Rattle.micro_verify.proofs.AddressesNow.{carries_registers}
use Rattle.micro_verify.proofs.AddressTests.{takes_first}
use Rattle.micro_verify.specs.Lazy.{lone_job, Run}
use Rattle.micro_verify.proofs.Lone.{Lone}
use Rattle.micro_verify.proofs.Mirrors.{RegistersMirror, TailMirror, NameMirror, NameIs, BoundIs, RowsMirror, InInputs, greatest_index, is_read_column, opens_in_base}
use Rattle.micro_verify.proofs.Told.{wants_by}
use Rattle.micro_verify.proofs.AddressesJudged.{view_at, cursor}
use Rattle.micro_verify.proofs.AddressStops.{AtOpener}
use Rattle.micro_verify.proofs.OpenerStops.{AddressAt, Behind}

-- 1. the row that is named

greatest_is : (p index : ℕ) (r : PageRange) (lo : ℕ) (hi : Option ℕ) → r ≡ record { lo = index % p; hi = index % p } → lo ≡ index → hi ≡ Some index → greatest_page_of p r lo hi ≡ index % p
greatest_is p index r lo hi page low high = (λ i. greatest_page_of p (page i) (low i) (high i)) ∙ either (index / p == index / p && ltb (index % p) (index % p) && nat_le index greatest_bound) (index % p)
  where
    either : (b : Bool) (x : ℕ) → cond b x x ≡ x
    either true x = refl
    either false x = refl

pub named_exact : (g : Parts) (j : Job) (v : State) (done : List Done) (from count : ℕ) (a : AddressNow g j done from count) → j.base ≡ 0 → length done ≤ 32768 → RegistersMirror g v.registers done → NameMirror g (record { column = column_now done; index = index_now 0 done; plane = (of_now g j done from count a).plane; r1 = a.r1; r2 = a.r2; r3 = a.r3 }) (index_now 0 done) (name_now g v.registers)
named_exact g j v done from count a base many m =
    record {
      index = record { lo = m.index.lo; hi = m.index.hi };
      index_low = low;
      planes = m.planes;
      plane_low = m.plane_low;
      page = greatest_is g.pages (index_now 0 done) v.registers.page v.registers.index.lo v.registers.index.hi m.page (m.index.lo ∙ (rw kept_low refl)) (m.index.hi ∙ (rw kept_low refl));
      drift = ap (λ (n : ℕ). Some (drift_of_both n)) (let e : 0 ≡ index_now 0 done - index_now 0 done = omega arith in e);
    }
  where
    low : index_now 0 done ≤ greatest_index
    low = let most = m.index_low in omega (arith, most, many)

    kept_low : nat_le (index_now 0 done) greatest_bound ≡ true
    kept_low = grind (arith, nat_tests, low)

    drift_of_both : ℕ → Drift
    drift_of_both n = record { ahead = n; behind = n }

-- it goes along with the queue that doesn't refuse it
pub along_now : (g : Parts) (now : ℕ) (q : QueuedRows) (queue : List Queued) (planes : Planes) (o : Command) → RowsMirror g now q queue → queue_refuses q planes o ≡ false → goes_along (is_erase o) (Some (record { ahead = 0; behind = 0 })) q ≡ true
along_now g now NoRows queue planes o m clear = refl
along_now g now AnyRows queue planes o m clear = cc
along_now g now (SomeReads queued surely d) queue planes o m clear = absurd m
along_now g now (SomeRows kind queued d) queue planes o m clear =
    let three = or_parts (is_read o || not (same_test kind (is_erase o)) || not (d.ahead == d.behind)) (share_a_plane planes queued) clear in
    let two = or_parts (is_read o || not (same_test kind (is_erase o))) (not (d.ahead == d.behind)) three.0 in
    let one = or_parts (is_read o) (not (same_test kind (is_erase o))) two.0 in
    let same : d.ahead ≡ d.behind = eqb-true d.ahead d.behind (not-false _ two.1) in
    let ahead : d.ahead ≡ now - m.index = ap (λ (x : Drift). x.ahead) m.drift in
    let behind : d.behind ≡ m.index - now = ap (λ (x : Drift). x.behind) m.drift in
    and_from (same_test (is_erase o) kind) (0 == d.ahead && 0 == d.behind) (turned kind (is_erase o) (not-false _ one.1))
    (and_from (0 == d.ahead) (0 == d.behind) (eq-eqb 0 d.ahead (omega (arith, same, ahead, behind))) (eq-eqb 0 d.behind (omega (arith, same, ahead, behind))))
  where
    turned : (a b : Bool) → same_test a b ≡ true → same_test b a ≡ true
    turned true true h = refl
    turned true false h = cc
    turned false true h = cc
    turned false false h = refl

-- 2. the column

input_is : (o : Command) (a : Address) (m : ℕ) → takes_column o ≡ true → 2 ≤ m → m ≤ address_cycles o → input_column (facts_behind (opener_facts o) (take m (bytes_of o a))) ≡ carried a + 0
input_is Read a m takes low high = read_column a m low high
input_is PageProgram a m takes low high = program_column a m low high
input_is ChangeWriteColumn a m takes low high = copy_column a m low high
input_is ChangeReadColumn a m takes low high = column_column a m low high
input_is ChangeReadColumnEnhanced a m takes low high = enhanced_column a m low high
input_is _ a m takes low high = cc

pub column_led : (s : Channel) (text : Microprogram) (v : State) (r : Run) (c : Lone) (from count : ℕ) (o : Command) (n : ℕ) → AddressAt s text v r c from count → (x : AtOpener s text r c from count o n) → takes_column o ≡ true → 2 ≤ n + count → n + count ≤ address_cycles o → (has_column (After o n) ≡ true → BoundIs (input_column c.facts) v.target.column) → BoundIs (input_column (facts_behind (opener_facts o) (take (n + count) (bytes_of o (of_now s.geometry (lone_job s.geometry text) r.done from count x.now))))) (target_after_addresses s.geometry v from count).column
column_led s text v r c from count o n w x takes both most old = at (nat_le from 1 && nat_le 2 (from + count)) refl
  where
    a : Address
    a = of_now s.geometry (lone_job s.geometry text) r.done from count x.now

    begins : from ≡ n
    begins = let e = x.begins in let first = takes_first o takes in omega (arith, e, first)

    behind : ℕ
    behind = input_column (facts_behind (opener_facts o) (take (n + count) (bytes_of o a)))

    behind_is : behind ≡ carried a + 0
    behind_is = input_is o a (n + count) takes both most

    whole : carried a + 0 ≡ column_now r.done
    whole = let e : carried a ≡ column_now r.done = carried_is (column_now r.done) w.mirrors.registers.column_low in omega (arith, e)

    at : (b : Bool) → (nat_le from 1 && nat_le 2 (from + count)) ≡ b → BoundIs behind (cond b (Some (copied v.registers.column)) v.target.column)
    at true e = w.mirrors.registers.column.hi ∙ ap kept (sym (behind_is ∙ whole))
    at false e =
        let two : 2 ≤ n = later (nat_le from 1) refl e in
        let some : nat_le 2 n ≡ true = grind (arith, nat_tests, two) in
        subst (λ (k : ℕ). BoundIs k v.target.column) (ap (λ (y : Lone). input_column y.facts) x.here ∙ (input_is o a n takes two (omega (arith, most)) ∙ sym behind_is)) (old (and_from (takes_column o) (nat_le 2 n) takes some))
      where
        later : (b : Bool) → nat_le from 1 ≡ b → (b && nat_le 2 (from + count)) ≡ false → 2 ≤ n
        later true f e = let high : nat_le 2 (from + count) ≡ true = grind (arith, nat_tests, begins, both) in let both : true ≡ false = sym high ∙ e in cc
        later false f e = grind (arith, nat_tests, begins, f)

-- 3. after the opener and some of its addresses

same_read : (o : Command) (n m : ℕ) → is_read_column (After o n) ≡ is_read_column (After o m)
same_read ChangeReadColumn n m = refl
same_read Read n m = refl
same_read _ n m = refl

-- and leave the LUN of 05h as it was
kept_view : (o : Command) (m : ℕ) (view : LunView) → is_read_column (After o m) ≡ true → view_at o view m ≡ view
kept_view ChangeReadColumn m view h = refl
kept_view o m view h = cc

-- they are of the base profile
carries_base : (o : Command) → carries_registers o ≡ true → opens_in_base o ≡ true
carries_base Read h = refl
carries_base ChangeReadColumn h = refl
carries_base BlockErase h = refl
carries_base PageProgram h = refl
carries_base _ h = cc

-- what is named, where the last row cycle has come
pub named_led : (s : Channel) (text : Microprogram) (v : State) (r : Run) (c : Lone) (from count : ℕ) (o : Command) (n : ℕ) → AddressAt s text v r c from count → (x : AtOpener s text r c from count o n) → length r.done ≤ 32768 → 5 ≤ from + count → NameIs s.geometry (of_now s.geometry (lone_job s.geometry text) r.done from count x.now) (index_now 0 r.done) (target_after_addresses s.geometry v from count).named
named_led s text v r c from count o n w x many five =
    let last : nat_le 5 (from + count) ≡ true = grind (arith, nat_tests, five) in
    subst (λ (b : Bool). NameIs s.geometry (of_now s.geometry (lone_job s.geometry text) r.done from count x.now) (index_now 0 r.done) (cond b (Some (name_now s.geometry v.registers)) v.target.named)) (sym last)
    (named_exact s.geometry (lone_job s.geometry text) v r.done from count x.now refl many w.mirrors.registers)

pub tail_after : (s : Channel) (text : Microprogram) (v : State) (r : Run) (c : Lone) (from count : ℕ) (o : Command) (n : ℕ) → AddressAt s text v r c from count → (x : AtOpener s text r c from count o n) → length r.done ≤ 32768 → v.target.tail ≡ After o n → opener_leads_to o (n + count) ≡ After o (n + count) → is_place o (n + count) ≡ true → n + count ≤ address_cycles o → Behind s text r c o n → (has_column (After o n) ≡ true → BoundIs (input_column c.facts) v.target.column) → TailMirror s.geometry (lone_job s.geometry text) (target_after_addresses s.geometry v from count) (now_of (lone_job s.geometry text) r.done) (cursor o (of_now s.geometry (lone_job s.geometry text) r.done from count x.now) c.view (n + count))
tail_after s text v r c from count o n w x many here leads place most b old =
    record {
      place = After o (n + count);
      single = ap (address_leads_to count) here ∙ leads;
      address = of_now s.geometry (lone_job s.geometry text) r.done from count x.now;
      is = record { place = place; facts = refl };
      now = λ e. record { column = refl; bytes = λ y. x.now.bytes (let z : ltb 2 (from + count) ≡ true = grind (arith, nat_tests, begins, y) in z) };
      column = λ e.
          let both = and_parts (takes_column o) (nat_le 2 (n + count)) e in
          column_led s text v r c from count o n w x both.0 (let two = both.1 in grind (arith, nat_tests, two)) most old;
      row = λ e. let five = reaches e in x.now.row (let z : ltb 2 (from + count) ≡ true = grind (arith, nat_tests, five) in z);
      named = λ e. named_led s text v r c from count o n w x many (reaches e);
      base = carries_base o x.carries;
      changes = λ e. ap may_change_column (kept_view o (n + count) c.view e) ∙ b.changes (same_read o n (n + count) ∙ e);
    }
  where
    begins : from ≡ first_address o + n
    begins = x.begins

    reaches : has_row (After o (n + count)) ≡ true → 5 ≤ from + count
    reaches e = let five = (and_parts (takes_row o) (nat_le 5 (first_address o + (n + count))) e).1 in grind (arith, nat_tests, begins, five)

-- 4. in the data of a program

five_facts : (a : Address) → InInputs a (facts_behind (opener_facts PageProgram) (take 5 (bytes_of PageProgram a)))
five_facts a =
    record {
      program = record { phase = refl; row = refl; begun = refl };
      address = λ byte. refl;
      command = λ d e. (wants_by (facts_behind (opener_facts PageProgram) (take 5 (bytes_of PageProgram a))) d).1 e;
    }

pub tail_in_data : (s : Channel) (text : Microprogram) (v : State) (r : Run) (c : Lone) (from count n : ℕ) → AddressAt s text v r c from count → (x : AtOpener s text r c from count PageProgram n) → length r.done ≤ 32768 → v.target.tail ≡ After PageProgram n → n + count ≡ 5 → (has_column (After PageProgram n) ≡ true → BoundIs (input_column c.facts) v.target.column) → TailMirror s.geometry (lone_job s.geometry text) (target_after_addresses s.geometry v from count) (now_of (lone_job s.geometry text) r.done) (cursor PageProgram (of_now s.geometry (lone_job s.geometry text) r.done from count x.now) c.view (n + count))
tail_in_data s text v r c from count n w x many here five old =
    record {
      place = InData;
      single = ap (address_leads_to count) here ∙ ap (opener_leads_to PageProgram) five;
      address = a;
      is = subst (λ (m : ℕ). InInputs a (facts_behind (opener_facts PageProgram) (take m (bytes_of PageProgram a)))) (sym five) (five_facts a);
      now = λ e. cc;
      column = λ e. column_led s text v r c from count PageProgram n w x refl (omega (arith, five)) (omega (arith, five)) old;
      row = λ e. x.now.row (let z : ltb 2 (from + count) ≡ true = grind (arith, nat_tests, begins, five) in z);
      named = λ e. named_led s text v r c from count PageProgram n w x many (omega (arith, begins, five));
      base = refl;
      changes = λ e. cc;
    }
  where
    a : Address
    a = of_now s.geometry (lone_job s.geometry text) r.done from count x.now

    begins : from ≡ n
    begins = let e = x.begins in omega (arith, e)
