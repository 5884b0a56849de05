-- Addresses that nothing is against go, and what they leave is mirrored: those of an opener, those of 85h, the one of 90h or ECh.
use Rattle.std.proofs.lemmas.Bool.Decides.{nat_tests}
use Rattle.std.proofs.Common.{◌≡◌, ℕ, zero, suc, ◌+◌, ◌*◌, ◌/◌, ◌%◌, ◌≤◌, ◌==◌, Bool, true, false, ◌||◌, cond, nat_le, List, [], ◌∷◌, Option, Some, None, refl, sym, ap, ◌∙◌, subst, arith, take, drop, length, eqb-true, ◌&&◌}
use Rattle.std.proofs.lemmas.Bool.{and_parts, or_parts}
use Rattle.nand_geometry.specs.declared.parts.Parts.{Parts}
use Rattle.nand_geometry.specs.Limits.{page_len}
use Rattle.onfi_cycle.specs.declared.command.Command.{Command}
use Rattle.onfi_cycle.specs.declared.command.Command.TheVariants.{Read, ChangeReadColumn, BlockErase, PageProgram}
use Rattle.onfi_cycle.specs.declared.forbidden.Forbidden.TheVariants.{ColumnOutside}
use Rattle.onfi_cycle.specs.declared.tail_facts.TailFacts.{TailFacts}
use Rattle.onfi_cycle.specs.declared.target_cycle.TargetCycle.TheVariants.{AddressCycle}
use Rattle.onfi_cycle.specs.Command.{address_cycles, addresses_the_array, reads_identity}
use Rattle.onfi_cycle.specs.Sequence.{facts_after, input_column}
use Rattle.onfi_cycle.specs.Rules.{excludes_cache, excludes_program}
use Rattle.onfi_cycle.specs.Channel.{Channel}
use Rattle.micro_word.specs.declared.word.Word.TheVariants.{Address as AddressWord}
use Rattle.micro_word.specs.Text.{Microprogram}
use Rattle.micro_claims.specs.State.{may_be_31}
use Rattle.micro_claims.specs.declared.state.State.{State}
use Rattle.micro_claims.specs.declared.named_row.NamedRow.{NamedRow}
use Rattle.micro_claims.specs.declared.place.Place.{Place}
use Rattle.micro_claims.specs.declared.place.Place.TheVariants.{After, InData, InColumn}
use Rattle.micro_claims.specs.Spans.{kept, copied}
use Rattle.micro_claims.specs.Against.{first_address, takes_identity_at, is_inside_address, is_erase, queue_refuses, plane_refused, row_refused, copy_refused}
use Rattle.micro_claims.specs.Leaves.{name_now, without_pages, after_few, opener_leads_to, address_leads_to, target_after_addresses}
use Rattle.micro_program.specs.Program.{Job, column_now, index_now}
use Rattle.micro_program.specs.Moves.{address}
use Rattle.micro_claims.proofs.Fits.{Address, all_bytes, bytes_of, takes_row, has_column, has_row, is_place, RowIs, IsNow, ColumnBegun, now_of}
use Rattle.micro_claims.proofs.Addressing.{of_now, carried_is}
use Rattle.onfi_cycle.specs.LunView.{LunView}
use Rattle.onfi_cycle.specs.Lun.{view_after}
use Rattle.onfi_cycle.specs.declared.effect.Effect.TheVariants.{ProgramAddressed}
use Rattle.micro_claims.proofs.AddressSteps.{addressed_view}
use Rattle.micro_claims.proofs.SoundAddress.{few_is, ends_program, lun_addressed, with_column, first_led, second_led, row_with_column}
use Rattle.micro_verify.proofs.AddressTests.{few_of, second_holds, row_is_of_array}
use Rattle.micro_verify.specs.Lazy.{lone_job, Run}
use Rattle.micro_verify.proofs.Lone.{Lone, lone_behind}
use Rattle.micro_verify.proofs.Mirrors.{Mirrors, TailMirror, LunMirror, NameIs, BoundIs, place_queues, place_erases, row_goes_along}
use Rattle.micro_verify.proofs.Causes.{Goes}
use Rattle.micro_claims.specs.Accepts.{state_after}
use Rattle.micro_verify.proofs.AddressesJudged.{view_at, cursor, Passed}
use Rattle.micro_verify.proofs.AddressStops.{AtOpener, limit_of, bytes_there}
use Rattle.micro_verify.proofs.AddressColumn.{now_column, first_judged, second_judged, behind_is, renewed, in_data_again}
use Rattle.micro_verify.proofs.OpenerStops.{column_word, AddressAt, Behind, now_there}
use Rattle.micro_verify.proofs.AddressPasses.{PlaceIsClear, opener_passes, address_left}
use Rattle.micro_verify.proofs.AddressTails.{along_now, tail_after, tail_in_data}

-- 1. of an opener

-- the row that was named goes along with the queue, which didn't refuse it
along_led : (g : Parts) (v : State) (r : Run) (c : Lone) (j : Job) (from count : ℕ) (o : Command) (n : ℕ) → Mirrors g j v r.done c → addresses_the_array o ≡ true → 5 ≤ from + count → (nat_le 5 (from + count) ≡ true → row_refused g v (After o n) ≡ false) → row_goes_along (is_erase o) (target_after_addresses g v from count).named v.lun.queue ≡ true
along_led g v r c j from count o n m array five clear =
    let last : nat_le 5 (from + count) ≡ true = grind (arith, nat_tests, five) in
    let more = or_parts (v.lun.busy || (excludes_cache g o && may_be_31 v.lun.last) || queue_refuses v.lun.queue v.registers.planes o || plane_refused v o || copy_refused g v o) (excludes_program o && v.lun.programming) (ap (λ (b : Bool). b && (v.lun.busy || (excludes_cache g o && may_be_31 v.lun.last) || queue_refuses v.lun.queue v.registers.planes o || plane_refused v o || copy_refused g v o || (excludes_program o && v.lun.programming))) (sym array) ∙ clear last) in
    let both = or_parts (v.lun.busy || (excludes_cache g o && may_be_31 v.lun.last) || queue_refuses v.lun.queue v.registers.planes o || plane_refused v o) (copy_refused g v o) more.0 in
    let all = or_parts (v.lun.busy || (excludes_cache g o && may_be_31 v.lun.last) || queue_refuses v.lun.queue v.registers.planes o) (plane_refused v o) both.0 in
    let queue = (or_parts (v.lun.busy || (excludes_cache g o && may_be_31 v.lun.last)) (queue_refuses v.lun.queue v.registers.planes o) all.0).1 in
    subst (λ (b : Bool). row_goes_along (is_erase o) (cond b (Some (name_now g v.registers)) v.target.named) v.lun.queue ≡ true) (sym last) (along_now g (index_now 0 r.done) v.lun.queue c.view.queue v.registers.planes o m.lun.queue queue)

-- the LUN shows what it showed
latch_at : (o : Command) (view : LunView) (m : ℕ) → (view_at o view m).latch ≡ view.latch
latch_at PageProgram view m = at (nat_le 5 m)
  where
    at : (b : Bool) → (cond b (view_after ProgramAddressed view) view).latch ≡ view.latch
    at true = refl
    at false = refl
latch_at o view m = refl

-- and is mirrored, also where it holds no page any more
lun_at : (g : Parts) (v : State) (now : ℕ) (view : LunView) (o : Command) (n count : ℕ) → v.target.tail ≡ After o n → LunMirror g v.lun now view → n + count ≤ address_cycles o → LunMirror g (lun_addressed v count) now (view_at o view (n + count))
lun_at g v now view PageProgram n count here m few = at (n + count == 5) refl
  where
    at : (b : Bool) → (n + count == 5) ≡ b → LunMirror g (lun_addressed v count) now (addressed_view (n + count) view)
    at true e =
        let five : n + count ≡ 5 = eqb-true (n + count) 5 e in
        subst (λ (b : Bool). LunMirror g (cond b (without_pages v.lun) v.lun) now (addressed_view (n + count) view)) (sym (ap (ends_program count) here ∙ e))
        (subst (λ (k : ℕ). LunMirror g (without_pages v.lun) now (addressed_view k view)) (sym five)
        (record {
          busy = m.busy;
          register = m.register;
          known = m.known;
          column = m.column;
          no_column = m.no_column;
          queue = m.queue;
          last = m.last;
          caching = m.caching;
          other = m.other;
          read = m.read;
          cached_page = m.cached_page;
          cached_index = m.cached_index;
          held = λ x. refl;
          programming = m.programming;
          no_program = m.no_program;
        }))
    at false e =
        let early : nat_le 5 (n + count) ≡ false = let f = few in grind (arith, nat_tests, e, f) in
        subst (λ (b : Bool). LunMirror g (cond b (without_pages v.lun) v.lun) now (addressed_view (n + count) view)) (sym (ap (ends_program count) here ∙ e))
        (subst (λ (b : Bool). LunMirror g v.lun now (cond b (view_after ProgramAddressed view) view)) (sym early) m)
lun_at g v now view o n count here m few = subst (λ (b : Bool). LunMirror g (cond b (without_pages v.lun) v.lun) now view) (sym (ap (ends_program count) here)) m

-- the word leads to these facts, and the tail is mirrored there
opener_left : (s : Channel) (text : Microprogram) (v : State) (r : Run) (c : Lone) (from count : ℕ) (o : Command) (n : ℕ) → AddressAt s text v r c from count → (x : AtOpener s text r c from count o n) → PlaceIsClear s v from count (limit_of s.geometry o c.view) (column_now r.done) (After o n) → v.target.tail ≡ After o n → reads_identity o ≡ false → TailMirror s.geometry (lone_job s.geometry text) (target_after_addresses s.geometry v from count) (now_of (lone_job s.geometry text) r.done) (cursor o (of_now s.geometry (lone_job s.geometry text) r.done from count x.now) c.view (n + count)) → (place_queues (target_after_addresses s.geometry v from count).tail ≡ true → row_goes_along (place_erases (target_after_addresses s.geometry v from count).tail) (target_after_addresses s.geometry v from count).named v.lun.queue ≡ true) → Goes s text (state_after s.geometry v (AddressWord from count)) r (AddressWord from count)
opener_left s text v r c from count o n w x clear here other tail along =
    let a = of_now s.geometry (lone_job s.geometry text) r.done from count x.now in
    let bytes = take count (drop n (bytes_of o a)) in
    address_left s text v r c (cursor o a c.view (n + count)) from count bytes w (bytes_there s text r c from count o n x)
    (subst (λ (y : Lone). Passed s.geometry bytes y (cursor o a c.view (n + count))) (sym x.here) (opener_passes s text v r c from count o n w x clear))
    (ap takes_identity_at here ∙ other) (latch_at o c.view (n + count)) (lun_at s.geometry v (index_now 0 r.done) c.view o n count here w.mirrors.lun (few_of o n count clear.left clear.few)) tail along

-- where the tail is still after the opener
stays : (s : Channel) (text : Microprogram) (v : State) (r : Run) (c : Lone) (from count : ℕ) (o : Command) (n : ℕ) → AddressAt s text v r c from count → AtOpener s text r c from count o n → length r.done ≤ 32768 → PlaceIsClear s v from count (limit_of s.geometry o c.view) (column_now r.done) (After o n) → v.target.tail ≡ After o n → reads_identity o ≡ false → Behind s text r c o n → (has_column (After o n) ≡ true → BoundIs (input_column c.facts) v.target.column) → opener_leads_to o (n + count) ≡ After o (n + count) → is_place o (n + count) ≡ true → (place_queues (After o (n + count)) ≡ true → (has_row (After o (n + count)) ≡ true) × (place_erases (After o (n + count)) ≡ is_erase o)) → Goes s text (state_after s.geometry v (AddressWord from count)) r (AddressWord from count)
stays s text v r c from count o n w x many clear here other b old leads place queues =
    opener_left s text v r c from count o n w x clear here other
    (tail_after s text v r c from count o n w x many here leads place (few_of o n count clear.left clear.few) b old)
    (subst (λ (p : Place). place_queues p ≡ true → row_goes_along (place_erases p) (target_after_addresses g v from count).named v.lun.queue ≡ true) (sym single) along)
  where
    g : Parts
    g = s.geometry

    single : (target_after_addresses g v from count).tail ≡ After o (n + count)
    single = ap (address_leads_to count) here ∙ leads

    along : place_queues (After o (n + count)) ≡ true → row_goes_along (place_erases (After o (n + count))) (target_after_addresses g v from count).named v.lun.queue ≡ true
    along e =
        let q = queues e in
        let begins = x.begins in
        let both = and_parts (takes_row o) (nat_le 5 (first_address o + (n + count))) q.0 in
        let five = both.1 in
        let reaches : 5 ≤ from + count = grind (arith, nat_tests, five, begins) in
        ap (λ (y : Bool). row_goes_along y (target_after_addresses g v from count).named v.lun.queue) q.1 ∙ along_led g v r c (lone_job g text) from count o n w.mirrors (row_is_of_array o both.0) reaches clear.row

pub opener_goes : (s : Channel) (text : Microprogram) (v : State) (r : Run) (c : Lone) (from count : ℕ) (o : Command) (n : ℕ) → AddressAt s text v r c from count → AtOpener s text r c from count o n → length r.done ≤ 32768 → PlaceIsClear s v from count (limit_of s.geometry o c.view) (column_now r.done) (After o n) → v.target.tail ≡ After o n → Behind s text r c o n → (has_column (After o n) ≡ true → BoundIs (input_column c.facts) v.target.column) → Goes s text (state_after s.geometry v (AddressWord from count)) r (AddressWord from count)
opener_goes s text v r c from count Read n w x many clear here b old =
    let few = few_of Read n count clear.left clear.few in
    stays s text v r c from count Read n w x many clear here refl b old (few_is Read (n + count) few) (grind (arith, nat_tests, few)) (λ e. cc)
opener_goes s text v r c from count ChangeReadColumn n w x many clear here b old =
    let few = few_of ChangeReadColumn n count clear.left clear.few in
    stays s text v r c from count ChangeReadColumn n w x many clear here refl b old (few_is ChangeReadColumn (n + count) (omega (arith, few))) (grind (arith, nat_tests, few)) (λ e. cc)
opener_goes s text v r c from count BlockErase n w x many clear here b old =
    let few = few_of BlockErase n count clear.left clear.few in
    stays s text v r c from count BlockErase n w x many clear here refl b old (few_is BlockErase (n + count) (omega (arith, few))) (grind (arith, nat_tests, few)) (λ e. (e, refl))
opener_goes s text v r c from count PageProgram n w x many clear here b old = at (n + count == 5) refl
  where
    few : n + count ≤ 5
    few = few_of PageProgram n count clear.left clear.few

    at : (y : Bool) → (n + count == 5) ≡ y → Goes s text (state_after s.geometry v (AddressWord from count)) r (AddressWord from count)
    at true e =
        let five : n + count ≡ 5 = eqb-true (n + count) 5 e in
        let begins = x.begins in
        let single : (target_after_addresses s.geometry v from count).tail ≡ InData = ap (address_leads_to count) here ∙ ap (opener_leads_to PageProgram) five in
        opener_left s text v r c from count PageProgram n w x clear here refl (tail_in_data s text v r c from count n w x many here five old)
        (subst (λ (p : Place). place_queues p ≡ true → row_goes_along (place_erases p) (target_after_addresses s.geometry v from count).named v.lun.queue ≡ true) (sym single)
        (λ e. along_led s.geometry v r c (lone_job s.geometry text) from count PageProgram n w.mirrors refl (omega (arith, begins, five)) clear.row))
    at false e =
        let four : n + count ≤ 4 = let f = few in grind (arith, nat_tests, e, f) in
        stays s text v r c from count PageProgram n w x many clear here refl b old (ap (λ (y : Bool). cond y InData (after_few PageProgram (n + count))) e ∙ few_is PageProgram (n + count) few) (grind (arith, nat_tests, four)) (λ e. (e, refl))
opener_goes s text v r c from count _ n w x many clear here b old = let none = x.carries in cc

-- 2. of 85h

-- what the tail says behind 85h
pub record BehindColumn (s : Channel) (text : Microprogram) (v : State) (r : Run) (c : Lone) (n : ℕ) : Type 0 where
  pub old : Address
  pub begun : ColumnBegun n old c.facts
  pub now : is_inside_address (InColumn n) ≡ true → IsNow s.geometry (lone_job s.geometry text) old (now_of (lone_job s.geometry text) r.done) (InColumn n)
  pub row : RowIs s.geometry (lone_job s.geometry text) old
  pub named : NameIs s.geometry old (index_now 0 r.done) v.target.named

name_with_column : (g : Parts) (a : Address) (column now : ℕ) (o : Option NamedRow) → NameIs g a now o → NameIs g (with_column a column) now o
name_with_column g a column now None m = m
name_with_column g a column now (Some n) m = record { index = m.index; index_low = m.index_low; planes = m.planes; plane_low = m.plane_low; page = m.page; drift = m.drift }

-- nothing is named anew
named_still : (s : Channel) (text : Microprogram) (v : State) (r : Run) (c : Lone) (from count n : ℕ) (b : BehindColumn s text v r c n) → from + count ≤ 2 → (target_after_addresses s.geometry v from count).named ≡ v.target.named
named_still s text v r c from count n b few =
    let short : nat_le 5 (from + count) ≡ false = grind (arith, nat_tests, few) in
    ap (λ (y : Bool). cond y (Some (name_now s.geometry v.registers)) v.target.named) short

-- the word leads to these facts
column_left : (s : Channel) (text : Microprogram) (v : State) (r : Run) (c after : Lone) (from count n : ℕ) (bytes : List ℕ) (p : Place) → AddressAt s text v r c from count → (b : BehindColumn s text v r c n) → from + count ≤ 2 → v.target.tail ≡ InColumn n → address_leads_to count (InColumn n) ≡ p → place_erases p ≡ false → address s.geometry (lone_job s.geometry text) r.done from count ≡ Some bytes → Passed s.geometry bytes c after → after.view ≡ c.view → TailMirror s.geometry (lone_job s.geometry text) (target_after_addresses s.geometry v from count) (now_of (lone_job s.geometry text) r.done) after → Goes s text (state_after s.geometry v (AddressWord from count)) r (AddressWord from count)
column_left s text v r c after from count n bytes p w b few here leads erases is_bytes q same tail =
    address_left s text v r c after from count bytes w is_bytes q (ap takes_identity_at here) (ap (λ (y : LunView). y.latch) same)
    (subst (λ (y : LunView). LunMirror s.geometry (lun_addressed v count) (index_now 0 r.done) y) (sym same)
    (subst (λ (b : Bool). LunMirror s.geometry (cond b (without_pages v.lun) v.lun) (index_now 0 r.done) c.view) (sym (ap (ends_program count) here)) w.mirrors.lun))
    tail
    (λ e.
    (λ i. row_goes_along (erased i) (named_still s text v r c from count n b few i) v.lun.queue)
    ∙ (sym (ap (λ (x : Place). row_goes_along (place_erases x) v.target.named v.lun.queue) here) ∙ w.mirrors.along (ap place_queues here)))
  where
    erased : place_erases (target_after_addresses s.geometry v from count).tail ≡ false
    erased = ap (λ (x : Place). place_erases (address_leads_to count x)) here ∙ (ap place_erases leads ∙ erases)

-- still in the column, and back in the data
column_tail : (s : Channel) (text : Microprogram) (v : State) (r : Run) (c : Lone) (from count n : ℕ) (t : TailFacts) (b : BehindColumn s text v r c n) → from + count ≤ 2 → v.target.tail ≡ InColumn n → address_leads_to count (InColumn n) ≡ InColumn 1 → ColumnBegun 1 (with_column b.old (column_now r.done)) t → TailMirror s.geometry (lone_job s.geometry text) (target_after_addresses s.geometry v from count) (now_of (lone_job s.geometry text) r.done) (record { facts = t; view = c.view })
column_tail s text v r c from count n t b few here leads begun =
    record {
      place = InColumn 1;
      single = ap (address_leads_to count) here ∙ leads;
      address = with_column b.old (column_now r.done);
      is = begun;
      now = λ e. record { column = refl; bytes = λ x. cc };
      column = λ e. cc;
      row = λ e. row_with_column s.geometry (lone_job s.geometry text) b.old (column_now r.done) b.row;
      named = λ e. subst (λ (o : Option NamedRow). NameIs s.geometry (with_column b.old (column_now r.done)) (index_now 0 r.done) o) (sym (named_still s text v r c from count n b few)) (name_with_column s.geometry b.old (column_now r.done) (index_now 0 r.done) v.target.named b.named);
      base = refl;
      changes = λ e. cc;
    }

data_tail : (s : Channel) (text : Microprogram) (v : State) (r : Run) (c : Lone) (from count n : ℕ) (t : TailFacts) (w : AddressAt s text v r c from count) (b : BehindColumn s text v r c n) → from + count ≡ 2 → from ≤ 1 → v.target.tail ≡ InColumn n → address_leads_to count (InColumn n) ≡ InData → ColumnBegun 1 (with_column b.old (column_now r.done)) t → TailMirror s.geometry (lone_job s.geometry text) (target_after_addresses s.geometry v from count) (now_of (lone_job s.geometry text) r.done) (record { facts = facts_after (AddressCycle (column_now r.done / 256 % 256)) t; view = c.view })
data_tail s text v r c from count n t w b both low here leads begun =
    let column = column_now r.done in
    let a = with_column b.old column in
    let few : from + count ≤ 2 = omega (arith, both) in
    record {
      place = InData;
      single = ap (address_leads_to count) here ∙ leads;
      address = a;
      is = in_data_again a t (column / 256 % 256) begun;
      now = λ e. cc;
      column = λ e.
          let second = second_holds from count low (omega (arith, both)) in
          let whole : column % 256 % 256 + 256 * (column / 256 % 256) + 0 ≡ column = let x = carried_is column w.mirrors.registers.column_low in omega (arith, x) in
          subst (λ (y : Bool). BoundIs (input_column (facts_after (AddressCycle (column / 256 % 256)) t)) (cond y (Some (copied v.registers.column)) v.target.column)) (sym second)
          (w.mirrors.registers.column.hi ∙ ap kept (sym ((second_led a t (column / 256 % 256) begun).1 ∙ whole)));
      row = λ e. row_with_column s.geometry (lone_job s.geometry text) b.old column b.row;
      named = λ e. subst (λ (o : Option NamedRow). NameIs s.geometry a (index_now 0 r.done) o) (sym (named_still s text v r c from count n b few)) (name_with_column s.geometry b.old column (index_now 0 r.done) v.target.named b.named);
      base = refl;
      changes = λ e. cc;
    }

pub column_goes : (s : Channel) (text : Microprogram) (v : State) (r : Run) (c : Lone) (from count n : ℕ) (w : AddressAt s text v r c from count) → PlaceIsClear s v from count (page_len s.geometry) (column_now r.done) (InColumn n) → v.target.tail ≡ InColumn n → BehindColumn s text v r c n → Goes s text (state_after s.geometry v (AddressWord from count)) r (AddressWord from count)
column_goes s text v r c from count n w clear here b = by n count w clear here b (column_word s text v r c from count n clear.begins w)
  where
    g : Parts
    g = s.geometry

    column : ℕ
    column = column_now r.done

    b0 : ℕ
    b0 = column % 256

    b1 : ℕ
    b1 = column / 256 % 256

    by : (n count : ℕ) (w : AddressAt s text v r c from count) → PlaceIsClear s v from count (page_len g) column (InColumn n) → v.target.tail ≡ InColumn n → BehindColumn s text v r c n → address g (lone_job g text) r.done from count ≡ Some (take count (drop n (all_bytes (of_now g (lone_job g text) r.done from count (now_there s text v r c from count w))))) → Goes s text (state_after g v (AddressWord from count)) r (AddressWord from count)
    by n zero w clear here b bytes = absurd (let x = w.some in omega (arith, x))
    by zero (suc zero) w clear here b bytes =
        let begins : from ≡ 0 = clear.begins in
        let after : Lone = record { facts = facts_after (AddressCycle b0) c.facts; view = c.view } in
        column_left s text v r c after from 1 0 (b0 ∷ []) (InColumn 1) w b (omega (arith, begins)) here refl refl bytes
        (record { pass = (first_judged g c b.old b0 b.begun, tt); leads = behind_is g c 0 b.old b0 b.begun }) refl
        (column_tail s text v r c from 1 0 after.facts b (omega (arith, begins)) here refl (first_led b.old c.facts column b.begun))
    by zero (suc (suc zero)) w clear here b bytes =
        let begins : from ≡ 0 = clear.begins in
        let one : Lone = record { facts = facts_after (AddressCycle b0) c.facts; view = c.view } in
        let after : Lone = record { facts = facts_after (AddressCycle b1) one.facts; view = c.view } in
        let begun = first_led b.old c.facts column b.begun in
        let inside = clear.inside (second_holds from 2 (omega (arith, begins)) (omega (arith, begins))) in
        column_left s text v r c after from 2 0 (b0 ∷ (b1 ∷ [])) InData w b (omega (arith, begins)) here refl refl bytes
        (record {
          pass = (first_judged g c b.old b0 b.begun, (second_judged g (lone_behind g (AddressCycle b0) c) b.old column w.mirrors.registers.column_low begun ∙ ap (λ (x : Bool). cond x (Some ColumnOutside) None) inside, tt));
          leads = ap (lone_behind g (AddressCycle b1)) (behind_is g c 0 b.old b0 b.begun) ∙ behind_is g one 1 (with_column b.old column) b1 begun;
        }) refl
        (data_tail s text v r c from 2 0 one.facts w b (omega (arith, begins)) (omega (arith, begins)) here refl begun)
    by (suc zero) (suc zero) w clear here b bytes =
        let begins : from ≡ 1 = clear.begins in
        let after : Lone = record { facts = facts_after (AddressCycle b1) c.facts; view = c.view } in
        let begun = renewed b.old c.facts column b.begun (now_column s text r b.old 1 b.now refl) in
        let inside = clear.inside (second_holds from 1 (omega (arith, begins)) (omega (arith, begins))) in
        column_left s text v r c after from 1 1 (b1 ∷ []) InData w b (omega (arith, begins)) here refl refl bytes
        (record { pass = (second_judged g c b.old column w.mirrors.registers.column_low begun ∙ ap (λ (x : Bool). cond x (Some ColumnOutside) None) inside, tt); leads = behind_is g c 1 b.old b1 b.begun }) refl
        (data_tail s text v r c from 1 1 c.facts w b (omega (arith, begins)) (omega (arith, begins)) here refl begun)
    by zero (suc (suc (suc m))) w clear here b bytes = absurd (let few : suc (suc (suc m)) ≤ 2 = clear.few in omega (arith, few))
    by (suc zero) (suc (suc m)) w clear here b bytes = absurd (let few : suc (suc m) ≤ 1 = clear.few in omega (arith, few))
    by (suc (suc k)) (suc m) w clear here b bytes = absurd (let few = b.begun.few in omega (arith, few))
