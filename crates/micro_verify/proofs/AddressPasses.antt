-- An address of an opener that nothing is against: its cycles pass, and where they lead.
use Rattle.std.proofs.lemmas.Bool.Decides.{nat_tests}
use Rattle.std.proofs.Common.{◌≡◌, ℕ, ◌+◌, ◌≤◌, ◌<◌, ◌==◌, Bool, true, false, ◌&&◌, ◌||◌, cond, not, ltb, nat_le, List, ◌∷◌, Option, Some, refl, sym, ap, ◌∙◌, subst, arith, take, drop, eqb-true}
use Rattle.std.proofs.lemmas.Bool.{or_parts}
use Rattle.nand_geometry.specs.declared.parts.Parts.{Parts}
use Rattle.onfi_cycle.specs.declared.command.Command.{Command}
use Rattle.onfi_cycle.specs.declared.command.Command.TheVariants.{ResetLun}
use Rattle.onfi_cycle.specs.declared.item.Kind.TheVariants.{Adr}
use Rattle.onfi_cycle.specs.Channel.{Channel}
use Rattle.micro_word.specs.declared.word.Word.TheVariants.{Address as AddressWord}
use Rattle.micro_word.specs.Text.{Microprogram}
use Rattle.micro_claims.specs.declared.state.State.{State}
use Rattle.micro_claims.specs.declared.known_target.KnownTarget.{KnownTarget}
use Rattle.micro_claims.specs.declared.queued_rows.QueuedRows.{QueuedRows}
use Rattle.micro_claims.specs.declared.place.Place.{Place}
use Rattle.micro_claims.specs.declared.place.Place.TheVariants.{Closed, After, InData, InColumn, InFeatures, Unknown}
use Rattle.micro_claims.specs.Spans.{greatest_bound, bound_plus, is_at_most}
use Rattle.micro_claims.specs.Against.{addresses_left, next_address, takes_identity_at, column_limit, has_second_column, identity_refused, row_refused, begins_elsewhere, address_out_of_place, column_past}
use Rattle.micro_claims.specs.Leaves.{with_registers, without_pages, paid, target_after_addresses, address_leaves}
use Rattle.micro_claims.specs.Accepts.{state_after}
use Rattle.micro_program.specs.Program.{Job, column_now, index_now}
use Rattle.micro_program.specs.Moves.{address, gives, and_then}
use Rattle.micro_claims.proofs.Fits.{Address, bytes_of, takes_column, now_of}
use Rattle.micro_claims.proofs.Addressing.{of_now, carried_is}
use Rattle.micro_claims.proofs.SoundAddress.{resets_lun, ends_program, lun_addressed, leaves_target}
use Rattle.micro_verify.proofs.AddressTests.{takes_first, last_of_row, few_of, second_holds, and_third, clears}
use Rattle.micro_verify.specs.Lazy.{lone_job, Run}
use Rattle.micro_verify.proofs.Lone.{Lone}
use Rattle.micro_verify.proofs.Mirrors.{Mirrors, TailMirror, is_base_place, LunMirror, place_queues, place_erases, row_goes_along, shows_of}
use Rattle.micro_verify.proofs.Causes.{Goes}
use Rattle.micro_verify.proofs.WordsExact.{goes_by, registers_exact}
use Rattle.micro_verify.proofs.AddressesJudged.{cursor, Passed}
use Rattle.micro_verify.proofs.AddressRules.{row_refused_is, past_is}
use Rattle.micro_verify.proofs.AddressStops.{AtOpener, limit_of, rule_none, last_is, so_many}
use Rattle.micro_verify.proofs.OpenerStops.{AddressAt, sure_is}

-- 1. nothing is against it

-- what a place says where nothing is against the word
pub record PlaceIsClear (s : Channel) (v : State) (from count limit column : ℕ) (p : Place) : Type 0 where
  pub left : (addresses_left p == 0) ≡ false
  pub begins : from ≡ next_address p
  pub few : count ≤ addresses_left p
  pub row : nat_le 5 (from + count) ≡ true → row_refused s.geometry v p ≡ false
  pub inside : has_second_column from count ≡ true → nat_le limit column ≡ false

-- the claim knows the column, so that it is inside or surely past
pub place_is_clear : (s : Channel) (text : Microprogram) (v : State) (r : Run) (c : Lone) (from count limit : ℕ) (p : Place) → Mirrors s.geometry (lone_job s.geometry text) v r.done c → limit ≤ greatest_bound → column_limit s.geometry v p ≡ limit → takes_identity_at p ≡ false → address_out_of_place s.geometry v from count p ≡ false → begins_elsewhere from p ≡ false → column_past s.geometry v from count p ≡ false → PlaceIsClear s v from count limit (column_now r.done) p
place_is_clear s text v r c from count limit p m low is_limit idn out elsewhere past =
    let x =
    clears (addresses_left p == 0) (takes_identity_at p) (from == next_address p) (has_second_column from count) over (ltb (addresses_left p) count || (from == next_address p && nat_le 5 (from + count) && row_refused g v p)) (identity_refused g v from count p) idn
    (sym (λ i. cond (addresses_left p == 0) true (cond (takes_identity_at p) (identity_refused g v from count p) (cond (from == next_address p && has_second_column from count && sure i) false (ltb (addresses_left p) count || (from == next_address p && nat_le 5 (from + count) && row_refused g v p))))) ∙ out) elsewhere
    (sym (λ i. not (addresses_left p == 0) && not (takes_identity_at p) && from == next_address p && has_second_column from count && test i) ∙ past) in
    let two = or_parts (ltb (addresses_left p) count) (from == next_address p && nat_le 5 (from + count) && row_refused g v p) x.fits in
    record {
      left = x.left_none;
      begins = eqb-true from (next_address p) x.begins;
      few = grind (arith, nat_tests, two.0);
      row = λ e. and_third (from == next_address p) (nat_le 5 (from + count)) (row_refused g v p) x.begins e two.1;
      inside = x.inside;
    }
  where
    g : Parts
    g = s.geometry

    over : Bool
    over = nat_le limit (column_now r.done)

    sure : nat_le (column_limit g v p) v.registers.column.lo ≡ over
    sure = ap (λ (l : ℕ). nat_le l v.registers.column.lo) is_limit ∙ sure_is g v r.done limit m.registers

    test : not (is_at_most (bound_plus v.registers.column.hi 1) (column_limit g v p)) ≡ over
    test = ap (λ (l : ℕ). not (is_at_most (bound_plus v.registers.column.hi 1) l)) is_limit ∙ past_is g v r.done limit low m.registers

-- 2. its cycles pass

pub opener_passes : (s : Channel) (text : Microprogram) (v : State) (r : Run) (c : Lone) (from count : ℕ) (o : Command) (n : ℕ) → AddressAt s text v r c from count → (x : AtOpener s text r c from count o n) → PlaceIsClear s v from count (limit_of s.geometry o c.view) (column_now r.done) (After o n) → Passed s.geometry (take count (drop n (bytes_of o (of_now s.geometry (lone_job s.geometry text) r.done from count x.now)))) (cursor o (of_now s.geometry (lone_job s.geometry text) r.done from count x.now) c.view n) (cursor o (of_now s.geometry (lone_job s.geometry text) r.done from count x.now) c.view (n + count))
opener_passes s text v r c from count o n w x clear =
    so_many s text r c from count o n count x (omega arith) (few_of o n count clear.left clear.few)
    (λ i least most. rule_none g o a c.view i x.carries
    (λ takes e. ap (nat_le (limit_of g o c.view)) (carried_is (column_now r.done) w.mirrors.registers.column_low) ∙ clear.inside (second i takes least most e))
    (λ e.
    let last = last_is o i x.carries e in
    let begins = x.begins in
    let five : 5 ≤ from + count = omega (arith, begins, last, most) in
    (sym (row_refused_is g j v r.done c.view o n a w.fit.base x.carries (last_of_row o i x.carries e) w.mirrors.registers w.mirrors.lun (x.now.row (let y : 2 < from + count = omega (arith, five) in grind (arith, nat_tests, y))) refl refl) ∙ clear.row (grind (arith, nat_tests, five)), w.mirrors.lun.no_program)))
  where
    g : Parts
    g = s.geometry

    j : Job
    j = lone_job g text

    a : Address
    a = of_now g j r.done from count x.now

    second : (i : ℕ) → takes_column o ≡ true → n ≤ i → i < n + count → i ≡ 1 → has_second_column from count ≡ true
    second i takes least most e =
        let first = takes_first o takes in
        let begins = x.begins in
        second_holds from count (omega (arith, begins, first, least, e)) (omega (arith, begins, first, most, e))

-- 3. where they lead

-- FAh is none of the base profile
not_reset : (p : Place) → is_base_place p ≡ true → resets_lun p ≡ false
not_reset (After ResetLun n) h = cc
not_reset (After _ n) h = refl
not_reset Closed h = refl
not_reset InData h = refl
not_reset (InColumn n) h = refl
not_reset (InFeatures n) h = refl
not_reset Unknown h = refl

-- what an address leaves, beside what it makes of the tail
pub address_left : (s : Channel) (text : Microprogram) (v : State) (r : Run) (c after : Lone) (from count : ℕ) (bytes : List ℕ) → AddressAt s text v r c from count → address s.geometry (lone_job s.geometry text) r.done from count ≡ Some bytes → Passed s.geometry bytes c after → takes_identity_at v.target.tail ≡ false → after.view.latch ≡ c.view.latch → LunMirror s.geometry (lun_addressed v count) (index_now 0 r.done) after.view → TailMirror s.geometry (lone_job s.geometry text) (target_after_addresses s.geometry v from count) (now_of (lone_job s.geometry text) r.done) after → (place_queues (target_after_addresses s.geometry v from count).tail ≡ true → row_goes_along (place_erases (target_after_addresses s.geometry v from count).tail) (target_after_addresses s.geometry v from count).named v.lun.queue ≡ true) → Goes s text (state_after s.geometry v (AddressWord from count)) r (AddressWord from count)
unfolding state_after
address_left s text v r c after from count bytes w is_bytes q plain latch lun tail along =
    goes_by s text (state_after g v (AddressWord from count)) r (AddressWord from count) (gives Adr bytes) r.past c w.fit.alone (ap (λ (o : Option (List ℕ)). and_then o (λ xs. Some (gives Adr xs))) is_bytes) refl w.lone q.pass
    (λ answer. subst (λ (x : Lone). Mirrors g j (state_after g v (AddressWord from count)) (record { word = AddressWord from count; answer = answer } ∷ r.done) x) (sym q.leads)
    (subst (λ (x : State). Mirrors g j (with_registers x (paid count x.registers)) (record { word = AddressWord from count; answer = answer } ∷ r.done) after) (sym left)
    (record {
      registers = registers_exact g v.registers v.registers.polled r.done (AddressWord from count) answer (record { column = λ n. refl; plane = λ n. refl; index = λ b n. refl }) (λ n. refl) w.mirrors.registers;
      tail = tail;
      shows = w.mirrors.shows ∙ ap shows_of (sym latch);
      lun = lun;
      along = λ e. subst (λ (rows : QueuedRows). row_goes_along (place_erases t.tail) t.named rows ≡ true) (sym (queued (ends_program count v.target.tail))) (along e);
    })))
  where
    g : Parts
    g = s.geometry

    j : Job
    j = lone_job g text

    t : KnownTarget
    t = target_after_addresses g v from count

    queued : (b : Bool) → (cond b (without_pages v.lun) v.lun).queue ≡ v.lun.queue
    queued true = refl
    queued false = refl

    left : address_leaves g v from count ≡ record { registers = v.registers; target = target_after_addresses g v from count; lun = lun_addressed v count }
    left = leaves_target g v from count v.target.tail plain (ap resets_lun w.mirrors.tail.single ∙ not_reset w.mirrors.tail.place w.mirrors.tail.base)
