-- Where a refused address stops, whatever the place of the tail.
use Rattle.std.proofs.lemmas.Bool.Decides.{nat_tests}
use Rattle.std.proofs.Common.{◌≡◌, ℕ, ◌+◌, ◌-◌, ◌≤◌, ◌<◌, ◌==◌, Bool, true, false, ◌&&◌, ◌||◌, cond, not, ltb, nat_le, Some, refl, sym, ap, ◌∙◌, subst, arith, drop, eqb-true}
use Rattle.nand_geometry.specs.declared.parts.Parts.{Parts}
use Rattle.nand_geometry.specs.Limits.{page_len}
use Rattle.onfi_cycle.specs.declared.command.Command.{Command}
use Rattle.onfi_cycle.specs.declared.command.Command.TheVariants.{Read, ChangeReadColumn, BlockErase, PageProgram}
use Rattle.onfi_cycle.specs.declared.forbidden.Forbidden.TheVariants.{AddressMisplaced}
use Rattle.onfi_cycle.specs.declared.tail_facts.TailFacts.{TailFacts}
use Rattle.onfi_cycle.specs.Command.{address_cycles, reads_identity}
use Rattle.onfi_cycle.specs.Sequence.{opened}
use Rattle.onfi_cycle.specs.Rules.{may_change_column}
use Rattle.onfi_cycle.specs.Channel.{Channel}
use Rattle.micro_word.specs.declared.word.Word.TheVariants.{Address as AddressWord}
use Rattle.micro_word.specs.Text.{Microprogram}
use Rattle.micro_claims.specs.declared.state.State.{State}
use Rattle.micro_claims.specs.declared.place.Place.{Place}
use Rattle.micro_claims.specs.declared.place.Place.TheVariants.{Closed, After, InData, InColumn, InFeatures, Unknown}
use Rattle.micro_claims.specs.Spans.{bound_plus, is_at_most, only}
use Rattle.micro_claims.specs.Against.{addresses_left, first_address, next_address, takes_identity_at, is_inside_address, byte_of_column, is_identity_byte, column_limit, has_second_column, surely_past, identity_refused, row_refused, begins_elsewhere, address_out_of_place, column_past}
use Rattle.micro_program.specs.Program.{Job, column_now}
use Rattle.micro_claims.proofs.Fits.{Address, all_bytes, takes_column, takes_row, IsNow, now_of}
use Rattle.micro_claims.proofs.Addressing.{of_now, address_bytes}
use Rattle.micro_claims.proofs.AddressSteps.{nth}
use Rattle.micro_verify.specs.Lazy.{lone_job, Run}
use Rattle.micro_verify.specs.Cause.{WordStops, is_of_cycle_forbidden, is_of_column_too_large, begins_wrong, wants_identity}
use Rattle.micro_verify.proofs.Lone.{Lone}
use Rattle.micro_verify.proofs.Mirrors.{Mirrors, TailMirror, PlaceMirror, is_base_place, begun, is_read_column}
use Rattle.micro_verify.proofs.IndexExact.{only_is}
use Rattle.micro_verify.proofs.AddressesNow.{carries_registers}
use Rattle.micro_verify.proofs.AddressCauses.{elsewhere_there, unwanted_there}
use Rattle.micro_verify.proofs.AddressRules.{row_refused_is, past_is}
use Rattle.micro_verify.proofs.AddressStops.{AtOpener, limit_of, address_stops, unwanted_judged, drop_length}
use Rattle.micro_verify.proofs.AddressColumn.{now_column, in_column_past, in_column_more}
use Rattle.micro_verify.proofs.AddressIdentity.{asks_there, base_takes, none_yet, asked_is, identity_stops}
use Rattle.micro_verify.proofs.OpenerStops.{column_word, AddressAt, now_there, opener_at, limit_is, limit_small, page_small, sure_is, column_stops, row_stops, more_stops}
use Rattle.micro_verify.proofs.AddressTests.{carries_is, takes_is, takes_first, row_cycles, more_left, second_parts, second_holds, and_third, PastTests, past_tests, begins_there, unsure, of_identity, too_many, row_tests}

-- 1. a column past its limit

pub past_stops : (s : Channel) (text : Microprogram) (v : State) (r : Run) (c : Lone) (from count : ℕ) → AddressAt s text v r c from count → column_past s.geometry v from count v.target.tail ≡ true → WordStops s (lone_job s.geometry text) r (AddressWord from count) is_of_column_too_large
past_stops s text v r c from count w h =
    at t.place t.is t.now t.changes t.base
    (past_tests (addresses_left t.place == 0) (takes_identity_at t.place) (from == next_address t.place) (has_second_column from count) (not (is_at_most (bound_plus v.registers.column.hi 1) (column_limit g v t.place))) (sym (ap (column_past g v from count) t.single) ∙ h))
  where
    g : Parts
    g = s.geometry

    j : Job
    j = lone_job g text

    m : Mirrors g j v r.done c
    m = w.mirrors

    t : TailMirror g j v.target (now_of j r.done) c
    t = m.tail

    at : (p : Place) → PlaceMirror p m.tail.address c.facts → (is_inside_address p ≡ true → IsNow g j m.tail.address (now_of j r.done) p) → (is_read_column p ≡ true → may_change_column c.view ≡ true) → is_base_place p ≡ true → PastTests (addresses_left p == 0) (takes_identity_at p) (from == next_address p) (has_second_column from count) (not (is_at_most (bound_plus v.registers.column.hi 1) (column_limit g v p))) → WordStops s j r (AddressWord from count) is_of_column_too_large
    at Closed is now changes base x = let none = x.left in cc
    at InData is now changes base x = let none = x.left in cc
    at Unknown is now changes base x = absurd is
    at (InFeatures n) is now changes base x = absurd is
    at (InColumn n) is now changes base x =
        let both = second_parts from count x.reaches in
        let begins : from ≡ n = eqb-true from n x.begins in
        in_column_past s text r c from count n m.tail.address _ w.fit.alone w.lone (column_word s text v r c from count n begins w) (drop_length n count _ (let few = w.few in omega (arith, few, begins))) is
        (now_column s text r m.tail.address n now) m.registers.column_low (let two = both.1 in omega (arith, two, begins))
        (sym (past_is g v r.done (page_len g) (page_small g w.fit.alone.is_channel.limits) m.registers) ∙ x.over)
    at (After o n) is now changes base x =
        let both = second_parts from count x.reaches in
        let begins : from ≡ first_address o + n = eqb-true from (first_address o + n) x.begins in
        let carries = carries_is o n is.place base x.plain in
        let low : first_address o + n ≤ 1 = let y = both.0 in omega (arith, begins, y) in
        let there = opener_at s text v r c from count o n w (record { old = m.tail.address; opened = is; now = now; changes = changes }) carries (more_left (address_cycles o) n x.left) begins in
        let limit = limit_is s text v r c o n m carries changes in
        column_stops s text v r c from count o n w there (takes_is o n carries low) (omega (arith, low)) both.1
        (sym (ap (λ (l : ℕ). not (is_at_most (bound_plus v.registers.column.hi 1) l)) limit ∙ past_is g v r.done (limit_of g o c.view) (limit_small s w.fit.alone o c.view) m.registers) ∙ x.over)

-- 2. out of place

-- no address is wanted
unwanted_stops : (s : Channel) (text : Microprogram) (v : State) (r : Run) (c : Lone) (from count : ℕ) (p : Place) (a : Address) → AddressAt s text v r c from count → PlaceMirror p a c.facts → (addresses_left p == 0) ≡ true → WordStops s (lone_job s.geometry text) r (AddressWord from count) is_of_cycle_forbidden
unwanted_stops s text v r c from count p a w is h =
    let g = s.geometry in
    let now = now_there s text v r c from count w in
    let xs = drop from (all_bytes (of_now g (lone_job g text) r.done from count now)) in
    let few = w.few in
    let some = w.some in
    address_stops s text r c from count 0 xs is_of_cycle_forbidden (address_bytes g (lone_job g text) r.done from count now) (omega (arith, some)) (drop_length from count (all_bytes (of_now g (lone_job g text) r.done from count now)) (omega (arith, few))) w.fit.alone w.lone tt AddressMisplaced
    (unwanted_judged g c (nth 0 xs) (unwanted_there p a c.facts (nth 0 xs) is h)) refl

not_elsewhere : (p : Place) (a : Address) (t : TailFacts) (from count : ℕ) → PlaceMirror p a t → begins_wrong t from count ≡ false → begins_elsewhere from p ≡ false
not_elsewhere p a t from count is h = at (begins_elsewhere from p) refl
  where
    at : (b : Bool) → begins_elsewhere from p ≡ b → b ≡ false
    at true e = let wrong = elsewhere_there p a t from count is e in let both : true ≡ false = sym wrong ∙ h in cc
    at false e = refl

-- behind an opener whose addresses carry the registers
opener_refused : (s : Channel) (text : Microprogram) (v : State) (r : Run) (c : Lone) (from count : ℕ) (o : Command) (n : ℕ) → AddressAt s text v r c from count → AtOpener s text r c from count o n → n < address_cycles o → (is_read_column (After o n) ≡ true → may_change_column c.view ≡ true) → (from == first_address o + n) ≡ true → surely_past s.geometry v from count (After o n) ≡ false → (ltb (address_cycles o - n) count || (from == first_address o + n && nat_le 5 (from + count) && row_refused s.geometry v (After o n))) ≡ true → WordStops s (lone_job s.geometry text) r (AddressWord from count) is_of_cycle_forbidden
opener_refused s text v r c from count o n w x inside changes same sure h = by (takes_row o) refl
  where
    g : Parts
    g = s.geometry

    j : Job
    j = lone_job g text

    m : Mirrors g j v r.done c
    m = w.mirrors

    column : takes_column o ≡ true → n ≤ 1 → 2 ≤ from + count → nat_le (limit_of g o c.view) (column_now r.done) ≡ false
    column takes low both =
        let first = takes_first o takes in
        let begins = x.begins in
        let second = second_holds from count (omega (arith, begins, first, low)) both in
        sym (ap (λ (l : ℕ). nat_le l v.registers.column.lo) (limit_is s text v r c o n m x.carries changes) ∙ sure_is g v r.done (limit_of g o c.view) m.registers)
        ∙ and_third (from == first_address o + n) (has_second_column from count) (nat_le (column_limit g v (After o n)) v.registers.column.lo) same second sure

    changed : (o : Command) → carries_registers o ≡ true → takes_row o ≡ false → ChangeReadColumn ≡ o
    changed ChangeReadColumn carries other = refl
    changed Read carries other = cc
    changed PageProgram carries other = cc
    changed BlockErase carries other = cc
    changed _ carries other = cc

    Column : Command → Type 0
    Column o =
        AtOpener s text r c from count o n → n < address_cycles o → (takes_column o ≡ true → n ≤ 1 → 2 ≤ from + count → nat_le (limit_of g o c.view) (column_now r.done) ≡ false) → (ltb (address_cycles o - n) count || (from == first_address o + n && nat_le 5 (from + count) && row_refused s.geometry v (After o n))) ≡ true
        → WordStops s j r (AddressWord from count) is_of_cycle_forbidden

    behind_05 : Column ChangeReadColumn
    behind_05 x inside column h =
        let begins = x.begins in
        let from_is : from ≡ n = omega (arith, begins) in
        let low : n ≤ 1 = omega (arith, inside) in
        let more = too_many from count n _ _ from_is low h in
        more_stops s text v r c from count n w x low more (column refl low (omega (arith, more, from_is)))

    by : (b : Bool) → takes_row o ≡ b → WordStops s j r (AddressWord from count) is_of_cycle_forbidden
    by true takes_it =
        let a = of_now g j r.done from count x.now in
        let t = row_tests from count n (first_address o) (address_cycles o) _ _ x.begins (row_cycles o takes_it) w.few h in
        let five = t.0 in
        let row = x.now.row (let y : 2 < from + count = omega (arith, five) in grind (arith, nat_tests, y)) in
        row_stops s text v r c from count o n w x takes_it five (λ takes low. column takes low (omega (arith, five))) (sym (row_refused_is g j v r.done c.view o n a w.fit.base x.carries takes_it m.registers m.lun row refl refl) ∙ t.1)
    by false other = subst Column (changed o x.carries other) behind_05 x inside column h

pub refused_stops : (s : Channel) (text : Microprogram) (v : State) (r : Run) (c : Lone) (from count : ℕ) → AddressAt s text v r c from count → begins_wrong c.facts from count ≡ false → (wants_identity c.facts ≡ true → from ≤ 1) → address_out_of_place s.geometry v from count v.target.tail ≡ true → WordStops s (lone_job s.geometry text) r (AddressWord from count) is_of_cycle_forbidden
refused_stops s text v r c from count w right column_first h =
    at (addresses_left t.place == 0) refl
  where
    g : Parts
    g = s.geometry

    j : Job
    j = lone_job g text

    m : Mirrors g j v r.done c
    m = w.mirrors

    t : TailMirror g j v.target (now_of j r.done) c
    t = m.tail

    by : (p : Place) → PlaceMirror p m.tail.address c.facts → (is_inside_address p ≡ true → IsNow g j m.tail.address (now_of j r.done) p) → (is_read_column p ≡ true → may_change_column c.view ≡ true) → is_base_place p ≡ true → (addresses_left p == 0) ≡ false → begins_elsewhere from p ≡ false → address_out_of_place g v from count p ≡ true → WordStops s j r (AddressWord from count) is_of_cycle_forbidden
    by Closed is now changes base left there out = cc
    by InData is now changes base left there out = cc
    by Unknown is now changes base left there out = absurd is
    by (InFeatures n) is now changes base left there out = absurd is
    by (InColumn n) is now changes base left there out =
        let same = begins_there (2 - n == 0) false (from == n) left refl there in
        let begins : from ≡ n = eqb-true from n same in
        let x = unsure (2 - n == 0) false (surely_past g v from count (InColumn n)) false (ltb (2 - n) count || (from == n && nat_le 5 (from + count) && false)) left refl out in
        let few = w.few in
        let more = too_many from count n (from == n) false begins is.few x.1 in
        let low = is.few in
        in_column_more s text r c from count n m.tail.address _ w.fit.alone w.lone (column_word s text v r c from count n begins w) (drop_length n count _ (omega (arith, few, begins))) is
        (now_column s text r m.tail.address n now) m.registers.column_low more
        (sym (sure_is g v r.done (page_len g) m.registers) ∙ and_third (from == n) (has_second_column from count) (nat_le (page_len g) v.registers.column.lo) same (second_holds from count (omega (arith, begins, low)) (omega (arith, begins, more))) x.0)
    by (After o n) is now changes base left there out = on (reads_identity o) refl
      where
        on : (b : Bool) → reads_identity o ≡ b → WordStops s j r (AddressWord from count) is_of_cycle_forbidden
        on true reads =
            let refused = of_identity (address_cycles o - n == 0) (reads_identity o) (identity_refused g v from count (After o n)) (cond (surely_past g v from count (After o n)) false (ltb (address_cycles o - n) count || (from == first_address o + n && nat_le 5 (from + count) && row_refused g v (After o n)))) left reads out in
            let column : only v.registers.column ≡ Some (column_now r.done) = only_is (column_now r.done) v.registers.column (let x = m.registers.column_low in omega (arith, x)) m.registers.column in
            let b = begun o n m.tail.address c.facts is in
            let asks_o = asks_there o base reads in
            let none : n ≡ 0 = none_yet o n m.tail.address c.facts asks_o is in
            let wants : wants_identity c.facts ≡ true = ap (opened (λ c n. reads_identity c && n == 0)) b.opening ∙ (λ i. reads i && none i == 0) in
            identity_stops s text r c from count o w.fit.base w.fit.alone w.lone (asked_is o n m.tail.address c asks_o is) asks_o w.some w.few (column_first wants) _ _ _ (column_word s text v r c from count from refl w)
            (sym (λ i. w.fit.one i || not (count == 1) || not (nat_le from 1 && base_takes g o (byte_of_column from (column_now r.done)) w.fit.base asks_o i)) ∙ (sym (λ i. ltb 1 g.luns || not (count == 1) || not (is_identity_byte g o from (column i))) ∙ refused))
        on false other =
            let carries = carries_is o n is.place base other in
            let same = begins_there (address_cycles o - n == 0) (reads_identity o) (from == first_address o + n) left other there in
            let x = unsure (address_cycles o - n == 0) (reads_identity o) (surely_past g v from count (After o n)) (identity_refused g v from count (After o n)) (ltb (address_cycles o - n) count || (from == first_address o + n && nat_le 5 (from + count) && row_refused g v (After o n))) left other out in
            let inside = more_left (address_cycles o) n left in
            let at_opener = opener_at s text v r c from count o n w (record { old = m.tail.address; opened = is; now = now; changes = changes }) carries inside (eqb-true from (first_address o + n) same) in
            opener_refused s text v r c from count o n w at_opener inside changes same x.0 x.1

    at : (b : Bool) → (addresses_left t.place == 0) ≡ b → WordStops s j r (AddressWord from count) is_of_cycle_forbidden
    at true e = unwanted_stops s text v r c from count t.place t.address w t.is e
    at false e = by t.place t.is t.now t.changes t.base e (not_elsewhere t.place t.address c.facts from count t.is right) (sym (ap (address_out_of_place g v from count) t.single) ∙ h)
