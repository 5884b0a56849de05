-- Where the address of an opener stops: at its second column cycle, at its last row cycle, at one more than it takes.
use Rattle.std.proofs.lemmas.Bool.Decides.{nat_tests}
use Rattle.std.proofs.Common.{◌≡◌, ℕ, zero, suc, ◌+◌, ◌≤◌, ◌<◌, Bool, true, false, cond, ltb, nat_le, List, Some, None, refl, sym, ap, ◌∙◌, arith, take, drop}
use Rattle.nand_geometry.specs.declared.parts.Parts.{Parts}
use Rattle.nand_geometry.specs.Limits.{InLimits, indices, planes, page_len}
use Rattle.onfi_cycle.specs.declared.command.Command.{Command}
use Rattle.onfi_cycle.specs.declared.command.Command.TheVariants.{Read, ChangeReadColumn, BlockErase, PageProgram}
use Rattle.onfi_cycle.specs.declared.forbidden.Forbidden.TheVariants.{AddressMisplaced, ColumnOutside}
use Rattle.onfi_cycle.specs.declared.target_cycle.TargetCycle.TheVariants.{AddressCycle}
use Rattle.onfi_cycle.specs.LunView.{LunView}
use Rattle.onfi_cycle.specs.Command.{address_cycles}
use Rattle.onfi_cycle.specs.Effect.{is_off}
use Rattle.onfi_cycle.specs.Rules.{may_change_column}
use Rattle.onfi_cycle.specs.Channel.{Channel}
use Rattle.micro_word.specs.declared.word.Word.TheVariants.{Address as AddressWord}
use Rattle.micro_word.specs.Text.{Microprogram}
use Rattle.micro_claims.specs.declared.state.State.{State}
use Rattle.micro_claims.specs.declared.place.Place.TheVariants.{After}
use Rattle.micro_claims.specs.Spans.{greatest_bound}
use Rattle.micro_claims.specs.Against.{first_address, is_inside_address, drives, least_length, column_limit}
use Rattle.micro_program.specs.Program.{Done, column_now, plane_now, index_now}
use Rattle.micro_claims.proofs.Fits.{Address, all_bytes, bytes_of, takes_column, takes_row, Opened, IsNow, now_of}
use Rattle.micro_claims.proofs.Addressing.{AddressNow, of_now, carried_is, address_bytes}
use Rattle.micro_claims.proofs.AddressSteps.{nth}
use Rattle.micro_verify.proofs.AddressTests.{takes_first, two_cycles, row_cycles}
use Rattle.micro_program.specs.Moves.{address}
use Rattle.micro_verify.specs.Lazy.{lone_job, Run}
use Rattle.micro_verify.specs.Cause.{WordStops, is_of_cycle_forbidden, is_of_column_too_large}
use Rattle.micro_verify.proofs.Lone.{Lone, IsAlone, IsLone, judged}
use Rattle.micro_verify.proofs.Mirrors.{Mirrors, RegistersMirror, is_read_column, held_of}
use Rattle.micro_verify.proofs.Told.{shows_may_change}
use Rattle.micro_verify.proofs.Causes.{IsFit}
use Rattle.micro_verify.proofs.CommandsExact.{not_off}
use Rattle.micro_verify.proofs.OutputsExact.{length_is, register_small}
use Rattle.micro_verify.proofs.AddressesJudged.{cursor, address_rule}
use Rattle.micro_verify.proofs.AddressesNow.{carries_registers, changes_column, view_early, address_there, facts_now}
use Rattle.micro_verify.proofs.AddressRules.{is_refused, refused_breaks, column_rule_is}
use Rattle.micro_verify.proofs.AddressStops.{AtOpener, limit_of, rule_none, second_rule, last_rule, last_is, opener_stops, cycle_goes, unwanted_judged}

-- 1. an address word

-- what is known before an address in range, whose row is there if it is needed
pub record AddressAt (s : Channel) (text : Microprogram) (v : State) (r : Run) (c : Lone) (from count : ℕ) : Type 0 where
  pub fit : IsFit s text
  pub lone : IsLone s r.past c
  pub mirrors : Mirrors s.geometry (lone_job s.geometry text) v r.done c
  pub some : 1 ≤ count
  pub few : from + count ≤ 5
  pub row : ltb 2 (from + count) ≡ true → (index_now 0 r.done < indices s.geometry) × (plane_now r.done < planes s.geometry)

pub now_there : (s : Channel) (text : Microprogram) (v : State) (r : Run) (c : Lone) (from count : ℕ) → AddressAt s text v r c from count → AddressNow s.geometry (lone_job s.geometry text) r.done from count
now_there s text v r c from count w =
    address_there s.geometry (lone_job s.geometry text) r.done from count w.fit.alone.is_channel.limits (let one = w.fit.alone.one in omega (arith, one)) w.row

-- its bytes, from a place on that it begins with
pub column_word : (s : Channel) (text : Microprogram) (v : State) (r : Run) (c : Lone) (from count n : ℕ) → from ≡ n → (w : AddressAt s text v r c from count) → address s.geometry (lone_job s.geometry text) r.done from count ≡ Some (take count (drop n (all_bytes (of_now s.geometry (lone_job s.geometry text) r.done from count (now_there s text v r c from count w)))))
column_word s text v r c from count n begins w =
    let now = now_there s text v r c from count w in
    address_bytes s.geometry (lone_job s.geometry text) r.done from count now ∙ ap (λ (m : ℕ). Some (take count (drop m (all_bytes (of_now s.geometry (lone_job s.geometry text) r.done from count now))))) begins

-- what the tail says of an opener
pub record Behind (s : Channel) (text : Microprogram) (r : Run) (c : Lone) (o : Command) (n : ℕ) : Type 0 where
  pub old : Address
  pub opened : Opened o n old c.facts
  pub now : is_inside_address (After o n) ≡ true → IsNow s.geometry (lone_job s.geometry text) old (now_of (lone_job s.geometry text) r.done) (After o n)
  pub changes : is_read_column (After o n) ≡ true → may_change_column c.view ≡ true

pub opener_at : (s : Channel) (text : Microprogram) (v : State) (r : Run) (c : Lone) (from count : ℕ) (o : Command) (n : ℕ) → AddressAt s text v r c from count → Behind s text r c o n → carries_registers o ≡ true → n < address_cycles o → from ≡ first_address o + n → AtOpener s text r c from count o n
opener_at s text v r c from count o n w b carries inside begins =
    record {
      now = now;
      carries = carries;
      begins = begins;
      few = w.few;
      here = λ i. record { facts = facts_now s.geometry (lone_job s.geometry text) r.done from count n o b.old c.facts now carries inside begins w.some b.opened b.now i; view = sym (view_early o c.view n carries inside) i };
      shown = shown o b.changes;
    }
  where
    now : AddressNow s.geometry (lone_job s.geometry text) r.done from count
    now = now_there s text v r c from count w

    shown : (o : Command) → (is_read_column (After o n) ≡ true → may_change_column c.view ≡ true) → changes_column o ≡ true → is_off c.view.latch ≡ false
    shown ChangeReadColumn changes e = not_off c.view (changes refl)
    shown _ changes e = cc

-- 2. the column

-- the claim says how long what the column is of is
pub limit_is : (s : Channel) (text : Microprogram) (v : State) (r : Run) (c : Lone) (o : Command) (n : ℕ) → Mirrors s.geometry (lone_job s.geometry text) v r.done c → carries_registers o ≡ true → (is_read_column (After o n) ≡ true → may_change_column c.view ≡ true) → column_limit s.geometry v (After o n) ≡ limit_of s.geometry o c.view
limit_is s text v r c Read n m carries changes = refl
limit_is s text v r c PageProgram n m carries changes = refl
limit_is s text v r c BlockErase n m carries changes = refl
limit_is s text v r c ChangeReadColumn n m carries changes =
    (λ i. cond (drives (m.shows i)) (least_length s.geometry (m.lun.register i)) 0)
    ∙ (ap (λ (b : Bool). cond b (least_length s.geometry (held_of c.view.register)) 0) (shows_may_change c.view (changes refl)) ∙ length_is s.geometry c.view.register m.lun.known)
limit_is s text v r c _ n m carries changes = cc

pub page_small : (g : Parts) → InLimits g → page_len g ≤ greatest_bound
page_small g l = let x = l.page_bytes_most in let y = l.spare_bytes_most in omega (arith, x, y)

pub limit_small : (s : Channel) → IsAlone s → (o : Command) (view : LunView) → limit_of s.geometry o view ≤ greatest_bound
limit_small s k ChangeReadColumn view = register_small s k view.register
limit_small s k _ view = page_small s.geometry k.is_channel.limits

-- a column that the claim says is surely past is
pub sure_is : (g : Parts) (v : State) (done : List Done) (limit : ℕ) → RegistersMirror g v.registers done → nat_le limit v.registers.column.lo ≡ nat_le limit (column_now done)
sure_is g v done limit m = ap (nat_le limit) (m.column.lo ∙ (rw low refl))
  where
    low : nat_le (column_now done) greatest_bound ≡ true
    low = let x = m.column_low in grind (arith, nat_tests, x)

-- 3. where it stops

-- a column past its limit
pub column_stops : (s : Channel) (text : Microprogram) (v : State) (r : Run) (c : Lone) (from count : ℕ) (o : Command) (n : ℕ) → AddressAt s text v r c from count → AtOpener s text r c from count o n → takes_column o ≡ true → n ≤ 1 → 2 ≤ from + count → nat_le (limit_of s.geometry o c.view) (column_now r.done) ≡ true → WordStops s (lone_job s.geometry text) r (AddressWord from count) is_of_column_too_large
column_stops s text v r c from count o n w x takes low both past = by n x low
  where
    g : Parts
    g = s.geometry

    Stops : Type 0
    Stops = WordStops s (lone_job s.geometry text) r (AddressWord from count) is_of_column_too_large

    two : 2 ≤ address_cycles o
    two = two_cycles o takes

    first : first_address o ≡ 0
    first = takes_first o takes

    breaks : (n : ℕ) (x : AtOpener s text r c from count o n) → judged g (cursor o (of_now g (lone_job g text) r.done from count x.now) c.view 1) (AddressCycle (nth 1 (bytes_of o (of_now g (lone_job g text) r.done from count x.now)))) ≡ Some ColumnOutside
    breaks n x =
        let a = of_now g (lone_job g text) r.done from count x.now in
        (cycle_goes s text r c from count o n 1 x (omega (arith, two)) (omega (arith, first, both))).judged_is
        ∙ (second_rule g o a c.view x.carries takes ∙ (column_rule_is (limit_of g o c.view) a (column_now r.done) refl w.mirrors.registers.column_low ∙ ap (λ (b : Bool). cond b (Some ColumnOutside) None) past))

    by : (n : ℕ) → AtOpener s text r c from count o n → n ≤ 1 → Stops
    by zero x low =
        opener_stops s text r c from count o 0 1 is_of_column_too_large x w.fit.alone w.lone (let e = x.begins in omega (arith, e, first, both)) (omega (arith, two))
        (λ i least most. rule_none g o _ c.view i x.carries (λ t e. absurd (omega (arith, most, e))) (λ e. absurd (let f = last_is o i x.carries e in omega (arith, f, first, most)))) ColumnOutside (breaks 0 x) refl
    by (suc zero) x low =
        opener_stops s text r c from count o 1 0 is_of_column_too_large x w.fit.alone w.lone (let y = w.some in omega (arith, y)) (omega (arith, two)) (λ i least most. absurd (omega (arith, least, most))) ColumnOutside (breaks 1 x) refl
    by (suc (suc n)) x low = absurd (omega (arith, low))

-- a row that is refused, where the column is inside
pub row_stops : (s : Channel) (text : Microprogram) (v : State) (r : Run) (c : Lone) (from count : ℕ) (o : Command) (n : ℕ) → AddressAt s text v r c from count → (x : AtOpener s text r c from count o n) → takes_row o ≡ true → 5 ≤ from + count → (takes_column o ≡ true → n ≤ 1 → nat_le (limit_of s.geometry o c.view) (column_now r.done) ≡ false) → is_refused s.geometry o (of_now s.geometry (lone_job s.geometry text) r.done from count x.now) c.view ≡ true → WordStops s (lone_job s.geometry text) r (AddressWord from count) is_of_cycle_forbidden
row_stops s text v r c from zero o n w x takes_it five column refused = absurd (let y = w.some in omega (arith, y))
row_stops s text v r c from (suc m) o n w x takes_it five column refused =
    let breaks = refused_breaks g o a c.view refused in
    opener_stops s text r c from (suc m) o n m is_of_cycle_forbidden x w.fit.alone w.lone (omega arith) (omega (arith, last, cycles))
    (λ i least most. rule_none g o a c.view i x.carries
    (λ t e. ap (nat_le (limit_of g o c.view)) (carried_is (column_now r.done) w.mirrors.registers.column_low) ∙ column t (omega (arith, least, e)))
    (λ e. absurd (let f = last_is o i x.carries e in omega (arith, f, most, last)))) breaks.0
    ((cycle_goes s text r c from (suc m) o n (n + m) x (omega (arith, last, cycles)) (omega (arith, last, five))).judged_is ∙ (last_rule g o a c.view (n + m) x.carries takes_it last ∙ breaks.1.0)) breaks.1.1
  where
    g : Parts
    g = s.geometry

    a : Address
    a = of_now s.geometry (lone_job s.geometry text) r.done from (suc m) x.now

    cycles : first_address o + address_cycles o ≡ 5
    cycles = row_cycles o takes_it

    last : first_address o + (n + m) ≡ 4
    last = let e = x.begins in let y = w.few in omega (arith, e, y, five)

-- a third address behind 05h
pub more_stops : (s : Channel) (text : Microprogram) (v : State) (r : Run) (c : Lone) (from count n : ℕ) → AddressAt s text v r c from count → AtOpener s text r c from count ChangeReadColumn n → n ≤ 1 → 2 < n + count → nat_le (limit_of s.geometry ChangeReadColumn c.view) (column_now r.done) ≡ false → WordStops s (lone_job s.geometry text) r (AddressWord from count) is_of_cycle_forbidden
more_stops s text v r c from count n w x low more inside = by n x low more
  where
    g : Parts
    g = s.geometry

    none : (n i : ℕ) (x : AtOpener s text r c from count ChangeReadColumn n) → address_rule g ChangeReadColumn (of_now g (lone_job g text) r.done from count x.now) c.view i ≡ None
    none n i x =
        rule_none g ChangeReadColumn (of_now g (lone_job g text) r.done from count x.now) c.view i refl
        (λ t e. ap (nat_le (limit_of g ChangeReadColumn c.view)) (carried_is (column_now r.done) w.mirrors.registers.column_low) ∙ inside) (λ e. cc)

    by : (n : ℕ) → AtOpener s text r c from count ChangeReadColumn n → n ≤ 1 → 2 < n + count → WordStops s (lone_job s.geometry text) r (AddressWord from count) is_of_cycle_forbidden
    by zero x low more =
        opener_stops s text r c from count ChangeReadColumn 0 2 is_of_cycle_forbidden x w.fit.alone w.lone (omega (arith, more)) (omega arith) (λ i least most. none 0 i x) AddressMisplaced
        (unwanted_judged g (cursor ChangeReadColumn (of_now g (lone_job g text) r.done from count x.now) c.view 2) _ refl) refl
    by (suc zero) x low more =
        opener_stops s text r c from count ChangeReadColumn 1 1 is_of_cycle_forbidden x w.fit.alone w.lone (omega (arith, more)) (omega arith) (λ i least most. none 1 i x) AddressMisplaced
        (unwanted_judged g (cursor ChangeReadColumn (of_now g (lone_job g text) r.done from count x.now) c.view 2) _ refl) refl
    by (suc (suc n)) x low more = absurd (omega (arith, low))
