-- How far the cycles of an address go: which of them pass, and at which the word stops.
use Rattle.std.proofs.Common.{◌≡◌, ℕ, zero, suc, ◌+◌, ◌≤◌, ◌<◌, Bool, true, false, cond, nat_le, List, [], ◌∷◌, ◌++◌, Option, Some, None, refl, sym, ap, ◌∙◌, subst, arith, length, take, drop, eqb-true}
use Rattle.std.proofs.lemmas.Bool.Decides.{nat_tests}
use Rattle.nand_geometry.specs.declared.parts.Parts.{Parts}
use Rattle.nand_geometry.specs.Limits.{page_len}
use Rattle.onfi_cycle.specs.declared.command.Command.{Command}
use Rattle.onfi_cycle.specs.declared.command.Command.TheVariants.{Read, ChangeReadColumn, BlockErase, PageProgram}
use Rattle.onfi_cycle.specs.declared.forbidden.Forbidden.{Forbidden}
use Rattle.onfi_cycle.specs.declared.forbidden.Forbidden.TheVariants.{AddressMisplaced, ColumnOutside}
use Rattle.onfi_cycle.specs.declared.item.Kind.TheVariants.{Adr}
use Rattle.onfi_cycle.specs.declared.target_cycle.TargetCycle.TheVariants.{AddressCycle}
use Rattle.onfi_cycle.specs.LunView.{LunView}
use Rattle.onfi_cycle.specs.Command.{address_cycles, at_last_row}
use Rattle.onfi_cycle.specs.Sequence.{wants_address}
use Rattle.onfi_cycle.specs.Effect.{is_off}
use Rattle.onfi_cycle.specs.Rules.{register_len, breaks_command_unknown, breaks_sequence_open, breaks_several_luns, breaks_no_column_to_change, breaks_command_misplaced, breaks_address_misplaced}
use Rattle.onfi_cycle.specs.Channel.{Channel}
use Rattle.micro_word.specs.declared.word.Word.TheVariants.{Address as AddressWord}
use Rattle.micro_word.specs.Text.{Microprogram}
use Rattle.micro_claims.specs.Against.{first_address}
use Rattle.micro_program.specs.Moves.{Move, Give, gives, address, and_then}
use Rattle.micro_claims.proofs.Fits.{Address, all_bytes, bytes_of, takes_column, takes_row}
use Rattle.micro_claims.proofs.Addressing.{AddressNow, of_now, address_bytes}
use Rattle.micro_claims.proofs.AddressSteps.{nth, carried}
use Rattle.micro_verify.specs.Lazy.{lone_job, Run}
use Rattle.micro_verify.specs.Cause.{WordStops}
use Rattle.micro_verify.proofs.Lone.{Lone, IsAlone, IsLone, MovesPass, lone_after, judged, stops_there}
use Rattle.micro_verify.proofs.AddressesJudged.{cursor, address_rule, column_rule, row_rule, Passed, all_pass}
use Rattle.micro_verify.proofs.AddressesNow.{carries_registers, changes_column, row_there, address_goes, Goes as CycleGoes}
use Rattle.micro_verify.proofs.AddressRules.{is_refused, taken_breaks_none}
use Rattle.onfi_cycle.specs.Lun.{programs}

-- 1. the moves of the word

-- some first moves, and the one after them
record Cut (m count : ℕ) (xs : List ℕ) : Type 0 where
  rest : List ℕ
  parts : gives Adr (take count xs) ≡ gives Adr (take m xs) ++ (Give Adr (nth m xs) ∷ gives Adr rest)

cut : (m count : ℕ) (xs : List ℕ) → m < count → count ≤ length xs → Cut m count xs
cut m zero xs less few = absurd (omega (arith, less))
cut m (suc count) [] less few = absurd (omega (arith, few))
cut zero (suc count) (x ∷ xs) less few = record { rest = take count xs; parts = refl }
cut (suc m) (suc count) (x ∷ xs) less few =
    let later = cut m count xs (omega (arith, less)) (omega (arith, few)) in
    record { rest = later.rest; parts = ap (λ (ms : List Move). Give Adr x ∷ ms) later.parts }

pub nth_drop : (n m : ℕ) (xs : List ℕ) → nth m (drop n xs) ≡ nth (n + m) xs
nth_drop zero m xs = ap (λ (k : ℕ). nth k xs) (let e : m ≡ 0 + m = omega arith in e)
nth_drop (suc n) m [] = refl
nth_drop (suc n) m (x ∷ xs) = nth_drop n m xs ∙ ap (λ (k : ℕ). nth k (x ∷ xs)) (let e : suc (n + m) ≡ suc n + m = omega arith in e)

pub drop_length : (n k : ℕ) (xs : List ℕ) → n + k ≤ length xs → k ≤ length (drop n xs)
drop_length zero k xs few = omega (arith, few)
drop_length (suc n) k [] few = absurd (omega (arith, few))
drop_length (suc n) k (x ∷ xs) few = drop_length n k xs (omega (arith, few))

-- the first cycles of the word pass, and the next one breaks a rule
pub address_stops : (s : Channel) (text : Microprogram) (r : Run) (c : Lone) (from count m : ℕ) (xs : List ℕ) (sort : Forbidden → Bool) → address s.geometry (lone_job s.geometry text) r.done from count ≡ Some (take count xs) → m < count → count ≤ length xs → IsAlone s → IsLone s r.past c → MovesPass s.geometry (gives Adr (take m xs)) c → (rule : Forbidden) → judged s.geometry (lone_after s.geometry (gives Adr (take m xs)) c) (AddressCycle (nth m xs)) ≡ Some rule → sort rule ≡ true → WordStops s (lone_job s.geometry text) r (AddressWord from count) sort
address_stops s text r c from count m xs sort bytes less few k is pass rule breaks sorted =
    let x = cut m count xs less few in
    record {
      moved = gives Adr (take m xs) ++ (Give Adr (nth m xs) ∷ gives Adr x.rest);
      is_moved = ap (λ (o : Option (List ℕ)). and_then o (λ bytes. Some (gives Adr bytes))) bytes ∙ ap (λ (ms : List Move). Some ms) x.parts;
      stops = stops_there s (gives Adr (take m xs)) (Give Adr (nth m xs)) (gives Adr x.rest) r.past c sort k is pass rule breaks sorted;
    }

-- an address that isn't wanted
pub unwanted_judged : (g : Parts) (c : Lone) (byte : ℕ) → wants_address c.facts byte ≡ false → judged g c (AddressCycle byte) ≡ Some AddressMisplaced
unfolding breaks_command_unknown breaks_sequence_open breaks_several_luns breaks_no_column_to_change breaks_command_misplaced breaks_address_misplaced
unwanted_judged g c byte h = rw h refl

-- 2. the rules of an opener's addresses

-- how long what the column is of is
abbrev pub limit_of : Parts → Command → LunView → ℕ
limit_of g ChangeReadColumn view = register_len g view.register
limit_of g _ view = page_len g

pub rule_none : (g : Parts) (o : Command) (a : Address) (view : LunView) (i : ℕ) → carries_registers o ≡ true → (takes_column o ≡ true → i ≡ 1 → nat_le (limit_of g o view) (carried a) ≡ false) → (at_last_row o i ≡ true → (is_refused g o a view ≡ false) × (programs view ≡ false)) → address_rule g o a view i ≡ None
rule_none g Read a view zero carries column row = refl
rule_none g Read a view (suc zero) carries column row = ap (λ (b : Bool). cond b (Some ColumnOutside) None) (column refl refl)
rule_none g Read a view (suc (suc zero)) carries column row = refl
rule_none g Read a view (suc (suc (suc zero))) carries column row = refl
rule_none g Read a view (suc (suc (suc (suc zero)))) carries column row = taken_breaks_none g Read a view (row refl)
rule_none g Read a view (suc (suc (suc (suc (suc i))))) carries column row = refl
rule_none g PageProgram a view zero carries column row = refl
rule_none g PageProgram a view (suc zero) carries column row = ap (λ (b : Bool). cond b (Some ColumnOutside) None) (column refl refl)
rule_none g PageProgram a view (suc (suc zero)) carries column row = refl
rule_none g PageProgram a view (suc (suc (suc zero))) carries column row = refl
rule_none g PageProgram a view (suc (suc (suc (suc zero)))) carries column row = taken_breaks_none g PageProgram a view (row refl)
rule_none g PageProgram a view (suc (suc (suc (suc (suc i))))) carries column row = refl
rule_none g BlockErase a view zero carries column row = refl
rule_none g BlockErase a view (suc zero) carries column row = refl
rule_none g BlockErase a view (suc (suc zero)) carries column row = taken_breaks_none g BlockErase a view (row refl)
rule_none g BlockErase a view (suc (suc (suc i))) carries column row = refl
rule_none g ChangeReadColumn a view zero carries column row = refl
rule_none g ChangeReadColumn a view (suc zero) carries column row = ap (λ (b : Bool). cond b (Some ColumnOutside) None) (column refl refl)
rule_none g ChangeReadColumn a view (suc (suc i)) carries column row = refl
rule_none g _ a view i carries column row = cc

pub second_rule : (g : Parts) (o : Command) (a : Address) (view : LunView) → carries_registers o ≡ true → takes_column o ≡ true → address_rule g o a view 1 ≡ column_rule (limit_of g o view) (carried a)
second_rule g Read a view carries takes = refl
second_rule g PageProgram a view carries takes = refl
second_rule g ChangeReadColumn a view carries takes = refl
second_rule g BlockErase a view carries takes = cc
second_rule g _ a view carries takes = cc

pub last_rule : (g : Parts) (o : Command) (a : Address) (view : LunView) (i : ℕ) → carries_registers o ≡ true → takes_row o ≡ true → first_address o + i ≡ 4 → address_rule g o a view i ≡ row_rule g o a view
last_rule g Read a view i carries takes e = ap (address_rule g Read a view) (let x : i ≡ 4 = omega (arith, e) in x)
last_rule g PageProgram a view i carries takes e = ap (address_rule g PageProgram a view) (let x : i ≡ 4 = omega (arith, e) in x)
last_rule g BlockErase a view i carries takes e = ap (address_rule g BlockErase a view) (let x : i ≡ 2 = omega (arith, e) in x)
last_rule g ChangeReadColumn a view i carries takes e = cc
last_rule g _ a view i carries takes e = cc

-- the last row cycle is the fifth of C1 C2 R1 R2 R3
pub last_is : (o : Command) (i : ℕ) → carries_registers o ≡ true → at_last_row o i ≡ true → first_address o + i ≡ 4
last_is Read i carries e = let x = eqb-true i 4 e in omega (arith, x)
last_is PageProgram i carries e = let x = eqb-true i 4 e in omega (arith, x)
last_is BlockErase i carries e = let x = eqb-true i 2 e in omega (arith, x)
last_is ChangeReadColumn i carries e = cc
last_is _ i carries e = cc

-- 3. so many addresses of an opener

-- the word goes on with the addresses of an opener
pub record AtOpener (s : Channel) (text : Microprogram) (r : Run) (c : Lone) (from count : ℕ) (o : Command) (n : ℕ) : Type 0 where
  pub now : AddressNow s.geometry (lone_job s.geometry text) r.done from count
  pub carries : carries_registers o ≡ true
  pub begins : from ≡ first_address o + n
  pub few : from + count ≤ 5
  pub here : c ≡ cursor o (of_now s.geometry (lone_job s.geometry text) r.done from count now) c.view n
  pub shown : changes_column o ≡ true → is_off c.view.latch ≡ false

drop_parts : (o : Command) (n : ℕ) (a : Address) → carries_registers o ≡ true → drop (first_address o + n) (all_bytes a) ≡ drop n (bytes_of o a)
drop_parts Read n a carries = ap (λ (m : ℕ). drop m (all_bytes a)) (let e : 0 + n ≡ n = omega arith in e)
drop_parts PageProgram n a carries = ap (λ (m : ℕ). drop m (all_bytes a)) (let e : 0 + n ≡ n = omega arith in e)
drop_parts ChangeReadColumn n a carries = ap (λ (m : ℕ). drop m (all_bytes a)) (let e : 0 + n ≡ n = omega arith in e)
drop_parts BlockErase n a carries = ap (λ (m : ℕ). drop m (all_bytes a)) (let e : 2 + n ≡ suc (suc n) = omega arith in e)
drop_parts _ n a carries = cc

bytes_length : (o : Command) (a : Address) → carries_registers o ≡ true → first_address o + length (bytes_of o a) ≡ 5
bytes_length Read a carries = refl
bytes_length PageProgram a carries = refl
bytes_length ChangeReadColumn a carries = refl
bytes_length BlockErase a carries = refl
bytes_length _ a carries = cc

-- the bytes of the word are those of the opener's address from place n on
pub bytes_there : (s : Channel) (text : Microprogram) (r : Run) (c : Lone) (from count : ℕ) (o : Command) (n : ℕ) (w : AtOpener s text r c from count o n) → address s.geometry (lone_job s.geometry text) r.done from count ≡ Some (take count (drop n (bytes_of o (of_now s.geometry (lone_job s.geometry text) r.done from count w.now))))
bytes_there s text r c from count o n w =
    let a = of_now s.geometry (lone_job s.geometry text) r.done from count w.now in
    address_bytes s.geometry (lone_job s.geometry text) r.done from count w.now ∙ ap (λ (xs : List ℕ). Some (take count xs)) (ap (λ (m : ℕ). drop m (all_bytes a)) w.begins ∙ drop_parts o n a w.carries)

-- one of its cycles
pub cycle_goes : (s : Channel) (text : Microprogram) (r : Run) (c : Lone) (from count : ℕ) (o : Command) (n i : ℕ) (w : AtOpener s text r c from count o n) → i < address_cycles o → first_address o + i < from + count → CycleGoes s.geometry o (of_now s.geometry (lone_job s.geometry text) r.done from count w.now) c.view i
cycle_goes s text r c from count o n i w inside high =
    let j = lone_job s.geometry text in
    let a = of_now s.geometry j r.done from count w.now in
    address_goes s.geometry o a c.view i w.carries inside
    (λ e. row_there s.geometry j a refl (w.now.row (let x = last_is o i w.carries e in let y : 2 < from + count = omega (arith, x, high) in grind (arith, nat_tests, y))))
    w.shown

-- these of its cycles pass
pub so_many : (s : Channel) (text : Microprogram) (r : Run) (c : Lone) (from count : ℕ) (o : Command) (n m : ℕ) (w : AtOpener s text r c from count o n) → m ≤ count → n + m ≤ address_cycles o → ((i : ℕ) → n ≤ i → i < n + m → address_rule s.geometry o (of_now s.geometry (lone_job s.geometry text) r.done from count w.now) c.view i ≡ None) → Passed s.geometry (take m (drop n (bytes_of o (of_now s.geometry (lone_job s.geometry text) r.done from count w.now)))) (cursor o (of_now s.geometry (lone_job s.geometry text) r.done from count w.now) c.view n) (cursor o (of_now s.geometry (lone_job s.geometry text) r.done from count w.now) c.view (n + m))
so_many s text r c from count o n m w most cycles none =
    all_pass g (cursor o a c.view) (bytes_of o a) m n (let len = bytes_length o a w.carries in let x = w.begins in let y = w.few in omega (arith, len, x, y, most))
    (λ i low high. let y = cycle_goes s text r c from count o n i w (omega (arith, high, cycles)) (let x = w.begins in omega (arith, x, high, most)) in record { none = y.judged_is ∙ none i low high; leads = y.leads })
  where
    g : Parts
    g = s.geometry

    a : Address
    a = of_now s.geometry (lone_job s.geometry text) r.done from count w.now

-- some of its cycles pass, and the next one breaks a rule
pub opener_stops : (s : Channel) (text : Microprogram) (r : Run) (c : Lone) (from count : ℕ) (o : Command) (n m : ℕ) (sort : Forbidden → Bool) (w : AtOpener s text r c from count o n) → IsAlone s → IsLone s r.past c → m < count → n + m ≤ address_cycles o → ((i : ℕ) → n ≤ i → i < n + m → address_rule s.geometry o (of_now s.geometry (lone_job s.geometry text) r.done from count w.now) c.view i ≡ None) → (rule : Forbidden) → judged s.geometry (cursor o (of_now s.geometry (lone_job s.geometry text) r.done from count w.now) c.view (n + m)) (AddressCycle (nth (n + m) (bytes_of o (of_now s.geometry (lone_job s.geometry text) r.done from count w.now)))) ≡ Some rule → sort rule ≡ true → WordStops s (lone_job s.geometry text) r (AddressWord from count) sort
opener_stops s text r c from count o n m sort w k is less cycles none rule breaks sorted =
    let g = s.geometry in
    let a = of_now s.geometry (lone_job s.geometry text) r.done from count w.now in
    let xs = drop n (bytes_of o a) in
    let q = so_many s text r c from count o n m w (omega (arith, less)) cycles none in
    let after : lone_after g (gives Adr (take m xs)) c ≡ cursor o a c.view (n + m) = ap (lone_after g (gives Adr (take m xs))) w.here ∙ q.leads in
    address_stops s text r c from count m xs sort (bytes_there s text r c from count o n w) less
    (drop_length n count (bytes_of o a) (let len = bytes_length o a w.carries in let x = w.begins in let y = w.few in omega (arith, len, x, y)))
    k is (subst (λ (x : Lone). MovesPass g (gives Adr (take m xs)) x) (sym w.here) q.pass) rule
    ((λ i. judged g (after i) (AddressCycle (nth_drop n m (bytes_of o a) i))) ∙ breaks) sorted
