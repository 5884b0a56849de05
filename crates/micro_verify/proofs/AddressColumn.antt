-- The two addresses of 85h: how they are judged, what they leave, and where they stop.
use Rattle.std.proofs.Common.{◌≡◌, ℕ, zero, suc, ◌+◌, ◌*◌, ◌/◌, ◌%◌, ◌≤◌, ◌<◌, ◌==◌, Bool, true, false, ◌&&◌, cond, not, nat_le, List, ◌∷◌, Option, Some, None, refl, ap, ◌∙◌, arith, length, take, drop}
use Rattle.std.proofs.Math.Bool.{or-false}
use Rattle.nand_geometry.specs.declared.parts.Parts.{Parts}
use Rattle.nand_geometry.specs.Limits.{page_len}
use Rattle.onfi_cycle.specs.declared.forbidden.Forbidden.TheVariants.{AddressMisplaced, ColumnOutside}
use Rattle.onfi_cycle.specs.declared.opening.Opening.{Opening}
use Rattle.onfi_cycle.specs.declared.target_cycle.TargetCycle.TheVariants.{AddressCycle}
use Rattle.onfi_cycle.specs.declared.tail_facts.TailFacts.{TailFacts}
use Rattle.onfi_cycle.specs.Command.{addresses_the_array, at_last_row, is_read_id}
use Rattle.onfi_cycle.specs.Sequence.{facts_after, opened, column_with}
use Rattle.onfi_cycle.specs.Rules.{is_refused_by}
use Rattle.onfi_cycle.specs.Channel.{Channel}
use Rattle.micro_word.specs.declared.word.Word.TheVariants.{Address as AddressWord}
use Rattle.micro_word.specs.Text.{Microprogram}
use Rattle.micro_program.specs.Moves.{address}
use Rattle.micro_program.specs.Program.{column_now}
use Rattle.micro_claims.specs.Against.{is_inside_address}
use Rattle.micro_claims.specs.declared.place.Place.TheVariants.{InColumn}
use Rattle.micro_claims.proofs.Fits.{Address, ColumnBegun, IsNow, now_of}
use Rattle.micro_claims.proofs.Addressing.{carried_is}
use Rattle.micro_claims.proofs.SoundAddress.{with_column, first_led, second_led}
use Rattle.micro_verify.specs.Lazy.{lone_job, Run}
use Rattle.micro_verify.specs.Cause.{WordStops, is_of_cycle_forbidden, is_of_column_too_large}
use Rattle.micro_verify.proofs.Lone.{Lone, IsAlone, IsLone, based, lone_behind, judged}
use Rattle.micro_verify.proofs.Mirrors.{InInputs}
use Rattle.micro_verify.proofs.InputsExact.{inputs_facts}
use Rattle.micro_verify.proofs.AddressesJudged.{plain_judged, column_rule}
use Rattle.micro_verify.proofs.AddressStops.{address_stops, unwanted_judged}

-- 1. one cycle

pub first_judged : (g : Parts) (c : Lone) (a : Address) (byte : ℕ) → ColumnBegun 0 a c.facts → judged g c (AddressCycle byte) ≡ None
first_judged g c a byte b =
    plain_judged g c byte (rw (b.alone, b.program.phase) refl) (ap (opened (λ d n. true && at_last_row d n)) b.alone) (ap (opened (λ d n. addresses_the_array d && at_last_row d n)) b.alone) (ap (λ (o : Option Opening). opened (λ d n. is_read_id d) o && not (byte == 0x20)) b.alone) (λ p q. ap (λ (o : Option Opening). is_refused_by (based g) o p q) b.alone)
    ∙ (rw (b.alone, b.program.phase) refl)

pub second_judged : (g : Parts) (c : Lone) (a : Address) (column : ℕ) → column < 65536 → ColumnBegun 1 (with_column a column) c.facts → judged g c (AddressCycle (column / 256 % 256)) ≡ column_rule (page_len g) column
second_judged g c a column low b =
    plain_judged g c (column / 256 % 256) (rw (b.alone, b.program.phase) refl) (ap (opened (λ d n. true && at_last_row d n)) b.alone) (ap (opened (λ d n. addresses_the_array d && at_last_row d n)) b.alone) (ap (λ (o : Option Opening). opened (λ d n. is_read_id d) o && not (column / 256 % 256 == 0x20)) b.alone) (λ p q. ap (λ (o : Option Opening). is_refused_by (based g) o p q) b.alone)
    ∙ (rw (b.alone, b.program.phase) (ap (λ (x : Bool). cond x (Some ColumnOutside) None) (or-false _ ∙ ap (nat_le (page_len g)) whole)))
  where
    whole : column_with c.facts (column / 256 % 256) ≡ column
    whole = ap (λ (n : ℕ). n % 256 + 256 * (column / 256 % 256)) (b.column refl) ∙ carried_is column low

-- the address leaves the LUN as it is
pub behind_is : (g : Parts) (c : Lone) (n : ℕ) (a : Address) (byte : ℕ) → ColumnBegun n a c.facts → lone_behind g (AddressCycle byte) c ≡ record { facts = facts_after (AddressCycle byte) c.facts; view = c.view }
behind_is g c n a byte b = let alone = b.alone in rw alone refl

-- the tail behind both is in the data
pub in_data_again : (a : Address) (t : TailFacts) (byte : ℕ) → ColumnBegun 1 a t → InInputs a (facts_after (AddressCycle byte) t)
in_data_again a t byte b = inputs_facts a (facts_after (AddressCycle byte) t) (rw (b.program.begun, b.alone) refl) (second_led a t byte b).0

-- the column begun is that of the register
pub renewed : (a : Address) (t : TailFacts) (column : ℕ) → ColumnBegun 1 a t → a.column ≡ column → ColumnBegun 1 (with_column a column) t
renewed a t column b e = record { few = b.few; alone = b.alone; program = record { phase = b.program.phase; row = b.program.row; begun = b.program.begun }; column = λ x. b.column x ∙ ap (λ (m : ℕ). m % 256) e }

pub now_column : (s : Channel) (text : Microprogram) (r : Run) (old : Address) (n : ℕ) → (is_inside_address (InColumn n) ≡ true → IsNow s.geometry (lone_job s.geometry text) old (now_of (lone_job s.geometry text) r.done) (InColumn n)) → n ≡ 1 → old.column ≡ column_now r.done
now_column s text r old n now e = (now (ap (λ (m : ℕ). is_inside_address (InColumn m)) e)).column

-- 2. where they stop

-- a column past the page
pub in_column_past : (s : Channel) (text : Microprogram) (r : Run) (c : Lone) (from count n : ℕ) (old : Address) (rest : List ℕ) → IsAlone s → IsLone s r.past c → address s.geometry (lone_job s.geometry text) r.done from count ≡ Some (take count (drop n (column_now r.done % 256 ∷ (column_now r.done / 256 % 256 ∷ rest)))) → count ≤ length (drop n (column_now r.done % 256 ∷ (column_now r.done / 256 % 256 ∷ rest))) → ColumnBegun n old c.facts → (n ≡ 1 → old.column ≡ column_now r.done) → column_now r.done < 65536 → 2 ≤ n + count → nat_le (page_len s.geometry) (column_now r.done) ≡ true → WordStops s (lone_job s.geometry text) r (AddressWord from count) is_of_column_too_large
in_column_past s text r c from count zero old rest k is bytes few b now low both past =
    let g = s.geometry in
    let column = column_now r.done in
    address_stops s text r c from count 1 (column % 256 ∷ (column / 256 % 256 ∷ rest)) is_of_column_too_large bytes (omega (arith, both)) few k is (first_judged g c old (column % 256) b, tt) ColumnOutside
    (second_judged g (lone_behind g (AddressCycle (column % 256)) c) old column low (first_led old c.facts column b) ∙ ap (λ (x : Bool). cond x (Some ColumnOutside) None) past) refl
in_column_past s text r c from count (suc zero) old rest k is bytes few b now low both past =
    let g = s.geometry in
    let column = column_now r.done in
    address_stops s text r c from count 0 (column / 256 % 256 ∷ rest) is_of_column_too_large bytes (omega (arith, both)) few k is tt ColumnOutside
    (second_judged g c old column low (renewed old c.facts column b (now refl)) ∙ ap (λ (x : Bool). cond x (Some ColumnOutside) None) past) refl
in_column_past s text r c from count (suc (suc n)) old rest k is bytes few b now low both past = let most = b.few in absurd (omega (arith, most))

-- a third address
pub in_column_more : (s : Channel) (text : Microprogram) (r : Run) (c : Lone) (from count n : ℕ) (old : Address) (rest : List ℕ) → IsAlone s → IsLone s r.past c → address s.geometry (lone_job s.geometry text) r.done from count ≡ Some (take count (drop n (column_now r.done % 256 ∷ (column_now r.done / 256 % 256 ∷ rest)))) → count ≤ length (drop n (column_now r.done % 256 ∷ (column_now r.done / 256 % 256 ∷ rest))) → ColumnBegun n old c.facts → (n ≡ 1 → old.column ≡ column_now r.done) → column_now r.done < 65536 → 2 < n + count → nat_le (page_len s.geometry) (column_now r.done) ≡ false → WordStops s (lone_job s.geometry text) r (AddressWord from count) is_of_cycle_forbidden
in_column_more s text r c from count zero old rest k is bytes few b now low more inside =
    let g = s.geometry in
    let column = column_now r.done in
    let one = lone_behind g (AddressCycle (column % 256)) c in
    let begun = first_led old c.facts column b in
    address_stops s text r c from count 2 (column % 256 ∷ (column / 256 % 256 ∷ rest)) is_of_cycle_forbidden bytes (omega (arith, more)) few k is
    (first_judged g c old (column % 256) b, (second_judged g one old column low begun ∙ ap (λ (x : Bool). cond x (Some ColumnOutside) None) inside, tt)) AddressMisplaced
    (unwanted_judged g (lone_behind g (AddressCycle (column / 256 % 256)) one) _ ((in_data_again (with_column old column) one.facts (column / 256 % 256) begun).address _)) refl
in_column_more s text r c from count (suc zero) old rest k is bytes few b now low more inside =
    let g = s.geometry in
    let column = column_now r.done in
    let begun = renewed old c.facts column b (now refl) in
    address_stops s text r c from count 1 (column / 256 % 256 ∷ rest) is_of_cycle_forbidden bytes (omega (arith, more)) few k is
    (second_judged g c old column low begun ∙ ap (λ (x : Bool). cond x (Some ColumnOutside) None) inside, tt) AddressMisplaced
    (unwanted_judged g (lone_behind g (AddressCycle (column / 256 % 256)) c) _ ((in_data_again (with_column old column) c.facts (column / 256 % 256) begun).address _)) refl
in_column_more s text r c from count (suc (suc n)) old rest k is bytes few b now low more inside = let most = b.few in absurd (omega (arith, most))
