-- An address word that nothing is against: its bytes, and what stands at the place where it begins.
use Rattle.std.proofs.Common.{◌≡◌, ℕ, zero, suc, ◌+◌, ◌*◌, ◌/◌, ◌%◌, ◌≤◌, ◌<◌, ◌==◌, Bool, true, false, ◌&&◌, ◌||◌, cond, not, ltb, nat_le, List, [], ◌∷◌, ◌++◌, Option, Some, None, refl, sym, ap, ◌∙◌, arith, eqb-true, take, drop}
use Rattle.std.proofs.lemmas.Bool.Decides.{nat_tests}
use Rattle.std.proofs.lemmas.Bool.{and_right, not-false, or_parts}
use Rattle.onfi_cycle.proofs.Booleans.{and_rest}
use Rattle.nand_geometry.specs.declared.parts.Parts.{Parts}
use Rattle.nand_geometry.specs.Limits.{planes, indices}
use Rattle.nand_geometry.specs.Row.{indexed, row_number, row_cycles, row_bytes_of, ReadsBack}
use Rattle.onfi_cycle.specs.declared.tail_facts.TailFacts.{TailFacts}
use Rattle.onfi_cycle.specs.Channel.{Channel}
use Rattle.micro_claims.specs.Spans.{bound_plus, is_at_most}
use Rattle.micro_claims.specs.Planes.{are_below}
use Rattle.micro_claims.proofs.PlaneSets.{below_count}
use Rattle.micro_claims.specs.State.{State, Place}
use Rattle.micro_claims.specs.Against.{addresses_left, next_address, takes_identity_at, has_second_column, column_limit, row_refused, surely_past, address_out_of_place, begins_elsewhere, column_past, row_outside}
use Rattle.micro_program.specs.Program.{Job, Done, column_now, plane_now, index_now}
use Rattle.micro_program.specs.Moves.{address, part, column_bytes, and_then}
use Rattle.micro_program.proofs.Below.{rows}
use Rattle.micro_program.proofs.Basics.{there_lun}
use Rattle.micro_claims.proofs.Fits.{RegistersFit, Address, all_bytes, facts_behind, RowIs}
use Rattle.micro_claims.proofs.Numbers.{surely}
use Rattle.micro_claims.proofs.Sounding.{KnownJob}

-- 1. nothing is against it at its place

pub record PlaceClear (g : Parts) (v : State) (from count : ℕ) (p : Place) : Type 0 where
  pub left : (addresses_left p == 0) ≡ false
  pub begins : from ≡ next_address p
  pub few : count ≤ addresses_left p
  pub row : nat_le 5 (from + count) ≡ true → row_refused g v p ≡ false
  pub column : has_second_column from count ≡ true → is_at_most (bound_plus v.registers.column.hi 1) (column_limit g v p) ≡ true

clash : {X : Type 0} (b : Bool) → b ≡ true → b ≡ false → X
clash true h k = cc
clash false h k = cc

-- the tests of one place, with their values as variables
tests : (zero_left idn same second past : Bool) (refused few : Bool) (surely : Bool) → (second ≡ true → past ≡ false → surely ≡ false) → (second ≡ false → surely ≡ false) → idn ≡ false
    → cond zero_left true (cond idn refused (cond surely false few)) ≡ false
    → (not zero_left && not idn && not same) ≡ false
    → (not zero_left && not idn && same && second && past) ≡ false
    → (zero_left ≡ false) × (same ≡ true) × (few ≡ false) × (second ≡ true → past ≡ false)
tests true idn same second past refused few surely h k i out elsewhere column = cc
tests false true same second past refused few surely h k i out elsewhere column = cc
tests false false false second past refused few surely h k i out elsewhere column = cc
tests false false true true true refused few surely h k i out elsewhere column = cc
tests false false true true false refused few true h k i out elsewhere column = let none = h refl refl in cc
tests false false true true false refused few false h k i out elsewhere column = (refl, refl, out, λ e. refl)
tests false false true false past refused few true h k i out elsewhere column = let none = k refl in cc
tests false false true false past refused few false h k i out elsewhere column = (refl, refl, out, λ e. cc)

pub place_clear : (g : Parts) (j : Job) (v : State) (done : List Done) (from count : ℕ) (p : Place) → RegistersFit g j v.registers done → takes_identity_at p ≡ false → address_out_of_place g v from count p ≡ false → begins_elsewhere from p ≡ false → column_past g v from count p ≡ false → PlaceClear g v from count p
place_clear g j v done from count p f idn out elsewhere past =
    let t = tests (addresses_left p == 0) (takes_identity_at p) (from == next_address p) (has_second_column from count) (not (is_at_most (bound_plus v.registers.column.hi 1) (column_limit g v p))) _ (ltb (addresses_left p) count || (from == next_address p && nat_le 5 (from + count) && row_refused g v p)) (surely_past g v from count p) not_past (λ e. none_second (from == next_address p) (has_second_column from count) e) idn out elsewhere past in
    let refused = or_parts (ltb (addresses_left p) count) (from == next_address p && nat_le 5 (from + count) && row_refused g v p) t.2 in
    record {
      left = t.0;
      begins = eqb-true from (next_address p) t.1;
      few = grind (arith, nat_tests, refused.0);
      row = λ e. and_rest (nat_le 5 (from + count)) (row_refused g v p) e (and_rest (from == next_address p) _ t.1 (assoc (from == next_address p) (nat_le 5 (from + count)) (row_refused g v p) refused.1));
      column = λ e. not-false _ (t.3 e);
    }
  where
    assoc : (a b d : Bool) → (a && b && d) ≡ false → (a && (b && d)) ≡ false
    assoc true b d h = h
    assoc false b d h = refl

    none_second : (a b : Bool) → b ≡ false → (a && b && nat_le (column_limit g v p) v.registers.column.lo) ≡ false
    none_second true true h = cc
    none_second true false h = refl
    none_second false b h = refl

    not_past : has_second_column from count ≡ true → not (is_at_most (bound_plus v.registers.column.hi 1) (column_limit g v p)) ≡ false → surely_past g v from count p ≡ false
    not_past e h =
        let most = surely (column_now done) v.registers.column.hi 1 (column_limit g v p) f.column.most (not-false _ h) in
        let least = f.column.least in
        let below : nat_le (column_limit g v p) v.registers.column.lo ≡ false = grind (arith, nat_tests, most, least) in
        and_right (from == next_address p && has_second_column from count) (nat_le (column_limit g v p) v.registers.column.lo) below

-- 2. its bytes

-- the index and the plane are there where a row cycle comes
row_there : (s : Channel) (j : Job) (k : KnownJob s j) (v : State) (done : List Done) (from count : ℕ) → RegistersFit s.geometry j v.registers done → row_outside s.geometry j.text.rows v from count ≡ false → ltb 2 (from + count) ≡ true → ReadsBack s.geometry j.lun.lun (index_now j.base done) (plane_now done)
row_there s j k v done from count f inside row =
    let g = s.geometry in
    let both = or_parts (not (is_at_most (bound_plus v.registers.index.hi 1) j.text.rows)) (not (are_below (planes g) v.registers.planes)) (and_rest (ltb 2 (from + count)) _ row inside) in
    let most = surely f.over v.registers.index.hi 1 j.text.rows f.index.most (not-false _ both.0) in
    let is = f.over_is in
    let top = k.rows in
    let low : index_now j.base done < indices g = omega (arith, most, is, top) in
    let plane : plane_now done < planes g = below_count (planes g) (plane_now done) v.registers.planes (not-false _ both.1) f.plane in
    rows g j.lun.lun (index_now j.base done) (plane_now done) k.limits (there_lun s j.lun k.there) low plane

-- a row that has bytes is of a plane that is there
plane_there : (g : Parts) (lun index plane : ℕ) (bytes : List ℕ) → row_bytes_of g lun index plane ≡ Some bytes → plane < planes g
plane_there g lun index plane bytes h = at (ltb lun g.luns) (ltb index (indices g)) (ltb plane (planes g)) refl h
  where
    at : (a b c : Bool) → ltb plane (planes g) ≡ c → cond (a && b && c) (Some (row_cycles (row_number g (indexed g lun index plane)))) None ≡ Some bytes → plane < planes g
    at a b true e h = grind (arith, nat_tests, e)
    at true true false e h = cc
    at true false false e h = cc
    at false b false e h = cc

-- the address of the registers, with the bytes of its row where they are needed
pub record AddressNow (g : Parts) (j : Job) (done : List Done) (from count : ℕ) : Type 0 where
  pub r1 : ℕ
  pub r2 : ℕ
  pub r3 : ℕ
  pub bytes : ltb 2 (from + count) ≡ true → row_bytes_of g j.lun.lun (index_now j.base done) (plane_now done) ≡ Some (r1 ∷ (r2 ∷ (r3 ∷ [])))
  pub row : ltb 2 (from + count) ≡ true → RowIs g j (record { column = column_now done; index = index_now j.base done; plane = plane_now done; r1 = r1; r2 = r2; r3 = r3 })

pub address_now : (s : Channel) (j : Job) (k : KnownJob s j) (v : State) (done : List Done) (from count : ℕ) → RegistersFit s.geometry j v.registers done → row_outside s.geometry j.text.rows v from count ≡ false → AddressNow s.geometry j done from count
address_now s j k v done from count f inside = at (ltb 2 (from + count)) refl
  where
    at : (b : Bool) → ltb 2 (from + count) ≡ b → AddressNow s.geometry j done from count
    at true e =
        let r = row_there s j k v done from count f inside e in
        record { r1 = r.r1; r2 = r.r2; r3 = r.r3; bytes = λ x. r.there; row = λ x. record { low = plane_there s.geometry j.lun.lun (index_now j.base done) (plane_now done) _ r.there; reads = r.back; inside = r.inside } }
    at false e = record { r1 = 0; r2 = 0; r3 = 0; bytes = λ x. clash _ x e; row = λ x. clash _ x e }

abbrev pub of_now : (g : Parts) (j : Job) (done : List Done) (from count : ℕ) → AddressNow g j done from count → Address
of_now g j done from count a = record { column = column_now done; index = index_now j.base done; plane = plane_now done; r1 = a.r1; r2 = a.r2; r3 = a.r3 }

short : (from count : ℕ) (x y : ℕ) (rest : List ℕ) → from + count ≤ 2 → take count (drop from (x ∷ (y ∷ []))) ≡ take count (drop from (x ∷ (y ∷ rest)))
short from zero x y rest h = refl
short zero (suc zero) x y rest h = refl
short zero (suc (suc zero)) x y rest h = refl
short zero (suc (suc (suc n))) x y rest h = absurd (omega (arith, h))
short (suc zero) (suc zero) x y rest h = refl
short (suc zero) (suc (suc n)) x y rest h = absurd (omega (arith, h))
short (suc (suc m)) (suc n) x y rest h = absurd (omega (arith, h))

-- the bytes of the word are those of the address
pub address_bytes : (g : Parts) (j : Job) (done : List Done) (from count : ℕ) (a : AddressNow g j done from count) → address g j done from count ≡ Some (take count (drop from (all_bytes (of_now g j done from count a))))
address_bytes g j done from count a = at (nat_le (from + count) 2) refl
  where
    at : (b : Bool) → nat_le (from + count) 2 ≡ b → cond b (Some (part from count (column_bytes (column_now done)))) (and_then (row_bytes_of g j.lun.lun (index_now j.base done) (plane_now done)) (λ row. Some (part from count (column_bytes (column_now done) ++ row)))) ≡ Some (take count (drop from (all_bytes (of_now g j done from count a))))
    at true e = ap Some (short from count _ _ (a.r1 ∷ (a.r2 ∷ (a.r3 ∷ []))) (let h : from + count ≤ 2 = grind (arith, nat_tests, e) in h))
    at false e = let row : ltb 2 (from + count) ≡ true = grind (arith, nat_tests, e) in rw (a.bytes row) refl

-- two addresses with the same column, and the same row where a row cycle has come, lead to the same facts
pub same_facts : (t : TailFacts) (n : ℕ) (a b : Address) → (ltb 0 n ≡ true → a.column ≡ b.column) → (ltb 2 n ≡ true → (a.r1 ≡ b.r1) × (a.r2 ≡ b.r2) × (a.r3 ≡ b.r3)) → facts_behind t (take n (all_bytes a)) ≡ facts_behind t (take n (all_bytes b))
same_facts t zero a b c r = refl
same_facts t (suc zero) a b c r = ap (λ (x : ℕ). facts_behind t (x % 256 ∷ [])) (c refl)
same_facts t (suc (suc zero)) a b c r = ap (λ (x : ℕ). facts_behind t (x % 256 ∷ (x / 256 % 256 ∷ []))) (c refl)
same_facts t (suc (suc (suc n))) a b c r =
    let col : a.column ≡ b.column = c (let y : ltb 0 (suc (suc (suc n))) ≡ true = grind (arith, nat_tests) in y) in
    let row = r (let y : ltb 2 (suc (suc (suc n))) ≡ true = grind (arith, nat_tests) in y) in
    λ i. facts_behind t (take (suc (suc (suc n))) (col i % 256 ∷ (col i / 256 % 256 ∷ (row.0 i ∷ (row.1 i ∷ (row.2 i ∷ []))))))

pub same_bytes : (o : Option (List ℕ)) (a b c x y z : ℕ) → o ≡ Some (a ∷ (b ∷ (c ∷ []))) → o ≡ Some (x ∷ (y ∷ (z ∷ []))) → (a ≡ x) × (b ≡ y) × (c ≡ z)
same_bytes o a b c x y z e f = let both : Some (a ∷ (b ∷ (c ∷ []))) ≡ Some (x ∷ (y ∷ (z ∷ []))) = sym e ∙ f in (cc, cc, cc)

-- a column of two bytes is carried whole
pub carried_is : (n : ℕ) → n < 65536 → n % 256 % 256 + 256 * (n / 256 % 256) ≡ n
carried_is n h = omega (arith, h)
