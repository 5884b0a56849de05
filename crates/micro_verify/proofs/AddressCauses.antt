-- Causes of a refused address: where it begins elsewhere, where its row is outside, and where no address is wanted.
use Rattle.std.proofs.lemmas.Bool.Decides.{nat_tests}
use Rattle.std.proofs.Common.{◌≡◌, ℕ, zero, suc, ◌+◌, ◌-◌, ◌≤◌, ◌==◌, Bool, true, false, ◌&&◌, ◌||◌, cond, not, ltb, nat_le, Option, refl, ap, ◌∙◌, arith}
use Rattle.nand_geometry.specs.declared.parts.Parts.{Parts}
use Rattle.nand_geometry.specs.Limits.{planes}
use Rattle.onfi_cycle.specs.declared.data_phase.DataPhase.TheVariants.{FirstColumn, SecondColumn}
use Rattle.onfi_cycle.specs.declared.tail_facts.TailFacts.{TailFacts}
use Rattle.onfi_cycle.specs.Command.{address_cycles, reads_identity, is_opener, takes_address}
use Rattle.onfi_cycle.specs.Sequence.{opened, wants_address, wants_column}
use Rattle.micro_claims.specs.declared.state.State.{State}
use Rattle.micro_claims.specs.declared.place.Place.{Place}
use Rattle.micro_claims.specs.declared.place.Place.TheVariants.{Closed, After, InData, InColumn, InFeatures, Unknown}
use Rattle.micro_claims.specs.declared.planes.Planes.{Planes}
use Rattle.micro_claims.specs.Planes.{just_plane, are_below}
use Rattle.std.specs.Prelude.{nat_lt}
use Rattle.micro_claims.proofs.PlaneSets.{below_just}
use Rattle.micro_claims.specs.Spans.{greatest_bound, bound_plus, is_at_most}
use Rattle.micro_claims.specs.Against.{addresses_left, first_address, begins_elsewhere, row_outside}
use Rattle.micro_program.specs.Program.{index_now, plane_now}
use Rattle.micro_claims.proofs.Fits.{Address}
use Rattle.micro_verify.specs.Lazy.{Run}
use Rattle.micro_verify.specs.Cause.{place_of_phase, place_wanted, is_other, begins_wrong}
use Rattle.micro_verify.proofs.Mirrors.{RegistersMirror, PlaceMirror, begun, exact_test}

-- 1. a row outside

planes_test : (count p : ℕ) → p ≤ 3 → not (are_below count (just_plane p)) ≡ nat_le count p
planes_test count p low = ap not (below_just count p low) ∙ (let b : not (nat_lt p count) ≡ nat_le count p = grind (arith, nat_tests) in b)

pub index_test : (n rows : ℕ) → not (nat_le (n + 1) rows) ≡ nat_le rows n
index_test n rows = at (nat_le rows n) refl
  where
    at : (b : Bool) → nat_le rows n ≡ b → not (nat_le (n + 1) rows) ≡ b
    at true e = let over : nat_le (n + 1) rows ≡ false = grind (arith, nat_tests, e) in ap not over
    at false e = let over : nat_le (n + 1) rows ≡ true = grind (arith, nat_tests, e) in ap not over

-- the claim says that a row is outside exactly where it is
pub outside_is : (g : Parts) (text_rows : ℕ) (v : State) (r : Run) (from count : ℕ) → text_rows ≤ greatest_bound → RegistersMirror g v.registers r.done → row_outside g text_rows v from count ≡ (ltb 2 (from + count) && (nat_le text_rows (index_now 0 r.done) || nat_le (planes g) (plane_now r.done)))
outside_is g rows v r from count low m =
    let index : not (is_at_most (bound_plus v.registers.index.hi 1) rows) ≡ nat_le rows (index_now 0 r.done) =
    ap (λ (o : Option ℕ). not (is_at_most (bound_plus o 1) rows)) m.index.hi ∙ (ap not (exact_test (index_now 0 r.done) 1 rows low) ∙ index_test (index_now 0 r.done) rows) in
    let plane : not (are_below (planes g) v.registers.planes) ≡ nat_le (planes g) (plane_now r.done) =
    ap (λ (p : Planes). not (are_below (planes g) p)) m.planes ∙ planes_test (planes g) (plane_now r.done) m.plane_low in
    λ i. ltb 2 (from + count) && (index i || plane i)

-- 2. an address that begins elsewhere

and_three : (a b c : Bool) → (not a && not b && not c) ≡ true → (a ≡ false) × ((b ≡ false) × (c ≡ false))
and_three true b c h = cc
and_three false true c h = cc
and_three false false true h = cc
and_three false false false h = (refl, (refl, refl))

pub elsewhere_there : (p : Place) (a : Address) (t : TailFacts) (from count : ℕ) → PlaceMirror p a t → begins_elsewhere from p ≡ true → begins_wrong t from count ≡ true
elsewhere_there Closed a t from count is h = cc
elsewhere_there InData a t from count is h = cc
elsewhere_there Unknown a t from count is h = absurd is
elsewhere_there (InFeatures n) a t from count is h = absurd is
elsewhere_there (InColumn n) a t from count is h =
    let parts = and_three (2 - n == 0) false (from == n) h in
    (λ i. is_other (place_wanted (is.alone i) (is.program.phase i)) from && not (opened (λ c n. reads_identity c && n == 0) (is.alone i))) ∙ at n is.few parts.1.1
  where
    at : (n : ℕ) → n ≤ 1 → (from == n) ≡ false → (is_other (place_of_phase (cond (n == 0) FirstColumn SecondColumn)) from && not false) ≡ true
    at zero few e = turned from 0 e
      where
        turned : (x y : ℕ) → (x == y) ≡ false → (not (y == x) && true) ≡ true
        turned x y e = let other : (y == x) ≡ false = grind (arith, nat_tests, e) in rw other refl
    at (suc zero) few e = turned from 1 e
      where
        turned : (x y : ℕ) → (x == y) ≡ false → (not (y == x) && true) ≡ true
        turned x y e = let other : (y == x) ≡ false = grind (arith, nat_tests, e) in rw other refl
    at (suc (suc k)) few e = absurd (omega (arith, few))
elsewhere_there (After o n) a t from count is h =
    let b = begun o n a t is in
    let parts = and_three (address_cycles o - n == 0) (reads_identity o) (from == first_address o + n) h in
    let left : ltb n (address_cycles o) ≡ true = more (address_cycles o) n parts.0 in
    let other : (first_address o + n == from) ≡ false = turned from (first_address o + n) parts.1.1 in
    (λ i. is_other (place_wanted (b.opening i) (b.phase i)) from && not (opened (λ c n. reads_identity c && n == 0) (b.opening i))) ∙ rw (left, other, parts.1.0) refl
  where
    more : (c n : ℕ) → (c - n == 0) ≡ false → ltb n c ≡ true
    more c n e = grind (arith, nat_tests, e)

    turned : (x y : ℕ) → (x == y) ≡ false → (y == x) ≡ false
    turned x y e = grind (arith, nat_tests, e)

-- 3. where no address is wanted

none_left : (c n : ℕ) → (c - n == 0) ≡ true → ltb n c ≡ false
none_left c n e = grind (arith, nat_tests, e)

pub unwanted_there : (p : Place) (a : Address) (t : TailFacts) (byte : ℕ) → PlaceMirror p a t → (addresses_left p == 0) ≡ true → wants_address t byte ≡ false
unwanted_there Closed a t byte is h = is.address byte
unwanted_there InData a t byte is h = is.address byte
unwanted_there Unknown a t byte is h = absurd is
unwanted_there (InFeatures n) a t byte is h = absurd is
unwanted_there (InColumn n) a t byte is h = let few = is.few in absurd (let x : ⊥ = grind (arith, nat_tests, h, few) in x)
unwanted_there (After o n) a t byte is h =
    let b = begun o n a t is in
    let none : ltb n (address_cycles o) ≡ false = none_left (address_cycles o) n h in
    (λ i. opened (λ c n. is_opener c && ltb n (address_cycles c) && takes_address c byte) (b.opening i) || wants_column (b.phase i)) ∙ rw none (no_more (is_opener o))
  where
    no_more : (x : Bool) → (x && false && takes_address o byte || false) ≡ false
    no_more true = refl
    no_more false = refl
