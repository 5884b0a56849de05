-- What is said of the row that an address has just named.
use Rattle.std.proofs.Common.{◌≡◌, ℕ, ◌+◌, ◌*◌, ◌/◌, ◌%◌, ◌≤◌, ◌<◌, ◌==◌, Bool, true, false, ◌&&◌, cond, nat_le, ltb, Option, Some, None, List, refl, sym, ap, ◌∙◌, subst, arith, eqb-true}
use Rattle.std.proofs.lemmas.Nat.{div_below, le-div, mod_below}
use Rattle.std.proofs.Math.Nat.{div-add-mod, mul-add-mod_self_left}
use Rattle.std.proofs.lemmas.Bool.{and_parts}
use Rattle.nand_geometry.specs.declared.parts.Parts.{Parts}
use Rattle.micro_program.specs.Program.{Job, Done, index_now}
use Rattle.micro_claims.specs.State.{State, PageRange}
use Rattle.micro_claims.specs.Leaves.{greatest_page_of, name_now}
use Rattle.micro_claims.proofs.Fits.{Below, InRange, RegistersFit, RowNamed}
use Rattle.micro_claims.proofs.Addressing.{AddressNow, of_now}

-- behind a whole number of blocks the place in the block is that of what is over
pub over_page : (p base over : ℕ) → base % p ≡ 0 → (base + over) % p ≡ over % p
over_page p base over h =
    let parts = div-add-mod base p in
    let is : base + over ≡ p * (base / p) + over = omega (arith, parts, h) in
    ap (λ (n : ℕ). n % p) is ∙ mul-add-mod_self_left p (base / p) over

-- what lies between two indices of one block is in it too
pub same_block : (p lo over hi : ℕ) → 0 < p → lo ≤ over → over ≤ hi → lo / p ≡ hi / p → over / p ≡ hi / p
same_block p lo over hi some low high same =
    let l = div-add-mod lo p in
    let h = div-add-mod hi p in
    let m : hi % p < p = mod_below hi p some in
    let from : p * (hi / p) ≤ over = let e : p * (lo / p) ≡ p * (hi / p) = ap (λ (n : ℕ). p * n) same in omega (arith, l, e, low) in
    let comm : p * (hi / p) ≡ (hi / p) * p = omega arith in
    let least : hi / p ≤ over / p = le-div (hi / p) over p some (omega (arith, from, comm)) in
    let distr : (hi / p + 1) * p ≡ (hi / p) * p + p = omega arith in
    let most : over / p < hi / p + 1 = div_below over p (hi / p + 1) some (omega (arith, high, h, m, comm, distr)) in
    omega (arith, least, most)

-- in one block the greater index has the greater page
pub page_in_block : (p lo over hi : ℕ) → 0 < p → lo ≤ over → over ≤ hi → lo / p ≡ hi / p → over % p ≤ hi % p
page_in_block p lo over hi some low high same =
    let l = div-add-mod lo p in
    let h = div-add-mod hi p in
    let o = div-add-mod over p in
    let m : hi % p < p = mod_below hi p some in
    let from : p * (hi / p) ≤ over = let e : p * (lo / p) ≡ p * (hi / p) = ap (λ (n : ℕ). p * n) same in omega (arith, l, e, low) in
    let comm : p * (hi / p) ≡ (hi / p) * p = omega arith in
    let least : hi / p ≤ over / p = le-div (hi / p) over p some (omega (arith, from, comm)) in
    let distr : (hi / p + 1) * p ≡ (hi / p) * p + p = omega arith in
    let most : over / p < hi / p + 1 = div_below over p (hi / p + 1) some (omega (arith, high, h, m, comm, distr)) in
    let is : over / p ≡ hi / p = omega (arith, least, most) in
    let e : p * (over / p) ≡ p * (hi / p) = ap (λ (n : ℕ). p * n) is in
    omega (arith, o, h, e, high)

greatest_page : (p : ℕ) (r : PageRange) (lo : ℕ) (hi : Option ℕ) (base over : ℕ) → 0 < p → base % p ≡ 0 → lo ≤ over → Below over hi → InRange ((base + over) % p) r → (base + over) % p ≤ greatest_page_of p r lo hi
greatest_page p r lo None base over some h low high is = is.most
greatest_page p r lo (Some hi) base over some h low high is = at (lo / p == hi / p && ltb (hi % p) r.hi && nat_le hi 4294967295) refl
  where
    at : (b : Bool) → (lo / p == hi / p && ltb (hi % p) r.hi && nat_le hi 4294967295) ≡ b → (base + over) % p ≤ cond b (hi % p) r.hi
    at true e =
        let same = eqb-true (lo / p) (hi / p) (and_parts _ _ (and_parts _ _ e).0).0 in
        subst (λ (n : ℕ). n ≤ hi % p) (sym (over_page p base over h)) (page_in_block p lo over hi some low high same)
    at false e = is.most

pub named_now : (g : Parts) (j : Job) (v : State) (done : List Done) (from count : ℕ) (a : AddressNow g j done from count) → 0 < g.pages → RegistersFit g j v.registers done → RowNamed g j (of_now g j done from count a) (index_now j.base done) (name_now g v.registers)
named_now g j v done from count a some f =
    record {
      over = f.over;
      over_is = f.over_is;
      index = record { least = f.index.least; most = f.index.most };
      plane = f.plane;
      page = λ base.
          subst (λ (n : ℕ). n % g.pages ≤ greatest_page_of g.pages v.registers.page v.registers.index.lo v.registers.index.hi) (sym f.over_is)
          (greatest_page g.pages v.registers.page v.registers.index.lo v.registers.index.hi j.base f.over some base f.index.least f.index.most (subst (λ (n : ℕ). InRange (n % g.pages) v.registers.page) f.over_is (f.page base)));
      drift = refl;
    }
