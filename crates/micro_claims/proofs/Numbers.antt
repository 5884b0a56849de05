-- Numbers and their bounds: what is kept when they grow.
use Rattle.std.proofs.Common.{◌≡◌, ℕ, ◌+◌, ◌≤◌, ◌==◌, Bool, true, false, cond, nat_le, Option, Some, None, refl, subst, arith, leb-true, eqb-true}
use Rattle.std.proofs.lemmas.Bool.Decides.{nat_tests}
use Rattle.micro_claims.specs.Spans.{Span, greatest_bound, kept, saturated, bound_plus, exactly, plus, plus_between, is_at_most}
use Rattle.micro_claims.specs.Leaves.{cost_plus}
use Rattle.micro_claims.proofs.Fits.{Below, InSpan}

below_kept : (n bound : ℕ) → n ≤ bound → Below n (kept bound)
below_kept n bound h = at (nat_le bound greatest_bound)
  where
    at : (b : Bool) → Below n (cond b (Some bound) None)
    at true = h
    at false = tt

pub below_plus : (n : ℕ) (o : Option ℕ) (k most : ℕ) → Below n o → k ≤ most → Below (n + k) (bound_plus o most)
below_plus n None k most h low = tt
below_plus n (Some bound) k most h low = below_kept (n + k) (bound + most) (omega (arith, h, low))

saturated_most : (n : ℕ) → saturated n ≤ n
saturated_most n = at (nat_le n greatest_bound) refl
  where
    at : (b : Bool) → nat_le n greatest_bound ≡ b → cond b n greatest_bound ≤ n
    at true e = omega arith
    at false e = grind (arith, nat_tests)

pub in_exactly : (n : ℕ) → InSpan n (exactly n)
in_exactly n = record { least = saturated_most n; most = below_kept n n (omega arith) }

pub in_plus_between : (n k : ℕ) (s : Span) (least most : ℕ) → InSpan n s → least ≤ k → k ≤ most → InSpan (n + k) (plus_between s least most)
in_plus_between n k s least most h low high =
    let sat : saturated (s.lo + least) ≤ s.lo + least = saturated_most (s.lo + least) in
    record { least = omega (arith, sat, h.least, low); most = below_plus n s.hi k most h.most high }

pub in_plus : (n k : ℕ) (s : Span) → InSpan n s → InSpan (n + k) (plus s k)
in_plus n k s h = in_plus_between n k s k k h (omega arith) (omega arith)

-- what is surely at most this
pub surely : (n : ℕ) (o : Option ℕ) (k limit : ℕ) → Below n o → is_at_most (bound_plus o k) limit ≡ true → n + k ≤ limit
surely n None k limit h e = cc
surely n (Some bound) k limit h e = at (nat_le (bound + k) greatest_bound) e
  where
    at : (b : Bool) → is_at_most (cond b (Some (bound + k)) None) limit ≡ true → n + k ≤ limit
    at true e = let most : bound + k ≤ limit = leb-true (bound + k) limit e in omega (arith, h, most)
    at false e = cc

pub below_zero : (n : ℕ) (o : Option ℕ) → Below n o → Below (n + 0) o
below_zero n o h = subst (λ (m : ℕ). Below m o) (let e : n ≡ n + 0 = omega arith in e) h

-- a cost, also none
pub below_cost : (n : ℕ) (s : Span) (k : ℕ) → Below n s.hi → Below (n + k) (cost_plus k s).hi
below_cost n s k h = at (k == 0) refl
  where
    at : (b : Bool) → (k == 0) ≡ b → Below (n + k) (cond b s (plus s k)).hi
    at true e = let none : k ≡ 0 = eqb-true k 0 e in subst (λ (m : ℕ). Below m s.hi) (let x : n ≡ n + k = omega (arith, none) in x) h
    at false e = below_plus n s.hi k k h (omega arith)
