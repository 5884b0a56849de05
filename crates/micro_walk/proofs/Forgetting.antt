-- Claims that are forgotten, place by place.
use Rattle.std.proofs.Common.{◌≡◌, ℕ, zero, suc, ◌≤◌, List, [], ◌∷◌, Option, None, refl, ap, arith, length}
use Rattle.std.specs.Prelude.{slice_set, replicate}
use Rattle.micro_walk.specs.Searched.{forgotten}

pub forgets_one : {A : Type 0} (claims : List (Option A)) (at count : ℕ) → forgotten at (suc count) claims ≡ forgotten (suc at) count (slice_set claims at None)
forgets_one [] at count = refl
forgets_one (o ∷ claims) zero count = refl
forgets_one (o ∷ claims) (suc at) count = ap (λ (cs : List _). o ∷ cs) (forgets_one claims at count)

pub forgets_past : {A : Type 0} (claims : List (Option A)) (at count : ℕ) → length claims ≤ at → forgotten at count claims ≡ claims
forgets_past [] at count h = refl
forgets_past (o ∷ claims) zero count h = absurd (omega (arith, h))
forgets_past (o ∷ claims) (suc at) count h = ap (λ (cs : List _). o ∷ cs) (forgets_past claims at count (omega (arith, h)))

pub forgets_nothing : {A : Type 0} (claims : List (Option A)) (at : ℕ) → forgotten at zero claims ≡ claims
forgets_nothing [] at = refl
forgets_nothing (o ∷ claims) zero = refl
forgets_nothing (o ∷ claims) (suc at) = ap (λ (cs : List _). o ∷ cs) (forgets_nothing claims at)

pub forgets_all : {A : Type 0} (claims : List (Option A)) → forgotten zero (length claims) claims ≡ replicate (length claims) None
forgets_all [] = refl
forgets_all (o ∷ claims) = ap (λ (cs : List _). None ∷ cs) (forgets_all claims)
