-- Looking ahead, one step after the other.
use Rattle.std.proofs.Common.{◌≡◌, ◌-◌, ℕ, zero, suc, Bool, List, [], ◌∷◌, length, refl, ap, arith}
use Rattle.bus_capture.specs.declared.ahead.Ahead.TheVariants.{Going, Known}
use Rattle.bus_capture.specs.declared.sampler.Observed.{Observed}
use Rattle.onfi_cycle.specs.declared.item.Failures.{Failures}
use Rattle.bus_capture.specs.Telling.{no_failures}
use Rattle.bus_capture.specs.Inferring.{ahead_of, fails_by, fails_within}

pub steps : (most : ℕ) (asked : Bool) (ce : ℕ) (o : Observed) (later : List Observed) → (most ≡ 0 → ⊥)
    → fails_within most asked ce (o ∷ later) ≡ fails_by (ahead_of asked ce o.observation) (λ asked. fails_within (most - 1) asked ce later)
steps zero asked ce o later some = absurd (some refl)
steps (suc most) asked ce o later some =
    let same : most ≡ suc most - 1 = omega arith in
    ap (λ n. fails_by (ahead_of asked ce o.observation) (λ asked. fails_within n asked ce later)) same

pub none_left : (most : ℕ) (asked : Bool) (ce : ℕ) → fails_within most asked ce [] ≡ no_failures
none_left zero asked ce = refl
none_left (suc most) asked ce = refl

pub goes_on : (most : ℕ) (asked now : Bool) (ce : ℕ) (o : Observed) (later : List Observed) → (most ≡ 0 → ⊥) → ahead_of asked ce o.observation ≡ Going now
    → fails_within most asked ce (o ∷ later) ≡ fails_within (most - 1) now ce later
goes_on most asked now ce o later some is = rw (steps most asked ce o later some, is) refl

pub is_known : (most : ℕ) (asked : Bool) (fail : Failures) (ce : ℕ) (o : Observed) (later : List Observed) → (most ≡ 0 → ⊥) → ahead_of asked ce o.observation ≡ Known fail
    → fails_within most asked ce (o ∷ later) ≡ fail
is_known most asked fail ce o later some is = rw (steps most asked ce o later some, is) refl

pub empty : {X : Type 0} (xs : List X) → length xs ≡ 0 → xs ≡ []
empty [] e = refl
empty (x ∷ xs) e = absurd (omega (arith, e))
