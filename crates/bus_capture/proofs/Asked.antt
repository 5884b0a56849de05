-- Looking ahead for the status of a LUN, one step after the other.
use Rattle.std.proofs.Common.{◌≡◌, ◌∙◌, ◌-◌, ℕ, zero, suc, Bool, false, List, [], ◌∷◌, refl, ap, sym, arith}
use Rattle.nand_geometry.specs.declared.parts.Parts.{Parts}
use Rattle.onfi_cycle.specs.declared.lun.Lun.{Lun}
use Rattle.bus_capture.specs.declared.lun_ahead.Asking.{Asking}
use Rattle.bus_capture.specs.declared.lun_ahead.LunAhead.TheVariants.{Going, Known}
use Rattle.bus_capture.specs.declared.sampler.Observed.{Observed}
use Rattle.onfi_cycle.specs.declared.item.Failures.{Failures}
use Rattle.bus_capture.specs.Telling.{no_failures}
use Rattle.bus_capture.specs.Asking.{asking_of, lun_fails_by, lun_fails_within}

steps : (g : Parts) (l : Lun) (most : ℕ) (a : Asking) (o : Observed) (later : List Observed) → (most ≡ 0 → ⊥)
    → lun_fails_within g l most a (o ∷ later) ≡ lun_fails_by (asking_of g l a o.observation) (λ a. lun_fails_within g l (most - 1) a later)
steps g l zero a o later some = absurd (some refl)
steps g l (suc most) a o later some =
    let same : most ≡ suc most - 1 = omega arith in
    ap (λ n. lun_fails_by (asking_of g l a o.observation) (λ a. lun_fails_within g l n a later)) same

pub none_asked : (g : Parts) (l : Lun) (most : ℕ) (a : Asking) → lun_fails_within g l most a [] ≡ no_failures
none_asked g l zero a = refl
none_asked g l (suc most) a = refl

pub asks_on : (g : Parts) (l : Lun) (most : ℕ) (a next : Asking) (o : Observed) (later : List Observed) → (most ≡ 0 → ⊥) → asking_of g l a o.observation ≡ Going next
    → lun_fails_within g l most a (o ∷ later) ≡ lun_fails_within g l (most - 1) next later
asks_on g l most a next o later some is = rw (steps g l most a o later some, is) refl

pub is_told : (g : Parts) (l : Lun) (most : ℕ) (fail : Failures) (a : Asking) (o : Observed) (later : List Observed) → (most ≡ 0 → ⊥) → asking_of g l a o.observation ≡ Known fail
    → lun_fails_within g l most a (o ∷ later) ≡ fail
is_told g l most fail a o later some is = rw (steps g l most a o later some, is) refl

abbrev failing : (last before : Bool) → Failures
failing last before = record { last = last; before = before }

pub are_none : (f : Failures) → (f.last ≡ false) × (f.before ≡ false) → no_failures ≡ f
are_none f h = ap (λ (b : Bool). failing b false) (sym h.0) ∙ ap (failing f.last) (sym h.1)
