-- The numbers of LUNs, and lists with one member changed.
use Rattle.std.proofs.Common.{◌≡◌, ◌≢◌, ℕ, zero, suc, ◌+◌, ◌*◌, ◌%◌, ◌<◌, ◌≤◌, List, [], ◌∷◌, Some, None, refl, sym, ap, ◌∙◌, arith, length, set}
use Rattle.std.proofs.Math.Nat.{mod-lt, div-add-mod, div-lt_iff_lt-mul, mul-le-mul_right, suc-mul}
use Rattle.std.proofs.lemmas.Nat.{div-add-mod', div-mul-add, mod-mul-add}
use Rattle.std.specs.List.{slice_get}
use Rattle.nand_geometry.specs.declared.parts.Parts.{Parts}
use Rattle.onfi_cycle.specs.declared.lun.Lun.{Lun}
use Rattle.target_bus.specs.Bus.{numbered, number_of}

pub target_there : (g : Parts) (n k : ℕ) → 1 ≤ g.luns → k < n * g.luns → (numbered g k).ce < n
target_there g n k some low = (div-lt_iff_lt-mul some).1 low

pub lun_there : (g : Parts) (k : ℕ) → 1 ≤ g.luns → (numbered g k).lun < g.luns
lun_there g k some = mod-lt k some

pub numbered_number : (g : Parts) (l : Lun) → l.lun < g.luns → numbered g (number_of g l) ≡ l
numbered_number g l low =
    ap (λ (ce : ℕ). record { ce = ce; lun = (l.ce * g.luns + l.lun) % g.luns }) (div-mul-add l.ce g.luns l.lun low) ∙
    ap (λ (n : ℕ). record { ce = l.ce; lun = n }) (mod-mul-add l.ce g.luns l.lun low)

pub number_apart : (g : Parts) (k m : ℕ) → numbered g k ≡ numbered g m → k ≡ m
number_apart g k m e = sym (div-add-mod k g.luns) ∙ (ap (λ (l : Lun). g.luns * l.ce + l.lun) e ∙ div-add-mod m g.luns)

pub number_below : (g : Parts) (n : ℕ) (l : Lun) → l.ce < n → l.lun < g.luns → number_of g l < n * g.luns
number_below g n l here low =
    let most : suc l.ce * g.luns ≤ n * g.luns = mul-le-mul_right g.luns here in
    let next = suc-mul l.ce g.luns in
    omega (arith, most, next, low)

pub number_back : (g : Parts) (k : ℕ) → 1 ≤ g.luns → number_of g (numbered g k) ≡ k
number_back g k some = div-add-mod' k g.luns

-- one member changed
pub set_here : {X : Type 0} (xs : List X) (m : ℕ) (x y : X) → slice_get (set xs m x) m ≡ Some y → y ≡ x
set_here [] m x y h = cc
set_here (z ∷ xs) zero x y h = cc
set_here (z ∷ xs) (suc m) x y h = set_here xs m x y h

pub set_other : {X : Type 0} (xs : List X) (m k : ℕ) (x : X) → k ≢ m → slice_get (set xs m x) k ≡ slice_get xs k
set_other [] m k x ne = refl
set_other (z ∷ xs) zero zero x ne = absurd (ne refl)
set_other (z ∷ xs) zero (suc k) x ne = refl
set_other (z ∷ xs) (suc m) zero x ne = refl
set_other (z ∷ xs) (suc m) (suc k) x ne = set_other xs m k x (λ e. ne (ap suc e))

pub placed : (a b c x y z : ℕ) → a ≡ x → b ≡ y → c ≡ z → a * b + c ≡ x * y + z
placed a b c x y z ea eb ec = ap (λ (n : ℕ). n * b + c) ea ∙ (ap (λ (n : ℕ). x * n + c) eb ∙ ap (λ (n : ℕ). x * y + n) ec)

-- a number with no member is past the list
pub slice_get_none : {X : Type 0} (xs : List X) (k : ℕ) → slice_get xs k ≡ None → length xs ≤ k
slice_get_none [] k h = omega arith
slice_get_none (x ∷ xs) zero h = cc
slice_get_none (x ∷ xs) (suc k) h = let more = slice_get_none xs k h in omega (arith, more)
