-- What std's lemmas about tests leave out.
use Rattle.std.proofs.Common.{◌≡◌, ℕ, ◌&&◌, ◌==◌, Bool, true, false, refl, eq-eqb}

pub and_rest : (a b : Bool) → a ≡ true → (a && b) ≡ false → b ≡ false
and_rest true b e h = h
and_rest false b e h = cc

pub clash : (a : Bool) → a ≡ true → a ≡ false → ⊥
clash true e h = cc
clash false e h = cc

pub eqb_self : (n : ℕ) → (n == n) ≡ true
eqb_self n = eq-eqb n n refl

-- what follows of either value
pub by_case : {A : Type 0} (b : Bool) → (b ≡ true → A) → (b ≡ false → A) → A
by_case true f k = f refl
by_case false f k = k refl
