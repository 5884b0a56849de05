-- A field has room for its numbers, and no narrower field has; two fields beside one another are one field.
use Rattle.std.proofs.Common.{◌≡◌, ℕ, zero, suc, ◌+◌, ◌*◌, ◌/◌, ◌^◌, ◌<◌, ◌≤◌, Bool, true, false, cond, leb, refl, arith, ◌-◌, ltb, ◌∙◌}
use Rattle.std.specs.Int.Count.{count_leading_zeros}
use Rattle.std.proofs.lemmas.Nat.{leading_top}
use Rattle.std.proofs.Math.Pow.{pow_mono}
use Rattle.std.proofs.lemmas.Bool.Decides.{nat_tests}
use Rattle.std.proofs.lemmas.Nat.{pow-add}
use Rattle.std.proofs.Math.Nat.{pow-suc, mul-le-mul_left}
use Rattle.nand_geometry.specs.Limits.{halvings, width, WidthsAreLeast}

-- as many bits as halvings have room, where the steps suffice
halvings_fit : (s n : ℕ) → n ≤ 2 ^ s → n ≤ 2 ^ halvings s n
halvings_fit zero n h = h
halvings_fit (suc s) n h = at (leb n 1) refl (halvings_fit s ((n + 1) / 2))
  where
    at : (b : Bool) → leb n 1 ≡ b → ((n + 1) / 2 ≤ 2 ^ s → (n + 1) / 2 ≤ 2 ^ halvings s ((n + 1) / 2)) → n ≤ 2 ^ cond b 0 (suc (halvings s ((n + 1) / 2)))
    at true e ih = grind (arith, nat_tests)
    at false e ih =
        let small : n ≤ 2 * 2 ^ s = omega (arith, pow-suc 2 s) in
        let below : (n + 1) / 2 ≤ 2 ^ s = omega arith in
        let half : n ≤ 2 * 2 ^ halvings s ((n + 1) / 2) = omega (arith, ih below) in
        omega (arith, pow-suc 2 (halvings s ((n + 1) / 2)))

-- fewer bits than halvings have no room
halvings_least : (s n v : ℕ) → n ≤ 2 ^ v → halvings s n ≤ v
halvings_least zero n v h = omega arith
halvings_least (suc s) n v h = at (leb n 1) refl v h (halvings_least s ((n + 1) / 2))
  where
    at : (b : Bool) → leb n 1 ≡ b → (w : ℕ) → n ≤ 2 ^ w → ((u : ℕ) → (n + 1) / 2 ≤ 2 ^ u → halvings s ((n + 1) / 2) ≤ u) → cond b 0 (suc (halvings s ((n + 1) / 2))) ≤ w
    at true e w room ih = omega arith
    at false e zero room ih = absurd (grind (arith, nat_tests))
    at false e (suc w) room ih =
        let double : n ≤ 2 * 2 ^ w = omega (arith, pow-suc 2 w) in
        let below : (n + 1) / 2 ≤ 2 ^ w = omega arith in
        omega (arith, ih w below)

-- n numbers have room in the width of n
pub width_fits : (n : ℕ) → n ≤ 65536 → n ≤ 2 ^ width n
unfolding width
width_fits n h = halvings_fit 17 n (omega arith)

-- no narrower field has room
pub widths_least : WidthsAreLeast
unfolding width
widths_least n h = record { room = width_fits n h; least = halvings_least 17 n }

-- the bits of the number before it
pub width_is : (n m : ℕ) → n ≤ 65536 → n ≤ 2 ^ m → ((v : ℕ) → n ≤ 2 ^ v → m ≤ v) → m ≡ width n
width_is n m h room least =
    let most = (widths_least n h).least m room in
    let few = least (width n) (width_fits n h) in
    omega (arith, most, few)

pub width_by_zeros : (n bits : ℕ) → 1 < n → n ≤ 65536 → bits ≡ 32 - count_leading_zeros 32 (n - 1) → bits ≡ width n
width_by_zeros n bits some h is = with_top (leading_top 32 (n - 1) (omega arith) (omega arith))
  where
    with_top : ((j : ℕ) × (count_leading_zeros 32 (n - 1) + suc j ≡ 32) × (2 ^ j ≤ n - 1) × (n - 1 < 2 ^ suc j)) → bits ≡ width n
    with_top t =
        let j = t.0 in
        let sum = t.1 in
        let low = t.2 in
        let high = t.3 in
        let same : bits ≡ suc j = omega (arith, is, sum) in
        same ∙ width_is n (suc j) h (omega (arith, high, some)) (λ v room. at v (ltb j v) refl room)
      where
        at : (v : ℕ) (b : Bool) → ltb t.0 v ≡ b → n ≤ 2 ^ v → suc t.0 ≤ v
        at v true e room = grind (arith, nat_tests)
        at v false e room =
            let below : v ≤ t.0 = grind (arith, nat_tests) in
            let grows : 2 ^ v ≤ 2 ^ t.0 = pow_mono below in
            absurd (omega (arith, grows, room, t.2, some))

-- two fields beside one another are one field
pub beside : (high low i j : ℕ) → high < 2 ^ i → low < 2 ^ j → high * 2 ^ j + low < 2 ^ (i + j)
beside high low i j hh hl =
    let step : (high + 1) * 2 ^ j ≤ 2 ^ i * 2 ^ j = grind (arith, mul-le-mul_left) in
    omega (arith, pow-add 2 i j)
