-- The die of a LUN has a place among the dies of a channel.
use Rattle.std.proofs.Common.{◌≡◌, ℕ, ◌+◌, ◌*◌, ◌<◌, ◌≤◌, true, ◌&&◌, nat_lt, arith}
use Rattle.std.proofs.lemmas.Bool.{and_parts, ltb-true}
use Rattle.std.proofs.Math.Nat.{mul-le-mul_right}

pub place_inside : (targets luns ce lun n : ℕ) → n ≡ targets * luns → (nat_lt ce targets && nat_lt lun luns) ≡ true → ce * luns + lun < n
place_inside targets luns ce lun n count has =
    let k = and_parts (nat_lt ce targets) (nat_lt lun luns) has in
    let enabled : ce < targets = ltb-true ce targets k.0 in
    let inside : lun < luns = ltb-true lun luns k.1 in
    let below : (ce + 1) * luns ≤ targets * luns = mul-le-mul_right luns (omega (arith, enabled)) in
    omega (arith, count, inside, below)
