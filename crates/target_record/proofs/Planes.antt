-- A remainder by nothing.
use Rattle.std.proofs.Common.{◌≡◌, ℕ, ◌%◌}
use Rattle.std.proofs.Math.Nat.{mod-zero}

pub mod_zero : (n : ℕ) → n % 0 ≡ n
mod_zero n = mod-zero n
