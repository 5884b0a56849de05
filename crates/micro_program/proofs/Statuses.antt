-- A bit of the status byte: it is all that is left by its mask, or nothing is.
use Rattle.std.proofs.Common.{◌≡◌, ℕ, zero, suc, ◌*◌, ◌<◌, ◌==◌, not, bit_and, refl, arith}
use Rattle.std.proofs.lemmas.Nat.Bits.{and_pow, bit_at-lt}
use Rattle.std.specs.Int.{bit_at}
use Rattle.micro_program.specs.Program.{is_ready_status}

pub same_test : (status : ℕ) → (bit_and status 64 == 64) ≡ is_ready_status status
same_test status = by (bit_at status 6) (bit_at-lt status 6) (and_pow status 6)
  where
    by : (bit : ℕ) → bit < 2 → bit_and status 64 ≡ bit * 64 → (bit_and status 64 == 64) ≡ not (bit_and status 64 == 0)
    by zero less e = rw e refl
    by (suc zero) less e = rw e refl
    by (suc (suc bit)) less e = absurd (omega (arith, less))
