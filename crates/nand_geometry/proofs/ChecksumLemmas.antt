-- The checksum a byte at a time: what a byte does to the register is one entry of a table, and what was in the register moves up.
use Rattle.std.proofs.Common.{List, [], ◌∷◌, ◌≡◌, ℕ, zero, suc, ◌+◌, ◌*◌, ◌/◌, ◌%◌, ◌^◌, ◌<◌, ◌==◌, Bool, true, false, cond, refl, sym, ap, ◌∙◌, arith, if◌then◌else◌, bit_xor, get_or}
use native.Mathlib.Numerals.{unary_clauses}
use Rattle.std.specs.Int.Bits.{xor_assoc, xor_self, xor_zero_l, xor_zero_r}
use Rattle.std.proofs.lemmas.Nat.{xor_comm, xor_lt, xor_shr, xor_mod, xor_block}
use Rattle.std.proofs.lemmas.Nat.Bits.{bit_at_xor, same_from_bits}
use Rattle.std.proofs.lemmas.Bool.{agree_below_at, eqb-true}
use Rattle.nand_geometry.specs.declared.checksum.TheConstants.{TABLE}
use Rattle.nand_geometry.specs.Page.{crc_bit, crc_bits, crc_from, crc}

-- four numbers are combined in pairs, whichever pairs
xor_pairs : (a b c d : ℕ) → bit_xor (bit_xor a b) (bit_xor c d) ≡ bit_xor (bit_xor a c) (bit_xor b d)
xor_pairs a b c d = same_from_bits _ _ (λ i. omega (arith, bit_at_xor (bit_xor a b) (bit_xor c d) i, bit_at_xor a b i, bit_at_xor c d i, bit_at_xor (bit_xor a c) (bit_xor b d) i, bit_at_xor a c i, bit_at_xor b d i))

-- what the register is combined with, by the bit that falls out and the bit that comes in
abbrev feedback : ℕ → ℕ → ℕ
feedback out bit = if out == bit then 0 else 0x8005

crc_bit_is : (register bit : ℕ) → crc_bit register bit ≡ bit_xor (register * 2 % 2 ^ 16) (feedback (register / 2 ^ 15) bit)
crc_bit_is register bit = at (register / 2 ^ 15 == bit) (register * 2 % 2 ^ 16)
  where
    at : (b : Bool) (shifted : ℕ) → cond b shifted (bit_xor shifted 0x8005) ≡ bit_xor shifted (cond b 0 0x8005)
    at true shifted = sym (xor_zero_r shifted)
    at false shifted = refl

feedback_fits : (out bit : ℕ) → feedback out bit < 2 ^ 16
feedback_fits out bit = at (out == bit)
  where
    at : (b : Bool) → cond b 0 0x8005 < 2 ^ 16
    at true = omega arith
    at false = omega arith

feedback_xor : (a b c d : ℕ) → a < 2 → b < 2 → c < 2 → d < 2 → feedback (bit_xor a c) (bit_xor b d) ≡ bit_xor (feedback a b) (feedback c d)
feedback_xor zero zero zero zero ha hb hc hd = refl
feedback_xor zero zero zero (suc zero) ha hb hc hd = refl
feedback_xor zero zero (suc zero) zero ha hb hc hd = refl
feedback_xor zero zero (suc zero) (suc zero) ha hb hc hd = refl
feedback_xor zero (suc zero) zero zero ha hb hc hd = refl
feedback_xor zero (suc zero) zero (suc zero) ha hb hc hd = refl
feedback_xor zero (suc zero) (suc zero) zero ha hb hc hd = refl
feedback_xor zero (suc zero) (suc zero) (suc zero) ha hb hc hd = refl
feedback_xor (suc zero) zero zero zero ha hb hc hd = refl
feedback_xor (suc zero) zero zero (suc zero) ha hb hc hd = refl
feedback_xor (suc zero) zero (suc zero) zero ha hb hc hd = refl
feedback_xor (suc zero) zero (suc zero) (suc zero) ha hb hc hd = refl
feedback_xor (suc zero) (suc zero) zero zero ha hb hc hd = refl
feedback_xor (suc zero) (suc zero) zero (suc zero) ha hb hc hd = refl
feedback_xor (suc zero) (suc zero) (suc zero) zero ha hb hc hd = refl
feedback_xor (suc zero) (suc zero) (suc zero) (suc zero) ha hb hc hd = refl
feedback_xor (suc (suc a)) b c d ha hb hc hd = absurd (omega arith)
feedback_xor a (suc (suc b)) c d ha hb hc hd = absurd (omega arith)
feedback_xor a b (suc (suc c)) d ha hb hc hd = absurd (omega arith)
feedback_xor a b c (suc (suc d)) ha hb hc hd = absurd (omega arith)

-- a register that moves up
moved_xor : (r s : ℕ) → bit_xor r s * 2 % 2 ^ 16 ≡ bit_xor (r * 2 % 2 ^ 16) (s * 2 % 2 ^ 16)
moved_xor r s =
    let both : bit_xor (r * 2) (s * 2) ≡ bit_xor r s * 2 = simp unary_clauses at (xor_block 1 r s 0 0 (omega arith) (omega arith)) in
    ap (λ (n : ℕ). n % 2 ^ 16) (sym both) ∙ xor_mod (r * 2) (s * 2) 16

crc_bit_fits : (register bit : ℕ) → crc_bit register bit < 2 ^ 16
crc_bit_fits register bit =
    rw (crc_bit_is register bit) (xor_lt 16 (register * 2 % 2 ^ 16) (feedback (register / 2 ^ 15) bit) (omega arith) (feedback_fits (register / 2 ^ 15) bit))

-- a step of two combined registers, by two combined bits
crc_bit_xor : (r s b d : ℕ) → r < 2 ^ 16 → s < 2 ^ 16 → b < 2 → d < 2 → crc_bit (bit_xor r s) (bit_xor b d) ≡ bit_xor (crc_bit r b) (crc_bit s d)
crc_bit_xor r s b d hr hs hb hd =
    let out : bit_xor r s / 2 ^ 15 ≡ bit_xor (r / 2 ^ 15) (s / 2 ^ 15) = xor_shr r s 15 in
    let back : feedback (bit_xor (r / 2 ^ 15) (s / 2 ^ 15)) (bit_xor b d) ≡ bit_xor (feedback (r / 2 ^ 15) b) (feedback (s / 2 ^ 15) d) = feedback_xor (r / 2 ^ 15) b (s / 2 ^ 15) d (omega arith) hb (omega arith) hd in
    crc_bit_is (bit_xor r s) (bit_xor b d)
    ∙ ap (λ (n : ℕ). bit_xor n (feedback (bit_xor r s / 2 ^ 15) (bit_xor b d))) (moved_xor r s)
    ∙ ap (λ (n : ℕ). bit_xor (bit_xor (r * 2 % 2 ^ 16) (s * 2 % 2 ^ 16)) (feedback n (bit_xor b d))) out
    ∙ ap (λ (n : ℕ). bit_xor (bit_xor (r * 2 % 2 ^ 16) (s * 2 % 2 ^ 16)) n) back
    ∙ xor_pairs (r * 2 % 2 ^ 16) (s * 2 % 2 ^ 16) (feedback (r / 2 ^ 15) b) (feedback (s / 2 ^ 15) d)
    ∙ sym (ap (λ (n : ℕ). bit_xor n (crc_bit s d)) (crc_bit_is r b) ∙ ap (λ (n : ℕ). bit_xor (bit_xor (r * 2 % 2 ^ 16) (feedback (r / 2 ^ 15) b)) n) (crc_bit_is s d))

-- the same for the bits of two combined bytes
crc_bits_xor : (count x y r s : ℕ) → r < 2 ^ 16 → s < 2 ^ 16 → crc_bits count (bit_xor x y) (bit_xor r s) ≡ bit_xor (crc_bits count x r) (crc_bits count y s)
unfolding crc_bits
crc_bits_xor zero x y r s hr hs = refl
crc_bits_xor (suc count) x y r s hr hs =
    let bit : bit_xor x y / 2 ^ count % 2 ≡ bit_xor (x / 2 ^ count % 2) (y / 2 ^ count % 2) = ap (λ (n : ℕ). n % 2) (xor_shr x y count) ∙ xor_mod (x / 2 ^ count) (y / 2 ^ count) 1 in
    ap (λ (n : ℕ). crc_bits count (bit_xor x y) (crc_bit (bit_xor r s) n)) bit
    ∙ ap (λ (n : ℕ). crc_bits count (bit_xor x y) n) (crc_bit_xor r s (x / 2 ^ count % 2) (y / 2 ^ count % 2) hr hs (omega arith) (omega arith))
    ∙ crc_bits_xor count x y (crc_bit r (x / 2 ^ count % 2)) (crc_bit s (y / 2 ^ count % 2)) (crc_bit_fits r (x / 2 ^ count % 2)) (crc_bit_fits s (y / 2 ^ count % 2))

-- a register whose upper byte is the byte that comes in, and whose lower byte is zero, ends at zero
same_byte : (byte : ℕ) → byte < 256 → crc_bits 8 byte (byte * 256) ≡ 0
unfolding crc_bits
same_byte byte h = eqb-true _ _ (agree_below_at (λ b. crc_bits 8 b (b * 256) == 0) (λ _. true) 256 byte refl h)

-- of a register below 256 no bit falls out: it moves up
small_register : (register : ℕ) → register < 256 → crc_bits 8 0 register ≡ register * 256
unfolding crc_bits
small_register register h = eqb-true _ _ (agree_below_at (λ r. crc_bits 8 0 r == r * 256) (λ _. true) 256 register refl h)

-- an upper and a lower byte combined are both beside one another
joined_bytes : (high low : ℕ) → low < 256 → bit_xor (high * 256) low ≡ high * 256 + low
joined_bytes high low h =
    let lower : 0 * 2 ^ 8 + low ≡ low = omega arith in
    let upper : high * 2 ^ 8 + 0 ≡ high * 256 = omega arith in
    let both = xor_block 8 high 0 0 low (omega arith) h in
    ap (λ (n : ℕ). bit_xor (high * 256) n) (sym lower) ∙ ap (λ (n : ℕ). bit_xor n (0 * 2 ^ 8 + low)) (sym upper) ∙ both ∙ rw (xor_zero_r high, xor_zero_l low) refl

-- a byte at a time: the lower byte moves up, and the upper byte, combined with the byte that comes in, tells the rest
by_byte : (register byte : ℕ) → register < 2 ^ 16 → byte < 256 → crc_bits 8 byte register ≡ bit_xor (register % 256 * 256) (crc_bits 8 (bit_xor (register / 256) byte) 0)
by_byte register byte hr hb =
    let high = register / 256 in
    let low = register % 256 in
    let high_fits : high < 256 = omega arith in
    let low_fits : low < 256 = omega arith in
    let joined : bit_xor (high * 256) low ≡ register = joined_bytes high low low_fits ∙ omega arith in
    let bits : bit_xor (bit_xor high byte) high ≡ byte = ap (λ (n : ℕ). bit_xor n high) (xor_comm high byte) ∙ xor_assoc byte high high ∙ ap (bit_xor byte) (xor_self high) ∙ xor_zero_r byte in
    let first : crc_bits 8 byte register ≡ bit_xor (crc_bits 8 (bit_xor high byte) 0) (crc_bits 8 high register) =
    ap (λ (n : ℕ). crc_bits 8 n register) (sym bits) ∙ crc_bits_xor 8 (bit_xor high byte) high 0 register (omega arith) hr in
    let second : crc_bits 8 high register ≡ bit_xor (crc_bits 8 high (high * 256)) (crc_bits 8 0 low) =
    ap (crc_bits 8 high) (sym joined) ∙ ap (λ (n : ℕ). crc_bits 8 n (bit_xor (high * 256) low)) (sym (xor_zero_r high)) ∙ crc_bits_xor 8 high 0 (high * 256) low (omega arith) (omega arith) in
    let third : crc_bits 8 high register ≡ low * 256 = second ∙ rw (same_byte high high_fits, small_register low low_fits) (xor_zero_l (low * 256)) in
    first ∙ ap (bit_xor (crc_bits 8 (bit_xor high byte) 0)) third ∙ xor_comm (crc_bits 8 (bit_xor high byte) 0) (low * 256)

-- each entry of the table is what the bits of its byte do to a register that was zero
entry : (byte : ℕ) → byte < 256 → get_or TABLE byte 0 ≡ crc_bits 8 byte 0
unfolding crc_bits
entry byte h = eqb-true _ _ (agree_below_at (λ b. get_or TABLE b 0 == crc_bits 8 b 0) (λ _. true) 256 byte refl h)

-- the same step by the table
pub by_table : (register byte : ℕ) → register < 2 ^ 16 → byte < 256 → bit_xor (register * 256 % 65536) (get_or TABLE (bit_xor (register / 256) byte) 0) ≡ crc_bits 8 byte register
by_table register byte hr hb =
    let index = bit_xor (register / 256) byte in
    let fits : index < 256 = xor_lt 8 (register / 256) byte (omega arith) hb in
    let moved : register * 256 % 65536 ≡ register % 256 * 256 = omega arith in
    ap (λ (n : ℕ). bit_xor n (get_or TABLE index 0)) moved ∙ ap (bit_xor (register % 256 * 256)) (entry index fits) ∙ sym (by_byte register byte hr hb)

crc_bits_fits : (count byte register : ℕ) → register < 2 ^ 16 → crc_bits count byte register < 2 ^ 16
unfolding crc_bits
crc_bits_fits zero byte register h = h
crc_bits_fits (suc count) byte register h = crc_bits_fits count byte (crc_bit register (byte / 2 ^ count % 2)) (crc_bit_fits register (byte / 2 ^ count % 2))

crc_from_fits : (bytes : List ℕ) (register : ℕ) → register < 2 ^ 16 → crc_from bytes register < 2 ^ 16
crc_from_fits [] register h = h
crc_from_fits (byte ∷ bytes) register h = crc_from_fits bytes (crc_bits 8 byte register) (crc_bits_fits 8 byte register h)

-- a checksum has 16 bits
pub crc_fits : (bytes : List ℕ) → crc bytes < 2 ^ 16
crc_fits bytes = crc_from_fits bytes 0x4f4e (omega arith)
