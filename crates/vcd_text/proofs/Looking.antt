-- The widths of codes of one character.
use Rattle.std.proofs.Common.{◌≡◌, ◌<◌, ◌+◌, ℕ, zero, suc, List, [], ◌∷◌, ◌++◌, Option, length, get_or, subst, arith}
use Rattle.vcd_text.specs.Body.{Widths, width_of}
use Rattle.vcd_text.specs.Widths.{AreShort}

pub short_more : (widths : Widths) (code : ℕ) (short : List (Option ℕ)) (w : Option ℕ) → AreShort widths code short → w ≡ width_of widths (code + length short) → AreShort widths code (short ++ w ∷ [])
short_more widths code [] w are is = let here : code + 0 ≡ code = omega arith in (subst (λ n. w ≡ width_of widths n) here is, tt)
short_more widths code (x ∷ short) w are is =
    let there : code + suc (length short) ≡ code + 1 + length short = omega arith in
    (are.0, short_more widths (code + 1) short w are.1 (subst (λ n. w ≡ width_of widths n) there is))

short_at : (widths : Widths) (code k : ℕ) (short : List (Option ℕ)) (d : Option ℕ) → AreShort widths code short → k < length short → get_or short k d ≡ width_of widths (code + k)
short_at widths code k [] d are within = absurd (omega (arith, within))
short_at widths code zero (x ∷ short) d are within =
    let here : code ≡ code + 0 = omega arith in
    subst (λ n. x ≡ width_of widths n) here are.0
short_at widths code (suc k) (x ∷ short) d are within =
    let there : code + 1 + k ≡ code + suc k = omega arith in
    subst (λ n. get_or short k d ≡ width_of widths n) there (short_at widths (code + 1) k short d are.1 (omega (arith, within)))

pub short_of : (widths : Widths) (k : ℕ) (short : List (Option ℕ)) (d : Option ℕ) → AreShort widths 0 short → k < length short → get_or short k d ≡ width_of widths k
short_of widths k short d are within =
    let here : 0 + k ≡ k = omega arith in
    subst (λ n. get_or short k d ≡ width_of widths n) here (short_at widths 0 k short d are within)
