-- The widths of codes of one character.
use Rattle.std.specs.Prelude.{◌≡◌, ⊤, ◌+◌, ℕ, List, [], ◌∷◌, Option}
use Rattle.vcd_text.specs.Body.{Widths, width_of}

-- each is the width of its code, of which the first is this
abbrev pub AreShort : Widths → (code : ℕ) → List (Option ℕ) → Type 0
AreShort widths code [] = ⊤
AreShort widths code (w ∷ short) = (w ≡ width_of widths code) × AreShort widths (code + 1) short
