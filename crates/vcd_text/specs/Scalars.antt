-- A change of one bit in a line of its own, whose code has one character.
use Rattle.std.specs.Prelude.{◌≡◌, ℕ, true, false, List, [], ◌∷◌, ◌++◌}
use Rattle.vcd_text.specs.declared.scalar.Scalar.{Scalar}
use Rattle.vcd_text.specs.Tokens.{level_of, is_known}
use Rattle.vcd_text.specs.Words.{is_blank}

-- white space stands at the front of a text
abbrev pub StartsBlank : List ℕ → Type 0
StartsBlank [] = ⊥
StartsBlank (b ∷ bytes) = is_blank b ≡ true

-- these are one bit
abbrev pub IsBit : List ℕ → Type 0
IsBit [] = ⊥
IsBit (b ∷ []) = is_known (level_of b) ≡ true
IsBit (b ∷ c ∷ bits) = ⊥

-- a text goes on with a line feed, this bit, its code, and white space
pub record IsScalar (text : List ℕ) (s : Scalar) : Type 0 where
  pub line : text ≡ 10 ∷ (s.bits.now ++ s.code ∷ s.rest.now)
  pub bit : IsBit s.bits.now
  pub code : is_blank s.code ≡ false
  pub rest : StartsBlank s.rest.now
