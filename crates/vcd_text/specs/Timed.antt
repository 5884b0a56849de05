-- A time in a line of its own.
use Rattle.std.specs.Prelude.{◌≡◌, ℕ, List, ◌∷◌, ◌++◌, Some}
use Rattle.vcd_text.specs.declared.timed.Timed.{Timed}
use Rattle.vcd_text.specs.Tokens.{decimal}
use Rattle.vcd_text.specs.Scalars.{StartsBlank}

-- a text begins with the digits of this number
pub record IsNumber (text : List ℕ) (t : Timed) : Type 0 where
  pub digits : text ≡ t.digits.now ++ t.rest.now
  pub number : decimal t.digits.now ≡ Some t.time

-- a text goes on with a line feed, #, the digits of this number, and white space
pub record IsTimed (text : List ℕ) (t : Timed) : Type 0 where
  pub line : text ≡ 10 ∷ 35 ∷ (t.digits.now ++ t.rest.now)
  pub number : decimal t.digits.now ≡ Some t.time
  pub rest : StartsBlank t.rest.now
