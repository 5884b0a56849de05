-- A text that ends before a name does.
use Rattle.std.proofs.Common.{◌≡◌, ℕ, eqb, true, false, List, [], ◌∷◌, length, refl, arith}
use Rattle.std.proofs.lemmas.Bool.{eqb-true}
use Rattle.bus_signals.specs.Roles.{is_joined}

pub too_short : (name range text : List ℕ) → eqb (length name) 0 ≡ false → eqb (length text) 0 ≡ true → false ≡ is_joined name range text
too_short [] range text some none = absurd cc
too_short (b ∷ name) range [] some none = refl
too_short (b ∷ name) range (t ∷ text) some none = absurd (omega (arith, eqb-true (length (t ∷ text)) 0 none))
