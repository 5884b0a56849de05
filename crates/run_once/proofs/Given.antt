-- What holds of the bytes that were read holds of the input, where that is known.
use Rattle.std.proofs.Common.{◌≡◌, ℕ, List, Option, Some, None, ◌∙◌, subst}
use Rattle.std.specs.Prelude.{IfSome}

pub of_input : (o : Option (List ℕ)) (items slice : List ℕ) (P : List ℕ → Type 0) → IfSome o (λ all. items ≡ all) → slice ≡ items → P slice → IfSome o P
of_input None items slice P same slices p = tt
of_input (Some all) items slice P same slices p = subst P (slices ∙ same) p
