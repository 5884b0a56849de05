-- What a line says of signals, one part after another.
use Rattle.std.proofs.Common.{◌≡◌, ℕ, ◌<◌, Bool, false, eqb, Option, Some, None, List, [], ◌∷◌, length, get_or, refl, ap, ◌∙◌, Bor, lit<}
use Rattle.std.specs.Prelude.{IfSome, IfNone}
use Rattle.std.specs.List.{All}
use Rattle.std.proofs.lemmas.Bool.{ne_eqb}
use Rattle.std.proofs.lemmas.List.Elements.{All-from_get_or}
use Rattle.std.proofs.lemmas.List.Splits.{slice_split_none, slice_split_at}
use Rattle.std.proofs.lemmas.Str.Pattern.{IsSplitOnceResult, split_parts}
use Rattle.recording.specs.Captures.{parts}

abbrev is_comma : ℕ → Bool
is_comma b = eqb b 44

no_comma : (bs : List ℕ) → ((i : ℕ) → i < length bs → get_or bs i 0 ≡ 44 → ⊥) → All (λ b. is_comma b ≡ false) bs
no_comma bs h = All-from_get_or (λ (b : ℕ). is_comma b ≡ false) bs 0 (λ i lt. ne_eqb (get_or bs i 0) 44 (h i lt))

pub first_some : (bs : List ℕ) (r : Option (Bor (List ℕ) × Bor (List ℕ))) → IsSplitOnceResult 44 bs r → IfSome r (λ x. parts bs ≡ x.0.now ∷ parts x.1.now)
first_some bs None h = tt
first_some bs (Some x) h =
    let cut = split_parts 44 bs (Some x) h (lit< tt) in
    ap parts cut.0 ∙ slice_split_at is_comma x.0.now 44 x.1.now (no_comma x.0.now cut.1) refl

pub first_none : (bs : List ℕ) (r : Option (Bor (List ℕ) × Bor (List ℕ))) → IsSplitOnceResult 44 bs r → IfNone r (parts bs ≡ bs ∷ [])
first_none bs (Some x) h = tt
first_none bs None h = slice_split_none is_comma bs (no_comma bs (split_parts 44 bs None h (lit< tt)))
