-- The fields of a line, one after another.
use Rattle.std.proofs.Common.{◌≡◌, ℕ, ◌<◌, Bool, true, false, cond, eqb, Option, Some, None, List, [], ◌∷◌, length, get_or, Err, refl, ap, ◌∙◌, Bor, lit<}
use Rattle.std.specs.Prelude.{IfSome, IfNone}
use Rattle.std.proofs.lemmas.Bool.{ne_eqb}
use Rattle.std.specs.List.{All, onto_first}
use Rattle.std.proofs.lemmas.List.Elements.{All-from_get_or}
use Rattle.std.proofs.lemmas.List.Splits.{slice_split_none, slice_split_at}
use Rattle.std.proofs.lemmas.Str.Pattern.{IsSplitOnceResult, split_parts}
use Rattle.nand_geometry.specs.declared.optional.Profile.{Profile}
use Rattle.trace_text.specs.declared.refusal.TraceFault.TheVariants.{BadShape}
use Rattle.trace_text.specs.Reading.{fields, line_item}

abbrev is_space : ℕ → Bool
is_space b = eqb b 32

no_space : (bs : List ℕ) → ((i : ℕ) → i < length bs → get_or bs i 0 ≡ 32 → ⊥) → All (λ b. is_space b ≡ false) bs
no_space bs h = All-from_get_or (λ (b : ℕ). is_space b ≡ false) bs 0 (λ i lt. ne_eqb (get_or bs i 0) 32 (h i lt))

-- what splitting at the first space gives
pub first_some : (bs : List ℕ) (r : Option (Bor (List ℕ) × Bor (List ℕ))) → IsSplitOnceResult 32 bs r → IfSome r (λ x. fields bs ≡ x.0.now ∷ fields x.1.now)
first_some bs None h = tt
first_some bs (Some x) h =
    let parts = split_parts 32 bs (Some x) h (lit< tt) in
    ap fields parts.0 ∙ slice_split_at is_space x.0.now 32 x.1.now (no_space x.0.now parts.1) refl

pub first_none : (bs : List ℕ) (r : Option (Bor (List ℕ) × Bor (List ℕ))) → IsSplitOnceResult 32 bs r → IfNone r (fields bs ≡ bs ∷ [])
first_none bs (Some x) h = tt
first_none bs None h = slice_split_none is_space bs (no_space bs (split_parts 32 bs None h (lit< tt)))

-- ---- too few or too many

pub one_field : (p : Profile) (bs : List ℕ) (a : List ℕ) → fields bs ≡ a ∷ [] → line_item p bs ≡ Err BadShape
unfolding line_item
one_field p bs a e = rw e refl

pub two_fields : (p : Profile) (bs : List ℕ) (a b : List ℕ) → fields bs ≡ a ∷ b ∷ [] → line_item p bs ≡ Err BadShape
unfolding line_item
two_fields p bs a b e = rw e refl

-- a line has a field, though it may be empty
some_field : (bs : List ℕ) → (a : List ℕ) × (more : List (List ℕ)) × (fields bs ≡ a ∷ more)
some_field [] = ([], [], refl)
some_field (b ∷ bs) = at (is_space b) (fields bs)
  where
    at : (t : Bool) (fs : List (List ℕ)) → (a : List ℕ) × (more : List (List ℕ)) × (cond t ([] ∷ fs) (onto_first b fs) ≡ a ∷ more)
    at true fs = ([], fs, refl)
    at false [] = (b ∷ [], [], refl)
    at false (f ∷ fs) = (b ∷ f, fs, refl)

pub five_fields : (p : Profile) (bs : List ℕ) (a b c d rest : List ℕ) → fields bs ≡ a ∷ b ∷ c ∷ d ∷ fields rest → line_item p bs ≡ Err BadShape
unfolding line_item
five_fields p bs a b c d rest e =
    let fifth = some_field rest in
    let all : fields bs ≡ a ∷ b ∷ c ∷ d ∷ fifth.0 ∷ fifth.1 = e ∙ ap (λ (fs : List (List ℕ)). a ∷ b ∷ c ∷ d ∷ fs) fifth.2 in
    rw all refl
