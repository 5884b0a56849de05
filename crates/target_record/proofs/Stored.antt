-- An array that is filled from its front, as the images of a list.
use Rattle.std.proofs.Common.{◌≡◌, ℕ, ◌+◌, ◌-◌, ◌<◌, ◌≤◌, List, [], ◌∷◌, length, map, take, drop, get_or, refl, sym, ap, ◌∙◌, slice_set, arith}
use Rattle.std.proofs.lemmas.List.{take_more_set, take_more, map_push}

pub stored_more : {X Y : Type 0} (f : X → Y) (xs : List X) (ys : List Y) (i : ℕ) (x : X) (d : Y) → i < length xs → i < length ys
    → map f (take i xs) ≡ take i ys → f x ≡ get_or ys i d → map f (take (i + 1) (slice_set xs i x)) ≡ take (i + 1) ys
stored_more f xs ys i x d room there before same =
    ap (map f) (take_more_set xs i x room) ∙ map_push f (take i xs) x ∙ rw (before, same) (sym (take_more ys i d there))

-- the first of some, and the rest
take_all : {X : Type 0} (xs : List X) → take (length xs) xs ≡ xs
take_all [] = refl
take_all {X = X} (x ∷ xs) = ap (λ (l : List X). x ∷ l) (take_all xs)

rest_of : {X : Type 0} (x : X) (xs : List X) → take (length (x ∷ xs) - 1) xs ≡ xs
rest_of x xs = let count : length (x ∷ xs) - 1 ≡ length xs = omega arith in ap (λ n. take n xs) count ∙ take_all xs

pub first_of : {X : Type 0} (xs : List X) (d : X) → 1 ≤ length xs → xs ≡ get_or xs 0 d ∷ take (length xs - 1) (drop 1 xs)
first_of [] d h = absurd (omega (arith, h))
first_of {X = X} (x ∷ xs) d h = ap (λ (l : List X). x ∷ l) (sym (rest_of x xs))
