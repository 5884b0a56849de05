-- Rows of a fixed size, one more and one less.
use Rattle.std.proofs.Common.{◌≡◌, suc, List, [], ◌∷◌, ◌++◌, Option, Some, None, refl, ap, length, map}
use Rattle.std.specs.List.{All}
use Rattle.std.proofs.lemmas.List.Elements.{All-head, All-tail}
use Rattle.channel_work.specs.Rows.{somes, AreSome}

module _ {X : Type 0} where
  pub somes_length : (xs : List (Option X)) → AreSome xs → length (somes xs) ≡ length xs
  somes_length [] h = refl
  somes_length (None ∷ xs) h = absurd h
  somes_length (Some x ∷ xs) h = ap suc (somes_length xs h)

  pub somes_push : (xs : List (Option X)) (x : X) → somes (xs ++ (Some x ∷ [])) ≡ somes xs ++ (x ∷ [])
  somes_push [] x = refl
  somes_push (None ∷ xs) x = somes_push xs x
  somes_push (Some y ∷ xs) x = ap (λ ys. y ∷ ys) (somes_push xs x)

  pub some_push : (xs : List (Option X)) (x : X) → AreSome xs → AreSome (xs ++ (Some x ∷ []))
  some_push [] x h = tt
  some_push (None ∷ xs) x h = absurd h
  some_push (Some y ∷ xs) x h = some_push xs x h

  pub some_front : (xs : List (Option X)) (o : Option X) → AreSome (xs ++ (o ∷ [])) → AreSome xs
  some_front [] o h = tt
  some_front (None ∷ xs) o h = absurd h
  some_front (Some y ∷ xs) o h = some_front xs o h

  pub none_last : (xs : List (Option X)) → AreSome (xs ++ (None ∷ [])) → ⊥
  none_last [] h = h
  none_last (None ∷ xs) h = h
  none_last (Some y ∷ xs) h = none_last xs h

  -- where each is the same, each place has one
  pub each_some : (xs : List (Option X)) (x : X) → All (λ o. o ≡ Some x) xs → AreSome xs
  each_some [] x h = tt
  each_some (o ∷ xs) x h = at o (All-head (λ o. o ≡ Some x) o xs h) (each_some xs x (All-tail (λ o. o ≡ Some x) o xs h))
    where
      at : (o : Option X) → o ≡ Some x → AreSome xs → AreSome (o ∷ xs)
      at None e rest = cc
      at (Some y) e rest = rest

  pub somes_all : (xs : List (Option X)) → AreSome xs → xs ≡ map Some (somes xs)
  somes_all [] h = refl
  somes_all (None ∷ xs) h = absurd h
  somes_all (Some x ∷ xs) h = ap (λ ys. Some x ∷ ys) (somes_all xs h)
