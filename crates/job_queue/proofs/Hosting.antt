-- The passes of a queue are the queue's, also once some are taken.
use Rattle.std.proofs.Common.{◌≡◌, ℕ, zero, suc, ◌<◌, List, [], ◌∷◌, ◌++◌, length, slice_get, Option, Some, None, refl, sym, ap, ◌∙◌, subst}
use Rattle.std.proofs.lemmas.Option.{slice_get_within}
use Rattle.atomic_table.specs.Seated.{TableId}
use Rattle.job_queue.specs.Passes.{Queue, Storing, owns, OwnsAll, AreNew}

module _ {J : Type 0} where
  get_front : (xs ys : List (Storing J)) (k : ℕ) (x : Storing J) → slice_get xs k ≡ Some x → slice_get (xs ++ ys) k ≡ Some x
  get_front [] ys zero x h = absurd cc
  get_front [] ys (suc k) x h = absurd cc
  get_front (y ∷ xs) ys zero x h = h
  get_front (y ∷ xs) ys (suc k) x h = get_front xs ys k x h

  get_last : (xs : List (Storing J)) (x : Storing J) → slice_get (xs ++ x ∷ []) (length xs) ≡ Some x
  get_last [] x = refl
  get_last (y ∷ xs) x = get_last xs x

  pub rest_owned : (q : Queue) (all rest : List (Storing J)) (x : Storing J) → all ≡ rest ++ x ∷ [] → OwnsAll q all → OwnsAll q rest × owns q x
  rest_owned q all rest x is owned =
      let here = subst (λ (l : List (Storing J)). OwnsAll q l) is owned in
      ((λ k y at. here k y (get_front rest (x ∷ []) k y at)), here (length rest) x (get_last rest x))

  table_or : TableId → Option (Storing J) → TableId
  table_or d None = d
  table_or d (Some p) = p.table

  pub new_owned : (q : Queue) (passes : List (Storing J)) (hosts : ℕ) → AreNew q passes hosts → OwnsAll q passes
  unfolding table_or
  new_owned q passes hosts new k x at =
      let inside = slice_get_within passes k x at in
      ap (table_or q.table) (sym at ∙ new.each k (subst (λ (n : ℕ). k < n) new.count inside))
