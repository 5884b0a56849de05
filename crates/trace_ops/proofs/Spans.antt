-- The first and the last item of each operation are those that belong to it.
use Rattle.std.proofs.Common.{◌≡◌, ◌⊎◌, inl, inr, ℕ, zero, suc, ◌<◌, ◌≤◌, true, List, [], ◌∷◌, ◌++◌, Option, Some, None, refl, sym, ap, ◌∙◌, subst, arith, length}
use Rattle.std.specs.Prelude.{slice_get}
use Rattle.std.specs.Option.{unwrap_or}
use Rattle.std.specs.List.{All}
use Rattle.std.proofs.lemmas.List.{length-append}
use Rattle.std.proofs.lemmas.Option.{slice_get_within, get_or_from_slice_get}
use Rattle.onfi_cycle.specs.declared.item.Item.{Item}
use Rattle.trace_ops.specs.declared.change.Change.{Change}
use Rattle.trace_ops.specs.declared.judged.Judged.{Judged}
use Rattle.trace_ops.specs.declared.operation.Operation.{Operation}
use Rattle.trace_ops.specs.Operation.{changed, changed_by, changed_at}
use Rattle.trace_ops.specs.Listing.{change_of}
use Rattle.trace_ops.specs.Laws.{Spans, AllSpan}
use Rattle.trace_ops.proofs.Quiet.{is_quiet}
use Rattle.trace_ops.proofs.Changed.{put, quiet_first, quiet_last, loud_first, loud_last}

pub same_some : {X : Type 0} {a b : X} → Some a ≡ Some b → a ≡ b
same_some {a = a} h = ap (λ o. unwrap_or o a) h

-- ---- one mark more

pub at_front : (marks : List ℕ) (more : List ℕ) (n k : ℕ) → slice_get marks n ≡ Some k → slice_get (marks ++ more) n ≡ Some k
at_front [] more n k h = cc
at_front (m ∷ marks) more zero k h = h
at_front (m ∷ marks) more (suc n) k h = at_front marks more n k h

pub at_end : (marks : List ℕ) (k : ℕ) → slice_get (marks ++ (k ∷ [])) (length marks) ≡ Some k
at_end [] k = refl
at_end (m ∷ marks) k = at_end marks k

-- what stands at a place is old, or the new one
pub which : {X : Type 0} (xs : List X) (x : X) (n : ℕ) (y : X) → slice_get (xs ++ (x ∷ [])) n ≡ Some y → (slice_get xs n ≡ Some y) ⊎ ((n ≡ length xs) × (y ≡ x))
which [] x zero y h = inr (refl, sym (same_some h))
which [] x (suc n) y h = cc
which (z ∷ xs) x zero y h = inl h
which (z ∷ xs) x (suc n) y h = at (which xs x n y h)
  where
    at : (slice_get xs n ≡ Some y) ⊎ ((n ≡ length xs) × (y ≡ x)) → (slice_get xs n ≡ Some y) ⊎ ((suc n ≡ suc (length xs)) × (y ≡ x))
    at (inl old) = inl old
    at (inr new) = inr (ap suc new.0, new.1)

-- ---- changes that bring no item

moved : (marks : List ℕ) (k : ℕ) (o y : Operation) → y.first ≡ o.first → y.last ≡ o.last → Spans marks k o → Spans marks k y
moved marks k o y f l s = record {
  first = ap (slice_get marks) f ∙ s.first;
  last = ap (slice_get marks) l ∙ s.last;
  between = λ n h. (let both = s.between n h in (omega (arith, f, both.0), omega (arith, l, both.1)));
}

pub spans_quiet : (marks : List ℕ) (m : ℕ) (c : Change) (ops : List Operation) → is_quiet c ≡ true → AllSpan marks ops → AllSpan marks (changed_at m c ops)
spans_quiet marks m c ops quiet all = at (slice_get ops m) refl
  where
    at : (o : Option Operation) → slice_get ops m ≡ o → AllSpan marks (changed_by o c ops m)
    at None h k w is = all k w is
    at (Some o) h k w is = by_place (put ops m k (changed c o) w is)
      where
        by_place : ((k ≡ m) × (w ≡ changed c o)) ⊎ ((k ≡ m → ⊥) × (slice_get ops k ≡ Some w)) → Spans marks k w
        by_place (inl both) =
            let mine = moved marks m o (changed c o) (quiet_first c o quiet) (quiet_last c o quiet) (all m o h) in
            subst (λ (n : ℕ). Spans marks n w) (sym both.0) (subst (λ (z : Operation). Spans marks m z) (sym both.1) mine)
        by_place (inr old) = all k w old.1

-- ---- the item that comes

-- of the operation to which the next item comes, its first item is the first
pub record Begins (marks : List ℕ) (k : ℕ) (o : Operation) : Type 0 where
  pub first : slice_get (marks ++ (k ∷ [])) o.first ≡ Some k
  pub least : (n : ℕ) → slice_get (marks ++ (k ∷ [])) n ≡ Some k → o.first ≤ n

-- before the next item comes to the operation of this number
pub record Awaits (marks : List ℕ) (k : ℕ) (ops : List Operation) : Type 0 where
  pub others : (m : ℕ) (o : Operation) → (m ≡ k → ⊥) → slice_get ops m ≡ Some o → Spans marks m o
  pub own : (o : Operation) → slice_get ops k ≡ Some o → Begins marks k o

begun_so : (marks : List ℕ) (k : ℕ) (o y : Operation) → y.first ≡ o.first → Begins marks k o → Begins marks k y
begun_so marks k o y f b = record {
  first = ap (slice_get (marks ++ (k ∷ []))) f ∙ b.first;
  least = λ n h. (let least = b.least n h in omega (arith, f, least));
}

pub awaits_quiet : (marks : List ℕ) (k m : ℕ) (c : Change) (ops : List Operation) → is_quiet c ≡ true → Awaits marks k ops → Awaits marks k (changed_at m c ops)
awaits_quiet marks k m c ops quiet awaits = at (slice_get ops m) refl
  where
    at : (o : Option Operation) → slice_get ops m ≡ o → Awaits marks k (changed_by o c ops m)
    at None h = awaits
    at (Some o) h = record {
      others = λ n w apart is. by_other n w apart (put ops m n (changed c o) w is);
      own = λ w is. by_own w (put ops m k (changed c o) w is);
    }
      where
        by_other : (n : ℕ) (w : Operation) → (n ≡ k → ⊥) → ((n ≡ m) × (w ≡ changed c o)) ⊎ ((n ≡ m → ⊥) × (slice_get ops n ≡ Some w)) → Spans marks n w
        by_other n w apart (inl both) =
            let mine = moved marks n o (changed c o) (quiet_first c o quiet) (quiet_last c o quiet) (awaits.others n o apart (ap (slice_get ops) both.0 ∙ h)) in
            subst (λ (z : Operation). Spans marks n z) (sym both.1) mine
        by_other n w apart (inr old) = awaits.others n w apart old.1

        by_own : (w : Operation) → ((k ≡ m) × (w ≡ changed c o)) ⊎ ((k ≡ m → ⊥) × (slice_get ops k ≡ Some w)) → Begins marks k w
        by_own w (inl both) =
            let mine = begun_so marks k o (changed c o) (quiet_first c o quiet) (awaits.own o (ap (slice_get ops) both.0 ∙ h)) in
            subst (λ (z : Operation). Begins marks k z) (sym both.1) mine
        by_own w (inr old) = awaits.own w old.1

-- one mark more changes nothing of another operation
other_spans : (marks : List ℕ) (k m : ℕ) (o : Operation) → (m ≡ k → ⊥) → Spans marks m o → Spans (marks ++ (k ∷ [])) m o
other_spans marks k m o apart s = record {
  first = at_front marks (k ∷ []) o.first m s.first;
  last = at_front marks (k ∷ []) o.last m s.last;
  between = λ n h. by_place n (which marks k n m h);
}
  where
    by_place : (n : ℕ) → (slice_get marks n ≡ Some m) ⊎ ((n ≡ length marks) × (m ≡ k)) → (o.first ≤ n) × (n ≤ o.last)
    by_place n (inl old) = s.between n old
    by_place n (inr new) = absurd (apart new.1)

-- the item has come
pub spans_loud : (marks : List ℕ) (k : ℕ) (owner : Option ℕ) (j : Judged) (i : Item) (ops : List Operation) → j.number ≡ length marks → Awaits marks k ops →
    AllSpan (marks ++ (k ∷ [])) (changed_at k (change_of owner j i) ops)
spans_loud marks k owner j i ops number awaits = at (slice_get ops k) refl
  where
    at : (o : Option Operation) → slice_get ops k ≡ o → AllSpan (marks ++ (k ∷ [])) (changed_by o (change_of owner j i) ops k)
    at None h m w is = other_spans marks k m w (λ e. none (sym is ∙ ap (slice_get ops) e ∙ h)) (awaits.others m w (λ e. none (sym is ∙ ap (slice_get ops) e ∙ h)) is)
      where
        none : Some w ≡ None → ⊥
        none e = cc
    at (Some o) h m w is = by_place (put ops k m (changed (change_of owner j i) o) w is)
      where
        own : Spans (marks ++ (k ∷ [])) k (changed (change_of owner j i) o)
        own =
            let begins = awaits.own o h in
            let first = loud_first owner j i o in
            let last = loud_last owner j i o ∙ number in
            record {
              first = ap (slice_get (marks ++ (k ∷ []))) first ∙ begins.first;
              last = ap (slice_get (marks ++ (k ∷ []))) last ∙ at_end marks k;
              between = λ n e. (
                  let least = begins.least n e in
                  let long = length-append marks (k ∷ []) in
                  let there = slice_get_within (marks ++ (k ∷ [])) n k e in
                  (omega (arith, first, least), omega (arith, last, long, there))
                  );
            }

        by_place : ((m ≡ k) × (w ≡ changed (change_of owner j i) o)) ⊎ ((m ≡ k → ⊥) × (slice_get ops m ≡ Some w)) → Spans (marks ++ (k ∷ [])) m w
        by_place (inl both) = subst (λ (n : ℕ). Spans (marks ++ (k ∷ [])) n w) (sym both.0) (subst (λ (z : Operation). Spans (marks ++ (k ∷ [])) k z) (sym both.1) own)
        by_place (inr old) = other_spans marks k m w old.0 (awaits.others m w old.0 old.1)

-- an old operation, or a new one, to which it comes
pub awaits_old : (marks : List ℕ) (k : ℕ) (ops : List Operation) → AllSpan marks ops → Awaits marks k ops
awaits_old marks k ops all = record {
  others = λ m o apart is. all m o is;
  own = λ o is. by_spans o (all k o is);
}
  where
    by_spans : (o : Operation) → Spans marks k o → Begins marks k o
    by_spans o s = record {
      first = at_front marks (k ∷ []) o.first k s.first;
      least = λ n h. least n (which marks k n k h);
    }
      where
        least : (n : ℕ) → (slice_get marks n ≡ Some k) ⊎ ((n ≡ length marks) × (k ≡ k)) → o.first ≤ n
        least n (inl old) = (s.between n old).0
        least n (inr new) = (let there = slice_get_within marks o.first k s.first in omega (arith, new.0, there))

pub awaits_new : (marks : List ℕ) (ops : List Operation) (o : Operation) → o.first ≡ length marks → All (λ m. m < length ops) marks → AllSpan marks ops →
    Awaits marks (length ops) (ops ++ (o ∷ []))
awaits_new marks ops o first below all = record {
  others = λ m w apart is. by_other m w apart (which ops o m w is);
  own = λ w is. by_own w (which ops o (length ops) w is);
}
  where
    by_other : (m : ℕ) (w : Operation) → (m ≡ length ops → ⊥) → (slice_get ops m ≡ Some w) ⊎ ((m ≡ length ops) × (w ≡ o)) → Spans marks m w
    by_other m w apart (inl old) = all m w old
    by_other m w apart (inr new) = absurd (apart new.0)

    least : (n : ℕ) → (slice_get marks n ≡ Some (length ops)) ⊎ ((n ≡ length marks) × (length ops ≡ length ops)) → o.first ≤ n
    least n (inl old) =
        let there = slice_get_within marks n (length ops) old in
        let small = below n 0 there in
        let same = get_or_from_slice_get marks n (length ops) 0 old in
        absurd (omega (arith, small, same))
    least n (inr new) = omega (arith, first, new.0)

    new_begins : Begins marks (length ops) o
    new_begins = record {
      first = ap (slice_get (marks ++ (length ops ∷ []))) first ∙ at_end marks (length ops);
      least = λ n h. least n (which marks (length ops) n (length ops) h);
    }

    by_own : (w : Operation) → (slice_get ops (length ops) ≡ Some w) ⊎ ((length ops ≡ length ops) × (w ≡ o)) → Begins marks (length ops) w
    by_own w (inl old) = (let there = slice_get_within ops (length ops) w old in absurd (omega (arith, there)))
    by_own w (inr new) = subst (λ (z : Operation). Begins marks (length ops) z) (sym new.1) new_begins
