-- The passes that a closing queue has taken in.
use Rattle.std.proofs.Common.{◌≡◌, ℕ, ◌+◌, ◌<◌, ◌≤◌, ◌==◌, List, [], ◌∷◌, ◌++◌, length, set, slice_index_or, refl, sym, ap, ◌∙◌, subst, arith, length-append, length-set, get_or-set_same, get_or-set_other, eqb→eq, T}
use Rattle.std.proofs.Math.ListN.{get_or-append}
use Rattle.std.proofs.Math.Seq.{get_or-append_seam}
use Rattle.std.proofs.lemmas.List.Folds.{Any-from_list_any}
use Rattle.std.specs.List.{All, Contains}
use mathlib.Core.Logic.{dite}
use native.Mathlib.Decide.{ℕ_discrete}
use Rattle.job_queue.specs.declared.rule.QueuedJob.{QueuedJob}
use Rattle.job_queue.specs.Passes.{Storing, Counts}
use Rattle.job_queue.specs.Holding.{IsBeginning}
use Rattle.job_queue.specs.Closed.{HasEachPass, IsPut, IsTally}

module _ {J : Type 0} where
  -- the passes behind `rest` were taken in, of which `put` has the numbers
  pub record IsMet (all rest : List (Storing J)) (put : List ℕ) (jobs : List (QueuedJob J)) (hosts : ℕ) : Type 0 where
    pub front : (k : ℕ) (d : Storing J) → k < length rest → slice_index_or rest k d ≡ slice_index_or all k d
    pub short : length rest ≤ length all
    pub count : length put ≡ hosts
    pub stored : (k : ℕ) (d : Storing J) → length rest ≤ k → k < length all → IsPut all put (slice_index_or all k d).host
    pub begins : (k : ℕ) (d : Storing J) → length rest ≤ k → k < length all → IsBeginning (slice_index_or all k d).host (slice_index_or all k d).stored jobs

  pub none_met : (all : List (Storing J)) (put : List ℕ) (jobs : List (QueuedJob J)) (hosts : ℕ) → length put ≡ hosts → IsMet all all put jobs hosts
  none_met all put jobs hosts count = record {
    front = λ k d lt. refl;
    short = omega arith;
    count = count;
    stored = λ k d ge lt. absurd (omega arith);
    begins = λ k d ge lt. absurd (omega arith);
  }

  module _ (all rest : List (Storing J)) (x : Storing J) (put : List ℕ) (jobs : List (QueuedJob J)) (hosts : ℕ) (met : IsMet all (rest ++ x ∷ []) put jobs hosts) where
    longer : length (rest ++ x ∷ []) ≡ length rest + 1
    longer = length-append rest (x ∷ [])

    -- the last pass that isn't taken in yet
    last_is : (d : Storing J) → slice_index_or all (length rest) d ≡ x
    last_is d =
        let room : length rest < length (rest ++ x ∷ []) = omega (arith, longer) in
        sym (met.front (length rest) d room) ∙ get_or-append_seam rest x [] d

    in_all : length rest < length all
    in_all = let s = met.short in omega (arith, longer, s)

    last_there : Contains all x
    last_there = (length rest, in_all, last_is x)

    -- what was claimed of all is claimed of it
    pub of_last : (P : Storing J → Type 0) → All P all → P x
    of_last P each = subst P (last_is x) (each (length rest) x in_all)

    -- the number of its host is written
    is_put : x.host < hosts → IsPut all (set put x.host (length x.stored)) x.host
    is_put there = (x, last_there, refl, (let room : x.host < length put = omega (arith, met.count) in get_or-set_same put x.host (length x.stored) 0 room))

    -- every other host keeps its own
    still_put : x.host < hosts → (h : ℕ) → IsPut all put h → IsPut all (set put x.host (length x.stored)) h
    still_put there h (p, is_in, is, number) = dite (ℕ_discrete h x.host)
        (λ e. subst (IsPut all (set put x.host (length x.stored))) (sym e) (is_put there))
        (λ ne. (p, is_in, is, get_or-set_other put x.host h (length x.stored) 0 ne ∙ number))

    pub one_met : x.host < hosts → IsBeginning x.host x.stored jobs → IsMet all rest (set put x.host (length x.stored)) jobs hosts
    one_met there begins = record {
      front = λ k d lt. (let lt' : k < length (rest ++ x ∷ []) = omega (arith, longer) in sym (get_or-append rest (x ∷ []) d k lt) ∙ met.front k d lt');
      short = (let s = met.short in omega (arith, longer, s));
      count = simp length-set met.count;
      stored = λ k d ge lt. dite (ℕ_discrete k (length rest))
          (λ e. subst (λ (p : Storing J). IsPut all (set put x.host (length x.stored)) p.host) (sym (ap (λ n. slice_index_or all n d) e ∙ last_is d)) (is_put there))
          (λ ne. let ge' : length (rest ++ x ∷ []) ≤ k = omega (arith, longer) in still_put there (slice_index_or all k d).host (met.stored k d ge' lt));
      begins = λ k d ge lt. dite (ℕ_discrete k (length rest))
          (λ e. subst (λ (p : Storing J). IsBeginning p.host p.stored jobs) (sym (ap (λ n. slice_index_or all n d) e ∙ last_is d)) begins)
          (λ ne. let ge' : length (rest ++ x ∷ []) ≤ k = omega (arith, longer) in met.begins k d ge' lt);
    }

  -- every host has its number, once all are taken in
  pub all_met : (all rest : List (Storing J)) (put taken : List ℕ) (jobs : List (QueuedJob J)) (hosts : ℕ) → length rest ≡ 0 → IsMet all rest put jobs hosts → HasEachPass all hosts → Counts taken hosts jobs → IsTally put taken all jobs hosts
  all_met all rest put taken jobs hosts none met each counted = record {
    counts = (met.count, counted.0);
    stored = λ h lt.
        let (k, p, small, at, is) = Any-from_list_any (λ p. p.host == h) all (each h lt) in
        subst (IsPut all put) (ap (λ (q : Storing J). q.host) at ∙ eqb→eq p.host h (subst T (sym is) tt)) (met.stored k p (omega (arith, none)) small);
    took = counted.1;
    begins = λ k d lt. met.begins k d (omega (arith, none)) lt;
  }
