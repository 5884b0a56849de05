-- The list of calls, one call longer.
use Rattle.std.proofs.Common.{◌≡◌, ◌≢◌, ℕ, zero, suc, ◌<◌, ◌≤◌, ◌==◌, Bool, true, false, ◌&&◌, if◌then◌else◌, List, [], ◌∷◌, ◌++◌, length, set, refl, sym, ap, ◌∙◌, subst, ⊎_elim, ◌⊎◌, inl, inr, eq-eqb, ne_eqb, arith}
use mathlib.Core.Option.{some, some-injective, some-ne-none}
use mathlib.Core.Logic.{dite}
use native.Mathlib.Decide.{ℕ_discrete}
use lib.ListN.{get_elem?}
use Rattle.atomic_table.proofs.Lists.{at_set}
use Rattle.lun_lease.specs.declared.rule.View.{View}
use Rattle.lun_lease.specs.declared.rule.Call.{Call}
use Rattle.lun_lease.specs.Rule.{Entry, given_by, is_given, answers_truly, is_truthful, calls_of}

pub by_eq : (a b : ℕ) (F : Bool → Type 0) → (a ≡ b → F true) → (a ≢ b → F false) → F (a == b)
by_eq a b F same apart = dite (ℕ_discrete a b) (λ e. subst F (sym (eq-eqb a b e)) (same e)) (λ ne. subst F (sym (ne_eqb a b ne)) (apart ne))

pub is_given-append : (lun : ℕ) (was : Bool) (es : List Entry) (e : Entry) → is_given lun was (es ++ e ∷ []) ≡ given_by lun (is_given lun was es) e.1
is_given-append lun was [] e = refl
is_given-append lun was (x ∷ es) e = is_given-append lun (given_by lun was x.1) es e

both : (a b c : Bool) → (a && b) ≡ true → (b ≡ true → c ≡ true) → (a && c) ≡ true
both true b c h f = f h
both false b c h f = h

pub is_truthful-append : (lun : ℕ) (was : Bool) (es : List Entry) (e : Entry) → is_truthful lun was es ≡ true → answers_truly lun (is_given lun was es) e.1 ≡ true → is_truthful lun was (es ++ e ∷ []) ≡ true
is_truthful-append lun was [] e h a = both _ true _ (and_true _ a) (λ t. t)
  where
    and_true : (a : Bool) → a ≡ true → (a && true) ≡ true
    and_true true h = refl
    and_true false h = h
is_truthful-append lun was (x ∷ es) e h a = both (answers_truly lun was x.1) (is_truthful lun (given_by lun was x.1) es) _ h (λ t. is_truthful-append lun (given_by lun was x.1) es e t a)

pub calls_of-mine : (seat : ℕ) (es : List Entry) (c : Call) → calls_of seat (es ++ (seat, c) ∷ []) ≡ calls_of seat es ++ c ∷ []
calls_of-mine seat [] c = by_eq seat seat (λ b. (if b then c ∷ [] else []) ≡ c ∷ []) (λ _. refl) (λ n. absurd (n refl))
calls_of-mine seat (x ∷ es) c =
    by_eq x.0 seat (λ b. (if b then x.1 ∷ calls_of seat (es ++ (seat, c) ∷ []) else calls_of seat (es ++ (seat, c) ∷ [])) ≡ (if b then x.1 ∷ calls_of seat es else calls_of seat es) ++ c ∷ [])
    (λ _. ap (λ l. x.1 ∷ l) (calls_of-mine seat es c))
    (λ _. calls_of-mine seat es c)

pub calls_of-other : (seat by : ℕ) (es : List Entry) (c : Call) → by ≢ seat → calls_of seat (es ++ (by, c) ∷ []) ≡ calls_of seat es
calls_of-other seat by [] c n = by_eq by seat (λ b. (if b then c ∷ [] else []) ≡ []) (λ e. absurd (n e)) (λ _. refl)
calls_of-other seat by (x ∷ es) c n =
    by_eq x.0 seat (λ b. (if b then x.1 ∷ calls_of seat (es ++ (by, c) ∷ []) else calls_of seat (es ++ (by, c) ∷ [])) ≡ (if b then x.1 ∷ calls_of seat es else calls_of seat es))
    (λ _. ap (λ l. x.1 ∷ l) (calls_of-other seat by es c n))
    (λ _. calls_of-other seat by es c n)

pub is_there : {A : Type 0} (l : List A) (i : ℕ) (a : A) → get_elem? l i ≡ some a → i < length l
is_there [] i a e = absurd (some-ne-none a (sym e))
is_there (x ∷ xs) zero a e = omega arith
is_there (x ∷ xs) (suc i) a e = let h = is_there xs i a e in omega arith

-- two views at one place are one view
pub at_same : (views : List View) (i j : ℕ) (v u : View) → get_elem? views i ≡ some v → get_elem? views j ≡ some u → j ≡ i → v ≡ u
at_same views i j v u at there e = some-injective v u (sym at ∙ ap (λ k. get_elem? views k) (sym e) ∙ there)

-- what stands in a list one longer
pub in_longer : {A : Type 0} (l : List A) (a b : A) (i : ℕ) → get_elem? (l ++ a ∷ []) i ≡ some b → (get_elem? l i ≡ some b) ⊎ ((i ≡ length l) × (a ≡ b))
in_longer [] a b zero e = inr (refl, some-injective a b e)
in_longer [] a b (suc i) e = absurd (some-ne-none b (sym e))
in_longer (x ∷ xs) a b zero e = inl e
in_longer (x ∷ xs) a b (suc i) e = ⊎_elim (λ h. inl h) (λ h. inr (ap suc h.0, h.1)) (in_longer xs a b i e)

-- a seat's call joins its own
pub own_after : (views : List View) (log : List Entry) (id : ℕ) (v w : View) (c : Call) → ((seat : ℕ) (u : View) → get_elem? views seat ≡ some u → u.calls ≡ calls_of seat log) → get_elem? views id ≡ some v → w.calls ≡ v.calls ++ c ∷ []
    → (seat : ℕ) (u : View) → get_elem? (set views id w) seat ≡ some u → u.calls ≡ calls_of seat (log ++ (id, c) ∷ [])
own_after views log id v w c own at joins seat u e =
    ⊎_elim
    (λ (x : (seat ≡ id) × (w ≡ u)).
    ap (λ (y : View). y.calls) (sym x.1) ∙ joins ∙ ap (λ l. l ++ c ∷ []) (own id v at) ∙ sym (calls_of-mine id log c) ∙ ap (λ n. calls_of n (log ++ (id, c) ∷ [])) (sym x.0))
    (λ (x : (seat ≢ id) × (get_elem? views seat ≡ some u)). own seat u x.1 ∙ sym (calls_of-other seat id log c (λ p. x.0 (sym p))))
    (at_set views id seat w u e)

-- a seat not yet made has no call
pub later_after : (views : List View) (log : List Entry) (id : ℕ) (v w : View) (c : Call) → ((seat : ℕ) → length views ≤ seat → calls_of seat log ≡ []) → get_elem? views id ≡ some v
    → (seat : ℕ) → length views ≤ seat → calls_of seat (log ++ (id, c) ∷ []) ≡ []
later_after views log id v w c later at seat far =
    let here = is_there views id v at in
    let apart : id ≢ seat = omega arith in
    calls_of-other seat id log c apart ∙ later seat far
