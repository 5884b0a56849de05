-- Lists of jobs of one host.
use Rattle.std.proofs.Common.{◌≡◌, ◌≢◌, ℕ, suc, ◌+◌, ◌==◌, Bool, true, false, if◌then◌else◌, List, [], ◌∷◌, ◌++◌, length, refl, sym, ap, ◌∙◌, subst, eq-eqb, ne_eqb, arith}
use mathlib.Core.Logic.{dite}
use native.Mathlib.Decide.{ℕ_discrete}
use Rattle.job_queue.specs.declared.rule.QueuedJob.{QueuedJob}
use Rattle.job_queue.specs.Rule.{queued, of_host, numbered}

pub by_eq : (a b : ℕ) (F : Bool → Type 0) → (a ≡ b → F true) → (a ≢ b → F false) → F (a == b)
by_eq a b F same apart = dite (ℕ_discrete a b) (λ e. subst F (sym (eq-eqb a b e)) (same e)) (λ ne. subst F (sym (ne_eqb a b ne)) (apart ne))

module _ {J : Type 0} where
  pub of_host-append : (h : ℕ) (xs ys : List (QueuedJob J)) → of_host h (xs ++ ys) ≡ of_host h xs ++ of_host h ys
  of_host-append h [] ys = refl
  of_host-append h (x ∷ xs) ys = by_eq x.host h (λ b. (if b then x ∷ of_host h (xs ++ ys) else of_host h (xs ++ ys)) ≡ (if b then x ∷ of_host h xs else of_host h xs) ++ of_host h ys) (λ _. ap (λ l. x ∷ l) (of_host-append h xs ys)) (λ _. of_host-append h xs ys)

  pub of_host-mine : (x : QueuedJob J) (xs : List (QueuedJob J)) (h : ℕ) → x.host ≡ h → of_host h (x ∷ xs) ≡ x ∷ of_host h xs
  of_host-mine x xs h e = by_eq x.host h (λ b. (if b then x ∷ of_host h xs else of_host h xs) ≡ x ∷ of_host h xs) (λ _. refl) (λ n. absurd (n e))

  pub of_host-other : (x : QueuedJob J) (xs : List (QueuedJob J)) (h : ℕ) → x.host ≢ h → of_host h (x ∷ xs) ≡ of_host h xs
  of_host-other x xs h ne = by_eq x.host h (λ b. (if b then x ∷ of_host h xs else of_host h xs) ≡ of_host h xs) (λ e. absurd (ne e)) (λ _. refl)

  pub numbered-append : (h k : ℕ) (js : List J) (j : J) → numbered h k (js ++ j ∷ []) ≡ numbered h k js ++ queued h (k + length js) j ∷ []
  numbered-append h k [] j = let e : k ≡ k + 0 = omega arith in ap (λ n. queued h n j ∷ []) e
  numbered-append h k (x ∷ js) j =
      let e : suc k + length js ≡ k + suc (length js) = omega arith in
      ap (λ l. queued h k x ∷ l) (numbered-append h (suc k) js j ∙ ap (λ n. numbered h (suc k) js ++ queued h n j ∷ []) e)

  pub length-numbered : (h k : ℕ) (js : List J) → length (numbered h k js) ≡ length js
  length-numbered h k [] = refl
  length-numbered h k (x ∷ js) = ap suc (length-numbered h (suc k) js)

  -- the two parts of a numbered list are numbered
  pub numbered_parts : (h k : ℕ) (js : List J) (xs ys : List (QueuedJob J)) → xs ++ ys ≡ numbered h k js
      → (a b : List J) × ((a ++ b ≡ js) × (xs ≡ numbered h k a) × (ys ≡ numbered h (k + length a) b))
  numbered_parts h k js [] ys e = ([], js, (refl, refl, e ∙ (let z : k ≡ k + 0 = omega arith in ap (λ n. numbered h n js) z)))
  numbered_parts h k [] (x ∷ xs) ys e = absurd (cc)
  numbered_parts h k (j ∷ js) (x ∷ xs) ys e =
      let tail : xs ++ ys ≡ numbered h (suc k) js = cc in
      let head : x ≡ queued h k j = cc in
      let r = numbered_parts h (suc k) js xs ys tail in
      let a = r.0 in
      let z : suc k + length a ≡ k + suc (length a) = omega arith in
      (j ∷ a, r.1, (ap (λ l. j ∷ l) r.2.0, (λ i. head i ∷ r.2.1 i), r.2.2 ∙ ap (λ n. numbered h n r.1) z))
