-- A taken job keeps what the taker holds.
use Rattle.std.proofs.Common.{◌≡◌, ◌⊎◌, ◌↔◌, inl, inr, ℕ, zero, suc, ◌+◌, ◌<◌, ◌≤◌, ◌==◌, ◌&&◌, Bool, true, false, List, [], ◌∷◌, ◌++◌, length, set, slice_index, slice_index_or, slice_get, Some, refl, sym, ap, ◌∙◌, subst, arith, length-append, length-set, get_or-set_same, get_or-set_other}
use Rattle.std.proofs.lemmas.List.{append-nil}
use Rattle.std.proofs.Math.ListN.{get_or-append}
use Rattle.std.proofs.Math.Seq.{get_or-append_seam}
use Rattle.std.proofs.lemmas.Option.{slice_get-get_or}
use Rattle.std.proofs.lemmas.Bool.{cases_lt, eqb-true}
use mathlib.Core.Logic.{dite}
use native.Mathlib.Decide.{ℕ_discrete}
use Rattle.crossbeam_queue.specs.Passes.{Pass, view}
use Rattle.job_queue.specs.declared.rule.QueuedJob.{QueuedJob}
use Rattle.job_queue.specs.declared.rule.View.{View}
use Rattle.job_queue.specs.declared.rule.View.TheVariants.{Taker}
use Rattle.job_queue.specs.Rule.{of_host, IsInOrder, TakesNext, with_next_host}
use Rattle.job_queue.specs.Passes.{Counts}
use Rattle.std.specs.List.{list_all}
use Rattle.job_queue.specs.Holding.{taken_in, taken_of, IsTakerPass}
use Rattle.job_queue.proofs.Jobs.{of_host-append, of_host-mine, of_host-other}

-- what holds of each element by its index, one element later
pub each_more : {A : Type 0} (f : ℕ → A) (xs : List A) (n : ℕ) → length xs ≡ n → ((h : ℕ) → h < n → slice_get xs h ≡ Some (f h)) → (h : ℕ) → h < n + 1 → slice_get (xs ++ f n ∷ []) h ≡ Some (f h)
each_more {A} f xs n len all h lt =
    let longer : List A = xs ++ f n ∷ [] in
    let there : h < length longer = omega (arith, len, length-append xs (f n ∷ [])) in
    slice_get-get_or longer h (f n) there ∙ dite (ℕ_discrete h n)
    (λ e. ap Some (ap (λ i. slice_index_or longer i (f n)) (e ∙ sym len) ∙ get_or-append_seam xs (f n) [] (f n) ∙ ap f (sym e)))
    (λ ne. let lt' : h < n = omega arith in let room : h < length xs = omega (arith, len) in ap Some (get_or-append xs (f n ∷ []) (f n) h room) ∙ sym (slice_get-get_or xs h (f n) room) ∙ all h lt')

module _ {J : Type 0} where
  counts_after : (counts : List ℕ) (hosts : ℕ) (ts : List (QueuedJob J)) (x : QueuedJob J) → Counts counts hosts ts → TakesNext ts x hosts → Counts (set counts x.host (x.number + 1)) hosts (ts ++ x ∷ [])
  counts_after counts hosts ts x k next = (
    simp length-set k.0,
    λ h lt. dite (ℕ_discrete h x.host)
        (λ e.
        let room : x.host < length counts = omega (arith, k.0, next.host) in
        let longer : of_host x.host (ts ++ x ∷ []) ≡ of_host x.host ts ++ x ∷ [] = of_host-append x.host ts (x ∷ []) ∙ ap (λ l. of_host x.host ts ++ l) (of_host-mine x [] x.host refl) in
        let count : length (of_host x.host (ts ++ x ∷ [])) ≡ x.number + 1 = ap length longer ∙ length-append (of_host x.host ts) (x ∷ []) ∙ ap (λ n. n + 1) (sym next.number) in
        subst (λ m. slice_index (set counts x.host (x.number + 1)) m ≡ length (of_host m (ts ++ x ∷ []))) (sym e) (get_or-set_same counts x.host (x.number + 1) 0 room ∙ sym count))
        (λ ne.
        let none : of_host h (ts ++ x ∷ []) ≡ of_host h ts = of_host-append h ts (x ∷ []) ∙ ap (λ l. of_host h ts ++ l) (of_host-other x [] h (λ e. ne (sym e))) ∙ append-nil (of_host h ts) in
        get_or-set_other counts x.host h (x.number + 1) 0 ne ∙ k.1 h lt ∙ sym (ap length none)),
  )

  pub takes_keeps : (p q : Pass (QueuedJob J) (View J)) (hosts : ℕ) (put counts : List ℕ) (x : QueuedJob J) → IsTakerPass p hosts put counts → q.me.1 ≡ p.me.1
      → (view q ≡ Taker (taken_of p ++ x ∷ []) hosts) × TakesNext (taken_of p) x hosts → IsTakerPass q hosts put (set counts x.host (x.number + 1))
  takes_keeps p q hosts put counts x h same told =
      let is : taken_of q ≡ taken_of p ++ x ∷ [] = ap taken_in told.0 in
      record {
        empty = same ∙ h.empty;
        now = told.0 ∙ ap (λ ts. Taker ts hosts) (sym is);
        order = subst (λ ts. IsInOrder ts hosts) (sym is) told.1.order;
        room = h.room;
        counted = subst (λ ts. Counts (set counts x.host (x.number + 1)) hosts ts) (sym is) (counts_after counts hosts (taken_of p) x h.counted told.1);
      }

  counts_more : (counts : List ℕ) (hosts : ℕ) (ts : List (QueuedJob J)) → Counts counts hosts ts → IsInOrder ts hosts → Counts (counts ++ 0 ∷ []) (hosts + 1) ts
  counts_more counts hosts ts k order = (
    omega (arith, length-append counts (0 ∷ []), k.0),
    λ h lt. dite (ℕ_discrete h hosts)
        (λ e. ap (λ i. slice_index (counts ++ 0 ∷ []) i) (e ∙ sym k.0) ∙ get_or-append_seam counts 0 [] 0 ∙ sym (ap length (order.none h (let le : hosts ≤ h = omega arith in le))))
        (λ ne. let lt' : h < hosts = omega arith in let room : h < length counts = omega (arith, k.0) in get_or-append counts (0 ∷ []) 0 h room ∙ k.1 h lt'),
  )

  pub makes_keeps : (p q : Pass (QueuedJob J) (View J)) (hosts : ℕ) (put counts : List ℕ) → IsTakerPass p hosts put counts → q.me.1 ≡ p.me.1
      → view q ≡ with_next_host (view p) → IsTakerPass q (hosts + 1) (put ++ 0 ∷ []) (counts ++ 0 ∷ [])
  makes_keeps p q hosts put counts h same told =
      let now : view q ≡ Taker (taken_of p) (hosts + 1) = told ∙ ap with_next_host h.now in
      let is : taken_of q ≡ taken_of p = ap taken_in now in
      record {
        empty = same ∙ h.empty;
        now = now ∙ ap (λ ts. Taker ts (hosts + 1)) (sym is);
        order = subst (λ ts. IsInOrder ts (hosts + 1)) (sym is) (record { order = h.order.order; none = λ k le. (let le' : hosts ≤ k = omega arith in h.order.none k le') });
        room = length-append put (0 ∷ []) ∙ ap (λ k. k + 1) h.room;
        counted = subst (λ ts. Counts (counts ++ 0 ∷ []) (hosts + 1) ts) (sym is) (counts_more counts hosts (taken_of p) h.counted h.order);
      }

abbrev pub all_are_zero : List ℕ → Bool
all_are_zero numbers = list_all (λ n. n == 0) numbers

both_true : (a b : Bool) → (a && b) ≡ true → (a ≡ true) × (b ≡ true)
both_true true b h = (refl, h)
both_true false b h = cc

zeros_at : (counts : List ℕ) → all_are_zero counts ≡ true → (h : ℕ) → slice_index counts h ≡ 0
zeros_at [] all h = refl
zeros_at (n ∷ counts) all zero = eqb-true n 0 (both_true (n == 0) (all_are_zero counts) all).0
zeros_at (n ∷ counts) all (suc h) = zeros_at counts (both_true (n == 0) (all_are_zero counts) all).1 h

zeros_all : (counts : List ℕ) → ((h : ℕ) → h < length counts → slice_index counts h ≡ 0) → all_are_zero counts ≡ true
zeros_all [] each = refl
zeros_all (n ∷ counts) each = rw (each 0 (omega arith)) (zeros_all counts (λ h lt. each (suc h) (omega (arith, lt))))

module _ {J : Type 0} where
  none_of_any : (ts : List (QueuedJob J)) → ((h : ℕ) → length (of_host h ts) ≡ 0) → ts ≡ []
  none_of_any [] each = refl
  none_of_any (x ∷ ts) each = absurd (let longer = ap length (of_host-mine x ts x.host refl) in let zero_is = each x.host in omega (arith, longer, zero_is))

  -- no job was taken exactly where each host's number is 0
  pub none_taken : (p : Pass (QueuedJob J) (View J)) (hosts : ℕ) (put counts : List ℕ) (told : Bool) (taken : List (QueuedJob J)) → IsTakerPass p hosts put counts → told ≡ all_are_zero counts → taken_of p ≡ taken → (told ≡ true) ↔ (taken ≡ [])
  none_taken p hosts put counts told taken h is same = (
    λ t. sym same ∙ none_of_any (taken_of p) (λ host. at (sym is ∙ t) host (cases_lt host hosts)),
    λ e. is ∙ zeros_all counts (λ host lt. let below : host < hosts = (let size = h.counted.0 in omega (arith, lt, size)) in h.counted.1 host below ∙ ap (λ ts. length (of_host host ts)) (same ∙ e)),
  )
    where
      at : all_are_zero counts ≡ true → (host : ℕ) → (host < hosts) ⊎ (hosts ≤ host) → length (of_host host (taken_of p)) ≡ 0
      at all host (inl lt) = sym (h.counted.1 host lt) ∙ zeros_at counts all host
      at all host (inr le) = ap length (h.order.none host le)
