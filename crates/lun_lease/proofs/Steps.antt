-- Each step keeps the rule.
use Rattle.std.proofs.Common.{◌≡◌, ◌≢◌, ℕ, zero, suc, ◌<◌, ◌==◌, Bool, true, false, true≢false, not, if◌then◌else◌, Some, None, List, [], ◌∷◌, ◌++◌, length, set, slice_index, refl, sym, ap, ◌∙◌, subst, ⊎_elim, inl, eq-eqb, ne_eqb, arith, get_or-set_same, get_or-set_other, length-set, replicate}
use mathlib.Core.Option.{some, none, some-injective, some-ne-none}
use Rattle.std.specs.Prelude.{MatchBool}
use mathlib.Core.Logic.{dite}
use native.Mathlib.Decide.{ℕ_discrete}
use prog.Atomic.{either}
use lib.ListN.{get_elem?, get_or-replicate}
use Rattle.atomic_table.specs.Table.{State, Me, keeps, step, stepped, Allows, opening}
use Rattle.atomic_table.proofs.Lists.{at_set, set_here, set_else}
use Rattle.lun_lease.specs.declared.rule.View.{View}
use Rattle.lun_lease.specs.declared.rule.Call.{Call}
use Rattle.lun_lease.specs.declared.rule.Call.TheVariants.{Given, Refused, Released}
use Rattle.lun_lease.specs.Rule.{view, bare, Has, IsApart, all_parts, is_given, as_word, Holds, Keeps, TellsClaim, TellsRelease}
use Rattle.lun_lease.proofs.Holders.{nothing, only, is_apart}
use Rattle.lun_lease.proofs.Parts.{parts_set}
use Rattle.lun_lease.proofs.Calls.{by_eq, is_given-append, is_truthful-append, at_same, is_there, own_after, later_after}

is_no : (b : Bool) → as_word b ≡ 0 → b ≡ false
is_no true e = absurd (omega arith)
is_no false e = refl

is_yes : (b : Bool) → as_word b ≢ 0 → b ≡ true
is_yes true e = refl
is_yes false e = absurd (e refl)

module _ {S : Type 0} (s : State S View) (h : Keeps s) (id : ℕ) (v : View) (at : get_elem? s.views id ≡ some v) (lun : ℕ) (small : lun < 16) where
  -- the seat at another place holds what it held
  else_where : (n : ℕ) (w : View) (seat : ℕ) (u : View) (l : ℕ) → Holds s seat u l → seat ≢ id → Holds (stepped s lun n id [] w keeps) seat u l
  else_where n w seat u l has ne = (set_else s.views id seat w ne ∙ has.0, has.1)

  -- who holds a LUN after a step: this seat with its new view, or another as before
  holder : (n : ℕ) (w : View) (seat : ℕ) (u : View) (l : ℕ) {P : Type 0} → Holds (stepped s lun n id [] w keeps) seat u l → (seat ≡ id → Has w l → P) → (seat ≢ id → Holds s seat u l → P) → P
  holder n w seat u l has mine other =
      ⊎_elim
      (λ (x : (seat ≡ id) × (w ≡ u)). mine x.0 (subst (λ (y : View). Has y l) (sym x.1) has.1))
      (λ (x : (seat ≢ id) × (get_elem? s.views seat ≡ some u)). other x.0 (x.1, has.1))
      (at_set s.views id seat w u has.0)

  -- this seat's old view, where another view stands at its number
  at_this : (seat : ℕ) (u : View) (l : ℕ) → Holds s seat u l → seat ≡ id → Has v l
  at_this seat u l has e = subst (λ (y : View). Has y l) (sym (at_same s.views id seat v u at has.0 e)) has.1

  -- no seat holds a LUN twice, where this seat's new view doesn't
  still_apart : (n : ℕ) (w : View) → IsApart w → (seat : ℕ) (u : View) → get_elem? (set s.views id w) seat ≡ some u → IsApart u
  still_apart n w new seat u e =
      ⊎_elim
      (λ (x : (seat ≡ id) × (w ≡ u)). subst (λ (y : View). IsApart y) x.1 new)
      (λ (x : (seat ≢ id) × (get_elem? s.views seat ≡ some u)). h.apart seat u x.1)
      (at_set s.views id seat w u e)

  -- all parts are still there, where this seat's new view has as many as the old one
  still_sixteen : (w : View) → w.parts ≡ v.parts → all_parts (set s.views id w) ≡ 16
  still_sixteen w same = let e = parts_set s.views id v w at in let all = h.sixteen in omega (arith, e, all, same)

  -- who holds a LUN still has a part, where this seat has one
  still_able : (n : ℕ) (w : View) → ((l : ℕ) → Has w l → 0 < w.parts) → (l seat : ℕ) (u : View) → Holds (stepped s lun n id [] w keeps) seat u l → 0 < u.parts
  still_able n w new l seat u has =
      ⊎_elim
      (λ (x : (seat ≡ id) × (w ≡ u)). subst (λ (y : View). 0 < y.parts) x.1 (new l (subst (λ (y : View). Has y l) (sym x.1) has.1)))
      (λ (x : (seat ≢ id) × (get_elem? s.views seat ≡ some u)). h.able l seat u (x.1, has.1))
      (at_set s.views id seat w u has.0)

  -- the seat was free, and so was the LUN
  gives : v.parts ≡ 1 → ((l : ℕ) → Has v l → ⊥) → slice_index s.words lun ≡ 0 → Keeps (stepped s lun 1 id [] (view (Some lun) (v.calls ++ Given lun ∷ [])) keeps)
  gives has_part free zero_word =
      let w : View = view (Some lun) (v.calls ++ Given lun ∷ []) in
      let log = h.log ++ (id, Given lun) ∷ [] in
      let off : is_given lun false h.log ≡ false = is_no _ (sym (h.word lun small) ∙ zero_word) in
      let new : (l : ℕ) → is_given l false log ≡ (if lun == l then true else is_given l false h.log) = λ l. is_given-append l false h.log (id, Given lun) in
      let on : is_given lun false log ≡ true = new lun ∙ by_eq lun lun (λ b. (if b then true else is_given lun false h.log) ≡ true) (λ _. refl) (λ n. absurd (n refl)) in
      let old : (l : ℕ) → lun ≢ l → is_given l false log ≡ is_given l false h.log = λ l ne. new l ∙ by_eq lun l (λ b. (if b then true else is_given l false h.log) ≡ is_given l false h.log) (λ e. absurd (ne e)) (λ _. refl) in
      let here = is_there s.views id v at in
      record {
        log = log;
        wide = simp length-set h.wide;
        word = λ l fits. dite (ℕ_discrete lun l)
            (λ e. subst (λ k. slice_index (set s.words lun 1) k ≡ as_word (is_given k false log)) e
            (let lt : lun < length s.words = omega (arith, h.wide) in get_or-set_same s.words lun 1 0 lt ∙ sym (ap as_word on)))
            (λ ne. let ne' : l ≢ lun = λ p. ne (sym p) in get_or-set_other s.words lun l 1 0 ne' ∙ h.word l fits ∙ sym (ap as_word (old l ne)));
        held = λ l given. dite (ℕ_discrete lun l)
            (λ e. (id, w, (set_here s.views id w here, inl (ap Some e))))
            (λ ne.
            let was = h.held l (sym (old l ne) ∙ given) in
            (was.0, was.1, else_where 1 w was.0 was.1 l was.2 (λ e. free l (at_this was.0 was.1 l was.2 e))));
        given = λ l seat u has. holder 1 w seat u l has
            (λ _ e. subst (λ k. (k < 16) × (is_given k false log ≡ true)) (only lun w.calls l e) (small, on))
            (λ ne was.
            let g = h.given l seat u was in
            (g.0, dite (ℕ_discrete lun l) (λ e. subst (λ k. is_given k false log ≡ true) e on) (λ n. old l n ∙ g.1)));
        one = λ l i j a b hi hj. holder 1 w i a l hi
            (λ i_is e. holder 1 w j b l hj
            (λ j_is _. i_is ∙ sym j_is)
            (λ _ was. absurd (true≢false (sym (h.given l j b was).1 ∙ subst (λ k. is_given k false h.log ≡ false) (only lun w.calls l e) off))))
            (λ ne was. holder 1 w j b l hj
            (λ _ e. absurd (true≢false (sym (h.given l i a was).1 ∙ subst (λ k. is_given k false h.log ≡ false) (only lun w.calls l e) off)))
            (λ _ was'. h.one l i j a b was was'));
        apart = still_apart 1 w (is_apart (Some lun) w.calls);
        sixteen = still_sixteen w (sym has_part);
        able = still_able 1 w (λ l e. omega arith);
        truthful = λ l. is_truthful-append l false h.log (id, Given lun) (h.truthful l) (by_eq lun l (λ b. (if b then not (is_given l false h.log) else true) ≡ true) (λ e. ap not (subst (λ k. is_given k false h.log ≡ false) e off)) (λ n. refl));
        own = own_after s.views h.log id v w (Given lun) h.own at refl;
        later = λ seat far. later_after s.views h.log id v w (Given lun) h.later at seat (simp length-set at far);
      }

  -- the LUN was given already
  refuses : (n : ℕ) → slice_index s.words lun ≡ n → n ≢ 0 → Keeps (stepped s lun n id [] (record { holds = v.holds; beside = v.beside; calls = v.calls ++ Refused lun ∷ []; parts = v.parts }) keeps)
  refuses n found set_word =
      let w : View = record { holds = v.holds; beside = v.beside; calls = v.calls ++ Refused lun ∷ []; parts = v.parts } in
      let log = h.log ++ (id, Refused lun) ∷ [] in
      let on : is_given lun false h.log ≡ true = is_yes _ (λ e. set_word (sym found ∙ h.word lun small ∙ e)) in
      let same : (l : ℕ) → is_given l false log ≡ is_given l false h.log = λ l. is_given-append l false h.log (id, Refused lun) in
      let here = is_there s.views id v at in
      record {
        log = log;
        wide = simp length-set h.wide;
        word = λ l fits. dite (ℕ_discrete lun l)
            (λ e. subst (λ k. slice_index (set s.words lun n) k ≡ as_word (is_given k false log)) e
            (let lt : lun < length s.words = omega (arith, h.wide) in get_or-set_same s.words lun n 0 lt ∙ sym found ∙ h.word lun small ∙ sym (ap as_word (same lun))))
            (λ ne. let ne' : l ≢ lun = λ p. ne (sym p) in get_or-set_other s.words lun l n 0 ne' ∙ h.word l fits ∙ sym (ap as_word (same l)));
        held = λ l given.
            let was = h.held l (sym (same l) ∙ given) in
            dite (ℕ_discrete was.0 id)
            (λ e. (id, w, (set_here s.views id w here, at_this was.0 was.1 l was.2 e)))
            (λ ne. (was.0, was.1, else_where n w was.0 was.1 l was.2 ne));
        given = λ l seat u has. holder n w seat u l has
            (λ _ e. let g = h.given l id v (at, e) in (g.0, same l ∙ g.1))
            (λ _ was. let g = h.given l seat u was in (g.0, same l ∙ g.1));
        one = λ l i j a b hi hj. holder n w i a l hi
            (λ i_is e. holder n w j b l hj (λ j_is _. i_is ∙ sym j_is) (λ _ was. i_is ∙ h.one l id j v b (at, e) was))
            (λ _ was. holder n w j b l hj (λ j_is e. h.one l i id a v was (at, e) ∙ sym j_is) (λ _ was'. h.one l i j a b was was'));
        apart = still_apart n w (h.apart id v at);
        sixteen = still_sixteen w refl;
        able = still_able n w (λ l e. h.able l id v (at, e));
        truthful = λ l. is_truthful-append l false h.log (id, Refused lun) (h.truthful l) (by_eq lun l (λ b. (if b then is_given l false h.log else true) ≡ true) (λ e. subst (λ k. is_given k false h.log ≡ true) e on) (λ _. refl));
        own = own_after s.views h.log id v w (Refused lun) h.own at refl;
        later = λ seat far. later_after s.views h.log id v w (Refused lun) h.later at seat (simp length-set at far);
      }

  -- the seat held the LUN
  frees : v.parts ≡ 1 → Has v lun → ((l : ℕ) → Has v l → lun ≡ l) → Keeps (stepped s lun 0 id [] (view None (v.calls ++ Released lun ∷ [])) keeps)
  frees has_part has_it only_it =
      let w : View = view None (v.calls ++ Released lun ∷ []) in
      let log = h.log ++ (id, Released lun) ∷ [] in
      let on : is_given lun false h.log ≡ true = (h.given lun id v (at, has_it)).1 in
      let new : (l : ℕ) → is_given l false log ≡ (if lun == l then false else is_given l false h.log) = λ l. is_given-append l false h.log (id, Released lun) in
      let off : is_given lun false log ≡ false = new lun ∙ by_eq lun lun (λ b. (if b then false else is_given lun false h.log) ≡ false) (λ _. refl) (λ n. absurd (n refl)) in
      let old : (l : ℕ) → lun ≢ l → is_given l false log ≡ is_given l false h.log = λ l ne. new l ∙ by_eq lun l (λ b. (if b then false else is_given l false h.log) ≡ is_given l false h.log) (λ e. absurd (ne e)) (λ _. refl) in
      record {
        log = log;
        wide = simp length-set h.wide;
        word = λ l fits. dite (ℕ_discrete lun l)
            (λ e. subst (λ k. slice_index (set s.words lun 0) k ≡ as_word (is_given k false log)) e
            (let lt : lun < length s.words = omega (arith, h.wide) in get_or-set_same s.words lun 0 0 lt ∙ sym (ap as_word off)))
            (λ ne. let ne' : l ≢ lun = λ p. ne (sym p) in get_or-set_other s.words lun l 0 0 ne' ∙ h.word l fits ∙ sym (ap as_word (old l ne)));
        held = λ l given. dite (ℕ_discrete lun l)
            (λ e. absurd (true≢false (sym given ∙ subst (λ k. is_given k false log ≡ false) e off)))
            (λ ne.
            let was = h.held l (sym (old l ne) ∙ given) in
            (was.0, was.1, else_where 0 w was.0 was.1 l was.2 (λ e. ne (only_it l (at_this was.0 was.1 l was.2 e)))));
        given = λ l seat u has. holder 0 w seat u l has
            (λ _ e. absurd (nothing w.calls l e))
            (λ ne was.
            let g = h.given l seat u was in
            (g.0, old l (λ e. ne (h.one l seat id u v was (at, subst (Has v) e has_it))) ∙ g.1));
        one = λ l i j a b hi hj. holder 0 w i a l hi
            (λ _ e. absurd (nothing w.calls l e))
            (λ _ was. holder 0 w j b l hj (λ _ e. absurd (nothing w.calls l e)) (λ _ was'. h.one l i j a b was was'));
        apart = still_apart 0 w (is_apart None w.calls);
        sixteen = still_sixteen w (sym has_part);
        able = still_able 0 w (λ l e. absurd (nothing w.calls l e));
        truthful = λ l. is_truthful-append l false h.log (id, Released lun) (h.truthful l) (by_eq lun l (λ b. (if b then is_given l false h.log else true) ≡ true) (λ e. subst (λ k. is_given k false h.log ≡ true) e on) (λ _. refl));
        own = own_after s.views h.log id v w (Released lun) h.own at refl;
        later = λ seat far. later_after s.views h.log id v w (Released lun) h.later at seat (simp length-set at far);
      }

module _ {S : Type 0} where
  -- a claim, by a seat that holds nothing
  pub claims : (slots id : ℕ) (calls : List Call) (lun : ℕ) → lun < 16
      → Allows {S = S} Keeps slots id (view None calls, []) lun (λ n. either (n == 0) 1 n) (TellsClaim (step slots lun 0 1 none) (view None calls, []))
  claims slots id calls lun small s h count at fits =
      let v : View = view None calls in
      let found : ℕ = slice_index s.words lun in
      let given : View = view (Some lun) (v.calls ++ Given lun ∷ []) in
      let refused : View = view v.holds (v.calls ++ Refused lun ∷ []) in
      dite (ℕ_discrete found 0)
      (λ e. (
        given,
        keeps,
        tt,
        subst (λ b. Keeps (stepped s lun (either b 1 found) id [] given keeps)) (sym (eq-eqb found 0 e)) (gives s h id v at lun small refl (nothing calls) e),
        (refl, subst (λ b. MatchBool b (given ≡ given) ((found ≡ 1) × (given ≡ refused))) (sym (eq-eqb found 0 e)) refl),
      ))
      (λ ne. (
        refused,
        keeps,
        tt,
        subst (λ b. Keeps (stepped s lun (either b 1 found) id [] refused keeps)) (sym (ne_eqb found 0 ne)) (refuses s h id v at lun small found refl ne),
        (refl, subst (λ b. MatchBool b (refused ≡ given) ((found ≡ 1) × (refused ≡ refused))) (sym (ne_eqb found 0 ne)) (one_word s h lun small ne, refl)),
      ))
    where
      one_word : (s : State S View) → Keeps s → (lun : ℕ) → lun < 16 → slice_index s.words lun ≢ 0 → slice_index s.words lun ≡ 1
      one_word s h lun small ne = h.word lun small ∙ ap as_word (is_yes _ (λ e. ne (h.word lun small ∙ e)))

  -- a release, by the seat that holds the LUN
  pub releases : (slots id : ℕ) (calls : List Call) (lun : ℕ) → lun < 16
      → Allows {S = S} Keeps slots id (view (Some lun) calls, []) lun (λ _. 0) (λ _. TellsRelease (step slots lun 0 0 none) (view (Some lun) calls, []) 0)
  releases slots id calls lun small s h count at fits =
      (view None (calls ++ Released lun ∷ []), keeps, tt, frees s h id (view (Some lun) calls) at lun small refl (inl refl) (only lun calls), (refl, refl))

-- sixteen words of 0, and one seat that has made no call
pub begins : {S : Type 0} → Keeps (opening {S = S} (replicate 16 0) [] (bare 16 []))
begins {S} = record {
  log = [];
  wide = refl;
  word = λ l fits. get_or-replicate 16 l 0 0 fits;
  held = λ l g. absurd (true≢false (sym g));
  given = λ l seat u has. absurd (nobody l seat u has);
  one = λ l i j a b hi hj. absurd (nobody l i a hi);
  apart = λ seat u e. first_apart seat u e;
  sixteen = refl;
  able = λ l seat u has. absurd (nobody l seat u has);
  truthful = λ l. refl;
  own = λ seat u e. no_calls seat u e;
  later = λ seat far. refl;
}
  where
    nobody : (l seat : ℕ) (u : View) → Holds (opening {S = S} (replicate 16 0) [] (bare 16 [])) seat u l → ⊥
    nobody l zero u has = nothing [] l (subst (λ (y : View). Has y l) (sym (some-injective (bare 16 []) u has.0)) has.1)
    nobody l (suc seat) u has = some-ne-none u (sym has.0)

    first_apart : (seat : ℕ) (u : View) → get_elem? (bare 16 [] ∷ []) seat ≡ some u → IsApart u
    first_apart zero u e = subst (λ (y : View). IsApart y) (some-injective (bare 16 []) u e) (is_apart None [])
    first_apart (suc seat) u e = absurd (some-ne-none u (sym e))

    no_calls : (seat : ℕ) (u : View) → get_elem? (bare 16 [] ∷ []) seat ≡ some u → u.calls ≡ []
    no_calls zero u e = ap (λ (y : View). y.calls) (sym (some-injective (bare 16 []) u e))
    no_calls (suc seat) u e = absurd (some-ne-none u (sym e))

-- the steps, at a seat whose view is known
module _ {S : Type 0} where
  pub claims_as : (slots id : ℕ) (m : Me S View) (calls : List Call) (lun : ℕ) → lun < 16 → m ≡ (view None calls, [])
      → Allows {S = S} Keeps slots id m lun (λ n. either (n == 0) 1 n) (TellsClaim (step slots lun 0 1 none) m)
  claims_as slots id m calls lun small is =
      subst (λ (x : Me S View). Allows {S = S} Keeps slots id x lun (λ n. either (n == 0) 1 n) (TellsClaim (step slots lun 0 1 none) x)) (sym is) (claims slots id calls lun small)

  pub releases_as : (slots id : ℕ) (m : Me S View) (calls : List Call) (lun : ℕ) → lun < 16 → m ≡ (view (Some lun) calls, [])
      → Allows {S = S} Keeps slots id m lun (λ _. 0) (λ _. TellsRelease (step slots lun 0 0 none) m 0)
  releases_as slots id m calls lun small is =
      subst (λ (x : Me S View). Allows {S = S} Keeps slots id x lun (λ _. 0) (λ _. TellsRelease (step slots lun 0 0 none) x 0)) (sym is) (releases slots id calls lun small)
