-- Seats that are split and joined keep the rule: no word changes, and each LUN stays with one of the seats.
use Rattle.std.proofs.Common.{◌≡◌, ◌≢◌, ◌⊎◌, ℕ, ◌+◌, ◌-◌, ◌<◌, ◌≤◌, true, false, Option, Some, None, List, [], ◌∷◌, ◌++◌, length, set, slice_index, refl, sym, ap, ◌∙◌, subst, ⊎_elim, inl, inr, arith, length-set, length-append}
use Rattle.std.proofs.lemmas.List.{set-get_or}
use mathlib.Core.Option.{some, none}
use mathlib.Core.Logic.{dite}
use native.Mathlib.Decide.{ℕ_discrete}
use lib.ListN.{get_elem?}
use Rattle.atomic_table.specs.Table.{State, Me, Allows, Splits, Joins, keeps, step}
use Rattle.atomic_table.proofs.Lists.{at_set, at_last, at_longer, set_here, set_else, set_again}
use Rattle.lun_lease.specs.declared.rule.View.{View}
use Rattle.lun_lease.specs.declared.rule.Call.{Call}
use Rattle.lun_lease.specs.Rule.{view, bare, newcomer, all_parts, Has, IsApart, is_given, calls_of, Holds, Keeps, TellsApart}
use Rattle.lun_lease.proofs.Holders.{none_is, nothing, is_apart}
use Rattle.lun_lease.proofs.Parts.{parts_set, parts_more}
use Rattle.lun_lease.proofs.Calls.{at_same, is_there, in_longer}

-- a seat's LUNs, cut in two
record Cut (v left right : View) : Type 0 where
  parts : (l : ℕ) → Has v l → Has left l ⊎ Has right l
  from_left : (l : ℕ) → Has left l → Has v l
  from_right : (l : ℕ) → Has right l → Has v l
  no_both : (l : ℕ) → Has left l → Has right l → ⊥
  left_apart : IsApart left
  right_apart : IsApart right
  sum : left.parts + right.parts ≡ v.parts
  left_able : (l : ℕ) → Has left l → 0 < left.parts
  right_able : (l : ℕ) → Has right l → 0 < right.parts
  left_calls : left.calls ≡ v.calls
  right_calls : right.calls ≡ []

module _ {S : Type 0} (s : State S View) (h : Keeps s) (id : ℕ) (v : View) (at : get_elem? s.views id ≡ some v) (left right : View) (c : Cut v left right) where
  abbrev cut : List View
  cut = set s.views id left

  abbrev after : State S View
  after = record { words = s.words; homes = s.homes; views = cut ++ right ∷ [] }

  same_length : length cut ≡ length s.views
  same_length = length-set s.views id left

  -- a seat is the old one, another, or the new one
  which : (seat : ℕ) (u : View) {P : Type 0} → get_elem? (cut ++ right ∷ []) seat ≡ some u → (seat ≡ id → left ≡ u → P) → (seat ≢ id → get_elem? s.views seat ≡ some u → P) → (seat ≡ length cut → right ≡ u → P) → P
  which seat u e mine other new =
      ⊎_elim
      (λ (o : get_elem? cut seat ≡ some u). ⊎_elim
      (λ (x : (seat ≡ id) × (left ≡ u)). mine x.0 x.1)
      (λ (x : (seat ≢ id) × (get_elem? s.views seat ≡ some u)). other x.0 x.1)
      (at_set s.views id seat left u o))
      (λ (x : (seat ≡ length cut) × (right ≡ u)). new x.0 x.1)
      (in_longer cut right u seat e)

  holder : (seat : ℕ) (u : View) (l : ℕ) {P : Type 0} → Holds after seat u l → (seat ≡ id → Has left l → P) → (seat ≢ id → Holds s seat u l → P) → (seat ≡ length cut → Has right l → P) → P
  holder seat u l has mine other new =
      which seat u has.0
      (λ e is. mine e (subst (λ (y : View). Has y l) (sym is) has.1))
      (λ ne there. other ne (there, has.1))
      (λ e is. new e (subst (λ (y : View). Has y l) (sym is) has.1))

  here : id < length s.views
  here = is_there s.views id v at

  at_left : get_elem? (cut ++ right ∷ []) id ≡ some left
  at_left = at_longer cut (right ∷ []) id left (set_here s.views id left here)

  cut_one : (l i j : ℕ) (a b : View) → Holds after i a l → Holds after j b l → i ≡ j
  cut_one l i j a b hi hj =
      holder i a l hi
      (λ ie la. holder j b l hj
      (λ je _. ie ∙ sym je)
      (λ jn hb. absurd (jn (h.one l j id b v hb (at, c.from_left l la))))
      (λ _ rb. absurd (c.no_both l la rb)))
      (λ n ha. holder j b l hj
      (λ _ lb. absurd (n (h.one l i id a v ha (at, c.from_left l lb))))
      (λ _ hb. h.one l i j a b ha hb)
      (λ _ rb. absurd (n (h.one l i id a v ha (at, c.from_right l rb)))))
      (λ ie ra. holder j b l hj
      (λ _ lb. absurd (c.no_both l lb ra))
      (λ jn hb. absurd (jn (h.one l j id b v hb (at, c.from_right l ra))))
      (λ je _. ie ∙ sym je))

  cut_held : (l : ℕ) → is_given l false h.log ≡ true → (seat : ℕ) × (u : View) × Holds after seat u l
  cut_held l g =
      let was = h.held l g in
      dite (ℕ_discrete was.0 id)
      (λ e. ⊎_elim
      (λ (x : Has left l). (id, left, (at_left, x)))
      (λ (x : Has right l). (length cut, right, (at_last cut right (length cut) refl, x)))
      (c.parts l (subst (λ (y : View). Has y l) (sym (at_same s.views id was.0 v was.1 at was.2.0 e)) was.2.1)))
      (λ ne. (was.0, was.1, (at_longer cut (right ∷ []) was.0 was.1 (set_else s.views id was.0 left ne ∙ was.2.0), was.2.1)))

  still_sixteen : all_parts (cut ++ right ∷ []) ≡ 16
  still_sixteen = let e = parts_set s.views id v left at in let m = parts_more cut right in let all = h.sixteen in let sum = c.sum in omega (arith, e, m, all, sum)

  -- the rule, once a seat's LUNs are cut in two
  cuts : Keeps after
  cuts = record {
    log = h.log;
    wide = h.wide;
    word = h.word;
    held = cut_held;
    given = λ l seat u has. holder seat u l has
        (λ _ x. h.given l id v (at, c.from_left l x))
        (λ _ x. h.given l seat u x)
        (λ _ x. h.given l id v (at, c.from_right l x));
    one = cut_one;
    apart = λ seat u e. which seat u e
        (λ _ is. subst (λ (y : View). IsApart y) is c.left_apart)
        (λ _ x. h.apart seat u x)
        (λ _ is. subst (λ (y : View). IsApart y) is c.right_apart);
    sixteen = still_sixteen;
    able = λ l seat u has. which seat u has.0
        (λ _ is. subst (λ (y : View). 0 < y.parts) is (c.left_able l (subst (λ (y : View). Has y l) (sym is) has.1)))
        (λ _ x. h.able l seat u (x, has.1))
        (λ _ is. subst (λ (y : View). 0 < y.parts) is (c.right_able l (subst (λ (y : View). Has y l) (sym is) has.1)));
    truthful = h.truthful;
    own = λ seat u e. which seat u e
        (λ here is. ap (λ (y : View). y.calls) (sym is) ∙ c.left_calls ∙ h.own id v at ∙ ap (λ k. calls_of k h.log) (sym here))
        (λ _ x. h.own seat u x)
        (λ new is. ap (λ (y : View). y.calls) (sym is) ∙ c.right_calls ∙ sym (let far : length s.views ≤ seat = omega (arith, same_length) in h.later seat far));
    later = λ seat far. let far' : length s.views ≤ seat = omega (arith, same_length, length-append cut (right ∷ [])) in h.later seat far';
  }

-- a seat whose parts another has taken
abbrev spent : View
spent = bare 0 []

-- the LUNs of two seats, put together
record Joint (v w both : View) : Type 0 where
  parts : (l : ℕ) → Has both l → Has v l ⊎ Has w l
  from_first : (l : ℕ) → Has v l → Has both l
  from_second : (l : ℕ) → Has w l → Has both l
  each : (l : ℕ) → both.holds ≡ Some l → both.beside ≡ Some l → Has v l × Has w l
  sum : both.parts ≡ v.parts + w.parts
  calls : both.calls ≡ v.calls
  none : w.calls ≡ []

module _ {S : Type 0} (s : State S View) (h : Keeps s) (id other : ℕ) (v w : View) (at : get_elem? s.views id ≡ some v) (apart : other ≢ id) (there : get_elem? s.views other ≡ some w) (both : View) (c : Joint v w both) where
  abbrev joined : State S View
  joined = record { words = s.words; homes = s.homes; views = set (set s.views id both) other spent }

  -- a seat is the first, the second, or another
  which_of : (seat : ℕ) (u : View) {P : Type 0} → get_elem? joined.views seat ≡ some u → (seat ≡ id → both ≡ u → P) → (seat ≡ other → spent ≡ u → P) → (seat ≢ id → seat ≢ other → get_elem? s.views seat ≡ some u → P) → P
  which_of seat u e first second rest =
      ⊎_elim
      (λ (x : (seat ≡ other) × (spent ≡ u)). second x.0 x.1)
      (λ (x : (seat ≢ other) × (get_elem? (set s.views id both) seat ≡ some u)). ⊎_elim
      (λ (y : (seat ≡ id) × (both ≡ u)). first y.0 y.1)
      (λ (y : (seat ≢ id) × (get_elem? s.views seat ≡ some u)). rest y.0 x.0 y.1)
      (at_set s.views id seat both u x.1))
      (at_set (set s.views id both) other seat spent u e)

  holder_of : (seat : ℕ) (u : View) (l : ℕ) {P : Type 0} → Holds joined seat u l → (seat ≡ id → Has both l → P) → (seat ≢ id → seat ≢ other → Holds s seat u l → P) → P
  holder_of seat u l has first rest =
      which_of seat u has.0
      (λ e is. first e (subst (λ (y : View). Has y l) (sym is) has.1))
      (λ _ is. absurd (nothing [] l (subst (λ (y : View). Has y l) (sym is) has.1)))
      (λ n m x. rest n m (x, has.1))

  -- another seat doesn't hold what the two hold
  not_else : (l seat : ℕ) (u : View) → Has both l → seat ≢ id → seat ≢ other → Holds s seat u l → ⊥
  not_else l seat u has n m x =
      ⊎_elim
      (λ (a : Has v l). n (h.one l seat id u v x (at, a)))
      (λ (b : Has w l). m (h.one l seat other u w x (there, b)))
      (c.parts l has)

  at_both : get_elem? joined.views id ≡ some both
  at_both = let ne : id ≢ other = λ e. apart (sym e) in set_else (set s.views id both) other id spent ne ∙ set_here s.views id both (is_there s.views id v at)

  join_held : (l : ℕ) → is_given l false h.log ≡ true → (seat : ℕ) × (u : View) × Holds joined seat u l
  join_held l g =
      let was = h.held l g in
      dite (ℕ_discrete was.0 id)
      (λ e. (id, both, (at_both, c.from_first l (subst (λ (y : View). Has y l) (sym (at_same s.views id was.0 v was.1 at was.2.0 e)) was.2.1))))
      (λ ne. dite (ℕ_discrete was.0 other)
      (λ e. (id, both, (at_both, c.from_second l (subst (λ (y : View). Has y l) (sym (at_same s.views other was.0 w was.1 there was.2.0 e)) was.2.1))))
      (λ ne'. (was.0, was.1, (set_else (set s.views id both) other was.0 spent ne' ∙ set_else s.views id was.0 both ne ∙ was.2.0, was.2.1))))

  joined_sixteen : all_parts joined.views ≡ 16
  joined_sixteen =
      let e = parts_set s.views id v both at in
      let f = parts_set (set s.views id both) other w spent (set_else s.views id other both apart ∙ there) in
      let all = h.sixteen in
      let sum = c.sum in
      omega (arith, e, f, all, sum)

  -- who held a LUN of the two has a part of both
  both_able : (l : ℕ) → Has both l → 0 < both.parts
  both_able l has =
      let sum = c.sum in
      ⊎_elim
      (λ (a : Has v l). let p = h.able l id v (at, a) in omega (arith, p, sum))
      (λ (b : Has w l). let p = h.able l other w (there, b) in omega (arith, p, sum))
      (c.parts l has)

  -- the rule, once the second seat's LUNs are the first's
  joins : Keeps joined
  joins = record {
    log = h.log;
    wide = h.wide;
    word = h.word;
    held = join_held;
    given = λ l seat u has. holder_of seat u l has
        (λ _ x. ⊎_elim (λ (a : Has v l). h.given l id v (at, a)) (λ (b : Has w l). h.given l other w (there, b)) (c.parts l x))
        (λ _ _ x. h.given l seat u x);
    one = λ l i j a b hi hj. holder_of i a l hi
        (λ ie x. holder_of j b l hj (λ je _. ie ∙ sym je) (λ n m y. absurd (not_else l j b x n m y)))
        (λ n m y. holder_of j b l hj (λ _ x. absurd (not_else l i a x n m y)) (λ _ _ z. h.one l i j a b y z));
    apart = λ seat u e. which_of seat u e
        (λ _ is. subst (λ (y : View). IsApart y) is (λ l x y. let e = c.each l x y in apart (h.one l other id w v (there, e.1) (at, e.0))))
        (λ _ is. subst (λ (y : View). IsApart y) is (is_apart None []))
        (λ _ _ x. h.apart seat u x);
    sixteen = joined_sixteen;
    able = λ l seat u has. which_of seat u has.0
        (λ _ is. subst (λ (y : View). 0 < y.parts) is (both_able l (subst (λ (y : View). Has y l) (sym is) has.1)))
        (λ _ is. absurd (nothing [] l (subst (λ (y : View). Has y l) (sym is) has.1)))
        (λ _ _ x. h.able l seat u (x, has.1));
    truthful = h.truthful;
    own = λ seat u e. which_of seat u e
        (λ here is. ap (λ (y : View). y.calls) (sym is) ∙ c.calls ∙ h.own id v at ∙ ap (λ k. calls_of k h.log) (sym here))
        (λ here is. ap (λ (y : View). y.calls) (sym is) ∙ sym c.none ∙ h.own other w there ∙ ap (λ k. calls_of k h.log) (sym here))
        (λ _ _ x. h.own seat u x);
    later = λ seat far. let far' : length s.views ≤ seat = omega (arith, length-set (set s.views id both) other spent, length-set s.views id both) in h.later seat far';
  }

abbrev laid_beside : View → View → View
laid_beside v w = record { holds = v.holds; beside = w.holds; calls = v.calls; parts = v.parts + w.parts }

module _ {S : Type 0} where
  deals : (id left : ℕ) (calls : List Call) → 0 < left → Splits {S = S} Keeps id (bare left calls) (bare (left - 1) calls) newcomer
  deals id left calls some_left s h at = cuts s h id (bare left calls) at (bare (left - 1) calls) newcomer record {
    parts = λ l x. absurd (nothing calls l x);
    from_left = λ l x. x;
    from_right = λ l x. absurd (nothing [] l x);
    no_both = λ l _ x. nothing [] l x;
    left_apart = is_apart None calls;
    right_apart = is_apart None [];
    sum = omega (arith, some_left);
    left_able = λ l x. absurd (nothing calls l x);
    right_able = λ l x. absurd (nothing [] l x);
    left_calls = refl;
    right_calls = refl;
  }

  lends : (id : ℕ) (holds : Option ℕ) (calls : List Call) → Splits {S = S} Keeps id (view holds calls) (bare 0 calls) (view holds [])
  lends id holds calls s h at = cuts s h id (view holds calls) at (bare 0 calls) (view holds []) record {
    parts = λ l x. inr x;
    from_left = λ l x. absurd (nothing calls l x);
    from_right = λ l x. x;
    no_both = λ l x _. nothing calls l x;
    left_apart = is_apart None calls;
    right_apart = is_apart holds [];
    sum = refl;
    left_able = λ l x. absurd (nothing calls l x);
    right_able = λ l x. omega arith;
    left_calls = refl;
    right_calls = refl;
  }

  -- a new seat, of one that still has parts of seats to come
  pub deals_as : (id : ℕ) (v : View) (left : ℕ) (calls : List Call) → v ≡ bare left calls → 0 < left → Splits {S = S} Keeps id v (bare (v.parts - 1) v.calls) newcomer
  deals_as id v left calls is some_left = subst (λ (x : View). Splits {S = S} Keeps id x (bare (x.parts - 1) x.calls) newcomer) (sym is) (deals id left calls some_left)

  -- a seat lends its LUN to a new one
  pub lends_as : (id : ℕ) (v : View) (holds : Option ℕ) (calls : List Call) → v ≡ view holds calls → Splits {S = S} Keeps id v (bare 0 v.calls) (view v.holds [])
  lends_as id v holds calls is = subst (λ (x : View). Splits {S = S} Keeps id x (bare 0 x.calls) (view x.holds [])) (sym is) (lends id holds calls)

  -- the LUN that lies beside goes to a new seat
  pub puts_aside : (id : ℕ) (v : View) → v.parts ≡ 2 → Splits {S = S} Keeps id v (view v.holds v.calls) (view v.beside [])
  puts_aside id v two s h at = cuts s h id v at (view v.holds v.calls) (view v.beside []) record {
    parts = λ l x. ⊎_elim (λ e. inl (inl e)) (λ e. inr (inl e)) x;
    from_left = λ l x. ⊎_elim (λ e. inl e) (λ e. absurd (none_is l e)) x;
    from_right = λ l x. ⊎_elim (λ e. inr e) (λ e. absurd (none_is l e)) x;
    no_both = λ l x y. ⊎_elim (λ a. ⊎_elim (λ b. h.apart id v at l a b) (λ e. none_is l e) y) (λ e. none_is l e) x;
    left_apart = is_apart v.holds v.calls;
    right_apart = is_apart v.beside [];
    sum = sym two;
    left_able = λ l x. omega arith;
    right_able = λ l x. omega arith;
    left_calls = refl;
    right_calls = refl;
  }

  lays_beside : (id other : ℕ) (first second : Option ℕ) (calls : List Call) → Joins {S = S} Keeps id (view first calls) other (view second []) (laid_beside (view first calls) (view second [])) spent
  lays_beside id other first second calls s h at apart there = joins s h id other (view first calls) (view second []) at apart (sym (set_else s.views id other (laid_beside (view first calls) (view second [])) apart) ∙ there) (laid_beside (view first calls) (view second [])) record {
    parts = λ l x. ⊎_elim (λ e. inl (inl e)) (λ e. inr (inl e)) x;
    from_first = λ l x. ⊎_elim (λ e. inl e) (λ e. absurd (none_is l e)) x;
    from_second = λ l x. ⊎_elim (λ e. inr e) (λ e. absurd (none_is l e)) x;
    each = λ l x y. (inl x, inl y);
    sum = refl;
    calls = refl;
    none = refl;
  }

  -- a lent LUN comes to lie beside another
  pub lays_beside_as : (id other : ℕ) (v w : View) (first second : Option ℕ) (calls : List Call) → v ≡ view first calls → w ≡ view second [] → Joins {S = S} Keeps id v other w (laid_beside v w) spent
  lays_beside_as id other v w first second calls is it =
      subst (λ (y : View). Joins {S = S} Keeps id v other y (laid_beside v y) spent) (sym it)
      (subst (λ (x : View). Joins {S = S} Keeps id x other (view second []) (laid_beside x (view second [])) spent) (sym is) (lays_beside id other first second calls))

  takes_back : (id other : ℕ) (holds : Option ℕ) (calls : List Call) → Joins {S = S} Keeps id (bare 0 calls) other (view holds []) (view holds calls) spent
  takes_back id other holds calls s h at apart there = joins s h id other (bare 0 calls) (view holds []) at apart (sym (set_else s.views id other (view holds calls) apart) ∙ there) (view holds calls) record {
    parts = λ l x. inr x;
    from_first = λ l x. absurd (nothing calls l x);
    from_second = λ l x. x;
    each = λ l x y. absurd (none_is l y);
    sum = refl;
    calls = refl;
    none = refl;
  }

  -- a seat that holds nothing takes a lent LUN
  pub takes_back_as : (id other : ℕ) (v w : View) (holds : Option ℕ) (calls : List Call) → v ≡ bare 0 calls → w ≡ view holds [] → Joins {S = S} Keeps id v other w (view w.holds v.calls) spent
  takes_back_as id other v w holds calls is it =
      subst (λ (y : View). Joins {S = S} Keeps id v other y (view y.holds v.calls) spent) (sym it)
      (subst (λ (x : View). Joins {S = S} Keeps id x other (view holds []) (view holds x.calls) spent) (sym is) (takes_back id other holds calls))

  -- a look, which tells that the LUNs of the seat differ
  pub compares : (slots id : ℕ) (m : Me S View) (word : ℕ) → Allows {S = S} Keeps slots id m word (λ n. n) (TellsApart (step slots word 0 0 none) m)
  compares slots id m word s h count at fits = (
    m.0,
    keeps,
    tt,
    same s h (set s.views id m.0) (set s.words word (slice_index s.words word)) (set_again s.views id m.0 at) (set-get_or s.words word 0),
    (refl, h.apart id m.0 at),
  )
    where
      same : (s : State S View) → Keeps s → (views : List View) (words : List ℕ) → views ≡ s.views → words ≡ s.words → Keeps record { words = words; homes = s.homes; views = views }
      same s h views words v w =
          subst (λ vs. Keeps record { words = words; homes = s.homes; views = vs }) (sym v)
          (subst (λ ws. Keeps record { words = ws; homes = s.homes; views = s.views }) (sym w) h)
