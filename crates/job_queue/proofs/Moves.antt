-- Each move keeps the rule.
use Rattle.std.proofs.Common.{◌≡◌, ◌≢◌, ◌⊎◌, ℕ, zero, suc, ◌+◌, ◌^◌, ◌<◌, ◌≤◌, ◌==◌, if◌then◌else◌, Option, Some, None, List, [], ◌∷◌, ◌++◌, length, set, refl, sym, ap, ◌∙◌, subst, ⊎_elim, inl, inr, arith, append_assoc, length-append}
use Rattle.std.proofs.lemmas.List.{append-nil}
use mathlib.Core.Option.{some, some-injective, some-ne-none}
use mathlib.Core.Logic.{dite}
use native.Mathlib.Decide.{ℕ_discrete, dec_le}
use lib.ListN.{get_elem?}
use Rattle.crossbeam_queue.specs.Fifo.{Pushes, Pops, Forks, Merges, Learns}
use Rattle.crossbeam_queue.proofs.Lists.{at_set}
use Rattle.job_queue.specs.declared.rule.QueuedJob.{QueuedJob}
use Rattle.job_queue.specs.declared.rule.View.{View}
use Rattle.job_queue.specs.declared.rule.View.TheVariants.{Host, Taker, Closing, Spent}
use Rattle.job_queue.specs.Rule.{queued, of_host, numbered, opener, NoneFrom, Fits, Delivers, TakesNext, TellsStored, TellsTaken, TellsHost, with_next_host, next_host, closing}
use Rattle.job_queue.specs.Holding.{jobs_of, hosts_of, IsTaking, IsBeginning}
use Rattle.job_queue.proofs.Jobs.{by_eq, of_host-append, of_host-mine, of_host-other, numbered-append, length-numbered, numbered_parts}

some_is : (a b : ℕ) → Some a ≡ Some b → a ≡ b
some_is a b e = cc

not_none : (a : ℕ) → Some a ≡ None → ⊥
not_none a e = cc

changed : {A : Type 0} → (ℕ → A) → ℕ → A → ℕ → A
changed f h x k = if k == h then x else f k

changed_here : {A : Type 0} (f : ℕ → A) (h : ℕ) (x : A) → changed f h x h ≡ x
unfolding changed
changed_here f h x = by_eq h h (λ b. (if b then x else f h) ≡ x) (λ _. refl) (λ n. absurd (n refl))

changed_else : {A : Type 0} (f : ℕ → A) (h : ℕ) (x : A) (k : ℕ) → k ≢ h → changed f h x k ≡ f k
unfolding changed
changed_else f h x k ne = by_eq k h (λ b. (if b then x else f k) ≡ f k) (λ e. absurd (ne e)) (λ _. refl)

in_longer : {A : Type 0} (l : List A) (a b : A) (i : ℕ) → get_elem? (l ++ a ∷ []) i ≡ some b → (get_elem? l i ≡ some b) ⊎ ((i ≡ length l) × (a ≡ b))
in_longer [] a b zero e = inr (refl, some-injective a b e)
in_longer [] a b (suc i) e = absurd (some-ne-none b (sym e))
in_longer (x ∷ xs) a b zero e = inl e
in_longer (x ∷ xs) a b (suc i) e = ⊎_elim (λ h. inl h) (λ h. inr (ap suc h.0, h.1)) (in_longer xs a b i e)

is_below : {n h : ℕ} → Dec (n ≤ h) → (n ≤ h → ⊥) → h < n
is_below (yes le) not = absurd (not le)
is_below (no gt) not = omega (arith, gt)

module _ {J : Type 0} where
  -- the views after one pass has a new one
  each_set : (F G : ℕ → View J → Type 0) (views : List (View J)) (pass : ℕ) (w : View J) → ((p : ℕ) (u : View J) → get_elem? views p ≡ some u → F p u)
      → G pass w → ((p : ℕ) (u : View J) → p ≢ pass → F p u → G p u)
      → (p : ℕ) (u : View J) → get_elem? (set views pass w) p ≡ some u → G p u
  each_set F G views pass w all mine others p u e =
      ⊎_elim
      (λ (x : (p ≡ pass) × (w ≡ u)). subst (λ (y : ℕ × View J). G y.0 y.1) (λ i. (sym x.0 i, x.1 i)) mine)
      (λ (x : (p ≢ pass) × (get_elem? views p ≡ some u)). others p u x.0 (all p u x.1))
      (at_set views pass p w u e)

  -- a view of another pass stays true when a host stores a job
  stays_stored : (seat : ℕ → Option ℕ) (stored : ℕ → List J) (h : ℕ) (js : List J) (taker : ℕ) (taken : List (QueuedJob J)) (pass : ℕ) → seat h ≡ Some pass
      → (p : ℕ) (u : View J) → p ≢ pass → Fits seat stored taker taken p u → Fits seat (changed stored h js) taker taken p u
  stays_stored seat stored h js taker taken pass at p (Host k ks) ne f =
      (f.0, f.1 ∙ sym (changed_else stored h js k (λ e. ne (some_is p pass (sym f.0 ∙ ap seat e ∙ at)))))
  stays_stored seat stored h js taker taken pass at p (Taker ts n) ne f =
      (f.0, f.1, λ k le. ((f.2 k le).0, changed_else stored h js k (λ e. not_none pass (sym at ∙ ap seat (sym e) ∙ (f.2 k le).0)) ∙ (f.2 k le).1))
  stays_stored seat stored h js taker taken pass at p (Closing ts n k ks) ne f =
      (f.0, f.1, (λ k le. ((f.2 k le).0, changed_else stored h js k (λ e. not_none pass (sym at ∙ ap seat (sym e) ∙ (f.2 k le).0)) ∙ (f.2 k le).1)), f.3, f.4 ∙ sym (changed_else stored h js k (λ e. not_none pass (sym at ∙ ap seat (sym e) ∙ f.3))), f.5)
  stays_stored seat stored h js taker taken pass at p Spent ne f = tt

  pub stores : (n pass h next : ℕ) (js : List J) (j : J) → next ≡ length js → next < 2 ^ 62
      → Pushes Delivers n pass (Host h js) (queued h next j) (TellsStored (Host h js) (queued h next j))
  stores n pass h next js j is small items views room r at =
      let mine = r.each pass (Host h js) at in
      let x : QueuedJob J = queued h next j in
      let w : View J = Host h (js ++ j ∷ []) in
      let stored : ℕ → List J = changed r.stored h (js ++ j ∷ []) in (
        w,
        record {
          seat = r.seat;
          stored = stored;
          taker = r.taker;
          taken = r.taken;
          order = λ k.
              let front : of_host k (r.taken ++ (items ++ x ∷ [])) ≡ of_host k (r.taken ++ items) ++ of_host k (x ∷ []) = ap (λ l. of_host k l) (sym (append_assoc r.taken items (x ∷ []))) ∙ of_host-append k (r.taken ++ items) (x ∷ []) in
              dite (ℕ_discrete k h)
              (λ e.
              let last : of_host k (x ∷ []) ≡ queued h (length js) j ∷ [] = of_host-mine x [] k (sym e) ∙ ap (λ m. queued h m j ∷ []) is in
              let was : of_host k (r.taken ++ items) ≡ numbered h 0 js = r.order k ∙ ap (λ m. numbered m 0 (r.stored m)) e ∙ ap (λ l. numbered h 0 l) (sym mine.1) in
              let now : numbered k 0 (stored k) ≡ numbered h 0 (js ++ j ∷ []) = ap (λ m. numbered m 0 (stored m)) e ∙ ap (λ l. numbered h 0 l) (changed_here r.stored h (js ++ j ∷ [])) in
              let z : length js ≡ 0 + length js = omega arith in
              front ∙ (λ i. was i ++ last i) ∙ ap (λ m. numbered h 0 js ++ queued h m j ∷ []) z ∙ sym (numbered-append h 0 js j) ∙ sym now)
              (λ ne.
              let none : of_host k (x ∷ []) ≡ [] = of_host-other x [] k (λ e. ne (sym e)) in
              front ∙ ap (λ l. of_host k (r.taken ++ items) ++ l) none ∙ append-nil (of_host k (r.taken ++ items)) ∙ r.order k ∙ ap (λ l. numbered k 0 l) (sym (changed_else r.stored h (js ++ j ∷ []) k ne)));
          short = λ k. dite (ℕ_discrete k h)
              (λ e. subst (λ l. length l ≤ 2 ^ 62) (sym (ap (λ m. stored m) e ∙ changed_here r.stored h (js ++ j ∷ []))) (omega (arith, length-append js (j ∷ []))))
              (λ ne. subst (λ l. length l ≤ 2 ^ 62) (sym (changed_else r.stored h (js ++ j ∷ []) k ne)) (r.short k));
          each = each_set (Fits r.seat r.stored r.taker r.taken) (Fits r.seat stored r.taker r.taken) views pass w r.each
              (mine.0, sym (changed_here r.stored h (js ++ j ∷ [])))
              (stays_stored r.seat r.stored h (js ++ j ∷ []) r.taker r.taken pass mine.0);
        },
        refl,
      )

  -- a view of another pass stays true when the taker takes
  stays_taken : (seat : ℕ → Option ℕ) (stored : ℕ → List J) (taker : ℕ) (taken now : List (QueuedJob J)) (p : ℕ) (u : View J) → p ≢ taker → Fits seat stored taker taken p u → Fits seat stored taker now p u
  stays_taken seat stored taker taken now p (Host k ks) ne f = f
  stays_taken seat stored taker taken now p (Taker ts n) ne f = absurd (ne f.0)
  stays_taken seat stored taker taken now p (Closing ts n k ks) ne f = absurd (ne f.0)
  stays_taken seat stored taker taken now p Spent ne f = tt

  -- the job that is next in the queue is the next one of its host
  next_job : (ts items : List (QueuedJob J)) (x : QueuedJob J) (hosts : ℕ) (stored : ℕ → List J)
      → ((h : ℕ) → of_host h (ts ++ x ∷ items) ≡ numbered h 0 (stored h)) → ((h : ℕ) → length (stored h) ≤ 2 ^ 62) → ((h : ℕ) → hosts ≤ h → stored h ≡ [])
      → TakesNext ts x hosts
  next_job ts items x hosts stored order short none =
      let later : (h : ℕ) → of_host h (ts ++ x ∷ []) ++ of_host h items ≡ numbered h 0 (stored h) = λ h. sym (of_host-append h (ts ++ x ∷ []) items) ∙ ap (λ l. of_host h l) (append_assoc ts (x ∷ []) items) ∙ order h in
      let gone : (h : ℕ) → hosts ≤ h → of_host h (ts ++ x ∷ []) ≡ [] = λ h le. no_front (of_host h (ts ++ x ∷ [])) (of_host h items) (later h ∙ ap (λ l. numbered h 0 l) (none h le)) in
      let own : of_host x.host ts ++ (x ∷ of_host x.host items) ≡ numbered x.host 0 (stored x.host) = ap (λ l. of_host x.host ts ++ l) (sym (of_host-mine x items x.host refl)) ∙ sym (of_host-append x.host ts (x ∷ items)) ∙ order x.host in
      let at = place x (of_host x.host ts) (of_host x.host items) (stored x.host) own in
      let room = short x.host in
      let all = at.1 in
      record {
        order = record {
          order = λ h. let parts = numbered_parts h 0 (stored h) (of_host h (ts ++ x ∷ [])) (of_host h items) (later h) in (parts.0, parts.2.1, (let s = short h in let a = parts.0 in let b = parts.1 in let e : length (a ++ b) ≡ length (stored h) = ap length parts.2.0 in omega (arith, length-append a b)));
          none = gone;
        };
        host = is_below (dec_le hosts x.host) (λ le. no_end (of_host x.host ts) x (sym (ap (λ l. of_host x.host ts ++ l) (of_host-mine x [] x.host refl)) ∙ sym (of_host-append x.host ts (x ∷ [])) ∙ gone x.host le));
        number = at.0;
        short = omega (arith, at.0, all, room);
      }
    where
      no_front : (a b : List (QueuedJob J)) → a ++ b ≡ [] → a ≡ []
      no_front [] b e = refl
      no_front (y ∷ a) b e = absurd (cc)

      no_end : (a : List (QueuedJob J)) (y : QueuedJob J) → a ++ y ∷ [] ≡ [] → ⊥
      no_end [] y e = cc
      no_end (z ∷ a) y e = cc

      head_of : (h k : ℕ) (y : QueuedJob J) (b : List (QueuedJob J)) (js : List J) → y ∷ b ≡ numbered h k js → (y.number ≡ k) × (0 < length js)
      head_of h k y b [] e = absurd (cc)
      head_of h k y b (j ∷ js) e = (let is : y ≡ queued h k j = cc in ap (λ (z : QueuedJob J). z.number) is, omega arith)

      place : (y : QueuedJob J) (a b : List (QueuedJob J)) (js : List J) → a ++ (y ∷ b) ≡ numbered y.host 0 js → (y.number ≡ length a) × (length a < length js)
      place y a b js e =
          let parts = numbered_parts y.host 0 js a (y ∷ b) e in
          let n : length a ≡ length parts.0 = ap length parts.2.1 ∙ length-numbered y.host 0 parts.0 in
          let m : length (parts.0 ++ parts.1) ≡ length js = ap length parts.2.0 in
          let h = head_of y.host (0 + length parts.0) y b parts.1 parts.2.2 in
          let c = parts.0 in
          let d = parts.1 in
          (h.0 ∙ (let z : 0 + length c ≡ length c = omega arith in z) ∙ sym n, omega (arith, n, m, h.1, length-append c d))

  pub takes : (pass : ℕ) (ts : List (QueuedJob J)) (hosts : ℕ) → Pops Delivers pass (Taker ts hosts) (TellsTaken (Taker ts hosts))
  takes pass ts hosts x items views r at =
      let mine = r.each pass (Taker ts hosts) at in
      let taken = r.taken ++ x ∷ [] in
      let w : View J = Taker (ts ++ x ∷ []) hosts in (
        w,
        record {
          seat = r.seat;
          stored = r.stored;
          taker = r.taker;
          taken = taken;
          order = λ h. ap (λ l. of_host h l) (append_assoc r.taken (x ∷ []) items) ∙ r.order h;
          short = r.short;
          each = each_set (Fits r.seat r.stored r.taker r.taken) (Fits r.seat r.stored r.taker taken) views pass w r.each
              (mine.0, ap (λ l. l ++ x ∷ []) mine.1, mine.2)
              (λ p u ne. stays_taken r.seat r.stored r.taker r.taken taken p u (λ e. ne (e ∙ sym mine.0)));
        },
        (refl, next_job ts items x hosts r.stored (λ h. ap (λ l. of_host h (l ++ x ∷ items)) mine.1 ∙ r.order h) r.short (λ h le. (mine.2 h le).1)),
      )

  -- the taker makes the next host
  stays_made : (seat : ℕ → Option ℕ) (stored : ℕ → List J) (n made taker : ℕ) (taken : List (QueuedJob J)) → seat n ≡ None
      → (p : ℕ) (u : View J) → p ≢ taker → Fits seat stored taker taken p u → Fits (changed seat n (Some made)) stored taker taken p u
  stays_made seat stored n made taker taken free p (Host k ks) ne f = (changed_else seat n (Some made) k (λ e. not_none p (sym f.0 ∙ ap seat e ∙ free)) ∙ f.0, f.1)
  stays_made seat stored n made taker taken free p (Taker ts m) ne f = absurd (ne f.0)
  stays_made seat stored n made taker taken free p (Closing ts m k ks) ne f = absurd (ne f.0)
  stays_made seat stored n made taker taken free p Spent ne f = tt

  pub forks : (pass : ℕ) (ts : List (QueuedJob J)) (n : ℕ) → Forks Delivers pass (Taker ts n) (Taker ts (n + 1)) (Host n [])
  forks pass ts n items views r at =
      let mine = r.each pass (Taker ts n) at in
      let next = mine.2 n (omega arith) in
      let vs : List (View J) = set views pass (Taker ts (n + 1)) in
      let seat : ℕ → Option ℕ = changed r.seat n (Some (length vs)) in
      let old : (p : ℕ) (u : View J) → get_elem? vs p ≡ some u → Fits seat r.stored r.taker r.taken p u =
      each_set (Fits r.seat r.stored r.taker r.taken) (Fits seat r.stored r.taker r.taken) views pass (Taker ts (n + 1)) r.each
      (mine.0, mine.1, λ k le. (let ne : k ≢ n = omega arith in let le' : n ≤ k = omega arith in let m = mine.2 k le' in (changed_else r.seat n (Some (length vs)) k ne ∙ m.0, m.1)))
      (λ p u ne. stays_made r.seat r.stored n (length vs) r.taker r.taken next.0 p u (λ e. ne (e ∙ sym mine.0)))
      in
      record {
        seat = seat;
        stored = r.stored;
        taker = r.taker;
        taken = r.taken;
        order = r.order;
        short = r.short;
        each = λ p u e. ⊎_elim
            (λ was. old p u was)
            (λ (x : (p ≡ length vs) × (Host n [] ≡ u)). subst (λ (y : ℕ × View J). Fits seat r.stored r.taker r.taken y.0 y.1) (λ i. (sym x.0 i, x.1 i)) (changed_here r.seat n (Some (length vs)), sym next.1))
            (in_longer vs (Host n []) u p e);
      }

  -- the taker takes in a host
  stays_met : (seat : ℕ → Option ℕ) (stored : ℕ → List J) (h other taker : ℕ) (taken : List (QueuedJob J)) → seat h ≡ Some other
      → (p : ℕ) (u : View J) → p ≢ taker → p ≢ other → Fits seat stored taker taken p u → Fits (changed seat h None) stored taker taken p u
  stays_met seat stored h other taker taken at p (Host k ks) ne ne' f = (changed_else seat h None k (λ e. ne' (some_is p other (sym f.0 ∙ ap seat e ∙ at))) ∙ f.0, f.1)
  stays_met seat stored h other taker taken at p (Taker ts m) ne ne' f = absurd (ne f.0)
  stays_met seat stored h other taker taken at p (Closing ts m k ks) ne ne' f = absurd (ne f.0)
  stays_met seat stored h other taker taken at p Spent ne ne' f = tt

  -- a view of the one taker
  abbrev pub IsTakers : View J → List (QueuedJob J) → ℕ → Type 0
  IsTakers (Taker us m) ts n = (us ≡ ts) × (m ≡ n)
  IsTakers (Closing us m k ks) ts n = (us ≡ ts) × (m ≡ n)
  IsTakers v ts n = ⊥

  knows : (seat : ℕ → Option ℕ) (stored : ℕ → List J) (taker : ℕ) (taken : List (QueuedJob J)) (pass : ℕ) (v : View J) (ts : List (QueuedJob J)) (n : ℕ) → IsTakers v ts n → Fits seat stored taker taken pass v
      → (pass ≡ taker) × (ts ≡ taken) × NoneFrom seat stored n
  knows seat stored taker taken pass (Taker us m) ts n is f = (f.0, sym is.0 ∙ f.1, subst (λ k. NoneFrom seat stored k) is.1 f.2)
  knows seat stored taker taken pass (Closing us m k ks) ts n is f = (f.0, sym is.0 ∙ f.1, subst (λ k. NoneFrom seat stored k) is.1 f.2)
  knows seat stored taker taken pass (Host k ks) ts n is f = absurd is
  knows seat stored taker taken pass Spent ts n is f = absurd is

  pub merges : (pass : ℕ) (v : View J) (ts : List (QueuedJob J)) (n other h : ℕ) (js : List J) → IsTakers v ts n → Merges Delivers pass v other (Host h js) (Closing ts n h js) Spent
  merges pass v ts n other h js is items views r at two at' =
      let mine = knows r.seat r.stored r.taker r.taken pass v ts n is (r.each pass v at) in
      let both : View J = Closing ts n h js in
      let vs : List (View J) = set views pass both in
      let was : get_elem? views other ≡ some (Host h js) = ⊎_elim (λ x. absurd (two x.0)) (λ x. x.1) (at_set views pass other both (Host h js) at') in
      let theirs = r.each other (Host h js) was in
      let below : Dec (n ≤ h) → h < n = λ d. is_below d (λ le. not_none other (sym theirs.0 ∙ (mine.2 h le).0)) in
      let seat : ℕ → Option ℕ = changed r.seat h None in
      let Now : ℕ → View J → Type 0 = λ p u. p ≢ other → Fits seat r.stored r.taker r.taken p u in
      let now : (p : ℕ) (u : View J) → get_elem? vs p ≡ some u → Now p u =
      each_set (Fits r.seat r.stored r.taker r.taken) Now views pass both r.each
      (λ _. (mine.0, mine.1, (λ k le. (dite (ℕ_discrete k h) (λ e. ap seat e ∙ changed_here r.seat h None) (λ ne. changed_else r.seat h None k ne ∙ (mine.2 k le).0), (mine.2 k le).1)), changed_here r.seat h None, theirs.1, below (dec_le n h)))
      (λ p u ne f ne'. stays_met r.seat r.stored h other r.taker r.taken theirs.0 p u (λ e. ne (e ∙ sym mine.0)) ne' f)
      in
      record {
        seat = seat;
        stored = r.stored;
        taker = r.taker;
        taken = r.taken;
        order = r.order;
        short = r.short;
        each = each_set Now (Fits seat r.stored r.taker r.taken) vs other Spent now tt (λ p u ne f. f ne);
      }

  pub learns : (pass : ℕ) (ts : List (QueuedJob J)) (n h : ℕ) (js : List J) → Learns Delivers pass (Closing ts n h js) (λ items. (h < n) × (of_host h (ts ++ items) ≡ numbered h 0 js))
  learns pass ts n h js items views r at =
      let mine = r.each pass (Closing ts n h js) at in
      (mine.5, ap (λ l. of_host h (l ++ items)) mine.1 ∙ r.order h ∙ ap (λ l. numbered h 0 l) (sym mine.4))

  pub begins : Delivers {J = J} [] (opener ∷ [])
  begins = record {
    seat = λ h. None;
    stored = λ h. [];
    taker = 0;
    taken = [];
    order = λ h. refl;
    short = λ h. omega arith;
    each = λ p u e. first p u e;
  }
    where
      first : (p : ℕ) (u : View J) → get_elem? (opener ∷ []) p ≡ some u → Fits (λ h. None) (λ h. []) 0 [] p u
      first zero u e = subst (λ (v : View J). Fits (λ h. None) (λ h. []) 0 [] 0 v) (some-injective opener u e) (refl, refl, λ h le. (refl, refl))
      first (suc p) u e = absurd (some-ne-none u (sym e))

  -- the moves, at a view that is known
  pub stores_as : (n pass : ℕ) (v : View J) (h next : ℕ) (js : List J) (j : J) → v ≡ Host h js → next ≡ length js → next < 2 ^ 62
      → Pushes Delivers n pass v (queued h next j) (TellsStored v (queued h next j))
  stores_as n pass v h next js j known is small = subst (λ (u : View J). Pushes Delivers n pass u (queued h next j) (TellsStored u (queued h next j))) (sym known) (stores n pass h next js j is small)

  pub takes_as : (pass : ℕ) (v : View J) (ts : List (QueuedJob J)) (hosts : ℕ) → v ≡ Taker ts hosts → Pops Delivers pass v (TellsTaken v)
  takes_as pass v ts hosts known = subst (λ (u : View J). Pops Delivers pass u (TellsTaken u)) (sym known) (takes pass ts hosts)

  -- what a pop told, of a view that is known
  pub after_taking : (v w : View J) (ts : List (QueuedJob J)) (hosts : ℕ) (x : QueuedJob J) → v ≡ Taker ts hosts → TellsTaken v x w → (w ≡ Taker (ts ++ x ∷ []) hosts) × TakesNext ts x hosts
  after_taking v w ts hosts x known told = subst (λ (u : View J). TellsTaken u x w) known told

  pub forks_as : (pass : ℕ) (v : View J) (ts : List (QueuedJob J)) (n : ℕ) → v ≡ Taker ts n → Forks Delivers pass v (with_next_host v) (next_host v)
  forks_as pass v ts n known = subst (λ (u : View J). Forks Delivers pass u (with_next_host u) (next_host u)) (sym known) (forks pass ts n)

  is_takers : (v : View J) → IsTaking v → IsTakers v (jobs_of v) (hosts_of v)
  is_takers (Taker ts n) t = (refl, refl)
  is_takers (Closing ts n h js) t = (refl, refl)
  is_takers (Host h js) t = absurd t
  is_takers Spent t = absurd t

  closing_is : (v : View J) (h : ℕ) (js : List J) → IsTaking v → closing v (Host h js) ≡ Closing (jobs_of v) (hosts_of v) h js
  closing_is (Taker ts n) h js t = refl
  closing_is (Closing ts n k ks) h js t = refl
  closing_is (Host k ks) h js t = absurd t
  closing_is Spent h js t = absurd t

  pub merges_as : (pass : ℕ) (v : View J) (other h : ℕ) (w : View J) (js : List J) → IsTaking v → w ≡ Host h js → Merges Delivers pass v other w (closing v w) Spent
  merges_as pass v other h w js t is = subst (λ (u : View J). Merges Delivers pass v other u (closing v u) Spent) (sym is)
      (subst (λ (u : View J). Merges Delivers pass v other (Host h js) u Spent) (sym (closing_is v h js t)) (merges pass v (jobs_of v) (hosts_of v) other h js (is_takers v t)))

  pub taken_in_is : (v w u : View J) (h : ℕ) (js : List J) → IsTaking v → w ≡ Host h js → u ≡ closing v w → u ≡ Closing (jobs_of v) (hosts_of v) h js
  taken_in_is v w u h js t is e = e ∙ ap (λ (x : View J). closing v x) is ∙ closing_is v h js t

  pub learns_as : (pass : ℕ) (u : View J) (ts : List (QueuedJob J)) (n h : ℕ) (js : List J) → u ≡ Closing ts n h js → Learns Delivers pass u (TellsHost u)
  learns_as pass u ts n h js is = subst (λ (x : View J). Learns Delivers pass x (TellsHost x)) (sym is) (learns pass ts n h js)

  -- what was learned, of a host that was taken in
  pub begins_with : (u : View J) (ts : List (QueuedJob J)) (n h : ℕ) (js : List J) → u ≡ Closing ts n h js → (items : List (QueuedJob J)) × TellsHost u items → (h < n) × IsBeginning h js ts
  begins_with u ts n h js is (items, told) =
      let known : TellsHost (Closing ts n h js) items = subst (λ (x : View J). TellsHost x items) is told in
      (known.0, (of_host h items, sym known.1 ∙ of_host-append h ts items))
