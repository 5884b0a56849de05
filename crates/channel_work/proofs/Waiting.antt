-- Jobs at places: what leaves a place and what comes to the end, and which are the oldest of their LUNs.
use Rattle.std.proofs.Common.{◌≡◌, ◌⊎◌, inl, inr, ℕ, zero, suc, ◌+◌, ◌<◌, ◌≤◌, ◌||◌, Bool, true, false, List, [], ◌∷◌, ◌++◌, Option, Some, None, refl, sym, ap, ◌∙◌, subst, arith, length, get_or, set, take, drop}
use Rattle.std.specs.List.{list_any, slice_get}
use Rattle.std.proofs.lemmas.List.{get_or-set_same, get_or-set_other, get_or_append_left, length_push}
use Rattle.std.proofs.Math.ListN.{length-set}
use Rattle.std.proofs.lemmas.List.Elements.{All-set, All-push, All-weaker}
use Rattle.std.proofs.lemmas.List.Folds.{list_any-append}
use Rattle.std.proofs.lemmas.Bool.{both_ways, or_left, or_right, or_cases, cases_lt, cases_eq}
use Rattle.onfi_cycle.specs.declared.lun.Lun.{Lun}
use Rattle.onfi_cycle.specs.Channel.{same_lun}
use Rattle.micro_program.specs.Program.{Job}
use Rattle.seq_core.proofs.Slots.{same_lun_is, same_lun_self}
use Rattle.job_queue.specs.declared.rule.QueuedJob.{QueuedJob}
use Rattle.channel_work.specs.declared.backlog.Front.{Front}
use Rattle.channel_work.specs.Rows.{somes}
use Rattle.channel_work.specs.Backlog.{is_of, has_front, NoneBelow, IsNext, IsFront, IsBacklog, HasAdvanced, IsOldestAt, NoOldest, IsFirstFrom}
use Rattle.channel_work.specs.Starting.{NoneOfLun, IsOldest, Leaves}

some_is : {X : Type 0} (x y : X) → Some x ≡ Some y → x ≡ y
some_is x y h = cc

-- how many jobs there are, one place more
counted_next : (places : List (Option (QueuedJob Job))) (k : ℕ) (p : Option (QueuedJob Job)) → k < length places → p ≡ get_or places k p → length (somes (take (suc k) places)) ≡ length (somes (take k places)) + length (somes (p ∷ []))
counted_next [] k p low e = absurd (omega (arith, low))
counted_next (None ∷ places) zero p low e = let is = ap (λ (o : Option (QueuedJob Job)). length (somes (o ∷ []))) e in omega (arith, is)
counted_next (Some x ∷ places) zero p low e = let is = ap (λ (o : Option (QueuedJob Job)). length (somes (o ∷ []))) e in omega (arith, is)
counted_next (None ∷ places) (suc k) p low e = counted_next places k p (omega (arith, low)) e
counted_next (Some x ∷ places) (suc k) p low e = let r = counted_next places k p (omega (arith, low)) e in omega (arith, r)

pub counted_more : (places : List (Option (QueuedJob Job))) (k : ℕ) (p : Option (QueuedJob Job)) → k < length places → p ≡ get_or places k p → length (somes (take (k + 1) places)) ≡ length (somes (take k places)) + length (somes (p ∷ []))
counted_more places k p low e =
    let next : suc k ≡ k + 1 = omega arith in
    subst (λ (m : ℕ). length (somes (take m places)) ≡ length (somes (take k places)) + length (somes (p ∷ []))) next (counted_next places k p low e)

-- a place that was emptied has no job
emptied_of : (places : List (Option (QueuedJob Job))) (n : ℕ) (l : Lun) (j : ℕ) → is_of l (get_or places j None) ≡ false → is_of l (get_or (set places n None) j None) ≡ false
emptied_of [] n l j h = h
emptied_of (p ∷ places) zero l zero h = refl
emptied_of (p ∷ places) zero l (suc j) h = h
emptied_of (p ∷ places) (suc n) l zero h = h
emptied_of (p ∷ places) (suc n) l (suc j) h = emptied_of places n l j h

emptied_known : (places : List (Option (QueuedJob Job))) (n j : ℕ) (x : QueuedJob Job) → get_or (set places n None) j None ≡ Some x → get_or places j None ≡ Some x
emptied_known [] n j x h = h
emptied_known (p ∷ places) zero zero x h = cc
emptied_known (p ∷ places) zero (suc j) x h = h
emptied_known (p ∷ places) (suc n) zero x h = h
emptied_known (p ∷ places) (suc n) (suc j) x h = emptied_known places n j x h

pub emptied : (places : List (Option (QueuedJob Job))) (fronts : List Front) (n : ℕ) → IsBacklog places fronts → IsBacklog (set places n None) fronts
emptied places fronts n h =
    record {
      each = All-weaker (IsFront places) (IsFront (set places n None))
          (λ f i. record { below = λ j low. emptied_of places n f.lun j (i.below j low); inside = subst (λ (m : ℕ). f.place ≤ m) (sym (length-set places n None)) i.inside }) fronts h.each;
      known = λ j x e. h.known j x (emptied_known places n j x e);
    }

-- what waits without the job of a place
split_at_place : (places : List (Option (QueuedJob Job))) (n : ℕ) (x : QueuedJob Job) → get_or places n None ≡ Some x
    → (somes places ≡ somes (take n places) ++ (x ∷ somes (drop (suc n) places))) × (somes (set places n None) ≡ somes (take n places) ++ somes (drop (suc n) places))
split_at_place [] n x h = cc
split_at_place (None ∷ places) zero x h = cc
split_at_place (Some y ∷ places) zero x h = (ap (λ (z : QueuedJob Job). z ∷ somes places) (some_is y x h), refl)
split_at_place (None ∷ places) (suc n) x h = split_at_place places n x h
split_at_place (Some y ∷ places) (suc n) x h = let r = split_at_place places n x h in (ap (λ (zs : List (QueuedJob Job)). y ∷ zs) r.0, ap (λ (zs : List (QueuedJob Job)). y ∷ zs) r.1)

-- none of a LUN, told by places and told by what waits
none_of : (l : Lun) (places : List (Option (QueuedJob Job))) (n : ℕ) → NoneBelow l places n → NoneOfLun l (somes (take n places))
none_of l [] zero h = tt
none_of l [] (suc n) h = tt
none_of l (p ∷ places) zero h = tt
none_of l (None ∷ places) (suc n) h = none_of l places n (λ j low. h (suc j) (omega (arith, low)))
none_of l (Some y ∷ places) (suc n) h = (h 0 (omega arith), none_of l places n (λ j low. h (suc j) (omega (arith, low))))

none_below : (l : Lun) (places : List (Option (QueuedJob Job))) (n : ℕ) → NoneOfLun l (somes (take n places)) → NoneBelow l places n
none_below l [] n h j low = refl
none_below l (p ∷ places) zero h j low = absurd (omega (arith, low))
none_below l (None ∷ places) (suc n) h zero low = refl
none_below l (None ∷ places) (suc n) h (suc j) low = none_below l places n h j (omega (arith, low))
none_below l (Some y ∷ places) (suc n) h zero low = h.0
none_below l (Some y ∷ places) (suc n) h (suc j) low = none_below l places n h.1 j (omega (arith, low))

pub leaving : (places : List (Option (QueuedJob Job))) (n : ℕ) (x : QueuedJob Job) → IsOldestAt places n x → Leaves (somes places) x (somes (set places n None))
leaving places n x o =
    let r = split_at_place places n x o.here in
    record { front = somes (take n places); rest = somes (drop (suc n) places); before_is = r.0; later_is = r.1; oldest = none_of x.job.lun places n o.first }

-- how many wait at the places before this one
abbrev pub rank : List (Option (QueuedJob Job)) → ℕ → ℕ
rank places n = length (somes (take n places))

rank_here : (places : List (Option (QueuedJob Job))) (n : ℕ) (x : QueuedJob Job) → get_or places n None ≡ Some x → slice_get (somes places) (length (somes (take n places))) ≡ Some x
rank_here [] n x h = cc
rank_here (None ∷ places) zero x h = cc
rank_here (Some y ∷ places) zero x h = h
rank_here (None ∷ places) (suc n) x h = rank_here places n x h
rank_here (Some y ∷ places) (suc n) x h = rank_here places n x h

rank_take : (places : List (Option (QueuedJob Job))) (n : ℕ) → take (length (somes (take n places))) (somes places) ≡ somes (take n places)
rank_take [] zero = refl
rank_take [] (suc n) = refl
rank_take (p ∷ places) zero = refl
rank_take (None ∷ places) (suc n) = rank_take places n
rank_take (Some y ∷ places) (suc n) = ap (λ (zs : List (QueuedJob Job)). y ∷ zs) (rank_take places n)

pub rank_less : (places : List (Option (QueuedJob Job))) (m n : ℕ) → length (somes (take m places)) < length (somes (take n places)) → m < n
rank_less places m zero low = absurd (omega (arith, low))
rank_less [] m (suc n) low = absurd (omega (arith, low))
rank_less (p ∷ places) zero (suc n) low = omega arith
rank_less (None ∷ places) (suc m) (suc n) low = let r = rank_less places m n low in omega (arith, r)
rank_less (Some y ∷ places) (suc m) (suc n) low = let r = rank_less places m n (omega (arith, low)) in omega (arith, r)

place_of : (places : List (Option (QueuedJob Job))) (k : ℕ) (x : QueuedJob Job) → slice_get (somes places) k ≡ Some x
    → (n : ℕ) × (get_or places n None ≡ Some x) × (n < length places) × (somes (take n places) ≡ take k (somes places)) × (length (somes (take n places)) ≡ k)
place_of [] k x h = cc
place_of (None ∷ places) k x h = let r = place_of places k x h in (suc r.0, r.1, (let low = r.2 in omega (arith, low)), r.3, r.4)
place_of (Some y ∷ places) zero x h = (0, h, omega arith, refl, refl)
place_of (Some y ∷ places) (suc k) x h =
    let r = place_of places k x h in
    (suc r.0, r.1, (let low = r.2 in omega (arith, low)), ap (λ (zs : List (QueuedJob Job)). y ∷ zs) r.3, ap suc r.4)

-- the oldest of a LUN, told by places and told by what waits
pub oldest_of : (places : List (Option (QueuedJob Job))) (n : ℕ) (x : QueuedJob Job) → IsOldestAt places n x → IsOldest (somes places) (rank places n) x
oldest_of places n x o =
    record { here = rank_here places n x o.here; first = subst (NoneOfLun x.job.lun) (sym (rank_take places n)) (none_of x.job.lun places n o.first) }

pub oldest_at : (places : List (Option (QueuedJob Job))) (k : ℕ) (x : QueuedJob Job) → IsOldest (somes places) k x → (n : ℕ) × IsOldestAt places n x × (n < length places) × (rank places n ≡ k)
oldest_at places k x o =
    let r = place_of places k x o.here in
    (r.0, record { here = r.1; first = none_below x.job.lun places r.0 (subst (NoneOfLun x.job.lun) (sym r.3) o.first) }, r.2, r.4)

-- a job comes to the end
pushed_front : (places : List (Option (QueuedJob Job))) (p : Option (QueuedJob Job)) (f : Front) → IsFront places f → IsFront (places ++ (p ∷ [])) f
pushed_front places p f h =
    let inside = h.inside in
    let size = length_push places p in
    record {
      below = λ j low. ap (is_of f.lun) (get_or_append_left places (p ∷ []) None j (omega (arith, low, inside))) ∙ h.below j low;
      inside = omega (arith, inside, size);
    }

pushed_known : (places : List (Option (QueuedJob Job))) (q : QueuedJob Job) (j : ℕ) (x : QueuedJob Job) → get_or (places ++ (Some q ∷ [])) j None ≡ Some x → (get_or places j None ≡ Some x) ⊎ (q ≡ x)
pushed_known [] q zero x h = inr (some_is q x h)
pushed_known [] q (suc j) x h = cc
pushed_known (p ∷ places) q zero x h = inl h
pushed_known (p ∷ places) q (suc j) x h = pushed_known places q j x h

pub pushed : (places : List (Option (QueuedJob Job))) (fronts : List Front) (q : QueuedJob Job) → IsBacklog places fronts → has_front fronts q.job.lun ≡ true → IsBacklog (places ++ (Some q ∷ [])) fronts
pushed places fronts q h has =
    record {
      each = All-weaker (IsFront places) (IsFront (places ++ (Some q ∷ []))) (pushed_front places (Some q)) fronts h.each;
      known = λ j x e. at x (h.known j x) (pushed_known places q j x e);
    }
  where
    at : (x : QueuedJob Job) {P : Type 0} → (P → has_front fronts x.job.lun ≡ true) → P ⊎ (q ≡ x) → has_front fronts x.job.lun ≡ true
    at x old (inl e) = old e
    at x old (inr e) = subst (λ (y : QueuedJob Job). has_front fronts y.job.lun ≡ true) e has

-- a front of a LUN of which no job waits
opened : (places : List (Option (QueuedJob Job))) (fronts : List Front) (f : Front) → IsBacklog places fronts → has_front fronts f.lun ≡ false → f.place ≡ length places → IsBacklog places (fronts ++ (f ∷ [])) × (has_front (fronts ++ (f ∷ [])) f.lun ≡ true)
opened places fronts f h new at_end = (
  record {
    each = All-push (IsFront places) fronts f h.each (record { below = λ j low. absent (get_or places j None) (h.known j); inside = omega (arith, at_end) });
    known = λ j x e. list_any-append (λ (g : Front). same_lun g.lun x.job.lun) fronts (f ∷ []) ∙ or_left (has_front fronts x.job.lun) (has_front (f ∷ []) x.job.lun) (h.known j x e);
  },
  list_any-append (λ (g : Front). same_lun g.lun f.lun) fronts (f ∷ []) ∙ or_right (has_front fronts f.lun) (has_front (f ∷ []) f.lun) (or_left (same_lun f.lun f.lun) false (same_lun_self f.lun)),
)
  where
    absent : (p : Option (QueuedJob Job)) → ((x : QueuedJob Job) → p ≡ Some x → has_front fronts x.job.lun ≡ true) → is_of f.lun p ≡ false
    absent None known = refl
    absent (Some x) known = decide (same_lun f.lun x.job.lun) refl
      where
        decide : (b : Bool) → same_lun f.lun x.job.lun ≡ b → same_lun f.lun x.job.lun ≡ false
        decide false e = e
        decide true e = absurd (both_ways (has_front fronts f.lun) new (subst (λ (l : Lun). has_front fronts l ≡ true) (sym (same_lun_is f.lun x.job.lun e)) (known x refl)))

pub pushed_opened : (places : List (Option (QueuedJob Job))) (fronts : List Front) (f : Front) (q : QueuedJob Job) → IsBacklog places fronts → has_front fronts f.lun ≡ false → f.place ≡ length places → f.lun ≡ q.job.lun → IsBacklog (places ++ (Some q ∷ [])) (fronts ++ (f ∷ []))
pushed_opened places fronts f q h new at_end same =
    let o = opened places fronts f h new at_end in
    pushed places (fronts ++ (f ∷ [])) q o.0 (subst (λ (l : Lun). has_front (fronts ++ (f ∷ [])) l ≡ true) same o.1)

-- a front that moves on is of the same LUN
same_fronts : (fronts : List Front) (at : ℕ) (f d : Front) (l : Lun) → at < length fronts → f.lun ≡ (get_or fronts at d).lun → has_front (set fronts at f) l ≡ has_front fronts l
same_fronts [] at f d l low e = refl
same_fronts (g ∷ fronts) zero f d l low e = ap (λ (m : Lun). list_any (λ (h : Front). same_lun h.lun l) (record { lun = m; place = g.place } ∷ fronts)) e
same_fronts (g ∷ fronts) (suc at) f d l low e = ap (λ (b : Bool). same_lun g.lun l || b) (same_fronts fronts at f d l (omega (arith, low)) e)

pub advanced : (places : List (Option (QueuedJob Job))) (fronts : List Front) (at n : ℕ) (d : Front) → IsBacklog places fronts → at < length fronts → IsNext (get_or fronts at d).lun places n
    → HasAdvanced places fronts (set fronts at (record { lun = (get_or fronts at d).lun; place = n })) at n
advanced places fronts at n d h low next =
    let f : Front = record { lun = (get_or fronts at d).lun; place = n } in
    record {
      backlog = record {
        each = All-set (IsFront places) fronts at f (record { below = next.below; inside = next.inside }) h.each;
        known = λ j x e. same_fronts fronts at f d x.job.lun low refl ∙ h.known j x e;
      };
      size = length-set fronts at f;
      others = λ k e ne. get_or-set_other fronts at k f e ne;
      next = λ e. subst (λ (g : Front). IsNext g.lun places n) (sym (get_or-set_same fronts at f e low)) next;
    }

-- the oldest job among those of the first so many fronts, from a place on
pub record IsFinding (places : List (Option (QueuedJob Job))) (initial : List Front) (from : ℕ) (fronts : List Front) (oldest at : ℕ) : Type 0 where
  pub backlog : IsBacklog places fronts
  pub size : length fronts ≡ length initial
  pub inside : oldest ≤ length places
  pub low : oldest < length places → from ≤ oldest
  pub first : oldest < length places → (x : QueuedJob Job) × IsOldestAt places oldest x
  pub none : (k : ℕ) (d : Front) → k < at → (n : ℕ) (x : QueuedJob Job) → from ≤ n → n < oldest → IsOldestAt places n x → same_lun (get_or fronts k d).lun x.job.lun ≡ true → ⊥

pub finding_first : (places : List (Option (QueuedJob Job))) (fronts : List Front) (from : ℕ) → IsBacklog places fronts → IsFinding places fronts from fronts (length places) 0
finding_first places fronts from h =
    record {
      backlog = h;
      size = refl;
      inside = omega arith;
      low = λ less. absurd (omega (arith, less));
      first = λ less. absurd (omega (arith, less));
      none = λ k d less n x lo hi o same. absurd (omega (arith, less));
    }

job_of : (l : Lun) (p : Option (QueuedJob Job)) → is_of l p ≡ true → (x : QueuedJob Job) × (p ≡ Some x) × (l ≡ x.job.lun)
job_of l None h = cc
job_of l (Some x) h = (x, refl, same_lun_is l x.job.lun h)

-- the oldest job of the LUN stands at its next place
at_next : (places : List (Option (QueuedJob Job))) (l : Lun) (next n : ℕ) (x : QueuedJob Job) → IsNext l places next → IsOldestAt places n x → same_lun l x.job.lun ≡ true → (n < length places) → n ≡ next
at_next places l next n x is o same inside = which (cases_lt n next) (cases_lt next n)
  where
    mine : is_of l (get_or places n None) ≡ true
    mine = ap (is_of l) o.here ∙ same

    which : (n < next) ⊎ (next ≤ n) → (next < n) ⊎ (n ≤ next) → n ≡ next
    which (inl less) r = absurd (both_ways (is_of l (get_or places n None)) (is.below n less) mine)
    which (inr ge) (inl more) =
        absurd (both_ways (is_of l (get_or places next None)) (subst (λ (m : Lun). is_of m (get_or places next None) ≡ false) (sym (same_lun_is l x.job.lun same)) (o.first next more)) (is.here (omega (arith, inside, more))))
    which (inr ge) (inr le) = omega (arith, ge, le)

-- one front more
found : (places : List (Option (QueuedJob Job))) (initial fronts later : List Front) (from oldest at next : ℕ) → IsFinding places initial from fronts oldest at → HasAdvanced places fronts later at next → (oldest' : ℕ) → oldest' ≤ oldest
    → (oldest' < length places → (from ≤ oldest') × (x : QueuedJob Job) × IsOldestAt places oldest' x) → ((from ≤ next) → next < oldest' → ⊥) → IsFinding places initial from later oldest' (at + 1)
found places initial fronts later from oldest at next f a oldest' less first passed =
    let inside = f.inside in
    record {
      backlog = a.backlog;
      size = a.size ∙ f.size;
      inside = omega (arith, inside, less);
      low = λ lo. (first lo).0;
      first = λ lo. ((first lo).1, (first lo).2);
      none = λ k d below n x lo hi o same. at_front k d (cases_eq k at) below n x lo hi o same;
    }
  where
    strictly : (k : ℕ) → (k ≡ at → ⊥) → k < at + 1 → k < at
    strictly k ne below = by (cases_lt k at)
      where
        by : (k < at) ⊎ (at ≤ k) → k < at
        by (inl lo) = lo
        by (inr ge) = absurd (ne (omega (arith, ge, below)))

    at_front : (k : ℕ) (d : Front) → (k ≡ at) ⊎ (k ≡ at → ⊥) → k < at + 1 → (n : ℕ) (x : QueuedJob Job) → from ≤ n → n < oldest' → IsOldestAt places n x → same_lun (get_or later k d).lun x.job.lun ≡ true → ⊥
    at_front k d (inl e) below n x lo hi o same =
        let inside = f.inside in
        let here : n ≡ next = at_next places (get_or later at d).lun next n x (a.next d) o (subst (λ (i : ℕ). same_lun (get_or later i d).lun x.job.lun ≡ true) e same) (omega (arith, inside, less, hi)) in
        passed (omega (arith, here, lo)) (omega (arith, here, hi))
    at_front k d (inr ne) below n x lo hi o same =
        f.none k d (strictly k ne below) n x lo (omega (arith, hi, less)) o (subst (λ (g : Front). same_lun g.lun x.job.lun ≡ true) (a.others k d ne) same)

pub found_here : (places : List (Option (QueuedJob Job))) (initial fronts later : List Front) (from oldest at next : ℕ) → IsFinding places initial from fronts oldest at → HasAdvanced places fronts later at next → from ≤ next → next < oldest → IsFinding places initial from later next (at + 1)
found_here places initial fronts later from oldest at next f a lo hi =
    let d : Front = record { lun = record { ce = 0; lun = 0 }; place = 0 } in
    let n = a.next d in
    found places initial fronts later from oldest at next f a next (omega (arith, hi))
    (λ inside.
    let j = job_of (get_or later at d).lun (get_or places next None) (n.here inside) in
    (lo, j.0, record { here = j.1; first = subst (λ (l : Lun). NoneBelow l places next) j.2 n.below }))
    (λ lo' less. omega (arith, less))

pub found_elsewhere : (places : List (Option (QueuedJob Job))) (initial fronts later : List Front) (from oldest at next : ℕ) → IsFinding places initial from fronts oldest at → HasAdvanced places fronts later at next → (from ≤ next → next < oldest → ⊥) → IsFinding places initial from later oldest (at + 1)
found_elsewhere places initial fronts later from oldest at next f a passed =
    found places initial fronts later from oldest at next f a oldest (omega arith) (λ inside. let o = f.first inside in (f.low inside, o.0, o.1)) passed

front_of : (l : Lun) (fronts : List Front) → has_front fronts l ≡ true → (k : ℕ) × (k < length fronts) × ((d : Front) → same_lun (get_or fronts k d).lun l ≡ true)
front_of l [] h = cc
front_of l (f ∷ fronts) h = at (or_cases (same_lun f.lun l) (has_front fronts l) h) (front_of l fronts)
  where
    at : (same_lun f.lun l ≡ true) ⊎ (has_front fronts l ≡ true) → (has_front fronts l ≡ true → (k : ℕ) × (k < length fronts) × ((d : Front) → same_lun (get_or fronts k d).lun l ≡ true)) → (k : ℕ) × (k < length (f ∷ fronts)) × ((d : Front) → same_lun (get_or (f ∷ fronts) k d).lun l ≡ true)
    at (inl e) rest = (0, omega arith, λ d. e)
    at (inr e) rest = let r = rest e in (suc r.0, (let low = r.1 in omega (arith, low)), r.2)

-- no front is left
pub found_none : (places : List (Option (QueuedJob Job))) (initial fronts : List Front) (from oldest at : ℕ) → IsFinding places initial from fronts oldest at → at ≡ length initial → NoOldest places from oldest
found_none places initial fronts from oldest at f all n x lo hi o =
    let r = front_of x.job.lun fronts (f.backlog.known n x o.here) in
    let d : Front = record { lun = record { ce = 0; lun = 0 }; place = 0 } in
    let low = r.1 in
    let size = f.size in
    f.none r.0 d (omega (arith, low, size, all)) n x lo hi o (r.2 d)

pub found_first : (places : List (Option (QueuedJob Job))) (initial fronts : List Front) (from oldest at : ℕ) → IsFinding places initial from fronts oldest at → at ≡ length initial → oldest < length places → IsFirstFrom places from oldest
found_first places initial fronts from oldest at f all inside =
    let j = f.first inside in
    record { low = f.low inside; inside = inside; job = j.0; oldest = j.1; none = found_none places initial fronts from oldest at f all }
