-- How the jobs of a backlog are tried in order, and the first that may be started is picked.
use Rattle.std.proofs.Common.{◌≡◌, ◌≢◌, ◌⊎◌, inl, inr, ℕ, ◌+◌, ◌<◌, ◌≤◌, Bool, true, false, cond, List, [], ◌∷◌, ◌++◌, Option, Some, None, refl, sym, ap, ◌∙◌, subst, arith, map, length, get_or, set}
use Rattle.std.proofs.lemmas.List.{append_assoc, append-nil, map-append}
use Rattle.std.proofs.lemmas.List.Elements.{Contains-append_left, Contains-push}
use Rattle.std.proofs.lemmas.Bool.{cases_lt}
use borrow.Author.Count.{below_more}
use Rattle.onfi_cycle.specs.Channel.{is_there}
use Rattle.micro_program.specs.Program.{Job}
use Rattle.seq_core.specs.declared.load_fault.LoadFault.TheVariants.{OtherLun}
use Rattle.seq_core.specs.World.{number}
use Rattle.seq_core.specs.Shows.{CoreView, channel_in}
use Rattle.seq_core.specs.Calls.{load_fault_at}
use Rattle.job_queue.specs.declared.rule.QueuedJob.{QueuedJob}
use Rattle.lun_lease.specs.declared.rule.Call.{Call}
use Rattle.lun_lease.specs.declared.rule.Call.TheVariants.{Given, Refused}
use Rattle.lun_lease.specs.Lease.{Seated, Leased}
use Rattle.channel_work.specs.declared.picks.TriedOnce.TheVariants.{Passed, Given as WasGiven}
use Rattle.channel_work.specs.declared.backlog.Front.{Front}
use Rattle.channel_work.specs.Rows.{somes}
use Rattle.channel_work.specs.Backlog.{IsBacklog, IsOldestAt, NoOldest, IsFirstFrom}
use Rattle.channel_work.specs.Starting.{IsPassedOver, IsTriedJob, WereTried, WereTriedBelow, MayStart, MayStartAt, NoneMayStart, Leaves}
use Rattle.channel_work.proofs.Waiting.{rank, rank_less, oldest_of, oldest_at, leaving}

pub same_job : (x y : QueuedJob Job) → Some x ≡ Some y → x ≡ y
same_job x y e = cc

pub number_is : (b : Bool) (m n : ℕ) → Some n ≡ cond b (Some m) None → (b ≡ true) × (n ≡ m)
number_is true m n e = (refl, inner)
  where
    inner : n ≡ m
    inner = cc
number_is false m n e = absurd (clash e)
  where
    clash : Some n ≡ None → ⊥
    clash h = cc

none_is : (b : Bool) (m : ℕ) → None ≡ cond b (Some m) None → b ≡ false
none_is true m e = absurd (clash e)
  where
    clash : None ≡ Some m → ⊥
    clash h = cc
none_is false m e = refl

-- a job of a LUN that isn't there isn't loaded
pub away_fault : (core : CoreView) (x : QueuedJob Job) → None ≡ cond (is_there (channel_in core) x.job.lun) (Some (number (channel_in core) x.job.lun)) None → load_fault_at core x.job.lun x.job ≢ None
away_fault core x none e = clash (rw (none_is (is_there (channel_in core) x.job.lun) (number (channel_in core) x.job.lun) none) at e)
  where
    clash : Some OtherLun ≡ None → ⊥
    clash h = cc

-- the jobs below a place were tried, and fronts have moved on
pub record IsTrying (core : CoreView) (places : List (Option (QueuedJob Job))) (seat back : Seated) (fronts : List Front) (from : ℕ) : Type 0 where
  pub backlog : IsBacklog places fronts
  pub inside : from ≤ length places
  pub same : back.table ≡ seat.table
  pub tried : WereTriedBelow core places from seat.calls back.calls

pub trying_first : (core : CoreView) (places : List (Option (QueuedJob Job))) (seat : Seated) (fronts : List Front) → IsBacklog places fronts → IsTrying core places seat seat fronts 0
trying_first core places seat fronts h =
    record { backlog = h; inside = omega arith; same = refl; tried = record { refused = []; calls = sym (append-nil seat.calls); passed = λ n x low o. absurd (omega (arith, low)) } }

-- no oldest job stands between
pub tried_upto : (core : CoreView) (places : List (Option (QueuedJob Job))) (from n : ℕ) (before later : List Call) → WereTriedBelow core places from before later → NoOldest places from n → WereTriedBelow core places n before later
tried_upto core places from n before later t none =
    record { refused = t.refused; calls = t.calls; passed = λ j x low o. at j x low o (cases_lt j from) }
  where
    at : (j : ℕ) (x : QueuedJob Job) → j < n → IsOldestAt places j x → (j < from) ⊎ (from ≤ j) → IsPassedOver core t.refused x
    at j x low o (inl below) = t.passed j x below o
    at j x low o (inr above) = absurd (none j x above low o)

-- one job more was tried
tried_more : (core : CoreView) (places : List (Option (QueuedJob Job))) (n : ℕ) (before mid later : List Call) (extra : List ℕ) (x : QueuedJob Job) → (t : WereTriedBelow core places n before mid) → later ≡ mid ++ map Refused extra
    → get_or places n None ≡ Some x → IsPassedOver core (t.refused ++ extra) x → WereTriedBelow core places (n + 1) before later
tried_more core places n before mid later extra x t later_is x_is here =
    let R = t.refused ++ extra in
    record {
      refused = R;
      calls = later_is ∙ (ap (λ (cs : List Call). cs ++ map Refused extra) t.calls ∙ (append_assoc before (map Refused t.refused) (map Refused extra) ∙ ap (λ (cs : List Call). before ++ cs) (sym (map-append Refused t.refused extra))));
      passed = λ j y low o. below_more (λ (i : ℕ). (z : QueuedJob Job) → IsOldestAt places i z → IsPassedOver core R z) n (λ i lower z oz. wider z (t.passed i z lower oz))
          (λ z oz. subst (IsPassedOver core R) (same_job x z (sym x_is ∙ oz.here)) here) j low y o;
    }
  where
    wider : (y : QueuedJob Job) → IsPassedOver core t.refused y → IsPassedOver core (t.refused ++ extra) y
    wider y (inl e) = inl e
    wider y (inr c) = inr (Contains-append_left t.refused extra (number (channel_in core) y.job.lun) c)

-- the oldest job from a place on was passed over
pub trying_more : (core : CoreView) (places : List (Option (QueuedJob Job))) (seat back again : Seated) (fronts later : List Front) (from n : ℕ) → IsTrying core places seat back fronts from → IsBacklog places later → (f : IsFirstFrom places from n)
    → IsTriedJob core f.job back (Passed again) → IsTrying core places seat again later (n + 1)
trying_more core places seat back again fronts later from n t h f told =
    let inside = f.inside in
    record { backlog = h; inside = omega (arith, inside); same = same_table told; tried = tried told }
  where
    upto : WereTriedBelow core places n seat.calls back.calls
    upto = tried_upto core places from n seat.calls back.calls t.tried f.none

    same_table : IsTriedJob core f.job back (Passed again) → again.table ≡ seat.table
    same_table (inl e) = ap (λ (q : Seated). q.table) e.1 ∙ t.same
    same_table (inr e) = ap (λ (q : Seated). q.table) e ∙ t.same

    tried : IsTriedJob core f.job back (Passed again) → WereTriedBelow core places (n + 1) seat.calls again.calls
    tried (inl e) = tried_more core places n seat.calls back.calls again.calls [] f.job upto (ap (λ (q : Seated). q.calls) e.1 ∙ sym (append-nil back.calls)) f.oldest.here (inl e.0)
    tried (inr e) = tried_more core places n seat.calls back.calls again.calls (number (channel_in core) f.job.job.lun ∷ []) f.job upto (ap (λ (q : Seated). q.calls) e) f.oldest.here (inr (Contains-push upto.refused (number (channel_in core) f.job.job.lun)))

-- the oldest job from a place on may be started
pub given_at : (core : CoreView) (places : List (Option (QueuedJob Job))) (seat back : Seated) (fronts : List Front) (from n : ℕ) (lease : Leased) → IsTrying core places seat back fronts from → (f : IsFirstFrom places from n)
    → IsTriedJob core f.job back (WasGiven lease) → (x : QueuedJob Job) × MayStartAt core places seat n x lease
given_at core places seat back fronts from n lease t f told = (
  f.job,
  record {
    inside = f.inside;
    oldest = f.oldest;
    admitted = told.0;
    calls = back.calls;
    tried = tried_upto core places from n seat.calls back.calls t.tried f.none;
    lease_is = told.1 ∙ ap (λ k. let q : Leased = record { table = k; lun = number (channel_in core) f.job.job.lun; calls = back.calls ++ (Given (number (channel_in core) f.job.job.lun) ∷ []) } in q) t.same;
  },
)

-- what was tried by places was tried of what waits
were_tried : (core : CoreView) (places : List (Option (QueuedJob Job))) (n k : ℕ) (before later : List Call) → WereTriedBelow core places n before later → ((m : ℕ) → m < length places → rank places m < k → m < n) → WereTried core (somes places) k before later
were_tried core places n k before later t below =
    record {
      refused = t.refused;
      calls = t.calls;
      passed = λ j x low o. let a = oldest_at places j x o in t.passed a.0 x (below a.0 a.2 (let same = a.3 in omega (arith, same, low))) a.1;
    }

pub picked : (core : CoreView) (places : List (Option (QueuedJob Job))) (seat : Seated) (n : ℕ) (x q : QueuedJob Job) (lease : Leased) → MayStartAt core places seat n x lease → Some q ≡ get_or places n None
    → (k : ℕ) × MayStart core (somes places) seat k q lease × Leaves (somes places) q (somes (set places n None))
picked core places seat n x q lease m q_is =
    subst (λ (y : QueuedJob Job). (k : ℕ) × MayStart core (somes places) seat k y lease × Leaves (somes places) y (somes (set places n None))) (sym (same_job q x (q_is ∙ m.oldest.here))) (
      rank places n,
      record {
        oldest = oldest_of places n x m.oldest;
        admitted = m.admitted;
        calls = m.calls;
        tried = were_tried core places n (rank places n) seat.calls m.calls m.tried (λ i inside low. rank_less places i n low);
        lease_is = m.lease_is;
      },
      leaving places n x m.oldest,
    )

pub none_picked : (core : CoreView) (places : List (Option (QueuedJob Job))) (seat back : Seated) → (back.table ≡ seat.table) × WereTriedBelow core places (length places) seat.calls back.calls → NoneMayStart core (somes places) seat back
none_picked core places seat back h =
    record { same = h.0; tried = were_tried core places (length places) (length (somes places)) seat.calls back.calls h.1 (λ i inside low. inside) }

-- a place whose job may be started isn't empty
pub not_empty : (core : CoreView) (places : List (Option (QueuedJob Job))) (seat : Seated) (n : ℕ) (x : QueuedJob Job) (lease : Leased) → MayStartAt core places seat n x lease → None ≡ get_or places n None → ⊥
not_empty core places seat n x lease m none = clash (none ∙ m.oldest.here)
  where
    clash : None ≡ Some x → ⊥
    clash h = cc
