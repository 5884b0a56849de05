-- A legal trace of the base profile with its readies written, item by item: all that is known of its listing.
use Rattle.std.proofs.Common.{◌≡◌, ◌⊎◌, inl, inr, ℕ, zero, suc, ◌+◌, ◌≤◌, Bool, true, false, cond, List, [], ◌∷◌, ◌++◌, Option, Some, None, is_some, refl, sym, ap, ◌∙◌, subst, length, slice_set}
use Rattle.std.proofs.lemmas.Bool.{or_cases}
use Rattle.nand_geometry.specs.declared.parts.Parts.{Parts}
use Rattle.nand_geometry.specs.Optional.{no_optional}
use Rattle.onfi_cycle.specs.declared.item.Cycle.{Cycle as BusCycle}
use Rattle.onfi_cycle.specs.declared.item.Item.{Item}
use Rattle.onfi_cycle.specs.declared.item.Item.TheVariants.{Cyc}
use Rattle.onfi_cycle.specs.declared.lun.Lun.{Lun}
use Rattle.onfi_cycle.specs.declared.target_cycle.TargetCycle.{TargetCycle}
use Rattle.onfi_cycle.specs.Lun.{is_busy, is_array_busy}
use Rattle.onfi_cycle.specs.Permitted.{broken, is_legal}
use Rattle.onfi_cycle.specs.Sequence.{target_of}
use Rattle.onfi_cycle.specs.Working.{IsLun}
use Rattle.onfi_cycle.proofs.Keeping.{legal_more}
use Rattle.trace_faults.specs.declared.beginning.Beginning.TheVariants.{Start}
use Rattle.trace_faults.specs.declared.readies.Readies.TheVariants.{Written}
use Rattle.trace_faults.specs.declared.verdict.Verdict.{Verdict}
use Rattle.trace_faults.specs.Middle.{Seen, seen_after, first_seen_as}
use Rattle.trace_faults.proofs.Judged.{fresh_is_on}
use Rattle.trace_ops.specs.declared.judged.Judged.{Judged}
use Rattle.trace_ops.specs.AtWork.{IsLegalBase}
use Rattle.trace_ops.specs.Listing.{Listing, found, lun_place, looks_of, starts_on, begun_on, all_begun, with_new, with_ends, owner_in, mark_in, listed, judged_as, nothing_listed}
use Rattle.trace_ops.proofs.AtWork.{worker_in}
use Rattle.trace_ops.proofs.Cycles.{CycleAt}
use Rattle.trace_ops.proofs.Driven.{array_before}
use Rattle.trace_ops.proofs.Legal.{OnPast, is_said, on_past_on, permitted_as, busy_there, sees_of}
use Rattle.trace_ops.proofs.Pieces.{Stands, came_to, stands_on, nothing_stands}
use Rattle.trace_ops.proofs.Quietly.{selects_workers}
use Rattle.trace_ops.proofs.Walks.{came, within_listed, nobody_within}
use Rattle.trace_ops.proofs.Wholes.{start_knows_all}
use Rattle.trace_ops.proofs.Within.{AreWithin}
use Rattle.trace_ops.proofs.Works.{Worked, worked_on, nothing_worked}

-- ---- a LUN that has worked has a worker

some_set : (places : List (Option ℕ)) (a b k : ℕ) → is_some (found places b) ≡ true → is_some (found (slice_set places a (Some k)) b) ≡ true
some_set [] a b k h = h
some_set (x ∷ places) zero zero k h = refl
some_set (x ∷ places) zero (suc b) k h = h
some_set (x ∷ places) (suc a) zero k h = h
some_set (x ∷ places) (suc a) (suc b) k h = some_set places a b k h

-- a LUN whose array works has one
abbrev pub HasWorkers : Parts → ℕ → List Item → List (Option ℕ) → Type 0
HasWorkers g targets past workers = (l : Lun) → IsLun g targets l → is_array_busy g past l ≡ true → is_some (worker_in workers l.ce l.lun) ≡ true

-- none is taken away
abbrev Grows : (workers more : List (Option ℕ)) → Type 0
Grows workers more = (k : ℕ) → is_some (found workers k) ≡ true → is_some (found more k) ≡ true

begin_grows : (j : Judged) (k lun : ℕ) (l : Listing) → Grows l.places.workers (begun_on j k lun l).places.workers
begin_grows j k lun l m h = at (starts_on j lun k l.ops) _ _ (some_set l.places.workers (lun_place j.ce lun) m k h) h
  where
    at : (b : Bool) (x y : Listing) → is_some (found x.places.workers m) ≡ true → is_some (found y.places.workers m) ≡ true → is_some (found (cond b x y).places.workers m) ≡ true
    at true x y p q = p
    at false x y p q = q

begins_grow : (j : Judged) (k : ℕ) (l : Listing) → Grows l.places.workers (all_begun j k l).places.workers
begins_grow j k l m h =
    let one = begun_on j k 0 l in
    let two = begun_on j k 1 one in
    let three = begun_on j k 2 two in
    begin_grows j k 3 three m (begin_grows j k 2 two m (begin_grows j k 1 one m (begin_grows j k 0 l m h)))

pub new_workers : (owner : Option ℕ) (j : Judged) (l : Listing) → (with_new owner j l).places.workers ≡ l.places.workers
new_workers None j l = refl
new_workers (Some k) j l = refl

workers_grow : (j : Judged) (l : Listing) → Grows l.places.workers (listed j l).places.workers
workers_grow j l m h =
    let e = with_ends j l in
    let k = mark_in j e in
    ap (λ (ws : List (Option ℕ)). is_some (found ws m)) (selects_workers j k (all_begun j k (came j l)))
    ∙ begins_grow j k (came j l) m (ap (λ (ws : List (Option ℕ)). is_some (found ws m)) (new_workers (owner_in j e) j e) ∙ h)

-- ---- all that is known

pub record Walked (g : Parts) (targets n : ℕ) (seen : Seen) (past : List Item) (marks : List ℕ) (l : Listing) (pieces : ℕ → List TargetCycle) : Type 0 where
  pub few : targets ≤ 4
  pub luns : g.luns ≤ 4
  pub base : g.optional ≡ no_optional
  pub legal : is_legal g targets past ≡ true
  pub on : OnPast g targets seen past
  pub within : AreWithin (length l.ops) l.places
  pub stands : Stands past l pieces
  pub worked : Worked g targets n past marks l
  pub workers : HasWorkers g targets past l.places.workers

-- the item as it is judged
abbrev pub ItemAs : (one_lun : Bool) → Seen → ℕ → Item → (later : List Item) → Judged
ItemAs one_lun seen n i later = judged_as Written one_lun seen n (target_of i) i later

-- the same, as one that is permitted
abbrev pub ItemIs : (one_lun : Bool) → Seen → ℕ → Item → (later : List Item) → Judged
ItemIs one_lun seen n i later = permitted_as one_lun n i (looks_of seen.state.bus (target_of i)) (looks_of (seen_after Written seen i later).state.bus (target_of i))

module _ (g : Parts) (targets n : ℕ) (seen : Seen) (past : List Item) (marks : List ℕ) (l : Listing) (pieces : ℕ → List TargetCycle) (walked : Walked g targets n seen past marks l pieces) where
  -- what holds of a permitted item holds of the item as it is judged
  pub as_permitted : (P : Judged → Type 0) (one_lun : Bool) (i : Item) (later : List Item) → broken g targets past i ≡ None → P (ItemIs one_lun seen n i later) → P (ItemAs one_lun seen n i later)
  as_permitted P one_lun i later h p =
      subst (λ (v : Verdict). P (record {
        number = n;
        item = i;
        ce = target_of i;
        one_lun = one_lun;
        said = v;
        before = looks_of seen.state.bus (target_of i);
        after = looks_of (seen_after Written seen i later).state.bus (target_of i);
      })) (sym (is_said g targets seen past i later walked.on h)) p

  -- a cycle, and all that is known before it
  pub cycle_at : (c : BusCycle) (later : List Item) → broken g targets past (Cyc c) ≡ None →
      CycleAt g targets n past marks c (looks_of seen.state.bus c.ce) (looks_of (seen_after Written seen (Cyc c) later).state.bus c.ce) l pieces
  cycle_at c later h = record {
    few = walked.few;
    luns = walked.luns;
    base = walked.base;
    legal = walked.legal;
    permitted = h;
    sees = sees_of g targets seen.state.bus past c.ce walked.on.on.follows;
    saw = sees_of g targets (seen_after Written seen (Cyc c) later).state.bus (Cyc c ∷ past) c.ce (on_past_on g targets seen past (Cyc c) later walked.on h).on.follows;
    within = walked.within;
    stands = walked.stands;
    domestic = walked.worked.domestic;
    resting = walked.worked.resting;
    tells = walked.worked.tells;
    number = walked.worked.number;
    many = walked.worked.many;
    dated = walked.worked.dated;
  }

  -- a LUN that works has a worker
  pub busy_worker : (x : Lun) → IsLun g targets x → is_busy g past x ≡ true → is_some (worker_in l.places.workers x.ce x.lun) ≡ true
  busy_worker x is h =
      let working = walked.worked.tells.working x.ce x.lun (busy_there g targets past x.ce x.lun is.target is.lun ∙ h) in
      ap (λ (w : Option ℕ). is_some w) working.is

  keeps_workers : (j : Judged) (i : Item) → HasWorkers g targets (i ∷ past) (listed j l).places.workers
  keeps_workers j i x is h = workers_grow j l (lun_place x.ce x.lun) (at (or_cases (is_array_busy g past x) (is_busy g past x) (array_before g past i x h)))
    where
      at : (is_array_busy g past x ≡ true) ⊎ (is_busy g past x ≡ true) → is_some (worker_in l.places.workers x.ce x.lun) ≡ true
      at (inl array) = walked.workers x is array
      at (inr busy) = busy_worker x is busy

  pub walked_on : (one_lun : Bool) (i : Item) (later : List Item) → broken g targets past i ≡ None →
      Walked g targets (n + 1) (seen_after Written seen i later) (i ∷ past) (marks ++ (mark_in (ItemAs one_lun seen n i later) (with_ends (ItemAs one_lun seen n i later) l) ∷ []))
      (listed (ItemAs one_lun seen n i later) l) (came_to (mark_in (ItemAs one_lun seen n i later) (with_ends (ItemAs one_lun seen n i later) l)) i pieces)
  walked_on one_lun i later h = record {
    few = walked.few;
    luns = walked.luns;
    base = walked.base;
    legal = legal_more g targets past i walked.legal h;
    on = on_past_on g targets seen past i later walked.on h;
    within = within_listed (ItemAs one_lun seen n i later) l walked.within;
    stands = stands_on Written one_lun g targets walked.few seen n later past l pieces walked.stands walked.within i h;
    worked = worked_on g targets walked.few walked.luns walked.base one_lun n past marks l pieces walked.within walked.stands walked.worked walked.legal seen later walked.on i h;
    workers = keeps_workers (ItemAs one_lun seen n i later) i;
  }

-- ---- the beginning

pub nothing_walked : (g : Parts) (targets : ℕ) (items : List Item) → IsLegalBase g targets items → Walked g targets 0 (first_seen_as Start g targets items) [] [] nothing_listed (λ k. [])
nothing_walked g targets items is = record {
  few = is.few_targets;
  luns = is.few_luns;
  base = is.base;
  legal = refl;
  on = record { on = fresh_is_on g targets items; knows = start_knows_all };
  within = nobody_within;
  stands = nothing_stands;
  worked = nothing_worked g targets;
  workers = λ x there' h. cc;
}
