-- In a legal trace of the base profile the worker of a LUN began its last work, item by item.
use Rattle.std.proofs.Common.{◌≡◌, ℕ, ◌≤◌, Bool, true, false, List, Option, Some, None, refl, sym, subst, arith}
use Rattle.std.specs.Prelude.{slice_get}
use Rattle.nand_geometry.specs.declared.parts.Parts.{Parts}
use Rattle.onfi_cycle.specs.declared.item.Cycle.{Cycle as BusCycle}
use Rattle.onfi_cycle.specs.declared.item.Item.{Item}
use Rattle.onfi_cycle.specs.declared.item.Item.TheVariants.{Cyc, Rdy, Ard}
use Rattle.onfi_cycle.specs.declared.target_cycle.TargetCycle.{TargetCycle}
use Rattle.onfi_cycle.specs.Permitted.{broken}
use Rattle.trace_faults.specs.Middle.{Seen}
use Rattle.trace_ops.specs.declared.judged.Judged.{Judged}
use Rattle.trace_ops.specs.declared.looks.Looks.{Looks}
use Rattle.trace_ops.specs.declared.operation.Operation.{Operation}
use Rattle.trace_ops.specs.Operation.{is_output}
use Rattle.trace_ops.specs.Listing.{Listing, found, op_of, with_new, all_begun, with_ends, owner_in, mark_in, listed}
use Rattle.trace_ops.proofs.Cycles.{CycleAt, same_ops, output_is, new_start, came_like, dated_here, mine_came, tells_here, begins_nothing, all_like, target_few}
use Rattle.trace_ops.proofs.Dated.{begun_early}
use Rattle.trace_ops.proofs.Domestic.{Every, Domestic}
use Rattle.trace_ops.proofs.Latest.{AreLatest, Beginning, latest_alike, latest_ends, latest_new, latest_begins}
use Rattle.trace_ops.proofs.Legal.{permitted_as, output_begins}
use Rattle.trace_ops.proofs.Quietly.{selects_workers}
use Rattle.trace_ops.proofs.Readies.{IsReady, more_alike, workers_after, ready_is, array_ready_is}
use Rattle.trace_ops.proofs.Walked.{new_workers, Walked, ItemAs, ItemIs, as_permitted, cycle_at}
use Rattle.trace_ops.proofs.Walks.{came}

abbrev pub LatestAfter : Listing → Judged → Type 0
LatestAfter l j = AreLatest (listed j l).places.workers (listed j l).ops

-- ---- a cycle

module _ (g : Parts) (targets n : ℕ) (one_lun : Bool) (past : List Item) (marks : List ℕ) (c : BusCycle) (before after : Looks) (l : Listing) (pieces : ℕ → List TargetCycle)
    (here : CycleAt g targets n past marks c before after l pieces) (latest : AreLatest l.places.workers l.ops) where
  abbrev j : Judged
  j = permitted_as one_lun n (Cyc c) before after

  abbrev owner : Option ℕ
  owner = owner_in j (with_ends j l)

  abbrev mark : ℕ
  mark = mark_in j (with_ends j l)

  abbrev began : Listing
  began = all_begun j mark (came j l)

  latest_ended : AreLatest l.places.workers (with_ends j l).ops
  latest_ended = subst (λ (ops : List Operation). AreLatest l.places.workers ops) (sym (same_ops g targets n one_lun past marks c before after l pieces here)) latest

  latest_more : (x : Option ℕ) → AreLatest l.places.workers (with_new x j (with_ends j l)).ops
  latest_more (Some m) = latest_ended
  latest_more None =
      latest_new l.places.workers (with_ends j l).ops _ (new_start g targets n one_lun past marks c before after l pieces here c.kind (op_of (with_ends j l).ops (found l.places.newest c.ce))) latest_ended

  latest_came : AreLatest (came j l).places.workers (came j l).ops
  latest_came =
      subst (λ (ws : List (Option ℕ)). AreLatest ws (came j l).ops) (sym (new_workers owner j (with_ends j l)))
      (latest_alike l.places.workers (with_new owner j (with_ends j l)).ops (came j l).ops (came_like g targets n one_lun past marks c before after l pieces here) (latest_more owner))

  bounded : (m : ℕ) (o : Operation) (s : ℕ) → slice_get (came j l).ops m ≡ Some o → o.start ≡ Some s → s ≤ n
  bounded m o s is h =
      let begins = (dated_here g targets n one_lun past marks c before after l pieces here).only m o s is h in
      let early = begun_early g past s begins.lun begins.begins in
      let number = here.number in
      omega (arith, early, number)

  beginning : is_output c.kind ≡ false → Beginning c.ce mark n (came j l).places.workers (came j l).ops
  beginning input = record {
    latest = latest_came;
    bounded = bounded;
    on = λ o is. (mine_came g targets n one_lun past marks c before after l pieces here input o is).0;
    long = (tells_here g targets n one_lun past marks c before after l pieces here).long;
  }

  latest_began : AreLatest began.places.workers began.ops
  latest_began = at (is_output c.kind) refl
    where
      at : (b : Bool) → is_output c.kind ≡ b → AreLatest began.places.workers began.ops
      at true e =
          subst (λ (x : Listing). AreLatest x.places.workers x.ops)
          (sym (begins_nothing g targets n one_lun past marks c before after l pieces here (λ lun low. output_begins g targets past c before after here.sees here.saw lun low (output_is c.kind e)))) latest_came
      at false e = (latest_begins j mark (came j l) (target_few g targets n one_lun past marks c before after l pieces here) (beginning e)).latest

  pub latest_cycle : LatestAfter l j
  latest_cycle =
      subst (λ (ws : List (Option ℕ)). AreLatest ws (listed j l).ops) (sym (selects_workers j mark began))
      (latest_alike began.places.workers began.ops (listed j l).ops (all_like g targets n one_lun past marks c before after l pieces here) latest_began)

-- ---- a ready

module _ (j : Judged) (l : Listing) (ready : IsReady j) (known : Every (λ k. Domestic) l.ops) (latest : AreLatest l.places.workers l.ops) where
  latest_with : (x : Option ℕ) → AreLatest l.places.workers (with_new x j (with_ends j l)).ops
  latest_with (Some m) = latest_ends j l.places l.ops latest
  latest_with None = latest_new l.places.workers (with_ends j l).ops _ (ready.start (op_of (with_ends j l).ops (found l.places.newest j.ce))) (latest_ends j l.places l.ops latest)

  pub latest_ready : LatestAfter l j
  latest_ready =
      subst (λ (ws : List (Option ℕ)). AreLatest ws (listed j l).ops) (sym (workers_after j l ready))
      (latest_alike l.places.workers (with_new (owner_in j (with_ends j l)) j (with_ends j l)).ops (listed j l).ops (more_alike j l ready known) (latest_with (owner_in j (with_ends j l))))

-- ---- any item

module _ (g : Parts) (targets n : ℕ) (seen : Seen) (past : List Item) (marks : List ℕ) (l : Listing) (pieces : ℕ → List TargetCycle) (walked : Walked g targets n seen past marks l pieces)
    (latest : AreLatest l.places.workers l.ops) where
  latest_by : (one_lun : Bool) (i : Item) (later : List Item) → broken g targets past i ≡ None → LatestAfter l (ItemIs one_lun seen n i later)
  latest_by one_lun (Cyc c) later h = latest_cycle g targets n one_lun past marks c _ _ l pieces (cycle_at g targets n seen past marks l pieces walked c later h) latest
  latest_by one_lun (Rdy ce lun fail) later h = latest_ready (ItemIs one_lun seen n (Rdy ce lun fail) later) l (ready_is one_lun n ce lun fail _ _) walked.worked.domestic latest
  latest_by one_lun (Ard ce lun fail) later h = latest_ready (ItemIs one_lun seen n (Ard ce lun fail) later) l (array_ready_is one_lun n ce lun fail _ _) walked.worked.domestic latest

  pub latest_item : (one_lun : Bool) (i : Item) (later : List Item) → broken g targets past i ≡ None → LatestAfter l (ItemAs one_lun seen n i later)
  latest_item one_lun i later h = as_permitted g targets n seen past marks l pieces walked (LatestAfter l) one_lun i later h (latest_by one_lun i later h)
