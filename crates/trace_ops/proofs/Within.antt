-- The operations that are kept as the newest, the workers, the givers and the askers are in the list.
use Rattle.std.proofs.Common.{ℕ, zero, suc, ◌<◌, ◌≤◌, Bool, true, false, ◌||◌, not, cond, List, [], ◌∷◌, Option, Some, None, arith, slice_set}
use Rattle.std.specs.List.{All}
use Rattle.std.proofs.lemmas.List.Elements.{All-head, All-tail, All-set, All-weaker}
use Rattle.onfi_cycle.specs.declared.item.Cycle.{Cycle as BusCycle}
use Rattle.onfi_cycle.specs.declared.item.Item.{Item}
use Rattle.onfi_cycle.specs.declared.item.Item.TheVariants.{Cyc, Rdy, Ard}
use Rattle.onfi_cycle.specs.declared.item.Kind.{Kind}
use Rattle.onfi_cycle.specs.declared.item.Kind.TheVariants.{Cmd, Adr, Din, Dout}
use Rattle.onfi_cycle.specs.declared.latch.Latch.{Latch}
use Rattle.onfi_cycle.specs.declared.latch.Latch.TheVariants.{Off, Status, Data}
use Rattle.trace_ops.specs.declared.judged.Judged.{Judged}
use Rattle.trace_ops.specs.declared.operation.Operation.{Operation}
use Rattle.trace_ops.specs.declared.places.Places.{Places}
use Rattle.trace_ops.specs.declared.role.Role.{Role}
use Rattle.trace_ops.specs.declared.role.Role.TheVariants as role
use Rattle.trace_ops.specs.Operation.{is_permitted}
use Rattle.trace_ops.specs.Listing.{Listing, found, worker, op_of, either_of, lun_place, begins_one, keeps_outputs, owner_on, owner_by, cycle_owner, is_waiting, ready_owner, owner_of, latch_of, look_at, driver_of, newest_with, starts_on, begun_on, all_begun, selected_by, selected_on, all_selected, role_by}

abbrev pub Within : ℕ → Option ℕ → Type 0
Within n None = Unit {0}
Within n (Some k) = k < n

pub record AreWithin (n : ℕ) (p : Places) : Type 0 where
  pub newest : All (Within n) p.newest
  pub workers : All (Within n) p.workers
  pub givers : All (Within n) p.givers
  pub askers : All (Within n) p.askers

more : (n m : ℕ) → n ≤ m → (o : Option ℕ) → Within n o → Within m o
more n m le None h = tt
more n m le (Some k) h = omega (arith, le, h)

pub within_more : (n m : ℕ) (p : Places) → n ≤ m → AreWithin n p → AreWithin m p
within_more n m p le w = record {
  newest = All-weaker (Within n) (Within m) (more n m le) p.newest w.newest;
  workers = All-weaker (Within n) (Within m) (more n m le) p.workers w.workers;
  givers = All-weaker (Within n) (Within m) (more n m le) p.givers w.givers;
  askers = All-weaker (Within n) (Within m) (more n m le) p.askers w.askers;
}

within_found : (n : ℕ) (places : List (Option ℕ)) (k : ℕ) → All (Within n) places → Within n (found places k)
within_found n [] k h = tt
within_found n (o ∷ places) zero h = All-head (Within n) o places h
within_found n (o ∷ places) (suc k) h = within_found n places k (All-tail (Within n) o places h)

if_within : (n : ℕ) (b : Bool) (x y : Option ℕ) → Within n x → Within n y → Within n (cond b x y)
if_within n true x y p q = p
if_within n false x y p q = q

either_within : (n : ℕ) (x y : Option ℕ) → Within n x → Within n y → Within n (either_of x y)
either_within n None y p q = q
either_within n (Some k) y p q = p

on_within : (n : ℕ) (p : Places) (ce lun : ℕ) (l : Latch) → AreWithin n p → Within n (owner_on p ce lun l)
on_within n p ce lun Off w = tt
on_within n p ce lun Status w = within_found n p.askers (lun_place ce lun) w.askers
on_within n p ce lun Data w = within_found n p.givers (lun_place ce lun) w.givers

by_within : (n : ℕ) (p : Places) (j : Judged) (driver : Option ℕ) → AreWithin n p → Within n (owner_by p j driver)
by_within n p j None w = tt
by_within n p j (Some lun) w = on_within n p j.ce lun (latch_of (look_at j.before lun)) w

kind_within : (n : ℕ) (ops : List Operation) (p : Places) (j : Judged) (c : BusCycle) (kind : Kind) → AreWithin n p → Within n (cycle_owner ops p j c kind)
kind_within n ops p j c Cmd w = if_within n (begins_one (op_of ops (found p.newest j.ce)) c.byte) None _ tt (within_found n p.newest j.ce w.newest)
kind_within n ops p j c Adr w = within_found n p.newest j.ce w.newest
kind_within n ops p j c Din w = within_found n p.newest j.ce w.newest
kind_within n ops p j c Dout w =
    let newest = within_found n p.newest j.ce w.newest in
    if_within n (keeps_outputs ops (found p.newest j.ce) || not (is_permitted j.said)) _ _ newest
    (either_within n (owner_by p j (driver_of j.before)) (found p.newest j.ce) (by_within n p j (driver_of j.before) w) newest)

ready_within : (n : ℕ) (ops : List Operation) (p : Places) (j : Judged) (lun : ℕ) → AreWithin n p → Within n (ready_owner ops p j lun)
ready_within n ops p j lun w =
    if_within n (is_permitted j.said || is_waiting (op_of ops (worker p j.ce lun))) _ None (within_found n p.workers (lun_place j.ce lun) w.workers) tt

pub owner_within : (n : ℕ) (ops : List Operation) (p : Places) (j : Judged) (i : Item) → AreWithin n p → Within n (owner_of ops p j i)
owner_within n ops p j (Cyc c) w = kind_within n ops p j c c.kind w
owner_within n ops p j (Rdy ce lun fail) w = ready_within n ops p j lun w
owner_within n ops p j (Ard ce lun fail) w = ready_within n ops p j lun w

-- ---- what an item makes of them

pub newest_within : (n k ce : ℕ) (i : Item) (newest : List (Option ℕ)) → k < n → All (Within n) newest → All (Within n) (newest_with i ce k newest)
newest_within n k ce (Cyc c) newest lt h = All-set (Within n) newest ce (Some k) lt h
newest_within n k ce (Rdy ce' lun fail) newest lt h = h
newest_within n k ce (Ard ce' lun fail) newest lt h = h

begin_within : (n k : ℕ) (j : Judged) (lun : ℕ) (l : Listing) → k < n → AreWithin n l.places → AreWithin n (begun_on j k lun l).places
begin_within n k j lun l lt w = at (starts_on j lun k l.ops) _
  where
    at : (b : Bool) (ops : List Operation) →
        AreWithin n (cond b (record { places = record l.places { workers = slice_set l.places.workers (lun_place j.ce lun) (Some k) }; ops = ops }) l).places
    at true ops = record { newest = w.newest; workers = All-set (Within n) l.places.workers (lun_place j.ce lun) (Some k) lt w.workers; givers = w.givers; askers = w.askers }
    at false ops = w

pub begins_within : (n k : ℕ) (j : Judged) (l : Listing) → k < n → AreWithin n l.places → AreWithin n (all_begun j k l).places
begins_within n k j l lt w = begin_within n k j 3 _ lt (begin_within n k j 2 _ lt (begin_within n k j 1 _ lt (begin_within n k j 0 l lt w)))

role_within : (n k : ℕ) (j : Judged) (lun : ℕ) (r : Role) (l : Listing) → k < n → AreWithin n l.places → AreWithin n (selected_by r j k lun l).places
role_within n k j lun role.Nothing l lt w = w
role_within n k j lun role.Asks l lt w =
    record { newest = w.newest; workers = w.workers; givers = w.givers; askers = All-set (Within n) l.places.askers (lun_place j.ce lun) (Some k) lt w.askers }
role_within n k j lun role.Gives l lt w =
    record { newest = w.newest; workers = w.workers; givers = All-set (Within n) l.places.givers (lun_place j.ce lun) (Some k) lt w.givers; askers = w.askers }
role_within n k j lun role.Holds l lt w =
    record { newest = w.newest; workers = w.workers; givers = All-set (Within n) l.places.givers (lun_place j.ce lun) (Some k) lt w.givers; askers = w.askers }
role_within n k j lun role.Returns l lt w = w

select_within : (n k : ℕ) (j : Judged) (lun : ℕ) (l : Listing) → k < n → AreWithin n l.places → AreWithin n (selected_on j k lun l).places
select_within n k j lun l lt w = role_within n k j lun (role_by j (op_of l.ops (Some k)) j.item lun) l lt w

pub selects_within : (n k : ℕ) (j : Judged) (l : Listing) → k < n → AreWithin n l.places → AreWithin n (all_selected j k l).places
selects_within n k j l lt w = select_within n k j 3 _ lt (select_within n k j 2 _ lt (select_within n k j 1 _ lt (select_within n k j 0 l lt w)))
