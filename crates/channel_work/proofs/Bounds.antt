-- No count passes the number of items.
use Rattle.std.proofs.Common.{◌≡◌, ℕ, ◌+◌, ◌<◌, ◌≤◌, ◌==◌, ◌&&◌, not, Bool, true, false, cond, List, [], ◌∷◌, sym, subst, arith, reverse, take, length}
use Rattle.std.proofs.lemmas.List.{length-reverse, length-take}
use Rattle.onfi_cycle.specs.declared.lun.Lun.{Lun}
use Rattle.onfi_cycle.specs.declared.item.Item.{Item}
use Rattle.onfi_cycle.specs.declared.item.Item.TheVariants.{Cyc, Rdy, Ard}
use Rattle.onfi_cycle.specs.declared.item.Kind.{Kind}
use Rattle.onfi_cycle.specs.declared.item.Kind.TheVariants.{Cmd, Adr, Din, Dout}
use Rattle.micro_program.specs.Program.{is_ready_status}
use Rattle.channel_work.specs.declared.tally.LunCount.{LunCount}
use Rattle.channel_work.specs.Counts.{stands_after, poll_length, polls_after, count_after, count_in}

-- the counts are at most so many
pub record IsFew (k : LunCount) (n : ℕ) : Type 0 where
  pub polls : k.polls ≤ n
  pub works : k.works ≤ n

few_polls : (many : Bool) (stands polls byte : ℕ) (kind : Kind) → polls_after many stands polls kind byte ≤ polls + 1
few_polls many stands polls byte Cmd = omega arith
few_polls many stands polls byte Adr = omega arith
few_polls many stands polls byte Din = omega arith
few_polls many stands polls byte Dout = at (stands == poll_length many && not (is_ready_status byte))
  where
    at : (b : Bool) → cond b (polls + 1) polls ≤ polls + 1
    at true = omega arith
    at false = omega arith

few_more : (many : Bool) (row : List ℕ) (l : Lun) (k : LunCount) (i : Item) (n : ℕ) → IsFew k n → IsFew (count_after many row l k i) (n + 1)
few_more many row l k (Ard ce lun fail) n h = let p = h.polls in let w = h.works in record { polls = omega (arith, p); works = omega (arith, w) }
few_more many row l k (Rdy ce lun fail) n h = at (ce == l.ce && lun == l.lun)
  where
    at : (b : Bool) → IsFew (cond b (record { stands = k.stands; polls = 0; works = k.works + 1 }) k) (n + 1)
    at true = let w = h.works in record { polls = omega arith; works = omega (arith, w) }
    at false = let p = h.polls in let w = h.works in record { polls = omega (arith, p); works = omega (arith, w) }
few_more many row l k (Cyc c) n h = at (c.ce == l.ce)
  where
    at : (b : Bool) → IsFew (cond b (record { stands = stands_after many row k.stands c.kind c.byte; polls = polls_after many k.stands k.polls c.kind c.byte; works = k.works }) k) (n + 1)
    at true = let p = h.polls in let w = h.works in let f = few_polls many k.stands k.polls c.byte c.kind in record { polls = omega (arith, p, f); works = omega (arith, w) }
    at false = let p = h.polls in let w = h.works in record { polls = omega (arith, p); works = omega (arith, w) }

pub few_counts : (many : Bool) (row : List ℕ) (l : Lun) (past : List Item) → IsFew (count_in many row l past) (length past)
few_counts many row l [] = record { polls = omega arith; works = omega arith }
few_counts many row l (i ∷ past) =
    let f = few_more many row l (count_in many row l past) i (length past) (few_counts many row l past) in
    let p = f.polls in
    let w = f.works in
    record { polls = omega (arith, p); works = omega (arith, w) }

pub few_at : (many : Bool) (row : List ℕ) (l : Lun) (trace : List Item) (k : ℕ) (count : LunCount) → count ≡ count_in many row l (reverse (take k trace)) → k < length trace → length trace < 18446744073709551616 → IsFew count 18446744073709551614
few_at many row l trace k count is low fits =
    let f = few_counts many row l (reverse (take k trace)) in
    let size : length (reverse (take k trace)) ≤ k = simp (length-reverse, length-take) (omega arith) in
    let p = f.polls in
    let w = f.works in
    subst (λ (c : LunCount). IsFew c 18446744073709551614) (sym is) (record { polls = omega (arith, p, size, low, fits); works = omega (arith, w, size, low, fits) })
