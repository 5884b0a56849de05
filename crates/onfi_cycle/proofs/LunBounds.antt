-- What an effect that keeps what fits leaves of a LUN.
use Rattle.std.proofs.Common.{◌≡◌, ℕ, zero, suc, ◌+◌, ◌%◌, ◌^◌, ◌<◌, ◌≤◌, ◌==◌, Bool, true, false, ◌||◌, cond, not, List, [], ◌∷◌, Some, None, refl, arith, length, take, ◌++◌}
use Rattle.std.proofs.lemmas.Bool.Decides.{nat_tests}
use Rattle.std.proofs.lemmas.Bool.{or_parts as either}
use Rattle.nand_geometry.specs.declared.parts.Parts.{Parts}
use Rattle.nand_geometry.specs.Limits.{InLimits, planes}
use Rattle.nand_geometry.specs.Optional.{has_plane_reads}
use Rattle.onfi_cycle.specs.declared.page_address.PageAddress.{PageAddress}
use Rattle.onfi_cycle.specs.declared.queued.Queued.{Queued}
use Rattle.onfi_cycle.specs.declared.queued.Queued.TheVariants.{Erase, Program, Read as QueuedRead}
use Rattle.onfi_cycle.specs.declared.effect.Effect.{Effect}
use Rattle.onfi_cycle.specs.declared.effect.Effect.TheVariants.{Unaffected, DataOutputEnabled, StatusSelected, StatusRowAwaited, SelectedForStatus, Deselected, ReadStarted, EraseStarted, ProgramStarted, IdRead, IdentityRead, UniqueIdReadStarted, FeaturesReadStarted, FeaturesSet, ParameterPageReadStarted, CacheReadContinued, CacheReadEnded, ReadColumnChanged, DataOutput, ResetStarted, TargetResetStarted, StatusOfSelected, AnotherAddressed, BecameReady, ArrayBecameReady, PlaneSelected, ReadQueued, CopybackReadStarted, ProgramAddressed, CacheProgramStarted}
use Rattle.onfi_cycle.specs.LunView.{LunView}
use Rattle.onfi_cycle.specs.Lun.{view_after, pages_of_reads, held_on, is_copyback_read}
use Rattle.onfi_cycle.specs.Rules.{planes_clash, blocks_clash, queued_clashes, some_queued_clashes, read_clashes, some_read_clashes}
use Rattle.onfi_cycle.specs.Bounds.{plane_of, is_in_use, room_in, rooms, LunFits, EffectFits}

first_of : (a b c : Bool) → (a || b || c) ≡ false → a ≡ false
first_of true b c h = cc
first_of false b c h = refl

other_plane : (g : Parts) (erase : Bool) (p : PageAddress) (q : Queued) → queued_clashes g erase p q ≡ false → (plane_of g q == p.block % planes g) ≡ false
other_plane g erase p (Erase q) h = turned (first_of (p.block % planes g == q.block % planes g) (not (p.page == q.page)) (blocks_clash g p q) (either (not erase) (planes_clash g p q) h).1)
  where
    turned : (p.block % planes g == q.block % planes g) ≡ false → (q.block % planes g == p.block % planes g) ≡ false
    turned h = grind (arith, nat_tests)
other_plane g erase p (Program q) h = turned (first_of (p.block % planes g == q.block % planes g) (not (p.page == q.page)) (blocks_clash g p q) (either erase (planes_clash g p q) h).1)
  where
    turned : (p.block % planes g == q.block % planes g) ≡ false → (q.block % planes g == p.block % planes g) ≡ false
    turned h = grind (arith, nat_tests)
other_plane g erase p (QueuedRead q) h = cc

-- the same of a read
read_plane : (g : Parts) (p : PageAddress) (q : Queued) → read_clashes g p q ≡ false → (plane_of g q == p.block % planes g) ≡ false
read_plane g p (QueuedRead q) h = turned (first_of (p.block % planes g == q.block % planes g) (not (p.page == q.page)) (blocks_clash g p q) (either (not (has_plane_reads g.optional)) (planes_clash g p q) h).1)
  where
    turned : (p.block % planes g == q.block % planes g) ≡ false → (q.block % planes g == p.block % planes g) ≡ false
    turned h = grind (arith, nat_tests)
read_plane g p (Erase q) h = cc
read_plane g p (Program q) h = cc

read_not_in_use : (g : Parts) (p : PageAddress) (queue : List Queued) → some_read_clashes g p queue ≡ false → is_in_use g (p.block % planes g) queue ≡ false
read_not_in_use g p [] h = refl
read_not_in_use g p (q ∷ queue) h =
    let parts = either (read_clashes g p q) _ h in
    rw (read_plane g p q parts.0, read_not_in_use g p queue parts.1) refl

not_in_use : (g : Parts) (erase : Bool) (p : PageAddress) (queue : List Queued) → some_queued_clashes g erase p queue ≡ false → is_in_use g (p.block % planes g) queue ≡ false
not_in_use g erase p [] h = refl
not_in_use g erase p (q ∷ queue) h =
    let parts = either (queued_clashes g erase p q) _ h in
    rw (other_plane g erase p q parts.0, not_in_use g erase p queue parts.1) refl

-- one row more takes no room of another plane, and the room of its own
room_or_less : (g : Parts) (k : ℕ) (q : Queued) (queue : List Queued) → room_in g k (q ∷ queue) ≤ room_in g k queue
room_or_less g k q queue = at (plane_of g q == k) (is_in_use g k queue)
  where
    at : (b c : Bool) → cond (b || c) 0 1 ≤ cond c 0 1
    at true true = omega arith
    at true false = omega arith
    at false c = omega arith

room_taken : (g : Parts) (k : ℕ) (q : Queued) (queue : List Queued) → plane_of g q ≡ k → is_in_use g k queue ≡ false → room_in g k (q ∷ queue) + 1 ≡ room_in g k queue
room_taken g k q queue is free = let same : (plane_of g q == k) ≡ true = grind (arith, nat_tests) in rw (same, free) refl

-- one row more takes a room
rooms_taken : (g : Parts) (k : ℕ) (q : Queued) (queue : List Queued) → plane_of g q ≡ k → k < 4 → is_in_use g k queue ≡ false → rooms g (q ∷ queue) + 1 ≤ rooms g queue
rooms_taken g zero q queue is low free =
    let taken = room_taken g 0 q queue is free in let b = room_or_less g 1 q queue in let c = room_or_less g 2 q queue in let d = room_or_less g 3 q queue in omega arith
rooms_taken g (suc zero) q queue is low free =
    let taken = room_taken g 1 q queue is free in let a = room_or_less g 0 q queue in let c = room_or_less g 2 q queue in let d = room_or_less g 3 q queue in omega arith
rooms_taken g (suc (suc zero)) q queue is low free =
    let taken = room_taken g 2 q queue is free in let a = room_or_less g 0 q queue in let b = room_or_less g 1 q queue in let d = room_or_less g 3 q queue in omega arith
rooms_taken g (suc (suc (suc zero))) q queue is low free =
    let taken = room_taken g 3 q queue is free in let a = room_or_less g 0 q queue in let b = room_or_less g 1 q queue in let c = room_or_less g 2 q queue in omega arith
rooms_taken g (suc (suc (suc (suc k)))) q queue is low free = absurd (omega arith)

-- a LUN has four planes at most
four_planes : (b k : ℕ) → b ≤ 2 → k % 2 ^ b < 4
four_planes zero k h = omega arith
four_planes (suc zero) k h = omega arith
four_planes (suc (suc zero)) k h = omega arith
four_planes (suc (suc (suc b))) k h = absurd (omega arith)

queue_fits : (g : Parts) → InLimits g → (q : Queued) (queue : List Queued) → is_in_use g (plane_of g q) queue ≡ false → plane_of g q < 4 → length queue + rooms g queue ≤ 4 → length (q ∷ queue) + rooms g (q ∷ queue) ≤ 4
queue_fits g limits q queue free low h = let taken = rooms_taken g (plane_of g q) q queue refl low free in omega arith

few_pages : (pages : List PageAddress) → length (take 4 pages) ≤ 4
few_pages [] = omega arith
few_pages (a ∷ []) = omega arith
few_pages (a ∷ (b ∷ [])) = omega arith
few_pages (a ∷ (b ∷ (c ∷ []))) = omega arith
few_pages (a ∷ (b ∷ (c ∷ (d ∷ more)))) = omega arith

-- what an effect leaves of a LUN
pub lun_fits : (g : Parts) → InLimits g → (e : Effect) (v : LunView) → EffectFits g v e → LunFits g v → LunFits g (view_after e v)
lun_fits g limits (ReadStarted page column) v h f = record { outputs = omega arith; given = h.1; array_page = h.0; queue = omega arith; held = few_pages (page ∷ pages_of_reads v.queue) }
lun_fits g limits (CopybackReadStarted page column count) v h f = record { outputs = omega arith; given = h.1; array_page = h.0; queue = omega arith; held = few_pages (page ∷ (pages_of_reads v.queue ++ held_on count page (is_copyback_read v.closer) v.held)) }
lun_fits g limits ProgramAddressed v h f = record { outputs = f.outputs; given = f.given; array_page = f.array_page; queue = f.queue; held = omega arith }
lun_fits g limits (ReadQueued at) v h f =
    record { outputs = f.outputs; given = f.given; array_page = f.array_page; queue = queue_fits g limits (QueuedRead at) v.queue (read_not_in_use g at v.queue h.0) (four_planes g.plane_bits at.block limits.plane_bits_most) f.queue; held = omega arith }
lun_fits g limits (EraseStarted true at) v h f =
    record { outputs = f.outputs; given = f.given; array_page = f.array_page; queue = queue_fits g limits (Erase at) v.queue (not_in_use g true at v.queue h.0) (four_planes g.plane_bits at.block limits.plane_bits_most) f.queue; held = omega arith }
lun_fits g limits (EraseStarted false at) v h f = record { outputs = f.outputs; given = f.given; array_page = f.array_page; queue = omega arith; held = omega arith }
lun_fits g limits (ProgramStarted true at) v h f =
    record { outputs = f.outputs; given = f.given; array_page = f.array_page; queue = queue_fits g limits (Program at) v.queue (not_in_use g false at v.queue h.0) (four_planes g.plane_bits at.block limits.plane_bits_most) f.queue; held = f.held }
lun_fits g limits (ProgramStarted false at) v h f = record { outputs = f.outputs; given = f.given; array_page = f.array_page; queue = omega arith; held = omega arith }
lun_fits g limits (CacheProgramStarted at) v h f = record { outputs = f.outputs; given = f.given; array_page = f.array_page; queue = omega arith; held = omega arith }
lun_fits g limits IdRead v h f = record { outputs = omega arith; given = omega arith; array_page = f.array_page; queue = f.queue; held = omega arith }
lun_fits g limits (IdentityRead jedec) v h f = record { outputs = omega arith; given = omega arith; array_page = f.array_page; queue = f.queue; held = omega arith }
lun_fits g limits UniqueIdReadStarted v h f = record { outputs = omega arith; given = omega arith; array_page = f.array_page; queue = f.queue; held = omega arith }
lun_fits g limits (FeaturesReadStarted address) v h f = record { outputs = omega arith; given = omega arith; array_page = f.array_page; queue = f.queue; held = omega arith }
lun_fits g limits (FeaturesSet feature) v h f = record { outputs = f.outputs; given = f.given; array_page = f.array_page; queue = f.queue; held = omega arith }
lun_fits g limits ParameterPageReadStarted v h f = record { outputs = omega arith; given = omega arith; array_page = f.array_page; queue = f.queue; held = omega arith }
lun_fits g limits (CacheReadContinued None) v h f = record { outputs = omega arith; given = omega arith; array_page = h.0; queue = f.queue; held = omega arith }
lun_fits g limits (CacheReadContinued (Some page)) v h f = record { outputs = omega arith; given = omega arith; array_page = h.0; queue = f.queue; held = omega arith }
lun_fits g limits CacheReadEnded v h f = record { outputs = omega arith; given = omega arith; array_page = f.array_page; queue = f.queue; held = omega arith }
lun_fits g limits (ReadColumnChanged column) v h f = record { outputs = omega arith; given = h; array_page = f.array_page; queue = f.queue; held = f.held }
lun_fits g limits (PlaneSelected plane planes column) v h f = record { outputs = omega arith; given = h.0; array_page = f.array_page; queue = f.queue; held = f.held }
lun_fits g limits DataOutput v h f = record { outputs = omega arith; given = f.given; array_page = f.array_page; queue = f.queue; held = f.held }
lun_fits g limits ResetStarted v h f = record { outputs = f.outputs; given = f.given; array_page = f.array_page; queue = omega arith; held = omega arith }
lun_fits g limits (TargetResetStarted first) v h f = record { outputs = f.outputs; given = f.given; array_page = f.array_page; queue = omega arith; held = omega arith }
lun_fits g limits Unaffected v h f = record { outputs = f.outputs; given = f.given; array_page = f.array_page; queue = f.queue; held = f.held }
lun_fits g limits DataOutputEnabled v h f = record { outputs = f.outputs; given = f.given; array_page = f.array_page; queue = f.queue; held = f.held }
lun_fits g limits StatusSelected v h f = record { outputs = f.outputs; given = f.given; array_page = f.array_page; queue = f.queue; held = f.held }
lun_fits g limits StatusRowAwaited v h f = record { outputs = f.outputs; given = f.given; array_page = f.array_page; queue = f.queue; held = f.held }
lun_fits g limits SelectedForStatus v h f = record { outputs = f.outputs; given = f.given; array_page = f.array_page; queue = f.queue; held = f.held }
lun_fits g limits Deselected v h f = record { outputs = f.outputs; given = f.given; array_page = f.array_page; queue = f.queue; held = f.held }
lun_fits g limits StatusOfSelected v h f = record { outputs = f.outputs; given = f.given; array_page = f.array_page; queue = f.queue; held = f.held }
lun_fits g limits (AnotherAddressed reads) v h f = record { outputs = f.outputs; given = f.given; array_page = f.array_page; queue = f.queue; held = f.held }
lun_fits g limits (BecameReady failed) v h f = record { outputs = f.outputs; given = f.given; array_page = f.array_page; queue = f.queue; held = f.held }
lun_fits g limits (ArrayBecameReady fail) v h f = record { outputs = f.outputs; given = f.given; array_page = f.array_page; queue = f.queue; held = f.held }
