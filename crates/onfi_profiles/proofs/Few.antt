-- After a past that is legal in the base profile no read is queued, a LUN holds one page at most, and none programs behind its ready.
use Rattle.std.proofs.Common.{◌≡◌, ℕ, zero, suc, ◌+◌, ◌≤◌, ◌==◌, Bool, true, false, ◌&&◌, ◌||◌, cond, not, ltb, nat_le, List, [], ◌∷◌, length, take, Option, Some, None, refl, ap, ◌∙◌, arith}
use Rattle.std.proofs.Math.Bool.{and-false}
use Rattle.std.specs.List.{list_any}
use Rattle.nand_geometry.specs.declared.parts.Parts.{Parts}
use Rattle.nand_geometry.specs.Row.{parts_of}
use Rattle.onfi_cycle.specs.declared.command.Command.{Command}
use Rattle.onfi_cycle.specs.declared.command.Command.TheVariants.{Read, ReadConfirm, ReadPlane, CopybackRead, PageProgram, ReadStatus, ReadStatusEnhanced, Reset, SynchronousReset, ReadCacheSequential, ReadCacheEnd, ChangeReadColumnConfirm, BlockEraseConfirm, BlockErasePlane, ProgramConfirm, ProgramPlane, ReadId, ReadParameterPage, ReadUniqueId, GetFeatures, ResetLun, ProgramCache}
use Rattle.onfi_cycle.specs.declared.effect.Effect.{Effect}
use Rattle.onfi_cycle.specs.declared.effect.Effect.TheVariants.{Unaffected, StatusSelected, StatusOfSelected, SelectedForStatus, Deselected, ReadStarted, ReadQueued, CopybackReadStarted, ProgramAddressed, EraseStarted, ProgramStarted, IdRead, IdentityRead, UniqueIdReadStarted, FeaturesReadStarted, FeaturesSet, ParameterPageReadStarted, CacheReadContinued, CacheReadEnded, ReadColumnChanged, PlaneSelected, DataOutput, ResetStarted, TargetResetStarted, BecameReady, ArrayBecameReady, AnotherAddressed, CacheProgramStarted}
use Rattle.onfi_cycle.specs.declared.item.Item.{Item}
use Rattle.onfi_cycle.specs.declared.item.Item.TheVariants.{Cyc, Rdy, Ard}
use Rattle.onfi_cycle.specs.declared.latch.Latch.{Latch}
use Rattle.onfi_cycle.specs.declared.lun.Lun.{Lun}
use Rattle.onfi_cycle.specs.declared.opening.Opening.{Opening}
use Rattle.onfi_cycle.specs.declared.page_address.PageAddress.{PageAddress}
use Rattle.onfi_cycle.specs.declared.queued.Queued.{Queued}
use Rattle.onfi_cycle.specs.declared.tail_facts.TailFacts.{TailFacts}
use Rattle.onfi_cycle.specs.declared.target_cycle.TargetCycle.{TargetCycle}
use Rattle.onfi_cycle.specs.declared.target_cycle.TargetCycle.TheVariants.{CommandCycle, AddressCycle, InputCycle, OutputCycle}
use Rattle.onfi_cycle.specs.LunView.{LunView}
use Rattle.onfi_cycle.specs.Base.{is_of_base}
use Rattle.onfi_cycle.specs.Command.{closes_row, reads_row, reads_identity}
use Rattle.onfi_cycle.specs.Sequence.{target_cycle, tail, facts_of, wants_command, wants_address, row, row_with, selects_plane}
use Rattle.onfi_cycle.specs.Effect.{program_row_effect, is_off, is_data, is_shared, acts_for_target, of_target, id_effect, lun_reset_effect, names_lun, ends_features, plane_of_row, plane_effect, column_effect, cache_effect, confirm_effect, other_effect, row_effect, command_effect, address_effect, opening_address_effect, cycle_effect}
use Rattle.onfi_cycle.specs.Lun.{is_page_read, is_copyback_read, is_cache_program, is_plane_program, leaves_array_busy, programs, closer, closer_after, array_busy_after, is_busy, is_array_busy, pages_of_reads, queue_after, held_after, queue, held, array_page, latch_alone, effect_on, effect_among, views_from, luns_of}
use Rattle.onfi_cycle.specs.Rules.{driving, only, driver_is, is_some_and, lun_is, ends_row, excludes_program, breaks_cache_program_misplaced, continues_cache}
use Rattle.onfi_cycle.specs.Permitted.{broken, is_legal}
use Rattle.onfi_cycle.proofs.Passed.{permitted_keeps}
use Rattle.onfi_profiles.specs.Widening.{in_base}
use Rattle.onfi_profiles.specs.Judging.{base_continues_cache}
use Rattle.onfi_profiles.proofs.OldTails.{is_base_cycle, base_cycle}
use Rattle.onfi_profiles.proofs.Pasts.{lun_at, both_legal}

-- 1. what an item does

-- a read is queued, pages are read for a copyback, or a page is programmed while the next one comes
abbrev pub brings_pages : Effect → Bool
brings_pages (ReadQueued page) = true
brings_pages (CopybackReadStarted page column planes) = true
brings_pages (CacheProgramStarted page) = true
brings_pages _ = false

neither : (b : Bool) (x y : Effect) → brings_pages x ≡ false → brings_pages y ≡ false → brings_pages (cond b x y) ≡ false
neither true x y hx hy = hx
neither false x y hx hy = hy

row_queues : (g : Parts) (t : TailFacts) (c : Command) (lun : ℕ) → brings_pages (confirm_effect g t c) ≡ false → brings_pages (row_effect g t c lun) ≡ false
row_queues g t c lun h =
    neither (wants_command t c && names_lun g (row t) lun) (confirm_effect g t c) (other_effect g t c) h
    (neither (closes_row c && (wants_command t c && is_shared g)) (AnotherAddressed (reads_row c)) Unaffected refl refl)

command_queues : (g : Parts) (t : TailFacts) (la : Latch) (c : Command) (lun : ℕ) → is_of_base c ≡ true → brings_pages (command_effect g t la c lun) ≡ false
command_queues g t la Read lun b = refl
command_queues g t la ReadStatus lun b = neither (is_shared g) StatusOfSelected StatusSelected refl refl
command_queues g t la ReadStatusEnhanced lun b = refl
command_queues g t la Reset lun b = neither (is_shared g) (TargetResetStarted (lun == 0)) ResetStarted refl refl
command_queues g t la SynchronousReset lun b = neither (is_shared g) (TargetResetStarted (lun == 0)) ResetStarted refl refl
command_queues g t la ReadCacheSequential lun b =
    neither (wants_command t ReadCacheSequential) (row_effect g t ReadCacheSequential lun) (cache_effect la)
    (row_queues g t ReadCacheSequential lun refl) (neither (is_off la) Unaffected (CacheReadContinued None) refl refl)
command_queues g t la ReadCacheEnd lun b = neither (is_off la) Unaffected CacheReadEnded refl refl
command_queues g t la ChangeReadColumnConfirm lun b =
    neither (selects_plane t) (plane_effect g t lun) (column_effect t la)
    (neither (names_lun g (row t) lun) (PlaneSelected (plane_of_row g (row t)) _ t.column) Deselected refl refl)
    (neither (wants_command t ChangeReadColumnConfirm && not (is_off la)) (ReadColumnChanged t.column) Unaffected refl refl)
command_queues g t la ReadConfirm lun b = row_queues g t ReadConfirm lun refl
command_queues g t la ReadPlane lun b = cc
command_queues g t la CopybackRead lun b = cc
command_queues g t la ProgramCache lun b = cc
command_queues g t la BlockEraseConfirm lun b = row_queues g t BlockEraseConfirm lun refl
command_queues g t la BlockErasePlane lun b = row_queues g t BlockErasePlane lun refl
command_queues g t la ProgramConfirm lun b = row_queues g t ProgramConfirm lun refl
command_queues g t la ProgramPlane lun b = row_queues g t ProgramPlane lun refl
command_queues g t la c lun b = row_queues g t c lun refl

of_target_queues : (g : Parts) (lun : ℕ) (e : Effect) → brings_pages e ≡ false → brings_pages (of_target g lun e) ≡ false
of_target_queues g lun e h = neither (acts_for_target g lun) e Deselected h refl

address_queues : (g : Parts) (t : TailFacts) (byte : ℕ) (c : Command) (n lun : ℕ) → brings_pages (address_effect g t byte c n lun) ≡ false
address_queues g t byte ReadStatusEnhanced n lun =
    neither (n == 2) (cond (names_lun g (row_with t byte) lun) SelectedForStatus Deselected) Unaffected
    (neither (names_lun g (row_with t byte) lun) SelectedForStatus Deselected refl refl) refl
address_queues g t byte ReadId n lun =
    neither (wants_address t byte) (of_target g lun (id_effect byte)) Unaffected
    (of_target_queues g lun (id_effect byte) (neither (byte == 0x20) IdRead (IdentityRead (byte == 0x40)) refl refl)) refl
address_queues g t byte ReadParameterPage n lun = neither (wants_address t byte) (of_target g lun ParameterPageReadStarted) Unaffected (of_target_queues g lun ParameterPageReadStarted refl) refl
address_queues g t byte ReadUniqueId n lun = neither (wants_address t byte) (of_target g lun UniqueIdReadStarted) Unaffected (of_target_queues g lun UniqueIdReadStarted refl) refl
address_queues g t byte GetFeatures n lun = neither (wants_address t byte) (of_target g lun (FeaturesReadStarted byte)) Unaffected (of_target_queues g lun (FeaturesReadStarted byte) refl) refl
address_queues g t byte ResetLun n lun =
    neither (n == 2) (lun_reset_effect g (names_lun g (row_with t byte) lun)) Unaffected
    (neither (names_lun g (row_with t byte) lun) ResetStarted (cond (is_shared g) (AnotherAddressed false) Unaffected) refl (neither (is_shared g) (AnotherAddressed false) Unaffected refl refl)) refl
address_queues g t byte PageProgram n lun =
    neither (n == 4) (program_row_effect (names_lun g (row_with t byte) lun)) Unaffected (neither (names_lun g (row_with t byte) lun) ProgramAddressed Unaffected refl refl) refl
address_queues g t byte c n lun = refl

cycle_queues : (g : Parts) (t : TailFacts) (la : Latch) (k : TargetCycle) (lun : ℕ) → is_base_cycle k ≡ true → brings_pages (cycle_effect g t la k lun) ≡ false
cycle_queues g t la (CommandCycle c) lun b = command_queues g t la c lun b
cycle_queues g t la (AddressCycle byte) lun b = at t.opening
  where
    at : (o : Option Opening) → brings_pages (opening_address_effect g t byte o lun) ≡ false
    at None = refl
    at (Some o) = address_queues g t byte o.opener o.addresses lun
cycle_queues g t la (InputCycle byte) lun b = neither (ends_features t) (of_target g lun (FeaturesSet _)) Unaffected (of_target_queues g lun (FeaturesSet _) refl) refl
cycle_queues g t la OutputCycle lun b = neither (is_data la) DataOutput Unaffected refl refl

pub item_queues : (g : Parts) (targets : ℕ) (past : List Item) (i : Item) (l : Lun) → broken (in_base g) targets past i ≡ None → brings_pages (effect_on (in_base g) past i l) ≡ false
unfolding effect_among
item_queues g targets past (Cyc c) l h =
    neither (c.ce == l.ce) (cycle_effect (in_base g) (facts_of (tail past l.ce)) (latch_alone (in_base g) past l) (target_cycle c.kind c.byte) l.lun) Unaffected
    (cycle_queues (in_base g) (facts_of (tail past l.ce)) (latch_alone (in_base g) past l) (target_cycle c.kind c.byte) l.lun (base_cycle g (target_cycle c.kind c.byte) (permitted_keeps (in_base g) targets past c h).f2))
    refl
item_queues g targets past (Rdy a b f) l h = neither (a == l.ce && b == l.lun) (BecameReady f) Unaffected refl refl
item_queues g targets past (Ard a b fail) l h = neither (a == l.ce && b == l.lun) (ArrayBecameReady fail) Unaffected refl refl

-- 2. the queue and the pages

abbrev pub IsFew : List Queued → List PageAddress → Type 0
IsFew queue held = (pages_of_reads queue ≡ []) × (length held ≤ 1)

few_after : (e : Effect) (copyback : Bool) (p : PageAddress) (queue : List Queued) (held : List PageAddress) → brings_pages e ≡ false → IsFew queue held → IsFew (queue_after e queue) (held_after e copyback p queue held)
few_after (ReadStarted page column) copyback p queue held r h =
    let one : length (take 4 (page ∷ pages_of_reads queue)) ≡ 1 = ap (λ (q : List PageAddress). length (take 4 (page ∷ q))) h.0 in
    (refl, omega (arith, one))
few_after (ReadQueued page) copyback p queue held r h = cc
few_after (CopybackReadStarted page column planes) copyback p queue held r h = cc
few_after (CacheProgramStarted page) copyback p queue held r h = cc
few_after ProgramAddressed copyback p queue held r h = (h.0, omega arith)
few_after (EraseStarted true at) copyback p queue held r h = (h.0, omega arith)
few_after (EraseStarted false at) copyback p queue held r h = (refl, omega arith)
few_after (ProgramStarted true page) copyback p queue held r h = (h.0, h.1)
few_after (ProgramStarted false page) copyback p queue held r h = (refl, omega arith)
few_after IdRead copyback p queue held r h = (h.0, omega arith)
few_after (IdentityRead jedec) copyback p queue held r h = (h.0, omega arith)
few_after UniqueIdReadStarted copyback p queue held r h = (h.0, omega arith)
few_after (FeaturesReadStarted address) copyback p queue held r h = (h.0, omega arith)
few_after (FeaturesSet feature) copyback p queue held r h = (h.0, omega arith)
few_after ParameterPageReadStarted copyback p queue held r h = (h.0, omega arith)
few_after (CacheReadContinued to) copyback p queue held r h = (h.0, omega arith)
few_after CacheReadEnded copyback p queue held r h = (h.0, omega arith)
few_after ResetStarted copyback p queue held r h = (refl, omega arith)
few_after (TargetResetStarted first) copyback p queue held r h = (refl, omega arith)
few_after e copyback p queue held r h = h

few : (g : Parts) (targets : ℕ) (past : List Item) (l : Lun) → is_legal (in_base g) targets past ≡ true → IsFew (queue (in_base g) past l) (held (in_base g) past l)
few g targets [] l legal = (refl, omega arith)
few g targets (i ∷ past) l legal =
    let parts = both_legal (in_base g) targets past i legal in
    few_after (effect_on (in_base g) past i l) (is_copyback_read (closer (in_base g) past l)) (array_page (in_base g) past l) (queue (in_base g) past l) (held (in_base g) past l) (item_queues g targets past i l parts.0) (few g targets past l parts.1)

-- 3. a cache read may go on where it might before more than one page could be held

abbrev FewHeld : List LunView → Type 0
FewHeld [] = Unit {0}
FewHeld (v ∷ vs) = (length v.held ≤ 1) × FewHeld vs

few_views : (g : Parts) (targets : ℕ) (past : List Item) (ce count n : ℕ) → is_legal (in_base g) targets past ≡ true → FewHeld (views_from (in_base g) past ce count n)
few_views g targets past ce zero n legal = tt
few_views g targets past ce (suc count) n legal = ((few g targets past (lun_at ce n) legal).1, few_views g targets past ce count (n + 1) legal)

few_driving : (vs : List LunView) → FewHeld vs → FewHeld (driving vs)
few_driving [] h = tt
few_driving (v ∷ vs) h = at (is_off v.latch) (few_driving vs h.1)
  where
    at : (b : Bool) → FewHeld (driving vs) → FewHeld (cond b (driving vs) (v ∷ driving vs))
    at true rest = rest
    at false rest = (h.0, rest)

one_at_most : (held : List PageAddress) → length held ≤ 1 → nat_le (length held) 1 ≡ true
one_at_most [] h = refl
one_at_most (p ∷ []) h = refl
one_at_most (p ∷ (q ∷ held)) h = absurd (omega (arith, h))

and_true : (a b : Bool) → b ≡ true → (a && b) ≡ a
and_true true b h = h
and_true false b h = refl

continues_same : (g : Parts) (v : LunView) → length v.held ≤ 1 → continues_cache g v ≡ base_continues_cache g v
continues_same g v h =
    ap (λ (b : Bool). not v.busy && (b && ltb (v.array_page.page + 1) g.pages)) (and_true (is_page_read v.closer) (nat_le (length v.held) 1) (one_at_most v.held h))

only_same : (g : Parts) (vs : List LunView) → FewHeld vs → is_some_and (continues_cache g) (only vs) ≡ is_some_and (base_continues_cache g) (only vs)
only_same g [] h = refl
only_same g (v ∷ []) h = continues_same g v h.0
only_same g (v ∷ (w ∷ vs)) h = refl

pub driver_same : (g : Parts) (targets : ℕ) (past : List Item) (ce : ℕ) → is_legal (in_base g) targets past ≡ true → driver_is (continues_cache (in_base g)) (luns_of (in_base g) past ce) ≡ driver_is (base_continues_cache (in_base g)) (luns_of (in_base g) past ce)
driver_same g targets past ce legal =
    only_same (in_base g) (driving (luns_of (in_base g) past ce)) (few_driving (luns_of (in_base g) past ce) (few_views g targets past ce g.luns 0 legal))

-- 4. no program goes on behind the ready of its LUN

-- the last closer is no 15, and behind an 11 the array rests
abbrev Rests : Option Command → (array_busy : Bool) → Type 0
Rests last array_busy = (is_cache_program last ≡ false) × ((is_plane_program last && array_busy) ≡ false)

kept_busy : (c p b : Bool) → c ≡ false → (p && b) ≡ false → ((c || p) && b) ≡ false
kept_busy true p b h k = cc
kept_busy false p b h k = k

ready_rests : (last : Option Command) (busy array_busy : Bool) → (is_plane_program last && array_busy) ≡ false → (is_plane_program last && (array_busy || (busy && leaves_array_busy last))) ≡ false
ready_rests None busy array_busy h = refl
ready_rests (Some ProgramPlane) busy true h = cc
ready_rests (Some ProgramPlane) true false h = refl
ready_rests (Some ProgramPlane) false false h = refl
ready_rests (Some c) busy array_busy h = refl

rests_after : (e : Effect) (busy array_busy : Bool) (last : Option Command) → brings_pages e ≡ false → Rests last array_busy → Rests (closer_after e last) (array_busy_after e busy last array_busy)
rests_after (ReadStarted page column) busy array_busy last b h = (refl, refl)
rests_after (ReadQueued page) busy array_busy last b h = cc
rests_after (CopybackReadStarted page column planes) busy array_busy last b h = cc
rests_after (CacheProgramStarted page) busy array_busy last b h = cc
rests_after (EraseStarted true at) busy array_busy last b h = (refl, refl)
rests_after (EraseStarted false at) busy array_busy last b h = (refl, refl)
rests_after (ProgramStarted true page) busy array_busy last b h = (refl, kept_busy (is_cache_program last) (is_plane_program last) array_busy h.0 h.1)
rests_after (ProgramStarted false page) busy array_busy last b h = (refl, refl)
rests_after IdRead busy array_busy last b h = (refl, refl)
rests_after (IdentityRead jedec) busy array_busy last b h = (refl, refl)
rests_after UniqueIdReadStarted busy array_busy last b h = (refl, refl)
rests_after (FeaturesReadStarted address) busy array_busy last b h = (refl, refl)
rests_after (FeaturesSet feature) busy array_busy last b h = (refl, refl)
rests_after ParameterPageReadStarted busy array_busy last b h = (refl, refl)
rests_after (CacheReadContinued to) busy array_busy last b h = (refl, refl)
rests_after CacheReadEnded busy array_busy last b h = (refl, refl)
rests_after ResetStarted busy array_busy last b h = (refl, refl)
rests_after (TargetResetStarted first) busy array_busy last b h = (refl, refl)
rests_after (BecameReady fail) busy array_busy last b h = (h.0, ready_rests last busy array_busy h.1)
rests_after (ArrayBecameReady fail) busy array_busy last b h = (h.0, and-false (is_plane_program last))
rests_after e busy array_busy last b h = h

array_rests : (g : Parts) (targets : ℕ) (past : List Item) (l : Lun) → is_legal (in_base g) targets past ≡ true → Rests (closer (in_base g) past l) (is_array_busy (in_base g) past l)
array_rests g targets [] l legal = (refl, refl)
array_rests g targets (i ∷ past) l legal =
    let parts = both_legal (in_base g) targets past i legal in
    rests_after (effect_on (in_base g) past i l) (is_busy (in_base g) past l) (is_array_busy (in_base g) past l) (closer (in_base g) past l) (item_queues g targets past i l parts.0) (array_rests g targets past l parts.1)

none_programs : (busy array_busy c p : Bool) → c ≡ false → (p && array_busy) ≡ false → ((busy && c) || (array_busy && (c || p))) ≡ false
none_programs busy array_busy true p h k = cc
none_programs true true false true h k = cc
none_programs false true false true h k = cc
none_programs true true false false h k = refl
none_programs false true false false h k = refl
none_programs true false false p h k = refl
none_programs false false false p h k = refl

-- none of these programs
abbrev AllRest : List LunView → Type 0
AllRest [] = Unit {0}
AllRest (v ∷ vs) = (programs v ≡ false) × AllRest vs

all_rest : (g : Parts) (targets : ℕ) (past : List Item) (ce count n : ℕ) → is_legal (in_base g) targets past ≡ true → AllRest (views_from (in_base g) past ce count n)
all_rest g targets past ce zero n legal = tt
all_rest g targets past ce (suc count) n legal =
    let l = lun_at ce n in
    let rests = array_rests g targets past l legal in (
      none_programs (is_busy (in_base g) past l) (is_array_busy (in_base g) past l) (is_cache_program (closer (in_base g) past l)) (is_plane_program (closer (in_base g) past l)) rests.0 rests.1,
      all_rest g targets past ce count (n + 1) legal,
    )

any_rests : (vs : List LunView) → AllRest vs → list_any programs vs ≡ false
any_rests [] h = refl
any_rests (v ∷ vs) h = rw (h.0, any_rests vs h.1) refl

lun_rests : (vs : List LunView) (n : ℕ) → AllRest vs → lun_is programs vs n ≡ false
lun_rests [] n h = refl
lun_rests (v ∷ vs) zero h = h.0
lun_rests (v ∷ vs) (suc n) h = lun_rests vs n h.1

-- no LUN programs behind a 15
pub record NonePrograms (luns : List LunView) : Type 0 where
  pub any : list_any programs luns ≡ false
  pub at : (n : ℕ) → lun_is programs luns n ≡ false

pub none_of_base : (g : Parts) (targets : ℕ) (past : List Item) (ce : ℕ) → is_legal (in_base g) targets past ≡ true → NonePrograms (luns_of (in_base g) past ce)
none_of_base g targets past ce legal =
    let rests = all_rest g targets past ce g.luns 0 legal in
    record { any = any_rests (luns_of (in_base g) past ce) rests; at = λ n. lun_rests (luns_of (in_base g) past ce) n rests }

-- so nothing is misplaced
pub program_kept : (g : Parts) (t : TailFacts) (luns : List LunView) (k : TargetCycle) → NonePrograms luns → is_base_cycle k ≡ true → breaks_cache_program_misplaced g t luns k ≡ false
unfolding breaks_cache_program_misplaced
program_kept g t luns (CommandCycle ProgramCache) none b = cc
program_kept g t luns (CommandCycle c) none b = ap (λ (x : Bool). reads_identity c && x) none.any ∙ and-false (reads_identity c)
program_kept g t luns (AddressCycle byte) none b = ap (λ (x : Bool). ends_row excludes_program t && x) (none.at (parts_of g (row_with t byte)).lun) ∙ and-false (ends_row excludes_program t)
program_kept g t luns (InputCycle byte) none b = refl
program_kept g t luns OutputCycle none b = refl
