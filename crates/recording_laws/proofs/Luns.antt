-- A LUN as it is, and as it is seen by a check that began in the middle: what an effect leaves of both.
use Rattle.std.proofs.Common.{◌≡◌, Bool, true, false, cond, not, ◌&&◌, ◌||◌, take, List, [], ◌∷◌, Option, Some, None, refl, sym, ap, ◌∙◌, subst}
use Rattle.std.specs.List.{list_any}
use Rattle.std.proofs.lemmas.Bool.{and_parts, and_right, or_from, or_parts, or_right, not-true, not-false}
use Rattle.nand_geometry.specs.declared.parts.Parts.{Parts}
use Rattle.nand_geometry.specs.Optional.{has_copyback, has_program_cache}
use Rattle.onfi_cycle.specs.declared.command.Command.{Command}
use Rattle.onfi_cycle.specs.declared.command.Command.TheVariants.{BlockEraseConfirm, BlockErasePlane, ProgramConfirm, ProgramPlane, ReadCacheSequential}
use Rattle.onfi_cycle.specs.declared.effect.Effect.{Effect}
use Rattle.onfi_cycle.specs.declared.effect.Effect.TheVariants.{Unaffected, DataOutputEnabled, StatusSelected, StatusRowAwaited, SelectedForStatus, Deselected, ReadStarted, ReadQueued, CopybackReadStarted, ProgramAddressed, EraseStarted, ProgramStarted, IdRead, IdentityRead, UniqueIdReadStarted, FeaturesReadStarted, FeaturesSet, ParameterPageReadStarted, CacheReadContinued, CacheReadEnded, ReadColumnChanged, PlaneSelected, DataOutput, ResetStarted, BecameReady, ArrayBecameReady, CacheProgramStarted, TargetResetStarted, StatusOfSelected, AnotherAddressed}
use Rattle.onfi_cycle.specs.declared.latch.Latch.{Latch}
use Rattle.onfi_cycle.specs.declared.latch.Latch.TheVariants.{Off, Status, Data}
use Rattle.onfi_cycle.specs.declared.queued.Queued.{Queued}
use Rattle.onfi_cycle.specs.declared.queued.Queued.TheVariants.{Erase, Program, Read as QueuedRead}
use Rattle.onfi_cycle.specs.declared.page_address.PageAddress.{PageAddress}
use Rattle.onfi_cycle.specs.declared.read_column.ReadColumn.{ReadColumn}
use Rattle.onfi_cycle.specs.declared.register.Register.TheVariants.{Empty, Page}
use Rattle.onfi_cycle.specs.declared.item.Item.{Item}
use Rattle.onfi_cycle.specs.Effect.{is_off}
use Rattle.onfi_cycle.specs.Look.{look_at}
use Rattle.onfi_cycle.specs.Lun.{resumed, is_cache_read, is_cache_program, is_plane_program, leaves_array_busy, keeps_array_busy, programs, is_page_read, next_page, pages_of_reads, has_reads, page_in_plane, register_of_plane, read_column_after, view_after}
use Rattle.onfi_cycle.specs.LunView.{LunView}
use Rattle.onfi_cycle.specs.Rules.{is_empty, has_some}
use Rattle.trace_faults.specs.declared.lun_known.LunKnown.{LunKnown}
use Rattle.trace_faults.specs.declared.lun_known.LunKnown.TheVariants.{Nothing, Queue, Work, All}
use Rattle.trace_faults.specs.Middle.{has_begun, is_all, is_reset, is_page, once_begun, learned_by, learned_lun}

-- ---- 1. what is seen of a LUN, and what it is

-- what is queued is queued there too
abbrev pub Within : (seen is : List Queued) → Type 0
Within seen is = (test : Queued → Bool) → list_any test seen ≡ true → list_any test is ≡ true

-- what is seen to be shown
abbrev pub Shows : (seen is : Latch) → Type 0
Shows Off is = Unit {0}
Shows Status is = is_off is ≡ false
Shows Data is = is ≡ Data

-- no more is seen than is, as far as the rules see it that hang on nothing that was before
pub record IsUnder (t s : LunView) : Type 0 where
  pub busy : s.busy ≡ true → t.busy ≡ true
  pub queue : Within s.queue t.queue
  pub latch : Shows s.latch t.latch

-- a chip that declares neither copies pages nor programs caches
pub record IsNarrow (g : Parts) : Type 0 where
  pub copyback : has_copyback g.optional ≡ false
  pub cache : has_program_cache g.optional ≡ false

-- no page is programmed behind its ready
pub record IsSpare (v : LunView) : Type 0 where
  pub closer : is_cache_program v.closer ≡ false
  pub array : is_plane_program v.closer ≡ true → v.array_busy ≡ false

-- whatever is known: no more is seen than is
pub record IsBelow (t s : LunView) : Type 0 where
  pub busy : s.busy ≡ true → t.busy ≡ true
  pub queue : Within s.queue t.queue
  pub latch : Shows s.latch t.latch
  pub calm : is_page_read s.closer ≡ true → s.queue ≡ []
  pub spare : IsSpare t
  pub spare_seen : IsSpare s

pub is_under : (t s : LunView) → IsBelow t s → IsUnder t s
is_under t s b = record { busy = b.busy; queue = b.queue; latch = b.latch }

-- once work of it has begun: what the rules see but the queue and what it shows
pub record IsBegun (t s : LunView) : Type 0 where
  pub busy : t.busy ≡ s.busy
  pub closer : t.closer ≡ s.closer
  pub array_busy : t.array_busy ≡ s.array_busy
  pub page : is_page_read s.closer ≡ true → t.array_page ≡ s.array_page
  pub register : t.register ≡ s.register
  pub column : is_empty s.register ≡ false → t.column ≡ s.column
  pub held : has_some s.queue ≡ false → t.held ≡ s.held

-- once it is seen to drive the bus, or was reset: what it shows
pub record IsSame (t s : LunView) : Type 0 where
  pub off : is_off t.latch ≡ is_off s.latch
  pub latch : is_empty s.register ≡ false → t.latch ≡ s.latch

-- which reads are queued is known, where the chip reads several planes
abbrev pub knows_queue : LunKnown → Bool
knows_queue Nothing = false
knows_queue Queue = true
knows_queue Work = true
knows_queue All = true

-- on a chip that reads several planes, or doesn't
pub record Fits (planes : Bool) (k : LunKnown) (t s : LunView) : Type 0 where
  pub below : IsBelow t s
  pub queue : planes ≡ true → knows_queue k ≡ true → pages_of_reads t.queue ≡ pages_of_reads s.queue
  pub begun : has_begun k ≡ true → IsBegun t s
  pub same : is_all k ≡ true → IsSame t s
  pub off : has_begun k ≡ true → is_all k ≡ false → is_off s.latch ≡ true

-- ---- 2. queues and latches

either_way : (a b c : Bool) → (b ≡ true → c ≡ true) → (a || b) ≡ true → (a || c) ≡ true
either_way true b c f h = refl
either_way false b c f h = f h

within_more : (x : Queued) (s t : List Queued) → Within s t → Within (x ∷ s) (x ∷ t)
within_more x s t w test = either_way (test x) (list_any test s) (list_any test t) (w test)

queue_within : (b : Bool) (x : Queued) (s t : List Queued) → Within s t → Within (cond b (x ∷ s) []) (cond b (x ∷ t) [])
queue_within true x s t w = within_more x s t w
queue_within false x s t w = λ test h. h

none_within : (q : List Queued) → Within q [] → q ≡ []
none_within [] w = refl
none_within (x ∷ q) w = let no = w (λ y. true) refl in cc

shows_resumed : (s t : Latch) → Shows s t → Shows (resumed s) (resumed t)
shows_resumed Off t h = tt
shows_resumed Status Off h = cc
shows_resumed Status Status h = refl
shows_resumed Status Data h = refl
shows_resumed Data t h = ap resumed h

resumed_off : (l : Latch) → is_off (resumed l) ≡ is_off l
resumed_off Off = refl
resumed_off Status = refl
resumed_off Data = refl

pub shows_on : (s t : Latch) → Shows s t → is_off s ≡ false → is_off t ≡ false
shows_on Off t h on = cc
shows_on Status t h on = h
shows_on Data t h on = ap is_off h

-- the pages of reads tell whether there are some
abbrev some_pages : List PageAddress → Bool
some_pages [] = false
some_pages (p ∷ pages) = true

has_by_pages : (q : List Queued) → has_reads q ≡ some_pages (pages_of_reads q)
has_by_pages [] = refl
has_by_pages (QueuedRead p ∷ q) = refl
has_by_pages (Erase p ∷ q) = has_by_pages q
has_by_pages (Program p ∷ q) = has_by_pages q

same_reads : (t s : List Queued) → pages_of_reads t ≡ pages_of_reads s → has_reads t ≡ has_reads s
same_reads t s h = has_by_pages t ∙ ap some_pages h ∙ sym (has_by_pages s)

none_read : (t s : List Queued) → t ≡ [] → Within s t → pages_of_reads t ≡ pages_of_reads s
none_read t s none w = ap pages_of_reads none ∙ sym (ap pages_of_reads (none_within s (subst (Within s) none w)))

-- what an erase leaves of the reads, and a program
reads_left : (b : Bool) (t s t' s' : List Queued) → pages_of_reads t ≡ pages_of_reads s → pages_of_reads t' ≡ pages_of_reads s' → pages_of_reads (cond b t t') ≡ pages_of_reads (cond b s s')
reads_left true t s t' s' h k = h
reads_left false t s t' s' h k = k

held_left : (b : Bool) (x : Queued) (q : List Queued) (t s : List PageAddress) → has_some (cond b (x ∷ q) []) ≡ false → cond b t [] ≡ cond b s []
held_left true x q t s h = cc
held_left false x q t s h = refl

-- an erase or a program is no read of a page
no_page_erased : (b : Bool) → is_page_read (Some (cond b BlockErasePlane BlockEraseConfirm)) ≡ true → ⊥
no_page_erased true h = cc
no_page_erased false h = cc

no_page_programmed : (b : Bool) → is_page_read (Some (cond b ProgramPlane ProgramConfirm)) ≡ true → ⊥
no_page_programmed true h = cc
no_page_programmed false h = cc

-- ---- 3. an effect on both

-- what programs no page behind its ready goes on so
keeps_none : (c p a : Bool) → c ≡ false → (p ≡ true → a ≡ false) → ((c || p) && a) ≡ false
keeps_none true p a h k = cc
keeps_none false true a h k = k refl
keeps_none false false a h k = refl

none_kept : (a c p : Bool) → c ≡ false → (p ≡ true → a ≡ false) → (a && (c || p)) ≡ false
none_kept false c p h k = refl
none_kept true true p h k = h
none_kept true false true h k = k refl
none_kept true false false h k = refl

none_comes : (a b c : Bool) → a ≡ false → c ≡ false → (a || (b && c)) ≡ false
none_comes true b c h k = h
none_comes false true c h k = k
none_comes false false c h k = refl

plane_leaves : (c : Option Command) → is_plane_program c ≡ true → leaves_array_busy c ≡ false
plane_leaves (Some ProgramPlane) h = refl
plane_leaves (Some c) h = cc
plane_leaves None h = cc

spare_keeps : (v : LunView) → IsSpare v → (keeps_array_busy v.closer && v.array_busy) ≡ false
spare_keeps v p = keeps_none (is_cache_program v.closer) (is_plane_program v.closer) v.array_busy p.closer p.array

pub spare_programs : (v : LunView) → IsSpare v → programs v ≡ false
spare_programs v p =
    or_from (v.busy && is_cache_program v.closer) (v.array_busy && keeps_array_busy v.closer) (and_right v.busy (is_cache_program v.closer) p.closer)
    (none_kept v.array_busy (is_cache_program v.closer) (is_plane_program v.closer) p.closer p.array)

abbrev pub NoCacheProgram : Effect → Type 0
NoCacheProgram (CacheProgramStarted at) = ⊥
NoCacheProgram _ = Unit {0}

pub spare_after : (e : Effect) (v : LunView) → NoCacheProgram e → IsSpare v → IsSpare (view_after e v)
spare_after Unaffected v never p = record { closer = p.closer; array = p.array }
spare_after DataOutputEnabled v never p = record { closer = p.closer; array = p.array }
spare_after StatusSelected v never p = record { closer = p.closer; array = p.array }
spare_after StatusRowAwaited v never p = record { closer = p.closer; array = p.array }
spare_after SelectedForStatus v never p = record { closer = p.closer; array = p.array }
spare_after Deselected v never p = record { closer = p.closer; array = p.array }
spare_after ProgramAddressed v never p = record { closer = p.closer; array = p.array }
spare_after (ReadColumnChanged from) v never p = record { closer = p.closer; array = p.array }
spare_after (PlaneSelected plane count from) v never p = record { closer = p.closer; array = p.array }
spare_after DataOutput v never p = record { closer = p.closer; array = p.array }
spare_after StatusOfSelected v never p = record { closer = p.closer; array = p.array }
spare_after (AnotherAddressed reads) v never p = record { closer = p.closer; array = p.array }
spare_after (BecameReady failed) v never p = record { closer = p.closer; array = λ h. none_comes v.array_busy v.busy (leaves_array_busy v.closer) (p.array h) (plane_leaves v.closer h) }
spare_after (ArrayBecameReady failed) v never p = record { closer = p.closer; array = λ h. refl }
spare_after (ProgramStarted true at) v never p = record { closer = refl; array = λ h. spare_keeps v p }
spare_after (ProgramStarted false at) v never p = record { closer = refl; array = λ h. refl }
spare_after (EraseStarted true at) v never p = record { closer = refl; array = λ h. refl }
spare_after (EraseStarted false at) v never p = record { closer = refl; array = λ h. refl }
spare_after (ReadStarted at from) v never p = record { closer = refl; array = λ h. refl }
spare_after (ReadQueued at) v never p = record { closer = refl; array = λ h. refl }
spare_after (CopybackReadStarted at from count) v never p = record { closer = refl; array = λ h. refl }
spare_after IdRead v never p = record { closer = refl; array = λ h. refl }
spare_after (IdentityRead jedec) v never p = record { closer = refl; array = λ h. refl }
spare_after UniqueIdReadStarted v never p = record { closer = refl; array = λ h. refl }
spare_after (FeaturesReadStarted address) v never p = record { closer = refl; array = λ h. refl }
spare_after (FeaturesSet address) v never p = record { closer = refl; array = λ h. refl }
spare_after ParameterPageReadStarted v never p = record { closer = refl; array = λ h. refl }
spare_after (CacheReadContinued to) v never p = record { closer = refl; array = λ h. refl }
spare_after CacheReadEnded v never p = record { closer = refl; array = λ h. refl }
spare_after ResetStarted v never p = record { closer = refl; array = λ h. refl }
spare_after (TargetResetStarted first) v never p = record { closer = refl; array = λ h. refl }
spare_after (CacheProgramStarted at) v never p = absurd never

-- what an effect asks of the LUN: a read of a page has no queue where the chip reads one plane at once, none is seen where a plane is chosen, a cache read
-- goes on from a read of a page, and one that ends goes on. Three come only where a target is shared, a read for a copyback where a chip has that, and a program that goes on behind its ready too
abbrev pub Asks : (planes : Bool) → Effect → LunView → LunView → Type 0
Asks planes (ReadStarted at from) t s = planes ≡ false → t.queue ≡ []
Asks planes (CopybackReadStarted at from count) t s = ⊥
Asks planes (CacheProgramStarted at) t s = ⊥
Asks planes (PlaneSelected plane count from) t s = s.queue ≡ []
Asks planes (CacheReadContinued to) t s = is_page_read s.closer ≡ true
Asks planes CacheReadEnded t s = is_cache_read s.closer ≡ true
Asks planes (TargetResetStarted first) t s = ⊥
Asks planes StatusOfSelected t s = ⊥
Asks planes (AnotherAddressed reads) t s = ⊥
Asks planes _ t s = Unit {0}

-- and what it needs to be known: which reads are queued, where it is a read of a page
abbrev pub Needs : Effect → LunView → LunView → Type 0
Needs (ReadStarted at from) t s = pages_of_reads t.queue ≡ pages_of_reads s.queue
Needs _ t s = Unit {0}

pages_same : (planes : Bool) (t s : List Queued) → Within s t → (planes ≡ false → t ≡ []) → (planes ≡ true → pages_of_reads t ≡ pages_of_reads s) → pages_of_reads t ≡ pages_of_reads s
pages_same true t s w none known = known refl
pages_same false t s w none known = none_read t s (none refl) w

needed : (planes : Bool) (e : Effect) (t s : LunView) → IsBelow t s → Asks planes e t s → (planes ≡ true → pages_of_reads t.queue ≡ pages_of_reads s.queue) → Needs e t s
needed planes (ReadStarted at from) t s b asks known = pages_same planes t.queue s.queue b.queue asks known
needed planes e t s b asks known = tt

pub below_after : (planes : Bool) (e : Effect) (t s : LunView) → IsBelow t s → Asks planes e t s → IsBelow (view_after e t) (view_after e s)
below_after planes Unaffected t s b asks = record { busy = b.busy; queue = b.queue; latch = b.latch; calm = b.calm; spare = spare_after Unaffected t tt b.spare; spare_seen = spare_after Unaffected s tt b.spare_seen }
below_after planes DataOutputEnabled t s b asks = record { busy = b.busy; queue = b.queue; latch = shows_resumed s.latch t.latch b.latch; calm = b.calm; spare = spare_after DataOutputEnabled t tt b.spare; spare_seen = spare_after DataOutputEnabled s tt b.spare_seen }
below_after planes StatusSelected t s b asks = record { busy = b.busy; queue = b.queue; latch = refl; calm = b.calm; spare = spare_after StatusSelected t tt b.spare; spare_seen = spare_after StatusSelected s tt b.spare_seen }
below_after planes StatusRowAwaited t s b asks = record { busy = b.busy; queue = b.queue; latch = b.latch; calm = b.calm; spare = spare_after StatusRowAwaited t tt b.spare; spare_seen = spare_after StatusRowAwaited s tt b.spare_seen }
below_after planes SelectedForStatus t s b asks = record { busy = b.busy; queue = b.queue; latch = refl; calm = b.calm; spare = spare_after SelectedForStatus t tt b.spare; spare_seen = spare_after SelectedForStatus s tt b.spare_seen }
below_after planes Deselected t s b asks = record { busy = b.busy; queue = b.queue; latch = tt; calm = b.calm; spare = spare_after Deselected t tt b.spare; spare_seen = spare_after Deselected s tt b.spare_seen }
below_after planes (ReadStarted at from) t s b asks = record { busy = λ h. refl; queue = λ test h. h; latch = refl; calm = λ h. refl; spare = spare_after (ReadStarted at from) t tt b.spare; spare_seen = spare_after (ReadStarted at from) s tt b.spare_seen }
below_after planes (ReadQueued at) t s b asks = record { busy = λ h. refl; queue = within_more (QueuedRead at) s.queue t.queue b.queue; latch = refl; calm = λ h. cc; spare = spare_after (ReadQueued at) t tt b.spare; spare_seen = spare_after (ReadQueued at) s tt b.spare_seen }
below_after planes (CopybackReadStarted at from count) t s b asks = absurd asks
below_after planes ProgramAddressed t s b asks = record { busy = b.busy; queue = b.queue; latch = b.latch; calm = b.calm; spare = spare_after ProgramAddressed t tt b.spare; spare_seen = spare_after ProgramAddressed s tt b.spare_seen }
below_after planes (EraseStarted queued at) t s b asks = record { busy = λ h. refl; queue = queue_within queued (Erase at) s.queue t.queue b.queue; latch = b.latch; calm = λ h. absurd (no_page_erased queued h); spare = spare_after (EraseStarted queued at) t tt b.spare; spare_seen = spare_after (EraseStarted queued at) s tt b.spare_seen }
below_after planes (ProgramStarted queued at) t s b asks = record { busy = λ h. refl; queue = queue_within queued (Program at) s.queue t.queue b.queue; latch = b.latch; calm = λ h. absurd (no_page_programmed queued h); spare = spare_after (ProgramStarted queued at) t tt b.spare; spare_seen = spare_after (ProgramStarted queued at) s tt b.spare_seen }
below_after planes IdRead t s b asks = record { busy = b.busy; queue = b.queue; latch = refl; calm = λ h. cc; spare = spare_after IdRead t tt b.spare; spare_seen = spare_after IdRead s tt b.spare_seen }
below_after planes (IdentityRead jedec) t s b asks = record { busy = b.busy; queue = b.queue; latch = refl; calm = λ h. cc; spare = spare_after (IdentityRead jedec) t tt b.spare; spare_seen = spare_after (IdentityRead jedec) s tt b.spare_seen }
below_after planes UniqueIdReadStarted t s b asks = record { busy = λ h. refl; queue = b.queue; latch = refl; calm = λ h. cc; spare = spare_after UniqueIdReadStarted t tt b.spare; spare_seen = spare_after UniqueIdReadStarted s tt b.spare_seen }
below_after planes (FeaturesReadStarted address) t s b asks = record { busy = λ h. refl; queue = b.queue; latch = refl; calm = λ h. cc; spare = spare_after (FeaturesReadStarted address) t tt b.spare; spare_seen = spare_after (FeaturesReadStarted address) s tt b.spare_seen }
below_after planes (FeaturesSet address) t s b asks = record { busy = λ h. refl; queue = b.queue; latch = b.latch; calm = λ h. cc; spare = spare_after (FeaturesSet address) t tt b.spare; spare_seen = spare_after (FeaturesSet address) s tt b.spare_seen }
below_after planes ParameterPageReadStarted t s b asks = record { busy = λ h. refl; queue = b.queue; latch = refl; calm = λ h. cc; spare = spare_after ParameterPageReadStarted t tt b.spare; spare_seen = spare_after ParameterPageReadStarted s tt b.spare_seen }
below_after planes (CacheReadContinued to) t s b asks = record { busy = λ h. refl; queue = b.queue; latch = refl; calm = λ h. b.calm asks; spare = spare_after (CacheReadContinued to) t tt b.spare; spare_seen = spare_after (CacheReadContinued to) s tt b.spare_seen }
below_after planes CacheReadEnded t s b asks = record { busy = λ h. refl; queue = b.queue; latch = refl; calm = λ h. cc; spare = spare_after CacheReadEnded t tt b.spare; spare_seen = spare_after CacheReadEnded s tt b.spare_seen }
below_after planes (ReadColumnChanged from) t s b asks = record { busy = b.busy; queue = b.queue; latch = b.latch; calm = b.calm; spare = spare_after (ReadColumnChanged from) t tt b.spare; spare_seen = spare_after (ReadColumnChanged from) s tt b.spare_seen }
below_after planes (PlaneSelected plane count from) t s b asks = record { busy = b.busy; queue = b.queue; latch = refl; calm = b.calm; spare = spare_after (PlaneSelected plane count from) t tt b.spare; spare_seen = spare_after (PlaneSelected plane count from) s tt b.spare_seen }
below_after planes DataOutput t s b asks = record { busy = b.busy; queue = b.queue; latch = b.latch; calm = b.calm; spare = spare_after DataOutput t tt b.spare; spare_seen = spare_after DataOutput s tt b.spare_seen }
below_after planes ResetStarted t s b asks = record { busy = λ h. refl; queue = λ test h. h; latch = tt; calm = λ h. refl; spare = spare_after ResetStarted t tt b.spare; spare_seen = spare_after ResetStarted s tt b.spare_seen }
below_after planes (BecameReady failed) t s b asks = record { busy = λ h. h; queue = b.queue; latch = b.latch; calm = b.calm; spare = spare_after (BecameReady failed) t tt b.spare; spare_seen = spare_after (BecameReady failed) s tt b.spare_seen }
below_after planes (ArrayBecameReady failed) t s b asks = record { busy = b.busy; queue = b.queue; latch = b.latch; calm = b.calm; spare = spare_after (ArrayBecameReady failed) t tt b.spare; spare_seen = spare_after (ArrayBecameReady failed) s tt b.spare_seen }
below_after planes (CacheProgramStarted at) t s b asks = absurd asks
below_after planes (TargetResetStarted first) t s b asks = absurd asks
below_after planes StatusOfSelected t s b asks = absurd asks
below_after planes (AnotherAddressed reads) t s b asks = absurd asks

-- a cache read that goes on has read a page
pub reads_on : (c : Option Command) → is_cache_read c ≡ true → is_page_read c ≡ true
reads_on (Some ReadCacheSequential) h = refl
reads_on (Some c) h = cc
reads_on None h = cc

more_out : (k m : ReadColumn) → k ≡ m → read_column_after DataOutput k ≡ read_column_after DataOutput m
more_out k m h = ap (read_column_after DataOutput) h

pub begun_after : (planes : Bool) (e : Effect) (t s : LunView) → IsBegun t s → Asks planes e t s → Needs e t s → IsBegun (view_after e t) (view_after e s)
begun_after planes Unaffected t s g asks need = record { busy = g.busy; closer = g.closer; array_busy = g.array_busy; page = g.page; register = g.register; column = g.column; held = g.held }
begun_after planes DataOutputEnabled t s g asks need = record { busy = g.busy; closer = g.closer; array_busy = g.array_busy; page = g.page; register = g.register; column = g.column; held = g.held }
begun_after planes StatusSelected t s g asks need = record { busy = g.busy; closer = g.closer; array_busy = g.array_busy; page = g.page; register = g.register; column = λ h. ap (read_column_after StatusSelected) (g.column h); held = g.held }
begun_after planes StatusRowAwaited t s g asks need = record { busy = g.busy; closer = g.closer; array_busy = g.array_busy; page = g.page; register = g.register; column = λ h. ap (read_column_after StatusRowAwaited) (g.column h); held = g.held }
begun_after planes SelectedForStatus t s g asks need = record { busy = g.busy; closer = g.closer; array_busy = g.array_busy; page = g.page; register = g.register; column = g.column; held = g.held }
begun_after planes Deselected t s g asks need = record { busy = g.busy; closer = g.closer; array_busy = g.array_busy; page = g.page; register = g.register; column = g.column; held = g.held }
begun_after planes (ReadStarted at from) t s g asks need = record { busy = refl; closer = refl; array_busy = refl; page = λ h. refl; register = ap (λ (b : Bool). cond b Empty (Page at)) (same_reads t.queue s.queue need); column = λ h. refl; held = λ h. ap (λ pages. take 4 (at ∷ pages)) need }
begun_after planes (ReadQueued at) t s g asks need = record { busy = refl; closer = refl; array_busy = refl; page = λ h. cc; register = refl; column = λ h. cc; held = λ h. refl }
begun_after planes (CopybackReadStarted at from count) t s g asks need = absurd asks
begun_after planes ProgramAddressed t s g asks need = record { busy = g.busy; closer = g.closer; array_busy = g.array_busy; page = g.page; register = g.register; column = g.column; held = λ h. refl }
begun_after planes (EraseStarted queued at) t s g asks need = record { busy = refl; closer = refl; array_busy = refl; page = λ h. absurd (no_page_erased queued h); register = refl; column = λ h. cc; held = λ h. refl }
begun_after planes (CacheProgramStarted at) t s g asks need = absurd asks
begun_after planes (ProgramStarted queued at) t s g asks need = record { busy = refl; closer = refl; array_busy = ap (λ c. queued && (keeps_array_busy c && t.array_busy)) g.closer ∙ ap (λ b. queued && (keeps_array_busy s.closer && b)) g.array_busy; page = λ h. absurd (no_page_programmed queued h); register = refl; column = λ h. cc; held = λ h. held_left queued (Program at) s.queue t.held s.held h }
begun_after planes IdRead t s g asks need = record { busy = g.busy; closer = refl; array_busy = refl; page = λ h. cc; register = refl; column = λ h. refl; held = λ h. refl }
begun_after planes (IdentityRead jedec) t s g asks need = record { busy = g.busy; closer = refl; array_busy = refl; page = λ h. cc; register = refl; column = λ h. refl; held = λ h. refl }
begun_after planes UniqueIdReadStarted t s g asks need = record { busy = refl; closer = refl; array_busy = refl; page = λ h. cc; register = refl; column = λ h. refl; held = λ h. refl }
begun_after planes (FeaturesReadStarted address) t s g asks need = record { busy = refl; closer = refl; array_busy = refl; page = λ h. cc; register = refl; column = λ h. refl; held = λ h. refl }
begun_after planes (FeaturesSet address) t s g asks need = record { busy = refl; closer = refl; array_busy = refl; page = λ h. cc; register = refl; column = λ h. cc; held = λ h. refl }
begun_after planes ParameterPageReadStarted t s g asks need = record { busy = refl; closer = refl; array_busy = refl; page = λ h. cc; register = refl; column = λ h. refl; held = λ h. refl }
begun_after planes (CacheReadContinued None) t s g asks need = record { busy = refl; closer = refl; array_busy = refl; page = λ h. ap next_page (g.page asks); register = ap Page (g.page asks); column = λ h. refl; held = λ h. ap (λ (p : PageAddress). p ∷ []) (g.page asks) }
begun_after planes (CacheReadContinued (Some page)) t s g asks need = record { busy = refl; closer = refl; array_busy = refl; page = λ h. refl; register = ap Page (g.page asks); column = λ h. refl; held = λ h. ap (λ (p : PageAddress). p ∷ []) (g.page asks) }
begun_after planes CacheReadEnded t s g asks need = record { busy = refl; closer = refl; array_busy = refl; page = λ h. cc; register = ap Page (g.page (reads_on s.closer asks)); column = λ h. refl; held = λ h. ap (λ (p : PageAddress). p ∷ []) (g.page (reads_on s.closer asks)) }
begun_after planes (ReadColumnChanged from) t s g asks need = record { busy = g.busy; closer = g.closer; array_busy = g.array_busy; page = g.page; register = g.register; column = λ h. refl; held = g.held }
begun_after planes (PlaneSelected plane count from) t s g asks need = record { busy = g.busy; closer = g.closer; array_busy = g.array_busy; page = g.page; register = ap (λ (held : List PageAddress). register_of_plane (page_in_plane count plane held)) (g.held (ap has_some asks)); column = λ h. refl; held = g.held }
begun_after planes DataOutput t s g asks need = record { busy = g.busy; closer = g.closer; array_busy = g.array_busy; page = g.page; register = g.register; column = λ h. more_out t.column s.column (g.column h); held = g.held }
begun_after planes ResetStarted t s g asks need = record { busy = refl; closer = refl; array_busy = refl; page = λ h. cc; register = refl; column = λ h. cc; held = λ h. refl }
begun_after planes (BecameReady failed) t s g asks need =
    record {
      busy = refl;
      closer = g.closer;
      array_busy = ap (λ b. b || (t.busy && leaves_array_busy t.closer)) g.array_busy ∙ ap (λ b. s.array_busy || (b && leaves_array_busy t.closer)) g.busy ∙ ap (λ c. s.array_busy || (s.busy && leaves_array_busy c)) g.closer;
      page = g.page;
      register = g.register;
      column = g.column;
      held = g.held;
    }
begun_after planes (ArrayBecameReady failed) t s g asks need = record { busy = g.busy; closer = g.closer; array_busy = refl; page = g.page; register = g.register; column = g.column; held = g.held }
begun_after planes (TargetResetStarted first) t s g asks need = absurd asks
begun_after planes StatusOfSelected t s g asks need = absurd asks
begun_after planes (AnotherAddressed reads) t s g asks need = absurd asks

-- an effect by which the LUN begins work anew, and not by a cache read that goes on or ends
pub begun_by : (planes : Bool) (e : Effect) (t s : LunView) → IsBelow t s → Asks planes e t s → Needs e t s → s.busy ≡ false → (view_after e s).busy ≡ true → (is_cache_read s.closer || is_cache_read (view_after e s).closer) ≡ false → IsBegun (view_after e t) (view_after e s)
begun_by planes Unaffected t s b asks need idle busy new = cc
begun_by planes DataOutputEnabled t s b asks need idle busy new = cc
begun_by planes StatusSelected t s b asks need idle busy new = cc
begun_by planes StatusRowAwaited t s b asks need idle busy new = cc
begun_by planes SelectedForStatus t s b asks need idle busy new = cc
begun_by planes Deselected t s b asks need idle busy new = cc
begun_by planes (ReadStarted at from) t s b asks need idle busy new = record { busy = refl; closer = refl; array_busy = refl; page = λ h. refl; register = ap (λ (b : Bool). cond b Empty (Page at)) (same_reads t.queue s.queue need); column = λ h. refl; held = λ h. ap (λ pages. take 4 (at ∷ pages)) need }
begun_by planes (ReadQueued at) t s b asks need idle busy new = record { busy = refl; closer = refl; array_busy = refl; page = λ h. cc; register = refl; column = λ h. cc; held = λ h. refl }
begun_by planes (CopybackReadStarted at from count) t s b asks need idle busy new = absurd asks
begun_by planes ProgramAddressed t s b asks need idle busy new = cc
begun_by planes (EraseStarted queued at) t s b asks need idle busy new = record { busy = refl; closer = refl; array_busy = refl; page = λ h. absurd (no_page_erased queued h); register = refl; column = λ h. cc; held = λ h. refl }
begun_by planes (CacheProgramStarted at) t s b asks need idle busy new = absurd asks
begun_by planes (ProgramStarted queued at) t s b asks need idle busy new = record { busy = refl; closer = refl; array_busy = ap (λ (x : Bool). queued && x) (spare_keeps t b.spare ∙ sym (spare_keeps s b.spare_seen)); page = λ h. absurd (no_page_programmed queued h); register = refl; column = λ h. cc; held = λ h. held_left queued (Program at) s.queue t.held s.held h }
begun_by planes IdRead t s b asks need idle busy new = cc
begun_by planes (IdentityRead jedec) t s b asks need idle busy new = cc
begun_by planes UniqueIdReadStarted t s b asks need idle busy new = record { busy = refl; closer = refl; array_busy = refl; page = λ h. cc; register = refl; column = λ h. refl; held = λ h. refl }
begun_by planes (FeaturesReadStarted address) t s b asks need idle busy new = record { busy = refl; closer = refl; array_busy = refl; page = λ h. cc; register = refl; column = λ h. refl; held = λ h. refl }
begun_by planes (FeaturesSet address) t s b asks need idle busy new = record { busy = refl; closer = refl; array_busy = refl; page = λ h. cc; register = refl; column = λ h. cc; held = λ h. refl }
begun_by planes ParameterPageReadStarted t s b asks need idle busy new = record { busy = refl; closer = refl; array_busy = refl; page = λ h. cc; register = refl; column = λ h. refl; held = λ h. refl }
begun_by planes (CacheReadContinued to) t s b asks need idle busy new = let reads = (or_parts (is_cache_read s.closer) true new).1 in cc
begun_by planes CacheReadEnded t s b asks need idle busy new = let none = (or_parts (is_cache_read s.closer) false new).0 in let reads : true ≡ false = sym asks ∙ none in cc
begun_by planes (ReadColumnChanged from) t s b asks need idle busy new = cc
begun_by planes (PlaneSelected plane count from) t s b asks need idle busy new = cc
begun_by planes DataOutput t s b asks need idle busy new = cc
begun_by planes ResetStarted t s b asks need idle busy new = record { busy = refl; closer = refl; array_busy = refl; page = λ h. cc; register = refl; column = λ h. cc; held = λ h. refl }
begun_by planes (BecameReady failed) t s b asks need idle busy new = cc
begun_by planes (ArrayBecameReady failed) t s b asks need idle busy new = cc
begun_by planes (TargetResetStarted first) t s b asks need idle busy new = record { busy = refl; closer = refl; array_busy = refl; page = λ h. cc; register = refl; column = λ h. cc; held = λ h. refl }
begun_by planes StatusOfSelected t s b asks need idle busy new = cc
begun_by planes (AnotherAddressed reads) t s b asks need idle busy new = cc

pub same_after : (planes : Bool) (e : Effect) (t s : LunView) → Asks planes e t s → IsSame t s → IsSame (view_after e t) (view_after e s)
same_after planes Unaffected t s asks m = record { off = m.off; latch = m.latch }
same_after planes DataOutputEnabled t s asks m = record { off = resumed_off t.latch ∙ m.off ∙ sym (resumed_off s.latch); latch = λ h. ap resumed (m.latch h) }
same_after planes StatusSelected t s asks m = record { off = refl; latch = λ h. refl }
same_after planes StatusRowAwaited t s asks m = record { off = m.off; latch = m.latch }
same_after planes SelectedForStatus t s asks m = record { off = refl; latch = λ h. refl }
same_after planes Deselected t s asks m = record { off = refl; latch = λ h. refl }
same_after planes (ReadStarted at from) t s asks m = record { off = refl; latch = λ h. refl }
same_after planes (ReadQueued at) t s asks m = record { off = refl; latch = λ h. refl }
same_after planes (CopybackReadStarted at from count) t s asks m = absurd asks
same_after planes ProgramAddressed t s asks m = record { off = m.off; latch = m.latch }
same_after planes (EraseStarted queued at) t s asks m = record { off = m.off; latch = λ h. cc }
same_after planes (CacheProgramStarted at) t s asks m = absurd asks
same_after planes (ProgramStarted queued at) t s asks m = record { off = m.off; latch = λ h. cc }
same_after planes IdRead t s asks m = record { off = refl; latch = λ h. refl }
same_after planes (IdentityRead jedec) t s asks m = record { off = refl; latch = λ h. refl }
same_after planes UniqueIdReadStarted t s asks m = record { off = refl; latch = λ h. refl }
same_after planes (FeaturesReadStarted address) t s asks m = record { off = refl; latch = λ h. refl }
same_after planes (FeaturesSet address) t s asks m = record { off = m.off; latch = λ h. cc }
same_after planes ParameterPageReadStarted t s asks m = record { off = refl; latch = λ h. refl }
same_after planes (CacheReadContinued to) t s asks m = record { off = refl; latch = λ h. refl }
same_after planes CacheReadEnded t s asks m = record { off = refl; latch = λ h. refl }
same_after planes (ReadColumnChanged from) t s asks m = record { off = m.off; latch = m.latch }
same_after planes (PlaneSelected plane count from) t s asks m = record { off = refl; latch = λ h. refl }
same_after planes DataOutput t s asks m = record { off = m.off; latch = m.latch }
same_after planes ResetStarted t s asks m = record { off = refl; latch = λ h. refl }
same_after planes (BecameReady failed) t s asks m = record { off = m.off; latch = m.latch }
same_after planes (ArrayBecameReady failed) t s asks m = record { off = m.off; latch = m.latch }
same_after planes (TargetResetStarted first) t s asks m = absurd asks
same_after planes StatusOfSelected t s asks m = absurd asks
same_after planes (AnotherAddressed reads) t s asks m = absurd asks

-- an effect by which the LUN is seen to drive the bus, and wasn't
pub driven_by : (planes : Bool) (e : Effect) (t s : LunView) → Asks planes e t s → is_off s.latch ≡ true → is_off (view_after e s).latch ≡ false → IsSame (view_after e t) (view_after e s)
driven_by planes Unaffected t s asks off on = cc
driven_by planes DataOutputEnabled t s asks off on = let kept = resumed_off s.latch in cc
driven_by planes StatusSelected t s asks off on = record { off = refl; latch = λ h. refl }
driven_by planes StatusRowAwaited t s asks off on = cc
driven_by planes SelectedForStatus t s asks off on = record { off = refl; latch = λ h. refl }
driven_by planes Deselected t s asks off on = cc
driven_by planes (ReadStarted at from) t s asks off on = record { off = refl; latch = λ h. refl }
driven_by planes (ReadQueued at) t s asks off on = record { off = refl; latch = λ h. refl }
driven_by planes (CopybackReadStarted at from count) t s asks off on = absurd asks
driven_by planes ProgramAddressed t s asks off on = cc
driven_by planes (EraseStarted queued at) t s asks off on = cc
driven_by planes (CacheProgramStarted at) t s asks off on = absurd asks
driven_by planes (ProgramStarted queued at) t s asks off on = cc
driven_by planes IdRead t s asks off on = record { off = refl; latch = λ h. refl }
driven_by planes (IdentityRead jedec) t s asks off on = record { off = refl; latch = λ h. refl }
driven_by planes UniqueIdReadStarted t s asks off on = record { off = refl; latch = λ h. refl }
driven_by planes (FeaturesReadStarted address) t s asks off on = record { off = refl; latch = λ h. refl }
driven_by planes (FeaturesSet address) t s asks off on = cc
driven_by planes ParameterPageReadStarted t s asks off on = record { off = refl; latch = λ h. refl }
driven_by planes (CacheReadContinued to) t s asks off on = record { off = refl; latch = λ h. refl }
driven_by planes CacheReadEnded t s asks off on = record { off = refl; latch = λ h. refl }
driven_by planes (ReadColumnChanged from) t s asks off on = cc
driven_by planes (PlaneSelected plane count from) t s asks off on = record { off = refl; latch = λ h. refl }
driven_by planes DataOutput t s asks off on = cc
driven_by planes ResetStarted t s asks off on = cc
driven_by planes (BecameReady failed) t s asks off on = cc
driven_by planes (ArrayBecameReady failed) t s asks off on = cc
driven_by planes (TargetResetStarted first) t s asks off on = cc
driven_by planes StatusOfSelected t s asks off on = absurd asks
driven_by planes (AnotherAddressed reads) t s asks off on = absurd asks

-- an effect by which it begins work, where it is seen to drive the bus
pub same_begun : (e : Effect) (t s : LunView) → s.busy ≡ false → (view_after e s).busy ≡ true → is_off (view_after e t).latch ≡ is_off (view_after e s).latch → IsSame (view_after e t) (view_after e s)
same_begun Unaffected t s idle busy off = cc
same_begun DataOutputEnabled t s idle busy off = cc
same_begun StatusSelected t s idle busy off = cc
same_begun StatusRowAwaited t s idle busy off = cc
same_begun SelectedForStatus t s idle busy off = cc
same_begun Deselected t s idle busy off = cc
same_begun (ReadStarted at from) t s idle busy off = record { off = off; latch = λ h. refl }
same_begun (ReadQueued at) t s idle busy off = record { off = off; latch = λ h. refl }
same_begun (CopybackReadStarted at from count) t s idle busy off = record { off = off; latch = λ h. refl }
same_begun ProgramAddressed t s idle busy off = cc
same_begun (EraseStarted queued at) t s idle busy off = record { off = off; latch = λ h. cc }
same_begun (ProgramStarted queued at) t s idle busy off = record { off = off; latch = λ h. cc }
same_begun (CacheProgramStarted at) t s idle busy off = record { off = off; latch = λ h. cc }
same_begun IdRead t s idle busy off = cc
same_begun (IdentityRead jedec) t s idle busy off = cc
same_begun UniqueIdReadStarted t s idle busy off = record { off = off; latch = λ h. refl }
same_begun (FeaturesReadStarted address) t s idle busy off = record { off = off; latch = λ h. refl }
same_begun (FeaturesSet address) t s idle busy off = record { off = off; latch = λ h. cc }
same_begun ParameterPageReadStarted t s idle busy off = record { off = off; latch = λ h. refl }
same_begun (CacheReadContinued to) t s idle busy off = record { off = off; latch = λ h. refl }
same_begun CacheReadEnded t s idle busy off = record { off = off; latch = λ h. refl }
same_begun (ReadColumnChanged from) t s idle busy off = cc
same_begun (PlaneSelected plane count from) t s idle busy off = cc
same_begun DataOutput t s idle busy off = cc
same_begun ResetStarted t s idle busy off = record { off = off; latch = λ h. cc }
same_begun (BecameReady failed) t s idle busy off = cc
same_begun (ArrayBecameReady failed) t s idle busy off = cc
same_begun (TargetResetStarted first) t s idle busy off = record { off = off; latch = λ h. cc }
same_begun StatusOfSelected t s idle busy off = cc
same_begun (AnotherAddressed reads) t s idle busy off = cc

-- ---- 4. what is learned

abbrev begins_by : Effect → LunView → Bool
begins_by e s = not s.busy && ((view_after e s).busy && not (is_cache_read s.closer || is_cache_read (view_after e s).closer))

abbrev drives_by : Item → Effect → LunView → Bool
drives_by i e s = not (is_off (view_after e s).latch) || (begins_by e s && is_reset i)

record Begins (e : Effect) (s : LunView) : Type 0 where
  idle : s.busy ≡ false
  busy : (view_after e s).busy ≡ true
  new : (is_cache_read s.closer || is_cache_read (view_after e s).closer) ≡ false

begins_of : (e : Effect) (s : LunView) → begins_by e s ≡ true → Begins e s
begins_of e s h =
    let a = and_parts (not s.busy) ((view_after e s).busy && not (is_cache_read s.closer || is_cache_read (view_after e s).closer)) h in
    let b = and_parts (view_after e s).busy (not (is_cache_read s.closer || is_cache_read (view_after e s).closer)) a.1 in
    record { idle = not-true s.busy a.0; busy = b.0; new = not-true (is_cache_read s.closer || is_cache_read (view_after e s).closer) b.1 }

-- a LUN that isn't busy, begins work and then has a page in its register was given a read of a page
page_queue : (planes : Bool) (e : Effect) (t s : LunView) → Asks planes e t s → s.busy ≡ false → (view_after e s).busy ≡ true → (is_cache_read s.closer || is_cache_read (view_after e s).closer) ≡ false → is_page (view_after e s).register ≡ true →
    pages_of_reads (view_after e t).queue ≡ pages_of_reads (view_after e s).queue
page_queue planes Unaffected t s asks idle busy new page = cc
page_queue planes DataOutputEnabled t s asks idle busy new page = cc
page_queue planes StatusSelected t s asks idle busy new page = cc
page_queue planes StatusRowAwaited t s asks idle busy new page = cc
page_queue planes SelectedForStatus t s asks idle busy new page = cc
page_queue planes Deselected t s asks idle busy new page = cc
page_queue planes (ReadStarted at from) t s asks idle busy new page = refl
page_queue planes (ReadQueued at) t s asks idle busy new page = cc
page_queue planes (CopybackReadStarted at from count) t s asks idle busy new page = absurd asks
page_queue planes ProgramAddressed t s asks idle busy new page = cc
page_queue planes (EraseStarted queued at) t s asks idle busy new page = cc
page_queue planes (CacheProgramStarted at) t s asks idle busy new page = absurd asks
page_queue planes (ProgramStarted queued at) t s asks idle busy new page = cc
page_queue planes IdRead t s asks idle busy new page = cc
page_queue planes (IdentityRead jedec) t s asks idle busy new page = cc
page_queue planes UniqueIdReadStarted t s asks idle busy new page = cc
page_queue planes (FeaturesReadStarted address) t s asks idle busy new page = cc
page_queue planes (FeaturesSet address) t s asks idle busy new page = cc
page_queue planes ParameterPageReadStarted t s asks idle busy new page = cc
page_queue planes (CacheReadContinued to) t s asks idle busy new page = let reads = (or_parts (is_cache_read s.closer) true new).1 in cc
page_queue planes CacheReadEnded t s asks idle busy new page = let none = (or_parts (is_cache_read s.closer) false new).0 in let reads : true ≡ false = sym asks ∙ none in cc
page_queue planes (ReadColumnChanged from) t s asks idle busy new page = cc
page_queue planes (PlaneSelected plane count from) t s asks idle busy new page = cc
page_queue planes DataOutput t s asks idle busy new page = cc
page_queue planes ResetStarted t s asks idle busy new page = cc
page_queue planes (BecameReady failed) t s asks idle busy new page = cc
page_queue planes (ArrayBecameReady failed) t s asks idle busy new page = cc
page_queue planes (TargetResetStarted first) t s asks idle busy new page = cc
page_queue planes StatusOfSelected t s asks idle busy new page = cc
page_queue planes (AnotherAddressed reads) t s asks idle busy new page = cc

-- what is known of the queued reads stays known
reads_after : (e : Effect) (t s : LunView) → pages_of_reads t.queue ≡ pages_of_reads s.queue → pages_of_reads (view_after e t).queue ≡ pages_of_reads (view_after e s).queue
reads_after (ReadStarted at from) t s h = refl
reads_after (ReadQueued at) t s h = ap (λ (pages : List PageAddress). at ∷ pages) h
reads_after (CopybackReadStarted at from count) t s h = refl
reads_after (EraseStarted queued at) t s h = reads_left queued (Erase at ∷ t.queue) (Erase at ∷ s.queue) [] [] h refl
reads_after (ProgramStarted queued at) t s h = reads_left queued (Program at ∷ t.queue) (Program at ∷ s.queue) [] [] h refl
reads_after (CacheProgramStarted at) t s h = refl
reads_after ResetStarted t s h = refl
reads_after (TargetResetStarted first) t s h = refl
reads_after e t s h = h

reset_begun : (t s : LunView) → IsBegun (view_after ResetStarted t) (view_after ResetStarted s)
reset_begun t s = record { busy = refl; closer = refl; array_busy = refl; page = λ h. cc; register = refl; column = λ h. cc; held = λ h. refl }

module _ (planes : Bool) (i : Item) (e : Effect) (t s : LunView) (below : IsBelow (view_after e t) (view_after e s)) (asks : Asks planes e t s) (resets : is_reset i ≡ true → e ≡ ResetStarted) where
  -- it begins work, and drives the bus or is reset
  same_anew : begins_by e s ≡ true → drives_by i e s ≡ true → IsSame (view_after e t) (view_after e s)
  same_anew begins drives = at (is_off (view_after e s).latch) refl
    where
      b : Begins e s
      b = begins_of e s begins

      reset : is_off (view_after e s).latch ≡ true → is_reset i ≡ true
      reset off = (and_parts (begins_by e s) (is_reset i) (rw off at drives)).1

      of_reset : e ≡ ResetStarted → is_off (view_after e t).latch ≡ is_off (view_after e s).latch
      of_reset h = rw h refl

      at : (o : Bool) → is_off (view_after e s).latch ≡ o → IsSame (view_after e t) (view_after e s)
      at true off = same_begun e t s b.idle b.busy (of_reset (resets (reset off)))
      at false on = same_begun e t s b.idle b.busy (shows_on (view_after e s).latch (view_after e t).latch below.latch on ∙ sym on)

  abbrev Reads : Type 0
  Reads = planes ≡ true → pages_of_reads (view_after e t).queue ≡ pages_of_reads (view_after e s).queue

  -- the first work of a LUN that tells all but what it drives
  started_fits : (d : Bool) → begins_by e s ≡ true → drives_by i e s ≡ d → Reads → IsBegun (view_after e t) (view_after e s) → Fits planes (once_begun d) (view_after e t) (view_after e s)
  started_fits true begins drives reads begun = record { below = below; queue = λ p h. reads p; begun = λ h. begun; same = λ h. same_anew begins drives; off = λ h g. cc }
  started_fits false begins drives reads begun =
      let o = or_parts (not (is_off (view_after e s).latch)) (begins_by e s && is_reset i) drives in
      record { below = below; queue = λ p h. reads p; begun = λ h. begun; same = λ h. cc; off = λ h g. not-false (is_off (view_after e s).latch) o.0 }

  unknown_fits : Fits planes Nothing (view_after e t) (view_after e s)
  unknown_fits = record { below = below; queue = λ p h. cc; begun = λ h. cc; same = λ h. cc; off = λ h g. cc }

  queue_fits : Reads → Fits planes Queue (view_after e t) (view_after e s)
  queue_fits reads = record { below = below; queue = λ p h. reads p; begun = λ h. cc; same = λ h. cc; off = λ h g. cc }

  work_fits : (d : Bool) → drives_by i e s ≡ d → is_off s.latch ≡ true → Reads → IsBegun (view_after e t) (view_after e s) → Fits planes (once_begun d) (view_after e t) (view_after e s)
  work_fits false drives was reads begun =
      let o = or_parts (not (is_off (view_after e s).latch)) (begins_by e s && is_reset i) drives in
      record { below = below; queue = λ p h. reads p; begun = λ h. begun; same = λ h. cc; off = λ h g. not-false (is_off (view_after e s).latch) o.0 }
  work_fits true drives was reads begun = record { below = below; queue = λ p h. reads p; begun = λ h. begun; same = λ h. at (is_off (view_after e s).latch) refl; off = λ h g. cc }
    where
      at : (o : Bool) → is_off (view_after e s).latch ≡ o → IsSame (view_after e t) (view_after e s)
      at true off = same_anew ((and_parts (begins_by e s) (is_reset i) (rw off at drives)).0) drives
      at false on = driven_by planes e t s asks was on

  -- the first work that is seen
  begins_known : (known : Reads) → IsBelow t s → Needs e t s → (d : Bool) → begins_by e s ≡ true → drives_by i e s ≡ d → Fits planes (once_begun d) (view_after e t) (view_after e s)
  begins_known reads was need d begins drives = let b = begins_of e s begins in started_fits d begins drives reads (begun_by planes e t s was asks need b.idle b.busy b.new)

  begins_reset : e ≡ ResetStarted → (d : Bool) → begins_by e s ≡ true → drives_by i e s ≡ d → Fits planes (once_begun d) (view_after e t) (view_after e s)
  begins_reset is d begins drives =
      started_fits d begins drives (λ p. subst (λ (x : Effect). pages_of_reads (view_after x t).queue ≡ pages_of_reads (view_after x s).queue) (sym is) refl)
      (subst (λ (x : Effect). IsBegun (view_after x t) (view_after x s)) (sym is) (reset_begun t s))

first_fits : (planes : Bool) (i : Item) (e : Effect) (t s : LunView) → IsBelow t s → IsBelow (view_after e t) (view_after e s) → Asks planes e t s → (is_reset i ≡ true → e ≡ ResetStarted) →
    (b r p d : Bool) → begins_by e s ≡ b → is_reset i ≡ r → is_page (view_after e s).register ≡ p → drives_by i e s ≡ d → Fits planes (learned_by planes b r p d Nothing) (view_after e t) (view_after e s)
first_fits planes i e t s was below asks resets false r p d begins reset page drives = unknown_fits planes i e t s below asks resets
first_fits false i e t s was below asks resets true r p d begins reset page drives =
    begins_known false i e t s below asks resets (λ h. cc) was (needed false e t s was asks (λ h. cc)) d begins drives
first_fits true i e t s was below asks resets true true p d begins reset page drives = begins_reset true i e t s below asks resets (resets reset) d begins drives
first_fits true i e t s was below asks resets true false true d begins reset page drives =
    let b = begins_of e s begins in queue_fits true i e t s below asks resets (λ h. page_queue true e t s asks b.idle b.busy b.new page)
first_fits true i e t s was below asks resets true false false d begins reset page drives = unknown_fits true i e t s below asks resets

-- once a read of a page was seen
next_fits : (planes : Bool) (i : Item) (e : Effect) (t s : LunView) → IsBelow t s → IsBelow (view_after e t) (view_after e s) → Asks planes e t s → (is_reset i ≡ true → e ≡ ResetStarted) →
    (planes ≡ true → pages_of_reads t.queue ≡ pages_of_reads s.queue) → (b r p d : Bool) → begins_by e s ≡ b → drives_by i e s ≡ d → Fits planes (learned_by planes b r p d Queue) (view_after e t) (view_after e s)
next_fits planes i e t s was below asks resets known false r p d begins drives = queue_fits planes i e t s below asks resets (λ h. reads_after e t s (known h))
next_fits planes i e t s was below asks resets known true r p d begins drives =
    begins_known planes i e t s below asks resets (λ h. reads_after e t s (known h)) was (needed planes e t s was asks known) d begins drives

-- an effect on a LUN as it is and as it is seen, with what is learned of it
pub fits_after : (planes : Bool) (k : LunKnown) (i : Item) (e : Effect) (t s : LunView) → Fits planes k t s → Asks planes e t s → (is_reset i ≡ true → e ≡ ResetStarted) →
    Fits planes (learned_lun planes i (Some (look_at s)) (Some (look_at (view_after e s))) k) (view_after e t) (view_after e s)
fits_after planes Nothing i e t s f asks resets =
    first_fits planes i e t s f.below (below_after planes e t s f.below asks) asks resets (begins_by e s) (is_reset i) (is_page (view_after e s).register) (drives_by i e s) refl refl refl refl
fits_after planes Queue i e t s f asks resets =
    next_fits planes i e t s f.below (below_after planes e t s f.below asks) asks resets (λ p. f.queue p refl) (begins_by e s) (is_reset i) (is_page (view_after e s).register) (drives_by i e s) refl refl
fits_after planes Work i e t s f asks resets =
    work_fits planes i e t s (below_after planes e t s f.below asks) asks resets (drives_by i e s) refl (f.off refl refl) (λ p. reads_after e t s (f.queue p refl))
    (begun_after planes e t s (f.begun refl) asks (needed planes e t s f.below asks (λ p. f.queue p refl)))
fits_after planes All i e t s f asks resets =
    record {
      below = below_after planes e t s f.below asks;
      queue = λ p h. reads_after e t s (f.queue p refl);
      begun = λ h. begun_after planes e t s (f.begun refl) asks (needed planes e t s f.below asks (λ p. f.queue p refl));
      same = λ h. same_after planes e t s asks (f.same refl);
      off = λ h g. cc;
    }

-- ---- 5. an effect that isn't seen

-- what an effect that isn't seen leaves as it is seen
abbrev pub IsHarmless : Effect → LunView → Type 0
IsHarmless (ReadStarted at from) s = s.queue ≡ []
IsHarmless (CopybackReadStarted at from count) s = s.queue ≡ []
IsHarmless (EraseStarted queued at) s = s.queue ≡ []
IsHarmless (ProgramStarted queued at) s = s.queue ≡ []
IsHarmless (CacheProgramStarted at) s = s.queue ≡ []
IsHarmless ResetStarted s = (s.queue ≡ []) × (s.latch ≡ Off)
IsHarmless Deselected s = s.latch ≡ Off
IsHarmless StatusSelected s = s.latch ≡ Off
IsHarmless SelectedForStatus s = s.latch ≡ Off
IsHarmless (TargetResetStarted first) s = (s.queue ≡ []) × (s.latch ≡ Off)
IsHarmless StatusOfSelected s = s.latch ≡ Off
IsHarmless (AnotherAddressed reads) s = s.latch ≡ Off
IsHarmless (BecameReady failed) s = s.busy ≡ false
IsHarmless _ s = Unit {0}

-- nothing was seen of it
pub record IsBlank (s : LunView) : Type 0 where
  pub busy : s.busy ≡ false
  pub array_busy : s.array_busy ≡ false
  pub queue : s.queue ≡ []
  pub latch : s.latch ≡ Off
  pub closer : s.closer ≡ None

off_shows : (s t : Latch) → s ≡ Off → Shows s t
off_shows Off t h = tt
off_shows Status t h = cc
off_shows Data t h = cc

data_shows : (s : Latch) → Shows s Data
data_shows Off = tt
data_shows Status = refl
data_shows Data = refl

shows_again : (s t : Latch) → Shows s t → Shows s (resumed t)
shows_again Off t h = tt
shows_again Status t h = resumed_off t ∙ h
shows_again Data t h = ap resumed h

none_more : (s t : List Queued) → s ≡ [] → Within s t
none_more [] t h test some = cc
none_more (x ∷ s) t h test some = cc

pub unseen_after : (e : Effect) (t s : LunView) → IsBelow t s → NoCacheProgram e → IsHarmless e s → IsBelow (view_after e t) s
unseen_after Unaffected t s b never h = b
unseen_after DataOutputEnabled t s b never h = record { busy = b.busy; queue = b.queue; latch = shows_again s.latch t.latch b.latch; calm = b.calm; spare = spare_after DataOutputEnabled t tt b.spare; spare_seen = b.spare_seen }
unseen_after StatusSelected t s b never h = record { busy = b.busy; queue = b.queue; latch = off_shows s.latch Status h; calm = b.calm; spare = spare_after StatusSelected t tt b.spare; spare_seen = b.spare_seen }
unseen_after StatusRowAwaited t s b never h = record { busy = b.busy; queue = b.queue; latch = b.latch; calm = b.calm; spare = spare_after StatusRowAwaited t tt b.spare; spare_seen = b.spare_seen }
unseen_after SelectedForStatus t s b never h = record { busy = b.busy; queue = b.queue; latch = off_shows s.latch Status h; calm = b.calm; spare = spare_after SelectedForStatus t tt b.spare; spare_seen = b.spare_seen }
unseen_after Deselected t s b never h = record { busy = b.busy; queue = b.queue; latch = off_shows s.latch Off h; calm = b.calm; spare = spare_after Deselected t tt b.spare; spare_seen = b.spare_seen }
unseen_after (ReadStarted at from) t s b never h = record { busy = λ x. refl; queue = none_more s.queue [] h; latch = data_shows s.latch; calm = b.calm; spare = spare_after (ReadStarted at from) t tt b.spare; spare_seen = b.spare_seen }
unseen_after (ReadQueued at) t s b never h = record { busy = λ x. refl; queue = λ test x. or_right (test (QueuedRead at)) (list_any test t.queue) (b.queue test x); latch = data_shows s.latch; calm = b.calm; spare = spare_after (ReadQueued at) t tt b.spare; spare_seen = b.spare_seen }
unseen_after (CopybackReadStarted at from count) t s b never h = record { busy = λ x. refl; queue = none_more s.queue [] h; latch = data_shows s.latch; calm = b.calm; spare = spare_after (CopybackReadStarted at from count) t tt b.spare; spare_seen = b.spare_seen }
unseen_after ProgramAddressed t s b never h = record { busy = b.busy; queue = b.queue; latch = b.latch; calm = b.calm; spare = spare_after ProgramAddressed t tt b.spare; spare_seen = b.spare_seen }
unseen_after (EraseStarted queued at) t s b never h = record { busy = λ x. refl; queue = none_more s.queue (view_after (EraseStarted queued at) t).queue h; latch = b.latch; calm = b.calm; spare = spare_after (EraseStarted queued at) t tt b.spare; spare_seen = b.spare_seen }
unseen_after (ProgramStarted queued at) t s b never h = record { busy = λ x. refl; queue = none_more s.queue (view_after (ProgramStarted queued at) t).queue h; latch = b.latch; calm = b.calm; spare = spare_after (ProgramStarted queued at) t tt b.spare; spare_seen = b.spare_seen }
unseen_after (CacheProgramStarted at) t s b never h = absurd never
unseen_after IdRead t s b never h = record { busy = b.busy; queue = b.queue; latch = data_shows s.latch; calm = b.calm; spare = spare_after IdRead t tt b.spare; spare_seen = b.spare_seen }
unseen_after (IdentityRead jedec) t s b never h = record { busy = b.busy; queue = b.queue; latch = data_shows s.latch; calm = b.calm; spare = spare_after (IdentityRead jedec) t tt b.spare; spare_seen = b.spare_seen }
unseen_after UniqueIdReadStarted t s b never h = record { busy = λ x. refl; queue = b.queue; latch = data_shows s.latch; calm = b.calm; spare = spare_after UniqueIdReadStarted t tt b.spare; spare_seen = b.spare_seen }
unseen_after (FeaturesReadStarted address) t s b never h = record { busy = λ x. refl; queue = b.queue; latch = data_shows s.latch; calm = b.calm; spare = spare_after (FeaturesReadStarted address) t tt b.spare; spare_seen = b.spare_seen }
unseen_after (FeaturesSet address) t s b never h = record { busy = λ x. refl; queue = b.queue; latch = b.latch; calm = b.calm; spare = spare_after (FeaturesSet address) t tt b.spare; spare_seen = b.spare_seen }
unseen_after ParameterPageReadStarted t s b never h = record { busy = λ x. refl; queue = b.queue; latch = data_shows s.latch; calm = b.calm; spare = spare_after ParameterPageReadStarted t tt b.spare; spare_seen = b.spare_seen }
unseen_after (CacheReadContinued to) t s b never h = record { busy = λ x. refl; queue = b.queue; latch = data_shows s.latch; calm = b.calm; spare = spare_after (CacheReadContinued to) t tt b.spare; spare_seen = b.spare_seen }
unseen_after CacheReadEnded t s b never h = record { busy = λ x. refl; queue = b.queue; latch = data_shows s.latch; calm = b.calm; spare = spare_after CacheReadEnded t tt b.spare; spare_seen = b.spare_seen }
unseen_after (ReadColumnChanged from) t s b never h = record { busy = b.busy; queue = b.queue; latch = b.latch; calm = b.calm; spare = spare_after (ReadColumnChanged from) t tt b.spare; spare_seen = b.spare_seen }
unseen_after (PlaneSelected plane count from) t s b never h = record { busy = b.busy; queue = b.queue; latch = data_shows s.latch; calm = b.calm; spare = spare_after (PlaneSelected plane count from) t tt b.spare; spare_seen = b.spare_seen }
unseen_after DataOutput t s b never h = record { busy = b.busy; queue = b.queue; latch = b.latch; calm = b.calm; spare = spare_after DataOutput t tt b.spare; spare_seen = b.spare_seen }
unseen_after ResetStarted t s b never h = record { busy = λ x. refl; queue = none_more s.queue [] h.0; latch = off_shows s.latch Off h.1; calm = b.calm; spare = spare_after ResetStarted t tt b.spare; spare_seen = b.spare_seen }
unseen_after (BecameReady failed) t s b never h = record { busy = λ x. cc; queue = b.queue; latch = b.latch; calm = b.calm; spare = spare_after (BecameReady failed) t tt b.spare; spare_seen = b.spare_seen }
unseen_after (ArrayBecameReady failed) t s b never h = record { busy = b.busy; queue = b.queue; latch = b.latch; calm = b.calm; spare = spare_after (ArrayBecameReady failed) t tt b.spare; spare_seen = b.spare_seen }
unseen_after (TargetResetStarted first) t s b never h = record { busy = λ x. refl; queue = none_more s.queue [] h.0; latch = off_shows s.latch Off h.1; calm = b.calm; spare = spare_after (TargetResetStarted first) t tt b.spare; spare_seen = b.spare_seen }
unseen_after StatusOfSelected t s b never h = record { busy = b.busy; queue = b.queue; latch = off_shows s.latch (view_after StatusOfSelected t).latch h; calm = b.calm; spare = spare_after StatusOfSelected t tt b.spare; spare_seen = b.spare_seen }
unseen_after (AnotherAddressed reads) t s b never h = record { busy = b.busy; queue = b.queue; latch = off_shows s.latch (view_after (AnotherAddressed reads) t).latch h; calm = b.calm; spare = spare_after (AnotherAddressed reads) t tt b.spare; spare_seen = b.spare_seen }

pub blank_harmless : (e : Effect) (s : LunView) → IsBlank s → IsHarmless e s
blank_harmless Unaffected s b = tt
blank_harmless DataOutputEnabled s b = tt
blank_harmless StatusSelected s b = b.latch
blank_harmless StatusRowAwaited s b = tt
blank_harmless SelectedForStatus s b = b.latch
blank_harmless Deselected s b = b.latch
blank_harmless (ReadStarted at from) s b = b.queue
blank_harmless (ReadQueued at) s b = tt
blank_harmless (CopybackReadStarted at from count) s b = b.queue
blank_harmless ProgramAddressed s b = tt
blank_harmless (EraseStarted queued at) s b = b.queue
blank_harmless (ProgramStarted queued at) s b = b.queue
blank_harmless (CacheProgramStarted at) s b = b.queue
blank_harmless IdRead s b = tt
blank_harmless (IdentityRead jedec) s b = tt
blank_harmless UniqueIdReadStarted s b = tt
blank_harmless (FeaturesReadStarted address) s b = tt
blank_harmless (FeaturesSet address) s b = tt
blank_harmless ParameterPageReadStarted s b = tt
blank_harmless (CacheReadContinued to) s b = tt
blank_harmless CacheReadEnded s b = tt
blank_harmless (ReadColumnChanged from) s b = tt
blank_harmless (PlaneSelected plane count from) s b = tt
blank_harmless DataOutput s b = tt
blank_harmless ResetStarted s b = (b.queue, b.latch)
blank_harmless (BecameReady failed) s b = b.busy
blank_harmless (ArrayBecameReady failed) s b = tt
blank_harmless (TargetResetStarted first) s b = (b.queue, b.latch)
blank_harmless StatusOfSelected s b = b.latch
blank_harmless (AnotherAddressed reads) s b = b.latch
