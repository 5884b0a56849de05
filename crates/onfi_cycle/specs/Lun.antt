-- Of each LUN: what it shows, whether it is busy, its register, its column and its queue, each by the newest item that decides it.
use Rattle.std.specs.Prelude.{ℕ, zero, suc, ◌+◌, ◌%◌, ◌==◌, Bool, true, false, ◌||◌, ◌&&◌, not, nat_lt, if◌then◌else◌, List, [], ◌∷◌, ◌++◌, filter, Option, Some, None, unwrap_or, take}
use Rattle.std.specs.List.{list_any}
use Rattle.nand_geometry.specs.declared.parts.Parts.{Parts}
use Rattle.onfi_cycle.specs.declared.command.Command.{Command}
use Rattle.onfi_cycle.specs.declared.command.Command.TheVariants.{ProgramConfirm, ProgramPlane, ReadConfirm, ReadCacheSequential, ReadCacheEnd, ReadId, BlockEraseConfirm, BlockErasePlane, ReadParameterPage, Reset, ReadUniqueId, GetFeatures, SetFeatures, ReadPlane, CopybackRead, ProgramCache}
use Rattle.onfi_cycle.specs.declared.lun.Lun.{Lun}
use Rattle.onfi_cycle.specs.declared.latch.Latch.{Latch}
use Rattle.onfi_cycle.specs.declared.latch.Latch.TheVariants.{Off, Status, Data}
use Rattle.onfi_cycle.specs.declared.item.Item.{Item}
use Rattle.onfi_cycle.specs.declared.page_address.PageAddress.{PageAddress}
use Rattle.onfi_cycle.specs.declared.queued.Queued.{Queued}
use Rattle.onfi_cycle.specs.declared.queued.Queued.TheVariants.{Erase, Program, Read}
use Rattle.onfi_cycle.specs.declared.register.Register.{Register}
use Rattle.onfi_cycle.specs.declared.register.Register.TheVariants.{Empty, Page, ParameterPage, Identifier, Identity, JedecIdentity, UniqueId, Features}
use Rattle.onfi_cycle.specs.declared.read_column.ReadColumn.{ReadColumn}
use Rattle.onfi_cycle.specs.LunView.{LunView}
use Rattle.onfi_cycle.specs.declared.effect.Effect.{Effect}
use Rattle.onfi_cycle.specs.declared.effect.Effect.TheVariants.{DataOutputEnabled, StatusSelected, StatusRowAwaited, SelectedForStatus, Deselected, PlaneSelected, IdRead, IdentityRead, UniqueIdReadStarted, FeaturesReadStarted, FeaturesSet, ParameterPageReadStarted, CacheReadContinued, CacheReadEnded, DataOutput, ResetStarted, BecameReady, ArrayBecameReady, ReadStarted, EraseStarted, ProgramStarted, ReadColumnChanged, AnotherAddressed, StatusOfSelected, TargetResetStarted, ReadQueued, CopybackReadStarted, CacheProgramStarted, ProgramAddressed}
use Rattle.onfi_cycle.specs.Effect.{effect_given, is_off}

-- of so many LUNs from number n on, those that a latch has on
abbrev pub drivers_from : (ℕ → Latch) → (count n : ℕ) → List ℕ
drivers_from latches zero n = []
drivers_from latches (suc count) n =
    if is_off (latches n) then drivers_from latches count (n + 1) else n ∷ drivers_from latches count (n + 1)

-- the list is this number alone
abbrev pub is_only : List ℕ → ℕ → Bool
is_only (m ∷ []) n = m == n
is_only _ n = false

-- what a LUN shows if it is the one driver, and else Off
abbrev pub alone : ℕ → (ℕ → Latch) → ℕ → Latch
alone luns latches lun = if is_only (drivers_from latches luns 0) lun then latches lun else Off

-- what an effect leaves of a latch
abbrev pub resumed : Latch → Latch
resumed Off = Off
resumed Status = Data
resumed Data = Data

-- what an effect leaves of the latch of a LUN that is selected, and that works, or not: a read of another LUN turns it off where it doesn't work
abbrev pub latch_after : Effect → (selected works : Bool) → Latch → Latch
latch_after DataOutputEnabled selected works latch = resumed latch
latch_after StatusSelected selected works latch = Status
latch_after SelectedForStatus selected works latch = Status
latch_after Deselected selected works latch = Off
latch_after (PlaneSelected _ _ _) selected works latch = Data
latch_after (ReadStarted _ _) selected works latch = Data
latch_after (ReadQueued _) selected works latch = Data
latch_after (CopybackReadStarted _ _ _) selected works latch = Data
latch_after IdRead selected works latch = Data
latch_after (IdentityRead _) selected works latch = Data
latch_after ParameterPageReadStarted selected works latch = Data
latch_after UniqueIdReadStarted selected works latch = Data
latch_after (FeaturesReadStarted _) selected works latch = Data
latch_after (CacheReadContinued _) selected works latch = Data
latch_after CacheReadEnded selected works latch = Data
latch_after ResetStarted selected works latch = Off
latch_after (TargetResetStarted _) selected works latch = Off
latch_after StatusOfSelected selected works latch = if selected then Status else Off
latch_after (AnotherAddressed reads) selected works latch = if reads && not works then Off else latch
latch_after _ selected works latch = latch

-- the LUN that the target's commands are for
abbrev pub selected_after : Effect → Bool → Bool
selected_after SelectedForStatus selected = true
selected_after (PlaneSelected _ _ _) selected = true
selected_after Deselected selected = false
selected_after (ReadStarted _ _) selected = true
selected_after (ReadQueued _) selected = true
selected_after (CopybackReadStarted _ _ _) selected = true
selected_after (CacheReadContinued (Some _)) selected = true
selected_after (EraseStarted _ _) selected = true
selected_after (ProgramStarted _ _) selected = true
selected_after (CacheProgramStarted _) selected = true
selected_after IdRead selected = true
selected_after (IdentityRead _) selected = true
selected_after ParameterPageReadStarted selected = true
selected_after UniqueIdReadStarted selected = true
selected_after (FeaturesReadStarted _) selected = true
selected_after (FeaturesSet _) selected = true
selected_after ResetStarted selected = true
selected_after (TargetResetStarted first) selected = first
selected_after (AnotherAddressed _) selected = false
selected_after _ selected = selected

-- another LUN was given work while this one worked, and no command for the whole target came since
abbrev pub overlapped_after : Effect → (works : Bool) → Bool → Bool
overlapped_after SelectedForStatus works overlapped = false
overlapped_after (PlaneSelected _ _ _) works overlapped = false
overlapped_after Deselected works overlapped = false
overlapped_after IdRead works overlapped = false
overlapped_after (IdentityRead _) works overlapped = false
overlapped_after ParameterPageReadStarted works overlapped = false
overlapped_after UniqueIdReadStarted works overlapped = false
overlapped_after (FeaturesReadStarted _) works overlapped = false
overlapped_after (FeaturesSet _) works overlapped = false
overlapped_after (TargetResetStarted _) works overlapped = false
overlapped_after (AnotherAddressed _) works overlapped = overlapped || works
overlapped_after _ works overlapped = overlapped

abbrev pub busy_after : Effect → Bool → Bool
busy_after (ReadStarted _ _) busy = true
busy_after (ReadQueued _) busy = true
busy_after (CopybackReadStarted _ _ _) busy = true
busy_after (EraseStarted _ _) busy = true
busy_after (ProgramStarted _ _) busy = true
busy_after (CacheProgramStarted _) busy = true
busy_after ParameterPageReadStarted busy = true
busy_after UniqueIdReadStarted busy = true
busy_after (FeaturesReadStarted _) busy = true
busy_after (FeaturesSet _) busy = true
busy_after (CacheReadContinued _) busy = true
busy_after CacheReadEnded busy = true
busy_after ResetStarted busy = true
busy_after (TargetResetStarted _) busy = true
busy_after (BecameReady _) busy = false
busy_after _ busy = busy

abbrev pub closer_after : Effect → Option Command → Option Command
closer_after (ReadStarted _ _) last = Some ReadConfirm
closer_after (ReadQueued _) last = Some ReadPlane
closer_after (CopybackReadStarted _ _ _) last = Some CopybackRead
closer_after (EraseStarted queued _) last = Some (if queued then BlockErasePlane else BlockEraseConfirm)
closer_after (ProgramStarted queued _) last = Some (if queued then ProgramPlane else ProgramConfirm)
closer_after (CacheProgramStarted _) last = Some ProgramCache
closer_after IdRead last = Some ReadId
closer_after (IdentityRead _) last = Some ReadId
closer_after ParameterPageReadStarted last = Some ReadParameterPage
closer_after UniqueIdReadStarted last = Some ReadUniqueId
closer_after (FeaturesReadStarted _) last = Some GetFeatures
closer_after (FeaturesSet _) last = Some SetFeatures
closer_after (CacheReadContinued _) last = Some ReadCacheSequential
closer_after CacheReadEnded last = Some ReadCacheEnd
closer_after ResetStarted last = Some Reset
closer_after (TargetResetStarted _) last = Some Reset
closer_after _ last = last

abbrev pub is_cache_read : Option Command → Bool
is_cache_read (Some ReadCacheSequential) = true
is_cache_read _ = false

-- a page is programmed while the next one may come
abbrev pub is_cache_program : Option Command → Bool
is_cache_program (Some ProgramCache) = true
is_cache_program _ = false

-- one plane of several is programmed
abbrev pub is_plane_program : Option Command → Bool
is_plane_program (Some ProgramPlane) = true
is_plane_program _ = false

-- the array goes on with its work behind the ready of these closers
abbrev pub leaves_array_busy : Option Command → Bool
leaves_array_busy last = is_cache_read last || is_cache_program last

-- an 11 leaves the array at the work of a 15: the last closer is one, or an 11 behind it
abbrev pub keeps_array_busy : Option Command → Bool
keeps_array_busy last = is_cache_program last || is_plane_program last

abbrev pub is_page_read : Option Command → Bool
is_page_read (Some ReadConfirm) = true
is_page_read (Some ReadCacheSequential) = true
is_page_read _ = false

-- the page was read for a copyback
abbrev pub is_copyback_read : Option Command → Bool
is_copyback_read (Some CopybackRead) = true
is_copyback_read _ = false

-- the closers of work that is of a whole target
abbrev pub is_target_work : Option Command → Bool
is_target_work (Some ReadParameterPage) = true
is_target_work (Some ReadUniqueId) = true
is_target_work (Some GetFeatures) = true
is_target_work (Some SetFeatures) = true
is_target_work _ = false

abbrev pub array_busy_after : Effect → (busy : Bool) → Option Command → (array_busy : Bool) → Bool
array_busy_after (BecameReady _) busy last array_busy = array_busy || (busy && leaves_array_busy last)
array_busy_after (ArrayBecameReady _) busy last array_busy = false
array_busy_after (ReadStarted _ _) busy last array_busy = false
array_busy_after (ReadQueued _) busy last array_busy = false
array_busy_after (CopybackReadStarted _ _ _) busy last array_busy = false
array_busy_after (EraseStarted _ _) busy last array_busy = false
array_busy_after (ProgramStarted queued _) busy last array_busy = queued && (keeps_array_busy last && array_busy)
array_busy_after (CacheProgramStarted _) busy last array_busy = false
array_busy_after IdRead busy last array_busy = false
array_busy_after (IdentityRead _) busy last array_busy = false
array_busy_after ParameterPageReadStarted busy last array_busy = false
array_busy_after UniqueIdReadStarted busy last array_busy = false
array_busy_after (FeaturesReadStarted _) busy last array_busy = false
array_busy_after (FeaturesSet _) busy last array_busy = false
array_busy_after (CacheReadContinued _) busy last array_busy = false
array_busy_after CacheReadEnded busy last array_busy = false
array_busy_after ResetStarted busy last array_busy = false
array_busy_after (TargetResetStarted _) busy last array_busy = false
array_busy_after _ busy last array_busy = array_busy

abbrev pub next_page : PageAddress → PageAddress
next_page p = record { block = p.block; page = p.page + 1 }

abbrev pub array_page_after : Effect → PageAddress → PageAddress
array_page_after (ReadStarted at _) p = at
array_page_after (CopybackReadStarted at _ _) p = at
array_page_after (CacheReadContinued to) p = unwrap_or to (next_page p)
array_page_after _ p = p

-- the pages of the reads of a queue, the newest first
abbrev pub pages_of_reads : List Queued → List PageAddress
pages_of_reads [] = []
pages_of_reads (Read p ∷ queue) = p ∷ pages_of_reads queue
pages_of_reads (Erase p ∷ queue) = pages_of_reads queue
pages_of_reads (Program p ∷ queue) = pages_of_reads queue

abbrev pub is_queued_read : Queued → Bool
is_queued_read (Read p) = true
is_queued_read _ = false

-- a read is queued
abbrev pub has_reads : List Queued → Bool
has_reads queue = list_any is_queued_read queue

-- the page of this plane, where a LUN has so many planes
abbrev pub page_in_plane : (planes plane : ℕ) → List PageAddress → Option PageAddress
page_in_plane planes plane [] = None
page_in_plane planes plane (p ∷ held) = if p.block % planes == plane then Some p else page_in_plane planes plane held

abbrev pub register_of_plane : Option PageAddress → Register
register_of_plane None = Empty
register_of_plane (Some p) = Page p

-- the pages of other planes than this one's
abbrev pub of_other_planes : (planes : ℕ) → PageAddress → List PageAddress → List PageAddress
of_other_planes planes at held = filter (λ p. not (p.block % planes == at.block % planes)) held

-- the pages that stay held beside one that is read for a copyback: those of other planes, where they were read for one too
abbrev pub held_on : (planes : ℕ) → PageAddress → (copyback : Bool) → List PageAddress → List PageAddress
held_on planes at copyback held = if copyback then of_other_planes planes at held else []

-- the pages that the plane registers hold, four at most: that of a 30 and of the reads queued before it, or the one that a cache read gives; of a
-- 35, which may be read one by one, those read so before it too, if the last closer was one; the last row cycle of 80 clears the registers
abbrev pub held_after : Effect → (copyback : Bool) → PageAddress → List Queued → List PageAddress → List PageAddress
held_after (ReadStarted at _) copyback p queue held = take 4 (at ∷ pages_of_reads queue)
held_after (CopybackReadStarted at _ planes) copyback p queue held = take 4 (at ∷ (pages_of_reads queue ++ held_on planes at copyback held))
held_after ProgramAddressed copyback p queue held = []
held_after (CacheReadContinued _) copyback p queue held = p ∷ []
held_after CacheReadEnded copyback p queue held = p ∷ []
held_after (ReadQueued _) copyback p queue held = []
held_after (EraseStarted _ _) copyback p queue held = []
held_after (ProgramStarted queued _) copyback p queue held = if queued then held else []
held_after (CacheProgramStarted _) copyback p queue held = []
held_after IdRead copyback p queue held = []
held_after (IdentityRead _) copyback p queue held = []
held_after ParameterPageReadStarted copyback p queue held = []
held_after UniqueIdReadStarted copyback p queue held = []
held_after (FeaturesReadStarted _) copyback p queue held = []
held_after (FeaturesSet _) copyback p queue held = []
held_after ResetStarted copyback p queue held = []
held_after (TargetResetStarted _) copyback p queue held = []
held_after _ copyback p queue held = held

abbrev pub register_after : Effect → PageAddress → List Queued → List PageAddress → Register → Register
register_after (ReadStarted at _) p queue held r = if has_reads queue then Empty else Page at
register_after (CopybackReadStarted at _ _) p queue held r = if has_reads queue then Empty else Page at
register_after (ReadQueued _) p queue held r = Empty
register_after (PlaneSelected plane planes _) p queue held r = register_of_plane (page_in_plane planes plane held)
register_after (EraseStarted _ _) p queue held r = Empty
register_after (ProgramStarted _ _) p queue held r = Empty
register_after (CacheProgramStarted _) p queue held r = Empty
register_after IdRead p queue held r = Identifier
register_after (IdentityRead jedec) p queue held r = if jedec then JedecIdentity else Identity
register_after ParameterPageReadStarted p queue held r = ParameterPage
register_after UniqueIdReadStarted p queue held r = UniqueId
register_after (FeaturesReadStarted address) p queue held r = Features address
register_after (FeaturesSet _) p queue held r = Empty
register_after (CacheReadContinued _) p queue held r = Page p
register_after CacheReadEnded p queue held r = Page p
register_after ResetStarted p queue held r = Empty
register_after (TargetResetStarted _) p queue held r = Empty
register_after _ p queue held r = r

abbrev pub column_at : ℕ → ReadColumn
column_at from = record { given = Some from; outputs = 0; lost = false }

abbrev pub read_column_after : Effect → ReadColumn → ReadColumn
read_column_after (ReadStarted _ from) k = column_at from
read_column_after (CopybackReadStarted _ from _) k = column_at from
read_column_after (ReadColumnChanged from) k = column_at from
read_column_after (PlaneSelected _ _ from) k = column_at from
read_column_after IdRead k = column_at 0
read_column_after (IdentityRead _) k = column_at 0
read_column_after ParameterPageReadStarted k = column_at 0
read_column_after UniqueIdReadStarted k = column_at 0
read_column_after (FeaturesReadStarted _) k = column_at 0
read_column_after (CacheReadContinued _) k = column_at 0
read_column_after CacheReadEnded k = column_at 0
read_column_after DataOutput k = record k { outputs = k.outputs + 1 }
read_column_after StatusSelected k = record k { lost = k.lost || nat_lt 0 k.outputs }
read_column_after StatusOfSelected k = record k { lost = k.lost || nat_lt 0 k.outputs }
read_column_after StatusRowAwaited k = record k { lost = k.lost || nat_lt 0 k.outputs }
read_column_after _ k = k

abbrev pub option_plus : ℕ → Option ℕ → Option ℕ
option_plus n None = None
option_plus n (Some m) = Some (m + n)

-- the place in the register that the next output gives, if there is one
abbrev pub output_column : ReadColumn → Option ℕ
output_column k = if k.lost then None else option_plus k.outputs k.given

abbrev pub queue_after : Effect → List Queued → List Queued
queue_after (ReadStarted _ _) queue = []
queue_after (CopybackReadStarted _ _ _) queue = []
queue_after (ReadQueued at) queue = Read at ∷ queue
queue_after (EraseStarted queued at) queue = if queued then Erase at ∷ queue else []
queue_after (ProgramStarted queued at) queue = if queued then Program at ∷ queue else []
queue_after (CacheProgramStarted _) queue = []
queue_after ResetStarted queue = []
queue_after (TargetResetStarted _) queue = []
queue_after _ queue = queue

-- the LUN works, or its array does
abbrev pub works : LunView → Bool
works v = v.busy || v.array_busy

-- what an effect leaves of what a LUN shows
abbrev pub shown_after : Effect → LunView → Latch
shown_after a v = latch_after a v.selected (works v) v.latch

-- what an effect makes of a LUN
abbrev pub view_after : Effect → LunView → LunView
view_after a v =
    record {
      latch = shown_after a v;
      selected = selected_after a v.selected;
      overlapped = overlapped_after a (works v) v.overlapped;
      busy = busy_after a v.busy;
      closer = closer_after a v.closer;
      array_busy = array_busy_after a v.busy v.closer v.array_busy;
      array_page = array_page_after a v.array_page;
      register = register_after a v.array_page v.queue v.held v.register;
      column = read_column_after a v.column;
      queue = queue_after a v.queue;
      held = held_after a (is_copyback_read v.closer) v.array_page v.queue v.held;
    }

-- the LUN of this number when nothing has happened to it: the first one is selected
abbrev pub first_view : ℕ → LunView
first_view lun =
    record {
      latch = Off;
      selected = lun == 0;
      overlapped = false;
      busy = false;
      closer = None;
      array_busy = false;
      array_page = record { block = 0; page = 0 };
      register = Empty;
      column = record { given = None; outputs = 0; lost = false };
      queue = [];
      held = [];
    }

-- what an item does to a LUN, where the LUNs of its target have these latches
unfoldable pub effect_among : Parts → List Item → (ℕ → Latch) → Item → Lun → Effect
effect_among g past latches i l = effect_given g past (alone g.luns latches l.lun) i l

-- what the rules see of a LUN, item by item; what it shows goes on by itself, and asks no other LUN
-- (31 and 3F come only where there is one driver, so what the LUN shows is what it shows alone)
abbrev pub lun_view : Parts → List Item → Lun → LunView
lun_view g [] l = first_view l.lun
lun_view g (i ∷ past) l =
    let before = lun_view g past l in
    let latches : ℕ → Latch = λ m. (lun_view g past (record { ce = l.ce; lun = m })).latch in
    record (view_after (effect_among g past latches i l) before) { latch = shown_after (effect_given g past before.latch i l) before }

-- what a LUN shows when it is read: nothing, its status or its register
abbrev pub latch : Parts → List Item → Lun → Latch
latch g past l = (lun_view g past l).latch

-- the LUNs of a target that aren't off
abbrev pub drivers : Parts → List Item → ℕ → List ℕ
drivers g past ce = drivers_from (λ m. latch g past (record { ce = ce; lun = m })) g.luns 0

-- what the LUN shows if it is the one driver of its target
abbrev pub latch_alone : Parts → List Item → Lun → Latch
latch_alone g past l = alone g.luns (λ m. latch g past (record { ce = l.ce; lun = m })) l.lun

-- what an item does to a LUN
abbrev pub effect_on : Parts → List Item → Item → Lun → Effect
effect_on g past i l = effect_among g past (λ m. latch g past (record { ce = l.ce; lun = m })) i l

-- the LUN whose status 70 shows, where its target has several: that of the last 78 or 06, or of the last closer of a row, and the first one where a
-- command for the whole target came since
abbrev pub is_selected : Parts → List Item → Lun → Bool
is_selected g past l = (lun_view g past l).selected

-- another LUN of the target was given work while this one worked, and no 78 and 06 nor a command for the whole target came since
abbrev pub is_overlapped : Parts → List Item → Lun → Bool
is_overlapped g past l = (lun_view g past l).overlapped

-- work was started on the LUN, and no ready of it came since
abbrev pub is_busy : Parts → List Item → Lun → Bool
is_busy g past l = (lun_view g past l).busy

-- the last closer of the LUN
abbrev pub closer : Parts → List Item → Lun → Option Command
closer g past l = (lun_view g past l).closer

-- a cache read goes on
abbrev pub is_caching : Parts → List Item → Lun → Bool
is_caching g past l = is_cache_read (closer g past l)

-- the 31 that the LUN does last has had its ready, or the 15 that it does last, 11s left out, and its array has had none since
abbrev pub is_array_busy : Parts → List Item → Lun → Bool
is_array_busy g past l = (lun_view g past l).array_busy

-- a LUN programs behind a 15, 11s left out, and no ready of its array came since
abbrev pub programs : LunView → Bool
programs v = (v.busy && is_cache_program v.closer) || (v.array_busy && keeps_array_busy v.closer)

abbrev pub is_programming : Parts → List Item → Lun → Bool
is_programming g past l = programs (lun_view g past l)

-- the page that the array was last told to read: that of the last 30 or 31 behind a row, and one more for each other 31 since
abbrev pub array_page : Parts → List Item → Lun → PageAddress
array_page g past l = (lun_view g past l).array_page

-- the register, by the last closer; after 31 or 3F the page that the array read before it
abbrev pub register : Parts → List Item → Lun → Register
register g past l = (lun_view g past l).register

abbrev pub read_column : Parts → List Item → Lun → ReadColumn
read_column g past l = (lun_view g past l).column

-- the changes whose D1 or 11 stands after the last D0, 10 or reset of the LUN, the newest first
abbrev pub queue : Parts → List Item → Lun → List Queued
queue g past l = (lun_view g past l).queue

-- the pages that the plane registers of the LUN hold, by the last closer, 11s left out
abbrev pub held : Parts → List Item → Lun → List PageAddress
held g past l = (lun_view g past l).held

-- the LUNs of a target from number n on, so many
abbrev pub views_from : Parts → List Item → ℕ → (count n : ℕ) → List LunView
views_from g past ce zero n = []
views_from g past ce (suc count) n = lun_view g past (record { ce = ce; lun = n }) ∷ views_from g past ce count (n + 1)

-- what the rules see of the LUNs of a target
abbrev pub luns_of : Parts → List Item → ℕ → List LunView
luns_of g past ce = views_from g past ce g.luns 0
