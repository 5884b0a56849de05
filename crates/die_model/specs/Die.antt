-- One LUN's array and registers: what its pages hold, what it works on, and how its last work ended.
use Rattle.std.specs.Prelude.{◌≡◌, ℕ, ◌%◌, ◌^◌, ◌<◌, Bool, true, false, ◌||◌, ◌&&◌, not, if◌then◌else◌, List, [], ◌∷◌, Option, Some, None, is_none, length, replicate, slice_get, slice_set, slice_index_or}
use Rattle.std.specs.Option.{IsSome}
use Rattle.nand_geometry.specs.declared.parts.Parts.{Parts}
use Rattle.nand_geometry.specs.Limits.{InLimits, page_len, planes}
use Rattle.nand_geometry.specs.Page.{parameter_bytes}
use Rattle.onfi_cycle.specs.declared.command.Command.{Command}
use Rattle.onfi_cycle.specs.declared.item.Failures.{Failures}
use Rattle.onfi_cycle.specs.declared.page_address.PageAddress.{PageAddress}
use Rattle.onfi_cycle.specs.declared.queued.Queued.{Queued}
use Rattle.onfi_cycle.specs.declared.queued.Queued.TheVariants.{Erase, Program, Read as QueuedRead}
use Rattle.onfi_cycle.specs.declared.register.Register.{Register}
use Rattle.onfi_cycle.specs.declared.register.Register.TheVariants.{Empty, Page}
use Rattle.onfi_cycle.specs.declared.effect.Effect.{Effect}
use Rattle.onfi_cycle.specs.declared.effect.Effect.TheVariants.{ReadStarted, EraseStarted, ProgramStarted, CacheProgramStarted, IdRead, ParameterPageReadStarted, CacheReadContinued, CacheReadEnded, ResetStarted, TargetResetStarted, IdentityRead, UniqueIdReadStarted, FeaturesReadStarted, FeaturesSet, ReadQueued, CopybackReadStarted}
use Rattle.onfi_cycle.specs.Effect.{HasPlanes}
use Rattle.onfi_cycle.specs.Lun.{busy_after, closer_after, array_busy_after, array_page_after, register_after, held_after, queue_after, is_copyback_read, is_cache_program, is_plane_program}
use Rattle.onfi_cycle.specs.Content.{ArrayWork, ErasesBlock, ProgramsPage, queued_work_after, pending_work_after, array_work_after, content_after, failed_after, before_failed_after, status_byte, is_some_work, register_bytes, written}
use Rattle.onfi_cycle.specs.Bounds.{is_row}
use Rattle.onfi_cycle.specs.Rules.{is_empty, has_some, some_queued_clashes, some_read_clashes}
use Rattle.die_model.specs.declared.work.Work.{Work}
use Rattle.die_model.specs.declared.work.Work.TheVariants as w
use Rattle.die_model.specs.Pages.{kept, page_in}

-- a die: the pages that it keeps, the page register of each plane, what its register shows, the pages that its plane registers hold, the page
-- that its array was last told to read, what it is busy with, its last closer, the rows that are queued (the newest first), those that its next ready ends,
-- the programs that its array goes on with behind the ready of a cache program, and what is told of failures
pub record Die : Type 0 where
  pub geometry : Parts
  pub pages : List ((ℕ × ℕ) × List ℕ)
  pub planes : List (List ℕ)
  pub register : Register
  pub held : List PageAddress
  pub array_page : PageAddress
  pub busy : Bool
  pub closer : Option Command
  pub array_busy : Bool
  pub queued : List Queued
  pub pending : List Queued
  pub in_array : List ArrayWork
  pub failed : Bool
  pub failed_before : Bool

-- a die by what is kept of it: one list of rows, which are queued until they are closed
abbrev pub die_with : Parts → List ((ℕ × ℕ) × List ℕ) → List (List ℕ) → Register → (held : List PageAddress) → PageAddress → (busy : Bool) → (closer : Option Command) → (array_busy : Bool) → (queue : List Queued) → (closed : Bool) → (in_array : List ArrayWork) → (failed failed_before : Bool) → Die
die_with g pages registers register held array_page busy closer array_busy queue closed in_array failed failed_before =
    record {
      geometry = g;
      pages = pages;
      planes = registers;
      register = register;
      held = held;
      array_page = array_page;
      busy = busy;
      closer = closer;
      array_busy = array_busy;
      queued = if closed then [] else queue;
      pending = if closed then queue else [];
      in_array = in_array;
      failed = failed;
      failed_before = failed_before;
    }

-- the bytes of a page
abbrev pub page_of : Die → PageAddress → List ℕ
page_of d p = page_in (page_len d.geometry) d.pages p

-- the page register of the plane in which a page lies
abbrev pub plane_bytes : Parts → List (List ℕ) → PageAddress → List ℕ
plane_bytes g registers at = slice_index_or registers (at.block % planes g) []

-- a die with these bytes in the register of a plane, from a column on
abbrev pub filled_with : (plane column : ℕ) → List ℕ → Die → Die
filled_with plane column bytes d = record d { planes = slice_set d.planes plane (written bytes column (slice_index_or d.planes plane [])) }

-- what rows are to do: a program takes its bytes from the register of its plane, and a read changes no page
abbrev pub works_of : Parts → List (List ℕ) → List Queued → List ArrayWork
works_of g registers [] = []
works_of g registers (Erase at ∷ queue) = ErasesBlock at ∷ works_of g registers queue
works_of g registers (Program at ∷ queue) = ProgramsPage at (plane_bytes g registers at) ∷ works_of g registers queue
works_of g registers (QueuedRead at ∷ queue) = works_of g registers queue

abbrev pub queued_of : Die → List ArrayWork
queued_of d = works_of d.geometry d.planes d.queued

abbrev pub pending_of : Die → List ArrayWork
pending_of d = works_of d.geometry d.planes d.pending

-- the effect that a work stands for
abbrev pub effect_of : Work → Effect
effect_of (w.Read at) = ReadStarted at 0
effect_of (w.Copyback at planes) = CopybackReadStarted at 0 planes
effect_of (w.Program at) = ProgramStarted false at
effect_of (w.CacheProgram at) = CacheProgramStarted at
effect_of (w.Erase at) = EraseStarted false at
effect_of (w.Queue (Erase at)) = EraseStarted true at
effect_of (w.Queue (Program at)) = ProgramStarted true at
effect_of (w.Queue (QueuedRead at)) = ReadQueued at
effect_of w.Identifier = IdRead
effect_of w.Parameters = ParameterPageReadStarted
effect_of (w.Identity jedec) = IdentityRead jedec
effect_of w.UniqueId = UniqueIdReadStarted
effect_of (w.Features address) = FeaturesReadStarted address
effect_of (w.SetFeatures address) = FeaturesSet address
effect_of w.Reset = ResetStarted
effect_of (w.Cache to) = CacheReadContinued to
effect_of w.CacheEnd = CacheReadEnded

-- the work of an effect on a LUN; None where its die stays as it is or only ends something
abbrev pub work_begun : Effect → Option Work
work_begun (ReadStarted at column) = Some (w.Read at)
work_begun (ReadQueued at) = Some (w.Queue (QueuedRead at))
work_begun (CopybackReadStarted at column planes) = Some (w.Copyback at planes)
work_begun (ProgramStarted queued at) = Some (if queued then w.Queue (Program at) else w.Program at)
work_begun (CacheProgramStarted at) = Some (w.CacheProgram at)
work_begun (EraseStarted queued at) = Some (if queued then w.Queue (Erase at) else w.Erase at)
work_begun IdRead = Some w.Identifier
work_begun ParameterPageReadStarted = Some w.Parameters
work_begun (IdentityRead jedec) = Some (w.Identity jedec)
work_begun UniqueIdReadStarted = Some w.UniqueId
work_begun (FeaturesReadStarted address) = Some (w.Features address)
work_begun (FeaturesSet address) = Some (w.SetFeatures address)
work_begun ResetStarted = Some w.Reset
work_begun (TargetResetStarted _) = Some w.Reset
work_begun (CacheReadContinued to) = Some (w.Cache to)
work_begun CacheReadEnded = Some w.CacheEnd
work_begun _ = None

-- the array goes on with its page where a program begins, and drops it at each other work
abbrev pub keeps_array : Work → Bool
keeps_array (w.Program at) = true
keeps_array (w.CacheProgram at) = true
keeps_array (w.Queue (Program at)) = true
keeps_array _ = false

-- the bytes that a program takes
abbrev pub bytes_taken : Die → Effect → List ℕ
bytes_taken d (ProgramStarted queued at) = plane_bytes d.geometry d.planes at
bytes_taken d (CacheProgramStarted at) = plane_bytes d.geometry d.planes at
bytes_taken d _ = []

-- the die after an effect: each fact by the step that the definitions of a channel take
pub record IsAfter (e : Effect) (old new : Die) : Type 0 where
  pub geometry : new.geometry ≡ old.geometry
  pub planes : new.planes ≡ old.planes
  pub pages : (p : PageAddress) → page_of new p ≡ content_after old.geometry e old.closer (pending_of old) old.in_array p (page_of old p)
  pub register : new.register ≡ register_after e old.array_page old.queued old.held old.register
  pub held : new.held ≡ held_after e (is_copyback_read old.closer) old.array_page old.queued old.held
  pub array_page : new.array_page ≡ array_page_after e old.array_page
  pub busy : new.busy ≡ busy_after e old.busy
  pub closer : new.closer ≡ closer_after e old.closer
  pub array_busy : new.array_busy ≡ array_busy_after e old.busy old.closer old.array_busy
  pub queue : new.queued ≡ queue_after e old.queued
  pub queued : queued_of new ≡ queued_work_after e (bytes_taken old e) (queued_of old)
  pub pending : pending_of new ≡ pending_work_after e (bytes_taken old e) (queued_of old) (pending_of old)
  pub in_array : new.in_array ≡ array_work_after e old.closer (pending_of old) old.in_array
  pub failed : new.failed ≡ failed_after e old.closer (is_some_work (pending_of old)) old.failed
  pub failed_before : new.failed_before ≡ before_failed_after e old.closer (is_some_work old.in_array) old.failed old.failed_before

-- what a die tells of failures
abbrev pub failures_of : Die → Failures
failures_of d = record { last = d.failed && not (is_plane_program d.closer); before = d.failed_before }

abbrev pub status_of : Die → ℕ
status_of d = status_byte d.busy d.array_busy (failures_of d).last (failures_of d).before

-- the bytes of its register
abbrev pub bytes_shown : Die → List ℕ
bytes_shown d = register_bytes (parameter_bytes d.geometry) (page_of d) d.register

abbrev pub are_none : List PageAddress → Bool
are_none [] = true
are_none (p ∷ held) = false

-- nothing is going on, waits, is held or has failed
abbrev pub is_new : Die → Bool
is_new d =
    not d.busy && (not d.array_busy && (is_none d.closer && (is_empty d.register && (are_none d.held && (not (has_some d.queued) && (not (has_some d.pending) && (not (is_some_work d.in_array) && (not d.failed && not d.failed_before))))))))

abbrev pub row_of_work : Work → Option PageAddress
row_of_work (w.Read at) = Some at
row_of_work (w.Copyback at planes) = Some at
row_of_work (w.Program at) = Some at
row_of_work (w.CacheProgram at) = Some at
row_of_work (w.Erase at) = Some at
row_of_work (w.Queue (Erase at)) = Some at
row_of_work (w.Queue (Program at)) = Some at
row_of_work (w.Queue (QueuedRead at)) = Some at
row_of_work _ = None

abbrev pub is_row_of : Parts → Option PageAddress → Bool
is_row_of g None = true
is_row_of g (Some p) = is_row g p

-- the work goes together with the rows that are queued
abbrev pub goes_with : Parts → Work → List Queued → Bool
goes_with g (w.Program at) queue = not (some_queued_clashes g false at queue)
goes_with g (w.CacheProgram at) queue = not (some_queued_clashes g false at queue)
goes_with g (w.Erase at) queue = not (some_queued_clashes g true at queue)
goes_with g (w.Queue (Erase at)) queue = not (some_queued_clashes g true at queue)
goes_with g (w.Queue (Program at)) queue = not (some_queued_clashes g false at queue)
goes_with g (w.Queue (QueuedRead at)) queue = not (some_read_clashes g at queue)
goes_with g _ queue = true

abbrev pub is_reset : Work → Bool
is_reset w.Reset = true
is_reset _ = false

-- what a caller of `begin` sees to: a row inside the geometry that goes together with the queue, and a ready die, if it isn't a reset
pub record CanBegin (work : Work) (d : Die) : Type 0 where
  pub row : is_row_of d.geometry (row_of_work work) ≡ true
  pub together : goes_with d.geometry work d.queued ≡ true
  pub ready : is_reset work || not d.busy ≡ true
  pub room : length d.queued < 16
  pub next : d.array_page.page < 2 ^ 32
  pub planes : HasPlanes (effect_of work)

-- what a work makes of the rows that wait
abbrev pub queue_with : Work → List Queued → List Queued
queue_with (w.Program at) queue = Program at ∷ queue
queue_with (w.CacheProgram at) queue = Program at ∷ queue
queue_with (w.Erase at) queue = Erase at ∷ queue
queue_with (w.Queue q) queue = q ∷ queue
queue_with (w.Read at) queue = []
queue_with (w.Copyback at planes) queue = []
queue_with w.Reset queue = []
queue_with _ queue = queue

-- the rows that wait are those that the next ready ends
abbrev pub closes : Work → Bool
closes (w.Program at) = true
closes (w.CacheProgram at) = true
closes (w.Erase at) = true
closes _ = false

abbrev pub page_to_keep : Work → Option PageAddress
page_to_keep (w.Program at) = Some at
page_to_keep (w.CacheProgram at) = Some at
page_to_keep (w.Queue (Program at)) = Some at
page_to_keep _ = None

-- the effect puts a page in place, which takes memory
abbrev pub is_program : Effect → Bool
is_program (ProgramStarted queued at) = true
is_program (CacheProgramStarted at) = true
is_program _ = false

-- the programs of a list have their pages in place
abbrev pub AreKept : List ((ℕ × ℕ) × List ℕ) → List Queued → Type 0
AreKept pages [] = Unit {0}
AreKept pages (Erase at ∷ queue) = AreKept pages queue
AreKept pages (Program at ∷ queue) = IsSome (kept pages at) × AreKept pages queue
AreKept pages (QueuedRead at ∷ queue) = AreKept pages queue

abbrev pub is_erase : Queued → Bool
is_erase (Erase at) = true
is_erase (Program at) = false
is_erase (QueuedRead at) = false

-- each is an erase, or none is
abbrev pub are_erases : List Queued → Bool
are_erases [] = true
are_erases (q ∷ queue) = is_erase q && are_erases queue

abbrev pub are_programs : List Queued → Bool
are_programs [] = true
are_programs (q ∷ queue) = not (is_erase q) && are_programs queue

-- the row programs a page
abbrev pub is_written : Queued → Bool
is_written (Program at) = true
is_written (Erase at) = false
is_written (QueuedRead at) = false

-- each does
abbrev pub are_written : List Queued → Bool
are_written [] = true
are_written (q ∷ queue) = is_written q && are_written queue

-- some row changes pages
abbrev pub has_work : List Queued → Bool
has_work [] = false
has_work (Erase at ∷ queue) = true
has_work (Program at ∷ queue) = true
has_work (QueuedRead at ∷ queue) = has_work queue

-- kept pages lie inside the geometry, and have the length of a page; so has the register of each plane
pub record HasRows (g : Parts) (pages : List ((ℕ × ℕ) × List ℕ)) (registers : List (List ℕ)) : Type 0 where
  pub inside : (p : PageAddress) → is_row g p ≡ false → kept pages p ≡ None
  pub lengths : (p : PageAddress) (bytes : List ℕ) → kept pages p ≡ Some bytes → length bytes ≡ page_len g
  pub count : length registers ≡ planes g
  pub widths : (k : ℕ) (bytes : List ℕ) → slice_get registers k ≡ Some bytes → length bytes ≡ page_len g

-- the programs that the array goes on with: their pages are in place, and the register of each plane that they take their bytes from has the length of a page
pub record HasArray (g : Parts) (pages : List ((ℕ × ℕ) × List ℕ)) (registers : List (List ℕ)) (queue : List Queued) : Type 0 where
  pub rows : HasRows g pages registers
  pub there : AreKept pages queue
  pub programs : are_written queue ≡ true

-- behind an 11 no row is closed, and behind a 15 none but programs
pub record ClosedBy (last : Option Command) (queue : List Queued) (closed : Bool) : Type 0 where
  pub queued : is_plane_program last ≡ true → closed ≡ false
  pub cached : is_cache_program last ≡ true → closed ≡ true → are_written queue ≡ true

-- what is true of every die, by its parts; queue are the rows queued, or where they are closed those that the next ready ends
pub record IsDie (g : Parts) (parameters : List ℕ) (pages : List ((ℕ × ℕ) × List ℕ)) (registers : List (List ℕ)) (queue : List Queued) (closed busy : Bool) : Type 0 where
  pub limits : InLimits g
  pub copies : parameters ≡ parameter_bytes g
  pub rows : HasRows g pages registers
  pub there : AreKept pages queue
  pub alike : are_erases queue || are_programs queue ≡ true
  pub works : closed ≡ true → busy ≡ true
  pub some : closed ≡ true → has_work queue ≡ true

-- while its register holds a page the bytes of that page stand ready
pub record ShowsPage (g : Parts) (pages : List ((ℕ × ℕ) × List ℕ)) (register : Register) (output : List ℕ) : Type 0 where
  pub page : (at : PageAddress) → register ≡ Page at → output ≡ page_in (page_len g) pages at
  pub width : length output ≡ page_len g

-- what is true of every die, of what its array goes on with, and of the bytes that stand ready
pub record KeepsDie (g : Parts) (parameters : List ℕ) (pages : List ((ℕ × ℕ) × List ℕ)) (registers array_registers : List (List ℕ)) (queue in_array : List Queued) (closed busy : Bool) (last : Option Command) (register : Register) (output : List ℕ) : Type 0 where
  pub die : IsDie g parameters pages registers queue closed busy
  pub array : HasArray g pages array_registers in_array
  pub closed_by : ClosedBy last queue closed
  pub shows : ShowsPage g pages register output

-- a die fresh from the factory: every byte of every page and register is FF
abbrev pub new_die : Parts → Die
new_die g =
    record {
      geometry = g;
      pages = [];
      planes = replicate (planes g) (replicate (page_len g) 0xff);
      register = Empty;
      held = [];
      array_page = record { block = 0; page = 0 };
      busy = false;
      closer = None;
      array_busy = false;
      queued = [];
      pending = [];
      in_array = [];
      failed = false;
      failed_before = false;
    }
