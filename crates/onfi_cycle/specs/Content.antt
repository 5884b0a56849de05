-- What the pages of a LUN contain, and what a LUN shows.
use Rattle.std.specs.Prelude.{◌≡◌, ℕ, zero, suc, ◌+◌, ◌==◌, Bool, true, false, ◌&&◌, ◌||◌, not, if◌then◌else◌, List, [], ◌∷◌, ◌++◌, Option, Some, None, bit_and, replicate, slice_get, slice_set}
use Rattle.nand_geometry.specs.declared.parts.Parts.{Parts}
use Rattle.nand_geometry.specs.Limits.{page_len, planes}
use Rattle.onfi_cycle.specs.declared.command.Command.{Command}
use Rattle.onfi_cycle.specs.declared.lun.Lun.{Lun}
use Rattle.onfi_cycle.specs.declared.latch.Latch.{Latch}
use Rattle.onfi_cycle.specs.declared.latch.Latch.TheVariants.{Off, Status, Data}
use Rattle.onfi_cycle.specs.declared.item.Item.{Item}
use Rattle.onfi_cycle.specs.declared.page_address.PageAddress.{PageAddress}
use Rattle.onfi_cycle.specs.declared.register.Register.{Register}
use Rattle.onfi_cycle.specs.declared.register.Register.TheVariants.{Empty, Page, ParameterPage, Identifier, Identity, JedecIdentity, UniqueId, Features}
use Rattle.onfi_cycle.specs.declared.effect.Effect.{Effect}
use Rattle.onfi_cycle.specs.declared.effect.Effect.TheVariants.{ParameterPageReadStarted, UniqueIdReadStarted, FeaturesReadStarted, FeaturesSet, CacheReadContinued, CacheReadEnded, ResetStarted, TargetResetStarted, BecameReady, ArrayBecameReady, ReadStarted, EraseStarted, ProgramStarted, ReadQueued, CopybackReadStarted, CacheProgramStarted, IdRead, IdentityRead}
use Rattle.onfi_cycle.specs.Sequence.{tail, facts_of, filled, row}
use Rattle.onfi_cycle.specs.Effect.{plane_of_row}
use Rattle.onfi_cycle.specs.Lun.{effect_on, closer, is_cache_program, is_plane_program, keeps_array_busy, latch, is_busy, is_array_busy, read_column, output_column, register, held, page_in_plane}

-- a list with these bytes written over it from a place on, the first byte first
abbrev pub written : List ℕ → ℕ → List ℕ → List ℕ
written [] place old = old
written (byte ∷ bytes) place old = written bytes (place + 1) (slice_set old place byte)

abbrev pub and_bytes : List ℕ → List ℕ → List ℕ
and_bytes [] new = []
and_bytes (x ∷ old) [] = []
and_bytes (x ∷ old) (y ∷ new) = bit_and x y ∷ and_bytes old new

abbrev pub same_page : PageAddress → PageAddress → Bool
same_page p q = p.block == q.block && p.page == q.page

-- what the array of a LUN is to do to its pages: erase a block, or program a page with these bytes
pub data ArrayWork : Type 0 where
  ErasesBlock : (at : PageAddress) → ArrayWork
  ProgramsPage : (at : PageAddress) (bytes : List ℕ) → ArrayWork

-- what a work leaves of a page: FF in an erased block, the old bytes AND the new ones in a programmed page
abbrev pub left_by : ℕ → ArrayWork → PageAddress → List ℕ → List ℕ
left_by len (ErasesBlock at) p old = if p.block == at.block then replicate len 0xff else old
left_by len (ProgramsPage at bytes) p old = if same_page p at then and_bytes old bytes else old

-- what a list of works leaves, the last of it first
abbrev pub left_by_all : ℕ → List ArrayWork → PageAddress → List ℕ → List ℕ
left_by_all len [] p old = old
left_by_all len (work ∷ works) p old = left_by len work p (left_by_all len works p old)

abbrev pub queued_work_after : Effect → List ℕ → List ArrayWork → List ArrayWork
queued_work_after (EraseStarted queued at) bytes works = if queued then ErasesBlock at ∷ works else []
queued_work_after (ProgramStarted queued at) bytes works = if queued then ProgramsPage at bytes ∷ works else []
queued_work_after (CacheProgramStarted _) bytes works = []
queued_work_after (ReadStarted _ _) bytes works = []
queued_work_after (CopybackReadStarted _ _ _) bytes works = []
queued_work_after ResetStarted bytes works = []
queued_work_after (TargetResetStarted _) bytes works = []
queued_work_after _ bytes works = works

abbrev pub pending_work_after : Effect → List ℕ → List ArrayWork → List ArrayWork → List ArrayWork
pending_work_after (EraseStarted queued at) bytes works pending = if queued then [] else ErasesBlock at ∷ works
pending_work_after (ProgramStarted queued at) bytes works pending = if queued then [] else ProgramsPage at bytes ∷ works
pending_work_after (CacheProgramStarted at) bytes works pending = ProgramsPage at bytes ∷ works
pending_work_after (ReadStarted _ _) bytes works pending = []
pending_work_after (ReadQueued _) bytes works pending = []
pending_work_after (CopybackReadStarted _ _ _) bytes works pending = []
pending_work_after ParameterPageReadStarted bytes works pending = []
pending_work_after UniqueIdReadStarted bytes works pending = []
pending_work_after (FeaturesReadStarted _) bytes works pending = []
pending_work_after (FeaturesSet _) bytes works pending = []
pending_work_after (CacheReadContinued _) bytes works pending = []
pending_work_after CacheReadEnded bytes works pending = []
pending_work_after ResetStarted bytes works pending = []
pending_work_after (TargetResetStarted _) bytes works pending = []
pending_work_after (BecameReady _) bytes works pending = []
pending_work_after _ bytes works pending = pending

-- what the array goes on with: behind the ready of a 15 what that closed; a ready of it ends that, and so does each ready of the LUN but that of an 11;
-- each other work than a program drops it
abbrev pub array_work_after : Effect → Option Command → (pending works : List ArrayWork) → List ArrayWork
array_work_after (BecameReady _) last pending works = if is_cache_program last then pending else (if is_plane_program last then works else [])
array_work_after (ArrayBecameReady _) last pending works = []
array_work_after (ReadStarted _ _) last pending works = []
array_work_after (ReadQueued _) last pending works = []
array_work_after (CopybackReadStarted _ _ _) last pending works = []
array_work_after (EraseStarted _ _) last pending works = []
array_work_after IdRead last pending works = []
array_work_after (IdentityRead _) last pending works = []
array_work_after ParameterPageReadStarted last pending works = []
array_work_after UniqueIdReadStarted last pending works = []
array_work_after (FeaturesReadStarted _) last pending works = []
array_work_after (FeaturesSet _) last pending works = []
array_work_after (CacheReadContinued _) last pending works = []
array_work_after CacheReadEnded last pending works = []
array_work_after ResetStarted last pending works = []
array_work_after (TargetResetStarted _) last pending works = []
array_work_after _ last pending works = works

-- what works leave that take effect, or don't
abbrev pub left_unless : Bool → ℕ → List ArrayWork → PageAddress → List ℕ → List ℕ
left_unless not_so len works p old = if not_so then old else left_by_all len works p old

-- a ready tells of what the array went on with, and of what the last closer closed: that takes effect, behind a 15 not yet, and behind an 11 nothing
-- does; a ready of the array tells of what that went on with
abbrev pub content_after : Parts → Effect → Option Command → (pending works : List ArrayWork) → PageAddress → List ℕ → List ℕ
content_after g (BecameReady fail) last pending works p old =
    left_unless (fail.last || is_cache_program last) (page_len g) pending p (left_unless (fail.before || is_plane_program last) (page_len g) works p old)
content_after g (ArrayBecameReady fail) last pending works p old = left_unless fail (page_len g) works p old
content_after g _ last pending works p old = old

-- the pages of a LUN, and the works on them that are to come: queued, behind a closer, and behind the ready of a 15
pub record LunPages : Type 0 where
  pub queued : List ArrayWork
  pub pending : List ArrayWork
  pub in_array : List ArrayWork
  pub content : PageAddress → List ℕ

-- the bytes of a page that is held, and FF where none is
abbrev pub bytes_held : Parts → (PageAddress → List ℕ) → Option PageAddress → List ℕ
bytes_held g content None = replicate (page_len g) 0xff
bytes_held g content (Some p) = content p

-- the bytes that a program begins with: of the page that the LUN holds in the plane of the row. 85 copies that; 80 leaves none
abbrev pub begun_with : Parts → (PageAddress → List ℕ) → List Item → Lun → List ℕ
begun_with g content past l = bytes_held g content (page_in_plane (planes g) (plane_of_row g (row (facts_of (tail past l.ce)))) (held g past l))

-- the bytes of a program that is open on the LUN
abbrev pub program_bytes : Parts → (PageAddress → List ℕ) → List Item → Lun → List ℕ
program_bytes g content past l = filled (begun_with g content past l) (tail past l.ce)

abbrev pub pages_after : Parts → Effect → Option Command → List ℕ → LunPages → LunPages
pages_after g a last bytes s =
    record {
      queued = queued_work_after a bytes s.queued;
      pending = pending_work_after a bytes s.queued s.pending;
      in_array = array_work_after a last s.pending s.in_array;
      content = λ p. content_after g a last s.pending s.in_array p (s.content p);
    }

-- the pages of the LUN after a past, from what they had at the opening
abbrev pub pages_of : Parts → (Lun → PageAddress → List ℕ) → List Item → Lun → LunPages
pages_of g opening [] l = record { queued = []; pending = []; in_array = []; content = opening l }
pages_of g opening (i ∷ past) l =
    let before = pages_of g opening past l in pages_after g (effect_on g past i l) (closer g past l) (program_bytes g before.content past l) before

-- the queue with its bytes, the newest first
abbrev pub queued_work : Parts → (Lun → PageAddress → List ℕ) → List Item → Lun → List ArrayWork
queued_work g opening past l = (pages_of g opening past l).queued

-- what takes effect at the next ready of the LUN, if that is without failure: what 10 or D0 closed, and its queue; what 15 closed goes on in the array
abbrev pub pending_work : Parts → (Lun → PageAddress → List ℕ) → List Item → Lun → List ArrayWork
pending_work g opening past l = (pages_of g opening past l).pending

-- what the array goes on with behind the ready of a 15
abbrev pub array_work : Parts → (Lun → PageAddress → List ℕ) → List Item → Lun → List ArrayWork
array_work g opening past l = (pages_of g opening past l).in_array

-- the bytes of a page
abbrev pub content : Parts → (Lun → PageAddress → List ℕ) → List Item → Lun → PageAddress → List ℕ
content g opening past l = (pages_of g opening past l).content

-- whether the work that goes on changes pages: 10, 15 or D0 closed it
abbrev pub changes_after : Effect → Bool → Bool
changes_after (EraseStarted queued at) changes = not queued
changes_after (ProgramStarted queued at) changes = not queued
changes_after (CacheProgramStarted _) changes = true
changes_after (ReadStarted _ _) changes = false
changes_after (ReadQueued _) changes = false
changes_after (CopybackReadStarted _ _ _) changes = false
changes_after ParameterPageReadStarted changes = false
changes_after UniqueIdReadStarted changes = false
changes_after (FeaturesReadStarted _) changes = false
changes_after (FeaturesSet _) changes = false
changes_after (CacheReadContinued _) changes = false
changes_after CacheReadEnded changes = false
changes_after ResetStarted changes = false
changes_after (TargetResetStarted _) changes = false
changes_after (BecameReady _) changes = false
changes_after _ changes = changes

abbrev pub changes_pages : Parts → List Item → Lun → Bool
changes_pages g [] l = false
changes_pages g (i ∷ past) l = changes_after (effect_on g past i l) (changes_pages g past l)

-- whether the array goes on with pages, behind the ready of a 15
abbrev pub array_changes_after : Effect → Option Command → (changes array_changes : Bool) → Bool
array_changes_after (BecameReady _) last changes array_changes = if is_cache_program last then changes else is_plane_program last && array_changes
array_changes_after (ArrayBecameReady _) last changes array_changes = false
array_changes_after (ReadStarted _ _) last changes array_changes = false
array_changes_after (ReadQueued _) last changes array_changes = false
array_changes_after (CopybackReadStarted _ _ _) last changes array_changes = false
array_changes_after (EraseStarted _ _) last changes array_changes = false
array_changes_after IdRead last changes array_changes = false
array_changes_after (IdentityRead _) last changes array_changes = false
array_changes_after ParameterPageReadStarted last changes array_changes = false
array_changes_after UniqueIdReadStarted last changes array_changes = false
array_changes_after (FeaturesReadStarted _) last changes array_changes = false
array_changes_after (FeaturesSet _) last changes array_changes = false
array_changes_after (CacheReadContinued _) last changes array_changes = false
array_changes_after CacheReadEnded last changes array_changes = false
array_changes_after ResetStarted last changes array_changes = false
array_changes_after (TargetResetStarted _) last changes array_changes = false
array_changes_after _ last changes array_changes = array_changes

abbrev pub array_changes : Parts → List Item → Lun → Bool
array_changes g [] l = false
array_changes g (i ∷ past) l = array_changes_after (effect_on g past i l) (closer g past l) (changes_pages g past l) (array_changes g past l)

-- the ready of a 10 or D0 tells of its work, that of a 15 doesn't: the array's does; 11s leave what that told
abbrev pub failed_after : Effect → Option Command → (changes : Bool) → Bool → Bool
failed_after (BecameReady fail) last changes failed = if is_plane_program last then failed else fail.last && (changes && not (is_cache_program last))
failed_after (ArrayBecameReady fail) last changes failed = if keeps_array_busy last then fail else failed
failed_after (ProgramStarted queued _) last changes failed = if queued then keeps_array_busy last && failed else failed
failed_after (CacheProgramStarted _) last changes failed = false
failed_after _ last changes failed = failed

-- the newest work, 11s behind a 15 left out, was a program or an erase, and what is told of it is a failure
abbrev pub has_failed : Parts → List Item → Lun → Bool
has_failed g [] l = false
has_failed g (i ∷ past) l = failed_after (effect_on g past i l) (closer g past l) (changes_pages g past l) (has_failed g past l)

-- behind a 15 the closer of a program asks what is told of the page before, which the array's ready may have told; else its own ready tells
abbrev pub before_failed_after : Effect → Option Command → (array_changes failed before : Bool) → Bool
before_failed_after (BecameReady fail) last array_changes failed before = if array_changes && not (is_plane_program last) then fail.before else before
before_failed_after (ProgramStarted queued _) last array_changes failed before = not queued && (keeps_array_busy last && failed)
before_failed_after (CacheProgramStarted _) last array_changes failed before = keeps_array_busy last && failed
before_failed_after (ReadStarted _ _) last array_changes failed before = false
before_failed_after (ReadQueued _) last array_changes failed before = false
before_failed_after (CopybackReadStarted _ _ _) last array_changes failed before = false
before_failed_after (EraseStarted _ _) last array_changes failed before = false
before_failed_after ParameterPageReadStarted last array_changes failed before = false
before_failed_after UniqueIdReadStarted last array_changes failed before = false
before_failed_after (FeaturesReadStarted _) last array_changes failed before = false
before_failed_after (FeaturesSet _) last array_changes failed before = false
before_failed_after (CacheReadContinued _) last array_changes failed before = false
before_failed_after CacheReadEnded last array_changes failed before = false
before_failed_after ResetStarted last array_changes failed before = false
before_failed_after (TargetResetStarted _) last array_changes failed before = false
before_failed_after _ last array_changes failed before = before

-- the newest work is a program behind a 15, 11s left out, and what is told of the page of that is a failure
abbrev pub has_failed_before : Parts → List Item → Lun → Bool
has_failed_before g [] l = false
has_failed_before g (i ∷ past) l = before_failed_after (effect_on g past i l) (closer g past l) (array_changes g past l) (has_failed g past l) (has_failed_before g past l)

abbrev pub is_some_work : List ArrayWork → Bool
is_some_work [] = false
is_some_work (work ∷ works) = true

-- the law: the work that goes on changes pages exactly where something takes effect at its end, and the array's where something does at the end of that
-- and while it does, no page is held
pub record WorkChangesPages : Type 0 where
  pub lun : (g : Parts) (opening : Lun → PageAddress → List ℕ) (past : List Item) (l : Lun) → is_some_work (pending_work g opening past l) ≡ changes_pages g past l
  pub array : (g : Parts) (opening : Lun → PageAddress → List ℕ) (past : List Item) (l : Lun) → is_some_work (array_work g opening past l) ≡ array_changes g past l
  pub held : (g : Parts) (past : List Item) (l : Lun) → array_changes g past l ≡ true → held g past l ≡ []

-- the last work failed; that of an 11 tells nothing
abbrev pub shows_failure : Parts → List Item → Lun → Bool
shows_failure g past l = has_failed g past l && not (is_plane_program (closer g past l))

-- the status byte: WP_N alone while the LUN is busy; with RDY while its array still is; else with ARDY too, and FAIL if its last work failed; with FAILC
-- if the page before did
abbrev pub status_byte : (busy array_busy failed before : Bool) → ℕ
status_byte true array_busy failed before = 0x80
status_byte false true failed before = if before then 0xc2 else 0xc0
status_byte false false true before = if before then 0xe3 else 0xe1
status_byte false false false before = if before then 0xe2 else 0xe0

abbrev pub status : Parts → List Item → Lun → ℕ
status g past l = status_byte (is_busy g past l) (is_array_busy g past l) (shows_failure g past l) (has_failed_before g past l)

-- so many times sixteen zeros and their complement
abbrev pub identifiers : ℕ → List ℕ
identifiers zero = []
identifiers (suc count) = replicate 16 0 ++ (replicate 16 0xff ++ identifiers count)

-- the bytes of a register; parameters are those of the parameter page, three copies. Of a chip's manufacturer, identifier and features nothing is
-- known: they are zeros
abbrev pub register_bytes : List ℕ → (PageAddress → List ℕ) → Register → List ℕ
register_bytes parameters pages Empty = []
register_bytes parameters pages (Page p) = pages p
register_bytes parameters pages ParameterPage = parameters
register_bytes parameters pages Identifier = 0x4f ∷ (0x4e ∷ (0x46 ∷ (0x49 ∷ [])))
register_bytes parameters pages Identity = replicate 8 0
register_bytes parameters pages JedecIdentity = 0x4a ∷ (0x45 ∷ (0x44 ∷ (0x45 ∷ (0x43 ∷ (0 ∷ [])))))
register_bytes parameters pages UniqueId = identifiers 16
register_bytes parameters pages (Features address) = replicate 4 0

abbrev pub byte_at : List ℕ → Option ℕ → Option ℕ
byte_at bytes None = None
byte_at bytes (Some k) = slice_get bytes k

abbrev pub shown_by : Latch → ℕ → Option ℕ → Option ℕ
shown_by Off status data_byte = None
shown_by Status status data_byte = Some status
shown_by Data status data_byte = data_byte

-- the byte that the LUN gives next
abbrev pub shown : Parts → List ℕ → (Lun → PageAddress → List ℕ) → List Item → Lun → Option ℕ
shown g parameters opening past l =
    shown_by (latch g past l) (status g past l) (byte_at (register_bytes parameters (content g opening past l) (register g past l)) (output_column (read_column g past l)))
