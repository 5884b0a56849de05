-- A permitted output has a byte.
use Rattle.std.proofs.Common.{◌≡◌, ℕ, suc, ◌<◌, ◌==◌, Bool, true, false, ◌&&◌, ◌||◌, cond, List, [], ◌∷◌, Option, Some, None, refl, sym, ap, ◌∙◌, subst, arith, length, get_or, leb-false, eqb-true, eq-eqb, length-set, replicate}
use Rattle.std.proofs.lemmas.List.{length-replicate}
use Rattle.std.proofs.lemmas.Option.{slice_get-get_or}
use Rattle.nand_geometry.specs.declared.parts.Parts.{Parts}
use Rattle.nand_geometry.specs.Limits.{page_len, planes}
use Rattle.onfi_cycle.specs.declared.queued.Queued.{Queued}
use Rattle.onfi_cycle.specs.declared.command.Command.{Command}
use Rattle.onfi_cycle.specs.declared.lun.Lun.{Lun}
use Rattle.onfi_cycle.specs.declared.item.Cycle.{Cycle}
use Rattle.onfi_cycle.specs.declared.item.Item.{Item}
use Rattle.onfi_cycle.specs.declared.item.Kind.TheVariants.{Dout}
use Rattle.onfi_cycle.specs.declared.latch.Latch.{Latch}
use Rattle.onfi_cycle.specs.declared.latch.Latch.TheVariants.{Off, Status, Data}
use Rattle.onfi_cycle.specs.declared.target_cycle.TargetCycle.{TargetCycle}
use Rattle.onfi_cycle.specs.declared.target_cycle.TargetCycle.TheVariants.{CommandCycle, AddressCycle, InputCycle, OutputCycle}
use Rattle.onfi_cycle.specs.declared.page_address.PageAddress.{PageAddress}
use Rattle.onfi_cycle.specs.declared.register.Register.{Register}
use Rattle.onfi_cycle.specs.declared.register.Register.TheVariants.{Empty, Page, ParameterPage, Identifier, Identity, JedecIdentity, UniqueId, Features}
use Rattle.onfi_cycle.specs.declared.effect.Effect.{Effect}
use Rattle.onfi_cycle.specs.declared.effect.Effect.TheVariants.{ReadStarted, EraseStarted, ProgramStarted, ResetStarted, BecameReady, ParameterPageReadStarted, UniqueIdReadStarted, FeaturesReadStarted, FeaturesSet, CacheReadContinued, CacheReadEnded, TargetResetStarted, ReadQueued, CopybackReadStarted, CacheProgramStarted, ArrayBecameReady, IdRead, IdentityRead, ProgramAddressed}
use Rattle.onfi_cycle.specs.Sequence.{tail, facts_of, filled, row, input_column, is_open, with_cycle}
use Rattle.onfi_cycle.specs.LunView.{LunView}
use Rattle.onfi_cycle.specs.Effect.{is_off, is_data, plane_of_row}
use Rattle.onfi_cycle.specs.Lun.{latch, effect_on, drivers, is_only, is_busy, register, read_column, output_column, lun_view, held, page_in_plane, closer, is_cache_program, is_plane_program, closer_after, held_after}
use Rattle.onfi_cycle.specs.Content.{ArrayWork, ErasesBlock, ProgramsPage, and_bytes, left_by, left_by_all, same_page, queued_work, queued_work_after, pending_work, pending_work_after, content, content_after, status, register_bytes, byte_at, shown, shown_by, LunPages, pages_of, program_bytes, bytes_held, is_some_work, changes_after, changes_pages, WorkChangesPages, left_unless, array_work_after, array_work, array_changes, array_changes_after}
use Rattle.onfi_cycle.specs.Rules.{breaks_data_not_ready, breaks_column_outside, is_some_and, has_no_byte, is_past_register, is_past, lacks, is_empty, register_len}
use Rattle.onfi_cycle.specs.Permitted.{broken}
use Rattle.onfi_cycle.specs.Channel.{Channel, IsChannel, cycle, bus_byte, byte_of_driver, is_open_on}
use Rattle.onfi_cycle.proofs.Drivers.{driver_of_target}
use Rattle.onfi_cycle.proofs.Meaning.{driver_on}
use Rattle.onfi_cycle.proofs.Passed.{permitted_keeps}

-- a work carries as many bytes as a page has
abbrev IsWhole : ℕ → ArrayWork → Type 0
IsWhole len (ErasesBlock at) = Unit {0}
IsWhole len (ProgramsPage at bytes) = length bytes ≡ len

abbrev AllWhole : ℕ → List ArrayWork → Type 0
AllWhole len [] = Unit {0}
AllWhole len (c ∷ cs) = IsWhole len c × AllWhole len cs

filled_len : (begun : List ℕ) (t : List TargetCycle) → length (filled begun t) ≡ length begun
filled_len begun [] = refl
filled_len begun (CommandCycle c ∷ t) = filled_len begun t
filled_len begun (AddressCycle byte ∷ t) = filled_len begun t
filled_len begun (InputCycle byte ∷ t) = length-set (filled begun t) (input_column (facts_of t)) byte ∙ filled_len begun t
filled_len begun (OutputCycle ∷ t) = filled_len begun t

held_len : (g : Parts) (content : PageAddress → List ℕ) (held : Option PageAddress) → ((p : PageAddress) → length (content p) ≡ page_len g) → length (bytes_held g content held) ≡ page_len g
held_len g content None h = length-replicate (page_len g) 0xff
held_len g content (Some p) h = h p

queued_after_whole : (len : ℕ) (e : Effect) (bytes : List ℕ) (q : List ArrayWork) → length bytes ≡ len → AllWhole len q → AllWhole len (queued_work_after e bytes q)
queued_after_whole len (EraseStarted true at) bytes q h w = (tt, w)
queued_after_whole len (EraseStarted false at) bytes q h w = tt
queued_after_whole len (ProgramStarted true at) bytes q h w = (h, w)
queued_after_whole len (ProgramStarted false at) bytes q h w = tt
queued_after_whole len (CacheProgramStarted at) bytes q h w = tt
queued_after_whole len (ReadStarted at from) bytes q h w = tt
queued_after_whole len (CopybackReadStarted at from count) bytes q h w = tt
queued_after_whole len ResetStarted bytes q h w = tt
queued_after_whole len (TargetResetStarted first) bytes q h w = tt
queued_after_whole len _ bytes q h w = w

pending_after_whole : (len : ℕ) (e : Effect) (bytes : List ℕ) (q p : List ArrayWork) → length bytes ≡ len → AllWhole len q → AllWhole len p → AllWhole len (pending_work_after e bytes q p)
pending_after_whole len (EraseStarted true at) bytes q p h w v = tt
pending_after_whole len (EraseStarted false at) bytes q p h w v = (tt, w)
pending_after_whole len (ProgramStarted true at) bytes q p h w v = tt
pending_after_whole len (ProgramStarted false at) bytes q p h w v = (h, w)
pending_after_whole len (CacheProgramStarted at) bytes q p h w v = (h, w)
pending_after_whole len (ReadStarted at from) bytes q p h w v = tt
pending_after_whole len (ReadQueued at) bytes q p h w v = tt
pending_after_whole len (CopybackReadStarted at from count) bytes q p h w v = tt
pending_after_whole len ParameterPageReadStarted bytes q p h w v = tt
pending_after_whole len UniqueIdReadStarted bytes q p h w v = tt
pending_after_whole len (FeaturesReadStarted address) bytes q p h w v = tt
pending_after_whole len (FeaturesSet feature) bytes q p h w v = tt
pending_after_whole len (CacheReadContinued to) bytes q p h w v = tt
pending_after_whole len CacheReadEnded bytes q p h w v = tt
pending_after_whole len ResetStarted bytes q p h w v = tt
pending_after_whole len (TargetResetStarted first) bytes q p h w v = tt
pending_after_whole len (BecameReady fail) bytes q p h w v = tt
pending_after_whole len _ bytes q p h w v = v

and_len : (a b : List ℕ) → length a ≡ length b → length (and_bytes a b) ≡ length a
and_len [] b h = refl
and_len (x ∷ a) [] h = cc
and_len (x ∷ a) (y ∷ b) h = let e : length a ≡ length b = omega arith in ap suc (and_len a b e)

left_by_len : (len : ℕ) (c : ArrayWork) (p : PageAddress) (old : List ℕ) → IsWhole len c → length old ≡ len → length (left_by len c p old) ≡ len
left_by_len len (ErasesBlock at) p old w h = pick (p.block == at.block)
  where
    pick : (b : Bool) → length (cond b (replicate len 0xff) old) ≡ len
    pick true = length-replicate len 0xff
    pick false = h
left_by_len len (ProgramsPage at bytes) p old w h = pick (same_page p at)
  where
    pick : (b : Bool) → length (cond b (and_bytes old bytes) old) ≡ len
    pick true = and_len old bytes (h ∙ sym w) ∙ h
    pick false = h

left_by_all_len : (len : ℕ) (cs : List ArrayWork) (p : PageAddress) (old : List ℕ) → AllWhole len cs → length old ≡ len → length (left_by_all len cs p old) ≡ len
left_by_all_len len [] p old w h = h
left_by_all_len len (c ∷ cs) p old w h = left_by_len len c p (left_by_all len cs p old) w.0 (left_by_all_len len cs p old w.1 h)

left_unless_len : (spoilt : Bool) (len : ℕ) (cs : List ArrayWork) (p : PageAddress) (old : List ℕ) → AllWhole len cs → length old ≡ len → length (left_unless spoilt len cs p old) ≡ len
left_unless_len true len cs p old w h = h
left_unless_len false len cs p old w h = left_by_all_len len cs p old w h

content_after_len : (g : Parts) (e : Effect) (last : Option Command) (cs ws : List ArrayWork) (p : PageAddress) (old : List ℕ) → AllWhole (page_len g) cs → AllWhole (page_len g) ws → length old ≡ page_len g → length (content_after g e last cs ws p old) ≡ page_len g
content_after_len g (BecameReady fail) last cs ws p old w v h =
    left_unless_len (fail.last || is_cache_program last) (page_len g) cs p _ w (left_unless_len (fail.before || is_plane_program last) (page_len g) ws p old v h)
content_after_len g (ArrayBecameReady fail) last cs ws p old w v h = left_unless_len fail (page_len g) ws p old v h
content_after_len g _ last cs ws p old w v h = h

-- the works that the array goes on with
in_array_whole : (len : ℕ) (e : Effect) (last : Option Command) (cs ws : List ArrayWork) → AllWhole len cs → AllWhole len ws → AllWhole len (array_work_after e last cs ws)
in_array_whole len (BecameReady fail) last cs ws w v = pick (is_cache_program last) (is_plane_program last)
  where
    pick : (cache plane : Bool) → AllWhole len (cond cache cs (cond plane ws []))
    pick true plane = w
    pick false true = v
    pick false false = tt
in_array_whole len (ArrayBecameReady fail) last cs ws w v = tt
in_array_whole len (ReadStarted at from) last cs ws w v = tt
in_array_whole len (ReadQueued at) last cs ws w v = tt
in_array_whole len (CopybackReadStarted at from count) last cs ws w v = tt
in_array_whole len (EraseStarted queued at) last cs ws w v = tt
in_array_whole len IdRead last cs ws w v = tt
in_array_whole len (IdentityRead jedec) last cs ws w v = tt
in_array_whole len ParameterPageReadStarted last cs ws w v = tt
in_array_whole len UniqueIdReadStarted last cs ws w v = tt
in_array_whole len (FeaturesReadStarted address) last cs ws w v = tt
in_array_whole len (FeaturesSet feature) last cs ws w v = tt
in_array_whole len (CacheReadContinued to) last cs ws w v = tt
in_array_whole len CacheReadEnded last cs ws w v = tt
in_array_whole len ResetStarted last cs ws w v = tt
in_array_whole len (TargetResetStarted first) last cs ws w v = tt
in_array_whole len _ last cs ws w v = v

-- the works carry whole pages, and each page has its length
record ArePagesWhole (g : Parts) (s : LunPages) : Type 0 where
  queued : AllWhole (page_len g) s.queued
  pending : AllWhole (page_len g) s.pending
  in_array : AllWhole (page_len g) s.in_array
  content : (p : PageAddress) → length (s.content p) ≡ page_len g

pages_whole : (g : Parts) (opening : Lun → PageAddress → List ℕ) → ((l : Lun) (p : PageAddress) → length (opening l p) ≡ page_len g) → (past : List Item) (l : Lun) → ArePagesWhole g (pages_of g opening past l)
pages_whole g opening h [] l = record { queued = tt; pending = tt; in_array = tt; content = h l }
pages_whole g opening h (i ∷ past) l =
    let before = pages_whole g opening h past l in
    let s = pages_of g opening past l in
    let held_there = page_in_plane (planes g) (plane_of_row g (row (facts_of (tail past l.ce)))) (held g past l) in
    let bytes : length (program_bytes g s.content past l) ≡ page_len g = filled_len (bytes_held g s.content held_there) (tail past l.ce) ∙ held_len g s.content held_there before.content in
    record {
      queued = queued_after_whole (page_len g) (effect_on g past i l) _ _ bytes before.queued;
      pending = pending_after_whole (page_len g) (effect_on g past i l) _ _ _ bytes before.queued before.pending;
      in_array = in_array_whole (page_len g) (effect_on g past i l) (closer g past l) s.pending s.in_array before.pending before.in_array;
      content = λ p. content_after_len g (effect_on g past i l) (closer g past l) s.pending s.in_array p (s.content p) before.pending before.in_array (before.content p);
    }

-- the content of a page keeps its length
pub content_len : (g : Parts) (opening : Lun → PageAddress → List ℕ) → ((l : Lun) (p : PageAddress) → length (opening l p) ≡ page_len g) → (past : List Item) (l : Lun) (p : PageAddress) → length (content g opening past l p) ≡ page_len g
content_len g opening h past l p = (pages_whole g opening h past l).content p

-- whether the work that goes on changes pages
changes_step : (e : Effect) (bytes : List ℕ) (q p : List ArrayWork) (changes : Bool) → is_some_work p ≡ changes → is_some_work (pending_work_after e bytes q p) ≡ changes_after e changes
changes_step (EraseStarted true at) bytes q p changes h = refl
changes_step (EraseStarted false at) bytes q p changes h = refl
changes_step (ProgramStarted true at) bytes q p changes h = refl
changes_step (ProgramStarted false at) bytes q p changes h = refl
changes_step (CacheProgramStarted at) bytes q p changes h = refl
changes_step (ReadStarted at from) bytes q p changes h = refl
changes_step (ReadQueued at) bytes q p changes h = refl
changes_step (CopybackReadStarted at from count) bytes q p changes h = refl
changes_step ParameterPageReadStarted bytes q p changes h = refl
changes_step UniqueIdReadStarted bytes q p changes h = refl
changes_step (FeaturesReadStarted address) bytes q p changes h = refl
changes_step (FeaturesSet feature) bytes q p changes h = refl
changes_step (CacheReadContinued to) bytes q p changes h = refl
changes_step CacheReadEnded bytes q p changes h = refl
changes_step ResetStarted bytes q p changes h = refl
changes_step (TargetResetStarted first) bytes q p changes h = refl
changes_step (BecameReady fail) bytes q p changes h = refl
changes_step _ bytes q p changes h = h

lun_changes : (g : Parts) (opening : Lun → PageAddress → List ℕ) (past : List Item) (l : Lun) → is_some_work (pending_work g opening past l) ≡ changes_pages g past l
lun_changes g opening [] l = refl
lun_changes g opening (i ∷ past) l = changes_step (effect_on g past i l) _ _ (pending_work g opening past l) (changes_pages g past l) (lun_changes g opening past l)

-- whether the array goes on with pages
array_step : (e : Effect) (last : Option Command) (p w : List ArrayWork) (changes array : Bool) → is_some_work p ≡ changes → is_some_work w ≡ array
    → is_some_work (array_work_after e last p w) ≡ array_changes_after e last changes array
array_step (BecameReady fail) last p w changes array h k = pick (is_cache_program last) (is_plane_program last)
  where
    pick : (cache plane : Bool) → is_some_work (cond cache p (cond plane w [])) ≡ cond cache changes (plane && array)
    pick true plane = h
    pick false true = k
    pick false false = refl
array_step (ArrayBecameReady fail) last p w changes array h k = refl
array_step (ReadStarted at from) last p w changes array h k = refl
array_step (ReadQueued at) last p w changes array h k = refl
array_step (CopybackReadStarted at from count) last p w changes array h k = refl
array_step (EraseStarted queued at) last p w changes array h k = refl
array_step IdRead last p w changes array h k = refl
array_step (IdentityRead jedec) last p w changes array h k = refl
array_step ParameterPageReadStarted last p w changes array h k = refl
array_step UniqueIdReadStarted last p w changes array h k = refl
array_step (FeaturesReadStarted address) last p w changes array h k = refl
array_step (FeaturesSet feature) last p w changes array h k = refl
array_step (CacheReadContinued to) last p w changes array h k = refl
array_step CacheReadEnded last p w changes array h k = refl
array_step ResetStarted last p w changes array h k = refl
array_step (TargetResetStarted first) last p w changes array h k = refl
array_step _ last p w changes array h k = k

array_goes_on : (g : Parts) (opening : Lun → PageAddress → List ℕ) (past : List Item) (l : Lun) → is_some_work (array_work g opening past l) ≡ array_changes g past l
array_goes_on g opening [] l = refl
array_goes_on g opening (i ∷ past) l =
    array_step (effect_on g past i l) (closer g past l) (pending_work g opening past l) (array_work g opening past l) (changes_pages g past l) (array_changes g past l)
    (lun_changes g opening past l) (array_goes_on g opening past l)

-- no page is held behind a 15, nor while the array goes on with its pages
record HoldsNone (closer : Option Command) (changes array : Bool) (pages : List PageAddress) : Type 0 where
  closed : is_cache_program closer ≡ true → changes ≡ true → pages ≡ []
  in_array : array ≡ true → pages ≡ []

holds_none_step : (e : Effect) (copyback : Bool) (at : PageAddress) (queue : List Queued) (last : Option Command) (changes array : Bool) (pages : List PageAddress) → HoldsNone last changes array pages
    → HoldsNone (closer_after e last) (changes_after e changes) (array_changes_after e last changes array) (held_after e copyback at queue pages)
holds_none_step (BecameReady fail) copyback at queue last changes array pages h = record { closed = λ c d. cc; in_array = pick (is_cache_program last) refl (is_plane_program last) }
  where
    pick : (cache : Bool) → is_cache_program last ≡ cache → (plane : Bool) → cond cache changes (plane && array) ≡ true → pages ≡ []
    pick true is plane k = h.closed is k
    pick false is true k = h.in_array k
    pick false is false k = cc
holds_none_step (ProgramStarted true page) copyback at queue last changes array pages h = record { closed = λ c d. cc; in_array = h.in_array }
holds_none_step (ProgramStarted false page) copyback at queue last changes array pages h = record { closed = λ c d. refl; in_array = λ k. refl }
holds_none_step (CacheProgramStarted page) copyback at queue last changes array pages h = record { closed = λ c d. refl; in_array = λ k. refl }
holds_none_step (EraseStarted true page) copyback at queue last changes array pages h = record { closed = λ c d. refl; in_array = λ k. refl }
holds_none_step (EraseStarted false page) copyback at queue last changes array pages h = record { closed = λ c d. refl; in_array = λ k. refl }
holds_none_step (ArrayBecameReady fail) copyback at queue last changes array pages h = record { closed = h.closed; in_array = λ k. cc }
holds_none_step ProgramAddressed copyback at queue last changes array pages h = record { closed = λ c d. refl; in_array = λ k. refl }
holds_none_step (ReadStarted page from) copyback at queue last changes array pages h = record { closed = λ c d. cc; in_array = λ k. cc }
holds_none_step (ReadQueued page) copyback at queue last changes array pages h = record { closed = λ c d. refl; in_array = λ k. refl }
holds_none_step (CopybackReadStarted page from count) copyback at queue last changes array pages h = record { closed = λ c d. cc; in_array = λ k. cc }
holds_none_step IdRead copyback at queue last changes array pages h = record { closed = λ c d. refl; in_array = λ k. refl }
holds_none_step (IdentityRead jedec) copyback at queue last changes array pages h = record { closed = λ c d. refl; in_array = λ k. refl }
holds_none_step ParameterPageReadStarted copyback at queue last changes array pages h = record { closed = λ c d. refl; in_array = λ k. refl }
holds_none_step UniqueIdReadStarted copyback at queue last changes array pages h = record { closed = λ c d. refl; in_array = λ k. refl }
holds_none_step (FeaturesReadStarted address) copyback at queue last changes array pages h = record { closed = λ c d. refl; in_array = λ k. refl }
holds_none_step (FeaturesSet feature) copyback at queue last changes array pages h = record { closed = λ c d. refl; in_array = λ k. refl }
holds_none_step (CacheReadContinued to) copyback at queue last changes array pages h = record { closed = λ c d. cc; in_array = λ k. cc }
holds_none_step CacheReadEnded copyback at queue last changes array pages h = record { closed = λ c d. cc; in_array = λ k. cc }
holds_none_step ResetStarted copyback at queue last changes array pages h = record { closed = λ c d. refl; in_array = λ k. refl }
holds_none_step (TargetResetStarted first) copyback at queue last changes array pages h = record { closed = λ c d. refl; in_array = λ k. refl }
holds_none_step _ copyback at queue last changes array pages h = record { closed = h.closed; in_array = h.in_array }

holds_none : (g : Parts) (past : List Item) (l : Lun) → HoldsNone (closer g past l) (changes_pages g past l) (array_changes g past l) (held g past l)
holds_none g [] l = record { closed = λ c d. refl; in_array = λ k. refl }
holds_none g (i ∷ past) l = holds_none_step (effect_on g past i l) _ _ _ (closer g past l) (changes_pages g past l) (array_changes g past l) (held g past l) (holds_none g past l)

pub work_changes_pages : WorkChangesPages
work_changes_pages = record { lun = lun_changes; array = array_goes_on; held = λ g past l. (holds_none g past l).in_array }

pub register_bytes_len : (g : Parts) (parameters : List ℕ) (pages : PageAddress → List ℕ) (r : Register) → length parameters ≡ 768 → ((p : PageAddress) → length (pages p) ≡ page_len g) → length (register_bytes parameters pages r) ≡ register_len g r
register_bytes_len g parameters pages Empty h k = refl
register_bytes_len g parameters pages (Page p) h k = k p
register_bytes_len g parameters pages ParameterPage h k = h
register_bytes_len g parameters pages Identifier h k = refl
register_bytes_len g parameters pages Identity h k = refl
register_bytes_len g parameters pages JedecIdentity h k = refl
register_bytes_len g parameters pages UniqueId h k = refl
register_bytes_len g parameters pages (Features address) h k = refl

-- what shows, shows a byte
shown_there : (latch : Latch) (st : ℕ) (bytes : List ℕ) (place : Option ℕ) (len : ℕ) → length bytes ≡ len → is_off latch ≡ false → (is_data latch && lacks place) ≡ false → (is_data latch && is_past place len) ≡ false → (b : ℕ) × (shown_by latch st (byte_at bytes place) ≡ Some b)
shown_there Off st bytes place len e on has within = cc
shown_there Status st bytes place len e on has within = (st, refl)
shown_there Data st bytes None len e on has within = cc
shown_there Data st bytes (Some k) len e on has within =
    let inside : k < length bytes = let below : k < len = leb-false len k within in omega arith in
    (get_or bytes k 0, slice_get-get_or bytes k 0 inside)

pub byte_of_only : (s : Channel) (past : List Item) (l : Lun) (ds : List ℕ) → is_only ds l.lun ≡ true → byte_of_driver s past l.ce ds ≡ shown s.geometry s.parameters s.opening past l
byte_of_only s past l [] h = cc
byte_of_only s past l (d ∷ []) h = ap (λ (n : ℕ). shown s.geometry s.parameters s.opening past (record { ce = l.ce; lun = n })) (eqb-true d l.lun h)
byte_of_only s past l (d ∷ (e ∷ ds)) h = cc

no_byte_place : (on busy empty lacking : Bool) → (on && (busy || empty || lacking)) ≡ false → (on && lacking) ≡ false
no_byte_place false b e k h = refl
no_byte_place true true e k h = cc
no_byte_place true false true k h = cc
no_byte_place true false false k h = h

-- a permitted output, whose one driver is this LUN, has a byte
pub output_shows : (s : Channel) → IsChannel s → (past : List Item) (l : Lun) (byte : ℕ) → broken s.geometry s.targets past (cycle l.ce Dout byte) ≡ None → is_only (drivers s.geometry past l.ce) l.lun ≡ true → (b : ℕ) × (bus_byte s past l.ce ≡ Some b)
unfolding breaks_data_not_ready breaks_column_outside
output_shows s is past l byte h one =
    let g = s.geometry in
    let c : Cycle = record { ce = l.ce; kind = Dout; byte = byte } in
    let kept = permitted_keeps g s.targets past c h in
    let there = driver_of_target g past l.ce l.lun one in
    let v = lun_view g past l in
    let has : is_some_and has_no_byte (Some v) ≡ false = subst (λ (o : Option LunView). is_some_and has_no_byte o ≡ false) there kept.f13 in
    let within : is_some_and (is_past_register g) (Some v) ≡ false = subst (λ (o : Option LunView). is_some_and (is_past_register g) o ≡ false) there kept.f14 in
    let len = register_bytes_len g s.parameters (content g s.opening past l) (register g past l) is.parameters (content_len g s.opening is.pages past l) in
    let b = shown_there (latch g past l) (status g past l) (register_bytes s.parameters (content g s.opening past l) (register g past l)) (output_column (read_column g past l)) (register_len g (register g past l)) len
    (driver_on (λ m. latch g past (record { ce = l.ce; lun = m })) g.luns 0 l.lun one)
    (no_byte_place (is_data (latch g past l)) (is_busy g past l) (is_empty (register g past l)) (lacks (output_column (read_column g past l))) has)
    within in
    (b.0, byte_of_only s past l (drivers g past l.ce) one ∙ b.1)

-- an output leaves nothing open
pub output_closes : (past : List Item) (ce byte : ℕ) → is_open_on (cycle ce Dout byte ∷ past) ce ≡ false
output_closes past ce byte = rw same (at (tail past ce))
  where
    same : (ce == ce) ≡ true
    same = eq-eqb ce ce refl

    at : (t : List TargetCycle) → is_open (facts_of (with_cycle OutputCycle t)) ≡ false
    at [] = refl
    at (c ∷ t) = refl
