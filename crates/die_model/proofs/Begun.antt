-- What a work that begins, and one that ends, makes of a die's parts.
use Rattle.std.proofs.Common.{◌≡◌, ℕ, ◌<◌, ◌==◌, Bool, true, false, ◌&&◌, ◌||◌, not, cond, eq-eqb, List, [], ◌∷◌, Option, Some, None, length, replicate, refl, sym, ap, subst, ◌∙◌, suc, arith}
use Rattle.std.proofs.lemmas.List.{length-replicate}
use Rattle.std.specs.Option.{unwrap_or, is_some}
use Rattle.std.proofs.lemmas.Bool.{and_from, not-true, or_left, or_parts as neither}
use Rattle.std.proofs.lemmas.Bool.Decides.{nat_tests}
use Rattle.nand_geometry.specs.declared.parts.Parts.{Parts}
use Rattle.nand_geometry.specs.Limits.{page_len, planes}
use Rattle.onfi_cycle.specs.declared.command.Command.{Command}
use Rattle.onfi_cycle.specs.declared.item.Failures.{Failures}
use Rattle.onfi_cycle.specs.declared.page_address.PageAddress.{PageAddress}
use Rattle.onfi_cycle.specs.declared.queued.Queued.{Queued}
use Rattle.onfi_cycle.specs.declared.queued.Queued.TheVariants.{Erase, Program, Read as QueuedRead}
use Rattle.onfi_cycle.specs.declared.effect.Effect.TheVariants.{BecameReady, ArrayBecameReady}
use Rattle.onfi_cycle.specs.declared.register.Register.{Register}
use Rattle.onfi_cycle.specs.declared.register.Register.TheVariants.{Page}
use Rattle.onfi_cycle.specs.Lun.{busy_after, closer_after, is_cache_program, is_plane_program, queue_after, held_after, register_after}
use Rattle.onfi_cycle.specs.Content.{ArrayWork, same_page, queued_work_after, pending_work_after, content_after, failed_after, is_some_work, array_work_after, before_failed_after, left_unless}
use Rattle.onfi_cycle.specs.Rules.{has_some, some_queued_clashes, some_read_clashes}
use Rattle.die_model.specs.declared.work.Work.{Work}
use Rattle.die_model.specs.declared.work.Work.TheVariants as w
use Rattle.die_model.specs.Pages.{kept, page_in, is_given}
use Rattle.onfi_cycle.specs.Bounds.{is_row}
use Rattle.die_model.specs.declared.activity.Activity.{Activity}
use Rattle.die_model.specs.Die.{Die, die_with, bytes_taken, plane_bytes, works_of, effect_of, is_row_of, row_of_work, goes_with, is_reset, queue_with, closes, page_to_keep, AreKept, are_erases, are_programs, are_written, keeps_array, has_work, HasRows, HasArray, ClosedBy, IsDie, ShowsPage}
use Rattle.die_model.proofs.Kept.{Entries, same_parts}

-- the die with an activity
abbrev pub die_of : Parts → Entries → (registers array_registers : List (List ℕ)) → Activity → Die
die_of g pages registers array_registers a = die_with g pages registers a.register a.held.items a.array_page a.busy a.closer a.array_busy a.queue.items a.closed (works_of g array_registers a.in_array.items) a.failed a.failed_before

pub not_closed : (reset closed busy : Bool) → (closed ≡ true → busy ≡ true) → (reset || not busy) ≡ true → reset ≡ false → closed ≡ false
not_closed reset false busy h k r = refl
not_closed true true busy h k r = cc
not_closed false true true h k r = cc
not_closed false true false h k r = let x : false ≡ true = h refl in cc

-- 1. the rows that wait

pub queue_begun : (work : Work) (closed : Bool) (queue : List Queued) → (is_reset work ≡ false → closed ≡ false) → cond (closes work) [] (queue_with work queue) ≡ queue_after (effect_of work) (cond closed [] queue)
queue_begun w.Reset closed queue h = refl
queue_begun (w.Program at) closed queue h = refl
queue_begun (w.CacheProgram at) closed queue h = refl
queue_begun (w.Erase at) closed queue h = refl
queue_begun (w.Queue (Erase at)) closed queue h = rw (h refl) refl
queue_begun (w.Queue (Program at)) closed queue h = rw (h refl) refl
queue_begun (w.Queue (QueuedRead at)) closed queue h = rw (h refl) refl
queue_begun (w.Read at) closed queue h = refl
queue_begun (w.Copyback at count) closed queue h = refl
queue_begun w.Identifier closed queue h = rw (h refl) refl
queue_begun (w.Identity jedec) closed queue h = rw (h refl) refl
queue_begun w.Parameters closed queue h = rw (h refl) refl
queue_begun w.UniqueId closed queue h = rw (h refl) refl
queue_begun (w.Features address) closed queue h = rw (h refl) refl
queue_begun (w.SetFeatures address) closed queue h = rw (h refl) refl
queue_begun (w.Cache to) closed queue h = rw (h refl) refl
queue_begun w.CacheEnd closed queue h = rw (h refl) refl

abbrev pub taken : Parts → List (List ℕ) → Work → List ℕ
taken g registers (w.Program at) = plane_bytes g registers at
taken g registers (w.CacheProgram at) = plane_bytes g registers at
taken g registers (w.Queue (Program at)) = plane_bytes g registers at
taken g registers _ = []

pub queued_begun : (g : Parts) (registers : List (List ℕ)) (work : Work) (closed : Bool) (queue : List Queued) → (is_reset work ≡ false → closed ≡ false) → works_of g registers (cond (closes work) [] (queue_with work queue)) ≡ queued_work_after (effect_of work) (taken g registers work) (works_of g registers (cond closed [] queue))
queued_begun g registers w.Reset closed queue h = refl
queued_begun g registers (w.Program at) closed queue h = refl
queued_begun g registers (w.CacheProgram at) closed queue h = refl
queued_begun g registers (w.Erase at) closed queue h = refl
queued_begun g registers (w.Queue (Erase at)) closed queue h = rw (h refl) refl
queued_begun g registers (w.Queue (Program at)) closed queue h = rw (h refl) refl
queued_begun g registers (w.Queue (QueuedRead at)) closed queue h = rw (h refl) refl
queued_begun g registers (w.Read at) closed queue h = refl
queued_begun g registers (w.Copyback at count) closed queue h = refl
queued_begun g registers w.Identifier closed queue h = rw (h refl) refl
queued_begun g registers (w.Identity jedec) closed queue h = rw (h refl) refl
queued_begun g registers w.Parameters closed queue h = rw (h refl) refl
queued_begun g registers w.UniqueId closed queue h = rw (h refl) refl
queued_begun g registers (w.Features address) closed queue h = rw (h refl) refl
queued_begun g registers (w.SetFeatures address) closed queue h = rw (h refl) refl
queued_begun g registers (w.Cache to) closed queue h = rw (h refl) refl
queued_begun g registers w.CacheEnd closed queue h = rw (h refl) refl

pub pending_begun : (g : Parts) (registers : List (List ℕ)) (work : Work) (closed : Bool) (queue : List Queued) → (is_reset work ≡ false → closed ≡ false) → works_of g registers (cond (closes work) (queue_with work queue) []) ≡ pending_work_after (effect_of work) (taken g registers work) (works_of g registers (cond closed [] queue)) (works_of g registers (cond closed queue []))
pending_begun g registers w.Reset closed queue h = refl
pending_begun g registers (w.Program at) closed queue h = rw (h refl) refl
pending_begun g registers (w.CacheProgram at) closed queue h = rw (h refl) refl
pending_begun g registers (w.Erase at) closed queue h = rw (h refl) refl
pending_begun g registers (w.Queue (Erase at)) closed queue h = refl
pending_begun g registers (w.Queue (Program at)) closed queue h = refl
pending_begun g registers (w.Queue (QueuedRead at)) closed queue h = refl
pending_begun g registers (w.Read at) closed queue h = refl
pending_begun g registers (w.Copyback at count) closed queue h = refl
pending_begun g registers w.Identifier closed queue h = rw (h refl) refl
pending_begun g registers (w.Identity jedec) closed queue h = rw (h refl) refl
pending_begun g registers w.Parameters closed queue h = refl
pending_begun g registers w.UniqueId closed queue h = refl
pending_begun g registers (w.Features address) closed queue h = refl
pending_begun g registers (w.SetFeatures address) closed queue h = refl
pending_begun g registers (w.Cache to) closed queue h = refl
pending_begun g registers w.CacheEnd closed queue h = refl

-- 2. pages and failure stay

pub content_begun : (g : Parts) (work : Work) (last : Option Command) (q r : List ArrayWork) (p : PageAddress) (old : List ℕ) → content_after g (effect_of work) last q r p old ≡ old
content_begun g (w.Queue (Erase at)) last q r p old = refl
content_begun g (w.Queue (Program at)) last q r p old = refl
content_begun g (w.Queue (QueuedRead at)) last q r p old = refl
content_begun g w.Reset last q r p old = refl
content_begun g (w.Program at) last q r p old = refl
content_begun g (w.CacheProgram at) last q r p old = refl
content_begun g (w.Erase at) last q r p old = refl
content_begun g (w.Read at) last q r p old = refl
content_begun g (w.Copyback at count) last q r p old = refl
content_begun g w.Identifier last q r p old = refl
content_begun g (w.Identity jedec) last q r p old = refl
content_begun g w.Parameters last q r p old = refl
content_begun g w.UniqueId last q r p old = refl
content_begun g (w.Features address) last q r p old = refl
content_begun g (w.SetFeatures address) last q r p old = refl
content_begun g (w.Cache to) last q r p old = refl
content_begun g w.CacheEnd last q r p old = refl

-- what the array goes on with
pub array_begun : (g : Parts) (registers : List (List ℕ)) (work : Work) (last : Option Command) (pending : List ArrayWork) (rows : List Queued)
    → works_of g registers (cond (keeps_array work) rows []) ≡ array_work_after (effect_of work) last pending (works_of g registers rows)
array_begun g registers (w.Queue (Erase at)) last pending rows = refl
array_begun g registers (w.Queue (Program at)) last pending rows = refl
array_begun g registers (w.Queue (QueuedRead at)) last pending rows = refl
array_begun g registers w.Reset last pending rows = refl
array_begun g registers (w.Program at) last pending rows = refl
array_begun g registers (w.CacheProgram at) last pending rows = refl
array_begun g registers (w.Erase at) last pending rows = refl
array_begun g registers (w.Read at) last pending rows = refl
array_begun g registers (w.Copyback at count) last pending rows = refl
array_begun g registers w.Identifier last pending rows = refl
array_begun g registers (w.Identity jedec) last pending rows = refl
array_begun g registers w.Parameters last pending rows = refl
array_begun g registers w.UniqueId last pending rows = refl
array_begun g registers (w.Features address) last pending rows = refl
array_begun g registers (w.SetFeatures address) last pending rows = refl
array_begun g registers (w.Cache to) last pending rows = refl
array_begun g registers w.CacheEnd last pending rows = refl

-- a page is kept that is read as before
abbrev pub Keeps : ℕ → Option PageAddress → Entries → Entries → Type 0
Keeps len at old new = (p : PageAddress) → kept new p ≡ cond (is_given p at) (Some (page_in len old p)) (kept old p)

pub page_kept : (len : ℕ) (at : Option PageAddress) (old new : Entries) → Keeps len at old new → (p : PageAddress) → page_in len new p ≡ page_in len old p
page_kept len at old new h p = ap (λ (o : Option (List ℕ)). unwrap_or o (replicate len 0xff)) (h p) ∙ of (is_given p at)
  where
    of : (b : Bool) → unwrap_or (cond b (Some (page_in len old p)) (kept old p)) (replicate len 0xff) ≡ page_in len old p
    of true = refl
    of false = refl

-- 3. what is true of every die

page_length : (len : ℕ) (o : Option (List ℕ)) → ((x : List ℕ) → o ≡ Some x → length x ≡ len) → length (unwrap_or o (replicate len 0xff)) ≡ len
page_length len None f = length-replicate len 0xff
page_length len (Some x) f = f x refl

kept_rows : (g : Parts) (at : Option PageAddress) (registers : List (List ℕ)) (old new : Entries) → is_row_of g at ≡ true → Keeps (page_len g) at old new → HasRows g old registers → HasRows g new registers
kept_rows g at registers old new row k h = record { inside = outside at row k; lengths = lengths; count = h.count; widths = h.widths }
  where
    outside : (at : Option PageAddress) → is_row_of g at ≡ true → Keeps (page_len g) at old new → (p : PageAddress) → is_row g p ≡ false → kept new p ≡ None
    outside None row k p out = k p ∙ h.inside p out
    outside (Some a) row k p out = k p ∙ of (same_page p a) refl
      where
        of : (b : Bool) → same_page p a ≡ b → cond b (Some (page_in (page_len g) old p)) (kept old p) ≡ None
        of true e = let x : false ≡ true = sym out ∙ (ap (is_row g) (same_parts p a e) ∙ row) in cc
        of false e = h.inside p out

    lengths : (p : PageAddress) (bytes : List ℕ) → kept new p ≡ Some bytes → length bytes ≡ page_len g
    lengths p bytes is = of (is_given p at) (sym (k p) ∙ is)
      where
        of : (b : Bool) → cond b (Some (page_in (page_len g) old p)) (kept old p) ≡ Some bytes → length bytes ≡ page_len g
        of true e = let x : page_in (page_len g) old p ≡ bytes = cc in sym (ap (λ (z : List ℕ). length z) x) ∙ page_length (page_len g) (kept old p) (h.lengths p)
        of false e = h.lengths p bytes e

still : (len : ℕ) (at : Option PageAddress) (old new : Entries) → Keeps len at old new → (queue : List Queued) → AreKept old queue → AreKept new queue
still len at old new k [] h = tt
still len at old new k (Erase q ∷ queue) h = still len at old new k queue h
still len at old new k (QueuedRead q ∷ queue) h = still len at old new k queue h
still len at old new k (Program q ∷ queue) h = (ap is_some (k q) ∙ of (is_given q at), still len at old new k queue h.1)
  where
    of : (b : Bool) → is_some (cond b (Some (page_in len old q)) (kept old q)) ≡ true
    of true = refl
    of false = h.0

same_itself : (at : PageAddress) → same_page at at ≡ true
same_itself at = of at.block at.page
  where
    of : (b m : ℕ) → (b == b && m == m) ≡ true
    of b m = and_from (b == b) (m == m) (eq-eqb b b refl) (eq-eqb m m refl)

placed : (len : ℕ) (at : PageAddress) (old new : Entries) → Keeps len (Some at) old new → is_some (kept new at) ≡ true
placed len at old new k = ap is_some (k at) ∙ ap (λ (b : Bool). is_some (cond b (Some (page_in len old at)) (kept old at))) (same_itself at)

pub kept_begun : (len : ℕ) (work : Work) (old new : Entries) (queue : List Queued) → Keeps len (page_to_keep work) old new → AreKept old queue → AreKept new (queue_with work queue)
kept_begun len (w.Program at) old new queue k h = (placed len at old new k, still len (page_to_keep (w.Program at)) old new k queue h)
kept_begun len (w.CacheProgram at) old new queue k h = (placed len at old new k, still len (page_to_keep (w.CacheProgram at)) old new k queue h)
kept_begun len (w.Erase at) old new queue k h = still len (page_to_keep (w.Erase at)) old new k queue h
kept_begun len (w.Queue (Erase at)) old new queue k h = still len (page_to_keep (w.Queue (Erase at))) old new k queue h
kept_begun len (w.Queue (QueuedRead at)) old new queue k h = still len (page_to_keep (w.Queue (QueuedRead at))) old new k queue h
kept_begun len (w.Queue (Program at)) old new queue k h = (placed len at old new k, still len (page_to_keep (w.Queue (Program at))) old new k queue h)
kept_begun len w.Reset old new queue k h = tt
kept_begun len (w.Read at) old new queue k h = tt
kept_begun len (w.Copyback at count) old new queue k h = tt
kept_begun len w.Identifier old new queue k h = still len (page_to_keep w.Identifier) old new k queue h
kept_begun len (w.Identity jedec) old new queue k h = still len (page_to_keep (w.Identity jedec)) old new k queue h
kept_begun len w.Parameters old new queue k h = still len (page_to_keep w.Parameters) old new k queue h
kept_begun len w.UniqueId old new queue k h = still len (page_to_keep w.UniqueId) old new k queue h
kept_begun len (w.Features address) old new queue k h = still len (page_to_keep (w.Features address)) old new k queue h
kept_begun len (w.SetFeatures address) old new queue k h = still len (page_to_keep (w.SetFeatures address)) old new k queue h
kept_begun len (w.Cache to) old new queue k h = still len (page_to_keep (w.Cache to)) old new k queue h
kept_begun len w.CacheEnd old new queue k h = still len (page_to_keep w.CacheEnd) old new k queue h

all_erases : (g : Parts) (at : PageAddress) (queue : List Queued) → some_queued_clashes g true at queue ≡ false → are_erases queue ≡ true
all_erases g at [] h = refl
all_erases g at (Erase q ∷ queue) h = all_erases g at queue (neither _ _ h).1
all_erases g at (Program q ∷ queue) h = cc
all_erases g at (QueuedRead q ∷ queue) h = cc

all_programs : (g : Parts) (at : PageAddress) (queue : List Queued) → some_queued_clashes g false at queue ≡ false → are_programs queue ≡ true
all_programs g at [] h = refl
all_programs g at (Erase q ∷ queue) h = cc
all_programs g at (QueuedRead q ∷ queue) h = cc
all_programs g at (Program q ∷ queue) h = all_programs g at queue (neither _ _ h).1

all_reads : (g : Parts) (at : PageAddress) (queue : List Queued) → some_read_clashes g at queue ≡ false → are_programs queue ≡ true
all_reads g at [] h = refl
all_reads g at (Erase q ∷ queue) h = cc
all_reads g at (Program q ∷ queue) h = cc
all_reads g at (QueuedRead q ∷ queue) h = all_reads g at queue (neither _ _ h).1

pub alike_begun : (g : Parts) (work : Work) (queue : List Queued) → goes_with g work queue ≡ true → (are_erases queue || are_programs queue) ≡ true → (are_erases (queue_with work queue) || are_programs (queue_with work queue)) ≡ true
alike_begun g (w.Program at) queue t h = all_programs g at queue (not-true _ t)
alike_begun g (w.CacheProgram at) queue t h = all_programs g at queue (not-true _ t)
alike_begun g (w.Erase at) queue t h = or_left _ _ (all_erases g at queue (not-true _ t))
alike_begun g (w.Queue (Erase at)) queue t h = or_left _ _ (all_erases g at queue (not-true _ t))
alike_begun g (w.Queue (Program at)) queue t h = all_programs g at queue (not-true _ t)
alike_begun g (w.Queue (QueuedRead at)) queue t h = all_reads g at queue (not-true _ t)
alike_begun g w.Reset queue t h = refl
alike_begun g (w.Read at) queue t h = refl
alike_begun g (w.Copyback at count) queue t h = refl
alike_begun g w.Identifier queue t h = h
alike_begun g (w.Identity jedec) queue t h = h
alike_begun g w.Parameters queue t h = h
alike_begun g w.UniqueId queue t h = h
alike_begun g (w.Features address) queue t h = h
alike_begun g (w.SetFeatures address) queue t h = h
alike_begun g (w.Cache to) queue t h = h
alike_begun g w.CacheEnd queue t h = h

all_written : (g : Parts) (at : PageAddress) (queue : List Queued) → some_queued_clashes g false at queue ≡ false → are_written queue ≡ true
all_written g at [] h = refl
all_written g at (Erase q ∷ queue) h = cc
all_written g at (QueuedRead q ∷ queue) h = cc
all_written g at (Program q ∷ queue) h = all_written g at queue (neither _ _ h).1

closed_begun : (g : Parts) (work : Work) (last : Option Command) (queue : List Queued) → goes_with g work queue ≡ true → ClosedBy (closer_after (effect_of work) last) (queue_with work queue) (closes work)
closed_begun g (w.Program at) last queue t = record { queued = λ h. cc; cached = λ h k. cc }
closed_begun g (w.CacheProgram at) last queue t = record { queued = λ h. cc; cached = λ h k. all_written g at queue (not-true _ t) }
closed_begun g (w.Erase at) last queue t = record { queued = λ h. cc; cached = λ h k. cc }
closed_begun g (w.Queue (Erase at)) last queue t = record { queued = λ h. refl; cached = λ h k. cc }
closed_begun g (w.Queue (Program at)) last queue t = record { queued = λ h. refl; cached = λ h k. cc }
closed_begun g (w.Queue (QueuedRead at)) last queue t = record { queued = λ h. refl; cached = λ h k. cc }
closed_begun g w.Reset last queue t = record { queued = λ h. refl; cached = λ h k. cc }
closed_begun g (w.Read at) last queue t = record { queued = λ h. refl; cached = λ h k. cc }
closed_begun g (w.Copyback at count) last queue t = record { queued = λ h. refl; cached = λ h k. cc }
closed_begun g w.Identifier last queue t = record { queued = λ h. refl; cached = λ h k. cc }
closed_begun g (w.Identity jedec) last queue t = record { queued = λ h. refl; cached = λ h k. cc }
closed_begun g w.Parameters last queue t = record { queued = λ h. refl; cached = λ h k. cc }
closed_begun g w.UniqueId last queue t = record { queued = λ h. refl; cached = λ h k. cc }
closed_begun g (w.Features address) last queue t = record { queued = λ h. refl; cached = λ h k. cc }
closed_begun g (w.SetFeatures address) last queue t = record { queued = λ h. refl; cached = λ h k. cc }
closed_begun g (w.Cache to) last queue t = record { queued = λ h. refl; cached = λ h k. cc }
closed_begun g w.CacheEnd last queue t = record { queued = λ h. refl; cached = λ h k. cc }

closes_busy : (work : Work) (busy : Bool) → closes work ≡ true → busy_after (effect_of work) busy ≡ true
closes_busy (w.Program at) busy h = refl
closes_busy (w.CacheProgram at) busy h = refl
closes_busy (w.Erase at) busy h = refl
closes_busy _ busy h = cc

closes_some : (work : Work) (queue : List Queued) → closes work ≡ true → has_work (queue_with work queue) ≡ true
closes_some (w.Program at) queue h = refl
closes_some (w.CacheProgram at) queue h = refl
closes_some (w.Erase at) queue h = refl
closes_some _ queue h = cc

row_to_keep : (g : Parts) (work : Work) → is_row_of g (row_of_work work) ≡ true → is_row_of g (page_to_keep work) ≡ true
row_to_keep g (w.Program at) h = h
row_to_keep g (w.CacheProgram at) h = h
row_to_keep g (w.Queue (Program at)) h = h
row_to_keep g (w.Queue (Erase at)) h = refl
row_to_keep g (w.Queue (QueuedRead at)) h = refl
row_to_keep g (w.Erase at) h = refl
row_to_keep g w.Reset h = refl
row_to_keep g (w.Read at) h = refl
row_to_keep g (w.Copyback at count) h = refl
row_to_keep g w.Identifier h = refl
row_to_keep g (w.Identity jedec) h = refl
row_to_keep g w.Parameters h = refl
row_to_keep g w.UniqueId h = refl
row_to_keep g (w.Features address) h = refl
row_to_keep g (w.SetFeatures address) h = refl
row_to_keep g (w.Cache to) h = refl
row_to_keep g w.CacheEnd h = refl

goes_on : (g : Parts) (work : Work) (closed : Bool) (queue : List Queued) → (is_reset work ≡ false → closed ≡ false) → goes_with g work (cond closed [] queue) ≡ true → goes_with g work queue ≡ true
goes_on g w.Reset closed queue h t = refl
goes_on g (w.Read at) closed queue h t = refl
goes_on g (w.Copyback at count) closed queue h t = refl
goes_on g w.Identifier closed queue h t = refl
goes_on g (w.Identity jedec) closed queue h t = refl
goes_on g w.Parameters closed queue h t = refl
goes_on g w.UniqueId closed queue h t = refl
goes_on g (w.Features address) closed queue h t = refl
goes_on g (w.SetFeatures address) closed queue h t = refl
goes_on g (w.Cache to) closed queue h t = refl
goes_on g w.CacheEnd closed queue h t = refl
goes_on g (w.Program at) closed queue h t = sym (ap (λ (b : Bool). goes_with g (w.Program at) (cond b [] queue)) (h refl)) ∙ t
goes_on g (w.CacheProgram at) closed queue h t = sym (ap (λ (b : Bool). goes_with g (w.CacheProgram at) (cond b [] queue)) (h refl)) ∙ t
goes_on g (w.Erase at) closed queue h t = sym (ap (λ (b : Bool). goes_with g (w.Erase at) (cond b [] queue)) (h refl)) ∙ t
goes_on g (w.Queue (Erase at)) closed queue h t = sym (ap (λ (b : Bool). goes_with g (w.Queue (Erase at)) (cond b [] queue)) (h refl)) ∙ t
goes_on g (w.Queue (Program at)) closed queue h t = sym (ap (λ (b : Bool). goes_with g (w.Queue (Program at)) (cond b [] queue)) (h refl)) ∙ t
goes_on g (w.Queue (QueuedRead at)) closed queue h t = sym (ap (λ (b : Bool). goes_with g (w.Queue (QueuedRead at)) (cond b [] queue)) (h refl)) ∙ t

pub die_begun : (g : Parts) (work : Work) (parameters : List ℕ) (old new : Entries) (registers : List (List ℕ)) (queue after : List Queued) (closed closing busy working : Bool) → IsDie g parameters old registers queue closed busy → is_row_of g (row_of_work work) ≡ true → goes_with g work (cond closed [] queue) ≡ true → (is_reset work ≡ false → closed ≡ false) → Keeps (page_len g) (page_to_keep work) old new → after ≡ queue_with work queue → closing ≡ closes work → working ≡ busy_after (effect_of work) busy → IsDie g parameters new registers after closing working
die_begun g work parameters old new registers queue after closed closing busy working d row together free k ea ec eb =
    record {
      limits = d.limits;
      copies = d.copies;
      rows = kept_rows g (page_to_keep work) registers old new (row_to_keep g work row) k d.rows;
      there = subst (AreKept new) (sym ea) (kept_begun (page_len g) work old new queue k d.there);
      alike = ap (λ (m : List Queued). are_erases m || are_programs m) ea ∙ alike_begun g work queue (goes_on g work closed queue free together) d.alike;
      works = λ h. eb ∙ closes_busy work busy (sym ec ∙ h);
      some = λ h. ap has_work ea ∙ closes_some work queue (sym ec ∙ h);
    }

-- what the array goes on with stays in place
pub array_goes_on : (g : Parts) (work : Work) (old new : Entries) (registers : List (List ℕ)) (rows after : List Queued) → HasArray g old registers rows → is_row_of g (row_of_work work) ≡ true → Keeps (page_len g) (page_to_keep work) old new → after ≡ cond (keeps_array work) rows [] → HasArray g new registers after
array_goes_on g work old new registers rows after h row k is =
    record {
      rows = kept_rows g (page_to_keep work) registers old new (row_to_keep g work row) k h.rows;
      there = subst (AreKept new) (sym is) (there (keeps_array work));
      programs = ap are_written is ∙ programs (keeps_array work);
    }
  where
    there : (b : Bool) → AreKept new (cond b rows [])
    there true = still (page_len g) (page_to_keep work) old new k rows h.there
    there false = tt

    programs : (b : Bool) → are_written (cond b rows []) ≡ true
    programs true = h.programs
    programs false = refl

-- behind which closer the rows of a work are closed
pub closed_goes_on : (g : Parts) (work : Work) (last now : Option Command) (closed closing : Bool) (queue after : List Queued) → (is_reset work ≡ false → closed ≡ false) → goes_with g work (cond closed [] queue) ≡ true → now ≡ closer_after (effect_of work) last → after ≡ queue_with work queue → closing ≡ closes work → ClosedBy now after closing
closed_goes_on g work last now closed closing queue after free together en ea ec =
    subst (λ (c : Option Command). ClosedBy c after closing) (sym en) (subst (λ (q : List Queued). ClosedBy (closer_after (effect_of work) last) q closing) (sym ea)
    (subst (ClosedBy (closer_after (effect_of work) last) (queue_with work queue)) (sym ec) (closed_begun g work last queue (goes_on g work closed queue free together))))

-- 4. works that end

pub ended_pages : (fail : Failures) (last : Option Command) (closed : Bool) (g parts : Parts) (planes ps array_planes others : List (List ℕ)) (queue rows : List Queued) (old new : Entries) → parts ≡ g → ps ≡ planes → others ≡ array_planes
    → ((p : PageAddress) → page_in (page_len parts) new p ≡ content_after parts (BecameReady fail) last (works_of parts ps (cond closed queue [])) (works_of parts others rows) p (page_in (page_len parts) old p))
    → (p : PageAddress) → page_in (page_len g) new p ≡ content_after g (BecameReady fail) last (works_of g planes (cond closed queue [])) (works_of g array_planes rows) p (page_in (page_len g) old p)
ended_pages fail last closed g parts planes ps array_planes others queue rows old new eg ep ea h p =
    let at_g = subst (λ (k : Parts). page_in (page_len k) new p ≡ content_after k (BecameReady fail) last (works_of k ps (cond closed queue [])) (works_of k others rows) p (page_in (page_len k) old p)) eg (h p) in
    let at_planes = subst (λ (q : List (List ℕ)). page_in (page_len g) new p ≡ content_after g (BecameReady fail) last (works_of g q (cond closed queue [])) (works_of g others rows) p (page_in (page_len g) old p)) ep at_g in
    subst (λ (q : List (List ℕ)). page_in (page_len g) new p ≡ content_after g (BecameReady fail) last (works_of g planes (cond closed queue [])) (works_of g q rows) p (page_in (page_len g) old p)) ea at_planes

-- those of the array alone
pub array_pages : (fail : Bool) (last : Option Command) (g parts : Parts) (array_planes others : List (List ℕ)) (pending : List ArrayWork) (rows : List Queued) (old new : Entries) → parts ≡ g → others ≡ array_planes
    → ((p : PageAddress) → page_in (page_len parts) new p ≡ left_unless fail (page_len parts) (works_of parts others rows) p (page_in (page_len parts) old p))
    → (p : PageAddress) → page_in (page_len g) new p ≡ content_after g (ArrayBecameReady fail) last pending (works_of g array_planes rows) p (page_in (page_len g) old p)
array_pages fail last g parts array_planes others pending rows old new eg ea h p =
    let at_g = subst (λ (k : Parts). page_in (page_len k) new p ≡ left_unless fail (page_len k) (works_of k others rows) p (page_in (page_len k) old p)) eg (h p) in
    subst (λ (q : List (List ℕ)). page_in (page_len g) new p ≡ left_unless fail (page_len g) (works_of g q rows) p (page_in (page_len g) old p)) ea at_g

works_some : (g : Parts) (planes : List (List ℕ)) (queue : List Queued) → has_work queue ≡ true → is_some_work (works_of g planes queue) ≡ true
works_some g planes [] h = h
works_some g planes (Erase q ∷ queue) h = refl
works_some g planes (Program q ∷ queue) h = refl
works_some g planes (QueuedRead q ∷ queue) h = works_some g planes queue h

pub ended_failed : (g : Parts) (planes : List (List ℕ)) (fail : Failures) (last : Option Command) (before closed : Bool) (queue : List Queued) → (closed ≡ true → has_work queue ≡ true)
    → cond (is_plane_program last) before (closed && (fail.last && not (is_cache_program last))) ≡ failed_after (BecameReady fail) last (is_some_work (works_of g planes (cond closed queue []))) before
ended_failed g planes fail last before true queue h = ap (cond (is_plane_program last) before) (with_work (is_some_work (works_of g planes queue)) fail.last (not (is_cache_program last)) (works_some g planes queue (h refl)))
  where
    with_work : (some told other : Bool) → some ≡ true → (told && other) ≡ (told && (some && other))
    with_work true told other e = refl
    with_work false told other e = cc
ended_failed g planes fail last before false queue h = ap (cond (is_plane_program last) before) (without fail.last)
  where
    without : (told : Bool) → false ≡ (told && (false && not (is_cache_program last)))
    without true = refl
    without false = refl

-- a list of rows that has some isn't empty
pub some_is_full : (rows : List Queued) → not (length rows == 0) ≡ has_some rows
some_is_full [] = refl
some_is_full (q ∷ rows) = ap not (isnt_zero (length rows))
  where
    isnt_zero : (n : ℕ) → (suc n == 0) ≡ false
    isnt_zero n = grind (arith, nat_tests)

pub array_some : (g : Parts) (planes : List (List ℕ)) (rows : List Queued) → are_written rows ≡ true → has_some rows ≡ is_some_work (works_of g planes rows)
array_some g planes [] h = refl
array_some g planes (Erase q ∷ rows) h = cc
array_some g planes (Program q ∷ rows) h = refl
array_some g planes (QueuedRead q ∷ rows) h = cc

pub ended_before : (g : Parts) (array_planes : List (List ℕ)) (fail : Failures) (last : Option Command) (failed before : Bool) (rows : List Queued) → are_written rows ≡ true
    → cond (has_some rows && not (is_plane_program last)) fail.before before ≡ before_failed_after (BecameReady fail) last (is_some_work (works_of g array_planes rows)) failed before
ended_before g array_planes fail last failed before rows h = ap (λ (b : Bool). cond (b && not (is_plane_program last)) fail.before before) (array_some g array_planes rows h)

-- the rows that the array goes on with behind a ready
pub passed_on : (g : Parts) (planes array_planes : List (List ℕ)) (fail : Failures) (last : Option Command) (pending rows after : List Queued) (cache : Bool) → is_cache_program last ≡ cache → after ≡ cond (is_cache_program last) pending (cond (is_plane_program last) rows [])
    → works_of g (cond cache planes array_planes) after ≡ array_work_after (BecameReady fail) last (works_of g planes pending) (works_of g array_planes rows)
passed_on g planes array_planes fail last pending rows after true e is =
    ap (works_of g planes) is ∙ of (is_cache_program last) e
  where
    of : (b : Bool) → b ≡ true → works_of g planes (cond b pending (cond (is_plane_program last) rows [])) ≡ cond b (works_of g planes pending) (cond (is_plane_program last) (works_of g array_planes rows) [])
    of true e = refl
    of false e = cc
passed_on g planes array_planes fail last pending rows after false e is =
    ap (works_of g array_planes) is ∙ of (is_cache_program last) (is_plane_program last) e
  where
    of : (b c : Bool) → b ≡ false → works_of g array_planes (cond b pending (cond c rows [])) ≡ cond b (works_of g planes pending) (cond c (works_of g array_planes rows) [])
    of true c e = cc
    of false true e = refl
    of false false e = refl

pub die_ended : (g parts : Parts) (parameters : List ℕ) (old new : Entries) (registers ps : List (List ℕ)) (queue after : List Queued) (closed closing busy working : Bool) → IsDie g parameters old registers queue closed busy → parts ≡ g → ps ≡ registers → HasRows parts new ps → AreKept new (cond closed [] queue) → after ≡ cond closed [] queue → closing ≡ false → IsDie g parameters new registers after closing working
die_ended g parts parameters old new registers ps queue after closed closing busy working d eg ep rows there is over =
    record {
      limits = d.limits;
      copies = d.copies;
      rows = subst (λ (r : List (List ℕ)). HasRows g new r) ep (subst (λ (k : Parts). HasRows k new ps) eg rows);
      there = subst (AreKept new) (sym is) there;
      alike = ap (λ (q : List Queued). are_erases q || are_programs q) is ∙ alike closed;
      works = λ h. cc;
      some = λ h. cc;
    }
  where
    alike : (b : Bool) → (are_erases (cond b [] queue) || are_programs (cond b [] queue)) ≡ true
    alike true = refl
    alike false = d.alike

-- the rows of pages, beside other registers
rows_beside : (g : Parts) (old new : Entries) (registers others : List (List ℕ)) → HasRows g new registers → HasRows g old others → HasRows g new others
rows_beside g old new registers others a b = record { inside = a.inside; lengths = a.lengths; count = b.count; widths = b.widths }

pub array_ended : (g : Parts) (old new : Entries) (registers array_registers : List (List ℕ)) (last : Option Command) (queue rows after : List Queued) (closed cache : Bool) → is_cache_program last ≡ cache → HasRows g new registers → HasArray g old array_registers rows → ClosedBy last queue closed
    → (is_cache_program last ≡ true → AreKept new (cond closed queue [])) → (is_plane_program last ≡ true → AreKept new rows) → after ≡ cond (is_cache_program last) (cond closed queue []) (cond (is_plane_program last) rows [])
    → HasArray g new (cond cache registers array_registers) after
array_ended g old new registers array_registers last queue rows after closed cache e all h k cached queued is =
    record {
      rows = beside cache;
      there = subst (AreKept new) (sym is) (there (is_cache_program last) refl (is_plane_program last) refl);
      programs = ap are_written is ∙ programs (is_cache_program last) refl closed refl (is_plane_program last);
    }
  where
    beside : (b : Bool) → HasRows g new (cond b registers array_registers)
    beside true = all
    beside false = rows_beside g old new registers array_registers all h.rows

    there : (b : Bool) → is_cache_program last ≡ b → (c : Bool) → is_plane_program last ≡ c → AreKept new (cond b (cond closed queue []) (cond c rows []))
    there true e c f = cached e
    there false e true f = queued f
    there false e false f = tt

    programs : (b : Bool) → is_cache_program last ≡ b → (d : Bool) → closed ≡ d → (c : Bool) → are_written (cond b (cond d queue []) (cond c rows [])) ≡ true
    programs true e true f c = k.cached e f
    programs true e false f c = refl
    programs false e d f true = h.programs
    programs false e d f false = refl

-- behind a ready no row is closed
pub open_ended : (last : Option Command) (queue : List Queued) (closed : Bool) → closed ≡ false → ClosedBy last queue closed
open_ended last queue closed e = record { queued = λ h. e; cached = λ h k. cc }

pub fewer : (closed : Bool) (queue : List Queued) → closed ≡ false → length (cond closed [] queue) < 16 → length queue < 16
fewer true queue h l = cc
fewer false queue h l = l

pub or_right_true : (a b : Bool) → b ≡ true → (a || b) ≡ true
or_right_true true b h = refl
or_right_true false b h = h

-- the programs of the array are some that go together
pub written_programs : (rows : List Queued) → are_written rows ≡ true → are_programs rows ≡ true
written_programs [] h = refl
written_programs (Erase q ∷ rows) h = cc
written_programs (Program q ∷ rows) h = written_programs rows h
written_programs (QueuedRead q ∷ rows) h = cc

pub written_alike : (rows : List Queued) → are_written rows ≡ true → (are_erases rows || are_programs rows) ≡ true
written_alike [] h = refl
written_alike (Erase q ∷ rows) h = cc
written_alike (Program q ∷ rows) h = written_programs rows h
written_alike (QueuedRead q ∷ rows) h = cc

-- a ready of the array leaves what waits, and nothing in the array
pub die_rested : (g parts : Parts) (parameters : List ℕ) (old new : Entries) (registers array_registers others : List (List ℕ)) (queue : List Queued) (closed busy : Bool) → IsDie g parameters old registers queue closed busy → parts ≡ g → others ≡ array_registers → HasRows parts new others → AreKept new queue → IsDie g parameters new registers queue closed busy
die_rested g parts parameters old new registers array_registers others queue closed busy d eg ep rows there =
    record {
      limits = d.limits;
      copies = d.copies;
      rows = rows_beside g old new array_registers registers (subst (λ (r : List (List ℕ)). HasRows g new r) ep (subst (λ (k : Parts). HasRows k new others) eg rows)) d.rows;
      there = there;
      alike = d.alike;
      works = d.works;
      some = d.some;
    }

pub array_rested : (g parts : Parts) (new : Entries) (array_registers others : List (List ℕ)) (after : List Queued) → parts ≡ g → others ≡ array_registers → HasRows parts new others → after ≡ [] → HasArray g new array_registers after
array_rested g parts new array_registers others after eg ep rows is =
    record {
      rows = subst (λ (r : List (List ℕ)). HasRows g new r) ep (subst (λ (k : Parts). HasRows k new others) eg rows);
      there = subst (AreKept new) (sym is) tt;
      programs = ap are_written is;
    }

-- the same under the names of the code
pub kept_so : (len n : ℕ) (at given : Option PageAddress) (old new : Entries) → n ≡ len → given ≡ at → ((p : PageAddress) → kept new p ≡ cond (is_given p given) (Some (page_in n old p)) (kept old p)) → Keeps len at old new
kept_so len n at given old new en eg h p =
    h p ∙ (ap (λ (m : ℕ). cond (is_given p given) (Some (page_in m old p)) (kept old p)) en ∙ ap (λ (o : Option PageAddress). cond (is_given p o) (Some (page_in len old p)) (kept old p)) eg)

pub waits : {b c : Bool} {m n : List Queued} → b ≡ c → m ≡ n → cond b [] m ≡ cond c [] n
waits {c = c} {m = m} e f = ap (λ (x : Bool). cond x [] m) e ∙ ap (λ (x : List Queued). cond c [] x) f

pub ends : {b c : Bool} {m n : List Queued} → b ≡ c → m ≡ n → cond b m [] ≡ cond c n []
ends {c = c} {m = m} e f = ap (λ (x : Bool). cond x m []) e ∙ ap (λ (x : List Queued). cond c x []) f

pub taken_is : (d : Die) (work : Work) → taken d.geometry d.planes work ≡ bytes_taken d (effect_of work)
taken_is d w.Reset = refl
taken_is d (w.Program at) = refl
taken_is d (w.CacheProgram at) = refl
taken_is d (w.Erase at) = refl
taken_is d (w.Queue (Erase at)) = refl
taken_is d (w.Queue (Program at)) = refl
taken_is d (w.Queue (QueuedRead at)) = refl
taken_is d (w.Read at) = refl
taken_is d (w.Copyback at count) = refl
taken_is d w.Identifier = refl
taken_is d (w.Identity jedec) = refl
taken_is d w.Parameters = refl
taken_is d w.UniqueId = refl
taken_is d (w.Features address) = refl
taken_is d (w.SetFeatures address) = refl
taken_is d (w.Cache to) = refl
taken_is d w.CacheEnd = refl

-- 5. the page that stands ready

pub kept_lengths : (g : Parts) (work : Work) (old new : Entries) (registers : List (List ℕ)) (len : ℕ) → HasRows g old registers → is_row_of g (row_of_work work) ≡ true → Keeps (page_len g) (page_to_keep work) old new → len ≡ page_len g → (p : PageAddress) (bytes : List ℕ) → kept new p ≡ Some bytes → length bytes ≡ len
kept_lengths g work old new registers len rows row k same p bytes is = (kept_rows g (page_to_keep work) registers old new (row_to_keep g work row) k rows).lengths p bytes is ∙ sym same

-- the rows that wait are queued where the work is no reset, and a reset asks for none
pub register_begun : (work : Work) (p : PageAddress) (closed : Bool) (queue : List Queued) (held : List PageAddress) (r : Register) → (is_reset work ≡ false → closed ≡ false) → register_after (effect_of work) p queue held r ≡ register_after (effect_of work) p (cond closed [] queue) held r
register_begun w.Reset p closed queue held r h = refl
register_begun (w.Read at) p closed queue held r h = rw (h refl) refl
register_begun (w.Copyback at count) p closed queue held r h = rw (h refl) refl
register_begun (w.Queue (Erase at)) p closed queue held r h = refl
register_begun (w.Queue (Program at)) p closed queue held r h = refl
register_begun (w.Queue (QueuedRead at)) p closed queue held r h = refl
register_begun work p closed queue held r h = refl

pub held_begun : (work : Work) (c : Bool) (p : PageAddress) (closed : Bool) (queue : List Queued) (held : List PageAddress) → (is_reset work ≡ false → closed ≡ false) → held_after (effect_of work) c p queue held ≡ held_after (effect_of work) c p (cond closed [] queue) held
held_begun w.Reset c p closed queue held h = refl
held_begun (w.Read at) c p closed queue held h = rw (h refl) refl
held_begun (w.Copyback at count) c p closed queue held h = rw (h refl) refl
held_begun (w.Queue (Erase at)) c p closed queue held h = refl
held_begun (w.Queue (Program at)) c p closed queue held h = refl
held_begun (w.Queue (QueuedRead at)) c p closed queue held h = refl
held_begun work c p closed queue held h = refl

-- the page that the register holds stands ready, once it is fetched
pub shows_fetched : (g : Parts) (pages old : Entries) (before after : List ℕ) (r now : Register) → ShowsPage g old r before → length after ≡ length before → ((at : PageAddress) → now ≡ Page at → after ≡ page_in (length before) pages at) → ShowsPage g pages now after
shows_fetched g pages old before after r now h same f = record { page = λ at is. f at is ∙ ap (λ (n : ℕ). page_in n pages at) h.width; width = same ∙ h.width }
