-- Each fact of a LUN is what the newest item says that says something of it.
use Rattle.std.proofs.Common.{◌≡◌, ℕ, ◌+◌, Bool, true, false, ◌&&◌, ◌||◌, cond, List, [], ◌∷◌, Option, Some, None, refl, sym, ap, ◌∙◌, arith, ltb, unwrap_or, take, ◌++◌}
use Rattle.std.proofs.Math.Bool.{or-false}
use Rattle.nand_geometry.specs.declared.parts.Parts.{Parts}
use Rattle.nand_geometry.specs.Limits.{planes}
use Rattle.onfi_cycle.specs.declared.command.Command.{Command}
use Rattle.onfi_cycle.specs.declared.lun.Lun.{Lun}
use Rattle.onfi_cycle.specs.declared.item.Item.{Item}
use Rattle.onfi_cycle.specs.declared.page_address.PageAddress.{PageAddress}
use Rattle.onfi_cycle.specs.declared.queued.Queued.{Queued}
use Rattle.onfi_cycle.specs.declared.queued.Queued.TheVariants.{Erase, Program, Read as QueuedRead}
use Rattle.onfi_cycle.specs.declared.register.Register.{Register}
use Rattle.onfi_cycle.specs.declared.register.Register.TheVariants.{Empty, Page, Features}
use Rattle.onfi_cycle.specs.declared.read_column.ReadColumn.{ReadColumn}
use Rattle.onfi_cycle.specs.declared.effect.Effect.{Effect}
use Rattle.onfi_cycle.specs.declared.effect.Effect.TheVariants.{StatusSelected, StatusOfSelected, StatusRowAwaited, IdRead, IdentityRead, UniqueIdReadStarted, FeaturesReadStarted, ParameterPageReadStarted, CacheReadContinued, CacheReadEnded, DataOutput, BecameReady, ReadStarted, EraseStarted, ProgramStarted, ReadColumnChanged, PlaneSelected, ReadQueued, CopybackReadStarted, ProgramAddressed, CacheProgramStarted}
use Rattle.onfi_cycle.specs.declared.tail_facts.TailFacts.{TailFacts}
use Rattle.onfi_cycle.specs.declared.command.Command.TheVariants.{ReadCacheSequential}
use Rattle.onfi_cycle.specs.Sequence.{row, wants_command}
use Rattle.onfi_cycle.specs.Effect.{page_address, plane_of_row}
use Rattle.onfi_cycle.specs.Lun.{effect_on, busy_after, closer_after, array_busy_after, array_page_after, next_page, register_after, read_column_after, queue_after, is_busy, leaves_array_busy, keeps_array_busy, closer, is_array_busy, array_page, register, read_column, queue, held, held_after, has_reads, page_in_plane, register_of_plane, pages_of_reads, held_on, is_copyback_read}
use Rattle.onfi_cycle.specs.Decides.{or_before, last_decided, count_since, some_since, with_some, all_since, tail_of, closing, work_of, busy_decided, ends_array_work, array_busy_decided, reads_page, reads_its_row, reads_on, page_read, pages_on, first_page, page_of_array, byte_of, register_of, register_decided, changes_column, column_of, column_decided, is_given, gives_column, outputs_data, outputs_since, loses_column, is_status_command, is_cycle_of, empties_queue, queued_row, held_of, held_decided}
use Rattle.onfi_cycle.proofs.Meaning.{means, closer_of, is_ready, is_array_ready, is_column_change, is_data_output, is_status, Carries, is_plane_selected, is_program_addressed}

-- what was decided before, unless this decides
unwrap_before : {A : Type 0} (x y : Option A) (d : A) → unwrap_or (or_before x y) d ≡ unwrap_or x (unwrap_or y d)
unwrap_before (Some a) y d = refl
unwrap_before None y d = refl

-- 1. the last closer

closer_step : (e : Effect) (before : Option Command) → closer_after e before ≡ or_before (closer_of e) before
closer_step (EraseStarted true row) before = refl
closer_step (EraseStarted false row) before = refl
closer_step (ProgramStarted true page) before = refl
closer_step (ProgramStarted false page) before = refl
closer_step (CacheProgramStarted page) before = refl
closer_step _ before = refl

pub closer_decided : (g : Parts) (past : List Item) (l : Lun) → closer g past l ≡ last_decided (closing g l) past
closer_decided g [] l = refl
closer_decided g (i ∷ past) l =
    let e = effect_on g past i l in
    closer_step e (closer g past l) ∙ (ap (λ x. or_before x (closer g past l)) (sym (means g past i l).closes) ∙ ap (or_before (closing g l past i)) (closer_decided g past l))

-- 2. busy

busy_step : (e : Effect) (before : Bool) → busy_after e before ≡ unwrap_or (cond (is_ready e) (Some false) (work_of (closer_of e))) before
busy_step (EraseStarted true row) before = refl
busy_step (EraseStarted false row) before = refl
busy_step (ProgramStarted true page) before = refl
busy_step (ProgramStarted false page) before = refl
busy_step (CacheProgramStarted page) before = refl
busy_step _ before = refl

pub busy_is_decided : (g : Parts) (past : List Item) (l : Lun) → is_busy g past l ≡ unwrap_or (last_decided (busy_decided g l) past) false
busy_is_decided g [] l = refl
busy_is_decided g (i ∷ past) l =
    let m = means g past i l in
    let decided : cond (is_ready (effect_on g past i l)) (Some false) (work_of (closer_of (effect_on g past i l))) ≡ busy_decided g l past i = rw (m.ready, m.closes) refl in
    busy_step (effect_on g past i l) (is_busy g past l) ∙ (ap (λ x. unwrap_or x (is_busy g past l)) decided ∙ (ap (unwrap_or (busy_decided g l past i)) (busy_is_decided g past l) ∙ sym (unwrap_before (busy_decided g l past i) (last_decided (busy_decided g l) past) false)))

-- 3. the array

array_busy_table : (array ready : Bool) → Option Command → (busy : Bool) → Option Command → Option Bool
array_busy_table array ready c busy last = cond array (Some false) (cond ready (cond (busy && leaves_array_busy last) (Some true) None) (ends_array_work last c))

array_busy_step : (e : Effect) (busy : Bool) (last : Option Command) (before : Bool) → array_busy_after e busy last before ≡ unwrap_or (array_busy_table (is_array_ready e) (is_ready e) (closer_of e) busy last) before
unfolding array_busy_table
array_busy_step (EraseStarted true row) busy last before = refl
array_busy_step (EraseStarted false row) busy last before = refl
array_busy_step (ProgramStarted true page) busy last before = of (keeps_array_busy last) before
  where
    of : (keeps before : Bool) → (keeps && before) ≡ unwrap_or (cond keeps None (Some false)) before
    of true before = refl
    of false before = refl
array_busy_step (ProgramStarted false page) busy last before = refl
array_busy_step (BecameReady fail) busy last before = at (busy && leaves_array_busy last) before
  where
    at : (b before : Bool) → (before || b) ≡ unwrap_or (cond b (Some true) None) before
    at true true = refl
    at true false = refl
    at false true = refl
    at false false = refl
array_busy_step _ busy last before = refl

pub array_busy_is_decided : (g : Parts) (past : List Item) (l : Lun) → is_array_busy g past l ≡ unwrap_or (last_decided (array_busy_decided g l) past) false
unfolding array_busy_table
array_busy_is_decided g [] l = refl
array_busy_is_decided g (i ∷ past) l =
    let m = means g past i l in
    let before = is_array_busy g past l in
    let decided : array_busy_table (is_array_ready (effect_on g past i l)) (is_ready (effect_on g past i l)) (closer_of (effect_on g past i l)) (is_busy g past l) (closer g past l) ≡ array_busy_decided g l past i = rw (m.array_ready, m.ready, m.closes) refl in
    array_busy_step (effect_on g past i l) (is_busy g past l) (closer g past l) before ∙ (ap (λ x. unwrap_or x before) decided ∙ (ap (unwrap_or (array_busy_decided g l past i)) (array_busy_is_decided g past l) ∙ sym (unwrap_before (array_busy_decided g l past i) (last_decided (array_busy_decided g l) past) false)))

-- 4. the page of the array, and the register

same_page_plus : (p q : PageAddress) (n m : ℕ) → p.block ≡ q.block → p.page + n ≡ q.page + m → pages_on p n ≡ pages_on q m
same_page_plus p q n m e f = λ i. record { block = e i; page = f i }

plus_none : (p : PageAddress) → p ≡ pages_on p 0
plus_none p = λ i. record { block = p.block; page = add_none p.page i }
  where
    add_none : (n : ℕ) → n ≡ n + 0
    add_none n = omega arith

array_page_step : (g : Parts) (t : TailFacts) (byte : ℕ) (e : Effect) (q : PageAddress) (n : ℕ) → Carries g t byte e → array_page_after e (pages_on q n) ≡ cond (reads_page (wants_command t ReadCacheSequential) (closer_of e)) (pages_on (page_address g (row t)) 0) (cond (reads_on (closer_of e)) (pages_on q (n + 1)) (pages_on q n))
array_page_step g t byte (ReadStarted page column) q n carries = carries.0 ∙ plus_none (page_address g (row t))
array_page_step g t byte (CopybackReadStarted page column count) q n carries = carries.0 ∙ plus_none (page_address g (row t))
array_page_step g t byte (CacheReadContinued to) q n carries = ap (λ x. unwrap_or x (next_page (pages_on q n))) carries ∙ to_page (wants_command t ReadCacheSequential)
  where
    add_assoc_one : (a b : ℕ) → a + b + 1 ≡ a + (b + 1)
    add_assoc_one a b = omega arith

    to_page : (wanted : Bool) → unwrap_or (cond wanted (Some (page_address g (row t))) None) (next_page (pages_on q n)) ≡ cond wanted (pages_on (page_address g (row t)) 0) (pages_on q (n + 1))
    to_page true = plus_none (page_address g (row t))
    to_page false = λ i. record { block = q.block; page = add_assoc_one q.page n i }
array_page_step g t byte (EraseStarted true row) q n carries = refl
array_page_step g t byte (EraseStarted false row) q n carries = refl
array_page_step g t byte (ProgramStarted true page) q n carries = refl
array_page_step g t byte (ProgramStarted false page) q n carries = refl
array_page_step g t byte (CacheProgramStarted page) q n carries = refl
array_page_step g t byte _ q n carries = refl

-- the page so far, with one item more
page_more : (b r : Bool) (p0 : PageAddress) (last : Option PageAddress) (n : ℕ) → cond b (pages_on p0 0) (cond r (pages_on (unwrap_or last first_page) (n + 1)) (pages_on (unwrap_or last first_page) n)) ≡ pages_on (unwrap_or (or_before (cond b (Some p0) None) last) first_page) (cond b 0 (cond r (n + 1) n))
page_more true r p0 last n = refl
page_more false true p0 last n = refl
page_more false false p0 last n = refl

pub array_page_is_decided : (g : Parts) (past : List Item) (l : Lun) → array_page g past l ≡ page_of_array g l past
array_page_is_decided g [] l = refl
array_page_is_decided g (i ∷ past) l =
    let e = effect_on g past i l in
    let m = means g past i l in
    let p0 = page_address g (row (tail_of past l)) in
    let last = last_decided (page_read g l) past in
    let n = count_since (reads_its_row g l) (λ past i. reads_on (closing g l past i)) past in
    let F : Option Command → PageAddress = λ c. cond (reads_page (wants_command (tail_of past l) ReadCacheSequential) c) (pages_on p0 0) (cond (reads_on c) (pages_on (unwrap_or last first_page) (n + 1)) (pages_on (unwrap_or last first_page) n)) in
    ap (array_page_after e) (array_page_is_decided g past l) ∙ (array_page_step g (tail_of past l) (byte_of i) e (unwrap_or last first_page) n m.carries ∙ (ap F (sym m.closes) ∙ page_more (reads_its_row g l past i) (reads_on (closing g l past i)) p0 last n))

-- what the register holds after an effect, where the LUN has this page of the array, this queue and these pages
register_step : (g : Parts) (past : List Item) (l : Lun) (byte : ℕ) (e : Effect) (before : Register) → Carries g (tail_of past l) byte e → register_after e (array_page g past l) (queue g past l) (held g past l) before ≡ unwrap_or (cond (is_plane_selected e) (Some (register_of_plane (page_in_plane (planes g) (plane_of_row g (row (tail_of past l))) (held g past l)))) (register_of g past l byte (closer_of e))) before
register_step g past l byte (ReadStarted page column) before carries = ap (λ (p : PageAddress). cond (has_reads (queue g past l)) Empty (Page p)) carries.0
register_step g past l byte (CopybackReadStarted page column count) before carries = ap (λ (p : PageAddress). cond (has_reads (queue g past l)) Empty (Page p)) carries.0
register_step g past l byte (PlaneSelected plane count column) before carries = λ i. register_of_plane (page_in_plane (carries.1 i) (carries.0 i) (held g past l))
register_step g past l byte (EraseStarted true row) before carries = refl
register_step g past l byte (EraseStarted false row) before carries = refl
register_step g past l byte (ProgramStarted true page) before carries = refl
register_step g past l byte (ProgramStarted false page) before carries = refl
register_step g past l byte (CacheProgramStarted page) before carries = refl
register_step g past l byte IdRead before carries = sym carries
register_step g past l byte (IdentityRead jedec) before carries = sym carries
register_step g past l byte (FeaturesReadStarted address) before carries = ap Features carries
register_step g past l byte _ before carries = refl

pub register_is_decided : (g : Parts) (past : List Item) (l : Lun) → register g past l ≡ unwrap_or (last_decided (register_decided g l) past) Empty
register_is_decided g [] l = refl
register_is_decided g (i ∷ past) l =
    let m = means g past i l in
    let chosen = register_of_plane (page_in_plane (planes g) (plane_of_row g (row (tail_of past l))) (held g past l)) in
    register_step g past l (byte_of i) (effect_on g past i l) (register g past l) m.carries ∙
    ((λ j. unwrap_or (cond (sym m.selects j) (Some chosen) (register_of g past l (byte_of i) (sym m.closes j))) (register g past l)) ∙ (ap (unwrap_or (register_decided g l past i)) (register_is_decided g past l) ∙ sym (unwrap_before (register_decided g l past i) (last_decided (register_decided g l) past) Empty)))

-- the pages that the plane registers hold
held_step : (g : Parts) (past : List Item) (l : Lun) (byte : ℕ) (e : Effect) → Carries g (tail_of past l) byte e → held_after e (is_copyback_read (closer g past l)) (array_page g past l) (queue g past l) (held g past l) ≡ unwrap_or (cond (is_program_addressed e) (Some []) (held_of g past l (closer_of e))) (held g past l)
held_step g past l byte (ReadStarted page column) carries = ap (λ (p : PageAddress). take 4 (p ∷ pages_of_reads (queue g past l))) carries.0
held_step g past l byte (CopybackReadStarted page column count) carries =
    λ i. take 4 (carries.0 i ∷ (pages_of_reads (queue g past l) ++ held_on (carries.2 i) (carries.0 i) (is_copyback_read (closer g past l)) (held g past l)))
held_step g past l byte (EraseStarted true row) carries = refl
held_step g past l byte (EraseStarted false row) carries = refl
held_step g past l byte (ProgramStarted true page) carries = refl
held_step g past l byte (ProgramStarted false page) carries = refl
held_step g past l byte (CacheProgramStarted page) carries = refl
held_step g past l byte _ carries = refl

pub held_is_decided : (g : Parts) (past : List Item) (l : Lun) → held g past l ≡ unwrap_or (last_decided (held_decided g l) past) []
held_is_decided g [] l = refl
held_is_decided g (i ∷ past) l =
    let m = means g past i l in
    held_step g past l (byte_of i) (effect_on g past i l) m.carries ∙
    ((λ j. unwrap_or (cond (sym m.clears j) (Some []) (held_of g past l (sym m.closes j))) (held g past l)) ∙ (ap (unwrap_or (held_decided g l past i)) (held_is_decided g past l) ∙ sym (unwrap_before (held_decided g l past i) (last_decided (held_decided g l) past) [])))

-- 5. the read column

given_by : TailFacts → List Item → Lun → Bool → Option Command → Option ℕ
given_by t past l changes c = cond changes (Some t.column) (column_of past l c)

column_step : (past : List Item) (l : Lun) (g : Parts) (byte : ℕ) (e : Effect) (k : ReadColumn) → Carries g (tail_of past l) byte e → read_column_after e k ≡ record {
  given = or_before (given_by (tail_of past l) past l (is_column_change e) (closer_of e)) k.given;
  outputs = cond (is_given (given_by (tail_of past l) past l (is_column_change e) (closer_of e))) 0 (cond (is_data_output e) (k.outputs + 1) k.outputs);
  lost = cond (is_given (given_by (tail_of past l) past l (is_column_change e) (closer_of e))) false (k.lost || (is_status e && ltb 0 k.outputs));
}
unfolding given_by
column_step past l g byte (ReadStarted page column) k carries = λ i. record { given = Some (carries.1 i); outputs = 0; lost = false }
column_step past l g byte (CopybackReadStarted page column count) k carries = λ i. record { given = Some (carries.1 i); outputs = 0; lost = false }
column_step past l g byte (ReadColumnChanged column) k carries = λ i. record { given = Some (carries i); outputs = 0; lost = false }
column_step past l g byte (PlaneSelected plane count column) k carries = λ i. record { given = Some (carries.2 i); outputs = 0; lost = false }
column_step past l g byte (EraseStarted true row) k carries = λ i. record { given = k.given; outputs = k.outputs; lost = sym (or-false k.lost) i }
column_step past l g byte (EraseStarted false row) k carries = λ i. record { given = k.given; outputs = k.outputs; lost = sym (or-false k.lost) i }
column_step past l g byte (ProgramStarted true page) k carries = λ i. record { given = k.given; outputs = k.outputs; lost = sym (or-false k.lost) i }
column_step past l g byte (ProgramStarted false page) k carries = λ i. record { given = k.given; outputs = k.outputs; lost = sym (or-false k.lost) i }
column_step past l g byte (CacheProgramStarted page) k carries = λ i. record { given = k.given; outputs = k.outputs; lost = sym (or-false k.lost) i }
column_step past l g byte IdRead k carries = refl
column_step past l g byte (IdentityRead jedec) k carries = refl
column_step past l g byte UniqueIdReadStarted k carries = refl
column_step past l g byte (FeaturesReadStarted address) k carries = refl
column_step past l g byte ParameterPageReadStarted k carries = refl
column_step past l g byte (CacheReadContinued to) k carries = refl
column_step past l g byte CacheReadEnded k carries = refl
column_step past l g byte StatusSelected k carries = refl
column_step past l g byte StatusOfSelected k carries = refl
column_step past l g byte StatusRowAwaited k carries = refl
column_step past l g byte DataOutput k carries = λ i. record { given = k.given; outputs = k.outputs + 1; lost = sym (or-false k.lost) i }
column_step past l g byte _ k carries = λ i. record { given = k.given; outputs = k.outputs; lost = sym (or-false k.lost) i }

column_table : List Item → Lun → (changes : Bool) → Option Command → (outputs status : Bool) → ReadColumn → ReadColumn
column_table past l changes c outputs status k =
    record {
      given = or_before (given_by (tail_of past l) past l changes c) k.given;
      outputs = cond (is_given (given_by (tail_of past l) past l changes c)) 0 (cond outputs (k.outputs + 1) k.outputs);
      lost = cond (is_given (given_by (tail_of past l) past l changes c)) false (k.lost || (status && ltb 0 k.outputs));
    }

column_so_far : Parts → List Item → Lun → ReadColumn
column_so_far g past l = record { given = last_decided (column_decided g l) past; outputs = outputs_since g l past; lost = some_since (gives_column g l) (loses_column g l) past }

pub column_is_decided : (g : Parts) (past : List Item) (l : Lun) → read_column g past l ≡ record { given = last_decided (column_decided g l) past; outputs = outputs_since g l past; lost = some_since (gives_column g l) (loses_column g l) past }
unfolding given_by column_table column_so_far
column_is_decided g [] l = refl
column_is_decided g (i ∷ past) l =
    let e = effect_on g past i l in
    let m = means g past i l in
    let before : read_column g past l ≡ column_so_far g past l = column_is_decided g past l in
    let step : read_column_after e (read_column g past l) ≡ column_table past l (is_column_change e) (closer_of e) (is_data_output e) (is_status e) (read_column g past l) = column_step past l g (byte_of i) e (read_column g past l) m.carries in
    let after : column_table past l (is_column_change e) (closer_of e) (is_data_output e) (is_status e) (read_column g past l) ≡ column_table past l (changes_column g l past i) (closing g l past i) (outputs_data g l past i) (is_cycle_of is_status_command l i) (column_so_far g past l) =
    λ j. column_table past l (sym m.changes j) (sym m.closes j) (sym m.outputs j) (sym m.status j) (before j) in
    step ∙ after

-- 6. the queue

queue_step : (g : Parts) (t : TailFacts) (byte : ℕ) (e : Effect) (q : List Queued) → Carries g t byte e → queue_after e q ≡ cond (empties_queue (closer_of e)) [] (with_some (queued_row (page_address g (row t)) (closer_of e)) q)
queue_step g t byte (ReadQueued page) q carries = ap (λ p. QueuedRead p ∷ q) carries
queue_step g t byte (EraseStarted true at) q carries = ap (λ p. Erase p ∷ q) carries
queue_step g t byte (EraseStarted false at) q carries = refl
queue_step g t byte (ProgramStarted true at) q carries = ap (λ p. Program p ∷ q) carries
queue_step g t byte (ProgramStarted false at) q carries = refl
queue_step g t byte (CacheProgramStarted at) q carries = refl
queue_step g t byte _ q carries = refl

pub queue_is_decided : (g : Parts) (past : List Item) (l : Lun) → queue g past l ≡ all_since (λ past i. empties_queue (closing g l past i)) (λ past i. queued_row (page_address g (row (tail_of past l))) (closing g l past i)) past
queue_is_decided g [] l = refl
queue_is_decided g (i ∷ past) l =
    let e = effect_on g past i l in
    let m = means g past i l in
    let F : Option Command → List Queued → List Queued = λ c q. cond (empties_queue c) [] (with_some (queued_row (page_address g (row (tail_of past l))) c) q) in
    queue_step g (tail_of past l) (byte_of i) e (queue g past l) m.carries ∙ (λ j. F (sym m.closes j) (queue_is_decided g past l j))
