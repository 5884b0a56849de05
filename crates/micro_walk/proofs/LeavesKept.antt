-- What a word leaves of a claim is claimed of what it leaves of an actual claim.
use Rattle.std.proofs.Common.{◌≡◌, ℕ, ◌<◌, ◌≤◌, ◌==◌, Bool, true, false, ◌||◌, cond, Option, Some, None, refl, sym, ap, subst, arith}
use Rattle.std.specs.Prelude.{nat_lt}
use Rattle.nand_geometry.specs.declared.parts.Parts.{Parts}
use Rattle.nand_geometry.specs.Limits.{InLimits}
use Rattle.micro_claims.specs.declared.planes.Planes.{Planes}
use Rattle.micro_claims.specs.Planes.{just_plane, no_planes, is_one_plane}
use Rattle.micro_claims.specs.Spans.{Span}
use Rattle.micro_claims.specs.Spans.{exactly, plus, only, copied}
use Rattle.micro_claims.specs.declared.state.State.{State}
use Rattle.micro_claims.specs.declared.registers.Registers.{Registers}
use Rattle.micro_claims.specs.declared.known_target.KnownTarget.{KnownTarget}
use Rattle.micro_claims.specs.declared.known_lun.KnownLun.{KnownLun}
use Rattle.micro_claims.specs.declared.page_range.PageRange.{PageRange}
use Rattle.micro_claims.specs.declared.place.Place.{Place}
use Rattle.micro_claims.specs.declared.place.Place.TheVariants.{Closed}
use Rattle.micro_claims.specs.declared.drift.Drift.{Drift}
use Rattle.micro_claims.specs.declared.named_row.NamedRow.{NamedRow}
use Rattle.micro_claims.specs.declared.shown.Shown.{Shown}
use Rattle.micro_claims.specs.declared.output_column.OutputColumn.{OutputColumn}
use Rattle.micro_claims.specs.declared.queued_rows.QueuedRows.{QueuedRows}
use Rattle.micro_claims.specs.declared.queued_rows.QueuedRows.TheVariants.{NoRows, SomeRows, SomeReads, AnyRows}
use Rattle.micro_claims.specs.declared.held.Held.{Held}
use Rattle.micro_claims.specs.State.{closed, any_number, holds_page, holds_parameters, holds_identifier, holds_identity, holds_jedec, holds_unique_id, holds_feature}
use Rattle.micro_claims.specs.Leaves.{with_registers, status_shown, data_shown, resumed_shows, unread, given_at, cost_plus, paid, polled, found_ready, handed_over, drift_moved, and_drift, rows_at, reads_at, named_moved, rows_moved, index_moved, drift_set, cached_at, shows_after_read}
use Rattle.micro_claims.specs.Order.{SpanAt, SpanIs, AllAmong, May, DriftIs, RegistersAt, HasColumn, NamedIs, IsFineNamed, ShowsIs, TargetAt, RegisterIs, HasOutput, RowsAre, LunAt, At, column_number, output_number, Exactly}
use Rattle.micro_walk.proofs.SpanLaws as numbers
use Rattle.micro_walk.proofs.SpanLaws.{only_too}
use Rattle.micro_walk.proofs.Shapes.{among_self}
use Rattle.micro_walk.proofs.CopiesKept.{parity_is, moved_copies}
use Rattle.micro_claims.specs.Copies.{no_distance, parity_of}

-- 1. registers

pub paid_number : (v s a : Span) (n : ℕ) → SpanAt v s a → SpanAt v (cost_plus n s) (cost_plus n a)
paid_number v s a n f = at (n == 0)
  where
    at : (b : Bool) → SpanAt v (cond b s (plus s n)) (cond b a (plus a n))
    at true = f
    at false = numbers.grown v s a n f

pub with_column : (g : Parts) (v s a : Registers) (n : ℕ) → RegistersAt g v s a → RegistersAt g v (record s { column = exactly n }) (record a { column = exactly n })
with_column g v s a n f = record { column = numbers.set v.column n; planes = f.planes; one_plane = f.one_plane; index = f.index; page_low = f.page_low; page_high = f.page_high; page_order = f.page_order; page_inside = f.page_inside; place = f.place; cost = f.cost; polled = f.polled }

pub with_plane : (g : Parts) (v s a : Registers) (n : ℕ) → is_one_plane (just_plane n) ≡ true → RegistersAt g v s a → RegistersAt g v (record s { planes = just_plane n }) (record a { planes = just_plane n })
with_plane g v s a n one f = record { column = f.column; planes = among_self (just_plane n); one_plane = one; index = f.index; page_low = f.page_low; page_high = f.page_high; page_order = f.page_order; page_inside = f.page_inside; place = f.place; cost = f.cost; polled = f.polled }

pub with_place : (g : Parts) (v s a : Registers) (x y : Span) → SpanAt v.place x y → RegistersAt g v s a → RegistersAt g v (record s { place = x }) (record a { place = y })
with_place g v s a x y h f = record { column = f.column; planes = f.planes; one_plane = f.one_plane; index = f.index; page_low = f.page_low; page_high = f.page_high; page_order = f.page_order; page_inside = f.page_inside; place = h; cost = f.cost; polled = f.polled }

pub with_paid : (g : Parts) (v s a : Registers) (n : ℕ) → RegistersAt g v s a → RegistersAt g v (record s { cost = cost_plus n s.cost }) (record a { cost = cost_plus n a.cost })
with_paid g v s a n f = record { column = f.column; planes = f.planes; one_plane = f.one_plane; index = f.index; page_low = f.page_low; page_high = f.page_high; page_order = f.page_order; page_inside = f.page_inside; place = f.place; cost = paid_number v.cost s.cost a.cost n f.cost; polled = f.polled }

pub with_polled : (g : Parts) (v s a : Registers) → RegistersAt g v s a → RegistersAt g v (record s { polled = true }) (record a { polled = true })
with_polled g v s a f = record { column = f.column; planes = f.planes; one_plane = f.one_plane; index = f.index; page_low = f.page_low; page_high = f.page_high; page_order = f.page_order; page_inside = f.page_inside; place = f.place; cost = f.cost; polled = λ h. h }

-- a range of pages inside the block
pub record RangeIs (pages : ℕ) (s a : PageRange) : Type 0 where
  pub low : s.lo ≤ a.lo
  pub high : a.hi ≤ s.hi
  pub order : a.lo ≤ a.hi
  pub inside : a.hi < pages

pub with_index : (g : Parts) (v s a : Registers) (x y : Span) (p q : PageRange) → SpanAt v.index x y → RangeIs g.pages p q → RegistersAt g v s a → RegistersAt g v (record s { index = x; page = p }) (record a { index = y; page = q })
with_index g v s a x y p q h k f = record { column = f.column; planes = f.planes; one_plane = f.one_plane; index = h; page_low = k.low; page_high = k.high; page_order = k.order; page_inside = k.inside; place = f.place; cost = f.cost; polled = f.polled }

pub paid_at : (g : Parts) (v s a : State) (n : ℕ) → At g v s a → At g v (with_registers s (paid n s.registers)) (with_registers a (paid n a.registers))
paid_at g v s a n d = record { registers = with_paid g v.registers s.registers a.registers n d.registers; target = d.target; lun = d.lun }

pub registers_at : (g : Parts) (v s a : State) (r q : Registers) → At g v s a → RegistersAt g v.registers r q → At g v (with_registers s r) (with_registers a q)
registers_at g v s a r q d h = record { registers = h; target = d.target; lun = d.lun }

-- 2. the target

pub any_free : (v : Span) → SpanAt v any_number any_number
any_free v = numbers.free v any_number (omega arith) (omega arith) (omega arith)

pub fine_of : (w v s a : Span) → SpanAt w s a → SpanAt v any_number a
fine_of w v s a f = numbers.free v a f.order f.low_small f.small

pub one_place : (g : Parts) (v : KnownTarget) (p : Place) (w x : Option Shown) → ShowsIs w x → TargetAt g v (record { tail = p; column = None; named = None; shows = w }) (record { tail = p; column = None; named = None; shows = x })
one_place g v p w x h = record { tail = Exactly p; has_column = tt; column = any_free _; named = tt; fine = tt; shows = h }

pub data_is : ShowsIs data_shown data_shown
data_is = (λ h. h, (λ h. h, refl))

pub status_is : ShowsIs status_shown status_shown
status_is = (λ h. h, (λ h. h, refl))

pub resumed_is : (w x : Option Shown) → ShowsIs w x → ShowsIs (resumed_shows w) (resumed_shows x)
resumed_is None x h = tt
resumed_is (Some w) None h = absurd h
resumed_is (Some w) (Some x) h = data_is

pub read_is : (g : Parts) (w x : Option Shown) → ShowsIs w x → ShowsIs (shows_after_read g w) (shows_after_read g x)
read_is g None None h = at (nat_lt 1 g.luns)
  where
    at : (b : Bool) → ShowsIs (cond b None data_shown) (cond b None data_shown)
    at true = tt
    at false = data_is
read_is g None (Some x) h = at (nat_lt 1 g.luns)
  where
    at : (b : Bool) → ShowsIs (cond b None data_shown) data_shown
    at true = tt
    at false = data_is
read_is g (Some w) None h = absurd h
read_is g (Some w) (Some x) h = data_is

-- 3. the column of the LUN

pub record OutputAt (v s a : Option OutputColumn) : Type 0 where
  pub has : HasOutput s a
  pub at : SpanAt (output_number v) (output_number s) (output_number a)

-- what may be held is held where it is so
pub held_is : (r : Held) → (holds_page r || (holds_parameters r || (holds_identifier r || (holds_identity r || (holds_jedec r || (holds_unique_id r || holds_feature r)))))) ≡ true → RegisterIs r r
held_is r h = record { page = λ e. e; parameters = λ e. e; identifier = λ e. e; identity = λ e. e; jedec = λ e. e; unique_id = λ e. e; feature = λ e. e; some = h }

pub no_output : (v : Option OutputColumn) → OutputAt v None None
no_output v = record { has = tt; at = any_free _ }

pub first_output : (v : Option OutputColumn) → OutputAt v (Some (record { at = exactly 0; read = false })) (Some (record { at = exactly 0; read = false }))
first_output v = record { has = λ h. h; at = numbers.set _ 0 }

pub fine_unread : (v a : Option OutputColumn) (w s : Span) → SpanAt w s (output_number a) → SpanAt (output_number v) any_number (output_number (unread a))
fine_unread v None w s f = any_free _
fine_unread v (Some m) w s f = at m.read
  where
    at : (b : Bool) → SpanAt (output_number v) any_number (output_number (cond b None (Some m)))
    at true = any_free _
    at false = fine_of w (output_number v) s m.at f

pub unread_at : (v s a : Option OutputColumn) → OutputAt v s a → OutputAt v (unread s) (unread a)
unread_at v None a f = record { has = tt; at = fine_unread v a (output_number v) any_number f.at }
unread_at v (Some k) None f = absurd f.has
unread_at v (Some k) (Some m) f = at k.read m.read f.has
  where
    at : (b c : Bool) → May c b → OutputAt v (cond b None (Some k)) (cond c None (Some m))
    at true true h = no_output v
    at true false h = record { has = tt; at = fine_of (output_number v) (output_number v) k.at m.at f.at }
    at false true h = absurd (let x = h refl in cc)
    at false false h = record { has = f.has; at = f.at }

pub given_is : (v : Option OutputColumn) (w : Span) (s a : Option Span) → HasColumn s a → SpanAt w (column_number s) (column_number a) → OutputAt v (given_at s) (given_at a)
given_is v w None None h f = no_output v
given_is v w None (Some m) h f = record { has = tt; at = numbers.free _ (copied m) f.order f.low_small f.small }
given_is v w (Some k) None h f = absurd h
given_is v w (Some k) (Some m) h f = record { has = λ e. e; at = numbers.copied_at w (output_number v) k m f }

-- 4. rows and names

pub drift_same : (o : Option Drift) → DriftIs o o
drift_same None = tt
drift_same (Some d) = refl

-- both registers move a drift in the same way, where it is known how
abbrev pub MovesAlike : (Drift → Option Drift) → (Drift → Option Drift) → Type 0
MovesAlike f h = (d : Drift) → DriftIs (f d) (h d)

pub set_alike : (s a : Span) (to : ℕ) → SpanIs s a → MovesAlike (drift_set (only s) to) (drift_set (only a) to)
set_alike s a to f d = at (only s) refl
  where
    at : (o : Option ℕ) → only s ≡ o → DriftIs (drift_set o to d) (drift_set (only a) to d)
    at None e = tt
    at (Some n) e = subst (λ (o : Option ℕ). DriftIs (drift_moved n to d) (drift_set o to d)) (sym (only_too s a n f e)) (drift_same (drift_moved n to d))

pub and_alike : (f h : Drift → Option Drift) (s a : Option Drift) → MovesAlike f h → DriftIs s a → DriftIs (and_drift s f) (and_drift a h)
and_alike f h None a m e = tt
and_alike f h (Some d) a m e = subst (λ (o : Option Drift). DriftIs (f d) (and_drift o h)) (sym e) (m d)

pub named_alike : (g : Parts) (f h : Drift → Option Drift) (s a : Option NamedRow) → MovesAlike f h → NamedIs g s a → NamedIs g (named_moved f s) (named_moved h a)
named_alike g f h None a m e = tt
named_alike g f h (Some n) None m e = absurd e
named_alike g f h (Some n) (Some k) m e = record { index = e.index; planes = e.planes; page = e.page; drift = and_alike f h n.drift k.drift m e.drift }

pub fine_moved : (g : Parts) (h : Drift → Option Drift) (a : Option NamedRow) → IsFineNamed g a → IsFineNamed g (named_moved h a)
fine_moved g h None f = tt
fine_moved g h (Some k) f = record { order = f.order; low_small = f.low_small; small = f.small; page_inside = f.page_inside; one_plane = f.one_plane }

pub rows_placed : (erase : Bool) (ps ms : Planes) (s a : Option Drift) → AllAmong ms ps → DriftIs s a → RowsAre (rows_at erase ps s) (rows_at erase ms a)
rows_placed erase ps ms None a f e = tt
rows_placed erase ps ms (Some d) a f e = subst (λ (o : Option Drift). RowsAre (SomeRows erase ps d) (rows_at erase ms o)) (sym e) (refl, (f, refl))

pub no_rows_placed : (erase : Bool) (ps : Planes) (s : Option Drift) → RowsAre (rows_at erase ps s) NoRows
no_rows_placed erase ps None = tt
no_rows_placed erase ps (Some d) = tt

pub reads_placed : (ps ms surely some : Planes) (s a : Option Drift) → AllAmong surely some → AllAmong ms ps → DriftIs s a → RowsAre (reads_at ps surely s) (reads_at ms some a)
reads_placed ps ms surely some None a x f e = tt
reads_placed ps ms surely some (Some d) a x f e = subst (λ (o : Option Drift). RowsAre (SomeReads ps surely d) (reads_at ms some o)) (sym e) (x, (f, refl))

no_reads_placed : (ps surely : Planes) (s : Option Drift) → AllAmong surely no_planes → RowsAre (reads_at ps surely s) NoRows
no_reads_placed ps surely None x = tt
no_reads_placed ps surely (Some d) x = x

pub rows_alike : (f h : Drift → Option Drift) (s a : QueuedRows) → MovesAlike f h → RowsAre s a → RowsAre (rows_moved f s) (rows_moved h a)
rows_alike f h NoRows a m e = ap (rows_moved h) e
rows_alike f h AnyRows a m e = tt
rows_alike f h (SomeRows erase ps d) NoRows m e = no_rows_placed erase ps (f d)
rows_alike f h (SomeRows erase ps d) AnyRows m e = absurd e
rows_alike f h (SomeRows erase ps d) (SomeReads ms some c) m e = absurd e
rows_alike f h (SomeReads ps surely d) NoRows m e = no_reads_placed ps surely (f d) e
rows_alike f h (SomeReads ps surely d) AnyRows m e = absurd e
rows_alike f h (SomeReads ps surely d) (SomeRows kind ms c) m e = absurd e
rows_alike f h (SomeReads ps surely d) (SomeReads ms some c) m e = reads_placed ps ms surely some (f d) (h c) e.0 e.1.0 (subst (λ (x : Drift). DriftIs (f d) (h x)) (sym e.1.1) (m d))
rows_alike f h (SomeRows erase ps d) (SomeRows kind ms c) m e =
    subst (λ (k : Bool). RowsAre (rows_at erase ps (f d)) (rows_at k ms (h c))) (sym e.0) (rows_placed erase ps ms (f d) (h c) e.1.0 (subst (λ (x : Drift). DriftIs (f d) (h x)) (sym e.1.1) (m d)))

pub cached_index_is : (g : Parts) (v : Span) (s a : Option NamedRow) → NamedIs g s a → IsFineNamed g a → SpanAt v (cached_at s).index (cached_at a).index
cached_index_is g v None None e f = any_free v
cached_index_is g v None (Some m) e f = numbers.free v (copied m.index) f.order f.low_small f.small
cached_index_is g v (Some n) None e f = absurd e
cached_index_is g v (Some n) (Some m) e f = numbers.at_copied v n.index m.index e.index

pub cached_page_is : (g : Parts) → InLimits g → (v : Span) (s a : Option NamedRow) → NamedIs g s a → IsFineNamed g a → SpanAt v (cached_at s).page (cached_at a).page
cached_page_is g l v None None e f = any_free v
cached_page_is g l v None (Some m) e f = let x = f.page_inside in let y = l.pages_most in numbers.free v (cached_at (Some m)).page (omega arith) (omega arith) (omega (arith, x, y))
cached_page_is g l v (Some n) None e f = absurd e
cached_page_is g l v (Some n) (Some m) e f =
    let x = f.page_inside in
    let y = l.pages_most in
    let z = e.page in
    record { low = omega arith; high = omega (arith, z); grew = tt; order = omega arith; low_small = omega arith; small = omega (arith, x, y) }

-- 5. polls and hand-overs

pub lun_with_output : (v s a : KnownLun) (k m : Option OutputColumn) → OutputAt v.column k m → LunAt v s a → LunAt v (record s { column = k }) (record a { column = m })
lun_with_output v s a k m h f = record { busy = f.busy; register = f.register; has_column = h.has; column = h.at; queue = f.queue; last_read = f.last_read; last_cache = f.last_cache; last_other = f.last_other; cached_index = f.cached_index; cached_page = f.cached_page; held = f.held; array = f.array; copies = f.copies; programming = f.programming }

pub output_of : (v s a : KnownLun) → LunAt v s a → OutputAt v.column s.column a.column
output_of v s a f = record { has = f.has_column; at = f.column }

pub polled_at : (g : Parts) (v s a : State) → At g v s a → At g v (polled s) (polled a)
polled_at g v s a d = record {
  registers = with_polled g v.registers s.registers a.registers d.registers;
  target = one_place g v.target Closed status_shown status_shown status_is;
  lun = lun_with_output v.lun s.lun a.lun _ _ (unread_at v.lun.column s.lun.column a.lun.column (output_of v.lun s.lun a.lun d.lun)) d.lun;
}

pub ready_at : (g : Parts) (v s a : State) → At g v s a → At g v (found_ready s) (found_ready a)
ready_at g v s a d = record {
  registers = d.registers;
  target = d.target;
  lun = (let f = d.lun in record { busy = λ h. h; register = f.register; has_column = f.has_column; column = f.column; queue = f.queue; last_read = f.last_read; last_cache = f.last_cache; last_other = f.last_other; cached_index = f.cached_index; cached_page = f.cached_page; held = f.held; array = f.array; copies = f.copies; programming = f.programming });
}

pub handed_at : (g : Parts) (v s a : State) → At g v s a → At g v (handed_over g s) (handed_over g a)
handed_at g v s a d = at (nat_lt 1 g.luns)
  where
    at : (b : Bool) → At g v (cond b (record { registers = s.registers; target = closed None; lun = record s.lun { column = unread s.lun.column } }) s) (cond b (record { registers = a.registers; target = closed None; lun = record a.lun { column = unread a.lun.column } }) a)
    at true = record {
      registers = d.registers;
      target = one_place g v.target Closed None None tt;
      lun = lun_with_output v.lun s.lun a.lun _ _ (unread_at v.lun.column s.lun.column a.lun.column (output_of v.lun s.lun a.lun d.lun)) d.lun;
    }
    at false = d

pub moved_at : (g : Parts) (v s a : State) (f h : Drift → Option Drift) (x y : Span) (p q : PageRange) → At g v s a → MovesAlike f h → SpanAt v.registers.index x y → RangeIs g.pages p q → At g v (index_moved g.pages f x p s) (index_moved g.pages h y q a)
moved_at g v s a f h x y p q d alike i r = record {
  registers = with_index g v.registers s.registers a.registers x y p q i r d.registers;
  target = (let t = d.target in record { tail = t.tail; has_column = t.has_column; column = t.column; named = named_alike g f h s.target.named a.target.named alike t.named; fine = fine_moved g h a.target.named t.fine; shows = t.shows });
  lun = (let t = d.lun in record { busy = t.busy; register = t.register; has_column = t.has_column; column = t.column; queue = rows_alike f h s.lun.queue a.lun.queue alike t.queue; last_read = t.last_read; last_cache = t.last_cache; last_other = t.last_other; cached_index = t.cached_index; cached_page = t.cached_page; held = t.held; array = t.array; copies = moved_copies (parity_of g.pages (f no_distance)) (parity_of g.pages (h no_distance)) s.lun.copies a.lun.copies (parity_is g.pages (f no_distance) (h no_distance) (alike no_distance)) t.copies; programming = t.programming });
}
