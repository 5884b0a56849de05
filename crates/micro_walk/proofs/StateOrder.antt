-- The laws of claims that go field by field: all but `steps`.
use Rattle.std.proofs.Common.{◌≡◌, ℕ, ◌<◌, ◌≤◌, Bool, true, false, Option, Some, None, refl, sym, ◌∙◌, subst, arith}
use Rattle.std.proofs.lemmas.Bool.{not-true, and_parts}
use Rattle.nand_geometry.specs.declared.parts.Parts.{Parts}
use Rattle.nand_geometry.specs.Limits.{InLimits}
use Rattle.micro_claims.specs.Planes.{just_plane, no_planes, is_one_plane}
use Rattle.micro_claims.specs.Spans.{Span}
use Rattle.micro_claims.specs.declared.state.State.{State}
use Rattle.micro_claims.specs.declared.registers.Registers.{Registers}
use Rattle.micro_claims.specs.declared.known_target.KnownTarget.{KnownTarget}
use Rattle.micro_claims.specs.declared.known_lun.KnownLun.{KnownLun}
use Rattle.micro_claims.specs.declared.place.Place.TheVariants.{Closed, After, InData, InColumn, InFeatures, Unknown}
use Rattle.micro_claims.specs.declared.named_row.NamedRow.{NamedRow}
use Rattle.micro_claims.specs.declared.shown.Shown.{Shown}
use Rattle.micro_claims.specs.declared.held.Held.{Held}
use Rattle.micro_claims.specs.declared.output_column.OutputColumn.{OutputColumn}
use Rattle.micro_claims.specs.declared.queued_rows.QueuedRows.{QueuedRows}
use Rattle.micro_claims.specs.declared.queued_rows.QueuedRows.TheVariants.{NoRows, SomeRows, SomeReads, AnyRows}
use Rattle.micro_claims.specs.State.{first_state, any_number, may_be_30, may_be_31, may_be_other, uncopied}
use Rattle.micro_claims.specs.declared.copies.Copies.{Copies}
use Rattle.micro_claims.specs.declared.place.Place.{Place}
use Rattle.micro_claims.specs.declared.bounds.Bounds.{Bounds}
use Rattle.micro_claims.specs.Against.{same_test, is_open_place}
use Rattle.micro_claims.specs.Order.{SpanAt, AllAmong, May, RegistersAt, HasColumn, NameIs, NamedIs, IsFineNamed, ShowsIs, TargetAt, RegisteredIs, HasOutput, RowsAre, LunAt, At, column_number, output_number, may_within, same_drift_as, is_span_within, span_at_head, span_at_heads, span_after_turns, are_registers_within, is_column_within, is_name_within, is_named_within, is_shows_within, is_target_within, is_register_within, is_output_within, are_rows_within, is_lun_within, is_state_within, column_by, output_by, state_by, state_at_head, state_at_heads, state_after_turns, machine, PlaceIs, Anywhere, NothingOpen, Exactly, are_planes_within, is_place_within, CopiesAt, are_copies_within}
use Rattle.micro_claims.specs.Certificate.{Turned}
use Rattle.micro_claims.proofs.Sets.{has_more}
use Rattle.micro_walk.proofs.SpanLaws as numbers
use Rattle.micro_walk.proofs.SpanLaws.{le_of, Ran}
use Rattle.micro_walk.proofs.Shapes.{planes_too, among_self, within_among, same_is, may_too, must_too, drift_is, drift_too}
use Rattle.micro_walk.proofs.Turns.{ran_of, last_turn}
use Rattle.micro_walk.proofs.CopiesKept.{copies_self}

-- 1. before the first word

any_free : (v : Span) → SpanAt v any_number any_number
any_free v = numbers.free v any_number (omega arith) (omega arith) (omega arith)

pub begins : (g : Parts) → InLimits g → At g first_state first_state first_state
begins g l =
    let pages = l.pages_least in
    record {
      registers = record {
        column = numbers.set _ 0;
        planes = among_self (just_plane 0);
        one_plane = refl;
        index = numbers.set _ 0;
        page_low = omega arith;
        page_high = omega arith;
        page_order = omega arith;
        page_inside = omega (arith, pages);
        place = numbers.set _ 0;
        cost = numbers.set _ 0;
        polled = λ h. h;
      };
      target = record { tail = Exactly Closed; has_column = tt; column = any_free _; named = tt; fine = tt; shows = tt };
      lun = record {
        busy = λ h. h;
        register = tt;
        has_column = tt;
        column = any_free _;
        queue = refl;
        last_read = λ h. h;
        last_cache = λ h. h;
        last_other = λ h. h;
        cached_index = any_free _;
        cached_page = any_free _;
        held = among_self no_planes;
        array = among_self no_planes;
        copies = copies_self uncopied;
        programming = λ h. h;
      };
    }

-- 2. who claims less

registers_eased : (g : Parts) (v s t a : Registers) → are_registers_within s t ≡ true → RegistersAt g v s a → RegistersAt g v t a
registers_eased g v s t a h f =
    let p1 = and_parts _ _ h in
    let p2 = and_parts _ _ p1.1 in
    let p3 = and_parts _ _ p2.1 in
    let p4 = and_parts _ _ p3.1 in
    let p5 = and_parts _ _ p4.1 in
    let p6 = and_parts _ _ p5.1 in
    let p7 = and_parts _ _ p6.1 in
    let low = f.page_low in
    let high = f.page_high in
    let less = le_of t.page.lo s.page.lo p4.0 in
    let more = le_of s.page.hi t.page.hi p5.0 in
    record {
      column = numbers.eased v.column s.column t.column a.column p1.0 f.column;
      planes = planes_too s.planes t.planes a.planes p2.0 f.planes;
      one_plane = f.one_plane;
      index = numbers.eased v.index s.index t.index a.index p3.0 f.index;
      page_low = omega (arith, low, less);
      page_high = omega (arith, high, more);
      page_order = f.page_order;
      page_inside = f.page_inside;
      place = numbers.eased v.place s.place t.place a.place p6.0 f.place;
      cost = numbers.eased v.cost s.cost t.cost a.cost p7.0 f.cost;
      polled = must_too s.polled t.polled a.polled p7.1 f.polled;
    }

-- an actual place of which it is claimed that nothing is open
still_closed : (s a : Place) → PlaceIs s a → is_open_place s ≡ false → is_open_place a ≡ false
still_closed _ _ (Anywhere p) e = absurd cc
still_closed _ _ (NothingOpen p h) e = h
still_closed _ _ (Exactly p) e = e

place_eased : (s t a : Place) → is_place_within s t ≡ true → PlaceIs s a → PlaceIs t a
place_eased s Unknown a h f = Anywhere a
place_eased s Closed a h f = NothingOpen a (still_closed s a f (not-true (is_open_place s) h))
place_eased s (After c n) a h f = subst (λ (p : Place). PlaceIs p a) (same_is s (After c n) h) f
place_eased s InData a h f = subst (λ (p : Place). PlaceIs p a) (same_is s InData h) f
place_eased s (InColumn n) a h f = subst (λ (p : Place). PlaceIs p a) (same_is s (InColumn n) h) f
place_eased s (InFeatures n) a h f = subst (λ (p : Place). PlaceIs p a) (same_is s (InFeatures n) h) f

has_column_eased : (s t a : Option Span) → is_column_within s t ≡ true → HasColumn s a → HasColumn t a
has_column_eased s None a h f = tt
has_column_eased None (Some m) a h f = absurd cc
has_column_eased (Some k) (Some m) None h f = f
has_column_eased (Some k) (Some m) (Some n) h f = tt

column_eased : (v a : Span) (s t : Option Span) → is_column_within s t ≡ true → SpanAt v (column_number s) a → SpanAt v (column_number t) a
column_eased v a s None h f = numbers.free v a f.order f.low_small f.small
column_eased v a None (Some m) h f = absurd cc
column_eased v a (Some k) (Some m) h f = numbers.eased v k m a h f

name_eased : (g : Parts) (s t a : NamedRow) → is_name_within s t ≡ true → NameIs g s a → NameIs g t a
name_eased g s t a h f =
    let p1 = and_parts _ _ h in
    let p2 = and_parts _ _ p1.1 in
    let p3 = and_parts _ _ p2.1 in
    let less = le_of s.page t.page p3.0 in
    let page = f.page in
    record {
      index = numbers.is_eased s.index t.index a.index p1.0 f.index;
      planes = planes_too s.planes t.planes a.planes p2.0 f.planes;
      page = omega (arith, less, page);
      drift = drift_too s.drift t.drift a.drift p3.1 f.drift;
    }

named_eased : (g : Parts) (s t a : Option NamedRow) → is_named_within s t ≡ true → NamedIs g s a → NamedIs g t a
named_eased g s None a h f = tt
named_eased g None (Some m) a h f = absurd cc
named_eased g (Some n) (Some m) None h f = f
named_eased g (Some n) (Some m) (Some k) h f = name_eased g n m k h f

shows_eased : (s t a : Option Shown) → is_shows_within s t ≡ true → ShowsIs s a → ShowsIs t a
shows_eased s None a h f = tt
shows_eased None (Some x) a h f = absurd cc
shows_eased (Some w) (Some x) None h f = f
shows_eased (Some w) (Some x) (Some y) h f =
    (λ e. has_more 1 w.0 x.0 h (f.0 e), (λ e. has_more 2 w.0 x.0 h (f.1.0 e), f.1.1))

target_eased : (g : Parts) (v s t a : KnownTarget) → is_target_within s t ≡ true → TargetAt g v s a → TargetAt g v t a
target_eased g v s t a h f =
    let p1 = and_parts _ _ h in
    let p2 = and_parts _ _ p1.1 in
    let p3 = and_parts _ _ p2.1 in
    record {
      tail = place_eased s.tail t.tail a.tail p1.0 f.tail;
      has_column = has_column_eased s.column t.column a.column p2.0 f.has_column;
      column = column_eased (column_number v.column) (column_number a.column) s.column t.column p2.0 f.column;
      named = named_eased g s.named t.named a.named p3.0 f.named;
      fine = f.fine;
      shows = shows_eased s.shows t.shows a.shows p3.1 f.shows;
    }

register_eased : (s t a : Option Held) → is_register_within s t ≡ true → RegisteredIs s a → RegisteredIs t a
register_eased s None a h f = tt
register_eased None (Some x) a h f = absurd cc
register_eased (Some w) (Some x) None h f = f
register_eased (Some w) (Some x) (Some y) h f =
    record {
      page = λ e. has_more 1 w.0 x.0 h (f.page e);
      parameters = λ e. has_more 2 w.0 x.0 h (f.parameters e);
      identifier = λ e. has_more 4 w.0 x.0 h (f.identifier e);
      identity = λ e. has_more 8 w.0 x.0 h (f.identity e);
      jedec = λ e. has_more 16 w.0 x.0 h (f.jedec e);
      unique_id = λ e. has_more 32 w.0 x.0 h (f.unique_id e);
      feature = λ e. has_more 64 w.0 x.0 h (f.feature e);
      some = f.some;
    }

has_output_eased : (s t a : Option OutputColumn) → is_output_within s t ≡ true → HasOutput s a → HasOutput t a
has_output_eased s None a h f = tt
has_output_eased None (Some m) a h f = absurd cc
has_output_eased (Some k) (Some m) None h f = f
has_output_eased (Some k) (Some m) (Some n) h f = may_too k.read m.read n.read (and_parts (is_span_within k.at m.at) (may_within k.read m.read) h).1 f

output_eased : (v a : Span) (s t : Option OutputColumn) → is_output_within s t ≡ true → SpanAt v (output_number s) a → SpanAt v (output_number t) a
output_eased v a s None h f = numbers.free v a f.order f.low_small f.small
output_eased v a None (Some m) h f = absurd cc
output_eased v a (Some k) (Some m) h f = numbers.eased v k.at m.at a (and_parts (is_span_within k.at m.at) (may_within k.read m.read) h).0 f

same_bool : (b c : Bool) → same_test b c ≡ true → b ≡ c
same_bool true true h = refl
same_bool true false h = absurd cc
same_bool false true h = absurd cc
same_bool false false h = refl

rows_eased : (s t a : QueuedRows) → are_rows_within s t ≡ true → RowsAre s a → RowsAre t a
rows_eased s AnyRows a h f = tt
rows_eased NoRows NoRows a h f = f
rows_eased NoRows (SomeRows kind ps e) a h f = subst (λ (x : QueuedRows). RowsAre (SomeRows kind ps e) x) (sym f) tt
rows_eased NoRows (SomeReads qs some e) a h f = subst (λ (x : QueuedRows). RowsAre (SomeReads qs some e) x) (sym f) (within_among some no_planes h)
rows_eased (SomeRows erase planes d) NoRows a h f = absurd cc
rows_eased (SomeRows erase planes d) (SomeReads qs some e) a h f = absurd cc
rows_eased (SomeReads planes surely d) NoRows a h f = absurd cc
rows_eased (SomeReads planes surely d) (SomeRows kind ps e) a h f = absurd cc
rows_eased AnyRows NoRows a h f = absurd cc
rows_eased AnyRows (SomeRows kind ps e) a h f = absurd cc
rows_eased AnyRows (SomeReads qs some e) a h f = absurd cc
rows_eased (SomeReads planes surely d) (SomeReads qs some e) NoRows h f =
    let p = and_parts (are_planes_within some surely) _ h in
    λ n here. f n (within_among some surely p.0 n here)
rows_eased (SomeReads planes surely d) (SomeReads qs some e) AnyRows h f = f
rows_eased (SomeReads planes surely d) (SomeReads qs some e) (SomeRows kind ps c) h f = f
rows_eased (SomeReads planes surely d) (SomeReads qs some e) (SomeReads ms known c) h f =
    let p = and_parts (are_planes_within some surely) _ h in
    let q = and_parts (are_planes_within planes qs) (same_drift_as d e) p.1 in
    (λ n here. f.0 n (within_among some surely p.0 n here), (planes_too planes qs ms q.0 f.1.0, f.1.1 ∙ drift_is d e q.1))
rows_eased (SomeRows erase planes d) (SomeRows kind ps e) (SomeReads qs some c) h f = f
rows_eased (SomeRows erase planes d) (SomeRows kind ps e) NoRows h f = tt
rows_eased (SomeRows erase planes d) (SomeRows kind ps e) AnyRows h f = f
rows_eased (SomeRows erase planes d) (SomeRows kind ps e) (SomeRows k qs c) h f =
    let p = and_parts (same_test erase kind) _ h in
    let q = and_parts (are_planes_within planes ps) (same_drift_as d e) p.1 in
    (f.0 ∙ same_bool erase kind p.0, (planes_too planes ps qs q.0 f.1.0, f.1.1 ∙ drift_is d e q.1))

copies_eased : (s t a : Copies) → are_copies_within s t ≡ true → CopiesAt s a → CopiesAt t a
copies_eased s t a h f =
    let p1 = and_parts _ _ h in
    let p2 = and_parts _ _ p1.1 in
    let p3 = and_parts _ _ p2.1 in
    let p4 = and_parts _ _ p3.1 in
    record {
      even = λ n here. f.even n (within_among t.even s.even p1.0 n here);
      odd = λ n here. f.odd n (within_among t.odd s.odd p2.0 n here);
      copying = λ e. f.copying (may_on t.copying s.copying p3.0 e);
      keeps = λ e. f.keeps (may_on t.keeps s.keeps p4.0 e);
      holds = λ e. may_on s.holds t.holds p4.1 (f.holds e);
    }
  where
    may_on : (b c : Bool) → may_within b c ≡ true → b ≡ true → c ≡ true
    may_on true c h e = h
    may_on false c h e = absurd cc

lun_eased : (v s t a : KnownLun) → is_lun_within s t ≡ true → LunAt v s a → LunAt v t a
lun_eased v s t a h f =
    let p1 = and_parts _ _ h in
    let p2 = and_parts _ _ p1.1 in
    let p3 = and_parts _ _ p2.1 in
    let p4 = and_parts _ _ p3.1 in
    let p5 = and_parts _ _ p4.1 in
    let p6 = and_parts _ _ p5.1 in
    let p7 = and_parts _ _ p6.1 in
    let p8 = and_parts _ _ p7.1 in
    let p9 = and_parts _ _ p8.1 in
    let p10 = and_parts _ _ p9.1 in
    record {
      busy = may_too s.busy t.busy a.busy p1.0 f.busy;
      register = register_eased s.register t.register a.register p2.0 f.register;
      has_column = has_output_eased s.column t.column a.column p3.0 f.has_column;
      column = output_eased (output_number v.column) (output_number a.column) s.column t.column p3.0 f.column;
      queue = rows_eased s.queue t.queue a.queue p4.0 f.queue;
      last_read = λ e. has_more 1 s.last.0 t.last.0 p5.0 (f.last_read e);
      last_cache = λ e. has_more 2 s.last.0 t.last.0 p5.0 (f.last_cache e);
      last_other = λ e. has_more 4 s.last.0 t.last.0 p5.0 (f.last_other e);
      cached_index = numbers.eased v.cached.index s.cached.index t.cached.index a.cached.index p6.0 f.cached_index;
      cached_page = numbers.eased v.cached.page s.cached.page t.cached.page a.cached.page p7.0 f.cached_page;
      held = λ n here. f.held n (within_among t.held s.held p8.0 n here);
      array = λ n here. f.array n (within_among t.array s.array p9.0 n here);
      copies = copies_eased s.copies t.copies a.copies p10.0 f.copies;
      programming = may_too s.programming t.programming a.programming p10.1 f.programming;
    }

pub eases : (g : Parts) (v s t a : State) → is_state_within s t ≡ true → At g v s a → At g v t a
unfolding is_state_within
eases g v s t a h f =
    let p1 = and_parts _ _ h in
    let p2 = and_parts _ _ p1.1 in
    record {
      registers = registers_eased g v.registers s.registers t.registers a.registers p1.0 f.registers;
      target = target_eased g v.target s.target t.target a.target p2.0 f.target;
      lun = lun_eased v.lun s.lun t.lun a.lun p2.1 f.lun;
    }

-- 3. loops: what is made of numbers is claimed of each number, what doesn't grow is claimed as it stands

-- what is claimed beside the numbers
pub record Stands (g : Parts) (r a : State) : Type 0 where
  pub planes : AllAmong a.registers.planes r.registers.planes
  pub one_plane : is_one_plane a.registers.planes ≡ true
  pub page_low : r.registers.page.lo ≤ a.registers.page.lo
  pub page_high : a.registers.page.hi ≤ r.registers.page.hi
  pub page_order : a.registers.page.lo ≤ a.registers.page.hi
  pub page_inside : a.registers.page.hi < g.pages
  pub polled : May r.registers.polled a.registers.polled
  pub tail : PlaceIs r.target.tail a.target.tail
  pub has_column : HasColumn r.target.column a.target.column
  pub named : NamedIs g r.target.named a.target.named
  pub fine : IsFineNamed g a.target.named
  pub shows : ShowsIs r.target.shows a.target.shows
  pub busy : May a.lun.busy r.lun.busy
  pub register : RegisteredIs r.lun.register a.lun.register
  pub has_output : HasOutput r.lun.column a.lun.column
  pub queue : RowsAre r.lun.queue a.lun.queue
  pub last_read : May (may_be_30 a.lun.last) (may_be_30 r.lun.last)
  pub last_cache : May (may_be_31 a.lun.last) (may_be_31 r.lun.last)
  pub last_other : May (may_be_other a.lun.last) (may_be_other r.lun.last)
  pub held : AllAmong r.lun.held a.lun.held
  pub array : AllAmong r.lun.array a.lun.array
  pub copies : CopiesAt r.lun.copies a.lun.copies
  pub programming : May a.lun.programming r.lun.programming

pub stands : (g : Parts) (v s a : State) → At g v s a → Stands g s a
stands g v s a d = record {
  planes = d.registers.planes;
  one_plane = d.registers.one_plane;
  page_low = d.registers.page_low;
  page_high = d.registers.page_high;
  page_order = d.registers.page_order;
  page_inside = d.registers.page_inside;
  polled = d.registers.polled;
  tail = d.target.tail;
  has_column = d.target.has_column;
  named = d.target.named;
  fine = d.target.fine;
  shows = d.target.shows;
  busy = d.lun.busy;
  register = d.lun.register;
  has_output = d.lun.has_column;
  queue = d.lun.queue;
  last_read = d.lun.last_read;
  last_cache = d.lun.last_cache;
  last_other = d.lun.last_other;
  held = d.lun.held;
  array = d.lun.array;
  copies = d.lun.copies;
  programming = d.lun.programming;
}

-- the numbers of a claim
pub data Number : Type 0 where
  Column Index PlaceNumber Cost InputColumn Output CachedIndex CachedPage : Number

abbrev pub number : Number → State → Span
number Column s = s.registers.column
number Index s = s.registers.index
number PlaceNumber s = s.registers.place
number Cost s = s.registers.cost
number InputColumn s = column_number s.target.column
number Output s = output_number s.lun.column
number CachedIndex s = s.lun.cached.index
number CachedPage s = s.lun.cached.page

pub number_at : (g : Parts) (n : Number) (v s a : State) → At g v s a → SpanAt (number n v) (number n s) (number n a)
number_at g Column v s a d = d.registers.column
number_at g Index v s a d = d.registers.index
number_at g PlaceNumber v s a d = d.registers.place
number_at g Cost v s a d = d.registers.cost
number_at g InputColumn v s a d = d.target.column
number_at g Output v s a d = d.lun.column
number_at g CachedIndex v s a d = d.lun.cached_index
number_at g CachedPage v s a d = d.lun.cached_page

column_made : (f : Span → Span → Span) (v a : Span) (s r : Option Span) → SpanAt v (f (column_number s) (column_number r)) a → SpanAt v (column_number (column_by f s r)) a
column_made f v a s None h = numbers.free v a h.order h.low_small h.small
column_made f v a s (Some r) h = h

output_made : (f : Span → Span → Span) (v a : Span) (s r : Option OutputColumn) → SpanAt v (f (output_number s) (output_number r)) a → SpanAt v (output_number (output_by f s r)) a
output_made f v a s None h = numbers.free v a h.order h.low_small h.small
output_made f v a s (Some r) h = h

has_made : (f : Span → Span → Span) (s r a : Option Span) → HasColumn r a → HasColumn (column_by f s r) a
has_made f s None a h = tt
has_made f s (Some r) None h = h
has_made f s (Some r) (Some m) h = tt

has_output_made : (f : Span → Span → Span) (s r a : Option OutputColumn) → HasOutput r a → HasOutput (output_by f s r) a
has_output_made f s None a h = tt
has_output_made f s (Some r) None h = h
has_output_made f s (Some r) (Some m) h = h

pub made : (g : Parts) (f : Span → Span → Span) (v s r a : State) → ((n : Number) → SpanAt (number n v) (f (number n s) (number n r)) (number n a)) → Stands g r a → At g v (state_by f s r) a
made g f v s r a n x = record {
  registers = record {
    column = n Column;
    planes = x.planes;
    one_plane = x.one_plane;
    index = n Index;
    page_low = x.page_low;
    page_high = x.page_high;
    page_order = x.page_order;
    page_inside = x.page_inside;
    place = n PlaceNumber;
    cost = n Cost;
    polled = x.polled;
  };
  target = record {
    tail = x.tail;
    has_column = has_made f s.target.column r.target.column a.target.column x.has_column;
    column = column_made f (column_number v.target.column) (column_number a.target.column) s.target.column r.target.column (n InputColumn);
    named = x.named;
    fine = x.fine;
    shows = x.shows;
  };
  lun = record {
    busy = x.busy;
    register = x.register;
    has_column = has_output_made f s.lun.column r.lun.column a.lun.column x.has_output;
    column = output_made f (output_number v.lun.column) (output_number a.lun.column) s.lun.column r.lun.column (n Output);
    queue = x.queue;
    last_read = x.last_read;
    last_cache = x.last_cache;
    last_other = x.last_other;
    cached_index = n CachedIndex;
    cached_page = n CachedPage;
    held = x.held;
    array = x.array;
    copies = x.copies;
    programming = x.programming;
  };
}

pub enters : (g : Parts) (v s a : State) → At g v s a → At g a (state_at_head s) a
unfolding state_at_head
enters g v s a d = made g (λ x y. span_at_head y) a s s a (λ n. numbers.entered (number n v) (number n s) (number n a) (number_at g n v s a d)) (stands g v s a d)

number_ran : (g : Parts) (x : Bounds) (n : Number) (v s r : State) (turns : ℕ) (b : State) → Turned (machine g x) (At g) v s r turns b → Ran (number n v) (number n s) (number n r) turns (number n b)
number_ran g x n = ran_of (machine g x) (At g) (number n) (number_at g n)

last : (g : Parts) (x : Bounds) (v s r : State) (turns : ℕ) (b : State) → 1 ≤ turns → Turned (machine g x) (At g) v s r turns b → Stands g r b
last g x = last_turn (machine g x) (At g) (Stands g) (stands g)

pub again : (g : Parts) (x : Bounds) (v s r b : State) (turns done : ℕ) → Turned (machine g x) (At g) v s r done b → 1 ≤ done → done < turns → At g b (state_at_heads s r turns) b
unfolding state_at_heads
again g x v s r b turns done ran one few =
    made g (λ x y. span_at_heads x y turns) b s r b (λ n. numbers.again (number n v) (number n s) (number n r) (number n b) turns done (number_ran g x n v s r done b ran) one few)
    (last g x v s r done b one ran)

pub leaves : (g : Parts) (x : Bounds) (v s r b : State) (turns : ℕ) → 1 ≤ turns → Turned (machine g x) (At g) v s r turns b → At g v (state_after_turns s r turns) b
unfolding state_after_turns
leaves g x v s r b turns one ran =
    made g (λ x y. span_after_turns x y turns) v s r b (λ n. numbers.left (number n v) (number n s) (number n r) (number n b) turns one (number_ran g x n v s r turns b ran))
    (last g x v s r turns b one ran)
