-- What two states both claim.
use Rattle.std.specs.Prelude.{◌≡◌, ℕ, min, max, true, ◌&&◌, ◌||◌, if◌then◌else◌, Option, Some, None, bit_or}
use Rattle.micro_claims.specs.Spans.{Span, Growth}
use Rattle.micro_claims.specs.Planes.{no_planes, either_plane, common_planes}
use Rattle.micro_claims.specs.State.{State, Registers, KnownTarget, KnownLun, PageRange, Place, Closed, Unknown, Drift, NamedRow, Shown, Held, OutputColumn, QueuedRows, NoRows, SomeRows, SomeReads, AnyRows, LastCloser, CachedPage, Copies}
use Rattle.micro_claims.specs.Against.{same_test, is_open_place}
use Rattle.micro_claims.specs.Order.{same_place, same_drift_as, is_state_within}

-- ---- numbers

abbrev pub greater_bound : Option ℕ → Option ℕ → Option ℕ
greater_bound (Some m) (Some n) = Some (max m n)
greater_bound _ _ = None

abbrev pub joined_growth : Option Growth → Option Growth → Option Growth
joined_growth (Some d) (Some e) = Some (record { lo = min d.lo e.lo; hi = greater_bound d.hi e.hi })
joined_growth _ _ = None

abbrev pub joined_span : Span → Span → Span
joined_span s t = record { lo = min s.lo t.lo; hi = greater_bound s.hi t.hi; grown = joined_growth s.grown t.grown }

abbrev pub joined_pages : PageRange → PageRange → PageRange
joined_pages p q = record { lo = min p.lo q.lo; hi = max p.hi q.hi }

-- ---- the parts of a state

abbrev pub joined_registers : Registers → Registers → Registers
joined_registers s t =
    record {
      column = joined_span s.column t.column;
      planes = either_plane s.planes t.planes;
      index = joined_span s.index t.index;
      page = joined_pages s.page t.page;
      place = joined_span s.place t.place;
      cost = joined_span s.cost t.cost;
      polled = s.polled && t.polled;
    }

-- one place, or that nothing is open, or nothing
abbrev pub joined_place : Place → Place → Place
joined_place p q = if same_place p q then p else (if is_open_place p || is_open_place q then Unknown else Closed)

-- what both know
abbrev pub both_know : {A : Type 0} → (A → A → A) → Option A → Option A → Option A
both_know f (Some a) (Some b) = Some (f a b)
both_know f _ _ = None

abbrev pub joined_drift : Option Drift → Option Drift → Option Drift
joined_drift (Some d) (Some e) = if same_drift_as d e then Some d else None
joined_drift _ _ = None

abbrev pub joined_name : NamedRow → NamedRow → NamedRow
joined_name n m =
    record {
      index = joined_span n.index m.index;
      planes = either_plane n.planes m.planes;
      page = max n.page m.page;
      drift = joined_drift n.drift m.drift;
    }

abbrev pub joined_shown : Shown → Shown → Shown
joined_shown w x = record { 0 = bit_or w.0 x.0 }

abbrev pub joined_target : KnownTarget → KnownTarget → KnownTarget
joined_target s t =
    record {
      tail = joined_place s.tail t.tail;
      column = both_know joined_span s.column t.column;
      named = both_know joined_name s.named t.named;
      shows = both_know joined_shown s.shows t.shows;
    }

abbrev pub joined_held : Held → Held → Held
joined_held r q = record { 0 = bit_or r.0 q.0 }

abbrev pub joined_output : OutputColumn → OutputColumn → OutputColumn
joined_output k m = record { at = joined_span k.at m.at; read = k.read || m.read }

abbrev pub joined_rows : QueuedRows → QueuedRows → QueuedRows
joined_rows NoRows NoRows = NoRows
joined_rows NoRows (SomeRows kind ps e) = SomeRows kind ps e
joined_rows NoRows (SomeReads qs some e) = SomeReads qs no_planes e
joined_rows (SomeRows erase planes d) NoRows = SomeRows erase planes d
joined_rows (SomeReads planes surely d) NoRows = SomeReads planes no_planes d
joined_rows (SomeRows erase planes d) (SomeRows kind ps e) = if same_test erase kind && same_drift_as d e then SomeRows erase (either_plane planes ps) d else AnyRows
joined_rows (SomeReads planes surely d) (SomeReads qs some e) = if same_drift_as d e then SomeReads (either_plane planes qs) (common_planes surely some) d else AnyRows
joined_rows _ _ = AnyRows

abbrev pub joined_closer : LastCloser → LastCloser → LastCloser
joined_closer c d = record { 0 = bit_or c.0 d.0 }

abbrev pub joined_cached : CachedPage → CachedPage → CachedPage
joined_cached c d = record { index = joined_span c.index d.index; page = joined_span c.page d.page }

abbrev pub joined_copies : Copies → Copies → Copies
joined_copies c d =
    record {
      even = common_planes c.even d.even;
      odd = common_planes c.odd d.odd;
      copying = c.copying && d.copying;
      keeps = c.keeps && d.keeps;
      holds = c.holds || d.holds;
    }

abbrev pub joined_lun : KnownLun → KnownLun → KnownLun
joined_lun s t =
    record {
      busy = s.busy || t.busy;
      register = both_know joined_held s.register t.register;
      column = both_know joined_output s.column t.column;
      queue = joined_rows s.queue t.queue;
      last = joined_closer s.last t.last;
      cached = joined_cached s.cached t.cached;
      held = common_planes s.held t.held;
      array = common_planes s.array t.array;
      copies = joined_copies s.copies t.copies;
      programming = s.programming || t.programming;
    }

-- what both claim
unfoldable pub joined : State → State → State
joined s t = record { registers = joined_registers s.registers t.registers; target = joined_target s.target t.target; lun = joined_lun s.lun t.lun }

-- the law: what both claim is no more than either claims
abbrev pub JoinsClaimLess : Type 0
JoinsClaimLess = (s t : State) → (is_state_within s (joined s t) ≡ true) × (is_state_within t (joined s t) ≡ true)
