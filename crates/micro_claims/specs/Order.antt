-- What one state says beside another: the order of states, what loops make of them, and the verifier as a machine.
use Rattle.std.specs.Prelude.{◌≡◌, ℕ, ◌+◌, ◌-◌, ◌*◌, ◌≤◌, ◌<◌, ◌==◌, min, Bool, true, false, ◌&&◌, ◌||◌, not, nat_le, if◌then◌else◌, Option, Some, None, is_none}
use Rattle.nand_geometry.specs.declared.parts.Parts.{Parts}
use Rattle.onfi_cycle.specs.Command.{opcode}
use Rattle.micro_word.specs.declared.word.Word.{Word}
use Rattle.micro_claims.specs.Spans.{greatest_bound, kept, saturated, bound_plus}
use Rattle.micro_claims.specs.Sets.{has}
use Rattle.micro_claims.specs.Planes.{has_plane, no_planes, is_one_plane}
pub use Rattle.micro_claims.specs.Planes.{Planes, are_planes_within}
use Rattle.micro_claims.specs.State.{State, Registers, KnownTarget, KnownLun, Span, Growth, Place, Closed, After, InData, InColumn, InFeatures, Unknown, Drift, NamedRow, Shown, Held, OutputColumn, QueuedRows, NoRows, SomeRows, SomeReads, AnyRows, Copies, LoopPlace, Head, Heads, AfterTurns, Bounds, any_number, first_state, shows_status, shows_register, holds_page, holds_parameters, holds_identifier, holds_identity, holds_jedec, holds_unique_id, holds_feature, may_be_30, may_be_31, may_be_other}
use Rattle.micro_claims.specs.Against.{same_test, is_open_place}
use Rattle.micro_claims.specs.Reasons.{reason_against}
use Rattle.micro_claims.specs.Accepts.{state_after}
use Rattle.micro_claims.specs.Certificate.{Machine}

-- ---- 1. numbers: tests and operations

-- the second bound claims no more than the first
abbrev pub is_bound_within : Option ℕ → Option ℕ → Bool
is_bound_within b None = true
is_bound_within None (Some n) = false
is_bound_within (Some m) (Some n) = nat_le m n

abbrev pub is_growth_within : Option Growth → Option Growth → Bool
is_growth_within d None = true
is_growth_within None (Some e) = false
is_growth_within (Some d) (Some e) = nat_le e.lo d.lo && is_bound_within d.hi e.hi

abbrev pub is_span_within : Span → Span → Bool
is_span_within s t = nat_le t.lo s.lo && (is_bound_within s.hi t.hi && is_growth_within s.grown t.grown)

abbrev pub no_growth : Growth
no_growth = record { lo = 0; hi = Some 0 }

abbrev pub bound_sum : Option ℕ → Option ℕ → Option ℕ
bound_sum b None = None
bound_sum b (Some n) = bound_plus b n

abbrev pub bound_times : ℕ → Option ℕ → Option ℕ
bound_times turns None = None
bound_times turns (Some n) = kept (turns * n)

abbrev pub growth_sum : ℕ → Option ℕ → Option Growth → Option Growth
growth_sum lo hi None = None
growth_sum lo hi (Some g) = Some (record { lo = saturated (g.lo + lo); hi = bound_sum g.hi hi })

-- where a turn begins nothing has grown
abbrev pub span_at_head : Span → Span
span_at_head s = record { lo = s.lo; hi = s.hi; grown = Some no_growth }

-- where a turn but the first begins, the first beginning with `s`, each ending with `r`
abbrev pub span_heads_by : Option Growth → Span → Span → ℕ → Span
span_heads_by None s r turns = span_at_head r
span_heads_by (Some d) s r turns = record { lo = saturated (s.lo + d.lo); hi = bound_sum s.hi (bound_times (turns - 1) d.hi); grown = Some no_growth }

abbrev pub span_at_heads : Span → Span → ℕ → Span
span_at_heads s r turns = span_heads_by r.grown s r turns

-- after the last turn
abbrev pub span_after_by : Option Growth → Span → Span → ℕ → Span
span_after_by None s r turns = record { lo = r.lo; hi = r.hi; grown = None }
span_after_by (Some d) s r turns =
    record {
      lo = saturated (s.lo + turns * d.lo);
      hi = bound_sum s.hi (bound_times turns d.hi);
      grown = growth_sum (saturated (turns * d.lo)) (bound_times turns d.hi) s.grown;
    }

abbrev pub span_after_turns : Span → Span → ℕ → Span
span_after_turns s r turns = span_after_by r.grown s r turns

-- ---- 2. numbers: what is claimed

-- a bound as a number: none is one more than the greatest
abbrev pub top : Option ℕ → ℕ
top None = greatest_bound + 1
top (Some n) = n

abbrev pub Grew : Span → Option Growth → Span → Type 0
Grew v None a = Unit {0}
Grew v (Some d) a = (min greatest_bound (v.lo + d.lo) ≤ a.lo) × (top a.hi ≤ top v.hi + top d.hi)

-- `s` is claimed of the number `a`, in a turn that began with `v`
pub record SpanAt (v s a : Span) : Type 0 where
  pub low : s.lo ≤ a.lo
  pub high : top a.hi ≤ top s.hi
  pub grew : Grew v s.grown a
  pub order : a.lo ≤ top a.hi
  pub low_small : a.lo ≤ greatest_bound
  pub small : top a.hi ≤ greatest_bound + 1

-- the same, of a number that doesn't grow
pub record SpanIs (s a : Span) : Type 0 where
  pub low : s.lo ≤ a.lo
  pub high : top a.hi ≤ top s.hi
  pub order : a.lo ≤ top a.hi
  pub low_small : a.lo ≤ greatest_bound
  pub small : top a.hi ≤ greatest_bound + 1

-- a column that isn't known is any number
abbrev pub column_number : Option Span → Span
column_number None = any_number
column_number (Some s) = s

abbrev pub output_number : Option OutputColumn → Span
output_number None = any_number
output_number (Some k) = k.at

-- ---- 3. planes and places

-- each plane of the first is one of the second
abbrev pub AllAmong : Planes → Planes → Type 0
AllAmong p q = (n : ℕ) → has_plane n p ≡ true → has_plane n q ≡ true

-- a flag that tells what may be: the second allows at least what the first does
abbrev pub may_within : Bool → Bool → Bool
may_within b c = not b || c

abbrev pub same_code : Option ℕ → Option ℕ → Bool
same_code (Some n) (Some m) = n == m
same_code _ _ = false

abbrev pub same_place : Place → Place → Bool
same_place Closed Closed = true
same_place (After c n) (After d m) = same_code (opcode c) (opcode d) && n == m
same_place InData InData = true
same_place (InColumn n) (InColumn m) = n == m
same_place (InFeatures n) (InFeatures m) = n == m
same_place _ _ = false

-- the second claims no more: it is the same place, or nothing is claimed, or that nothing is open
abbrev pub is_place_within : Place → Place → Bool
is_place_within p Unknown = true
is_place_within p Closed = not (is_open_place p)
is_place_within p q = same_place p q

-- ---- 4. the parts of a state

abbrev pub May : Bool → Bool → Type 0
May b c = b ≡ true → c ≡ true

abbrev pub same_drift_as : Drift → Drift → Bool
same_drift_as d e = d.ahead == e.ahead && d.behind == e.behind

abbrev pub is_drift_within : Option Drift → Option Drift → Bool
is_drift_within d None = true
is_drift_within None (Some e) = false
is_drift_within (Some d) (Some e) = same_drift_as d e

abbrev pub DriftIs : Option Drift → Option Drift → Type 0
DriftIs None e = Unit {0}
DriftIs (Some d) e = e ≡ Some d

pub record RegistersAt (g : Parts) (v s a : Registers) : Type 0 where
  pub column : SpanAt v.column s.column a.column
  pub planes : AllAmong a.planes s.planes
  pub one_plane : is_one_plane a.planes ≡ true
  pub index : SpanAt v.index s.index a.index
  pub page_low : s.page.lo ≤ a.page.lo
  pub page_high : a.page.hi ≤ s.page.hi
  pub page_order : a.page.lo ≤ a.page.hi
  pub page_inside : a.page.hi < g.pages
  pub place : SpanAt v.place s.place a.place
  pub cost : SpanAt v.cost s.cost a.cost
  pub polled : May s.polled a.polled

-- what a place claims of the actual one
pub data PlaceIs : Place → Place → Type 0 where
  Anywhere : (p : Place) → PlaceIs Unknown p
  NothingOpen : (p : Place) → is_open_place p ≡ false → PlaceIs Closed p
  Exactly : (p : Place) → PlaceIs p p

abbrev pub HasColumn : Option Span → Option Span → Type 0
HasColumn None a = Unit {0}
HasColumn (Some k) None = ⊥
HasColumn (Some k) (Some m) = Unit {0}

pub record NameIs (g : Parts) (s a : NamedRow) : Type 0 where
  pub index : SpanIs s.index a.index
  pub planes : AllAmong a.planes s.planes
  pub page : a.page ≤ s.page
  pub drift : DriftIs s.drift a.drift

abbrev pub NamedIs : Parts → Option NamedRow → Option NamedRow → Type 0
NamedIs g None a = Unit {0}
NamedIs g (Some n) None = ⊥
NamedIs g (Some n) (Some m) = NameIs g n m

-- a name of an actual state is in order, known or not
pub record IsFineName (g : Parts) (a : NamedRow) : Type 0 where
  pub order : a.index.lo ≤ top a.index.hi
  pub low_small : a.index.lo ≤ greatest_bound
  pub small : top a.index.hi ≤ greatest_bound + 1
  pub page_inside : a.page < g.pages
  pub one_plane : is_one_plane a.planes ≡ true

abbrev pub IsFineNamed : Parts → Option NamedRow → Type 0
IsFineNamed g None = Unit {0}
IsFineNamed g (Some m) = IsFineName g m

abbrev pub ShowsIs : Option Shown → Option Shown → Type 0
ShowsIs None a = Unit {0}
ShowsIs (Some w) None = ⊥
ShowsIs (Some w) (Some x) = May (shows_status x) (shows_status w) × (May (shows_register x) (shows_register w) × ((shows_status x || shows_register x) ≡ true))

pub record TargetAt (g : Parts) (v s a : KnownTarget) : Type 0 where
  pub tail : PlaceIs s.tail a.tail
  pub has_column : HasColumn s.column a.column
  pub column : SpanAt (column_number v.column) (column_number s.column) (column_number a.column)
  pub named : NamedIs g s.named a.named
  pub fine : IsFineNamed g a.named
  pub shows : ShowsIs s.shows a.shows

-- of an actual register it is known what it holds
pub record RegisterIs (r q : Held) : Type 0 where
  pub page : May (holds_page q) (holds_page r)
  pub parameters : May (holds_parameters q) (holds_parameters r)
  pub identifier : May (holds_identifier q) (holds_identifier r)
  pub identity : May (holds_identity q) (holds_identity r)
  pub jedec : May (holds_jedec q) (holds_jedec r)
  pub unique_id : May (holds_unique_id q) (holds_unique_id r)
  pub feature : May (holds_feature q) (holds_feature r)
  pub some : (holds_page q || (holds_parameters q || (holds_identifier q || (holds_identity q || (holds_jedec q || (holds_unique_id q || holds_feature q)))))) ≡ true

abbrev pub RegisteredIs : Option Held → Option Held → Type 0
RegisteredIs None a = Unit {0}
RegisteredIs (Some r) None = ⊥
RegisteredIs (Some r) (Some q) = RegisterIs r q

abbrev pub HasOutput : Option OutputColumn → Option OutputColumn → Type 0
HasOutput None a = Unit {0}
HasOutput (Some k) None = ⊥
HasOutput (Some k) (Some m) = May m.read k.read

abbrev pub RowsAre : QueuedRows → QueuedRows → Type 0
RowsAre AnyRows a = Unit {0}
RowsAre NoRows a = a ≡ NoRows
RowsAre (SomeRows erase planes d) NoRows = Unit {0}
RowsAre (SomeRows erase planes d) AnyRows = ⊥
RowsAre (SomeRows erase planes d) (SomeReads qs some e) = ⊥
RowsAre (SomeRows erase planes d) (SomeRows kind ps e) = (kind ≡ erase) × (AllAmong ps planes × (e ≡ d))
RowsAre (SomeReads planes surely d) NoRows = AllAmong surely no_planes
RowsAre (SomeReads planes surely d) AnyRows = ⊥
RowsAre (SomeReads planes surely d) (SomeRows kind ps e) = ⊥
RowsAre (SomeReads planes surely d) (SomeReads qs some e) = AllAmong surely some × (AllAmong qs planes × (e ≡ d))

-- what is claimed of copies: which pages may surely be copied, and whether one may be held
pub record CopiesAt (s a : Copies) : Type 0 where
  pub even : AllAmong s.even a.even
  pub odd : AllAmong s.odd a.odd
  pub copying : May s.copying a.copying
  pub keeps : May s.keeps a.keeps
  pub holds : May a.holds s.holds

pub record LunAt (v s a : KnownLun) : Type 0 where
  pub busy : May a.busy s.busy
  pub register : RegisteredIs s.register a.register
  pub has_column : HasOutput s.column a.column
  pub column : SpanAt (output_number v.column) (output_number s.column) (output_number a.column)
  pub queue : RowsAre s.queue a.queue
  pub last_read : May (may_be_30 a.last) (may_be_30 s.last)
  pub last_cache : May (may_be_31 a.last) (may_be_31 s.last)
  pub last_other : May (may_be_other a.last) (may_be_other s.last)
  pub cached_index : SpanAt v.cached.index s.cached.index a.cached.index
  pub cached_page : SpanAt v.cached.page s.cached.page a.cached.page
  pub held : AllAmong s.held a.held
  pub array : AllAmong s.array a.array
  pub copies : CopiesAt s.copies a.copies
  pub programming : May a.programming s.programming

-- `s` is claimed of the actual state `a`, in a turn that began with the actual state `v`
pub record At (g : Parts) (v s a : State) : Type 0 where
  pub registers : RegistersAt g v.registers s.registers a.registers
  pub target : TargetAt g v.target s.target a.target
  pub lun : LunAt v.lun s.lun a.lun

-- ---- 5. the same, as a test

abbrev pub are_registers_within : Registers → Registers → Bool
are_registers_within s t =
    is_span_within s.column t.column && (are_planes_within s.planes t.planes && (is_span_within s.index t.index
    && (nat_le t.page.lo s.page.lo && (nat_le s.page.hi t.page.hi && (is_span_within s.place t.place && (is_span_within s.cost t.cost && may_within t.polled s.polled))))))

abbrev pub is_column_within : Option Span → Option Span → Bool
is_column_within s None = true
is_column_within None (Some m) = false
is_column_within (Some k) (Some m) = is_span_within k m

abbrev pub is_name_within : NamedRow → NamedRow → Bool
is_name_within n m = is_span_within n.index m.index && (are_planes_within n.planes m.planes && (nat_le n.page m.page && is_drift_within n.drift m.drift))

abbrev pub is_named_within : Option NamedRow → Option NamedRow → Bool
is_named_within s None = true
is_named_within None (Some m) = false
is_named_within (Some n) (Some m) = is_name_within n m

abbrev pub is_shows_within : Option Shown → Option Shown → Bool
is_shows_within s None = true
is_shows_within None (Some x) = false
is_shows_within (Some w) (Some x) = has w.0 x.0

abbrev pub is_target_within : KnownTarget → KnownTarget → Bool
is_target_within s t =
    is_place_within s.tail t.tail && (is_column_within s.column t.column && (is_named_within s.named t.named && is_shows_within s.shows t.shows))

abbrev pub is_register_within : Option Held → Option Held → Bool
is_register_within s None = true
is_register_within None (Some q) = false
is_register_within (Some r) (Some q) = has r.0 q.0

abbrev pub is_output_within : Option OutputColumn → Option OutputColumn → Bool
is_output_within s None = true
is_output_within None (Some m) = false
is_output_within (Some k) (Some m) = is_span_within k.at m.at && may_within k.read m.read

abbrev pub are_rows_within : QueuedRows → QueuedRows → Bool
are_rows_within s AnyRows = true
are_rows_within NoRows NoRows = true
are_rows_within NoRows (SomeRows kind ps e) = true
are_rows_within NoRows (SomeReads qs some e) = are_planes_within some no_planes
are_rows_within (SomeRows erase planes d) (SomeRows kind ps e) = same_test erase kind && (are_planes_within planes ps && same_drift_as d e)
are_rows_within (SomeReads planes surely d) (SomeReads qs some e) = are_planes_within some surely && (are_planes_within planes qs && same_drift_as d e)
are_rows_within _ _ = false

abbrev pub are_copies_within : Copies → Copies → Bool
are_copies_within s t =
    are_planes_within t.even s.even && (are_planes_within t.odd s.odd && (may_within t.copying s.copying && (may_within t.keeps s.keeps && may_within s.holds t.holds)))

abbrev pub is_lun_within : KnownLun → KnownLun → Bool
is_lun_within s t =
    may_within s.busy t.busy && (is_register_within s.register t.register && (is_output_within s.column t.column && (are_rows_within s.queue t.queue
    && (has s.last.0 t.last.0 && (is_span_within s.cached.index t.cached.index && (is_span_within s.cached.page t.cached.page
    && (are_planes_within t.held s.held && (are_planes_within t.array s.array && (are_copies_within s.copies t.copies
    && may_within s.programming t.programming)))))))))

-- the first claims at least what the second claims
unfoldable pub is_state_within : State → State → Bool
is_state_within s t = are_registers_within s.registers t.registers && (is_target_within s.target t.target && is_lun_within s.lun t.lun)

-- ---- 6. loops

-- a number at a place of a loop, by what it is where the loop is entered and where its turns end
abbrev pub span_in_loop : LoopPlace → Span → Span → Span
span_in_loop Head s r = span_at_head r
span_in_loop (Heads turns) s r = span_at_heads s r turns
span_in_loop (AfterTurns turns) s r = span_after_turns s r turns

-- the numbers of a state, each by what is made of those of two others
abbrev pub column_by : (Span → Span → Span) → Option Span → Option Span → Option Span
column_by f s None = None
column_by f s (Some r) = Some (f (column_number s) r)

abbrev pub output_by : (Span → Span → Span) → Option OutputColumn → Option OutputColumn → Option OutputColumn
output_by f s None = None
output_by f s (Some r) = Some (record { at = f (output_number s) r.at; read = r.read })

-- what doesn't grow is as the last turn left it
abbrev pub state_by : (Span → Span → Span) → State → State → State
state_by f s r =
    record {
      registers = record {
        column = f s.registers.column r.registers.column;
        planes = r.registers.planes;
        index = f s.registers.index r.registers.index;
        page = r.registers.page;
        place = f s.registers.place r.registers.place;
        cost = f s.registers.cost r.registers.cost;
        polled = r.registers.polled;
      };
      target = record {
        tail = r.target.tail;
        column = column_by f s.target.column r.target.column;
        named = r.target.named;
        shows = r.target.shows;
      };
      lun = record {
        busy = r.lun.busy;
        register = r.lun.register;
        column = output_by f s.lun.column r.lun.column;
        queue = r.lun.queue;
        last = r.lun.last;
        cached = record { index = f s.lun.cached.index r.lun.cached.index; page = f s.lun.cached.page r.lun.cached.page };
        held = r.lun.held;
        array = r.lun.array;
        copies = r.lun.copies;
        programming = r.lun.programming;
      };
    }

unfoldable pub state_at_head : State → State
state_at_head s = state_by (λ x y. span_at_head y) s s

unfoldable pub state_at_heads : State → State → ℕ → State
state_at_heads s r turns = state_by (λ x y. span_at_heads x y turns) s r

unfoldable pub state_after_turns : State → State → ℕ → State
state_after_turns s r turns = state_by (λ x y. span_after_turns x y turns) s r

-- ---- 7. the machine

unfoldable pub state_step : Parts → Bounds → State → Word → Option State
state_step g b s word = if is_none (reason_against g b s word) then Some (state_after g s word) else None

abbrev pub machine : Parts → Bounds → Machine
machine g b = record {
  State = State;
  first = first_state;
  step = state_step g b;
  polled = λ s. s.registers.polled;
  within = is_state_within;
  head = state_at_head;
  heads = state_at_heads;
  after = state_after_turns;
}
