-- What matters of the states in which ways through plain operations end, in a turn of a loop.
use Rattle.std.proofs.Common.{◌≡◌, ℕ, ◌+◌, ◌%◌, ◌^◌, ◌≤◌, ◌<◌, Bool, true, false, ◌&&◌, ◌||◌, cond, min, max, List, [], ◌∷◌, ◌++◌, Option, Some, None, refl, sym, ap, ap₂, ◌∙◌, subst, arith}
use Rattle.std.proofs.lemmas.Bool.Decides.{nat_tests}
use Rattle.nand_geometry.specs.declared.parts.Parts.{Parts}
use Rattle.nand_geometry.specs.Limits.{InLimits}
use Rattle.micro_word.specs.declared.word.Word.{Word}
use Rattle.micro_claims.specs.Spans.{Span}
use Rattle.micro_claims.specs.declared.growth.Growth.{Growth}
use Rattle.micro_claims.specs.declared.planes.Planes.{Planes}
use Rattle.micro_claims.specs.declared.page_range.PageRange.{PageRange}
use Rattle.micro_claims.specs.declared.shown.Shown.{Shown}
use Rattle.micro_claims.specs.declared.held.Held.{Held}
use Rattle.micro_claims.specs.declared.output_column.OutputColumn.{OutputColumn}
use Rattle.micro_claims.specs.declared.cached_page.CachedPage.{CachedPage}
use Rattle.micro_claims.specs.declared.state.State.{State}
use Rattle.micro_claims.specs.declared.bounds.Bounds.{Bounds}
use Rattle.micro_claims.specs.Planes.{just_plane, either_plane, common_planes}
use Rattle.micro_claims.specs.Order.{no_growth}
use Rattle.micro_claims.specs.Joins.{joined, joined_span, joined_growth, joined_pages, both_know, joined_shown, joined_held, joined_output, joined_closer, joined_cached, joined_copies}
use Rattle.micro_walk.specs.Faults.{met}
use Rattle.micro_verify.specs.declared.plain_op.PlainOp.{PlainOp}
use Rattle.micro_verify.specs.declared.plain_op.PlainOp.TheVariants.{Read, Program, Erase}
use Rattle.micro_verify.specs.Plain.{operation_words, rows_of, buffer_of, budget_of}
use Rattle.micro_verify.proofs.PlainInsides.{AllInside, row_fits, part_fits, few_planes, short_page, plane_below, rows_parts, buffer_parts}
use Rattle.micro_verify.proofs.PlainOperations.{closer_of}
use Rattle.looped_plain.proofs.Walks.{is_placed, ended}
use Rattle.looped_plain.proofs.Operations.{known, page_of, resting, read_ends, program_ends, erase_ends}
use Rattle.micro_claims.specs.declared.copies.Copies.{Copies}

-- ---- ways

-- the most that a register may hold, and whether a way has set it in this turn
pub record Number : Type 0 where
  pub most : ℕ
  pub set : Bool

pub record Way : Type 0 where
  pub column : Number
  pub index : Number
  pub place : Number
  pub planes : Planes
  pub page : ℕ
  -- what this turn has paid
  pub paid : ℕ

abbrev pub set_to : ℕ → Number
set_to n = record { most = n; set = true }

abbrev pub joined_number : Number → Number → Number
joined_number m n = record { most = max m.most n.most; set = m.set || n.set }

abbrev pub joined_way : Way → Way → Way
joined_way v w =
    record {
      column = joined_number v.column w.column;
      index = joined_number v.index w.index;
      place = joined_number v.place w.place;
      planes = either_plane v.planes w.planes;
      page = max v.page w.page;
      paid = max v.paid w.paid;
    }

abbrev pub met_way : Option Way → Way → Way
met_way None w = w
met_way (Some v) w = joined_way v w

-- behind an operation
abbrev pub way_behind : Parts → PlainOp → Way → Way
way_behind g (Read row plane column place len) w = record { column = set_to column; index = set_to row; place = set_to (place + len); planes = just_plane plane; page = row % g.pages; paid = w.paid + 1 + 5 + 1 + 1 + len }
way_behind g (Program row plane column place len) w = record { column = set_to column; index = set_to row; place = set_to (place + len); planes = just_plane plane; page = row % g.pages; paid = w.paid + 1 + 5 + len + 1 }
way_behind g (Erase row plane) w = record { column = w.column; index = set_to row; place = w.place; planes = just_plane plane; page = row % g.pages; paid = w.paid + 1 + 3 + 1 }

-- a read has no branch
abbrev pub led_away : PlainOp → Option Way → Way → Option Way
led_away (Read row plane column place len) f v = f
led_away (Program row plane column place len) f v = Some (met_way f v)
led_away (Erase row plane) f v = Some (met_way f v)

-- what all ways come to behind the operations
abbrev pub way_of : Parts → Way → Option Way → List PlainOp → Way
way_of g w f [] = met_way f w
way_of g w f (op ∷ ops) = way_of g (way_behind g op w) (led_away op f (way_behind g op w)) ops

-- ---- states

abbrev pub grown_of : Bool → Option Growth
grown_of set = cond set None (Some no_growth)

pub record NumberIs (s : Span) (n : Number) : Type 0 where
  pub hi : s.hi ≡ Some n.most
  pub grown : s.grown ≡ grown_of n.set

-- a state at rest, so much being paid in all
pub record Rests (total : ℕ) (w : Way) (s : State) : Type 0 where
  pub column : Span
  pub index : Span
  pub page : PageRange
  pub place : Span
  pub least : ℕ
  pub growth : ℕ
  pub polled : Bool
  pub shows : Option Shown
  pub register : Option Held
  pub output : Option OutputColumn
  pub read : Bool
  pub other : Bool
  pub cached : CachedPage
  pub held : Planes
  pub array : Planes
  pub copies : Copies
  pub is : s ≡ resting column w.planes index page place least growth polled shows register output read other cached held array copies total w.paid
  pub column_is : NumberIs column w.column
  pub index_is : NumberIs index w.index
  pub place_is : NumberIs place w.place
  pub page_is : page.hi ≡ w.page

known_is : (n : ℕ) → NumberIs (known n) (set_to n)
known_is n = record { hi = refl; grown = refl }

-- ---- ways that meet

joined_grown : (a b : Bool) → joined_growth (grown_of a) (grown_of b) ≡ grown_of (a || b)
joined_grown true true = refl
joined_grown true false = refl
joined_grown false true = refl
joined_grown false false = refl

joined_is : (s t : Span) (m n : Number) → NumberIs s m → NumberIs t n → NumberIs (joined_span s t) (joined_number m n)
joined_is s t m n a b =
    record {
      hi = rw (a.hi, b.hi) refl;
      grown = ap₂ joined_growth a.grown b.grown ∙ joined_grown m.set n.set;
    }

closers : (a b c d : Bool) → joined_closer (closer_of a b) (closer_of c d) ≡ closer_of (a || c) (b || d)
closers true true true true = refl
closers true true true false = refl
closers true true false true = refl
closers true true false false = refl
closers true false true true = refl
closers true false true false = refl
closers true false false true = refl
closers true false false false = refl
closers false true true true = refl
closers false true true false = refl
closers false true false true = refl
closers false true false false = refl
closers false false true true = refl
closers false false true false = refl
closers false false false true = refl
closers false false false false = refl

pub rests_joined : (t u : ℕ) (v w : Way) (q s : State) → Rests t v q → Rests u w s → Rests (max t u) (joined_way v w) (joined q s)
unfolding joined
rests_joined t u v w q s a b =
    record {
      column = joined_span a.column b.column;
      index = joined_span a.index b.index;
      page = joined_pages a.page b.page;
      place = joined_span a.place b.place;
      least = min a.least b.least;
      growth = min a.growth b.growth;
      polled = a.polled && b.polled;
      shows = both_know joined_shown a.shows b.shows;
      register = both_know joined_held a.register b.register;
      output = both_know joined_output a.output b.output;
      read = a.read || b.read;
      other = a.other || b.other;
      cached = joined_cached a.cached b.cached;
      held = common_planes a.held b.held;
      array = common_planes a.array b.array;
      copies = joined_copies a.copies b.copies;
      is = ap₂ joined a.is b.is ∙ rw (closers a.read a.other b.read b.other) refl;
      column_is = joined_is a.column b.column v.column w.column a.column_is b.column_is;
      index_is = joined_is a.index b.index v.index w.index a.index_is b.index_is;
      place_is = joined_is a.place b.place v.place w.place a.place_is b.place_is;
      page_is = ap₂ max a.page_is b.page_is;
    }

-- ---- the walk over operations

-- what was claimed behind the words before, in a turn in front of which so much was paid
abbrev pub Meets : (before : ℕ) → Option State → Option Way → Type 0
Meets before None None = Unit {0}
Meets before None (Some w) = ⊥
Meets before (Some s) None = ⊥
Meets before (Some s) (Some w) = Rests (before + w.paid) w s

greater_sum : (a m n : ℕ) → max (a + m) (a + n) ≡ a + max m n
greater_sum a m n = grind (arith, nat_tests)

met_rests : (before : ℕ) (f : Option State) (h : Option Way) (w : Way) (s : State) → Meets before f h → Rests (before + w.paid) w s → Rests (before + (met_way h w).paid) (met_way h w) (met f s)
met_rests before None None w s m d = d
met_rests before None (Some v) w s m d = absurd m
met_rests before (Some q) None w s m d = absurd m
met_rests before (Some q) (Some v) w s m d = subst (λ (n : ℕ). Rests n (joined_way v w) (joined q s)) (greater_sum before v.paid w.paid) (rests_joined (before + v.paid) (before + w.paid) v w q s m d)

pub rests_at : (w : Way) (column index : Span) (page : PageRange) (place : Span) (least growth : ℕ) (polled : Bool) (shows : Option Shown) (register : Option Held) (output : Option OutputColumn) (read other : Bool) (cached : CachedPage) (held array : Planes) (copies : Copies) (total t : ℕ)
    → t ≡ total → NumberIs column w.column → NumberIs index w.index → NumberIs place w.place → page.hi ≡ w.page
    → Rests total w (resting column w.planes index page place least growth polled shows register output read other cached held array copies t w.paid)
rests_at w column index page place least growth polled shows register output read other cached held array copies total t e c i p pg =
    record {
      column = column;
      index = index;
      page = page;
      place = place;
      least = least;
      growth = growth;
      polled = polled;
      shows = shows;
      register = register;
      output = output;
      read = read;
      other = other;
      cached = cached;
      held = held;
      array = array;
      copies = copies;
      is = ap (λ (n : ℕ). resting column w.planes index page place least growth polled shows register output read other cached held array copies n w.paid) e;
      column_is = c;
      index_is = i;
      place_is = p;
      page_is = pg;
    }

-- the bounds of a text that operations stay in, with so many cycles paid
pub record Bounded (b : Bounds) (paid : ℕ) (ops : List PlainOp) : Type 0 where
  pub rows : rows_of ops ≤ b.rows
  pub few_rows : b.rows ≤ 4096
  pub buffer : buffer_of ops ≤ b.buffer
  pub short_buffer : b.buffer ≤ 16777215
  pub budget : paid + budget_of ops ≤ b.budget
  pub small_budget : b.budget < 2 ^ 32

behind : (b : Bounds) (paid later : ℕ) (op : PlainOp) (ops : List PlainOp) → Bounded b paid (op ∷ ops) → later + budget_of ops ≤ b.budget → Bounded b later ops
behind b paid later op ops d h =
    record {
      rows = (rows_parts op ops b.rows d.rows).1;
      few_rows = d.few_rows;
      buffer = (buffer_parts op ops b.buffer d.buffer).1;
      short_buffer = d.short_buffer;
      budget = h;
      small_budget = d.small_budget;
    }

-- the words of the operations alone
abbrev pub body : (failure : ℕ) → List PlainOp → List Word
body failure [] = []
body failure (op ∷ ops) = operation_words failure op ++ body failure ops

-- all ways end in a state at rest
abbrev pub EndsAt : (before : ℕ) → Way → Option State → Type 0
EndsAt before w o = (r : State) × (o ≡ Some r) × Rests (before + w.paid) w r

pub runs : (g : Parts) → InLimits g → (b : Bounds) (failure before : ℕ) (ops : List PlainOp) (w : Way) (s : State) (f : Option State) (h : Option Way) → AllInside g ops → Bounded b (before + w.paid) ops → Rests (before + w.paid) w s → Meets before f h → EndsAt before (way_of g w h ops) (ended g b s f (body failure ops))
runs g l b failure before [] w s f h inside d r m =
    let placed : is_placed s ≡ true = ap is_placed r.is in
    (met f s, ap (λ (t : Bool). cond t (Some (met f s)) None) placed, met_rests before f h w s m r)
runs g l b failure before (Read row plane column place len ∷ ops) w s f h inside d r m =
    let fits = part_fits g row plane column place len inside.0 in
    let there = fits.0.plane_there in
    let few = few_planes g l in
    let budget = d.budget in
    let op = Read row plane column place len in
    let v = way_behind g op w in
    let P : Option State → Type 0 = EndsAt before (way_of g v h ops) in
    let same : before + w.paid + 1 + 5 + 1 + 1 + len ≡ before + v.paid = omega arith in
    subst (λ (x : State). P (ended g b x f (body failure (op ∷ ops)))) (sym r.is)
    (read_ends g b P f row plane column place len (before + w.paid) w.paid (body failure ops)
    (omega (arith, there, few)) (plane_below _ plane there) (rows_parts op ops b.rows d.rows).0 d.few_rows
    fits.1.some fits.1.page (short_page g l) (buffer_parts op ops b.buffer d.buffer).0 d.short_buffer (omega (arith, budget)) d.small_budget (omega arith)
    (λ least growth shows register output cached held array copies.
    runs g l b failure before ops v _ f h inside.1 (behind b (before + w.paid) (before + v.paid) op ops d (omega (arith, budget)))
    (rests_at v (known column) (known row) (page_of g row) (known (place + len)) least growth true shows register output true false cached held array copies (before + v.paid) _ same (known_is column) (known_is row) (known_is (place + len)) refl) m)
    r.column w.planes r.index r.page r.place r.least r.growth r.polled r.shows r.register r.output r.read r.other r.cached r.held r.array r.copies)
runs g l b failure before (Program row plane column place len ∷ ops) w s f h inside d r m =
    let fits = part_fits g row plane column place len inside.0 in
    let there = fits.0.plane_there in
    let few = few_planes g l in
    let budget = d.budget in
    let op = Program row plane column place len in
    let v = way_behind g op w in
    let P : Option State → Type 0 = EndsAt before (way_of g v (Some (met_way h v)) ops) in
    let same : before + w.paid + 1 + 5 + len + 1 ≡ before + v.paid = omega arith in
    subst (λ (x : State). P (ended g b x f (body failure (op ∷ ops)))) (sym r.is)
    (program_ends g b P f row plane column place len (before + w.paid) w.paid failure (body failure ops)
    (omega (arith, there, few)) (plane_below _ plane there) (rows_parts op ops b.rows d.rows).0 d.few_rows
    fits.1.some fits.1.page (short_page g l) (buffer_parts op ops b.buffer d.buffer).0 d.short_buffer (omega (arith, budget)) d.small_budget (omega arith)
    (λ least growth shows register output cached held array copies.
    (let rest : Rests (before + v.paid) v _ = rests_at v (known column) (known row) (page_of g row) (known (place + len)) least growth true shows register output false true cached held array copies (before + v.paid) (before + w.paid + 1 + 5 + len + 1) same (known_is column) (known_is row) (known_is (place + len)) refl in
    runs g l b failure before ops v _ (Some (met f _)) (Some (met_way h v)) inside.1 (behind b (before + w.paid) (before + v.paid) op ops d (omega (arith, budget))) rest (met_rests before f h v _ m rest)))
    r.column w.planes r.index r.page r.place r.least r.growth r.polled r.shows r.register r.output r.read r.other r.cached r.held r.array r.copies)
runs g l b failure before (Erase row plane ∷ ops) w s f h inside d r m =
    let fits = row_fits g row plane inside.0 in
    let there = fits.plane_there in
    let few = few_planes g l in
    let budget = d.budget in
    let op = Erase row plane in
    let v = way_behind g op w in
    let P : Option State → Type 0 = EndsAt before (way_of g v (Some (met_way h v)) ops) in
    let same : before + w.paid + 1 + 3 + 1 ≡ before + v.paid = omega arith in
    subst (λ (x : State). P (ended g b x f (body failure (op ∷ ops)))) (sym r.is)
    (erase_ends g b P f row plane (before + w.paid) w.paid failure (body failure ops)
    (omega (arith, there, few)) (plane_below _ plane there) (rows_parts op ops b.rows d.rows).0 d.few_rows (omega (arith, budget)) d.small_budget (omega arith)
    r.column r.place
    (λ least growth shows register output cached held array copies.
    (let rest : Rests (before + v.paid) v _ = rests_at v r.column (known row) (page_of g row) r.place least growth true shows register output false true cached held array copies (before + v.paid) (before + w.paid + 1 + 3 + 1) same r.column_is (known_is row) r.place_is refl in
    runs g l b failure before ops v _ (Some (met f _)) (Some (met_way h v)) inside.1 (behind b (before + w.paid) (before + v.paid) op ops d (omega (arith, budget))) rest (met_rests before f h v _ m rest)))
    w.planes r.index r.page r.least r.growth r.polled r.shows r.register r.output r.read r.other r.cached r.held r.array r.copies)
