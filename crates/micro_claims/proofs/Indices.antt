-- Words that move the index register are sound.
use Rattle.std.proofs.Math.Nat.{min-le_left, min-le_right}
use Rattle.std.proofs.Common.{◌≡◌, ℕ, zero, suc, ◌+◌, ◌*◌, ◌/◌, ◌-◌, ◌%◌, ◌≤◌, ◌<◌, ◌==◌, Bool, true, false, ◌&&◌, cond, ltb, nat_le, List, [], ◌∷◌, Option, Some, None, refl, ap, ◌∙◌, arith, eqb-true, min}
use Rattle.std.proofs.lemmas.Bool.Decides.{nat_tests}
use Rattle.std.proofs.lemmas.Nat.{mod_below}
use Rattle.std.proofs.Math.Nat.{div-add-mod, mul-add-mod_self_left}
use Rattle.std.proofs.lemmas.Bool.{and_parts}
use Rattle.nand_geometry.specs.declared.parts.Parts.{Parts}
use Rattle.onfi_cycle.specs.declared.item.Item.{Item}
use Rattle.onfi_cycle.specs.declared.queued.Queued.{Queued}
use Rattle.onfi_cycle.specs.declared.tail_facts.TailFacts.{TailFacts}
use Rattle.onfi_cycle.specs.Lun.{is_queued_read}
use Rattle.onfi_cycle.specs.LunView.{LunView}
use Rattle.onfi_cycle.specs.Channel.{Channel}
use Rattle.micro_word.specs.declared.word.Word.TheVariants.{RowAdd, Row}
use Rattle.micro_program.specs.Lines.{Line}
use Rattle.micro_program.specs.Program.{Job, Done, index_now, cost_now}
use Rattle.micro_claims.specs.Spans.{only, only_of, greatest_bound}
use Rattle.micro_claims.specs.Planes.{Planes}
use Rattle.micro_claims.specs.State.{State, KnownTarget, KnownLun, PageRange, NamedRow, Drift, QueuedRows, NoRows, SomeRows, SomeReads, AnyRows, bounds_of}
use Rattle.micro_claims.specs.Against.{is_inside_address}
use Rattle.micro_claims.specs.Reasons.{breaks_address_unaligned}
use Rattle.micro_claims.specs.Leaves.{drift_more, drift_set, and_drift, rows_at, reads_at, named_moved, rows_moved, page_plus, drift_of}
use Rattle.micro_claims.specs.Accepts.{state_after, accepts}
use Rattle.micro_program.proofs.Scenes.{Scene, IsScene}
use Rattle.micro_claims.proofs.Fits.{Below, InRange, Address, Now, now_of, DriftFits, NameFits, TailFits, is_of_kind, RowFits, AllFit, RowsFit, LunFits, Fits}
use Rattle.micro_claims.proofs.Numbers.{below_cost, in_exactly, in_plus}
use Rattle.micro_claims.proofs.Tails.{no_place, none_held}
use Rattle.micro_claims.proofs.Sounding.{KnownJob, NoReasons, within_budget, SoundWord}
use Rattle.micro_claims.proofs.Settings.{loop_like}
use Rattle.micro_claims.proofs.NamesNow.{over_page}
use Rattle.micro_claims.proofs.CopiedPages.{moved_copies_fit}
use Rattle.micro_claims.specs.Copies.{no_distance, parity_of, copies_moved}

-- 1. what is said of rows by their distance

-- the distances move with the register
abbrev MovesDrifts : ℕ → ℕ → (Drift → Option Drift) → Type 0
MovesDrifts old new move = (d : Drift) (index : ℕ) → old + d.behind ≡ index + d.ahead → DriftFits new index (move d)

drift_fits : (old new : ℕ) (move : Drift → Option Drift) (index : ℕ) (o : Option Drift) → MovesDrifts old new move → DriftFits old index o → DriftFits new index (and_drift o move)
drift_fits old new move index None moves f = tt
drift_fits old new move index (Some d) moves f = moves d index f

name_fits : (g : Parts) (j : Job) (a : Address) (old new : ℕ) (move : Drift → Option Drift) (o : Option NamedRow) → MovesDrifts old new move → NameFits g j a old o → NameFits g j a new (named_moved move o)
name_fits g j a old new move None moves f = tt
name_fits g j a old new move (Some n) moves f =
    record { over = f.over; over_is = f.over_is; index = f.index; plane = f.plane; page = f.page; drift = drift_fits old new move a.index n.drift moves f.drift }

-- of each row of a kind the distance moves
each_fits : (g : Parts) (old new : ℕ) (kind : Queued → Bool) (planes : Planes) (d e : Drift) → ((i : ℕ) → old + d.behind ≡ i + d.ahead → DriftFits new i (Some e)) → (qs : List Queued) → AllFit (RowFits g old kind planes d) qs → AllFit (RowFits g new kind planes e) qs
each_fits g old new kind planes d e m [] f = tt
each_fits g old new kind planes d e m (q ∷ qs) f = (record { kind = f.0.kind; index = f.0.index; plane = f.0.plane; low = f.0.low; page = f.0.page; block = f.0.block; among = f.0.among; drift = m f.0.index f.0.drift }, each_fits g old new kind planes d e m qs f.1)

rows_fit : (g : Parts) (old new : ℕ) (move : Drift → Option Drift) (q : QueuedRows) (queue : List Queued) → MovesDrifts old new move → RowsFit g old q queue → RowsFit g new (rows_moved move q) queue
rows_fit g old new move NoRows queue moves f = f
rows_fit g old new move AnyRows queue moves f = tt
rows_fit g old new move (SomeRows erase planes d) queue moves f = at (move d) (λ i e. moves d i e)
  where
    at : (o : Option Drift) → ((i : ℕ) → old + d.behind ≡ i + d.ahead → DriftFits new i o) → RowsFit g new (rows_at erase planes o) queue
    at None m = tt
    at (Some e) m = each_fits g old new (is_of_kind erase) planes d e m queue f
rows_fit g old new move (SomeReads planes surely d) queue moves f = at (move d) (λ i e. moves d i e)
  where
    at : (o : Option Drift) → ((i : ℕ) → old + d.behind ≡ i + d.ahead → DriftFits new i o) → RowsFit g new (reads_at planes surely o) queue
    at None m = tt
    at (Some e) m = record { declared = f.declared; all = each_fits g old new is_queued_read planes d e m queue f.all; few = f.few; pages = f.pages }

-- the rest of a claim where the index register moves
tail_moved : (g : Parts) (j : Job) (v : KnownTarget) (n m : Now) (move : Drift → Option Drift) (t : TailFacts) → is_inside_address v.tail ≡ false → MovesDrifts n.index m.index move → TailFits g j v n t → TailFits g j (record v { named = named_moved move v.named }) m t
tail_moved g j v n m move t none moves f =
    let apart = no_place is_inside_address v.tail f.place none f.here in
    record {
      place = f.place;
      here = f.here;
      address = f.address;
      is = f.is;
      now = λ e. none_held f.place apart e;
      column = f.column;
      row = f.row;
      named = λ e. name_fits g j f.address n.index m.index move v.named moves (f.named e);
      single = f.single;
    }

lun_moved : (g : Parts) (j : Job) (l : KnownLun) (old new : ℕ) (move : Drift → Option Drift) (view : LunView) → MovesDrifts old new move → LunFits g j l old view → LunFits g j (record l { queue = rows_moved move l.queue; copies = copies_moved (parity_of g.pages (move no_distance)) l.copies }) new view
lun_moved g j l old new move view moves f =
    record { ready = f.ready; register = f.register; column = f.column; queue = rows_fit g old new move l.queue view.queue moves f.queue; last = f.last; cached = f.cached; held = f.held; planes = f.planes; array = f.array; copies = moved_copies_fit g l.copies l.held old new (move no_distance) view.closer view.held (moves no_distance old refl) f.copies; programming = f.programming }

-- 2. rowadd

-- what is taken off both sides leaves the distance
drift_of_fits : (now index ahead behind : ℕ) → now + behind ≡ index + ahead → DriftFits now index (drift_of ahead behind)
drift_of_fits now index ahead behind e = at (nat_le ahead greatest_bound && nat_le behind greatest_bound)
  where
    at : (b : Bool) → DriftFits now index (cond b (Some (record { ahead = ahead - min ahead behind; behind = behind - min ahead behind })) None)
    at true = let low = min-le_left ahead behind in let other = min-le_right ahead behind in omega (arith, e, low, other)
    at false = tt

more_moves : (old n : ℕ) → MovesDrifts old (old + n) (drift_more n)
more_moves old n d index e = drift_of_fits (old + n) index (d.ahead + n) d.behind (omega (arith, e))

pub mod_more : (p a n : ℕ) → (a + n) % p ≡ (a % p + n) % p
mod_more p a n =
    let parts = div-add-mod a p in
    let is : a + n ≡ p * (a / p) + (a % p + n) = omega (arith, parts) in
    ap (λ (m : ℕ). m % p) is ∙ mul-add-mod_self_left p (a / p) (a % p + n)

pub mod_both : (p a n : ℕ) → (a + n) % p ≡ (a % p + n % p) % p
mod_both p a n =
    let swap : a % p + n ≡ n + a % p = omega arith in
    let back : n % p + a % p ≡ a % p + n % p = omega arith in
    mod_more p a n ∙ (ap (λ (m : ℕ). m % p) swap ∙ (mod_more p n (a % p) ∙ ap (λ (m : ℕ). m % p) back))

pub mod_small : (p n : ℕ) → n < p → n % p ≡ n
mod_small p n h =
    let parts = div-add-mod n p in
    let none : n / p ≡ 0 = zero_quotient (n / p) parts in
    let gone : p * (n / p) ≡ 0 = ap (λ (m : ℕ). p * m) none ∙ omega arith in
    omega (arith, parts, gone)
  where
    zero_quotient : (q : ℕ) → p * q + n % p ≡ n → q ≡ 0
    zero_quotient zero e = refl
    zero_quotient (suc q) e = let big : p * suc q ≡ p + p * q = omega arith in absurd (omega (arith, h, e, big))

page_more : (p index n : ℕ) (r : PageRange) → 0 < p → InRange (index % p) r → InRange ((index + n) % p) (page_plus p n r)
page_more p index n r some f = at (r.lo == r.hi) refl
  where
    least : r.lo ≤ index % p
    least = f.least

    most : index % p ≤ r.hi
    most = f.most

    low : (index + n) % p < p
    low = mod_below (index + n) p some

    within : (b : Bool) → (nat_le r.lo r.hi && ltb (r.hi + n % p) p) ≡ b → InRange ((index + n) % p) (cond b (record { lo = r.lo + n % p; hi = r.hi + n % p }) (record { lo = 0; hi = p - 1 }))
    within true e =
        let small = (and_parts (nat_le r.lo r.hi) (ltb (r.hi + n % p) p) e).1 in
        let fits : index % p + n % p < p = grind (arith, nat_tests, small, most) in
        let is = mod_both p index n ∙ mod_small p (index % p + n % p) fits in
        record { least = omega (arith, is, least); most = omega (arith, is, most) }
    within false e = record { least = omega arith; most = omega (arith, low) }

    at : (b : Bool) → (r.lo == r.hi) ≡ b → InRange ((index + n) % p) (cond b (record { lo = (r.lo + n) % p; hi = (r.lo + n) % p }) (cond (nat_le r.lo r.hi && ltb (r.hi + n % p) p) (record { lo = r.lo + n % p; hi = r.hi + n % p }) (record { lo = 0; hi = p - 1 })))
    at true e =
        let same = eqb-true r.lo r.hi e in
        let exact : index % p ≡ r.lo = omega (arith, same, least, most) in
        let is : (index + n) % p ≡ (r.lo + n) % p = mod_more p index n ∙ ap (λ (m : ℕ). (m + n) % p) exact in
        record { least = omega (arith, is); most = omega (arith, is) }
    at false e = within (nat_le r.lo r.hi && ltb (r.hi + n % p) p) refl

pub sound_rowadd : (s : Channel) (j : Job) (k : KnownJob s j) (v : State) (past : List Item) (c : Scene) (done : List Done) (rest : List Line) (at n : ℕ) → IsScene s j.lun past c → Fits s.geometry j v done c true → NoReasons s.geometry j.text v (RowAdd n) → accepts s.geometry (bounds_of j.text) None (state_after s.geometry v (RowAdd n)) rest ≡ true → SoundWord s j past done rest at (RowAdd n)
unfolding state_after breaks_address_unaligned
sound_rowadd s j k v past c done rest at n scene f clear acc =
    loop_like s j k v past c done rest at (RowAdd n) refl refl refl scene f.registers clear
    (λ answer. record {
      registers = record {
        column = f.registers.column;
        plane = f.registers.plane;
        over = f.registers.over + n;
        over_is = let is = f.registers.over_is in omega (arith, is);
        index = in_plus f.registers.over n v.registers.index f.registers.index;
        page = λ base. page_more s.geometry.pages (index_now j.base done) n v.registers.page (let x = k.limits.pages_least in omega (arith, x)) (f.registers.page base);
        place = f.registers.place;
        cost = below_cost (cost_now s.geometry done) v.registers.cost 0 f.registers.cost;
        within = within_budget s.geometry j v done (RowAdd n) f.registers clear;
      };
      tail = λ e. tail_moved s.geometry j v.target (now_of j done) (now_of j (record { word = RowAdd n; answer = answer } ∷ done)) (drift_more n) c.facts clear.no_address_unaligned (more_moves (index_now j.base done) n) (f.tail refl);
      free = λ e. cc;
      shows = f.shows;
      lun = lun_moved s.geometry j v.lun (index_now j.base done) (index_now j.base done + n) (drift_more n) c.view (more_moves (index_now j.base done) n) f.lun;
    })
    acc

-- 3. row

pub only_is : (over lo : ℕ) (hi : Option ℕ) (from : ℕ) → lo ≤ over → Below over hi → only_of lo hi ≡ Some from → over ≡ from
only_is over lo None from low high e = cc
only_is over lo (Some hi) from low high e = at (lo == hi) refl e
  where
    at : (b : Bool) → (lo == hi) ≡ b → cond b (Some lo) None ≡ Some from → over ≡ from
    at true f e = let same = eqb-true lo hi f in let is : lo ≡ from = cc in omega (arith, same, is, low, high)
    at false f e = cc

set_moves : (base over n : ℕ) (o : Option ℕ) → ((from : ℕ) → o ≡ Some from → over ≡ from) → (old : ℕ) → old ≡ base + over → MovesDrifts old (base + n) (drift_set o n)
set_moves base over n None known old is d index e = tt
set_moves base over n (Some from) known old is d index e =
    let same : over ≡ from = known from refl in
    drift_of_fits (base + n) index (d.ahead + n) (d.behind + from) (omega (arith, e, is, same))

pub sound_row : (s : Channel) (j : Job) (k : KnownJob s j) (v : State) (past : List Item) (c : Scene) (done : List Done) (rest : List Line) (at n : ℕ) → IsScene s j.lun past c → Fits s.geometry j v done c true → NoReasons s.geometry j.text v (Row n) → accepts s.geometry (bounds_of j.text) None (state_after s.geometry v (Row n)) rest ≡ true → SoundWord s j past done rest at (Row n)
unfolding state_after breaks_address_unaligned
sound_row s j k v past c done rest at n scene f clear acc =
    let moves = set_moves j.base f.registers.over n (only v.registers.index) (λ from e. only_is f.registers.over v.registers.index.lo v.registers.index.hi from f.registers.index.least f.registers.index.most e) (index_now j.base done) f.registers.over_is in
    loop_like s j k v past c done rest at (Row n) refl refl refl scene f.registers clear
    (λ answer. record {
      registers = record {
        column = f.registers.column;
        plane = f.registers.plane;
        over = n;
        over_is = refl;
        index = in_exactly n;
        page = λ base. let is = over_page s.geometry.pages j.base n base in record { least = omega (arith, is); most = omega (arith, is) };
        place = f.registers.place;
        cost = below_cost (cost_now s.geometry done) v.registers.cost 0 f.registers.cost;
        within = within_budget s.geometry j v done (Row n) f.registers clear;
      };
      tail = λ e. tail_moved s.geometry j v.target (now_of j done) (now_of j (record { word = Row n; answer = answer } ∷ done)) (drift_set (only v.registers.index) n) c.facts clear.no_address_unaligned moves (f.tail refl);
      free = λ e. cc;
      shows = f.shows;
      lun = lun_moved s.geometry j v.lun (index_now j.base done) (j.base + n) (drift_set (only v.registers.index) n) c.view moves f.lun;
    })
    acc
