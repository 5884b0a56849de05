-- The end and the beginning of work: who is at work where afterwards.
use Rattle.std.proofs.Common.{◌≡◌, ◌⊎◌, inl, inr, ℕ, ◌<◌, ◌==◌, Bool, true, false, ◌&&◌, cond, List, Option, Some, None, is_some, refl, sym, ap, ◌∙◌, subst, arith, slice_set, eq-eqb, ne_eqb, eqb-true}
use Rattle.std.specs.Prelude.{slice_get}
use Rattle.std.proofs.lemmas.Option.{slice_get_within}
use Rattle.std.proofs.lemmas.Bool.{false_from_ne_true}
use Rattle.std.proofs.lemmas.List.{length-set}
use Rattle.onfi_cycle.proofs.Booleans.{clash}
use Rattle.trace_ops.specs.declared.change.Change.{Change}
use Rattle.trace_ops.specs.declared.change.Change.TheVariants.{End, Begin}
use Rattle.trace_ops.specs.declared.judged.Judged.{Judged}
use Rattle.trace_ops.specs.declared.operation.Ending.{Ending}
use Rattle.trace_ops.specs.declared.operation.Ending.TheVariants as ends
use Rattle.trace_ops.specs.declared.operation.Operation.{Operation}
use Rattle.trace_ops.specs.declared.places.Places.{Places}
use Rattle.trace_ops.specs.Operation.{changed, changed_at}
use Rattle.trace_ops.specs.Listing.{lun_place, worker, abandoned_by}
use Rattle.trace_ops.proofs.Changed.{by, there, length_changed}
use Rattle.trace_ops.proofs.Pieces.{found_same, found_other}
use Rattle.trace_ops.proofs.Spans.{same_some}
use Rattle.trace_ops.proofs.Tails.{split}
use Rattle.trace_ops.proofs.AtWork.{From, changed_from, Began, Unended, worker_in, Working, Place, Tells, tells_same}

-- ---- which LUNs are busy

-- the same, but for one LUN
abbrev pub put_at : (ℕ → ℕ → Bool) → (ce lun : ℕ) → Bool → ℕ → ℕ → Bool
put_at busy ce lun is a b = cond (a == ce && b == lun) is (busy a b)

pub put_own : (busy : ℕ → ℕ → Bool) (ce lun : ℕ) (is : Bool) → put_at busy ce lun is ce lun ≡ is
put_own busy ce lun is = rw (eq-eqb ce ce refl, eq-eqb lun lun refl) refl

pub put_other : (busy : ℕ → ℕ → Bool) (ce lun : ℕ) (is : Bool) (a b : ℕ) → ((a ≡ ce) → (b ≡ lun) → ⊥) → put_at busy ce lun is a b ≡ busy a b
put_other busy ce lun is a b apart = at (a == ce) refl (b == lun) refl
  where
    at : (x : Bool) → (a == ce) ≡ x → (y : Bool) → (b == lun) ≡ y → cond (x && y) is (busy a b) ≡ busy a b
    at true e true f = absurd (apart (eqb-true a ce e) (eqb-true b lun f))
    at true e false f = refl
    at false e y f = refl

pub same_lun : (a ce b lun : ℕ) → ((a ≡ ce) × (b ≡ lun)) ⊎ ((a ≡ ce) → (b ≡ lun) → ⊥)
same_lun a ce b lun = at (split a ce) (split b lun)
  where
    at : (a ≡ ce) ⊎ (a ≡ ce → ⊥) → (b ≡ lun) ⊎ (b ≡ lun → ⊥) → ((a ≡ ce) × (b ≡ lun)) ⊎ ((a ≡ ce) → (b ≡ lun) → ⊥)
    at (inl p) (inl q) = inl (p, q)
    at (inl p) (inr q) = inr (λ x y. q y)
    at (inr p) q = inr (λ x y. p x)

-- ---- where an operation goes, once one was changed

pub record To (m k : ℕ) (c : Change) (ops : List Operation) (o : Operation) : Type 0 where
  pub new : Operation
  pub is_there : slice_get (changed_at m c ops) k ≡ Some new
  pub is : ((k ≡ m) × (new ≡ changed c o)) ⊎ ((k ≡ m → ⊥) × (new ≡ o))

pub changed_to : (m k : ℕ) (c : Change) (ops : List Operation) (o : Operation) → slice_get ops k ≡ Some o → To m k c ops o
changed_to m k c ops o is =
    let small = slice_get_within ops k o is in
    let long = length_changed m c ops in
    let q = there (changed_at m c ops) k (omega (arith, small, long)) in
    let from = changed_from m k c ops q.0 q.1 in
    let same : from.old ≡ o = same_some (sym from.is_there ∙ is) in
    record { new = q.0; is_there = q.1; is = subst (λ (z : Operation). ((k ≡ m) × (q.0 ≡ changed c z)) ⊎ ((k ≡ m → ⊥) × (q.0 ≡ z))) same from.is }

-- ---- the end

pub ended_ce : (e : Ending) (o : Operation) → (changed (End e) o).ce ≡ o.ce
ended_ce e o = by (λ (z : Operation). z.ce) (is_some o.end) o _ o.ce refl refl

pub ended_lun : (e : Ending) (o : Operation) → (changed (End e) o).lun ≡ o.lun
ended_lun e o = by (λ (z : Operation). z.lun) (is_some o.end) o _ o.lun refl refl

pub ended_start : (e : Ending) (o : Operation) → (changed (End e) o).start ≡ o.start
ended_start e o = by (λ (z : Operation). z.start) (is_some o.end) o _ o.start refl refl

ended_some : (e : Ending) (o : Operation) → is_some (changed (End e) o).end ≡ true
ended_some e o = at (is_some o.end) refl
  where
    at : (b : Bool) → is_some o.end ≡ b → is_some (cond b o (record o { end = Some e })).end ≡ true
    at true h = h
    at false h = refl

began_ended : (m k a b : ℕ) (e : Ending) (ops : List Operation) → Began ops k a b → Began (changed_at m (End e) ops) k a b
began_ended m k a b e ops was = at to.is
  where
    to : To m k (End e) ops was.operation
    to = changed_to m k (End e) ops was.operation was.is_there

    at : ((k ≡ m) × (to.new ≡ changed (End e) was.operation)) ⊎ ((k ≡ m → ⊥) × (to.new ≡ was.operation)) → Began (changed_at m (End e) ops) k a b
    at (inl both) = record {
      operation = to.new;
      is_there = to.is_there;
      target = ap (λ (z : Operation). z.ce) both.1 ∙ ended_ce e was.operation ∙ was.target;
      on = ap (λ (z : Operation). z.lun) both.1 ∙ ended_lun e was.operation ∙ was.on;
      started = ap (λ (z : Operation). is_some z.start) both.1 ∙ ap (λ (x : Option ℕ). is_some x) (ended_start e was.operation) ∙ was.started;
    }
    at (inr other) = record {
      operation = to.new;
      is_there = to.is_there;
      target = ap (λ (z : Operation). z.ce) other.1 ∙ was.target;
      on = ap (λ (z : Operation). z.lun) other.1 ∙ was.on;
      started = ap (λ (z : Operation). is_some z.start) other.1 ∙ was.started;
    }

-- of one operation
began_one : (ops : List Operation) (k a b ce lun : ℕ) → Began ops k a b → Began ops k ce lun → (a ≡ ce) × (b ≡ lun)
began_one ops k a b ce lun p q =
    let same : p.operation ≡ q.operation = same_some (sym p.is_there ∙ q.is_there) in
    (sym p.target ∙ ap (λ (z : Operation). z.ce) same ∙ q.target, same_some (sym p.on ∙ ap (λ (z : Operation). z.lun) same ∙ q.on))

-- the worker of a LUN ends, and the LUN is busy no more
module _ (busy : ℕ → ℕ → Bool) (workers : List (Option ℕ)) (ops : List Operation) (ce lun m : ℕ) (e : Ending) (few : lun < 4) (mine : worker_in workers ce lun ≡ Some m)
    (tells : Tells busy workers ops) where
  still : ℕ → ℕ → Bool
  still = put_at busy ce lun false

  busy_before : (a b : ℕ) → put_at busy ce lun false a b ≡ true → (busy a b ≡ true) × ((a ≡ ce) → (b ≡ lun) → ⊥)
  busy_before a b h = at (same_lun a ce b lun)
    where
      at : ((a ≡ ce) × (b ≡ lun)) ⊎ ((a ≡ ce) → (b ≡ lun) → ⊥) → (busy a b ≡ true) × ((a ≡ ce) → (b ≡ lun) → ⊥)
      at (inl both) = absurd (clash (put_at busy ce lun false a b) h (ap (λ x. put_at busy ce lun false x b) both.0 ∙ ap (put_at busy ce lun false ce) both.1 ∙ put_own busy ce lun false))
      at (inr apart) = (sym (put_other busy ce lun false a b apart) ∙ h, apart)

  ended_working : (a b : ℕ) → put_at busy ce lun false a b ≡ true → Working workers (changed_at m (End e) ops) a b
  ended_working a b h = record { number = was.number; is = was.is; unended = λ o is. at o (changed_from m was.number (End e) ops o is) }
    where
      before : (busy a b ≡ true) × ((a ≡ ce) → (b ≡ lun) → ⊥)
      before = busy_before a b h

      was : Working workers ops a b
      was = tells.working a b before.0

      at : (o : Operation) → From m was.number (End e) ops o → is_some o.end ≡ false
      at o from = by_place from.is
        where
          by_place : ((was.number ≡ m) × (o ≡ changed (End e) from.old)) ⊎ ((was.number ≡ m → ⊥) × (o ≡ from.old)) → is_some o.end ≡ false
          by_place (inl both) =
              let one = began_one ops m a b ce lun (subst (λ (x : ℕ). Began ops x a b) both.0 (tells.began a b was.number (tells.small a b before.0).1 was.is)) (tells.began ce lun m few mine) in
              absurd (before.1 one.0 one.1)
          by_place (inr other) = ap (λ (z : Operation). is_some z.end) other.1 ∙ was.unended from.old from.is_there

  ended_place : (k : ℕ) (o : Operation) → is_some o.start ≡ true → is_some o.end ≡ false → From m k (End e) ops o → Place (put_at busy ce lun false) workers k o
  ended_place k o started open' from = at from.is
    where
      at : ((k ≡ m) × (o ≡ changed (End e) from.old)) ⊎ ((k ≡ m → ⊥) × (o ≡ from.old)) → Place (put_at busy ce lun false) workers k o
      at (inl both) = absurd (clash (is_some o.end) (ap (λ (z : Operation). is_some z.end) both.1 ∙ ended_some e from.old) open')
      at (inr other) =
          let was = tells.place k o (from.is_there ∙ ap Some (sym other.1)) started open' in
          let apart : (o.ce ≡ ce) → (was.lun ≡ lun) → ⊥ = λ p q. other.0 (same_some (sym was.worker ∙ ap (λ x. worker_in workers x was.lun) p ∙ ap (worker_in workers ce) q ∙ mine)) in
          record { lun = was.lun; few = was.few; is = was.is; worker = was.worker; busy = put_other busy ce lun false o.ce was.lun apart ∙ was.busy }

  ended_unended : (k : ℕ) (o : Operation) → is_some o.start ≡ false → From m k (End e) ops o → is_some o.end ≡ false
  ended_unended k o none from = at from.is
    where
      at : ((k ≡ m) × (o ≡ changed (End e) from.old)) ⊎ ((k ≡ m → ⊥) × (o ≡ from.old)) → is_some o.end ≡ false
      at (inl both) =
          let began = tells.began ce lun m few mine in
          let same : from.old ≡ began.operation = same_some (sym from.is_there ∙ ap (slice_get ops) both.0 ∙ began.is_there) in
          absurd (clash (is_some o.start)
          (ap (λ (z : Operation). is_some z.start) both.1 ∙ ap (λ (x : Option ℕ). is_some x) (ended_start e from.old) ∙ ap (λ (z : Operation). is_some z.start) same ∙ began.started) none)
      at (inr other) = tells.unended k o (from.is_there ∙ ap Some (sym other.1)) none

  pub tells_end : Tells (put_at busy ce lun false) workers (changed_at m (End e) ops)
  tells_end = record {
    long = tells.long;
    small = λ a b h. tells.small a b (busy_before a b h).0;
    began = λ a b k low is. began_ended m k a b e ops (tells.began a b k low is);
    working = ended_working;
    place = λ k o is started open'. ended_place k o started open' (changed_from m k (End e) ops o is);
    unended = λ k o is none. ended_unended k o none (changed_from m k (End e) ops o is);
  }

-- ---- the beginning

-- an operation that hadn't begun begins work of a LUN that isn't busy, which is busy then
module _ (busy : ℕ → ℕ → Bool) (workers : List (Option ℕ)) (ops : List Operation) (ce lun m n : ℕ) (o : Operation) (target : ce < 4) (few : lun < 4) (rests : busy ce lun ≡ false)
    (is : slice_get ops m ≡ Some o) (on : o.ce ≡ ce) (new : is_some o.start ≡ false) (tells : Tells busy workers ops) where
  begun_workers : List (Option ℕ)
  begun_workers = slice_set workers (lun_place ce lun) (Some m)

  not_began : (k a b : ℕ) → Began ops k a b → k ≡ m → ⊥
  not_began k a b was e = clash (is_some was.operation.start) was.started
      (ap (λ (z : Operation). is_some z.start) (same_some (sym was.is_there ∙ ap (slice_get ops) e ∙ is)) ∙ new)

  own : worker_in (slice_set workers (lun_place ce lun) (Some m)) ce lun ≡ Some m
  own = found_same workers (lun_place ce lun) m (let long = tells.long in omega (arith, long, target, few))

  other : (a b : ℕ) → b < 4 → ((a ≡ ce) → (b ≡ lun) → ⊥) → worker_in (slice_set workers (lun_place ce lun) (Some m)) a b ≡ worker_in workers a b
  other a b low apart = found_other workers (lun_place ce lun) (lun_place a b) (Some m) (λ e. apart (omega (arith, e, few, low)) (omega (arith, e, few, low)))

  own_number : (a b k : ℕ) → a ≡ ce → b ≡ lun → worker_in (slice_set workers (lun_place ce lun) (Some m)) a b ≡ Some k → k ≡ m
  own_number a b k p q h =
      same_some (sym h ∙ ap (λ x. worker_in (slice_set workers (lun_place ce lun) (Some m)) x b) p ∙ ap (worker_in (slice_set workers (lun_place ce lun) (Some m)) ce) q ∙ own)

  mine : Began (changed_at m (Begin n lun) ops) m ce lun
  mine = at to.is
    where
      to : To m m (Begin n lun) ops o
      to = changed_to m m (Begin n lun) ops o is

      at : ((m ≡ m) × (to.new ≡ changed (Begin n lun) o)) ⊎ ((m ≡ m → ⊥) × (to.new ≡ o)) → Began (changed_at m (Begin n lun) ops) m ce lun
      at (inl both) = record {
        operation = to.new;
        is_there = to.is_there;
        target = ap (λ (z : Operation). z.ce) both.1 ∙ on;
        on = ap (λ (z : Operation). z.lun) both.1;
        started = ap (λ (z : Operation). is_some z.start) both.1;
      }
      at (inr apart) = absurd (apart.0 refl)

  theirs : (k a b : ℕ) → Began ops k a b → Began (changed_at m (Begin n lun) ops) k a b
  theirs k a b was = at to.is
    where
      to : To m k (Begin n lun) ops was.operation
      to = changed_to m k (Begin n lun) ops was.operation was.is_there

      at : ((k ≡ m) × (to.new ≡ changed (Begin n lun) was.operation)) ⊎ ((k ≡ m → ⊥) × (to.new ≡ was.operation)) → Began (changed_at m (Begin n lun) ops) k a b
      at (inl both) = absurd (not_began k a b was both.0)
      at (inr apart) = record {
        operation = to.new;
        is_there = to.is_there;
        target = ap (λ (z : Operation). z.ce) apart.1 ∙ was.target;
        on = ap (λ (z : Operation). z.lun) apart.1 ∙ was.on;
        started = ap (λ (z : Operation). is_some z.start) apart.1 ∙ was.started;
      }

  begun_small : (a b : ℕ) → put_at busy ce lun true a b ≡ true → (a < 4) × (b < 4)
  begun_small a b h = at (same_lun a ce b lun)
    where
      at : ((a ≡ ce) × (b ≡ lun)) ⊎ ((a ≡ ce) → (b ≡ lun) → ⊥) → (a < 4) × (b < 4)
      at (inl both) = ((let e = both.0 in omega (arith, e, target)), (let e = both.1 in omega (arith, e, few)))
      at (inr apart) = tells.small a b (sym (put_other busy ce lun true a b apart) ∙ h)

  begun_began : (a b k : ℕ) → b < 4 → worker_in (slice_set workers (lun_place ce lun) (Some m)) a b ≡ Some k → Began (changed_at m (Begin n lun) ops) k a b
  begun_began a b k low h = at (same_lun a ce b lun)
    where
      at : ((a ≡ ce) × (b ≡ lun)) ⊎ ((a ≡ ce) → (b ≡ lun) → ⊥) → Began (changed_at m (Begin n lun) ops) k a b
      at (inl both) =
          subst (λ (x : ℕ). Began (changed_at m (Begin n lun) ops) x a b) (sym (own_number a b k both.0 both.1 h))
          (subst (λ (x : ℕ). Began (changed_at m (Begin n lun) ops) m x b) (sym both.0) (subst (λ (x : ℕ). Began (changed_at m (Begin n lun) ops) m ce x) (sym both.1) mine))
      at (inr apart) = theirs k a b (tells.began a b k low (sym (other a b low apart) ∙ h))

  begun_working : (a b : ℕ) → put_at busy ce lun true a b ≡ true → Working (slice_set workers (lun_place ce lun) (Some m)) (changed_at m (Begin n lun) ops) a b
  begun_working a b h = at (same_lun a ce b lun)
    where
      fresh : (w : Operation) → From m m (Begin n lun) ops w → is_some w.end ≡ false
      fresh w from = by_place from.is
        where
          by_place : ((m ≡ m) × (w ≡ changed (Begin n lun) from.old)) ⊎ ((m ≡ m → ⊥) × (w ≡ from.old)) → is_some w.end ≡ false
          by_place (inl both) =
              ap (λ (z : Operation). is_some z.end) both.1 ∙ ap (λ (z : Operation). is_some z.end) (same_some (sym from.is_there ∙ is)) ∙ tells.unended m o is new
          by_place (inr apart) = absurd (apart.0 refl)

      old : (k : ℕ) → Unended ops k → (k ≡ m → ⊥) → (w : Operation) → From m k (Begin n lun) ops w → is_some w.end ≡ false
      old k was away w from = by_place from.is
        where
          by_place : ((k ≡ m) × (w ≡ changed (Begin n lun) from.old)) ⊎ ((k ≡ m → ⊥) × (w ≡ from.old)) → is_some w.end ≡ false
          by_place (inl both) = absurd (away both.0)
          by_place (inr same) = ap (λ (z : Operation). is_some z.end) same.1 ∙ was from.old from.is_there

      at : ((a ≡ ce) × (b ≡ lun)) ⊎ ((a ≡ ce) → (b ≡ lun) → ⊥) → Working (slice_set workers (lun_place ce lun) (Some m)) (changed_at m (Begin n lun) ops) a b
      at (inl both) = record {
        number = m;
        is = ap (λ x. worker_in (slice_set workers (lun_place ce lun) (Some m)) x b) both.0 ∙ ap (worker_in (slice_set workers (lun_place ce lun) (Some m)) ce) both.1 ∙ own;
        unended = λ w there'. fresh w (changed_from m m (Begin n lun) ops w there');
      }
      at (inr apart) =
          let before : busy a b ≡ true = sym (put_other busy ce lun true a b apart) ∙ h in
          let low = (tells.small a b before).1 in
          let was = tells.working a b before in
          record {
            number = was.number;
            is = other a b low apart ∙ was.is;
            unended = λ w there'. old was.number was.unended (not_began was.number a b (tells.began a b was.number low was.is)) w (changed_from m was.number (Begin n lun) ops w there');
          }

  begun_place : (k : ℕ) (w : Operation) → is_some w.start ≡ true → is_some w.end ≡ false → From m k (Begin n lun) ops w →
      Place (put_at busy ce lun true) (slice_set workers (lun_place ce lun) (Some m)) k w
  begun_place k w started open' from = at from.is
    where
      at : ((k ≡ m) × (w ≡ changed (Begin n lun) from.old)) ⊎ ((k ≡ m → ⊥) × (w ≡ from.old)) → Place (put_at busy ce lun true) (slice_set workers (lun_place ce lun) (Some m)) k w
      at (inl both) =
          let same : from.old ≡ o = same_some (sym from.is_there ∙ ap (slice_get ops) both.0 ∙ is) in
          let here : w.ce ≡ ce = ap (λ (z : Operation). z.ce) both.1 ∙ ap (λ (z : Operation). z.ce) same ∙ on in
          record {
            lun = lun;
            few = few;
            is = ap (λ (z : Operation). z.lun) both.1;
            worker = ap (λ x. worker_in (slice_set workers (lun_place ce lun) (Some m)) x lun) here ∙ own ∙ ap Some (sym both.0);
            busy = ap (λ x. put_at busy ce lun true x lun) here ∙ put_own busy ce lun true;
          }
      at (inr away) =
          let was = tells.place k w (from.is_there ∙ ap Some (sym away.1)) started open' in
          let apart : (w.ce ≡ ce) → (was.lun ≡ lun) → ⊥ = λ p q. clash (busy w.ce was.lun) was.busy (ap (λ x. busy x was.lun) p ∙ ap (busy ce) q ∙ rests) in
          record {
            lun = was.lun;
            few = was.few;
            is = was.is;
            worker = other w.ce was.lun was.few apart ∙ was.worker;
            busy = put_other busy ce lun true w.ce was.lun apart ∙ was.busy;
          }

  begun_unended : (k : ℕ) (w : Operation) → is_some w.start ≡ false → From m k (Begin n lun) ops w → is_some w.end ≡ false
  begun_unended k w none from = at from.is
    where
      at : ((k ≡ m) × (w ≡ changed (Begin n lun) from.old)) ⊎ ((k ≡ m → ⊥) × (w ≡ from.old)) → is_some w.end ≡ false
      at (inl both) = absurd (clash (is_some w.start) (ap (λ (z : Operation). is_some z.start) both.1) none)
      at (inr away) = tells.unended k w (from.is_there ∙ ap Some (sym away.1)) none

  pub tells_begin : Tells (put_at busy ce lun true) (slice_set workers (lun_place ce lun) (Some m)) (changed_at m (Begin n lun) ops)
  tells_begin = record {
    long = length-set workers (lun_place ce lun) (Some m) ∙ tells.long;
    small = begun_small;
    began = begun_began;
    working = begun_working;
    place = λ k w there' started open'. begun_place k w started open' (changed_from m k (Begin n lun) ops w there');
    unended = λ k w there' none. begun_unended k w none (changed_from m k (Begin n lun) ops w there');
  }

-- ---- the beginning that an item is

-- an end of work that the LUN hasn't any more leaves it so
abandoned_busy : (busy : ℕ → ℕ → Bool) (ce lun : ℕ) (is : Bool) (a b : ℕ) → put_at busy ce lun is a b ≡ put_at (put_at busy ce lun false) ce lun is a b
abandoned_busy busy ce lun is a b = at (a == ce && b == lun)
  where
    at : (x : Bool) → cond x is (busy a b) ≡ cond x is (cond x false (busy a b))
    at true = refl
    at false = refl

abbrev pub workers_with : Judged → (k lun : ℕ) → Places → List (Option ℕ)
workers_with j k lun p = slice_set p.workers (lun_place j.ce lun) (Some k)

abbrev pub ops_with : Judged → (k lun : ℕ) → Places → List Operation → List Operation
ops_with j k lun p ops = changed_at k (Begin j.number lun) (abandoned_by j k (worker p j.ce lun) ops)

-- the LUN is free for work, and the operation that is to begin it is as it was
pub record Freed (busy : ℕ → ℕ → Bool) (j : Judged) (k lun : ℕ) (p : Places) (ops : List Operation) (o : Operation) : Type 0 where
  pub tells : Tells (put_at busy j.ce lun false) p.workers (abandoned_by j k (worker p j.ce lun) ops)
  pub is : slice_get (abandoned_by j k (worker p j.ce lun) ops) k ≡ Some o

-- a LUN without work is as it is told to be
off_same : (busy : ℕ → ℕ → Bool) (ce lun : ℕ) → busy ce lun ≡ false → (a b : ℕ) → put_at busy ce lun false a b ≡ busy a b
off_same busy ce lun off a b = at (same_lun a ce b lun)
  where
    at : ((a ≡ ce) × (b ≡ lun)) ⊎ ((a ≡ ce) → (b ≡ lun) → ⊥) → put_at busy ce lun false a b ≡ busy a b
    at (inl both) =
        ap (λ x. put_at busy ce lun false x b) both.0 ∙ ap (put_at busy ce lun false ce) both.1 ∙ put_own busy ce lun false
        ∙ sym (ap (λ x. busy x b) both.0 ∙ ap (busy ce) both.1 ∙ off)
    at (inr apart) = put_other busy ce lun false a b apart

pub tells_off : (busy : ℕ → ℕ → Bool) (workers : List (Option ℕ)) (ops : List Operation) (ce lun : ℕ) → busy ce lun ≡ false → Tells busy workers ops → Tells (put_at busy ce lun false) workers ops
tells_off busy workers ops ce lun off tells = tells_same busy (put_at busy ce lun false) workers ops (off_same busy ce lun off) tells

-- a LUN that has no worker isn't busy
pub unworked : (busy : ℕ → ℕ → Bool) (workers : List (Option ℕ)) (ops : List Operation) (ce lun : ℕ) → worker_in workers ce lun ≡ None → Tells busy workers ops → busy ce lun ≡ false
unworked busy workers ops ce lun h tells = false_from_ne_true (busy ce lun) (λ b. none (sym h ∙ (tells.working ce lun b).is))
  where
    none : {m : ℕ} → None ≡ Some m → ⊥
    none e = cc

pub freed : (busy : ℕ → ℕ → Bool) (j : Judged) (k lun : ℕ) (p : Places) (ops : List Operation) (o : Operation) → lun < 4 → slice_get ops k ≡ Some o → is_some o.start ≡ false →
    Tells busy p.workers ops → Freed busy j k lun p ops o
freed busy j k lun p ops o few is new tells = at (worker p j.ce lun) refl
  where
    of : (more : List Operation) → abandoned_by j k (worker p j.ce lun) ops ≡ more → Tells (put_at busy j.ce lun false) p.workers more → slice_get more k ≡ Some o → Freed busy j k lun p ops o
    of more e t h = record {
      tells = subst (λ (x : List Operation). Tells (put_at busy j.ce lun false) p.workers x) (sym e) t;
      is = ap (λ (x : List Operation). slice_get x k) e ∙ h;
    }

    at : (w : Option ℕ) → worker p j.ce lun ≡ w → Freed busy j k lun p ops o
    at None e = of ops (ap (λ w. abandoned_by j k w ops) e) (tells_off busy p.workers ops j.ce lun (unworked busy p.workers ops j.ce lun e tells) tells) is
    at (Some old) e = of (changed_at old (End (ends.Abandoned j.number)) ops) (ap (λ w. abandoned_by j k w ops) e ∙ chosen) (tells_end busy p.workers ops j.ce lun old (ends.Abandoned j.number) few e tells) still_there
      where
        began : Began ops old j.ce lun
        began = tells.began j.ce lun old few e

        apart : old ≡ k → ⊥
        apart same = clash (is_some began.operation.start) began.started (ap (λ (z : Operation). is_some z.start) (same_some (sym began.is_there ∙ ap (slice_get ops) same ∙ is)) ∙ new)

        chosen : abandoned_by j k (Some old) ops ≡ changed_at old (End (ends.Abandoned j.number)) ops
        chosen = ap (λ b. cond b ops (changed_at old (End (ends.Abandoned j.number)) ops)) (ne_eqb old k apart)

        to : To old k (End (ends.Abandoned j.number)) ops o
        to = changed_to old k (End (ends.Abandoned j.number)) ops o is

        still_there : slice_get (changed_at old (End (ends.Abandoned j.number)) ops) k ≡ Some o
        still_there = by_place to.is
          where
            by_place : ((k ≡ old) × (to.new ≡ changed (End (ends.Abandoned j.number)) o)) ⊎ ((k ≡ old → ⊥) × (to.new ≡ o)) → slice_get (changed_at old (End (ends.Abandoned j.number)) ops) k ≡ Some o
            by_place (inl both) = absurd (apart (sym both.0))
            by_place (inr away) = to.is_there ∙ ap Some away.1

pub tells_begun : (busy : ℕ → ℕ → Bool) (j : Judged) (k lun : ℕ) (p : Places) (ops : List Operation) (o : Operation) → j.ce < 4 → lun < 4 → o.ce ≡ j.ce → is_some o.start ≡ false →
    Freed busy j k lun p ops o → Tells (put_at busy j.ce lun true) (workers_with j k lun p) (ops_with j k lun p ops)
tells_begun busy j k lun p ops o target few on new free =
    tells_same (put_at (put_at busy j.ce lun false) j.ce lun true) (put_at busy j.ce lun true) (workers_with j k lun p) (ops_with j k lun p ops) (abandoned_busy busy j.ce lun true)
    (tells_begin (put_at busy j.ce lun false) p.workers (abandoned_by j k (worker p j.ce lun) ops) j.ce lun k j.number o target few (put_own busy j.ce lun false) free.is on new free.tells)
