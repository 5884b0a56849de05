-- The worker of a LUN is the operation that began its last work.
use Rattle.std.proofs.Common.{◌≡◌, ◌⊎◌, inl, inr, ℕ, ◌<◌, ◌≤◌, ◌==◌, Bool, true, false, cond, List, [], ◌∷◌, ◌++◌, Option, Some, None, is_some, refl, sym, ap, ◌∙◌, arith, length, slice_set}
use Rattle.std.specs.Prelude.{slice_get}
use Rattle.std.proofs.lemmas.List.{length-set}
use Rattle.trace_ops.specs.declared.change.Change.TheVariants.{End, Begin}
use Rattle.trace_ops.specs.declared.judged.Judged.{Judged}
use Rattle.trace_ops.specs.declared.operation.Ending.{Ending}
use Rattle.trace_ops.specs.declared.operation.Ending.TheVariants as ends
use Rattle.trace_ops.specs.declared.operation.Operation.{Operation}
use Rattle.trace_ops.specs.declared.places.Places.{Places}
use Rattle.trace_ops.specs.Operation.{changed, changed_at}
use Rattle.trace_ops.specs.Listing.{Listing, lun_place, worker, end_by, ended_if, all_ended, starts_on, abandoned_by, begun_on, all_begun}
use Rattle.trace_ops.proofs.AtWork.{Alike, From, changed_from, worker_in}
use Rattle.trace_ops.proofs.Pieces.{found_same, found_other}
use Rattle.trace_ops.proofs.Spans.{same_some, which}
use Rattle.trace_ops.proofs.Turns.{same_lun, ended_ce, ended_lun, ended_start}

-- the LUN has a worker, which began no earlier than this
pub record Latest (workers : List (Option ℕ)) (ops : List Operation) (ce lun s : ℕ) : Type 0 where
  pub number : ℕ
  pub is : worker_in workers ce lun ≡ Some number
  pub later : (p : Operation) (t : ℕ) → slice_get ops number ≡ Some p → p.start ≡ Some t → s ≤ t

abbrev pub AreLatest : List (Option ℕ) → List Operation → Type 0
AreLatest workers ops =
    (ce lun m : ℕ) (o : Operation) (s : ℕ) → lun < 4 → slice_get ops m ≡ Some o → o.ce ≡ ce → o.lun ≡ Some lun → o.start ≡ Some s → Latest workers ops ce lun s

pub latest_alike : (workers : List (Option ℕ)) (ops more : List Operation) → Alike ops more → AreLatest workers ops → AreLatest workers more
latest_alike workers ops more alike latest ce lun m o s low is target on start =
    let back = alike.back m o is in
    let begun = sym back.core.start ∙ start in
    let was = latest ce lun m back.old s low back.is_there (sym back.core.ce ∙ target) (sym (back.core.lun (ap (λ (x : Option ℕ). is_some x) begun)) ∙ on) begun in
    record {
      number = was.number;
      is = was.is;
      later = λ p t there' h. (let old = alike.back was.number p there' in was.later old.old t old.is_there (sym old.core.start ∙ h));
    }

pub latest_end : (workers : List (Option ℕ)) (ops : List Operation) (k : ℕ) (e : Ending) → AreLatest workers ops → AreLatest workers (changed_at k (End e) ops)
latest_end workers ops k e latest ce lun m o s low is target on start =
    let from = changed_from k m (End e) ops o is in
    let was = latest ce lun m from.old s low from.is_there (sym (same_ce m o from) ∙ target) (sym (same_lun' m o from) ∙ on) (sym (same_start m o from) ∙ start) in
    record {
      number = was.number;
      is = was.is;
      later = λ p t there' h. (let old = changed_from k was.number (End e) ops p there' in was.later old.old t old.is_there (sym (same_start was.number p old) ∙ h));
    }
  where
    same_ce : (n : ℕ) (w : Operation) (from : From k n (End e) ops w) → w.ce ≡ from.old.ce
    same_ce n w from = at from.is
      where
        at : ((n ≡ k) × (w ≡ changed (End e) from.old)) ⊎ ((n ≡ k → ⊥) × (w ≡ from.old)) → w.ce ≡ from.old.ce
        at (inl both) = ap (λ (z : Operation). z.ce) both.1 ∙ ended_ce e from.old
        at (inr other) = ap (λ (z : Operation). z.ce) other.1

    same_lun' : (n : ℕ) (w : Operation) (from : From k n (End e) ops w) → w.lun ≡ from.old.lun
    same_lun' n w from = at from.is
      where
        at : ((n ≡ k) × (w ≡ changed (End e) from.old)) ⊎ ((n ≡ k → ⊥) × (w ≡ from.old)) → w.lun ≡ from.old.lun
        at (inl both) = ap (λ (z : Operation). z.lun) both.1 ∙ ended_lun e from.old
        at (inr other) = ap (λ (z : Operation). z.lun) other.1

    same_start : (n : ℕ) (w : Operation) (from : From k n (End e) ops w) → w.start ≡ from.old.start
    same_start n w from = at from.is
      where
        at : ((n ≡ k) × (w ≡ changed (End e) from.old)) ⊎ ((n ≡ k → ⊥) × (w ≡ from.old)) → w.start ≡ from.old.start
        at (inl both) = ap (λ (z : Operation). z.start) both.1 ∙ ended_start e from.old
        at (inr other) = ap (λ (z : Operation). z.start) other.1

latest_if : (workers : List (Option ℕ)) (e : Option Ending) (at : Option ℕ) (ops : List Operation) → AreLatest workers ops → AreLatest workers (ended_if e at ops)
latest_if workers None at ops latest = latest
latest_if workers (Some e) None ops latest = latest
latest_if workers (Some e) (Some k) ops latest = latest_end workers ops k e latest

pub latest_ends : (j : Judged) (places : Places) (ops : List Operation) → AreLatest places.workers ops → AreLatest places.workers (all_ended j places ops)
latest_ends j places ops latest =
    latest_if places.workers (end_by j j.item 3) (worker places j.ce 3) _ (latest_if places.workers (end_by j j.item 2) (worker places j.ce 2) _
    (latest_if places.workers (end_by j j.item 1) (worker places j.ce 1) _ (latest_if places.workers (end_by j j.item 0) (worker places j.ce 0) ops latest)))

-- an operation more, without work
pub latest_new : (workers : List (Option ℕ)) (ops : List Operation) (x : Operation) → x.start ≡ None → AreLatest workers ops → AreLatest workers (ops ++ (x ∷ []))
latest_new workers ops x rests latest ce lun m o s low is target on start = at (which ops x m o is)
  where
    none : {n : ℕ} → None ≡ Some n → ⊥
    none h = cc

    unstarted : (p : Operation) (t : ℕ) → p ≡ x → p.start ≡ Some t → ⊥
    unstarted p t same h = none (sym rests ∙ ap (λ (z : Operation). z.start) (sym same) ∙ h)

    later : (was : Latest workers ops ce lun s) (p : Operation) (t : ℕ) → slice_get (ops ++ (x ∷ [])) was.number ≡ Some p → p.start ≡ Some t → s ≤ t
    later was p t there' h = by_place (which ops x was.number p there')
      where
        by_place : (slice_get ops was.number ≡ Some p) ⊎ ((was.number ≡ length ops) × (p ≡ x)) → s ≤ t
        by_place (inl old) = was.later p t old h
        by_place (inr new) = absurd (unstarted p t new.1 h)

    at : (slice_get ops m ≡ Some o) ⊎ ((m ≡ length ops) × (o ≡ x)) → Latest workers (ops ++ (x ∷ [])) ce lun s
    at (inl old) = (let was = latest ce lun m o s low old target on start in record { number = was.number; is = was.is; later = later was })
    at (inr new) = absurd (unstarted o s new.1 start)

-- ---- the beginning of work

-- no work began after this item
abbrev pub Bounded : ℕ → List Operation → Type 0
Bounded n ops = (m : ℕ) (o : Operation) (s : ℕ) → slice_get ops m ≡ Some o → o.start ≡ Some s → s ≤ n

-- the operation of this number is one of the target
abbrev pub IsOn : ℕ → ℕ → List Operation → Type 0
IsOn ce k ops = (o : Operation) → slice_get ops k ≡ Some o → o.ce ≡ ce

pub record Beginning (ce k n : ℕ) (workers : List (Option ℕ)) (ops : List Operation) : Type 0 where
  pub latest : AreLatest workers ops
  pub bounded : Bounded n ops
  pub on : IsOn ce k ops
  pub long : length workers ≡ 16

ended_beginning : (ce k n : ℕ) (workers : List (Option ℕ)) (ops : List Operation) (m : ℕ) (e : Ending) → Beginning ce k n workers ops → Beginning ce k n workers (changed_at m (End e) ops)
ended_beginning ce k n workers ops m e was = record {
  latest = latest_end workers ops m e was.latest;
  bounded = λ x o s is h. (let from = changed_from m x (End e) ops o is in was.bounded x from.old s from.is_there (start x o from ∙ h));
  on = λ o is. (let from = changed_from m k (End e) ops o is in target k o from ∙ was.on from.old from.is_there);
  long = was.long;
}
  where
    start : (x : ℕ) (w : Operation) (from : From m x (End e) ops w) → from.old.start ≡ w.start
    start x w from = at from.is
      where
        at : ((x ≡ m) × (w ≡ changed (End e) from.old)) ⊎ ((x ≡ m → ⊥) × (w ≡ from.old)) → from.old.start ≡ w.start
        at (inl both) = sym (ap (λ (z : Operation). z.start) both.1 ∙ ended_start e from.old)
        at (inr other) = sym (ap (λ (z : Operation). z.start) other.1)

    target : (x : ℕ) (w : Operation) (from : From m x (End e) ops w) → w.ce ≡ from.old.ce
    target x w from = at from.is
      where
        at : ((x ≡ m) × (w ≡ changed (End e) from.old)) ⊎ ((x ≡ m → ⊥) × (w ≡ from.old)) → w.ce ≡ from.old.ce
        at (inl both) = ap (λ (z : Operation). z.ce) both.1 ∙ ended_ce e from.old
        at (inr other) = ap (λ (z : Operation). z.ce) other.1

abandoned_beginning : (ce k n : ℕ) (workers : List (Option ℕ)) (j : Judged) (w : Option ℕ) (ops : List Operation) → Beginning ce k n workers ops → Beginning ce k n workers (abandoned_by j k w ops)
abandoned_beginning ce k n workers j None ops was = was
abandoned_beginning ce k n workers j (Some old) ops was = at (old == k)
  where
    at : (b : Bool) → Beginning ce k n workers (cond b ops (changed_at old (End (ends.Abandoned j.number)) ops))
    at true = was
    at false = ended_beginning ce k n workers ops old (ends.Abandoned j.number) was

module _ (ce k n lun : ℕ) (workers : List (Option ℕ)) (ops : List Operation) (few : ce < 4) (low : lun < 4) (was : Beginning ce k n workers ops) where
  abbrev begun_workers : List (Option ℕ)
  begun_workers = slice_set workers (lun_place ce lun) (Some k)

  own : worker_in begun_workers ce lun ≡ Some k
  own = found_same workers (lun_place ce lun) k (let long = was.long in omega (arith, long, few, low))

  other : (a b : ℕ) → b < 4 → ((a ≡ ce) → (b ≡ lun) → ⊥) → worker_in begun_workers a b ≡ worker_in workers a b
  other a b small apart = found_other workers (lun_place ce lun) (lun_place a b) (Some k) (λ e. apart (omega (arith, e, low, small)) (omega (arith, e, low, small)))

  -- the operation that begins has this start, and any other the same
  start_of : (m : ℕ) (o : Operation) (s : ℕ) → From k m (Begin n lun) ops o → o.start ≡ Some s → s ≤ n
  start_of m o s from h = at from.is
    where
      at : ((m ≡ k) × (o ≡ changed (Begin n lun) from.old)) ⊎ ((m ≡ k → ⊥) × (o ≡ from.old)) → s ≤ n
      at (inl both) = (let same : n ≡ s = same_some (sym (ap (λ (z : Operation). z.start) both.1) ∙ h) in omega (arith, same))
      at (inr away) = was.bounded m from.old s from.is_there (ap (λ (z : Operation). z.start) (sym away.1) ∙ h)

  mine : (p : Operation) (t s : ℕ) → s ≤ n → From k k (Begin n lun) ops p → p.start ≡ Some t → s ≤ t
  mine p t s le from h = at from.is
    where
      at : ((k ≡ k) × (p ≡ changed (Begin n lun) from.old)) ⊎ ((k ≡ k → ⊥) × (p ≡ from.old)) → s ≤ t
      at (inl both) = (let same : n ≡ t = same_some (sym (ap (λ (z : Operation). z.start) both.1) ∙ h) in omega (arith, same, le))
      at (inr away) = absurd (away.0 refl)

  by_own : (s : ℕ) → s ≤ n → Latest begun_workers (changed_at k (Begin n lun) ops) ce lun s
  by_own s le = record { number = k; is = own; later = λ p t is h. mine p t s le (changed_from k k (Begin n lun) ops p is) h }

  by_other : (a b s : ℕ) → b < 4 → ((a ≡ ce) → (b ≡ lun) → ⊥) → s ≤ n → Latest workers ops a b s → Latest begun_workers (changed_at k (Begin n lun) ops) a b s
  by_other a b s small apart le old = record { number = old.number; is = other a b small apart ∙ old.is; later = λ p t is h. at p t h (changed_from k old.number (Begin n lun) ops p is) }
    where
      at : (p : Operation) (t : ℕ) → p.start ≡ Some t → From k old.number (Begin n lun) ops p → s ≤ t
      at p t h from = by_place from.is
        where
          by_place : ((old.number ≡ k) × (p ≡ changed (Begin n lun) from.old)) ⊎ ((old.number ≡ k → ⊥) × (p ≡ from.old)) → s ≤ t
          by_place (inl both) = (let same : n ≡ t = same_some (sym (ap (λ (z : Operation). z.start) both.1) ∙ h) in omega (arith, same, le))
          by_place (inr away) = old.later from.old t from.is_there (ap (λ (z : Operation). z.start) (sym away.1) ∙ h)

  begun_latest : AreLatest begun_workers (changed_at k (Begin n lun) ops)
  begun_latest a b m o s small is target on start = at (same_lun a ce b lun)
    where
      from : From k m (Begin n lun) ops o
      from = changed_from k m (Begin n lun) ops o is

      le : s ≤ n
      le = start_of m o s from start

      elsewhere : ((a ≡ ce) → (b ≡ lun) → ⊥) → ((m ≡ k) × (o ≡ changed (Begin n lun) from.old)) ⊎ ((m ≡ k → ⊥) × (o ≡ from.old)) → Latest begun_workers (changed_at k (Begin n lun) ops) a b s
      elsewhere apart (inl both) =
          let there' = ap (slice_get ops) (sym both.0) ∙ from.is_there in
          absurd (apart (sym target ∙ ap (λ (z : Operation). z.ce) both.1 ∙ was.on from.old there') (same_some (sym on ∙ ap (λ (z : Operation). z.lun) both.1)))
      elsewhere apart (inr away) =
          by_other a b s small apart le
          (was.latest a b m from.old s small from.is_there (ap (λ (z : Operation). z.ce) (sym away.1) ∙ target) (ap (λ (z : Operation). z.lun) (sym away.1) ∙ on) (ap (λ (z : Operation). z.start) (sym away.1) ∙ start))

      at : ((a ≡ ce) × (b ≡ lun)) ⊎ ((a ≡ ce) → (b ≡ lun) → ⊥) → Latest begun_workers (changed_at k (Begin n lun) ops) a b s
      at (inl both) = rw (both.0, both.1) (by_own s le)
      at (inr apart) = elsewhere apart from.is

  begun_beginning : Beginning ce k n begun_workers (changed_at k (Begin n lun) ops)
  begun_beginning = record {
    latest = begun_latest;
    bounded = λ m o s is h. start_of m o s (changed_from k m (Begin n lun) ops o is) h;
    on = λ o is. at o (changed_from k k (Begin n lun) ops o is);
    long = length-set workers (lun_place ce lun) (Some k) ∙ was.long;
  }
    where
      at : (o : Operation) → From k k (Begin n lun) ops o → o.ce ≡ ce
      at o from = by_place from.is
        where
          by_place : ((k ≡ k) × (o ≡ changed (Begin n lun) from.old)) ⊎ ((k ≡ k → ⊥) × (o ≡ from.old)) → o.ce ≡ ce
          by_place (inl both) = ap (λ (z : Operation). z.ce) both.1 ∙ was.on from.old from.is_there
          by_place (inr away) = absurd (away.0 refl)

latest_on : (j : Judged) (k lun : ℕ) (l : Listing) → j.ce < 4 → lun < 4 → Beginning j.ce k j.number l.places.workers l.ops →
    Beginning j.ce k j.number (begun_on j k lun l).places.workers (begun_on j k lun l).ops
latest_on j k lun l few low was =
    at (starts_on j lun k l.ops) _ l
    (begun_beginning j.ce k j.number lun l.places.workers _ few low (abandoned_beginning j.ce k j.number l.places.workers j (worker l.places j.ce lun) l.ops was)) was
  where
    at : (b : Bool) (x y : Listing) → Beginning j.ce k j.number x.places.workers x.ops → Beginning j.ce k j.number y.places.workers y.ops →
        Beginning j.ce k j.number (cond b x y).places.workers (cond b x y).ops
    at true x y p q = p
    at false x y p q = q

pub latest_begins : (j : Judged) (k : ℕ) (l : Listing) → j.ce < 4 → Beginning j.ce k j.number l.places.workers l.ops → Beginning j.ce k j.number (all_begun j k l).places.workers (all_begun j k l).ops
latest_begins j k l few was =
    let one = begun_on j k 0 l in
    let two = begun_on j k 1 one in
    let three = begun_on j k 2 two in
    latest_on j k 3 three few (omega arith) (latest_on j k 2 two few (omega arith) (latest_on j k 1 one few (omega arith) (latest_on j k 0 l few (omega arith) was)))
