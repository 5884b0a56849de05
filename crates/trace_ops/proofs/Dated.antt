-- When operations begin work and when they end: by which items, as the model has it, and that works of one LUN are apart.
use Rattle.std.proofs.Common.{◌≡◌, ◌⊎◌, inl, inr, ℕ, zero, suc, ◌+◌, ◌<◌, ◌≤◌, Bool, true, false, cond, List, [], ◌∷◌, ◌++◌, Option, Some, None, is_some, refl, sym, ap, ◌∙◌, subst, arith, length, eq-eqb, ne_eqb}
use Rattle.std.specs.Prelude.{slice_get}
use Rattle.nand_geometry.specs.declared.parts.Parts.{Parts}
use Rattle.onfi_cycle.specs.declared.item.Item.{Item}
use Rattle.onfi_cycle.specs.declared.lun.Lun.{Lun}
use Rattle.onfi_cycle.specs.Working.{IsLun}
use Rattle.onfi_cycle.proofs.Booleans.{clash}
use Rattle.trace_ops.specs.declared.change.Change.TheVariants.{End, Begin}
use Rattle.trace_ops.specs.declared.operation.Ending.{Ending}
use Rattle.trace_ops.specs.declared.operation.Operation.{Operation}
use Rattle.trace_ops.specs.Operation.{changed, changed_at}
use Rattle.trace_ops.specs.AtWork.{begins_work, begun_at, BeganAt, BeginsOn, ended_at, EndedBy, AreApart}
use Rattle.trace_ops.proofs.Spans.{same_some, which}
use Rattle.trace_ops.proofs.Tails.{split}
use Rattle.trace_ops.proofs.AtWork.{Core, Alike, forth, From, changed_from, append_there, Tells}
use Rattle.trace_ops.proofs.Turns.{To, changed_to, ended_ce, ended_lun, ended_start}

-- ---- items by their number

kept_mark : (marks : List ℕ) (k n m : ℕ) → slice_get marks n ≡ Some m → slice_get (marks ++ (k ∷ [])) n ≡ Some m
kept_mark [] k n m h = cc
kept_mark (x ∷ marks) k zero m h = h
kept_mark (x ∷ marks) k (suc n) m h = kept_mark marks k n m h

pub new_mark : (marks : List ℕ) (k : ℕ) → slice_get (marks ++ (k ∷ [])) (length marks) ≡ Some k
new_mark [] k = refl
new_mark (x ∷ marks) k = new_mark marks k

-- an item that begins work is one of the past
pub begun_early : (g : Parts) (past : List Item) (n : ℕ) (l : Lun) → begun_at g past n l ≡ true → n < length past
begun_early g [] n l h = cc
begun_early g (i ∷ past) n l h = at (split (length past) n) (begun_early g past n l)
  where
    at : (length past ≡ n) ⊎ (length past ≡ n → ⊥) → (begun_at g past n l ≡ true → n < length past) → n < length (i ∷ past)
    at (inl same) early = omega (arith, same)
    at (inr apart) early =
        let earlier = early (sym (ap (λ b. cond b (begins_work g past i l) (begun_at g past n l)) (ne_eqb (length past) n apart)) ∙ h) in
        omega (arith, earlier)

begun_more : (g : Parts) (past : List Item) (i : Item) (n : ℕ) (l : Lun) → (length past ≡ n → ⊥) → begun_at g (i ∷ past) n l ≡ begun_at g past n l
begun_more g past i n l apart = ap (λ b. cond b (begins_work g past i l) (begun_at g past n l)) (ne_eqb (length past) n apart)

begun_now : (g : Parts) (past : List Item) (i : Item) (n : ℕ) (l : Lun) → length past ≡ n → begun_at g (i ∷ past) n l ≡ begins_work g past i l
begun_now g past i n l same = ap (λ b. cond b (begins_work g past i l) (begun_at g past n l)) (eq-eqb (length past) n same)

-- ---- the dates of operations

pub record Dated (g : Parts) (targets : ℕ) (past : List Item) (marks : List ℕ) (bound : ℕ) (ops : List Operation) : Type 0 where
  pub begins : (l : Lun) (n : ℕ) → IsLun g targets l → begun_at g past n l ≡ true → (k : ℕ) × BeganAt marks ops k n l
  pub only : (k : ℕ) (o : Operation) (n : ℕ) → slice_get ops k ≡ Some o → o.start ≡ Some n → BeginsOn g targets past marks ops k n
  pub ended : (k : ℕ) (o : Operation) (e : Ending) → slice_get ops k ≡ Some o → o.end ≡ Some e → ended_at e < bound
  pub apart : AreApart ops

-- the same work of an operation
began_core : (marks : List ℕ) (more : List Operation) (k n : ℕ) (l : Lun) (old new : Operation) → slice_get more k ≡ Some new → Core old new → old.ce ≡ l.ce → old.lun ≡ Some l.lun → old.start ≡ Some n →
    slice_get marks n ≡ Some k → BeganAt marks more k n l
began_core marks more k n l old new is core target lun start mark =
    record { operation = new; is_there = is; target = core.ce ∙ target; lun = core.lun (ap (λ (z : Option ℕ). is_some z) start) ∙ lun; start = core.start ∙ start; mark = mark }

began_alike : (marks : List ℕ) (ops more : List Operation) (k n : ℕ) (l : Lun) → Alike ops more → BeganAt marks ops k n l → BeganAt marks more k n l
began_alike marks ops more k n l alike was =
    let on = forth ops more k was.operation alike was.is_there in
    began_core marks more k n l was.operation on.new on.is_there on.core was.target was.lun was.start was.mark

on_alike : (g : Parts) (targets : ℕ) (past : List Item) (marks : List ℕ) (ops more : List Operation) (k n : ℕ) → Alike ops more → BeginsOn g targets past marks ops k n →
    BeginsOn g targets past marks more k n
on_alike g targets past marks ops more k n alike was =
    record { lun = was.lun; is_lun = was.is_lun; begins = was.begins; began = began_alike marks ops more k n was.lun alike was.began }

ended_by : (old new : Operation) (t : ℕ) → new.end ≡ old.end → EndedBy old t → EndedBy new t
ended_by old new t same was = record { ending = was.ending; is = same ∙ was.is; by = was.by }

pub dated_alike : (g : Parts) (targets : ℕ) (past : List Item) (marks : List ℕ) (bound : ℕ) (ops more : List Operation) → Alike ops more → Dated g targets past marks bound ops →
    Dated g targets past marks bound more
dated_alike g targets past marks bound ops more alike dated = record {
  begins = λ l n is h. (let was = dated.begins l n is h in (was.0, began_alike marks ops more was.0 n l alike was.1));
  only = λ k o n is h. (
      let back = alike.back k o is in
      on_alike g targets past marks ops more k n alike (dated.only k back.old n back.is_there (sym back.core.start ∙ h))
      );
  ended = λ k o e is h. (let back = alike.back k o is in dated.ended k back.old e back.is_there (sym back.core.end ∙ h));
  apart = λ k m o p s t is there' ce lun a b lt. (
      let x = alike.back k o is in
      let y = alike.back m p there' in
      let first : x.old.start ≡ Some s = sym x.core.start ∙ a in
      let second : y.old.start ≡ Some t = sym y.core.start ∙ b in
      let on = sym (y.core.lun (ap (λ (z : Option ℕ). is_some z) second)) ∙ lun ∙ x.core.lun (ap (λ (z : Option ℕ). is_some z) first) in
      ended_by x.old o t x.core.end (dated.apart k m x.old y.old s t x.is_there y.is_there (sym y.core.ce ∙ ce ∙ x.core.ce) on first second lt)
      );
}

-- a bound of ends that is no less
pub dated_later : (g : Parts) (targets : ℕ) (past : List Item) (marks : List ℕ) (bound more : ℕ) (ops : List Operation) → bound ≤ more → Dated g targets past marks bound ops →
    Dated g targets past marks more ops
dated_later g targets past marks bound more ops le dated = record {
  begins = dated.begins;
  only = dated.only;
  ended = λ k o e is h. (let small = dated.ended k o e is h in omega (arith, small, le));
  apart = dated.apart;
}

-- an operation more
pub dated_new : (g : Parts) (targets : ℕ) (past : List Item) (marks : List ℕ) (bound : ℕ) (ops : List Operation) (x : Operation) → x.start ≡ None → x.end ≡ None → Dated g targets past marks bound ops →
    Dated g targets past marks bound (ops ++ (x ∷ []))
dated_new g targets past marks bound ops x start end dated = record {
  begins = λ l n is h. (let was = dated.begins l n is h in (was.0, more was.0 n l was.1));
  only = λ k o n is h. on k o n h (which ops x k o is);
  ended = λ k o e is h. ended k o e h (which ops x k o is);
  apart = λ k m o p s t is there' ce lun a b lt. apart k m o p s t (which ops x k o is) (which ops x m p there') ce lun a b lt;
}
  where
    no : {X : Type 0} {y : X} → None ≡ Some y → ⊥
    no h = cc

    more : (k n : ℕ) (l : Lun) → BeganAt marks ops k n l → BeganAt marks (ops ++ (x ∷ [])) k n l
    more k n l was = record {
      operation = was.operation;
      is_there = append_there ops x k was.operation was.is_there;
      target = was.target;
      lun = was.lun;
      start = was.start;
      mark = was.mark;
    }

    unstarted : (o : Operation) (n : ℕ) → o ≡ x → o.start ≡ Some n → ⊥
    unstarted o n e h = no (sym start ∙ ap (λ (z : Operation). z.start) (sym e) ∙ h)

    on : (k : ℕ) (o : Operation) (n : ℕ) → o.start ≡ Some n → (slice_get ops k ≡ Some o) ⊎ ((k ≡ length ops) × (o ≡ x)) → BeginsOn g targets past marks (ops ++ (x ∷ [])) k n
    on k o n h (inl old) =
        let was = dated.only k o n old h in
        record { lun = was.lun; is_lun = was.is_lun; begins = was.begins; began = more k n was.lun was.began }
    on k o n h (inr new) = absurd (unstarted o n new.1 h)

    ended : (k : ℕ) (o : Operation) (e : Ending) → o.end ≡ Some e → (slice_get ops k ≡ Some o) ⊎ ((k ≡ length ops) × (o ≡ x)) → ended_at e < bound
    ended k o e h (inl old) = dated.ended k o e old h
    ended k o e h (inr new) = absurd (no (sym end ∙ ap (λ (z : Operation). z.end) (sym new.1) ∙ h))

    apart : (k m : ℕ) (o p : Operation) (s t : ℕ) → (slice_get ops k ≡ Some o) ⊎ ((k ≡ length ops) × (o ≡ x)) → (slice_get ops m ≡ Some p) ⊎ ((m ≡ length ops) × (p ≡ x)) → p.ce ≡ o.ce → p.lun ≡ o.lun →
        o.start ≡ Some s → p.start ≡ Some t → s < t → EndedBy o t
    apart k m o p s t (inl old) (inl other) ce lun a b lt = dated.apart k m o p s t old other ce lun a b lt
    apart k m o p s t (inl old) (inr new) ce lun a b lt = absurd (unstarted p t new.1 b)
    apart k m o p s t (inr new) other ce lun a b lt = absurd (unstarted o s new.1 a)

-- ---- an end

-- the same, but for an end where there was none
record Left (old new : Operation) (e : Ending) : Type 0 where
  ce : new.ce ≡ old.ce
  lun : new.lun ≡ old.lun
  start : new.start ≡ old.start
  end : (new.end ≡ old.end) ⊎ ((old.end ≡ None) × (new.end ≡ Some e))

left_by : (m k : ℕ) (e : Ending) (ops : List Operation) (w old : Operation) → ((k ≡ m) × (w ≡ changed (End e) old)) ⊎ ((k ≡ m → ⊥) × (w ≡ old)) → Left old w e
left_by m k e ops w old (inl both) = record {
  ce = ap (λ (z : Operation). z.ce) both.1 ∙ ended_ce e old;
  lun = ap (λ (z : Operation). z.lun) both.1 ∙ ended_lun e old;
  start = ap (λ (z : Operation). z.start) both.1 ∙ ended_start e old;
  end = at old.end refl;
}
  where
    at : (x : Option Ending) → old.end ≡ x → (w.end ≡ old.end) ⊎ ((old.end ≡ None) × (w.end ≡ Some e))
    at None h = inr (h, ap (λ (z : Operation). z.end) both.1 ∙ ap (λ b. (cond b old (record old { end = Some e })).end) (ap (λ (x : Option Ending). is_some x) h))
    at (Some y) h = inl (ap (λ (z : Operation). z.end) both.1 ∙ ap (λ b. (cond b old (record old { end = Some e })).end) (ap (λ (x : Option Ending). is_some x) h))
left_by m k e ops w old (inr away) = record {
  ce = ap (λ (z : Operation). z.ce) away.1;
  lun = ap (λ (z : Operation). z.lun) away.1;
  start = ap (λ (z : Operation). z.start) away.1;
  end = inl (ap (λ (z : Operation). z.end) away.1);
}

pub dated_end : (g : Parts) (targets : ℕ) (past : List Item) (marks : List ℕ) (bound : ℕ) (ops : List Operation) (m : ℕ) (e : Ending) → ended_at e < bound → Dated g targets past marks bound ops →
    Dated g targets past marks bound (changed_at m (End e) ops)
dated_end g targets past marks bound ops m e low dated = record {
  begins = λ l n is h. (let was = dated.begins l n is h in (was.0, more was.0 n l was.1));
  only = λ k o n is h. (
      let from = changed_from m k (End e) ops o is in
      let left = left_by m k e ops o from.old from.is in
      let was = dated.only k from.old n from.is_there (sym left.start ∙ h) in
      record { lun = was.lun; is_lun = was.is_lun; begins = was.begins; began = more k n was.lun was.began }
      );
  ended = λ k o x is h. (let from = changed_from m k (End e) ops o is in ended k o from.old x from.is_there h (left_by m k e ops o from.old from.is).end);
  apart = λ k q o p s t is there' ce lun a b lt. (
      let from = changed_from m k (End e) ops o is in
      let other = changed_from m q (End e) ops p there' in
      let x = left_by m k e ops o from.old from.is in
      let y = left_by m q e ops p other.old other.is in
      let was =
      dated.apart k q from.old other.old s t from.is_there other.is_there (sym y.ce ∙ ce ∙ x.ce) (sym y.lun ∙ lun ∙ x.lun) (sym x.start ∙ a) (sym y.start ∙ b) lt
      in
      stays o from.old t was x.end
      );
}
  where
    more : (k n : ℕ) (l : Lun) → BeganAt marks ops k n l → BeganAt marks (changed_at m (End e) ops) k n l
    more k n l was =
        let to = changed_to m k (End e) ops was.operation was.is_there in
        let left = left_by m k e ops to.new was.operation to.is in
        record { operation = to.new; is_there = to.is_there; target = left.ce ∙ was.target; lun = left.lun ∙ was.lun; start = left.start ∙ was.start; mark = was.mark }

    ended : (k : ℕ) (o old : Operation) (x : Ending) → slice_get ops k ≡ Some old → o.end ≡ Some x → (o.end ≡ old.end) ⊎ ((old.end ≡ None) × (o.end ≡ Some e)) → ended_at x < bound
    ended k o old x is h (inl same) = dated.ended k old x is (sym same ∙ h)
    ended k o old x is h (inr new) = subst (λ (z : Ending). ended_at z < bound) (same_some (sym new.1 ∙ h)) low

    no : {X : Type 0} {y : X} → None ≡ Some y → ⊥
    no h = cc

    stays : (o old : Operation) (t : ℕ) → EndedBy old t → (o.end ≡ old.end) ⊎ ((old.end ≡ None) × (o.end ≡ Some e)) → EndedBy o t
    stays o old t was (inl same) = ended_by old o t same was
    stays o old t was (inr new) = absurd (no (sym new.0 ∙ was.is))

-- ---- one item more

-- one that begins no work
pub dated_turn : (g : Parts) (targets : ℕ) (past : List Item) (i : Item) (marks : List ℕ) (k bound : ℕ) (ops : List Operation) → ((l : Lun) → IsLun g targets l → begins_work g past i l ≡ false) →
    Dated g targets past marks bound ops → Dated g targets (i ∷ past) (marks ++ (k ∷ [])) bound ops
dated_turn g targets past i marks k bound ops none dated = record {
  begins = λ l n is h. on l n is h (split (length past) n);
  only = λ m o n is h. (
      let was = dated.only m o n is h in
      let early = begun_early g past n was.lun was.begins in
      record {
        lun = was.lun;
        is_lun = was.is_lun;
        begins = begun_more g past i n was.lun (λ e. omega (arith, e, early)) ∙ was.begins;
        began = more m n was.lun was.began;
      }
      );
  ended = dated.ended;
  apart = dated.apart;
}
  where
    more : (m n : ℕ) (l : Lun) → BeganAt marks ops m n l → BeganAt (marks ++ (k ∷ [])) ops m n l
    more m n l was = record {
      operation = was.operation;
      is_there = was.is_there;
      target = was.target;
      lun = was.lun;
      start = was.start;
      mark = kept_mark marks k n m was.mark;
    }

    on : (l : Lun) (n : ℕ) → IsLun g targets l → begun_at g (i ∷ past) n l ≡ true → (length past ≡ n) ⊎ (length past ≡ n → ⊥) → (m : ℕ) × BeganAt (marks ++ (k ∷ [])) ops m n l
    on l n is h (inl same) = absurd (clash (begins_work g past i l) (sym (begun_now g past i n l same) ∙ h) (none l is))
    on l n is h (inr apart) = (let was = dated.begins l n is (sym (begun_more g past i n l apart) ∙ h) in (was.0, more was.0 n l was.1))

-- one that begins work of a LUN, by the operation that it belongs to, where no other is at work
module _ (g : Parts) (targets : ℕ) (past : List Item) (i : Item) (marks : List ℕ) (m n : ℕ) (busy : ℕ → ℕ → Bool) (workers : List (Option ℕ)) (ops : List Operation) (l : Lun) (o : Operation)
    (many : length marks ≡ length past) (number : n ≡ length past) (is_lun : IsLun g targets l) (begins : begins_work g past i l ≡ true)
    (one : (x : Lun) → IsLun g targets x → begins_work g past i x ≡ true → x ≡ l) (is : slice_get ops m ≡ Some o) (on : o.ce ≡ l.ce) (new : is_some o.start ≡ false)
    (rests : busy l.ce l.lun ≡ false) (tells : Tells busy workers ops) (dated : Dated g targets past marks (n + 1) ops) where
  mine : BeganAt (marks ++ (m ∷ [])) (changed_at m (Begin n l.lun) ops) m n l
  mine = at to.is
    where
      to : To m m (Begin n l.lun) ops o
      to = changed_to m m (Begin n l.lun) ops o is

      at : ((m ≡ m) × (to.new ≡ changed (Begin n l.lun) o)) ⊎ ((m ≡ m → ⊥) × (to.new ≡ o)) → BeganAt (marks ++ (m ∷ [])) (changed_at m (Begin n l.lun) ops) m n l
      at (inl both) = record {
        operation = to.new;
        is_there = to.is_there;
        target = ap (λ (z : Operation). z.ce) both.1 ∙ on;
        lun = ap (λ (z : Operation). z.lun) both.1;
        start = ap (λ (z : Operation). z.start) both.1;
        mark = ap (slice_get (marks ++ (m ∷ []))) (number ∙ sym many) ∙ new_mark marks m;
      }
      at (inr away) = absurd (away.0 refl)

  not_mine : (k t : ℕ) (w : Operation) → slice_get ops k ≡ Some w → w.start ≡ Some t → k ≡ m → ⊥
  not_mine k t w there' h e =
      clash (is_some w.start) (ap (λ (z : Option ℕ). is_some z) h) (ap (λ (z : Operation). is_some z.start) (same_some (sym there' ∙ ap (slice_get ops) e ∙ is)) ∙ new)

  theirs : (k t : ℕ) (x : Lun) → BeganAt marks ops k t x → BeganAt (marks ++ (m ∷ [])) (changed_at m (Begin n l.lun) ops) k t x
  theirs k t x was = at to.is
    where
      to : To m k (Begin n l.lun) ops was.operation
      to = changed_to m k (Begin n l.lun) ops was.operation was.is_there

      at : ((k ≡ m) × (to.new ≡ changed (Begin n l.lun) was.operation)) ⊎ ((k ≡ m → ⊥) × (to.new ≡ was.operation)) → BeganAt (marks ++ (m ∷ [])) (changed_at m (Begin n l.lun) ops) k t x
      at (inl both) = absurd (not_mine k t was.operation was.is_there was.start both.0)
      at (inr away) = record {
        operation = to.new;
        is_there = to.is_there;
        target = ap (λ (z : Operation). z.ce) away.1 ∙ was.target;
        lun = ap (λ (z : Operation). z.lun) away.1 ∙ was.lun;
        start = ap (λ (z : Operation). z.start) away.1 ∙ was.start;
        mark = kept_mark marks m t k was.mark;
      }

  begins_all : (x : Lun) (t : ℕ) → IsLun g targets x → begun_at g (i ∷ past) t x ≡ true → (k : ℕ) × BeganAt (marks ++ (m ∷ [])) (changed_at m (Begin n l.lun) ops) k t x
  begins_all x t is_x h = at (split (length past) t)
    where
      at : (length past ≡ t) ⊎ (length past ≡ t → ⊥) → (k : ℕ) × BeganAt (marks ++ (m ∷ [])) (changed_at m (Begin n l.lun) ops) k t x
      at (inl same) =
          let here : x ≡ l = one x is_x (sym (begun_now g past i t x same) ∙ h) in (
            m,
            subst (λ (y : ℕ). BeganAt (marks ++ (m ∷ [])) (changed_at m (Begin n l.lun) ops) m y x) (number ∙ same)
                (subst (λ (y : Lun). BeganAt (marks ++ (m ∷ [])) (changed_at m (Begin n l.lun) ops) m n y) (sym here) mine),
          )
      at (inr apart) = (let was = dated.begins x t is_x (sym (begun_more g past i t x apart) ∙ h) in (was.0, theirs was.0 t x was.1))

  only_all : (k : ℕ) (w : Operation) (t : ℕ) → w.start ≡ Some t → From m k (Begin n l.lun) ops w → BeginsOn g targets (i ∷ past) (marks ++ (m ∷ [])) (changed_at m (Begin n l.lun) ops) k t
  only_all k w t h from = at from.is
    where
      at : ((k ≡ m) × (w ≡ changed (Begin n l.lun) from.old)) ⊎ ((k ≡ m → ⊥) × (w ≡ from.old)) → BeginsOn g targets (i ∷ past) (marks ++ (m ∷ [])) (changed_at m (Begin n l.lun) ops) k t
      at (inl both) =
          let same : n ≡ t = same_some (ap (λ (z : Operation). z.start) (sym both.1) ∙ h) in
          record {
            lun = l;
            is_lun = is_lun;
            begins = begun_now g past i t l (sym number ∙ same) ∙ begins;
            began =
                subst (λ (y : ℕ). BeganAt (marks ++ (m ∷ [])) (changed_at m (Begin n l.lun) ops) y t l) (sym both.0)
                (subst (λ (y : ℕ). BeganAt (marks ++ (m ∷ [])) (changed_at m (Begin n l.lun) ops) m y l) same mine);
          }
      at (inr away) =
          let was = dated.only k w t (from.is_there ∙ ap Some (sym away.1)) h in
          let early = begun_early g past t was.lun was.begins in
          record {
            lun = was.lun;
            is_lun = was.is_lun;
            begins = begun_more g past i t was.lun (λ e. omega (arith, e, early)) ∙ was.begins;
            began = theirs k t was.lun was.began;
          }

  same_end : (k : ℕ) (w : Operation) (from : From m k (Begin n l.lun) ops w) → w.end ≡ from.old.end
  same_end k w from = at from.is
    where
      at : ((k ≡ m) × (w ≡ changed (Begin n l.lun) from.old)) ⊎ ((k ≡ m → ⊥) × (w ≡ from.old)) → w.end ≡ from.old.end
      at (inl both) = ap (λ (z : Operation). z.end) both.1
      at (inr away) = ap (λ (z : Operation). z.end) away.1

  -- an operation that began work of this LUN before has ended
  over : (k s : ℕ) (w : Operation) → slice_get ops k ≡ Some w → w.ce ≡ l.ce → w.lun ≡ Some l.lun → w.start ≡ Some s → EndedBy w n
  over k s w there' ce lun start = at w.end refl
    where
      at : (e : Option Ending) → w.end ≡ e → EndedBy w n
      at None h =
          let place = tells.place k w there' (ap (λ (z : Option ℕ). is_some z) start) (ap (λ (z : Option Ending). is_some z) h) in
          let same : place.lun ≡ l.lun = same_some (sym place.is ∙ lun) in
          absurd (clash (busy w.ce place.lun) place.busy (ap (λ x. busy x place.lun) ce ∙ ap (busy l.ce) same ∙ rests))
      at (Some e) h = record { ending = e; is = h; by = (let low = dated.ended k w e there' h in omega (arith, low)) }

  early : (k t : ℕ) (w : Operation) → slice_get ops k ≡ Some w → w.start ≡ Some t → t < n
  early k t w there' h =
      let was = dated.only k w t there' h in
      let low = begun_early g past t was.lun was.begins in
      let same = number in
      omega (arith, low, same)

  apart_all : (k q : ℕ) (w p : Operation) (s t : ℕ) → From m k (Begin n l.lun) ops w → From m q (Begin n l.lun) ops p → p.ce ≡ w.ce → p.lun ≡ w.lun → w.start ≡ Some s → p.start ≡ Some t → s < t → EndedBy w t
  apart_all k q w p s t from other ce lun a b lt = at from.is other.is
    where
      at : ((k ≡ m) × (w ≡ changed (Begin n l.lun) from.old)) ⊎ ((k ≡ m → ⊥) × (w ≡ from.old)) → ((q ≡ m) × (p ≡ changed (Begin n l.lun) other.old)) ⊎ ((q ≡ m → ⊥) × (p ≡ other.old)) → EndedBy w t
      at (inl both) (inl also) =
          let x : n ≡ s = same_some (ap (λ (z : Operation). z.start) (sym both.1) ∙ a) in
          let y : n ≡ t = same_some (ap (λ (z : Operation). z.start) (sym also.1) ∙ b) in
          absurd (omega (arith, x, y, lt))
      at (inl both) (inr away) =
          let x : n ≡ s = same_some (ap (λ (z : Operation). z.start) (sym both.1) ∙ a) in
          let y = early q t p (other.is_there ∙ ap Some (sym away.1)) b in
          absurd (omega (arith, x, y, lt))
      at (inr away) (inl also) =
          let y : n ≡ t = same_some (ap (λ (z : Operation). z.start) (sym also.1) ∙ b) in
          let same : other.old ≡ o = same_some (sym other.is_there ∙ ap (slice_get ops) also.0 ∙ is) in
          let here : w.ce ≡ l.ce = sym ce ∙ ap (λ (z : Operation). z.ce) also.1 ∙ ap (λ (z : Operation). z.ce) same ∙ on in
          let there' : w.lun ≡ Some l.lun = sym lun ∙ ap (λ (z : Operation). z.lun) also.1 in
          subst (λ (x : ℕ). EndedBy w x) y (over k s w (from.is_there ∙ ap Some (sym away.1)) here there' a)
      at (inr away) (inr far) = dated.apart k q w p s t (from.is_there ∙ ap Some (sym away.1)) (other.is_there ∙ ap Some (sym far.1)) ce lun a b lt

  pub dated_begin : Dated g targets (i ∷ past) (marks ++ (m ∷ [])) (n + 1) (changed_at m (Begin n l.lun) ops)
  dated_begin = record {
    begins = begins_all;
    only = λ k w t there' h. only_all k w t h (changed_from m k (Begin n l.lun) ops w there');
    ended = λ k w e there' h. (let from = changed_from m k (Begin n l.lun) ops w there' in dated.ended k from.old e from.is_there (sym (same_end k w from) ∙ h));
    apart = λ k q w p s t x y ce lun a b lt. apart_all k q w p s t (changed_from m k (Begin n l.lun) ops w x) (changed_from m q (Begin n l.lun) ops p y) ce lun a b lt;
  }
