-- What leaves an operation without work: all but the beginning of its own.
use Rattle.std.proofs.Common.{◌≡◌, ◌⊎◌, inl, inr, ℕ, ◌==◌, Bool, true, false, cond, List, Option, Some, None, is_some, ap, ◌∙◌}
use Rattle.std.specs.Prelude.{slice_get}
use Rattle.trace_ops.specs.declared.change.Change.TheVariants.{End, Begin}
use Rattle.trace_ops.specs.declared.judged.Judged.{Judged}
use Rattle.trace_ops.specs.declared.operation.Ending.{Ending}
use Rattle.trace_ops.specs.declared.operation.Ending.TheVariants as ends
use Rattle.trace_ops.specs.declared.operation.Operation.{Operation}
use Rattle.trace_ops.specs.declared.places.Places.{Places}
use Rattle.trace_ops.specs.Operation.{changed, changed_at}
use Rattle.trace_ops.specs.Listing.{Listing, worker, end_by, ended_if, all_ended, starts_on, abandoned_by, begun_on, all_begun}
use Rattle.trace_ops.proofs.AtWork.{From, changed_from}
use Rattle.trace_ops.proofs.Turns.{ended_start}

-- the operation of this number has begun no work
abbrev pub Unstarted : List Operation → ℕ → Type 0
Unstarted ops k = (o : Operation) → slice_get ops k ≡ Some o → is_some o.start ≡ false

pub unstarted_end : (k m : ℕ) (e : Ending) (ops : List Operation) → Unstarted ops k → Unstarted (changed_at m (End e) ops) k
unstarted_end k m e ops rests w is = at from.is
  where
    from : From m k (End e) ops w
    from = changed_from m k (End e) ops w is

    at : ((k ≡ m) × (w ≡ changed (End e) from.old)) ⊎ ((k ≡ m → ⊥) × (w ≡ from.old)) → is_some w.start ≡ false
    at (inl both) = ap (λ (z : Operation). is_some z.start) both.1 ∙ ap (λ (x : Option ℕ). is_some x) (ended_start e from.old) ∙ rests from.old from.is_there
    at (inr other) = ap (λ (z : Operation). is_some z.start) other.1 ∙ rests from.old from.is_there

unstarted_begin : (k m n lun : ℕ) (ops : List Operation) → (k ≡ m → ⊥) → Unstarted ops k → Unstarted (changed_at m (Begin n lun) ops) k
unstarted_begin k m n lun ops away rests w is = at from.is
  where
    from : From m k (Begin n lun) ops w
    from = changed_from m k (Begin n lun) ops w is

    at : ((k ≡ m) × (w ≡ changed (Begin n lun) from.old)) ⊎ ((k ≡ m → ⊥) × (w ≡ from.old)) → is_some w.start ≡ false
    at (inl both) = absurd (away both.0)
    at (inr other) = ap (λ (z : Operation). is_some z.start) other.1 ∙ rests from.old from.is_there

either : (k : ℕ) (b : Bool) (x y : List Operation) → Unstarted x k → Unstarted y k → Unstarted (cond b x y) k
either k true x y p q = p
either k false x y p q = q

unstarted_abandon : (k : ℕ) (j : Judged) (mark : ℕ) (w : Option ℕ) (ops : List Operation) → Unstarted ops k → Unstarted (abandoned_by j mark w ops) k
unstarted_abandon k j mark None ops rests = rests
unstarted_abandon k j mark (Some old) ops rests = either k (old == mark) ops _ rests (unstarted_end k old (ends.Abandoned j.number) ops rests)

unstarted_on : (k : ℕ) (j : Judged) (mark lun : ℕ) (l : Listing) → (k ≡ mark → ⊥) → Unstarted l.ops k → Unstarted (begun_on j mark lun l).ops k
unstarted_on k j mark lun l away rests =
    at (starts_on j lun mark l.ops) _ l (unstarted_begin k mark j.number lun _ away (unstarted_abandon k j mark (worker l.places j.ce lun) l.ops rests)) rests
  where
    at : (b : Bool) (x y : Listing) → Unstarted x.ops k → Unstarted y.ops k → Unstarted (cond b x y).ops k
    at true x y p q = p
    at false x y p q = q

-- another operation begins work
pub unstarted_begins : (k : ℕ) (j : Judged) (mark : ℕ) (l : Listing) → (k ≡ mark → ⊥) → Unstarted l.ops k → Unstarted (all_begun j mark l).ops k
unstarted_begins k j mark l away rests =
    unstarted_on k j mark 3 _ away (unstarted_on k j mark 2 _ away (unstarted_on k j mark 1 _ away (unstarted_on k j mark 0 l away rests)))

unstarted_if : (k : ℕ) (e : Option Ending) (at : Option ℕ) (ops : List Operation) → Unstarted ops k → Unstarted (ended_if e at ops) k
unstarted_if k None at ops rests = rests
unstarted_if k (Some e) None ops rests = rests
unstarted_if k (Some e) (Some m) ops rests = unstarted_end k m e ops rests

-- work ends
pub unstarted_ends : (k : ℕ) (j : Judged) (places : Places) (ops : List Operation) → Unstarted ops k → Unstarted (all_ended j places ops) k
unstarted_ends k j places ops rests =
    unstarted_if k (end_by j j.item 3) (worker places j.ce 3) _ (unstarted_if k (end_by j j.item 2) (worker places j.ce 2) _
    (unstarted_if k (end_by j j.item 1) (worker places j.ce 1) _ (unstarted_if k (end_by j j.item 0) (worker places j.ce 0) ops rests)))
