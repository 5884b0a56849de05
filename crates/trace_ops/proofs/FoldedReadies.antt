-- What a ready of a legal trace of the base profile does to operations that are a part of others: nothing.
use Rattle.std.proofs.Common.{◌≡◌, ◌⊎◌, inl, inr, ℕ, Bool, true, false, ◌&&◌, List, ◌∷◌, Option, Some, None, is_some, sym, ap, ◌∙◌, subst, length}
use Rattle.std.specs.Prelude.{slice_get}
use Rattle.onfi_cycle.specs.declared.item.Item.{Item}
use Rattle.trace_ops.specs.declared.change.Change.{Change}
use Rattle.trace_ops.specs.declared.change.Change.TheVariants.{LoneReady}
use Rattle.trace_ops.specs.declared.judged.Judged.{Judged}
use Rattle.trace_ops.specs.declared.operation.Operation.{Operation}
use Rattle.trace_ops.specs.Operation.{is_clean, changed, changed_at}
use Rattle.trace_ops.specs.Listing.{Listing, found, op_of, new_one, with_new, change_of, unfolded, all_begun, all_selected, with_ends, with_polls, owner_in, mark_in, listed}
use Rattle.trace_ops.proofs.Asking.{Asking}
use Rattle.trace_ops.proofs.Chains.{new_parent}
use Rattle.trace_ops.proofs.Domestic.{Every, every_at, every_new, Domestic}
use Rattle.trace_ops.proofs.Parted.{Part, Parted, parted_at}
use Rattle.trace_ops.proofs.Pieces.{listed_newest}
use Rattle.trace_ops.proofs.Quiet.{is_plain, plain_ends, plain_unfold, plain_polls, plain_ready}
use Rattle.trace_ops.proofs.Readies.{IsReady, all_same, more_alike}
use Rattle.trace_ops.proofs.Spans.{which}
use Rattle.trace_ops.proofs.Unstarted.{Unstarted, unstarted_ends}
use Rattle.trace_ops.proofs.Walks.{came}
use Rattle.onfi_cycle.specs.Sequence.{tail}

off : false ≡ true → ⊥
off e = cc

and_true : (a b : Bool) → a ≡ true → b ≡ true → (a && b) ≡ true
and_true true b p q = q
and_true false b p q = cc

-- the item is no cycle, and clean
pub record IsLone (j : Judged) : Type 0 where
  pub ready : IsReady j
  pub said : is_clean j.said ≡ true
  pub change : (owner : Option ℕ) → change_of owner j j.item ≡ LoneReady j.number j.said
  pub new : (newest : Option Operation) → (new_one j newest j.item).is_clean ≡ true

module _ (j : Judged) (l : Listing) (past : List Item) (i : Item) (lone : IsLone j) (tails : (d : ℕ) → tail (i ∷ past) d ≡ tail past d) (known : Every (λ k. Domestic) l.ops)
    (all : Every (Parted l.places.newest past (Unstarted l.ops)) l.ops) where
  abbrev owner : Option ℕ
  owner = owner_in j (with_ends j l)

  abbrev mark : ℕ
  mark = mark_in j (with_ends j l)

  abbrev newcomer : Operation
  newcomer = new_one j (op_of (with_ends j l).ops (found l.places.newest j.ce)) j.item

  abbrev more : List Operation
  more = (with_new owner j (with_ends j l)).ops

  abbrev All : List Operation → Type 0
  All ops = Every (Parted l.places.newest past (Unstarted l.ops)) ops

  step : (m : ℕ) (c : Change) (ops : List Operation) → is_plain c ≡ true → All ops → All (changed_at m c ops)
  step = parted_at l.places.newest past (Unstarted l.ops)

  no_parent : (x : Option ℕ) → x ≡ None → is_some x ≡ true → ⊥
  no_parent None e h = off h
  no_parent (Some m) e h = cc

  new_all : (x : Option ℕ) → All (with_ends j l).ops → All (with_new x j (with_ends j l)).ops
  new_all (Some m) ends = ends
  new_all None ends =
      every_new (Parted l.places.newest past (Unstarted l.ops)) (with_ends j l).ops newcomer ends
      (lone.new (op_of (with_ends j l).ops (found l.places.newest j.ce)), (λ h. absurd (no_parent newcomer.parent (new_parent j (op_of (with_ends j l).ops (found l.places.newest j.ce)) j.item) h)))

  lone_part : (k : ℕ) (o : Operation) → Part l.places.newest past (Unstarted l.ops) k o → Part l.places.newest past (Unstarted l.ops) k (changed (LoneReady j.number j.said) o)
  lone_part k o p = record { kind = p.kind; unclosed = p.unclosed; rests = p.rests; asking = p.asking }

  came_all : All (came j l).ops
  came_all =
      subst (λ (c : Change). All (changed_at mark c (unfolded j mark more))) (sym (lone.change owner))
      (every_at (Parted l.places.newest past (Unstarted l.ops)) (Parted l.places.newest past (Unstarted l.ops)) mark (LoneReady j.number j.said) (unfolded j mark more) (λ k o away d. d)
      (λ o is d. (and_true o.is_clean (is_clean j.said) d.0 lone.said, (λ h. lone_part mark o (d.1 h))))
      (plain_unfold All step j mark more (new_all owner (plain_ends All step j l.places l.ops all))))

  listed_all : All (listed j l).ops
  listed_all =
      let selected = all_selected j mark (all_begun j mark (came j l)) in
      plain_ready All step j mark (with_polls j mark selected) (plain_polls All step j mark selected (subst (λ (x : Listing). All x.ops) (sym (all_same j l lone.ready)) came_all))

  rests_new : (k : ℕ) (x : Option ℕ) → Unstarted (with_ends j l).ops k → Unstarted (with_new x j (with_ends j l)).ops k
  rests_new k (Some m) rests = rests
  rests_new k None rests = λ w is. at w (which (with_ends j l).ops newcomer k w is)
    where
      at : (w : Operation) → (slice_get (with_ends j l).ops k ≡ Some w) ⊎ ((k ≡ length (with_ends j l).ops) × (w ≡ newcomer)) → is_some w.start ≡ false
      at w (inl old) = rests w old
      at w (inr new) = ap (λ (z : Operation). is_some z.start) new.1 ∙ ap (λ (x : Option ℕ). is_some x) (lone.ready.start (op_of (with_ends j l).ops (found l.places.newest j.ce)))

  rests_listed : (k : ℕ) → Unstarted l.ops k → Unstarted (listed j l).ops k
  rests_listed k rests w is =
      let back = (more_alike j l lone.ready known).back k w is in
      ap (λ (x : Option ℕ). is_some x) back.core.start ∙ rests_new k owner (unstarted_ends k j l.places l.ops rests) back.old back.is_there

  newest_same : (listed j l).places.newest ≡ l.places.newest
  newest_same = listed_newest j l ∙ lone.ready.newest owner j.ce (length (with_ends j l).ops) l.places.newest

  pub ready_parted : Every (Parted (listed j l).places.newest (i ∷ past) (Unstarted (listed j l).ops)) (listed j l).ops
  ready_parted k o is = (was.0, (λ h. part (was.1 h)))
    where
      was : Parted l.places.newest past (Unstarted l.ops) k o
      was = listed_all k o is

      part : Part l.places.newest past (Unstarted l.ops) k o → Part (listed j l).places.newest (i ∷ past) (Unstarted (listed j l).ops) k o
      part p = record {
        kind = p.kind;
        unclosed = p.unclosed;
        rests = rests_listed k p.rests;
        asking = λ d newest. subst Asking (sym (tails d)) (p.asking d (ap (λ (ns : List (Option ℕ)). found ns d) (sym newest_same) ∙ newest));
      }
