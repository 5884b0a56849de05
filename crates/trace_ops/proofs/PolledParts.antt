-- A question of a host that polls, or a 00h by which it goes back to data: an operation more, which becomes a part of the last work.
use Rattle.std.proofs.Common.{◌≡◌, ℕ, ◌<◌, Bool, true, false, not, cond, List, [], ◌∷◌, ◌++◌, Option, Some, None, is_some, refl, sym, ap, ◌∙◌, subst, arith, length, ne_eqb}
use Rattle.std.specs.Prelude.{slice_get}
use Rattle.std.proofs.lemmas.Option.{slice_get_within}
use Rattle.nand_geometry.specs.declared.parts.Parts.{Parts}
use Rattle.onfi_cycle.specs.declared.item.Cycle.{Cycle as BusCycle}
use Rattle.onfi_cycle.specs.declared.item.Item.{Item}
use Rattle.onfi_cycle.specs.declared.item.Item.TheVariants.{Cyc}
use Rattle.onfi_cycle.specs.declared.item.Kind.TheVariants.{Cmd}
use Rattle.onfi_cycle.specs.declared.target_cycle.TargetCycle.{TargetCycle}
use Rattle.trace_ops.specs.declared.change.Change.TheVariants.{Opened, SetLun, Fold}
use Rattle.trace_ops.specs.declared.judged.Judged.{Judged}
use Rattle.trace_ops.specs.declared.looks.Looks.{Looks}
use Rattle.trace_ops.specs.declared.operation.Operation.{Operation}
use Rattle.trace_ops.specs.Operation.{changed, changed_at}
use Rattle.trace_ops.specs.Listing.{Listing, op_of, number_of, with_new, change_of, is_unshown, folded_into, with_ends, owner_in, mark_in, opens_alone}
use Rattle.trace_ops.specs.Polling.{Sequence, Doing, is_sending}
use Rattle.trace_ops.proofs.Changed.{there}
use Rattle.trace_ops.proofs.Cycles.{CycleAt}
use Rattle.trace_ops.proofs.Domestic.{Every, every_at, every_new}
use Rattle.trace_ops.proofs.Gently.{Lasts, gently}
use Rattle.trace_ops.proofs.Legal.{permitted_as}
use Rattle.trace_ops.proofs.Owned.{new}
use Rattle.trace_ops.proofs.Pieces.{found_below}
use Rattle.trace_ops.proofs.Polled.{Fits, is_unseen, fits_last, fits_more, told_last}
use Rattle.trace_ops.proofs.PolledItems.{has_worked, Polls, ends_settled}
use Rattle.trace_ops.proofs.Walks.{came, length_ends, length_came}

no : true ≡ false → ⊥
no e = cc

-- ---- an operation more, which is no work

module _ (g : Parts) (targets n : ℕ) (one_lun : Bool) (past : List Item) (marks : List ℕ) (ce byte : ℕ) (before after : Looks) (l : Listing) (pieces : ℕ → List TargetCycle)
    (here : CycleAt g targets n past marks (record { ce = ce; kind = Cmd; byte = byte }) before after l pieces) (opens' : opens_alone byte ≡ true)
    (items : List Item) (told : List (Option Sequence)) (d next : Doing) (at : ℕ) (was : Polls g ce past (Cyc (record { ce = ce; kind = Cmd; byte = byte }) ∷ items) l told d at)
    (weaker : (k : ℕ) (o : Operation) → Fits d ce at (Cyc (record { ce = ce; kind = Cmd; byte = byte }) ∷ items) told k o → Fits next ce at items told k o) (rests : is_sending next ≡ false) (worked : has_worked d ≡ true) where
  abbrev c : BusCycle
  c = record { ce = ce; kind = Cmd; byte = byte }

  abbrev j : Judged
  j = permitted_as one_lun n (Cyc c) before after

  abbrev owner : Option ℕ
  owner = owner_in j (with_ends j l)

  abbrev mark : ℕ
  mark = mark_in j (with_ends j l)

  abbrev many : ℕ
  many = length (with_ends j l).ops

  abbrev more : List Operation
  more = (with_new owner j (with_ends j l)).ops

  abbrev later : List (Option Sequence)
  later = told ++ (None ∷ [])

  abbrev pub Asked : ℕ → Operation → Type 0
  Asked = Fits next ce at items later

  -- all but the new one
  abbrev pub Others : ℕ → Operation → Type 0
  Others k o = (k ≡ mark → ⊥) → Asked k o

  owner_none : owner ≡ None
  owner_none = (new g targets n one_lun past marks c before after l pieces here opens').0

  mark_many : mark ≡ many
  mark_many = ap (λ (x : Option ℕ). number_of x (with_ends j l).ops) owner_none

  many_is : mark ≡ length told
  many_is = (let same = length_ends j l in let long = was.long in let m = mark_many in omega (arith, same, long, m))

  pub at_small : at < length l.ops
  at_small = found_below (length l.ops) l.places.workers _ at here.within.workers (was.worker worked)

  pub at_away : at ≡ mark → ⊥
  at_away e = (let small = at_small in let same = length_ends j l in let m = mark_many in omega (arith, small, same, m, e))

  others_last : Lasts Others
  others_last = record { on = λ k old new kept f away. (fits_last next ce at items later).on k old new kept (f away) }

  asked_ends : Every Asked (with_ends j l).ops
  asked_ends k o is =
      let small = slice_get_within (with_ends j l).ops k o is in
      let same = length_ends j l in
      let long = was.long in
      fits_more next ce at items told None k o (omega (arith, small, same, long))
      (ends_settled g targets n one_lun past marks c before after l pieces here (Fits next ce at items told) (fits_last next ce at items told) (λ k o is. weaker k o (was.fits k o is)) k o is)

  others_more : Every Others more
  others_more = by_owner owner owner_none
    where
      by_owner : (x : Option ℕ) → x ≡ None → Every Others (with_new x j (with_ends j l)).ops
      by_owner None h = every_new Others (with_ends j l).ops _ (λ k o is away. asked_ends k o is) (λ away. absurd (away (sym mark_many)))
      by_owner (Some m) h = cc

  pub others_came : Every Others (came j l).ops
  others_came =
      subst (λ (x : Option ℕ). Every Others (changed_at mark (change_of x j (Cyc c)) more)) (sym owner_none)
      (gently Others others_last mark (Opened n j.said) more refl others_more)

  -- the new one, once it is a part
  asked_new : (o : Operation) → is_some o.parent ≡ true → Asked mark o
  asked_new o part = record {
    work = λ w t. absurd (untold w t);
    closed = λ w t open'. absurd (untold w t);
    part = λ own t. part;
    current = λ w s p. absurd (no (sym (ap is_sending s) ∙ rests));
    unseen = λ u p. absurd (at_away (sym p));
  }
    where
      untold : (w : Sequence) → slice_get later mark ≡ Some (Some w) → ⊥
      untold w t = none (told_last told None (Some w) mark many_is t)
        where
          none : {v : Sequence} → Some v ≡ None → ⊥
          none h = cc

  pub asked_folded : (ops : List Operation) → Every Others ops → Every Asked (changed_at mark (Fold at) (changed_at mark (SetLun 0) ops))
  asked_folded ops all =
      every_at Others Asked mark (Fold at) (changed_at mark (SetLun 0) ops) (λ k o away f. f away) (λ o is f. asked_new (changed (Fold at) o) refl)
      (gently Others others_last mark (SetLun 0) ops refl all)

  -- the worker has given no byte that says ready
  pub unshown : is_unseen next ≡ true → is_unshown (op_of (came j l).ops (Some at)) ≡ true
  unshown u =
      let longer = length_came j l in
      let small = at_small in
      let q = there (came j l).ops at (omega (arith, longer, small)) in
      let fit = others_came at q.0 q.1 at_away in
      ap is_unshown q.1 ∙ ap not (fit.unseen u refl).1

  pub folds : (ops : List Operation) → folded_into mark (Some at) ops ≡ changed_at mark (Fold at) ops
  folds ops = ap (λ b. cond b ops (changed_at mark (Fold at) ops)) (ne_eqb at mark at_away)
