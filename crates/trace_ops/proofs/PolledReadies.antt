-- What a ready does to the operations of a target whose host polls: nothing.
use Rattle.std.proofs.Common.{◌≡◌, ℕ, ◌+◌, ◌==◌, Bool, true, false, ◌&&◌, cond, List, ◌∷◌, Option, Some, None, refl, sym, ap, ◌∙◌, subst, arith, length}
use Rattle.std.specs.Prelude.{slice_get}
use Rattle.nand_geometry.specs.declared.parts.Parts.{Parts}
use Rattle.onfi_cycle.specs.declared.effect.Effect.TheVariants.{Unaffected, BecameReady, ArrayBecameReady}
use Rattle.onfi_cycle.specs.declared.item.Failures.{Failures}
use Rattle.onfi_cycle.specs.declared.item.Item.{Item}
use Rattle.onfi_cycle.specs.declared.item.Item.TheVariants.{Rdy, Ard}
use Rattle.onfi_cycle.specs.Lun.{latch, latch_after}
use Rattle.trace_ops.specs.declared.change.Change.{Change}
use Rattle.trace_ops.specs.declared.change.Change.TheVariants.{LoneReady, Unfold}
use Rattle.trace_ops.specs.declared.judged.Judged.{Judged}
use Rattle.trace_ops.specs.declared.operation.Operation.{Operation}
use Rattle.trace_ops.specs.declared.places.Places.{Places}
use Rattle.trace_ops.specs.Operation.{changed_at}
use Rattle.trace_ops.specs.Listing.{Listing, found, with_new, is_alone_op, unfolded, all_begun, all_selected, polled, with_ends, with_polls, owner_in, mark_in, listed}
use Rattle.trace_ops.specs.Polling.{Sequence, Doing, doing_after}
use Rattle.trace_ops.proofs.AtWork.{worker_in}
use Rattle.trace_ops.proofs.Domestic.{Every}
use Rattle.trace_ops.proofs.FoldedReadies.{IsLone}
use Rattle.trace_ops.proofs.Gently.{Lasts, gently, gentle_ends, gentle_ready}
use Rattle.trace_ops.proofs.Legal.{at_lun}
use Rattle.trace_ops.proofs.Pieces.{listed_newest}
use Rattle.trace_ops.proofs.Polled.{Fits, fits_last, fits_skip}
use Rattle.trace_ops.proofs.PolledItems.{Polls}
use Rattle.trace_ops.proofs.Readies.{all_same, workers_after}
use Rattle.trace_ops.proofs.Walks.{came, length_came, length_listed, new_many}

pub ready_shows : (g : Parts) (past : List Item) (ce lun : ℕ) (fail : Failures) (at : ℕ) → latch g (Rdy ce lun fail ∷ past) (at_lun at 0) ≡ latch g past (at_lun at 0)
ready_shows g past ce lun fail at = by _ _ (ce == at && lun == 0)
  where
    by : (selected working b : Bool) → latch_after (cond b (BecameReady fail) Unaffected) selected working (latch g past (at_lun at 0)) ≡ latch g past (at_lun at 0)
    by selected working true = refl
    by selected working false = refl

pub array_ready_shows : (g : Parts) (past : List Item) (ce lun : ℕ) (fail : Bool) (at : ℕ) → latch g (Ard ce lun fail ∷ past) (at_lun at 0) ≡ latch g past (at_lun at 0)
array_ready_shows g past ce lun fail at = by _ _ (ce == at && lun == 0)
  where
    by : (selected working b : Bool) → latch_after (cond b (ArrayBecameReady fail) Unaffected) selected working (latch g past (at_lun at 0)) ≡ latch g past (at_lun at 0)
    by selected working true = refl
    by selected working false = refl

module _ (j : Judged) (l : Listing) (lone : IsLone j) (quiet : (k : ℕ) (p : Places) (ops : List Operation) → polled j k j.item p ops ≡ ops) (m : ℕ) (owned : owner_in j (with_ends j l) ≡ Some m) where
  abbrev owner : Option ℕ
  owner = owner_in j (with_ends j l)

  abbrev mark : ℕ
  mark = mark_in j (with_ends j l)

  abbrev more : List Operation
  more = (with_new owner j (with_ends j l)).ops

  settled : (D : ℕ → Operation → Type 0) → Lasts D → Every D l.ops → Every D (listed j l).ops
  settled D lasts all =
      let step = gently D lasts in
      let chosen = all_selected j mark (all_begun j mark (came j l)) in
      gentle_ready (Every D) step j mark (with_polls j mark chosen)
      (subst (Every D) (sym (quiet mark chosen.places chosen.ops)) (subst (λ (x : Listing). Every D x.ops) (sym (all_same j l lone.ready)) came_all))
    where
      more_all : Every D more
      more_all = by owner owned
        where
          by : (x : Option ℕ) → x ≡ Some m → Every D (with_new x j (with_ends j l)).ops
          by (Some k) e = gentle_ends (Every D) (gently D lasts) j l.places l.ops all
          by None e = cc

      open' : Every D (unfolded j mark more)
      open' = subst (λ b. Every D (cond (b && is_alone_op (slice_get more mark)) (changed_at mark Unfold more) more)) (sym lone.ready.address) more_all

      came_all : Every D (came j l).ops
      came_all = subst (λ (c : Change). Every D (changed_at mark c (unfolded j mark more))) (sym (lone.change owner)) (gently D lasts mark (LoneReady j.number j.said) (unfolded j mark more) refl open')

  pub ready_polls : (g : Parts) (ce : ℕ) (past : List Item) (i : Item) (items : List Item) (told : List (Option Sequence)) (d : Doing) (at : ℕ) → doing_after ce i d ≡ Some d → latch g (i ∷ past) (at_lun ce 0) ≡ latch g past (at_lun ce 0) →
      Polls g ce past (i ∷ items) l told d at → Polls g ce (i ∷ past) items (listed j l) told d at
  ready_polls g ce past i items told d at still shows was = record {
    fits = settled (Fits d ce at items told) (fits_last d ce at items told) (λ k o is. fits_skip d ce at i items told still k o (was.fits k o is));
    long = (let one = length_listed j l in let two = length_came j l in let three = ap (λ x. length l.ops + new_many x) owned in let long = was.long in omega (arith, one, two, three, long));
    newest = λ h. ap (λ (ns : List (Option ℕ)). found ns ce) (listed_newest j l ∙ lone.ready.newest owner j.ce (length (with_ends j l).ops) l.places.newest) ∙ was.newest h;
    worker = λ h. ap (λ (ws : List (Option ℕ)). worker_in ws ce 0) (workers_after j l lone.ready) ∙ was.worker h;
    shows = λ h. shows ∙ was.shows h;
  }
