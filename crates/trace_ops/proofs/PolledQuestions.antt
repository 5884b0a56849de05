-- The question of a host that polls is a part of the last work.
use Rattle.std.proofs.Common.{◌≡◌, ℕ, ◌<◌, Bool, true, false, cond, List, [], ◌∷◌, ◌++◌, Option, Some, None, refl, sym, ap, ◌∙◌, subst, length}
use Rattle.std.specs.Prelude.{slice_get}
use Rattle.nand_geometry.specs.declared.parts.Parts.{Parts}
use Rattle.onfi_cycle.specs.declared.target_cycle.TargetCycle.TheVariants.{CommandCycle}
use Rattle.onfi_cycle.specs.declared.command.Command.{Command}
use Rattle.onfi_cycle.specs.declared.command.Command.TheVariants.{ReadStatus}
use Rattle.onfi_cycle.specs.declared.item.Cycle.{Cycle as BusCycle}
use Rattle.onfi_cycle.specs.declared.item.Item.{Item}
use Rattle.onfi_cycle.specs.declared.item.Item.TheVariants.{Cyc}
use Rattle.onfi_cycle.specs.declared.item.Kind.TheVariants.{Cmd}
use Rattle.onfi_cycle.specs.declared.target_cycle.TargetCycle.{TargetCycle}
use Rattle.onfi_cycle.specs.Permitted.{broken}
use Rattle.onfi_cycle.proofs.CommandBytes.{commands_have_bytes}
use Rattle.trace_faults.specs.declared.readies.Readies.TheVariants.{Written}
use Rattle.trace_faults.specs.Middle.{Seen, seen_after}
use Rattle.trace_faults.specs.Outside.{begins_alone}
use Rattle.trace_ops.specs.declared.change.Change.TheVariants.{SetLun, Fold}
use Rattle.trace_ops.specs.declared.judged.Judged.{Judged}
use Rattle.trace_ops.specs.declared.looks.Looks.{Looks}
use Rattle.trace_ops.specs.declared.operation.Operation.{Operation}
use Rattle.trace_ops.specs.Operation.{changed_at}
use Rattle.trace_ops.specs.LastWork.{question}
use Rattle.trace_ops.specs.Listing.{Listing, worker, op_of, all_begun, looks_of, is_unshown, folded_into, folded_if, with_ends, mark_in, listed, opens_alone}
use Rattle.trace_ops.specs.Openings.{opens}
use Rattle.trace_ops.specs.Polling.{Work, Sequence, Doing, Asks, is_sending}
use Rattle.trace_ops.proofs.AtWork.{worker_in}
use Rattle.trace_ops.proofs.Chains.{small_came}
use Rattle.trace_ops.proofs.Changed.{there}
use Rattle.trace_ops.proofs.Cycles.{CycleAt, begins_nothing}
use Rattle.trace_ops.proofs.Domestic.{Every}
use Rattle.trace_ops.proofs.Legal.{permitted_as, is_narrow}
use Rattle.trace_ops.proofs.Polled.{Fits, is_unseen, fits_asks}
use Rattle.trace_ops.proofs.PolledItems.{told_after, has_worked, Polls, long_after}
use Rattle.trace_ops.proofs.PolledParts.{others_came, asked_folded, unshown, folds}
use Rattle.trace_ops.proofs.Questions.{final, none_begins, workers_same, shows_status}
use Rattle.trace_ops.proofs.Quietly.{selects_workers}
use Rattle.trace_ops.proofs.Tails.{target_below}
use Rattle.trace_ops.proofs.Walked.{Walked, cycle_at}
use Rattle.trace_ops.proofs.Walks.{came}

module _ (g : Parts) (targets n : ℕ) (seen : Seen) (past : List Item) (marks : List ℕ) (l : Listing) (pieces : ℕ → List TargetCycle) (walked : Walked g targets n seen past marks l pieces)
    (one_lun : Bool) (ce : ℕ) (later : List Item) (h : broken g targets past (question ce) ≡ None) (some : 0 < g.luns)
    (told : List (Option Sequence)) (d : Doing) (w : Work) (at : ℕ) (was : Polls g ce past (question ce ∷ later) l told d at) (rests : is_sending d ≡ false) (unseen' : is_unseen d ≡ true) (worked : has_worked d ≡ true) where
  abbrev c : BusCycle
  c = record { ce = ce; kind = Cmd; byte = 0x70 }

  abbrev before : Looks
  before = looks_of seen.state.bus ce

  abbrev after : Looks
  after = looks_of (seen_after Written seen (Cyc c) later).state.bus ce

  abbrev j : Judged
  j = permitted_as one_lun n (Cyc c) before after

  abbrev mark : ℕ
  mark = mark_in j (with_ends j l)

  here : CycleAt g targets n past marks c before after l pieces
  here = cycle_at g targets n seen past marks l pieces walked c later h

  opens' : opens_alone 0x70 ≡ true
  opens' = ap (λ (x : Command). begins_alone (CommandCycle x)) (commands_have_bytes.command_of_byte ReadStatus 0x70 refl)

  weaker : (k : ℕ) (o : Operation) → Fits d ce at (Cyc c ∷ later) told k o → Fits (Asks w) ce at later told k o
  weaker = fits_asks d (Asks w) ce at (Cyc c ∷ later) later told rests unseen' refl

  there_is : (o : Operation) × (slice_get (came j l).ops mark ≡ Some o)
  there_is = there (came j l).ops mark (small_came j l walked.within)

  same_workers : (came j l).places.workers ≡ l.places.workers
  same_workers = workers_same g targets n seen past marks l pieces walked one_lun ce later h

  worker_is : worker (came j l).places ce 0 ≡ Some at
  worker_is = ap (λ (ws : List (Option ℕ)). worker_in ws ce 0) same_workers ∙ was.worker worked

  abbrev asked : Option ℕ → List Operation
  asked x = folded_if (is_unshown (op_of (came j l).ops x)) mark x (changed_at mark (SetLun 0) (came j l).ops)

  ops_are : (listed j l).ops ≡ changed_at mark (Fold at) (changed_at mark (SetLun 0) (came j l).ops)
  ops_are =
      final g targets n seen past marks l pieces walked one_lun ce later h (target_below g targets past c h) some there_is.0 there_is.1 ∙ ap asked worker_is
      ∙ ap (λ b. cond b (folded_into mark (Some at) (changed_at mark (SetLun 0) (came j l).ops)) (changed_at mark (SetLun 0) (came j l).ops))
      (unshown g targets n one_lun past marks ce 0x70 before after l pieces here opens' later told d (Asks w) at was weaker refl worked refl)
      ∙ folds g targets n one_lun past marks ce 0x70 before after l pieces here opens' later told d (Asks w) at was weaker refl worked _

  pub own_question : (x : Option Sequence) → x ≡ None → Polls g ce (Cyc c ∷ past) later (listed j l) (told_after (opens (Cyc c)) x told) (Asks w) at
  own_question x none = subst (λ (y : Option Sequence). Polls g ce (Cyc c ∷ past) later (listed j l) (told_after (opens (Cyc c)) y told) (Asks w) at) (sym none)
      (subst (λ b. Polls g ce (Cyc c ∷ past) later (listed j l) (told_after b None told) (Asks w) at) (sym opens') (record {
        fits =
            subst (λ (ops : List Operation). Every (Fits (Asks w) ce at later (told ++ (None ∷ []))) ops) (sym ops_are)
            (asked_folded g targets n one_lun past marks ce 0x70 before after l pieces here opens' later told d (Asks w) at was weaker refl worked (came j l).ops
            (others_came g targets n one_lun past marks ce 0x70 before after l pieces here opens' later told d (Asks w) at was weaker refl worked));
        long = ap (λ b. length (told_after b None told)) (sym opens') ∙ long_after g targets n one_lun past marks c before after l pieces here told None was.long;
        newest = λ e. cc;
        worker = λ e. (
            ap (λ (ws : List (Option ℕ)). worker_in ws ce 0)
            (selects_workers j mark (all_begun j mark (came j l))
            ∙ ap (λ (x : Listing). x.places.workers)
            (begins_nothing g targets n one_lun past marks c before after l pieces here (none_begins g targets n seen past marks l pieces walked one_lun ce later h)))
            ∙ worker_is
            );
        shows = λ e. shows_status g past ce (is_narrow g walked.base);
      }))
