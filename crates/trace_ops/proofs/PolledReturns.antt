-- The 00h by which a host that polls goes back to data is a part of the last work.
use Rattle.std.proofs.Common.{◌≡◌, ℕ, ◌<◌, ◌==◌, Bool, true, false, ◌&&◌, cond, List, [], ◌∷◌, ◌++◌, Option, Some, None, refl, sym, ap, ◌∙◌, subst, arith, length, ltb, lt-ltb, ltb-true, eq-eqb}
use Rattle.std.specs.Prelude.{slice_get}
use Rattle.std.proofs.lemmas.Bool.{and_right, false_from_ne_true}
use Rattle.nand_geometry.specs.declared.parts.Parts.{Parts}
use Rattle.onfi_cycle.specs.declared.command.Command.{Command}
use Rattle.onfi_cycle.specs.declared.command.Command.TheVariants.{Read}
use Rattle.onfi_cycle.specs.declared.item.Cycle.{Cycle as BusCycle}
use Rattle.onfi_cycle.specs.declared.item.Item.{Item}
use Rattle.onfi_cycle.specs.declared.item.Item.TheVariants.{Cyc}
use Rattle.onfi_cycle.specs.declared.item.Kind.TheVariants.{Cmd}
use Rattle.onfi_cycle.specs.declared.latch.Latch.{Latch}
use Rattle.onfi_cycle.specs.declared.latch.Latch.TheVariants.{Status, Data}
use Rattle.onfi_cycle.specs.declared.target_cycle.TargetCycle.{TargetCycle}
use Rattle.onfi_cycle.specs.declared.target_cycle.TargetCycle.TheVariants.{CommandCycle}
use Rattle.onfi_cycle.specs.Command.{command}
use Rattle.onfi_cycle.specs.Effect.{cycle_effect}
use Rattle.onfi_cycle.specs.Look.{look_at as look_of, look_after}
use Rattle.onfi_cycle.specs.Lun.{latch, latch_after, lun_view}
use Rattle.onfi_cycle.specs.Permitted.{broken}
use Rattle.onfi_cycle.specs.Sequence.{tail, facts_of}
use Rattle.onfi_cycle.proofs.Booleans.{clash}
use Rattle.onfi_cycle.proofs.CommandBytes.{commands_have_bytes}
use Rattle.onfi_cycle.proofs.Following.{looked_is_look}
use Rattle.trace_faults.specs.declared.readies.Readies.TheVariants.{Written}
use Rattle.trace_faults.specs.Middle.{Seen, seen_after}
use Rattle.trace_faults.specs.Outside.{begins_alone}
use Rattle.trace_ops.specs.declared.change.Change.TheVariants.{SetLun, Fold}
use Rattle.trace_ops.specs.declared.judged.Judged.{Judged}
use Rattle.trace_ops.specs.declared.looks.Looks.{Looks}
use Rattle.trace_ops.specs.declared.operation.Operation.{Operation}
use Rattle.trace_ops.specs.declared.role.Role.TheVariants as role
use Rattle.trace_ops.specs.Operation.{changed_at}
use Rattle.trace_ops.specs.Listing.{Listing, worker, giver, all_begun, all_selected, looks_of, look_at, has_data, gives_data, either_of, folded_into, role_by, selected_by, selected_on, is_foreign_at, with_ends, owner_in, mark_in, listed, opens_alone}
use Rattle.trace_ops.specs.Openings.{opens}
use Rattle.trace_ops.specs.Polling.{Sequence, Rests, Sees}
use Rattle.trace_ops.proofs.AtWork.{worker_in}
use Rattle.trace_ops.proofs.Chains.{small_came}
use Rattle.trace_ops.proofs.Changed.{there}
use Rattle.trace_ops.proofs.Cycles.{CycleAt, begins_nothing}
use Rattle.trace_ops.proofs.Domestic.{Every}
use Rattle.trace_ops.proofs.Legal.{permitted_as, look_there, on_past_on, at_lun, begins_between, begins_starts}
use Rattle.trace_ops.proofs.Polled.{Fits, fits_seen}
use Rattle.trace_ops.proofs.PolledItems.{told_after, Polls, long_after}
use Rattle.trace_ops.proofs.PolledParts.{others_came, asked_folded, folds}
use Rattle.trace_ops.proofs.Starts.{starts_by, read_starts}
use Rattle.trace_ops.proofs.Tails.{target_below}
use Rattle.trace_ops.proofs.Walked.{Walked, new_workers, cycle_at}
use Rattle.trace_ops.proofs.Walks.{came}

no : true ≡ false → ⊥
no e = cc

-- behind it its LUN shows data
shows_data : (g : Parts) (past : List Item) (ce : ℕ) → latch g past (at_lun ce 0) ≡ Status → latch g (Cyc (record { ce = ce; kind = Cmd; byte = 0x00 }) ∷ past) (at_lun ce 0) ≡ Data
shows_data g past ce shows = at (ce == ce) refl
  where
    effect : (t : List TargetCycle) (selected working : Bool) (s : Latch) → s ≡ Status → latch_after (cycle_effect g (facts_of t) s (CommandCycle (command 0x00)) 0) selected working s ≡ Data
    effect t selected working s e =
        ap (λ x. latch_after (cycle_effect g (facts_of t) s (CommandCycle x) 0) selected working s) (commands_have_bytes.command_of_byte Read 0x00 refl)
        ∙ ap (λ x. latch_after (cycle_effect g (facts_of t) x (CommandCycle Read) 0) selected working x) e

    at : (b : Bool) → (ce == ce) ≡ b → latch g (Cyc (record { ce = ce; kind = Cmd; byte = 0x00 }) ∷ past) (at_lun ce 0) ≡ Data
    at true e = rw (e) (effect (tail past ce) _ _ (latch g past (at_lun ce 0)) shows)
    at false e = absurd (no (sym (eq-eqb ce ce refl) ∙ e))

module _ (g : Parts) (targets n : ℕ) (seen : Seen) (past : List Item) (marks : List ℕ) (l : Listing) (pieces : ℕ → List TargetCycle) (walked : Walked g targets n seen past marks l pieces)
    (one_lun : Bool) (ce : ℕ) (later : List Item) (h : broken g targets past (Cyc (record { ce = ce; kind = Cmd; byte = 0x00 })) ≡ None) (one : g.luns ≡ 1)
    (told : List (Option Sequence)) (at : ℕ) (was : Polls g ce past (Cyc (record { ce = ce; kind = Cmd; byte = 0x00 }) ∷ later) l told Sees at) where
  abbrev c : BusCycle
  c = record { ce = ce; kind = Cmd; byte = 0x00 }

  abbrev before : Looks
  before = looks_of seen.state.bus ce

  abbrev after : Looks
  after = looks_of (seen_after Written seen (Cyc c) later).state.bus ce

  abbrev j : Judged
  j = permitted_as one_lun n (Cyc c) before after

  abbrev mark : ℕ
  mark = mark_in j (with_ends j l)

  here : CycleAt g targets n past marks c before after l pieces
  here = cycle_at g targets n seen past marks l pieces walked c later h

  opens' : opens_alone 0x00 ≡ true
  opens' = ap (λ (x : Command). begins_alone (CommandCycle x)) (commands_have_bytes.command_of_byte Read 0x00 refl)

  weaker : (k : ℕ) (o : Operation) → Fits Sees ce at (Cyc c ∷ later) told k o → Fits Rests ce at later told k o
  weaker = fits_seen Sees Rests ce at at (Cyc c ∷ later) later told refl refl refl

  look_is : (lun : ℕ) → lun < 4 → look_at after lun ≡ look_after g targets (Cyc c ∷ past) (at_lun ce lun)
  look_is lun low =
      look_there (seen_after Written seen (Cyc c) later).state.bus ce lun low
      ∙ looked_is_look g targets (seen_after Written seen (Cyc c) later).state.bus (Cyc c ∷ past) (at_lun ce lun) (on_past_on g targets seen past (Cyc c) later walked.on h).on.follows

  shows_none : (lun : ℕ) → lun < 4 → 0 < lun → gives_data (look_at after lun) ≡ false
  shows_none lun low more = ap gives_data (look_is lun low) ∙ by (ltb ce targets && ltb lun g.luns) (and_right (ltb ce targets) (ltb lun g.luns) outside)
    where
      outside : ltb lun g.luns ≡ false
      outside = false_from_ne_true (ltb lun g.luns) (λ e. (let inside = ltb-true lun g.luns e in omega (arith, inside, one, more)))

      by : (b : Bool) → b ≡ false → gives_data (cond b (Some (look_of (lun_view g (Cyc c ∷ past) (at_lun ce lun)))) None) ≡ false
      by true e = cc
      by false e = refl

  shows_zero : gives_data (look_at after 0) ≡ true
  shows_zero =
      ap gives_data (look_is 0 (omega arith))
      ∙ ap (λ b. gives_data (cond (b && ltb 0 g.luns) (Some (look_of (lun_view g (Cyc c ∷ past) (at_lun ce 0)))) None)) (lt-ltb ce targets (target_below g targets past c h))
      ∙ ap (λ b. gives_data (cond b (Some (look_of (lun_view g (Cyc c ∷ past) (at_lun ce 0)))) None)) (lt-ltb 0 g.luns (omega (arith, one)))
      ∙ ap (λ x. has_data x) (shows_data g past ce (was.shows refl))

  begins_none : (lun : ℕ) → lun < 4 → begins_between c before after lun ≡ false
  begins_none lun low =
      false_from_ne_true (begins_between c before after lun)
      (λ e. clash (starts_by g past (at_lun ce lun) (CommandCycle (command 0x00))) (begins_starts g targets past c before after here.sees here.saw lun low e) (ap (λ x. starts_by g past (at_lun ce lun) (CommandCycle x)) (commands_have_bytes.command_of_byte Read 0x00 refl) ∙ read_starts g past (at_lun ce lun)))

  abbrev X : Listing
  X = came j l

  there_is : (o : Operation) × (slice_get X.ops mark ≡ Some o)
  there_is = there X.ops mark (small_came j l walked.within)

  none_select : (lun : ℕ) → lun < 4 → 0 < lun → (x : Listing) → selected_on j mark lun x ≡ x
  none_select lun low more x = by (slice_get x.ops mark)
    where
      by : (o : Option Operation) → selected_by (role_by j o (Cyc c) lun) j mark lun x ≡ x
      by None = refl
      by (Some o) = ap (λ b. selected_by (cond b role.Returns role.Nothing) j mark lun x) (shows_none lun low more)

  zero_selects : (o : Operation) → slice_get X.ops mark ≡ Some o → selected_on j mark 0 X ≡ selected_by role.Returns j mark 0 X
  zero_selects o is =
      ap (λ (x : Option Operation). selected_by (role_by j x (Cyc c) 0) j mark 0 X) is
      ∙ ap (λ b. selected_by (cond b role.Returns role.Nothing) j mark 0 X) shows_zero

  same_ready : (b : Bool) (ops : List Operation) → cond b ops ops ≡ ops
  same_ready true ops = refl
  same_ready false ops = refl

  selected : all_selected j mark (all_begun j mark X) ≡ selected_by role.Returns j mark 0 X
  selected =
      ap (all_selected j mark) (begins_nothing g targets n one_lun past marks c before after l pieces here begins_none)
      ∙ none_select 3 (omega arith) (omega arith) _ ∙ none_select 2 (omega arith) (omega arith) _ ∙ none_select 1 (omega arith) (omega arith) _ ∙ zero_selects there_is.0 there_is.1

  same_workers : X.places.workers ≡ l.places.workers
  same_workers = new_workers (owner_in j (with_ends j l)) j (with_ends j l)

  worker_is : worker X.places ce 0 ≡ Some at
  worker_is = ap (λ (ws : List (Option ℕ)). worker_in ws ce 0) same_workers ∙ was.worker refl

  ops_are : (listed j l).ops ≡ changed_at mark (Fold at) (changed_at mark (SetLun 0) X.ops)
  ops_are =
      same_ready (is_foreign_at (all_selected j mark (all_begun j mark X)).ops (Some mark)) (all_selected j mark (all_begun j mark X)).ops
      ∙ ap (λ (x : Listing). x.ops) selected
      ∙ ap (λ (x : Option ℕ). folded_into mark (either_of x (giver X.places ce 0)) (changed_at mark (SetLun 0) X.ops)) worker_is
      ∙ folds g targets n one_lun past marks ce 0x00 before after l pieces here opens' later told Sees Rests at was weaker refl refl _

  pub own_return : (x : Option Sequence) → x ≡ None → Polls g ce (Cyc c ∷ past) later (listed j l) (told_after (opens (Cyc c)) x told) Rests at
  own_return x none = subst (λ (y : Option Sequence). Polls g ce (Cyc c ∷ past) later (listed j l) (told_after (opens (Cyc c)) y told) Rests at) (sym none)
      (subst (λ b. Polls g ce (Cyc c ∷ past) later (listed j l) (told_after b None told) Rests at) (sym opens') (record {
        fits =
            subst (λ (ops : List Operation). Every (Fits Rests ce at later (told ++ (None ∷ []))) ops) (sym ops_are)
            (asked_folded g targets n one_lun past marks ce 0x00 before after l pieces here opens' later told Sees Rests at was weaker refl refl X.ops
            (others_came g targets n one_lun past marks ce 0x00 before after l pieces here opens' later told Sees Rests at was weaker refl refl));
        long = ap (λ b. length (told_after b None told)) (sym opens') ∙ long_after g targets n one_lun past marks c before after l pieces here told None was.long;
        newest = λ e. cc;
        worker = λ e. cc;
        shows = λ e. cc;
      }))
