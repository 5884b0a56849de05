-- A 70h of a legal trace of the base profile is a part of the last work of its LUN, where no status byte has said that this is over.
use Rattle.std.proofs.Common.{◌≡◌, ◌⊎◌, inl, inr, ℕ, ◌+◌, ◌<◌, ◌≤◌, ◌==◌, Bool, true, false, ◌&&◌, not, cond, List, [], ◌∷◌, ◌++◌, Option, Some, None, is_some, refl, sym, ap, ◌∙◌, subst, arith, length, reverse, ltb, lt-ltb, ltb-true, ne_eqb, eq-eqb}
use Rattle.std.specs.Prelude.{slice_get}
use Rattle.std.proofs.lemmas.Bool.{and_parts, and_right, false_from_ne_true}
use Rattle.std.proofs.lemmas.Bool.Decides.{nat_tests}
use Rattle.std.proofs.lemmas.List.Elements.{All-nil}
use Rattle.std.proofs.lemmas.List.{append_assoc, append-nil}
use Rattle.std.proofs.lemmas.Option.{slice_get_within}
use Rattle.nand_geometry.specs.declared.parts.Parts.{Parts}
use Rattle.onfi_cycle.specs.declared.command.Command.{Command}
use Rattle.onfi_cycle.specs.declared.command.Command.TheVariants.{ReadStatus}
use Rattle.onfi_cycle.specs.declared.item.Cycle.{Cycle as BusCycle}
use Rattle.onfi_cycle.specs.declared.item.Item.{Item}
use Rattle.onfi_cycle.specs.declared.item.Item.TheVariants.{Cyc}
use Rattle.onfi_cycle.specs.declared.item.Kind.TheVariants.{Cmd}
use Rattle.onfi_cycle.specs.declared.latch.Latch.{Latch}
use Rattle.onfi_cycle.specs.declared.latch.Latch.TheVariants.{Status}
use Rattle.onfi_cycle.specs.declared.target_cycle.TargetCycle.{TargetCycle}
use Rattle.onfi_cycle.specs.declared.target_cycle.TargetCycle.TheVariants.{CommandCycle}
use Rattle.onfi_cycle.specs.Command.{command}
use Rattle.onfi_cycle.specs.declared.effect.Effect.TheVariants.{StatusSelected, StatusOfSelected}
use Rattle.onfi_cycle.specs.Effect.{is_shared, cycle_effect}
use Rattle.onfi_cycle.specs.Look.{look_at as look_of, look_after}
use Rattle.onfi_cycle.specs.Lun.{latch, latch_after, lun_view, luns_of}
use Rattle.onfi_cycle.specs.Permitted.{broken, is_permitted, is_legal}
use Rattle.onfi_cycle.specs.LunView.{LunView}
use Rattle.onfi_cycle.specs.Rules.{breaks_several_luns, is_unclear}
use Rattle.onfi_cycle.specs.Sequence.{tail, facts_of}
use Rattle.onfi_cycle.proofs.Booleans.{clash}
use Rattle.onfi_cycle.proofs.CommandBytes.{commands_have_bytes}
use Rattle.onfi_cycle.proofs.Following.{looked_is_look}
use Rattle.onfi_cycle.proofs.Others.{permitted_none, keeps_several_luns}
use Rattle.trace_faults.specs.declared.beginning.Beginning.TheVariants.{Start}
use Rattle.trace_faults.specs.declared.readies.Readies.TheVariants.{Written}
use Rattle.trace_faults.specs.Middle.{Seen, seen_after, first_seen_as}
use Rattle.trace_faults.specs.Outside.{begins_alone}
use Rattle.trace_ops.specs.declared.change.Change.{Change}
use Rattle.trace_ops.specs.declared.change.Change.TheVariants.{SetLun, Fold}
use Rattle.trace_ops.specs.declared.judged.Judged.{Judged}
use Rattle.trace_ops.specs.declared.looks.Looks.{Looks}
use Rattle.trace_ops.specs.declared.operation.Operation.{Operation}
use Rattle.trace_ops.specs.declared.role.Role.TheVariants as role
use Rattle.trace_ops.specs.Operation.{changed, changed_at}
use Rattle.trace_ops.specs.AtWork.{IsLegalBase}
use Rattle.trace_ops.specs.LastWork.{WorkedLast, AsksForWork, question}
use Rattle.trace_ops.specs.Listing.{Listing, found, worker, op_of, new_one, number_of, with_new, change_of, all_begun, all_selected, looks_of, look_at, has_status, gives_status, is_unshown, folded_into, folded_if, role_by, selected_by, selected_on, is_foreign_at, with_ends, owner_in, mark_in, listed, nothing_listed, has_one_lun, ops_from, marks_from, ops_of}
use Rattle.trace_ops.specs.Openings.{opens}
use Rattle.trace_ops.proofs.AtWork.{From, changed_from, Began, worker_in}
use Rattle.trace_ops.proofs.Chains.{new_parent, small_came}
use Rattle.trace_ops.proofs.Changed.{there}
use Rattle.trace_ops.proofs.Cycles.{CycleAt, begins_nothing}
use Rattle.trace_ops.proofs.Dated.{new_mark}
use Rattle.trace_ops.proofs.Latest.{Latest, AreLatest}
use Rattle.trace_ops.proofs.LatestWork.{latest_item}
use Rattle.trace_ops.proofs.Legal.{is_narrow, permitted_as, look_there, on_past_on, at_lun, begins_between, begins_starts}
use Rattle.trace_ops.proofs.Owned.{new}
use Rattle.trace_ops.proofs.Pieces.{came_to}
use Rattle.trace_ops.proofs.Quietly.{selects_workers}
use Rattle.trace_ops.proofs.Spans.{same_some, which}
use Rattle.trace_ops.proofs.Starts.{starts_by, status_starts}
use Rattle.trace_ops.proofs.Walked.{Walked, ItemAs, as_permitted, cycle_at, walked_on, nothing_walked}
use Rattle.trace_ops.proofs.Walks.{came, length_ends, span_all, nobody_within}
use Rattle.trace_ops.proofs.Works.{Worked, onto, legal_before}

-- ---- what the model says of a 70h

status_command : command 0x70 ≡ ReadStatus
status_command = commands_have_bytes.command_of_byte ReadStatus 0x70 refl

one_lun_alone : (g : Parts) (luns : List LunView) → is_shared g ≡ false → breaks_several_luns g luns (CommandCycle ReadStatus) ≡ false → ltb 1 g.luns ≡ false
unfolding breaks_several_luns
one_lun_alone g luns narrow h = sym (ap (λ (b : Bool). cond b (is_unclear luns ReadStatus) (ltb 1 g.luns)) narrow) ∙ h

-- behind it its LUN shows the status
pub shows_status : (g : Parts) (past : List Item) (ce : ℕ) → is_shared g ≡ false → latch g (question ce ∷ past) (at_lun ce 0) ≡ Status
shows_status g past ce narrow = at (ce == ce) refl
  where
    effect : (t : List TargetCycle) (s x : Latch) (selected works : Bool) → latch_after (cycle_effect g (facts_of t) s (CommandCycle (command 0x70)) 0) selected works x ≡ Status
    effect t s x selected works =
        ap (λ y. latch_after (cycle_effect g (facts_of t) s (CommandCycle y) 0) selected works x) status_command
        ∙ ap (λ (b : Bool). latch_after (cond b StatusOfSelected StatusSelected) selected works x) narrow

    at : (b : Bool) → (ce == ce) ≡ b → latch g (question ce ∷ past) (at_lun ce 0) ≡ Status
    at true e = rw (e) (effect (tail past ce) (latch g past (at_lun ce 0)) _ _ _)
    at false e = absurd (no (sym (eq-eqb ce ce refl) ∙ e))
      where
        no : true ≡ false → ⊥
        no h = cc

module _ (g : Parts) (targets n : ℕ) (seen : Seen) (past : List Item) (marks : List ℕ) (l : Listing) (pieces : ℕ → List TargetCycle) (walked : Walked g targets n seen past marks l pieces)
    (one_lun : Bool) (ce : ℕ) (later : List Item) (h : broken g targets past (question ce) ≡ None) where
  abbrev c : BusCycle
  c = record { ce = ce; kind = Cmd; byte = 0x70 }

  abbrev before : Looks
  before = looks_of seen.state.bus ce

  abbrev after : Looks
  after = looks_of (seen_after Written seen (Cyc c) later).state.bus ce

  abbrev j : Judged
  j = permitted_as one_lun n (Cyc c) before after

  abbrev mark : ℕ
  mark = mark_in j (with_ends j l)

  abbrev many : ℕ
  many = length (with_ends j l).ops

  here : CycleAt g targets n past marks c before after l pieces
  here = cycle_at g targets n seen past marks l pieces walked c later h

  -- ---- which LUN shows its status

  few : ltb 1 g.luns ≡ false
  few = one_lun_alone g (luns_of g past c.ce) (is_narrow g walked.base) (sym (ap (λ x. breaks_several_luns g (luns_of g past c.ce) (CommandCycle x)) status_command) ∙ keeps_several_luns g targets past c h)

  one_at_most : g.luns ≤ 1
  one_at_most = (let low : ltb 1 g.luns ≡ false = few in grind (arith, nat_tests))

  look_is : (lun : ℕ) → lun < 4 → look_at after lun ≡ look_after g targets (Cyc c ∷ past) (at_lun ce lun)
  look_is lun low = look_there (seen_after Written seen (Cyc c) later).state.bus ce lun low ∙ looked_is_look g targets (seen_after Written seen (Cyc c) later).state.bus (Cyc c ∷ past) (at_lun ce lun) (on_past_on g targets seen past (Cyc c) later walked.on h).on.follows

  shows_none : (lun : ℕ) → lun < 4 → 0 < lun → gives_status (look_at after lun) ≡ false
  shows_none lun low more = ap gives_status (look_is lun low) ∙ at (ltb ce targets && ltb lun g.luns) (and_right (ltb ce targets) (ltb lun g.luns) outside)
    where
      outside : ltb lun g.luns ≡ false
      outside = false_from_ne_true (ltb lun g.luns) (λ e. (let inside = ltb-true lun g.luns e in let most = one_at_most in omega (arith, inside, most, more)))

      at : (b : Bool) → b ≡ false → gives_status (cond b (Some (look_of (lun_view g (Cyc c ∷ past) (at_lun ce lun)))) None) ≡ false
      at true e = cc
      at false e = refl

  shows_zero : ce < targets → 0 < g.luns → gives_status (look_at after 0) ≡ true
  shows_zero target some =
      ap gives_status (look_is 0 (omega arith))
      ∙ ap (λ b. gives_status (cond (b && ltb 0 g.luns) (Some (look_of (lun_view g (Cyc c ∷ past) (at_lun ce 0)))) None)) (lt-ltb ce targets target)
      ∙ ap (λ b. gives_status (cond b (Some (look_of (lun_view g (Cyc c ∷ past) (at_lun ce 0)))) None)) (lt-ltb 0 g.luns some)
      ∙ ap (λ x. has_status x) (shows_status g past ce (is_narrow g walked.base))

  -- ---- the operation is a new one

  opens' : opens (Cyc c) ≡ true
  opens' = ap (λ (x : Command). begins_alone (CommandCycle x)) status_command

  pub is_new : owner_in j (with_ends j l) ≡ None
  is_new = (new g targets n one_lun past marks c before after l pieces here opens').0

  pub mark_is : mark ≡ many
  mark_is = ap (λ (x : Option ℕ). number_of x (with_ends j l).ops) is_new

  pub none_begins : (lun : ℕ) → lun < 4 → begins_between c before after lun ≡ false
  none_begins lun low =
      false_from_ne_true (begins_between c before after lun)
      (λ e. clash (starts_by g past (at_lun ce lun) (CommandCycle (command 0x70))) (begins_starts g targets past c before after here.sees here.saw lun low e)
      (ap (λ x. starts_by g past (at_lun ce lun) (CommandCycle x)) status_command ∙ status_starts g past (at_lun ce lun)))

  abbrev pub X : Listing
  X = came j l

  pub workers_same : X.places.workers ≡ l.places.workers
  workers_same = ap (λ (x : Option ℕ). (with_new x j (with_ends j l)).places.workers) is_new

  -- it has no parent yet
  orphan : (o : Operation) → slice_get X.ops mark ≡ Some o → o.parent ≡ None
  orphan o is = at (owner_in j (with_ends j l)) is_new (changed_from mark mark (change_of (owner_in j (with_ends j l)) j (Cyc c)) (with_new (owner_in j (with_ends j l)) j (with_ends j l)).ops o is)
    where
      newcomer : Operation
      newcomer = new_one j (op_of (with_ends j l).ops (found l.places.newest ce)) (Cyc c)

      at : (x : Option ℕ) → x ≡ None → From mark mark (change_of x j (Cyc c)) (with_new x j (with_ends j l)).ops o → o.parent ≡ None
      at (Some m) e from = cc
      at None e from = by_place from.is (which (with_ends j l).ops newcomer mark from.old from.is_there)
        where
          by_place : ((mark ≡ mark) × (o ≡ changed (change_of None j (Cyc c)) from.old)) ⊎ ((mark ≡ mark → ⊥) × (o ≡ from.old)) →
              (slice_get (with_ends j l).ops mark ≡ Some from.old) ⊎ ((mark ≡ many) × (from.old ≡ newcomer)) → o.parent ≡ None
          by_place (inl both) (inr fresh) =
              ap (λ (z : Operation). z.parent) both.1 ∙ ap (λ (z : Operation). z.parent) fresh.1 ∙ new_parent j (op_of (with_ends j l).ops (found l.places.newest ce)) (Cyc c)
          by_place (inl both) (inl old) = absurd (let small = slice_get_within (with_ends j l).ops mark from.old old in let m = mark_is in omega (arith, small, m))
          by_place (inr away) y = absurd (away.0 refl)

  -- ---- what it selects

  none_select : (lun : ℕ) → lun < 4 → 0 < lun → (x : Listing) → selected_on j mark lun x ≡ x
  none_select lun low more x = at (slice_get x.ops mark)
    where
      at : (o : Option Operation) → selected_by (role_by j o (Cyc c) lun) j mark lun x ≡ x
      at None = refl
      at (Some o) = ap (λ b. selected_by (cond b role.Asks role.Nothing) j mark lun x) (shows_none lun low more)

  zero_selects : ce < targets → 0 < g.luns → (o : Operation) → slice_get X.ops mark ≡ Some o → selected_on j mark 0 X ≡ selected_by role.Asks j mark 0 X
  zero_selects target some o is =
      ap (λ (x : Option Operation). selected_by (role_by j x (Cyc c) 0) j mark 0 X) is
      ∙ ap (λ b. selected_by (cond b role.Asks role.Nothing) j mark 0 X) (shows_zero target some)

  same_ready : (b : Bool) (ops : List Operation) → cond b ops ops ≡ ops
  same_ready true ops = refl
  same_ready false ops = refl

  pub selected_all : ce < targets → 0 < g.luns → (o : Operation) → slice_get X.ops mark ≡ Some o → all_selected j mark (all_begun j mark X) ≡ selected_by role.Asks j mark 0 X
  selected_all target some o is =
      ap (all_selected j mark) (begins_nothing g targets n one_lun past marks c before after l pieces here none_begins)
      ∙ none_select 3 (omega arith) (omega arith) _ ∙ none_select 2 (omega arith) (omega arith) _ ∙ none_select 1 (omega arith) (omega arith) _ ∙ zero_selects target some o is

  abbrev pub asked : Option ℕ → List Operation
  asked w = folded_if (is_unshown (op_of X.ops w)) mark w (changed_at mark (SetLun 0) X.ops)

  pub final : ce < targets → 0 < g.luns → (o : Operation) → slice_get X.ops mark ≡ Some o → (listed j l).ops ≡ asked (worker X.places ce 0)
  final target some o is =
      same_ready (is_foreign_at (all_selected j mark (all_begun j mark X)).ops (Some mark)) (all_selected j mark (all_begun j mark X)).ops
      ∙ ap (λ (x : Listing). x.ops) (selected_all target some o is)

  -- the operation of the 70h
  set_parent : (q : Operation) → slice_get (changed_at mark (SetLun 0) X.ops) mark ≡ Some q → q.parent ≡ None
  set_parent q is = at (changed_from mark mark (SetLun 0) X.ops q is)
    where
      at : From mark mark (SetLun 0) X.ops q → q.parent ≡ None
      at from = by_place from.is
        where
          by_place : ((mark ≡ mark) × (q ≡ changed (SetLun 0) from.old)) ⊎ ((mark ≡ mark → ⊥) × (q ≡ from.old)) → q.parent ≡ None
          by_place (inl both) = ap (λ (z : Operation). z.parent) both.1 ∙ orphan from.old from.is_there
          by_place (inr away) = absurd (away.0 refl)

  fold_parent : (w : ℕ) (q : Operation) → (w ≡ mark → ⊥) → slice_get (folded_into mark (Some w) (changed_at mark (SetLun 0) X.ops)) mark ≡ Some q → q.parent ≡ Some w
  fold_parent w q apart is = at (w == mark) (ne_eqb w mark apart) is
    where
      by_fold : From mark mark (Fold w) (changed_at mark (SetLun 0) X.ops) q → q.parent ≡ Some w
      by_fold from = by_place from.is
        where
          by_place : ((mark ≡ mark) × (q ≡ changed (Fold w) from.old)) ⊎ ((mark ≡ mark → ⊥) × (q ≡ from.old)) → q.parent ≡ Some w
          by_place (inl both) = ap (λ (z : Operation). z.parent) both.1
          by_place (inr away) = absurd (away.0 refl)

      at : (b : Bool) → b ≡ false → slice_get (cond b (changed_at mark (SetLun 0) X.ops) (changed_at mark (Fold w) (changed_at mark (SetLun 0) X.ops))) mark ≡ Some q → q.parent ≡ Some w
      at true e is = cc
      at false e is = by_fold (changed_from mark mark (Fold w) (changed_at mark (SetLun 0) X.ops) q is)

  -- another operation is as it was
  other_set : (k : ℕ) (p : Operation) (d : Change) (ops : List Operation) → (k ≡ mark → ⊥) → slice_get (changed_at mark d ops) k ≡ Some p → slice_get ops k ≡ Some p
  other_set k p d ops apart is = at (changed_from mark k d ops p is)
    where
      at : From mark k d ops p → slice_get ops k ≡ Some p
      at from = by_place from.is
        where
          by_place : ((k ≡ mark) × (p ≡ changed d from.old)) ⊎ ((k ≡ mark → ⊥) × (p ≡ from.old)) → slice_get ops k ≡ Some p
          by_place (inl both) = absurd (apart both.0)
          by_place (inr away) = from.is_there ∙ ap Some (sym away.1)

  other_asked : (w : ℕ) (k : ℕ) (p : Operation) → (k ≡ mark → ⊥) → slice_get (asked (Some w)) k ≡ Some p → slice_get X.ops k ≡ Some p
  other_asked w k p apart is = other_set k p (SetLun 0) X.ops apart (at (is_unshown (op_of X.ops (Some w))) (w == mark) is)
    where
      at : (b d : Bool) → slice_get (cond b (cond d (changed_at mark (SetLun 0) X.ops) (changed_at mark (Fold w) (changed_at mark (SetLun 0) X.ops))) (changed_at mark (SetLun 0) X.ops)) k ≡ Some p →
          slice_get (changed_at mark (SetLun 0) X.ops) k ≡ Some p
      at true true is = is
      at true false is = other_set k p (Fold w) (changed_at mark (SetLun 0) X.ops) apart is
      at false d is = is

  -- ---- what is told of it

  module _ (k : ℕ) (q : Operation) (place : k ≡ mark) (is : slice_get (listed j l).ops k ≡ Some q) (latest : AreLatest (listed j l).places.workers (listed j l).ops)
      (worked : Worked g targets (n + 1) (Cyc c ∷ past) (marks ++ (mark ∷ [])) (listed j l)) (m : ℕ) (work : WorkedLast (listed j l).ops m (at_lun ce 0)) where
    was : Latest (listed j l).places.workers (listed j l).ops ce 0 work.start
    was = latest ce 0 m work.operation work.start (omega arith) work.is_there work.target work.lun work.began

    worker_is : worker X.places ce 0 ≡ Some was.number
    worker_is =
        ap (λ (ws : List (Option ℕ)). worker_in ws ce 0)
        (sym (selects_workers j mark (all_begun j mark X) ∙ ap (λ (x : Listing). x.places.workers) (begins_nothing g targets n one_lun past marks c before after l pieces here none_begins)))
        ∙ was.is

    began : Began l.ops was.number ce 0
    began = walked.worked.tells.began ce 0 was.number (omega arith) (ap (λ (ws : List (Option ℕ)). worker_in ws ce 0) (sym workers_same) ∙ worker_is)

    apart : was.number ≡ mark → ⊥
    apart e = (let small = slice_get_within l.ops was.number began.operation began.is_there in let same = length_ends j l in let number = mark_is in omega (arith, small, same, number, e))

    after_began : Began (listed j l).ops was.number ce 0
    after_began = worked.tells.began ce 0 was.number (omega arith) was.is

    same_start : (x : Option ℕ) → after_began.operation.start ≡ x → is_some x ≡ true → after_began.operation.start ≡ Some work.start
    same_start None e s = cc
    same_start (Some t) e s =
        let low = was.later after_began.operation t after_began.is_there e in
        let high = work.last was.number after_began.operation t after_began.is_there after_began.target after_began.on e in
        e ∙ ap Some (omega (arith, low, high))

    number_is : was.number ≡ m
    number_is =
        let mine = worked.dated.only m work.operation work.start work.is_there work.began in
        let theirs = worked.dated.only was.number after_began.operation work.start after_began.is_there (same_start after_began.operation.start refl after_began.started) in
        same_some (sym theirs.began.mark ∙ mine.began.mark)

    there_is : (o : Operation) × (slice_get X.ops mark ≡ Some o)
    there_is =
        let small = small_came j l walked.within in
        there X.ops mark small

    lun_there : (ce < targets) × (0 < g.luns)
    lun_there =
        let begins = worked.dated.only m work.operation work.start work.is_there work.began in
        let target : begins.lun.ce ≡ ce = sym begins.began.target ∙ ap (λ (z : Operation). z.ce) (same_some (sym begins.began.is_there ∙ work.is_there)) ∙ work.target in
        let lun : begins.lun.lun ≡ 0 = same_some (sym begins.began.lun ∙ ap (λ (z : Operation). z.lun) (same_some (sym begins.began.is_there ∙ work.is_there)) ∙ work.lun) in
        (subst (λ x. x < targets) target begins.is_lun.target, subst (λ x. x < g.luns) lun begins.is_lun.lun)

    finally : (listed j l).ops ≡ asked (Some was.number)
    finally = final lun_there.0 lun_there.1 there_is.0 there_is.1 ∙ ap asked worker_is

    q_there : slice_get (asked (Some was.number)) mark ≡ Some q
    q_there = ap (λ (ops : List Operation). slice_get ops mark) (sym finally) ∙ ap (slice_get (listed j l).ops) (sym place) ∙ is

    -- the work before it
    work_there : slice_get X.ops was.number ≡ Some work.operation
    work_there =
        other_asked was.number was.number work.operation apart
        (ap (λ (ops : List Operation). slice_get ops was.number) (sym finally) ∙ ap (slice_get (listed j l).ops) number_is ∙ work.is_there)

    unshown : is_unshown (op_of X.ops (Some was.number)) ≡ not (is_some work.operation.status)
    unshown = ap is_unshown work_there

    asks_now : (b : Bool) → is_some work.operation.status ≡ b → slice_get (cond (not b) (folded_into mark (Some was.number) (changed_at mark (SetLun 0) X.ops)) (changed_at mark (SetLun 0) X.ops)) mark ≡ Some q
    asks_now b e =
        ap (λ x. slice_get (cond x (folded_into mark (Some was.number) (changed_at mark (SetLun 0) X.ops)) (changed_at mark (SetLun 0) X.ops)) mark) (ap not (sym e) ∙ sym unshown) ∙ q_there

    pub is_part : is_some work.operation.status ≡ false → q.parent ≡ Some m
    is_part e = fold_parent was.number q apart (asks_now false e) ∙ ap Some number_is

    pub is_shown : is_some work.operation.status ≡ true → q.parent ≡ None
    is_shown e = set_parent q (asks_now true e)

-- ---- a trace that ends with a 70h

-- what is told of the operation of the 70h, once it has come
abbrev AsksBy : Parts → (targets n : ℕ) → List Item → List ℕ → Listing → (ce : ℕ) → Judged → Type 0
AsksBy g targets n past marks l ce j =
    (k : ℕ) (q : Operation) → slice_get (listed j l).ops k ≡ Some q → mark_in j (with_ends j l) ≡ k → AreLatest (listed j l).places.workers (listed j l).ops →
    Worked g targets (n + 1) (question ce ∷ past) (marks ++ (mark_in j (with_ends j l) ∷ [])) (listed j l) → AsksForWork (listed j l).ops q (at_lun ce 0)

asks_as : (g : Parts) (targets n : ℕ) (seen : Seen) (past : List Item) (marks : List ℕ) (l : Listing) (pieces : ℕ → List TargetCycle) (walked : Walked g targets n seen past marks l pieces)
    (one_lun : Bool) (ce : ℕ) → broken g targets past (question ce) ≡ None → AsksBy g targets n past marks l ce (ItemAs one_lun seen n (question ce) [])
asks_as g targets n seen past marks l pieces walked one_lun ce h =
    as_permitted g targets n seen past marks l pieces walked (AsksBy g targets n past marks l ce) one_lun (question ce) [] h
    (λ k q is same latest worked. record {
      part = λ m work e. is_part g targets n seen past marks l pieces walked one_lun ce [] h k q (sym same) is latest worked m work e;
      shown = λ m work e. is_shown g targets n seen past marks l pieces walked one_lun ce [] h k q (sym same) is latest worked m work e;
    })

asks_all : (g : Parts) (targets : ℕ) (one_lun : Bool) (items : List Item) (ce n : ℕ) (seen : Seen) (past : List Item) (marks : List ℕ) (l : Listing) (pieces : ℕ → List TargetCycle) →
    Walked g targets n seen past marks l pieces → AreLatest l.places.workers l.ops → is_legal g targets (reverse (items ++ (question ce ∷ [])) ++ past) ≡ true →
    (k : ℕ) (q : Operation) → slice_get (ops_from Written one_lun seen n (items ++ (question ce ∷ [])) l) k ≡ Some q → q.first ≡ n + length items →
    slice_get (marks ++ marks_from Written one_lun seen n (items ++ (question ce ∷ [])) l) q.first ≡ Some k →
    AsksForWork (ops_from Written one_lun seen n (items ++ (question ce ∷ [])) l) q (at_lun ce 0)
asks_all g targets one_lun [] ce n seen past marks l pieces walked latest legal k q is first' mark =
    let i = question ce in
    let here = and_parts (is_permitted g targets past i) (is_legal g targets past) legal in
    let h = permitted_none g targets past i here.0 in
    let number = walked.worked.number in
    let many = walked.worked.many in
    let long : q.first ≡ length marks = omega (arith, first', number, many) in
    let j = ItemAs one_lun seen n i [] in
    let same = same_some (sym (new_mark marks (mark_in j (with_ends j l))) ∙ ap (slice_get (marks ++ (mark_in j (with_ends j l) ∷ []))) (sym long) ∙ mark) in
    asks_as g targets n seen past marks l pieces walked one_lun ce h k q is same (latest_item g targets n seen past marks l pieces walked latest one_lun i [] h)
    (walked_on g targets n seen past marks l pieces walked one_lun i [] h).worked
asks_all g targets one_lun (i ∷ items) ce n seen past marks l pieces walked latest legal k q is first' mark =
    let rest' = items ++ (question ce ∷ []) in
    let j = ItemAs one_lun seen n i rest' in
    let m = mark_in j (with_ends j l) in
    let legal' : is_legal g targets (reverse rest' ++ (i ∷ past)) ≡ true = ap (is_legal g targets) (sym (onto g targets walked.few walked.luns walked.base i rest' past)) ∙ legal in
    let here = and_parts (is_permitted g targets past i) (is_legal g targets past) (legal_before g targets walked.few walked.luns walked.base (reverse rest') (i ∷ past) legal') in
    let h = permitted_none g targets past i here.0 in
    asks_all g targets one_lun items ce (n + 1) (seen_after Written seen i rest') (i ∷ past) (marks ++ (m ∷ [])) (listed j l) (came_to m i pieces)
    (walked_on g targets n seen past marks l pieces walked one_lun i rest' h) (latest_item g targets n seen past marks l pieces walked latest one_lun i rest' h) legal' k q is
    (omega (arith, first'))
    (ap (λ (ms : List ℕ). slice_get ms q.first) (append_assoc marks (m ∷ []) (marks_from Written one_lun (seen_after Written seen i rest') (n + 1) rest' (listed j l))) ∙ mark)

none_latest : AreLatest nothing_listed.places.workers nothing_listed.ops
none_latest ce lun m o s low is target on start = absurd (none is)
  where
    none : {x : Operation} → None ≡ Some x → ⊥
    none h = cc

zero_more : (n m : ℕ) → m ≡ n → m ≡ 0 + n
zero_more n m h = omega (arith, h)

pub questions_are_for_work : (g : Parts) (targets : ℕ) (items : List Item) (ce : ℕ) → IsLegalBase g targets (items ++ (question ce ∷ [])) →
    (k : ℕ) (q : Operation) → slice_get (ops_of Written Start g targets (items ++ (question ce ∷ []))) k ≡ Some q → q.first ≡ length items →
    AsksForWork (ops_of Written Start g targets (items ++ (question ce ∷ []))) q (record { ce = ce; lun = 0 })
questions_are_for_work g targets items ce is k q there' first' =
    let all = items ++ (question ce ∷ []) in
    let seen = first_seen_as Start g targets all in
    let spans = span_all Written (has_one_lun g) seen 0 all nothing_listed [] nobody_within refl (All-nil _) (λ m o h. cc) in
    asks_all g targets (has_one_lun g) items ce 0 seen [] [] nothing_listed (λ m. []) (nothing_walked g targets all is) none_latest
    (ap (is_legal g targets) (append-nil (reverse all)) ∙ is.legal) k q there' (zero_more (length items) q.first first') (spans k q there').first
