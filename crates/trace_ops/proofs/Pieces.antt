-- In a legal trace the commands, addresses and inputs of an operation are the tail of its target.
use Rattle.std.proofs.Common.{◌≡◌, ◌⊎◌, inl, inr, ℕ, zero, suc, ◌+◌, ◌<◌, ◌≤◌, ◌==◌, Bool, true, false, ◌||◌, cond, List, [], ◌∷◌, ◌++◌, Option, Some, None, is_some, is_none, refl, sym, ap, ◌∙◌, subst, arith, length, slice_set, reverse, eqb-true, eq-eqb, ne_eqb, ◌&&◌, not, if◌then◌else◌}
use Rattle.std.specs.Prelude.{slice_get}
use Rattle.std.specs.List.{All}
use Rattle.std.proofs.lemmas.Bool.{and_parts, or_parts, false_from_ne_true}
use Rattle.std.proofs.lemmas.Option.{slice_get_within}
use Rattle.std.proofs.lemmas.List.{length-set, reverse-append, append_assoc}
use Rattle.std.proofs.lemmas.List.Elements.{All-head, All-tail}
use Rattle.nand_geometry.specs.declared.parts.Parts.{Parts}
use Rattle.onfi_cycle.specs.declared.forbidden.Forbidden.{Forbidden}
use Rattle.onfi_cycle.specs.declared.item.Cycle.{Cycle}
use Rattle.onfi_cycle.specs.declared.item.Failures.{Failures}
use Rattle.onfi_cycle.specs.declared.item.Item.{Item}
use Rattle.onfi_cycle.specs.declared.item.Item.TheVariants.{Cyc, Rdy, Ard}
use Rattle.onfi_cycle.specs.declared.item.Kind.{Kind}
use Rattle.onfi_cycle.specs.declared.item.Kind.TheVariants.{Cmd, Adr, Din, Dout}
use Rattle.onfi_cycle.specs.declared.target_cycle.TargetCycle.{TargetCycle}
use Rattle.onfi_cycle.specs.declared.target_cycle.TargetCycle.TheVariants.{CommandCycle, OutputCycle}
use Rattle.onfi_cycle.specs.declared.command.Command.{Command}
use Rattle.onfi_cycle.specs.declared.command.Command.TheVariants.{ReadConfirm, BlockEraseConfirm, BlockErasePlane, ProgramConfirm, ProgramPlane, ChangeWriteColumn, ReadCacheSequential, ReadPlane, CopybackRead, ProgramCache}
use Rattle.onfi_cycle.specs.declared.tail_facts.TailFacts.{TailFacts}
use Rattle.onfi_cycle.specs.LunView.{LunView}
use Rattle.onfi_cycle.specs.Lun.{luns_of}
use Rattle.onfi_cycle.specs.Rules.{breaks_no_sole_driver, breaks_sequence_open, opens_here}
use Rattle.onfi_cycle.specs.Command.{command, is_known}
use Rattle.onfi_cycle.specs.Permitted.{broken, is_permitted, is_legal}
use Rattle.onfi_cycle.specs.Sequence.{target_of, target_cycle, begins_anew, continued, tail, opening, facts_of, wants_command, wants_address, takes_inputs, is_open}
use Rattle.onfi_cycle.proofs.Booleans.{clash}
use Rattle.onfi_cycle.proofs.CommandBytes.{commands_have_bytes}
use Rattle.onfi_cycle.proofs.Passed.{KeepsRules, permitted_keeps}
use Rattle.trace_faults.specs.declared.readies.Readies.{Readies}
use Rattle.trace_faults.specs.Middle.{Seen, seen_after}
use Rattle.trace_faults.specs.Outside.{begins_alone}
use Rattle.trace_ops.specs.declared.change.Change.{Change}
use Rattle.trace_ops.specs.declared.change.Change.TheVariants.{Opened, Cycle as CycleOf, LoneReady, End, Begin, Poll, Show, Hold, SetLun, Fold, Unfold}
use Rattle.trace_ops.specs.declared.judged.Judged.{Judged}
use Rattle.trace_ops.specs.declared.operation.Beginning.{Beginning}
use Rattle.trace_ops.specs.declared.operation.Beginning.TheVariants as begins
use Rattle.trace_ops.specs.declared.operation.Operation.{Operation}
use Rattle.trace_ops.specs.declared.role.Role.{Role}
use Rattle.trace_ops.specs.declared.role.Role.TheVariants as role
use Rattle.trace_ops.specs.Operation.{begun, is_unknown, closes_as_known, is_open_program, is_open_read, is_output, takes_address, with_byte, says_ready, changed, changed_by, changed_at}
use Rattle.trace_ops.specs.Listing.{Listing, found, op_of, is_open_program_op, is_open_read_op, closes_read, begins_one, either_of, cycle_owner, new_one, newest_with, number_of, with_new, is_new_opener, change_of, unfolded, starts_on, begun_on, all_begun, role_by, selected_by, selected_on, all_selected, with_ends, owner_in, mark_in, listed, judged_as, marks_from, nothing_listed, opens_alone}
use Rattle.trace_ops.specs.Laws.{with_part, piece_on, without_outputs}
use Rattle.trace_ops.proofs.Quiet.{is_quiet, by_ends, by_unfold, by_rest}
use Rattle.trace_ops.proofs.Changed.{by, put, there}
use Rattle.trace_ops.proofs.Spans.{same_some, which}
use Rattle.trace_ops.proofs.Within.{Within, AreWithin}
use Rattle.trace_ops.proofs.Walks.{came, new_many, length_ends, length_came, length_listed, within_listed}
use Rattle.trace_ops.proofs.Tails.{split, tail_own, tail_other, after_output, goes_on, wanted_goes_on, unwanted_opens, only_column_opens, column_shut, target_below, known_command, wanted_address, wanted_input, no_command, no_address, no_input}
use Rattle.trace_ops.proofs.Contents.{byte_of, closer_by, opener_begins, closing_begins_none, wanted_begins_none}
use Rattle.trace_ops.proofs.Writing.{writing_is_open}
use Rattle.trace_ops.proofs.HeldReads.{Kept, kept_of, count_after, whole_read, Held, whole_wants, wanted_reading, held_output, held_cut, held_opener, held_command, held_address, held_input}

-- ---- the newest of each target

pub found_same : (places : List (Option ℕ)) (a k : ℕ) → a < length places → found (slice_set places a (Some k)) a ≡ Some k
found_same [] a k lt = absurd (omega (arith, lt))
found_same (x ∷ places) zero k lt = refl
found_same (x ∷ places) (suc a) k lt = found_same places a k (omega (arith, lt))

pub found_other : (places : List (Option ℕ)) (a b : ℕ) (x : Option ℕ) → (a ≡ b → ⊥) → found (slice_set places a x) b ≡ found places b
found_other [] a b x apart = refl
found_other (y ∷ places) zero zero x apart = absurd (apart refl)
found_other (y ∷ places) zero (suc b) x apart = refl
found_other (y ∷ places) (suc a) zero x apart = refl
found_other (y ∷ places) (suc a) (suc b) x apart = found_other places a b x (λ e. apart (ap suc e))

pub found_below : (n : ℕ) (places : List (Option ℕ)) (a k : ℕ) → All (Within n) places → found places a ≡ Some k → k < n
found_below n [] a k w h = cc
found_below n (x ∷ places) zero k w h = subst (Within n) h (All-head (Within n) x places w)
found_below n (x ∷ places) (suc a) k w h = found_below n places a k (All-tail (Within n) x places w) h

-- beginnings of work and selections leave them
begun_newest : (j : Judged) (k lun : ℕ) (l : Listing) → (begun_on j k lun l).places.newest ≡ l.places.newest
begun_newest j k lun l = at (starts_on j lun k l.ops) _ _ refl
  where
    at : (b : Bool) (x y : Listing) → x.places.newest ≡ y.places.newest → (cond b x y).places.newest ≡ y.places.newest
    at true x y h = h
    at false x y h = refl

begins_newest : (j : Judged) (k : ℕ) (l : Listing) → (all_begun j k l).places.newest ≡ l.places.newest
begins_newest j k l = begun_newest j k 3 _ ∙ begun_newest j k 2 _ ∙ begun_newest j k 1 _ ∙ begun_newest j k 0 l

role_newest : (r : Role) (j : Judged) (k lun : ℕ) (l : Listing) → (selected_by r j k lun l).places.newest ≡ l.places.newest
role_newest role.Nothing j k lun l = refl
role_newest role.Asks j k lun l = refl
role_newest role.Gives j k lun l = refl
role_newest role.Holds j k lun l = refl
role_newest role.Returns j k lun l = refl

selected_newest : (j : Judged) (k lun : ℕ) (l : Listing) → (selected_on j k lun l).places.newest ≡ l.places.newest
selected_newest j k lun l = role_newest (role_by j (op_of l.ops (Some k)) j.item lun) j k lun l

selects_newest : (j : Judged) (k : ℕ) (l : Listing) → (all_selected j k l).places.newest ≡ l.places.newest
selects_newest j k l = selected_newest j k 3 _ ∙ selected_newest j k 2 _ ∙ selected_newest j k 1 _ ∙ selected_newest j k 0 l

abbrev pub newest_by : Option ℕ → Item → (ce n : ℕ) → List (Option ℕ) → List (Option ℕ)
newest_by None i ce n newest = newest_with i ce n newest
newest_by (Some k) i ce n newest = newest

new_newest : (owner : Option ℕ) (j : Judged) (l : Listing) → (with_new owner j l).places.newest ≡ newest_by owner j.item j.ce (length l.ops) l.places.newest
new_newest None j l = refl
new_newest (Some k) j l = refl

pub listed_newest : (j : Judged) (l : Listing) →
    (listed j l).places.newest ≡ newest_by (owner_in j (with_ends j l)) j.item j.ce (length (with_ends j l).ops) l.places.newest
listed_newest j l =
    let e = with_ends j l in
    let k = mark_in j e in
    selects_newest j k _ ∙ begins_newest j k _ ∙ new_newest (owner_in j e) j e

-- ---- what an operation keeps of its sequence

byte_beginning : (kind : Kind) (byte : ℕ) (o : Operation) → (with_byte kind byte o).beginning ≡ o.beginning
byte_beginning Cmd byte o = refl
byte_beginning Adr byte o = by (λ (z : Operation). z.beginning) (takes_address o) _ o o.beginning refl refl
byte_beginning Din byte o = refl
byte_beginning Dout byte o = refl

-- no change tells another beginning
pub kept_beginning : (c : Change) (o : Operation) → (changed c o).beginning ≡ o.beginning
kept_beginning (Opened n said) o = refl
kept_beginning (CycleOf n kind byte said) o = byte_beginning kind byte o
kept_beginning (LoneReady n said) o = refl
kept_beginning (End e) o = by (λ (z : Operation). z.beginning) (is_some o.end) o _ o.beginning refl refl
kept_beginning (Begin n lun) o = refl
kept_beginning (Poll n byte) o = by (λ (z : Operation). z.beginning) (is_some o.status) o _ o.beginning refl (by (λ (z : Operation). z.beginning) (says_ready byte) _ _ o.beginning refl refl)
kept_beginning (Show byte) o = refl
kept_beginning (Hold page) o = refl
kept_beginning (SetLun lun) o = refl
kept_beginning (Fold parent) o = refl
kept_beginning Unfold o = refl

pub quiet_closer : (c : Change) (o : Operation) → is_quiet c ≡ true → (changed c o).closer ≡ o.closer
quiet_closer (Opened n said) o quiet = cc
quiet_closer (CycleOf n kind byte said) o quiet = cc
quiet_closer (LoneReady n said) o quiet = cc
quiet_closer (End e) o quiet = by (λ (z : Operation). z.closer) (is_some o.end) o _ o.closer refl refl
quiet_closer (Begin n lun) o quiet = refl
quiet_closer (Poll n byte) o quiet = by (λ (z : Operation). z.closer) (is_some o.status) o _ o.closer refl (by (λ (z : Operation). z.closer) (says_ready byte) _ _ o.closer refl refl)
quiet_closer (Show byte) o quiet = refl
quiet_closer (Hold page) o quiet = refl
quiet_closer (SetLun lun) o quiet = refl
quiet_closer (Fold parent) o quiet = refl
quiet_closer Unfold o quiet = refl

quiet_kept : (c : Change) (o : Operation) → is_quiet c ≡ true → kept_of (changed c o) ≡ kept_of o
quiet_kept (Opened n said) o quiet = cc
quiet_kept (CycleOf n kind byte said) o quiet = cc
quiet_kept (LoneReady n said) o quiet = cc
quiet_kept (End e) o quiet = by kept_of (is_some o.end) o _ (kept_of o) refl refl
quiet_kept (Begin n lun) o quiet = refl
quiet_kept (Poll n byte) o quiet = by kept_of (is_some o.status) o _ (kept_of o) refl (by kept_of (says_ready byte) _ _ (kept_of o) refl refl)
quiet_kept (Show byte) o quiet = refl
quiet_kept (Hold page) o quiet = refl
quiet_kept (SetLun lun) o quiet = refl
quiet_kept (Fold parent) o quiet = refl
quiet_kept Unfold o quiet = refl

-- what holds of the beginning of each operation, and of what its bytes change
abbrev pub Each : (ℕ → Beginning → Kept → Type 0) → List Operation → Type 0
Each P ops = (k : ℕ) (o : Operation) → slice_get ops k ≡ Some o → P k o.beginning (kept_of o)

pub each_quiet : (P : ℕ → Beginning → Kept → Type 0) (m : ℕ) (c : Change) (ops : List Operation) → is_quiet c ≡ true → Each P ops → Each P (changed_at m c ops)
each_quiet P m c ops quiet all = at (slice_get ops m) refl
  where
    at : (o : Option Operation) → slice_get ops m ≡ o → Each P (changed_by o c ops m)
    at None h k w is = all k w is
    at (Some o) h k w is = by_place (put ops m k (changed c o) w is)
      where
        by_place : ((k ≡ m) × (w ≡ changed c o)) ⊎ ((k ≡ m → ⊥) × (slice_get ops k ≡ Some w)) → P k w.beginning (kept_of w)
        by_place (inl both) =
            let mine = all k o (ap (slice_get ops) both.0 ∙ h) in
            let b : w.beginning ≡ o.beginning = ap (λ (z : Operation). z.beginning) both.1 ∙ kept_beginning c o in
            let cl : kept_of w ≡ kept_of o = ap kept_of both.1 ∙ quiet_kept c o quiet in
            subst (λ (x : Beginning). P k x (kept_of w)) (sym b) (subst (λ (x : Kept). P k o.beginning x) (sym cl) mine)
        by_place (inr old) = all k w old.1

-- the closer once an item has come
abbrev pub closer_of_kind : Kind → ℕ → Beginning → Option ℕ → Option ℕ
closer_of_kind Cmd byte b closer = closer_by b closer byte
closer_of_kind Adr byte b closer = closer
closer_of_kind Din byte b closer = closer
closer_of_kind Dout byte b closer = closer

abbrev pub closer_with : Option ℕ → Judged → Item → Beginning → Option ℕ → Option ℕ
closer_with owner j (Cyc c) b closer = if is_new_opener owner j c.kind then closer else closer_of_kind c.kind c.byte b closer
closer_with owner j (Rdy ce lun fail) b closer = closer
closer_with owner j (Ard ce lun fail) b closer = closer

-- and whether it still takes addresses, and how many it has
abbrev pub addressed_of_kind : Kind → Bool → Bool
addressed_of_kind Cmd addressed = false
addressed_of_kind Adr addressed = addressed
addressed_of_kind Din addressed = false
addressed_of_kind Dout addressed = addressed

abbrev pub addressed_with : Option ℕ → Judged → Item → Bool → Bool
addressed_with owner j (Cyc c) addressed = if is_new_opener owner j c.kind then addressed else addressed_of_kind c.kind addressed
addressed_with owner j (Rdy ce lun fail) addressed = addressed
addressed_with owner j (Ard ce lun fail) addressed = addressed

abbrev pub count_of_kind : Kind → Kept → ℕ
count_of_kind Cmd kept = kept.address_count
count_of_kind Adr kept = count_after kept
count_of_kind Din kept = kept.address_count
count_of_kind Dout kept = kept.address_count

abbrev pub count_with : Option ℕ → Judged → Item → Kept → ℕ
count_with owner j (Cyc c) kept = if is_new_opener owner j c.kind then kept.address_count else count_of_kind c.kind kept
count_with owner j (Rdy ce lun fail) kept = kept.address_count
count_with owner j (Ard ce lun fail) kept = kept.address_count

-- all of that
abbrev pub kept_with : Option ℕ → Judged → Item → Beginning → Kept → Kept
kept_with owner j i b kept = record { closer = closer_with owner j i b kept.closer; is_addressed = addressed_with owner j i kept.is_addressed; address_count = count_with owner j i kept }

abbrev kept_of_kind : Kind → ℕ → Beginning → Kept → Kept
kept_of_kind kind byte b kept = record { closer = closer_of_kind kind byte b kept.closer; is_addressed = addressed_of_kind kind kept.is_addressed; address_count = count_of_kind kind kept }

byte_kept : (kind : Kind) (byte : ℕ) (o : Operation) → kept_of (with_byte kind byte o) ≡ kept_of_kind kind byte o.beginning (kept_of o)
byte_kept Cmd byte o = refl
byte_kept Adr byte o = at (takes_address o)
  where
    at : (x : Bool) → kept_of (cond x (record o { addresses = slice_set o.addresses o.address_count byte; address_count = o.address_count + 1 }) o)
        ≡ record { closer = o.closer; is_addressed = o.is_addressed; address_count = cond x (o.address_count + 1) o.address_count }
    at true = refl
    at false = refl
byte_kept Din byte o = refl
byte_kept Dout byte o = refl

loud_kept : (owner : Option ℕ) (j : Judged) (i : Item) (o : Operation) → kept_of (changed (change_of owner j i) o) ≡ kept_with owner j i o.beginning (kept_of o)
loud_kept owner j (Cyc c) o = at (is_new_opener owner j c.kind)
  where
    at : (opens : Bool) → kept_of (changed (cond opens (Opened j.number j.said) (CycleOf j.number c.kind c.byte j.said)) o)
        ≡ record {
          closer = cond opens o.closer (closer_of_kind c.kind c.byte o.beginning o.closer);
          is_addressed = cond opens o.is_addressed (addressed_of_kind c.kind o.is_addressed);
          address_count = cond opens o.address_count (count_of_kind c.kind (kept_of o));
        }
    at true = refl
    at false = byte_kept c.kind c.byte o
loud_kept owner j (Rdy ce lun fail) o = refl
loud_kept owner j (Ard ce lun fail) o = refl

-- what holds before the item of this mark comes, so that it holds afterwards
abbrev pub Awaited : (ℕ → Beginning → Kept → Type 0) → ℕ → Option ℕ → Judged → Item → ℕ → Beginning → Kept → Type 0
Awaited P mark owner j i k b kept = ((k ≡ mark → ⊥) → P k b kept) × (k ≡ mark → P k b (kept_with owner j i b kept))

each_loud : (P : ℕ → Beginning → Kept → Type 0) (mark : ℕ) (owner : Option ℕ) (j : Judged) (i : Item) (ops : List Operation) → Each (Awaited P mark owner j i) ops →
    Each P (changed_at mark (change_of owner j i) ops)
each_loud P mark owner j i ops all = at (slice_get ops mark) refl
  where
    at : (o : Option Operation) → slice_get ops mark ≡ o → Each P (changed_by o (change_of owner j i) ops mark)
    at None h k w is = (all k w is).0 (λ e. none (sym is ∙ ap (slice_get ops) e ∙ h))
      where
        none : Some w ≡ None → ⊥
        none e = cc
    at (Some o) h k w is = by_place (put ops mark k (changed (change_of owner j i) o) w is)
      where
        by_place : ((k ≡ mark) × (w ≡ changed (change_of owner j i) o)) ⊎ ((k ≡ mark → ⊥) × (slice_get ops k ≡ Some w)) → P k w.beginning (kept_of w)
        by_place (inl both) =
            let mine = (all k o (ap (slice_get ops) both.0 ∙ h)).1 both.0 in
            let b : w.beginning ≡ o.beginning = ap (λ (z : Operation). z.beginning) both.1 ∙ kept_beginning (change_of owner j i) o in
            let cl : kept_of w ≡ kept_with owner j i o.beginning (kept_of o) = ap kept_of both.1 ∙ loud_kept owner j i o in
            subst (λ (x : Beginning). P k x (kept_of w)) (sym b) (subst (λ (x : Kept). P k o.beginning x) (sym cl) mine)
        by_place (inr old) = (all k w old.1).0 old.0

-- an operation more
each_new : (P : ℕ → Beginning → Kept → Type 0) (ops : List Operation) (o : Operation) → Each P ops → P (length ops) o.beginning (kept_of o) → Each P (ops ++ (o ∷ []))
each_new P ops o all mine k w is = by_place (which ops o k w is)
  where
    by_place : (slice_get ops k ≡ Some w) ⊎ ((k ≡ length ops) × (w ≡ o)) → P k w.beginning (kept_of w)
    by_place (inl old) = all k w old
    by_place (inr new) = subst (λ (n : ℕ). P n w.beginning (kept_of w)) (sym new.0) (subst (λ (z : Operation). P (length ops) z.beginning (kept_of z)) (sym new.1) mine)

-- all operations once an item has come to its own, by what holds before
pub each_came : (P Q : ℕ → Beginning → Kept → Type 0) (j : Judged) (l : Listing) → Each P l.ops →
    ((k : ℕ) (b : Beginning) (kept : Kept) → k < length (with_ends j l).ops → P k b kept → Awaited Q (mark_in j (with_ends j l)) (owner_in j (with_ends j l)) j j.item k b kept) →
    (owner_in j (with_ends j l) ≡ None →
    Awaited Q (mark_in j (with_ends j l)) (owner_in j (with_ends j l)) j j.item (length (with_ends j l).ops)
    (new_one j (op_of (with_ends j l).ops (found l.places.newest j.ce)) j.item).beginning (kept_of (new_one j (op_of (with_ends j l).ops (found l.places.newest j.ce)) j.item))) →
    Each Q (came j l).ops
each_came P Q j l all old new =
    let e = with_ends j l in
    let owner = owner_in j e in
    let mark = mark_in j e in
    let ended : Each P e.ops = by_ends (Each P) (each_quiet P) j l.places l.ops all in
    let awaited : Each (Awaited Q mark owner j j.item) e.ops = λ k o is. old k o.beginning (kept_of o) (slice_get_within e.ops k o is) (ended k o is) in
    let with' : Each (Awaited Q mark owner j j.item) (with_new owner j e).ops = at owner refl awaited in
    let alone = by_unfold (Each (Awaited Q mark owner j j.item)) (each_quiet (Awaited Q mark owner j j.item)) j mark (with_new owner j e).ops with' in
    each_loud Q mark owner j j.item (unfolded j mark (with_new owner j e).ops) alone
  where
    at : (o : Option ℕ) → owner_in j (with_ends j l) ≡ o → Each (Awaited Q (mark_in j (with_ends j l)) (owner_in j (with_ends j l)) j j.item) (with_ends j l).ops →
        Each (Awaited Q (mark_in j (with_ends j l)) (owner_in j (with_ends j l)) j j.item) (with_new o j (with_ends j l)).ops
    at None h awaited = each_new (Awaited Q (mark_in j (with_ends j l)) (owner_in j (with_ends j l)) j j.item) (with_ends j l).ops _ awaited (new h)
    at (Some k) h awaited = awaited

-- and after all that it does besides
each_listed : (P Q : ℕ → Beginning → Kept → Type 0) (j : Judged) (l : Listing) → Each P l.ops →
    ((k : ℕ) (b : Beginning) (kept : Kept) → k < length (with_ends j l).ops → P k b kept → Awaited Q (mark_in j (with_ends j l)) (owner_in j (with_ends j l)) j j.item k b kept) →
    (owner_in j (with_ends j l) ≡ None →
    Awaited Q (mark_in j (with_ends j l)) (owner_in j (with_ends j l)) j j.item (length (with_ends j l).ops)
    (new_one j (op_of (with_ends j l).ops (found l.places.newest j.ce)) j.item).beginning (kept_of (new_one j (op_of (with_ends j l).ops (found l.places.newest j.ce)) j.item))) →
    Each Q (listed j l).ops
each_listed P Q j l all old new = by_rest (Each Q) (each_quiet Q) j (mark_in j (with_ends j l)) (came j l) (each_came P Q j l all old new)

-- ---- one item

-- the newest operation of a target has its tail, as far as the past goes
abbrev pub Holds : List (Option ℕ) → List Item → ℕ → Beginning → Kept → Type 0
Holds newest past k b kept = (ce : ℕ) → found newest ce ≡ Some k → Held b kept (tail past ce)

-- the pieces so far, by number, after this past
pub record Stands (past : List Item) (l : Listing) (pieces : ℕ → List TargetCycle) : Type 0 where
  pub four : length l.places.newest ≡ 4
  pub nobody : (ce : ℕ) → ce < 4 → found l.places.newest ce ≡ None → tail past ce ≡ []
  pub piece : (ce k : ℕ) → found l.places.newest ce ≡ Some k → pieces k ≡ without_outputs (tail past ce)
  pub apart : (a b k : ℕ) → found l.places.newest a ≡ Some k → found l.places.newest b ≡ Some k → a ≡ b
  pub fresh : (k : ℕ) → length l.ops ≤ k → pieces k ≡ []
  pub content : Each (Holds l.places.newest past) l.ops

-- the pieces once an item with this mark has come
abbrev pub came_to : ℕ → Item → (ℕ → List TargetCycle) → ℕ → List TargetCycle
came_to m i pieces k = cond (m == k) (with_part i (pieces k)) (pieces k)

came_same : (m : ℕ) (i : Item) (pieces : ℕ → List TargetCycle) (k : ℕ) → ((t : List TargetCycle) → with_part i t ≡ t) → came_to m i pieces k ≡ pieces k
came_same m i pieces k part = at (m == k)
  where
    at : (b : Bool) → cond b (with_part i (pieces k)) (pieces k) ≡ pieces k
    at true = part (pieces k)
    at false = refl

came_other : (m : ℕ) (i : Item) (pieces : ℕ → List TargetCycle) (k : ℕ) → (m ≡ k → ⊥) → came_to m i pieces k ≡ pieces k
came_other m i pieces k apart = ap (λ b. cond b (with_part i (pieces k)) (pieces k)) (ne_eqb m k apart)

came_own : (m : ℕ) (i : Item) (pieces : ℕ → List TargetCycle) (k : ℕ) → m ≡ k → came_to m i pieces k ≡ with_part i (pieces k)
came_own m i pieces k same = ap (λ b. cond b (with_part i (pieces k)) (pieces k)) (eq-eqb m k same)

module _ (past : List Item) (i : Item) (j : Judged) (l : Listing) (pieces : ℕ → List TargetCycle) (stands : Stands past l pieces) (w : AreWithin (length l.ops) l.places) where
  abbrev mark : ℕ
  mark = mark_in j (with_ends j l)

  abbrev owner : Option ℕ
  owner = owner_in j (with_ends j l)

  abbrev many : ℕ
  many = length (with_ends j l).ops

  same_many : many ≡ length l.ops
  same_many = length_ends j l

  more : length l.ops ≤ length (listed j l).ops
  more = (let a = length_listed j l in let b = length_came j l in omega (arith, a, b))

  below : (d k : ℕ) → found l.places.newest d ≡ Some k → k < many
  below d k h = (let s = found_below (length l.ops) l.places.newest d k w.newest h in let m = same_many in omega (arith, s, m))

  newest_so : (o : Option ℕ) → owner ≡ o → (listed j l).places.newest ≡ newest_by o j.item j.ce many l.places.newest
  newest_so o h = listed_newest j l ∙ ap (λ x. newest_by x j.item j.ce many l.places.newest) h

  mark_so : (o : Option ℕ) → owner ≡ o → mark ≡ number_of o (with_ends j l).ops
  mark_so o h = ap (λ x. number_of x (with_ends j l).ops) h

  -- an item that brings no cycle of a sequence, and no newest
  pub still : (listed j l).places.newest ≡ l.places.newest → ((d k : ℕ) (b : Beginning) (kept : Kept) → found l.places.newest d ≡ Some k → Held b kept (tail past d) → Held b kept (tail (i ∷ past) d)) →
      ((d : ℕ) → without_outputs (tail (i ∷ past) d) ≡ without_outputs (tail past d)) → ((d : ℕ) → tail past d ≡ [] → tail (i ∷ past) d ≡ []) → ((t : List TargetCycle) → with_part i t ≡ t) →
      ((b : Beginning) (kept : Kept) → kept_with owner j j.item b kept ≡ kept) → Stands (i ∷ past) (listed j l) (came_to mark i pieces)
  still same content outs none part kepts = record {
    four = ap length same ∙ stands.four;
    nobody = λ d lt h. none d (stands.nobody d lt (old d None h));
    piece = λ d k h. came_same mark i pieces k part ∙ stands.piece d k (old d (Some k) h) ∙ sym (outs d);
    apart = λ a b k x y. stands.apart a b k (old a (Some k) x) (old b (Some k) y);
    fresh = λ k le. came_same mark i pieces k part ∙ stands.fresh k (let m = more in omega (arith, m, le));
    content = each_listed (Holds l.places.newest past) (Holds (listed j l).places.newest (i ∷ past)) j l stands.content on_old (λ e. on_new);
  }
    where
      old : (d : ℕ) (o : Option ℕ) → found (listed j l).places.newest d ≡ o → found l.places.newest d ≡ o
      old d o h = ap (λ p. found p d) (sym same) ∙ h

      on_old : (k : ℕ) (b : Beginning) (kept : Kept) → k < many → Holds l.places.newest past k b kept →
          Awaited (Holds (listed j l).places.newest (i ∷ past)) mark owner j j.item k b kept
      on_old k b kept lt holds = (
        (λ e d h. content d k b kept (old d (Some k) h) (holds d (old d (Some k) h))),
        (λ e d h. subst (λ (x : Kept). Held b x (tail (i ∷ past) d)) (sym (kepts b kept)) (content d k b kept (old d (Some k) h) (holds d (old d (Some k) h)))),
      )

      none_there : (b : Beginning) (kept : Kept) → Holds (listed j l).places.newest (i ∷ past) many b kept
      none_there b kept d h = absurd (let s = below d many (old d (Some many) h) in omega (arith, s))

      on_new : Awaited (Holds (listed j l).places.newest (i ∷ past)) mark owner j j.item many
          (new_one j (op_of (with_ends j l).ops (found l.places.newest j.ce)) j.item).beginning (kept_of (new_one j (op_of (with_ends j l).ops (found l.places.newest j.ce)) j.item))
      on_new = ((λ e. none_there _ _), (λ e. none_there _ _))

  abbrev newcomer : Operation
  newcomer = new_one j (op_of (with_ends j l).ops (found l.places.newest j.ce)) j.item

  -- an item that becomes the newest operation of its target, with the first cycle of a sequence or none
  pub renewed : (ce : ℕ) → ce < 4 → owner ≡ None → (listed j l).places.newest ≡ slice_set l.places.newest ce (Some many) → ((d : ℕ) → (ce ≡ d → ⊥) → tail (i ∷ past) d ≡ tail past d) →
      with_part i [] ≡ without_outputs (tail (i ∷ past) ce) → Held newcomer.beginning (kept_with owner j j.item newcomer.beginning (kept_of newcomer)) (tail (i ∷ past) ce) →
      Stands (i ∷ past) (listed j l) (came_to mark i pieces)
  renewed ce lt nobodys same others outs content = record {
    four = ap length same ∙ length-set l.places.newest ce (Some many) ∙ stands.four;
    nobody = λ d few h. at_nobody d few h (split ce d);
    piece = λ d k h. at_piece d k h (split ce d);
    apart = λ a b k x y. at_apart a b k x y (split ce a) (split ce b);
    fresh = λ k le. (
        let grown = grows in
        let s = same_many in
        came_other mark i pieces k (λ e. omega (arith, e, is, grown, le)) ∙ stands.fresh k (omega (arith, grown, s, le))
        );
    content = each_listed (Holds l.places.newest past) (Holds (listed j l).places.newest (i ∷ past)) j l stands.content on_old (λ e. on_new);
  }
    where
      is : mark ≡ many
      is = mark_so None nobodys

      grows : many < length (listed j l).ops
      grows =
          let one : new_many owner ≡ 1 = ap new_many nobodys in
          let a = length_listed j l in
          let b = length_came j l in
          let c = same_many in
          omega (arith, one, a, b, c)

      own : found (listed j l).places.newest ce ≡ Some many
      own = ap (λ p. found p ce) same ∙ found_same l.places.newest ce many (let f = stands.four in omega (arith, f, lt))

      other : (d : ℕ) → (ce ≡ d → ⊥) → found (listed j l).places.newest d ≡ found l.places.newest d
      other d away = ap (λ p. found p d) same ∙ found_other l.places.newest ce d (Some many) away

      mine : (d k : ℕ) → ce ≡ d → found (listed j l).places.newest d ≡ Some k → many ≡ k
      mine d k e h = same_some (sym own ∙ ap (found (listed j l).places.newest) e ∙ h)

      theirs : (d k : ℕ) → (ce ≡ d → ⊥) → found (listed j l).places.newest d ≡ Some k → found l.places.newest d ≡ Some k
      theirs d k away h = sym (other d away) ∙ h

      at_nobody : (d : ℕ) → d < 4 → found (listed j l).places.newest d ≡ None → (ce ≡ d) ⊎ (ce ≡ d → ⊥) → tail (i ∷ past) d ≡ []
      at_nobody d few h (inl e) = absurd (none (sym own ∙ ap (found (listed j l).places.newest) e ∙ h))
        where
          none : Some many ≡ None → ⊥
          none x = cc
      at_nobody d few h (inr away) = others d away ∙ stands.nobody d few (sym (other d away) ∙ h)

      at_piece : (d k : ℕ) → found (listed j l).places.newest d ≡ Some k → (ce ≡ d) ⊎ (ce ≡ d → ⊥) → came_to mark i pieces k ≡ without_outputs (tail (i ∷ past) d)
      at_piece d k h (inl e) =
          let number = mine d k e h in
          let s = same_many in
          came_own mark i pieces k (is ∙ number) ∙ ap (with_part i) (stands.fresh k (omega (arith, s, number))) ∙ outs ∙ ap (λ x. without_outputs (tail (i ∷ past) x)) e
      at_piece d k h (inr away) =
          let old = theirs d k away h in
          let small = below d k old in
          came_other mark i pieces k (λ e. omega (arith, e, is, small)) ∙ stands.piece d k old ∙ ap without_outputs (sym (others d away))

      both : (a b k : ℕ) → ce ≡ a → (ce ≡ b → ⊥) → found (listed j l).places.newest a ≡ Some k → found (listed j l).places.newest b ≡ Some k → ⊥
      both a b k p q x y =
          let number = mine a k p x in
          let small = below b k (theirs b k q y) in
          omega (arith, number, small)

      at_apart : (a b k : ℕ) → found (listed j l).places.newest a ≡ Some k → found (listed j l).places.newest b ≡ Some k → (ce ≡ a) ⊎ (ce ≡ a → ⊥) → (ce ≡ b) ⊎ (ce ≡ b → ⊥) → a ≡ b
      at_apart a b k x y (inl p) (inl q) = sym p ∙ q
      at_apart a b k x y (inl p) (inr q) = absurd (both a b k p q x y)
      at_apart a b k x y (inr p) (inl q) = absurd (both b a k q p y x)
      at_apart a b k x y (inr p) (inr q) = stands.apart a b k (theirs a k p x) (theirs b k q y)

      on_old : (k : ℕ) (b : Beginning) (kept : Kept) → k < many → Holds l.places.newest past k b kept →
          Awaited (Holds (listed j l).places.newest (i ∷ past)) mark owner j j.item k b kept
      on_old k b kept small holds = ((λ e d h. at_place d h (split ce d)), (λ e. absurd (omega (arith, e, is, small))))
        where
          at_place : (d : ℕ) → found (listed j l).places.newest d ≡ Some k → (ce ≡ d) ⊎ (ce ≡ d → ⊥) → Held b kept (tail (i ∷ past) d)
          at_place d h (inl e) = absurd (let number = mine d k e h in omega (arith, number, small))
          at_place d h (inr away) = subst (λ (t : List TargetCycle). Held b kept t) (sym (others d away)) (holds d (theirs d k away h))

      on_new : Awaited (Holds (listed j l).places.newest (i ∷ past)) mark owner j j.item many newcomer.beginning (kept_of newcomer)
      on_new = ((λ e. absurd (e (sym is))), (λ e d h. at_place d h (split ce d)))
        where
          at_place : (d : ℕ) → found (listed j l).places.newest d ≡ Some many → (ce ≡ d) ⊎ (ce ≡ d → ⊥) →
              Held newcomer.beginning (kept_with owner j j.item newcomer.beginning (kept_of newcomer)) (tail (i ∷ past) d)
          at_place d h (inl e) = subst (λ (x : ℕ). Held newcomer.beginning (kept_with owner j j.item newcomer.beginning (kept_of newcomer)) (tail (i ∷ past) x)) e content
          at_place d h (inr away) = absurd (let small = below d many (theirs d many away h) in omega (arith, small))

  -- an item that goes on with the sequence of its target
  pub gone_on : (ce k : ℕ) (cycle : TargetCycle) → found l.places.newest ce ≡ Some k → owner ≡ Some k → (listed j l).places.newest ≡ l.places.newest →
      ((d : ℕ) → (ce ≡ d → ⊥) → tail (i ∷ past) d ≡ tail past d) → with_part i (pieces k) ≡ cycle ∷ pieces k → without_outputs (tail (i ∷ past) ce) ≡ cycle ∷ without_outputs (tail past ce) →
      ((b : Beginning) (kept : Kept) → Held b kept (tail past ce) → Held b (kept_with owner j j.item b kept) (tail (i ∷ past) ce)) →
      Stands (i ∷ past) (listed j l) (came_to mark i pieces)
  gone_on ce k cycle newest mine same others part outs content = record {
    four = ap length same ∙ stands.four;
    nobody = λ d few h. at_nobody d few h (split ce d);
    piece = λ d m h. at_piece d m h (split ce d);
    apart = λ a b m x y. stands.apart a b m (old a (Some m) x) (old b (Some m) y);
    fresh = λ m le. (
        let grown = more in
        let small = below ce k newest in
        let s = same_many in
        came_other mark i pieces m (λ e. omega (arith, e, is, small, s, grown, le)) ∙ stands.fresh m (omega (arith, grown, le))
        );
    content = each_listed (Holds l.places.newest past) (Holds (listed j l).places.newest (i ∷ past)) j l stands.content on_old (λ e. absurd (none (sym mine ∙ e)));
  }
    where
      none : Some k ≡ None → ⊥
      none x = cc

      is : mark ≡ k
      is = mark_so (Some k) mine

      old : (d : ℕ) (o : Option ℕ) → found (listed j l).places.newest d ≡ o → found l.places.newest d ≡ o
      old d o h = ap (λ p. found p d) (sym same) ∙ h

      at_nobody : (d : ℕ) → d < 4 → found (listed j l).places.newest d ≡ None → (ce ≡ d) ⊎ (ce ≡ d → ⊥) → tail (i ∷ past) d ≡ []
      at_nobody d few h (inl e) = absurd (none (sym newest ∙ ap (found l.places.newest) e ∙ old d None h))
      at_nobody d few h (inr away) = others d away ∙ stands.nobody d few (old d None h)

      at_piece : (d m : ℕ) → found (listed j l).places.newest d ≡ Some m → (ce ≡ d) ⊎ (ce ≡ d → ⊥) → came_to mark i pieces m ≡ without_outputs (tail (i ∷ past) d)
      at_piece d m h (inl e) =
          let number : k ≡ m = same_some (sym newest ∙ ap (found l.places.newest) e ∙ old d (Some m) h) in
          came_own mark i pieces m (is ∙ number) ∙ ap (λ x. with_part i (pieces x)) (sym number) ∙ part ∙ ap (λ t. cycle ∷ t) (stands.piece ce k newest) ∙ sym outs ∙ ap (λ x. without_outputs (tail (i ∷ past) x)) e
      at_piece d m h (inr away) =
          came_other mark i pieces m (λ e. away (stands.apart ce d m (newest ∙ ap Some (sym is ∙ e)) (old d (Some m) h))) ∙ stands.piece d m (old d (Some m) h) ∙ ap without_outputs (sym (others d away))

      on_old : (m : ℕ) (b : Beginning) (kept : Kept) → m < many → Holds l.places.newest past m b kept →
          Awaited (Holds (listed j l).places.newest (i ∷ past)) mark owner j j.item m b kept
      on_old m b kept small holds = ((λ e d h. at_other e d h (split ce d)), (λ e d h. at_own e d h (split ce d)))
        where
          at_other : (m ≡ mark → ⊥) → (d : ℕ) → found (listed j l).places.newest d ≡ Some m → (ce ≡ d) ⊎ (ce ≡ d → ⊥) → Held b kept (tail (i ∷ past) d)
          at_other e d h (inl same') = absurd (e (same_some (sym (old d (Some m) h) ∙ ap (found l.places.newest) (sym same') ∙ newest) ∙ sym is))
          at_other e d h (inr away) = subst (λ (t : List TargetCycle). Held b kept t) (sym (others d away)) (holds d (old d (Some m) h))

          at_own : m ≡ mark → (d : ℕ) → found (listed j l).places.newest d ≡ Some m → (ce ≡ d) ⊎ (ce ≡ d → ⊥) → Held b (kept_with owner j j.item b kept) (tail (i ∷ past) d)
          at_own e d h (inl same') =
              subst (λ (x : ℕ). Held b (kept_with owner j j.item b kept) (tail (i ∷ past) x)) same' (content b kept (holds ce (ap (found l.places.newest) same' ∙ old d (Some m) h)))
          at_own e d h (inr away) = absurd (away (stands.apart ce d m (newest ∙ ap Some (sym is ∙ sym e)) (old d (Some m) h)))

-- ---- one item of a legal past

-- an output that is permitted comes behind a sequence that isn't open
shut_output : (t : TailFacts) (luns : List LunView) → breaks_no_sole_driver t luns OutputCycle ≡ false → is_open t ≡ false
unfolding breaks_no_sole_driver
shut_output t luns h = (or_parts (is_open t) _ h).0

same_kept : (b : Bool) (kept : Kept) → record {
  closer = cond b kept.closer kept.closer;
  is_addressed = cond b kept.is_addressed kept.is_addressed;
  address_count = cond b kept.address_count kept.address_count;
} ≡ kept
same_kept true kept = refl
same_kept false kept = refl

newest_kept : (owner : Option ℕ) (i : Item) (ce n : ℕ) (newest : List (Option ℕ)) → newest_with i ce n newest ≡ newest → newest_by owner i ce n newest ≡ newest
newest_kept None i ce n newest h = h
newest_kept (Some k) i ce n newest h = refl

pub none_newest : (b : Bool) (x y : Option ℕ) → cond b y (either_of x y) ≡ None → y ≡ None
none_newest true x y h = h
none_newest false None y h = h
none_newest false (Some k) y h = cc

abbrev JudgedAs : Readies → Bool → Seen → ℕ → Item → List Item → Judged
JudgedAs readies one_lun seen n i later = judged_as readies one_lun seen n (target_of i) i later

abbrev StandsAfter : Readies → Bool → Seen → ℕ → List Item → List Item → Listing → (ℕ → List TargetCycle) → Item → Type 0
StandsAfter readies one_lun seen n later past l pieces i =
    Stands (i ∷ past) (listed (JudgedAs readies one_lun seen n i later) l)
    (came_to (mark_in (JudgedAs readies one_lun seen n i later) (with_ends (JudgedAs readies one_lun seen n i later) l)) i pieces)

-- an operation holds the opener that begins it
abbrev FreshlyHeld : Judged → Cycle → Operation → Option ℕ → Type 0
FreshlyHeld j c o owner = Held o.beginning (kept_with owner j (Cyc c) o.beginning (kept_of o)) (CommandCycle (command c.byte) ∷ [])

module _ (readies : Readies) (one_lun : Bool) (seen : Seen) (n : ℕ) (later past : List Item) (l : Listing) (pieces : ℕ → List TargetCycle) (stands : Stands past l pieces)
    (w : AreWithin (length l.ops) l.places) where
  stands_ready : (ce lun : ℕ) (fail : Failures) → StandsAfter readies one_lun seen n later past l pieces (Rdy ce lun fail)
  stands_ready ce lun fail =
      let j = JudgedAs readies one_lun seen n (Rdy ce lun fail) later in
      still past (Rdy ce lun fail) j l pieces stands w (listed_newest j l ∙ newest_kept (owner_in j (with_ends j l)) (Rdy ce lun fail) ce (length (with_ends j l).ops) l.places.newest refl)
      (λ d k b kept h c. c) (λ d. refl) (λ d h. h) (λ t. refl) (λ b kept. refl)

  stands_array_ready : (ce lun : ℕ) (fail : Bool) → StandsAfter readies one_lun seen n later past l pieces (Ard ce lun fail)
  stands_array_ready ce lun fail =
      let j = JudgedAs readies one_lun seen n (Ard ce lun fail) later in
      still past (Ard ce lun fail) j l pieces stands w (listed_newest j l ∙ newest_kept (owner_in j (with_ends j l)) (Ard ce lun fail) ce (length (with_ends j l).ops) l.places.newest refl)
      (λ d k b kept h c. c) (λ d. refl) (λ d h. h) (λ t. refl) (λ b kept. refl)

  stands_output : (ce byte : ℕ) → ce < 4 → is_open (facts_of (tail past ce)) ≡ false → StandsAfter readies one_lun seen n later past l pieces (Cyc (record { ce = ce; kind = Dout; byte = byte }))
  stands_output ce byte lt shut = at (owner_in j (with_ends j l)) refl
    where
      c : Cycle
      c = record { ce = ce; kind = Dout; byte = byte }

      j : Judged
      j = JudgedAs readies one_lun seen n (Cyc c) later

      own : (b : Beginning) (kept : Kept) → Held b kept (tail past ce) → Held b kept (tail (Cyc c ∷ past) ce)
      own b kept was = subst (λ (t : List TargetCycle). Held b kept t) (sym (tail_own c past)) (held_output b kept (tail past ce) was shut)

      content : (d k : ℕ) (b : Beginning) (kept : Kept) → Held b kept (tail past d) → (ce ≡ d) ⊎ (ce ≡ d → ⊥) → Held b kept (tail (Cyc c ∷ past) d)
      content d k b kept was (inl e) = subst (λ (x : ℕ). Held b kept (tail (Cyc c ∷ past) x)) e (own b kept (subst (λ (x : ℕ). Held b kept (tail past x)) (sym e) was))
      content d k b kept was (inr away) = subst (λ (t : List TargetCycle). Held b kept t) (sym (tail_other c past d away)) was

      outs : (d : ℕ) → (ce ≡ d) ⊎ (ce ≡ d → ⊥) → without_outputs (tail (Cyc c ∷ past) d) ≡ without_outputs (tail past d)
      outs d (inl e) =
          ap (λ x. without_outputs (tail (Cyc c ∷ past) x)) (sym e) ∙ ap without_outputs (tail_own c past) ∙ after_output (tail past ce) ∙ ap (λ x. without_outputs (tail past x)) e
      outs d (inr away) = ap without_outputs (tail_other c past d away)

      empty : (d : ℕ) → tail past d ≡ [] → (ce ≡ d) ⊎ (ce ≡ d → ⊥) → tail (Cyc c ∷ past) d ≡ []
      empty d h (inl e) = ap (tail (Cyc c ∷ past)) (sym e) ∙ tail_own c past ∙ ap (continued OutputCycle) (ap (tail past) e ∙ h)
      empty d h (inr away) = tail_other c past d away ∙ h

      at : (o : Option ℕ) → owner_in j (with_ends j l) ≡ o → StandsAfter readies one_lun seen n later past l pieces (Cyc c)
      at None h =
          let nothing : tail past ce ≡ [] = stands.nobody ce lt (none_newest _ _ (found l.places.newest ce) h) in
          renewed past (Cyc c) j l pieces stands w ce lt h (newest_so past (Cyc c) j l pieces stands w None h) (λ d away. tail_other c past d away)
          (sym (ap without_outputs (tail_own c past ∙ ap (continued OutputCycle) nothing)))
          (subst (λ (t : List TargetCycle). Held begins.Cut (kept_with (owner_in j (with_ends j l)) j (Cyc c) begins.Cut (kept_of (begun ce n begins.Cut))) t) (sym (tail_own c past))
          (held_cut (kept_with (owner_in j (with_ends j l)) j (Cyc c) begins.Cut (kept_of (begun ce n begins.Cut))) (tail past ce)))
      at (Some k) h =
          still past (Cyc c) j l pieces stands w (newest_so past (Cyc c) j l pieces stands w (Some k) h)
          (λ d m b kept found' was. content d m b kept was (split ce d)) (λ d. outs d (split ce d)) (λ d is. empty d is (split ce d)) (λ t. refl)
          (λ b kept. same_kept (is_new_opener (owner_in j (with_ends j l)) j Dout) kept)

  -- a command that begins an operation, and a tail
  stands_opener : (ce byte : ℕ) → ce < 4 → begins_anew (facts_of (tail past ce)) (CommandCycle (command byte)) ≡ true →
      begins_one (op_of (with_ends (JudgedAs readies one_lun seen n (Cyc (record { ce = ce; kind = Cmd; byte = byte })) later) l).ops (found l.places.newest ce)) byte ≡ true →
      StandsAfter readies one_lun seen n later past l pieces (Cyc (record { ce = ce; kind = Cmd; byte = byte }))
  stands_opener ce byte lt anew begins_so =
      renewed past (Cyc c) j l pieces stands w ce lt nobodys (newest_so past (Cyc c) j l pieces stands w None nobodys) (λ d away. tail_other c past d away) (sym (ap without_outputs tail_is)) content
    where
      c : Cycle
      c = record { ce = ce; kind = Cmd; byte = byte }

      j : Judged
      j = JudgedAs readies one_lun seen n (Cyc c) later

      before : Option Operation
      before = op_of (with_ends j l).ops (found l.places.newest ce)

      nobodys : owner_in j (with_ends j l) ≡ None
      nobodys = ap (λ x. cond x None (found l.places.newest ce)) begins_so

      tail_is : tail (Cyc c ∷ past) ce ≡ CommandCycle (command byte) ∷ []
      tail_is = tail_own c past ∙ ap (λ x. cond x (CommandCycle (command byte) ∷ []) (continued (CommandCycle (command byte)) (tail past ce))) anew

      fresh : FreshlyHeld j c (new_one j before (Cyc c)) None
      fresh =
          subst (λ (x : Bool). FreshlyHeld j c (cond x (begun ce n (begins.Opener byte)) (begun ce n begins.Cut)) None) (sym begins_so) (held_opener byte)

      content : Held (new_one j before (Cyc c)).beginning (kept_with (owner_in j (with_ends j l)) j (Cyc c) (new_one j before (Cyc c)).beginning (kept_of (new_one j before (Cyc c)))) (tail (Cyc c ∷ past) ce)
      content =
          subst (λ (t : List TargetCycle). Held (new_one j before (Cyc c)).beginning
          (kept_with (owner_in j (with_ends j l)) j (Cyc c) (new_one j before (Cyc c)).beginning (kept_of (new_one j before (Cyc c)))) t) (sym tail_is)
          (subst (λ (x : Option ℕ). FreshlyHeld j c (new_one j before (Cyc c)) x) (sym nobodys) fresh)

  -- a cycle that its tail wants
  stands_wanted : (c : Cycle) → c.ce < 4 → begins_anew (facts_of (tail past c.ce)) (target_cycle c.kind c.byte) ≡ false →
      ((t : List TargetCycle) → with_part (Cyc c) t ≡ target_cycle c.kind c.byte ∷ t) → ((t : List TargetCycle) → without_outputs (target_cycle c.kind c.byte ∷ t) ≡ target_cycle c.kind c.byte ∷ without_outputs t) →
      ((k : ℕ) (b : Beginning) (kept : Kept) (d : TargetCycle) (t : List TargetCycle) → tail past c.ce ≡ d ∷ t → Held b kept (d ∷ t) →
      Held b (kept_with (Some k) (JudgedAs readies one_lun seen n (Cyc c) later) (Cyc c) b kept) (target_cycle c.kind c.byte ∷ (d ∷ t))) →
      (tail past c.ce ≡ [] → ⊥) →
      ((k : ℕ) → found l.places.newest c.ce ≡ Some k → owner_in (JudgedAs readies one_lun seen n (Cyc c) later) (with_ends (JudgedAs readies one_lun seen n (Cyc c) later) l) ≡ Some k) →
      StandsAfter readies one_lun seen n later past l pieces (Cyc c)
  stands_wanted c lt no_opener part outs content some owned = at (found l.places.newest c.ce) refl (tail past c.ce) refl
    where
      j : Judged
      j = JudgedAs readies one_lun seen n (Cyc c) later

      cycle : TargetCycle
      cycle = target_cycle c.kind c.byte

      at : (o : Option ℕ) → found l.places.newest c.ce ≡ o → (t : List TargetCycle) → tail past c.ce ≡ t → StandsAfter readies one_lun seen n later past l pieces (Cyc c)
      at None h t is = absurd (some (stands.nobody c.ce lt h))
      at (Some k) h [] is = absurd (some is)
      at (Some k) h (d ∷ t) is =
          let mine = owned k h in
          let tail_is : tail (Cyc c ∷ past) c.ce ≡ cycle ∷ (d ∷ t) = tail_own c past ∙ goes_on cycle d t (tail past c.ce) no_opener is in
          gone_on past (Cyc c) j l pieces stands w c.ce k cycle h mine (newest_so past (Cyc c) j l pieces stands w (Some k) mine) (λ e away. tail_other c past e away) (part (pieces k))
          (ap without_outputs tail_is ∙ outs (d ∷ t) ∙ ap (λ x. cycle ∷ without_outputs x) (sym is))
          (λ b kept was.
          subst (λ (x : List TargetCycle). Held b (kept_with (owner_in j (with_ends j l)) j (Cyc c) b kept) x) (sym tail_is)
          (subst (λ (o : Option ℕ). Held b (kept_with o j (Cyc c) b kept) (cycle ∷ (d ∷ t))) (sym mine) (content k b kept d t is (subst (λ (x : List TargetCycle). Held b kept x) is was))))

module _ (readies : Readies) (one_lun : Bool) (g : Parts) (targets : ℕ) (few : targets ≤ 4) where
  module _ (seen : Seen) (n : ℕ) (later past : List Item) (l : Listing) (pieces : ℕ → List TargetCycle) (stands : Stands past l pieces) (w : AreWithin (length l.ops) l.places) where
    -- the newest operation of a target goes on with what its tail wants
    goes_on_with : (ce byte k : ℕ) → found l.places.newest ce ≡ Some k → is_known (command byte) ≡ true → opens_alone byte ≡ false → wants_command (facts_of (tail past ce)) (command byte) ≡ true →
        owner_in (JudgedAs readies one_lun seen n (Cyc (record { ce = ce; kind = Cmd; byte = byte })) later)
        (with_ends (JudgedAs readies one_lun seen n (Cyc (record { ce = ce; kind = Cmd; byte = byte })) later) l) ≡ Some k
    goes_on_with ce byte k h known no_opener wanted =
        let j = JudgedAs readies one_lun seen n (Cyc (record { ce = ce; kind = Cmd; byte = byte })) later in
        let ops = (with_ends j l).ops in
        let each : Each (Holds l.places.newest past) ops = by_ends (Each (Holds l.places.newest past)) (each_quiet (Holds l.places.newest past)) j l.places l.ops stands.content in
        let small = found_below (length l.ops) l.places.newest ce k w.newest h in
        let same = length_ends j l in
        let o = there ops k (omega (arith, small, same)) in
        let begins_so = wanted_begins_none o.0 (tail past ce) byte (each k o.0 o.1 ce h).content known no_opener wanted in
        ap (λ x. cond (begins_one (op_of ops x) byte) None x) h ∙ ap (λ x. cond (begins_one x byte) None (Some k)) o.1 ∙ ap (λ x. cond x None (Some k)) begins_so

    stands_cycle : (ce byte : ℕ) (kind : Kind) → broken g targets past (Cyc (record { ce = ce; kind = kind; byte = byte })) ≡ None →
        StandsAfter readies one_lun seen n later past l pieces (Cyc (record { ce = ce; kind = kind; byte = byte }))
    stands_cycle ce byte Cmd h = at (closes_read newest byte) refl (opens_alone byte) refl
      where
        c : Cycle
        c = record { ce = ce; kind = Cmd; byte = byte }

        j : Judged
        j = JudgedAs readies one_lun seen n (Cyc c) later

        newest : Option Operation
        newest = op_of (with_ends j l).ops (found l.places.newest ce)

        lt : ce < 4
        lt = (let small = target_below g targets past c h in let all = few in omega (arith, small, all))

        keeps : KeepsRules g (facts_of (tail past ce)) (luns_of g past ce) (CommandCycle (command byte))
        keeps = permitted_keeps g targets past c h

        each : Each (Holds l.places.newest past) (with_ends j l).ops
        each = by_ends (Each (Holds l.places.newest past)) (each_quiet (Holds l.places.newest past)) j l.places l.ops stands.content

        on : wants_command (facts_of (tail past ce)) (command byte) ≡ true → begins_anew (facts_of (tail past ce)) (CommandCycle (command byte)) ≡ false →
            ((k : ℕ) → found l.places.newest ce ≡ Some k → owner_in j (with_ends j l) ≡ Some k) → StandsAfter readies one_lun seen n later past l pieces (Cyc c)
        on wanted goes owned =
            stands_wanted readies one_lun seen n later past l pieces stands w c lt goes (λ t. refl) (λ t. refl)
            (λ k b kept d t is was. held_command b kept byte d t was (ap (λ (u : List TargetCycle). wants_command (facts_of u) (command byte)) (sym is) ∙ wanted))
            (λ e. no_command (command byte) (ap (λ t. wants_command (facts_of t) (command byte)) (sym e) ∙ wanted)) owned

        -- a 31h that closes a read
        closing : closes_read newest byte ≡ true → StandsAfter readies one_lun seen n later past l pieces (Cyc c)
        closing e = on wanted goes (λ k found'. ap (λ x. cond x None (found l.places.newest ce)) (closing_begins_none newest byte e) ∙ found')
          where
            code : command byte ≡ ReadCacheSequential
            code = commands_have_bytes.command_of_byte ReadCacheSequential byte (ap Some (sym (eqb-true byte 0x31 (and_parts (byte == 0x31) (is_open_read_op newest) e).0)))

            at_place : (k : Option ℕ) → found l.places.newest ce ≡ k → (o : Option Operation) → op_of (with_ends j l).ops k ≡ o → is_open_read_op o ≡ true → opening (tail past ce) ≡ Some whole_read
            at_place None p None q r = cc
            at_place None p (Some o) q r = cc
            at_place (Some k) p None q r = cc
            at_place (Some k) p (Some o) q r = (each k o q ce p).reads r

            whole : opening (tail past ce) ≡ Some whole_read
            whole = at_place (found l.places.newest ce) refl newest refl (and_parts (byte == 0x31) (is_open_read_op newest) e).1

            wanted : wants_command (facts_of (tail past ce)) (command byte) ≡ true
            wanted = ap (wants_command (facts_of (tail past ce))) code ∙ whole_wants (tail past ce) whole

            goes : begins_anew (facts_of (tail past ce)) (CommandCycle (command byte)) ≡ false
            goes = ap (λ x. begins_anew (facts_of (tail past ce)) (CommandCycle x)) code ∙ ap not (whole_wants (tail past ce) whole)

        -- an opener that closes none
        opening_so : closes_read newest byte ≡ false → opens_alone byte ≡ true → StandsAfter readies one_lun seen n later past l pieces (Cyc c)
        opening_so e opens = stands_opener readies one_lun seen n later past l pieces stands w ce byte lt (anew (command byte) refl opens) (opener_begins newest byte opens e)
          where
            unread : command byte ≡ ReadCacheSequential → wants_command (facts_of (tail past ce)) ReadCacheSequential ≡ true → ⊥
            unread code wanted = at_place (found l.places.newest ce) refl
              where
                is : (byte == 0x31) ≡ true
                is = eq-eqb byte 0x31 (byte_of byte 0x31 ReadCacheSequential refl code)

                at_place : (k : Option ℕ) → found l.places.newest ce ≡ k → ⊥
                at_place None p =
                    no_command ReadCacheSequential (ap (λ t. wants_command (facts_of t) ReadCacheSequential) (sym (stands.nobody ce lt p)) ∙ wanted)
                at_place (Some k) p =
                    let small = found_below (length l.ops) l.places.newest ce k w.newest p in
                    let same = length_ends j l in
                    let o = there (with_ends j l).ops k (omega (arith, small, same)) in
                    let there' : newest ≡ Some o.0 = ap (op_of (with_ends j l).ops) p ∙ o.1 in
                    let reads = wanted_reading o.0.beginning (kept_of o.0) (tail past ce) (each k o.0 o.1 ce p) wanted in
                    clash (closes_read newest byte) (ap (λ x. closes_read x byte) there' ∙ ap (λ x. x && is_open_read o.0) is ∙ reads) e

            off : (x : Bool) → wants_command (facts_of (tail past ce)) ReadCacheSequential ≡ x → command byte ≡ ReadCacheSequential → x ≡ false
            off true q code = absurd (unread code q)
            off false q code = refl

            anew : (x : Command) → command byte ≡ x → opens_alone byte ≡ true → begins_anew (facts_of (tail past ce)) (CommandCycle (command byte)) ≡ true
            anew x code h = ap (λ y. begins_anew (facts_of (tail past ce)) (CommandCycle y)) code ∙ of x code (ap (λ (x : Command). begins_alone (CommandCycle x)) (sym code) ∙ h)
              where
                of : (y : Command) → command byte ≡ y → begins_alone (CommandCycle y) ≡ true → begins_anew (facts_of (tail past ce)) (CommandCycle y) ≡ true
                of ReadCacheSequential code h = ap not (off (wants_command (facts_of (tail past ce)) ReadCacheSequential) refl code)
                of ChangeWriteColumn code h = cc
                of ReadConfirm code h = cc
                of BlockEraseConfirm code h = cc
                of BlockErasePlane code h = cc
                of ReadPlane code h = cc
                of CopybackRead code h = cc
                of ProgramConfirm code h = cc
                of ProgramPlane code h = cc
                of ProgramCache code h = cc
                of y code h = h

        -- an 85h that no program wants begins an operation
        copying : opens_alone byte ≡ false → wants_command (facts_of (tail past ce)) (command byte) ≡ false → StandsAfter readies one_lun seen n later past l pieces (Cyc c)
        copying opens unwanted = stands_opener readies one_lun seen n later past l pieces stands w ce byte lt anew begins
          where
            third : (x y : Bool) → (x || (y || true)) ≡ true
            third true y = refl
            third false true = refl
            third false false = refl

            here : opens_here g (command byte) ≡ true
            here = unwanted_opens g (facts_of (tail past ce)) (command byte) keeps.f6 unwanted

            code : command byte ≡ ChangeWriteColumn
            code = only_column_opens g (command byte) opens here

            alone : wants_command (facts_of (tail past ce)) ChangeWriteColumn ≡ false
            alone = ap (wants_command (facts_of (tail past ce))) (sym code) ∙ unwanted

            shut : is_open (facts_of (tail past ce)) ≡ false
            shut =
                column_shut g (facts_of (tail past ce)) (ap (λ (x : Command). breaks_sequence_open g (facts_of (tail past ce)) (CommandCycle x)) (sym code) ∙ keeps.f3)
                (ap (opens_here g) (sym code) ∙ here) alone

            no_program_open : (k : Option ℕ) → found l.places.newest ce ≡ k → is_open_program_op newest ≡ false
            no_program_open None p = ap (λ (x : Option ℕ). is_open_program_op (op_of (with_ends j l).ops x)) p
            no_program_open (Some k) p =
                let small = found_below (length l.ops) l.places.newest ce k w.newest p in
                let same = length_ends j l in
                let o = there (with_ends j l).ops k (omega (arith, small, same)) in
                let there' : newest ≡ Some o.0 = ap (op_of (with_ends j l).ops) p ∙ o.1 in
                ap is_open_program_op there'
                ∙ false_from_ne_true (is_open_program o.0) (λ q. clash (is_open (facts_of (tail past ce))) (writing_is_open (tail past ce) ((each k o.0 o.1 ce p).writing q)) shut)

            anew : begins_anew (facts_of (tail past ce)) (CommandCycle (command byte)) ≡ true
            anew = ap (λ (x : Command). begins_anew (facts_of (tail past ce)) (CommandCycle x)) code ∙ ap not alone

            begins : begins_one newest byte ≡ true
            begins =
                ap (λ x. (opens_alone byte && not (closes_read newest byte)) || ((is_unknown byte && not (closes_as_known byte)) || (x && not (is_open_program_op newest))))
                (eq-eqb byte 0x85 (byte_of byte 0x85 ChangeWriteColumn refl code))
                ∙ ap (λ x. (opens_alone byte && not (closes_read newest byte)) || ((is_unknown byte && not (closes_as_known byte)) || not x)) (no_program_open (found l.places.newest ce) refl)
                ∙ third (opens_alone byte && not (closes_read newest byte)) (is_unknown byte && not (closes_as_known byte))

        alone_none : opens_alone byte ≡ false → (x : Bool) → wants_command (facts_of (tail past ce)) (command byte) ≡ x → StandsAfter readies one_lun seen n later past l pieces (Cyc c)
        alone_none opens true wanted =
            on wanted (wanted_goes_on (facts_of (tail past ce)) (command byte) opens wanted) (λ k found'. goes_on_with ce byte k found' (known_command g (command byte) keeps.f2) opens wanted)
        alone_none opens false unwanted = copying opens unwanted

        at : (r : Bool) → closes_read newest byte ≡ r → (x : Bool) → opens_alone byte ≡ x → StandsAfter readies one_lun seen n later past l pieces (Cyc c)
        at true e x opens = closing e
        at false e true opens = opening_so e opens
        at false e false opens = alone_none opens (wants_command (facts_of (tail past ce)) (command byte)) refl
    stands_cycle ce byte Adr h =
        let c : Cycle = record { ce = ce; kind = Adr; byte = byte } in
        let small = target_below g targets past c h in
        let all = few in
        let wanted = wanted_address g (facts_of (tail past ce)) byte (permitted_keeps g targets past c h).f7 in
        stands_wanted readies one_lun seen n later past l pieces stands w c (omega (arith, small, all)) refl (λ t. refl) (λ t. refl)
        (λ k b kept d t is was. held_address b kept byte (d ∷ t) was (ap (λ (u : List TargetCycle). wants_address (facts_of u) byte) (sym is) ∙ wanted))
        (λ e. no_address byte (ap (λ t. wants_address (facts_of t) byte) (sym e) ∙ wanted)) (λ k found'. found')
    stands_cycle ce byte Din h =
        let c : Cycle = record { ce = ce; kind = Din; byte = byte } in
        let small = target_below g targets past c h in
        let all = few in
        let wanted = wanted_input (facts_of (tail past ce)) byte (permitted_keeps g targets past c h).f11 in
        stands_wanted readies one_lun seen n later past l pieces stands w c (omega (arith, small, all)) refl (λ t. refl) (λ t. refl)
        (λ k b kept d t is was. held_input b kept byte (d ∷ t) was (ap (λ (u : List TargetCycle). takes_inputs (facts_of u).phase) (sym is) ∙ wanted))
        (λ e. no_input (ap (λ t. takes_inputs (facts_of t).phase) (sym e) ∙ wanted)) (λ k found'. found')
    stands_cycle ce byte Dout h =
        let small = target_below g targets past (record { ce = ce; kind = Dout; byte = byte }) h in
        let all = few in
        stands_output readies one_lun seen n later past l pieces stands w ce byte (omega (arith, small, all))
        (shut_output (facts_of (tail past ce)) (luns_of g past ce) (permitted_keeps g targets past (record { ce = ce; kind = Dout; byte = byte }) h).f12)

    pub stands_on : (i : Item) → broken g targets past i ≡ None → StandsAfter readies one_lun seen n later past l pieces i
    stands_on (Cyc c) h = stands_cycle c.ce c.byte c.kind h
    stands_on (Rdy ce lun fail) h = stands_ready readies one_lun seen n later past l pieces stands w ce lun fail
    stands_on (Ard ce lun fail) h = stands_array_ready readies one_lun seen n later past l pieces stands w ce lun fail

    owner_is_newest : (b : Bool) (x : Option ℕ) (m : ℕ) → cond b None x ≡ Some m → x ≡ Some m
    owner_is_newest true x m h = cc
    owner_is_newest false x m h = h

    -- the operation of a cycle that is no output is the newest of its target
    newest_is_mark : (ce byte : ℕ) (kind : Kind) → is_output kind ≡ false → ce < 4 →
        found (listed (JudgedAs readies one_lun seen n (Cyc (record { ce = ce; kind = kind; byte = byte })) later) l).places.newest ce
        ≡ Some (mark_in (JudgedAs readies one_lun seen n (Cyc (record { ce = ce; kind = kind; byte = byte })) later) (with_ends (JudgedAs readies one_lun seen n (Cyc (record { ce = ce; kind = kind; byte = byte })) later) l))
    newest_is_mark ce byte kind input lt = at (owner_in j (with_ends j l)) refl
      where
        i : Item
        i = Cyc (record { ce = ce; kind = kind; byte = byte })

        j : Judged
        j = JudgedAs readies one_lun seen n i later

        by_kind : (kind' : Kind) (m : ℕ) → is_output kind' ≡ false → cycle_owner (with_ends j l).ops l.places j (record { ce = ce; kind = kind; byte = byte }) kind' ≡ Some m → found l.places.newest ce ≡ Some m
        by_kind Cmd m is h = owner_is_newest (begins_one (op_of (with_ends j l).ops (found l.places.newest ce)) byte) (found l.places.newest ce) m h
        by_kind Adr m is h = h
        by_kind Din m is h = h
        by_kind Dout m is h = cc

        at : (o : Option ℕ) → owner_in j (with_ends j l) ≡ o → found (listed j l).places.newest ce ≡ Some (mark_in j (with_ends j l))
        at None h =
            let f = stands.four in
            ap (λ p. found p ce) (newest_so past i j l pieces stands w None h) ∙ found_same l.places.newest ce (length (with_ends j l).ops) (omega (arith, f, lt))
            ∙ ap Some (sym (mark_so past i j l pieces stands w None h))
        at (Some m) h =
            ap (λ p. found p ce) (newest_so past i j l pieces stands w (Some m) h) ∙ by_kind kind m input h ∙ ap Some (sym (mark_so past i j l pieces stands w (Some m) h))

  reverse_onto : (i : Item) (items past : List Item) → reverse (i ∷ items) ++ past ≡ reverse items ++ (i ∷ past)
  reverse_onto i items past = ap (λ (xs : List Item). xs ++ past) (reverse-append (i ∷ []) items) ∙ append_assoc (reverse items) (i ∷ []) past

  none_broken : (past : List Item) (i : Item) → is_permitted g targets past i ≡ true → broken g targets past i ≡ None
  none_broken past i h = at (broken g targets past i) h
    where
      at : (o : Option Forbidden) → is_none o ≡ true → o ≡ None
      at None h = refl
      at (Some rule) h = cc

  legal_before : (xs ys : List Item) → is_legal g targets (xs ++ ys) ≡ true → is_legal g targets ys ≡ true
  legal_before [] ys h = h
  legal_before (x ∷ xs) ys h = legal_before xs ys (and_parts _ _ h).1

  pub pieces_are : (before : List Item) (c : Cycle) (later : List Item) (k : ℕ) (seen : Seen) (n : ℕ) (past : List Item) (l : Listing) (pieces : ℕ → List TargetCycle) →
      is_output c.kind ≡ false → AreWithin (length l.ops) l.places → Stands past l pieces → is_legal g targets (Cyc c ∷ (reverse before ++ past)) ≡ true →
      slice_get (marks_from readies one_lun seen n (before ++ (Cyc c ∷ later)) l) (length before) ≡ Some k →
      piece_on k (pieces k) (before ++ (Cyc c ∷ [])) (marks_from readies one_lun seen n (before ++ (Cyc c ∷ later)) l) ≡ without_outputs (tail (Cyc c ∷ (reverse before ++ past)) c.ce)
  pieces_are [] c later k seen n past l pieces input w stands legal mark =
      let h = none_broken past (Cyc c) (and_parts _ _ legal).0 in
      let small = target_below g targets past c h in
      let all = few in
      let after = stands_on seen n later past l pieces stands w (Cyc c) h in
      let newest = newest_is_mark seen n later past l pieces stands w c.ce c.byte c.kind input (omega (arith, small, all)) in
      after.piece c.ce k (newest ∙ mark)
  pieces_are (i ∷ before) c later k seen n past l pieces input w stands legal mark =
      let items = before ++ (Cyc c ∷ later) in
      let j = JudgedAs readies one_lun seen n i items in
      let turned : reverse (i ∷ before) ++ past ≡ reverse before ++ (i ∷ past) = reverse_onto i before past in
      let legal' : is_legal g targets (Cyc c ∷ (reverse before ++ (i ∷ past))) ≡ true = ap (λ p. is_legal g targets (Cyc c ∷ p)) (sym turned) ∙ legal in
      let here = legal_before (Cyc c ∷ reverse before) (i ∷ past) legal' in
      let after = stands_on seen n items past l pieces stands w i (none_broken past i (and_parts _ _ here).0) in
      pieces_are before c later k (seen_after readies seen i items) (n + 1) (i ∷ past) (listed j l) (came_to (mark_in j (with_ends j l)) i pieces) input (within_listed j l w) after legal' mark
      ∙ ap (λ p. without_outputs (tail (Cyc c ∷ p) c.ce)) (sym turned)

nothing_found : (ce : ℕ) → found nothing_listed.places.newest ce ≡ None
nothing_found zero = refl
nothing_found (suc zero) = refl
nothing_found (suc (suc zero)) = refl
nothing_found (suc (suc (suc zero))) = refl
nothing_found (suc (suc (suc (suc ce)))) = refl

pub nothing_stands : Stands [] nothing_listed (λ k. [])
nothing_stands = record {
  four = refl;
  nobody = λ ce lt h. refl;
  piece = λ ce k h. refl;
  apart = λ a b k x y. absurd (none k (sym (nothing_found a) ∙ x));
  fresh = λ k le. refl;
  content = λ k o is. nobody k o is;
}
  where
    none : (k : ℕ) → None ≡ Some k → ⊥
    none k h = cc

    nobody : (k : ℕ) (o : Operation) → None ≡ Some o → Holds nothing_listed.places.newest [] k o.beginning (kept_of o)
    nobody k o h = cc
