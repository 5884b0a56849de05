-- Where operations begin: an item changes that of none, and adds one at most.
use Rattle.std.proofs.Common.{◌≡◌, ℕ, zero, suc, true, List, [], ◌∷◌, ◌++◌, Option, Some, None, is_some, refl, sym, ap, ◌∙◌, slice_set, map}
use Rattle.std.specs.Prelude.{slice_get}
use Rattle.std.proofs.lemmas.List.{map-append}
use Rattle.onfi_cycle.specs.declared.item.Kind.{Kind}
use Rattle.onfi_cycle.specs.declared.item.Kind.TheVariants.{Cmd, Adr, Din, Dout}
use Rattle.trace_ops.specs.declared.change.Change.{Change}
use Rattle.trace_ops.specs.declared.change.Change.TheVariants.{Opened as OpenedBy, Cycle, LoneReady, End, Begin, Poll, Show, Hold, SetLun, Fold, Unfold}
use Rattle.trace_ops.specs.declared.judged.Judged.{Judged}
use Rattle.trace_ops.specs.declared.operation.Operation.{Operation}
use Rattle.trace_ops.specs.Operation.{takes_address, with_byte, says_ready, changed, changed_by, changed_at}
use Rattle.trace_ops.specs.Listing.{Listing, found, op_of, new_one, with_new, change_of, unfolded, with_ends, owner_in, mark_in, listed}
use Rattle.trace_ops.specs.Openings.{Opened, opened_at}
use Rattle.trace_ops.proofs.Quiet.{is_quiet, by_ends, by_unfold, by_rest}
use Rattle.trace_ops.proofs.Changed.{by}
use Rattle.trace_ops.proofs.Spans.{same_some}
use Rattle.trace_ops.proofs.Walks.{came}

byte_opening : (kind : Kind) (byte : ℕ) (o : Operation) → opened_at (with_byte kind byte o) ≡ opened_at o
byte_opening Cmd byte o = refl
byte_opening Adr byte o = by opened_at (takes_address o) _ o (opened_at o) refl refl
byte_opening Din byte o = refl
byte_opening Dout byte o = refl

-- no change of an operation moves its beginning
kept_opening : (c : Change) (o : Operation) → opened_at (changed c o) ≡ opened_at o
kept_opening (OpenedBy n said) o = refl
kept_opening (Cycle n kind byte said) o = byte_opening kind byte o
kept_opening (LoneReady n said) o = refl
kept_opening (End e) o = by opened_at (is_some o.end) o _ (opened_at o) refl refl
kept_opening (Begin n lun) o = refl
kept_opening (Poll n byte) o = by opened_at (is_some o.status) o _ (opened_at o) refl (by opened_at (says_ready byte) _ _ (opened_at o) refl refl)
kept_opening (Show byte) o = refl
kept_opening (Hold page) o = refl
kept_opening (SetLun lun) o = refl
kept_opening (Fold parent) o = refl
kept_opening Unfold o = refl

map_set : (ops : List Operation) (k : ℕ) (o y : Operation) → slice_get ops k ≡ Some o → opened_at y ≡ opened_at o → map opened_at (slice_set ops k y) ≡ map opened_at ops
map_set [] k o y is same = cc
map_set (x ∷ ops) zero o y is same = ap (λ (z : Opened). z ∷ map opened_at ops) (same ∙ ap opened_at (sym (same_some is)))
map_set (x ∷ ops) (suc k) o y is same = ap (λ (zs : List Opened). opened_at x ∷ zs) (map_set ops k o y is same)

openings_changed : (k : ℕ) (c : Change) (ops : List Operation) → map opened_at (changed_at k c ops) ≡ map opened_at ops
openings_changed k c ops = at (slice_get ops k) refl
  where
    at : (o : Option Operation) → slice_get ops k ≡ o → map opened_at (changed_by o c ops k) ≡ map opened_at ops
    at None h = refl
    at (Some o) h = map_set ops k o (changed c o) h (kept_opening c o)

-- they are those, whatever is changed
abbrev Are : List Opened → List Operation → Type 0
Are all ops = map opened_at ops ≡ all

still : (all : List Opened) (k : ℕ) (c : Change) (ops : List Operation) → is_quiet c ≡ true → Are all ops → Are all (changed_at k c ops)
still all k c ops quiet h = openings_changed k c ops ∙ h

openings_ends : (j : Judged) (l : Listing) → map opened_at (with_ends j l).ops ≡ map opened_at l.ops
openings_ends j l = by_ends (Are (map opened_at l.ops)) (still (map opened_at l.ops)) j l.places l.ops refl

openings_listed : (j : Judged) (l : Listing) → map opened_at (listed j l).ops ≡ map opened_at (with_new (owner_in j (with_ends j l)) j (with_ends j l)).ops
openings_listed j l =
    let e = with_ends j l in
    let mark = mark_in j e in
    let new = (with_new (owner_in j e) j e).ops in
    by_rest (Are (map opened_at new)) (still (map opened_at new)) j mark (came j l)
    (openings_changed mark (change_of (owner_in j e) j j.item) (unfolded j mark new) ∙ by_unfold (Are (map opened_at new)) (still (map opened_at new)) j mark new refl)

-- an item of an operation that is there begins none
pub openings_old : (j : Judged) (l : Listing) (k : ℕ) → owner_in j (with_ends j l) ≡ Some k → map opened_at (listed j l).ops ≡ map opened_at l.ops
openings_old j l k h =
    openings_listed j l ∙ ap (λ (x : Option ℕ). map opened_at (with_new x j (with_ends j l)).ops) h ∙ openings_ends j l

-- one that belongs to none begins one
pub openings_new : (j : Judged) (l : Listing) → owner_in j (with_ends j l) ≡ None →
    map opened_at (listed j l).ops ≡ map opened_at l.ops ++ (opened_at (new_one j (op_of (with_ends j l).ops (found l.places.newest j.ce)) j.item) ∷ [])
openings_new j l h =
    let one = new_one j (op_of (with_ends j l).ops (found l.places.newest j.ce)) j.item in
    openings_listed j l ∙ ap (λ (x : Option ℕ). map opened_at (with_new x j (with_ends j l)).ops) h
    ∙ map-append opened_at (with_ends j l).ops (one ∷ []) ∙ ap (λ (xs : List Opened). xs ++ (opened_at one ∷ [])) (openings_ends j l)
