-- What holds of a list of operations whatever is changed of them, but for the items that they get, holds after all that an item does beside coming to its operation.
use Rattle.std.proofs.Common.{◌≡◌, ℕ, ◌==◌, Bool, true, false, ◌&&◌, List, Option, Some, None, refl, cond}
use Rattle.onfi_cycle.specs.declared.item.Item.{Item}
use Rattle.onfi_cycle.specs.declared.item.Item.TheVariants.{Cyc, Rdy, Ard}
use Rattle.onfi_cycle.specs.declared.lun_state.LunState.{LunState}
use Rattle.onfi_cycle.specs.declared.register.Register.{Register}
use Rattle.onfi_cycle.specs.declared.register.Register.TheVariants.{Empty, Page, ParameterPage, Identifier, Identity, JedecIdentity, UniqueId, Features}
use Rattle.trace_ops.specs.declared.change.Change.{Change}
use Rattle.trace_ops.specs.declared.change.Change.TheVariants.{Opened, Cycle, LoneReady, End, Begin, Poll, Show, Hold, SetLun, Fold, Unfold}
use Rattle.trace_ops.specs.declared.judged.Judged.{Judged}
use Rattle.trace_ops.specs.declared.operation.Ending.{Ending}
use Rattle.trace_ops.specs.declared.operation.Ending.TheVariants as ends
use Rattle.trace_ops.specs.declared.operation.Operation.{Operation}
use Rattle.trace_ops.specs.declared.places.Places.{Places}
use Rattle.trace_ops.specs.declared.role.Role.{Role}
use Rattle.trace_ops.specs.declared.role.Role.TheVariants as role
use Rattle.trace_ops.specs.Operation.{is_permitted, is_output, says_ready, changed_at, changed_if}
use Rattle.trace_ops.specs.Listing.{Listing, worker, giver, op_of, either_of, has_failed, end_by, ended_if, all_ended, is_foreign_at, is_address, is_alone_op, unfolded, starts_on, abandoned_by, begun_on, all_begun, is_unshown, folded_into, held_in, held_by, selected_by, selected_on, all_selected, role_by, look_at, gives_status, driver_of, foreign_ended, polled_on, polled_by, polled, with_polls, ready_end, with_ready}

-- a change that brings no item
abbrev pub is_quiet : Change → Bool
is_quiet (Opened n said) = false
is_quiet (Cycle n kind byte said) = false
is_quiet (LoneReady n said) = false
is_quiet (End e) = true
is_quiet (Begin n lun) = true
is_quiet (Poll n byte) = true
is_quiet (Show byte) = true
is_quiet (Hold page) = true
is_quiet (SetLun lun) = true
is_quiet (Fold parent) = true
is_quiet Unfold = true

-- the same, but for a fold
abbrev pub is_plain : Change → Bool
is_plain (Opened n said) = false
is_plain (Cycle n kind byte said) = false
is_plain (LoneReady n said) = false
is_plain (End e) = true
is_plain (Begin n lun) = true
is_plain (Poll n byte) = true
is_plain (Show byte) = true
is_plain (Hold page) = true
is_plain (SetLun lun) = true
is_plain (Fold parent) = false
is_plain Unfold = true

pub plain_is_quiet : (c : Change) → is_plain c ≡ true → is_quiet c ≡ true
plain_is_quiet (Opened n said) h = h
plain_is_quiet (Cycle n kind byte said) h = h
plain_is_quiet (LoneReady n said) h = h
plain_is_quiet (End e) h = h
plain_is_quiet (Begin n lun) h = h
plain_is_quiet (Poll n byte) h = h
plain_is_quiet (Show byte) h = h
plain_is_quiet (Hold page) h = h
plain_is_quiet (SetLun lun) h = h
plain_is_quiet (Fold parent) h = cc
plain_is_quiet Unfold h = h

pub choose : (P : List Operation → Type 0) (b : Bool) (x y : List Operation) → P x → P y → P (cond b x y)
choose P true x y p q = p
choose P false x y p q = q

module _ (P : List Operation → Type 0) (step : (k : ℕ) (c : Change) (ops : List Operation) → is_plain c ≡ true → P ops → P (changed_at k c ops)) where
  on_if : (b : Bool) (x y : Listing) → P x.ops → P y.ops → P (cond b x y).ops
  on_if true x y p q = p
  on_if false x y p q = q

  at_if : (at : Option ℕ) (c : Change) (ops : List Operation) → is_plain c ≡ true → P ops → P (changed_if at c ops)
  at_if None c ops quiet p = p
  at_if (Some k) c ops quiet p = step k c ops quiet p

  by_end : (e : Option Ending) (at : Option ℕ) (ops : List Operation) → P ops → P (ended_if e at ops)
  by_end None at ops p = p
  by_end (Some e) at ops p = at_if at (End e) ops refl p

  pub plain_ends : (j : Judged) (places : Places) (ops : List Operation) → P ops → P (all_ended j places ops)
  plain_ends j places ops p =
      by_end (end_by j j.item 3) (worker places j.ce 3) _
      (by_end (end_by j j.item 2) (worker places j.ce 2) _ (by_end (end_by j j.item 1) (worker places j.ce 1) _ (by_end (end_by j j.item 0) (worker places j.ce 0) ops p)))

  pub plain_unfold : (j : Judged) (k : ℕ) (ops : List Operation) → P ops → P (unfolded j k ops)
  plain_unfold j k ops p = choose P (is_address j.item && is_alone_op (op_of ops (Some k))) _ ops (step k Unfold ops refl p) p

  pub by_abandon : (j : Judged) (k : ℕ) (w : Option ℕ) (ops : List Operation) → P ops → P (abandoned_by j k w ops)
  by_abandon j k None ops p = p
  by_abandon j k (Some old) ops p = choose P (old == k) ops _ p (step old (End (ends.Abandoned j.number)) ops refl p)

  pub by_begin : (j : Judged) (k lun : ℕ) (l : Listing) → P l.ops → P (begun_on j k lun l).ops
  by_begin j k lun l p =
      on_if (starts_on j lun k l.ops) _ l (step k (Begin j.number lun) _ refl (by_abandon j k (worker l.places j.ce lun) l.ops p)) p

  pub plain_begins : (j : Judged) (k : ℕ) (l : Listing) → P l.ops → P (all_begun j k l).ops
  plain_begins j k l p = by_begin j k 3 _ (by_begin j k 2 _ (by_begin j k 1 _ (by_begin j k 0 l p)))

  by_foreign : (j : Judged) (byte : ℕ) (at : Option ℕ) (ops : List Operation) → P ops → P (foreign_ended j byte at ops)
  by_foreign j byte at ops p =
      choose P (is_foreign_at ops at && says_ready byte) _ ops (at_if at (End (ends.Shown j.number (has_failed byte))) ops refl p) p

  by_poll : (j : Judged) (k byte : ℕ) (w : Option ℕ) (ops : List Operation) → P ops → P (polled_on j k byte w ops)
  by_poll j k byte w ops p = by_foreign j byte w _ (at_if w (Poll j.number byte) _ refl (step k (Show byte) ops refl p))

  by_driver : (j : Judged) (k byte : ℕ) (driver : Option ℕ) (places : Places) (ops : List Operation) → P ops → P (polled_by j k byte driver places ops)
  by_driver j k byte None places ops p = p
  by_driver j k byte (Some lun) places ops p =
      choose P (gives_status (look_at j.before lun)) _ ops (by_poll j k byte (worker places j.ce lun) ops p) p

  by_item : (j : Judged) (k : ℕ) (i : Item) (places : Places) (ops : List Operation) → P ops → P (polled j k i places ops)
  by_item j k (Cyc c) places ops p =
      choose P (is_output c.kind && is_permitted j.said) _ ops (by_driver j k c.byte (driver_of j.before) places ops p) p
  by_item j k (Rdy ce lun fail) places ops p = p
  by_item j k (Ard ce lun fail) places ops p = p

  pub plain_polls : (j : Judged) (k : ℕ) (l : Listing) → P l.ops → P (with_polls j k l).ops
  plain_polls j k l p = by_item j k j.item l.places l.ops p

  pub plain_ready : (j : Judged) (k : ℕ) (l : Listing) → P l.ops → P (with_ready j k l).ops
  plain_ready j k l p = choose P (is_foreign_at l.ops (Some k)) _ l.ops (by_end (ready_end j.item j.number) (Some k) l.ops p) p

module _ (P : List Operation → Type 0) (step : (k : ℕ) (c : Change) (ops : List Operation) → is_quiet c ≡ true → P ops → P (changed_at k c ops)) where
  plainly : (k : ℕ) (c : Change) (ops : List Operation) → is_plain c ≡ true → P ops → P (changed_at k c ops)
  plainly k c ops plain p = step k c ops (plain_is_quiet c plain) p

  pub by_ends : (j : Judged) (places : Places) (ops : List Operation) → P ops → P (all_ended j places ops)
  by_ends j places ops p = plain_ends P plainly j places ops p

  pub by_unfold : (j : Judged) (k : ℕ) (ops : List Operation) → P ops → P (unfolded j k ops)
  by_unfold j k ops p = plain_unfold P plainly j k ops p

  pub by_begins : (j : Judged) (k : ℕ) (l : Listing) → P l.ops → P (all_begun j k l).ops
  by_begins j k l p = plain_begins P plainly j k l p

  pub by_polls : (j : Judged) (k : ℕ) (l : Listing) → P l.ops → P (with_polls j k l).ops
  by_polls j k l p = plain_polls P plainly j k l p

  pub by_ready : (j : Judged) (k : ℕ) (l : Listing) → P l.ops → P (with_ready j k l).ops
  by_ready j k l p = plain_ready P plainly j k l p

  by_fold : (k : ℕ) (parent : Option ℕ) (ops : List Operation) → P ops → P (folded_into k parent ops)
  by_fold k None ops p = p
  by_fold k (Some parent) ops p = choose P (parent == k) ops _ p (step k (Fold parent) ops refl p)

  by_register : (r : Register) (k : ℕ) (ops : List Operation) → P ops → P (held_in r k ops)
  by_register Empty k ops p = p
  by_register (Page at) k ops p = step k (Hold at) ops refl p
  by_register ParameterPage k ops p = p
  by_register Identifier k ops p = p
  by_register Identity k ops p = p
  by_register JedecIdentity k ops p = p
  by_register UniqueId k ops p = p
  by_register (Features address) k ops p = p

  by_hold : (look : Option LunState) (k : ℕ) (ops : List Operation) → P ops → P (held_by look k ops)
  by_hold None k ops p = p
  by_hold (Some lun) k ops p = by_register lun.register k ops p

  by_role : (r : Role) (j : Judged) (k lun : ℕ) (l : Listing) → P l.ops → P (selected_by r j k lun l).ops
  by_role role.Nothing j k lun l p = p
  by_role role.Asks j k lun l p =
      let set = step k (SetLun lun) l.ops refl p in
      choose P (is_unshown (op_of l.ops (worker l.places j.ce lun))) _ _ (by_fold k (worker l.places j.ce lun) _ set) set
  by_role role.Gives j k lun l p = p
  by_role role.Holds j k lun l p = by_hold (look_at j.after lun) k _ (step k (SetLun lun) l.ops refl p)
  by_role role.Returns j k lun l p = by_fold k (either_of (worker l.places j.ce lun) (giver l.places j.ce lun)) _ (step k (SetLun lun) l.ops refl p)

  pub by_select : (j : Judged) (k lun : ℕ) (l : Listing) → P l.ops → P (selected_on j k lun l).ops
  by_select j k lun l p = by_role (role_by j (op_of l.ops (Some k)) j.item lun) j k lun l p

  pub by_selects : (j : Judged) (k : ℕ) (l : Listing) → P l.ops → P (all_selected j k l).ops
  by_selects j k l p = by_select j k 3 _ (by_select j k 2 _ (by_select j k 1 _ (by_select j k 0 l p)))

  -- once an item has come to its operation
  pub by_rest : (j : Judged) (k : ℕ) (l : Listing) → P l.ops → P (with_ready j k (with_polls j k (all_selected j k (all_begun j k l)))).ops
  by_rest j k l p =
      let begun = all_begun j k l in
      let chosen = all_selected j k begun in
      by_ready j k (with_polls j k chosen) (by_polls j k chosen (by_selects j k begun (by_begins j k l p)))
