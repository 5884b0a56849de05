-- What holds of each operation where no item comes to it and nothing is taken from it: its status, its closer and that it is a part.
use Rattle.std.proofs.Common.{◌≡◌, ℕ, ◌==◌, Bool, true, false, ◌&&◌, cond, List, Option, Some, None, is_some, refl}
use Rattle.onfi_cycle.specs.declared.item.Kind.{Kind}
use Rattle.onfi_cycle.specs.declared.item.Kind.TheVariants.{Cmd, Adr, Din, Dout}
use Rattle.onfi_cycle.specs.declared.lun_state.LunState.{LunState}
use Rattle.onfi_cycle.specs.declared.register.Register.{Register}
use Rattle.onfi_cycle.specs.declared.register.Register.TheVariants.{Empty, Page, ParameterPage, Identifier, Identity, JedecIdentity, UniqueId, Features}
use Rattle.trace_ops.specs.declared.change.Change.{Change}
use Rattle.trace_ops.specs.declared.change.Change.TheVariants.{Opened, Cycle, LoneReady, End, Begin, Poll, Show, Hold, SetLun, Fold, Unfold}
use Rattle.trace_ops.specs.declared.judged.Judged.{Judged}
use Rattle.trace_ops.specs.declared.operation.Ending.{Ending}
use Rattle.trace_ops.specs.declared.operation.Ending.TheVariants as ends
use Rattle.trace_ops.specs.declared.operation.Operation.{Operation}
use Rattle.trace_ops.specs.declared.places.Places.{Places}
use Rattle.trace_ops.specs.declared.role.Role.{Role}
use Rattle.trace_ops.specs.declared.role.Role.TheVariants as role
use Rattle.trace_ops.specs.Operation.{is_output, changed, changed_at, changed_if, says_ready, takes_address}
use Rattle.trace_ops.specs.Listing.{Listing, worker, giver, op_of, either_of, has_failed, end_by, ended_if, all_ended, is_foreign_at, starts_on, abandoned_by, begun_on, all_begun, is_unshown, folded_into, held_in, held_by, selected_by, selected_on, all_selected, role_by, look_at, foreign_ended, ready_end, with_ready}
use Rattle.trace_ops.proofs.Changed.{by}
use Rattle.trace_ops.proofs.Domestic.{Every, every_at}
use Rattle.trace_ops.proofs.Quiet.{choose}

-- a change that leaves the closer and the status of an operation, and doesn't take it from that of which it is a part
abbrev pub is_gentle : Change → Bool
is_gentle (Opened n said) = true
is_gentle (Cycle n kind byte said) = is_output kind
is_gentle (LoneReady n said) = true
is_gentle (End e) = true
is_gentle (Begin n lun) = true
is_gentle (Poll n byte) = false
is_gentle (Show byte) = true
is_gentle (Hold page) = true
is_gentle (SetLun lun) = true
is_gentle (Fold parent) = true
is_gentle Unfold = false

-- what such a change leaves
pub record IsKept (old new : Operation) : Type 0 where
  pub ce : new.ce ≡ old.ce
  pub beginning : new.beginning ≡ old.beginning
  pub closer : new.closer ≡ old.closer
  pub addresses : new.addresses ≡ old.addresses
  pub count : new.address_count ≡ old.address_count
  pub addressed : new.is_addressed ≡ old.is_addressed
  pub inputs : new.inputs ≡ old.inputs
  pub status : new.status ≡ old.status
  pub part : is_some old.parent ≡ true → is_some new.parent ≡ true

kept_choice : (b : Bool) (o x y : Operation) → IsKept o x → IsKept o y → IsKept o (cond b x y)
kept_choice true o x y p q = p
kept_choice false o x y p q = q

itself : (o : Operation) → IsKept o o
itself o = record { ce = refl; beginning = refl; closer = refl; addresses = refl; count = refl; addressed = refl; inputs = refl; status = refl; part = λ h. h }

pub gently_kept : (c : Change) (o : Operation) → is_gentle c ≡ true → IsKept o (changed c o)
gently_kept (Opened n said) o h = record { ce = refl; beginning = refl; closer = refl; addresses = refl; count = refl; addressed = refl; inputs = refl; status = refl; part = λ p. p }
gently_kept (Cycle n kind byte said) o h = at kind h
  where
    at : (k : Kind) → is_output k ≡ true → IsKept o (changed (Cycle n k byte said) o)
    at Dout h = record { ce = refl; beginning = refl; closer = refl; addresses = refl; count = refl; addressed = refl; inputs = refl; status = refl; part = λ p. p }
    at Cmd h = cc
    at Adr h = cc
    at Din h = cc
gently_kept (LoneReady n said) o h = record { ce = refl; beginning = refl; closer = refl; addresses = refl; count = refl; addressed = refl; inputs = refl; status = refl; part = λ p. p }
gently_kept (End e) o h = kept_choice (is_some o.end) o o _ (itself o) (record { ce = refl; beginning = refl; closer = refl; addresses = refl; count = refl; addressed = refl; inputs = refl; status = refl; part = λ p. p })
gently_kept (Begin n lun) o h = record { ce = refl; beginning = refl; closer = refl; addresses = refl; count = refl; addressed = refl; inputs = refl; status = refl; part = λ p. p }
gently_kept (Poll n byte) o h = cc
gently_kept (Show byte) o h = record { ce = refl; beginning = refl; closer = refl; addresses = refl; count = refl; addressed = refl; inputs = refl; status = refl; part = λ p. p }
gently_kept (Hold page) o h = record { ce = refl; beginning = refl; closer = refl; addresses = refl; count = refl; addressed = refl; inputs = refl; status = refl; part = λ p. p }
gently_kept (SetLun lun) o h = record { ce = refl; beginning = refl; closer = refl; addresses = refl; count = refl; addressed = refl; inputs = refl; status = refl; part = λ p. p }
gently_kept (Fold parent) o h = record { ce = refl; beginning = refl; closer = refl; addresses = refl; count = refl; addressed = refl; inputs = refl; status = refl; part = λ p. refl }
gently_kept Unfold o h = cc

-- no change moves an operation to another target
pub kept_ce : (c : Change) (o : Operation) → (changed c o).ce ≡ o.ce
kept_ce (Opened n said) o = refl
kept_ce (Cycle n kind byte said) o = at kind
  where
    at : (k : Kind) → (changed (Cycle n k byte said) o).ce ≡ o.ce
    at Cmd = refl
    at Adr = by (λ (z : Operation). z.ce) (takes_address o) _ o o.ce refl refl
    at Din = refl
    at Dout = refl
kept_ce (LoneReady n said) o = refl
kept_ce (End e) o = by (λ (z : Operation). z.ce) (is_some o.end) o _ o.ce refl refl
kept_ce (Begin n lun) o = refl
kept_ce (Poll n byte) o = by (λ (z : Operation). z.ce) (is_some o.status) o _ o.ce refl (by (λ (z : Operation). z.ce) (says_ready byte) _ _ o.ce refl refl)
kept_ce (Show byte) o = refl
kept_ce (Hold page) o = refl
kept_ce (SetLun lun) o = refl
kept_ce (Fold parent) o = refl
kept_ce Unfold o = refl

-- what holds of each operation, and is kept so
pub record Lasts (D : ℕ → Operation → Type 0) : Type 0 where
  pub on : (k : ℕ) (old new : Operation) → IsKept old new → D k old → D k new

pub gently : (D : ℕ → Operation → Type 0) → Lasts D → (m : ℕ) (c : Change) (ops : List Operation) → is_gentle c ≡ true → Every D ops → Every D (changed_at m c ops)
gently D lasts m c ops h all = every_at D D m c ops (λ k o away d. d) (λ o is d. lasts.on m o (changed c o) (gently_kept c o h) d) all

module _ (P : List Operation → Type 0) (step : (k : ℕ) (c : Change) (ops : List Operation) → is_gentle c ≡ true → P ops → P (changed_at k c ops)) where
  on_if : (b : Bool) (x y : Listing) → P x.ops → P y.ops → P (cond b x y).ops
  on_if true x y p q = p
  on_if false x y p q = q

  at_if : (at : Option ℕ) (c : Change) (ops : List Operation) → is_gentle c ≡ true → P ops → P (changed_if at c ops)
  at_if None c ops quiet p = p
  at_if (Some k) c ops quiet p = step k c ops quiet p

  by_end : (e : Option Ending) (at : Option ℕ) (ops : List Operation) → P ops → P (ended_if e at ops)
  by_end None at ops p = p
  by_end (Some e) at ops p = at_if at (End e) ops refl p

  pub gentle_ends : (j : Judged) (places : Places) (ops : List Operation) → P ops → P (all_ended j places ops)
  gentle_ends j places ops p =
      by_end (end_by j j.item 3) (worker places j.ce 3) _
      (by_end (end_by j j.item 2) (worker places j.ce 2) _ (by_end (end_by j j.item 1) (worker places j.ce 1) _ (by_end (end_by j j.item 0) (worker places j.ce 0) ops p)))

  by_abandon : (j : Judged) (k : ℕ) (w : Option ℕ) (ops : List Operation) → P ops → P (abandoned_by j k w ops)
  by_abandon j k None ops p = p
  by_abandon j k (Some old) ops p = choose P (old == k) ops _ p (step old (End (ends.Abandoned j.number)) ops refl p)

  by_begin : (j : Judged) (k lun : ℕ) (l : Listing) → P l.ops → P (begun_on j k lun l).ops
  by_begin j k lun l p =
      on_if (starts_on j lun k l.ops) _ l (step k (Begin j.number lun) _ refl (by_abandon j k (worker l.places j.ce lun) l.ops p)) p

  pub gentle_begins : (j : Judged) (k : ℕ) (l : Listing) → P l.ops → P (all_begun j k l).ops
  gentle_begins j k l p = by_begin j k 3 _ (by_begin j k 2 _ (by_begin j k 1 _ (by_begin j k 0 l p)))

  pub gentle_foreign : (j : Judged) (byte : ℕ) (at : Option ℕ) (ops : List Operation) → P ops → P (foreign_ended j byte at ops)
  gentle_foreign j byte at ops p =
      choose P (is_foreign_at ops at && says_ready byte) _ ops (at_if at (End (ends.Shown j.number (has_failed byte))) ops refl p) p

  pub gentle_ready : (j : Judged) (k : ℕ) (l : Listing) → P l.ops → P (with_ready j k l).ops
  gentle_ready j k l p = choose P (is_foreign_at l.ops (Some k)) _ l.ops (by_end (ready_end j.item j.number) (Some k) l.ops p) p

  pub gentle_fold : (k : ℕ) (parent : Option ℕ) (ops : List Operation) → P ops → P (folded_into k parent ops)
  gentle_fold k None ops p = p
  gentle_fold k (Some parent) ops p = choose P (parent == k) ops _ p (step k (Fold parent) ops refl p)

  by_register : (r : Register) (k : ℕ) (ops : List Operation) → P ops → P (held_in r k ops)
  by_register Empty k ops p = p
  by_register (Page at) k ops p = step k (Hold at) ops refl p
  by_register ParameterPage k ops p = p
  by_register Identifier k ops p = p
  by_register Identity k ops p = p
  by_register JedecIdentity k ops p = p
  by_register UniqueId k ops p = p
  by_register (Features address) k ops p = p

  by_hold : (look : Option LunState) (k : ℕ) (ops : List Operation) → P ops → P (held_by look k ops)
  by_hold None k ops p = p
  by_hold (Some lun) k ops p = by_register lun.register k ops p

  by_role : (r : Role) (j : Judged) (k lun : ℕ) (l : Listing) → P l.ops → P (selected_by r j k lun l).ops
  by_role role.Nothing j k lun l p = p
  by_role role.Asks j k lun l p =
      let set = step k (SetLun lun) l.ops refl p in
      choose P (is_unshown (op_of l.ops (worker l.places j.ce lun))) _ _ (gentle_fold k (worker l.places j.ce lun) _ set) set
  by_role role.Gives j k lun l p = p
  by_role role.Holds j k lun l p = by_hold (look_at j.after lun) k _ (step k (SetLun lun) l.ops refl p)
  by_role role.Returns j k lun l p = gentle_fold k (either_of (worker l.places j.ce lun) (giver l.places j.ce lun)) _ (step k (SetLun lun) l.ops refl p)

  by_select : (j : Judged) (k lun : ℕ) (l : Listing) → P l.ops → P (selected_on j k lun l).ops
  by_select j k lun l p = by_role (role_by j (op_of l.ops (Some k)) j.item lun) j k lun l p

  pub gentle_selects : (j : Judged) (k : ℕ) (l : Listing) → P l.ops → P (all_selected j k l).ops
  gentle_selects j k l p = by_select j k 3 _ (by_select j k 2 _ (by_select j k 1 _ (by_select j k 0 l p)))
