-- What an item does to its operation and others, but for the end and the beginning of work, leaves who is at work where.
use Rattle.std.proofs.Common.{◌≡◌, ℕ, ◌<◌, ◌==◌, Bool, true, false, ◌&&◌, cond, List, Option, Some, None, is_some, refl, sym, ap, ◌∙◌, subst, arith}
use Rattle.std.specs.Prelude.{slice_get}
use Rattle.std.proofs.lemmas.Bool.{and_parts}
use Rattle.onfi_cycle.specs.declared.item.Item.{Item}
use Rattle.onfi_cycle.specs.declared.item.Item.TheVariants.{Cyc, Rdy, Ard}
use Rattle.onfi_cycle.specs.declared.item.Kind.{Kind}
use Rattle.onfi_cycle.specs.declared.item.Kind.TheVariants.{Cmd, Adr, Din, Dout}
use Rattle.onfi_cycle.specs.declared.lun_state.LunState.{LunState}
use Rattle.onfi_cycle.specs.declared.register.Register.{Register}
use Rattle.onfi_cycle.specs.declared.register.Register.TheVariants.{Empty, Page, ParameterPage, Identifier, Identity, JedecIdentity, UniqueId, Features}
use Rattle.trace_ops.specs.declared.change.Change.{Change}
use Rattle.trace_ops.specs.declared.change.Change.TheVariants.{Opened, Cycle, End, Poll, Show, Hold, SetLun, Fold, Unfold}
use Rattle.trace_ops.specs.declared.judged.Judged.{Judged}
use Rattle.trace_ops.specs.declared.operation.Beginning.{Beginning}
use Rattle.trace_ops.specs.declared.operation.Ending.TheVariants as ends
use Rattle.trace_ops.specs.declared.operation.Operation.{Operation}
use Rattle.trace_ops.specs.declared.places.Places.{Places}
use Rattle.trace_ops.specs.declared.role.Role.{Role}
use Rattle.trace_ops.specs.declared.role.Role.TheVariants as role
use Rattle.trace_ops.specs.Operation.{is_permitted, is_output, says_ready, takes_address, with_byte, changed, changed_at, changed_if}
use Rattle.trace_ops.specs.Listing.{Listing, worker, giver, op_of, either_of, has_failed, ended_if, is_address, is_alone_op, is_new_opener, change_of, unfolded, with_new, with_ends, owner_in, mark_in, look_at, gives_status, driver_of, role_by, is_unshown, folded_into, held_in, held_by, selected_by, selected_on, all_selected, foreign_ended, polled_on, polled_by, polled, with_polls, ready_end, with_ready}
use Rattle.trace_ops.proofs.Quiet.{is_quiet, by_select, by_polls}
use Rattle.trace_ops.proofs.Changed.{by}
use Rattle.trace_ops.proofs.Pieces.{kept_beginning}
use Rattle.trace_ops.proofs.Walks.{came}
use Rattle.trace_ops.proofs.AtWork.{Core, same_core, Alike, alike_self, alike_on, changed_alike}
use Rattle.trace_ops.proofs.Domestic.{Every, Domestic, every_quiet, quiet_domestic, none_foreign}

-- ---- changes

byte_core : (kind : Kind) (byte : ℕ) (o : Operation) → Core o (with_byte kind byte o)
byte_core Cmd byte o = record { ce = refl; start = refl; end = refl; lun = λ h. refl }
byte_core Adr byte o = record {
  ce = by (λ (z : Operation). z.ce) (takes_address o) _ o o.ce refl refl;
  start = by (λ (z : Operation). z.start) (takes_address o) _ o o.start refl refl;
  end = by (λ (z : Operation). z.end) (takes_address o) _ o o.end refl refl;
  lun = λ h. by (λ (z : Operation). z.lun) (takes_address o) _ o o.lun refl refl;
}
byte_core Din byte o = record { ce = refl; start = refl; end = refl; lun = λ h. refl }
byte_core Dout byte o = record { ce = refl; start = refl; end = refl; lun = λ h. refl }

-- an item that comes
pub loud_core : (owner : Option ℕ) (j : Judged) (i : Item) (o : Operation) → Core o (changed (change_of owner j i) o)
loud_core owner j (Cyc c) o = at (is_new_opener owner j c.kind)
  where
    at : (opens : Bool) → Core o (changed (cond opens (Opened j.number j.said) (Cycle j.number c.kind c.byte j.said)) o)
    at true = record { ce = refl; start = refl; end = refl; lun = λ h. refl }
    at false = (let b = byte_core c.kind c.byte o in record { ce = b.ce; start = b.start; end = b.end; lun = b.lun })
loud_core owner j (Rdy ce lun fail) o = record { ce = refl; start = refl; end = refl; lun = λ h. refl }
loud_core owner j (Ard ce lun fail) o = record { ce = refl; start = refl; end = refl; lun = λ h. refl }

keep_core : (b : Bool) (o x y : Operation) → Core o x → Core o y → Core o (cond b x y)
keep_core true o x y p q = p
keep_core false o x y p q = q

poll_core : (n byte : ℕ) (o : Operation) → Core o (changed (Poll n byte) o)
poll_core n byte o =
    keep_core (is_some o.status) o o _ (same_core o)
    (keep_core (says_ready byte) o _ _ (record { ce = refl; start = refl; end = refl; lun = λ h. refl }) (record { ce = refl; start = refl; end = refl; lun = λ h. refl }))

alike_if : (b : Bool) (ops x y : List Operation) → Alike ops x → Alike ops y → Alike ops (cond b x y)
alike_if true ops x y p q = p
alike_if false ops x y p q = q

poll_if : (at : Option ℕ) (n byte : ℕ) (ops : List Operation) → Alike ops (changed_if at (Poll n byte) ops)
poll_if None n byte ops = alike_self ops
poll_if (Some k) n byte ops = changed_alike k (Poll n byte) ops (λ o is. poll_core n byte o)

fold_alike : (k : ℕ) (parent : Option ℕ) (ops : List Operation) → Alike ops (folded_into k parent ops)
fold_alike k None ops = alike_self ops
fold_alike k (Some parent) ops =
    alike_if (parent == k) ops ops _ (alike_self ops) (changed_alike k (Fold parent) ops (λ o is. record { ce = refl; start = refl; end = refl; lun = λ h. refl }))

register_alike : (r : Register) (k : ℕ) (ops : List Operation) → Alike ops (held_in r k ops)
register_alike Empty k ops = alike_self ops
register_alike (Page at) k ops = changed_alike k (Hold at) ops (λ o is. record { ce = refl; start = refl; end = refl; lun = λ h. refl })
register_alike ParameterPage k ops = alike_self ops
register_alike Identifier k ops = alike_self ops
register_alike Identity k ops = alike_self ops
register_alike JedecIdentity k ops = alike_self ops
register_alike UniqueId k ops = alike_self ops
register_alike (Features address) k ops = alike_self ops

hold_alike : (look : Option LunState) (k : ℕ) (ops : List Operation) → Alike ops (held_by look k ops)
hold_alike None k ops = alike_self ops
hold_alike (Some lun) k ops = register_alike lun.register k ops

-- ---- the item comes to its operation

unfold_alike : (b : Bool) (k : ℕ) (ops : List Operation) → ((o : Operation) → slice_get ops k ≡ Some o → b ≡ true → is_some o.start ≡ false) → Alike ops (cond b (changed_at k Unfold ops) ops)
unfold_alike true k ops new = changed_alike k Unfold ops (λ o is. record { ce = refl; start = refl; end = refl; lun = λ h. absurd (no (sym h ∙ new o is refl)) })
  where
    no : true ≡ false → ⊥
    no e = cc
unfold_alike false k ops new = alike_self ops

-- an operation that gets an address hasn't begun work
pub came_alike : (j : Judged) (l : Listing) →
    ((o : Operation) → slice_get (with_new (owner_in j (with_ends j l)) j (with_ends j l)).ops (mark_in j (with_ends j l)) ≡ Some o → is_address j.item ≡ true → is_some o.start ≡ false) →
    Alike (with_new (owner_in j (with_ends j l)) j (with_ends j l)).ops (came j l).ops
came_alike j l new =
    let ops = (with_new (owner_in j (with_ends j l)) j (with_ends j l)).ops in
    let k = mark_in j (with_ends j l) in
    let open' = unfold_alike (is_address j.item && is_alone_op (slice_get ops k)) k ops (λ o is e. new o is (and_parts (is_address j.item) (is_alone_op (slice_get ops k)) e).0) in
    alike_on ops (unfolded j k ops) (came j l).ops open' (changed_alike k (change_of (owner_in j (with_ends j l)) j j.item) (unfolded j k ops) (λ o is. loud_core (owner_in j (with_ends j l)) j j.item o))

-- ---- what it selects

-- the role tells the LUN of the operation
abbrev pub sets : Role → Bool
sets role.Nothing = false
sets role.Asks = true
sets role.Gives = false
sets role.Holds = true
sets role.Returns = true

-- one that has begun work keeps its LUN
abbrev pub Settles : List Operation → (k lun : ℕ) → Type 0
Settles ops k lun = (o : Operation) → slice_get ops k ≡ Some o → is_some o.start ≡ true → o.lun ≡ Some lun

settles_alike : (ops more : List Operation) (k lun : ℕ) → Alike ops more → Settles ops k lun → Settles more k lun
settles_alike ops more k lun alike settles w is started =
    let back = alike.back k w is in
    let begun : is_some back.old.start ≡ true = ap (λ (x : Option ℕ). is_some x) (sym back.core.start) ∙ started in
    back.core.lun begun ∙ settles back.old back.is_there begun

set_alike : (ops : List Operation) (k lun : ℕ) → Settles ops k lun → Alike ops (changed_at k (SetLun lun) ops)
set_alike ops k lun settles = changed_alike k (SetLun lun) ops (λ o is. record { ce = refl; start = refl; end = refl; lun = λ h. sym (settles o is h) })

role_alike : (r : Role) (j : Judged) (k lun : ℕ) (l : Listing) → (sets r ≡ true → Settles l.ops k lun) → Alike l.ops (selected_by r j k lun l).ops
role_alike role.Nothing j k lun l settles = alike_self l.ops
role_alike role.Asks j k lun l settles =
    let set = changed_at k (SetLun lun) l.ops in
    alike_on l.ops set (selected_by role.Asks j k lun l).ops (set_alike l.ops k lun (settles refl))
    (alike_if (is_unshown (op_of l.ops (worker l.places j.ce lun))) set _ _ (fold_alike k (worker l.places j.ce lun) set) (alike_self set))
role_alike role.Gives j k lun l settles = alike_self l.ops
role_alike role.Holds j k lun l settles =
    let set = changed_at k (SetLun lun) l.ops in
    alike_on l.ops set (selected_by role.Holds j k lun l).ops (set_alike l.ops k lun (settles refl)) (hold_alike (look_at j.after lun) k set)
role_alike role.Returns j k lun l settles =
    let set = changed_at k (SetLun lun) l.ops in
    alike_on l.ops set (selected_by role.Returns j k lun l).ops (set_alike l.ops k lun (settles refl)) (fold_alike k (either_of (worker l.places j.ce lun) (giver l.places j.ce lun)) set)

pub role_workers : (r : Role) (j : Judged) (k lun : ℕ) (l : Listing) → (selected_by r j k lun l).places.workers ≡ l.places.workers
role_workers role.Nothing j k lun l = refl
role_workers role.Asks j k lun l = refl
role_workers role.Gives j k lun l = refl
role_workers role.Holds j k lun l = refl
role_workers role.Returns j k lun l = refl

pub selects_workers : (j : Judged) (k : ℕ) (l : Listing) → (all_selected j k l).places.workers ≡ l.places.workers
selects_workers j k l =
    role_workers (role_by j (slice_get _ k) j.item 3) j k 3 _ ∙ role_workers (role_by j (slice_get _ k) j.item 2) j k 2 _
    ∙ role_workers (role_by j (slice_get _ k) j.item 1) j k 1 _ ∙ role_workers (role_by j (slice_get l.ops k) j.item 0) j k 0 l

-- the operation began so
abbrev pub BeginsWith : Beginning → List Operation → ℕ → Type 0
BeginsWith b ops k = (o : Operation) → slice_get ops k ≡ Some o → o.beginning ≡ b

abbrev pub BeginsAt : Beginning → ℕ → ℕ → Operation → Type 0
BeginsAt b m k o = k ≡ m → o.beginning ≡ b

begins_select : (b : Beginning) (j : Judged) (k lun : ℕ) (l : Listing) → BeginsWith b l.ops k → BeginsWith b (selected_on j k lun l).ops k
begins_select b j k lun l all o is =
    by_select (Every (BeginsAt b k)) (every_quiet (BeginsAt b k) (λ m c w quiet d e. kept_beginning c w ∙ d e)) j k lun l (λ m w there' e. all w (ap (slice_get l.ops) (sym e) ∙ there')) k o is refl

module _ (j : Judged) (k : ℕ) (b : Beginning) (base : List Operation) (settles : (o : Operation) (lun : ℕ) → o.beginning ≡ b → lun < 4 → sets (role_by j (Some o) j.item lun) ≡ true → Settles base k lun) where
  select_alike : (lun : ℕ) → lun < 4 → (l : Listing) → BeginsWith b l.ops k → Alike base l.ops → Alike base (selected_on j k lun l).ops
  select_alike lun few l begins alike = alike_on base l.ops (selected_on j k lun l).ops alike (at (slice_get l.ops k) refl)
    where
      at : (x : Option Operation) → slice_get l.ops k ≡ x → Alike l.ops (selected_by (role_by j x j.item lun) j k lun l).ops
      at None e = alike_self l.ops
      at (Some o) e = role_alike (role_by j (Some o) j.item lun) j k lun l (λ s. settles_alike base l.ops k lun alike (settles o lun (begins o e) few s))

  pub selects_alike : (l : Listing) → BeginsWith b l.ops k → Alike base l.ops → Alike base (all_selected j k l).ops
  selects_alike l begins alike =
      let one = selected_on j k 0 l in
      let two = selected_on j k 1 one in
      let three = selected_on j k 2 two in
      let p = begins_select b j k 0 l begins in
      let q = begins_select b j k 1 one p in
      let r = begins_select b j k 2 two q in
      select_alike 3 (omega arith) three r
      (select_alike 2 (omega arith) two q (select_alike 1 (omega arith) one p (select_alike 0 (omega arith) l begins alike)))

-- ---- status bytes

foreign_alike : (j : Judged) (byte : ℕ) (at : Option ℕ) (ops : List Operation) → Every (λ k. Domestic) ops → Alike ops (foreign_ended j byte at ops)
foreign_alike j byte at ops all =
    subst (λ (b : Bool). Alike ops (cond (b && says_ready byte) (changed_if at (End (ends.Shown j.number (has_failed byte))) ops) ops)) (sym (none_foreign ops at all)) (alike_self ops)

domestic_at : (m : ℕ) (c : Change) (ops : List Operation) → is_quiet c ≡ true → Every (λ k. Domestic) ops → Every (λ k. Domestic) (changed_at m c ops)
domestic_at m c ops quiet all = every_quiet (λ k. Domestic) (λ k c o quiet d. quiet_domestic c o quiet d) m c ops quiet all

domestic_if : (at : Option ℕ) (c : Change) (ops : List Operation) → is_quiet c ≡ true → Every (λ k. Domestic) ops → Every (λ k. Domestic) (changed_if at c ops)
domestic_if None c ops quiet all = all
domestic_if (Some k) c ops quiet all = domestic_at k c ops quiet all

poll_alike : (j : Judged) (k byte : ℕ) (w : Option ℕ) (ops : List Operation) → Every (λ k. Domestic) ops → Alike ops (polled_on j k byte w ops)
poll_alike j k byte w ops all =
    let show = changed_at k (Show byte) ops in
    let poll = changed_if w (Poll j.number byte) show in
    let shown = changed_alike k (Show byte) ops (λ o is. record { ce = refl; start = refl; end = refl; lun = λ h. refl }) in
    alike_on ops poll (polled_on j k byte w ops) (alike_on ops show poll shown (poll_if w j.number byte show))
    (foreign_alike j byte w poll (domestic_if w (Poll j.number byte) show refl (domestic_at k (Show byte) ops refl all)))

driver_alike : (j : Judged) (k byte : ℕ) (driver : Option ℕ) (places : Places) (ops : List Operation) → Every (λ k. Domestic) ops → Alike ops (polled_by j k byte driver places ops)
driver_alike j k byte None places ops all = alike_self ops
driver_alike j k byte (Some lun) places ops all =
    alike_if (gives_status (look_at j.before lun)) ops _ ops (poll_alike j k byte (worker places j.ce lun) ops all) (alike_self ops)

item_alike : (j : Judged) (k : ℕ) (i : Item) (places : Places) (ops : List Operation) → Every (λ k. Domestic) ops → Alike ops (polled j k i places ops)
item_alike j k (Cyc c) places ops all =
    alike_if (is_output c.kind && is_permitted j.said) ops _ ops (driver_alike j k c.byte (driver_of j.before) places ops all) (alike_self ops)
item_alike j k (Rdy ce lun fail) places ops all = alike_self ops
item_alike j k (Ard ce lun fail) places ops all = alike_self ops

pub rest_alike : (j : Judged) (k : ℕ) (l : Listing) → Every (λ k. Domestic) l.ops → Alike l.ops (with_ready j k (with_polls j k l)).ops
rest_alike j k l all =
    let polls = with_polls j k l in
    let polled' = by_polls (Every (λ k. Domestic)) (every_quiet (λ k. Domestic) (λ k c o quiet d. quiet_domestic c o quiet d)) j k l all in
    alike_on l.ops polls.ops (with_ready j k polls).ops (item_alike j k j.item l.places l.ops all)
    (subst (λ (b : Bool). Alike polls.ops (cond b (ended_if (ready_end j.item j.number) (Some k) polls.ops) polls.ops)) (sym (none_foreign polls.ops (Some k) polled')) (alike_self polls.ops))
