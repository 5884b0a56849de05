-- What is known of an operation that is a part of another, and what changes of operations and selections keep of that.
use Rattle.std.proofs.Common.{◌≡◌, ℕ, ◌==◌, Bool, true, false, ◌&&◌, ◌||◌, not, cond, List, Option, Some, None, is_some, refl, sym, ap, ◌∙◌}
use Rattle.std.specs.Prelude.{slice_get}
use Rattle.onfi_cycle.specs.declared.item.Cycle.{Cycle as BusCycle}
use Rattle.onfi_cycle.specs.declared.item.Item.{Item}
use Rattle.onfi_cycle.specs.declared.item.Item.TheVariants.{Cyc, Rdy, Ard}
use Rattle.onfi_cycle.specs.declared.item.Kind.{Kind}
use Rattle.onfi_cycle.specs.declared.item.Kind.TheVariants.{Cmd, Adr, Din, Dout}
use Rattle.onfi_cycle.specs.declared.lun_state.LunState.{LunState}
use Rattle.onfi_cycle.specs.declared.register.Register.{Register}
use Rattle.onfi_cycle.specs.declared.register.Register.TheVariants.{Empty, Page, ParameterPage, Identifier, Identity, JedecIdentity, UniqueId, Features}
use Rattle.onfi_cycle.specs.Sequence.{tail}
use Rattle.trace_ops.specs.declared.change.Change.{Change}
use Rattle.trace_ops.specs.declared.change.Change.TheVariants.{Opened, Cycle, LoneReady, End, Begin, Poll, Show, Hold, SetLun, Fold, Unfold}
use Rattle.trace_ops.specs.declared.judged.Judged.{Judged}
use Rattle.trace_ops.specs.declared.operation.Beginning.{Beginning}
use Rattle.trace_ops.specs.declared.operation.Operation.{Operation}
use Rattle.trace_ops.specs.declared.role.Role.{Role}
use Rattle.trace_ops.specs.declared.role.Role.TheVariants as role
use Rattle.trace_ops.specs.Operation.{opener_of, is_byte, is_permitted, says_ready, changed, changed_at}
use Rattle.trace_ops.specs.Listing.{Listing, found, worker, giver, op_of, either_of, gives_data, gives_status, look_at, begins_by, role_of_kind, role_by, is_unshown, folded_into, held_in, held_by, selected_by, selected_on, all_selected}
use Rattle.trace_ops.proofs.Asking.{Asking}
use Rattle.trace_ops.proofs.Changed.{by, quiet_clean}
use Rattle.trace_ops.proofs.Domestic.{Every, every_at}
use Rattle.trace_ops.proofs.Pieces.{kept_beginning, quiet_closer}
use Rattle.trace_ops.proofs.Quiet.{is_quiet, is_plain, plain_is_quiet}

-- a question for the status, or a 00h alone
abbrev pub asks_so : Beginning → (count : ℕ) → (closer : Option ℕ) → Bool
asks_so b count closer = (is_byte (opener_of b) 0x70 || is_byte (opener_of b) 0x78) || (is_byte (opener_of b) 0 && (count == 0 && not (is_some closer)))

-- it asks and has no second command; while it is the newest of its target, that has a tail that asks
pub record Part (newest : List (Option ℕ)) (past : List Item) (rested : ℕ → Type 0) (k : ℕ) (o : Operation) : Type 0 where
  pub kind : asks_so o.beginning o.address_count o.closer ≡ true
  pub unclosed : is_some o.closer ≡ false
  pub rests : rested k
  pub asking : (d : ℕ) → found newest d ≡ Some k → Asking (tail past d)

abbrev pub Parted : List (Option ℕ) → List Item → (ℕ → Type 0) → ℕ → Operation → Type 0
Parted newest past rested k o = (o.is_clean ≡ true) × (is_some o.parent ≡ true → Part newest past rested k o)

-- ---- changes

quiet_count : (c : Change) (o : Operation) → is_quiet c ≡ true → (changed c o).address_count ≡ o.address_count
quiet_count (Opened n said) o quiet = cc
quiet_count (Cycle n kind byte said) o quiet = cc
quiet_count (LoneReady n said) o quiet = cc
quiet_count (End e) o quiet = by (λ (z : Operation). z.address_count) (is_some o.end) o _ o.address_count refl refl
quiet_count (Begin n lun) o quiet = refl
quiet_count (Poll n byte) o quiet =
    by (λ (z : Operation). z.address_count) (is_some o.status) o _ o.address_count refl (by (λ (z : Operation). z.address_count) (says_ready byte) _ _ o.address_count refl refl)
quiet_count (Show byte) o quiet = refl
quiet_count (Hold page) o quiet = refl
quiet_count (SetLun lun) o quiet = refl
quiet_count (Fold parent) o quiet = refl
quiet_count Unfold o quiet = refl

-- a change that folds nothing leaves no operation a part that wasn't one
pub plain_parent : (c : Change) (o : Operation) → is_plain c ≡ true → is_some (changed c o).parent ≡ true → is_some o.parent ≡ true
plain_parent (Opened n said) o plain h = cc
plain_parent (Cycle n kind byte said) o plain h = cc
plain_parent (LoneReady n said) o plain h = cc
plain_parent (End e) o plain h = sym (by (λ (z : Operation). is_some z.parent) (is_some o.end) o _ (is_some o.parent) refl refl) ∙ h
plain_parent (Begin n lun) o plain h = h
plain_parent (Poll n byte) o plain h =
    sym (by (λ (z : Operation). is_some z.parent) (is_some o.status) o _ (is_some o.parent) refl (by (λ (z : Operation). is_some z.parent) (says_ready byte) _ _ (is_some o.parent) refl refl)) ∙ h
plain_parent (Show byte) o plain h = h
plain_parent (Hold page) o plain h = h
plain_parent (SetLun lun) o plain h = h
plain_parent (Fold parent) o plain h = cc
plain_parent Unfold o plain h = cc

pub quiet_asks : (c : Change) (o : Operation) → is_quiet c ≡ true → asks_so (changed c o).beginning (changed c o).address_count (changed c o).closer ≡ asks_so o.beginning o.address_count o.closer
quiet_asks c o quiet =
    ap (λ (b : Beginning). asks_so b (changed c o).address_count (changed c o).closer) (kept_beginning c o)
    ∙ ap (λ (n : ℕ). asks_so o.beginning n (changed c o).closer) (quiet_count c o quiet) ∙ ap (asks_so o.beginning o.address_count) (quiet_closer c o quiet)

pub quiet_unclosed : (c : Change) (o : Operation) → is_quiet c ≡ true → is_some (changed c o).closer ≡ is_some o.closer
quiet_unclosed c o quiet = ap (λ (x : Option ℕ). is_some x) (quiet_closer c o quiet)

module _ (newest : List (Option ℕ)) (past : List Item) (rested : ℕ → Type 0) where
  part_quiet : (k : ℕ) (c : Change) (o : Operation) → is_quiet c ≡ true → Part newest past rested k o → Part newest past rested k (changed c o)
  part_quiet k c o quiet p = record { kind = quiet_asks c o quiet ∙ p.kind; unclosed = quiet_unclosed c o quiet ∙ p.unclosed; rests = p.rests; asking = p.asking }

  parted_plain : (k : ℕ) (c : Change) (o : Operation) → is_plain c ≡ true → Parted newest past rested k o → Parted newest past rested k (changed c o)
  parted_plain k c o plain d =
      let quiet = plain_is_quiet c plain in
      (quiet_clean c o quiet ∙ d.0, (λ h. part_quiet k c o quiet (d.1 (plain_parent c o plain h))))

  pub parted_at : (m : ℕ) (c : Change) (ops : List Operation) → is_plain c ≡ true → Every (Parted newest past rested) ops → Every (Parted newest past rested) (changed_at m c ops)
  parted_at m c ops plain all = every_at (Parted newest past rested) (Parted newest past rested) m c ops (λ k o away d. d) (λ o is d. parted_plain m c o plain d) all

-- ---- which items fold

abbrev folding : Role → Bool
folding role.Nothing = false
folding role.Asks = true
folding role.Gives = false
folding role.Holds = false
folding role.Returns = true

abbrev pub may_fold_by : Kind → (byte : ℕ) → Beginning → Bool
may_fold_by Cmd byte b = byte == 0x70 || byte == 0x00
may_fold_by Adr byte b = is_byte (opener_of b) 0x78
may_fold_by Din byte b = false
may_fold_by Dout byte b = false

-- 70h, 00h, and the addresses of 78h
abbrev pub may_fold : Item → Beginning → Bool
may_fold (Cyc c) b = may_fold_by c.kind c.byte b
may_fold (Rdy ce lun fail) b = false
may_fold (Ard ce lun fail) b = false

never_folds : (b : Bool) (x y : Role) → folding x ≡ false → folding y ≡ false → folding (cond b x y) ≡ false
never_folds true x y p q = p
never_folds false x y p q = q

command_folds : (s a b c d x y z w : Bool) →
    folding (cond s (cond x role.Asks role.Nothing) (cond a (cond y role.Gives role.Nothing) (cond b (cond y role.Holds role.Nothing) (cond c (cond z role.Holds role.Nothing) (cond d (cond w role.Returns role.Nothing) role.Nothing))))) ≡ true →
    (s || d) ≡ true
command_folds true a b c d x y z w h = refl
command_folds false a b c true x y z w h = refl
command_folds false a b c false x y z w h = absurd (no (sym none ∙ h))
  where
    no : false ≡ true → ⊥
    no e = cc

    none : folding (cond a (cond y role.Gives role.Nothing) (cond b (cond y role.Holds role.Nothing) (cond c (cond z role.Holds role.Nothing) role.Nothing))) ≡ false
    none =
        never_folds a _ _ (never_folds y role.Gives role.Nothing refl refl)
        (never_folds b _ _ (never_folds y role.Holds role.Nothing refl refl) (never_folds c _ role.Nothing (never_folds z role.Holds role.Nothing refl refl) refl))

address_folds : (a b x y : Bool) → folding (cond a (cond x role.Asks role.Nothing) (cond b (cond y role.Gives role.Nothing) role.Nothing)) ≡ true → a ≡ true
address_folds true b x y h = refl
address_folds false b x y h = absurd (no (sym (never_folds b _ role.Nothing (never_folds y role.Gives role.Nothing refl refl) refl) ∙ h))
  where
    no : false ≡ true → ⊥
    no e = cc

kind_folds : (o : Operation) (c : BusCycle) (starts : Bool) (after : Option LunState) (kind : Kind) → folding (role_of_kind o c starts after kind) ≡ true → may_fold_by kind c.byte o.beginning ≡ true
kind_folds o c starts after Cmd h =
    command_folds (c.byte == 0x70) (c.byte == 0x30) (c.byte == 0x31 || c.byte == 0x3f) (c.byte == 0xe0) (c.byte == 0x00) (gives_status after) starts (gives_data after) (gives_data after) h
kind_folds o c starts after Adr h =
    address_folds (is_byte (opener_of o.beginning) 0x78) (is_byte (opener_of o.beginning) 0x90 || is_byte (opener_of o.beginning) 0xec) (o.address_count == 3 && gives_status after)
    (starts || gives_data after) h
kind_folds o c starts after Din h = cc
kind_folds o c starts after Dout h = cc

item_folds : (j : Judged) (o : Operation) (i : Item) (lun : ℕ) → folding (role_by j (Some o) i lun) ≡ true → may_fold i o.beginning ≡ true
item_folds j o (Cyc c) lun h = at (is_permitted j.said) h
  where
    at : (b : Bool) → folding (cond b (role_of_kind o c (begins_by j (Cyc c) lun) (look_at j.after lun) c.kind) role.Nothing) ≡ true → may_fold (Cyc c) o.beginning ≡ true
    at true h = kind_folds o c (begins_by j (Cyc c) lun) (look_at j.after lun) c.kind h
    at false h = cc
item_folds j o (Rdy ce l fail) lun h = cc
item_folds j o (Ard ce l fail) lun h = cc

-- ---- what an item selects

-- what holds besides of the operation to which the item comes: how it began, and that it may be a part, where the item folds
abbrev pub Chosen : List (Option ℕ) → List Item → (ℕ → Type 0) → (mark : ℕ) → Item → Beginning → ℕ → Operation → Type 0
Chosen newest past rested mark i b k o = Parted newest past rested k o × (k ≡ mark → (o.beginning ≡ b) × (may_fold i b ≡ true → Part newest past rested k o))

choose : (P : List Operation → Type 0) (b : Bool) (x y : List Operation) → P x → P y → P (cond b x y)
choose P true x y p q = p
choose P false x y p q = q

module _ (newest : List (Option ℕ)) (past : List Item) (rested : ℕ → Type 0) (j : Judged) (mark : ℕ) (b : Beginning) where
  abbrev All : List Operation → Type 0
  All ops = Every (Chosen newest past rested mark j.item b) ops

  chosen_at : (m : ℕ) (c : Change) (ops : List Operation) → is_plain c ≡ true → All ops → All (changed_at m c ops)
  chosen_at m c ops plain all =
      every_at (Chosen newest past rested mark j.item b) (Chosen newest past rested mark j.item b) m c ops (λ k o away d. d)
      (λ o is d. (
        parted_plain newest past rested m c o plain d.0,
        (λ e. (kept_beginning c o ∙ (d.1 e).0, (λ may. part_quiet newest past rested m c o (plain_is_quiet c plain) ((d.1 e).1 may)))),
      )) all

  chosen_fold : (parent : ℕ) (ops : List Operation) → may_fold j.item b ≡ true → All ops → All (changed_at mark (Fold parent) ops)
  chosen_fold parent ops may all =
      every_at (Chosen newest past rested mark j.item b) (Chosen newest past rested mark j.item b) mark (Fold parent) ops (λ k o away d. d)
      (λ o is d. (
        (d.0.0, (λ h. part_quiet newest past rested mark (Fold parent) o refl ((d.1 refl).1 may))),
        (λ e. ((d.1 e).0, (λ again. part_quiet newest past rested mark (Fold parent) o refl ((d.1 e).1 may)))),
      )) all

  fold_into : (parent : Option ℕ) (ops : List Operation) → may_fold j.item b ≡ true → All ops → All (folded_into mark parent ops)
  fold_into None ops may all = all
  fold_into (Some parent) ops may all = choose All (parent == mark) ops _ all (chosen_fold parent ops may all)

  hold_in : (r : Register) (ops : List Operation) → All ops → All (held_in r mark ops)
  hold_in Empty ops all = all
  hold_in (Page at) ops all = chosen_at mark (Hold at) ops refl all
  hold_in ParameterPage ops all = all
  hold_in Identifier ops all = all
  hold_in Identity ops all = all
  hold_in JedecIdentity ops all = all
  hold_in UniqueId ops all = all
  hold_in (Features address) ops all = all

  hold_by : (look : Option LunState) (ops : List Operation) → All ops → All (held_by look mark ops)
  hold_by None ops all = all
  hold_by (Some lun) ops all = hold_in lun.register ops all

  role_keeps : (r : Role) (lun : ℕ) (l : Listing) → (folding r ≡ true → may_fold j.item b ≡ true) → All l.ops → All (selected_by r j mark lun l).ops
  role_keeps role.Nothing lun l may all = all
  role_keeps role.Asks lun l may all =
      let set = chosen_at mark (SetLun lun) l.ops refl all in
      choose All (is_unshown (op_of l.ops (worker l.places j.ce lun))) _ _ (fold_into (worker l.places j.ce lun) (changed_at mark (SetLun lun) l.ops) (may refl) set) set
  role_keeps role.Gives lun l may all = all
  role_keeps role.Holds lun l may all = hold_by (look_at j.after lun) (changed_at mark (SetLun lun) l.ops) (chosen_at mark (SetLun lun) l.ops refl all)
  role_keeps role.Returns lun l may all =
      fold_into (either_of (worker l.places j.ce lun) (giver l.places j.ce lun)) (changed_at mark (SetLun lun) l.ops) (may refl) (chosen_at mark (SetLun lun) l.ops refl all)

  select_keeps : (lun : ℕ) (l : Listing) → All l.ops → All (selected_on j mark lun l).ops
  select_keeps lun l all = at (slice_get l.ops mark) refl
    where
      at : (x : Option Operation) → slice_get l.ops mark ≡ x → All (selected_by (role_by j x j.item lun) j mark lun l).ops
      at None e = all
      at (Some o) e =
          role_keeps (role_by j (Some o) j.item lun) lun l
          (λ h. ap (may_fold j.item) (sym ((all mark o e).1 refl).0) ∙ item_folds j o j.item lun h) all

  pub selects_keep : (l : Listing) → All l.ops → All (all_selected j mark l).ops
  selects_keep l all = select_keeps 3 _ (select_keeps 2 _ (select_keeps 1 _ (select_keeps 0 l all)))
