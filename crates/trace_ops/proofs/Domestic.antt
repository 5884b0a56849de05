-- In a legal trace of the base profile no operation is one that the model doesn't know.
use Rattle.std.proofs.Common.{◌≡◌, ◌⊎◌, inl, inr, ℕ, zero, suc, ◌+◌, ◌==◌, Bool, true, false, ◌&&◌, ◌||◌, not, cond, List, [], ◌∷◌, ◌++◌, Option, Some, None, is_some, refl, sym, ap, ◌∙◌, subst, arith, length, slice_set, slice_index, eqb-true, eq-eqb, lt-ltb, ltb}
use Rattle.std.specs.Prelude.{slice_get}
use Rattle.std.proofs.lemmas.Bool.{and_right, or_from, or_parts, false_from_ne_true}
use Rattle.std.proofs.lemmas.List.{length-set}
use Rattle.onfi_cycle.specs.declared.item.Item.{Item}
use Rattle.onfi_cycle.specs.declared.item.Item.TheVariants.{Cyc, Rdy, Ard}
use Rattle.onfi_cycle.specs.declared.item.Kind.{Kind}
use Rattle.onfi_cycle.specs.declared.item.Kind.TheVariants.{Cmd, Adr, Din, Dout}
use Rattle.onfi_cycle.specs.Command.{command}
use Rattle.onfi_cycle.proofs.Booleans.{clash}
use Rattle.trace_ops.specs.declared.change.Change.{Change}
use Rattle.trace_ops.specs.declared.change.Change.TheVariants.{Opened, Cycle, LoneReady, End, Begin, Poll, Show, Hold, SetLun, Fold, Unfold}
use Rattle.trace_ops.specs.declared.judged.Judged.{Judged}
use Rattle.trace_ops.specs.declared.operation.Beginning.{Beginning}
use Rattle.trace_ops.specs.declared.operation.Beginning.TheVariants as begins
use Rattle.trace_ops.specs.declared.operation.Operation.{Operation}
use Rattle.trace_ops.specs.Operation.{begun, opener_of, is_byte, is_unknown, closes_as_known, selects_column, is_foreign_opener, is_foreign_closer, has_other_address, is_foreign, takes_address, with_byte, says_ready, changed, changed_at}
use Rattle.trace_ops.specs.Listing.{Listing, found, op_of, is_foreign_op, is_foreign_at, new_one, is_new_opener, change_of, works_unknown, is_working_opener, is_working_closer, works_as_foreign, with_new, with_ends, owner_in, mark_in, listed}
use Rattle.trace_ops.proofs.Quiet.{is_quiet, by_ends, by_unfold, by_rest}
use Rattle.trace_ops.proofs.Pieces.{kept_beginning}
use Rattle.trace_ops.proofs.Spans.{which}
use Rattle.trace_ops.proofs.Walks.{came}
use Rattle.trace_ops.proofs.AtWork.{From, changed_from}

-- ---- what holds of each operation and its number

abbrev pub Every : (ℕ → Operation → Type 0) → List Operation → Type 0
Every D ops = (k : ℕ) (o : Operation) → slice_get ops k ≡ Some o → D k o

-- one is changed; of it holds what is wanted, and of the others what held
pub every_at : (D E : ℕ → Operation → Type 0) (m : ℕ) (c : Change) (ops : List Operation) → ((k : ℕ) (o : Operation) → (k ≡ m → ⊥) → D k o → E k o) →
    ((o : Operation) → slice_get ops m ≡ Some o → D m o → E m (changed c o)) → Every D ops → Every E (changed_at m c ops)
every_at D E m c ops others mine all k w is = at from.is
  where
    from : From m k c ops w
    from = changed_from m k c ops w is

    at : ((k ≡ m) × (w ≡ changed c from.old)) ⊎ ((k ≡ m → ⊥) × (w ≡ from.old)) → E k w
    at (inl both) =
        let there' : slice_get ops m ≡ Some from.old = ap (slice_get ops) (sym both.0) ∙ from.is_there in
        subst (λ (x : ℕ). E x w) (sym both.0) (subst (λ (z : Operation). E m z) (sym both.1) (mine from.old there' (all m from.old there')))
    at (inr away) = others k w away.0 (all k w (from.is_there ∙ ap Some (sym away.1)))

pub every_quiet : (D : ℕ → Operation → Type 0) → ((k : ℕ) (c : Change) (o : Operation) → is_quiet c ≡ true → D k o → D k (changed c o)) →
    (m : ℕ) (c : Change) (ops : List Operation) → is_quiet c ≡ true → Every D ops → Every D (changed_at m c ops)
every_quiet D keeps m c ops quiet all = every_at D D m c ops (λ k o away d. d) (λ o is d. keeps m c o quiet d) all

pub every_new : (D : ℕ → Operation → Type 0) (ops : List Operation) (x : Operation) → Every D ops → D (length ops) x → Every D (ops ++ (x ∷ []))
every_new D ops x all mine k w is = at (which ops x k w is)
  where
    at : (slice_get ops k ≡ Some w) ⊎ ((k ≡ length ops) × (w ≡ x)) → D k w
    at (inl old) = all k w old
    at (inr new) = subst (λ (n : ℕ). D n w) (sym new.0) (subst (λ (z : Operation). D (length ops) z) (sym new.1) mine)

-- all operations once an item has come to its own
pub every_came : (D E : ℕ → Operation → Type 0) (j : Judged) (l : Listing) → ((k : ℕ) (c : Change) (o : Operation) → is_quiet c ≡ true → D k o → D k (changed c o)) →
    ((k : ℕ) (o : Operation) → (k ≡ mark_in j (with_ends j l) → ⊥) → D k o → E k o) →
    ((o : Operation) → D (mark_in j (with_ends j l)) o → E (mark_in j (with_ends j l)) (changed (change_of (owner_in j (with_ends j l)) j j.item) o)) →
    Every D (with_ends j l).ops →
    (owner_in j (with_ends j l) ≡ None → D (length (with_ends j l).ops) (new_one j (op_of (with_ends j l).ops (found l.places.newest j.ce)) j.item)) → Every E (came j l).ops
every_came D E j l keeps others mine all new =
    every_at D E (mark_in j (with_ends j l)) (change_of (owner_in j (with_ends j l)) j j.item) _ others (λ o is d. mine o d)
    (by_unfold (Every D) (every_quiet D keeps) j (mark_in j (with_ends j l)) (with_new (owner_in j (with_ends j l)) j (with_ends j l)).ops (at (owner_in j (with_ends j l)) refl))
  where
    at : (o : Option ℕ) → owner_in j (with_ends j l) ≡ o → Every D (with_new o j (with_ends j l)).ops
    at None h = every_new D (with_ends j l).ops _ all (new h)
    at (Some k) h = all

-- ---- the model knows it

abbrev other_by : Beginning → List ℕ → ℕ → Bool
other_by b addresses count = ltb 0 count
    && ((is_byte (opener_of b) 0x90 && not (slice_index addresses 0 == 0x20)) || (is_byte (opener_of b) 0xec && not (slice_index addresses 0 == 0)))

-- its opener, its closer and its first address are of the base profile
pub record Domestic (o : Operation) : Type 0 where
  pub opener : is_foreign_opener (opener_of o.beginning) ≡ false
  pub closer : is_foreign_closer o.closer ≡ false
  pub addresses : other_by o.beginning o.addresses o.address_count ≡ false
  pub long : length o.addresses ≡ 5

like : (o w : Operation) → w.beginning ≡ o.beginning → w.closer ≡ o.closer → w.addresses ≡ o.addresses → w.address_count ≡ o.address_count → Domestic o → Domestic w
like o w b c a n d = record {
  opener = ap (λ (x : Beginning). is_foreign_opener (opener_of x)) b ∙ d.opener;
  closer = ap is_foreign_closer c ∙ d.closer;
  addresses =
      ap (λ (x : Beginning). other_by x w.addresses w.address_count) b ∙ ap (λ (x : List ℕ). other_by o.beginning x w.address_count) a
      ∙ ap (other_by o.beginning o.addresses) n ∙ d.addresses;
  long = ap length a ∙ d.long;
}

pub keep : (b : Bool) (x y : Operation) → Domestic x → Domestic y → Domestic (cond b x y)
keep true x y p q = p
keep false x y p q = q

pub quiet_domestic : (c : Change) (o : Operation) → is_quiet c ≡ true → Domestic o → Domestic (changed c o)
quiet_domestic (Opened n said) o quiet d = cc
quiet_domestic (Cycle n kind byte said) o quiet d = cc
quiet_domestic (LoneReady n said) o quiet d = cc
quiet_domestic (End e) o quiet d = keep (is_some o.end) o _ d (like o _ refl refl refl refl d)
quiet_domestic (Begin n lun) o quiet d = like o _ refl refl refl refl d
quiet_domestic (Poll n byte) o quiet d = keep (is_some o.status) o _ d (keep (says_ready byte) _ _ (like o _ refl refl refl refl d) (like o _ refl refl refl refl d))
quiet_domestic (Show byte) o quiet d = like o _ refl refl refl refl d
quiet_domestic (Hold page) o quiet d = like o _ refl refl refl refl d
quiet_domestic (SetLun lun) o quiet d = like o _ refl refl refl refl d
quiet_domestic (Fold parent) o quiet d = like o _ refl refl refl refl d
quiet_domestic Unfold o quiet d = like o _ refl refl refl refl d

-- an address that the profile has for this opener
pub record Fits (byte : ℕ) (b : Beginning) : Type 0 where
  pub identifier : is_byte (opener_of b) 0x90 ≡ true → byte ≡ 0x20
  pub parameters : is_byte (opener_of b) 0xec ≡ true → byte ≡ 0

fits_byte : (p : Bool) (byte v : ℕ) → (p ≡ true → byte ≡ v) → (p && not (byte == v)) ≡ false
fits_byte true byte v h = ap not (eq-eqb byte v (h refl))
fits_byte false byte v h = refl

second_false : (a b : Bool) → a ≡ true → (a && b) ≡ false → b ≡ false
second_false true b h e = e
second_false false b h e = cc

other_set : (b : Beginning) (addresses : List ℕ) (n byte : ℕ) → length addresses ≡ 5 → Fits byte b → other_by b addresses n ≡ false → other_by b (slice_set addresses n byte) (n + 1) ≡ false
other_set b [] n byte long fits h = absurd (omega (arith, long))
other_set b (x ∷ addresses) zero byte long fits h =
    and_right (ltb 0 (0 + 1)) _
    (or_from (is_byte (opener_of b) 0x90 && not (byte == 0x20)) (is_byte (opener_of b) 0xec && not (byte == 0))
    (fits_byte (is_byte (opener_of b) 0x90) byte 0x20 fits.identifier) (fits_byte (is_byte (opener_of b) 0xec) byte 0 fits.parameters))
other_set b (x ∷ addresses) (suc n) byte long fits h = and_right (ltb 0 (suc n + 1)) _ (second_false (ltb 0 (suc n)) _ (lt-ltb 0 (suc n) (omega arith)) h)

closed_by : (b : Bool) (closer : Option ℕ) (byte : ℕ) → is_foreign_closer closer ≡ false → closes_as_known byte ≡ false → is_foreign_closer (cond b closer (Some byte)) ≡ false
closed_by true closer byte p q = p
closed_by false closer byte p q = q

-- what the profile asks of a cycle of this kind
abbrev pub FitsKind : Kind → ℕ → Beginning → Type 0
FitsKind Cmd byte b = closes_as_known byte ≡ false
FitsKind Adr byte b = Fits byte b
FitsKind Din byte b = Unit {0}
FitsKind Dout byte b = Unit {0}

abbrev pub FitsItem : Item → Beginning → Type 0
FitsItem (Cyc c) b = FitsKind c.kind c.byte b
FitsItem (Rdy ce lun fail) b = Unit {0}
FitsItem (Ard ce lun fail) b = Unit {0}

byte_domestic : (kind : Kind) (byte : ℕ) (o : Operation) → FitsKind kind byte o.beginning → Domestic o → Domestic (with_byte kind byte o)
byte_domestic Cmd byte o fits d = record { opener = d.opener; closer = closed_by _ o.closer byte d.closer fits; addresses = d.addresses; long = d.long }
byte_domestic Adr byte o fits d =
    keep (takes_address o) _ o
    (record { opener = d.opener; closer = d.closer; addresses = other_set o.beginning o.addresses o.address_count byte d.long fits d.addresses; long = length-set o.addresses o.address_count byte ∙ d.long })
    d
byte_domestic Din byte o fits d = like o _ refl refl refl refl d
byte_domestic Dout byte o fits d = like o _ refl refl refl refl d

loud_domestic : (owner : Option ℕ) (j : Judged) (i : Item) (o : Operation) → FitsItem i o.beginning → Domestic o → Domestic (changed (change_of owner j i) o)
loud_domestic owner j (Cyc c) o fits d = at (is_new_opener owner j c.kind)
  where
    at : (opens : Bool) → Domestic (changed (cond opens (Opened j.number j.said) (Cycle j.number c.kind c.byte j.said)) o)
    at true = like o _ refl refl refl refl d
    at false = like (with_byte c.kind c.byte o) _ refl refl refl refl (byte_domestic c.kind c.byte o fits d)
loud_domestic owner j (Rdy ce lun fail) o fits d = like o _ refl refl refl refl d
loud_domestic owner j (Ard ce lun fail) o fits d = like o _ refl refl refl refl d

pub begun_domestic : (ce n : ℕ) (b : Beginning) → is_foreign_opener (opener_of b) ≡ false → Domestic (begun ce n b)
begun_domestic ce n b h = record { opener = h; closer = refl; addresses = refl; long = refl }

pub ready_domestic : (ce n lun : ℕ) → Domestic (record (begun ce n begins.Ready) { lun = Some lun })
ready_domestic ce n lun = like (begun ce n begins.Ready) _ refl refl refl refl (begun_domestic ce n begins.Ready refl)

-- ---- none is foreign

pub not_foreign : (o : Operation) → Domestic o → is_foreign o ≡ false
not_foreign o d = or_from (is_foreign_opener (opener_of o.beginning)) _ d.opener (or_from (is_foreign_closer o.closer) (has_other_address o) d.closer d.addresses)

pub none_foreign : (ops : List Operation) (at : Option ℕ) → Every (λ k. Domestic) ops → is_foreign_at ops at ≡ false
none_foreign ops None all = refl
none_foreign ops (Some k) all = at (slice_get ops k) refl
  where
    at : (x : Option Operation) → slice_get ops k ≡ x → is_foreign_op x ≡ false
    at None e = refl
    at (Some o) e = not_foreign o (all k o e)

pub not_byte : (v byte : ℕ) → is_unknown v ≡ true → is_unknown byte ≡ false → (byte == v) ≡ false
not_byte v byte p q = false_from_ne_true (byte == v) (λ e. clash (is_unknown byte) (ap is_unknown (eqb-true byte v e) ∙ p) q)

works_known : (byte : ℕ) → is_unknown byte ≡ false → works_unknown byte ≡ false
unfolding command
works_known byte h =
    rw (
      not_byte 0xef byte refl h,
      not_byte 0xee byte refl h,
      not_byte 0xed byte refl h,
      not_byte 0xfa byte refl h,
      not_byte 0xfc byte refl h,
      not_byte 0xd4 byte refl h,
      not_byte 0xd5 byte refl h,
      not_byte 0xd9 byte refl h,
      not_byte 0xf9 byte refl h,
    ) refl

-- a command of the base profile is no closer of another
pub base_closer : (byte : ℕ) → is_unknown byte ≡ false → closes_as_known byte ≡ false
unfolding command
base_closer byte h = rw (not_byte 0x15 byte refl h, not_byte 0x32 byte refl h, not_byte 0x35 byte refl h) refl

working_opener : (x : Option ℕ) → is_foreign_opener x ≡ false → is_working_opener x ≡ false
working_opener None h = refl
working_opener (Some byte) h = at (selects_column byte) refl (is_unknown byte) refl (or_parts (is_unknown byte && not (selects_column byte)) (byte == 0x85) h).0
  where
    at : (b : Bool) → selects_column byte ≡ b → (u : Bool) → is_unknown byte ≡ u → (u && not b) ≡ false → works_unknown byte ≡ false
    at true e u k x = ap works_unknown (eqb-true byte 0x06 e)
    at false e true k x = cc
    at false e false k x = works_known byte k

working_closer : (x : Option ℕ) → is_foreign_closer x ≡ false → is_working_closer x ≡ false
working_closer None h = refl
working_closer (Some byte) h = h

pub works_at_home : (ops : List Operation) (k : ℕ) → Every (λ k. Domestic) ops → works_as_foreign (slice_get ops k) ≡ false
works_at_home ops k all = at (slice_get ops k) refl
  where
    at : (x : Option Operation) → slice_get ops k ≡ x → works_as_foreign x ≡ false
    at None e = refl
    at (Some o) e =
        let d = all k o e in
        or_from (is_working_opener (opener_of o.beginning)) (is_working_closer o.closer) (working_opener (opener_of o.beginning) d.opener) (working_closer o.closer d.closer)

-- ---- one item

abbrev Fitting : ℕ → Item → ℕ → Operation → Type 0
Fitting mark i k o = Domestic o × (k ≡ mark → FitsItem i o.beginning)

pub domestic_came : (j : Judged) (l : Listing) → Every (λ k. Domestic) l.ops →
    ((o : Operation) → slice_get (with_ends j l).ops (mark_in j (with_ends j l)) ≡ Some o → FitsItem j.item o.beginning) →
    (owner_in j (with_ends j l) ≡ None → Domestic (new_one j (op_of (with_ends j l).ops (found l.places.newest j.ce)) j.item)
    × FitsItem j.item (new_one j (op_of (with_ends j l).ops (found l.places.newest j.ce)) j.item).beginning) →
    Every (λ k. Domestic) (came j l).ops
domestic_came j l all fits new =
    every_came (Fitting (mark_in j (with_ends j l)) j.item) (λ k. Domestic) j l
    (λ k c o quiet d. (quiet_domestic c o quiet d.0, (λ e. subst (FitsItem j.item) (sym (kept_beginning c o)) (d.1 e))))
    (λ k o away d. d.0)
    (λ o d. loud_domestic (owner_in j (with_ends j l)) j j.item o (d.1 refl) d.0)
    (λ k o is. (
      (by_ends (Every (λ k. Domestic)) (every_quiet (λ k. Domestic) (λ k c o quiet d. quiet_domestic c o quiet d)) j l.places l.ops all) k o is,
      (λ e. fits o (ap (slice_get (with_ends j l).ops) (sym e) ∙ is)),
    ))
    (λ h. ((new h).0, (λ e. (new h).1)))

-- and all that it does besides
pub domestic_listed : (j : Judged) (l : Listing) → Every (λ k. Domestic) (came j l).ops → Every (λ k. Domestic) (listed j l).ops
domestic_listed j l all =
    by_rest (Every (λ k. Domestic)) (every_quiet (λ k. Domestic) (λ k c o quiet d. quiet_domestic c o quiet d)) j (mark_in j (with_ends j l)) (came j l) all
