-- What a change of one operation does to the list.
use Rattle.std.proofs.Common.{◌≡◌, ◌⊎◌, inl, inr, ℕ, zero, suc, ◌+◌, ◌<◌, ◌≤◌, lt-ltb, Bool, true, false, ◌&&◌, cond, List, [], ◌∷◌, ◌++◌, Option, Some, None, is_some, refl, sym, ap, ◌∙◌, arith, length, slice_set}
use Rattle.std.specs.Prelude.{slice_get}
use Rattle.std.specs.Option.{unwrap_or}
use Rattle.std.proofs.lemmas.List.{length-set}
use Rattle.onfi_cycle.specs.declared.item.Kind.{Kind}
use Rattle.onfi_cycle.specs.declared.item.Kind.TheVariants.{Cmd, Adr, Din, Dout}
use Rattle.onfi_cycle.specs.declared.item.Item.{Item}
use Rattle.onfi_cycle.specs.declared.item.Item.TheVariants.{Cyc, Rdy, Ard}
use Rattle.trace_ops.specs.declared.change.Change.{Change}
use Rattle.trace_ops.specs.declared.change.Change.TheVariants.{Opened, Cycle, LoneReady, End, Begin, Poll, Show, Hold, SetLun, Fold, Unfold}
use Rattle.trace_ops.specs.declared.judged.Judged.{Judged}
use Rattle.trace_ops.specs.declared.operation.Operation.{Operation}
use Rattle.trace_ops.specs.Operation.{is_clean, is_output, one_more, takes_address, with_address, with_byte, says_ready, changed, changed_by, changed_at}
use Rattle.trace_ops.specs.Listing.{is_new_opener, change_of}
use Rattle.trace_ops.specs.Laws.{is_input_kind, is_input, is_output_item, total, one_if, IsTold}
use Rattle.trace_ops.proofs.Quiet.{is_quiet}

-- ---- how many there are

pub length_changed : (k : ℕ) (c : Change) (ops : List Operation) → length (changed_at k c ops) ≡ length ops
length_changed k c ops = at (slice_get ops k)
  where
    at : (o : Option Operation) → length (changed_by o c ops k) ≡ length ops
    at None = refl
    at (Some o) = length-set ops k (changed c o)

pub there : (ops : List Operation) (k : ℕ) → k < length ops → (o : Operation) × (slice_get ops k ≡ Some o)
there [] k lt = absurd (omega (arith, lt))
there (o ∷ ops) zero lt = (o, refl)
there (o ∷ ops) (suc k) lt = there ops k (omega (arith, lt))

-- ---- what is summed up

pub total_set : (f : Operation → ℕ) (ops : List Operation) (k : ℕ) (o y : Operation) → slice_get ops k ≡ Some o → total f (slice_set ops k y) + f o ≡ total f ops + f y
total_set f [] k o y h = cc
total_set f (x ∷ ops) zero o y h =
    let same : f x ≡ f o = ap (λ (w : Option Operation). at w) h in
    omega (arith, same)
  where
    at : Option Operation → ℕ
    at None = 0
    at (Some z) = f z
total_set f (x ∷ ops) (suc k) o y h =
    let rest = total_set f ops k o y h in
    omega (arith, rest)

pub at_most : (f : Operation → ℕ) (ops : List Operation) (k : ℕ) (o : Operation) → slice_get ops k ≡ Some o → f o ≤ total f ops
at_most f [] k o h = cc
at_most f (x ∷ ops) zero o h =
    let same : f x ≡ f o = ap (λ (w : Option Operation). at w) h in
    omega (arith, same)
  where
    at : Option Operation → ℕ
    at None = 0
    at (Some z) = f z
at_most f (x ∷ ops) (suc k) o h =
    let rest = at_most f ops k o h in
    omega (arith, rest)

pub total_append : (f : Operation → ℕ) (ops : List Operation) (o : Operation) → total f (ops ++ (o ∷ [])) ≡ total f ops + f o
total_append f [] o = omega arith
total_append f (x ∷ ops) o =
    let rest = total_append f ops o in
    omega (arith, rest)

-- a change that leaves the number as it is leaves the sum
pub total_kept : (f : Operation → ℕ) (k : ℕ) (c : Change) (ops : List Operation) → ((o : Operation) → f (changed c o) ≡ f o) → total f (changed_at k c ops) ≡ total f ops
total_kept f k c ops keeps = at (slice_get ops k) refl
  where
    at : (o : Option Operation) → slice_get ops k ≡ o → total f (changed_by o c ops k) ≡ total f ops
    at None h = refl
    at (Some o) h =
        let set = total_set f ops k o (changed c o) h in
        let same = keeps o in
        omega (arith, set, same)

pub total_more : (f : Operation → ℕ) (k more : ℕ) (c : Change) (ops : List Operation) (o : Operation) → slice_get ops k ≡ Some o → f (changed c o) ≡ f o + more →
    total f (changed_at k c ops) ≡ total f ops + more
total_more f k more c ops o h grown =
    let set = total_set f ops k o (changed c o) h in
    let same : total f (changed_at k c ops) ≡ total f (slice_set ops k (changed c o)) = ap (λ (w : Option Operation). total f (changed_by w c ops k)) h in
    omega (arith, set, same, grown)

-- ---- the inputs and the outputs of one

pub by : {X : Type 0} (f : Operation → X) (b : Bool) (x y : Operation) (v : X) → f x ≡ v → f y ≡ v → f (cond b x y) ≡ v
by f true x y v p q = p
by f false x y v p q = q

-- a change that brings no item leaves them, and whether it is clean
pub quiet_inputs : (c : Change) (o : Operation) → is_quiet c ≡ true → (changed c o).inputs ≡ o.inputs
quiet_inputs (Opened n said) o quiet = cc
quiet_inputs (Cycle n kind byte said) o quiet = cc
quiet_inputs (LoneReady n said) o quiet = cc
quiet_inputs (End e) o quiet = by (λ (z : Operation). z.inputs) (is_some o.end) o _ o.inputs refl refl
quiet_inputs (Begin n lun) o quiet = refl
quiet_inputs (Poll n byte) o quiet = by (λ (z : Operation). z.inputs) (is_some o.status) o _ o.inputs refl (by (λ (z : Operation). z.inputs) (says_ready byte) _ _ o.inputs refl refl)
quiet_inputs (Show byte) o quiet = refl
quiet_inputs (Hold page) o quiet = refl
quiet_inputs (SetLun lun) o quiet = refl
quiet_inputs (Fold parent) o quiet = refl
quiet_inputs Unfold o quiet = refl

pub quiet_outputs : (c : Change) (o : Operation) → is_quiet c ≡ true → (changed c o).outputs ≡ o.outputs
quiet_outputs (Opened n said) o quiet = cc
quiet_outputs (Cycle n kind byte said) o quiet = cc
quiet_outputs (LoneReady n said) o quiet = cc
quiet_outputs (End e) o quiet = by (λ (z : Operation). z.outputs) (is_some o.end) o _ o.outputs refl refl
quiet_outputs (Begin n lun) o quiet = refl
quiet_outputs (Poll n byte) o quiet = by (λ (z : Operation). z.outputs) (is_some o.status) o _ o.outputs refl (by (λ (z : Operation). z.outputs) (says_ready byte) _ _ o.outputs refl refl)
quiet_outputs (Show byte) o quiet = refl
quiet_outputs (Hold page) o quiet = refl
quiet_outputs (SetLun lun) o quiet = refl
quiet_outputs (Fold parent) o quiet = refl
quiet_outputs Unfold o quiet = refl

pub quiet_clean : (c : Change) (o : Operation) → is_quiet c ≡ true → (changed c o).is_clean ≡ o.is_clean
quiet_clean (Opened n said) o quiet = cc
quiet_clean (Cycle n kind byte said) o quiet = cc
quiet_clean (LoneReady n said) o quiet = cc
quiet_clean (End e) o quiet = by (λ (z : Operation). z.is_clean) (is_some o.end) o _ o.is_clean refl refl
quiet_clean (Begin n lun) o quiet = refl
quiet_clean (Poll n byte) o quiet = by (λ (z : Operation). z.is_clean) (is_some o.status) o _ o.is_clean refl (by (λ (z : Operation). z.is_clean) (says_ready byte) _ _ o.is_clean refl refl)
quiet_clean (Show byte) o quiet = refl
quiet_clean (Hold page) o quiet = refl
quiet_clean (SetLun lun) o quiet = refl
quiet_clean (Fold parent) o quiet = refl
quiet_clean Unfold o quiet = refl

one_more_is : (n : ℕ) → n < 18446744073709551615 → one_more n ≡ n + 1
one_more_is n lt = rw (lt-ltb n 18446744073709551615 lt) refl

-- an item that comes to an operation is an input of it, an output or neither
pub loud_inputs : (owner : Option ℕ) (j : Judged) (i : Item) (o : Operation) → o.inputs < 18446744073709551615 → (changed (change_of owner j i) o).inputs ≡ o.inputs + one_if (is_input i)
loud_inputs owner j (Cyc c) o lt = at owner c.kind
  where
    addressed : (byte : ℕ) → (with_address byte o).inputs ≡ o.inputs + 0
    addressed byte = by (λ (z : Operation). z.inputs) (takes_address o) _ o (o.inputs + 0) (omega arith) (omega arith)

    at : (owner : Option ℕ) (kind : Kind) → (changed (cond (is_new_opener owner j kind) (Opened j.number j.said) (Cycle j.number kind c.byte j.said)) o).inputs ≡ o.inputs + one_if (is_input_kind kind)
    at None Cmd = omega arith
    at (Some k) Cmd = omega arith
    at None Adr = addressed c.byte
    at (Some k) Adr = addressed c.byte
    at None Din = one_more_is o.inputs lt
    at (Some k) Din = one_more_is o.inputs lt
    at None Dout = omega arith
    at (Some k) Dout = omega arith
loud_inputs owner j (Rdy ce lun fail) o lt = omega arith
loud_inputs owner j (Ard ce lun fail) o lt = omega arith

pub loud_outputs : (owner : Option ℕ) (j : Judged) (i : Item) (o : Operation) → o.outputs < 18446744073709551615 → (changed (change_of owner j i) o).outputs ≡ o.outputs + one_if (is_output_item i)
loud_outputs owner j (Cyc c) o lt = at owner c.kind
  where
    addressed : (byte : ℕ) → (with_address byte o).outputs ≡ o.outputs + 0
    addressed byte = by (λ (z : Operation). z.outputs) (takes_address o) _ o (o.outputs + 0) (omega arith) (omega arith)

    at : (owner : Option ℕ) (kind : Kind) → (changed (cond (is_new_opener owner j kind) (Opened j.number j.said) (Cycle j.number kind c.byte j.said)) o).outputs ≡ o.outputs + one_if (is_output kind)
    at None Cmd = omega arith
    at (Some k) Cmd = omega arith
    at None Adr = addressed c.byte
    at (Some k) Adr = addressed c.byte
    at None Din = omega arith
    at (Some k) Din = omega arith
    at None Dout = one_more_is o.outputs lt
    at (Some k) Dout = one_more_is o.outputs lt
loud_outputs owner j (Rdy ce lun fail) o lt = omega arith
loud_outputs owner j (Ard ce lun fail) o lt = omega arith

-- ---- whether it is clean

and_false : (b c : Bool) → c ≡ false → (b && c) ≡ false
and_false true c h = h
and_false false c h = refl

kept_clean : (kind : Kind) (byte : ℕ) (o : Operation) → (with_byte kind byte o).is_clean ≡ o.is_clean
kept_clean Cmd byte o = refl
kept_clean Adr byte o = by (λ (z : Operation). z.is_clean) (takes_address o) _ o o.is_clean refl refl
kept_clean Din byte o = refl
kept_clean Dout byte o = refl

-- what isn't clean stays so
pub stays_unclean : (c : Change) (o : Operation) → o.is_clean ≡ false → (changed c o).is_clean ≡ false
stays_unclean (Opened n said) o h = ap (λ (b : Bool). b && is_clean said) h
stays_unclean (Cycle n kind byte said) o h = ap (λ (b : Bool). b && is_clean said) (kept_clean kind byte o ∙ h)
stays_unclean (LoneReady n said) o h = ap (λ (b : Bool). b && is_clean said) h
stays_unclean (End e) o h = quiet_clean (End e) o refl ∙ h
stays_unclean (Begin n lun) o h = h
stays_unclean (Poll n byte) o h = quiet_clean (Poll n byte) o refl ∙ h
stays_unclean (Show byte) o h = h
stays_unclean (Hold page) o h = h
stays_unclean (SetLun lun) o h = h
stays_unclean (Fold parent) o h = h
stays_unclean Unfold o h = h

-- an item that is no clean one makes it so
pub loud_unclean : (owner : Option ℕ) (j : Judged) (i : Item) (o : Operation) → is_clean j.said ≡ false → (changed (change_of owner j i) o).is_clean ≡ false
loud_unclean owner j (Cyc c) o h = at (is_new_opener owner j c.kind)
  where
    at : (opens : Bool) → (changed (cond opens (Opened j.number j.said) (Cycle j.number c.kind c.byte j.said)) o).is_clean ≡ false
    at true = and_false o.is_clean (is_clean j.said) h
    at false = and_false (with_byte c.kind c.byte o).is_clean (is_clean j.said) h
loud_unclean owner j (Rdy ce lun fail) o h = and_false o.is_clean (is_clean j.said) h
loud_unclean owner j (Ard ce lun fail) o h = and_false o.is_clean (is_clean j.said) h

told_set : (ops : List Operation) (m k : ℕ) (o y : Operation) → slice_get ops m ≡ Some o → (o.is_clean ≡ false → y.is_clean ≡ false) → IsTold ops k → IsTold (slice_set ops m y) k
told_set [] m k o y h stays told = told
told_set (x ∷ ops) zero zero o y h stays told =
    record { operation = y; is_there = refl; not_clean = stays (clean_of (sym h ∙ told.is_there) told.not_clean) }
  where
    clean_of : {w : Operation} → Some o ≡ Some w → w.is_clean ≡ false → o.is_clean ≡ false
    clean_of e unclean = ap (λ (v : Option Operation). at v) e ∙ unclean
      where
        at : Option Operation → Bool
        at None = true
        at (Some z) = z.is_clean
told_set (x ∷ ops) zero (suc k) o y h stays told = record { operation = told.operation; is_there = told.is_there; not_clean = told.not_clean }
told_set (x ∷ ops) (suc m) zero o y h stays told = record { operation = told.operation; is_there = told.is_there; not_clean = told.not_clean }
told_set (x ∷ ops) (suc m) (suc k) o y h stays told =
    let rest = told_set ops m k o y h stays (record { operation = told.operation; is_there = told.is_there; not_clean = told.not_clean }) in
    record { operation = rest.operation; is_there = rest.is_there; not_clean = rest.not_clean }

-- an operation that is told stays so, whatever is changed
pub told_changed : (m : ℕ) (c : Change) (ops : List Operation) (k : ℕ) → IsTold ops k → IsTold (changed_at m c ops) k
told_changed m c ops k told = at (slice_get ops m) refl
  where
    at : (o : Option Operation) → slice_get ops m ≡ o → IsTold (changed_by o c ops m) k
    at None h = told
    at (Some o) h = told_set ops m k o (changed c o) h (stays_unclean c o) told

pub told_append : (ops more : List Operation) (k : ℕ) → IsTold ops k → IsTold (ops ++ more) k
told_append [] more k told = absurd (none told.is_there)
  where
    none : {o : Operation} → None ≡ Some o → ⊥
    none h = cc
told_append (x ∷ ops) more zero told = record { operation = told.operation; is_there = told.is_there; not_clean = told.not_clean }
told_append (x ∷ ops) more (suc k) told =
    let rest = told_append ops more k (record { operation = told.operation; is_there = told.is_there; not_clean = told.not_clean }) in
    record { operation = rest.operation; is_there = rest.is_there; not_clean = rest.not_clean }

set_there : (ops : List Operation) (k : ℕ) (o y : Operation) → slice_get ops k ≡ Some o → slice_get (slice_set ops k y) k ≡ Some y
set_there [] k o y h = cc
set_there (x ∷ ops) zero o y h = refl
set_there (x ∷ ops) (suc k) o y h = set_there ops k o y h

-- the operation to which such an item comes is told
pub told_by : (owner : Option ℕ) (j : Judged) (i : Item) (ops : List Operation) (k : ℕ) → k < length ops → is_clean j.said ≡ false → IsTold (changed_at k (change_of owner j i) ops) k
told_by owner j i ops k lt unclean =
    let o = (there ops k lt).0 in
    let h = (there ops k lt).1 in
    let y = changed (change_of owner j i) o in
    let same : changed_at k (change_of owner j i) ops ≡ slice_set ops k y = ap (λ (w : Option Operation). changed_by w (change_of owner j i) ops k) h in
    record { operation = y; is_there = ap (λ (w : List Operation). slice_get w k) same ∙ set_there ops k o y h; not_clean = loud_unclean owner j i o unclean }

-- ---- its first and its last item
pub quiet_first : (c : Change) (o : Operation) → is_quiet c ≡ true → (changed c o).first ≡ o.first
quiet_first (Opened n said) o quiet = cc
quiet_first (Cycle n kind byte said) o quiet = cc
quiet_first (LoneReady n said) o quiet = cc
quiet_first (End e) o quiet = by (λ (z : Operation). z.first) (is_some o.end) o _ o.first refl refl
quiet_first (Begin n lun) o quiet = refl
quiet_first (Poll n byte) o quiet = by (λ (z : Operation). z.first) (is_some o.status) o _ o.first refl (by (λ (z : Operation). z.first) (says_ready byte) _ _ o.first refl refl)
quiet_first (Show byte) o quiet = refl
quiet_first (Hold page) o quiet = refl
quiet_first (SetLun lun) o quiet = refl
quiet_first (Fold parent) o quiet = refl
quiet_first Unfold o quiet = refl

pub quiet_last : (c : Change) (o : Operation) → is_quiet c ≡ true → (changed c o).last ≡ o.last
quiet_last (Opened n said) o quiet = cc
quiet_last (Cycle n kind byte said) o quiet = cc
quiet_last (LoneReady n said) o quiet = cc
quiet_last (End e) o quiet = by (λ (z : Operation). z.last) (is_some o.end) o _ o.last refl refl
quiet_last (Begin n lun) o quiet = refl
quiet_last (Poll n byte) o quiet = by (λ (z : Operation). z.last) (is_some o.status) o _ o.last refl (by (λ (z : Operation). z.last) (says_ready byte) _ _ o.last refl refl)
quiet_last (Show byte) o quiet = refl
quiet_last (Hold page) o quiet = refl
quiet_last (SetLun lun) o quiet = refl
quiet_last (Fold parent) o quiet = refl
quiet_last Unfold o quiet = refl

kept_first : (kind : Kind) (byte : ℕ) (o : Operation) → (with_byte kind byte o).first ≡ o.first
kept_first Cmd byte o = refl
kept_first Adr byte o = by (λ (z : Operation). z.first) (takes_address o) _ o o.first refl refl
kept_first Din byte o = refl
kept_first Dout byte o = refl

pub loud_first : (owner : Option ℕ) (j : Judged) (i : Item) (o : Operation) → (changed (change_of owner j i) o).first ≡ o.first
loud_first owner j (Cyc c) o = at (is_new_opener owner j c.kind)
  where
    at : (opens : Bool) → (changed (cond opens (Opened j.number j.said) (Cycle j.number c.kind c.byte j.said)) o).first ≡ o.first
    at true = refl
    at false = kept_first c.kind c.byte o
loud_first owner j (Rdy ce lun fail) o = refl
loud_first owner j (Ard ce lun fail) o = refl

pub loud_last : (owner : Option ℕ) (j : Judged) (i : Item) (o : Operation) → (changed (change_of owner j i) o).last ≡ j.number
loud_last owner j (Cyc c) o = at (is_new_opener owner j c.kind)
  where
    at : (opens : Bool) → (changed (cond opens (Opened j.number j.said) (Cycle j.number c.kind c.byte j.said)) o).last ≡ j.number
    at true = refl
    at false = refl
loud_last owner j (Rdy ce lun fail) o = refl
loud_last owner j (Ard ce lun fail) o = refl

-- what stands at a place once another was put somewhere
pub put : (ops : List Operation) (m k : ℕ) (y w : Operation) → slice_get (slice_set ops m y) k ≡ Some w →
    ((k ≡ m) × (w ≡ y)) ⊎ ((k ≡ m → ⊥) × (slice_get ops k ≡ Some w))
put [] m k y w h = cc
put (x ∷ ops) zero zero y w h = inl (refl, sym (ap (λ (o : Option Operation). unwrap_or o w) h))
put (x ∷ ops) zero (suc k) y w h = inr ((λ e. omega (arith, e)), h)
put (x ∷ ops) (suc m) zero y w h = inr ((λ e. omega (arith, e)), h)
put (x ∷ ops) (suc m) (suc k) y w h = at (put ops m k y w h)
  where
    at : ((k ≡ m) × (w ≡ y)) ⊎ ((k ≡ m → ⊥) × (slice_get ops k ≡ Some w)) → ((suc k ≡ suc m) × (w ≡ y)) ⊎ ((suc k ≡ suc m → ⊥) × (slice_get ops k ≡ Some w))
    at (inl both) = inl (ap suc both.0, both.1)
    at (inr there) = inr ((λ e. there.0 (omega (arith, e))), there.1)
