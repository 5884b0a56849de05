-- What is known of each operation of a target whose host polls: which are works, which are parts, and what has been said of the newest work.
use Rattle.std.proofs.Common.{◌≡◌, ◌⊎◌, inl, inr, ℕ, zero, suc, ◌+◌, ◌<◌, ◌==◌, Bool, true, false, ◌&&◌, cond, List, [], ◌∷◌, ◌++◌, Option, Some, None, is_some, refl, sym, ap, ◌∙◌, arith, length, slice_set, take, ltb, ltb-true, ne_eqb}
use Rattle.std.specs.Prelude.{slice_get}
use Rattle.std.proofs.lemmas.Bool.{and_parts}
use Rattle.std.proofs.lemmas.List.{length-append, length-set}
use Rattle.std.proofs.lemmas.Option.{slice_get_within}
use Rattle.onfi_cycle.specs.declared.item.Item.{Item}
use Rattle.onfi_cycle.specs.declared.item.Item.TheVariants.{Cyc, Rdy, Ard}
use Rattle.onfi_cycle.specs.declared.item.Kind.{Kind}
use Rattle.onfi_cycle.specs.declared.item.Kind.TheVariants.{Cmd, Adr, Din, Dout}
use Rattle.trace_faults.specs.declared.verdict.Verdict.{Verdict}
use Rattle.trace_ops.specs.declared.change.Change.TheVariants.{Cycle, Poll}
use Rattle.trace_ops.specs.declared.operation.Beginning.TheVariants as begins
use Rattle.trace_ops.specs.declared.operation.Operation.{Operation}
use Rattle.trace_ops.specs.Operation.{one_more, takes_address, says_ready, changed}
use Rattle.trace_ops.specs.Polling.{Work, Sequence, Doing, Rests, Sends, Waits, Asks, Sees, opener_for, closer_for, by_cycle, doing_after, is_sending}
use Rattle.trace_ops.proofs.Changed.{by}
use Rattle.trace_ops.proofs.Gently.{IsKept, Lasts}
use Rattle.trace_ops.proofs.Spans.{same_some, which}

-- ---- what is sent of a sequence, and what is to come

pub sends_same : {s t : Sequence} → Sends s ≡ Sends t → s ≡ t
sends_same {s = s} h = ap (sent_by s) h
  where
    sent_by : Sequence → Doing → Sequence
    sent_by d Rests = d
    sent_by d (Sends s) = s
    sent_by d (Waits w) = d
    sent_by d (Asks w) = d
    sent_by d Sees = d

abbrev pub whole_by : Doing → (Sequence → Sequence) → Sequence → Sequence
whole_by Rests more s = s
whole_by (Sends t) more s = more t
whole_by (Waits work) more s = s
whole_by (Asks work) more s = s
whole_by Sees more s = s

abbrev pub whole_on : Option Doing → (Sequence → Sequence) → Sequence → Sequence
whole_on None more s = s
whole_on (Some d) more s = whole_by d more s

-- a sequence with what these items send of it
abbrev pub whole : ℕ → List Item → Sequence → Sequence
whole ce [] s = s
whole ce (i ∷ items) s = whole_on (doing_after ce i (Sends s)) (whole ce items) s

pub whole_sends : (ce : ℕ) (i : Item) (items : List Item) (s t : Sequence) → doing_after ce i (Sends s) ≡ Some (Sends t) → whole ce (i ∷ items) s ≡ whole ce items t
whole_sends ce i items s t h = ap (λ (x : Option Doing). whole_on x (whole ce items) s) h

pub whole_ends : (ce : ℕ) (i : Item) (items : List Item) (s : Sequence) (w : Work) → doing_after ce i (Sends s) ≡ Some (Waits w) → whole ce (i ∷ items) s ≡ s
whole_ends ce i items s w h = ap (λ (x : Option Doing). whole_on x (whole ce items) s) h

-- it is of the same work
sends_work : (ce : ℕ) (i : Item) (s t : Sequence) → doing_after ce i (Sends s) ≡ Some (Sends t) → t.work ≡ s.work
sends_work ce (Rdy x lun fail) s t h = ap (λ (x : Sequence). x.work) (sym (sends_same (same_some h)))
sends_work ce (Ard x lun fail) s t h = ap (λ (x : Sequence). x.work) (sym (sends_same (same_some h)))
sends_work ce (Cyc c) s t h = at (c.ce == ce) h
  where
    none : {X : Type 0} {x : X} → None ≡ Some x → ⊥
    none h = cc

    waits : {w : Work} → Waits w ≡ Sends t → ⊥
    waits h = cc

    closer : (b : Bool) (w : Work) → cond b (Some (Waits w)) None ≡ Some (Sends t) → t.work ≡ s.work
    closer true w h = absurd (waits (same_some h))
    closer false w h = absurd (none h)

    address : (b : Bool) (u : Sequence) → u.work ≡ s.work → cond b (Some (Sends u)) None ≡ Some (Sends t) → t.work ≡ s.work
    address true u e h = ap (λ (x : Sequence). x.work) (sym (sends_same (same_some h))) ∙ e
    address false u e h = absurd (none h)

    by_kind : (kind : Kind) → by_cycle (Sends s) kind c.byte ≡ Some (Sends t) → t.work ≡ s.work
    by_kind Cmd h = closer (c.byte == closer_for s.work) s.work h
    by_kind Adr h = address (s.inputs == 0 && ltb (length s.addresses) 5) (record s { addresses = s.addresses ++ (c.byte ∷ []) }) refl h
    by_kind Din h = ap (λ (x : Sequence). x.work) (sym (sends_same (same_some h)))
    by_kind Dout h = absurd (none h)

    at : (b : Bool) → cond b (by_cycle (Sends s) c.kind c.byte) (Some (Sends s)) ≡ Some (Sends t) → t.work ≡ s.work
    at true h = by_kind c.kind h
    at false h = ap (λ (x : Sequence). x.work) (sym (sends_same (same_some h)))

pub whole_work : (ce : ℕ) (items : List Item) (s : Sequence) → (whole ce items s).work ≡ s.work
whole_work ce [] s = refl
whole_work ce (i ∷ items) s = at (doing_after ce i (Sends s)) refl (λ t. whole_work ce items t)
  where
    at : (x : Option Doing) → doing_after ce i (Sends s) ≡ x → ((t : Sequence) → (whole ce items t).work ≡ t.work) → (whole_on x (whole ce items) s).work ≡ s.work
    at None e rest = refl
    at (Some Rests) e rest = refl
    at (Some (Sends t)) e rest = rest t ∙ sends_work ce i s t e
    at (Some (Waits w)) e rest = refl
    at (Some (Asks w)) e rest = refl
    at (Some Sees) e rest = refl

-- ---- an operation, and what was sent of it

pub record IsOpen (s : Sequence) (o : Operation) : Type 0 where
  pub closer : o.closer ≡ None
  pub addresses : take o.address_count o.addresses ≡ s.addresses
  pub count : o.address_count ≡ length s.addresses
  pub long : length o.addresses ≡ 5
  pub inputs : o.inputs ≡ s.inputs
  pub addressed : o.is_addressed ≡ (s.inputs == 0)

pub record IsWhole (s : Sequence) (o : Operation) : Type 0 where
  pub closer : o.closer ≡ Some (closer_for s.work)
  pub addresses : take o.address_count o.addresses ≡ s.addresses
  pub inputs : o.inputs ≡ s.inputs

-- the same, where nothing of it is changed
pub record HasSame (old new : Operation) : Type 0 where
  pub closer : new.closer ≡ old.closer
  pub addresses : new.addresses ≡ old.addresses
  pub count : new.address_count ≡ old.address_count
  pub addressed : new.is_addressed ≡ old.is_addressed
  pub inputs : new.inputs ≡ old.inputs

same_taken : (old new : Operation) → HasSame old new → take new.address_count new.addresses ≡ take old.address_count old.addresses
same_taken old new h = ap (λ n. take n new.addresses) h.count ∙ ap (take old.address_count) h.addresses

pub open_same : (s : Sequence) (old new : Operation) → HasSame old new → IsOpen s old → IsOpen s new
open_same s old new h f = record {
  closer = h.closer ∙ f.closer;
  addresses = same_taken old new h ∙ f.addresses;
  count = h.count ∙ f.count;
  long = ap length h.addresses ∙ f.long;
  inputs = h.inputs ∙ f.inputs;
  addressed = h.addressed ∙ f.addressed;
}

pub whole_same : (s : Sequence) (old new : Operation) → HasSame old new → IsWhole s old → IsWhole s new
whole_same s old new h f = record { closer = h.closer ∙ f.closer; addresses = same_taken old new h ∙ f.addresses; inputs = h.inputs ∙ f.inputs }

-- an address more
abbrev pub addressed_more : Sequence → ℕ → Sequence
addressed_more s byte = record s { addresses = s.addresses ++ (byte ∷ []) }

-- an input more
abbrev pub input_more : Sequence → Sequence
input_more s = record s { inputs = one_more s.inputs }

take_set : (xs : List ℕ) (n y : ℕ) → n < length xs → take (suc n) (slice_set xs n y) ≡ take n xs ++ (y ∷ [])
take_set [] n y small = absurd (omega (arith, small))
take_set (x ∷ xs) zero y small = refl
take_set (x ∷ xs) (suc n) y small = ap (λ (ys : List ℕ). x ∷ ys) (take_set xs n y (omega (arith, small)))

one_suc : (n : ℕ) → n + 1 ≡ suc n
one_suc n = omega arith

chosen_true : {X : Type 0} (f : Operation → X) (b : Bool) (x y : Operation) → b ≡ true → f (cond b x y) ≡ f x
chosen_true f true x y h = refl
chosen_true f false x y h = cc

pub open_address : (s : Sequence) (n byte : ℕ) (said : Verdict) → (s.inputs == 0 && ltb (length s.addresses) 5) ≡ true → (o : Operation) → IsOpen s o → IsOpen (addressed_more s byte) (changed (Cycle n Adr byte said) o)
open_address s n byte said room o f = record {
  closer = chosen_true (λ (z : Operation). z.closer) (takes_address o) _ o takes ∙ f.closer;
  addresses =
      chosen_true (λ (z : Operation). take z.address_count z.addresses) (takes_address o) _ o takes
      ∙ ap (λ m. take m (slice_set o.addresses o.address_count byte)) (one_suc o.address_count)
      ∙ take_set o.addresses o.address_count byte (let few = ltb-true o.address_count 5 (ap (λ m. ltb m 5) f.count ∙ parts.1) in let long = f.long in omega (arith, few, long))
      ∙ ap (λ (xs : List ℕ). xs ++ (byte ∷ [])) f.addresses;
  count =
      chosen_true (λ (z : Operation). z.address_count) (takes_address o) _ o takes
      ∙ (let same = f.count in let more = length-append s.addresses (byte ∷ []) in omega (arith, same, more));
  long = chosen_true (λ (z : Operation). length z.addresses) (takes_address o) _ o takes ∙ length-set o.addresses o.address_count byte ∙ f.long;
  inputs = chosen_true (λ (z : Operation). z.inputs) (takes_address o) _ o takes ∙ f.inputs;
  addressed = chosen_true (λ (z : Operation). z.is_addressed) (takes_address o) _ o takes ∙ f.addressed;
}
  where
    parts : ((s.inputs == 0) ≡ true) × (ltb (length s.addresses) 5 ≡ true)
    parts = and_parts (s.inputs == 0) (ltb (length s.addresses) 5) room

    takes : takes_address o ≡ true
    takes = ap (λ b. b && ltb o.address_count 5) (f.addressed ∙ parts.0) ∙ ap (λ m. ltb m 5) f.count ∙ parts.1

some_inputs : (n : ℕ) → (one_more n == 0) ≡ false
some_inputs n = at (ltb n 18446744073709551615) refl
  where
    at : (b : Bool) → ltb n 18446744073709551615 ≡ b → (cond b (n + 1) n == 0) ≡ false
    at true e = ne_eqb (n + 1) 0 (λ h. omega (arith, h))
    at false e = ne_eqb n 0 (λ h. no (sym (ap (λ m. ltb m 18446744073709551615) h) ∙ e))
      where
        no : true ≡ false → ⊥
        no x = cc

pub open_input : (s : Sequence) (n byte : ℕ) (said : Verdict) (o : Operation) → IsOpen s o → IsOpen (input_more s) (changed (Cycle n Din byte said) o)
open_input s n byte said o f = record {
  closer = f.closer;
  addresses = f.addresses;
  count = f.count;
  long = f.long;
  inputs = ap one_more f.inputs;
  addressed = sym (some_inputs s.inputs);
}

kept_same : (old new : Operation) → IsKept old new → HasSame old new
kept_same old new kept = record { closer = kept.closer; addresses = kept.addresses; count = kept.count; addressed = kept.addressed; inputs = kept.inputs }

-- ---- what is known of each

-- the LUN works, or is about to, and no byte has said that it is over
abbrev pub is_unseen : Doing → Bool
is_unseen Rests = false
is_unseen (Sends sent) = true
is_unseen (Waits work) = true
is_unseen (Asks work) = true
is_unseen Sees = false

-- of each operation whether it is a work, and what is sent of it in all; the newest work has this number
pub record Fits (d : Doing) (ce at : ℕ) (items : List Item) (told : List (Option Sequence)) (k : ℕ) (o : Operation) : Type 0 where
  pub work : (s : Sequence) → slice_get told k ≡ Some (Some s) → (o.ce ≡ ce) × (o.beginning ≡ begins.Opener (opener_for s.work))
  pub closed : (s : Sequence) → slice_get told k ≡ Some (Some s) → (is_sending d ≡ true → k ≡ at → ⊥) → IsWhole s o
  pub part : o.ce ≡ ce → slice_get told k ≡ Some None → is_some o.parent ≡ true
  pub current : (s : Sequence) → d ≡ Sends s → k ≡ at → (slice_get told k ≡ Some (Some (whole ce items s))) × IsOpen s o
  pub unseen : is_unseen d ≡ true → k ≡ at → (o.ce ≡ ce) × (is_some o.status ≡ false)

pub fits_last : (d : Doing) (ce at : ℕ) (items : List Item) (told : List (Option Sequence)) → Lasts (Fits d ce at items told)
fits_last d ce at items told = record {
  on = λ k old new kept f. record {
    work = λ s t. (kept.ce ∙ (f.work s t).0, kept.beginning ∙ (f.work s t).1);
    closed = λ s t open'. whole_same s old new (kept_same old new kept) (f.closed s t open');
    part = λ own t. kept.part (f.part (sym kept.ce ∙ own) t);
    current = λ s e p. ((f.current s e p).0, open_same s old new (kept_same old new kept) (f.current s e p).1);
    unseen = λ u p. (kept.ce ∙ (f.unseen u p).0, ap (λ (x : Option ℕ). is_some x) kept.status ∙ (f.unseen u p).1);
  };
}

-- an item that isn't its own sends nothing
pub fits_skip : (d : Doing) (ce at : ℕ) (i : Item) (items : List Item) (told : List (Option Sequence)) → doing_after ce i d ≡ Some d → (k : ℕ) (o : Operation) → Fits d ce at (i ∷ items) told k o → Fits d ce at items told k o
fits_skip d ce at i items told h k o f = record {
  work = f.work;
  closed = f.closed;
  part = f.part;
  current = λ s e p. (
    (f.current s e p).0 ∙ ap (λ (x : Sequence). Some (Some x)) (whole_sends ce i items s s (ap (doing_after ce i) (sym e) ∙ h ∙ ap Some e)),
    (f.current s e p).1,
  );
  unseen = f.unseen;
}

-- ---- a status byte

chosen_false : {X : Type 0} (f : Operation → X) (b : Bool) (x y : Operation) → b ≡ false → f (cond b x y) ≡ f y
chosen_false f true x y h = cc
chosen_false f false x y h = refl

polled_as : {X : Type 0} (f : Operation → X) (n byte : ℕ) (o : Operation) → ((m : ℕ) (s last : Option ℕ) → f (record o { polls = m; status = s }) ≡ f o) →
    ((m : ℕ) (last : Option ℕ) → f (record o { polls = m; last_busy = last }) ≡ f o) → f (changed (Poll n byte) o) ≡ f o
polled_as f n byte o ready busy = by f (is_some o.status) o _ (f o) refl (by f (says_ready byte) _ _ (f o) (ready _ _ None) (busy _ _))

-- it leaves all but the status, and that too where it doesn't say ready
pub poll_kept : (n byte : ℕ) (o : Operation) → says_ready byte ≡ false → IsKept o (changed (Poll n byte) o)
poll_kept n byte o h = record {
  ce = polled_as (λ (z : Operation). z.ce) n byte o (λ m s l. refl) (λ m l. refl);
  beginning = polled_as (λ (z : Operation). z.beginning) n byte o (λ m s l. refl) (λ m l. refl);
  closer = polled_as (λ (z : Operation). z.closer) n byte o (λ m s l. refl) (λ m l. refl);
  addresses = polled_as (λ (z : Operation). z.addresses) n byte o (λ m s l. refl) (λ m l. refl);
  count = polled_as (λ (z : Operation). z.address_count) n byte o (λ m s l. refl) (λ m l. refl);
  addressed = polled_as (λ (z : Operation). z.is_addressed) n byte o (λ m s l. refl) (λ m l. refl);
  inputs = polled_as (λ (z : Operation). z.inputs) n byte o (λ m s l. refl) (λ m l. refl);
  status = by (λ (z : Operation). z.status) (is_some o.status) o _ o.status refl (chosen_false (λ (z : Operation). z.status) (says_ready byte) _ _ h);
  part = λ p. ap (λ (x : Option ℕ). is_some x) (polled_as (λ (z : Operation). z.parent) n byte o (λ m s l. refl) (λ m l. refl)) ∙ p;
}

-- where nothing is awaited it changes nothing that is told
pub fits_poll : (d : Doing) (ce at : ℕ) (items : List Item) (told : List (Option Sequence)) (k n byte : ℕ) (o : Operation) → is_unseen d ≡ false → Fits d ce at items told k o → Fits d ce at items told k (changed (Poll n byte) o)
fits_poll d ce at items told k n byte o seen f = record {
  work = λ s t. (own ∙ (f.work s t).0, polled_as (λ (z : Operation). z.beginning) n byte o (λ m s l. refl) (λ m l. refl) ∙ (f.work s t).1);
  closed = λ s t open'. whole_same s o (changed (Poll n byte) o) same (f.closed s t open');
  part = λ here t. ap (λ (x : Option ℕ). is_some x) (polled_as (λ (z : Operation). z.parent) n byte o (λ m s l. refl) (λ m l. refl)) ∙ f.part (sym own ∙ here) t;
  current = λ s e p. ((f.current s e p).0, open_same s o (changed (Poll n byte) o) same (f.current s e p).1);
  unseen = λ u p. absurd (no (sym u ∙ seen));
}
  where
    own : (changed (Poll n byte) o).ce ≡ o.ce
    own = polled_as (λ (z : Operation). z.ce) n byte o (λ m s l. refl) (λ m l. refl)

    same : HasSame o (changed (Poll n byte) o)
    same = record {
      closer = polled_as (λ (z : Operation). z.closer) n byte o (λ m s l. refl) (λ m l. refl);
      addresses = polled_as (λ (z : Operation). z.addresses) n byte o (λ m s l. refl) (λ m l. refl);
      count = polled_as (λ (z : Operation). z.address_count) n byte o (λ m s l. refl) (λ m l. refl);
      addressed = polled_as (λ (z : Operation). z.is_addressed) n byte o (λ m s l. refl) (λ m l. refl);
      inputs = polled_as (λ (z : Operation). z.inputs) n byte o (λ m s l. refl) (λ m l. refl);
    }

    no : true ≡ false → ⊥
    no e = cc

-- ---- an operation of another target

pub fits_far : (d : Doing) (ce at : ℕ) (items : List Item) (told : List (Option Sequence)) (k : ℕ) (old new : Operation) → (old.ce ≡ ce → ⊥) → new.ce ≡ old.ce → Fits d ce at items told k old → Fits d ce at items told k new
fits_far d ce at items told k old new far same f = record {
  work = λ w t. absurd (far (f.work w t).0);
  closed = λ w t open'. absurd (far (f.work w t).0);
  part = λ own t. absurd (far (sym same ∙ own));
  current = λ w e p. absurd (far (f.work (whole ce items w) (f.current w e p).0).0);
  unseen = λ u p. absurd (far (f.unseen u p).0);
}

-- ---- another state

-- the host has nothing to await
pub fits_seen : (d next : Doing) (ce at later : ℕ) (items rest : List Item) (told : List (Option Sequence)) → is_sending d ≡ false → is_unseen next ≡ false → is_sending next ≡ false → (k : ℕ) (o : Operation) →
    Fits d ce at items told k o → Fits next ce later rest told k o
fits_seen d next ce at later items rest told rests seen sent k o f = record {
  work = f.work;
  closed = λ s t open'. f.closed s t (λ e p. no (sym e ∙ rests));
  part = f.part;
  current = λ s e p. absurd (no (sym (ap is_sending e) ∙ sent));
  unseen = λ u p. absurd (no (sym u ∙ seen));
}
  where
    no : true ≡ false → ⊥
    no e = cc

-- the host goes on to wait
pub fits_asks : (d next : Doing) (ce at : ℕ) (items rest : List Item) (told : List (Option Sequence)) → is_sending d ≡ false → is_unseen d ≡ true → is_sending next ≡ false → (k : ℕ) (o : Operation) →
    Fits d ce at items told k o → Fits next ce at rest told k o
fits_asks d next ce at items rest told rests unseen sent k o f = record {
  work = f.work;
  closed = λ s t open'. f.closed s t (λ e p. no (sym e ∙ rests));
  part = f.part;
  current = λ s e p. absurd (no (sym (ap is_sending e) ∙ sent));
  unseen = λ u p. f.unseen unseen p;
}
  where
    no : true ≡ false → ⊥
    no e = cc

-- ---- one operation more

at_front : {X : Type 0} (xs more : List X) (k : ℕ) (y : X) → slice_get xs k ≡ Some y → slice_get (xs ++ more) k ≡ Some y
at_front [] more k y is = cc
at_front (x ∷ xs) more zero y is = is
at_front (x ∷ xs) more (suc k) y is = at_front xs more k y is

pub at_end : {X : Type 0} (xs : List X) (x : X) → slice_get (xs ++ (x ∷ [])) (length xs) ≡ Some x
at_end [] x = refl
at_end (y ∷ xs) x = at_end xs x

told_before : (told : List (Option Sequence)) (x : Option Sequence) (k : ℕ) (y : Option Sequence) → k < length told → slice_get (told ++ (x ∷ [])) k ≡ Some y → slice_get told k ≡ Some y
told_before told x k y small is = at (which told x k y is)
  where
    at : (slice_get told k ≡ Some y) ⊎ ((k ≡ length told) × (y ≡ x)) → slice_get told k ≡ Some y
    at (inl old) = old
    at (inr new) = absurd (let same = new.0 in omega (arith, same, small))

-- what was told of an operation is told of it
pub fits_more : (d : Doing) (ce at : ℕ) (items : List Item) (told : List (Option Sequence)) (x : Option Sequence) (k : ℕ) (o : Operation) → k < length told → Fits d ce at items told k o → Fits d ce at items (told ++ (x ∷ [])) k o
fits_more d ce at items told x k o small f = record {
  work = λ w t. f.work w (told_before told x k (Some w) small t);
  closed = λ w t open'. f.closed w (told_before told x k (Some w) small t) open';
  part = λ own t. f.part own (told_before told x k None small t);
  current = λ w e p. (at_front told (x ∷ []) k (Some (whole ce items w)) (f.current w e p).0, (f.current w e p).1);
  unseen = f.unseen;
}

pub told_last : (told : List (Option Sequence)) (x y : Option Sequence) (k : ℕ) → k ≡ length told → slice_get (told ++ (x ∷ [])) k ≡ Some y → y ≡ x
told_last told x y k same is = at (which told x k y is)
  where
    at : (slice_get told k ≡ Some y) ⊎ ((k ≡ length told) × (y ≡ x)) → y ≡ x
    at (inl old) = absurd (let small = slice_get_within told k y old in omega (arith, small, same))
    at (inr new) = new.1
