-- That of which an operation is a part began work, or gave data: it is never folded itself.
use Rattle.std.proofs.Common.{◌≡◌, ◌⊎◌, inl, inr, ℕ, zero, suc, ◌+◌, ◌<◌, ◌==◌, Bool, true, false, ◌&&◌, ◌||◌, not, cond, List, [], ◌∷◌, ◌++◌, Option, Some, None, is_some, refl, sym, ap, ◌∙◌, subst, arith, length, slice_set, eqb-true}
use Rattle.std.specs.Prelude.{slice_get}
use Rattle.std.specs.List.{All}
use Rattle.std.proofs.lemmas.Bool.{or_left, or_right}
use Rattle.std.proofs.lemmas.List.{length-append}
use Rattle.std.proofs.lemmas.List.Elements.{All-head, All-tail, All-set, All-weaker, All-replicate}
use Rattle.onfi_cycle.specs.declared.command.Command.{Command}
use Rattle.onfi_cycle.specs.declared.command.Command.TheVariants.{Read, ReadStatus}
use Rattle.onfi_cycle.specs.declared.item.Cycle.{Cycle as BusCycle}
use Rattle.onfi_cycle.specs.declared.item.Item.{Item}
use Rattle.onfi_cycle.specs.declared.item.Item.TheVariants.{Cyc, Rdy, Ard}
use Rattle.onfi_cycle.specs.declared.item.Kind.{Kind}
use Rattle.onfi_cycle.specs.declared.item.Kind.TheVariants.{Cmd, Adr, Din, Dout}
use Rattle.onfi_cycle.specs.declared.lun_state.LunState.{LunState}
use Rattle.onfi_cycle.specs.declared.register.Register.{Register}
use Rattle.onfi_cycle.specs.declared.register.Register.TheVariants.{Empty, Page, ParameterPage, Identifier, Identity, JedecIdentity, UniqueId, Features}
use Rattle.onfi_cycle.specs.declared.target_cycle.TargetCycle.TheVariants.{CommandCycle}
use Rattle.onfi_cycle.specs.Sequence.{target_of}
use Rattle.onfi_cycle.proofs.CommandBytes.{commands_have_bytes}
use Rattle.trace_faults.specs.Outside.{begins_alone}
use Rattle.trace_faults.specs.declared.readies.Readies.{Readies}
use Rattle.trace_faults.specs.Middle.{Seen, seen_after}
use Rattle.trace_ops.specs.declared.change.Change.{Change}
use Rattle.trace_ops.specs.declared.change.Change.TheVariants.{Opened, Cycle, LoneReady, End, Begin, Poll, Show, Hold, SetLun, Fold, Unfold}
use Rattle.trace_ops.specs.declared.judged.Judged.{Judged}
use Rattle.trace_ops.specs.declared.operation.Beginning.{Beginning}
use Rattle.trace_ops.specs.declared.operation.Beginning.TheVariants as begins
use Rattle.trace_ops.specs.declared.operation.Ending.TheVariants as ends
use Rattle.trace_ops.specs.declared.operation.Operation.{Operation}
use Rattle.trace_ops.specs.declared.places.Places.{Places}
use Rattle.trace_ops.specs.declared.role.Role.{Role}
use Rattle.trace_ops.specs.declared.role.Role.TheVariants as role
use Rattle.trace_ops.specs.Operation.{begun, opener_of, is_byte, is_permitted, takes_address, with_byte, says_ready, changed, changed_by, changed_at, is_folded}
use Rattle.trace_ops.specs.Laws.{HasLine}
use Rattle.trace_ops.specs.Listing.{Listing, nobody, found, lun_place, worker, giver, op_of, cycle_owner, owner_of, either_of, begins_one, new_by_command, new_one, number_of, with_new, is_new_opener, change_of, unfolded, gives_data, gives_status, look_at, begins_by, begins_foreign, starts_on, abandoned_by, begun_on, all_begun, role_of_command, role_of_address, role_of_kind, role_by, is_unshown, folded_into, folded_if, held_in, held_by, selected_by, selected_on, all_selected, with_ends, with_polls, owner_in, mark_in, listed, judged_as, ops_from, opens_alone}
use Rattle.trace_ops.proofs.Quiet.{is_quiet, is_plain, plain_ends, plain_unfold, plain_polls, plain_ready, by_begin, by_begins, by_select}
use Rattle.trace_ops.proofs.Changed.{by, put, there, length_changed}
use Rattle.trace_ops.proofs.Spans.{same_some, which}
use Rattle.trace_ops.proofs.Within.{AreWithin}
use Rattle.trace_ops.proofs.Walks.{came, length_new, length_came, length_ends, mark_new, within_listed}
use Rattle.trace_ops.proofs.Contents.{closer_by, opener_begins, closes_none}
use Rattle.trace_ops.proofs.HeldReads.{Kept, kept_of}
use Rattle.trace_ops.proofs.Pieces.{Each, Awaited, closer_of_kind, closer_with, each_quiet, each_came, kept_beginning}

-- ---- what is never folded

-- it asks for a status, or goes back to the data
abbrev asks_by : Option ℕ → Bool
asks_by opener = is_byte opener 0x70 || (is_byte opener 0x78 || is_byte opener 0x00)

abbrev asks : Beginning → Bool
asks b = asks_by (opener_of b)

-- it began work, or has a command more, or is no question
abbrev is_main : Operation → Bool
is_main o = is_some o.start || (is_some o.closer || not (asks o.beginning))

abbrev Main : List Operation → ℕ → Type 0
Main ops k = (k < length ops) × ((o : Operation) → slice_get ops k ≡ Some o → is_main o ≡ true)

abbrev OnMain : List Operation → Option ℕ → Type 0
OnMain ops None = Unit {0}
OnMain ops (Some k) = Main ops k

pub record Sound (p : Places) (ops : List Operation) : Type 0 where
  pub parents : (k : ℕ) (o : Operation) (m : ℕ) → slice_get ops k ≡ Some o → o.parent ≡ Some m → Main ops m × (asks o.beginning ≡ true)
  pub workers : All (OnMain ops) p.workers
  pub givers : All (OnMain ops) p.givers

-- ---- a change

or_third : (a b : Bool) (x y : Bool) → (a ≡ true → x ≡ true) → (b ≡ true → y ≡ true) → (c : Bool) → (a || (b || c)) ≡ true → (x || (y || c)) ≡ true
or_third true b true y f g c h = refl
or_third true b false y f g c h = (let e = f refl in cc)
or_third false true true y f g c h = refl
or_third false true false true f g c h = refl
or_third false true false false f g c h = (let e = g refl in cc)
or_third false false true y f g true h = refl
or_third false false false true f g true h = refl
or_third false false false false f g true h = refl
or_third false false x y f g false h = cc

-- what was begun or closed stays so
stays_main : (o y : Operation) → (is_some o.start ≡ true → is_some y.start ≡ true) → (is_some o.closer ≡ true → is_some y.closer ≡ true) → y.beginning ≡ o.beginning → is_main o ≡ true → is_main y ≡ true
stays_main o y start closer same h =
    or_third (is_some o.start) (is_some o.closer) (is_some y.start) (is_some y.closer) start closer (not (asks y.beginning))
    (ap (λ (b : Beginning). is_some o.start || (is_some o.closer || not (asks b))) same ∙ h)

more_closer : (b : Bool) (x y : Option ℕ) → (is_some x ≡ true → b ≡ true) → is_some x ≡ true → is_some (cond b x y) ≡ true
more_closer true x y f h = h
more_closer false x y f h = (let e = f h in cc)

byte_start : (kind : Kind) (byte : ℕ) (o : Operation) → (with_byte kind byte o).start ≡ o.start
byte_start Cmd byte o = refl
byte_start Adr byte o = by (λ (z : Operation). z.start) (takes_address o) _ o o.start refl refl
byte_start Din byte o = refl
byte_start Dout byte o = refl

byte_closed : (kind : Kind) (byte : ℕ) (o : Operation) → is_some o.closer ≡ true → is_some (with_byte kind byte o).closer ≡ true
byte_closed Cmd byte o h = more_closer (is_some o.closer || (byte == 0x85 || is_byte (opener_of o.beginning) byte)) o.closer (Some byte) (λ e. or_left _ _ e) h
byte_closed Adr byte o h = ap (λ (x : Option ℕ). is_some x) (by (λ (z : Operation). z.closer) (takes_address o) _ o o.closer refl refl) ∙ h
byte_closed Din byte o h = h
byte_closed Dout byte o h = h

kept_start : (c : Change) (o : Operation) → is_some o.start ≡ true → is_some (changed c o).start ≡ true
kept_start (Opened n said) o h = h
kept_start (Cycle n kind byte said) o h = ap (λ (x : Option ℕ). is_some x) (byte_start kind byte o) ∙ h
kept_start (LoneReady n said) o h = h
kept_start (End e) o h = ap (λ (x : Option ℕ). is_some x) (by (λ (z : Operation). z.start) (is_some o.end) o _ o.start refl refl) ∙ h
kept_start (Begin n lun) o h = refl
kept_start (Poll n byte) o h =
    ap (λ (x : Option ℕ). is_some x) (by (λ (z : Operation). z.start) (is_some o.status) o _ o.start refl (by (λ (z : Operation). z.start) (says_ready byte) _ _ o.start refl refl)) ∙ h
kept_start (Show byte) o h = h
kept_start (Hold page) o h = h
kept_start (SetLun lun) o h = h
kept_start (Fold parent) o h = h
kept_start Unfold o h = h

kept_closed : (c : Change) (o : Operation) → is_some o.closer ≡ true → is_some (changed c o).closer ≡ true
kept_closed (Opened n said) o h = h
kept_closed (Cycle n kind byte said) o h = byte_closed kind byte o h
kept_closed (LoneReady n said) o h = h
kept_closed (End e) o h = ap (λ (x : Option ℕ). is_some x) (by (λ (z : Operation). z.closer) (is_some o.end) o _ o.closer refl refl) ∙ h
kept_closed (Begin n lun) o h = h
kept_closed (Poll n byte) o h =
    ap (λ (x : Option ℕ). is_some x) (by (λ (z : Operation). z.closer) (is_some o.status) o _ o.closer refl (by (λ (z : Operation). z.closer) (says_ready byte) _ _ o.closer refl refl)) ∙ h
kept_closed (Show byte) o h = h
kept_closed (Hold page) o h = h
kept_closed (SetLun lun) o h = h
kept_closed (Fold parent) o h = h
kept_closed Unfold o h = h

main_at : (ops : List Operation) (m k : ℕ) (c : Change) → Main ops k → Main (changed_at m c ops) k
main_at ops m k c main = ((let long = length_changed m c ops in let small = main.0 in omega (arith, long, small)), at (slice_get ops m) refl)
  where
    at : (o : Option Operation) → slice_get ops m ≡ o → (w : Operation) → slice_get (changed_by o c ops m) k ≡ Some w → is_main w ≡ true
    at None h w is = main.1 w is
    at (Some o) h w is = by_place (put ops m k (changed c o) w is)
      where
        by_place : ((k ≡ m) × (w ≡ changed c o)) ⊎ ((k ≡ m → ⊥) × (slice_get ops k ≡ Some w)) → is_main w ≡ true
        by_place (inl both) = ap is_main both.1 ∙ stays_main o (changed c o) (kept_start c o) (kept_closed c o) (kept_beginning c o) (main.1 o (ap (slice_get ops) both.0 ∙ h))
        by_place (inr old) = main.1 w old.1

on_main : (ops : List Operation) (m : ℕ) (c : Change) (x : Option ℕ) → OnMain ops x → OnMain (changed_at m c ops) x
on_main ops m c None h = tt
on_main ops m c (Some k) h = main_at ops m k c h

all_main : (ops : List Operation) (m : ℕ) (c : Change) (xs : List (Option ℕ)) → All (OnMain ops) xs → All (OnMain (changed_at m c ops)) xs
all_main ops m c xs all = All-weaker (OnMain ops) (OnMain (changed_at m c ops)) (on_main ops m c) xs all

-- a change that folds nothing
abbrev folds : Change → Bool
folds (Opened n said) = false
folds (Cycle n kind byte said) = false
folds (LoneReady n said) = false
folds (End e) = false
folds (Begin n lun) = false
folds (Poll n byte) = false
folds (Show byte) = false
folds (Hold page) = false
folds (SetLun lun) = false
folds (Fold parent) = true
folds Unfold = false

plain_folds_none : (c : Change) → is_plain c ≡ true → folds c ≡ false
plain_folds_none (Opened n said) h = refl
plain_folds_none (Cycle n kind byte said) h = refl
plain_folds_none (LoneReady n said) h = refl
plain_folds_none (End e) h = refl
plain_folds_none (Begin n lun) h = refl
plain_folds_none (Poll n byte) h = refl
plain_folds_none (Show byte) h = refl
plain_folds_none (Hold page) h = refl
plain_folds_none (SetLun lun) h = refl
plain_folds_none (Fold parent) h = cc
plain_folds_none Unfold h = refl

byte_parent : (kind : Kind) (byte : ℕ) (o : Operation) → (with_byte kind byte o).parent ≡ o.parent
byte_parent Cmd byte o = refl
byte_parent Adr byte o = by (λ (z : Operation). z.parent) (takes_address o) _ o o.parent refl refl
byte_parent Din byte o = refl
byte_parent Dout byte o = refl

old_parent : (c : Change) (o : Operation) (m : ℕ) → folds c ≡ false → (changed c o).parent ≡ Some m → o.parent ≡ Some m
old_parent (Opened n said) o m f h = h
old_parent (Cycle n kind byte said) o m f h = sym (byte_parent kind byte o) ∙ h
old_parent (LoneReady n said) o m f h = h
old_parent (End e) o m f h = sym (by (λ (z : Operation). z.parent) (is_some o.end) o _ o.parent refl refl) ∙ h
old_parent (Begin n lun) o m f h = h
old_parent (Poll n byte) o m f h =
    sym (by (λ (z : Operation). z.parent) (is_some o.status) o _ o.parent refl (by (λ (z : Operation). z.parent) (says_ready byte) _ _ o.parent refl refl)) ∙ h
old_parent (Show byte) o m f h = h
old_parent (Hold page) o m f h = h
old_parent (SetLun lun) o m f h = h
old_parent (Fold parent) o m f h = cc
old_parent Unfold o m f h = cc

sound_at : (p : Places) (m : ℕ) (c : Change) (ops : List Operation) → folds c ≡ false → Sound p ops → Sound p (changed_at m c ops)
sound_at p m c ops plain sound = record {
  parents = λ k o parent is h. at (slice_get ops m) refl k o parent is h;
  workers = all_main ops m c p.workers sound.workers;
  givers = all_main ops m c p.givers sound.givers;
}
  where
    at : (x : Option Operation) → slice_get ops m ≡ x → (k : ℕ) (w : Operation) (parent : ℕ) → slice_get (changed_by x c ops m) k ≡ Some w → w.parent ≡ Some parent →
        Main (changed_at m c ops) parent × (asks w.beginning ≡ true)
    at None e k w parent is h = (main_at ops m parent c (sound.parents k w parent is h).0, (sound.parents k w parent is h).1)
    at (Some o) e k w parent is h = by_place (put ops m k (changed c o) w is)
      where
        by_place : ((k ≡ m) × (w ≡ changed c o)) ⊎ ((k ≡ m → ⊥) × (slice_get ops k ≡ Some w)) → Main (changed_at m c ops) parent × (asks w.beginning ≡ true)
        by_place (inl both) =
            let old = sound.parents m o parent e (old_parent c o parent plain (sym (ap (λ (z : Operation). z.parent) both.1) ∙ h)) in
            (main_at ops m parent c old.0, ap (λ (z : Operation). asks z.beginning) both.1 ∙ ap asks (kept_beginning c o) ∙ old.1)
        by_place (inr old) = (let was = sound.parents k w parent old.1 h in (main_at ops m parent c was.0, was.1))

-- an operation that asks becomes a part of a main one
sound_fold : (p : Places) (ops : List Operation) (k parent : ℕ) → Main ops parent → ((o : Operation) → slice_get ops k ≡ Some o → asks o.beginning ≡ true) → Sound p ops →
    Sound p (changed_at k (Fold parent) ops)
sound_fold p ops k parent main asking sound = record {
  parents = λ n o m is h. at (slice_get ops k) refl n o m is h;
  workers = all_main ops k (Fold parent) p.workers sound.workers;
  givers = all_main ops k (Fold parent) p.givers sound.givers;
}
  where
    at : (x : Option Operation) → slice_get ops k ≡ x → (n : ℕ) (w : Operation) (m : ℕ) → slice_get (changed_by x (Fold parent) ops k) n ≡ Some w → w.parent ≡ Some m →
        Main (changed_at k (Fold parent) ops) m × (asks w.beginning ≡ true)
    at None e n w m is h = (main_at ops k m (Fold parent) (sound.parents n w m is h).0, (sound.parents n w m is h).1)
    at (Some o) e n w m is h = by_place (put ops k n (changed (Fold parent) o) w is)
      where
        by_place : ((n ≡ k) × (w ≡ changed (Fold parent) o)) ⊎ ((n ≡ k → ⊥) × (slice_get ops n ≡ Some w)) → Main (changed_at k (Fold parent) ops) m × (asks w.beginning ≡ true)
        by_place (inl both) =
            let same : parent ≡ m = same_some (sym (ap (λ (z : Operation). z.parent) both.1) ∙ h) in
            (subst (λ (x : ℕ). Main (changed_at k (Fold parent) ops) x) same (main_at ops k parent (Fold parent) main), ap (λ (z : Operation). asks z.beginning) both.1 ∙ asking o e)
        by_place (inr old) = (let was = sound.parents n w m old.1 h in (main_at ops k m (Fold parent) was.0, was.1))

-- ---- an operation more

main_more : (ops more : List Operation) (k : ℕ) → Main ops k → ((o : Operation) → slice_get (ops ++ more) k ≡ Some o → slice_get ops k ≡ Some o) → Main (ops ++ more) k
main_more ops more k main old = ((let long = length-append ops more in let small = main.0 in omega (arith, long, small)), (λ o h. main.1 o (old o h)))

old_place : (ops : List Operation) (x : Operation) (k : ℕ) → k < length ops → (o : Operation) → slice_get (ops ++ (x ∷ [])) k ≡ Some o → slice_get ops k ≡ Some o
old_place ops x k lt o h = at (which ops x k o h)
  where
    at : (slice_get ops k ≡ Some o) ⊎ ((k ≡ length ops) × (o ≡ x)) → slice_get ops k ≡ Some o
    at (inl old) = old
    at (inr new) = absurd (let e = new.0 in omega (arith, e, lt))

main_append : (ops : List Operation) (x : Operation) (k : ℕ) → Main ops k → Main (ops ++ (x ∷ [])) k
main_append ops x k main = main_more ops (x ∷ []) k main (old_place ops x k main.0)

on_append : (ops : List Operation) (x : Operation) (m : Option ℕ) → OnMain ops m → OnMain (ops ++ (x ∷ [])) m
on_append ops x None h = tt
on_append ops x (Some k) h = main_append ops x k h

pub new_parent : (j : Judged) (newest : Option Operation) (i : Item) → (new_one j newest i).parent ≡ None
new_parent j newest (Cyc c) = at c.kind
  where
    at : (kind : Kind) → (new_by_command j newest c kind).parent ≡ None
    at Cmd = by (λ (z : Operation). z.parent) (begins_one newest c.byte) _ _ None refl refl
    at Adr = refl
    at Din = refl
    at Dout = refl
new_parent j newest (Rdy ce lun fail) = refl
new_parent j newest (Ard ce lun fail) = refl

sound_append : (p : Places) (ops : List Operation) (x : Operation) → x.parent ≡ None → Sound p ops → Sound p (ops ++ (x ∷ []))
sound_append p ops x orphan sound = record {
  parents = λ k o m is h. at k o m h (which ops x k o is);
  workers = All-weaker (OnMain ops) (OnMain (ops ++ (x ∷ []))) (on_append ops x) p.workers sound.workers;
  givers = All-weaker (OnMain ops) (OnMain (ops ++ (x ∷ []))) (on_append ops x) p.givers sound.givers;
}
  where
    at : (k : ℕ) (o : Operation) (m : ℕ) → o.parent ≡ Some m → (slice_get ops k ≡ Some o) ⊎ ((k ≡ length ops) × (o ≡ x)) → Main (ops ++ (x ∷ [])) m × (asks o.beginning ≡ true)
    at k o m h (inl old) = (let was = sound.parents k o m old h in (main_append ops x m was.0, was.1))
    at k o m h (inr new) = absurd (none (sym orphan ∙ ap (λ (z : Operation). z.parent) (sym new.1) ∙ h))
      where
        none : None ≡ Some m → ⊥
        none e = cc

-- the same with other newest ones
sound_places : (p q : Places) (ops : List Operation) → q.workers ≡ p.workers → q.givers ≡ p.givers → Sound p ops → Sound q ops
sound_places p q ops w g sound = record {
  parents = sound.parents;
  workers = subst (λ (xs : List (Option ℕ)). All (OnMain ops) xs) (sym w) sound.workers;
  givers = subst (λ (xs : List (Option ℕ)). All (OnMain ops) xs) (sym g) sound.givers;
}

sound_new : (owner : Option ℕ) (j : Judged) (l : Listing) → Sound l.places l.ops → Sound (with_new owner j l).places (with_new owner j l).ops
sound_new None j l sound =
    sound_places l.places (with_new None j l).places (with_new None j l).ops refl refl (sound_append l.places l.ops _ (new_parent j (op_of l.ops (found l.places.newest j.ce)) j.item) sound)
sound_new (Some k) j l sound = sound

-- ---- the item comes

loud_folds_none : (owner : Option ℕ) (j : Judged) (i : Item) → folds (change_of owner j i) ≡ false
loud_folds_none owner j (Cyc c) = at (is_new_opener owner j c.kind)
  where
    at : (b : Bool) → folds (cond b (Opened j.number j.said) (Cycle j.number c.kind c.byte j.said)) ≡ false
    at true = refl
    at false = refl
loud_folds_none owner j (Rdy ce lun fail) = refl
loud_folds_none owner j (Ard ce lun fail) = refl

plainly_sound : (p : Places) (k : ℕ) (c : Change) (ops : List Operation) → is_plain c ≡ true → Sound p ops → Sound p (changed_at k c ops)
plainly_sound p k c ops plain sound = sound_at p k c ops (plain_folds_none c plain) sound

sound_came : (j : Judged) (l : Listing) → Sound l.places l.ops → Sound (came j l).places (came j l).ops
sound_came j l sound =
    let e = with_ends j l in
    let owner = owner_in j e in
    let mark = mark_in j e in
    let new = with_new owner j e in
    let ended : Sound l.places e.ops = plain_ends (Sound l.places) (plainly_sound l.places) j l.places l.ops sound in
    let fresh : Sound new.places new.ops = sound_new owner j e ended in
    let open' : Sound new.places (unfolded j mark new.ops) = plain_unfold (Sound new.places) (plainly_sound new.places) j mark new.ops fresh in
    sound_at new.places mark (change_of owner j j.item) (unfolded j mark new.ops) (loud_folds_none owner j j.item) open'

-- ---- the beginning of work

begin_main : (ops : List Operation) (k n lun : ℕ) → k < length ops → Main (changed_at k (Begin n lun) ops) k
begin_main ops k n lun lt = ((let long = length_changed k (Begin n lun) ops in omega (arith, long, lt)), at (slice_get ops k) refl)
  where
    at : (o : Option Operation) → slice_get ops k ≡ o → (w : Operation) → slice_get (changed_by o (Begin n lun) ops k) k ≡ Some w → is_main w ≡ true
    at None h w is = absurd (none (sym h ∙ is))
      where
        none : None ≡ Some w → ⊥
        none e = cc
    at (Some o) h w is = by_place (put ops k k (changed (Begin n lun) o) w is)
      where
        by_place : ((k ≡ k) × (w ≡ changed (Begin n lun) o)) ⊎ ((k ≡ k → ⊥) × (slice_get ops k ≡ Some w)) → is_main w ≡ true
        by_place (inl both) = ap is_main both.1
        by_place (inr old) = absurd (old.0 refl)

begin_long : (j : Judged) (k lun n : ℕ) (l : Listing) → length l.ops ≡ n → length (begun_on j k lun l).ops ≡ n
begin_long j k lun n l h = by_begin (λ ops. length ops ≡ n) (λ m c ops quiet p. length_changed m c ops ∙ p) j k lun l h

abandon_long : (j : Judged) (k : ℕ) (w : Option ℕ) (ops : List Operation) → length (abandoned_by j k w ops) ≡ length ops
abandon_long j k None ops = refl
abandon_long j k (Some old) ops = at (old == k)
  where
    at : (b : Bool) → length (cond b ops (changed_at old (End (ends.Abandoned j.number)) ops)) ≡ length ops
    at true = refl
    at false = length_changed old (End (ends.Abandoned j.number)) ops

sound_abandon : (p : Places) (j : Judged) (k : ℕ) (w : Option ℕ) (ops : List Operation) → Sound p ops → Sound p (abandoned_by j k w ops)
sound_abandon p j k None ops sound = sound
sound_abandon p j k (Some old) ops sound = at (old == k)
  where
    at : (b : Bool) → Sound p (cond b ops (changed_at old (End (ends.Abandoned j.number)) ops))
    at true = sound
    at false = sound_at p old (End (ends.Abandoned j.number)) ops refl sound

sound_begin : (j : Judged) (k lun : ℕ) (l : Listing) → k < length l.ops → Sound l.places l.ops → Sound (begun_on j k lun l).places (begun_on j k lun l).ops
sound_begin j k lun l lt sound = at (starts_on j lun k l.ops)
  where
    after : Sound l.places (changed_at k (Begin j.number lun) (abandoned_by j k (worker l.places j.ce lun) l.ops))
    after = sound_at l.places k (Begin j.number lun) _ refl (sound_abandon l.places j k (worker l.places j.ce lun) l.ops sound)

    main : Main (changed_at k (Begin j.number lun) (abandoned_by j k (worker l.places j.ce lun) l.ops)) k
    main = begin_main _ k j.number lun (let long = abandon_long j k (worker l.places j.ce lun) l.ops in omega (arith, long, lt))

    at : (b : Bool) →
        Sound (cond b (record {
          places = record l.places { workers = slice_set l.places.workers (lun_place j.ce lun) (Some k) };
          ops = changed_at k (Begin j.number lun) (abandoned_by j k (worker l.places j.ce lun) l.ops);
        }) l).places
        (cond b (record {
          places = record l.places { workers = slice_set l.places.workers (lun_place j.ce lun) (Some k) };
          ops = changed_at k (Begin j.number lun) (abandoned_by j k (worker l.places j.ce lun) l.ops);
        }) l).ops
    at true = record {
      parents = after.parents;
      workers = All-set (OnMain (changed_at k (Begin j.number lun) (abandoned_by j k (worker l.places j.ce lun) l.ops))) l.places.workers (lun_place j.ce lun) (Some k) main after.workers;
      givers = after.givers;
    }
    at false = sound

sound_begins : (j : Judged) (k : ℕ) (l : Listing) → k < length l.ops → Sound l.places l.ops → Sound (all_begun j k l).places (all_begun j k l).ops
sound_begins j k l lt sound =
    let one = begun_on j k 0 l in
    let two = begun_on j k 1 one in
    let three = begun_on j k 2 two in
    let a = begin_long j k 0 (length l.ops) l refl in
    let b = begin_long j k 1 (length l.ops) one a in
    let c = begin_long j k 2 (length l.ops) two b in
    sound_begin j k 3 three (omega (arith, c, lt)) (sound_begin j k 2 two (omega (arith, b, lt)) (sound_begin j k 1 one (omega (arith, a, lt)) (sound_begin j k 0 l lt sound)))

-- an operation that began work by this item is a main one
began_main : (j : Judged) (k lun : ℕ) (l : Listing) → begins_by j j.item lun ≡ true → k < length l.ops → Main (begun_on j k lun l).ops k
began_main j k lun l h lt = at (starts_on j lun k l.ops) (or_left (begins_by j j.item lun) (begins_foreign j lun (slice_get l.ops k)) h)
  where
    at : (b : Bool) → b ≡ true →
        Main (cond b (record {
          places = record l.places { workers = slice_set l.places.workers (lun_place j.ce lun) (Some k) };
          ops = changed_at k (Begin j.number lun) (abandoned_by j k (worker l.places j.ce lun) l.ops);
        }) l).ops k
    at true e = begin_main _ k j.number lun (let long = abandon_long j k (worker l.places j.ce lun) l.ops in omega (arith, long, lt))
    at false e = cc

-- whichever of the four LUNs it is
pub record Began (j : Judged) (k : ℕ) (ops : List Operation) : Type 0 where
  pub zeroth : begins_by j j.item 0 ≡ true → Main ops k
  pub first : begins_by j j.item 1 ≡ true → Main ops k
  pub second : begins_by j j.item 2 ≡ true → Main ops k
  pub third : begins_by j j.item 3 ≡ true → Main ops k

still_main : (k m : ℕ) (c : Change) (ops : List Operation) → is_plain c ≡ true → Main ops k → Main (changed_at m c ops) k
still_main k m c ops plain main = main_at ops m k c main

begin_keeps : (j : Judged) (k lun : ℕ) (l : Listing) → Main l.ops k → Main (begun_on j k lun l).ops k
begin_keeps j k lun l main = by_begin (λ ops. Main ops k) (still_main k) j k lun l main

all_began : (j : Judged) (k : ℕ) (l : Listing) → k < length l.ops → Began j k (all_begun j k l).ops
all_began j k l lt =
    let one = begun_on j k 0 l in
    let two = begun_on j k 1 one in
    let three = begun_on j k 2 two in
    let a = begin_long j k 0 (length l.ops) l refl in
    let b = begin_long j k 1 (length l.ops) one a in
    let c = begin_long j k 2 (length l.ops) two b in
    record {
      zeroth = λ h. begin_keeps j k 3 three (begin_keeps j k 2 two (begin_keeps j k 1 one (began_main j k 0 l h lt)));
      first = λ h. begin_keeps j k 3 three (begin_keeps j k 2 two (began_main j k 1 one h (omega (arith, a, lt))));
      second = λ h. begin_keeps j k 3 three (began_main j k 2 two h (omega (arith, b, lt)));
      third = λ h. began_main j k 3 three h (omega (arith, c, lt));
    }

-- ---- what it selects

abbrev Asking : List Operation → ℕ → Type 0
Asking ops k = (o : Operation) → slice_get ops k ≡ Some o → asks o.beginning ≡ true

asking_at : (ops : List Operation) (m k : ℕ) (c : Change) → Asking ops k → Asking (changed_at m c ops) k
asking_at ops m k c asking = at (slice_get ops m) refl
  where
    at : (x : Option Operation) → slice_get ops m ≡ x → (w : Operation) → slice_get (changed_by x c ops m) k ≡ Some w → asks w.beginning ≡ true
    at None h w is = asking w is
    at (Some o) h w is = by_place (put ops m k (changed c o) w is)
      where
        by_place : ((k ≡ m) × (w ≡ changed c o)) ⊎ ((k ≡ m → ⊥) × (slice_get ops k ≡ Some w)) → asks w.beginning ≡ true
        by_place (inl both) = ap (λ (z : Operation). asks z.beginning) both.1 ∙ ap asks (kept_beginning c o) ∙ asking o (ap (slice_get ops) both.0 ∙ h)
        by_place (inr old) = asking w old.1

-- what an operation has to be, to take this role
abbrev RoleFits : Role → List Operation → ℕ → Type 0
RoleFits role.Nothing ops k = Unit {0}
RoleFits role.Asks ops k = Asking ops k
RoleFits role.Gives ops k = Main ops k
RoleFits role.Holds ops k = Main ops k
RoleFits role.Returns ops k = Asking ops k

found_main : (ops : List Operation) (xs : List (Option ℕ)) (a : ℕ) → All (OnMain ops) xs → OnMain ops (found xs a)
found_main ops [] a all = tt
found_main ops (x ∷ xs) zero all = All-head (OnMain ops) x xs all
found_main ops (x ∷ xs) (suc a) all = found_main ops xs a (All-tail (OnMain ops) x xs all)

sound_into : (p : Places) (ops : List Operation) (k : ℕ) (parent : Option ℕ) → OnMain ops parent → Asking ops k → Sound p ops → Sound p (folded_into k parent ops)
sound_into p ops k None main asking sound = sound
sound_into p ops k (Some parent) main asking sound = at (parent == k)
  where
    at : (b : Bool) → Sound p (cond b ops (changed_at k (Fold parent) ops))
    at true = sound
    at false = sound_fold p ops k parent main asking sound

sound_if : (b : Bool) (p : Places) (ops : List Operation) (k : ℕ) (parent : Option ℕ) → OnMain ops parent → Asking ops k → Sound p ops → Sound p (folded_if b k parent ops)
sound_if true p ops k parent main asking sound = sound_into p ops k parent main asking sound
sound_if false p ops k parent main asking sound = sound

either_main : (ops : List Operation) (x y : Option ℕ) → OnMain ops x → OnMain ops y → OnMain ops (either_of x y)
either_main ops None y p q = q
either_main ops (Some k) y p q = p

-- a property that a change of this kind keeps
held_keeps : (P : List Operation → Type 0) (k : ℕ) → ((at : _) (ops : List Operation) → P ops → P (changed_at k (Hold at) ops)) → (look : Option LunState) (ops : List Operation) → P ops → P (held_by look k ops)
held_keeps P k step None ops p = p
held_keeps P k step (Some lun) ops p = by_register lun.register
  where
    by_register : (r : Register) → P (held_in r k ops)
    by_register Empty = p
    by_register (Page at) = step at ops p
    by_register ParameterPage = p
    by_register Identifier = p
    by_register Identity = p
    by_register JedecIdentity = p
    by_register UniqueId = p
    by_register (Features address) = p

sound_role : (r : Role) (j : Judged) (k lun : ℕ) (l : Listing) → RoleFits r l.ops k → Sound l.places l.ops → Sound (selected_by r j k lun l).places (selected_by r j k lun l).ops
sound_role role.Nothing j k lun l fits sound = sound
sound_role role.Asks j k lun l fits sound =
    let set = sound_at l.places k (SetLun lun) l.ops refl sound in
    let folded =
    sound_if (is_unshown (op_of l.ops (worker l.places j.ce lun))) l.places (changed_at k (SetLun lun) l.ops) k (worker l.places j.ce lun)
    (found_main (changed_at k (SetLun lun) l.ops) l.places.workers (lun_place j.ce lun) set.workers) (asking_at l.ops k k (SetLun lun) fits) set
    in
    sound_places l.places (selected_by role.Asks j k lun l).places (selected_by role.Asks j k lun l).ops refl refl folded
sound_role role.Gives j k lun l fits sound = record {
  parents = sound.parents;
  workers = sound.workers;
  givers = All-set (OnMain l.ops) l.places.givers (lun_place j.ce lun) (Some k) fits sound.givers;
}
sound_role role.Holds j k lun l fits sound =
    let ops = changed_at k (SetLun lun) l.ops in
    let set = sound_at l.places k (SetLun lun) l.ops refl sound in
    let held = held_keeps (Sound l.places) k (λ at os s. sound_at l.places k (Hold at) os refl s) (look_at j.after lun) ops set in
    let main = held_keeps (λ os. Main os k) k (λ at os m. main_at os k k (Hold at) m) (look_at j.after lun) ops (main_at l.ops k k (SetLun lun) fits) in
    record {
      parents = held.parents;
      workers = held.workers;
      givers = All-set (OnMain (held_by (look_at j.after lun) k ops)) l.places.givers (lun_place j.ce lun) (Some k) main held.givers;
    }
sound_role role.Returns j k lun l fits sound =
    let ops = changed_at k (SetLun lun) l.ops in
    let set = sound_at l.places k (SetLun lun) l.ops refl sound in
    sound_into l.places ops k (either_of (worker l.places j.ce lun) (giver l.places j.ce lun))
    (either_main ops (worker l.places j.ce lun) (giver l.places j.ce lun) (found_main ops l.places.workers (lun_place j.ce lun) set.workers) (found_main ops l.places.givers (lun_place j.ce lun) set.givers))
    (asking_at l.ops k k (SetLun lun) fits) set

-- ---- which role an item has

abbrev command_of_kind : Kind → ℕ → Option ℕ
command_of_kind Cmd byte = Some byte
command_of_kind Adr byte = None
command_of_kind Din byte = None
command_of_kind Dout byte = None

-- the command that an item is
abbrev command_of : Item → Option ℕ
command_of (Cyc c) = command_of_kind c.kind c.byte
command_of (Rdy ce lun fail) = None
command_of (Ard ce lun fail) = None

-- an opener that closes nothing
abbrev Alone : ℕ → Type 0
Alone byte = (opens_alone byte ≡ true) × ((byte == 0x31) ≡ false)

-- what is known of the operation to which an item came
pub record Context (j : Judged) (k : ℕ) (ops : List Operation) : Type 0 where
  pub small : k < length ops
  pub began : Began j k ops
  pub opener : (byte : ℕ) → command_of j.item ≡ Some byte → Alone byte → (o : Operation) → slice_get ops k ≡ Some o → o.beginning ≡ begins.Opener byte
  pub closer : command_of j.item ≡ Some 0xe0 → Main ops k

module _ (j : Judged) (k : ℕ) (ops : List Operation) (o : Operation) (is : slice_get ops k ≡ Some o) (small : k < length ops) where
  if_fits : (b : Bool) (x y : Role) → (b ≡ true → RoleFits x ops k) → (b ≡ false → RoleFits y ops k) → RoleFits (cond b x y) ops k
  if_fits true x y p q = p refl
  if_fits false x y p q = q refl

  same_one : (w : Operation) → slice_get ops k ≡ Some w → w ≡ o
  same_one w h = same_some (sym h ∙ is)

  asking_so : asks o.beginning ≡ true → Asking ops k
  asking_so h w there' = ap (λ (z : Operation). asks z.beginning) (same_one w there') ∙ h

  other_asks : (opener : Option ℕ) → (is_byte opener 0x90 || is_byte opener 0xec) ≡ true → asks_by opener ≡ false
  other_asks None h = cc
  other_asks (Some x) h = at (x == 0x90) refl h
    where
      at : (b : Bool) → (x == 0x90) ≡ b → (b || (x == 0xec)) ≡ true → asks_by (Some x) ≡ false
      at true e h = ap (λ n. asks_by (Some n)) (eqb-true x 0x90 e)
      at false e h = ap (λ n. asks_by (Some n)) (eqb-true x 0xec h)

  main_so : (is_some o.closer || not (asks o.beginning)) ≡ true → Main ops k
  main_so h = (small, (λ w there'. ap is_main (same_one w there') ∙ or_right (is_some o.start) _ h))

  module _ (opener : (byte : ℕ) → command_of j.item ≡ Some byte → Alone byte → (w : Operation) → slice_get ops k ≡ Some w → w.beginning ≡ begins.Opener byte)
      (closer : command_of j.item ≡ Some 0xe0 → Main ops k) where
    asks_so : (byte code : ℕ) → command_of j.item ≡ Some byte → asks (begins.Opener code) ≡ true → (byte == code) ≡ true → Alone byte → Asking ops k
    asks_so byte code cmd good e opens = asking_so (ap asks (opener byte cmd opens o is ∙ ap begins.Opener (eqb-true byte code e)) ∙ good)

    status_opens : (byte : ℕ) → (byte == 0x70) ≡ true → Alone byte
    status_opens byte e =
        let is = eqb-true byte 0x70 e in
        (ap (λ (x : Command). begins_alone (CommandCycle x)) (commands_have_bytes.command_of_byte ReadStatus byte (ap Some (sym is))), ap (λ n. n == 0x31) is)

    read_opens : (byte : ℕ) → (byte == 0x00) ≡ true → Alone byte
    read_opens byte e =
        let is = eqb-true byte 0x00 e in
        (ap (λ (x : Command). begins_alone (CommandCycle x)) (commands_have_bytes.command_of_byte Read byte (ap Some (sym is))), ap (λ n. n == 0x31) is)

    command_fits : (byte : ℕ) (starts : Bool) (after : Option LunState) → command_of j.item ≡ Some byte → (starts ≡ true → Main ops k) → RoleFits (role_of_command byte starts after) ops k
    command_fits byte starts after cmd main =
        if_fits (byte == 0x70) _ _ (λ e. if_fits (gives_status after) role.Asks role.Nothing (λ s. asks_so byte 0x70 cmd refl e (status_opens byte e)) (λ s. tt))
        (λ e. if_fits (byte == 0x30) _ _ (λ x. if_fits starts role.Gives role.Nothing main (λ s. tt))
        (λ x. if_fits (byte == 0x31 || byte == 0x3f) _ _ (λ y. if_fits starts role.Holds role.Nothing main (λ s. tt))
        (λ y. if_fits (byte == 0xe0) _ _ (λ z. if_fits (gives_data after) role.Holds role.Nothing (λ s. closer (cmd ∙ ap Some (eqb-true byte 0xe0 z))) (λ s. tt))
        (λ z. if_fits (byte == 0x00) _ role.Nothing (λ v. if_fits (gives_data after) role.Returns role.Nothing (λ s. asks_so byte 0x00 cmd refl v (read_opens byte v)) (λ s. tt))
        (λ v. tt)))))

    address_fits : (starts : Bool) (after : Option LunState) → RoleFits (role_of_address o starts after) ops k
    address_fits starts after =
        if_fits (is_byte (opener_of o.beginning) 0x78) _ _
        (λ e. if_fits (o.address_count == 3 && gives_status after) role.Asks role.Nothing
        (λ s. asking_so (or_right (is_byte (opener_of o.beginning) 0x70) _ (or_left (is_byte (opener_of o.beginning) 0x78) _ e))) (λ s. tt))
        (λ e. if_fits (is_byte (opener_of o.beginning) 0x90 || is_byte (opener_of o.beginning) 0xec) _ role.Nothing
        (λ x. if_fits (starts || gives_data after) role.Gives role.Nothing (λ s. main_so (or_right (is_some o.closer) _ (ap not (other_asks (opener_of o.beginning) x)))) (λ s. tt))
        (λ x. tt))

    kind_fits : (c : BusCycle) (starts : Bool) (after : Option LunState) (kind : Kind) → command_of j.item ≡ command_of_kind kind c.byte → (starts ≡ true → Main ops k) →
        RoleFits (role_of_kind o c starts after kind) ops k
    kind_fits c starts after Cmd cmd main = command_fits c.byte starts after cmd main
    kind_fits c starts after Adr cmd main = address_fits starts after
    kind_fits c starts after Din cmd main = tt
    kind_fits c starts after Dout cmd main = tt

    item_fits : (lun : ℕ) (i : Item) → command_of j.item ≡ command_of i → (begins_by j i lun ≡ true → Main ops k) → RoleFits (role_by j (Some o) i lun) ops k
    item_fits lun (Cyc c) cmd main =
        if_fits (is_permitted j.said) _ role.Nothing (λ e. kind_fits c (begins_by j (Cyc c) lun) (look_at j.after lun) c.kind cmd main) (λ e. tt)
    item_fits lun (Rdy ce l fail) cmd main = tt
    item_fits lun (Ard ce l fail) cmd main = tt

role_fits : (j : Judged) (k lun : ℕ) (ops : List Operation) → Context j k ops → (begins_by j j.item lun ≡ true → Main ops k) → RoleFits (role_by j (op_of ops (Some k)) j.item lun) ops k
role_fits j k lun ops context main = at (slice_get ops k) refl
  where
    at : (x : Option Operation) → slice_get ops k ≡ x → RoleFits (role_by j x j.item lun) ops k
    at None e = tt
    at (Some o) e = item_fits j k ops o e context.small context.opener context.closer lun j.item refl main

-- ---- all that an item selects

opener_at : (P : Beginning → Type 0) (ops : List Operation) (m k : ℕ) (c : Change) → ((o : Operation) → slice_get ops k ≡ Some o → P o.beginning) →
    (o : Operation) → slice_get (changed_at m c ops) k ≡ Some o → P o.beginning
opener_at P ops m k c all = at (slice_get ops m) refl
  where
    at : (x : Option Operation) → slice_get ops m ≡ x → (w : Operation) → slice_get (changed_by x c ops m) k ≡ Some w → P w.beginning
    at None h w is = all w is
    at (Some o) h w is = by_place (put ops m k (changed c o) w is)
      where
        by_place : ((k ≡ m) × (w ≡ changed c o)) ⊎ ((k ≡ m → ⊥) × (slice_get ops k ≡ Some w)) → P w.beginning
        by_place (inl both) = subst P (sym (ap (λ (z : Operation). z.beginning) both.1 ∙ kept_beginning c o)) (all o (ap (slice_get ops) both.0 ∙ h))
        by_place (inr old) = all w old.1

context_at : (j : Judged) (k m : ℕ) (c : Change) (ops : List Operation) → is_quiet c ≡ true → Context j k ops → Context j k (changed_at m c ops)
context_at j k m c ops quiet context = record {
  small = (let long = length_changed m c ops in let small = context.small in omega (arith, long, small));
  began = record {
    zeroth = λ h. main_at ops m k c (context.began.zeroth h);
    first = λ h. main_at ops m k c (context.began.first h);
    second = λ h. main_at ops m k c (context.began.second h);
    third = λ h. main_at ops m k c (context.began.third h);
  };
  opener = λ byte cmd opens. opener_at (λ b. b ≡ begins.Opener byte) ops m k c (context.opener byte cmd opens);
  closer = λ cmd. main_at ops m k c (context.closer cmd);
}

selected_context : (j : Judged) (k lun : ℕ) (l : Listing) → Context j k l.ops → Context j k (selected_on j k lun l).ops
selected_context j k lun l context = by_select (Context j k) (λ m c ops quiet p. context_at j k m c ops quiet p) j k lun l context

sound_select : (j : Judged) (k lun : ℕ) (l : Listing) → (begins_by j j.item lun ≡ true → Main l.ops k) → Context j k l.ops → Sound l.places l.ops →
    Sound (selected_on j k lun l).places (selected_on j k lun l).ops
sound_select j k lun l main context sound = sound_role (role_by j (op_of l.ops (Some k)) j.item lun) j k lun l (role_fits j k lun l.ops context main) sound

sound_selects : (j : Judged) (k : ℕ) (l : Listing) → Context j k l.ops → Sound l.places l.ops → Sound (all_selected j k l).places (all_selected j k l).ops
sound_selects j k l context sound =
    let one = selected_on j k 0 l in
    let two = selected_on j k 1 one in
    let three = selected_on j k 2 two in
    let a = selected_context j k 0 l context in
    let b = selected_context j k 1 one a in
    let c = selected_context j k 2 two b in
    sound_select j k 3 three c.began.third c
    (sound_select j k 2 two b.began.second b (sound_select j k 1 one a.began.first a (sound_select j k 0 l context.began.zeroth context sound)))

-- ---- one item

alone_begins : (newest : Option Operation) (byte : ℕ) → Alone byte → begins_one newest byte ≡ true
alone_begins newest byte alone = opener_begins newest byte alone.0 (closes_none newest byte alone.1)

-- a command that opens is the first of a new one
opens_new : (ops : List Operation) (p : Places) (j : Judged) (i : Item) (byte : ℕ) → command_of i ≡ Some byte → Alone byte → owner_of ops p j i ≡ None
opens_new ops p j (Cyc c) byte cmd opens = at c.kind cmd
  where
    at : (kind : Kind) → command_of_kind kind c.byte ≡ Some byte → cycle_owner ops p j c kind ≡ None
    at Cmd e = ap (λ x. cond x None (found p.newest j.ce)) (alone_begins (op_of ops (found p.newest j.ce)) c.byte (subst Alone (sym (same_some e)) opens))
    at Adr e = cc
    at Din e = cc
    at Dout e = cc
opens_new ops p j (Rdy ce lun fail) byte cmd opens = cc
opens_new ops p j (Ard ce lun fail) byte cmd opens = cc

new_opener : (j : Judged) (newest : Option Operation) (i : Item) (byte : ℕ) → command_of i ≡ Some byte → Alone byte → (new_one j newest i).beginning ≡ begins.Opener byte
new_opener j newest (Cyc c) byte cmd opens = at c.kind cmd
  where
    begun_so : (b : Bool) → b ≡ true → (cond b (begun j.ce j.number (begins.Opener c.byte)) (begun j.ce j.number begins.Cut)).beginning ≡ begins.Opener c.byte
    begun_so true e = refl
    begun_so false e = cc

    at : (kind : Kind) → command_of_kind kind c.byte ≡ Some byte → (new_by_command j newest c kind).beginning ≡ begins.Opener byte
    at Cmd e = begun_so (begins_one newest c.byte) (alone_begins newest c.byte (subst Alone (sym (same_some e)) opens)) ∙ ap begins.Opener (same_some e)
    at Adr e = cc
    at Din e = cc
    at Dout e = cc
new_opener j newest (Rdy ce lun fail) byte cmd opens = cc
new_opener j newest (Ard ce lun fail) byte cmd opens = cc

-- the operation of an opener begins with it
abbrev OpensWith : Judged → ℕ → ℕ → Beginning → Kept → Type 0
OpensWith j mark k b kept = k ≡ mark → (byte : ℕ) → command_of j.item ≡ Some byte → Alone byte → b ≡ begins.Opener byte

abbrev Anything : ℕ → Beginning → Kept → Type 0
Anything k b kept = Unit {0}

mark_is_new : (j : Judged) (l : Listing) → owner_in j (with_ends j l) ≡ None → mark_in j (with_ends j l) ≡ length (with_ends j l).ops
mark_is_new j l h = ap (λ o. number_of o (with_ends j l).ops) h

opens_came : (j : Judged) (l : Listing) → Each (OpensWith j (mark_in j (with_ends j l))) (came j l).ops
opens_came j l = each_came Anything (OpensWith j mark) j l (λ k o is. tt) old new
  where
    mark : ℕ
    mark = mark_in j (with_ends j l)

    old : (k : ℕ) (b : Beginning) (kept : Kept) → k < length (with_ends j l).ops → Anything k b kept →
        Awaited (OpensWith j (mark_in j (with_ends j l))) (mark_in j (with_ends j l)) (owner_in j (with_ends j l)) j j.item k b kept
    old k b kept lt any = (
      (λ apart same. absurd (apart same)),
      (λ same again byte cmd opens. absurd (let e = mark_is_new j l (opens_new (with_ends j l).ops l.places j j.item byte cmd opens) in omega (arith, e, same, lt))),
    )

    new : owner_in j (with_ends j l) ≡ None →
        Awaited (OpensWith j (mark_in j (with_ends j l))) (mark_in j (with_ends j l)) (owner_in j (with_ends j l)) j j.item (length (with_ends j l).ops)
        (new_one j (op_of (with_ends j l).ops (found l.places.newest j.ce)) j.item).beginning (kept_of (new_one j (op_of (with_ends j l).ops (found l.places.newest j.ce)) j.item))
    new h = (
      (λ apart. absurd (apart (sym (mark_is_new j l h)))),
      (λ same again byte cmd opens. new_opener j (op_of (with_ends j l).ops (found l.places.newest j.ce)) j.item byte cmd opens),
    )

-- E0 is the closer of its operation, or that isn't a question
abbrev ClosedBy : Judged → ℕ → ℕ → Beginning → Kept → Type 0
ClosedBy j mark k b kept = k ≡ mark → command_of j.item ≡ Some 0xe0 → (is_some kept.closer || not (asks b)) ≡ true

closes_e0 : (b : Beginning) (closer : Option ℕ) → (is_some (closer_by b closer 0xe0) || not (asks b)) ≡ true
closes_e0 b (Some c) = refl
closes_e0 b None = at (opener_of b)
  where
    at : (opener : Option ℕ) → (is_some {T = ℕ} (cond (is_byte opener 0xe0) None (Some 0xe0)) || not (asks_by opener)) ≡ true
    at None = refl
    at (Some x) = by_byte (x == 0xe0) refl
      where
        by_byte : (e : Bool) → (x == 0xe0) ≡ e → (is_some {T = ℕ} (cond e None (Some 0xe0)) || not (asks_by (Some x))) ≡ true
        by_byte true h = ap (λ n. not (asks_by (Some n))) (eqb-true x 0xe0 h)
        by_byte false h = refl

old_closed : (owner : Option ℕ) (m : ℕ) (j : Judged) (i : Item) (b : Beginning) (closer : Option ℕ) → owner ≡ Some m → command_of i ≡ Some 0xe0 →
    (is_some (closer_with owner j i b closer) || not (asks b)) ≡ true
old_closed owner m j (Cyc c) b closer h cmd = at c.kind cmd
  where
    at : (kind : Kind) → command_of_kind kind c.byte ≡ Some 0xe0 → (is_some (cond (is_new_opener owner j kind) closer (closer_of_kind kind c.byte b closer)) || not (asks b)) ≡ true
    at Cmd e =
        ap (λ (o : Option ℕ). is_some (cond (is_new_opener o j Cmd) closer (closer_by b closer c.byte)) || not (asks b)) h
        ∙ ap (λ n. is_some (closer_by b closer n) || not (asks b)) (same_some e) ∙ closes_e0 b closer
    at Adr e = cc
    at Din e = cc
    at Dout e = cc
old_closed owner m j (Rdy ce lun fail) b closer h cmd = cc
old_closed owner m j (Ard ce lun fail) b closer h cmd = cc

new_closed : (j : Judged) (newest : Option Operation) (i : Item) (closer : Option ℕ) → command_of i ≡ Some 0xe0 → (is_some closer || not (asks (new_one j newest i).beginning)) ≡ true
new_closed j newest (Cyc c) closer cmd = at c.kind cmd
  where
    either_way : (b : Bool) (n : ℕ) → n ≡ 0xe0 → (is_some closer || not (asks (cond b (begun j.ce j.number (begins.Opener n)) (begun j.ce j.number begins.Cut)).beginning)) ≡ true
    either_way true n e = ap (λ m. is_some closer || not (asks (begins.Opener m))) e ∙ any (is_some closer)
      where
        any : (x : Bool) → (x || true) ≡ true
        any true = refl
        any false = refl
    either_way false n e = any (is_some closer)
      where
        any : (x : Bool) → (x || true) ≡ true
        any true = refl
        any false = refl

    at : (kind : Kind) → command_of_kind kind c.byte ≡ Some 0xe0 → (is_some closer || not (asks (new_by_command j newest c kind).beginning)) ≡ true
    at Cmd e = either_way (begins_one newest c.byte) c.byte (same_some e)
    at Adr e = cc
    at Din e = cc
    at Dout e = cc
new_closed j newest (Rdy ce lun fail) closer cmd = cc
new_closed j newest (Ard ce lun fail) closer cmd = cc

closed_came : (j : Judged) (l : Listing) → Each (ClosedBy j (mark_in j (with_ends j l))) (came j l).ops
closed_came j l = each_came Anything (ClosedBy j (mark_in j (with_ends j l))) j l (λ k o is. tt) old new
  where
    old : (k : ℕ) (b : Beginning) (kept : Kept) → k < length (with_ends j l).ops → Anything k b kept →
        Awaited (ClosedBy j (mark_in j (with_ends j l))) (mark_in j (with_ends j l)) (owner_in j (with_ends j l)) j j.item k b kept
    old k b kept lt any = ((λ apart same. absurd (apart same)), (λ same again cmd. at (owner_in j (with_ends j l)) refl same cmd))
      where
        at : (o : Option ℕ) → owner_in j (with_ends j l) ≡ o → k ≡ mark_in j (with_ends j l) → command_of j.item ≡ Some 0xe0 →
            (is_some (closer_with (owner_in j (with_ends j l)) j j.item b kept.closer) || not (asks b)) ≡ true
        at None h same cmd = absurd (let e = mark_is_new j l h in omega (arith, e, same, lt))
        at (Some m) h same cmd = old_closed (owner_in j (with_ends j l)) m j j.item b kept.closer h cmd

    new : owner_in j (with_ends j l) ≡ None →
        Awaited (ClosedBy j (mark_in j (with_ends j l))) (mark_in j (with_ends j l)) (owner_in j (with_ends j l)) j j.item (length (with_ends j l).ops)
        (new_one j (op_of (with_ends j l).ops (found l.places.newest j.ce)) j.item).beginning (kept_of (new_one j (op_of (with_ends j l).ops (found l.places.newest j.ce)) j.item))
    new h = ((λ apart. absurd (apart (sym (mark_is_new j l h)))), (λ same again cmd. new_closed j (op_of (with_ends j l).ops (found l.places.newest j.ce)) j.item _ cmd))

pub small_came : (j : Judged) (l : Listing) → AreWithin (length l.ops) l.places → mark_in j (with_ends j l) < length (came j l).ops
small_came j l w =
    let a = mark_new j l w in
    let b = length_new (owner_in j (with_ends j l)) j (with_ends j l) in
    let c = length_came j l in
    let d = length_ends j l in
    omega (arith, a, b, c, d)

context_came : (j : Judged) (l : Listing) → AreWithin (length l.ops) l.places → Context j (mark_in j (with_ends j l)) (all_begun j (mark_in j (with_ends j l)) (came j l)).ops
context_came j l w =
    let k = mark_in j (with_ends j l) in
    let small = small_came j l w in
    let same : length (all_begun j k (came j l)).ops ≡ length (came j l).ops = by_begins (λ ops. length ops ≡ length (came j l).ops) (λ m c ops quiet p. length_changed m c ops ∙ p) j k (came j l) refl in
    let opens = by_begins (Each (OpensWith j k)) (each_quiet (OpensWith j k)) j k (came j l) (opens_came j l) in
    let closed = by_begins (Each (ClosedBy j k)) (each_quiet (ClosedBy j k)) j k (came j l) (closed_came j l) in
    record {
      small = omega (arith, small, same);
      began = all_began j k (came j l) small;
      opener = λ byte cmd open' o is. opens k o is refl byte cmd open';
      closer = λ cmd. (omega (arith, small, same), (λ o is. or_right (is_some o.start) _ (closed k o is refl cmd)));
    }

sound_listed : (j : Judged) (l : Listing) → AreWithin (length l.ops) l.places → Sound l.places l.ops → Sound (listed j l).places (listed j l).ops
sound_listed j l w sound =
    let k = mark_in j (with_ends j l) in
    let came' = sound_came j l sound in
    let begun' = sound_begins j k (came j l) (small_came j l w) came' in
    let chosen = all_selected j k (all_begun j k (came j l)) in
    let selected' = sound_selects j k (all_begun j k (came j l)) (context_came j l w) begun' in
    let polled' = plain_polls (Sound chosen.places) (plainly_sound chosen.places) j k chosen selected' in
    plain_ready (Sound chosen.places) (plainly_sound chosen.places) j k (with_polls j k chosen) polled'

-- ---- a trace

has_line : (p : Places) (ops : List Operation) → Sound p ops → (k : ℕ) (o : Operation) (parent : ℕ) → slice_get ops k ≡ Some o → o.parent ≡ Some parent → HasLine ops parent
has_line p ops sound k o parent is h =
    let main = (sound.parents k o parent is h).0 in
    let q = there ops parent main.0 in
    record { operation = q.0; is_there = q.1; has_line = shown q.0 q.1 (main.1 q.0 q.1) }
  where
    by_more : (a b c d : Bool) → (b || c) ≡ true → (a && (d && not (b || c))) ≡ false
    by_more true b c true h = ap not h
    by_more true b c false h = refl
    by_more false b c d h = refl

    orphan : (x : Option ℕ) (d e : Bool) → ((m : ℕ) → x ≡ Some m → ⊥) → (is_some x && (d && e)) ≡ false
    orphan None d e none = refl
    orphan (Some m) d e none = absurd (none m refl)

    shown : (q : Operation) → slice_get ops parent ≡ Some q → is_main q ≡ true → is_folded q ≡ false
    shown q there' h = at (is_some q.start) refl (is_some q.closer) refl h
      where
        at : (a : Bool) → is_some q.start ≡ a → (b : Bool) → is_some q.closer ≡ b → (a || (b || not (asks q.beginning))) ≡ true → is_folded q ≡ false
        at true x b y h = by_more (is_some q.parent) (is_some q.start) (is_some q.closer) q.is_clean (ap (λ z. z || is_some q.closer) x)
        at false x true y h = by_more (is_some q.parent) (is_some q.start) (is_some q.closer) q.is_clean (ap (λ z. z || is_some q.closer) x ∙ y)
        at false x false y h = orphan q.parent q.is_clean (not (is_some q.start || is_some q.closer)) (λ m e. clash (asks q.beginning) h (sound.parents parent q m there' e).1)
          where
            clash : (z : Bool) → not z ≡ true → z ≡ true → ⊥
            clash true h e = cc
            clash false h e = cc

pub lines_all : (readies : Readies) (one_lun : Bool) (seen : Seen) (n : ℕ) (items : List Item) (l : Listing) → AreWithin (length l.ops) l.places → Sound l.places l.ops →
    (k : ℕ) (o : Operation) (parent : ℕ) → slice_get (ops_from readies one_lun seen n items l) k ≡ Some o → o.parent ≡ Some parent → HasLine (ops_from readies one_lun seen n items l) parent
lines_all readies one_lun seen n [] l w sound k o parent is h = has_line l.places l.ops sound k o parent is h
lines_all readies one_lun seen n (i ∷ items) l w sound k o parent is h =
    let j = judged_as readies one_lun seen n (target_of i) i items in
    lines_all readies one_lun (seen_after readies seen i items) (n + 1) items (listed j l) (within_listed j l w) (sound_listed j l w sound) k o parent is h

pub nobody_sound : Sound nobody []
nobody_sound = record {
  parents = λ k o m is h. none k o m is;
  workers = All-replicate (OnMain []) 16 None tt;
  givers = All-replicate (OnMain []) 16 None tt;
}
  where
    none : (k : ℕ) (o : Operation) (m : ℕ) → None ≡ Some o → Main [] m × (asks o.beginning ≡ true)
    none k o m is = cc
