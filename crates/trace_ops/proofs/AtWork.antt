-- Which operation is at work on which LUN, whatever tells which LUNs work: what changes of an operation keep of that, and what the end and the beginning of work do.
use Rattle.std.proofs.Common.{◌≡◌, ◌⊎◌, inl, inr, ℕ, zero, suc, ◌<◌, Bool, true, false, List, [], ◌∷◌, ◌++◌, Option, Some, None, is_some, refl, sym, ap, ◌∙◌, subst, arith, length}
use Rattle.std.specs.Prelude.{slice_get}
use Rattle.std.proofs.lemmas.Option.{slice_get_within}
use Rattle.onfi_cycle.proofs.Booleans.{clash}
use Rattle.trace_ops.specs.declared.change.Change.{Change}
use Rattle.trace_ops.specs.declared.operation.Ending.{Ending}
use Rattle.trace_ops.specs.declared.operation.Operation.{Operation}
use Rattle.trace_ops.specs.Operation.{changed, changed_by, changed_at}
use Rattle.trace_ops.specs.Listing.{found, lun_place}
use Rattle.trace_ops.proofs.Changed.{put, there, length_changed}
use Rattle.trace_ops.proofs.Spans.{same_some, which}

-- ---- the work of an operation, before and after

-- the work is the same; of one that hasn't begun, the LUN may be another
pub record Core (old new : Operation) : Type 0 where
  pub ce : new.ce ≡ old.ce
  pub start : new.start ≡ old.start
  pub end : new.end ≡ old.end
  pub lun : is_some old.start ≡ true → new.lun ≡ old.lun

pub same_core : (o : Operation) → Core o o
same_core o = record { ce = refl; start = refl; end = refl; lun = λ h. refl }

pub record Back (ops : List Operation) (k : ℕ) (w : Operation) : Type 0 where
  pub old : Operation
  pub is_there : slice_get ops k ≡ Some old
  pub core : Core old w

pub record Forth (ops : List Operation) (k : ℕ) (o : Operation) : Type 0 where
  pub new : Operation
  pub is_there : slice_get ops k ≡ Some new
  pub core : Core o new

-- the same operations, each with its work
pub record Alike (ops more : List Operation) : Type 0 where
  pub long : length more ≡ length ops
  pub back : (k : ℕ) (w : Operation) → slice_get more k ≡ Some w → Back ops k w

pub forth : (ops more : List Operation) (k : ℕ) (o : Operation) → Alike ops more → slice_get ops k ≡ Some o → Forth more k o
forth ops more k o alike is =
    let small = slice_get_within ops k o is in
    let long = alike.long in
    let q = there more k (omega (arith, small, long)) in
    let back = alike.back k q.0 q.1 in
    record { new = q.0; is_there = q.1; core = subst (λ (z : Operation). Core z q.0) (same_some (sym back.is_there ∙ is)) back.core }

pub alike_self : (ops : List Operation) → Alike ops ops
alike_self ops = record { long = refl; back = λ k w is. record { old = w; is_there = is; core = same_core w } }

core_on : (a b c : Operation) → Core a b → Core b c → Core a c
core_on a b c p q = record {
  ce = q.ce ∙ p.ce;
  start = q.start ∙ p.start;
  end = q.end ∙ p.end;
  lun = λ h. q.lun (ap (λ (x : Option ℕ). is_some x) p.start ∙ h) ∙ p.lun h;
}

pub alike_on : (a b c : List Operation) → Alike a b → Alike b c → Alike a c
alike_on a b c p q = record {
  long = q.long ∙ p.long;
  back = λ k w is. (
      let mid = q.back k w is in
      let old = p.back k mid.old mid.is_there in
      record { old = old.old; is_there = old.is_there; core = core_on old.old mid.old w old.core mid.core }
      );
}

-- where an operation comes from, once one was changed
pub record From (m k : ℕ) (c : Change) (ops : List Operation) (w : Operation) : Type 0 where
  pub old : Operation
  pub is_there : slice_get ops k ≡ Some old
  pub is : ((k ≡ m) × (w ≡ changed c old)) ⊎ ((k ≡ m → ⊥) × (w ≡ old))

pub changed_from : (m k : ℕ) (c : Change) (ops : List Operation) (w : Operation) → slice_get (changed_at m c ops) k ≡ Some w → From m k c ops w
changed_from m k c ops w is = at (slice_get ops m) refl is
  where
    none : {o : Operation} → None ≡ Some o → ⊥
    none h = cc

    at : (o : Option Operation) → slice_get ops m ≡ o → slice_get (changed_by o c ops m) k ≡ Some w → From m k c ops w
    at None h is = record { old = w; is_there = is; is = inr ((λ e. none (sym h ∙ sym (ap (slice_get ops) e) ∙ is)), refl) }
    at (Some o) h is = by_place (put ops m k (changed c o) w is)
      where
        by_place : ((k ≡ m) × (w ≡ changed c o)) ⊎ ((k ≡ m → ⊥) × (slice_get ops k ≡ Some w)) → From m k c ops w
        by_place (inl both) = record { old = o; is_there = ap (slice_get ops) both.0 ∙ h; is = inl (both.0, both.1) }
        by_place (inr other) = record { old = w; is_there = other.1; is = inr (other.0, refl) }

-- a change that leaves the work of the operation as it is
pub changed_alike : (m : ℕ) (c : Change) (ops : List Operation) → ((o : Operation) → slice_get ops m ≡ Some o → Core o (changed c o)) → Alike ops (changed_at m c ops)
changed_alike m c ops keeps = record {
  long = length_changed m c ops;
  back = λ k w is. (
      let from = changed_from m k c ops w is in
      record { old = from.old; is_there = from.is_there; core = at k w from.old from.is_there from.is }
      );
}
  where
    at : (k : ℕ) (w old : Operation) → slice_get ops k ≡ Some old → ((k ≡ m) × (w ≡ changed c old)) ⊎ ((k ≡ m → ⊥) × (w ≡ old)) → Core old w
    at k w old is (inl both) = subst (λ (z : Operation). Core old z) (sym both.1) (keeps old (ap (slice_get ops) (sym both.0) ∙ is))
    at k w old is (inr other) = subst (λ (z : Operation). Core old z) (sym other.1) (same_core old)

-- ---- which LUN is at work by which operation

-- the operation has begun work on this LUN
pub record Began (ops : List Operation) (k ce lun : ℕ) : Type 0 where
  pub operation : Operation
  pub is_there : slice_get ops k ≡ Some operation
  pub target : operation.ce ≡ ce
  pub on : operation.lun ≡ Some lun
  pub started : is_some operation.start ≡ true

abbrev pub Unended : List Operation → ℕ → Type 0
Unended ops k = (o : Operation) → slice_get ops k ≡ Some o → is_some o.end ≡ false

abbrev pub worker_in : List (Option ℕ) → (ce lun : ℕ) → Option ℕ
worker_in workers ce lun = found workers (lun_place ce lun)

-- the worker of this LUN hasn't ended
pub record Working (workers : List (Option ℕ)) (ops : List Operation) (ce lun : ℕ) : Type 0 where
  pub number : ℕ
  pub is : worker_in workers ce lun ≡ Some number
  pub unended : Unended ops number

-- the LUN of an operation that is at work
pub record Place (works : ℕ → ℕ → Bool) (workers : List (Option ℕ)) (k : ℕ) (o : Operation) : Type 0 where
  pub lun : ℕ
  pub few : lun < 4
  pub is : o.lun ≡ Some lun
  pub worker : worker_in workers o.ce lun ≡ Some k
  pub busy : works o.ce lun ≡ true

-- who is at work where, by which LUNs are busy
pub record Tells (busy : ℕ → ℕ → Bool) (workers : List (Option ℕ)) (ops : List Operation) : Type 0 where
  pub long : length workers ≡ 16
  pub small : (ce lun : ℕ) → busy ce lun ≡ true → (ce < 4) × (lun < 4)
  pub began : (ce lun k : ℕ) → lun < 4 → worker_in workers ce lun ≡ Some k → Began ops k ce lun
  pub working : (ce lun : ℕ) → busy ce lun ≡ true → Working workers ops ce lun
  pub place : (k : ℕ) (o : Operation) → slice_get ops k ≡ Some o → is_some o.start ≡ true → is_some o.end ≡ false → Place busy workers k o
  pub unended : (k : ℕ) (o : Operation) → slice_get ops k ≡ Some o → is_some o.start ≡ false → is_some o.end ≡ false

began_alike : (ops more : List Operation) (k ce lun : ℕ) → Alike ops more → Began ops k ce lun → Began more k ce lun
began_alike ops more k ce lun alike was =
    let on = forth ops more k was.operation alike was.is_there in
    record {
      operation = on.new;
      is_there = on.is_there;
      target = on.core.ce ∙ was.target;
      on = on.core.lun was.started ∙ was.on;
      started = ap (λ (x : Option ℕ). is_some x) on.core.start ∙ was.started;
    }

place_core : (busy : ℕ → ℕ → Bool) (workers : List (Option ℕ)) (k : ℕ) (old new : Operation) → Core old new → is_some old.start ≡ true → Place busy workers k old → Place busy workers k new
place_core busy workers k old new core started place = record {
  lun = place.lun;
  few = place.few;
  is = core.lun started ∙ place.is;
  worker = ap (λ ce. worker_in workers ce place.lun) core.ce ∙ place.worker;
  busy = ap (λ ce. busy ce place.lun) core.ce ∙ place.busy;
}

pub tells_alike : (busy : ℕ → ℕ → Bool) (workers : List (Option ℕ)) (ops more : List Operation) → Alike ops more → Tells busy workers ops → Tells busy workers more
tells_alike busy workers ops more alike tells = record {
  long = tells.long;
  small = tells.small;
  began = λ ce lun k few is. began_alike ops more k ce lun alike (tells.began ce lun k few is);
  working = λ ce lun h. (
      let was = tells.working ce lun h in
      record {
        number = was.number;
        is = was.is;
        unended = λ o is. (let back = alike.back was.number o is in ap (λ (x : Option Ending). is_some x) back.core.end ∙ was.unended back.old back.is_there);
      }
      );
  place = λ k o is started unended. (
      let back = alike.back k o is in
      let begun = ap (λ (x : Option ℕ). is_some x) (sym back.core.start) ∙ started in
      let open' = ap (λ (x : Option Ending). is_some x) (sym back.core.end) ∙ unended in
      place_core busy workers k back.old o back.core begun (tells.place k back.old back.is_there begun open')
      );
  unended = λ k o is none. (
      let back = alike.back k o is in
      ap (λ (x : Option Ending). is_some x) back.core.end ∙ tells.unended k back.old back.is_there (ap (λ (x : Option ℕ). is_some x) (sym back.core.start) ∙ none)
      );
}

-- the same LUNs are busy
pub tells_same : (busy other : ℕ → ℕ → Bool) (workers : List (Option ℕ)) (ops : List Operation) → ((ce lun : ℕ) → other ce lun ≡ busy ce lun) → Tells busy workers ops → Tells other workers ops
tells_same busy other workers ops same tells = record {
  long = tells.long;
  small = λ ce lun h. tells.small ce lun (sym (same ce lun) ∙ h);
  began = tells.began;
  working = λ ce lun h. tells.working ce lun (sym (same ce lun) ∙ h);
  place = λ k o is started unended. (
      let p = tells.place k o is started unended in
      record { lun = p.lun; few = p.few; is = p.is; worker = p.worker; busy = same o.ce p.lun ∙ p.busy }
      );
  unended = tells.unended;
}

-- ---- an operation more

pub append_there : (ops : List Operation) (x : Operation) (k : ℕ) (o : Operation) → slice_get ops k ≡ Some o → slice_get (ops ++ (x ∷ [])) k ≡ Some o
append_there [] x k o h = cc
append_there (y ∷ ops) x zero o h = h
append_there (y ∷ ops) x (suc k) o h = append_there ops x k o h

pub tells_new : (busy : ℕ → ℕ → Bool) (workers : List (Option ℕ)) (ops : List Operation) (x : Operation) → x.start ≡ None → x.end ≡ None → Tells busy workers ops → Tells busy workers (ops ++ (x ∷ []))
tells_new busy workers ops x start end tells = record {
  long = tells.long;
  small = tells.small;
  began = λ ce lun k few is. (
      let was = tells.began ce lun k few is in
      record { operation = was.operation; is_there = append_there ops x k was.operation was.is_there; target = was.target; on = was.on; started = was.started }
      );
  working = λ ce lun h. (
      let was = tells.working ce lun h in
      record { number = was.number; is = was.is; unended = λ o is. unended was.number o was.unended (which ops x was.number o is) }
      );
  place = λ k o is started open'. placed k o started open' (which ops x k o is);
  unended = λ k o is none. still k o none (which ops x k o is);
}
  where
    no_end : (o : Operation) → o ≡ x → is_some o.end ≡ false
    no_end o e = ap (λ (z : Operation). is_some z.end) e ∙ ap (λ (z : Option Ending). is_some z) end

    unended : (k : ℕ) (o : Operation) → Unended ops k → (slice_get ops k ≡ Some o) ⊎ ((k ≡ length ops) × (o ≡ x)) → is_some o.end ≡ false
    unended k o was (inl old) = was o old
    unended k o was (inr new) = no_end o new.1

    placed : (k : ℕ) (o : Operation) → is_some o.start ≡ true → is_some o.end ≡ false → (slice_get ops k ≡ Some o) ⊎ ((k ≡ length ops) × (o ≡ x)) → Place busy workers k o
    placed k o started open' (inl old) = tells.place k o old started open'
    placed k o started open' (inr new) = absurd (clash (is_some o.start) started (ap (λ (z : Operation). is_some z.start) new.1 ∙ ap (λ (z : Option ℕ). is_some z) start))

    still : (k : ℕ) (o : Operation) → is_some o.start ≡ false → (slice_get ops k ≡ Some o) ⊎ ((k ≡ length ops) × (o ≡ x)) → is_some o.end ≡ false
    still k o none (inl old) = tells.unended k o old none
    still k o none (inr new) = no_end o new.1
