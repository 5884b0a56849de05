-- What a ready of a legal trace of the base profile does to who is at work where.
use Rattle.std.proofs.Common.{◌≡◌, ◌⊎◌, inl, inr, ℕ, zero, suc, ◌<◌, ◌==◌, Bool, true, false, ◌&&◌, ◌||◌, cond, List, ◌∷◌, Option, Some, None, is_some, refl, sym, ap, ◌∙◌, subst, arith, length, ne_eqb, ◌+◌, ◌++◌, []}
use Rattle.std.specs.Prelude.{slice_get}
use Rattle.std.proofs.lemmas.Bool.{false_from_ne_true}
use Rattle.nand_geometry.specs.declared.parts.Parts.{Parts}
use Rattle.onfi_cycle.specs.declared.item.Failures.{Failures}
use Rattle.onfi_cycle.specs.declared.item.Item.{Item}
use Rattle.onfi_cycle.specs.declared.item.Item.TheVariants.{Rdy, Ard}
use Rattle.onfi_cycle.specs.declared.lun.Lun.{Lun}
use Rattle.onfi_cycle.specs.Working.{IsLun}
use Rattle.trace_ops.specs.declared.change.Change.TheVariants.{End}
use Rattle.trace_ops.specs.declared.judged.Judged.{Judged}
use Rattle.trace_ops.specs.declared.looks.Looks.{Looks}
use Rattle.trace_ops.specs.declared.operation.Beginning.{Beginning}
use Rattle.trace_ops.specs.declared.operation.Ending.{Ending}
use Rattle.trace_ops.specs.declared.operation.Ending.TheVariants as ends
use Rattle.trace_ops.specs.declared.operation.Operation.{Operation}
use Rattle.trace_ops.specs.declared.places.Places.{Places}
use Rattle.trace_ops.specs.declared.role.Role.{Role}
use Rattle.trace_ops.specs.declared.role.Role.TheVariants as role
use Rattle.trace_ops.specs.Operation.{changed_if}
use Rattle.trace_ops.specs.AtWork.{begins_work, ended_at}
use Rattle.trace_ops.specs.Listing.{Listing, found, worker, op_of, new_one, with_new, is_address, ended_if, ended_on, all_ended, begins_by, is_input_to_chip, works_as_foreign, begun_on, all_begun, role_by, selected_by, selected_on, all_selected, with_ends, owner_in, mark_in, listed}
use Rattle.trace_ops.proofs.Pieces.{newest_by, listed_newest, found_below}
use Rattle.trace_ops.proofs.Walks.{came, length_ends}
use Rattle.trace_ops.proofs.Within.{AreWithin}
use Rattle.trace_ops.proofs.AtWork.{Alike, alike_on, Tells, tells_alike, tells_same, tells_new}
use Rattle.trace_ops.proofs.Cycles.{Resting, resting_alike}
use Rattle.trace_ops.proofs.Dated.{Dated, dated_alike, dated_later, dated_new, dated_end, dated_turn}
use Rattle.trace_ops.proofs.Domestic.{Every, every_at, every_new, Domestic, FitsItem, ready_domestic, domestic_came, domestic_listed}
use Rattle.trace_ops.proofs.Legal.{permitted_as, busy_of, busy_ready}
use Rattle.trace_ops.proofs.Quietly.{came_alike, rest_alike}
use Rattle.trace_ops.proofs.Turns.{put_at, ended_ce, ended_start, workers_with, ops_with, tells_end, tells_off, unworked}

-- an item that is no cycle: it begins no work, selects nothing, and brings no byte
pub record IsReady (j : Judged) : Type 0 where
  pub address : is_address j.item ≡ false
  pub begins : (lun : ℕ) → begins_by j j.item lun ≡ false
  pub input : is_input_to_chip j.item ≡ false
  pub role : (o : Operation) (lun : ℕ) → role_by j (Some o) j.item lun ≡ role.Nothing
  pub fits : (b : Beginning) → FitsItem j.item b
  pub domestic : (newest : Option Operation) → Domestic (new_one j newest j.item)
  pub start : (newest : Option Operation) → (new_one j newest j.item).start ≡ None
  pub end : (newest : Option Operation) → (new_one j newest j.item).end ≡ None
  pub newest : (owner : Option ℕ) (ce many : ℕ) (newest : List (Option ℕ)) → newest_by owner j.item ce many newest ≡ newest

newest_ready : (ce lun : ℕ) (fail : Failures) (owner : Option ℕ) (at many : ℕ) (newest : List (Option ℕ)) → newest_by owner (Rdy ce lun fail) at many newest ≡ newest
newest_ready ce lun fail None at many newest = refl
newest_ready ce lun fail (Some k) at many newest = refl

newest_array_ready : (ce lun : ℕ) (fail : Bool) (owner : Option ℕ) (at many : ℕ) (newest : List (Option ℕ)) → newest_by owner (Ard ce lun fail) at many newest ≡ newest
newest_array_ready ce lun fail None at many newest = refl
newest_array_ready ce lun fail (Some k) at many newest = refl

pub ready_is : (one_lun : Bool) (n ce lun : ℕ) (fail : Failures) (before after : Looks) → IsReady (permitted_as one_lun n (Rdy ce lun fail) before after)
ready_is one_lun n ce lun fail before after = record {
  address = refl;
  begins = λ l. refl;
  input = refl;
  role = λ o l. refl;
  fits = λ b. tt;
  domestic = λ newest. ready_domestic ce n lun;
  start = λ newest. refl;
  end = λ newest. refl;
  newest = newest_ready ce lun fail;
}

pub array_ready_is : (one_lun : Bool) (n ce lun : ℕ) (fail : Bool) (before after : Looks) → IsReady (permitted_as one_lun n (Ard ce lun fail) before after)
array_ready_is one_lun n ce lun fail before after = record {
  address = refl;
  begins = λ l. refl;
  input = refl;
  role = λ o l. refl;
  fits = λ b. tt;
  domestic = λ newest. ready_domestic ce n lun;
  start = λ newest. refl;
  end = λ newest. refl;
  newest = newest_array_ready ce lun fail;
}

-- ---- after the ends of work

none_starts : (a b w : Bool) → (a && (b && (false && w))) ≡ false
none_starts true true w = refl
none_starts true false w = refl
none_starts false b w = refl

module _ (j : Judged) (l : Listing) (ready : IsReady j) where
  abbrev owner : Option ℕ
  owner = owner_in j (with_ends j l)

  abbrev mark : ℕ
  mark = mark_in j (with_ends j l)

  abbrev newcomer : Operation
  newcomer = new_one j (op_of (with_ends j l).ops (found l.places.newest j.ce)) j.item

  abbrev begun_as : ℕ → Listing → Listing
  begun_as lun x = record { places = record x.places { workers = workers_with j mark lun x.places }; ops = ops_with j mark lun x.places x.ops }

  rests : (lun : ℕ) (x : Listing) → begun_on j mark lun x ≡ x
  rests lun x =
      ap (λ b. cond b (begun_as lun x) x)
      (ap (λ b. b || (j.one_lun && (lun == 0 && (is_input_to_chip j.item && works_as_foreign (slice_get x.ops mark))))) (ready.begins lun)
      ∙ ap (λ b. j.one_lun && (lun == 0 && (b && works_as_foreign (slice_get x.ops mark)))) ready.input ∙ none_starts j.one_lun (lun == 0) (works_as_foreign (slice_get x.ops mark)))

  rests_all : (x : Listing) → all_begun j mark x ≡ x
  rests_all x = rests 3 _ ∙ rests 2 _ ∙ rests 1 _ ∙ rests 0 x

  selects : (lun : ℕ) (x : Listing) → selected_on j mark lun x ≡ x
  selects lun x = at (slice_get x.ops mark)
    where
      at : (o : Option Operation) → selected_by (role_by j o j.item lun) j mark lun x ≡ x
      at None = refl
      at (Some o) = ap (λ (r : Role). selected_by r j mark lun x) (ready.role o lun)

  selects_none : (x : Listing) → all_selected j mark x ≡ x
  selects_none x = selects 3 _ ∙ selects 2 _ ∙ selects 1 _ ∙ selects 0 x

  pub all_same : all_selected j mark (all_begun j mark (came j l)) ≡ came j l
  all_same = selects_none (all_begun j mark (came j l)) ∙ rests_all (came j l)

  domestic_here : Every (λ k. Domestic) l.ops → Every (λ k. Domestic) (came j l).ops
  domestic_here all = domestic_came j l all (λ o is. ready.fits o.beginning) (λ h. (ready.domestic (op_of (with_ends j l).ops (found l.places.newest j.ce)), ready.fits newcomer.beginning))

  pub ready_domestic_after : Every (λ k. Domestic) l.ops → Every (λ k. Domestic) (listed j l).ops
  ready_domestic_after all = domestic_listed j l (domestic_here all)

  no : true ≡ false → ⊥
  no e = cc

  pub more_alike : Every (λ k. Domestic) l.ops → Alike (with_new owner j (with_ends j l)).ops (listed j l).ops
  more_alike all =
      let chosen = all_selected j mark (all_begun j mark (came j l)) in
      let known : Every (λ k. Domestic) chosen.ops = subst (λ (x : Listing). Every (λ k. Domestic) x.ops) (sym all_same) (domestic_here all) in
      let came' = came_alike j l (λ o is e. absurd (no (sym e ∙ ready.address))) in
      let same : Alike (with_new owner j (with_ends j l)).ops chosen.ops = subst (λ (x : Listing). Alike (with_new owner j (with_ends j l)).ops x.ops) (sym all_same) came' in
      alike_on (with_new owner j (with_ends j l)).ops chosen.ops (listed j l).ops same (rest_alike j mark chosen known)

  tells_by : (busy : ℕ → ℕ → Bool) (x : Option ℕ) → Tells busy l.places.workers (with_ends j l).ops → Tells busy l.places.workers (with_new x j (with_ends j l)).ops
  tells_by busy None tells = tells_new busy l.places.workers (with_ends j l).ops newcomer (ready.start (op_of (with_ends j l).ops (found l.places.newest j.ce))) (ready.end (op_of (with_ends j l).ops (found l.places.newest j.ce))) tells
  tells_by busy (Some m) tells = tells

  new_workers : (x : Option ℕ) → (with_new x j (with_ends j l)).places.workers ≡ l.places.workers
  new_workers None = refl
  new_workers (Some m) = refl

  pub workers_after : (listed j l).places.workers ≡ l.places.workers
  workers_after = ap (λ (x : Listing). x.places.workers) all_same ∙ new_workers owner

  pub ready_tells_after : (busy : ℕ → ℕ → Bool) → Every (λ k. Domestic) l.ops → Tells busy l.places.workers (with_ends j l).ops → Tells busy (listed j l).places.workers (listed j l).ops
  ready_tells_after busy all tells =
      subst (λ (w : List (Option ℕ)). Tells busy w (listed j l).ops) (sym workers_after)
      (tells_alike busy l.places.workers (with_new owner j (with_ends j l)).ops (listed j l).ops (more_alike all) (tells_by busy owner tells))

  dated_by : (g : Parts) (targets : ℕ) (past : List Item) (marks : List ℕ) (bound : ℕ) (x : Option ℕ) → Dated g targets past marks bound (with_ends j l).ops →
      Dated g targets past marks bound (with_new x j (with_ends j l)).ops
  dated_by g targets past marks bound None dated =
      dated_new g targets past marks bound (with_ends j l).ops newcomer (ready.start (op_of (with_ends j l).ops (found l.places.newest j.ce)))
      (ready.end (op_of (with_ends j l).ops (found l.places.newest j.ce))) dated
  dated_by g targets past marks bound (Some m) dated = dated

  pub ready_dated_after : (g : Parts) (targets : ℕ) (past : List Item) (i : Item) (marks : List ℕ) (bound : ℕ) → Every (λ k. Domestic) l.ops →
      ((x : Lun) → IsLun g targets x → begins_work g past i x ≡ false) → Dated g targets past marks bound (with_ends j l).ops →
      Dated g targets (i ∷ past) (marks ++ (mark_in j (with_ends j l) ∷ [])) bound (listed j l).ops
  ready_dated_after g targets past i marks bound known none dated =
      dated_turn g targets past i marks mark bound (listed j l).ops none
      (dated_alike g targets past marks bound (with_new owner j (with_ends j l)).ops (listed j l).ops (more_alike known) (dated_by g targets past marks bound owner dated))

  newest_after : (listed j l).places.newest ≡ l.places.newest
  newest_after = listed_newest j l ∙ ready.newest owner j.ce (length (with_ends j l).ops) l.places.newest

  resting_by : (past : List Item) → AreWithin (length l.ops) l.places → (x : Option ℕ) → Every (Resting l.places.newest past) (with_ends j l).ops →
      Every (Resting l.places.newest past) (with_new x j (with_ends j l)).ops
  resting_by past within None all =
      every_new (Resting l.places.newest past) (with_ends j l).ops newcomer all (λ d h. absurd (
      let small = found_below (length l.ops) l.places.newest d (length (with_ends j l).ops) within.newest h in
      let same = length_ends j l in
      omega (arith, small, same)
      ))
  resting_by past within (Some m) all = all

  pub ready_resting_after : (past : List Item) → AreWithin (length l.ops) l.places → Every (λ k. Domestic) l.ops → Every (Resting l.places.newest past) (with_ends j l).ops →
      Every (Resting (listed j l).places.newest past) (listed j l).ops
  ready_resting_after past within known all =
      subst (λ (newest : List (Option ℕ)). Every (Resting newest past) (listed j l).ops) (sym newest_after)
      (resting_alike l.places.newest past (with_new owner j (with_ends j l)).ops (listed j l).ops (more_alike known) (resting_by past within owner all))

-- ---- the end of work that a ready is

module _ (one_lun : Bool) (n ce lun : ℕ) (fail : Failures) (before after : Looks) where
  abbrev j : Judged
  j = permitted_as one_lun n (Rdy ce lun fail) before after

  ended_other : (b : ℕ) → (lun ≡ b → ⊥) → (p : Places) (ops : List Operation) → ended_on j b p ops ≡ ops
  ended_other b apart p ops = ap (λ x. ended_if (cond (x && true) (Some (ends.Ready n fail.last)) None) (worker p ce b) ops) (ne_eqb lun b apart)

  ends_far : (lun < 4 → ⊥) → (p : Places) (ops : List Operation) → all_ended j p ops ≡ ops
  ends_far high p ops =
      ended_other 3 (λ e. high (omega (arith, e))) p _ ∙ ended_other 2 (λ e. high (omega (arith, e))) p _ ∙ ended_other 1 (λ e. high (omega (arith, e))) p _
      ∙ ended_other 0 (λ e. high (omega (arith, e))) p ops

ends_near : (one_lun : Bool) (n ce lun : ℕ) (fail : Failures) (before after : Looks) → lun < 4 → (p : Places) (ops : List Operation) →
    all_ended (permitted_as one_lun n (Rdy ce lun fail) before after) p ops ≡ changed_if (worker p ce lun) (End (ends.Ready n fail.last)) ops
ends_near one_lun n ce zero fail before after lt p ops = refl
ends_near one_lun n ce (suc zero) fail before after lt p ops = refl
ends_near one_lun n ce (suc (suc zero)) fail before after lt p ops = refl
ends_near one_lun n ce (suc (suc (suc zero))) fail before after lt p ops = refl
ends_near one_lun n ce (suc (suc (suc (suc lun)))) fail before after lt p ops = absurd (omega (arith, lt))

-- the worker of a LUN, if it has one, ends, and the LUN is busy no more
ended_worker : (busy : ℕ → ℕ → Bool) (ce lun : ℕ) (e : Ending) (p : Places) (ops : List Operation) → lun < 4 → Tells busy p.workers ops →
    Tells (put_at busy ce lun false) p.workers (changed_if (worker p ce lun) (End e) ops)
ended_worker busy ce lun e p ops low tells = at (worker p ce lun) refl
  where
    at : (w : Option ℕ) → worker p ce lun ≡ w → Tells (put_at busy ce lun false) p.workers (changed_if w (End e) ops)
    at None h = tells_off busy p.workers ops ce lun (unworked busy p.workers ops ce lun h tells) tells
    at (Some m) h = tells_end busy p.workers ops ce lun m e low h tells

pub ready_ends : (g : Parts) (targets : ℕ) (past : List Item) (one_lun : Bool) (n ce lun : ℕ) (fail : Failures) (before after : Looks) (l : Listing) → (lun < 4) ⊎ (lun < 4 → ⊥) →
    Tells (busy_of g targets past) l.places.workers l.ops →
    Tells (busy_of g targets (Rdy ce lun fail ∷ past)) l.places.workers (with_ends (permitted_as one_lun n (Rdy ce lun fail) before after) l).ops
ready_ends g targets past one_lun n ce lun fail before after l (inl low) tells =
    subst (λ (ops : List Operation). Tells (busy_of g targets (Rdy ce lun fail ∷ past)) l.places.workers ops) (sym (ends_near one_lun n ce lun fail before after low l.places l.ops))
    (tells_same (put_at (busy_of g targets past) ce lun false) (busy_of g targets (Rdy ce lun fail ∷ past)) l.places.workers (changed_if (worker l.places ce lun) (End (ends.Ready n fail.last)) l.ops)
    (busy_ready g targets past ce lun fail) (ended_worker (busy_of g targets past) ce lun (ends.Ready n fail.last) l.places l.ops low tells))
ready_ends g targets past one_lun n ce lun fail before after l (inr high) tells =
    subst (λ (ops : List Operation). Tells (busy_of g targets (Rdy ce lun fail ∷ past)) l.places.workers ops) (sym (ends_far one_lun n ce lun fail before after high l.places l.ops))
    (tells_same (put_at (busy_of g targets past) ce lun false) (busy_of g targets (Rdy ce lun fail ∷ past)) l.places.workers l.ops (busy_ready g targets past ce lun fail)
    (tells_off (busy_of g targets past) l.places.workers l.ops ce lun (false_from_ne_true (busy_of g targets past ce lun) (λ h. high (tells.small ce lun h).1)) tells))

-- an end leaves what rests
pub resting_ends : (newest : List (Option ℕ)) (past : List Item) (w : Option ℕ) (e : Ending) (ops : List Operation) → Every (Resting newest past) ops → Every (Resting newest past) (changed_if w (End e) ops)
resting_ends newest past None e ops all = all
resting_ends newest past (Some m) e ops all =
    every_at (Resting newest past) (Resting newest past) m (End e) ops (λ k o away d. d)
    (λ o is d. λ t h. (ended_ce e o ∙ (d t h).0, (λ s. (d t h).1 (ap (λ (x : Option ℕ). is_some x) (sym (ended_start e o)) ∙ s)))) all

pub ready_resting : (newest : List (Option ℕ)) (past : List Item) (one_lun : Bool) (n ce lun : ℕ) (fail : Failures) (before after : Looks) (l : Listing) → (lun < 4) ⊎ (lun < 4 → ⊥) →
    Every (Resting newest past) l.ops → Every (Resting newest past) (with_ends (permitted_as one_lun n (Rdy ce lun fail) before after) l).ops
ready_resting newest past one_lun n ce lun fail before after l (inl low) all =
    subst (λ (ops : List Operation). Every (Resting newest past) ops) (sym (ends_near one_lun n ce lun fail before after low l.places l.ops))
    (resting_ends newest past (worker l.places ce lun) (ends.Ready n fail.last) l.ops all)
ready_resting newest past one_lun n ce lun fail before after l (inr high) all =
    subst (λ (ops : List Operation). Every (Resting newest past) ops) (sym (ends_far one_lun n ce lun fail before after high l.places l.ops)) all

dated_if : (g : Parts) (targets : ℕ) (past : List Item) (marks : List ℕ) (bound : ℕ) (w : Option ℕ) (e : Ending) (ops : List Operation) → ended_at e < bound → Dated g targets past marks bound ops →
    Dated g targets past marks bound (changed_if w (End e) ops)
dated_if g targets past marks bound None e ops low dated = dated
dated_if g targets past marks bound (Some m) e ops low dated = dated_end g targets past marks bound ops m e low dated

pub ready_dated : (g : Parts) (targets : ℕ) (past : List Item) (marks : List ℕ) (one_lun : Bool) (n ce lun : ℕ) (fail : Failures) (before after : Looks) (l : Listing) → (lun < 4) ⊎ (lun < 4 → ⊥) →
    Dated g targets past marks n l.ops → Dated g targets past marks (n + 1) (with_ends (permitted_as one_lun n (Rdy ce lun fail) before after) l).ops
ready_dated g targets past marks one_lun n ce lun fail before after l (inl low) dated =
    subst (λ (ops : List Operation). Dated g targets past marks (n + 1) ops) (sym (ends_near one_lun n ce lun fail before after low l.places l.ops))
    (dated_if g targets past marks (n + 1) (worker l.places ce lun) (ends.Ready n fail.last) l.ops (omega arith) (dated_later g targets past marks n (n + 1) l.ops (omega arith) dated))
ready_dated g targets past marks one_lun n ce lun fail before after l (inr high) dated =
    subst (λ (ops : List Operation). Dated g targets past marks (n + 1) ops) (sym (ends_far one_lun n ce lun fail before after high l.places l.ops))
    (dated_later g targets past marks n (n + 1) l.ops (omega arith) dated)
