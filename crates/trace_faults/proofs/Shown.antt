-- A trace that is completed is judged as it is with the readies that it shows.
use Rattle.std.proofs.Common.{◌≡◌, ◌≤◌, ◌↔◌, ℕ, ◌+◌, Bool, true, false, not, cond, List, [], ◌∷◌, ◌++◌, Option, Some, None, refl, sym, ap, ◌∙◌, arith, append_assoc, length, subst, ◌&&◌}
use Rattle.std.specs.List.{slice_get}
use Rattle.std.proofs.lemmas.Option.{slice_get_within}
use Rattle.std.proofs.lemmas.Bool.{and_parts}
use Rattle.std.proofs.lemmas.Bool.Decides.{nat_tests}
use Rattle.onfi_cycle.specs.declared.item.Item.{Item}
use Rattle.onfi_cycle.specs.declared.item.Failures.{Failures}
use Rattle.onfi_cycle.specs.declared.item.Item.TheVariants.{Cyc, Rdy, Ard}
use Rattle.onfi_cycle.specs.declared.item.Cycle.{Cycle}
use Rattle.onfi_cycle.specs.declared.forbidden.Forbidden.{Forbidden}
use Rattle.onfi_cycle.specs.declared.forbidden.Forbidden.TheVariants.{NotThere, CommandUnknown, SequenceOpen, SeveralLuns, NoColumnToChange, CommandMisplaced, AddressMisplaced, RowOutside, LunBusy, QueueClash, InputMisplaced, NoSoleDriver, DataNotReady, ColumnOutside, CacheReadMisplaced, CacheProgramMisplaced, CopybackMisplaced, PlaneNotHeld}
use Rattle.onfi_cycle.specs.declared.lun_state.LunState.{LunState}
use Rattle.onfi_cycle.specs.LunView.{LunView}
use Rattle.onfi_cycle.specs.Rules.{breaks_not_there, lun_is, is_some_and}
use Rattle.onfi_cycle.specs.Effect.{names_lun, is_shared}
use Rattle.onfi_cycle.specs.State.{BusView, TargetView, judged, judged_on, bus_without}
use Rattle.onfi_cycle.specs.Sequence.{target_of}
use Rattle.nand_geometry.specs.declared.parts.Parts.{Parts}
use Rattle.onfi_cycle.specs.Look.{looked, look_on, look_at_some, look_at, target_works}
use Rattle.trace_faults.specs.declared.broken_rule.BrokenRule.{BrokenRule}
use Rattle.trace_faults.specs.declared.readies.Readies.{Readies}
use Rattle.trace_faults.specs.declared.readies.Readies.TheVariants.{Written, Shown}
use Rattle.trace_faults.specs.declared.trace_state.TraceState.{TraceState}
use Rattle.trace_faults.specs.Outside.{is_opening, is_outside, is_status, leaves_profile}
use Rattle.trace_faults.specs.Denied.{lun_drives, driving_lun, has_ready, is_denied}
use Rattle.trace_faults.specs.Recovery.{fresh_for, judged_here, done_unless, bus_by, gone_on_by, gone_on}
use Rattle.trace_faults.specs.RowAhead.{given_row}
use Rattle.trace_faults.specs.ShownReadies.{ready_before, array_ready_before, ready_at, array_ready_at, ready_of, array_ready_of, with_ready, with_readies, gone_on_some, listed, has_array_ready, shown_failures, shown_array_failure, is_output_inside}
use Rattle.trace_faults.specs.declared.unshown.UnshownReady.{UnshownReady}
use Rattle.trace_faults.specs.declared.unshown.NotShown.{NotShown}
use Rattle.trace_faults.specs.Unshown.{is_working, may_be_done, first_of, first_done, is_named, named_done, if_may_be_done, driving_done, or_else, to_begin, target_done, wanted_by, unshown_of, unshown, needs_each, further, ready_for, ready_taken, rule_without}
use Rattle.trace_faults.specs.Faults.{before_item, fault_at, faults_from, not_shown_by, completed_from, completed, with_unshown, with_further, with_each, with_taken, further_ready, further_readies, taken_readies}
use Rattle.trace_faults.specs.Laws.{CompletedAreJudged, WorksThere, TakenAtWork, IsNotShown, NotShownArePermitted}
use Rattle.trace_faults.specs.Inside.{IsInside}
use Rattle.trace_faults.proofs.Inside.{only_four}
use Rattle.trace_faults.proofs.Judged.{fresh_is_on, faultless_from}

-- ---- 1. a ready that is shown is permitted

-- a target that is there, with a LUN that is there
record IsThere (s : BusView) (ce number : ℕ) (lun : LunState) : Type 0 where
  t : TargetView
  is_target : slice_get s.targets ce ≡ Some t
  v : LunView
  is_lun : slice_get t.luns number ≡ Some v
  is_seen : look_at v ≡ lun

seen_there : (s : BusView) (ce number : ℕ) (lun : LunState) → looked s (record { ce = ce; lun = number }) ≡ Some lun → IsThere s ce number lun
seen_there s ce number lun is = on (slice_get s.targets ce) refl is
  where
    some_same : (x y : LunState) → Some x ≡ Some y → x ≡ y
    some_same x y h = cc

    at : (t : TargetView) → slice_get s.targets ce ≡ Some t → (v : Option LunView) → slice_get t.luns number ≡ v → look_at_some v ≡ Some lun → IsThere s ce number lun
    at t here None is_v looks = cc
    at t here (Some v) is_v looks = record { t = t; is_target = here; v = v; is_lun = is_v; is_seen = some_same (look_at v) lun looks }

    on : (o : Option TargetView) → slice_get s.targets ce ≡ o → look_on o number ≡ Some lun → IsThere s ce number lun
    on None e h = cc
    on (Some t) e h = at t e (slice_get t.luns number) refl h

-- a ready of a LUN that is seen busy breaks no rule, nor does that of an array which is seen busy
busy_there : (s : BusView) (ce number : ℕ) (fail : Failures) (lun : LunState) → IsThere s ce number lun → lun.busy ≡ true → judged s (Rdy ce number fail) ≡ None
unfolding breaks_not_there
busy_there s ce number fail lun f busy =
    let inside = slice_get_within s.targets ce f.t f.is_target in
    let same : f.v.busy ≡ true = ap (λ (l : LunState). l.busy) f.is_seen ∙ busy in
    let is : lun_is (λ v. v.busy) f.t.luns number ≡ true = ap (λ o. is_some_and (λ (v : LunView). v.busy) o) f.is_lun ∙ same in
    let on : judged_on s.geometry (length s.targets) (Some f.t) (Rdy ce number fail) ≡ None = grind (arith, nat_tests) in
    ap (λ o. judged_on s.geometry (length s.targets) o (Rdy ce number fail)) f.is_target ∙ on

array_busy_there : (s : BusView) (ce number : ℕ) (fail : Bool) (lun : LunState) → IsThere s ce number lun → lun.array_busy ≡ true → judged s (Ard ce number fail) ≡ None
unfolding breaks_not_there
array_busy_there s ce number fail lun f busy =
    let inside = slice_get_within s.targets ce f.t f.is_target in
    let same : f.v.array_busy ≡ true = ap (λ (l : LunState). l.array_busy) f.is_seen ∙ busy in
    let is : lun_is (λ v. v.array_busy) f.t.luns number ≡ true = ap (λ o. is_some_and (λ (v : LunView). v.array_busy) o) f.is_lun ∙ same in
    let on : judged_on s.geometry (length s.targets) (Some f.t) (Ard ce number fail) ≡ None = grind (arith, nat_tests) in
    ap (λ o. judged_on s.geometry (length s.targets) o (Ard ce number fail)) f.is_target ∙ on

only_then : (b : Bool) (o : Option Item) (r : Item) → cond b o None ≡ Some r → o ≡ Some r
only_then true o r h = h
only_then false o r h = cc

record IsGiven (b : Bool) (x r : Item) : Type 0 where
  holds : b ≡ true
  same : x ≡ r

given : (b : Bool) (x r : Item) → cond b (Some x) None ≡ Some r → IsGiven b x r
given true x r h = record { holds = refl; same = cc }
given false x r h = cc

ready_is_permitted : (s : TraceState) (i r : Item) → ready_before s i ≡ Some r → judged_here s r ≡ None
ready_is_permitted s (Cyc c) r h = at (driving_lun s.bus c.ce) (only_then (is_output_inside s c) (ready_at s.bus c.ce (driving_lun s.bus c.ce) c.byte) r h)
  where
    of : (number : ℕ) (o : Option LunState) → looked s.bus (record { ce = c.ce; lun = number }) ≡ o → ready_of s.bus.geometry o c.ce number c.byte ≡ Some r → judged_here s r ≡ None
    of number None e g = cc
    of number (Some lun) e g =
        let is = given (is_status lun.latch && (lun.busy && has_ready c.byte)) (Rdy c.ce number (shown_failures s.bus.geometry lun c.byte)) r g in
        let busy = (and_parts lun.busy (has_ready c.byte) (and_parts (is_status lun.latch) (lun.busy && has_ready c.byte) is.holds).1).0 in
        subst (λ (x : Item). judged_here s x ≡ None) is.same (busy_there s.bus c.ce number (shown_failures s.bus.geometry lun c.byte) lun (seen_there s.bus c.ce number lun e) busy)

    at : (o : Option ℕ) → ready_at s.bus c.ce o c.byte ≡ Some r → judged_here s r ≡ None
    at None g = cc
    at (Some number) g = of number (looked s.bus (record { ce = c.ce; lun = number })) refl g
ready_is_permitted s (Rdy ce lun fail) r h = cc
ready_is_permitted s (Ard ce lun fail) r h = cc

array_ready_is_permitted : (s : TraceState) (i r : Item) → array_ready_before s i ≡ Some r → judged_here s r ≡ None
array_ready_is_permitted s (Cyc c) r h = at (driving_lun s.bus c.ce) (only_then (is_output_inside s c) (array_ready_at s.bus c.ce (driving_lun s.bus c.ce) c.byte) r h)
  where
    of : (number : ℕ) (o : Option LunState) → looked s.bus (record { ce = c.ce; lun = number }) ≡ o → array_ready_of o c.ce number c.byte ≡ Some r → judged_here s r ≡ None
    of number None e g = cc
    of number (Some lun) e g =
        let shows = has_ready c.byte && has_array_ready c.byte in
        let is = given (is_status lun.latch && (not lun.busy && (lun.array_busy && shows))) (Ard c.ce number (shown_array_failure lun c.byte)) r g in
        let rest = (and_parts (is_status lun.latch) (not lun.busy && (lun.array_busy && shows)) is.holds).1 in
        let busy = (and_parts lun.array_busy shows (and_parts (not lun.busy) (lun.array_busy && shows) rest).1).0 in
        subst (λ (x : Item). judged_here s x ≡ None) is.same (array_busy_there s.bus c.ce number (shown_array_failure lun c.byte) lun (seen_there s.bus c.ce number lun e) busy)

    at : (o : Option ℕ) → array_ready_at s.bus c.ce o c.byte ≡ Some r → judged_here s r ≡ None
    at None g = cc
    at (Some number) g = of number (looked s.bus (record { ce = c.ce; lun = number })) refl g
array_ready_is_permitted s (Rdy ce lun fail) r h = cc
array_ready_is_permitted s (Ard ce lun fail) r h = cc

-- ---- 2. whether there is a fault doesn't hang on the number with which one begins to count

-- no fault here, and none after it
parted : (k m : ℕ) (o : Option Forbidden) (xs ys : List BrokenRule) → fault_at k o ++ xs ≡ [] → (xs ≡ [] → ys ≡ []) → fault_at m o ++ ys ≡ []
parted k m None xs ys h more = more h
parted k m (Some rule) xs ys h more = cc

counted_from : (readies : Readies) (items : List Item) (s : TraceState) (k m : ℕ) → faults_from readies s k items ≡ [] → faults_from readies s m items ≡ []
counted_from readies [] s k m h = refl
counted_from readies (i ∷ items) s k m h =
    let b = before_item readies s i items in
    parted k m (judged_here b i) (faults_from readies (gone_on i b) (k + 1) items) (faults_from readies (gone_on i b) (m + 1) items) h
    (λ none. counted_from readies items (gone_on i b) (k + 1) (m + 1) none)

-- a ready that is permitted is passed over
passed : (s : TraceState) (o : Option Item) (rest : List Item) (k m : ℕ) → ((x : Item) → o ≡ Some x → judged_here s x ≡ None) → (faults_from Written s k (listed o ++ rest) ≡ []) ↔ (faults_from Written (gone_on_some o s) m rest ≡ [])
passed s None rest k m permitted = (λ h. counted_from Written rest s k m h, λ h. counted_from Written rest s m k h)
passed s (Some x) rest k m permitted =
    let one : faults_from Written s k (x ∷ rest) ≡ faults_from Written (gone_on x s) (k + 1) rest =
    ap (λ (f : Option Forbidden). fault_at k f ++ faults_from Written (gone_on x s) (k + 1) rest) (permitted x refl) in (
      λ h. counted_from Written rest (gone_on x s) (k + 1) m (sym one ∙ h),
      λ h. one ∙ counted_from Written rest (gone_on x s) m (k + 1) h,
    )

-- ---- 3. a ready that is taken for granted is permitted

working_is_permitted : (s : TraceState) (ce number : ℕ) → may_be_done s ce number ≡ true → judged_here s (Rdy ce number (record { last = false; before = false })) ≡ None
working_is_permitted s ce number h =
    at (looked s.bus (record { ce = ce; lun = number })) refl (and_parts (is_working (looked s.bus (record { ce = ce; lun = number }))) (not (is_denied s ce number)) h).0
  where
    at : (o : Option LunState) → looked s.bus (record { ce = ce; lun = number }) ≡ o → is_working o ≡ true → judged_here s (Rdy ce number (record { last = false; before = false })) ≡ None
    at None e g = cc
    at (Some lun) e g = busy_there s.bus ce number (record { last = false; before = false }) lun (seen_there s.bus ce number lun e) g

-- a LUN that works, and that a target may have
record WorksHere (s : TraceState) (ce number : ℕ) : Type 0 where
  works : may_be_done s ce number ≡ true
  few : number ≤ 3

-- a number that is found is that of such a LUN
abbrev Works : TraceState → ℕ → Option ℕ → Type 0
Works s ce found = (number : ℕ) → found ≡ Some number → WorksHere s ce number

same_number : (m n : ℕ) → Some m ≡ Some n → m ≡ n
same_number m n h = cc

record IsFirst (p : ℕ → Bool) (number : ℕ) : Type 0 where
  is : p number ≡ true
  few : number ≤ 3

first_is : (p : ℕ → Bool) (number : ℕ) → first_of (p 0) (p 1) (p 2) (p 3) ≡ Some number → IsFirst p number
first_is p number h = four (p 0) (p 1) (p 2) (p 3) refl refl refl refl h
  where
    found : (m : ℕ) → m ≤ 3 → p m ≡ true → Some m ≡ Some number → IsFirst p number
    found m few is same = subst (IsFirst p) (same_number m number same) (record { is = is; few = few })

    four : (a b c d : Bool) → p 0 ≡ a → p 1 ≡ b → p 2 ≡ c → p 3 ≡ d → first_of a b c d ≡ Some number → IsFirst p number
    four true b c d e0 e1 e2 e3 g = found 0 (omega arith) e0 g
    four false true c d e0 e1 e2 e3 g = found 1 (omega arith) e1 g
    four false false true d e0 e1 e2 e3 g = found 2 (omega arith) e2 g
    four false false false true e0 e1 e2 e3 g = found 3 (omega arith) e3 g
    four false false false false e0 e1 e2 e3 g = cc

first_works : (s : TraceState) (ce : ℕ) → Works s ce (first_done s ce)
first_works s ce number h =
    let first = first_is (λ n. may_be_done s ce n) number h in
    record { works = first.is; few = first.few }

named_works : (s : TraceState) (ce : ℕ) (row : Option ℕ) → Works s ce (named_done s ce row)
named_works s ce None number h = cc
named_works s ce (Some row) number h =
    let first = first_is (λ n. is_named s ce row n) number h in
    record { works = (and_parts (names_lun s.bus.geometry row number) (may_be_done s ce number) first.is).1; few = first.few }

driving_works : (s : TraceState) (ce : ℕ) → Works s ce (driving_done s ce)
driving_works s ce number h = at (driving_lun s.bus ce) refl h
  where
    one : (m : ℕ) → m ≤ 3 → (b : Bool) → may_be_done s ce m ≡ b → cond b (Some m) None ≡ Some number → WorksHere s ce number
    one m few true e g = subst (WorksHere s ce) (same_number m number g) (record { works = e; few = few })
    one m few false e g = cc

    at : (o : Option ℕ) → driving_lun s.bus ce ≡ o → if_may_be_done s ce o ≡ Some number → WorksHere s ce number
    at None e g = cc
    at (Some m) e g = one m (only_four (lun_drives s.bus ce 0) (lun_drives s.bus ce 1) (lun_drives s.bus ce 2) (lun_drives s.bus ce 3) m e) (may_be_done s ce m) refl g

or_works : (s : TraceState) (ce : ℕ) (o other : Option ℕ) → Works s ce o → Works s ce other → Works s ce (or_else o other)
or_works s ce None other here there = there
or_works s ce (Some m) other here there = here

begin_works : (s : TraceState) (c : Cycle) (later : List Item) → Works s c.ce (to_begin s c later)
begin_works s c later = or_works s c.ce (named_done s c.ce (given_row c later)) (first_done s c.ce) (named_works s c.ce (given_row c later)) (first_works s c.ce)

none_works : (s : TraceState) (ce : ℕ) → Works s ce None
none_works s ce number h = cc

where_works : (s : TraceState) (ce : ℕ) (b : Bool) (o : Option ℕ) → Works s ce o → Works s ce (cond b o None)
where_works s ce true o here = here
where_works s ce false o here = none_works s ce

target_does : (s : TraceState) (ce : ℕ) (row : Option ℕ) → Works s ce (target_done s ce row)
target_does s ce None = none_works s ce
target_does s ce (Some row) = where_works s ce (is_shared s.bus.geometry && target_works s.bus ce) (if_may_be_done s ce (Some 0)) (at (may_be_done s ce 0) refl)
  where
    at : (b : Bool) → may_be_done s ce 0 ≡ b → Works s ce (cond b (Some 0) None)
    at true e number h = subst (WorksHere s ce) (same_number 0 number h) (record { works = e; few = omega arith })
    at false e number h = cc

wanted_works : (rule : Option Forbidden) (s : TraceState) (c : Cycle) (later : List Item) → Works s c.ce (wanted_by rule s c later)
wanted_works None s c later =
    or_works s c.ce (named_done s c.ce (given_row c later)) (target_done s c.ce (given_row c later)) (named_works s c.ce (given_row c later))
    (target_does s c.ce (given_row c later))
wanted_works (Some NotThere) s c later = none_works s c.ce
wanted_works (Some CommandUnknown) s c later = none_works s c.ce
wanted_works (Some SequenceOpen) s c later = none_works s c.ce
wanted_works (Some SeveralLuns) s c later = none_works s c.ce
wanted_works (Some NoColumnToChange) s c later = driving_works s c.ce
wanted_works (Some CommandMisplaced) s c later = none_works s c.ce
wanted_works (Some AddressMisplaced) s c later = none_works s c.ce
wanted_works (Some RowOutside) s c later = none_works s c.ce
wanted_works (Some LunBusy) s c later = where_works s c.ce (is_opening s.bus.geometry (Cyc c)) (to_begin s c later) (begin_works s c later)
wanted_works (Some QueueClash) s c later = none_works s c.ce
wanted_works (Some InputMisplaced) s c later = none_works s c.ce
wanted_works (Some NoSoleDriver) s c later = none_works s c.ce
wanted_works (Some DataNotReady) s c later = driving_works s c.ce
wanted_works (Some ColumnOutside) s c later = none_works s c.ce
wanted_works (Some CacheReadMisplaced) s c later = where_works s c.ce (is_opening s.bus.geometry (Cyc c)) (driving_done s c.ce) (driving_works s c.ce)
wanted_works (Some CacheProgramMisplaced) s c later = none_works s c.ce
wanted_works (Some CopybackMisplaced) s c later = none_works s c.ce
wanted_works (Some PlaneNotHeld) s c later = none_works s c.ce

pub taken_at_work : TakenAtWork
taken_at_work s (Cyc c) later ready h = at (wanted_by (judged_here s (Cyc c)) s c later) refl h
  where
    same_ready : (x y : UnshownReady) → Some x ≡ Some y → x ≡ y
    same_ready x y g = cc

    at : (o : Option ℕ) → wanted_by (judged_here s (Cyc c)) s c later ≡ o → unshown_of c.ce (rule_without (judged_here s (Cyc c))) o ≡ Some ready → WorksThere s (Cyc c) ready
    at None e g = cc
    at (Some number) e g =
        let same = same_ready (record { lun = record { ce = c.ce; lun = number }; rule = rule_without (judged_here s (Cyc c)) }) ready g in
        subst (WorksThere s (Cyc c)) same (record { target = refl; works = working_is_permitted s c.ce number (wanted_works (judged_here s (Cyc c)) s c later number e).works })
taken_at_work s (Rdy ce lun fail) later ready h = cc
taken_at_work s (Ard ce lun fail) later ready h = cc

-- its ready is of the item's target, and of one of four LUNs
pub taken_inside : (s : TraceState) (i : Item) (later : List Item) (r : Item) → IsInside i → ready_taken (unshown s i later) ≡ Some r → IsInside r
taken_inside s (Cyc c) later r p h = at (wanted_by (judged_here s (Cyc c)) s c later) refl h
  where
    same_item : (y : Item) → Some y ≡ Some r → y ≡ r
    same_item y g = cc

    at : (o : Option ℕ) → wanted_by (judged_here s (Cyc c)) s c later ≡ o → ready_taken (unshown_of c.ce (rule_without (judged_here s (Cyc c))) o) ≡ Some r → IsInside r
    at None e g = cc
    at (Some number) e g = subst IsInside (same_item (Rdy c.ce number (record { last = false; before = false })) g) (p, (wanted_works (judged_here s (Cyc c)) s c later number e).few)
taken_inside s (Rdy ce lun fail) later r p h = cc
taken_inside s (Ard ce lun fail) later r p h = cc

taken_is_permitted : (s : TraceState) (i : Item) (later : List Item) (x : Item) → ready_taken (unshown s i later) ≡ Some x → judged_here s x ≡ None
taken_is_permitted s i later x h = at (unshown s i later) refl h
  where
    same_item : (y : Item) → Some y ≡ Some x → y ≡ x
    same_item y g = cc

    at : (o : Option UnshownReady) → unshown s i later ≡ o → ready_taken o ≡ Some x → judged_here s x ≡ None
    at None e g = cc
    at (Some ready) e g = subst (λ (y : Item). judged_here s y ≡ None) (same_item (ready_for ready) g) (taken_at_work s i later ready e).works

further_is_permitted : (s : TraceState) (i : Item) (later : List Item) (x : Item) → ready_taken (further s i later) ≡ Some x → judged_here s x ≡ None
further_is_permitted s i later x h = at (needs_each s.bus.geometry i) h
  where
    at : (b : Bool) → ready_taken (cond b (unshown s i later) None) ≡ Some x → judged_here s x ≡ None
    at true g = taken_is_permitted s i later x g
    at false g = cc

pub further_inside : (s : TraceState) (i : Item) (later : List Item) (r : Item) → IsInside i → ready_taken (further s i later) ≡ Some r → IsInside r
further_inside s i later r p h = at (needs_each s.bus.geometry i) h
  where
    at : (b : Bool) → ready_taken (cond b (unshown s i later) None) ≡ Some r → IsInside r
    at true g = taken_inside s i later r p g
    at false g = cc

-- ---- 4. what is told as not shown is permitted

-- an item leaves the geometry
either_geometry : (b : Bool) (x y : BusView) (g : Parts) → x.geometry ≡ g → y.geometry ≡ g → (cond b x y).geometry ≡ g
either_geometry true x y g here there = here
either_geometry false x y g here there = there

unless_geometry : (rule : Option Forbidden) (i : Item) (s : BusView) → (done_unless rule i s).geometry ≡ s.geometry
unless_geometry None i s = refl
unless_geometry (Some rule) i s = refl

by_geometry : (rule : Option Forbidden) (i : Item) (s : BusView) → (bus_by rule i s).geometry ≡ s.geometry
by_geometry None i s = refl
by_geometry (Some rule) i s =
    either_geometry (leaves_profile (Some rule) s (target_of i)) (bus_without (target_of i) s)
    (cond (is_opening s.geometry i) (done_unless (judged (bus_without (target_of i) s) i) i (bus_without (target_of i) s)) s) s.geometry refl
    (either_geometry (is_opening s.geometry i) (done_unless (judged (bus_without (target_of i) s) i) i (bus_without (target_of i) s)) s s.geometry
    (unless_geometry (judged (bus_without (target_of i) s) i) i (bus_without (target_of i) s)) refl)

same_geometry : (i : Item) (t : TraceState) → (gone_on i t).bus.geometry ≡ t.bus.geometry
same_geometry i t = at (is_outside t i)
  where
    at : (b : Bool) → (cond b t (gone_on_by (judged t.bus i) i t)).bus.geometry ≡ t.bus.geometry
    at true = refl
    at false = by_geometry (judged t.bus i) i t.bus

some_geometry : (o : Option Item) (t : TraceState) → (gone_on_some o t).bus.geometry ≡ t.bus.geometry
some_geometry None t = refl
some_geometry (Some i) t = same_geometry i t

shown_geometry : (s : TraceState) (i : Item) → (with_readies s i).bus.geometry ≡ s.bus.geometry
shown_geometry s i = some_geometry (array_ready_before (with_ready s i) i) (with_ready s i) ∙ some_geometry (ready_before s i) s

-- no further LUN is taken for an item that needs none
none_taken : (s : TraceState) (i : Item) (later : List Item) → needs_each s.bus.geometry i ≡ false → with_further s i later ≡ s
none_taken s i later none = ap (λ (b : Bool). gone_on_some (ready_taken (cond b (unshown s i later) None)) s) none

none_further : (s : TraceState) (i : Item) (later : List Item) → needs_each s.bus.geometry i ≡ false → with_each s i later ≡ s
none_further s i later none =
    let once = none_taken s i later none in
    ap (λ (t : TraceState). with_further (with_further t i later) i later) once ∙ (ap (λ (t : TraceState). with_further t i later) once ∙ once)

pub not_shown_are_permitted : NotShownArePermitted
not_shown_are_permitted state n i later told more h =
    at (unshown (with_readies state i) i later) (judged_here (before_item Shown state i later) i) refl refl h
  where
    s : TraceState
    s = with_readies state i

    same_told : (x y : NotShown) → x ∷ [] ≡ y ∷ more → x ≡ y
    same_told x y g = cc

    no_more : (x y : NotShown) → x ∷ [] ≡ y ∷ more → more ≡ []
    no_more x y g = cc

    with : (ready : UnshownReady) → unshown s i later ≡ Some ready → before_item Shown state i later ≡ with_each (gone_on (ready_for ready) s) i later
    with ready e = ap (λ (o : Option UnshownReady). with_each (gone_on_some (ready_taken o) s) i later) e

    -- where the item needs no further LUN, that is the channel after the one ready
    one_alone : (ready : UnshownReady) → needs_each state.bus.geometry i ≡ false → with_each (gone_on (ready_for ready) s) i later ≡ gone_on (ready_for ready) s
    one_alone ready none =
        none_further (gone_on (ready_for ready) s) i later
        (ap (λ (g : Parts). needs_each g i) (same_geometry (ready_for ready) s ∙ shown_geometry state i) ∙ none)

    at : (o : Option UnshownReady) (rule : Option Forbidden) → unshown s i later ≡ o → judged_here (before_item Shown state i later) i ≡ rule → not_shown_by n o rule ≡ told ∷ more → (more ≡ []) × IsNotShown state n i later told
    at None rule e is g = cc
    at (Some ready) (Some rule) e is g = cc
    at (Some ready) None e is g =
        let w = taken_at_work s i later ready e in
        let one : NotShown = record { item = n; ready = ready } in
        let permitted : judged_here (with_each (gone_on (ready_for ready) s) i later) i ≡ None = sym (ap (λ (b : TraceState). judged_here b i) (with ready e)) ∙ is in (
          no_more one told g,
          subst (IsNotShown state n i later) (same_told one told g)
              (record {
                number = refl;
                target = w.target;
                works = w.works;
                permitted = permitted;
                alone = λ none. sym (ap (λ (b : TraceState). judged_here b i) (one_alone ready none)) ∙ permitted;
              }),
        )

-- ---- 5. the law

-- what is taken is passed over
passed_further : (s : TraceState) (i : Item) (items rest : List Item) (k m : ℕ) → (faults_from Written s k (further_ready s i items ++ rest) ≡ []) ↔ (faults_from Written (with_further s i items) m rest ≡ [])
passed_further s i items rest k m = passed s (ready_taken (further s i items)) rest k m (further_is_permitted s i items)

passed_each : (s : TraceState) (i : Item) (items rest : List Item) (k m : ℕ) → (faults_from Written s k (further_readies s i items ++ rest) ≡ []) ↔ (faults_from Written (with_each s i items) m rest ≡ [])
passed_each s i items rest k m =
    let one = with_further s i items in
    let two = with_further one i items in
    let a = further_ready s i items in
    let b = further_ready one i items in
    let c = further_ready two i items in
    let first = passed_further s i items (b ++ (c ++ rest)) k 0 in
    let second = passed_further one i items (c ++ rest) 0 0 in
    let third = passed_further two i items rest 0 m in
    let grouped = ap (λ (is : List Item). faults_from Written s k is) (append_assoc a (b ++ c) rest ∙ ap (λ (is : List Item). a ++ is) (append_assoc b c rest)) in (
      λ h. third.0 (second.0 (first.0 (sym grouped ∙ h))),
      λ h. grouped ∙ first.1 (second.1 (third.1 h)),
    )

passed_taken : (s : TraceState) (i : Item) (items rest : List Item) (k m : ℕ) → (faults_from Written s k (taken_readies s i items ++ rest) ≡ []) ↔ (faults_from Written (with_taken Shown s i items) m rest ≡ [])
passed_taken s i items rest k m =
    let t = ready_taken (unshown s i items) in
    let more = further_readies (with_unshown s i items) i items in
    let first = passed s t (more ++ rest) k 0 (taken_is_permitted s i items) in
    let second = passed_each (with_unshown s i items) i items rest 0 m in
    let grouped = ap (λ (is : List Item). faults_from Written s k is) (append_assoc (listed t) more rest) in (
      λ h. second.0 (first.0 (sym grouped ∙ h)),
      λ h. grouped ∙ first.1 (second.1 h),
    )

same_from : (items : List Item) (s : TraceState) (k m : ℕ) → (faults_from Shown s k items ≡ []) ↔ (faults_from Written s m (completed_from s items) ≡ [])
same_from [] s k m = (λ h. refl, λ h. refl)
same_from (i ∷ items) s k m =
    let r = ready_before s i in
    let a = array_ready_before (with_ready s i) i in
    let shown = with_readies s i in
    let t = taken_readies shown i items in
    let whole = before_item Shown s i items in
    let rest = completed_from (gone_on i whole) items in
    let first = passed s r (listed a ++ (t ++ (i ∷ rest))) m 0 (ready_is_permitted s i) in
    let second = passed (with_ready s i) a (t ++ (i ∷ rest)) 0 0 (array_ready_is_permitted (with_ready s i) i) in
    let later = same_from items (gone_on i whole) (k + 1) (0 + 1) in
    let third = passed_taken shown i items (i ∷ rest) 0 0 in
    let grouped = ap (λ (is : List Item). faults_from Written s m is) (append_assoc (listed r ++ listed a) t (i ∷ rest) ∙ append_assoc (listed r) (listed a) (t ++ (i ∷ rest))) in (
      λ h. grouped ∙ first.1 (second.1 (third.1 (parted k 0 (judged_here whole i) (faults_from Shown (gone_on i whole) (k + 1) items) (faults_from Written (gone_on i whole) (0 + 1) rest) h later.0))),
      λ h. parted 0 k (judged_here whole i) (faults_from Written (gone_on i whole) (0 + 1) rest) (faults_from Shown (gone_on i whole) (k + 1) items) (third.0 (second.0 (first.0 (sym grouped ∙ h)))) later.1,
    )

pub completed_are_judged : CompletedAreJudged
completed_are_judged g n items =
    let same = same_from items (fresh_for g n items) 0 0 in
    let legal = faultless_from g n (completed g n items) (fresh_for g n items) (fresh_is_on g n items) in (
      λ h. legal.0 (same.0 h),
      λ h. same.1 (legal.1 h),
    )
