-- What the faults of a trace say of it.
use Rattle.std.proofs.Common.{◌≡◌, ◌↔◌, ℕ, zero, suc, ◌+◌, Bool, true, false, cond, slice_set, List, [], ◌∷◌, ◌++◌, Option, Some, None, refl, sym, ap, ◌∙◌, arith, append_assoc, length, drop, take, reverse, is_none, get_or, ◌<◌, subst}
use Rattle.std.specs.List.{slice_get}
use Rattle.std.proofs.lemmas.Grind.{common_steps}
use Rattle.std.proofs.lemmas.List.{reverse-append, append-nil}
use Rattle.std.proofs.lemmas.Option.{slice_get_within, get_or_from_slice_get}
use Rattle.std.proofs.lemmas.Bool.{and_parts}
use Rattle.nand_geometry.specs.declared.parts.Parts.{Parts}
use Rattle.onfi_cycle.specs.declared.item.Item.{Item}
use Rattle.onfi_cycle.specs.declared.item.Item.TheVariants.{Cyc, Rdy, Ard}
use Rattle.onfi_cycle.specs.declared.command.Command.{Command}
use Rattle.onfi_cycle.specs.declared.command.Command.TheVariants.{Read, ReadConfirm, ChangeReadColumn, ChangeReadColumnEnhanced, ChangeReadColumnConfirm, BlockErase, BlockEraseConfirm, BlockErasePlane, ReadStatus, ReadStatusEnhanced, PageProgram, ChangeWriteColumn, ProgramConfirm, ProgramPlane, ReadId, ReadParameterPage, Reset, ReadCacheSequential, ReadCacheEnd, ReadUniqueId, GetFeatures, SetFeatures, ResetLun, SynchronousReset, Unknown, ReadPlane, CopybackRead, ProgramCache}
use Rattle.onfi_cycle.specs.declared.target_cycle.TargetCycle.{TargetCycle}
use Rattle.onfi_cycle.specs.declared.target_cycle.TargetCycle.TheVariants.{CommandCycle, AddressCycle, InputCycle, OutputCycle}
use Rattle.onfi_cycle.specs.Sequence.{target_cycle}
use Rattle.onfi_cycle.specs.declared.forbidden.Forbidden.{Forbidden}
use Rattle.onfi_cycle.specs.Permitted.{broken, is_permitted, is_legal, IsFirstBroken}
use Rattle.onfi_cycle.specs.State.{BusView, Follows, judged}
use Rattle.onfi_cycle.proofs.Following.{judged_is_broken, bus_goes_on}
use Rattle.trace_faults.specs.declared.broken_rule.BrokenRule.{BrokenRule}
use Rattle.trace_faults.specs.declared.readies.Readies.TheVariants.{Written}
use Rattle.trace_faults.specs.declared.standing.Standing.{Standing}
use Rattle.trace_faults.specs.declared.standing.Standing.TheVariants.{Inside}
use Rattle.trace_faults.specs.declared.trace_state.TraceState.{TraceState}
use Rattle.trace_faults.specs.Outside.{standing_of, after_command, after_cycle, standings_after, belongs_outside, is_outside}
use Rattle.trace_faults.specs.Recovery.{all_inside, fresh_for, judged_here, gone_on, gone_on_by}
use Rattle.trace_faults.specs.Faults.{fault_at, faults_from}
use Rattle.trace_faults.specs.Laws.{FaultlessAreLegal, FirstBrokenIsFirst, FirstIsFirstBroken}

-- ---- 0. as long as all is permitted, no target leaves the profile

inside_at : (ce : ℕ) → standing_of all_inside ce ≡ Inside
inside_at zero = refl
inside_at (suc zero) = refl
inside_at (suc (suc zero)) = refl
inside_at (suc (suc (suc zero))) = refl
inside_at (suc (suc (suc (suc ce)))) = refl

set_inside : (ce : ℕ) → slice_set all_inside ce Inside ≡ all_inside
set_inside zero = refl
set_inside (suc zero) = refl
set_inside (suc (suc zero)) = refl
set_inside (suc (suc (suc zero))) = refl
set_inside (suc (suc (suc (suc ce)))) = refl

command_inside : (c : Command) → after_command c Inside ≡ Inside
command_inside Read = refl
command_inside ReadConfirm = refl
command_inside ReadPlane = refl
command_inside CopybackRead = refl
command_inside ProgramCache = refl
command_inside ChangeReadColumn = refl
command_inside ChangeReadColumnEnhanced = refl
command_inside ChangeReadColumnConfirm = refl
command_inside BlockErase = refl
command_inside BlockEraseConfirm = refl
command_inside BlockErasePlane = refl
command_inside ReadStatus = refl
command_inside ReadStatusEnhanced = refl
command_inside PageProgram = refl
command_inside ChangeWriteColumn = refl
command_inside ProgramConfirm = refl
command_inside ProgramPlane = refl
command_inside ReadId = refl
command_inside ReadParameterPage = refl
command_inside Reset = refl
command_inside ReadCacheSequential = refl
command_inside ReadCacheEnd = refl
command_inside ReadUniqueId = refl
command_inside GetFeatures = refl
command_inside SetFeatures = refl
command_inside ResetLun = refl
command_inside SynchronousReset = refl
command_inside Unknown = refl

cycle_inside : (c : TargetCycle) → after_cycle c Inside ≡ Inside
cycle_inside (CommandCycle c) = command_inside c
cycle_inside (AddressCycle byte) = refl
cycle_inside (InputCycle byte) = refl
cycle_inside OutputCycle = refl

pub standings_inside : (s : BusView) (i : Item) → standings_after None s i all_inside ≡ all_inside
standings_inside s (Cyc c) =
    ap (λ (x : Standing). slice_set all_inside c.ce (after_cycle (target_cycle c.kind c.byte) x)) (inside_at c.ce)
    ∙ ap (λ (x : Standing). slice_set all_inside c.ce x) (cycle_inside (target_cycle c.kind c.byte))
    ∙ set_inside c.ce
standings_inside s (Rdy ce lun fail) = refl
standings_inside s (Ard ce lun fail) = refl

-- nothing is passed over
pub is_inside : (t : TraceState) (i : Item) → t.standings ≡ all_inside → is_outside t i ≡ false
is_inside t (Cyc c) inside =
    ap (λ (xs : List Standing). belongs_outside (standing_of xs c.ce) t.bus c) inside ∙ ap (λ (x : Standing). belongs_outside x t.bus c) (inside_at c.ce)
is_inside t (Rdy ce lun fail) inside = refl
is_inside t (Ard ce lun fail) inside = refl

pub judged_inside : (t : TraceState) (i : Item) → t.standings ≡ all_inside → judged_here t i ≡ judged t.bus i
judged_inside t i inside = ap (λ (b : Bool). cond b None (judged t.bus i)) (is_inside t i inside)

-- the state follows a past, and no target is outside of the profile
pub record IsOn (g : Parts) (n : ℕ) (t : TraceState) (past : List Item) : Type 0 where
  pub follows : Follows g n t.bus past
  pub inside : t.standings ≡ all_inside

pub goes_on : (g : Parts) (n : ℕ) (t : TraceState) (past : List Item) (i : Item) → judged_here t i ≡ None → IsOn g n t past → IsOn g n (gone_on i t) (i ∷ past)
goes_on g n t past i is on =
    let permitted : judged t.bus i ≡ None = sym (judged_inside t i on.inside) ∙ is in
    let next : gone_on i t ≡ gone_on_by None i t =
    ap (λ (b : Bool). cond b t (gone_on_by (judged t.bus i) i t)) (is_inside t i on.inside) ∙ ap (λ (o : Option Forbidden). gone_on_by o i t) permitted in
    subst (λ (x : TraceState). IsOn g n x (i ∷ past)) (sym next) (record {
      follows = bus_goes_on g n t.bus past i permitted on.follows;
      inside = ap (λ (xs : List Standing). standings_after None t.bus i xs) on.inside ∙ standings_inside t.bus i;
    })

-- what is judged is what is permitted after the past
pub judged_after : (g : Parts) (n : ℕ) (t : TraceState) (past : List Item) (i : Item) → IsOn g n t past → judged_here t i ≡ broken g n past i
judged_after g n t past i on = judged_inside t i on.inside ∙ judged_is_broken g n t.bus past i on.follows

-- a channel to which nothing has happened follows the empty past
pub fresh_is_on : (g : Parts) (n : ℕ) (items : List Item) → IsOn g n (fresh_for g n items) []
fresh_is_on g n items = record { follows = record { legal = refl; geometry = refl; facts = refl }; inside = refl }

-- ---- 1. no fault, and a legal trace

pub onto : (i : Item) (items past : List Item) → reverse (i ∷ items) ++ past ≡ reverse items ++ (i ∷ past)
onto i items past = ap (λ (xs : List Item). xs ++ past) (reverse-append (i ∷ []) items) ∙ append_assoc (reverse items) (i ∷ []) past

pub legal_from : (g : Parts) (n : ℕ) (items : List Item) (s : TraceState) (past : List Item) (k : ℕ) → IsOn g n s past → faults_from Written s k items ≡ [] → is_legal g n (reverse items ++ past) ≡ true
legal_from g n [] s past k f none = f.follows.legal
legal_from g n (i ∷ items) s past k f none =
    at (judged_here s i) refl none (λ is h. legal_from g n items (gone_on i s) (i ∷ past) (k + 1) (goes_on g n s past i is f) h)
  where
    at :
        (o : Option Forbidden) →
        judged_here s i ≡ o →
        fault_at k o ++ faults_from Written (gone_on i s) (k + 1) items ≡ [] →
        (judged_here s i ≡ None → faults_from Written (gone_on i s) (k + 1) items ≡ [] → is_legal g n (reverse items ++ (i ∷ past)) ≡ true) →
        is_legal g n (reverse (i ∷ items) ++ past) ≡ true
    at None is h more = ap (is_legal g n) (onto i items past) ∙ more is h
    at (Some rule) is h more = cc

-- what stands before part of a legal past is legal
pub before : (g : Parts) (n : ℕ) (later past : List Item) → is_legal g n (later ++ past) ≡ true → is_legal g n past ≡ true
before g n [] past h = h
before g n (i ∷ later) past h = before g n later past (and_parts (is_permitted g n (later ++ past) i) (is_legal g n (later ++ past)) h).1

pub nothing : (o : Option Forbidden) → is_none o ≡ true → o ≡ None
nothing None h = refl
nothing (Some rule) h = cc

pub none_from : (g : Parts) (n : ℕ) (items : List Item) (s : TraceState) (past : List Item) (k : ℕ) → IsOn g n s past → is_legal g n (reverse items ++ past) ≡ true → faults_from Written s k items ≡ []
none_from g n [] s past k f legal = refl
none_from g n (i ∷ items) s past k f legal =
    let more : is_legal g n (reverse items ++ (i ∷ past)) ≡ true = sym (ap (is_legal g n) (onto i items past)) ∙ legal in
    let permitted = (and_parts (is_permitted g n past i) (is_legal g n past) (before g n (reverse items) (i ∷ past) more)).0 in
    let is : judged_here s i ≡ None = judged_after g n s past i f ∙ nothing (broken g n past i) permitted in
    ap (λ (o : Option Forbidden). fault_at k o ++ faults_from Written (gone_on i s) (k + 1) items) is ∙
    none_from g n items (gone_on i s) (i ∷ past) (k + 1) (goes_on g n s past i is f) more

-- of a state that follows no past, whatever is kept of readies
pub faultless_from : (g : Parts) (n : ℕ) (items : List Item) (t : TraceState) → IsOn g n t [] → (faults_from Written t 0 items ≡ []) ↔ (is_legal g n (reverse items) ≡ true)
faultless_from g n items t on = (
  λ none. sym (ap (is_legal g n) (append-nil (reverse items))) ∙ legal_from g n items t [] 0 on none,
  λ legal. none_from g n items t [] 0 on (ap (is_legal g n) (append-nil (reverse items)) ∙ legal),
)

pub faultless_are_legal : FaultlessAreLegal
faultless_are_legal g n items = faultless_from g n items (fresh_for g n items) (fresh_is_on g n items)

-- ---- 2. the first fault

there : {X : Type 0} (x : X) (rest xs : List X) (k : ℕ) → x ∷ rest ≡ drop k xs → slice_get xs k ≡ Some x
there x rest [] zero h = cc
there x rest [] (suc k) h = cc
there x rest (y ∷ xs) zero h = cc
there x rest (y ∷ xs) (suc k) h = there x rest xs k h

left : {X : Type 0} (x : X) (rest xs : List X) (k : ℕ) → x ∷ rest ≡ drop k xs → rest ≡ drop (suc k) xs
left x rest [] zero h = cc
left x rest [] (suc k) h = cc
left x rest (y ∷ xs) zero h = cc
left x rest (y ∷ xs) (suc k) h = left x rest xs k h

more_past : (items : List Item) (k : ℕ) (d : Item) → k < length items → get_or items k d ∷ reverse (take k items) ≡ reverse (take (k + 1) items)
more_past items k d h = grind (arith, common_steps)

same_fault : (f : BrokenRule) (fs gs : List BrokenRule) (e : BrokenRule) → e ∷ gs ≡ f ∷ fs → e ≡ f
same_fault f fs gs e h = cc

pub first_from : (g : Parts) (n : ℕ) (items part : List Item) (s : TraceState) (k : ℕ) (fault : BrokenRule) (faults : List BrokenRule) → part ≡ drop k items → IsOn g n s (reverse (take k items)) → faults_from Written s k part ≡ fault ∷ faults → IsFirstBroken g n items fault.item fault.rule
first_from g n items [] s k fault faults is f h = cc
first_from g n items (i ∷ part) s k fault faults is f h =
    let here = there i part items k is in
    let past : i ∷ reverse (take k items) ≡ reverse (take (k + 1) items) =
    ap (λ (x : Item). x ∷ reverse (take k items)) (sym (get_or_from_slice_get items k i i here)) ∙ more_past items k i (slice_get_within items k i here) in
    let next : suc k ≡ k + 1 = omega arith in
    at (judged_here s i) refl h
    (λ j e. first_from g n items part (gone_on i s) (k + 1) fault faults (left i part items k is ∙ ap (λ (m : ℕ). drop m items) next)
    (subst (IsOn g n (gone_on i s)) past (goes_on g n s (reverse (take k items)) i j f)) e)
  where
    at :
        (o : Option Forbidden) →
        judged_here s i ≡ o →
        fault_at k o ++ faults_from Written (gone_on i s) (k + 1) part ≡ fault ∷ faults →
        (judged_here s i ≡ None → faults_from Written (gone_on i s) (k + 1) part ≡ fault ∷ faults → IsFirstBroken g n items fault.item fault.rule) →
        IsFirstBroken g n items fault.item fault.rule
    at None j e more = more j e
    at (Some rule) j e more =
        subst (λ (x : BrokenRule). IsFirstBroken g n items x.item x.rule)
        (same_fault fault faults (faults_from Written (gone_on i s) (k + 1) part) (record { item = k; rule = rule }) e)
        (record { item = i; there = there i part items k is; legal = f.follows.legal; breaks = sym (judged_after g n s (reverse (take k items)) i f) ∙ j })

pub first_is_first_broken : FirstIsFirstBroken
first_is_first_broken g n items fault faults h = first_from g n items items (fresh_for g n items) 0 fault faults refl (fresh_is_on g n items) h

-- ---- 3. the first item that isn't permitted is the first fault

pub first_broken_from :
    (g : Parts) (n k : ℕ) (items : List Item) (s : TraceState) (past : List Item) (m : ℕ) (item : Item) (rule : Forbidden) →
    IsOn g n s past →
    slice_get items k ≡ Some item →
    is_legal g n (reverse (take k items) ++ past) ≡ true →
    broken g n (reverse (take k items) ++ past) item ≡ Some rule →
    (faults : List BrokenRule) × (faults_from Written s m items ≡ record { item = m + k; rule = rule } ∷ faults)
first_broken_from g n zero [] s past m item rule f is legal breaks = cc
first_broken_from g n zero (i ∷ items) s past m item rule f is legal breaks =
    let same : i ≡ item = cc in
    let judges : judged_here s i ≡ Some rule = judged_after g n s past i f ∙ (ap (broken g n past) same ∙ breaks) in
    let here : m ≡ m + 0 = omega arith in (
      faults_from Written (gone_on i s) (m + 1) items,
      ap (λ (o : Option Forbidden). fault_at m o ++ faults_from Written (gone_on i s) (m + 1) items) judges ∙
          ap (λ (p : ℕ). record { item = p; rule = rule } ∷ faults_from Written (gone_on i s) (m + 1) items) here,
    )
first_broken_from g n (suc k) [] s past m item rule f is legal breaks = cc
first_broken_from g n (suc k) (i ∷ items) s past m item rule f is legal breaks =
    let more : is_legal g n (reverse (take k items) ++ (i ∷ past)) ≡ true = sym (ap (is_legal g n) (onto i (take k items) past)) ∙ legal in
    let permitted = (and_parts (is_permitted g n past i) (is_legal g n past) (before g n (reverse (take k items)) (i ∷ past) more)).0 in
    let judges : judged_here s i ≡ None = judged_after g n s past i f ∙ nothing (broken g n past i) permitted in
    let later = first_broken_from g n k items (gone_on i s) (i ∷ past) (m + 1) item rule (goes_on g n s past i judges f) is more
    (sym (ap (λ (p : List Item). broken g n p item) (onto i (take k items) past)) ∙ breaks) in
    let place : m + 1 + k ≡ m + suc k = omega arith in (
      later.0,
      ap (λ (o : Option Forbidden). fault_at m o ++ faults_from Written (gone_on i s) (m + 1) items) judges ∙
          (later.1 ∙ ap (λ (p : ℕ). record { item = p; rule = rule } ∷ later.0) place),
    )

pub first_broken_is_first : FirstBrokenIsFirst
first_broken_is_first g n items place rule f =
    let past : reverse (take place items) ++ [] ≡ reverse (take place items) = append-nil (reverse (take place items)) in
    let found = first_broken_from g n place items (fresh_for g n items) [] 0 f.item rule (fresh_is_on g n items) f.there (ap (is_legal g n) past ∙ f.legal) (ap (λ (p : List Item). broken g n p f.item) past ∙ f.breaks) in
    let here : 0 + place ≡ place = omega arith in
    (found.0, found.1 ∙ ap (λ (p : ℕ). record { item = p; rule = rule } ∷ found.0) here)
