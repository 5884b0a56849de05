-- What a check tells of a trace: its first fault, whether its text can be written, and whether it is legal.
use Rattle.std.proofs.Common.{◌≡◌, ℕ, ◌+◌, true, false, Bool, List, [], ◌∷◌, ◌++◌, Option, Some, None, refl, sym, ap, subst, ◌∙◌, arith, take, reverse, append_assoc, suc, zero}
use Rattle.std.specs.List.{All}
use Rattle.nand_geometry.specs.declared.parts.Parts.{Parts}
use Rattle.onfi_cycle.specs.declared.item.Item.{Item}
use Rattle.onfi_cycle.specs.declared.forbidden.Forbidden.{Forbidden}
use Rattle.onfi_cycle.specs.Permitted.{is_legal, IsFirstBroken}
use Rattle.trace_faults.specs.declared.broken_rule.BrokenRule.{BrokenRule}
use Rattle.trace_faults.specs.declared.unshown.NotShown.{NotShown}
use Rattle.trace_faults.specs.declared.readies.Readies.{Readies}
use Rattle.trace_faults.specs.declared.readies.Readies.TheVariants.{Written, Shown}
use Rattle.trace_faults.specs.Recovery.{fresh_for, gone_on}
use Rattle.trace_faults.specs.Inside.{IsInside}
use Rattle.trace_faults.specs.ShownReadies.{ready_before, array_ready_before, with_ready, with_readies, listed}
use Rattle.trace_faults.specs.Unshown.{unshown, further, ready_taken}
use Rattle.trace_faults.specs.Faults.{before_item, faults_of, not_shown_from, not_shown_of, completed_from, completed, with_unshown, with_further, further_ready, further_readies, taken_readies}
use Rattle.trace_faults.proofs.Inside.{ready_inside, array_ready_inside}
use Rattle.trace_faults.proofs.Judged.{faultless_are_legal, first_broken_is_first}
use Rattle.trace_faults.proofs.Shown.{taken_inside, further_inside, completed_are_judged}
use Rattle.trace_text.specs.Line.{IsPrintable}
use Rattle.trace_text.specs.Checking.{TellsFirst}
use Rattle.trace_text.specs.declared.checking.CheckRefusal.{CheckRefusal}
use Rattle.trace_text.specs.declared.checking.CheckRefusal.TheVariants.{At}
use Rattle.onfi_cycle.specs.declared.item.Item.TheVariants.{Cyc, Rdy, Ard}
use Rattle.trace_faults.specs.declared.trace_state.TraceState.{TraceState}
use Rattle.recording.specs.Targets.{count_of}
use Rattle.trace_faults.specs.declared.beginning.Beginning.{Beginning}
use Rattle.trace_faults.specs.declared.beginning.Beginning.TheVariants.{Start, Middle}
use Rattle.recording.specs.Rules.{told_of, faults_as, judged_trace, IsLegalAs}

-- nothing is told of a legal trace
pub none_told : (g : Parts) (n : ℕ) (items : List Item) → is_legal g n (reverse items) ≡ true → [] ≡ take 1 (faults_of Written g n items)
none_told g n items legal = sym (ap (λ (fs : List BrokenRule). take 1 fs) ((faultless_are_legal g n items).1 legal))

-- and of another its first fault
pub first_told : (g : Parts) (n : ℕ) (items : List Item) (place : ℕ) (rule : Forbidden) → IsFirstBroken g n items place rule → record { item = place; rule = rule } ∷ [] ≡ take 1 (faults_of Written g n items)
first_told g n items place rule first =
    let found = first_broken_is_first g n items place rule first in
    sym (ap (λ (fs : List BrokenRule). take 1 fs) found.1)

pub told_at : (g : Parts) (m n : ℕ) (items : List Item) (refusal : CheckRefusal) (place : ℕ) (rule : Forbidden) → m ≡ n → refusal ≡ At place rule → TellsFirst g m items refusal → IsFirstBroken g n items place rule
told_at g m n items refusal place rule same is tells = subst (λ k. IsFirstBroken g k items place rule) same (subst (TellsFirst g m items) is tells)

-- where readies are written none is taken for granted
none_taken : (items : List Item) (s : TraceState) (k : ℕ) → not_shown_from Written s k items ≡ []
none_taken [] s k = refl
none_taken (i ∷ items) s k = none_taken items (gone_on i s) (k + 1)

pub none_not_shown : (g : Parts) (n : ℕ) (items : List Item) → not_shown_of Written g n items ≡ []
none_not_shown g n items = none_taken items (fresh_for g n items) 0

-- ---- the text of a trace with its readies can be written, where that of the trace can

pub none_printable : All IsPrintable []
none_printable k d h = absurd (omega (arith, h))

pub more_printable : (i : Item) (items : List Item) → IsPrintable i → All IsPrintable items → All IsPrintable (i ∷ items)
more_printable i items here rest zero d h = here
more_printable i items here rest (suc k) d h = rest k d (omega (arith, h))

some_printable : (o : Option Item) (items : List Item) → ((i : Item) → o ≡ Some i → IsPrintable i) → All IsPrintable items → All IsPrintable (listed o ++ items)
some_printable None items here rest = rest
some_printable (Some i) items here rest = more_printable i items (here i refl) rest

printable_inside : (i : Item) → IsPrintable i → IsInside i
printable_inside (Cyc c) p = p
printable_inside (Rdy ce lun fail) p = p
printable_inside (Ard ce lun fail) p = p

pub inside_printable : (i : Item) → IsInside i → IsPrintable i
inside_printable (Cyc c) p = p
inside_printable (Rdy ce lun fail) p = p
inside_printable (Ard ce lun fail) p = p

ready_printable : (s : TraceState) (i r : Item) → IsPrintable i → ready_before s i ≡ Some r → IsPrintable r
ready_printable s i r p is = inside_printable r (ready_inside s i r (printable_inside i p) is)

array_ready_printable : (s : TraceState) (i r : Item) → IsPrintable i → array_ready_before s i ≡ Some r → IsPrintable r
array_ready_printable s i r p is = inside_printable r (array_ready_inside s i r (printable_inside i p) is)

taken_printable : (s : TraceState) (i : Item) (later : List Item) (r : Item) → IsPrintable i → ready_taken (unshown s i later) ≡ Some r → IsPrintable r
taken_printable s i later r p is = inside_printable r (taken_inside s i later r (printable_inside i p) is)

further_printable : (s : TraceState) (i : Item) (later : List Item) (r : Item) → IsPrintable i → ready_taken (further s i later) ≡ Some r → IsPrintable r
further_printable s i later r p is = inside_printable r (further_inside s i later r (printable_inside i p) is)

each_printable : (s : TraceState) (i : Item) (later rest : List Item) → IsPrintable i → All IsPrintable rest → All IsPrintable (further_readies s i later ++ rest)
each_printable s i later rest p all =
    let one = with_further s i later in
    let two = with_further one i later in
    let a = further_ready s i later in
    let b = further_ready one i later in
    let c = further_ready two i later in
    subst (All IsPrintable) (sym (append_assoc a (b ++ c) rest ∙ ap (λ (is : List Item). a ++ is) (append_assoc b c rest)))
    (some_printable (ready_taken (further s i later)) (b ++ (c ++ rest)) (λ x is. further_printable s i later x p is)
    (some_printable (ready_taken (further one i later)) (c ++ rest) (λ x is. further_printable one i later x p is)
    (some_printable (ready_taken (further two i later)) rest (λ x is. further_printable two i later x p is) all)))

all_taken_printable : (s : TraceState) (i : Item) (later rest : List Item) → IsPrintable i → All IsPrintable rest → All IsPrintable (taken_readies s i later ++ rest)
all_taken_printable s i later rest p all =
    let t = ready_taken (unshown s i later) in
    let more = further_readies (with_unshown s i later) i later in
    subst (All IsPrintable) (sym (append_assoc (listed t) more rest))
    (some_printable t (more ++ rest) (λ x is. taken_printable s i later x p is) (each_printable (with_unshown s i later) i later rest p all))

completed_from_printable : (items : List Item) (s : TraceState) → All IsPrintable items → All IsPrintable (completed_from s items)
completed_from_printable [] s all = none_printable
completed_from_printable (i ∷ items) s all =
    let here : IsPrintable i = all 0 i (omega arith) in
    let rest : All IsPrintable items = λ k d h. all (suc k) d (omega (arith, h)) in
    let r = ready_before s i in
    let a = array_ready_before (with_ready s i) i in
    let shown = with_readies s i in
    let t = taken_readies shown i items in
    let next = gone_on i (before_item Shown s i items) in
    let later = completed_from next items in
    subst (All IsPrintable) (sym (append_assoc (listed r ++ listed a) t (i ∷ later) ∙ append_assoc (listed r) (listed a) (t ++ (i ∷ later))))
    (some_printable r (listed a ++ (t ++ (i ∷ later))) (λ x is. ready_printable s i x here is)
    (some_printable a (t ++ (i ∷ later)) (λ x is. array_ready_printable (with_ready s i) i x here is)
    (all_taken_printable shown i items (i ∷ later) here
    (more_printable i later here (completed_from_printable items next rest)))))

pub completed_printable : (g : Parts) (n : ℕ) (items written : List Item) → All IsPrintable items → written ≡ completed g n items → All IsPrintable written
completed_printable g n items written all is = subst (All IsPrintable) (sym is) (completed_from_printable items (fresh_for g n items) all)

-- ---- a trace of which nothing is told is legal

none_of_first : (faults : List BrokenRule) → take 1 faults ≡ [] → faults ≡ []
none_of_first [] h = refl
none_of_first (f ∷ faults) h = cc

pub none_of_all : (all : Bool) (faults : List BrokenRule) → told_of all faults ≡ [] → faults ≡ []
none_of_all true faults h = h
none_of_all false faults h = none_of_first faults h

pub faultless : (readies : Readies) (g : Parts) (n : ℕ) (items : List Item) → faults_of readies g n items ≡ [] → is_legal g n (reverse (judged_trace readies g n items)) ≡ true
faultless Written g n items none = (faultless_are_legal g n items).0 none
faultless Shown g n items none = (completed_are_judged g n items).0 none

pub faultless_as : (beginning : Beginning) (readies : Readies) (g : Parts) (n : ℕ) (items : List Item) → faults_as beginning readies g n items ≡ [] → IsLegalAs beginning readies g n items
faultless_as Start readies g n items none = faultless readies g n items none
faultless_as Middle readies g n items none = none
