-- Where nothing is passed over or taken for granted, a trace is judged as a whole one.
use Rattle.std.proofs.Common.{◌≡◌, ℕ, ◌+◌, true, false, Bool, List, [], ◌∷◌, ◌++◌, Option, Some, None, refl, sym, ap, ◌∙◌, arith, cond, ◌&&◌}
use Rattle.onfi_cycle.specs.declared.item.Item.{Item}
use Rattle.onfi_cycle.specs.declared.item.Item.TheVariants.{Cyc, Rdy, Ard}
use Rattle.onfi_cycle.specs.declared.forbidden.Forbidden.{Forbidden}
use Rattle.onfi_cycle.specs.Sequence.{target_of}
use Rattle.trace_faults.specs.declared.trace_state.TraceState.{TraceState}
use Rattle.trace_faults.specs.declared.known.Known.{Known}
use Rattle.trace_faults.specs.declared.verdict.Verdict.{Verdict}
use Rattle.trace_faults.specs.declared.verdict.Verdict.TheVariants.{Permitted, PassedOver, Granted, Broken, NotShown}
use Rattle.trace_faults.specs.declared.unshown.UnshownReady.{UnshownReady}
use Rattle.trace_faults.specs.declared.broken_rule.BrokenRule.{BrokenRule}
use Rattle.trace_faults.specs.declared.readies.Readies.{Readies}
use Rattle.trace_faults.specs.Recovery.{judged_here, gone_on}
use Rattle.trace_faults.specs.Faults.{fault_at, before_taken, before_item, taken_on, faults_from}
use Rattle.trace_faults.proofs.Middles.{still_granted}
use Rattle.trace_faults.specs.Middle.{Seen, known_of, doubts, doubts_ready, hangs_on_before, of_cycle, of_ready, verdict_on, verdict_here, is_passed_over, is_granted, is_granted_here, shown_here, here, with_ready_taken, said_of, seen_by, verdicts_from, broken_in, granted_in, one_passed_over, all_broken, all_granted, count_passed_over, first_seen}
use Rattle.trace_faults.specs.Laws.{WholeAreJudgedWhole}

-- what is said is the rule that is broken, unless that is taken for granted
abbrev Says : Verdict → Option Forbidden → Type 0
Says Permitted rule = rule ≡ None
Says PassedOver rule = Unit {0}
Says (Granted granted) rule = Unit {0}
Says (Broken broken) rule = rule ≡ Some broken
Says (NotShown ready) rule = rule ≡ None

chosen : (b : Bool) (rule : Forbidden) → Says (cond b (Granted rule) (Broken rule)) (Some rule)
chosen true rule = tt
chosen false rule = refl

cycle_says : (doubted : Bool) (rule : Option Forbidden) → Says (of_cycle doubted rule) rule
cycle_says doubted None = refl
cycle_says doubted (Some rule) = chosen (doubted && hangs_on_before rule) rule

ready_says : (doubted : Bool) (rule : Option Forbidden) → Says (of_ready doubted rule) rule
ready_says doubted None = refl
ready_says doubted (Some rule) = chosen doubted rule

says : (state : TraceState) (k : Known) (i : Item) → Says (verdict_on state k i) (judged_here state i)
says state k (Cyc c) = cycle_says (doubts state.bus k c.ce) (judged_here state (Cyc c))
says state k (Rdy ce lun fail) = ready_says (doubts_ready state.bus k ce lun) (judged_here state (Rdy ce lun fail))
says state k (Ard ce lun fail) = ready_says (doubts_ready state.bus k ce lun) (judged_here state (Ard ce lun fail))

with_says : (o : Option UnshownReady) (v : Verdict) (rule : Option Forbidden) → Says v rule → Says (with_ready_taken o v) rule
with_says None v rule said = said
with_says (Some ready) Permitted rule said = said
with_says (Some ready) PassedOver rule said = said
with_says (Some ready) (Granted granted) rule said = said
with_says (Some ready) (Broken broken) rule said = said
with_says (Some ready) (NotShown other) rule said = said

-- something is taken for granted
not_nothing : (n : ℕ) (v : Verdict) (more : List BrokenRule) → is_granted v ≡ true → granted_in n v ++ more ≡ [] → ⊥
not_nothing n Permitted more is h = cc
not_nothing n PassedOver more is h = cc
not_nothing n (Granted rule) more is h = cc
not_nothing n (Broken rule) more is h = cc
not_nothing n (NotShown ready) more is h = cc

abbrev pub Judges : Readies → ℕ → List Item → Type 0
Judges readies n items = (seen : Seen) →
    count_passed_over (verdicts_from readies seen items) ≡ 0 → all_granted n (verdicts_from readies seen items) ≡ [] →
    all_broken n (verdicts_from readies seen items) ≡ faults_from readies seen.state n items

-- an item that is judged, and what comes after it
by_verdict : (readies : Readies) (n : ℕ) (i : Item) (items : List Item) (on : Seen) (v : Verdict) (rule : Option Forbidden) → Says v rule → Judges readies (n + 1) items →
    one_passed_over v + count_passed_over (verdicts_from readies (seen_by v i on) items) ≡ 0 →
    granted_in n v ++ all_granted (n + 1) (verdicts_from readies (seen_by v i on) items) ≡ [] →
    broken_in n v ++ all_broken (n + 1) (verdicts_from readies (seen_by v i on) items) ≡ fault_at n rule ++ faults_from readies (gone_on i on.state) (n + 1) items
by_verdict readies n i items on Permitted rule said later none nothing =
    later (seen_by Permitted i on) (omega (arith, none)) nothing ∙ ap (λ (o : Option Forbidden). fault_at n o ++ faults_from readies (gone_on i on.state) (n + 1) items) (sym said)
by_verdict readies n i items on (NotShown ready) rule said later none nothing =
    later (seen_by (NotShown ready) i on) (omega (arith, none)) nothing ∙ ap (λ (o : Option Forbidden). fault_at n o ++ faults_from readies (gone_on i on.state) (n + 1) items) (sym said)
by_verdict readies n i items on PassedOver rule said later none nothing = absurd (omega (arith, none))
by_verdict readies n i items on (Granted granted) rule said later none nothing = cc
by_verdict readies n i items on (Broken broken) rule said later none nothing =
    ap (λ (fs : List BrokenRule). record { item = n; rule = broken } ∷ fs) (later (seen_by (Broken broken) i on) (omega (arith, none)) nothing)
    ∙ ap (λ (o : Option Forbidden). fault_at n o ++ faults_from readies (gone_on i on.state) (n + 1) items) (sym said)

-- where an item is judged that is taken for granted as it stands, or isn't
abbrev on_by : Readies → Seen → Item → List Item → Bool → Seen
on_by readies seen i items b = record { state = cond b (before_taken readies seen.state i) (before_item readies seen.state i items); known = seen.known }

abbrev said_by : Readies → Seen → Item → List Item → Bool → Verdict
said_by readies seen i items b = with_ready_taken (taken_on readies (before_taken readies seen.state i) i items) (verdict_here (on_by readies seen i items b) i)

by_granted : (readies : Readies) (n : ℕ) (i : Item) (items : List Item) (seen : Seen) (b : Bool) → is_granted_here readies seen i ≡ b → Judges readies (n + 1) items →
    one_passed_over (said_by readies seen i items b) + count_passed_over (verdicts_from readies (seen_by (said_by readies seen i items b) i (on_by readies seen i items b)) items) ≡ 0 →
    granted_in n (said_by readies seen i items b) ++ all_granted (n + 1) (verdicts_from readies (seen_by (said_by readies seen i items b) i (on_by readies seen i items b)) items) ≡ [] →
    broken_in n (said_by readies seen i items b) ++ all_broken (n + 1) (verdicts_from readies (seen_by (said_by readies seen i items b) i (on_by readies seen i items b)) items)
    ≡ fault_at n (judged_here (before_item readies seen.state i items) i) ++ faults_from readies (gone_on i (before_item readies seen.state i items)) (n + 1) items
by_granted readies n i items seen true granted later none nothing =
    let v = verdict_here (shown_here readies seen i) i in
    let more = all_granted (n + 1) (verdicts_from readies (seen_by (said_by readies seen i items true) i (on_by readies seen i items true)) items) in
    let same = still_granted (taken_on readies (before_taken readies seen.state i) i items) v granted in
    absurd (not_nothing n v more granted (sym (ap (λ (x : Verdict). granted_in n x ++ more) same) ∙ nothing))
by_granted readies n i items seen false granted later none nothing =
    let v = verdict_here (on_by readies seen i items false) i in
    by_verdict readies n i items (on_by readies seen i items false) (said_by readies seen i items false) (judged_here (before_item readies seen.state i items) i)
    (with_says (taken_on readies (before_taken readies seen.state i) i items) v (judged_here (before_item readies seen.state i items) i)
    (says (before_item readies seen.state i items) (known_of seen.known (target_of i)) i)) later none nothing

by_place : (readies : Readies) (n : ℕ) (i : Item) (items : List Item) (seen : Seen) (b : Bool) → Judges readies (n + 1) items →
    one_passed_over (cond b PassedOver (said_of readies seen i items)) + count_passed_over (verdicts_from readies (cond b seen (seen_by (said_of readies seen i items) i (here readies seen i items))) items) ≡ 0 →
    granted_in n (cond b PassedOver (said_of readies seen i items)) ++ all_granted (n + 1) (verdicts_from readies (cond b seen (seen_by (said_of readies seen i items) i (here readies seen i items))) items) ≡ [] →
    broken_in n (cond b PassedOver (said_of readies seen i items)) ++ all_broken (n + 1) (verdicts_from readies (cond b seen (seen_by (said_of readies seen i items) i (here readies seen i items))) items)
    ≡ fault_at n (judged_here (before_item readies seen.state i items) i) ++ faults_from readies (gone_on i (before_item readies seen.state i items)) (n + 1) items
by_place readies n i items seen true later none nothing = absurd (omega (arith, none))
by_place readies n i items seen false later none nothing = by_granted readies n i items seen (is_granted_here readies seen i) refl later none nothing

pub judges : (readies : Readies) (n : ℕ) (items : List Item) → Judges readies n items
judges readies n [] seen none nothing = refl
judges readies n (i ∷ items) seen none nothing =
    by_place readies n i items seen (is_passed_over seen.state.bus.geometry (known_of seen.known (target_of i)) i) (judges readies (n + 1) items) none nothing

pub whole_are_judged_whole : WholeAreJudgedWhole
whole_are_judged_whole readies g targets items none nothing = judges readies 0 items (first_seen g targets items) none nothing
