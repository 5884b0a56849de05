-- A trace that is judged from its start: nothing is passed over, and nothing taken for granted.
use Rattle.std.proofs.Common.{◌≡◌, ℕ, zero, suc, ◌+◌, Bool, true, false, ◌==◌, cond, List, [], ◌∷◌, ◌++◌, Option, Some, None, refl, ap, ◌∙◌, get_or, slice_set}
use Rattle.nand_geometry.specs.declared.parts.Parts.{Parts}
use Rattle.onfi_cycle.specs.declared.item.Item.{Item}
use Rattle.onfi_cycle.specs.declared.item.Item.TheVariants.{Cyc, Rdy, Ard}
use Rattle.onfi_cycle.specs.declared.forbidden.Forbidden.{Forbidden}
use Rattle.onfi_cycle.specs.declared.lun_state.LunState.{LunState}
use Rattle.onfi_cycle.specs.Sequence.{target_of}
use Rattle.onfi_cycle.specs.Look.{looked}
use Rattle.onfi_cycle.specs.State.{BusView}
use Rattle.trace_faults.specs.declared.known.Known.{Known}
use Rattle.trace_faults.specs.declared.broken_rule.BrokenRule.{BrokenRule}
use Rattle.trace_faults.specs.declared.lun_known.LunKnown.TheVariants.{All}
use Rattle.trace_faults.specs.declared.readies.Readies.{Readies}
use Rattle.trace_faults.specs.declared.trace_state.TraceState.{TraceState}
use Rattle.trace_faults.specs.declared.unshown.UnshownReady.{UnshownReady}
use Rattle.trace_faults.specs.declared.verdict.Verdict.{Verdict}
use Rattle.trace_faults.specs.declared.verdict.Verdict.TheVariants.{Permitted, PassedOver, Broken}
use Rattle.trace_faults.specs.Recovery.{judged_here, gone_on}
use Rattle.trace_faults.specs.Faults.{fault_at, before_taken, before_item, taken_on, faults_from}
use Rattle.trace_faults.specs.Middle.{Seen, all_known, known_of, knows, has_begun, is_doubtful, doubts, doubts_ready, of_cycle, of_ready, verdict_on, verdict_here, is_passed_over, is_granted, here, with_ready_taken, said_of, verdict, learned, looks_of, judged_on, seen_by, seen_after, verdicts_from, broken_in, all_broken}

-- what is said where nothing is in doubt
abbrev pub plain : Option Forbidden → Verdict
plain None = Permitted
plain (Some rule) = Broken rule

undoubted : (o : Option LunState) → is_doubtful o true ≡ false
undoubted None = refl
undoubted (Some lun) = refl

no_doubts : (bus : BusView) (ce : ℕ) → doubts bus all_known ce ≡ false
no_doubts bus ce =
    rw (undoubted (looked bus (record { ce = ce; lun = 0 })), undoubted (looked bus (record { ce = ce; lun = 1 })), undoubted (looked bus (record { ce = ce; lun = 2 })), undoubted (looked bus (record { ce = ce; lun = 3 }))) refl

cycle_plain : (doubted : Bool) (rule : Option Forbidden) → doubted ≡ false → of_cycle doubted rule ≡ plain rule
cycle_plain true rule h = cc
cycle_plain false None h = refl
cycle_plain false (Some rule) h = refl

ready_plain : (doubted : Bool) (rule : Option Forbidden) → doubted ≡ false → of_ready doubted rule ≡ plain rule
ready_plain true rule h = cc
ready_plain false None h = refl
ready_plain false (Some rule) h = refl

-- of a ready's LUN, whatever its number, nothing is in doubt
no_doubt : (o : Option LunState) (known : Bool) → known ≡ true → is_doubtful o known ≡ false
no_doubt o true h = undoubted o
no_doubt o false h = cc

ready_known : (number : ℕ) → has_begun (knows all_known number) ≡ true
ready_known number = at (number == 0) (number == 1) (number == 2) (number == 3)
  where
    at : (a b c d : Bool) → has_begun (cond a All (cond b All (cond c All (cond d All All)))) ≡ true
    at true b c d = refl
    at false true c d = refl
    at false false true d = refl
    at false false false true = refl
    at false false false false = refl

said_plain : (t : TraceState) (k : Known) (i : Item) → k ≡ all_known → verdict_on t k i ≡ plain (judged_here t i)
said_plain t k (Cyc c) h =
    ap (λ (w : Known). verdict_on t w (Cyc c)) h ∙ cycle_plain (doubts t.bus all_known c.ce) (judged_here t (Cyc c)) (no_doubts t.bus c.ce)
said_plain t k (Rdy ce lun fail) h =
    ap (λ (w : Known). verdict_on t w (Rdy ce lun fail)) h
    ∙ ready_plain (doubts_ready t.bus all_known ce lun) (judged_here t (Rdy ce lun fail)) (no_doubt (looked t.bus (record { ce = ce; lun = lun })) (has_begun (knows all_known lun)) (ready_known lun))
said_plain t k (Ard ce lun fail) h =
    ap (λ (w : Known). verdict_on t w (Ard ce lun fail)) h
    ∙ ready_plain (doubts_ready t.bus all_known ce lun) (judged_here t (Ard ce lun fail)) (no_doubt (looked t.bus (record { ce = ce; lun = lun })) (has_begun (knows all_known lun)) (ready_known lun))

never_passed : (g : Parts) (k : Known) (i : Item) → k ≡ all_known → is_passed_over g k i ≡ false
never_passed g k i h = ap (λ (w : Known). is_passed_over g w i) h ∙ at i
  where
    at : (i : Item) → is_passed_over g all_known i ≡ false
    at (Cyc c) = refl
    at (Rdy ce lun fail) = refl
    at (Ard ce lun fail) = refl

plain_granted : (rule : Option Forbidden) → is_granted (plain rule) ≡ false
plain_granted None = refl
plain_granted (Some rule) = refl

told_plain : (n : ℕ) (o : Option UnshownReady) (rule : Option Forbidden) → broken_in n (with_ready_taken o (plain rule)) ≡ fault_at n rule
told_plain n None None = refl
told_plain n None (Some rule) = refl
told_plain n (Some ready) None = refl
told_plain n (Some ready) (Some rule) = refl

seen_plain : (o : Option UnshownReady) (rule : Option Forbidden) (i : Item) (on : Seen) → seen_by (with_ready_taken o (plain rule)) i on ≡ judged_on i on
seen_plain None None i on = refl
seen_plain None (Some rule) i on = refl
seen_plain (Some ready) None i on = refl
seen_plain (Some ready) (Some rule) i on = refl

-- all is known of each target
abbrev pub KnowsAll : List Known → Type 0
KnowsAll known = (ce : ℕ) → get_or known ce all_known ≡ all_known

known_put : (known : List Known) (at m : ℕ) (k : Known) → k ≡ all_known → KnowsAll known → get_or (slice_set known at k) m all_known ≡ all_known
known_put [] at m k h all = all m
known_put (x ∷ known) zero zero k h all = h
known_put (x ∷ known) zero (suc m) k h all = all (suc m)
known_put (x ∷ known) (suc at) zero k h all = all 0
known_put (x ∷ known) (suc at) (suc m) k h all = known_put known at m k h (λ ce. all (suc ce))

learned_all : (g : Parts) (i : Item) (before after : BusView) (ce : ℕ) (k : Known) → k ≡ all_known → learned g i (looks_of before ce) (looks_of after ce) k ≡ all_known
learned_all g i before after ce k h = ap (λ (w : Known). learned g i (looks_of before ce) (looks_of after ce) w) h

-- where an item is judged
judged_where : (readies : Readies) (seen : Seen) (i : Item) (later : List Item) → KnowsAll seen.known → here readies seen i later ≡ record { state = before_item readies seen.state i later; known = seen.known }
judged_where readies seen i later all = ap on_by (ap is_granted (said_plain (before_taken readies seen.state i) (known_of seen.known (target_of i)) i (all (target_of i))) ∙ plain_granted (judged_here (before_taken readies seen.state i) i))
  where
    on_by : Bool → Seen
    on_by b = record { state = cond b (before_taken readies seen.state i) (before_item readies seen.state i later); known = seen.known }

abbrev pub at_item : Readies → Seen → Item → List Item → Seen
at_item readies seen i later = record { state = before_item readies seen.state i later; known = seen.known }

abbrev pub taken_there : Readies → Seen → Item → List Item → Option UnshownReady
taken_there readies seen i later = taken_on readies (before_taken readies seen.state i) i later

abbrev pub rule_there : Readies → Seen → Item → List Item → Option Forbidden
rule_there readies seen i later = judged_here (before_item readies seen.state i later) i

said_so : (readies : Readies) (seen : Seen) (i : Item) (later : List Item) → KnowsAll seen.known →
    said_of readies seen i later ≡ with_ready_taken (taken_there readies seen i later) (plain (rule_there readies seen i later))
said_so readies seen i later all =
    ap (λ (on : Seen). with_ready_taken (taken_there readies seen i later) (verdict_here on i)) (judged_where readies seen i later all)
    ∙ ap (with_ready_taken (taken_there readies seen i later)) (said_plain (before_item readies seen.state i later) (known_of seen.known (target_of i)) i (all (target_of i)))

pub verdict_so : (readies : Readies) (seen : Seen) (i : Item) (later : List Item) → KnowsAll seen.known →
    verdict readies seen i later ≡ with_ready_taken (taken_there readies seen i later) (plain (rule_there readies seen i later))
verdict_so readies seen i later all =
    ap (λ (b : Bool). cond b PassedOver (said_of readies seen i later)) (never_passed seen.state.bus.geometry (known_of seen.known (target_of i)) i (all (target_of i))) ∙ said_so readies seen i later all

pub after_so : (readies : Readies) (seen : Seen) (i : Item) (later : List Item) → KnowsAll seen.known → seen_after readies seen i later ≡ judged_on i (at_item readies seen i later)
after_so readies seen i later all =
    ap (λ (b : Bool). cond b seen (seen_by (said_of readies seen i later) i (here readies seen i later))) (never_passed seen.state.bus.geometry (known_of seen.known (target_of i)) i (all (target_of i)))
    ∙ ap (λ (v : Verdict). seen_by v i (here readies seen i later)) (said_so readies seen i later all)
    ∙ ap (λ (on : Seen). seen_by (with_ready_taken (taken_there readies seen i later) (plain (rule_there readies seen i later))) i on) (judged_where readies seen i later all)
    ∙ seen_plain (taken_there readies seen i later) (rule_there readies seen i later) i (at_item readies seen i later)

known_on : (readies : Readies) (seen : Seen) (i : Item) (later : List Item) → KnowsAll seen.known → KnowsAll (judged_on i (at_item readies seen i later)).known
known_on readies seen i later all ce =
    let on = at_item readies seen i later in
    let k = learned on.state.bus.geometry i (looks_of on.state.bus (target_of i)) (looks_of (gone_on i on.state).bus (target_of i)) (known_of seen.known (target_of i)) in
    known_put seen.known (target_of i) ce k (learned_all on.state.bus.geometry i on.state.bus (gone_on i on.state).bus (target_of i) (known_of seen.known (target_of i)) (all (target_of i))) all

pub known_after : (readies : Readies) (seen : Seen) (i : Item) (later : List Item) → KnowsAll seen.known → KnowsAll (seen_after readies seen i later).known
known_after readies seen i later all ce =
    ap (λ (s : Seen). get_or s.known ce all_known) (after_so readies seen i later all) ∙ known_on readies seen i later all ce

pub told_from_start : (readies : Readies) (n : ℕ) (items : List Item) (seen : Seen) → KnowsAll seen.known → all_broken n (verdicts_from readies seen items) ≡ faults_from readies seen.state n items
told_from_start readies n [] seen all = refl
told_from_start readies n (i ∷ items) seen all =
    let after = seen_after readies seen i items in
    let rest = told_from_start readies (n + 1) items after (known_after readies seen i items all) in
    let first = ap (broken_in n) (verdict_so readies seen i items all) ∙ told_plain n (taken_there readies seen i items) (rule_there readies seen i items) in
    ap (λ (fs : List BrokenRule). fs ++ all_broken (n + 1) (verdicts_from readies after items)) first
    ∙ ap (λ (fs : List BrokenRule). fault_at n (rule_there readies seen i items) ++ fs)
    (rest ∙ ap (λ (s : Seen). faults_from readies s.state (n + 1) items) (after_so readies seen i items all))

pub start_knows_all : KnowsAll (all_known ∷ (all_known ∷ (all_known ∷ (all_known ∷ []))))
start_knows_all zero = refl
start_knows_all (suc zero) = refl
start_knows_all (suc (suc zero)) = refl
start_knows_all (suc (suc (suc zero))) = refl
start_knows_all (suc (suc (suc (suc ce)))) = refl
