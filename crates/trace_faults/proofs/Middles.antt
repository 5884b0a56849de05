-- Going on by an item of a trace whose recording began in the middle.
use Rattle.std.proofs.Common.{◌≡◌, Bool, true, cond, List, [], ◌∷◌, ◌++◌, Option, Some, None, refl, sym, ap, ◌∙◌, append_assoc}
use Rattle.onfi_cycle.specs.declared.item.Item.{Item}
use Rattle.trace_faults.specs.declared.trace_state.TraceState.{TraceState}
use Rattle.trace_faults.specs.declared.known.Known.{Known}
use Rattle.trace_faults.specs.declared.unshown.UnshownReady.{UnshownReady}
use Rattle.trace_faults.specs.declared.verdict.Verdict.{Verdict}
use Rattle.trace_faults.specs.declared.verdict.Verdict.TheVariants.{Permitted, PassedOver, Granted, Broken, NotShown}
use Rattle.trace_faults.specs.declared.readies.Readies.{Readies}
use Rattle.trace_faults.specs.Faults.{before_taken, before_item, taken_on}
use Rattle.trace_faults.specs.Middle.{Seen, verdict_here, is_granted, is_granted_here, shown_here, with_ready_taken, said_of, verdict, seen_after, verdicts_from}

-- ---- 1. an item that is taken for granted as it stands

pub still_granted : (o : Option UnshownReady) (v : Verdict) → is_granted v ≡ true → with_ready_taken o v ≡ v
still_granted None v h = refl
still_granted (Some ready) Permitted h = cc
still_granted (Some ready) PassedOver h = refl
still_granted (Some ready) (Granted rule) h = refl
still_granted (Some ready) (Broken rule) h = refl
still_granted (Some ready) (NotShown other) h = refl

pub granted_said : (readies : Readies) (seen : Seen) (i : Item) (later : List Item) → is_granted_here readies seen i ≡ true → said_of readies seen i later ≡ verdict_here (shown_here readies seen i) i
granted_said readies seen i later granted =
    let with : Bool → TraceState = λ b. cond b (before_taken readies seen.state i) (before_item readies seen.state i later) in
    let ready = taken_on readies (before_taken readies seen.state i) i later in
    ap (λ (b : Bool). with_ready_taken ready (verdict_here (record { state = with b; known = seen.known }) i)) granted
    ∙ still_granted ready (verdict_here (shown_here readies seen i) i) granted

-- ---- 2. one item after another

-- the same where the rest of the items is known
with_next : (readies : Readies) (seen next : Seen) (i : Item) (items : List Item) (v : Verdict) →
    v ≡ verdict readies seen i items → next ≡ seen_after readies seen i items → verdicts_from readies seen (i ∷ items) ≡ v ∷ verdicts_from readies next items
with_next readies seen next i items v said left =
    sym (ap (λ (x : Verdict). x ∷ verdicts_from readies next items) said
    ∙ ap (λ (s : Seen). verdict readies seen i items ∷ verdicts_from readies s items) left)

same_seen : (next seen : Seen) → next.state ≡ seen.state → next.known ≡ seen.known → next ≡ seen
same_seen next seen state known =
    ap (λ (s : TraceState). record { state = s; known = next.known }) state ∙ ap (λ (k : List Known). record { state = seen.state; known = k }) known

-- what is said so far and of the rest is what is said of all
pub goes_on : (readies : Readies) (all done later : List Verdict) (rest : List Item) (i : Item) (items : List Item) (seen next : Seen) (v : Verdict) →
    rest ≡ i ∷ items → v ≡ verdict readies seen i items →
    next.state ≡ (seen_after readies seen i items).state → next.known ≡ (seen_after readies seen i items).known →
    later ≡ done ++ (v ∷ []) → done ++ verdicts_from readies seen rest ≡ all → later ++ verdicts_from readies next items ≡ all
goes_on readies all done later rest i items seen next v cons said state known more before =
    ap (λ (vs : List Verdict). vs ++ verdicts_from readies next items) more
    ∙ append_assoc done (v ∷ []) (verdicts_from readies next items)
    ∙ (ap (λ (vs : List Verdict). done ++ vs)
    (sym (ap (verdicts_from readies seen) cons
    ∙ with_next readies seen next i items v said (same_seen next (seen_after readies seen i items) state known)))
    ∙ before)
