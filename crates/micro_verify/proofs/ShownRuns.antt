-- A straight text for one LUN that is refused by V7 shows its run.
use Rattle.std.proofs.Common.{◌≡◌, ℕ, suc, ◌+◌, Bool, true, false, cond, leb, List, [], ◌∷◌, Option, Some, None, refl, sym, ap, ◌∙◌, subst, arith, take}
use Rattle.std.proofs.lemmas.Bool.Decides.{nat_tests}
use Rattle.std.specs.Prelude.{slice_get}
use Rattle.nand_geometry.specs.declared.parts.Parts.{Parts}
use Rattle.nand_geometry.specs.Limits.{indices}
use Rattle.nand_geometry.specs.Page.{parameter_bytes}
use Rattle.nand_geometry.proofs.PageLemmas.{parameters_have_their_length}
use Rattle.onfi_cycle.specs.Channel.{Channel}
use Rattle.micro_word.specs.declared.format.Format.{Format}
use Rattle.micro_word.specs.declared.word.Word.{Word}
use Rattle.micro_word.specs.declared.word.Word.TheVariants.{Wait}
use Rattle.micro_word.specs.Text.{Microprogram}
use Rattle.micro_claims.specs.declared.refusal.Fault.{Fault}
use Rattle.micro_claims.specs.declared.refusal.Reason.{Reason}
use Rattle.micro_claims.specs.declared.refusal.Reason.TheVariants.{CycleForbidden}
use Rattle.micro_claims.specs.declared.state.State.{State}
use Rattle.micro_claims.specs.State.{bounds_of, first_state}
use Rattle.micro_claims.specs.Reasons.{breaks_cycle_forbidden, reason_against}
use Rattle.micro_program.specs.Moves.{and_then, is_wait}
use Rattle.micro_program.specs.Lines.{all_lead_on}
use Rattle.micro_walk.specs.Faults.{fault_of, fault_or, onward, walked}
use Rattle.micro_walk.specs.Shape.{shape_fault}
use Rattle.micro_walk.specs.Verdicts.{is_of_shape}
use Rattle.micro_walk.proofs.Walking.{straight_fault}
use Rattle.micro_verify.specs.Lazy.{lone_channel, lone_job, Run, new_run}
use Rattle.micro_verify.specs.Cause.{is_of_cycle_forbidden, Cause, WordStops, IsStraight}
use Rattle.micro_verify.specs.Calm.{may_show, calm_words, counter_after, counter_before, counter_of}
use Rattle.micro_verify.specs.Counters.{RefusalsShowRuns}
use Rattle.micro_verify.proofs.Causes.{reason_is}
use Rattle.micro_verify.proofs.CountersThere.{counters_are_there}
use Rattle.micro_verify.proofs.CalmRuns.{calm_run}
use Rattle.micro_verify.proofs.RefusedWords.{refusals_have_causes, word_fault, shape_is}

-- 1. a `wait` isn't refused by V7

never_wait : (g : Parts) (text : Microprogram) (v : State) → reason_against g (bounds_of text) v Wait ≡ Some CycleForbidden → ⊥
unfolding breaks_cycle_forbidden
never_wait g text v h = let holds = reason_is g text v Wait CycleForbidden h in cc

-- the word with the fault
record Refuses (g : Parts) (text : Microprogram) (words : List Word) (k : ℕ) : Type 0 where
  word : Word
  there : slice_get words k ≡ Some word
  known : State
  refused : reason_against g (bounds_of text) known word ≡ Some CycleForbidden

no_state : (g : Parts) (text : Microprogram) (words : List Word) (at : ℕ) (fault : Fault) → walked g (bounds_of text) at None words ≡ Some fault → ⊥
no_state g text [] at fault h = cc
no_state g text (word ∷ words) at fault h = no_state g text words (at + 1) fault h

refuses : (g : Parts) (text : Microprogram) (words : List Word) (at : ℕ) (o : Option State) (fault : Fault) → walked g (bounds_of text) at o words ≡ Some fault → fault.reason ≡ CycleForbidden → (k : ℕ) × (fault.word ≡ at + k) × Refuses g text words k
refuses g text words at None fault h is = absurd (no_state g text words at fault h)
refuses g text [] at (Some s) fault h is = cc
refuses g text (word ∷ words) at (Some s) fault h is = by (reason_against g (bounds_of text) s word) refl h (λ f. refuses g text words (at + 1) (onward g (Some s) word) fault f is)
  where
    Later : Type 0
    Later = walked g (bounds_of text) (at + 1) (onward g (Some s) word) words ≡ Some fault → (k : ℕ) × (fault.word ≡ at + 1 + k) × Refuses g text words k

    by : (o : Option Reason) → reason_against g (bounds_of text) s word ≡ o → fault_or o at (walked g (bounds_of text) (at + 1) (onward g (Some s) word) words) ≡ Some fault → Later → (k : ℕ) × (fault.word ≡ at + k) × Refuses g text (word ∷ words) k
    by (Some reason) e f behind =
        let first : Fault = record { word = at; reason = reason } in
        let same : first ≡ fault = cc in
        let reason_cycle_forbidden : reason ≡ CycleForbidden = ap (λ (x : Fault). x.reason) same ∙ is in
        let place : fault.word ≡ at = ap (λ (x : Fault). x.word) (sym same) in
        (0, omega (arith, place), record { word = word; there = refl; known = s; refused = e ∙ ap Some reason_cycle_forbidden })
    by None e f behind =
        let later = behind f in
        let place = later.1 in
        let r = later.2 in
        (suc later.0, omega (arith, place), record { word = r.word; there = r.there; known = r.known; refused = r.refused })

same_word : (o : Option Word) (a b : Word) → o ≡ Some a → o ≡ Some b → a ≡ b
same_word (Some w) a b h k = cc
same_word None a b h k = cc

wait_is : (word : Word) → is_wait word ≡ true → word ≡ Wait
wait_is Wait h = refl
wait_is _ h = cc

plain_word : (word : Word) → (word ≡ Wait → ⊥) → is_wait word ≡ false
plain_word word never = at (is_wait word) refl
  where
    at : (b : Bool) → is_wait word ≡ b → is_wait word ≡ false
    at true e = absurd (never (wait_is word e))
    at false e = e

no_wait : (g : Parts) (text : Microprogram) (fault : Fault) (word : Word) → all_lead_on text.words ≡ true → fault_of g text ≡ Some fault → fault.reason ≡ CycleForbidden → slice_get text.words fault.word ≡ Some word → is_wait word ≡ false
no_wait g text fault word leads h is there =
    let walk = word_fault (shape_fault text.words) (walked g (bounds_of text) 0 (Some first_state) text.words) fault (shape_is text.words).is (sym (straight_fault g (bounds_of text) text.words leads) ∙ h) (ap is_of_shape is) in
    let found = refuses g text text.words 0 (Some first_state) fault walk is in
    let place = found.1 in
    let number : found.0 ≡ fault.word = omega (arith, place) in
    let r = found.2 in
    let same : r.word ≡ word = same_word (slice_get text.words fault.word) r.word word (subst (λ (n : ℕ). slice_get text.words n ≡ Some r.word) number r.there) there in
    plain_word word (λ e. never_wait g text r.known (subst (λ (w : Word). reason_against g (bounds_of text) r.known w ≡ Some CycleForbidden) (same ∙ e) r.refused))

-- 2. the counter

shows : (g : Parts) (text : Microprogram) (format : Format) (fault : Fault) → IsStraight g text format → fault.reason ≡ CycleForbidden → may_show g text fault ≡ true
shows g text format fault straight is =
    let rows = straight.rows in
    let fits : leb text.rows (indices g) ≡ true = grind (arith, nat_tests, rows) in
    rw (is, straight.one, straight.leads_on, fits) refl

counter_is : (s : Channel) (text : Microprogram) (at : ℕ) (word : Word) (run : Run) → slice_get text.words at ≡ Some word → calm_words s (lone_job s.geometry text) (take at text.words) new_run ≡ Some run → counter_before s text at ≡ counter_after s (lone_job s.geometry text) run word
counter_is s text at word run there calm =
    ap (λ (o : Option Word). and_then o (λ w. and_then (calm_words s (lone_job s.geometry text) (take at text.words) new_run) (λ r. counter_after s (lone_job s.geometry text) r w))) there
    ∙ ap (λ (o : Option Run). and_then o (λ r. counter_after s (lone_job s.geometry text) r word)) calm

pub refusals_show_runs : RefusalsShowRuns
refusals_show_runs g text format fault straight h is =
    let s = lone_channel g (parameter_bytes g) in
    let cause = refusals_have_causes g (parameter_bytes g) text format fault (parameters_have_their_length g) straight h (ap is_of_shape is) in
    let calm = calm_run s (lone_job g text) (take fault.word text.words) new_run cause.run cause.is_run cause.legal in
    let counter : counter_of g text fault ≡ counter_after s (lone_job g text) cause.run cause.word =
    ap (λ (b : Bool). cond b (counter_before s text fault.word) None) (shows g text format fault straight is) ∙ counter_is s text fault.word cause.word cause.run cause.there calm in
    record {
      word = cause.word;
      there = cause.there;
      run = cause.run;
      is_run = cause.is_run;
      none = λ lacks. counter ∙ rw lacks refl;
      some = λ whole.
          let stops : WordStops s (lone_job g text) cause.run cause.word is_of_cycle_forbidden = subst (λ (x : Reason). Cause s (lone_job g text) cause.run cause.word x) is cause.cause whole in
          let shown = counters_are_there s (lone_job g text) cause.run cause.word is_of_cycle_forbidden (no_wait g text fault cause.word straight.leads_on h is cause.there) stops in
          (shown.counter, counter ∙ rw whole shown.made, record { rule = shown.rule; breaks = shown.breaks; of_cycle_forbidden = shown.sorted });
    }
