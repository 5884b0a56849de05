-- The bytes of a Set Features on a target in the caller's memory, one by one.
use Rattle.std.proofs.Common.{◌≡◌, ℕ, suc, ◌+◌, ◌<◌, ◌≤◌, Bool, true, false, ◌&&◌, ◌||◌, not, cond, leb, ltb, List, Option, Some, None, refl, sym, ap, ◌∙◌, subst, arith}
use Rattle.std.proofs.lemmas.Bool.Decides.{nat_tests}
use Rattle.nand_geometry.specs.declared.parts.Parts.{Parts}
use Rattle.nand_geometry.specs.Limits.{InLimits, page_len}
use Rattle.onfi_cycle.specs.declared.data_phase.DataPhase.{DataPhase}
use Rattle.onfi_cycle.specs.declared.data_phase.DataPhase.TheVariants.{Outside, Inputs, FirstColumn, SecondColumn, FeatureInputs}
use Rattle.onfi_cycle.specs.declared.forbidden.Forbidden.{Forbidden}
use Rattle.onfi_cycle.specs.declared.forbidden.Forbidden.TheVariants.{NotThere, InputMisplaced, ColumnOutside}
use Rattle.onfi_cycle.specs.declared.item.Item.{Item}
use Rattle.onfi_cycle.specs.declared.item.Kind.TheVariants.{Din}
use Rattle.onfi_cycle.specs.declared.tail_facts.TailFacts.{TailFacts}
use Rattle.onfi_cycle.specs.declared.target_cycle.TargetCycle.TheVariants.{InputCycle}
use Rattle.onfi_cycle.specs.LunView.{LunView}
use Rattle.onfi_cycle.specs.Bounds.{TargetFits}
use Rattle.onfi_cycle.specs.Channel.{cycle}
use Rattle.onfi_cycle.specs.Inputs.{against_inputs}
use Rattle.onfi_cycle.specs.Permitted.{judge}
use Rattle.onfi_cycle.specs.Rules.{breaks_not_there, breaks_command_unknown, breaks_sequence_open, breaks_several_luns, breaks_no_column_to_change, breaks_command_misplaced, breaks_address_misplaced, breaks_row_outside, breaks_lun_busy, breaks_queue_clash, breaks_input_misplaced, breaks_no_sole_driver, breaks_data_not_ready, breaks_column_outside, breaks_cache_read_misplaced, breaks_cache_program_misplaced, breaks_copyback_misplaced, breaks_plane_not_held}
use Rattle.onfi_cycle.specs.Sequence.{extended_facts, facts_after, input_column, phase_after_input, takes_data, takes_features, takes_inputs}
use Rattle.onfi_cycle.specs.State.{TargetView, target_after}
use Rattle.target_record.specs.declared.record.OnfiseqTarget.{OnfiseqTarget}
use Rattle.target_record.specs.Record.{tail_of, target_of}
use Rattle.bus_record.specs.Runs.{each_taken, inputs_taken}
use Rattle.bus_record.proofs.Pushed.{after_fits}

-- 1. one byte

-- a target takes so many bytes more
pub record TakesBytes (left : ℕ) (t : TailFacts) : Type 0 where
  pub takes : takes_features t.phase ≡ true
  pub few : t.inputs + left ≤ 4

abbrev by_tail : Parts → (missing takes bytes : Bool) → (column : ℕ) → Option Forbidden
by_tail g missing takes bytes column = cond missing (Some NotThere) (cond (not takes) (Some InputMisplaced) (cond (not bytes && leb (page_len g) column) (Some ColumnOutside) None))

judged_by : (g : Parts) (n ce : ℕ) (t : TailFacts) (vs : List LunView) → judge g n t vs (cycle ce Din 0) ≡ by_tail g (leb n ce) (takes_inputs t.phase) (takes_features t.phase) (input_column t)
unfolding breaks_not_there breaks_command_unknown breaks_sequence_open breaks_several_luns breaks_no_column_to_change breaks_command_misplaced breaks_address_misplaced breaks_row_outside breaks_lun_busy breaks_queue_clash breaks_input_misplaced breaks_no_sole_driver breaks_data_not_ready breaks_column_outside breaks_cache_read_misplaced breaks_cache_program_misplaced breaks_copyback_misplaced breaks_plane_not_held
judged_by g n ce t vs = refl

permitted : (g : Parts) (ce : ℕ) (t : TailFacts) (vs : List LunView) → takes_features t.phase ≡ true → judge g (ce + 1) t vs (cycle ce Din 0) ≡ None
permitted g ce t vs takes =
    let there : leb (ce + 1) ce ≡ false = grind (arith, nat_tests) in
    judged_by g (ce + 1) ce t vs ∙ rw (there, takes) (either_way (takes_data t.phase))
  where
    either_way : (b : Bool) → cond (not (b || true)) (Some InputMisplaced) None ≡ None
    either_way true = refl
    either_way false = refl

begun : (g : Parts) (s : TargetView) → TargetFits g s → takes_features s.tail.phase ≡ true → s.tail.is_empty ≡ false
begun g s f takes = at s.tail.is_empty refl
  where
    at : (b : Bool) → s.tail.is_empty ≡ b → b ≡ false
    at true e = let no : false ≡ true = sym (ap takes_features (f.tail.outside e)) ∙ takes in cc
    at false e = refl

stays : (n : ℕ) (p : DataPhase) → takes_features p ≡ true → n + 1 < 4 → takes_features (phase_after_input n p) ≡ true
stays n Outside h low = cc
stays n Inputs h low = cc
stays n FirstColumn h low = cc
stays n SecondColumn h low = cc
stays n FeatureInputs h low = let less : ltb n 3 ≡ true = grind (arith, nat_tests) in rw less refl

-- the bytes behind one that was taken
pub record ByteGoesOn (g : Parts) (ce left rest : ℕ) (s t : TargetView) : Type 0 where
  pub fits : TargetFits g t
  pub leads : each_taken g ce rest t ≡ each_taken g ce left s
  pub more : 0 < rest → TakesBytes rest t.tail

pub byte_goes_on : (g : Parts) → InLimits g → (ce left rest : ℕ) (i : Item) (s t : TargetView) → left ≡ rest + 1 → i ≡ cycle ce Din 0 → TakesBytes left s.tail → TargetFits g s → t ≡ target_after g i s → t.tail.column < 65536
    → ByteGoesOn g ce left rest s t
byte_goes_on g limits ce left rest i s t count is b f after small =
    let here : t ≡ target_after g (cycle ce Din 0) s = after ∙ ap (λ (x : Item). target_after g x s) is in
    let more : left ≡ suc rest = omega (arith, count) in
    let few = b.few in
    let tail : facts_after (InputCycle 0) s.tail ≡ extended_facts (InputCycle 0) s.tail = ap (λ (e : Bool). cond e s.tail (extended_facts (InputCycle 0) s.tail)) (begun g s f b.takes) in
    record {
      fits = after_fits g limits (ce + 1) (cycle ce Din 0) s t (permitted g ce s.tail s.luns b.takes) here small f;
      leads = ap (each_taken g ce rest) here ∙ ap (λ (n : ℕ). each_taken g ce n s) (sym more);
      more = λ some. subst (λ (x : TargetView). TakesBytes rest x.tail) (sym here) (subst (TakesBytes rest) (sym tail) (record {
        takes = stays s.tail.inputs s.tail.phase b.takes (omega (arith, few, count, some));
        few = omega (arith, few, count);
      }));
    }

-- 2. all of them, or none

-- a target that takes bytes has had fewer than four
pub had_few : (g : Parts) (t : OnfiseqTarget) → TargetFits g (target_of t) → takes_features (tail_of t).phase ≡ true → t.inputs < 4
had_few g t f takes = f.tail.features takes

pub too_many : (g : Parts) (count : ℕ) (t : TailFacts) → takes_features t.phase ≡ true → 4 < t.inputs + count → Some InputMisplaced ≡ against_inputs g count t
too_many g count t takes more = let over : ltb 4 (t.inputs + count) ≡ true = grind (arith, nat_tests) in rw (takes, over) refl

pub not_too_many : (g : Parts) (count : ℕ) (t : TailFacts) → takes_features t.phase ≡ true → t.inputs + count ≤ 4 → None ≡ against_inputs g count t
not_too_many g count t takes few = let under : ltb 4 (t.inputs + count) ≡ false = grind (arith, nat_tests) in rw (takes, under) refl

pub bytes_taken : (g : Parts) (ce count : ℕ) (s u : TargetView) → takes_features s.tail.phase ≡ true → u ≡ each_taken g ce count s → u ≡ inputs_taken g ce count s
bytes_taken g ce count s u takes is = rw takes is
