-- An opener that the tail doesn't want needs a ready LUN; an 85 in the data of a program breaks no rule.
use Rattle.std.proofs.Common.{◌≡◌, Bool, true, false, ◌&&◌, ◌||◌, not, cond, ltb, List, Some, None, refl}
use Rattle.std.specs.List.{list_any}
use Rattle.std.proofs.lemmas.Bool.{and_parts}
use Rattle.nand_geometry.specs.declared.parts.Parts.{Parts}
use Rattle.nand_geometry.specs.Optional.{is_wide, has_copyback}
use Rattle.onfi_cycle.specs.declared.command.Command.{Command}
use Rattle.onfi_cycle.specs.declared.command.Command.TheVariants.{ReadCacheSequential, ChangeWriteColumn}
use Rattle.onfi_cycle.specs.declared.forbidden.Forbidden.TheVariants.{SequenceOpen, SeveralLuns, CommandMisplaced, LunBusy}
use Rattle.onfi_cycle.specs.declared.tail_facts.TailFacts.{TailFacts}
use Rattle.onfi_cycle.specs.declared.target_cycle.TargetCycle.TheVariants.{CommandCycle}
use Rattle.onfi_cycle.specs.Command.{wants_ready, reads_identity}
use Rattle.onfi_cycle.specs.Effect.{is_shared}
use Rattle.onfi_cycle.specs.LunView.{LunView}
use Rattle.onfi_cycle.specs.Permitted.{judge_known_cycle}
use Rattle.onfi_cycle.specs.Rules.{opens_here, breaks_sequence_open, breaks_several_luns, breaks_no_column_to_change, breaks_command_misplaced, breaks_address_misplaced, breaks_row_outside, breaks_lun_busy, breaks_queue_clash, breaks_input_misplaced, breaks_no_sole_driver, breaks_data_not_ready, breaks_column_outside, breaks_cache_read_misplaced, breaks_cache_program_misplaced, breaks_copyback_misplaced, breaks_plane_not_held}
use Rattle.onfi_cycle.specs.Sequence.{goes_on_with, is_open, wants_command}

pub busy_for : (g : Parts) (t : TailFacts) (luns : List LunView) (c : Command) → goes_on_with t c ≡ false → breaks_lun_busy g t luns (CommandCycle c) ≡ (wants_ready c && not (list_any (λ v. not v.busy) luns)) || (is_shared g && (reads_identity c && list_any (λ v. v.busy) luns))
unfolding breaks_lun_busy
busy_for g t luns c h = rw h (of (wants_ready c) _ _)
  where
    of : (w r s : Bool) → (((w && true) && r) || s) ≡ ((w && r) || s)
    of true r s = refl
    of false r s = refl

-- o: a sequence is open; w: the tail wants the command; s: there are several LUNs; r: none is ready
column : (o w declared wide s r : Bool) → w ≡ true → declared ≡ true → wide ≡ true → None ≡ cond (declared && (o && not (w && wide))) (Some SequenceOpen) (cond (cond (wide && s) false false) (Some SeveralLuns) (cond (not declared && not w) (Some CommandMisplaced) (cond ((not w && r) || ((wide && s) && false)) (Some LunBusy) None)))
column o false declared wide s r h i j = cc
column o true false wide s r h i j = cc
column o true true false s r h i j = cc
column true true true true true r h i j = refl
column true true true true false r h i j = refl
column false true true true true r h i j = refl
column false true true true false r h i j = refl

column_goes_on : (g : Parts) (t : TailFacts) (luns : List LunView) → has_copyback g.optional ≡ true → wants_command t ChangeWriteColumn ≡ true → None ≡ judge_known_cycle g t luns (CommandCycle ChangeWriteColumn)
unfolding breaks_sequence_open breaks_several_luns breaks_no_column_to_change breaks_command_misplaced breaks_address_misplaced breaks_row_outside breaks_lun_busy breaks_queue_clash breaks_input_misplaced breaks_no_sole_driver breaks_data_not_ready breaks_column_outside breaks_cache_read_misplaced breaks_cache_program_misplaced breaks_copyback_misplaced breaks_plane_not_held
column_goes_on g t luns h wanted =
    column (is_open t) (wants_command t ChangeWriteColumn) (has_copyback g.optional) (is_wide g.optional) (ltb 1 g.luns) (not (list_any (λ v. not v.busy) luns)) wanted h (and_parts (is_wide g.optional) _ h).0

pub going_on_passes : (g : Parts) (t : TailFacts) (luns : List LunView) (c : Command) → opens_here g c ≡ true → goes_on_with t c ≡ true → (c ≡ ReadCacheSequential → ⊥) → None ≡ judge_known_cycle g t luns (CommandCycle c)
going_on_passes g t luns ReadCacheSequential h w other = absurd (other refl)
going_on_passes g t luns ChangeWriteColumn h w other = column_goes_on g t luns h w
going_on_passes g t luns c h w other = cc
