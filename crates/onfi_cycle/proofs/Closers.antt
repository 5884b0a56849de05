-- A command that is no opener can break F6 and F15 to F17 alone.
use Rattle.std.proofs.Common.{◌≡◌, Bool, true, false, ◌&&◌, ◌||◌, not, cond, List, Option, Some, None, refl, ap, ◌∙◌, sym}
use Rattle.nand_geometry.specs.declared.parts.Parts.{Parts}
use Rattle.onfi_cycle.specs.declared.command.Command.{Command}
use Rattle.onfi_cycle.specs.declared.command.Command.TheVariants.{ReadConfirm, ChangeReadColumnConfirm, BlockEraseConfirm, BlockErasePlane, ChangeWriteColumn, ProgramConfirm, ProgramPlane, Unknown, ReadPlane, CopybackRead, ProgramCache}
use Rattle.onfi_cycle.specs.declared.forbidden.Forbidden.{Forbidden}
use Rattle.onfi_cycle.specs.declared.forbidden.Forbidden.TheVariants.{SeveralLuns, CommandMisplaced, LunBusy, CacheReadMisplaced, CacheProgramMisplaced, CopybackMisplaced}
use Rattle.onfi_cycle.specs.declared.tail_facts.TailFacts.{TailFacts}
use Rattle.onfi_cycle.specs.declared.target_cycle.TargetCycle.TheVariants.{CommandCycle}
use Rattle.onfi_cycle.specs.LunView.{LunView}
use Rattle.onfi_cycle.specs.Effect.{is_shared}
use Rattle.onfi_cycle.specs.Sequence.{wants_command}
use Rattle.std.specs.List.{list_any}
use Rattle.onfi_cycle.specs.Rules.{opens_here, breaks_sequence_open, breaks_several_luns, breaks_no_column_to_change, breaks_command_misplaced, breaks_address_misplaced, breaks_row_outside, breaks_lun_busy, breaks_queue_clash, breaks_input_misplaced, breaks_no_sole_driver, breaks_data_not_ready, breaks_column_outside, breaks_cache_read_misplaced, breaks_cache_program_misplaced, breaks_copyback_misplaced, breaks_plane_not_held}
use Rattle.onfi_cycle.specs.Permitted.{judge_known_cycle}

-- what is against a command that isn't misplaced, by the last three rules that a closer can break
abbrev against_closer : (reads programs copies : Bool) → Option Forbidden
against_closer reads programs copies = cond reads (Some CacheReadMisplaced) (cond programs (Some CacheProgramMisplaced) (cond copies (Some CopybackMisplaced) None))

-- s: the target is shared; x: the command is misplaced; rest: what is against it else
only_misplaced : (s x : Bool) (rest : Option Forbidden) → cond x (Some CommandMisplaced) rest ≡ cond (cond s false false) (Some SeveralLuns) (cond x (Some CommandMisplaced) (cond (s && false) (Some LunBusy) rest))
only_misplaced true true rest = refl
only_misplaced true false rest = refl
only_misplaced false true rest = refl
only_misplaced false false rest = refl

-- of 85 where no copyback is declared: w: the tail wants it; r: some LUN is ready
no_column : (s w r : Bool) → cond (true && not w) (Some CommandMisplaced) None
    ≡ cond (cond s false false) (Some SeveralLuns) (cond (true && not w) (Some CommandMisplaced) (cond ((not w && not r) || (s && false)) (Some LunBusy) None))
no_column true true true = refl
no_column true true false = refl
no_column true false true = refl
no_column true false false = refl
no_column false true true = refl
no_column false true false = refl
no_column false false true = refl
no_column false false false = refl

-- what is against a closer that isn't misplaced
abbrev against : Parts → TailFacts → List LunView → Command → Option Forbidden
against g t luns c =
    against_closer (breaks_cache_read_misplaced g t luns (CommandCycle c)) (breaks_cache_program_misplaced g t luns (CommandCycle c)) (breaks_copyback_misplaced g t luns (CommandCycle c))

closer_judged : (g : Parts) (t : TailFacts) (luns : List LunView) (c : Command) → opens_here g c ≡ false → cond (breaks_command_misplaced g t (CommandCycle c)) (Some CommandMisplaced) (against g t luns c) ≡ judge_known_cycle g t luns (CommandCycle c)
unfolding breaks_sequence_open breaks_several_luns breaks_no_column_to_change breaks_command_misplaced breaks_address_misplaced breaks_row_outside breaks_lun_busy breaks_queue_clash breaks_input_misplaced breaks_no_sole_driver breaks_data_not_ready breaks_column_outside breaks_cache_read_misplaced breaks_cache_program_misplaced breaks_copyback_misplaced breaks_plane_not_held
closer_judged g t luns ReadConfirm h = only_misplaced (is_shared g) (breaks_command_misplaced g t (CommandCycle ReadConfirm)) (against g t luns ReadConfirm)
closer_judged g t luns ReadPlane h = only_misplaced (is_shared g) (breaks_command_misplaced g t (CommandCycle ReadPlane)) (against g t luns ReadPlane)
closer_judged g t luns CopybackRead h = only_misplaced (is_shared g) (breaks_command_misplaced g t (CommandCycle CopybackRead)) (against g t luns CopybackRead)
closer_judged g t luns ChangeReadColumnConfirm h = only_misplaced (is_shared g) (breaks_command_misplaced g t (CommandCycle ChangeReadColumnConfirm)) (against g t luns ChangeReadColumnConfirm)
closer_judged g t luns BlockEraseConfirm h = only_misplaced (is_shared g) (breaks_command_misplaced g t (CommandCycle BlockEraseConfirm)) (against g t luns BlockEraseConfirm)
closer_judged g t luns BlockErasePlane h = only_misplaced (is_shared g) (breaks_command_misplaced g t (CommandCycle BlockErasePlane)) (against g t luns BlockErasePlane)
closer_judged g t luns ChangeWriteColumn h = rw h (no_column (is_shared g) (wants_command t ChangeWriteColumn) (list_any (λ v. not v.busy) luns))
closer_judged g t luns ProgramConfirm h = only_misplaced (is_shared g) (breaks_command_misplaced g t (CommandCycle ProgramConfirm)) (against g t luns ProgramConfirm)
closer_judged g t luns ProgramPlane h = only_misplaced (is_shared g) (breaks_command_misplaced g t (CommandCycle ProgramPlane)) (against g t luns ProgramPlane)
closer_judged g t luns ProgramCache h = only_misplaced (is_shared g) (breaks_command_misplaced g t (CommandCycle ProgramCache)) (against g t luns ProgramCache)
closer_judged g t luns Unknown h = only_misplaced (is_shared g) (breaks_command_misplaced g t (CommandCycle Unknown)) (against g t luns Unknown)
closer_judged g t luns c h = cc

pub closer_misplaced : (g : Parts) (t : TailFacts) (luns : List LunView) (c : Command) → opens_here g c ≡ false → breaks_command_misplaced g t (CommandCycle c) ≡ true → Some CommandMisplaced ≡ judge_known_cycle g t luns (CommandCycle c)
closer_misplaced g t luns c h e = ap (λ (b : Bool). cond b (Some CommandMisplaced) (against g t luns c)) (sym e) ∙ closer_judged g t luns c h

behind_misplaced : (g : Parts) (t : TailFacts) (luns : List LunView) (c : Command) → opens_here g c ≡ false → breaks_command_misplaced g t (CommandCycle c) ≡ false → against g t luns c ≡ judge_known_cycle g t luns (CommandCycle c)
behind_misplaced g t luns c h e = ap (λ (b : Bool). cond b (Some CommandMisplaced) (against g t luns c)) (sym e) ∙ closer_judged g t luns c h

pub closer_reads : (g : Parts) (t : TailFacts) (luns : List LunView) (c : Command) → opens_here g c ≡ false → breaks_command_misplaced g t (CommandCycle c) ≡ false → breaks_cache_read_misplaced g t luns (CommandCycle c) ≡ true → Some CacheReadMisplaced ≡ judge_known_cycle g t luns (CommandCycle c)
closer_reads g t luns c h e f =
    ap (λ (b : Bool). against_closer b (breaks_cache_program_misplaced g t luns (CommandCycle c)) (breaks_copyback_misplaced g t luns (CommandCycle c))) (sym f) ∙ behind_misplaced g t luns c h e

pub closer_programs : (g : Parts) (t : TailFacts) (luns : List LunView) (c : Command) → opens_here g c ≡ false → breaks_command_misplaced g t (CommandCycle c) ≡ false → breaks_cache_read_misplaced g t luns (CommandCycle c) ≡ false → breaks_cache_program_misplaced g t luns (CommandCycle c) ≡ true → Some CacheProgramMisplaced ≡ judge_known_cycle g t luns (CommandCycle c)
closer_programs g t luns c h e f p =
    ap (λ (b : Bool). against_closer false b (breaks_copyback_misplaced g t luns (CommandCycle c))) (sym p)
    ∙ (ap (λ (b : Bool). against_closer b (breaks_cache_program_misplaced g t luns (CommandCycle c)) (breaks_copyback_misplaced g t luns (CommandCycle c))) (sym f) ∙ behind_misplaced g t luns c h e)

behind_programs : (g : Parts) (t : TailFacts) (luns : List LunView) (c : Command) → opens_here g c ≡ false → breaks_command_misplaced g t (CommandCycle c) ≡ false → breaks_cache_read_misplaced g t luns (CommandCycle c) ≡ false → breaks_cache_program_misplaced g t luns (CommandCycle c) ≡ false
    → against_closer false false (breaks_copyback_misplaced g t luns (CommandCycle c)) ≡ judge_known_cycle g t luns (CommandCycle c)
behind_programs g t luns c h e f p =
    ap (λ (b : Bool). against_closer false b (breaks_copyback_misplaced g t luns (CommandCycle c))) (sym p)
    ∙ (ap (λ (b : Bool). against_closer b (breaks_cache_program_misplaced g t luns (CommandCycle c)) (breaks_copyback_misplaced g t luns (CommandCycle c))) (sym f) ∙ behind_misplaced g t luns c h e)

pub closer_copies : (g : Parts) (t : TailFacts) (luns : List LunView) (c : Command) → opens_here g c ≡ false → breaks_command_misplaced g t (CommandCycle c) ≡ false → breaks_cache_read_misplaced g t luns (CommandCycle c) ≡ false → breaks_cache_program_misplaced g t luns (CommandCycle c) ≡ false → breaks_copyback_misplaced g t luns (CommandCycle c) ≡ true → Some CopybackMisplaced ≡ judge_known_cycle g t luns (CommandCycle c)
closer_copies g t luns c h e f p q = ap (λ (b : Bool). against_closer false false b) (sym q) ∙ behind_programs g t luns c h e f p

pub closer_passes : (g : Parts) (t : TailFacts) (luns : List LunView) (c : Command) → opens_here g c ≡ false → breaks_command_misplaced g t (CommandCycle c) ≡ false → breaks_cache_read_misplaced g t luns (CommandCycle c) ≡ false → breaks_cache_program_misplaced g t luns (CommandCycle c) ≡ false → breaks_copyback_misplaced g t luns (CommandCycle c) ≡ false → None ≡ judge_known_cycle g t luns (CommandCycle c)
closer_passes g t luns c h e f p q = ap (λ (b : Bool). against_closer false false b) (sym q) ∙ behind_programs g t luns c h e f p
