-- A poll of a lone LUN: its cycles pass, and the claim behind mirrors what they leave.
use Rattle.std.proofs.Common.{◌≡◌, Bool, true, false, ◌||◌, cond, ltb, List, [], ◌∷◌, Option, Some, None, refl, sym, ap, ◌∙◌, subst}
use Rattle.std.proofs.Math.Bool.{or-false, or-true}
use Rattle.nand_geometry.specs.declared.parts.Parts.{Parts}
use Rattle.onfi_cycle.specs.declared.command.Command.{Command}
use Rattle.onfi_cycle.specs.declared.command.Command.TheVariants.{ReadStatus as StatusCommand, ChangeWriteColumn, ProgramConfirm, ProgramPlane, ProgramCache}
use Rattle.onfi_cycle.specs.declared.item.Kind.TheVariants.{Cmd}
use Rattle.onfi_cycle.specs.declared.read_column.ReadColumn.{ReadColumn}
use Rattle.onfi_cycle.specs.declared.tail_facts.TailFacts.{TailFacts}
use Rattle.onfi_cycle.specs.declared.target_cycle.TargetCycle.TheVariants.{CommandCycle, OutputCycle}
use Rattle.onfi_cycle.specs.Command.{command}
use Rattle.onfi_cycle.specs.Sequence.{facts_of, facts_after, is_open, wants_command}
use Rattle.onfi_cycle.specs.Lun.{option_plus}
use Rattle.onfi_cycle.specs.Rules.{breaks_command_unknown, breaks_sequence_open, breaks_several_luns, breaks_no_column_to_change, breaks_command_misplaced, breaks_address_misplaced, breaks_row_outside, breaks_lun_busy, breaks_queue_clash, breaks_input_misplaced, breaks_no_sole_driver, breaks_data_not_ready, breaks_column_outside, breaks_cache_read_misplaced, breaks_cache_program_misplaced, breaks_copyback_misplaced, breaks_plane_not_held}
use Rattle.micro_program.specs.Moves.{Move, Give, Take}
use Rattle.micro_claims.specs.declared.output_column.OutputColumn.{OutputColumn}
use Rattle.micro_claims.specs.Leaves.{unread}
use Rattle.micro_program.proofs.Polls.{lost}
use Rattle.micro_program.proofs.PollScenes.{polled_view}
use Rattle.micro_verify.proofs.Lone.{Lone, MovesPass, lone_behind, lone_after, judged}
use Rattle.micro_verify.proofs.Mirrors.{Shut, ColumnMirror}

abbrev pub poll_moves : List Move
poll_moves = Give Cmd 0x70 ∷ (Take ∷ [])

-- the facts behind a poll by 70h
abbrev pub polled_facts : TailFacts
polled_facts = facts_after OutputCycle (facts_of (CommandCycle StatusCommand ∷ []))

pub polled_shut : Shut polled_facts
polled_shut = record { closed = refl; address = λ b. refl; command = none }
  where
    none : (d : Command) → wants_command polled_facts d ≡ false
    none ChangeWriteColumn = refl
    none ProgramConfirm = refl
    none ProgramPlane = refl
    none ProgramCache = refl
    none _ = refl

abbrev pub polled_lone : Lone → Lone
polled_lone c = record { facts = polled_facts; view = polled_view c.view.selected c.view.overlapped c.view }

judge_70 : (g : Parts) (c : Lone) → ltb 1 g.luns ≡ false → is_open c.facts ≡ false → judged g c (CommandCycle StatusCommand) ≡ None
unfolding breaks_command_unknown breaks_sequence_open breaks_several_luns breaks_no_column_to_change breaks_command_misplaced breaks_address_misplaced breaks_row_outside breaks_lun_busy breaks_queue_clash breaks_input_misplaced breaks_no_sole_driver breaks_data_not_ready breaks_column_outside breaks_cache_read_misplaced breaks_cache_program_misplaced breaks_copyback_misplaced breaks_plane_not_held
judge_70 g c one closed = rw (closed, one) refl

judge_shown : (g : Parts) (c : Lone) → judged g (lone_behind g (CommandCycle StatusCommand) c) OutputCycle ≡ None
unfolding breaks_command_unknown breaks_sequence_open breaks_several_luns breaks_no_column_to_change breaks_command_misplaced breaks_address_misplaced breaks_row_outside breaks_lun_busy breaks_queue_clash breaks_input_misplaced breaks_no_sole_driver breaks_data_not_ready breaks_column_outside breaks_cache_read_misplaced breaks_cache_program_misplaced breaks_copyback_misplaced breaks_plane_not_held
judge_shown g c = refl

pub poll_passes : (g : Parts) (c : Lone) → ltb 1 g.luns ≡ false → is_open c.facts ≡ false → MovesPass g poll_moves c
unfolding command
poll_passes g c one closed = (judge_70 g c one closed, (judge_shown g c, tt))

pub poll_leaves_lone : (g : Parts) (c : Lone) → lone_after g poll_moves c ≡ polled_lone c
unfolding command
poll_leaves_lone g c = refl

-- a column that was read is lost, another is not
pub unread_exact : (o : Option OutputColumn) (k : ReadColumn) → ColumnMirror o k → ColumnMirror (unread o) (lost k)
unread_exact None k m = at k.lost refl (ltb 0 k.outputs)
  where
    at : (b : Bool) → k.lost ≡ b → (d : Bool) → cond (k.lost || d) None (option_plus k.outputs k.given) ≡ None
    at true e d = rw e refl
    at false e true = rw e refl
    at false e false = rw e (ap (λ (b : Bool). cond b None (option_plus k.outputs k.given)) (sym e) ∙ m)
unread_exact (Some c) k m = at c.read refl
  where
    at : (b : Bool) → c.read ≡ b → ColumnMirror (cond b None (Some c)) (lost k)
    at true e =
        let gone : (k.lost || ltb 0 k.outputs) ≡ true = ap (λ (b : Bool). k.lost || b) (sym m.read ∙ e) ∙ or-true k.lost in
        ap (λ (b : Bool). cond b None (option_plus k.outputs k.given)) gone
    at false e =
        let same : lost k ≡ k = ap (λ (b : Bool). record k { lost = b }) (ap (λ (b : Bool). k.lost || b) (sym m.read ∙ e) ∙ or-false k.lost) in
        subst (λ (x : ReadColumn). ColumnMirror (Some c) x) (sym same) m
