use Rattle.std.proofs.Common.{codes, refl, subst, sym, ◌∙◌}
use Rattle.seq_inputs.specs.Refusals.{line_of}
use Rattle.seq_cli.specs.declared.command.Command.{Command}
use Rattle.seq_inputs.specs.declared.exit.Exit.TheVariants as exit
use Rattle.recording.specs.declared.ending.Ending.TheVariants as ending
use Rattle.recording.specs.Recordings.{fault_line}
use Rattle.trace_commands.specs.Images.{done_text}
use Rattle.recording.specs.Captures.{text_printed}
use Rattle.seq_cli.specs.Commands.{IsDone, MayFlag, MayRefuse, MayTell}
use Rattle.seq_cli.proofs.Endings.{exits_same, lint_is, denied_is, never_faulty}
use Rattle.seq_cli.proofs.command.command_on.Goals as goal

pub returns-in-Assemble-clause-refused : goal.returns-in-Assemble-clause-refused
returns-in-Assemble-clause-refused g c = λ refusal is.
    let k = c.assemble_file.ensures.refused refusal (exits_same c.assemble_file.result (exit.Refused refusal) is) in (
      line_of refusal,
      subst (λ (m : Command). MayRefuse m (g.R.Read.remaining c.args.input.now) (g.F.Files.store c.args.files.now) (g.F.Files.store c.assemble_file.new.files) refusal (line_of refusal)) (sym c.in-Assemble.is) (k.0, k.1, refl),
      k.2,
    )

pub returns-in-AssembleFor-clause-refused : goal.returns-in-AssembleFor-clause-refused
returns-in-AssembleFor-clause-refused g c = λ refusal is.
    let k = c.assemble_file_for.ensures.refused refusal (exits_same c.assemble_file_for.result (exit.Refused refusal) is) in (
      line_of refusal,
      subst (λ (m : Command). MayRefuse m (g.R.Read.remaining c.args.input.now) (g.F.Files.store c.args.files.now) (g.F.Files.store c.assemble_file_for.new.files) refusal (line_of refusal)) (sym c.in-AssembleFor.is) (k.0, k.1, refl),
      k.2,
    )

pub returns-in-Verify-clause-refused : goal.returns-in-Verify-clause-refused
returns-in-Verify-clause-refused g c = λ refusal is.
    let k = c.verify_file.ensures.refused refusal (exits_same c.verify_file.result (exit.Refused refusal) is) in (
      line_of refusal,
      subst (λ (m : Command). MayRefuse m (g.R.Read.remaining c.args.input.now) (g.F.Files.store c.args.files.now) (g.F.Files.store c.verify_file.new.files) refusal (line_of refusal)) (sym c.in-Verify.is) (k.0, refl),
      k.1,
    )

pub returns-in-Lint-clause-done : goal.returns-in-Lint-clause-done
returns-in-Lint-clause-done g c = λ is.
    let k = c.lint_file.ensures.done (lint_is c.lint_file.result exit.Done (sym c.ending_of.ensures ∙ is)) in
    (k.0, subst (λ (m : Command). IsDone m (g.R.Read.remaining c.args.input.now) (g.F.Files.store c.args.files.now) (g.F.Files.store c.lint_file.new.files) k.0) (sym c.in-Lint.is) (k.1, c.lint_file.ensures.stays), k.2)

pub returns-in-Lint-clause-flagged : goal.returns-in-Lint-clause-flagged
returns-in-Lint-clause-flagged g c = λ is.
    let k = c.lint_file.ensures.denied (denied_is c.lint_file.result (sym c.ending_of.ensures ∙ is)) in
    (k.0, subst (λ (m : Command). MayFlag m (g.F.Files.store c.args.files.now) (g.F.Files.store c.lint_file.new.files) k.0) (sym c.in-Lint.is) (k.1, c.lint_file.ensures.stays), k.2)

pub returns-in-Lint-clause-refused : goal.returns-in-Lint-clause-refused
returns-in-Lint-clause-refused g c = λ refusal is.
    let k = c.lint_file.ensures.refused refusal (lint_is c.lint_file.result (exit.Refused refusal) (sym c.ending_of.ensures ∙ is)) in (
      line_of refusal,
      subst (λ (m : Command). MayRefuse m (g.R.Read.remaining c.args.input.now) (g.F.Files.store c.args.files.now) (g.F.Files.store c.lint_file.new.files) refusal (line_of refusal)) (sym c.in-Lint.is) (k.0, c.lint_file.ensures.stays, refl),
      k.1,
    )

pub returns-in-Explain-clause-refused : goal.returns-in-Explain-clause-refused
returns-in-Explain-clause-refused g c = λ refusal is.
    let k = c.explain_file.ensures.refused refusal (exits_same c.explain_file.result (exit.Refused refusal) is) in (
      line_of refusal,
      subst (λ (m : Command). MayRefuse m (g.R.Read.remaining c.args.input.now) (g.F.Files.store c.args.files.now) (g.F.Files.store c.explain_file.new.files) refusal (line_of refusal)) (sym c.in-Explain.is) (k.0, c.explain_file.ensures.stays, refl),
      k.1,
    )

pub returns-in-Lint-clause-faulty : goal.returns-in-Lint-clause-faulty
returns-in-Lint-clause-faulty g c = λ fault is.
    absurd (never_faulty c.lint_file.result fault (sym c.ending_of.ensures ∙ is))

pub returns-in-Once-clause-done : goal.returns-in-Once-clause-done
returns-in-Once-clause-done g c = λ is.
    let k = c.run_program.ensures.done (exits_same c.run_program.result exit.Done is) in
    (k.0, subst (λ (m : Command). IsDone m (g.R.Read.remaining c.args.input.now) (g.F.Files.store c.args.files.now) (g.F.Files.store c.args.files.now) k.0) (sym c.in-Once.is) (k.1, refl), k.2)

pub returns-in-Once-clause-refused : goal.returns-in-Once-clause-refused
returns-in-Once-clause-refused g c = λ refusal is.
    let k = c.run_program.ensures.refused refusal (exits_same c.run_program.result (exit.Refused refusal) is) in (
      line_of refusal,
      subst (λ (m : Command). MayRefuse m (g.R.Read.remaining c.args.input.now) (g.F.Files.store c.args.files.now) (g.F.Files.store c.args.files.now) refusal (line_of refusal)) (sym c.in-Once.is) (k.0, refl, refl),
      k.1,
    )

pub returns-in-Run-clause-refused : goal.returns-in-Run-clause-refused
returns-in-Run-clause-refused g c = λ refusal is.
    let k = c.run_watched.ensures.refused refusal (exits_same c.run_watched.result (exit.Refused refusal) is) in (
      line_of refusal,
      subst (λ (m : Command). MayRefuse m (g.R.Read.remaining c.args.input.now) (g.F.Files.store c.args.files.now) (g.F.Files.store c.run_watched.new.files) refusal (line_of refusal)) (sym c.in-Run.is) (k.0, k.1, refl),
      k.2,
    )

pub returns-in-Capture-clause-refused : goal.returns-in-Capture-clause-refused
returns-in-Capture-clause-refused g c = λ refusal is.
    let k = c.capture_trace.ensures.refused refusal is in (
      line_of refusal,
      subst (λ (m : Command). MayRefuse m (g.R.Read.remaining c.args.input.now) (g.F.Files.store c.args.files.now) (g.F.Files.store c.capture_trace.new.files) refusal (line_of refusal)) (sym c.in-Capture.is) (k.0, k.1, refl),
      k.2,
    )

pub returns-in-Draw-clause-refused : goal.returns-in-Draw-clause-refused
returns-in-Draw-clause-refused g c = λ refusal is.
    let k = c.draw_trace.ensures.refused refusal is in (
      line_of refusal,
      subst (λ (m : Command). MayRefuse m (g.R.Read.remaining c.args.input.now) (g.F.Files.store c.args.files.now) (g.F.Files.store c.draw_trace.new.files) refusal (line_of refusal)) (sym c.in-Draw.is) (k.0, k.1, refl),
      k.2,
    )

pub returns-in-Disassemble-clause-refused : goal.returns-in-Disassemble-clause-refused
returns-in-Disassemble-clause-refused g c = λ refusal is.
    let k = c.disassemble_file.ensures.refused refusal (exits_same c.disassemble_file.result (exit.Refused refusal) is) in (
      line_of refusal,
      subst (λ (m : Command). MayRefuse m (g.R.Read.remaining c.args.input.now) (g.F.Files.store c.args.files.now) (g.F.Files.store c.disassemble_file.new.files) refusal (line_of refusal)) (sym c.in-Disassemble.is) (k.0, c.disassemble_file.ensures.stays, refl),
      k.1,
    )

pub returns-in-Upgrade-clause-refused : goal.returns-in-Upgrade-clause-refused
returns-in-Upgrade-clause-refused g c = λ refusal is.
    let k = c.upgrade_file.ensures.refused refusal (exits_same c.upgrade_file.result (exit.Refused refusal) is) in (
      line_of refusal,
      subst (λ (m : Command). MayRefuse m (g.R.Read.remaining c.args.input.now) (g.F.Files.store c.args.files.now) (g.F.Files.store c.upgrade_file.new.files) refusal (line_of refusal)) (sym c.in-Upgrade.is) (k.0, k.1, refl),
      k.2,
    )

pub returns-in-Capture-clause-faulty : goal.returns-in-Capture-clause-faulty
returns-in-Capture-clause-faulty g c = λ fault is.
    let k = c.capture_trace.ensures.faulty fault is in (
      fault_line fault,
      subst (λ (m : Command). MayTell m (g.F.Files.store c.args.files.now) (g.F.Files.store c.capture_trace.new.files) fault (fault_line fault)) (sym c.in-Capture.is) (k.0, k.1, refl),
      k.2,
    )

pub returns-in-Draw-clause-faulty : goal.returns-in-Draw-clause-faulty
returns-in-Draw-clause-faulty g c = λ fault is.
    let k = c.draw_trace.ensures.faulty fault is in (
      fault_line fault,
      subst (λ (m : Command). MayTell m (g.F.Files.store c.args.files.now) (g.F.Files.store c.draw_trace.new.files) fault (fault_line fault)) (sym c.in-Draw.is) (k.0, k.1, refl),
      k.2,
    )

pub returns-in-Check-clause-refused : goal.returns-in-Check-clause-refused
returns-in-Check-clause-refused g c = λ refusal is.
    let k = c.check_trace.ensures.refused refusal is in (
      line_of refusal,
      subst (λ (m : Command). MayRefuse m (g.R.Read.remaining c.args.input.now) (g.F.Files.store c.args.files.now) (g.F.Files.store c.check_trace.new.files) refusal (line_of refusal)) (sym c.in-Check.is) (k.0, k.1, refl),
      k.2,
    )

pub returns-in-MakePage-clause-refused : goal.returns-in-MakePage-clause-refused
returns-in-MakePage-clause-refused g c = λ refusal is.
    let k = c.make_page.ensures.refused refusal (exits_same c.make_page.result (exit.Refused refusal) is) in (
      line_of refusal,
      subst (λ (m : Command). MayRefuse m (g.R.Read.remaining c.args.input.now) (g.F.Files.store c.args.files.now) (g.F.Files.store c.make_page.new.files) refusal (line_of refusal)) (sym c.in-MakePage.is) (k.0, k.1, refl),
      k.2,
    )

pub returns-in-ShowPage-clause-done : goal.returns-in-ShowPage-clause-done
returns-in-ShowPage-clause-done g c = λ is.
    let k = c.show_page.ensures.done (exits_same c.show_page.result exit.Done is) in
    (k.1, subst (λ (m : Command). IsDone m (g.R.Read.remaining c.args.input.now) (g.F.Files.store c.args.files.now) (g.F.Files.store c.show_page.new.files) k.1) (sym c.in-ShowPage.is) (k.0, c.show_page.ensures.stays), k.2)

pub returns-in-ShowPage-clause-refused : goal.returns-in-ShowPage-clause-refused
returns-in-ShowPage-clause-refused g c = λ refusal is.
    let k = c.show_page.ensures.refused refusal (exits_same c.show_page.result (exit.Refused refusal) is) in (
      line_of refusal,
      subst (λ (m : Command). MayRefuse m (g.R.Read.remaining c.args.input.now) (g.F.Files.store c.args.files.now) (g.F.Files.store c.show_page.new.files) refusal (line_of refusal)) (sym c.in-ShowPage.is) (k.0, c.show_page.ensures.stays, refl),
      k.1,
    )

pub returns-in-ListOperations-clause-done : goal.returns-in-ListOperations-clause-done
returns-in-ListOperations-clause-done g c = λ is.
    let k = c.list_operations.ensures.done is in
    (k.0, subst (λ (m : Command). IsDone m (g.R.Read.remaining c.args.input.now) (g.F.Files.store c.args.files.now) (g.F.Files.store c.list_operations.new.files) k.0) (sym c.in-ListOperations.is) (k.1, c.list_operations.ensures.stays), k.2)

pub returns-in-ListOperations-clause-refused : goal.returns-in-ListOperations-clause-refused
returns-in-ListOperations-clause-refused g c = λ refusal is.
    let k = c.list_operations.ensures.refused refusal is in
    (line_of refusal, subst (λ (m : Command). MayRefuse m (g.R.Read.remaining c.args.input.now) (g.F.Files.store c.args.files.now) (g.F.Files.store c.list_operations.new.files) refusal (line_of refusal)) (sym c.in-ListOperations.is) (k.0, c.list_operations.ensures.stays, refl), k.1)

pub returns-in-ListOperations-clause-faulty : goal.returns-in-ListOperations-clause-faulty
returns-in-ListOperations-clause-faulty g c = λ fault is.
    let k = c.list_operations.ensures.faulty fault is in
    (fault_line fault, subst (λ (m : Command). MayTell m (g.F.Files.store c.args.files.now) (g.F.Files.store c.list_operations.new.files) fault (fault_line fault)) (sym c.in-ListOperations.is) (k.0, c.list_operations.ensures.stays, refl), k.1)

pub returns-in-TakePage-clause-refused : goal.returns-in-TakePage-clause-refused
returns-in-TakePage-clause-refused g c = λ refusal is.
    let k = c.take_page.ensures.refused refusal is in (
      line_of refusal,
      subst (λ (m : Command). MayRefuse m (g.R.Read.remaining c.args.input.now) (g.F.Files.store c.args.files.now) (g.F.Files.store c.take_page.new.files) refusal (line_of refusal)) (sym c.in-TakePage.is) (k.0, refl),
      k.1,
    )

pub returns-in-TakePage-clause-faulty : goal.returns-in-TakePage-clause-faulty
returns-in-TakePage-clause-faulty g c = λ fault is.
    let k = c.take_page.ensures.faulty fault is in (
      fault_line fault,
      subst (λ (m : Command). MayTell m (g.F.Files.store c.args.files.now) (g.F.Files.store c.take_page.new.files) fault (fault_line fault)) (sym c.in-TakePage.is) (k.0, refl),
      k.1,
    )

pub returns-in-WriteImage-clause-done : goal.returns-in-WriteImage-clause-done
returns-in-WriteImage-clause-done g c = λ is.
    let k = c.write_image.ensures.done is in
    (done_text k.0, subst (λ (m : Command). IsDone m (g.R.Read.remaining c.args.input.now) (g.F.Files.store c.args.files.now) (g.F.Files.store c.write_image.new.files) (done_text k.0)) (sym c.in-WriteImage.is) (k.0, k.1, refl), k.2)

pub returns-in-WriteImage-clause-refused : goal.returns-in-WriteImage-clause-refused
returns-in-WriteImage-clause-refused g c = λ refusal is.
    let k = c.write_image.ensures.refused refusal is in
    (line_of refusal, subst (λ (m : Command). MayRefuse m (g.R.Read.remaining c.args.input.now) (g.F.Files.store c.args.files.now) (g.F.Files.store c.write_image.new.files) refusal (line_of refusal)) (sym c.in-WriteImage.is) (k.0, k.1, refl), k.2)

pub returns-in-WriteImage-clause-faulty : goal.returns-in-WriteImage-clause-faulty
returns-in-WriteImage-clause-faulty g c = λ fault is.
    let k = c.write_image.ensures.faulty fault is in
    (k.0, subst (λ (m : Command). MayTell m (g.F.Files.store c.args.files.now) (g.F.Files.store c.write_image.new.files) fault k.0) (sym c.in-WriteImage.is) (k.1, k.2), k.3)

pub returns-in-Check-clause-faulty : goal.returns-in-Check-clause-faulty
returns-in-Check-clause-faulty g c = λ fault is.
    let k = c.check_trace.ensures.faulty fault is in
    (k.0, subst (λ (m : Command). MayTell m (g.F.Files.store c.args.files.now) (g.F.Files.store c.check_trace.new.files) fault k.0) (sym c.in-Check.is) k.1, k.2)

pub returns-in-Timing-clause-done : goal.returns-in-Timing-clause-done
returns-in-Timing-clause-done g c = λ is.
    let k = c.time_capture.ensures.done is in
    (codes "kept\n", subst (λ (m : Command). IsDone m (g.R.Read.remaining c.args.input.now) (g.F.Files.store c.args.files.now) (g.F.Files.store c.time_capture.new.files) (codes "kept\n")) (sym c.in-Timing.is) (k.0, c.time_capture.ensures.stays, refl), k.1)

pub returns-in-Timing-clause-refused : goal.returns-in-Timing-clause-refused
returns-in-Timing-clause-refused g c = λ refusal is.
    let k = c.time_capture.ensures.refused refusal is in
    (line_of refusal, subst (λ (m : Command). MayRefuse m (g.R.Read.remaining c.args.input.now) (g.F.Files.store c.args.files.now) (g.F.Files.store c.time_capture.new.files) refusal (line_of refusal)) (sym c.in-Timing.is) (k.0, c.time_capture.ensures.stays, refl), k.1)

pub returns-in-Timing-clause-faulty : goal.returns-in-Timing-clause-faulty
returns-in-Timing-clause-faulty g c = λ fault is.
    let k = c.time_capture.ensures.faulty fault is in
    (k.0, subst (λ (m : Command). MayTell m (g.F.Files.store c.args.files.now) (g.F.Files.store c.time_capture.new.files) fault k.0) (sym c.in-Timing.is) (k.1, c.time_capture.ensures.stays), k.2)

pub returns-in-Capture-clause-done : goal.returns-in-Capture-clause-done
returns-in-Capture-clause-done g c = λ is.
    let k = c.capture_trace.ensures.done is in
    (text_printed k.0, subst (λ (m : Command). IsDone m (g.R.Read.remaining c.args.input.now) (g.F.Files.store c.args.files.now) (g.F.Files.store c.capture_trace.new.files) (text_printed k.0)) (sym c.in-Capture.is) (k.0, k.1, refl), k.2)
