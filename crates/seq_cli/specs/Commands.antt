-- What any command comes to: what its input and its files were, what the files are then, and what is printed.
use Rattle.std.specs.Prelude.{◌≡◌, ◌⊎◌, ℕ, true, false, List, Option, IfSome, codes}
use Rattle.seq_files.specs.Store.{Store}
use Rattle.trace_files.specs.Files.{no_outputs}
use Rattle.seq_inputs.specs.declared.refusal.Refusal.{Refusal}
use Rattle.seq_inputs.specs.Inputs.{HasPage, PageIsRefused, FileIsRefused}
use Rattle.seq_inputs.specs.Stops.{Tells}
use Rattle.seq_inputs.specs.Refusals.{line_of}
use Rattle.program_commands.specs.Commands.{IsAssembled, SourceIsRefused, IsAssembledFor, AssembleForRefuses, IsDisassembled, IsUpgraded, ReadRefuses, IsExplained, IsAccepted, VerifyRefuses, VerifyLeaves}
use Rattle.nand_geometry.specs.declared.parts.Parts.{Parts}
use Rattle.page_commands.specs.Pages.{IsPageMade, PartsAreRefused}
use Rattle.program_commands.specs.declared.lint_ending.LintEnding.{LintEnding}
use Rattle.program_commands.specs.declared.lint_ending.LintEnding.TheVariants as lint
use Rattle.recording.specs.declared.ending.Ending.{Ending}
use Rattle.recording.specs.declared.ending.Ending.TheVariants as ending
use Rattle.recording.specs.declared.recording_fault.RecordingFault.{RecordingFault}
use Rattle.recording.specs.Captures.{IsCaptured, text_printed, CaptureIsRefused}
use Rattle.recording.specs.Checks.{InputIsRefused}
use Rattle.recording.specs.Recordings.{fault_line}
use Rattle.recording.specs.Traces.{TraceIsRefused}
use Rattle.operation_commands.specs.Ops.{CanBeListed}
use Rattle.trace_commands.specs.Checks.{IsPassed, CheckRefuses, CheckLeaves}
use Rattle.trace_commands.specs.Images.{IsDieWritten, done_text, ImageRefuses, ImageTells}
use Rattle.edge_commands.specs.Edges.{AreEdgesJudged, EdgesTell}
use Rattle.trace_faults.specs.declared.unshown.NotShown.{NotShown}
use Rattle.trace_commands.specs.Draws.{IsDrawn}
use Rattle.trace_commands.specs.TakenPages.{IsPageTaken}
use Rattle.seq_run.specs.Runs.{IsRunDone, RunIsRefused, RunMayLeave}
use Rattle.run_once.specs.Once.{IsProgramRun, ProgramMayBeRefused}
use Rattle.seq_cli.specs.declared.command.Command.{Command}
use Rattle.seq_cli.specs.declared.command.Command.TheVariants.{Assemble, AssembleFor, Verify, Lint, Explain, Once, Run, Capture, Check, Timing, WriteImage, ListOperations, Draw, Disassemble, MakePage, TakePage, ShowPage, Upgrade}

-- a command ends as a lint does
abbrev pub ending_of : LintEnding → Ending
ending_of (lint.Exit exit) = ending.Exit exit
ending_of lint.Denied = ending.Flagged

-- the command is done: this was its input, where that is known, this is left and this was printed
abbrev pub IsDone : Command → (input : Option (List ℕ)) → (files later : Option Store) → (printed : List ℕ) → Type 0
IsDone (Assemble text target) input files later printed = IsAssembled files later text.now target.now × (printed ≡ codes "ok\n")
IsDone (AssembleFor page text target) input files later printed = IsAssembledFor files later page text.now target.now × (printed ≡ codes "ok\n")
IsDone (Verify request) input files later printed = IsAccepted files request.page request.input.now × (later ≡ files) × (printed ≡ codes "accepted\n")
IsDone (Lint request) input files later printed = IsAccepted files request.page request.input.now × (later ≡ files)
IsDone (Explain page text style) input files later printed = IsExplained files page text.now × (later ≡ files)
IsDone (Once base) input files later printed = IfSome input (λ bytes. IsProgramRun base bytes printed) × (later ≡ files)
IsDone (Run request) input files later printed = IsRunDone files later request printed
IsDone (Capture request) input files later printed = (handed : Option (List ℕ)) × IsCaptured files later request handed × (printed ≡ text_printed handed)
IsDone (Check request) input files later printed = IsPassed files later request true printed
IsDone (Timing request) input files later printed = AreEdgesJudged files request × (later ≡ files) × (printed ≡ codes "kept\n")
IsDone (WriteImage request) input files later printed = (assumed : List NotShown) × IsDieWritten files later request assumed × (printed ≡ done_text assumed)
IsDone (ListOperations request) input files later printed = CanBeListed files request × (later ≡ files)
IsDone (Draw request) input files later printed = IsDrawn files later request × (printed ≡ codes "ok\n")
IsDone (Disassemble file) input files later printed = IsDisassembled files file.now printed × (later ≡ files)
IsDone (MakePage parts target) input files later printed = IsPageMade files later parts target.now × (printed ≡ codes "ok\n")
IsDone (TakePage request) input files later printed = IsPageTaken files later request.target.now × (printed ≡ codes "ok\n")
IsDone (ShowPage page) input files later printed = ((g : Parts) × HasPage files page g) × (later ≡ files)
IsDone (Upgrade file target) input files later printed = IsUpgraded files later file.now target.now × (printed ≡ codes "ok\n")

-- a command is done, with what isn't to pass: a trace is legal with readies that are taken for granted, or a program is accepted with a note that is denied
abbrev pub MayFlag : Command → (files later : Option Store) → (printed : List ℕ) → Type 0
MayFlag (Lint request) files later printed = IsAccepted files request.page request.input.now × (later ≡ files)
MayFlag (Check request) files later printed = IsPassed files later request false printed
MayFlag _ files later printed = ⊥

-- what a command may refuse, and what it leaves and prints then: one line
abbrev pub MayRefuse : Command → (input : Option (List ℕ)) → (files later : Option Store) → Refusal → (printed : List ℕ) → Type 0
MayRefuse (Assemble text target) input files later refusal printed = Tells (SourceIsRefused files text.now) refusal × (later ≡ files) × (printed ≡ line_of refusal)
MayRefuse (AssembleFor page text target) input files later refusal printed =
    Tells (AssembleForRefuses files page text.now) refusal × (later ≡ files) × (printed ≡ line_of refusal)
MayRefuse (Verify request) input files later refusal printed =
    Tells (VerifyRefuses files later request.page request.input.now request.counter) refusal × (printed ≡ line_of refusal)
MayRefuse (Lint request) input files later refusal printed =
    Tells (VerifyRefuses files files request.page request.input.now no_outputs) refusal × (later ≡ files) × (printed ≡ line_of refusal)
MayRefuse (Explain page text style) input files later refusal printed =
    Tells (ReadRefuses files page text.now) refusal × (later ≡ files) × (printed ≡ line_of refusal)
MayRefuse (Once base) input files later refusal printed = IfSome input (λ bytes. Tells (ProgramMayBeRefused base bytes) refusal) × (later ≡ files) × (printed ≡ line_of refusal)
MayRefuse (Run request) input files later refusal printed = RunIsRefused files request refusal × (later ≡ files) × (printed ≡ line_of refusal)
MayRefuse (Capture request) input files later refusal printed = Tells (PageIsRefused files request.page.now) refusal × (later ≡ files) × (printed ≡ line_of refusal)
MayRefuse (Check request) input files later refusal printed =
    Tells (InputIsRefused files request request.dies) refusal × (later ≡ files) × (printed ≡ line_of refusal)
MayRefuse (Timing request) input files later refusal printed = Tells (PageIsRefused files request.page.now) refusal × (later ≡ files) × (printed ≡ line_of refusal)
MayRefuse (WriteImage request) input files later refusal printed = Tells (ImageRefuses files request) refusal × (later ≡ files) × (printed ≡ line_of refusal)
MayRefuse (ListOperations request) input files later refusal printed =
    Tells (PageIsRefused files request.trace.page.now) refusal × (later ≡ files) × (printed ≡ line_of refusal)
MayRefuse (Draw request) input files later refusal printed =
    Tells (PageIsRefused files request.trace.page.now) refusal × (later ≡ files) × (printed ≡ line_of refusal)
MayRefuse (Disassemble file) input files later refusal printed = Tells (FileIsRefused files file.now) refusal × (later ≡ files) × (printed ≡ line_of refusal)
MayRefuse (MakePage parts target) input files later refusal printed = Tells (PartsAreRefused parts) refusal × (later ≡ files) × (printed ≡ line_of refusal)
MayRefuse (TakePage request) input files later refusal printed = (later ≡ files) × (printed ≡ line_of refusal)
MayRefuse (ShowPage page) input files later refusal printed = Tells (PageIsRefused files page.path.now) refusal × (later ≡ files) × (printed ≡ line_of refusal)
MayRefuse (Upgrade file target) input files later refusal printed = Tells (FileIsRefused files file.now) refusal × (later ≡ files) × (printed ≡ line_of refusal)

-- what a command may find wrong with a trace or a capture, and what it leaves and prints then: one line, but for all faults of a trace
abbrev pub MayTell : Command → (files later : Option Store) → RecordingFault → (printed : List ℕ) → Type 0
MayTell (Capture request) files later fault printed = CaptureIsRefused files request fault × (later ≡ files) × (printed ≡ fault_line fault)
MayTell (Check request) files later fault printed = CheckRefuses files later request fault printed
MayTell (Timing request) files later fault printed = EdgesTell files request fault printed × (later ≡ files)
MayTell (WriteImage request) files later fault printed = ImageTells files later request fault printed × (later ≡ files)
MayTell (ListOperations request) files later fault printed = TraceIsRefused files true request.trace fault × (later ≡ files) × (printed ≡ fault_line fault)
MayTell (Draw request) files later fault printed = TraceIsRefused files false request.trace fault × (later ≡ files) × (printed ≡ fault_line fault)
MayTell (TakePage request) files later fault printed = (later ≡ files) × (printed ≡ fault_line fault)
MayTell _ files later fault printed = ⊥

-- what a command may leave, however it ends: the files as they were, or what it writes when it is done
abbrev pub MayLeave : Command → (files later : Option Store) → Type 0
MayLeave (Assemble text target) files later = (later ≡ files) ⊎ IsAssembled files later text.now target.now
MayLeave (AssembleFor page text target) files later = (later ≡ files) ⊎ IsAssembledFor files later page text.now target.now
MayLeave (Verify request) files later = VerifyLeaves files later request.page request.input.now request.counter
MayLeave (Lint request) files later = later ≡ files
MayLeave (Explain page text style) files later = later ≡ files
MayLeave (Once base) files later = later ≡ files
MayLeave (Run request) files later = RunMayLeave files later request
MayLeave (Capture request) files later = (later ≡ files) ⊎ ((handed : Option (List ℕ)) × IsCaptured files later request handed)
MayLeave (Check request) files later = CheckLeaves files later request
MayLeave (Timing request) files later = later ≡ files
MayLeave (WriteImage request) files later = (later ≡ files) ⊎ ((assumed : List NotShown) × IsDieWritten files later request assumed)
MayLeave (ListOperations request) files later = later ≡ files
MayLeave (Draw request) files later = (later ≡ files) ⊎ IsDrawn files later request
MayLeave (Disassemble file) files later = later ≡ files
MayLeave (MakePage parts target) files later = (later ≡ files) ⊎ IsPageMade files later parts target.now
MayLeave (TakePage request) files later = (later ≡ files) ⊎ IsPageTaken files later request.target.now
MayLeave (ShowPage page) files later = later ≡ files
MayLeave (Upgrade file target) files later = (later ≡ files) ⊎ IsUpgraded files later file.now target.now
