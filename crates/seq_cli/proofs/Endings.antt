-- A command ends as its own function does.
use Rattle.std.proofs.Common.{◌≡◌, ap, refl}
use Rattle.seq_inputs.specs.declared.exit.Exit.{Exit}
use Rattle.program_commands.specs.declared.lint_ending.LintEnding.{LintEnding}
use Rattle.program_commands.specs.declared.lint_ending.LintEnding.TheVariants as lint
use Rattle.recording.specs.declared.ending.Ending.{Ending}
use Rattle.recording.specs.declared.ending.Ending.TheVariants as ending
use Rattle.recording.specs.declared.recording_fault.RecordingFault.{RecordingFault}
use Rattle.seq_cli.specs.Commands.{ending_of}

pub exits_same : (one other : Exit) → ending.Exit one ≡ ending.Exit other → one ≡ other
exits_same one other is = cc

-- ---- a lint

no_exit : (exit : Exit) → ending.Flagged ≡ ending.Exit exit → ⊥
no_exit exit is = cc

pub lint_is : (l : LintEnding) (exit : Exit) → ending_of l ≡ ending.Exit exit → l ≡ lint.Exit exit
lint_is (lint.Exit one) exit is = ap lint.Exit (exits_same one exit is)
lint_is lint.Denied exit is = absurd (no_exit exit is)

no_flag : (exit : Exit) → ending.Exit exit ≡ ending.Flagged → ⊥
no_flag exit is = cc

pub denied_is : (l : LintEnding) → ending_of l ≡ ending.Flagged → l ≡ lint.Denied
denied_is (lint.Exit exit) is = absurd (no_flag exit is)
denied_is lint.Denied is = refl

no_fault : (exit : Exit) (fault : RecordingFault) → ending.Exit exit ≡ ending.Faulty fault → ⊥
no_fault exit fault is = cc

no_flagged_fault : (fault : RecordingFault) → ending.Flagged ≡ ending.Faulty fault → ⊥
no_flagged_fault fault is = cc

pub never_faulty : (l : LintEnding) (fault : RecordingFault) → ending_of l ≡ ending.Faulty fault → ⊥
never_faulty (lint.Exit exit) fault is = no_fault exit fault is
never_faulty lint.Denied fault is = no_flagged_fault fault is
