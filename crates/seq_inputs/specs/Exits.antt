-- How a command ends: its status.
use Rattle.std.specs.Prelude.{ℕ, ⊤}
use Rattle.seq_inputs.specs.declared.exit.Exit.{Exit}
use Rattle.seq_inputs.specs.declared.exit.Exit.TheVariants.{Done, Refused, FileFault, ReaderGone, Usage, TooManySteps, OutOfMemory}

-- the status of the process
abbrev pub status : Exit → ℕ
status Done = 0
status (Refused refusal) = 1
status FileFault = 2
status ReaderGone = 2
status Usage = 3
status TooManySteps = 4
status OutOfMemory = 4

-- the output didn't take what it was given, and that is all that is wrong
abbrev pub IsUnwritten : Exit → Type 0
IsUnwritten Done = ⊥
IsUnwritten (Refused refusal) = ⊥
IsUnwritten FileFault = ⊤
IsUnwritten ReaderGone = ⊤
IsUnwritten Usage = ⊥
IsUnwritten TooManySteps = ⊥
IsUnwritten OutOfMemory = ⊤
