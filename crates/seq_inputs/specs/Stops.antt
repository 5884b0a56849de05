-- Why a command isn't done.
use Rattle.std.specs.Prelude.{◌≡◌, ◌<◌, ℕ, ⊤, Option, Some, None}
use Rattle.seq_inputs.specs.declared.fault.Fault.{Fault}
use Rattle.seq_inputs.specs.declared.refusal.Refusal.{Refusal}
use Rattle.seq_inputs.specs.declared.exit.Exit.{Exit}
use Rattle.seq_inputs.specs.declared.exit.Exit.TheVariants as exit
use Rattle.seq_inputs.specs.declared.stop.Stop.{Stop}
use Rattle.seq_inputs.specs.declared.stop.Stop.TheVariants.{Refused, FileFault, ReaderGone, BuffersTooLarge, OutOfMemory}
use Rattle.seq_inputs.specs.Refusals.{refusal_of}

-- the buffers of a run have at most so many bytes, all together
abbrev pub most_buffer_bytes : ℕ
most_buffer_bytes = 4294967296

-- what is refused, if it is that
abbrev pub refusal_in : {A : Type 0} → Stop A → Option Refusal
refusal_in (Refused refusal words) = Some refusal
refusal_in (FileFault path fault line) = None
refusal_in ReaderGone = None
refusal_in (BuffersTooLarge bytes line) = None
refusal_in OutOfMemory = None

-- how the command ends
abbrev pub exit_of : {A : Type 0} → Stop A → Exit
exit_of (Refused refusal words) = exit.Refused refusal
exit_of (FileFault path fault line) = exit.FileFault
exit_of ReaderGone = exit.ReaderGone
exit_of (BuffersTooLarge bytes line) = exit.OutOfMemory
exit_of OutOfMemory = exit.OutOfMemory

-- a file has this fault, and no run file names it
abbrev pub IsRefusal : {A : Type 0} → Fault → Stop A → Type 0
IsRefusal fault stop = refusal_in stop ≡ Some (refusal_of fault)

-- what is refused is a file that no run file names, for one of these
abbrev pub Tells : (Fault → Type 0) → Refusal → Type 0
Tells May refusal = May refusal.fault × (refusal.line ≡ None)

-- the same of a file that a line of a run file names
abbrev pub TellsAt : (Fault → ℕ → Type 0) → Refusal → Type 0
TellsAt May refusal = (line : ℕ) × May refusal.fault line × (refusal.line ≡ Some line)

-- a refusal is of a file that no run file names, for one of these; buffers are too large only where they are
abbrev pub Says : {A : Type 0} → (Fault → Type 0) → Stop A → Type 0
Says May (Refused refusal words) = Tells May refusal
Says May (FileFault path fault line) = ⊤
Says May ReaderGone = ⊤
Says May (BuffersTooLarge bytes line) = most_buffer_bytes < bytes
Says May OutOfMemory = ⊤

-- the same of a file that this line of a run file names
abbrev pub SaysAt : {A : Type 0} → (Fault → ℕ → Type 0) → Stop A → Type 0
SaysAt May (Refused refusal words) = TellsAt May refusal
SaysAt May (FileFault path fault line) = ⊤
SaysAt May ReaderGone = ⊤
SaysAt May (BuffersTooLarge bytes line) = most_buffer_bytes < bytes
SaysAt May OutOfMemory = ⊤

-- nothing is refused, and no buffers are too large
abbrev pub RefusesNothing : {A : Type 0} → Stop A → Type 0
RefusesNothing (Refused refusal words) = ⊥
RefusesNothing (FileFault path fault line) = ⊤
RefusesNothing ReaderGone = ⊤
RefusesNothing (BuffersTooLarge bytes line) = ⊥
RefusesNothing OutOfMemory = ⊤

-- a refusal is of a file that no run file names, for one of these; and where nothing is refused this holds
abbrev pub SaysElse : {A : Type 0} → (May : Fault → Type 0) → (Other : Type 0) → Stop A → Type 0
SaysElse May Other (Refused refusal words) = Tells May refusal
SaysElse May Other (FileFault path fault line) = Other
SaysElse May Other ReaderGone = Other
SaysElse May Other (BuffersTooLarge bytes line) = Other
SaysElse May Other OutOfMemory = Other

-- the same stop, where this line of a run file names the file
abbrev pub stop_at : {A : Type 0} → Stop A → ℕ → Stop A
stop_at (Refused refusal words) line = Refused (record { fault = refusal.fault; line = Some line }) words
stop_at (FileFault path fault at) line = FileFault path fault (Some line)
stop_at ReaderGone line = ReaderGone
stop_at (BuffersTooLarge bytes at) line = BuffersTooLarge bytes (Some line)
stop_at OutOfMemory line = OutOfMemory
