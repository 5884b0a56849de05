-- How a command on a recording ends, and why it isn't done.
use Rattle.std.specs.Prelude.{ℕ, Option, Some, None}
use Rattle.seq_inputs.specs.declared.fault.Fault.{Fault}
use Rattle.seq_inputs.specs.declared.refusal.Refusal.{Refusal}
use Rattle.seq_inputs.specs.Exits.{status as exit_status}
use Rattle.seq_inputs.specs.Stops.{refusal_in as refused_by, Says, RefusesNothing}
use Rattle.recording.specs.declared.ending.Ending.{Ending}
use Rattle.recording.specs.declared.ending.Ending.TheVariants as ending
use Rattle.recording.specs.declared.recording_fault.RecordingFault.{RecordingFault}
use Rattle.recording.specs.declared.recording_stop.RecordingStop.{RecordingStop}
use Rattle.recording.specs.declared.recording_stop.RecordingStop.TheVariants.{Stop as ForAll, Faulty}

-- the status of the process
abbrev pub status : Ending → ℕ
status (ending.Exit exit) = exit_status exit
status (ending.Faulty fault) = 1
status ending.Flagged = 5

-- what is refused of another file, if it is that
abbrev pub refusal_in : RecordingStop → Option Refusal
refusal_in (ForAll stop) = refused_by stop
refusal_in (Faulty fault words) = None

-- what is wrong with the recording, if it is that
abbrev pub fault_in : RecordingStop → Option RecordingFault
fault_in (ForAll stop) = None
fault_in (Faulty fault words) = Some fault

-- a refusal is of another file for one of the first, and a fault of the recording is one of the others
abbrev pub SaysOf : (May : Fault → Type 0) → (MayBe : RecordingFault → Type 0) → RecordingStop → Type 0
SaysOf May MayBe (ForAll stop) = Says May stop
SaysOf May MayBe (Faulty fault words) = MayBe fault

-- no file is refused, and nothing is wrong with the recording
abbrev pub SaysNothing : RecordingStop → Type 0
SaysNothing (ForAll stop) = RefusesNothing stop
SaysNothing (Faulty fault words) = ⊥
