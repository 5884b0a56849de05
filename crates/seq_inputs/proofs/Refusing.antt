-- A command ends as refused exactly where its stop is a refusal.
use Rattle.std.proofs.Common.{◌≡◌, Some, None}
use Rattle.seq_inputs.specs.declared.refusal.Refusal.{Refusal}
use Rattle.seq_inputs.specs.declared.exit.Exit.TheVariants as exit
use Rattle.seq_inputs.specs.declared.stop.Stop.{Stop}
use Rattle.seq_inputs.specs.declared.stop.Stop.TheVariants.{Refused, FileFault, ReaderGone, BuffersTooLarge, OutOfMemory}
use Rattle.seq_inputs.specs.Stops.{refusal_in, exit_of}

-- what is refused is what the end says
pub told_is : {A : Type 0} (stop : Stop A) (r s : Refusal) → refusal_in stop ≡ Some r → exit_of stop ≡ exit.Refused s → r ≡ s
told_is (Refused refusal words) r s is ends = cc
told_is (FileFault path fault line) r s is ends = absurd cc
told_is ReaderGone r s is ends = absurd cc
told_is (BuffersTooLarge bytes line) r s is ends = absurd cc
told_is OutOfMemory r s is ends = absurd cc

-- nothing is refused, and the end says so
pub none_told : {A : Type 0} (stop : Stop A) (s : Refusal) → refusal_in stop ≡ None → exit_of stop ≡ exit.Refused s → ⊥
none_told (Refused refusal words) s none ends = cc
none_told (FileFault path fault line) s none ends = cc
none_told ReaderGone s none ends = cc
none_told (BuffersTooLarge bytes line) s none ends = cc
none_told OutOfMemory s none ends = cc

-- what is refused ends the command
pub refused_ends : {A : Type 0} (stop : Stop A) (r : Refusal) → refusal_in stop ≡ Some r → exit_of stop ≡ exit.Refused r
refused_ends (Refused refusal words) r is = cc
refused_ends (FileFault path fault line) r is = absurd cc
refused_ends ReaderGone r is = absurd cc
refused_ends (BuffersTooLarge bytes line) r is = absurd cc
refused_ends OutOfMemory r is = absurd cc
