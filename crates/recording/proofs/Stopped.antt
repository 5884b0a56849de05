-- What a stop says is what is refused or what is wrong.
use Rattle.std.proofs.Common.{◌≡◌, Some, None, subst}
use Rattle.seq_inputs.specs.declared.fault.Fault.{Fault}
use Rattle.seq_inputs.specs.declared.refusal.Refusal.{Refusal}
use Rattle.seq_inputs.specs.Stops.{Tells}
use Rattle.seq_inputs.proofs.Said.{said}
use Rattle.recording.specs.declared.recording_fault.RecordingFault.{RecordingFault}
use Rattle.recording.specs.declared.recording_stop.RecordingStop.{RecordingStop}
use Rattle.recording.specs.declared.recording_stop.RecordingStop.TheVariants.{Stop as ForAll, Faulty}
use Rattle.recording.specs.Endings.{refusal_in, fault_in, SaysOf}

fault_same : (f h : RecordingFault) → Some f ≡ Some h → f ≡ h
fault_same f h is = cc

no_fault : (f : RecordingFault) → None ≡ Some f → ⊥
no_fault f is = cc

no_refusal : (r : Refusal) → None ≡ Some r → ⊥
no_refusal r is = cc

-- what is refused of another file
pub refused : (May : Fault → Type 0) (MayBe : RecordingFault → Type 0) (stop : RecordingStop) (r : Refusal) → SaysOf May MayBe stop → refusal_in stop ≡ Some r → Tells May r
refused May MayBe (ForAll stop) r says is = said May stop r says is
refused May MayBe (Faulty fault words) r says is = absurd (no_refusal r is)

-- what is wrong with the recording
pub wrong : (May : Fault → Type 0) (MayBe : RecordingFault → Type 0) (stop : RecordingStop) (f : RecordingFault) → SaysOf May MayBe stop → fault_in stop ≡ Some f → MayBe f
wrong May MayBe (ForAll stop) f says is = absurd (no_fault f is)
wrong May MayBe (Faulty fault words) f says is = subst MayBe (fault_same fault f is) says
