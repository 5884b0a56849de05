-- Want of memory, of which nothing is said.
use Rattle.std.proofs.Common.{◌≡◌, Result}
use Rattle.bus_capture.specs.declared.fault.CaptureFault.{CaptureFault}
use Rattle.bus_capture.specs.declared.fault.CaptureRefusal.{CaptureRefusal}
use Rattle.bus_capture.specs.declared.fault.CaptureRefusal.TheVariants.{Fault, OutOfMemory}
use Rattle.bus_capture.specs.Capturing.{IsRefusalOf}

pub is_refusal : {A : Type 0} (e : CaptureRefusal) (r : Result A CaptureFault) → e ≡ OutOfMemory → IsRefusalOf e r
is_refusal (Fault f) r e = absurd cc
is_refusal OutOfMemory r e = tt
