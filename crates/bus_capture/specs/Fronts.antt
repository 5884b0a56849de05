-- Items that stand in front of those that a capture comes to.
use Rattle.std.specs.Prelude.{◌≡◌, ℕ, List, ◌++◌, Result, Ok, Err}
use Rattle.bus_capture.specs.declared.fault.CaptureFault.{CaptureFault}
use Rattle.bus_capture.specs.declared.inferring.Stamped.{Stamped}
use Rattle.bus_capture.specs.declared.reading.CaptureReader.{CaptureReader}
use Rattle.bus_capture.specs.Tracing.{comes}

-- these items, and then those, or the refusal
abbrev pub in_front : List Stamped → Result (List Stamped) CaptureFault → Result (List Stamped) CaptureFault
in_front xs (Ok ys) = Ok (xs ++ ys)
in_front xs (Err e) = Err e

-- what a capture comes to after two lists of items is the first in front of what it comes to after the second
abbrev pub KeepsFront : {A : Type 0} → CaptureReader A → Type 0
KeepsFront r = (xs ys : List Stamped) (rest : List ℕ) → comes r (xs ++ ys) rest ≡ in_front xs (comes r ys rest)
