-- The codes of faults.
use Rattle.std.specs.Prelude.{ℕ, List, codes}
use Rattle.vcd_text.specs.Codes.{code}
use Rattle.bus_capture.specs.declared.fault.CaptureFault.{CaptureFault}
use Rattle.bus_capture.specs.declared.fault.CaptureFault.TheVariants.{File, Role, Bus}
use Rattle.bus_capture.specs.declared.fault.BusFault.{BusFault}
use Rattle.bus_capture.specs.declared.fault.BusFault.TheVariants.{UnknownEnable, UnknownLatch, UnknownData, UnknownStrobe, BothLatches, LatchAtOutput, SeveralEnabled, StrobesTogether, Glitch}

abbrev pub bus_code : BusFault → List ℕ
bus_code UnknownEnable = codes "G5"
bus_code UnknownLatch = codes "G5"
bus_code UnknownData = codes "G5"
bus_code UnknownStrobe = codes "G5"
bus_code BothLatches = codes "G6"
bus_code LatchAtOutput = codes "G6"
bus_code SeveralEnabled = codes "G7"
bus_code StrobesTogether = codes "G8"
bus_code Glitch = codes "G10"

abbrev pub capture_code : CaptureFault → List ℕ
capture_code (File at) = code at.fault
capture_code (Role fault) = codes "G3"
capture_code (Bus fault time) = bus_code fault

-- the line of the file, or the time; 0 where a line of the bus has no signal
abbrev pub capture_number : CaptureFault → ℕ
capture_number (File at) = at.line
capture_number (Role fault) = 0
capture_number (Bus fault time) = time
