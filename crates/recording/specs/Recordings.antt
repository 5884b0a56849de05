-- What is wrong with a recording, and the line that says it.
use Rattle.std.specs.Prelude.{ℕ, List, codes}
use Rattle.recording.specs.declared.recording_fault.RecordingFault.{RecordingFault}
use Rattle.recording.specs.declared.recording_fault.RecordingFault.TheVariants.{Trace, Item, Vendor, Capture, Time, Edge, TimingFile, Output}
use Rattle.trace_text.specs.Codes.{trace_fault_code}
use Rattle.onfi_cycle.specs.Codes.{forbidden_code}
use Rattle.trace_timing.specs.Codes.{timing_fault_code, timing_file_fault_code}
use Rattle.edge_timing.specs.Codes.{edge_fault_code}
use Rattle.bus_capture.specs.Codes.{capture_code, capture_number}
use Rattle.vendor_file.specs.Codes.{vendor_code}
use Rattle.seq_inputs.specs.Lines.{refusal_line}

-- its code
abbrev pub code_of : RecordingFault → List ℕ
code_of (Trace fault line) = trace_fault_code fault
code_of (Item rule item) = forbidden_code rule
code_of (Vendor fault line) = vendor_code fault
code_of (Capture fault) = capture_code fault
code_of (Time fault item) = timing_fault_code fault
code_of (Edge fault time) = edge_fault_code fault
code_of (TimingFile fault line) = timing_file_fault_code fault
code_of (Output item) = codes "K1"

-- the line or the item, or the time of a capture
abbrev pub number_in : RecordingFault → ℕ
number_in (Trace fault line) = line
number_in (Item rule item) = item
number_in (Vendor fault line) = line
number_in (Capture fault) = capture_number fault
number_in (Time fault item) = item
number_in (Edge fault time) = time
number_in (TimingFile fault line) = line
number_in (Output item) = item

-- the line that says it
abbrev pub fault_line : RecordingFault → List ℕ
fault_line fault = refusal_line (code_of fault) (number_in fault)
