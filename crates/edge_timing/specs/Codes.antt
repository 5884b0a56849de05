-- What is wrong where a time between edges isn't kept, and the codes of it.
use Rattle.std.specs.Prelude.{ℕ, List, codes}
use Rattle.trace_timing.specs.Codes.{timing_fault_code}
use Rattle.trace_timing.specs.declared.timing_fault.TimingFault.TheVariants as pause
use Rattle.edge_timing.specs.declared.edge_timing.EdgeTiming.{EdgeTiming}
use Rattle.edge_timing.specs.declared.edge_timing.EdgeTiming.TheVariants as timing
use Rattle.edge_timing.specs.declared.edge_fault.EdgeFault.{EdgeFault}
use Rattle.edge_timing.specs.declared.edge_fault.EdgeFault.TheVariants.{Pause, Pulse, Setup, Hold, LatchToRead}

-- a pause of a trace, a pulse, a setup, a hold, or a time before a read
abbrev pub fault_of : EdgeTiming → EdgeFault
fault_of timing.WriteCycle = Pause pause.WriteCycle
fault_of timing.ReadCycle = Pause pause.ReadCycle
fault_of timing.AddressToInput = Pause pause.AddressToInput
fault_of timing.ToOutput = Pause pause.ToOutput
fault_of timing.ColumnChange = Pause pause.ColumnChange
fault_of timing.OutputToCommand = Pause pause.OutputToCommand
fault_of timing.ReadyToOutput = Pause pause.ReadyToOutput
fault_of timing.ToBusy = Pause pause.ToBusy
fault_of timing.WritePulse = Pulse
fault_of timing.WriteHigh = Pulse
fault_of timing.ReadPulse = Pulse
fault_of timing.ReadHigh = Pulse
fault_of timing.DataSetup = Setup
fault_of timing.CleSetup = Setup
fault_of timing.AleSetup = Setup
fault_of timing.EnableSetup = Setup
fault_of timing.DataHold = Hold
fault_of timing.CleHold = Hold
fault_of timing.AleHold = Hold
fault_of timing.EnableHold = Hold
fault_of timing.EnableHigh = Hold
fault_of timing.CleToRead = LatchToRead
fault_of timing.AleToRead = LatchToRead

abbrev pub edge_fault_code : EdgeFault → List ℕ
edge_fault_code (Pause fault) = timing_fault_code fault
edge_fault_code Pulse = codes "T11"
edge_fault_code Setup = codes "T12"
edge_fault_code Hold = codes "T13"
edge_fault_code LatchToRead = codes "T14"
