-- The codes under which faults of times are told.
use Rattle.std.specs.Prelude.{ℕ, List, codes}
use Rattle.trace_timing.specs.declared.timing_fault.TimingFault.{TimingFault}
use Rattle.trace_timing.specs.declared.timing_fault.TimingFault.TheVariants.{NoTimes, WriteCycle, ReadCycle, AddressToInput, ToOutput, ColumnChange, OutputToCommand, ReadyToOutput, ToBusy, TooLong, Backwards}
use Rattle.trace_timing.specs.declared.file.TimingFileFault.{TimingFileFault}
use Rattle.trace_timing.specs.declared.file.TimingFileFault.TheVariants.{UnknownName, BadNumber, OutOfOrder}

-- the code under which a fault of times is told
abbrev pub timing_fault_code : TimingFault → List ℕ
timing_fault_code NoTimes = codes "T0"
timing_fault_code WriteCycle = codes "T1"
timing_fault_code ReadCycle = codes "T2"
timing_fault_code AddressToInput = codes "T3"
timing_fault_code ToOutput = codes "T4"
timing_fault_code ColumnChange = codes "T5"
timing_fault_code OutputToCommand = codes "T6"
timing_fault_code ReadyToOutput = codes "T7"
timing_fault_code ToBusy = codes "T8"
timing_fault_code (TooLong work) = codes "T9"
timing_fault_code Backwards = codes "T10"

-- the code under which a fault of a timing file is told
abbrev pub timing_file_fault_code : TimingFileFault → List ℕ
timing_file_fault_code UnknownName = codes "D1"
timing_file_fault_code BadNumber = codes "D2"
timing_file_fault_code OutOfOrder = codes "D3"
