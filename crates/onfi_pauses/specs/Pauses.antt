-- The pauses that a datasheet asks for before a cycle, by the last cycle of its target and whether a ready came since. Nothing is said of how long they are.
use Rattle.std.specs.Prelude.{ℕ, ◌+◌, ◌==◌, Bool, true, false, ◌&&◌, not, nat_lt, Option, Some, None, if◌then◌else◌}
use Rattle.onfi_cycle.specs.declared.command.Command.{Command}
use Rattle.onfi_cycle.specs.declared.command.Command.TheVariants.{ReadConfirm, ReadPlane, CopybackRead, ChangeReadColumnConfirm, BlockEraseConfirm, BlockErasePlane, ChangeWriteColumn, ProgramConfirm, ProgramPlane, ProgramCache, ReadParameterPage, Reset, ReadCacheSequential, ReadCacheEnd, ReadUniqueId, GetFeatures, SetFeatures, ResetLun, SynchronousReset, Unknown}
use Rattle.onfi_cycle.specs.Command.{command}
use Rattle.onfi_cycle.specs.declared.item.Kind.{Kind}
use Rattle.onfi_cycle.specs.declared.item.Kind.TheVariants.{Cmd, Adr, Din, Dout}
use Rattle.onfi_pauses.specs.declared.pause.Pause.{Pause}
use Rattle.onfi_pauses.specs.declared.pause.Pause.TheVariants.{AddressToInput, ToOutput, ColumnChange, OutputToCommand, ToBusy, ReadyToOutput}
use Rattle.onfi_pauses.specs.declared.pause.Pauses.{Pauses}
use Rattle.onfi_pauses.specs.declared.pause.LastCycle.{LastCycle}
use Rattle.onfi_pauses.specs.declared.pause.LastCycle.TheVariants as last

-- the command begins work
abbrev pub starts : Command → Bool
starts ReadConfirm = true
starts ReadPlane = true
starts CopybackRead = true
starts BlockEraseConfirm = true
starts BlockErasePlane = true
starts ProgramConfirm = true
starts ProgramPlane = true
starts ProgramCache = true
starts Reset = true
starts SynchronousReset = true
starts ReadCacheSequential = true
starts ReadCacheEnd = true
starts _ = false

-- an address of the command begins work; of Reset LUN the third one does, and nothing that waits for tWB comes behind the two before it
-- but a reset
abbrev pub starts_by_address : Command → Bool
starts_by_address ReadParameterPage = true
starts_by_address ReadUniqueId = true
starts_by_address GetFeatures = true
starts_by_address ResetLun = true
starts_by_address _ = false

abbrev pub begins_work : LastCycle → Bool
begins_work last.Nothing = false
begins_work (last.Command c) = starts c
begins_work (last.Address c) = starts_by_address c
begins_work last.Input = false
begins_work (last.FeatureByte number) = number == 4
begins_work last.Output = false

-- before a data output: after E0h that of a column change, after any other cycle that was given tWHR
abbrev pub of_output : LastCycle → Option Pause
of_output last.Nothing = None
of_output (last.Command ChangeReadColumnConfirm) = Some ColumnChange
of_output (last.Command c) = Some ToOutput
of_output (last.Address c) = Some ToOutput
of_output last.Input = Some ToOutput
of_output (last.FeatureByte number) = Some ToOutput
of_output last.Output = None

-- before a data input: after the column of 85h that of a column change, after any other address tADL
abbrev pub of_input : LastCycle → Option Pause
of_input last.Nothing = None
of_input (last.Command c) = None
of_input (last.Address ChangeWriteColumn) = Some ColumnChange
of_input (last.Address c) = Some AddressToInput
of_input last.Input = None
of_input (last.FeatureByte number) = None
of_input last.Output = Some OutputToCommand

-- before a command or an address
abbrev pub of_command : LastCycle → Option Pause
of_command last.Nothing = None
of_command (last.Command c) = None
of_command (last.Address c) = None
of_command last.Input = None
of_command (last.FeatureByte number) = None
of_command last.Output = Some OutputToCommand

abbrev pub of_cycle : LastCycle → Kind → Option Pause
of_cycle l Cmd = of_command l
of_cycle l Adr = of_command l
of_cycle l Din = of_input l
of_cycle l Dout = of_output l

-- until R/B# and the status tell of the work no command is given, and no status is looked at
abbrev pub of_busy : (begins_work ready : Bool) → Kind → Option Pause
of_busy begins_work ready Cmd = if begins_work then Some ToBusy else None
of_busy begins_work ready Adr = None
of_busy begins_work ready Din = None
of_busy begins_work ready Dout = if begins_work && not ready then Some ToBusy else None

abbrev pub of_ready : (ready : Bool) → Kind → Option Pause
of_ready ready Cmd = None
of_ready ready Adr = None
of_ready ready Din = None
of_ready ready Dout = if ready then Some ReadyToOutput else None

-- the pauses before a cycle: since the last one, since the work, and since the ready
abbrev pub pauses_before : LastCycle → (ready : Bool) → Kind → Pauses
pauses_before l ready kind = record { cycle = of_cycle l kind; busy = of_busy (begins_work l) ready kind; ready = of_ready ready kind }

-- ---- the last cycle of a target

-- the command whose addresses come
abbrev pub command_of : LastCycle → Command
command_of (last.Command c) = c
command_of (last.Address c) = c
command_of last.Nothing = Unknown
command_of last.Input = Unknown
command_of (last.FeatureByte number) = Unknown
command_of last.Output = Unknown

-- once an input has come: those behind the address of a Set Features are its four bytes
abbrev pub after_input : LastCycle → LastCycle
after_input (last.Address SetFeatures) = last.FeatureByte 1
after_input (last.FeatureByte number) = if nat_lt number 4 then last.FeatureByte (number + 1) else last.Input
after_input _ = last.Input

-- once a cycle has come
abbrev pub last_after : LastCycle → Kind → (byte : ℕ) → LastCycle
last_after l Cmd byte = last.Command (command byte)
last_after l Adr byte = last.Address (command_of l)
last_after l Din byte = after_input l
last_after l Dout byte = last.Output
