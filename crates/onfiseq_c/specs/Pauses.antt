-- The pauses before a cycle, by what came last on its target, as numbers.
use Rattle.std.specs.Prelude.{ℕ, ◌+◌, ◌-◌, ◌==◌, Bool, true, false, ◌&&◌, ◌||◌, nat_le, if◌then◌else◌, Option, Some, None}
use Rattle.onfi_cycle.specs.declared.item.Kind.{Kind}
use Rattle.onfi_cycle.specs.declared.command.Command.{Command}
use Rattle.onfi_cycle.specs.declared.command.Command.TheVariants.{SetFeatures}
use Rattle.onfi_cycle.specs.Command.{command}
use Rattle.onfi_pauses.specs.declared.pause.LastCycle.{LastCycle}
use Rattle.onfi_pauses.specs.declared.pause.LastCycle.TheVariants as last
use Rattle.onfi_pauses.specs.declared.pause.Pause.{Pause}
use Rattle.onfi_pauses.specs.declared.pause.Pause.TheVariants.{AddressToInput, ToOutput, ColumnChange, OutputToCommand, ToBusy, ReadyToOutput}
use Rattle.onfi_pauses.specs.declared.pause.Pauses.{Pauses}
use Rattle.onfi_pauses.specs.Pauses.{pauses_before}
use Rattle.target_record.specs.Record.{is_set}
use Rattle.bus_record.specs.Item.{kind_of}
use Rattle.onfiseq_c.specs.declared.pause.OnfiseqLast.{OnfiseqLast}
use Rattle.onfiseq_c.specs.declared.pause.OnfiseqPauses.{OnfiseqPauses}

-- the last cycle: C, A, I or O, 1 to 4 for such a byte of a Set Features, and anything else where none has come
abbrev pub last_of : OnfiseqLast → LastCycle
last_of l =
    if l.kind == 67 then last.Command (command l.command)
    else (if l.kind == 65 then last.Address (command l.command)
    else (if l.kind == 73 then last.Input
    else (if nat_le 49 l.kind && nat_le l.kind 52 then last.FeatureByte (l.kind - 48)
    else (if l.kind == 79 then last.Output else last.Nothing))))

-- a status output is an output
abbrev pub letter_of : ℕ → ℕ
letter_of kind = if kind == 83 then 79 else kind

-- tADL, tWHR, tCCS, tRHW, tWB, tRR
abbrev pub number_of : Option Pause → ℕ
number_of None = 0
number_of (Some AddressToInput) = 1
number_of (Some ToOutput) = 2
number_of (Some ColumnChange) = 3
number_of (Some OutputToCommand) = 4
number_of (Some ToBusy) = 5
number_of (Some ReadyToOutput) = 6

abbrev pub numbers_of : Pauses → OnfiseqPauses
numbers_of p = record { cycle = number_of p.cycle; busy = number_of p.busy; ready = number_of p.ready }

abbrev pub before_kind : OnfiseqLast → Option Kind → OnfiseqPauses
before_kind l (Some kind) = numbers_of (pauses_before (last_of l) (is_set l.ready) kind)
before_kind l None = record { cycle = 0; busy = 0; ready = 0 }

-- none before a ready
abbrev pub before : OnfiseqLast → (kind : ℕ) → OnfiseqPauses
before l kind = before_kind l (kind_of (letter_of kind))

abbrev pub is_set_features : Command → Bool
is_set_features SetFeatures = true
is_set_features _ = false

-- the letter of an input: those behind the address of a Set Features are its four bytes
abbrev pub input_letter : OnfiseqLast → ℕ
input_letter l =
    if l.kind == 65 && is_set_features (command l.command) then 49
    else (if nat_le 49 l.kind && nat_le l.kind 51 then l.kind + 1 else 73)

-- once a cycle has come, or a ready: the command stays while its addresses and data come
abbrev pub noted : OnfiseqLast → (kind byte : ℕ) → OnfiseqLast
noted l kind byte =
    if kind == 67 then record { kind = 67; command = byte; ready = 0 }
    else (if kind == 82 then record l { ready = 1 }
    else (if kind == 65 then record { kind = 65; command = l.command; ready = 0 }
    else (if kind == 73 then record { kind = input_letter l; command = l.command; ready = 0 }
    else (if kind == 79 then record { kind = 79; command = l.command; ready = 0 } else l))))

-- 0 for a cycle or a ready, else that it is no item
abbrev pub note_code : (kind : ℕ) → ℕ
note_code kind = if kind == 67 || (kind == 82 || (kind == 65 || (kind == 73 || kind == 79))) then 0 else 0x4900
