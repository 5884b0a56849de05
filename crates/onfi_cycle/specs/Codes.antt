-- The codes under which faults are told.
use Rattle.std.specs.Prelude.{◌≡◌, ℕ, ◌==◌, if◌then◌else◌, List, codes, Option, Some, None}
use Rattle.onfi_cycle.specs.declared.forbidden.Forbidden.{Forbidden}
use Rattle.onfi_cycle.specs.declared.forbidden.Forbidden.TheVariants.{NotThere, CommandUnknown, SequenceOpen, SeveralLuns, NoColumnToChange, CommandMisplaced, AddressMisplaced, RowOutside, LunBusy, QueueClash, InputMisplaced, NoSoleDriver, DataNotReady, ColumnOutside, CacheReadMisplaced, CacheProgramMisplaced, CopybackMisplaced, PlaneNotHeld}

-- the code under which a broken rule is told
abbrev pub forbidden_code : Forbidden → List ℕ
forbidden_code NotThere = codes "F1"
forbidden_code CommandUnknown = codes "F2"
forbidden_code SequenceOpen = codes "F3"
forbidden_code SeveralLuns = codes "F4"
forbidden_code NoColumnToChange = codes "F5"
forbidden_code CommandMisplaced = codes "F6"
forbidden_code AddressMisplaced = codes "F7"
forbidden_code RowOutside = codes "F8"
forbidden_code LunBusy = codes "F9"
forbidden_code QueueClash = codes "F10"
forbidden_code InputMisplaced = codes "F11"
forbidden_code NoSoleDriver = codes "F12"
forbidden_code DataNotReady = codes "F13"
forbidden_code ColumnOutside = codes "F14"
forbidden_code CacheReadMisplaced = codes "F15"
forbidden_code CacheProgramMisplaced = codes "F16"
forbidden_code CopybackMisplaced = codes "F17"
forbidden_code PlaneNotHeld = codes "F18"

-- the number of the code of a rule
abbrev pub rule_number : Forbidden → ℕ
rule_number NotThere = 1
rule_number CommandUnknown = 2
rule_number SequenceOpen = 3
rule_number SeveralLuns = 4
rule_number NoColumnToChange = 5
rule_number CommandMisplaced = 6
rule_number AddressMisplaced = 7
rule_number RowOutside = 8
rule_number LunBusy = 9
rule_number QueueClash = 10
rule_number InputMisplaced = 11
rule_number NoSoleDriver = 12
rule_number DataNotReady = 13
rule_number ColumnOutside = 14
rule_number CacheReadMisplaced = 15
rule_number CacheProgramMisplaced = 16
rule_number CopybackMisplaced = 17
rule_number PlaneNotHeld = 18

-- the rule whose code has this number
unfoldable pub rule_of : ℕ → Option Forbidden
rule_of n =
    if n == 1 then Some NotThere else (
    if n == 2 then Some CommandUnknown else (
    if n == 3 then Some SequenceOpen else (
    if n == 4 then Some SeveralLuns else (
    if n == 5 then Some NoColumnToChange else (
    if n == 6 then Some CommandMisplaced else (
    if n == 7 then Some AddressMisplaced else (
    if n == 8 then Some RowOutside else (
    if n == 9 then Some LunBusy else (
    if n == 10 then Some QueueClash else (
    if n == 11 then Some InputMisplaced else (
    if n == 12 then Some NoSoleDriver else (
    if n == 13 then Some DataNotReady else (
    if n == 14 then Some ColumnOutside else (
    if n == 15 then Some CacheReadMisplaced else (
    if n == 16 then Some CacheProgramMisplaced else (
    if n == 17 then Some CopybackMisplaced else (
    if n == 18 then Some PlaneNotHeld else None)))))))))))))))))

-- the law: each rule is that of its number
abbrev pub RulesAreNumbered : Type 0
RulesAreNumbered = (rule : Forbidden) → rule_of (rule_number rule) ≡ Some rule
