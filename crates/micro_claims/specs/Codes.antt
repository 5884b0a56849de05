-- The codes under which faults are told.
use Rattle.std.specs.Prelude.{◌≡◌, ℕ, ◌==◌, if◌then◌else◌, List, codes, Option, Some, None}
use Rattle.micro_claims.specs.declared.refusal.Reason.{Reason}
use Rattle.micro_claims.specs.declared.refusal.Reason.TheVariants.{NoWords, LoopUnpaired, LoopsTooDeep, BranchMisplaced, LastWordNotEnd, CycleForbidden, AddressUnaligned, HandoverInSequence, BufferPassed, RowOrPlaneOutside, ColumnTooLarge, NoStatus, EndsTooSoon, OverBudget, CommandNotAllowed}

-- the code under which a reason against a text is told
abbrev pub reason_code : Reason → List ℕ
reason_code NoWords = codes "V1"
reason_code LoopUnpaired = codes "V2"
reason_code LoopsTooDeep = codes "V3"
reason_code BranchMisplaced = codes "V4"
reason_code LastWordNotEnd = codes "V5"
reason_code CycleForbidden = codes "V7"
reason_code AddressUnaligned = codes "V8"
reason_code HandoverInSequence = codes "V9"
reason_code BufferPassed = codes "V10"
reason_code RowOrPlaneOutside = codes "V11"
reason_code ColumnTooLarge = codes "V12"
reason_code NoStatus = codes "V13"
reason_code EndsTooSoon = codes "V14"
reason_code OverBudget = codes "V15"
reason_code CommandNotAllowed = codes "V16"

-- the number of the code of a reason against a text
abbrev pub reason_number : Reason → ℕ
reason_number NoWords = 1
reason_number LoopUnpaired = 2
reason_number LoopsTooDeep = 3
reason_number BranchMisplaced = 4
reason_number LastWordNotEnd = 5
reason_number CycleForbidden = 7
reason_number AddressUnaligned = 8
reason_number HandoverInSequence = 9
reason_number BufferPassed = 10
reason_number RowOrPlaneOutside = 11
reason_number ColumnTooLarge = 12
reason_number NoStatus = 13
reason_number EndsTooSoon = 14
reason_number OverBudget = 15
reason_number CommandNotAllowed = 16

-- the reason against a text whose code has this number
unfoldable pub reason_of : ℕ → Option Reason
reason_of n =
    if n == 1 then Some NoWords else (
    if n == 2 then Some LoopUnpaired else (
    if n == 3 then Some LoopsTooDeep else (
    if n == 4 then Some BranchMisplaced else (
    if n == 5 then Some LastWordNotEnd else (
    if n == 7 then Some CycleForbidden else (
    if n == 8 then Some AddressUnaligned else (
    if n == 9 then Some HandoverInSequence else (
    if n == 10 then Some BufferPassed else (
    if n == 11 then Some RowOrPlaneOutside else (
    if n == 12 then Some ColumnTooLarge else (
    if n == 13 then Some NoStatus else (
    if n == 14 then Some EndsTooSoon else (
    if n == 15 then Some OverBudget else (
    if n == 16 then Some CommandNotAllowed else None))))))))))))))

-- the law: each reason against a text is that of its number
abbrev pub ReasonsAreNumbered : Type 0
ReasonsAreNumbered = (reason : Reason) → reason_of (reason_number reason) ≡ Some reason
