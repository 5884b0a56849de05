-- The codes under which faults are told.
use Rattle.std.specs.Prelude.{◌≡◌, ℕ, ◌==◌, if◌then◌else◌, List, codes, Option, Some, None}
use Rattle.micro_asm.specs.declared.refusal.AsmFault.{AsmFault}
use Rattle.micro_asm.specs.declared.refusal.AsmFault.TheVariants.{UnknownWord, BadOperand, OperandOutOfRange, NoSuchLabel, LabelTwice, LabelAfterLastWord, TooManyWords, HeaderOutOfOrder}

-- the code under which a fault of an assembly text is told
abbrev pub asm_fault_code : AsmFault → List ℕ
asm_fault_code UnknownWord = codes "A1"
asm_fault_code BadOperand = codes "A2"
asm_fault_code OperandOutOfRange = codes "A3"
asm_fault_code NoSuchLabel = codes "A4"
asm_fault_code LabelTwice = codes "A5"
asm_fault_code LabelAfterLastWord = codes "A6"
asm_fault_code TooManyWords = codes "A7"
asm_fault_code HeaderOutOfOrder = codes "A8"

-- the number of the code of a fault of an assembly text
abbrev pub asm_fault_number : AsmFault → ℕ
asm_fault_number UnknownWord = 1
asm_fault_number BadOperand = 2
asm_fault_number OperandOutOfRange = 3
asm_fault_number NoSuchLabel = 4
asm_fault_number LabelTwice = 5
asm_fault_number LabelAfterLastWord = 6
asm_fault_number TooManyWords = 7
asm_fault_number HeaderOutOfOrder = 8

-- the fault of an assembly text whose code has this number
unfoldable pub asm_fault_of : ℕ → Option AsmFault
asm_fault_of n =
    if n == 1 then Some UnknownWord else (
    if n == 2 then Some BadOperand else (
    if n == 3 then Some OperandOutOfRange else (
    if n == 4 then Some NoSuchLabel else (
    if n == 5 then Some LabelTwice else (
    if n == 6 then Some LabelAfterLastWord else (
    if n == 7 then Some TooManyWords else (
    if n == 8 then Some HeaderOutOfOrder else None)))))))

-- the law: each fault of an assembly text is that of its number
abbrev pub AsmFaultsAreNumbered : Type 0
AsmFaultsAreNumbered = (fault : AsmFault) → asm_fault_of (asm_fault_number fault) ≡ Some fault
