-- Each fault is that of its number.
use Rattle.std.proofs.Common.{◌≡◌, Some, refl}
use Rattle.micro_asm.specs.declared.refusal.AsmFault.{AsmFault}
use Rattle.micro_asm.specs.declared.refusal.AsmFault.TheVariants.{UnknownWord, BadOperand, OperandOutOfRange, NoSuchLabel, LabelTwice, LabelAfterLastWord, TooManyWords, HeaderOutOfOrder}
use Rattle.micro_asm.specs.Codes.{asm_fault_number, asm_fault_of}

pub asm_faults_are_numbered : (x : AsmFault) → asm_fault_of (asm_fault_number x) ≡ Some x
unfolding asm_fault_of
asm_faults_are_numbered UnknownWord = refl
asm_faults_are_numbered BadOperand = refl
asm_faults_are_numbered OperandOutOfRange = refl
asm_faults_are_numbered NoSuchLabel = refl
asm_faults_are_numbered LabelTwice = refl
asm_faults_are_numbered LabelAfterLastWord = refl
asm_faults_are_numbered TooManyWords = refl
asm_faults_are_numbered HeaderOutOfOrder = refl
