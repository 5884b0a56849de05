-- Each fault is that of its number.
use Rattle.std.proofs.Common.{◌≡◌, Some, refl}
use Rattle.micro_word.specs.declared.refusal.WordFault.{WordFault}
use Rattle.micro_word.specs.declared.refusal.WordFault.TheVariants.{TooShort, UnknownFormat, TooManyWords, UnknownCode, UnusedFieldSet, OutOfRange, TrailingBytes}
use Rattle.micro_word.specs.Codes.{word_fault_number, word_fault_of}

pub word_faults_are_numbered : (x : WordFault) → word_fault_of (word_fault_number x) ≡ Some x
unfolding word_fault_of
word_faults_are_numbered TooShort = refl
word_faults_are_numbered UnknownFormat = refl
word_faults_are_numbered TooManyWords = refl
word_faults_are_numbered UnknownCode = refl
word_faults_are_numbered UnusedFieldSet = refl
word_faults_are_numbered OutOfRange = refl
word_faults_are_numbered TrailingBytes = refl
