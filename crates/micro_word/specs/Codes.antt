-- The codes under which faults are told.
use Rattle.std.specs.Prelude.{◌≡◌, ℕ, ◌==◌, if◌then◌else◌, List, codes, Option, Some, None}
use Rattle.micro_word.specs.declared.refusal.WordFault.{WordFault}
use Rattle.micro_word.specs.declared.refusal.WordFault.TheVariants.{TooShort, UnknownFormat, TooManyWords, UnknownCode, UnusedFieldSet, OutOfRange, TrailingBytes}

-- the code under which a fault of a word file is told
abbrev pub word_fault_code : WordFault → List ℕ
word_fault_code TooShort = codes "M1"
word_fault_code UnknownFormat = codes "M2"
word_fault_code TooManyWords = codes "M3"
word_fault_code UnknownCode = codes "M4"
word_fault_code UnusedFieldSet = codes "M5"
word_fault_code OutOfRange = codes "M6"
word_fault_code TrailingBytes = codes "M7"

-- the number of the code of a fault of a word file
abbrev pub word_fault_number : WordFault → ℕ
word_fault_number TooShort = 1
word_fault_number UnknownFormat = 2
word_fault_number TooManyWords = 3
word_fault_number UnknownCode = 4
word_fault_number UnusedFieldSet = 5
word_fault_number OutOfRange = 6
word_fault_number TrailingBytes = 7

-- the fault of a word file whose code has this number
unfoldable pub word_fault_of : ℕ → Option WordFault
word_fault_of n =
    if n == 1 then Some TooShort else (
    if n == 2 then Some UnknownFormat else (
    if n == 3 then Some TooManyWords else (
    if n == 4 then Some UnknownCode else (
    if n == 5 then Some UnusedFieldSet else (
    if n == 6 then Some OutOfRange else (
    if n == 7 then Some TrailingBytes else None))))))

-- the law: each fault of a word file is that of its number
abbrev pub WordFaultsAreNumbered : Type 0
WordFaultsAreNumbered = (fault : WordFault) → word_fault_of (word_fault_number fault) ≡ Some fault
