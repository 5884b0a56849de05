-- Plain operations: the text that they make, and the first fault of a list of them.
use Rattle.std.specs.Prelude.{◌≡◌, ℕ, ◌+◌, ◌==◌, Bool, ◌||◌, nat_lt, nat_le, max, if◌then◌else◌, List, [], ◌∷◌, ◌++◌, length, codes, Option, Some, None}
use Rattle.nand_geometry.specs.declared.parts.Parts.{Parts}
use Rattle.nand_geometry.specs.Limits.{InLimits, page_len, planes, indices}
use Rattle.micro_word.specs.declared.format.Format.TheVariants.{Two}
use Rattle.micro_word.specs.declared.word.Word.{Word}
use Rattle.micro_word.specs.declared.word.Word.TheVariants.{End, Command, Address, Get, Put, Seek, Column, Row, Plane, Wait, BranchOnStatus}
use Rattle.micro_word.specs.Word.{limit}
use Rattle.micro_word.specs.Text.{Microprogram}
use Rattle.micro_walk.specs.Faults.{fault_of}
use Rattle.micro_claims.specs.declared.refusal.Fault.{Fault as TextFault}
use Rattle.micro_walk.specs.Verdicts.{MayBe}
use Rattle.micro_verify.specs.declared.plain_op.PlainOp.{PlainOp}
use Rattle.micro_verify.specs.declared.plain_op.PlainOp.TheVariants.{Read, Program, Erase}
use Rattle.micro_verify.specs.declared.plain_refusal.PlainFault.{PlainFault}
use Rattle.micro_verify.specs.declared.plain_refusal.PlainFault.TheVariants.{NoOperations, TooManyWords, OperandOutside}
use Rattle.micro_verify.specs.declared.plain_refusal.PlainRefusal.{PlainRefusal}
use Rattle.micro_verify.specs.declared.plain_refusal.PlainRefusal.TheVariants.{Fault, OutOfMemory}

-- ---- the words

-- the words of an operation; after a failure it goes on at the word `failure`
abbrev pub operation_words : (failure : ℕ) → PlainOp → List Word
operation_words failure (Read row plane column place len) =
    Row row ∷ Plane plane ∷ Column column ∷ Seek place ∷ Command 0x00 ∷ Address 0 5 ∷ Command 0x30 ∷ Wait ∷ Command 0x00 ∷ Get len ∷ []
operation_words failure (Program row plane column place len) =
    Row row ∷ Plane plane ∷ Column column ∷ Seek place ∷ Command 0x80 ∷ Address 0 5 ∷ Put len ∷ Command 0x10 ∷ Wait ∷ BranchOnStatus 0x01 failure ∷ []
operation_words failure (Erase row plane) =
    Row row ∷ Plane plane ∷ Command 0x60 ∷ Address 2 3 ∷ Command 0xd0 ∷ Wait ∷ BranchOnStatus 0x01 failure ∷ []

-- how many words that are
abbrev pub operation_len : PlainOp → ℕ
operation_len (Read row plane column place len) = 10
operation_len (Program row plane column place len) = 10
operation_len (Erase row plane) = 7

abbrev pub operations_len : List PlainOp → ℕ
operations_len [] = 0
operations_len (op ∷ ops) = operation_len op + operations_len ops

-- one operation after the other, and at last `end 0` and `end 1`
abbrev pub words_from : (failure : ℕ) → List PlainOp → List Word
words_from failure [] = End 0 ∷ End 1 ∷ []
words_from failure (op ∷ ops) = operation_words failure op ++ words_from failure ops

-- a failure leads to the last word, the second end
abbrev pub plain_words : List PlainOp → List Word
plain_words ops = words_from (operations_len ops + 1) ops

-- ---- the header

abbrev pub row_of : PlainOp → ℕ
row_of (Read row plane column place len) = row
row_of (Program row plane column place len) = row
row_of (Erase row plane) = row

-- where the part of the buffer ends that an operation uses
abbrev pub buffer_end : PlainOp → ℕ
buffer_end (Read row plane column place len) = place + len
buffer_end (Program row plane column place len) = place + len
buffer_end (Erase row plane) = 0

-- the bus cycles of an operation
abbrev pub operation_cost : PlainOp → ℕ
operation_cost (Read row plane column place len) = 8 + len
operation_cost (Program row plane column place len) = 7 + len
operation_cost (Erase row plane) = 5

-- the greatest row plus 1
abbrev pub rows_of : List PlainOp → ℕ
rows_of [] = 0
rows_of (op ∷ ops) = max (row_of op + 1) (rows_of ops)

-- the greatest end in the buffer
abbrev pub buffer_of : List PlainOp → ℕ
buffer_of [] = 0
buffer_of (op ∷ ops) = max (buffer_end op) (buffer_of ops)

-- the sum of the costs
abbrev pub budget_of : List PlainOp → ℕ
budget_of [] = 0
budget_of (op ∷ ops) = operation_cost op + budget_of ops

-- the text of the operations
abbrev pub plain_text : List PlainOp → Microprogram
plain_text ops = record { rows = rows_of ops; buffer = buffer_of ops; budget = budget_of ops; words = plain_words ops }

-- ---- the faults

-- the geometry has no such plane, or the row isn't among the first 4,096 or not of the LUN
abbrev pub is_row_outside : Parts → (row plane : ℕ) → Bool
is_row_outside g row plane = nat_le (planes g) plane || nat_le 4096 row || nat_le (indices g) row

-- there are no bytes, or they don't lie in the page or not in the greatest buffer
abbrev pub are_bytes_outside : Parts → (column place len : ℕ) → Bool
are_bytes_outside g column place len = len == 0 || nat_lt (page_len g) (column + len) || nat_lt (limit Two) (place + len)

-- an operand of the operation is outside
abbrev pub is_outside : Parts → PlainOp → Bool
is_outside g (Read row plane column place len) = is_row_outside g row plane || are_bytes_outside g column place len
is_outside g (Program row plane column place len) = is_row_outside g row plane || are_bytes_outside g column place len
is_outside g (Erase row plane) = is_row_outside g row plane

-- the first operation that has such an operand, counted on from `at`
abbrev pub first_outside : Parts → (at : ℕ) → List PlainOp → Option ℕ
first_outside g at [] = None
first_outside g at (op ∷ ops) = if is_outside g op then Some at else first_outside g (at + 1) ops

abbrev pub outside_fault : Option ℕ → Option PlainFault
outside_fault None = None
outside_fault (Some at) = Some (OperandOutside at)

-- the first fault of a list of operations
abbrev pub plain_fault : Parts → List PlainOp → Option PlainFault
plain_fault g ops =
    if length ops == 0 then Some NoOperations
    else (if nat_lt 1024 (length (plain_words ops)) then Some TooManyWords
    else outside_fault (first_outside g 0 ops))

-- a refusal tells the fault, or that there was no memory for operations without one
abbrev pub Tells : PlainRefusal → Option PlainFault → Type 0
Tells (Fault fault) first = first ≡ Some fault
Tells OutOfMemory first = first ≡ None

abbrev pub code : PlainFault → List ℕ
code NoOperations = codes "L1"
code TooManyWords = codes "L2"
code (OperandOutside at) = codes "L3"

-- ---- the laws

-- whatever the operations, if they have no fault then the verifier finds none in their text
abbrev pub PlainTextsAreFaultless : Type 0
PlainTextsAreFaultless = (g : Parts) → InLimits g → (ops : List PlainOp) → plain_fault g ops ≡ None → fault_of g (plain_text ops) ≡ None

-- so nothing may be told against such a text: the verifier refuses none, want of memory aside
abbrev pub PlainTextsAreAccepted : Type 0
PlainTextsAreAccepted = (g : Parts) → InLimits g → (ops : List PlainOp) → plain_fault g ops ≡ None → (fault : TextFault) → MayBe g (plain_text ops) fault → ⊥
