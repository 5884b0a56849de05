-- The words of a microprogram: the range of each operand, and the four bytes of each word.
use Rattle.std.specs.Prelude.{ℕ, ◌+◌, ◌*◌, ◌/◌, ◌%◌, ◌<◌, ◌≤◌, min, Bool, true, false, not, ◌&&◌, ◌||◌, ◌==◌, nat_lt, nat_le, if◌then◌else◌, List, ◌∷◌, Option, Some, None}
use Rattle.std.specs.Int.{w16, to_le_bytes}
use Rattle.micro_word.specs.declared.format.Format.{Format}
use Rattle.micro_word.specs.declared.format.Format.TheVariants.{One, Two}
use Rattle.micro_word.specs.declared.word.Word.{Word}
use Rattle.micro_word.specs.declared.word.Word.TheVariants.{End, Command, Address, Get, Put, Seek, Column, RowAdd, Row, Plane, Wait, Yield, ReadStatus, BranchOnStatus, Loop, Next, Jump}

-- the greatest buffer, and the greatest number of a get, put or seek
abbrev pub limit : Format → ℕ
limit One = 65535
limit Two = 16777215

-- the header's numbers are in range
abbrev pub is_header_in_range : Format → ℕ → ℕ → Bool
is_header_in_range format rows buffer = nat_le 1 rows && (nat_le rows 4096 && nat_le buffer (limit format))

-- ---- operands

-- Each operand is in its range, in a text of so many words. An operand without a range of its own is
-- any number that its field can hold.
abbrev pub IsInRange : Format → ℕ → Word → Type 0
IsInRange format words (End code) = code < 256
IsInRange format words (Command byte) = byte < 256
IsInRange format words (Address from count) = (from ≤ 4) × (1 ≤ count) × (from + count ≤ 5)
IsInRange format words (Get len) = (1 ≤ len) × (len ≤ limit format)
IsInRange format words (Put len) = (1 ≤ len) × (len ≤ limit format)
IsInRange format words (Seek place) = place ≤ limit format
IsInRange format words (Column column) = column < 65536
IsInRange format words (RowAdd rows) = (1 ≤ rows) × (rows < 65536)
IsInRange format words (Row row) = row < 4096
IsInRange format words (Plane plane) = plane ≤ 3
IsInRange format words Wait = Unit {0}
IsInRange format words Yield = Unit {0}
IsInRange format words ReadStatus = Unit {0}
IsInRange format words (BranchOnStatus mask target) = (1 ≤ mask) × (mask < 256) × (target < words)
IsInRange format words (Loop turns) = (1 ≤ turns) × (turns ≤ 4096)
IsInRange format words Next = Unit {0}
IsInRange format words (Jump target) = target < words

-- the same as a test
abbrev pub is_in_range : Format → ℕ → Word → Bool
is_in_range format words (End code) = nat_lt code 256
is_in_range format words (Command byte) = nat_lt byte 256
is_in_range format words (Address from count) = nat_le from 4 && (nat_le 1 count && nat_le (from + count) 5)
is_in_range format words (Get len) = nat_le 1 len && nat_le len (limit format)
is_in_range format words (Put len) = nat_le 1 len && nat_le len (limit format)
is_in_range format words (Seek place) = nat_le place (limit format)
is_in_range format words (Column column) = nat_lt column 65536
is_in_range format words (RowAdd rows) = nat_le 1 rows && nat_lt rows 65536
is_in_range format words (Row row) = nat_lt row 4096
is_in_range format words (Plane plane) = nat_le plane 3
is_in_range format words Wait = true
is_in_range format words Yield = true
is_in_range format words ReadStatus = true
is_in_range format words (BranchOnStatus mask target) = nat_le 1 mask && (nat_lt mask 256 && nat_lt target words)
is_in_range format words (Loop turns) = nat_le 1 turns && nat_le turns 4096
is_in_range format words Next = true
is_in_range format words (Jump target) = nat_lt target words

-- ---- the bytes of a word

-- a word's code, its field a of one byte, and its field b of two, the lower one first
abbrev pub four : ℕ → ℕ → ℕ → List ℕ
four code a b = code ∷ a ∷ to_le_bytes w16 b

-- a word with one number of 24 bits: its upper byte is a, the lower two are b
abbrev pub carrying : ℕ → ℕ → List ℕ
carrying code number = four code (number / 65536 % 256) (number % 65536)

-- the four bytes of a word; a number that fits in 16 bits is spelled alike in both formats
abbrev pub spelling : Word → List ℕ
spelling (End code) = four 0x00 code 0
spelling (Command byte) = four 0x01 byte 0
spelling (Address from count) = four 0x02 from count
spelling (Get len) = carrying 0x03 len
spelling (Put len) = carrying 0x04 len
spelling (Seek place) = carrying 0x05 place
spelling (Column column) = four 0x06 0 column
spelling (RowAdd rows) = four 0x07 0 rows
spelling (Row row) = four 0x08 0 row
spelling (Plane plane) = four 0x09 plane 0
spelling Wait = four 0x0a 0 0
spelling Yield = four 0x0b 0 0
spelling ReadStatus = four 0x0c 0 0
spelling (BranchOnStatus mask target) = four 0x0d mask target
spelling (Loop turns) = four 0x0e 0 turns
spelling Next = four 0x0f 0 0
spelling (Jump target) = four 0x10 0 target

-- ---- the word of four bytes

-- the number that the fields a and b carry together
abbrev pub number : Format → ℕ → ℕ → ℕ
number One a b = b
number Two a b = a * 65536 + b

-- The word of a code and its fields, whatever the ranges; none for an unknown code. (A count of address
-- cycles above 255 is told as 255, which is as far out of range.)
unfoldable pub word_of : Format → ℕ → ℕ → ℕ → Option Word
word_of format code a b =
    if code == 0x00 then Some (End a) else (if code == 0x01 then Some (Command a) else (
    if code == 0x02 then Some (Address a (min b 255)) else (if code == 0x03 then Some (Get (number format a b)) else (
    if code == 0x04 then Some (Put (number format a b)) else (if code == 0x05 then Some (Seek (number format a b)) else (
    if code == 0x06 then Some (Column b) else (if code == 0x07 then Some (RowAdd b) else (
    if code == 0x08 then Some (Row b) else (if code == 0x09 then Some (Plane a) else (
    if code == 0x0a then Some Wait else (if code == 0x0b then Some Yield else (
    if code == 0x0c then Some ReadStatus else (if code == 0x0d then Some (BranchOnStatus a b) else (
    if code == 0x0e then Some (Loop b) else (if code == 0x0f then Some Next else (
    if code == 0x10 then Some (Jump b) else None))))))))))))))))

-- the upper byte of a number is a field of its own
abbrev pub is_wide : Format → Bool
is_wide One = false
is_wide Two = true

-- the word uses the field a
abbrev pub uses_a : Format → Word → Bool
uses_a format (End _) = true
uses_a format (Command _) = true
uses_a format (Address _ _) = true
uses_a format (Get _) = is_wide format
uses_a format (Put _) = is_wide format
uses_a format (Seek _) = is_wide format
uses_a format (Plane _) = true
uses_a format (BranchOnStatus _ _) = true
uses_a format _ = false

-- the word uses the field b
abbrev pub uses_b : Word → Bool
uses_b (End _) = false
uses_b (Command _) = false
uses_b (Plane _) = false
uses_b Wait = false
uses_b Yield = false
uses_b ReadStatus = false
uses_b Next = false
uses_b _ = true

-- a field that the word doesn't use isn't 0
abbrev pub has_stray : Format → Word → ℕ → ℕ → Bool
has_stray format word a b = (not (uses_a format word) && not (a == 0)) || (not (uses_b word) && not (b == 0))
