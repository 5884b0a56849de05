-- The assembly text of a microprogram: its header, and then a line for each word, with a label in front of each word that a branch names.
use Rattle.std.specs.Prelude.{ℕ, ◌+◌, ◌/◌, ◌%◌, ◌==◌, Bool, false, ◌||◌, nat_lt, if◌then◌else◌, List, [], ◌∷◌, ◌++◌, codes}
use Rattle.std.specs.Fmt.{decimal}
use Rattle.micro_word.specs.declared.word.Word.{Word}
use Rattle.micro_word.specs.declared.word.Word.TheVariants.{End, Command, Address, Get, Put, Seek, Column, RowAdd, Row, Plane, Wait, Yield, ReadStatus, BranchOnStatus, Loop, Next, Jump}
use Rattle.micro_word.specs.Text.{Microprogram}

-- ---- words

-- the digit of a number below sixteen, in lower case
abbrev pub hex_digit : ℕ → ℕ
hex_digit n = if nat_lt n 10 then 48 + n else 87 + n

-- the two hexadecimal digits of a byte
abbrev pub hex_byte : ℕ → List ℕ
hex_byte n = hex_digit (n / 16) ∷ (hex_digit (n % 16) ∷ [])

-- the label of a word: L and its number
abbrev pub label : ℕ → List ℕ
label at = codes "L" ++ decimal at

-- a word: its name and its operands, with single spaces between them
abbrev pub word_text : Word → List ℕ
word_text (End code) = codes "end " ++ decimal code
word_text (Command byte) = codes "cmd " ++ hex_byte byte
word_text (Address from count) = codes "addr " ++ (decimal from ++ (codes " " ++ decimal count))
word_text (Get len) = codes "get " ++ decimal len
word_text (Put len) = codes "put " ++ decimal len
word_text (Seek place) = codes "seek " ++ decimal place
word_text (Column column) = codes "col " ++ decimal column
word_text (RowAdd rows) = codes "rowadd " ++ decimal rows
word_text (Row row) = codes "row " ++ decimal row
word_text (Plane plane) = codes "plane " ++ decimal plane
word_text Wait = codes "wait"
word_text Yield = codes "yield"
word_text ReadStatus = codes "stat"
word_text (BranchOnStatus mask target) = codes "brs " ++ (hex_byte mask ++ (codes " " ++ label target))
word_text (Loop turns) = codes "loop " ++ decimal turns
word_text Next = codes "next"
word_text (Jump target) = codes "jmp " ++ label target

-- ---- labels

-- the word is a branch to this place
abbrev pub branches_to : ℕ → Word → Bool
branches_to at (BranchOnStatus mask target) = target == at
branches_to at (Jump target) = target == at
branches_to at _ = false

-- some word is a branch to this place
abbrev pub is_target : List Word → ℕ → Bool
is_target [] at = false
is_target (word ∷ words) at = branches_to at word || is_target words at

-- ---- lines, each ended by a line feed (10)

abbrev pub ended : List ℕ → List ℕ
ended line = line ++ (10 ∷ [])

-- a place that a branch names has a line of its own for its label
abbrev pub label_line : Bool → ℕ → List ℕ
label_line named at = if named then ended (label at ++ codes ":") else []

-- the lines of some words of a text, from a place on
abbrev pub word_lines : (all : List Word) → (at : ℕ) → List Word → List ℕ
word_lines all at [] = []
word_lines all at (word ∷ words) = label_line (is_target all at) at ++ (ended (word_text word) ++ word_lines all (at + 1) words)

abbrev pub header_lines : Microprogram → List ℕ
header_lines x = ended (codes "rows " ++ decimal x.rows) ++ (ended (codes "buffer " ++ decimal x.buffer) ++ ended (codes "budget " ++ decimal x.budget))

-- the whole text
abbrev pub assembly : Microprogram → List ℕ
assembly x = header_lines x ++ word_lines x.words 0 x.words
