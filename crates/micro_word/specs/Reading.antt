-- Reading a file from left to right: the microprogram, or the first fault that is met, with the number of its word.
use Rattle.std.specs.Prelude.{◌≡◌, ℕ, zero, suc, ◌+◌, ◌*◌, Bool, ◌||◌, nat_eq, nat_lt, if◌then◌else◌, List, [], ◌∷◌, length, drop, slice_index, Option, Some, None, Result, Ok, Err, IsOk, ok_or}
use Rattle.std.specs.List.{starts_with}
use Rattle.micro_word.specs.declared.format.Format.{Format}
use Rattle.micro_word.specs.declared.format.Format.TheVariants.{One, Two}
use Rattle.micro_word.specs.declared.word.Word.{Word}
use Rattle.micro_word.specs.declared.refusal.WordFault.TheVariants.{TooShort, UnknownFormat, TooManyWords, UnknownCode, UnusedFieldSet, OutOfRange, TrailingBytes}
use Rattle.micro_word.specs.declared.refusal.WordRefusal.{WordRefusal}
use Rattle.micro_word.specs.declared.refusal.WordRefusal.TheVariants.{Fault, OutOfMemory}
use Rattle.micro_word.specs.declared.header.Header.{Header}
use Rattle.micro_word.specs.Word.{is_header_in_range, is_in_range, word_of, has_stray}
use Rattle.micro_word.specs.Text.{Microprogram, magic}

infixl 10 ◌>>=◌
abbrev pub ◌>>=◌ : {A B : Type 0} → Result A WordRefusal → (A → Result B WordRefusal) → Result B WordRefusal
(Ok x) >>= f = f x
(Err e) >>= f = Err e

-- A call answered what reading answers; or memory ran out, which may stand only in place of a value.
abbrev pub Gives : {X : Type 0} → Result X WordRefusal → Result X WordRefusal → Type 0
Gives (Ok x) read = read ≡ Ok x
Gives (Err (Fault code word)) read = read ≡ Err (Fault code word)
Gives (Err OutOfMemory) read = IsOk read

-- the numbers of two and of four bytes from a place, the lowest byte first
abbrev pub u16_at : List ℕ → ℕ → ℕ
u16_at bytes i = slice_index bytes i + 256 * slice_index bytes (i + 1)

abbrev pub u32_at : List ℕ → ℕ → ℕ
u32_at bytes i = u16_at bytes i + 65536 * u16_at bytes (i + 2)

-- the format whose four bytes come first
abbrev pub format_at : List ℕ → Option Format
format_at bytes =
    if starts_with nat_eq bytes (magic One) then Some One else (if starts_with nat_eq bytes (magic Two) then Some Two else None)

-- what the header says, in this format
abbrev pub header_in : Format → List ℕ → Header
header_in format bytes = record { format = format; words = u16_at bytes 4; rows = u16_at bytes 6; buffer = u32_at bytes 8; budget = u32_at bytes 12 }

-- the words are too many, or not all of them are there
abbrev pub lacks_words : Header → List ℕ → Bool
lacks_words h bytes = nat_lt 1024 h.words || nat_lt (length bytes) (16 + 4 * h.words)

-- the header, if its words are there and its numbers in range
abbrev pub judged : Header → List ℕ → Result Header WordRefusal
judged h bytes = if lacks_words h bytes then Err (Fault TooManyWords 0) else (if is_header_in_range h.format h.rows h.buffer then Ok h else Err (Fault OutOfRange 0))

-- the header of a file that holds all its words
unfoldable pub header_at : List ℕ → Result Header WordRefusal
header_at bytes =
    if nat_lt (length bytes) 16 then Err (Fault TooShort 0) else
    (ok_or (format_at bytes) (Fault UnknownFormat 0) >>= λ format. judged (header_in format bytes) bytes)

-- the word in the first four bytes, which is word number `place` of its text
unfoldable pub word_at : Header → ℕ → List ℕ → Result Word WordRefusal
word_at header place bytes = do
  word ← ok_or (word_of header.format (slice_index bytes 0) (slice_index bytes 1) (u16_at bytes 2)) (Fault UnknownCode place)
  if has_stray header.format word (slice_index bytes 1) (u16_at bytes 2) then Err (Fault UnusedFieldSet place) else (if is_in_range header.format header.words word then Ok word else Err (Fault OutOfRange place))

-- so many words, the first of which is word number `place`
unfoldable pub words_at : Header → ℕ → ℕ → List ℕ → Result (List Word) WordRefusal
words_at header place zero bytes = Ok []
words_at header place (suc left) bytes = do
  word ← word_at header place bytes
  words ← words_at header (place + 1) left (drop 4 bytes)
  Ok (word ∷ words)

-- all of the bytes, nothing behind the last word
unfoldable pub reading : List ℕ → Result Microprogram WordRefusal
reading bytes = do
  header ← header_at bytes
  words ← words_at header 0 header.words (drop 16 bytes)
  if nat_lt (16 + 4 * header.words) (length bytes) then Err (Fault TrailingBytes 0) else Ok (record { rows = header.rows; buffer = header.buffer; budget = header.budget; words = words })

-- ---- a text that was not read

-- the first word whose operands are out of range, from word number `place` on
abbrev pub out_of_range : ℕ → ℕ → List Word → Option ℕ
out_of_range words place [] = None
out_of_range words place (w ∷ ws) = if is_in_range Two words w then out_of_range words (place + 1) ws else Some place

abbrev pub fault_at : Option ℕ → Option WordRefusal
fault_at None = None
fault_at (Some place) = Some (Fault OutOfRange place)

-- the first fault of a microprogram of these rows, this buffer and these words, in format 2
unfoldable pub fault_of : ℕ → ℕ → List Word → Option WordRefusal
fault_of rows buffer words =
    if nat_lt 1024 (length words) then Some (Fault TooManyWords 0) else (
    if is_header_in_range Two rows buffer then fault_at (out_of_range (length words) 0 words) else Some (Fault OutOfRange 0))
