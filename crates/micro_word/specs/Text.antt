-- What a microprogram is, and its file.
use Rattle.std.specs.Prelude.{◌≡◌, ℕ, ◌^◌, ◌<◌, ◌≤◌, ◌⊎◌, List, ◌++◌, length, codes, slice_set}
use Rattle.std.specs.List.{flat_map, AllByRecursion}
use Rattle.std.specs.Int.{w16, w32, to_le_bytes}
use Rattle.micro_word.specs.declared.format.Format.{Format}
use Rattle.micro_word.specs.declared.format.Format.TheVariants.{One, Two}
use Rattle.micro_word.specs.declared.word.Word.{Word}
use Rattle.micro_word.specs.Word.{limit, IsInRange, spelling}

-- the rows that it may reach, counted from its base; the length of its buffer; the cycles that it may cost; and its words
pub record Microprogram : Type 0 where
  pub rows : ℕ
  pub buffer : ℕ
  pub budget : ℕ
  pub words : List Word

-- a format can carry the microprogram, each number in its range
pub record FitsFormat (format : Format) (x : Microprogram) : Type 0 where
  pub some_rows : 1 ≤ x.rows
  pub rows : x.rows ≤ 4096
  pub buffer : x.buffer ≤ limit format
  pub budget : x.budget < 2 ^ 32
  pub count : length x.words ≤ 1024
  pub words : AllByRecursion (IsInRange format (length x.words)) x.words

-- the first four bytes of a file
abbrev pub magic : Format → List ℕ
magic One = codes "NMP1"
magic Two = codes "NMP2"

-- the header of 16 bytes, each number with its lowest byte first, and then four bytes for each word
abbrev pub file : Format → Microprogram → List ℕ
file format x =
    magic format ++ to_le_bytes w16 (length x.words) ++ to_le_bytes w16 x.rows ++ to_le_bytes w32 x.buffer ++ to_le_bytes w32 x.budget
    ++ flat_map spelling x.words

abbrev pub file1 : Microprogram → List ℕ
file1 x = file One x

abbrev pub file2 : Microprogram → List ℕ
file2 x = file Two x

-- the bytes are the file of the microprogram, in a format that can carry it
abbrev pub IsFileOf : List ℕ → Microprogram → Type 0
IsFileOf bytes x = (FitsFormat One x × (bytes ≡ file1 x)) ⊎ (FitsFormat Two x × (bytes ≡ file2 x))

-- The two files of a microprogram differ in their fourth byte alone, which is the digit of the format: 0x31 or 0x32.
abbrev pub FormatsDifferInOneByte : Type 0
FormatsDifferInOneByte = (x : Microprogram) → slice_set (file1 x) 3 0x32 ≡ file2 x
