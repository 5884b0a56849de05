-- What is written is read again.
use Rattle.std.specs.Prelude.{◌≡◌, ℕ, ◌<◌, Bool, ◌≤◌, true, false, List, ◌++◌, codes, Ok}
use Rattle.std.specs.Fmt.{decimal}
use Rattle.micro_word.specs.declared.format.Format.TheVariants.{Two}
use Rattle.micro_word.specs.declared.word.Word.{Word}
use Rattle.micro_word.specs.declared.word.Word.TheVariants as word
use Rattle.micro_word.specs.Text.{Microprogram, FitsFormat}
use Rattle.micro_word.specs.Word.{IsInRange}
use Rattle.micro_asm.specs.Assembly.{label, word_text, assembly}
use Rattle.micro_asm.specs.declared.statement.Setting.TheVariants.{Rows, Buffer, Budget}
use Rattle.micro_asm.specs.Line.{Entry, Plain, Branch, Jump, Entered, Header, Label, spelled}
use Rattle.micro_asm.specs.Reading.{reading, Spells}

-- a word, its branch named by the label of its place
abbrev pub entry_of : Word → Entry
entry_of (word.BranchOnStatus mask target) = Branch mask (label target)
entry_of (word.Jump target) = Jump (label target)
entry_of w = Plain w

-- The line that is written for a word is read as that word.
abbrev pub WordsAreSpelled : Type 0
WordsAreSpelled = (count : ℕ) (w : Word) → count ≤ 1024 → IsInRange Two count w → spelled false (word_text w) ≡ Ok (Entered (entry_of w))

-- The header lines that are written are read as these lines, where a header line is to stand.
pub record HeadersAreSpelled : Type 0 where
  pub rows : (n : ℕ) → 1 ≤ n → n ≤ 4096 → spelled true (codes "rows " ++ decimal n) ≡ Ok (Header (Rows n))
  pub buffer : (n : ℕ) → n ≤ 16777215 → spelled true (codes "buffer " ++ decimal n) ≡ Ok (Header (Buffer n))
  pub budget : (n : ℕ) → n ≤ 4294967295 → spelled true (codes "budget " ++ decimal n) ≡ Ok (Header (Budget n))

-- The line that is written for the label of a place is read as that label.
abbrev pub LabelsAreSpelled : Type 0
LabelsAreSpelled = (heads : Bool) (place : ℕ) → place < 1024 → spelled heads (label place ++ codes ":") ≡ Ok (Label (label place))

-- The text that is written of a microprogram is read as this microprogram.
abbrev pub WrittenIsRead : Type 0
WrittenIsRead = (x : Microprogram) → FitsFormat Two x → reading (assembly x) ≡ Ok x

-- What a text spells, written anew, is read as the same.
abbrev pub ReadIsWrittenAgain : Type 0
ReadIsWrittenAgain = (text : List ℕ) (x : Microprogram) → Spells text x → reading (assembly x) ≡ Ok x
