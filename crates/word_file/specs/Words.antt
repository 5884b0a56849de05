-- The words of a file, read in place.
use Rattle.std.specs.Prelude.{◌≡◌, Some, slice_get, ℕ, zero, suc, ◌+◌, ◌*◌, Bool, false, ◌||◌, ◌==◌, nat_lt, if◌then◌else◌, List, drop, Result, Ok, Err}
use Rattle.micro_word.specs.declared.word.Word.{Word}
use Rattle.micro_word.specs.declared.word.Word.TheVariants.{Command}
use Rattle.micro_word.specs.declared.refusal.WordRefusal.{WordRefusal}
use Rattle.micro_word.specs.Text.{Microprogram}
use Rattle.micro_word.specs.Reading.{header_at, word_at, reading}
use Rattle.word_file.specs.declared.word.WordMissing.{WordMissing}
use Rattle.word_file.specs.declared.word.WordMissing.TheVariants.{Fault, PastTheEnd}

-- by whether there is a value
abbrev pub by_result : {A B E : Type 0} → Result A E → (E → B) → (A → B) → B
by_result (Ok x) fault value = value x
by_result (Err e) fault value = fault e

abbrev pub as_word : Result Word WordRefusal → Result Word WordMissing
as_word (Ok word) = Ok word
as_word (Err refusal) = Err (Fault refusal)

-- the word of this number in a file
abbrev pub word_in : List ℕ → ℕ → Result Word WordMissing
word_in file at =
    by_result (header_at file) (λ refusal. Err (Fault refusal))
    (λ h. if nat_lt at h.words then as_word (word_at h at (drop (16 + 4 * at) file)) else Err PastTheEnd)

abbrev pub is_continuing : Result Word WordMissing → Bool
is_continuing (Ok (Command byte)) = byte == 0x31
is_continuing _ = false

-- one of so many words, from this number on, puts 31h on the bus, which continues a cache read
abbrev pub continues : List ℕ → (at left : ℕ) → Bool
continues file at zero = false
continues file at (suc left) = is_continuing (word_in file at) || continues file (at + 1) left

-- the law: what is read of a file of a text are the words of that text
abbrev pub WordsAreRead : Type 0
WordsAreRead = (file : List ℕ) (x : Microprogram) → reading file ≡ Ok x → (k : ℕ) (word : Word) → slice_get x.words k ≡ Some word → word_in file k ≡ Ok word
