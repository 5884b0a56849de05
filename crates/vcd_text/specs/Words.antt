-- The words of a dump: what stands between white space, and the line in which it stands.
use Rattle.std.specs.Prelude.{◌≡◌, ⊤, ℕ, ◌+◌, ◌≤◌, ◌==◌, Bool, true, false, nat_le, length, if◌then◌else◌, List, [], ◌∷◌, ◌++◌, Option, Some, None}
use Rattle.vcd_text.specs.declared.words.Word.{Word as WordInMemory}
use Rattle.vcd_text.specs.declared.words.Words.{Words}

pub record Word : Type 0 where
  pub line : ℕ
  pub text : List ℕ

-- white space: a space (32), and the control characters below it
abbrev pub is_blank : ℕ → Bool
is_blank b = nat_le b 32

-- the line after a byte of white space: a line feed (10) ends one
abbrev pub line_after : ℕ → ℕ → ℕ
line_after line b = if b == 10 then line + 1 else line

-- a word that has ended, if it has begun, in front of others
abbrev pub ended : ℕ → List ℕ → List Word → List Word
ended line [] words = words
ended line (b ∷ front) words = record { line = line; text = b ∷ front } ∷ words

-- the words from a place on, where a word of this line has begun so
abbrev pub words_from : (line : ℕ) → (front : List ℕ) → List ℕ → List Word
words_from line front [] = ended line front []
words_from line front (b ∷ bytes) =
    if is_blank b then ended line front (words_from (line_after line b) [] bytes) else words_from line (front ++ b ∷ []) bytes

-- the words of a text
abbrev pub words : List ℕ → List Word
words text = words_from 1 [] text

-- a word in memory, and those that are left
abbrev pub word_of : WordInMemory → Word
word_of w = record { line = w.line; text = w.text.now }

abbrev pub words_left : Words → List Word
words_left w = words_from w.line [] w.rest.now

abbrev pub with_word : Option WordInMemory → List Word → List Word
with_word None words = words
with_word (Some w) words = word_of w ∷ words

-- the line after all bytes
abbrev pub lines_from : ℕ → List ℕ → ℕ
lines_from line [] = line
lines_from line (b ∷ bytes) = lines_from (line_after line b) bytes

-- a text is empty, or it ends in white space: no word goes on behind it
abbrev pub IsCut : List ℕ → Type 0
IsCut [] = ⊤
IsCut (b ∷ []) = is_blank b ≡ true
IsCut (b ∷ c ∷ bytes) = IsCut (c ∷ bytes)

-- the words that are left are the last of those that were
pub record GoesOn (old new : Words) : Type 0 where
  pub lines : lines_from new.line new.rest.now ≡ lines_from old.line old.rest.now
  pub cut : IsCut old.rest.now → IsCut new.rest.now
  pub room : new.line + length new.rest.now ≤ old.line + length old.rest.now
  pub shorter : length new.rest.now ≤ length old.rest.now

-- a text is empty, or a word stands at its front
abbrev pub StartsWord : List ℕ → Type 0
StartsWord [] = ⊤
StartsWord (b ∷ bytes) = is_blank b ≡ false
