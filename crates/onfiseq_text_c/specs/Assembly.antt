-- What comes of assembling and disassembling.
use Rattle.std.specs.Prelude.{◌≡◌, ℕ, List, Result, Ok, Err, IsOk, MatchResult}
use Rattle.std.specs.Str.{IsUtf8}
use Rattle.micro_asm.specs.Codes.{asm_fault_number}
use Rattle.micro_asm.specs.declared.refusal.AsmRefusal.TheVariants as asm
use Rattle.micro_asm.specs.Assembly.{assembly}
use Rattle.micro_asm.specs.Reading.{reading, Spells}
use Rattle.micro_word.specs.Codes.{word_fault_number}
use Rattle.micro_word.specs.declared.refusal.WordRefusal.TheVariants as W
use Rattle.micro_word.specs.Text.{Microprogram, file2, IsFileOf}
use Rattle.micro_word.specs.Reading.{reading as file_reading}
use Rattle.placed_bytes.specs.declared.placed.OnfiseqPlaced.{OnfiseqPlaced}
use Rattle.onfiseq_text_c.specs.declared.failure.Failure.{Failure}
use Rattle.onfiseq_text_c.specs.declared.failure.Failure.TheVariants as F
use Rattle.placed_bytes.specs.Placed.{placed, placed_in, refusal}

-- what is told of a failure: A with the line, M with the word, U, or O
abbrev pub told_of : Failure → OnfiseqPlaced
told_of (F.Text fault line) = refusal 65 (asm_fault_number fault) line
told_of (F.File fault word) = refusal 77 (word_fault_number fault) word
told_of F.NotText = refusal 85 0 0
told_of F.OutOfMemory = refusal 79 0 0

-- what is told of bytes that were made, or of the failure
abbrev pub told : Result (List ℕ) Failure → (buffer : List ℕ) → OnfiseqPlaced
told (Ok bytes) buffer = placed bytes buffer
told (Err failure) buffer = told_of failure

-- the buffer then
abbrev pub left : Result (List ℕ) Failure → (buffer : List ℕ) → List ℕ
left (Ok bytes) buffer = placed_in bytes buffer
left (Err failure) buffer = buffer

-- bytes are made that are these, or it fails for this; they, or the failure, are told and placed
pub record Comes (AreThese : List ℕ → Type 0) (Fails : Failure → Type 0) (old new : List ℕ) (w : OnfiseqPlaced) : Type 0 where
  pub made : Result (List ℕ) Failure
  pub is : MatchResult made AreThese Fails
  pub told : w ≡ told made old
  pub left : new ≡ left made old

-- the word file, in format 2, of the microprogram that the text spells
abbrev pub SpellsFile : List ℕ → List ℕ → Type 0
SpellsFile text bytes = (x : Microprogram) × Spells text x × (bytes ≡ file2 x)

-- a text isn't assembled for its fault, or as it isn't UTF-8, or for want of memory and nothing else
abbrev pub FailsText : List ℕ → Failure → Type 0
FailsText text (F.Text fault line) = reading text ≡ Err (asm.Fault fault line)
FailsText text F.NotText = IsUtf8 text → ⊥
FailsText text F.OutOfMemory = IsOk (reading text)
FailsText text (F.File fault word) = ⊥

-- the assembly text of the microprogram whose word file this is
abbrev pub ShowsFile : List ℕ → List ℕ → Type 0
ShowsFile file bytes = (x : Microprogram) × IsFileOf file x × (bytes ≡ assembly x)

-- a word file isn't disassembled for its fault, or for want of memory and nothing else
abbrev pub FailsFile : List ℕ → Failure → Type 0
FailsFile file (F.File fault word) = file_reading file ≡ Err (W.Fault fault word)
FailsFile file F.OutOfMemory = IsOk (file_reading file)
FailsFile file (F.Text fault line) = ⊥
FailsFile file F.NotText = ⊥
