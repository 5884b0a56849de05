-- What a verified text shows.
use Rattle.std.specs.Prelude.{ℕ, ◌*◌, ◌≤◌, List, length}
use Rattle.nand_geometry.specs.declared.parts.Parts.{Parts}
use Rattle.micro_word.specs.declared.word.Word.{Word}
use Rattle.micro_word.specs.Text.{Microprogram}
use Rattle.micro_program.specs.Nested.{loops_at}

-- a text, and the geometry for which it was verified
pub record VerifiedText : Type 0 where
  pub text : Microprogram
  pub geometry : Parts

-- ---- how many words were walked

-- at most two loops are around each place
abbrev pub NestsTwoDeep : List Word → Type 0
NestsTwoDeep words = (at : ℕ) → length (loops_at words at) ≤ 2

-- 16 times each word for each loop that may be around it
pub record IsFewWalked (words : List Word) (walked : ℕ) : Type 0 where
  pub few : walked ≤ 65536 * length words
  pub fewer : NestsTwoDeep words → walked ≤ 256 * length words
