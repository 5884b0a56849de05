-- What is said of a word file for a parameter page.
use Rattle.std.specs.Prelude.{◌≡◌, ℕ, ◌≤◌, List, Ok, Err, IsOk}
use Rattle.nand_geometry.specs.declared.parts.Parts.{Parts}
use Rattle.nand_geometry.specs.Reading.{read_of}
use Rattle.micro_word.specs.declared.refusal.WordRefusal.TheVariants.{Fault}
use Rattle.micro_word.specs.Text.{Microprogram, IsFileOf}
use Rattle.micro_word.specs.Reading.{reading}
use Rattle.micro_walk.specs.Verdicts.{MayBe, IsVerified, places_wanted}
use Rattle.onfiseq_verify_c.specs.declared.verdict.Found.{Found}
use Rattle.onfiseq_verify_c.specs.declared.verdict.Found.TheVariants as F
use Rattle.onfiseq_verify_c.specs.declared.verdict.OnfiseqVerdict.{OnfiseqVerdict}
use Rattle.nand_geometry.specs.Codes.{page_fault_number}
use Rattle.micro_word.specs.Codes.{word_fault_number}
use Rattle.micro_claims.specs.Codes.{reason_number}

abbrev pub verdict : ℕ → ℕ → ℕ → OnfiseqVerdict
verdict letter number at = record { letter = letter; number = number; at = at }

abbrev pub answer_of : Found → OnfiseqVerdict
answer_of F.Accepted = verdict 0 0 0
answer_of (F.Page fault) = verdict 80 (page_fault_number fault) 0
answer_of (F.File fault word) = verdict 77 (word_fault_number fault) word
answer_of (F.Text reason word) = verdict 86 (reason_number reason) word
answer_of F.OutOfMemory = verdict 79 0 0

-- of a text: it is verified, so its jobs may run; or there is this reason against it. Memory is taken for a table with a place for each word, and only where
-- branches or loops want one
abbrev pub FindsText : Parts → Microprogram → Found → Type 0
FindsText g x F.Accepted = (walked : ℕ) × IsVerified x g walked
FindsText g x (F.Text reason word) = MayBe g x (record { word = word; reason = reason })
FindsText g x F.OutOfMemory = 1 ≤ places_wanted x.words
FindsText g x (F.Page fault) = ⊥
FindsText g x (F.File fault word) = ⊥

-- the page is judged first, then the file; memory for its words comes last
abbrev pub LacksProgram : (page file : List ℕ) → Found → Type 0
LacksProgram page file (F.Page fault) = read_of page ≡ Err fault
LacksProgram page file (F.File fault word) = IsOk (read_of page) × (reading file ≡ Err (Fault fault word))
LacksProgram page file F.OutOfMemory = IsOk (read_of page) × IsOk (reading file)
LacksProgram page file F.Accepted = ⊥
LacksProgram page file (F.Text reason word) = ⊥

-- the page declares a geometry, the file is that of a text, and this is found of it
pub record IsReadAnd (page file : List ℕ) (found : Found) : Type 0 where
  pub g : Parts
  pub declares : read_of page ≡ Ok g
  pub x : Microprogram
  pub is_file : IsFileOf file x
  pub finds : FindsText g x found

-- what is found of a page and a file
abbrev pub Finds : (page file : List ℕ) → Found → Type 0
Finds page file F.Accepted = IsReadAnd page file F.Accepted
Finds page file (F.Text reason word) = IsReadAnd page file (F.Text reason word)
Finds page file (F.Page fault) = LacksProgram page file (F.Page fault)
Finds page file (F.File fault word) = LacksProgram page file (F.File fault word)
Finds page file F.OutOfMemory = LacksProgram page file F.OutOfMemory

-- the answer is that of what is found
pub record Says (page file : List ℕ) (v : OnfiseqVerdict) : Type 0 where
  pub found : Found
  pub finds : Finds page file found
  pub answer : v ≡ answer_of found
