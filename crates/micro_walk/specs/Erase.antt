-- The smallest program, the erase of one block, and programs of many erases.
use Rattle.std.specs.Prelude.{◌≡◌, ℕ, zero, suc, ◌*◌, ◌^◌, ◌<◌, ◌≤◌, List, [], ◌∷◌, None}
use Rattle.nand_geometry.specs.declared.parts.Parts.{Parts}
use Rattle.micro_word.specs.declared.word.Word.{Word}
use Rattle.micro_word.specs.declared.word.Word.TheVariants.{End, Command, Address, Wait}
use Rattle.micro_word.specs.Text.{Microprogram}
use Rattle.micro_program.specs.Safe.{IsSafe}
use Rattle.micro_walk.specs.Faults.{fault_of}

-- cmd 60, addr 2 3, cmd d0, wait, end 0
abbrev pub erase_words : List Word
erase_words = Command 0x60 ∷ (Address 2 3 ∷ (Command 0xd0 ∷ (Wait ∷ (End 0 ∷ []))))

-- the law: it is safe on every geometry, with one row and a budget of five cycles or more
abbrev pub EraseIsSafe : Type 0
EraseIsSafe = (text : Microprogram) (g : Parts) → text.words ≡ erase_words → 1 ≤ text.rows → 5 ≤ text.budget → IsSafe text g

-- so many erases, each waited for, and then end 0
abbrev pub erases : (count : ℕ) → List Word
erases zero = End 0 ∷ []
erases (suc count) = Command 0x60 ∷ (Address 2 3 ∷ (Command 0xd0 ∷ (Wait ∷ erases count)))

-- the law: however many there are, they are accepted on every geometry with a budget of five cycles for each
abbrev pub ErasesAreAccepted : Type 0
ErasesAreAccepted =
    (g : Parts) (text : Microprogram) (count : ℕ) → text.words ≡ erases count → 1 ≤ text.rows → 5 * count ≤ text.budget → text.budget < 2 ^ 32
    → fault_of g text ≡ None
