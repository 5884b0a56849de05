-- What a text promises to whoever goes through it by places: loops pair, and a branch leads on.
use Rattle.std.specs.Prelude.{◌≡◌, ℕ, ◌+◌, ◌*◌, ◌^◌, ◌<◌, ◌≤◌, List, [], Some, length, drop, slice_get}
use Rattle.micro_word.specs.declared.word.Word.{Word}
use Rattle.micro_word.specs.declared.word.Word.TheVariants.{BranchOnStatus, Loop, Jump}
use Rattle.micro_program.specs.Lines.{Unrolling, unrolling, unrolled, from_place}

-- the lines from a place of a text on, and what follows each loop around it, the innermost first
abbrev pub from_word : List Word → ℕ → Unrolling
from_word words at = unrolling (drop at words) at

-- a branch that is taken finds its target in the same turn of the same loops
pub record LeadsTo (words : List Word) (at target : ℕ) : Type 0 where
  pub there : target < length words
  pub lines : from_place target (from_word words (at + 1)).lines ≡ (from_word words target).lines
  pub loops : (from_word words (at + 1)).outer ≡ (from_word words target).outer

-- a loop has 1 to 4,096 turns, and its `next`
pub record IsLoop (words : List Word) (at turns : ℕ) : Type 0 where
  pub some : 1 ≤ turns
  pub most : turns ≤ 4096
  pub ends : 1 ≤ length (from_word words (at + 1)).outer

-- what a word asks of the text that it stands in
abbrev pub FitsAt : List Word → ℕ → Word → Type 0
FitsAt words at (BranchOnStatus mask target) = LeadsTo words at target
FitsAt words at (Jump target) = LeadsTo words at target
FitsAt words at (Loop turns) = IsLoop words at turns
FitsAt words at _ = Unit {0}

-- each `next` has its loop, loops are nested four deep at most, and each word fits where it stands
pub record IsShaped (words : List Word) : Type 0 where
  pub paired : (from_word words 0).outer ≡ []
  pub depth : (at : ℕ) → length (from_word words at).outer ≤ 4
  pub fits : (at : ℕ) (word : Word) → slice_get words at ≡ Some word → FitsAt words at word

-- the law: loops written out, each word comes at most 4,096 times in each of four loops
abbrev pub LinesAreFew : Type 0
LinesAreFew = (words : List Word) → IsShaped words → length (unrolled words) ≤ 2 ^ 48 * length words
