-- The places to which words branch.
use Rattle.std.specs.Prelude.{ℕ, ◌<◌, List, Option, Some, None, IfSome}
use Rattle.std.specs.List.{AllByRecursion}
use Rattle.micro_word.specs.declared.word.Word.{Word}
use Rattle.micro_word.specs.declared.word.Word.TheVariants.{BranchOnStatus, Jump}

-- the place to which a word branches
abbrev pub target_of : Word → Option ℕ
target_of (BranchOnStatus mask target) = Some target
target_of (Jump target) = Some target
target_of _ = None

-- each branch leads to a place below this one
abbrev pub TargetsBelow : ℕ → List Word → Type 0
TargetsBelow count words = AllByRecursion (λ word. IfSome (target_of word) (λ target. target < count)) words
