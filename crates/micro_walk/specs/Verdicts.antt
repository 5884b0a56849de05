-- What is found of a text: that it is safe, or what is against it.
use Rattle.std.specs.Prelude.{◌≡◌, ℕ, ◌≤◌, ◌<◌, ◌⊎◌, ◌||◌, Bool, true, false, if◌then◌else◌, List, Option, Some, None, is_some, length, slice_get}
use Rattle.nand_geometry.specs.declared.parts.Parts.{Parts}
use Rattle.micro_word.specs.declared.word.Word.{Word}
use Rattle.micro_word.specs.Text.{Microprogram}
use Rattle.micro_claims.specs.declared.refusal.Reason.{Reason}
use Rattle.micro_claims.specs.declared.refusal.Reason.TheVariants.{NoWords, LoopUnpaired, LoopsTooDeep, BranchMisplaced, LastWordNotEnd}
use Rattle.micro_claims.specs.declared.refusal.Fault.{Fault}
use Rattle.micro_claims.specs.declared.state.State.{State}
use Rattle.micro_claims.specs.declared.bounds.Bounds.{Bounds}
use Rattle.micro_claims.specs.State.{bounds_of}
use Rattle.micro_claims.specs.Reasons.{reason_against}
use Rattle.micro_program.specs.Lines.{all_lead_on}
use Rattle.micro_program.specs.Safe.{IsSafe}
use Rattle.micro_program.specs.Places.{IsShaped}
use Rattle.micro_program.specs.Verified.{IsFewWalked}
use Rattle.micro_walk.specs.Shape.{shape_fault}
use Rattle.micro_walk.specs.Faults.{has_loop, fault_of, before_loops, early_fault}
use Rattle.micro_walk.specs.declared.lent.Unexamined.{Unexamined}
use Rattle.micro_walk.specs.declared.lent.Unexamined.TheVariants.{Fault as IsAgainst, TableTooSmall}

-- a reason of the text as a whole
abbrev pub is_of_shape : Reason → Bool
is_of_shape NoWords = true
is_of_shape LoopUnpaired = true
is_of_shape LoopsTooDeep = true
is_of_shape BranchMisplaced = true
is_of_shape LastWordNotEnd = true
is_of_shape _ = false

-- of a word of the text, and the lowest reason against it by what was claimed before it
pub record IsOfWord (g : Parts) (b : Bounds) (words : List Word) (fault : Fault) : Type 0 where
  pub word : Word
  pub there : slice_get words fault.word ≡ Some word
  pub claimed : State
  pub against : reason_against g b claimed word ≡ Some fault.reason

-- where a fault of a text with loops stands: it is the one that no loop hides, if there is one; else it isn't before the first loop
abbrev pub StandsRight : Option Fault → (first : ℕ) → Fault → Type 0
StandsRight (Some early) first fault = fault ≡ early
StandsRight None first fault = first ≤ fault.word

-- of a text with loops whose shape is right
pub record IsOfLoops (g : Parts) (text : Microprogram) (fault : Fault) : Type 0 where
  pub loops : has_loop text.words ≡ true
  pub shape : shape_fault text.words ≡ None
  pub of_word : IsOfWord g (bounds_of text) text.words fault
  pub stands : StandsRight (early_fault g text) (before_loops text.words) fault

-- what may be against a text: its fault, or a word of a text with loops
abbrev pub MayBe : Parts → Microprogram → Fault → Type 0
MayBe g text fault = (fault_of g text ≡ Some fault) ⊎ IsOfLoops g text fault

-- what is shown of a text against which nothing is found
pub record IsVerified (text : Microprogram) (g : Parts) (walked : ℕ) : Type 0 where
  pub safe : IsSafe text g
  pub shaped : IsShaped text.words
  pub few : IsFewWalked text.words walked
  pub faultless : fault_of g text ≡ None
  pub early : early_fault g text ≡ None

-- how many places a lent table must have for these words: one for each, if one is a branch or a loop and the shape is right
abbrev pub places_wanted : List Word → ℕ
places_wanted words = if is_some (shape_fault words) || all_lead_on words then 0 else length words

-- of a table of so many places: something is against the text, and there are enough; or there are too few
abbrev pub IsUnexamined : Parts → Microprogram → (places : ℕ) → Unexamined → Type 0
IsUnexamined g text places (IsAgainst fault) = MayBe g text fault × (places_wanted text.words ≤ places)
IsUnexamined g text places (TableTooSmall wanted) = (wanted ≡ places_wanted text.words) × (places < wanted)
