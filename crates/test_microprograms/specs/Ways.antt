-- Worked ways through texts with loops and branches, computed by the definitions.
use Rattle.std.specs.Prelude.{◌≡◌, ℕ, zero, suc, List, [], ◌∷◌, get_or}
use Rattle.micro_word.specs.declared.word.Word.{Word}
use Rattle.micro_word.specs.declared.word.Word.TheVariants.{End, ReadStatus, BranchOnStatus, Loop, Next, Jump}
use Rattle.micro_program.specs.Lines.{Line, unrolled}
use Rattle.micro_program.specs.Places.{IsShaped}
use Rattle.seq_core.specs.declared.loops.OpenLoop.{OpenLoop}
use Rattle.seq_core.specs.Loops.{place_behind, loops_behind}

-- the places of some lines
abbrev pub places : List Line → List ℕ
places [] = []
places (line ∷ lines) = line.at ∷ places lines

-- the places that a sequencer comes to, so many, with a last status that stays
abbrev pub come_to : ℕ → List Word → ℕ → List OpenLoop → ℕ → List ℕ
come_to zero words at loops status = []
come_to (suc steps) words at loops status =
    at ∷ come_to steps words (place_behind at loops status (get_or words at (End 0))) (loops_behind at loops (get_or words at (End 0))) status

-- a loop of three turns in one of two
abbrev pub nested : List Word
nested = Loop 2 ∷ (ReadStatus ∷ (Loop 3 ∷ (ReadStatus ∷ (Next ∷ (Next ∷ (End 0 ∷ []))))))

abbrev pub way : List ℕ
way = 0 ∷ (1 ∷ (2 ∷ (3 ∷ (4 ∷ (3 ∷ (4 ∷ (3 ∷ (4 ∷ (5 ∷ (1 ∷ (2 ∷ (3 ∷ (4 ∷ (3 ∷ (4 ∷ (3 ∷ (4 ∷ (5 ∷ (6 ∷ [])))))))))))))))))))

-- to word 3 where the status shows a failure
abbrev pub branching : List Word
branching = ReadStatus ∷ (BranchOnStatus 1 3 ∷ (End 0 ∷ (End 1 ∷ [])))

-- over a word inside a loop, turn by turn
abbrev pub jumping : List Word
jumping = Loop 2 ∷ (Jump 3 ∷ (ReadStatus ∷ (Next ∷ (End 0 ∷ []))))

-- where these texts lead
pub record WorkedWays : Type 0 where
  pub nested_lines : places (unrolled nested) ≡ way
  pub nested_way : come_to 20 nested 0 [] 0 ≡ way
  pub nested_is_shaped : IsShaped nested
  pub taken : come_to 3 branching 0 [] 0xe1 ≡ 0 ∷ (1 ∷ (3 ∷ []))
  pub passed : come_to 3 branching 0 [] 0xe0 ≡ 0 ∷ (1 ∷ (2 ∷ []))
  pub jumped : come_to 6 jumping 0 [] 0 ≡ 0 ∷ (1 ∷ (3 ∷ (1 ∷ (3 ∷ (4 ∷ [])))))
