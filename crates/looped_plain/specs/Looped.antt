-- Plain operations in a loop: the text, and the laws that it is accepted.
use Rattle.std.specs.Prelude.{◌≡◌, ℕ, ◌*◌, ◌+◌, ◌≤◌, ◌<◌, ◌^◌, true, List, [], ◌∷◌, ◌++◌, None, take}
use Rattle.nand_geometry.specs.declared.parts.Parts.{Parts}
use Rattle.nand_geometry.specs.Limits.{InLimits}
use Rattle.micro_word.specs.declared.format.Format.TheVariants.{Two}
use Rattle.micro_word.specs.declared.word.Word.{Word}
use Rattle.micro_word.specs.declared.word.Word.TheVariants.{End, Loop, Next}
use Rattle.micro_word.specs.Text.{Microprogram, FitsFormat}
use Rattle.micro_walk.specs.Faults.{fault_of}
use Rattle.micro_walk.specs.Searched.{finds_certificate}
use Rattle.micro_verify.specs.declared.plain_op.PlainOp.{PlainOp}
use Rattle.micro_verify.specs.Plain.{operations_len, plain_words, rows_of, buffer_of, budget_of, plain_fault}

-- the words of the plain text without its two ends, between `loop` and `next`, and then the end: a failure leads to the `next`, and so to the next turn
abbrev pub looped_words : (turns : ℕ) → List PlainOp → List Word
looped_words turns ops = Loop turns ∷ (take (operations_len ops) (plain_words ops) ++ (Next ∷ (End 0 ∷ [])))

-- a text of these words, with at least the rows and the buffer of the operations, and the budget of all turns
pub record IsLooped (turns : ℕ) (ops : List PlainOp) (text : Microprogram) : Type 0 where
  pub words : text.words ≡ looped_words turns ops
  pub rows : rows_of ops ≤ text.rows
  pub buffer : buffer_of ops ≤ text.buffer
  pub budget : turns * budget_of ops ≤ text.budget

-- the least such text
abbrev pub looped_text : (turns : ℕ) → List PlainOp → Microprogram
looped_text turns ops = record { rows = rows_of ops; buffer = buffer_of ops; budget = turns * budget_of ops; words = looped_words turns ops }

-- ---- the laws

-- whatever the operations, if they have no fault then the search finds a certificate of their text in a loop, which no verifier refuses then
abbrev pub LoopedTextsAreFound : Type 0
LoopedTextsAreFound = (g : Parts) → InLimits g → (turns : ℕ) (ops : List PlainOp) (text : Microprogram) → plain_fault g ops ≡ None → FitsFormat Two text → IsLooped turns ops text → finds_certificate g text ≡ true

-- it has no fault
abbrev pub LoopedTextsAreFaultless : Type 0
LoopedTextsAreFaultless = (g : Parts) → InLimits g → (turns : ℕ) (ops : List PlainOp) (text : Microprogram) → plain_fault g ops ≡ None → FitsFormat Two text → IsLooped turns ops text → fault_of g text ≡ None

-- there is such a text wherever three words more fit, and the budget of all turns
abbrev pub LoopedTextsFit : Type 0
LoopedTextsFit =
    (g : Parts) → InLimits g → (turns : ℕ) (ops : List PlainOp) → plain_fault g ops ≡ None → 1 ≤ turns → turns ≤ 4096 → operations_len ops + 3 ≤ 1024 → turns * budget_of ops < 2 ^ 32
    → FitsFormat Two (looped_text turns ops)
