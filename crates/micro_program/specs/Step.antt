-- One step of a program: its next word.
use Rattle.std.specs.Prelude.{ℕ, Bool, true, false, if◌then◌else◌, List, [], ◌∷◌, Option, Some, None}
use Rattle.nand_geometry.specs.declared.parts.Parts.{Parts}
use Rattle.onfi_cycle.specs.declared.item.Item.{Item}
use Rattle.onfi_cycle.specs.Channel.{Channel}
use Rattle.micro_word.specs.declared.word.Word.{Word}
use Rattle.micro_word.specs.declared.word.Word.TheVariants.{End, Get, Wait, Yield, ReadStatus, BranchOnStatus, Jump}
use Rattle.micro_program.specs.Lines.{Line, from_place}
use Rattle.micro_program.specs.Program.{Job, Done, Answer, Nothing, Polled, Got, status_now, is_ready_status, meets}
use Rattle.micro_program.specs.Moves.{moves, and_then}
use Rattle.micro_program.specs.Played.{Played, answered, played}

-- how a step went: the program ended, it let the bus go, its LUN wasn't ready yet, or it goes on
pub data Outcome : Type 0 where
  Ended HandedOver NotReady Went : Outcome

-- the program has the bus after the step
abbrev pub keeps_bus : Outcome → Bool
keeps_bus Went = true
keeps_bus _ = false

-- what a step leaves: the trace, the lines that are still to come, the words done, the code if the program ended, and how it went
pub record Stride : Type 0 where
  pub past : List Item
  pub ahead : List Line
  pub done : List Done
  pub code : Option ℕ
  pub outcome : Outcome

-- the first of the bytes taken
abbrev pub first_byte : List ℕ → ℕ
first_byte [] = 0
first_byte (byte ∷ bytes) = byte

-- a word is done, and the program goes on with these lines
abbrev pub did : Played → Word → Answer → List Line → List Done → Outcome → Stride
did p word answer ahead done outcome =
    record { past = p.past; ahead = ahead; done = record { word = word; answer = answer } ∷ done; code = None; outcome = outcome }

-- the program is done
abbrev pub ended : Played → Word → ℕ → List Line → List Done → Stride
ended p word code ahead done =
    record { past = p.past; ahead = ahead; done = record { word = word; answer = Nothing } ∷ done; code = Some code; outcome = Ended }

-- a `wait` whose poll gave this status: done if it says ready, else it comes again
abbrev pub waited : Played → Line → List Line → List Done → ℕ → Stride
waited p line rest done status =
    if is_ready_status status then did p line.word (Polled status) rest done Went
    else record { past = p.past; ahead = line ∷ rest; done = done; code = None; outcome = NotReady }

-- what the word of a line leaves, once its moves were played; a branch that is taken leaves out the lines before its target
abbrev pub stride : Line → List Line → List Done → Played → Word → Stride
stride line rest done p (End code) = ended p line.word code rest done
stride line rest done p Yield = did p line.word Nothing rest done HandedOver
stride line rest done p Wait = waited p line rest done (first_byte p.bytes)
stride line rest done p ReadStatus = did p line.word (Polled (first_byte p.bytes)) rest done Went
stride line rest done p (Get len) = did p line.word (Got p.bytes) rest done Went
stride line rest done p (BranchOnStatus mask target) =
    did p line.word Nothing (if meets mask (status_now done) then from_place target rest else rest) done Went
stride line rest done p (Jump target) = did p line.word Nothing (from_place target rest) done Went
stride line rest done p _ = did p line.word Nothing rest done Went

-- a step of the next word after a past, whose outputs give these bytes
abbrev pub answered_step : Parts → Job → List ℕ → List Item → List Line → List Done → Option Stride
answered_step g j bytes past [] done = None
answered_step g j bytes past (line ∷ rest) done =
    and_then (moves g j done line.word) (λ moved. and_then (answered j.lun.ce moved bytes past) (λ p. Some (stride line rest done p line.word)))

-- the same on a model, where its moves are there and each output has a byte
abbrev pub next_step : Channel → Job → List Item → List Line → List Done → Option Stride
next_step s j past [] done = None
next_step s j past (line ∷ rest) done =
    and_then (moves s.geometry j done line.word) (λ moved. and_then (played s j.lun.ce moved past) (λ p. Some (stride line rest done p line.word)))
