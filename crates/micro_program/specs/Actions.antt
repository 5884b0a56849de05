-- The actions of a job, told as one list from the answers that it gets, and the law that stepping word by word does them.
use Rattle.std.specs.Prelude.{◌≡◌, ℕ, ◌==◌, Bool, true, false, not, if◌then◌else◌, List, [], ◌∷◌, ◌++◌, Option, Some, None}
use Rattle.nand_geometry.specs.declared.parts.Parts.{Parts}
use Rattle.onfi_cycle.specs.Channel.{Channel}
use Rattle.micro_word.specs.declared.word.Word.{Word}
use Rattle.micro_word.specs.declared.word.Word.TheVariants.{Get, Put, Wait, ReadStatus, BranchOnStatus, Jump}
use Rattle.micro_program.specs.Lines.{Line, unrolled}
use Rattle.micro_program.specs.Program.{Job, Done, Answer, Nothing, place_now, status_now, meets}
use Rattle.micro_program.specs.Moves.{Move, moves}
use Rattle.micro_program.specs.Safe.{Seat, Reaches, is_end}

-- an action: its word, its cycles if its row and bytes are there, and the part of the buffer that it fills or gives
pub record Action : Type 0 where
  pub word : Word
  pub cycles : Option (List Move)
  pub place : ℕ
  pub bytes : ℕ

abbrev pub bytes_of : Word → ℕ
bytes_of (Get len) = len
bytes_of (Put len) = len
bytes_of _ = 0

-- the action of a word, after these words
abbrev pub action : Parts → Job → List Done → Word → Action
action g j done word = record { word = word; cycles = moves g j done word; place = place_now done; bytes = bytes_of word }

-- the words that bring something
abbrev pub asks : Word → Bool
asks (Get len) = true
asks Wait = true
asks ReadStatus = true
asks _ = false

-- an answer, and the answers behind it
pub record Answered : Type 0 where
  pub answer : Answer
  pub more : List Answer

abbrev pub first_of : List Answer → Option Answered
first_of [] = None
first_of (answer ∷ more) = Some (record { answer = answer; more = more })

-- what a word brings, by the answers to come; nothing follows an `end`, or an answer that isn't there yet
abbrev pub answered : Word → List Answer → Option Answered
answered word answers = if is_end word then None else (if asks word then first_of answers else Some (record { answer = Nothing; more = answers }))

abbrev pub onward : Option Answered → (Answered → List Action) → List Action
onward None rest = []
onward (Some a) rest = rest a

-- the place before which a word leaves out the lines, if it leaves out any
abbrev pub target_after : Word → List Done → Option ℕ
target_after (BranchOnStatus mask target) done = if meets mask (status_now done) then Some target else None
target_after (Jump target) done = Some target
target_after _ done = None

abbrev pub is_left_out : Option ℕ → Line → Bool
is_left_out None line = false
is_left_out (Some target) line = not (line.at == target)

-- the actions of some lines after these words, those before a target left out
abbrev pub acts_from : Parts → Job → Option ℕ → List Line → List Done → List Answer → List Action
acts_from g j target [] done answers = []
acts_from g j target (line ∷ rest) done answers =
    if is_left_out target line then acts_from g j target rest done answers
    else action g j done line.word ∷ onward (answered line.word answers) (λ a. acts_from g j (target_after line.word done) rest (record { word = line.word; answer = a.answer } ∷ done) a.more)

-- the actions of a job, by the answers that it gets: those of each `stat`, finished `wait` and `get`, in the order of time
abbrev pub acts : Parts → Job → List Answer → List Action
acts g j answers = acts_from g j None (unrolled j.text.words) [] answers

-- the answers that the words done brought, in the order of time
abbrev pub answers_of : List Done → List Answer
answers_of [] = []
answers_of (d ∷ done) = answers_of done ++ (if asks d.word then d.answer ∷ [] else [])

-- the actions of the words done, in the order of time
abbrev pub actions_of : Parts → Job → List Done → List Action
actions_of g j [] = []
actions_of g j (d ∷ done) = actions_of g j done ++ (action g j done d.word ∷ [])

-- the law: whatever answers are still to come, the actions of a job are those done at a seat that it reaches, and then those of the lines to come
abbrev pub WalkGivesActs : Type 0
WalkGivesActs =
    (s : Channel) (j : Job) (seat : Seat) → Reaches s j seat → (more : List Answer)
    → acts s.geometry j (answers_of seat.done ++ more) ≡ actions_of s.geometry j seat.done ++ acts_from s.geometry j None seat.ahead seat.done more
