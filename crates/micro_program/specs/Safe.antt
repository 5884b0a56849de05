-- What a verifier promises of a text, and all that whoever runs it may rest on: a program alone, whatever else the channel does.
use Rattle.std.specs.Prelude.{◌≡◌, ℕ, ◌+◌, ◌%◌, ◌≤◌, Bool, true, false, ◌||◌, ◌&&◌, not, List, [], ◌∷◌, Some, None, length}
use Rattle.nand_geometry.specs.declared.parts.Parts.{Parts}
use Rattle.nand_geometry.specs.Limits.{indices}
use Rattle.onfi_cycle.specs.declared.lun.Lun.{Lun}
use Rattle.onfi_cycle.specs.declared.item.Cycle.{Cycle}
use Rattle.onfi_cycle.specs.declared.item.Kind.TheVariants.{Dout}
use Rattle.onfi_cycle.specs.declared.item.Item.{Item}
use Rattle.onfi_cycle.specs.declared.item.Item.TheVariants.{Cyc}
use Rattle.onfi_cycle.specs.Lun.{is_busy}
use Rattle.onfi_cycle.specs.Permitted.{broken, is_legal}
use Rattle.onfi_cycle.specs.Channel.{Channel, IsChannel, IsIdle, IsOwn, same_lun, is_there, is_cycle, cycle, is_open_on}
use Rattle.micro_word.specs.declared.word.Word.{Word}
use Rattle.micro_word.specs.declared.word.Word.TheVariants.{End, Wait, Yield}
use Rattle.micro_word.specs.Text.{Microprogram}
use Rattle.micro_program.specs.Lines.{Line, unrolled, continues_cache_read}
use Rattle.micro_program.specs.Program.{Job, Done, is_ready_status, place_now, fits, cost, cost_now}
use Rattle.micro_program.specs.Moves.{Move, Give, Take, moves, is_wait}
use Rattle.micro_program.specs.Step.{Stride, keeps_bus, first_byte, answered_step}

-- a program in the midst of its work: the trace of the channel, its lines to come, its words done, and whether it has the bus
pub record Seat : Type 0 where
  pub past : List Item
  pub ahead : List Line
  pub done : List Done
  pub holding : Bool

-- the seat of a job that was loaded after this past
abbrev pub loaded : Job → List Item → Seat
loaded j past = record { past = past; ahead = unrolled j.text.words; done = []; holding = false }

-- the seat that a step leaves
abbrev pub after_step : Stride → Seat
after_step r = record { past = r.past; ahead = r.ahead; done = r.done; holding = keeps_bus r.outcome }

-- the seat after an item of somebody else
abbrev pub after_item : Item → Seat → Seat
after_item i seat = record { past = i ∷ seat.past; ahead = seat.ahead; done = seat.done; holding = seat.holding }

-- its next word may be stepped: it has the bus, or nothing is open on its target
abbrev pub may_step : Job → Seat → Bool
may_step j seat = seat.holding || not (is_open_on seat.past j.lun.ce)

-- the next word is a `wait`, and these bytes say ready
abbrev pub ends_wait : List Line → List ℕ → Bool
ends_wait [] bytes = false
ends_wait (line ∷ rest) bytes = is_wait line.word && is_ready_status (first_byte bytes)

-- these bytes are truthful: they end a `wait` only where its LUN is ready
abbrev pub AreTruthful : Parts → Lun → List Item → List Line → List ℕ → Type 0
AreTruthful g l past ahead bytes = ends_wait ahead bytes ≡ true → is_busy g past l ≡ false

-- what a program may come to
pub data Reaches (s : Channel) (j : Job) : Seat → Type 0 where
  -- it is loaded, after any legal trace that leaves its LUN idle
  starts :
      (past : List Item) → is_legal s.geometry s.targets past ≡ true → IsIdle s.geometry past j.lun
      → Reaches s j (loaded j past)
  -- it makes a step that doesn't end it, whatever its outputs give, if that is truthful
  steps :
      (seat : Seat) (bytes : List ℕ) (r : Stride) → Reaches s j seat → may_step j seat ≡ true
      → answered_step s.geometry j bytes seat.past seat.ahead seat.done ≡ Some r
      → AreTruthful s.geometry j.lun seat.past seat.ahead bytes → r.code ≡ None
      → Reaches s j (after_step r)
  -- some LUN, or its array, becomes ready
  readies :
      (seat : Seat) (i : Item) → Reaches s j seat → is_cycle i ≡ false → broken s.geometry s.targets seat.past i ≡ None
      → Reaches s j (after_item i seat)
  -- it doesn't have the bus, and a cycle of another LUN comes
  others :
      (seat : Seat) (c : Cycle) (m : Lun) → Reaches s j seat → seat.holding ≡ false
      → IsOwn s m seat.past (Cyc c) → is_there s m ≡ true → same_lun m j.lun ≡ false
      → Reaches s j (after_item (Cyc c) seat)

-- each cycle of some moves is permitted where it comes and is one of this LUN, whatever bytes the outputs give
abbrev pub MovesAreOwn : Channel → Lun → List Move → List Item → Type 0
MovesAreOwn s l [] past = Unit {0}
MovesAreOwn s l (Give kind byte ∷ rest) past = IsOwn s l past (cycle l.ce kind byte) × MovesAreOwn s l rest (cycle l.ce kind byte ∷ past)
MovesAreOwn s l (Take ∷ rest) past =
    (byte : ℕ) → IsOwn s l past (cycle l.ce Dout byte) × MovesAreOwn s l rest (cycle l.ce Dout byte ∷ past)

-- the words at which a program may let the bus go
abbrev pub lets_go : Word → Bool
lets_go Wait = true
lets_go Yield = true
lets_go (End code) = true
lets_go _ = false

abbrev pub is_end : Word → Bool
is_end (End code) = true
is_end _ = false

-- the next word is fine: its cycles are permitted and its LUN's own, it stays inside buffer and budget, nothing is open
-- where it may let the bus go, and the LUN is idle where the program ends
pub record WordIsFine (s : Channel) (j : Job) (past : List Item) (done : List Done) (word : Word) : Type 0 where
  pub moved : List Move
  pub is_moved : moves s.geometry j done word ≡ Some moved
  pub own : MovesAreOwn s j.lun moved past
  pub inside : fits j.text.buffer (place_now done) word ≡ true
  pub budget : cost_now s.geometry done + cost s.geometry word ≤ j.text.budget
  pub closed : lets_go word ≡ true → is_open_on past j.lun.ce ≡ false
  pub idle : is_end word ≡ true → IsIdle s.geometry past j.lun

abbrev pub LineIsFine : Channel → Job → List Item → List Done → List Line → Type 0
LineIsFine s j past done [] = ⊥
LineIsFine s j past done (line ∷ rest) = WordIsFine s j past done line.word

-- there is a next word, and it is fine
abbrev pub IsFine : Channel → Job → Seat → Type 0
IsFine s j seat = LineIsFine s j seat.past seat.done seat.ahead

-- what is checked of a job when it is made: its rows are there, its buffer is whole, and where it continues a cache read it begins with a block
pub record IsMade (j : Job) : Type 0 where
  pub rows : j.base + j.text.rows ≤ indices j.geometry
  pub buffer : length j.buffer ≡ j.text.buffer
  pub cache : continues_cache_read j.text.words ≡ true → j.base % j.geometry.pages ≡ 0

-- a job of this text, on a channel of this geometry that has its LUN
pub record IsJobOf (text : Microprogram) (g : Parts) (s : Channel) (j : Job) : Type 0 where
  pub is_channel : IsChannel s
  pub of_channel : s.geometry ≡ g
  pub of_geometry : j.geometry ≡ g
  pub of_text : j.text ≡ text
  pub there : is_there s j.lun ≡ true
  pub made : IsMade j

-- wherever the job comes to step, it is fine
abbrev pub StaysFine : Channel → Job → Type 0
StaysFine s j = (seat : Seat) → Reaches s j seat → may_step j seat ≡ true → IsFine s j seat

-- what a verifier promises: each job of the text, on each channel of the geometry, stays fine
abbrev pub IsSafe : Microprogram → Parts → Type 0
IsSafe text g = (s : Channel) (j : Job) → IsJobOf text g s j → StaysFine s j

-- a trace with these cycles more, the newest first
abbrev pub cycles_on : List Cycle → List Item → List Item
cycles_on [] past = past
cycles_on (c ∷ new) past = Cyc c ∷ cycles_on new past

-- each of these cycles is permitted where it comes, and is one of this LUN
abbrev pub AllOwn : Channel → Lun → List Cycle → List Item → Type 0
AllOwn s l [] past = Unit {0}
AllOwn s l (c ∷ new) past = IsOwn s l (cycles_on new past) (Cyc c) × AllOwn s l new past

-- what was added to a trace are cycles of this LUN, each permitted where it comes
pub record AddsOwn (s : Channel) (l : Lun) (before later : List Item) : Type 0 where
  pub new : List Cycle
  pub is_new : later ≡ cycles_on new before
  pub own : AllOwn s l new before
