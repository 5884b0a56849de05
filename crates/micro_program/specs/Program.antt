-- A job, and a program in progress: the words that it has done, the newest first. That list alone decides its next word; where it
-- stands and how often a loop went round are read off it.
use Rattle.std.specs.Prelude.{ℕ, ◌+◌, ◌==◌, Bool, true, ◌&&◌, not, nat_le, nat_lt, if◌then◌else◌, List, [], ◌∷◌, bit_and}
use Rattle.nand_geometry.specs.declared.parts.Parts.{Parts}
use Rattle.onfi_cycle.specs.declared.lun.Lun.{Lun}
use Rattle.onfi_cycle.specs.Content.{written}
use Rattle.micro_word.specs.declared.word.Word.{Word}
use Rattle.micro_word.specs.declared.word.Word.TheVariants.{Command, Address, Get, Put, Seek, Column, RowAdd, Row, Plane, ReadStatus}
use Rattle.micro_word.specs.Text.{Microprogram}

-- a text to be run on a LUN from a page index on, the geometry for which it was verified, and its buffer as it is handed over
pub record Job : Type 0 where
  pub lun : Lun
  pub base : ℕ
  pub text : Microprogram
  pub geometry : Parts
  pub buffer : List ℕ

-- what a word brought: nothing, the status byte of a poll, or the bytes of a `get`
pub data Answer : Type 0 where
  Nothing : Answer
  Polled : (status : ℕ) → Answer
  Got : (bytes : List ℕ) → Answer

-- a word that is done, and what it brought
pub record Done : Type 0 where
  pub word : Word
  pub answer : Answer

abbrev pub column_after : Word → ℕ → ℕ
column_after (Column n) column = n
column_after _ column = column

-- the operand of the last `col`, else 0
abbrev pub column_now : List Done → ℕ
column_now [] = 0
column_now (d ∷ done) = column_after d.word (column_now done)

abbrev pub plane_after : Word → ℕ → ℕ
plane_after (Plane n) plane = n
plane_after _ plane = plane

-- the operand of the last `plane`, else 0
abbrev pub plane_now : List Done → ℕ
plane_now [] = 0
plane_now (d ∷ done) = plane_after d.word (plane_now done)

abbrev pub index_after : ℕ → Word → ℕ → ℕ
index_after base (Row n) index = base + n
index_after base (RowAdd n) index = index + n
index_after base _ index = index

-- the base, with the operand of the last `row` (0 where there was none) and those of each `rowadd` after it added
abbrev pub index_now : ℕ → List Done → ℕ
index_now base [] = base
index_now base (d ∷ done) = index_after base d.word (index_now base done)

abbrev pub place_after : Word → ℕ → ℕ
place_after (Seek n) place = n
place_after (Get n) place = place + n
place_after (Put n) place = place + n
place_after _ place = place

-- the place in the buffer: the operand of the last `seek`, else 0, and the lengths of `get` and `put` since
abbrev pub place_now : List Done → ℕ
place_now [] = 0
place_now (d ∷ done) = place_after d.word (place_now done)

abbrev pub status_after : Answer → ℕ → ℕ
status_after (Polled status) before = status
status_after _ before = before

-- the status byte of the last `stat` or finished `wait`, else 0
abbrev pub status_now : List Done → ℕ
status_now [] = 0
status_now (d ∷ done) = status_after d.answer (status_now done)

abbrev pub buffer_after : Answer → ℕ → List ℕ → List ℕ
buffer_after (Got bytes) place buffer = written bytes place buffer
buffer_after _ place buffer = buffer

-- the buffer: where a byte was got, the newest such; everywhere else what the job brought
abbrev pub buffer_now : List ℕ → List Done → List ℕ
buffer_now opening [] = opening
buffer_now opening (d ∷ done) = buffer_after d.answer (place_now done) (buffer_now opening done)

-- the cycles of a poll: 70h and an output where there is one LUN, else 78h, three addresses and an output
abbrev pub poll_cost : Parts → ℕ
poll_cost g = if nat_lt 1 g.luns then 5 else 2

-- the cost of a word: its cycles, but none for a `wait`
abbrev pub cost : Parts → Word → ℕ
cost g (Command byte) = 1
cost g (Address from count) = count
cost g (Get len) = len
cost g (Put len) = len
cost g ReadStatus = poll_cost g
cost g _ = 0

-- the cost of the words done
abbrev pub cost_now : Parts → List Done → ℕ
cost_now g [] = 0
cost_now g (d ∷ done) = cost_now g done + cost g d.word

-- a word that starts at this place of a buffer of this length stays inside it
abbrev pub fits : ℕ → ℕ → Word → Bool
fits buffer place (Get len) = nat_le (place + len) buffer
fits buffer place (Put len) = nat_le (place + len) buffer
fits buffer place _ = true

-- each word done stayed inside the buffer
abbrev pub all_fit : ℕ → List Done → Bool
all_fit buffer [] = true
all_fit buffer (d ∷ done) = fits buffer (place_now done) d.word && all_fit buffer done

-- the status byte has its ready bit
abbrev pub is_ready_status : ℕ → Bool
is_ready_status status = not (bit_and status 0x40 == 0)

-- the mask of a branch meets the status byte
abbrev pub meets : ℕ → ℕ → Bool
meets mask status = not (bit_and status mask == 0)
