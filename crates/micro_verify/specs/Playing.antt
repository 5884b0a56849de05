-- Playing a straight text by what its words have set: how its counter is found.
use Rattle.std.specs.Prelude.{◌≡◌, ℕ, ◌+◌, ◌*◌, ◌≤◌, ◌||◌, ◌&&◌, not, Bool, true, false, if◌then◌else◌, nat_le, nat_lt, List, [], ◌∷◌, ◌++◌, Option, Some, None, length, map, replicate, reverse, is_none}
use Rattle.nand_geometry.specs.declared.parts.Parts.{Parts}
use Rattle.nand_geometry.specs.Row.{row_bytes_of}
use Rattle.onfi_cycle.specs.declared.item.Cycle.{Cycle}
use Rattle.onfi_cycle.specs.declared.item.Item.TheVariants.{Cyc}
use Rattle.onfi_cycle.specs.declared.item.Kind.TheVariants.{Cmd, Adr, Din}
use Rattle.onfi_cycle.specs.Permitted.{broken}
use Rattle.micro_word.specs.declared.word.Word.{Word}
use Rattle.micro_word.specs.declared.word.Word.TheVariants.{Command, Address, Get, Put, Seek, Column, RowAdd, Row, Plane, Wait, ReadStatus}
use Rattle.micro_program.specs.Program.{Job, Done as Past, buffer_now, column_now, plane_now, index_now, place_now}
use Rattle.onfi_cycle.specs.Content.{written}
use Rattle.micro_program.specs.Moves.{Move, Give, Take, and_then, part, column_bytes}
use Rattle.micro_program.specs.Played.{Played, played}
use Rattle.micro_verify.specs.declared.moves.Move.{Move as Told}
use Rattle.micro_verify.specs.declared.moves.Move.TheVariants.{Command as Commands, Address as Addresses, Input, Output}
use Rattle.micro_verify.specs.declared.registers.Registers.{Registers}
use Rattle.micro_verify.specs.declared.playing.Outcome.{Outcome}
use Rattle.micro_verify.specs.declared.playing.Outcome.TheVariants.{Done, Stopped, Missing}
use Rattle.target_bus.specs.Bus.{Traced, channel_of}
use Rattle.onfi_cycle.specs.Channel.{Channel}
use Rattle.micro_verify.specs.Lazy.{the_lun, lone_channel, Run, new_run, item_of, awaited, Counter, counter_in}
use Rattle.nand_geometry.specs.Limits.{planes}
use Rattle.nand_geometry.specs.Page.{parameter_bytes}
use Rattle.onfi_cycle.specs.declared.tail_facts.TailFacts.{TailFacts}
use Rattle.micro_verify.specs.declared.showing.Counter.{Counter as Counted}
use Rattle.micro_verify.specs.Cause.{begins_wrong, wants_identity}
use Rattle.micro_verify.specs.Calm.{calm_words, counter_after}

-- what a move of the code means
abbrev pub meant : Told → Move
meant (Commands byte) = Give Cmd byte
meant (Addresses byte) = Give Adr byte
meant (Input byte) = Give Din byte
meant Output = Take

-- ---- what the words done have set

abbrev pub fresh_registers : Registers
fresh_registers = record { column = 0; plane = 0; index = 0; place = 0 }

abbrev pub registers_after : Registers → Word → Registers
registers_after r (Column n) = record r { column = n }
registers_after r (Plane n) = record r { plane = n }
registers_after r (Row n) = record r { index = n }
registers_after r (RowAdd n) = record r { index = r.index + n }
registers_after r (Seek n) = record r { place = n }
registers_after r (Get n) = record r { place = r.place + n }
registers_after r (Put n) = record r { place = r.place + n }
registers_after r _ = r

-- the registers are what the words done have set, from base 0 on
pub record IsSet (r : Registers) (done : List Past) : Type 0 where
  pub column : r.column ≡ column_now done
  pub plane : r.plane ≡ plane_now done
  pub index : r.index ≡ index_now 0 done
  pub place : r.place ≡ place_now done

-- they are small after so many words
pub record IsSmall (r : Registers) (count : ℕ) : Type 0 where
  pub few_rows : r.index ≤ 65535 * count
  pub few_bytes : r.place ≤ 16777215 * count

-- ---- the cycles of a word

-- C1 C2 R1 R2 R3; where the last byte that is wanted is one of the column, the row's are 0
abbrev pub five_told : Parts → Registers → (last : ℕ) → Option (List ℕ)
five_told g r last =
    if nat_le last 2 then Some (column_bytes r.column ++ (0 ∷ (0 ∷ (0 ∷ []))))
    else and_then (row_bytes_of g 0 r.index r.plane) (λ row. Some (column_bytes r.column ++ row))

-- what a word moves on a target of one LUN; nothing is told where its row isn't there, or its bytes aren't
abbrev pub moves_told : Parts → Registers → List ℕ → Word → Option (List Told)
moves_told g r buffer (Command byte) = Some (Commands byte ∷ [])
moves_told g r buffer (Address from count) = and_then (five_told g r (from + count)) (λ five. Some (map Addresses (part from count five)))
moves_told g r buffer (Get len) = Some (replicate len Output)
moves_told g r buffer (Put len) = if nat_le (r.place + len) (length buffer) then Some (map Input (part r.place len buffer)) else None
moves_told g r buffer Wait = Some (Commands 0x70 ∷ (Output ∷ []))
moves_told g r buffer ReadStatus = Some (Commands 0x70 ∷ (Output ∷ []))
moves_told g r buffer _ = Some []

-- an address is a part of five bytes
abbrev pub IsOfFive : Word → Type 0
IsOfFive (Address from count) = from + count ≤ 5
IsOfFive _ = Unit {0}

-- ---- playing moves on a bus

-- a byte is given, none is taken
abbrev pub IsGiven : Told → Type 0
IsGiven Output = ⊥
IsGiven told = Unit {0}

abbrev pub with_bytes : List ℕ → Played → Option Played
with_bytes bytes p = Some (record { past = p.past; bytes = bytes ++ p.bytes })

-- the move was played, and brought these bytes; or it isn't permitted, and nothing has happened
abbrev pub HasGone : (old new : Traced) → Move → (before after : List ℕ) → Bool → Type 0
HasGone old new move before after true =
    (broken old.geometry old.targets old.past (item_of move) ≡ None)
    × (channel_of new ≡ channel_of old)
    × ((got : List ℕ) × (played (channel_of old) 0 (move ∷ []) old.past ≡ Some (record { past = new.past; bytes = got })) × (after ≡ before ++ got))
HasGone old new move before after false = (is_none (broken old.geometry old.targets old.past (item_of move)) ≡ false) × (new ≡ old)

-- the moves were played up to their end, and brought these bytes; or up to one that isn't permitted
abbrev pub HasCome : (old new : Traced) → List Move → List ℕ → Option Cycle → Type 0
HasCome old new moved bytes None =
    (counter_in (channel_of old) moved old.past ≡ None) × (played (channel_of old) 0 moved old.past ≡ Some (record { past = new.past; bytes = bytes }))
HasCome old new moved bytes (Some stop) = counter_in (channel_of old) moved old.past ≡ Some (record { items = reverse new.past; cycle = Cyc stop })

pub record HasPlayed (old new : Traced) (moved : List Move) (bytes : List ℕ) (stop : Option Cycle) : Type 0 where
  pub same : channel_of new ≡ channel_of old
  pub come : HasCome old new moved bytes stop

-- ---- performing a word

-- what the bytes that a word brought make of the buffer
abbrev pub stored : Word → ℕ → List ℕ → List ℕ → List ℕ
stored (Get len) place bytes buffer = written bytes place buffer
stored word place bytes buffer = buffer

-- after the ready that a `wait` comes after, its cycles have come so far
abbrev pub Comes : (old new : Traced) → Word → List Told → List ℕ → Option Cycle → Type 0
Comes old new word told bytes None =
    (counter_in (channel_of old) (map meant told) (awaited old.geometry old.past word) ≡ None)
    × (played (channel_of old) 0 (map meant told) (awaited old.geometry old.past word) ≡ Some (record { past = new.past; bytes = bytes }))
Comes old new word told bytes (Some stop) =
    counter_in (channel_of old) (map meant told) (awaited old.geometry old.past word) ≡ Some (record { items = reverse new.past; cycle = Cyc stop })

abbrev pub HasPerformed : (old new : Traced) → Registers → (buffer later : List ℕ) → Word → Outcome → Type 0
HasPerformed old new r buffer later word Missing = moves_told old.geometry r buffer word ≡ None
HasPerformed old new r buffer later word (Stopped stop) =
    (told : List Told) × (moves_told old.geometry r buffer word ≡ Some told) × Comes old new word told [] (Some stop)
HasPerformed old new r buffer later word Done =
    (told : List Told) × (bytes : List ℕ) × (moves_told old.geometry r buffer word ≡ Some told) × Comes old new word told bytes None × (later ≡ stored word r.place bytes buffer)

-- ---- performing words, one after another

-- a bus, registers and a buffer stand where a run does
pub record IsAt (s : Channel) (j : Job) (b : Traced) (r : Registers) (now : List ℕ) (run : Run) : Type 0 where
  pub channel : channel_of b ≡ s
  pub past : b.past ≡ run.past
  pub set : IsSet r run.done
  pub buffer : now ≡ buffer_now j.buffer run.done

-- a job from row 0 on, on the only LUN of a channel
pub record IsLoneJob (s : Channel) (j : Job) : Type 0 where
  pub lun : j.lun ≡ the_lun
  pub base : j.base ≡ 0
  pub one : s.geometry.luns ≡ 1
  pub target : s.targets ≡ 1

-- all words were performed, each of their cycles being permitted; or not all
abbrev pub HasRun : Channel → Job → Traced → List ℕ → List Word → Option Registers → Type 0
HasRun s j b buffer words (Some r) = (run : Run) × (calm_words s j words new_run ≡ Some run) × IsAt s j b r buffer run
HasRun s j b buffer words None = calm_words s j words new_run ≡ None

-- the same of each job that stands at its beginning
abbrev pub HasRunFrom : (old new : Traced) → (buffer later : List ℕ) → List Word → Option Registers → Type 0
HasRunFrom old new buffer later words o =
    (s : Channel) (j : Job) → IsLoneJob s j → IsAt s j old fresh_registers buffer new_run → HasRun s j new later words o

-- ---- words whose bytes may not be there

abbrev pub is_outside_told : Parts → ℕ → Registers → Bool
is_outside_told g rows r = nat_le rows r.index || nat_le (planes g) r.plane

abbrev pub lacks_told : Parts → (rows buffer : ℕ) → TailFacts → Registers → Word → Bool
lacks_told g rows buffer tail r (Address from count) =
    begins_wrong tail from count || (nat_lt 2 (from + count) && is_outside_told g rows r) || (wants_identity tail && nat_lt 1 from)
lacks_told g rows buffer tail r (Put len) = not (nat_le (r.place + len) buffer)
lacks_told g rows buffer tail r word = false

-- ---- the counter

-- a new bus of one LUN
pub record IsNewBus (b : Traced) (g : Parts) : Type 0 where
  pub channel : channel_of b ≡ lone_channel g (parameter_bytes g)
  pub past : b.past ≡ []

-- the code tells this counter
abbrev pub Shown : {A : Type 0} → Option (Counted A) → Option Counter → Type 0
Shown None counter = counter ≡ None
Shown (Some c) counter = (c.base ≡ 0) × (counter ≡ Some (record { items = c.items.items; cycle = Cyc c.cycle }))

-- the counter of a word, for each run that stands where a bus, registers and a buffer do
abbrev pub ShownAfter : {A : Type 0} → Traced → Registers → List ℕ → (rows limit : ℕ) → Word → Option (Counted A) → Type 0
ShownAfter b r buffer rows limit word o =
    (s : Channel) (j : Job) (run : Run) → IsLoneJob s j → IsAt s j b r buffer run → rows ≡ j.text.rows → limit ≡ j.text.buffer → Shown o (counter_after s j run word)
