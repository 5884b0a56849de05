-- What a call of a sequencer is: an event of the world that it keeps.
use Rattle.std.specs.Prelude.{◌≡◌, ℕ, ◌≤◌, Bool, true, false, ◌&&◌, not, if◌then◌else◌, List, ◌∷◌, Option, Some, None, is_some, length, slice_get, get_or, set}
use Rattle.std.specs.List.{list_all}
use Rattle.nand_geometry.specs.declared.parts.Parts.{Parts}
use Rattle.onfi_cycle.specs.declared.lun.Lun.{Lun}
use Rattle.onfi_cycle.specs.declared.item.Item.{Item}
use Rattle.onfi_cycle.specs.Channel.{Channel, IsChannel, is_there, same_lun}
use Rattle.micro_word.specs.declared.word.Word.{Word}
use Rattle.micro_program.specs.Program.{Job, fits}
use Rattle.micro_program.specs.Moves.{Move}
use Rattle.micro_program.specs.Played.{played}
use Rattle.micro_program.specs.Safe.{MovesAreOwn}
use Rattle.seq_core.specs.declared.load_fault.LoadFault.{LoadFault}
use Rattle.seq_core.specs.declared.load_fault.LoadFault.TheVariants.{SlotTaken, OtherLun, OtherGeometry}
use Rattle.seq_core.specs.declared.stepped.Stepped.{Stepped}
use Rattle.seq_core.specs.declared.stepped.Stepped.TheVariants.{Ended, HandedOver, NotReady, Went}
use Rattle.seq_core.specs.declared.registers.Registers.{Registers}
use Rattle.seq_core.specs.declared.slot_state.SlotState.{SlotState}
use Rattle.seq_core.specs.declared.slot_state.SlotState.TheVariants as state
use Rattle.seq_core.specs.World.{World, number}
use Rattle.seq_core.specs.Event.{Event}
use Rattle.seq_core.specs.Reply.{Reply}
use Rattle.seq_core.specs.After.{After, after, is_held, same_parts}
use Rattle.seq_core.specs.Lawful.{LawfulWorld, has_bus}
use Rattle.seq_core.specs.Headline.{AddsItsOwn}
use Rattle.seq_core.specs.Loops.{loops_behind}
use Rattle.seq_core.specs.Progress.{Progress, moves_at, buffer_behind, status_of, outcome_of, progress_after}
use Rattle.seq_core.specs.Shows.{CoreView, channel_in, IsAt}

-- what always holds of a sequencer: it keeps a lawful world of its channel
pub record IsCore (c : CoreView) : Type 0 where
  pub is_channel : IsChannel (channel_in c)
  pub world : World
  pub is_at : IsAt c world
  pub lawful : LawfulWorld (channel_in c) world

-- the event of this world that a call was: it is defined, answered so and adds to the trace what is its own; the world behind
-- it is lawful, and is what is kept afterwards
pub record Came (c : CoreView) (w : World) (e : Event) (reply : Reply) (later : CoreView) : Type 0 where
  pub next : After
  pub is_next : after (channel_in c) w e ≡ Some next
  pub replied : next.reply ≡ reply
  pub is_at : IsAt later next.world
  pub own : AddsItsOwn (channel_in c) e w.past next.world.past
  pub lawful : LawfulWorld (channel_in c) next.world
  pub channel : channel_in later ≡ channel_in c

-- a call was this event of each lawful world that was kept
abbrev pub IsEvent : CoreView → Event → Reply → CoreView → Type 0
IsEvent c e reply later = (w : World) → IsAt c w → LawfulWorld (channel_in c) w → Came c w e reply later

-- what is kept of a LUN; one that isn't there is as an empty slot
abbrev pub slot_at : CoreView → Lun → Option Progress
slot_at c l = if is_there (channel_in c) l then get_or c.slots (number (channel_in c) l) None else None

-- the moves of a word are there, each is permitted and its LUN's own, and the word stays inside the buffer
pub record CanPlay (s : Channel) (past : List Item) (l : Lun) (buffer : List ℕ) (r : Registers) (word : Word) : Type 0 where
  pub moved : List Move
  pub is_moved : moves_at s.geometry l.lun buffer r word ≡ Some moved
  pub own : MovesAreOwn s l moved past
  pub inside : fits (length buffer) r.place word ≡ true

-- there is a next word, it can be played, and loops stay four deep at most
pub record CanStep (s : Channel) (past : List Item) (v : Progress) : Type 0 where
  pub word : Word
  pub here : slice_get v.job.text.words v.at ≡ Some word
  pub can : CanPlay s past v.job.lun v.job.buffer v.registers word
  pub room : length (loops_behind v.at v.loops word) ≤ 4

-- these moves make of the trace the later one, and take these bytes
abbrev pub Plays : Channel → ℕ → List Move → List Item → List Item → List ℕ → Type 0
Plays s ce moved past later bytes = played s ce moved past ≡ Some (record { past = later; bytes = bytes })

-- a word was played: what it made of the trace and of the buffer, and the status that it brought
pub record DidPlay (s : Channel) (past : List Item) (l : Lun) (buffer : List ℕ) (r : Registers) (word : Word) (later : List Item) (left : List ℕ) (status : ℕ) : Type 0 where
  pub moved : List Move
  pub is_moved : moves_at s.geometry l.lun buffer r word ≡ Some moved
  pub bytes : List ℕ
  pub plays : Plays s l.ce moved past later bytes
  pub buffer_is : left ≡ buffer_behind r.place word bytes buffer
  pub status_is : status ≡ status_of word bytes

-- the next word was played on the trace, and left this of the slot
pub record Steps (s : Channel) (past : List Item) (v : Progress) (answer : Stepped) (later : List Item) (u : Progress) : Type 0 where
  pub word : Word
  pub here : slice_get v.job.text.words v.at ≡ Some word
  pub moved : List Move
  pub is_moved : moves_at s.geometry v.job.lun.lun v.job.buffer v.registers word ≡ Some moved
  pub bytes : List ℕ
  pub plays : Plays s v.job.lun.ce moved past later bytes
  pub slot_is : u ≡ progress_after v word bytes
  pub answer_is : answer ≡ outcome_of word (status_of word bytes)

-- the LUN that has the bus after a step of this one
abbrev pub holder_after : Stepped → Lun → Option Lun
holder_after Went l = Some l
holder_after _ l = None

-- what the answer of a step tells of the bus: a LUN that went has it, and one that handed over, wasn't ready or has ended hasn't
abbrev pub TellsBus : Stepped → Option Lun → Lun → Type 0
TellsBus Went holder l = has_bus holder l ≡ true
TellsBus HandedOver holder l = has_bus holder l ≡ false
TellsBus NotReady holder l = has_bus holder l ≡ false
TellsBus Ended holder l = has_bus holder l ≡ false
TellsBus _ holder l = Unit {0}

-- what is kept after such a step of this LUN
abbrev pub stepped_view : CoreView → Lun → Stepped → List Item → Progress → CoreView
stepped_view c l answer past u =
    record { geometry = c.geometry; targets = c.targets; opened = c.opened; past = past; slots = set c.slots (number (channel_in c) l) (Some u); holder = holder_after answer l }

-- the first fault of a load onto a LUN that has a job or not, and is there or not
abbrev pub fault_by : (has_job there : Bool) → Lun → Lun → Parts → Parts → Option LoadFault
fault_by has_job there l at g h =
    if has_job then Some SlotTaken else (if not (there && same_lun l at) then Some OtherLun else (if not (same_parts g h) then Some OtherGeometry else None))

-- the first fault of a load, by what is kept
abbrev pub load_fault_at : CoreView → Lun → Job → Option LoadFault
load_fault_at c l j = fault_by (is_some (slot_at c l)) (is_there (channel_in c) l) l j.lun c.geometry j.geometry

-- what is kept with another slot at a LUN
abbrev pub with_slot_at : CoreView → Lun → Option Progress → CoreView
with_slot_at c l slot = record { geometry = c.geometry; targets = c.targets; opened = c.opened; past = c.past; slots = set c.slots (number (channel_in c) l) slot; holder = c.holder }

-- what is kept with one item more, if it came
abbrev pub with_item : CoreView → Item → Bool → CoreView
with_item c i came = record { geometry = c.geometry; targets = c.targets; opened = c.opened; past = if came then i ∷ c.past else c.past; slots = c.slots; holder = c.holder }

-- what a job is, by the code that it has ended with, if it has
abbrev pub state_of : Option ℕ → SlotState
state_of None = state.Running
state_of (Some code) = state.Ended code

-- what a slot holds
abbrev pub slot_state : Option Progress → SlotState
slot_state None = state.Empty
slot_state (Some v) = state_of v.code

-- the slot has a job
abbrev pub has_job : SlotState → Bool
has_job state.Empty = false
has_job state.Running = true
has_job (state.Ended code) = true

-- no slot has a job
abbrev pub all_are_empty : List (Option Progress) → Bool
all_are_empty slots = list_all (λ slot. not (is_some slot)) slots

-- a LUN has a program that goes on, and no other LUN has the bus: its next word can be stepped
pub record CanGoOn (c : CoreView) (l : Lun) : Type 0 where
  pub running : state.Running ≡ slot_state (slot_at c l)
  pub free : is_held c.holder l ≡ false

-- an event would be answered so
pub record WouldAnswer (c : CoreView) (e : Event) (reply : Reply) : Type 0 where
  pub later : CoreView
  pub event : IsEvent c e reply later
