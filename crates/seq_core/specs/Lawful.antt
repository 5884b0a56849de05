-- The lawful world: what each event keeps.
use Rattle.std.specs.Prelude.{◌≡◌, ℕ, ◌==◌, ◌*◌, ◌≤◌, Bool, true, false, List, ◌∷◌, ◌++◌, Option, Some, None, length}
use Rattle.onfi_cycle.specs.declared.lun.Lun.{Lun}
use Rattle.onfi_cycle.specs.declared.item.Item.{Item}
use Rattle.onfi_cycle.specs.Permitted.{is_legal}
use Rattle.onfi_cycle.specs.Channel.{Channel, IsIdle, is_there, is_open_on, same_lun}
use Rattle.micro_word.specs.declared.word.Word.TheVariants.{End}
use Rattle.micro_program.specs.Program.{Done, Answer, Nothing, buffer_now, all_fit, cost_now}
use Rattle.micro_program.specs.Actions.{acts, acts_from, answers_of, actions_of}
use Rattle.micro_program.specs.Safe.{Reaches, IsMade, StaysFine}
use Rattle.seq_core.specs.World.{Slot, World, slot_of}
use Rattle.seq_core.specs.Buffer.{KeepsOthers}

-- the program of a slot has stayed inside its buffer, of which it has changed nothing but what its `get`s fill, and inside its budget
pub record IsWithin (s : Channel) (x : Slot) : Type 0 where
  pub inside : all_fit x.job.text.buffer x.done ≡ true
  pub others : KeepsOthers x.done x.job.buffer (buffer_now x.job.buffer x.done)
  pub budget : cost_now s.geometry x.done ≤ x.job.text.budget

-- a program that goes on is at a seat that its job reaches; where it has ended its LUN is idle and hasn't the bus
abbrev pub HasSeat : Channel → List Item → Bool → Slot → Option ℕ → Type 0
HasSeat s past holding x None = Reaches s x.job (record { past = past; ahead = x.ahead; done = x.done; holding = holding })
HasSeat s past holding x (Some code) = IsIdle s.geometry past x.job.lun × (holding ≡ false)

-- a program that has ended with a code: its last word was that `end`, and its actions are all that its text means
pub record HasEnded (s : Channel) (x : Slot) (code : ℕ) : Type 0 where
  pub before : List Done
  pub last : x.done ≡ record { word = End code; answer = Nothing } ∷ before
  pub all : (more : List Answer) → acts s.geometry x.job (answers_of x.done ++ more) ≡ actions_of s.geometry x.job x.done

-- what a program has done is a beginning of what its text means: whatever answers are still to come, the actions of the job
-- are those done and then those of the lines to come
abbrev pub DoesItsText : Channel → Slot → Option ℕ → Type 0
DoesItsText s x None =
    (more : List Answer) → acts s.geometry x.job (answers_of x.done ++ more) ≡ actions_of s.geometry x.job x.done ++ acts_from s.geometry x.job None x.ahead x.done more
DoesItsText s x (Some code) = HasEnded s x code

-- a slot with a job: the job is of this LUN, was checked when it was made, stays fine, does its text, and is at its seat
pub record LawfulSlot (s : Channel) (past : List Item) (holding : Bool) (l : Lun) (x : Slot) : Type 0 where
  pub lun : x.job.lun ≡ l
  pub made : IsMade x.job
  pub safe : StaysFine s x.job
  pub within : IsWithin s x
  pub text : DoesItsText s x x.code
  pub seat : HasSeat s past holding x x.code

-- a LUN without a job is idle and hasn't the bus
abbrev pub LawfulAt : Channel → List Item → Bool → Lun → Option Slot → Type 0
LawfulAt s past holding l None = IsIdle s.geometry past l × (holding ≡ false)
LawfulAt s past holding l (Some x) = LawfulSlot s past holding l x

-- this LUN has the bus
abbrev pub has_bus : Option Lun → Lun → Bool
has_bus None l = false
has_bus (Some m) l = same_lun m l

-- some LUN of this target has the bus
abbrev pub has_bus_on : Option Lun → ℕ → Bool
has_bus_on None ce = false
has_bus_on (Some m) ce = m.ce == ce

-- the trace is legal, each LUN has a slot and is lawful, only a LUN of the channel has the bus, and only on its target a sequence
-- may be open
pub record LawfulWorld (s : Channel) (w : World) : Type 0 where
  pub legal : is_legal s.geometry s.targets w.past ≡ true
  pub size : length w.slots ≡ s.targets * s.geometry.luns
  pub slots : (l : Lun) → is_there s l ≡ true → LawfulAt s w.past (has_bus w.holder l) l (slot_of s w l)
  pub holder : (l : Lun) → w.holder ≡ Some l → is_there s l ≡ true
  pub closed : (ce : ℕ) → has_bus_on w.holder ce ≡ false → is_open_on w.past ce ≡ false
