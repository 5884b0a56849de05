-- What running a program to its end does to a sequencer.
use Rattle.std.specs.Prelude.{◌≡◌, ℕ, suc, Bool, if◌then◌else◌, List, ◌++◌, Some, reverse}
use Rattle.onfi_cycle.specs.declared.item.Item.{Item}
use Rattle.onfi_cycle.specs.Channel.{Channel}
use Rattle.micro_program.specs.Program.{Job}
use Rattle.seq_core.specs.World.{Slot, World, slot_of, fresh}
use Rattle.seq_core.specs.Event.{Load}
use Rattle.seq_core.specs.Reply.{ToLoad, Loaded}
use Rattle.seq_core.specs.After.{after}
use Rattle.seq_core.specs.Lawful.{LawfulWorld}
use Rattle.seq_core.specs.Shows.{CoreView, IsAt, channel_in}
use Rattle.seq_core.specs.Alone.{alone_on}
use Rattle.trace_text.specs.Line.{text}
use Rattle.seq_inputs.specs.Lines.{end_line}
use Rattle.run_once.specs.Once.{one_lun, the_lun, the_channel}

-- a turn was taken: from whatever lawful world was kept, a lawful world is kept from which the program goes on, or in which it has ended
pub record Turned (s : Channel) (world behind : World) (ended : Bool) : Type 0 where
  pub lawful : LawfulWorld s behind
  pub goes : (turns : ℕ) → alone_on s the_lun (suc turns) world ≡ (if ended then Some behind else alone_on s the_lun turns behind)

abbrev pub TookTurn : CoreView → Bool → CoreView → Type 0
TookTurn c ended later =
    (world : World) → IsAt c world → LawfulWorld (channel_in c) world → (behind : World) × IsAt later behind × Turned (channel_in c) world behind ended × (channel_in later ≡ channel_in c)

-- in the world that is kept the program ends in so many turns
pub record EndsWithin (c : CoreView) (turns : ℕ) : Type 0 where
  pub world : World
  pub is_at : IsAt c world
  pub lawful : LawfulWorld (channel_in c) world
  pub end : World
  pub is_end : alone_on (channel_in c) the_lun turns world ≡ Some end

-- the program has ended: from whatever lawful world was kept, the world in which it ends is kept, and is lawful
abbrev pub HasRun : CoreView → ℕ → CoreView → Type 0
HasRun c turns later =
    (world end : World) → IsAt c world → LawfulWorld (channel_in c) world → alone_on (channel_in c) the_lun turns world ≡ Some end → IsAt later end × LawfulWorld (channel_in c) end × (channel_in later ≡ channel_in c)

-- the job is one for the LUN
pub record IsForTheLun (j : Job) : Type 0 where
  pub lun : j.lun ≡ the_lun
  pub geometry : j.geometry ≡ one_lun

-- the job was loaded, and nothing else has happened
pub record IsLoaded (j : Job) (c : CoreView) : Type 0 where
  pub channel : channel_in c ≡ the_channel
  pub start : World
  pub is_at : IsAt c start
  pub lawful : LawfulWorld the_channel start
  pub is_start : after the_channel (fresh the_channel) (Load the_lun j) ≡ Some (record { world = start; reply = ToLoad Loaded })

-- the job was loaded and ran alone to its end: what has happened, and the code
pub record RanAlone (j : Job) (past : List Item) (code : ℕ) : Type 0 where
  pub start : World
  pub is_start : after the_channel (fresh the_channel) (Load the_lun j) ≡ Some (record { world = start; reply = ToLoad Loaded })
  pub turns : ℕ
  pub end : World
  pub is_end : alone_on the_channel the_lun turns start ≡ Some end
  pub lawful : LawfulWorld the_channel end
  pub past_is : past ≡ end.past
  pub slot : Slot
  pub is_slot : slot_of the_channel end the_lun ≡ Some slot
  pub is_code : slot.code ≡ Some code

-- the lines are those of the trace of such a run, in the order of time, and of its code
pub record TellsRun (j : Job) (lines : List ℕ) : Type 0 where
  pub past : List Item
  pub code : ℕ
  pub is_run : RanAlone j past code
  pub lines_are : lines ≡ text (reverse past) ++ end_line code
