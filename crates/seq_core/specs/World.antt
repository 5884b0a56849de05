-- A channel whose LUNs have slots, each for one program in progress.
use Rattle.std.specs.Prelude.{ℕ, ◌+◌, ◌*◌, if◌then◌else◌, List, [], Option, None, get_or, set, replicate}
use Rattle.onfi_cycle.specs.declared.lun.Lun.{Lun}
use Rattle.onfi_cycle.specs.declared.item.Item.{Item}
use Rattle.onfi_cycle.specs.Channel.{Channel, is_there}
use Rattle.micro_program.specs.Lines.{Line, unrolled}
use Rattle.micro_program.specs.Program.{Job, Done}

-- a job with its lines to come and its words done, and the code with which it ended, if it has
pub record Slot : Type 0 where
  pub job : Job
  pub ahead : List Line
  pub done : List Done
  pub code : Option ℕ

-- the trace, the slots of all LUNs, those of target 0 first, and the LUN whose slot has the bus
pub record World : Type 0 where
  pub past : List Item
  pub slots : List (Option Slot)
  pub holder : Option Lun

-- the place of a LUN among all LUNs of the channel
abbrev pub number : Channel → Lun → ℕ
number s l = l.ce * s.geometry.luns + l.lun

-- the slot of a LUN; one that isn't there is as an empty slot
abbrev pub slot_of : Channel → World → Lun → Option Slot
slot_of s w l = if is_there s l then get_or w.slots (number s l) None else None

-- the slots with another one at a LUN
abbrev pub with_slot : Channel → List (Option Slot) → Lun → Option Slot → List (Option Slot)
with_slot s slots l slot = set slots (number s l) slot

-- a job before its first word
abbrev pub fresh_slot : Job → Slot
fresh_slot j = record { job = j; ahead = unrolled j.text.words; done = []; code = None }

-- an empty trace, empty slots, and nobody has the bus
abbrev pub fresh : Channel → World
fresh s = record { past = []; slots = replicate (s.targets * s.geometry.luns) None; holder = None }
