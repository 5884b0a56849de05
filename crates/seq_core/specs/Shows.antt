-- What a sequencer keeps, and of which worlds it is: the model's progress told from places and registers.
use Rattle.std.specs.Prelude.{◌≡◌, ℕ, List, [], ◌∷◌, Option, Some, None}
use Rattle.nand_geometry.specs.declared.parts.Parts.{Parts}
use Rattle.onfi_cycle.specs.declared.lun.Lun.{Lun}
use Rattle.onfi_cycle.specs.declared.item.Item.{Item}
use Rattle.onfi_cycle.specs.Channel.{Channel}
use Rattle.target_bus.specs.Bus.{Entries, channel_on}
use Rattle.micro_program.specs.Places.{IsShaped}
use Rattle.micro_program.specs.Program.{buffer_now, column_now, plane_now, index_now, place_now, status_now}
use Rattle.seq_core.specs.World.{Slot, World}
use Rattle.seq_core.specs.Loops.{StandsAt}
use Rattle.seq_core.specs.Progress.{Progress, stopped}

-- what the dies kept of their pages at the opening, the trace, what each LUN runs, those of target 0 first, and the LUN that has the bus
pub record CoreView : Type 0 where
  pub geometry : Parts
  pub targets : ℕ
  pub opened : List Entries
  pub past : List Item
  pub slots : List (Option Progress)
  pub holder : Option Lun

-- the channel of a sequencer
abbrev pub channel_in : CoreView → Channel
channel_in c = channel_on c.geometry c.targets c.opened

-- a slot is kept so: the lines to come are those at its place in its loops, and each register is what the words done have set
pub record KeepsSlot (x : Slot) (v : Progress) : Type 0 where
  pub job : v.job ≡ record x.job { buffer = buffer_now x.job.buffer x.done }
  pub shaped : IsShaped x.job.text.words
  pub place : StandsAt x.job.text.words x.ahead v.at v.loops
  pub column : v.registers.column ≡ column_now x.done
  pub index : v.registers.index ≡ stopped (index_now x.job.base x.done)
  pub plane : v.registers.plane ≡ plane_now x.done
  pub buffer_place : v.registers.place ≡ place_now x.done
  pub status : v.registers.status ≡ status_now x.done
  pub code : v.code ≡ x.code

-- a LUN with a job, or without one
abbrev pub Keeps : Option Slot → Option Progress → Type 0
Keeps None None = Unit {0}
Keeps None (Some v) = ⊥
Keeps (Some x) None = ⊥
Keeps (Some x) (Some v) = KeepsSlot x v

abbrev pub KeepsAll : List (Option Slot) → List (Option Progress) → Type 0
KeepsAll [] [] = Unit {0}
KeepsAll [] (v ∷ vs) = ⊥
KeepsAll (x ∷ xs) [] = ⊥
KeepsAll (x ∷ xs) (v ∷ vs) = Keeps x v × KeepsAll xs vs

-- this world is what is kept
pub record IsAt (c : CoreView) (w : World) : Type 0 where
  pub past : c.past ≡ w.past
  pub holder : c.holder ≡ w.holder
  pub slots : KeepsAll w.slots c.slots
