-- Where a history began: on which channel, and with which queue.
use Rattle.std.specs.Prelude.{◌≡◌, ℕ, ⊤, List, Option, Some, None}
use Rattle.atomic_table.specs.Seated.{TableId}
use Rattle.nand_geometry.specs.declared.parts.Parts.{Parts}
use Rattle.micro_program.specs.Program.{Job}
use Rattle.target_bus.specs.Bus.{Entries, channel_on}
use Rattle.seq_core.specs.Shows.{CoreView, channel_in}
use Rattle.job_queue.specs.Passes.{Taking}

-- the channel, with what its dies kept of their pages before anything had happened, and the queue from which its jobs come
pub record Origin : Type 0 where
  pub geometry : Parts
  pub targets : ℕ
  pub opened : List Entries
  pub table : TableId
  pub hosts : ℕ

-- the sequencer is of this channel, and the taker of this queue
pub record IsOf (o : Origin) (core : CoreView) (taker : Taking Job) : Type 0 where
  pub channel : channel_in core ≡ channel_on o.geometry o.targets o.opened
  pub table : taker.table ≡ o.table
  pub hosts : taker.hosts ≡ o.hosts

-- the sequencer and the taker of a history that began here; where nobody tells, it may have begun anywhere
abbrev pub IsFrom : Option Origin → CoreView → Taking Job → Type 0
IsFrom None core taker = ⊤
IsFrom (Some o) core taker = IsOf o core taker
