-- What playing moves does to a bus.
use Rattle.std.specs.Prelude.{◌≡◌, ℕ, ◌+◌, ◌≤◌, false, List, [], ◌∷◌, Some}
use Rattle.onfi_cycle.specs.declared.lun.Lun.{Lun}
use Rattle.onfi_cycle.specs.declared.item.Kind.{Kind}
use Rattle.onfi_cycle.specs.declared.item.Kind.TheVariants.{Adr}
use Rattle.onfi_cycle.specs.Channel.{cycle}
use Rattle.onfi_cycle.specs.Readies.{starts_work}
use Rattle.micro_word.specs.declared.word.Word.{Word}
use Rattle.micro_word.specs.declared.word.Word.TheVariants.{Address}
use Rattle.micro_program.specs.Moves.{Move, gives, part}
use Rattle.micro_program.specs.Safe.{MovesAreOwn}
use Rattle.target_bus.specs.Bus.{Traced, channel_of, is_output}
use Rattle.seq_core.specs.declared.registers.Registers.{Registers}
use Rattle.seq_core.specs.Progress.{five_bytes, poll_at}
use Rattle.seq_core.specs.Calls.{Plays}

-- an address is one of the five bytes
abbrev pub EndsWithFive : Word → Type 0
EndsWithFive (Address from count) = from + count ≤ 5
EndsWithFive _ = Unit {0}

-- the cycle is no output and starts no work
pub record IsQuiet (ce : ℕ) (kind : Kind) (byte : ℕ) : Type 0 where
  pub given : is_output kind ≡ false
  pub starts_none : starts_work (cycle ce kind byte) ≡ false

-- no cycle of this kind starts work
abbrev pub KeepsQuiet : ℕ → Kind → Type 0
KeepsQuiet ce kind = (byte : ℕ) → IsQuiet ce kind byte

-- the same channel
abbrev pub IsSame : Traced → Traced → Type 0
IsSame old new = channel_of new ≡ channel_of old

-- the same channel, and nothing has happened on it
pub record IsUntouched (old new : Traced) : Type 0 where
  pub same : IsSame old new
  pub opened : new.opened ≡ old.opened
  pub past : new.past ≡ old.past

-- these moves were played on a target and took these bytes, and no more than so many places were spent
pub record HasPlayed (old new : Traced) (ce : ℕ) (moved : List Move) (bytes : List ℕ) (spent : ℕ) : Type 0 where
  pub same : IsSame old new
  pub plays : Plays (channel_of old) ce moved old.past new.past bytes
  pub room : old.room ≤ new.room + spent

-- a status poll is there, and is the LUN's own
pub record CanPoll (b : Traced) (l : Lun) : Type 0 where
  pub moved : List Move
  pub is_moved : poll_at b.geometry l.lun ≡ Some moved
  pub own : MovesAreOwn (channel_of b) l moved b.past

-- a poll was played, and brought this status
pub record HasPolled (old new : Traced) (ce : ℕ) (moved : List Move) (status : ℕ) : Type 0 where
  pub same : IsSame old new
  pub plays : Plays (channel_of old) ce moved old.past new.past (status ∷ [])

-- a part of an address is there, and is the LUN's own
pub record CanAddress (b : Traced) (l : Lun) (r : Registers) (from count : ℕ) : Type 0 where
  pub five : List ℕ
  pub is_five : five_bytes b.geometry l.lun r (from + count) ≡ Some five
  pub own : MovesAreOwn (channel_of b) l (gives Adr (part from count five)) b.past

-- a part of an address was played
pub record HasAddressed (old new : Traced) (l : Lun) (r : Registers) (from count : ℕ) : Type 0 where
  pub same : IsSame old new
  pub five : List ℕ
  pub is_five : five_bytes old.geometry l.lun r (from + count) ≡ Some five
  pub plays : Plays (channel_of old) l.ce (gives Adr (part from count five)) old.past new.past []
