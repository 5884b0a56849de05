-- The bursts of a word: what is to be done on the pins, one after another.
use Rattle.std.specs.Prelude.{ℕ, ◌+◌, ◌≤◌, nat_lt, Bool, true, false, if◌then◌else◌, List, [], ◌∷◌, ◌++◌, Option, Some, replicate}
use Rattle.nand_geometry.specs.declared.parts.Parts.{Parts}
use Rattle.nand_geometry.specs.Row.{row_bytes_of}
use Rattle.onfi_cycle.specs.declared.item.Kind.TheVariants.{Cmd, Adr, Din}
use Rattle.onfi_cycle.specs.declared.lun.Lun.{Lun}
use Rattle.micro_word.specs.declared.word.Word.{Word}
use Rattle.micro_word.specs.declared.word.Word.TheVariants as word
use Rattle.micro_program.specs.Moves.{Move, Give, Take, and_then, gives, part}
use Rattle.seq_core.specs.declared.registers.Registers.{Registers}
use Rattle.seq_core.specs.Progress.{five_bytes}
use Rattle.seq_live.specs.declared.burst.Burst.{Burst}
use Rattle.seq_live.specs.declared.burst.Burst.TheVariants.{Command, Address, Input, Output}

-- what a burst moves, of a job with this buffer
abbrev pub moves_of : List ℕ → Burst → List Move
moves_of buffer (Command ce byte) = Give Cmd byte ∷ []
moves_of buffer (Address ce five from count) = gives Adr (part from count five)
moves_of buffer (Input ce place len) = gives Din (part place len buffer)
moves_of buffer (Output ce len) = replicate len Take

abbrev pub all_moves : List ℕ → List Burst → List Move
all_moves buffer [] = []
all_moves buffer (b ∷ bursts) = moves_of buffer b ++ all_moves buffer bursts

-- an address is of the five bytes, and inputs are of the buffer
abbrev pub BurstFits : ℕ → Burst → Type 0
BurstFits buffer (Command ce byte) = Unit {0}
BurstFits buffer (Address ce five from count) = from + count ≤ 5
BurstFits buffer (Input ce place len) = place + len ≤ buffer
BurstFits buffer (Output ce len) = Unit {0}

abbrev pub AllFit : ℕ → List Burst → Type 0
AllFit buffer [] = Unit {0}
AllFit buffer (b ∷ bursts) = BurstFits buffer b × AllFit buffer bursts

-- a status poll of a LUN: by 70h where it is the only one of its target, else by 78h and its row 0
abbrev pub poll_bursts : Parts → Lun → Option (List Burst)
poll_bursts g l =
    if nat_lt 1 g.luns
    then and_then (row_bytes_of g l.lun 0 0) (λ row. Some (Command l.ce 0x78 ∷ (Address l.ce (0 ∷ (0 ∷ row)) 2 3 ∷ (Output l.ce 1 ∷ []))))
    else Some (Command l.ce 0x70 ∷ (Output l.ce 1 ∷ []))

-- the bursts of a word; nothing is told where its row isn't there
abbrev pub bursts_at : Parts → Lun → Registers → Word → Option (List Burst)
bursts_at g l r (word.Command byte) = Some (Command l.ce byte ∷ [])
bursts_at g l r (word.Address from count) = and_then (five_bytes g l.lun r (from + count)) (λ five. Some (Address l.ce five from count ∷ []))
bursts_at g l r (word.Get len) = Some (Output l.ce len ∷ [])
bursts_at g l r (word.Put len) = Some (Input l.ce r.place len ∷ [])
bursts_at g l r word.Wait = poll_bursts g l
bursts_at g l r word.ReadStatus = poll_bursts g l
bursts_at g l r _ = Some []

-- the bursts of a word may name a row: an address, and a poll of one of several LUNs
abbrev pub names_row : Word → Bool
names_row (word.Address from count) = true
names_row word.Wait = true
names_row word.ReadStatus = true
names_row _ = false

-- how many bytes a word takes
abbrev pub taken_by : Word → ℕ
taken_by (word.Get len) = len
taken_by word.Wait = 1
taken_by word.ReadStatus = 1
taken_by _ = 0
