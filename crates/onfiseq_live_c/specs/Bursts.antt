-- What the rules say of bursts by the state of a channel, cycle after cycle, and what they leave of it.
use Rattle.std.specs.Prelude.{◌≡◌, ℕ, List, [], ◌∷◌, Option, Some, None}
use Rattle.onfi_cycle.specs.Channel.{cycle}
use Rattle.onfi_cycle.specs.declared.forbidden.Forbidden.{Forbidden}
use Rattle.onfi_cycle.specs.declared.item.Kind.TheVariants.{Cmd, Adr, Din, Dout}
use Rattle.onfi_cycle.specs.Runs.{first_rule, judged_run, after_run}
use Rattle.onfi_cycle.specs.State.{BusView, judged, bus_after}
use Rattle.nand_geometry.specs.declared.parts.Parts.{Parts}
use Rattle.onfi_cycle.specs.declared.lun.Lun.{Lun}
use Rattle.micro_word.specs.declared.word.Word.{Word}
use Rattle.micro_program.specs.Moves.{part}
use Rattle.seq_core.specs.declared.registers.Registers.{Registers}
use Rattle.seq_live.specs.Burst.{bursts_at, taken_by}
use Rattle.seq_live.specs.declared.burst.Burst.{Burst}
use Rattle.seq_live.specs.declared.burst.Burst.TheVariants.{Command, Address, Input, Output}

-- the target of a burst, and bursts that are all of one
abbrev pub target_of : Burst → ℕ
target_of (Command ce byte) = ce
target_of (Address ce five from count) = ce
target_of (Input ce place len) = ce
target_of (Output ce len) = ce

abbrev pub AllOn : ℕ → List Burst → Type 0
AllOn ce [] = Unit {0}
AllOn ce (b ∷ bursts) = (target_of b ≡ ce) × AllOn ce bursts

-- the bursts of a status poll by 70h
abbrev pub poll_of : ℕ → List Burst
poll_of ce = Command ce 0x70 ∷ (Output ce 1 ∷ [])

-- a word is such a poll, whoever steps it, on a target of one LUN
abbrev pub PollsOne : Parts → Word → Type 0
PollsOne g w = ((l : Lun) (r : Registers) → bursts_at g l r w ≡ Some (poll_of l.ce)) × (taken_by w ≡ 1) × (g.luns ≡ 1)

-- address cycles of these bytes
abbrev pub judged_addresses : ℕ → List ℕ → BusView → Option Forbidden
judged_addresses ce [] s = None
judged_addresses ce (byte ∷ bytes) s = first_rule (judged s (cycle ce Adr byte)) (judged_addresses ce bytes (bus_after (cycle ce Adr byte) s))

abbrev pub after_addresses : ℕ → List ℕ → BusView → BusView
after_addresses ce [] s = s
after_addresses ce (byte ∷ bytes) s = after_addresses ce bytes (bus_after (cycle ce Adr byte) s)

-- the rule that the first forbidden cycle of a burst breaks; a rule sees no byte of data
abbrev pub judged_burst : Burst → BusView → Option Forbidden
judged_burst (Command ce byte) s = judged s (cycle ce Cmd byte)
judged_burst (Address ce five from count) s = judged_addresses ce (part from count five) s
judged_burst (Input ce place len) s = judged_run Din ce len s
judged_burst (Output ce len) s = judged_run Dout ce len s

-- what its cycles leave
abbrev pub after_burst : Burst → BusView → BusView
after_burst (Command ce byte) s = bus_after (cycle ce Cmd byte) s
after_burst (Address ce five from count) s = after_addresses ce (part from count five) s
after_burst (Input ce place len) s = after_run Din ce len s
after_burst (Output ce len) s = after_run Dout ce len s

-- of bursts one after another
abbrev pub judged_bursts : List Burst → BusView → Option Forbidden
judged_bursts [] s = None
judged_bursts (b ∷ bursts) s = first_rule (judged_burst b s) (judged_bursts bursts (after_burst b s))

abbrev pub after_bursts : List Burst → BusView → BusView
after_bursts [] s = s
after_bursts (b ∷ bursts) s = after_bursts bursts (after_burst b s)
