-- Sequences outside of the profile: where one begins, and which cycles belong to it.
use Rattle.std.specs.Prelude.{ℕ, Bool, true, false, not, ◌&&◌, ◌||◌, List, Option, Some, None, get_or, slice_set, if◌then◌else◌}
use Rattle.onfi_cycle.specs.declared.item.Item.{Item}
use Rattle.onfi_cycle.specs.declared.item.Item.TheVariants.{Cyc, Rdy, Ard}
use Rattle.onfi_cycle.specs.declared.item.Cycle.{Cycle}
use Rattle.onfi_cycle.specs.declared.item.Kind.{Kind}
use Rattle.onfi_cycle.specs.declared.item.Kind.TheVariants.{Cmd, Adr, Din, Dout}
use Rattle.onfi_cycle.specs.declared.command.Command.{Command}
use Rattle.onfi_cycle.specs.declared.command.Command.TheVariants.{Read, ReadStatus, ReadStatusEnhanced, ChangeWriteColumn}
use Rattle.onfi_cycle.specs.declared.target_cycle.TargetCycle.{TargetCycle}
use Rattle.onfi_cycle.specs.declared.target_cycle.TargetCycle.TheVariants.{CommandCycle, AddressCycle, InputCycle, OutputCycle}
use Rattle.onfi_cycle.specs.declared.forbidden.Forbidden.{Forbidden}
use Rattle.onfi_cycle.specs.declared.forbidden.Forbidden.TheVariants.{CommandUnknown, AddressMisplaced}
use Rattle.onfi_cycle.specs.declared.latch.Latch.{Latch}
use Rattle.onfi_cycle.specs.declared.latch.Latch.TheVariants.{Off, Status, Data}
use Rattle.onfi_cycle.specs.declared.lun_state.LunState.{LunState}
use Rattle.nand_geometry.specs.declared.parts.Parts.{Parts}
use Rattle.onfi_cycle.specs.Rules.{opens_here}
use Rattle.onfi_cycle.specs.Sequence.{target_cycle, begins_sequence}
use Rattle.onfi_cycle.specs.State.{BusView, judged}
use Rattle.onfi_cycle.specs.Look.{looked}
use Rattle.trace_faults.specs.declared.standing.Standing.{Standing}
use Rattle.trace_faults.specs.declared.standing.Standing.TheVariants.{Inside, Outside, Interrupted}
use Rattle.trace_faults.specs.declared.trace_state.TraceState.{TraceState}

-- the cycle begins a sequence of the chip
abbrev pub opens_sequence : Parts → TargetCycle → Bool
opens_sequence g (CommandCycle c) = opens_here g c
opens_sequence g (AddressCycle byte) = false
opens_sequence g (InputCycle byte) = false
opens_sequence g OutputCycle = false

-- and so does the item
abbrev pub is_opening : Parts → Item → Bool
is_opening g (Cyc c) = opens_sequence g (target_cycle c.kind c.byte)
is_opening g (Rdy _ _ _) = false
is_opening g (Ard _ _ _) = false

-- the cycle begins a sequence whatever was before: an 85 may go on with the data of a program
abbrev pub begins_alone : TargetCycle → Bool
begins_alone (CommandCycle ChangeWriteColumn) = false
begins_alone c = begins_sequence c

-- ---- where one begins: at a command that isn't in the profile, or at an address that the profile hasn't of 90 or EC

abbrev pub is_unknown_command : Option Forbidden → Bool
is_unknown_command (Some CommandUnknown) = true
is_unknown_command _ = false

abbrev pub is_misplaced_address : Option Forbidden → Bool
is_misplaced_address (Some AddressMisplaced) = true
is_misplaced_address _ = false

-- an address of this byte isn't misplaced on a target
abbrev pub takes_address_of : BusView → (ce byte : ℕ) → Bool
takes_address_of bus ce byte = not (is_misplaced_address (judged bus (Cyc (record { ce = ce; kind = Adr; byte = byte }))))

-- an address that is misplaced where that of the identifier (20), or that of the parameter page (00), isn't
abbrev pub is_other_address : Option Forbidden → BusView → ℕ → Bool
is_other_address rule bus ce = is_misplaced_address rule && (takes_address_of bus ce 32 || takes_address_of bus ce 0)

-- an item that breaks this rule first, on this target, begins a sequence outside of the profile
abbrev pub leaves_profile : Option Forbidden → BusView → ℕ → Bool
leaves_profile rule bus ce = is_unknown_command rule || is_other_address rule bus ce

-- ---- how a target stands to the profile

abbrev pub standing_of : List Standing → ℕ → Standing
standing_of standings ce = get_or standings ce Inside

-- a status that is asked for within a sequence outside interrupts it
abbrev pub interrupted : Standing → Standing
interrupted Inside = Inside
interrupted Outside = Interrupted
interrupted Interrupted = Interrupted

-- after a status the command 00 goes back to the data of the sequence that was interrupted
abbrev pub resumed : Standing → Standing
resumed Inside = Inside
resumed Outside = Inside
resumed Interrupted = Interrupted

abbrev pub after_command : Command → Standing → Standing
after_command ReadStatus s = interrupted s
after_command ReadStatusEnhanced s = interrupted s
after_command Read s = resumed s
after_command _ s = Inside

abbrev pub after_cycle : TargetCycle → Standing → Standing
after_cycle (CommandCycle c) s = after_command c s
after_cycle (AddressCycle byte) s = s
after_cycle (InputCycle byte) s = s
after_cycle OutputCycle s = s

-- how a target stands after a cycle of it that isn't passed over, and breaks this rule first
abbrev pub standing_after : Option Forbidden → BusView → Cycle → Standing → Standing
standing_after rule bus c s = if leaves_profile rule bus c.ce then Outside else after_cycle (target_cycle c.kind c.byte) s

-- the same of all targets, of which another item changes none
abbrev pub standings_after : Option Forbidden → BusView → Item → List Standing → List Standing
standings_after rule bus (Cyc c) standings = slice_set standings c.ce (standing_after rule bus c (standing_of standings c.ce))
standings_after rule bus (Rdy _ _ _) standings = standings
standings_after rule bus (Ard _ _ _) standings = standings

-- ---- what is passed over

abbrev pub is_status : Latch → Bool
is_status Off = false
is_status Status = true
is_status Data = false

abbrev pub is_output : Kind → Bool
is_output Cmd = false
is_output Adr = false
is_output Din = false
is_output Dout = true

-- the LUN is there, and shows its status when its target is read
abbrev pub lun_shows_status : Option LunState → Bool
lun_shows_status None = false
lun_shows_status (Some lun) = is_status lun.latch

abbrev pub shows_status_at : BusView → (ce number : ℕ) → Bool
shows_status_at bus ce number = lun_shows_status (looked bus (record { ce = ce; lun = number }))

-- a LUN of the target shows its status
abbrev pub shows_status : BusView → ℕ → Bool
shows_status bus ce = shows_status_at bus ce 0 || (shows_status_at bus ce 1 || (shows_status_at bus ce 2 || shows_status_at bus ce 3))

-- a cycle of a target that stands so belongs to the sequence outside: up to the next command that begins a sequence, and after a status what isn't status
abbrev pub belongs_outside : Standing → BusView → Cycle → Bool
belongs_outside Inside bus c = false
belongs_outside Outside bus c = not (begins_alone (target_cycle c.kind c.byte)) && not (is_unknown_command (judged bus (Cyc c)))
belongs_outside Interrupted bus c = is_output c.kind && not (shows_status bus c.ce)

-- the item is passed over, since it belongs to a sequence outside of the profile
abbrev pub is_outside : TraceState → Item → Bool
is_outside t (Cyc c) = belongs_outside (standing_of t.standings c.ce) t.bus c
is_outside t (Rdy _ _ _) = false
is_outside t (Ard _ _ _) = false
