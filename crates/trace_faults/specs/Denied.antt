-- Readies that a recording denies: what isn't taken for granted where readies aren't written.
use Rattle.std.specs.Prelude.{ℕ, ◌+◌, ◌*◌, ◌==◌, Bool, true, false, not, ◌&&◌, ◌||◌, List, [], ◌∷◌, Option, Some, None, get_or, slice_set, if◌then◌else◌}
use Rattle.std.specs.Int.RustNames.{bit_and}
use Rattle.nand_geometry.specs.declared.parts.Parts.{Parts}
use Rattle.onfi_cycle.specs.declared.item.Item.{Item}
use Rattle.onfi_cycle.specs.declared.item.Item.TheVariants.{Cyc, Rdy, Ard}
use Rattle.onfi_cycle.specs.declared.item.Cycle.{Cycle}
use Rattle.onfi_cycle.specs.declared.item.Kind.{Kind}
use Rattle.onfi_cycle.specs.declared.item.Kind.TheVariants.{Cmd, Adr, Din, Dout}
use Rattle.onfi_cycle.specs.declared.command.Command.TheVariants.{Reset, SynchronousReset}
use Rattle.onfi_cycle.specs.declared.target_cycle.TargetCycle.{TargetCycle}
use Rattle.onfi_cycle.specs.declared.target_cycle.TargetCycle.TheVariants.{CommandCycle, AddressCycle, InputCycle, OutputCycle}
use Rattle.onfi_cycle.specs.declared.lun.Lun.{Lun}
use Rattle.onfi_cycle.specs.declared.lun_state.LunState.{LunState}
use Rattle.onfi_cycle.specs.Effect.{is_off, is_shared}
use Rattle.onfi_cycle.specs.Sequence.{target_cycle}
use Rattle.onfi_cycle.specs.State.{BusView}
use Rattle.onfi_cycle.specs.Look.{looked, is_selected_in}
use Rattle.onfi_cycle.specs.Rules.{is_undeclared}
use Rattle.trace_faults.specs.declared.trace_state.TraceState.{TraceState}
use Rattle.trace_faults.specs.Outside.{is_status}

-- ---- the one LUN of a target that is read

-- the LUN is there, and drives the bus when its target is read
abbrev pub drives : Option LunState → Bool
drives None = false
drives (Some lun) = not (is_off lun.latch)

-- which one of four it is, if it is only one
abbrev pub only_one : (zeroth first second third : Bool) → Option ℕ
only_one true false false false = Some 0
only_one false true false false = Some 1
only_one false false true false = Some 2
only_one false false false true = Some 3
only_one _ _ _ _ = None

abbrev pub lun_drives : BusView → (ce number : ℕ) → Bool
lun_drives bus ce number = drives (looked bus (record { ce = ce; lun = number }))

-- the number of the one LUN of a target that drives the bus
abbrev pub driving_lun : BusView → ℕ → Option ℕ
driving_lun bus ce = only_one (lun_drives bus ce 0) (lun_drives bus ce 1) (lun_drives bus ce 2) (lun_drives bus ce 3)

-- the bit of a status byte that says ready (RDY)
abbrev pub has_ready : ℕ → Bool
has_ready byte = bit_and byte 64 == 64

-- ---- a status that says busy

-- the place of a LUN among the 16 of a channel
abbrev pub place_of : (ce number : ℕ) → ℕ
place_of ce number = 4 * ce + number

-- a LUN that works, and shows a status without RDY
abbrev pub says_busy : Option LunState → ℕ → Bool
says_busy None byte = false
says_busy (Some lun) byte = is_status lun.latch && (lun.busy && not (has_ready byte))

abbrev pub busy_at : BusView → (ce : ℕ) → Option ℕ → (byte : ℕ) → List Bool → List Bool
busy_at bus ce None byte shown = shown
busy_at bus ce (Some number) byte shown =
    if says_busy (looked bus (record { ce = ce; lun = number })) byte then slice_set shown (place_of ce number) true else shown

-- no status was shown of the LUNs of a target
abbrev pub none_shown : ℕ → List Bool → List Bool
none_shown ce shown =
    slice_set (slice_set (slice_set (slice_set shown (place_of ce 0) false) (place_of ce 1) false) (place_of ce 2) false) (place_of ce 3) false

-- a reset begins work anew, of which no status was shown: on a target of one LUN, or in the wider profile on each of several
abbrev pub reset_shown : Parts → ℕ → List Bool → List Bool
reset_shown g ce shown = if is_shared g then none_shown ce shown else slice_set shown (place_of ce 0) false

-- FC resets where the profile has it
abbrev pub busy_by : BusView → Cycle → TargetCycle → List Bool → List Bool
busy_by bus c (CommandCycle Reset) shown = reset_shown bus.geometry c.ce shown
busy_by bus c (CommandCycle SynchronousReset) shown = if is_undeclared bus.geometry SynchronousReset then shown else reset_shown bus.geometry c.ce shown
busy_by bus c (CommandCycle _) shown = shown
busy_by bus c (AddressCycle byte) shown = shown
busy_by bus c (InputCycle byte) shown = shown
busy_by bus c OutputCycle shown = busy_at bus c.ce (driving_lun bus c.ce) c.byte shown

-- of which LUNs the last status since they began their work says that they work, after an item on this channel, but for the LUN that a FA resets
abbrev pub shown_busy_after : BusView → Item → List Bool → List Bool
shown_busy_after bus (Cyc c) shown = busy_by bus c (target_cycle c.kind c.byte) shown
shown_busy_after bus (Rdy ce lun fail) shown = slice_set shown (place_of ce lun) false
shown_busy_after bus (Ard _ _ _) shown = shown

-- a LUN that works, and shows nothing
abbrev pub works_unseen : Option LunState → Bool
works_unseen None = false
works_unseen (Some lun) = lun.busy && is_off lun.latch

-- it is the selected one of its target too: its work began anew, and no status of it was shown since
abbrev pub is_silent : BusView → Lun → Bool
is_silent bus l = works_unseen (looked bus l) && is_selected_in bus l

abbrev pub silenced : BusView → (ce number : ℕ) → List Bool → List Bool
silenced bus ce number shown =
    if is_silent bus (record { ce = ce; lun = number }) then slice_set shown (place_of ce number) false else shown

abbrev pub is_address : Kind → Bool
is_address Cmd = false
is_address Adr = true
is_address Din = false
is_address Dout = false

-- the last address of a FA leaves the LUN that it resets so, and no other address does: this channel stands behind the item
abbrev pub after_addresses : BusView → Item → List Bool → List Bool
after_addresses bus (Cyc c) shown =
    if is_address c.kind then silenced bus c.ce 3 (silenced bus c.ce 2 (silenced bus c.ce 1 (silenced bus c.ce 0 shown))) else shown
after_addresses bus (Rdy _ _ _) shown = shown
after_addresses bus (Ard _ _ _) shown = shown

-- ---- readies that are written

-- the last command of a target asks for a status, by 70h or by 78h
abbrev pub asks_by : Kind → (byte : ℕ) → (asks : Bool) → Bool
asks_by Cmd byte asks = byte == 112 || byte == 120
asks_by Adr byte asks = asks
asks_by Din byte asks = asks
asks_by Dout byte asks = asks

abbrev pub asks_after : ℕ → (asks : Bool) → Item → Bool
asks_after ce asks (Cyc c) = if c.ce == ce then asks_by c.kind c.byte asks else asks
asks_after ce asks (Rdy _ _ _) = asks
asks_after ce asks (Ard _ _ _) = asks

-- a ready of the target is written, and no cycle of it stands behind that yet
abbrev pub waits_after : ℕ → (waits : Bool) → Item → Bool
waits_after ce waits (Cyc c) = waits && not (c.ce == ce)
waits_after ce waits (Rdy other _ _) = waits || other == ce
waits_after ce waits (Ard _ _ _) = waits

abbrev pub is_output : Kind → Bool
is_output Cmd = false
is_output Adr = false
is_output Din = false
is_output Dout = true

-- the first cycle behind a ready shows that the ready is no more than what a status says, or it doesn't: only a line of the bus tells it then
abbrev pub tells_by : ℕ → (asks waits : Bool) → Item → Bool
tells_by ce asks waits (Cyc c) = waits && (c.ce == ce && not (asks && is_output c.kind))
tells_by ce asks waits (Rdy _ _ _) = false
tells_by ce asks waits (Ard _ _ _) = false

abbrev pub tells_from : ℕ → (asks waits : Bool) → List Item → Bool
tells_from ce asks waits [] = waits
tells_from ce asks waits (i ∷ items) = tells_by ce asks waits i || tells_from ce (asks_after ce asks i) (waits_after ce waits i) items

-- items tell when a LUN of this target becomes ready: by a ready that doesn't stand right before a status output of the target
abbrev pub tells_readies : ℕ → List Item → Bool
tells_readies ce items = tells_from ce false false items

-- the same of each of four targets
abbrev pub told_in : List Item → List Bool
told_in items = tells_readies 0 items ∷ (tells_readies 1 items ∷ (tells_readies 2 items ∷ (tells_readies 3 items ∷ [])))

-- ---- what is denied

-- the LUN can't be taken for ready: the recording tells the readies of its target, or the last status since it began its work says that it works
abbrev pub is_denied : TraceState → (ce number : ℕ) → Bool
is_denied t ce number = get_or t.told ce false || get_or t.shown_busy (place_of ce number) false
