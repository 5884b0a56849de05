-- The readies that a status output shows, in a trace that was recorded on a bus, where nobody writes them down.
use Rattle.std.specs.Prelude.{ℕ, ◌==◌, Bool, ◌&&◌, not, List, [], ◌∷◌, ◌++◌, Option, Some, None, if◌then◌else◌}
use Rattle.std.specs.Int.RustNames.{bit_and}
use Rattle.nand_geometry.specs.declared.parts.Parts.{Parts}
use Rattle.nand_geometry.specs.Optional.{has_program_cache}
use Rattle.onfi_cycle.specs.declared.item.Failures.{Failures}
use Rattle.onfi_cycle.specs.declared.item.Item.{Item}
use Rattle.onfi_cycle.specs.declared.item.Item.TheVariants.{Cyc, Rdy, Ard}
use Rattle.onfi_cycle.specs.declared.item.Cycle.{Cycle}
use Rattle.onfi_cycle.specs.declared.lun_state.LunState.{LunState}
use Rattle.onfi_cycle.specs.State.{BusView}
use Rattle.onfi_cycle.specs.Look.{looked}
use Rattle.trace_faults.specs.declared.trace_state.TraceState.{TraceState}
use Rattle.trace_faults.specs.Outside.{is_status, is_output, is_outside}
use Rattle.trace_faults.specs.Denied.{driving_lun, has_ready}
use Rattle.trace_faults.specs.Recovery.{gone_on}

-- the other bits of a status byte: ARDY, FAIL and FAILC
abbrev pub has_array_ready : ℕ → Bool
has_array_ready byte = bit_and byte 32 == 32

abbrev pub has_fail : ℕ → Bool
has_fail byte = bit_and byte 1 == 1

abbrev pub has_fail_before : ℕ → Bool
has_fail_before byte = bit_and byte 2 == 2

-- what a ready tells that this byte shows: FAIL, unless the array goes on with what was programmed; and FAILC, where the chip programs caches
abbrev pub shown_failures : Parts → LunState → ℕ → Failures
shown_failures g lun byte = record { last = has_fail byte && not lun.programming; before = has_program_cache g.optional && has_fail_before byte }

-- and what a ready of the array tells: FAIL, where that programs
abbrev pub shown_array_failure : LunState → ℕ → Bool
shown_array_failure lun byte = lun.programming && has_fail byte

-- a LUN that is busy shows RDY: it has become ready, and FAIL and FAILC say how
abbrev pub ready_of : Parts → Option LunState → (ce number byte : ℕ) → Option Item
ready_of g None ce number byte = None
ready_of g (Some lun) ce number byte =
    if is_status lun.latch && (lun.busy && has_ready byte) then Some (Rdy ce number (shown_failures g lun byte)) else None

-- a LUN that isn't busy, and whose array is, shows ARDY: its array has become ready
abbrev pub array_ready_of : Option LunState → (ce number byte : ℕ) → Option Item
array_ready_of None ce number byte = None
array_ready_of (Some lun) ce number byte =
    if is_status lun.latch && (not lun.busy && (lun.array_busy && (has_ready byte && has_array_ready byte)))
    then Some (Ard ce number (shown_array_failure lun byte)) else None

-- the same of the one LUN that drives the bus
abbrev pub ready_at : BusView → ℕ → Option ℕ → ℕ → Option Item
ready_at state ce None byte = None
ready_at state ce (Some number) byte = ready_of state.geometry (looked state (record { ce = ce; lun = number })) ce number byte

abbrev pub array_ready_at : BusView → ℕ → Option ℕ → ℕ → Option Item
array_ready_at state ce None byte = None
array_ready_at state ce (Some number) byte = array_ready_of (looked state (record { ce = ce; lun = number })) ce number byte

-- an output of the profile
abbrev pub is_output_inside : TraceState → Cycle → Bool
is_output_inside t c = is_output c.kind && not (is_outside t (Cyc c))

-- the ready that an item shows
abbrev pub ready_before : TraceState → Item → Option Item
ready_before t (Cyc c) = if is_output_inside t c then ready_at t.bus c.ce (driving_lun t.bus c.ce) c.byte else None
ready_before state (Rdy _ _ _) = None
ready_before state (Ard _ _ _) = None

-- the ready of an array that an item shows
abbrev pub array_ready_before : TraceState → Item → Option Item
array_ready_before t (Cyc c) = if is_output_inside t c then array_ready_at t.bus c.ce (driving_lun t.bus c.ce) c.byte else None
array_ready_before state (Rdy _ _ _) = None
array_ready_before state (Ard _ _ _) = None

abbrev pub gone_on_some : Option Item → TraceState → TraceState
gone_on_some None state = state
gone_on_some (Some i) state = gone_on i state

-- a channel with the ready that an item shows, and with that of the array too
abbrev pub with_ready : TraceState → Item → TraceState
with_ready state i = gone_on_some (ready_before state i) state

abbrev pub with_readies : TraceState → Item → TraceState
with_readies state i = gone_on_some (array_ready_before (with_ready state i) i) (with_ready state i)

abbrev pub listed : Option Item → List Item
listed None = []
listed (Some i) = i ∷ []

-- the readies that an item shows, in their order
abbrev pub shown_readies : TraceState → Item → List Item
shown_readies state i = listed (ready_before state i) ++ listed (array_ready_before (with_ready state i) i)
