-- Status bytes that contradict the trace that they stand in.
use Rattle.std.specs.Prelude.{ℕ, ◌+◌, Bool, true, false, List, [], ◌∷◌, ◌++◌, Option, Some, None, if◌then◌else◌}
use Rattle.nand_geometry.specs.declared.parts.Parts.{Parts}
use Rattle.onfi_cycle.specs.declared.item.Item.{Item}
use Rattle.onfi_cycle.specs.declared.item.Item.TheVariants.{Cyc, Rdy, Ard}
use Rattle.onfi_cycle.specs.declared.lun_state.LunState.{LunState}
use Rattle.onfi_cycle.specs.State.{BusView}
use Rattle.onfi_cycle.specs.Look.{looked}
use Rattle.trace_faults.specs.declared.status_doubt.StatusDoubt.{StatusDoubt}
use Rattle.trace_faults.specs.declared.status_doubt.StatusDoubt.TheVariants.{ShowsReady, ShowsBusy, ShowsArrayReady, ShowsArrayBusy}
use Rattle.trace_faults.specs.declared.status_doubt.DoubtedByte.{DoubtedByte}
use Rattle.trace_faults.specs.declared.readies.Readies.{Readies}
use Rattle.trace_faults.specs.declared.trace_state.TraceState.{TraceState}
use Rattle.trace_faults.specs.Outside.{is_status}
use Rattle.trace_faults.specs.Denied.{driving_lun, has_ready}
use Rattle.trace_faults.specs.Recovery.{fresh_for, gone_on}
use Rattle.trace_faults.specs.ShownReadies.{has_array_ready, is_output_inside}
use Rattle.trace_faults.specs.Faults.{before_item}

-- what is wrong with the array's bit of a LUN that has no work of its own: it is to show whether a cache read goes on in the array
abbrev pub array_doubt : (array_busy shows : Bool) → Option StatusDoubt
array_doubt true true = Some ShowsArrayReady
array_doubt true false = None
array_doubt false true = None
array_doubt false false = Some ShowsArrayBusy

-- what is wrong with a status byte: RDY is to show whether the LUN works, and while it doesn't ARDY whether its array does
abbrev pub lun_doubt : (busy array_busy shows_ready shows_array_ready : Bool) → Option StatusDoubt
lun_doubt true array_busy true shows_array_ready = Some ShowsReady
lun_doubt true array_busy false shows_array_ready = None
lun_doubt false array_busy true shows_array_ready = array_doubt array_busy shows_array_ready
lun_doubt false array_busy false shows_array_ready = Some ShowsBusy

abbrev pub doubt_of : Option LunState → ℕ → Option StatusDoubt
doubt_of None byte = None
doubt_of (Some lun) byte = if is_status lun.latch then lun_doubt lun.busy lun.array_busy (has_ready byte) (has_array_ready byte) else None

-- the same of the one LUN that drives the bus
abbrev pub doubt_at : BusView → ℕ → Option ℕ → ℕ → Option StatusDoubt
doubt_at state ce None byte = None
doubt_at state ce (Some number) byte = doubt_of (looked state (record { ce = ce; lun = number })) byte

-- what is wrong with the byte of an item, if that is a status
abbrev pub byte_doubt : TraceState → Item → Option StatusDoubt
byte_doubt t (Cyc c) = if is_output_inside t c then doubt_at t.bus c.ce (driving_lun t.bus c.ce) c.byte else None
byte_doubt state (Rdy _ _ _) = None
byte_doubt state (Ard _ _ _) = None

abbrev pub doubted_at : ℕ → Option StatusDoubt → List DoubtedByte
doubted_at n None = []
doubted_at n (Some doubt) = record { item = n; doubt = doubt } ∷ []

-- the status bytes that contradict what stands before them, counted from this number
abbrev pub doubts_from : Readies → TraceState → ℕ → List Item → List DoubtedByte
doubts_from readies state n [] = []
doubts_from readies state n (i ∷ items) =
    doubted_at n (byte_doubt (before_item readies state i items) i) ++ doubts_from readies (gone_on i (before_item readies state i items)) (n + 1) items

-- all of a trace
abbrev pub doubts_of : Readies → Parts → ℕ → List Item → List DoubtedByte
doubts_of readies g targets items = doubts_from readies (fresh_for g targets items) 0 items
