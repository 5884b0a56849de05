-- The readies that nothing shows: of the LUNs that a cycle needs, whose host waited by R/B# or by the clock.
use Rattle.std.specs.Prelude.{ℕ, Bool, false, not, ◌&&◌, List, Option, Some, None, if◌then◌else◌}
use Rattle.onfi_cycle.specs.declared.item.Cycle.{Cycle}
use Rattle.onfi_cycle.specs.declared.item.Item.{Item}
use Rattle.onfi_cycle.specs.declared.item.Item.TheVariants.{Cyc, Rdy, Ard}
use Rattle.onfi_cycle.specs.declared.forbidden.Forbidden.{Forbidden}
use Rattle.onfi_cycle.specs.declared.forbidden.Forbidden.TheVariants.{NotThere, CommandUnknown, SequenceOpen, SeveralLuns, NoColumnToChange, CommandMisplaced, AddressMisplaced, RowOutside, LunBusy, QueueClash, InputMisplaced, NoSoleDriver, DataNotReady, ColumnOutside, CacheReadMisplaced, CacheProgramMisplaced, CopybackMisplaced, PlaneNotHeld}
use Rattle.onfi_cycle.specs.declared.lun_state.LunState.{LunState}
use Rattle.onfi_cycle.specs.declared.target_cycle.TargetCycle.{TargetCycle}
use Rattle.onfi_cycle.specs.declared.target_cycle.TargetCycle.TheVariants.{CommandCycle, AddressCycle, InputCycle, OutputCycle}
use Rattle.nand_geometry.specs.declared.parts.Parts.{Parts}
use Rattle.onfi_cycle.specs.Command.{reads_identity}
use Rattle.onfi_cycle.specs.Sequence.{target_cycle}
use Rattle.onfi_cycle.specs.Effect.{names_lun, is_shared}
use Rattle.onfi_cycle.specs.Look.{looked, target_works}
use Rattle.trace_faults.specs.declared.unshown.UnshownReady.{UnshownReady}
use Rattle.trace_faults.specs.declared.trace_state.TraceState.{TraceState}
use Rattle.trace_faults.specs.Outside.{is_opening}
use Rattle.trace_faults.specs.Denied.{driving_lun, is_denied}
use Rattle.trace_faults.specs.Recovery.{judged_here}
use Rattle.trace_faults.specs.RowAhead.{given_row}

-- ---- which LUNs work, and may be done

-- a LUN that is there, and works
abbrev pub is_working : Option LunState → Bool
is_working None = false
is_working (Some lun) = lun.busy

-- the LUN of this number works, and the recording doesn't deny that it is done
abbrev pub may_be_done : TraceState → (ce number : ℕ) → Bool
may_be_done t ce number = is_working (looked t.bus (record { ce = ce; lun = number })) && not (is_denied t ce number)

-- the first of four that is meant
abbrev pub first_of : (zeroth first second third : Bool) → Option ℕ
first_of zeroth first second third =
    if zeroth then Some 0 else (if first then Some 1 else (if second then Some 2 else (if third then Some 3 else None)))

-- the first LUN of a target that may be done
abbrev pub first_done : TraceState → ℕ → Option ℕ
first_done state ce = first_of (may_be_done state ce 0) (may_be_done state ce 1) (may_be_done state ce 2) (may_be_done state ce 3)

abbrev pub is_named : TraceState → (ce row number : ℕ) → Bool
is_named state ce row number = names_lun state.bus.geometry row number && may_be_done state ce number

-- the LUN that a row names, where it may be done
abbrev pub named_done : TraceState → ℕ → Option ℕ → Option ℕ
named_done state ce None = None
named_done state ce (Some row) = first_of (is_named state ce row 0) (is_named state ce row 1) (is_named state ce row 2) (is_named state ce row 3)

abbrev pub if_may_be_done : TraceState → ℕ → Option ℕ → Option ℕ
if_may_be_done state ce None = None
if_may_be_done state ce (Some number) = if may_be_done state ce number then Some number else None

-- the LUN that drives the bus when the target is read, where it may be done
abbrev pub driving_done : TraceState → ℕ → Option ℕ
driving_done state ce = if_may_be_done state ce (driving_lun state.bus ce)

abbrev pub or_else : Option ℕ → Option ℕ → Option ℕ
or_else None other = other
or_else (Some number) other = Some number

-- ---- which of them a cycle needs

-- the LUN that the opener's row names; where no row comes, and where that LUN isn't there or can't be done, the first that may be
abbrev pub to_begin : TraceState → Cycle → List Item → Option ℕ
to_begin state c later = or_else (named_done state c.ce (given_row c later)) (first_done state c.ce)

-- the LUN that works for the whole target, the first one, where it may be done: in the wider profile no row is named while it does
abbrev pub target_done : TraceState → ℕ → Option ℕ → Option ℕ
target_done state ce None = None
target_done state ce (Some row) = if is_shared state.bus.geometry && target_works state.bus ce then if_may_be_done state ce (Some 0) else None

-- the LUN that a row needs
abbrev pub row_done : TraceState → ℕ → Option ℕ → Option ℕ
row_done state ce row = or_else (named_done state ce row) (target_done state ce row)

-- the LUN whose ready a cycle wants that breaks this rule first, or none: F9 of an opener, F5, F13 and F15 of the LUN that drives the bus; and an
-- opener that breaks none wants the ready that its row will need
abbrev pub wanted_by : Option Forbidden → TraceState → Cycle → List Item → Option ℕ
wanted_by None state c later = row_done state c.ce (given_row c later)
wanted_by (Some NotThere) state c later = None
wanted_by (Some CommandUnknown) state c later = None
wanted_by (Some SequenceOpen) state c later = None
wanted_by (Some SeveralLuns) state c later = None
wanted_by (Some NoColumnToChange) state c later = driving_done state c.ce
wanted_by (Some CommandMisplaced) state c later = None
wanted_by (Some AddressMisplaced) state c later = None
wanted_by (Some RowOutside) state c later = None
wanted_by (Some LunBusy) state c later = if is_opening state.bus.geometry (Cyc c) then to_begin state c later else None
wanted_by (Some QueueClash) state c later = None
wanted_by (Some InputMisplaced) state c later = None
wanted_by (Some NoSoleDriver) state c later = None
wanted_by (Some DataNotReady) state c later = driving_done state c.ce
wanted_by (Some ColumnOutside) state c later = None
wanted_by (Some CacheReadMisplaced) state c later = if is_opening state.bus.geometry (Cyc c) then driving_done state c.ce else None
wanted_by (Some CacheProgramMisplaced) state c later = None
wanted_by (Some CopybackMisplaced) state c later = None
wanted_by (Some PlaneNotHeld) state c later = None

-- the rule that is broken without that ready: of an opener that breaks none, F9 at its last address
abbrev pub rule_without : Option Forbidden → Forbidden
rule_without None = LunBusy
rule_without (Some rule) = rule

abbrev pub unshown_of : (ce : ℕ) → Forbidden → Option ℕ → Option UnshownReady
unshown_of ce rule None = None
unshown_of ce rule (Some number) = Some (record { lun = record { ce = ce; lun = number }; rule = rule })

-- the LUN that is taken for ready before an item, since that needs it and nothing showed it; only cycles show what their host holds for ready
abbrev pub unshown : TraceState → Item → (later : List Item) → Option UnshownReady
unshown state (Cyc c) later = unshown_of c.ce (rule_without (judged_here state (Cyc c))) (wanted_by (judged_here state (Cyc c)) state c later)
unshown state (Rdy _ _ _) later = None
unshown state (Ard _ _ _) later = None

-- an opener of what stands beside the array
abbrev pub asks_target : TargetCycle → Bool
asks_target (CommandCycle command) = reads_identity command
asks_target (AddressCycle byte) = false
asks_target (InputCycle byte) = false
asks_target OutputCycle = false

-- an item that needs each LUN of its target: in the wider profile, such an opener where there are several
abbrev pub needs_each : Parts → Item → Bool
needs_each g (Cyc c) = is_shared g && asks_target (target_cycle c.kind c.byte)
needs_each g (Rdy _ _ _) = false
needs_each g (Ard _ _ _) = false

-- a further LUN that is taken for ready before such an item, once those before it are
abbrev pub further : TraceState → Item → (later : List Item) → Option UnshownReady
further state i later = if needs_each state.bus.geometry i then unshown state i later else None

-- its ready, without failure
abbrev pub ready_for : UnshownReady → Item
ready_for u = Rdy u.lun.ce u.lun.lun (record { last = false; before = false })

abbrev pub ready_taken : Option UnshownReady → Option Item
ready_taken None = None
ready_taken (Some u) = Some (ready_for u)
