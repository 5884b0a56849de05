-- The readies that a capture without a model shows: by status outputs, and by R/B#, in the base profile of a target of one LUN.
use Rattle.std.specs.Prelude.{ℕ, zero, suc, ◌==◌, ◌&&◌, not, Bool, true, false, if◌then◌else◌, List, [], ◌∷◌, ◌++◌, Option, Some, None, Result, Ok}
use Rattle.onfi_cycle.specs.declared.item.Kind.{Kind}
use Rattle.onfi_cycle.specs.declared.item.Kind.TheVariants.{Cmd, Adr, Din, Dout}
use Rattle.onfi_cycle.specs.declared.item.Cycle.{Cycle}
use Rattle.onfi_cycle.specs.declared.item.Item.{Item}
use Rattle.onfi_cycle.specs.declared.item.Item.TheVariants.{Cyc, Rdy, Ard}
use Rattle.onfi_cycle.specs.declared.lun_state.LunState.{LunState}
use Rattle.onfi_cycle.specs.Effect.{is_shared}
use Rattle.onfi_cycle.specs.Look.{looked, is_selected_in}
use Rattle.trace_faults.specs.declared.trace_state.TraceState.{TraceState}
use Rattle.trace_faults.specs.Recovery.{fresh, gone_on}
use Rattle.trace_faults.specs.ShownReadies.{ready_before, array_ready_before, with_ready, with_readies}
use Rattle.bus_capture.specs.declared.fault.CaptureFault.{CaptureFault}
use Rattle.bus_capture.specs.declared.reading.Setup.{Setup}
use Rattle.bus_capture.specs.declared.sampler.Observation.{Observation}
use Rattle.bus_capture.specs.declared.sampler.Observation.TheVariants as observation
use Rattle.bus_capture.specs.declared.sampler.Observed.{Observed}
use Rattle.bus_capture.specs.declared.inferring.Stamped.{Stamped}
use Rattle.bus_capture.specs.declared.inferring.Rise.{Rise}
use Rattle.bus_capture.specs.declared.reading.CaptureForm.{CaptureForm}
use Rattle.bus_capture.specs.declared.reading.CaptureForm.TheVariants.{Dump, Table}
use Rattle.bus_capture.specs.declared.ahead.Ahead.{Ahead}
use Rattle.bus_capture.specs.declared.ahead.Ahead.TheVariants.{Going, Known}
use Rattle.vcd_text.specs.Tokens.{◌>>=◌}
use Rattle.bus_capture.specs.Capturing.{Shown, shown_in, shown_in_csv}
use Rattle.onfi_cycle.specs.declared.item.Failures.{Failures}
use Rattle.bus_capture.specs.Telling.{no_failures, told_of, told_at}
use Rattle.bus_capture.specs.Asking.{first_asking, lun_fails_within}

-- ---- how the work ended that R/B# shows to be done: as the status says that the target is asked for next, by 70h; if it isn't, without failure

abbrev pub ahead_by : Kind → (asked : Bool) → ℕ → Ahead
ahead_by Cmd asked byte = if byte == 112 then Going true else Known no_failures
ahead_by Adr asked byte = Going asked
ahead_by Din asked byte = Going asked
ahead_by Dout asked byte = if asked then Known (told_of byte) else Going asked

abbrev pub ahead_in : (asked : Bool) → ℕ → Cycle → Ahead
ahead_in asked ce c = if c.ce == ce then ahead_by c.kind asked c.byte else Going asked

abbrev pub ahead_of : (asked : Bool) → ℕ → Observation → Ahead
ahead_of asked ce (observation.Item (Cyc c)) = ahead_in asked ce c
ahead_of asked ce (observation.Item (Rdy _ _ _)) = Going asked
ahead_of asked ce (observation.Item (Ard _ _ _)) = Going asked
ahead_of asked ce (observation.Released n) = Going asked

abbrev pub fails_by : Ahead → (Bool → Failures) → Failures
fails_by (Known fail) later = fail
fails_by (Going asked) later = later asked

-- what failures the status tells that the target of this number is asked for next, among so many of what is seen
abbrev pub fails_within : (most : ℕ) → (asked : Bool) → ℕ → List Observed → Failures
fails_within zero asked ce later = no_failures
fails_within (suc most) asked ce [] = no_failures
fails_within (suc most) asked ce (o ∷ later) = fails_by (ahead_of asked ce o.observation) (λ asked. fails_within most asked ce later)

-- ---- an item, with the readies that its byte shows, unless lines of a model tell them

abbrev pub stamps : ℕ → Option Item → List Stamped
stamps time None = []
stamps time (Some item) = record { time = time; item = item } ∷ []

abbrev pub with_shown : (infers : Bool) → TraceState → ℕ → Item → List Stamped → List Stamped
with_shown false state time item stamped = stamped ++ stamps time (Some item)
with_shown true state time item stamped =
    ((stamped ++ stamps time (ready_before state item)) ++ stamps time (array_ready_before (with_ready state item) item)) ++ stamps time (Some item)

abbrev pub state_after : (infers : Bool) → TraceState → Item → TraceState
state_after false state item = state
state_after true state item = gone_on item (with_readies state item)

-- ---- R/B# rises

abbrev pub is_busy : Option LunState → Bool
is_busy None = false
is_busy (Some lun) = lun.busy

-- the target has one LUN, which is busy
abbrev pub is_waiting : TraceState → (luns ce : ℕ) → Bool
is_waiting state luns ce = luns == 1 && is_busy (looked state.bus (record { ce = ce; lun = 0 }))

-- the ready that this shows
abbrev pub release_of : (infers : Bool) → TraceState → (luns ce : ℕ) → List Observed → Option Item
release_of false state luns ce later = None
release_of true state luns ce later = if is_waiting state luns ce then Some (Rdy ce 0 (told_at state ce 0 (fails_within 65536 false ce later))) else None

-- the LUN of this number is one of several of its target, in the wider profile, and is busy: R/B# of the target is high where all of them are ready
abbrev pub is_awaited : TraceState → (ce lun : ℕ) → Bool
is_awaited state ce lun = is_shared state.bus.geometry && is_busy (looked state.bus (record { ce = ce; lun = lun }))

abbrev pub lun_fails : TraceState → (ce lun : ℕ) → List Observed → Failures
lun_fails state ce lun later =
    lun_fails_within state.bus.geometry (record { ce = ce; lun = lun }) 65536 (first_asking (is_selected_in state.bus (record { ce = ce; lun = lun }))) later

-- the ready of it that this shows
abbrev pub lun_release_of : (infers : Bool) → TraceState → (ce lun : ℕ) → List Observed → Option Item
lun_release_of false state ce lun later = None
lun_release_of true state ce lun later = if is_awaited state ce lun then Some (Rdy ce lun (told_at state ce lun (lun_fails state ce lun later))) else None

-- all that this shows
abbrev pub rise_of : (infers : Bool) → TraceState → (luns ce : ℕ) → List Observed → Rise
rise_of infers state luns ce later = record {
  alone = release_of infers state luns ce later;
  zeroth = lun_release_of infers state ce 0 later;
  first = lun_release_of infers state ce 1 later;
  second = lun_release_of infers state ce 2 later;
  third = lun_release_of infers state ce 3 later;
}

abbrev pub released : Option Item → TraceState → TraceState
released None state = state
released (Some item) state = gone_on item state

abbrev pub after_rise : Rise → TraceState → TraceState
after_rise r state = released r.third (released r.second (released r.first (released r.zeroth (released r.alone state))))

abbrev pub rise_stamps : ℕ → Rise → List Stamped
rise_stamps time r = stamps time r.alone ++ (stamps time r.zeroth ++ (stamps time r.first ++ (stamps time r.second ++ stamps time r.third)))

-- ---- all items

abbrev pub inferred_by : Observation → ℕ → (luns : ℕ) → (infers : Bool) → TraceState → List Observed → List Stamped → (TraceState → List Stamped → List Stamped) → List Stamped
inferred_by (observation.Item item) time luns infers state later stamped next = next (state_after infers state item) (with_shown infers state time item stamped)
inferred_by (observation.Released ce) time luns infers state later stamped next =
    next (after_rise (rise_of infers state luns ce later) state) (stamped ++ rise_stamps time (rise_of infers state luns ce later))

-- the items of what is seen, after these, on a channel of targets of so many LUNs; a trace is gone on with as a check of all faults does
abbrev pub inferred : (luns : ℕ) → (infers : Bool) → TraceState → List Stamped → List Observed → List Stamped
inferred luns infers state stamped [] = stamped
inferred luns infers state stamped (o ∷ later) =
    inferred_by o.observation o.time luns infers state later stamped (λ state stamped. inferred luns infers state stamped later)

-- ---- a whole capture: its items, each with its time

-- the items of what is shown, after these
abbrev pub items_after : Setup → List Stamped → Shown → List Stamped
items_after setup stamped shown = inferred setup.geometry.luns (not shown.tells_readies) (fresh setup.geometry setup.targets) stamped shown.observed

-- the items of the text of a dump, and of that of a CSV, after these
abbrev pub captured_by : CaptureForm → Setup → List Stamped → List ℕ → Result (List Stamped) CaptureFault
captured_by Dump setup stamped text = shown_in setup text >>= λ shown. Ok (items_after setup stamped shown)
captured_by Table setup stamped text = shown_in_csv setup text >>= λ shown. Ok (items_after setup stamped shown)

abbrev pub captured_after : Setup → List Stamped → List ℕ → Result (List Stamped) CaptureFault
captured_after setup stamped text = captured_by setup.form setup stamped text

-- the items of a text
abbrev pub captured : Setup → List ℕ → Result (List Stamped) CaptureFault
captured setup text = captured_after setup [] text
