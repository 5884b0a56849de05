-- Which items of a trace belong to a vendor's sequences.
use Rattle.std.specs.Prelude.{ℕ, ◌+◌, ◌==◌, ◌&&◌, ◌||◌, not, nat_lt, Bool, true, false, if◌then◌else◌, List, [], ◌∷◌, length, replicate, get_or, slice_set, Option, Some, None}
use Rattle.nand_geometry.specs.declared.parts.Parts.{Parts}
use Rattle.nand_geometry.specs.declared.optional.Profile.{Profile}
use Rattle.nand_geometry.specs.declared.optional.Profile.TheVariants.{Base, Onfi}
use Rattle.nand_geometry.specs.Optional.{is_wide}
use Rattle.onfi_cycle.specs.declared.item.Item.{Item}
use Rattle.onfi_cycle.specs.declared.item.Item.TheVariants.{Cyc, Rdy, Ard}
use Rattle.onfi_cycle.specs.declared.item.Cycle.{Cycle}
use Rattle.onfi_cycle.specs.declared.item.Kind.{Kind}
use Rattle.onfi_cycle.specs.declared.item.Kind.TheVariants.{Cmd, Adr, Din, Dout}
use Rattle.onfi_cycle.specs.declared.lun_state.LunState.{LunState}
use Rattle.onfi_cycle.specs.declared.forbidden.Forbidden.{Forbidden}
use Rattle.onfi_cycle.specs.declared.forbidden.Forbidden.TheVariants.{CommandUnknown, SequenceOpen, CommandMisplaced, AddressMisplaced, InputMisplaced, NoSoleDriver}
use Rattle.onfi_cycle.specs.Sequence.{target_cycle, target_of}
use Rattle.trace_faults.specs.Outside.{begins_alone}
use Rattle.onfi_cycle.specs.State.{BusView, judged}
use Rattle.onfi_cycle.specs.Look.{looked}
use Rattle.trace_faults.specs.declared.readies.Readies.{Readies}
use Rattle.trace_faults.specs.declared.trace_state.TraceState.{TraceState}
use Rattle.trace_faults.specs.Recovery.{fresh_for, gone_on}
use Rattle.trace_faults.specs.Faults.{before_item}
use Rattle.vendor_file.specs.declared.step.Step.{Step}
use Rattle.vendor_file.specs.declared.step.Step.TheVariants.{Begin, Command, AnyAddress, Address, Input, Inputs, Output, Outputs, Ready}
use Rattle.vendor_file.specs.declared.part.Part.{Part}
use Rattle.vendor_file.specs.declared.passing.Passing.{Passing}
use Rattle.vendor_file.specs.Lines.{is_profile, is_ready, is_any_number}

-- ---- where a target is in a sequence: at a place in the file, or in none

-- what is wanted at a place; behind the last step of a sequence the next one begins
abbrev pub step_at : List Step → ℕ → Step
step_at steps place = get_or steps place (Begin 0)

abbrev pub place_after : List Step → ℕ → ℕ
place_after steps place = if nat_lt place (length steps) then place + 1 else place

abbrev pub place_of : List (Option ℕ) → ℕ → Option ℕ
place_of places ce = get_or places ce None

-- ---- one cycle

abbrev pub is_command : Kind → Bool
is_command Cmd = true
is_command _ = false

abbrev pub is_address : Kind → Bool
is_address Adr = true
is_address _ = false

abbrev pub is_input : Kind → Bool
is_input Din = true
is_input _ = false

abbrev pub is_output : Kind → Bool
is_output Dout = true
is_output _ = false

-- the cycle is this step
abbrev pub wants : Step → Cycle → Bool
wants (Begin byte) c = false
wants (Command byte) c = is_command c.kind && c.byte == byte
wants AnyAddress c = is_address c.kind
wants (Address byte) c = is_address c.kind && c.byte == byte
wants Input c = is_input c.kind
wants Inputs c = is_input c.kind
wants Output c = is_output c.kind
wants Outputs c = is_output c.kind
wants Ready c = false

-- the sequence may be over here
abbrev pub may_end : Step → Bool
may_end (Begin byte) = true
may_end Inputs = true
may_end Outputs = true
may_end Ready = true
may_end _ = false

-- the place after a step that came
abbrev pub place_on : List Step → ℕ → ℕ
place_on steps place = if is_any_number (step_at steps place) then place else place_after steps place

-- ---- where a sequence begins

-- a sequence is open on a target: none may begin there, so 00 breaks that rule
abbrev pub is_sequence_open : Option Forbidden → Bool
is_sequence_open (Some SequenceOpen) = true
is_sequence_open _ = false

abbrev pub is_open : BusView → ℕ → Bool
is_open bus ce = is_sequence_open (judged bus (Cyc (record { ce = ce; kind = Cmd; byte = 0 })))

-- the byte of the next cycle of a target, if that is an address
abbrev pub address_in : Cycle → Option ℕ
address_in c = if is_address c.kind then Some c.byte else None

-- the cycle of an item, if it is one of this target
abbrev pub cycle_on : ℕ → Item → Option Cycle
cycle_on ce (Cyc c) = if c.ce == ce then Some c else None
cycle_on ce (Rdy _ _ _) = None
cycle_on ce (Ard _ _ _) = None

abbrev pub address_or : Option Cycle → Option ℕ → Option ℕ
address_or None later = later
address_or (Some c) later = address_in c

abbrev pub next_address : ℕ → (later : List Item) → Option ℕ
next_address ce [] = None
next_address ce (i ∷ later) = address_or (cycle_on ce i) (next_address ce later)

abbrev pub is_next : Option ℕ → ℕ → Bool
is_next None byte = false
is_next (Some next) byte = next == byte

-- the first step is the address that comes next
abbrev pub begins_with : Option ℕ → List Step → Bool
begins_with next (Address byte ∷ steps) = is_next next byte
begins_with next _ = false

-- the profile that a chip is read for
abbrev pub profile_of : Parts → Profile
profile_of g = if is_wide g.optional then Onfi else Base

-- this command begins the sequence at the front, and where it is one of the profile's, the address that comes next
abbrev pub is_begun : Profile → (byte : ℕ) → (next : Option ℕ) → List Step → Bool
is_begun profile byte next (Begin first ∷ steps) = first == byte && (not (is_profile profile byte) || begins_with next steps)
is_begun profile byte next _ = false

-- the place of the first step of the sequence that is begun so, of which the first has number n
abbrev pub first_step : Profile → (n byte : ℕ) → (next : Option ℕ) → List Step → Option ℕ
first_step profile n byte next [] = None
first_step profile n byte next (step ∷ steps) = if is_begun profile byte next (step ∷ steps) then Some (n + 1) else first_step profile (n + 1) byte next steps

abbrev pub begun_at : Profile → List Step → Cycle → (later : List Item) → Option ℕ
begun_at profile steps c later = if is_command c.kind then first_step profile 0 c.byte (next_address c.ce later) steps else None

-- ---- what becomes of an item

abbrev pub kept_in : Option ℕ → Part
kept_in place = record { rule = None; is_kept = true; begins = false; place = place }

abbrev pub passed : ℕ → Part
passed place = record { rule = None; is_kept = false; begins = false; place = Some place }

abbrev pub begun_by : Option ℕ → Part
begun_by None = kept_in None
begun_by (Some place) = record { rule = None; is_kept = false; begins = true; place = Some place }

-- one begins where the target is between sequences
abbrev pub begun_between : BusView → ℕ → Option ℕ → Part
begun_between bus ce None = kept_in None
begun_between bus ce (Some place) = if is_open bus ce then kept_in None else begun_by (Some place)

-- a cycle of a target that is in no sequence
abbrev pub outside : List Step → BusView → Cycle → (later : List Item) → Part
outside steps bus c later = begun_between bus c.ce (begun_at (profile_of bus.geometry) steps c later)

-- the rule that a cycle breaks that isn't next
abbrev pub rule_of : Profile → Kind → ℕ → Forbidden
rule_of profile Cmd byte = if is_profile profile byte then CommandMisplaced else CommandUnknown
rule_of profile Adr byte = AddressMisplaced
rule_of profile Din byte = InputMisplaced
rule_of profile Dout byte = NoSoleDriver

abbrev pub opens : Cycle → Option ℕ → Bool
opens c None = begins_alone (target_cycle c.kind c.byte)
opens c (Some place) = true

-- a cycle that isn't next: what begins a sequence drops the one that it comes in, and all else is as if it hadn't come
abbrev pub broken_by : Profile → Cycle → ℕ → (begun : Option ℕ) → Part
broken_by profile c place begun =
    if opens c begun then record (begun_by begun) { rule = Some SequenceOpen } else record { rule = Some (rule_of profile c.kind c.byte); is_kept = false; begins = false; place = Some place }

-- a cycle of a target that is at this place
abbrev pub inside : List Step → BusView → ℕ → Cycle → (later : List Item) → Part
inside steps bus place c later =
    if wants (step_at steps place) c then passed (place_on steps place) else (
    if may_end (step_at steps place) then outside steps bus c later else broken_by (profile_of bus.geometry) c place (begun_at (profile_of bus.geometry) steps c later))

abbrev pub part_of_cycle : List Step → BusView → Option ℕ → Cycle → (later : List Item) → Part
part_of_cycle steps bus None c later = outside steps bus c later
part_of_cycle steps bus (Some place) c later = inside steps bus place c later

-- ---- one ready

-- the place of the ready that may come at a place
abbrev pub ready_place : List Step → ℕ → Option ℕ
ready_place steps place =
    if is_ready (step_at steps place) then Some place else (
    if is_any_number (step_at steps place) && is_ready (step_at steps (place_after steps place)) then Some (place_after steps place) else None)

abbrev pub ready_on : List Step → Option ℕ → Option ℕ
ready_on steps None = None
ready_on steps (Some place) = ready_place steps place

-- the LUN is there, and doesn't work
abbrev pub is_idle : Option LunState → Bool
is_idle None = false
is_idle (Some lun) = not lun.busy

abbrev pub passed_ready : List Step → (place ready : Option ℕ) → Bool → Part
passed_ready steps place None idle = kept_in place
passed_ready steps place (Some ready) idle = if idle then passed (place_after steps ready) else kept_in place

abbrev pub part_of_ready : List Step → BusView → Option ℕ → (ce lun : ℕ) → Part
part_of_ready steps bus place ce lun = passed_ready steps place (ready_on steps place) (is_idle (looked bus (record { ce = ce; lun = lun })))

-- ---- all items

abbrev pub part_of : List Step → Passing → Item → (later : List Item) → Part
part_of steps p (Cyc c) later = part_of_cycle steps p.state.bus (place_of p.places c.ce) c later
part_of steps p (Rdy ce lun fail) later = part_of_ready steps p.state.bus (place_of p.places ce) ce lun
part_of steps p (Ard ce lun fail) later = kept_in (place_of p.places ce)

-- the channel after an item that is kept; one that is passed over leaves it as it was
abbrev pub state_after : Readies → TraceState → Item → (later : List Item) → (is_kept : Bool) → TraceState
state_after readies state i later is_kept = if is_kept then gone_on i (before_item readies state i later) else state

abbrev pub after_part : Readies → Passing → Item → (later : List Item) → Part → Passing
after_part readies p i later part = record { state = state_after readies p.state i later part.is_kept; places = slice_set p.places (target_of i) part.place }

abbrev pub parts_from : List Step → Readies → Passing → List Item → List Part
parts_from steps readies p [] = []
parts_from steps readies p (i ∷ items) = part_of steps p i items ∷ parts_from steps readies (after_part readies p i items (part_of steps p i items)) items

-- before the first item
abbrev pub beginning : Parts → ℕ → List Item → Passing
beginning g targets items = record { state = fresh_for g targets items; places = replicate 4 None }

-- what becomes of each item of a trace
abbrev pub parts_of : List Step → Readies → Parts → ℕ → List Item → List Part
parts_of steps readies g targets items = parts_from steps readies (beginning g targets items) items
