-- Which trace is read: its items, and their times.
use Rattle.std.specs.Prelude.{◌≡◌, ◌⊎◌, ℕ, Bool, true, false, List, [], Option, Ok, Err, map}
use Rattle.seq_files.specs.Store.{Store, Holds}
use Rattle.nand_geometry.specs.declared.parts.Parts.{Parts}
use Rattle.nand_geometry.specs.declared.optional.Profile.{Profile}
use Rattle.onfi_cycle.specs.declared.item.Item.{Item}
use Rattle.trace_text.specs.declared.form.TraceForm.{TraceForm}
use Rattle.trace_text.specs.declared.form.TraceForm.TheVariants.{Recorded}
use Rattle.trace_text.specs.declared.recorded_item.RecordedItem.{RecordedItem}
use Rattle.trace_text.specs.declared.refusal.TraceRefusal.{TraceRefusal}
use Rattle.trace_text.specs.declared.refusal.TraceRefusal.TheVariants.{Fault as TraceFaultAt, OutOfMemory}
use Rattle.trace_text.specs.Forms.{IsTraceText, read_as}
use Rattle.trace_text.specs.Recorded.{recorded_items}
use Rattle.trace_timing.specs.declared.watch.TimedItem.{TimedItem}
use Rattle.seq_inputs.specs.Inputs.{HasPageAs}
use Rattle.recording.specs.declared.recording_fault.RecordingFault.{RecordingFault}
use Rattle.recording.specs.declared.recording_fault.RecordingFault.TheVariants.{Trace}
use Rattle.recording.specs.declared.trace_request.TraceRequest.{TraceRequest}
use Rattle.recording.specs.declared.recording_stop.RecordingStop.{RecordingStop}
use Rattle.recording.specs.Endings.{SaysOf, SaysNothing}
use Rattle.recording.specs.Vendors.{StepsAreRefused}

-- ---- items with their times

abbrev pub timed_of : RecordedItem → TimedItem
timed_of r = record { time = r.time; item = r.item }

abbrev pub item_of : TimedItem → Item
item_of i = i.item

-- the items of a recorded text with their times
abbrev pub HasTimes : Profile → List ℕ → List TimedItem → Type 0
HasTimes profile text timed = (items : List RecordedItem) × (recorded_items profile text ≡ Ok items) × (timed ≡ map timed_of items)

-- a text whose times are asked for is a recorded one
abbrev pub form_of : (has_times : Bool) → TraceForm → TraceForm
form_of true form = Recorded
form_of false form = form

abbrev pub HasTimesIf : (has_times : Bool) → Profile → List ℕ → List TimedItem → Type 0
HasTimesIf true profile text timed = HasTimes profile text timed
HasTimesIf false profile text timed = timed ≡ []

-- ---- what is refused

-- the first fault of the text of a trace, which is to have this form and to be of this profile
abbrev pub RefusesTrace : TraceForm → Profile → List ℕ → RecordingFault → Type 0
RefusesTrace form profile text (Trace fault line) = read_as form profile text ≡ Err (TraceFaultAt fault line)
RefusesTrace form profile text _ = ⊥

-- that of the text at the path
pub record TextIsRefused (files : Option Store) (form : TraceForm) (profile : Profile) (input : List ℕ) (fault : RecordingFault) : Type 0 where
  pub text : List ℕ
  pub is_there : Holds files input text
  pub refuses : RefusesTrace form profile text fault

-- the page declares a geometry, and the vendor file is refused, if one is given, or the text of the trace
pub record TraceIsRefused (files : Option Store) (has_times : Bool) (request : TraceRequest) (fault : RecordingFault) : Type 0 where
  pub g : Parts
  pub has_page : HasPageAs files request.profile request.page.now g
  pub refuses : StepsAreRefused files request.profile request.vendor fault ⊎ TextIsRefused files (form_of has_times request.form) request.profile request.input.now fault

-- what is said where a text isn't read: the fault with its line, if there is one
abbrev pub SaysText : TraceRefusal → RecordingStop → Type 0
SaysText (TraceFaultAt fault line) stop = SaysOf (λ _. ⊥) (λ told. told ≡ Trace fault line) stop
SaysText OutOfMemory stop = SaysNothing stop
