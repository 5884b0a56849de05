-- What a capture comes to: which trace it shows, and where that goes.
use Rattle.std.specs.Prelude.{◌≡◌, ◌⊎◌, ◌==◌, ℕ, Bool, true, false, List, [], ◌∷◌, map, get_or, codes, Option, Some, None, Result, Ok, Err}
use Rattle.std.specs.List.{before_first, after_first, slice_split}
use Rattle.std.specs.Option.{option_map}
use Rattle.std.specs.Borrow.{Bor}
use Rattle.seq_files.specs.Store.{Store, Holds, with_file}
use Rattle.seq_files.specs.declared.converting.NotConverted.{NotConverted}
use Rattle.seq_files.specs.declared.converting.NotConverted.TheVariants.{Input, Output, Refused}
use Rattle.nand_geometry.specs.declared.parts.Parts.{Parts}
use Rattle.onfi_cycle.specs.declared.item.Item.{Item}
use Rattle.onfi_cycle.specs.declared.item.Item.TheVariants.{Cyc}
use Rattle.onfi_cycle.specs.declared.item.Kind.TheVariants.{Cmd}
use Rattle.bus_signals.specs.declared.mapping.Mapping.{Mapping}
use Rattle.bus_capture.specs.declared.inferring.Stamped.{Stamped}
use Rattle.bus_capture.specs.declared.reading.Setup.{Setup}
use Rattle.bus_capture.specs.declared.fault.CaptureFault.{CaptureFault}
use Rattle.bus_capture.specs.declared.fault.CaptureRefusal.{CaptureRefusal}
use Rattle.bus_capture.specs.declared.fault.CaptureRefusal.TheVariants as refusal
use Rattle.bus_capture.specs.Inferring.{captured}
use Rattle.bus_capture.specs.Tracing.{comes, IsCapturing}
use Rattle.trace_text.specs.Line.{text}
use Rattle.trace_text.specs.declared.recorded_item.TimedItem.{TimedItem}
use Rattle.trace_text.specs.Recorded.{timed_text}
use Rattle.trace_faults.specs.declared.broken_rule.BrokenRule.{BrokenRule}
use Rattle.trace_faults.specs.declared.readies.Readies.TheVariants.{Written}
use Rattle.vendor_file.specs.declared.step.Step.{Step}
use Rattle.vendor_file.specs.Carried.{kept_places, broken_lines}
use Rattle.seq_inputs.specs.Inputs.{HasPageAs}
use Rattle.recording.specs.declared.capture_converter.CaptureConverter.{CaptureConverter}
use Rattle.recording.specs.declared.capture_request.CaptureRequest.{CaptureRequest}
use Rattle.recording.specs.declared.recording_fault.RecordingFault.{RecordingFault}
use Rattle.recording.specs.declared.recording_fault.RecordingFault.TheVariants.{Capture, Item as ItemAt}
use Rattle.recording.specs.declared.recording_stop.RecordingStop.{RecordingStop}
use Rattle.recording.specs.Endings.{SaysOf, SaysNothing}
use Rattle.recording.specs.Targets.{count_of}
use Rattle.recording.specs.Vendors.{AreSteps, StepsAreRefused}

-- ---- what is said of signals: ROLE=NAME, with commas (44) between several; 61 is the sign between the two

pub record Saying : Type 0 where
  pub role : List ℕ
  pub name : List ℕ

abbrev pub saying_of : List ℕ → Saying
saying_of part = record { role = before_first (λ b. b == 61) part; name = after_first (λ b. b == 61) part }

abbrev pub parts : List ℕ → List (List ℕ)
parts line = slice_split (λ b. b == 44) line

abbrev pub sayings_in : List ℕ → List Saying
sayings_in line = map saying_of (parts line)

abbrev pub sayings_of : Option (List ℕ) → List Saying
sayings_of None = []
sayings_of (Some line) = sayings_in line

abbrev pub said : Mapping → Saying
said m = record { role = m.role.now; name = m.name.now }

-- these mappings are what is said
abbrev pub AreSaid : Option (List ℕ) → List Mapping → Type 0
AreSaid line mappings = map said mappings ≡ sayings_of line

-- a capture is read so for a request: of this geometry, and with the signals that are said
pub record IsSetup (request : CaptureRequest) (g : Parts) (setup : Setup) : Type 0 where
  pub form : setup.form ≡ request.form
  pub geometry : setup.geometry ≡ g
  pub targets : setup.targets ≡ count_of request.targets
  pub mappings : AreSaid (option_map (λ line. line.now) request.mappings) setup.mappings.now
  pub glitch : setup.glitch ≡ request.glitch
  pub late : setup.late ≡ request.late

-- ---- what is seen

abbrev pub items_in : List Stamped → List Item
items_in stamped = map (λ s. s.item) stamped

abbrev pub timed : Stamped → TimedItem
timed s = record { time = s.time; item = s.item }

abbrev pub timed_in : List Stamped → List TimedItem
timed_in stamped = map timed stamped

-- the text of what is seen, with the times or without
abbrev pub seen_text : (has_times : Bool) → List Stamped → List ℕ
seen_text false stamped = text (items_in stamped)
seen_text true stamped = timed_text (timed_in stamped)

-- the capture at the path shows these items
pub record IsSeen (files : Option Store) (request : CaptureRequest) (setup : Setup) (stamped : List Stamped) : Type 0 where
  pub capture : List ℕ
  pub is_there : Holds files request.input.now capture
  pub is_captured : captured setup capture ≡ Ok stamped

-- ---- what is left without the items of a vendor's sequences

-- what is seen at a place
abbrev pub seen_at : List Stamped → ℕ → Stamped
seen_at stamped place = get_or stamped place (record { time = 0; item = Cyc (record { ce = 0; kind = Cmd; byte = 0 }) })

-- the items at these places, each with its time
abbrev pub at_places : List ℕ → List Stamped → List Stamped
at_places places stamped = map (seen_at stamped) places

-- those that belong to no sequence of these steps, and the cycles that aren't next in one
abbrev pub left_seen : List Step → Setup → List Stamped → List Stamped
left_seen steps setup stamped = at_places (kept_places steps Written setup.geometry setup.targets (items_in stamped)) stamped

abbrev pub left_broken : List Step → Setup → List Stamped → List BrokenRule
left_broken steps setup stamped = broken_lines steps Written setup.geometry setup.targets (items_in stamped)

-- what is left where these steps are passed over: all, where there are none
abbrev pub kept_seen : List Step → Setup → List Stamped → List Stamped
kept_seen [] setup stamped = stamped
kept_seen (step ∷ steps) setup stamped = left_seen (step ∷ steps) setup stamped

abbrev pub broken_seen : List Step → Setup → List Stamped → List BrokenRule
broken_seen [] setup stamped = []
broken_seen (step ∷ steps) setup stamped = left_broken (step ∷ steps) setup stamped

-- each sequence is whole in these items, and this is the text of those that belong to none
pub record IsKeptText (has_times : Bool) (setup : Setup) (steps : List Step) (stamped : List Stamped) (made : List ℕ) : Type 0 where
  pub whole : broken_seen steps setup stamped ≡ []
  pub is_text : made ≡ seen_text has_times (kept_seen steps setup stamped)

-- ---- what is written or printed

-- the capture at the path shows such items
pub record IsShown (files : Option Store) (request : CaptureRequest) (setup : Setup) (steps : List Step) (made : List ℕ) : Type 0 where
  pub stamped : List Stamped
  pub seen : IsSeen files request setup stamped
  pub kept : IsKeptText request.has_times setup steps stamped made

-- a text is handed on to be printed, and no file changes; or it is written to the path, and no other file changes
abbrev pub IsGiven : (files later : Option Store) → Option (Bor (List ℕ)) → (made : List ℕ) → (handed : Option (List ℕ)) → Type 0
IsGiven files later None made handed = (later ≡ files) × (handed ≡ Some made)
IsGiven files later (Some path) made handed = (later ≡ with_file files path.now made) × (handed ≡ None)

-- so is the trace that a capture shows
pub record IsHandedOn (files later : Option Store) (request : CaptureRequest) (setup : Setup) (steps : List Step) (handed : Option (List ℕ)) : Type 0 where
  pub made : List ℕ
  pub shown : IsShown files request setup steps made
  pub given : IsGiven files later request.target made handed

-- of targets of the geometry of the page, without the sequences of the vendor file
pub record IsCaptured (files later : Option Store) (request : CaptureRequest) (handed : Option (List ℕ)) : Type 0 where
  pub g : Parts
  pub has_page : HasPageAs files request.profile request.page.now g
  pub steps : List Step
  pub are_steps : AreSteps files request.profile request.vendor steps
  pub setup : Setup
  pub is_setup : IsSetup request g setup
  pub handed_on : IsHandedOn files later request setup steps handed

-- what is printed then
abbrev pub text_printed : Option (List ℕ) → List ℕ
text_printed None = codes "ok\n"
text_printed (Some text) = text

-- ---- a capture that becomes a text piece by piece

-- the capture at the path shows these items, and their text is written to a path; no other file changes
pub record IsConverted (files later : Option Store) (request : CaptureRequest) (setup : Setup) (path : List ℕ) : Type 0 where
  pub stamped : List Stamped
  pub seen : IsSeen files request setup stamped
  pub written : later ≡ with_file files path (seen_text request.has_times stamped)

-- what it comes to, and the bytes of its text
abbrev pub Shows : (has_times : Bool) → Result (List Stamped) CaptureFault → List ℕ → Type 0
Shows has_times result made = (stamped : List Stamped) × (result ≡ Ok stamped) × (made ≡ seen_text has_times stamped)

-- nothing is read yet
pub record IsConverter (setup : Setup) (has_times : Bool) (c : CaptureConverter) : Type 0 where
  pub capturing : IsCapturing c.reader
  pub comes_to : (text : List ℕ) → comes c.reader [] text ≡ captured setup text
  pub times : c.has_times ≡ has_times

-- ---- what is refused

-- the first fault of a capture
abbrev pub RefusesCapture : Setup → List ℕ → RecordingFault → Type 0
RefusesCapture setup capture (Capture fault) = captured setup capture ≡ Err fault
RefusesCapture setup capture _ = ⊥

-- that of the capture at the path
pub record ConversionRefuses (files : Option Store) (request : CaptureRequest) (setup : Setup) (fault : RecordingFault) : Type 0 where
  pub capture : List ℕ
  pub is_there : Holds files request.input.now capture
  pub refuses : RefusesCapture setup capture fault

-- the first of the cycles that aren't next is what is wrong
abbrev pub IsFirst : List BrokenRule → RecordingFault → Type 0
IsFirst [] fault = ⊥
IsFirst (first ∷ rest) fault = fault ≡ ItemAt first.rule first.item

-- so is it of the items that the capture at the path shows
pub record IsSequenceBroken (files : Option Store) (request : CaptureRequest) (setup : Setup) (steps : List Step) (fault : RecordingFault) : Type 0 where
  pub stamped : List Stamped
  pub seen : IsSeen files request setup stamped
  pub first : IsFirst (broken_seen steps setup stamped) fault

-- what is wrong with the capture at the path
abbrev pub CaptureRefuses : Option Store → CaptureRequest → Setup → List Step → RecordingFault → Type 0
CaptureRefuses files request setup steps fault = ConversionRefuses files request setup fault ⊎ IsSequenceBroken files request setup steps fault

pub record ShownIsRefused (files : Option Store) (request : CaptureRequest) (fault : RecordingFault) : Type 0 where
  pub g : Parts
  pub has_page : HasPageAs files request.profile request.page.now g
  pub steps : List Step
  pub are_steps : AreSteps files request.profile request.vendor steps
  pub setup : Setup
  pub is_setup : IsSetup request g setup
  pub refused : CaptureRefuses files request setup steps fault

-- what is wrong with the vendor file, if one is given, or with the capture
abbrev pub CaptureIsRefused : Option Store → CaptureRequest → RecordingFault → Type 0
CaptureIsRefused files request fault = StepsAreRefused files request.profile request.vendor fault ⊎ ShownIsRefused files request fault

-- what is said where nothing is converted: the fault, if there is one
abbrev pub SaysCapture : NotConverted CaptureRefusal → RecordingStop → Type 0
SaysCapture (Refused (refusal.Fault f)) stop = SaysOf (λ _. ⊥) (λ fault. fault ≡ Capture f) stop
SaysCapture (Refused refusal.OutOfMemory) stop = SaysNothing stop
SaysCapture (Input e) stop = SaysNothing stop
SaysCapture (Output e) stop = SaysNothing stop
