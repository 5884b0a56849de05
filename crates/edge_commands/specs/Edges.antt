-- What judging the edges of a capture comes to.
use Rattle.std.specs.Prelude.{◌≡◌, ◌⊎◌, ◌++◌, ℕ, List, [], ◌∷◌, Option, Ok, None}
use Rattle.std.specs.Option.{option_map}
use Rattle.seq_files.specs.Store.{Store, Holds}
use Rattle.nand_geometry.specs.declared.parts.Parts.{Parts}
use Rattle.nand_geometry.specs.Reading.{read_as}
use Rattle.bus_capture.specs.declared.reading.Setup.{Setup}
use Rattle.bus_capture.specs.declared.inferring.Stamped.{Stamped}
use Rattle.bus_capture.specs.Inferring.{captured}
use Rattle.recording.specs.declared.recording_fault.RecordingFault.{RecordingFault}
use Rattle.recording.specs.declared.recording_fault.RecordingFault.TheVariants.{Edge}
use Rattle.recording.specs.declared.recording_stop.RecordingStop.{RecordingStop}
use Rattle.recording.specs.declared.recording_stop.RecordingStop.TheVariants.{Stop as ForAll, Faulty}
use Rattle.recording.specs.Captures.{RefusesCapture, AreSaid}
use Rattle.recording.specs.Recordings.{fault_line}
use Rattle.recording.specs.Targets.{count_of}
use Rattle.recording.specs.Times.{RefusesTiming}
use Rattle.seq_inputs.specs.Stops.{RefusesNothing}
use Rattle.trace_timing.specs.declared.timing_fault.TimingFault.TheVariants.{NoTimes}
use Rattle.edge_timing.specs.declared.edge_fault.EdgeFault.TheVariants.{Pause}
use Rattle.edge_timing.specs.Codes.{fault_of as fault_of_timing}
use Rattle.edge_timing.specs.declared.judge.EdgeViolation.{EdgeViolation}
use Rattle.edge_commands.specs.declared.edge_request.EdgeRequest.{EdgeRequest}

-- ---- edges that come too soon

abbrev pub fault_of : EdgeViolation → RecordingFault
fault_of late = Edge (fault_of_timing late.timing) late.time

-- a line for each
abbrev pub late_lines : List EdgeViolation → List ℕ
late_lines [] = []
late_lines (found ∷ late) = fault_line (fault_of found) ++ late_lines late

-- ---- a capture whose edges are judged

-- it is read so for a request: of this geometry, and with the signals that are said
pub record IsEdgeSetup (request : EdgeRequest) (g : Parts) (setup : Setup) : Type 0 where
  pub form : setup.form ≡ request.form
  pub geometry : setup.geometry ≡ g
  pub targets : setup.targets ≡ count_of request.targets
  pub mappings : AreSaid (option_map (λ line. line.now) request.mappings) setup.mappings.now
  pub glitch : setup.glitch ≡ 0
  pub late : setup.late ≡ None

-- the capture at the path shows the items of a bus of this geometry
pub record AreJudgedIn (files : Option Store) (request : EdgeRequest) (g : Parts) : Type 0 where
  pub setup : Setup
  pub is_setup : IsEdgeSetup request g setup
  pub bytes : List ℕ
  pub is_there : Holds files request.input.now bytes
  pub items : List Stamped
  pub shows : captured setup bytes ≡ Ok items

-- and the page declares that geometry
pub record AreEdgesJudged (files : Option Store) (request : EdgeRequest) : Type 0 where
  pub page : List ℕ
  pub is_page : Holds files request.page.now page
  pub g : Parts
  pub declares : read_as request.profile page ≡ Ok g
  pub judged : AreJudgedIn files request g

-- ---- one whose edges aren't

-- the capture has this fault
pub record IsNoCapture (files : Option Store) (request : EdgeRequest) (g : Parts) (fault : RecordingFault) : Type 0 where
  pub setup : Setup
  pub is_setup : IsEdgeSetup request g setup
  pub bytes : List ℕ
  pub is_there : Holds files request.input.now bytes
  pub refuses : RefusesCapture setup bytes fault

-- or no two edges of it can be compared
abbrev pub IsNotJudgedIn : Option Store → EdgeRequest → Parts → RecordingFault → Type 0
IsNotJudgedIn files request g fault = (fault ≡ Edge (Pause NoTimes) 0) ⊎ IsNoCapture files request g fault

pub record IsNotJudgedAt (files : Option Store) (request : EdgeRequest) (fault : RecordingFault) : Type 0 where
  pub page : List ℕ
  pub is_page : Holds files request.page.now page
  pub g : Parts
  pub declares : read_as request.profile page ≡ Ok g
  pub refuses : IsNotJudgedIn files request g fault

-- the timing file has a fault, or the capture has
abbrev pub EdgesRefuse : Option Store → EdgeRequest → RecordingFault → Type 0
EdgesRefuse files request fault = RefusesTiming files request.source fault ⊎ IsNotJudgedAt files request fault

-- ---- what is told

-- edges of the capture come too soon, of which this is the first that is told
pub record AreLate (files : Option Store) (request : EdgeRequest) (fault : RecordingFault) (printed : List ℕ) : Type 0 where
  pub judged : AreEdgesJudged files request
  pub first : EdgeViolation
  pub late : List EdgeViolation
  pub is_first : fault ≡ fault_of first
  pub lines : printed ≡ late_lines (first ∷ late)

-- what is found wrong, and what is printed then
abbrev pub EdgesTell : Option Store → EdgeRequest → RecordingFault → (printed : List ℕ) → Type 0
EdgesTell files request fault printed = (EdgesRefuse files request fault × (printed ≡ fault_line fault)) ⊎ AreLate files request fault printed

-- ---- why a step isn't done

abbrev pub IsNotJudged : RecordingStop → Type 0
IsNotJudged (ForAll stop) = ⊥
IsNotJudged (Faulty fault words) = fault ≡ Edge (Pause NoTimes) 0

abbrev pub MayNotBeJudged : RecordingStop → Type 0
MayNotBeJudged (ForAll stop) = RefusesNothing stop
MayNotBeJudged (Faulty fault words) = fault ≡ Edge (Pause NoTimes) 0
