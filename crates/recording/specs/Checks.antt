-- What a check comes to: which trace is judged, what is found in it, and what is written.
use Rattle.std.specs.Prelude.{◌≡◌, ◌⊎◌, ℕ, true, false, Bool, List, [], Option, Some, None, Ok}
use Rattle.std.specs.Option.{option_map}
use Rattle.seq_files.specs.Store.{Store, Holds, with_file}
use Rattle.nand_geometry.specs.declared.parts.Parts.{Parts}
use Rattle.nand_geometry.specs.Reading.{read_as}
use Rattle.onfi_cycle.specs.declared.item.Item.{Item}
use Rattle.die_model.specs.Die.{Die}
use Rattle.trace_text.specs.Line.{text}
use Rattle.trace_text.specs.Forms.{IsTraceText}
use Rattle.trace_faults.specs.declared.broken_rule.BrokenRule.{BrokenRule}
use Rattle.trace_faults.specs.declared.unshown.NotShown.{NotShown}
use Rattle.trace_timing.specs.declared.violation.Violation.{Violation}
use Rattle.trace_timing.specs.declared.watch.TimedItem.{TimedItem}
use Rattle.trace_data.specs.declared.difference.Difference.{Difference}
use Rattle.vendor_file.specs.declared.step.Step.{Step}
use Rattle.seq_inputs.specs.declared.fault.Fault.{Fault}
use Rattle.seq_inputs.specs.Inputs.{PageIsRefused}
use Rattle.recording.specs.declared.check_request.CheckRequest.{CheckRequest}
use Rattle.recording.specs.declared.data_request.DataRequest.{DataRequest}
use Rattle.recording.specs.declared.recording_fault.RecordingFault.{RecordingFault}
use Rattle.recording.specs.declared.times_request.TimesRequest.{TimesRequest}
use Rattle.recording.specs.declared.time_rulers.TimeRulers.{TimeRulers}
use Rattle.recording.specs.declared.trace_view.TraceView.{TraceView}
use Rattle.recording.specs.Kept.{kept, kept_timed, some_breaks_off, faults_back, readies_back, late_back, differences_back}
use Rattle.recording.specs.Opened.{IsReplayedIf, ImagesAreRefused}
use Rattle.recording.specs.Rules.{told_of, judged_in, faults_in, not_shown_in}
use Rattle.recording.specs.Targets.{count_of}
use Rattle.recording.specs.Times.{AreRulers, AreLate, late_told, RefusesTimes}
use Rattle.recording.specs.Traces.{form_of, HasTimesIf, TraceIsRefused}
use Rattle.recording.specs.Vendors.{AreSteps}

-- how the trace is looked at, on chips of this geometry
abbrev pub view_of : CheckRequest → Parts → TraceView
view_of request g = record { geometry = g; targets = request.trace.targets; readies = request.readies; beginning = request.beginning }

abbrev pub is_asked : Option TimesRequest → Bool
is_asked None = false
is_asked (Some times) = true

-- ---- what is found

-- the faults that are told: those of what is kept, at their places, and the cycles that aren't next in a sequence
abbrev pub told_faults : CheckRequest → Parts → List Step → List Item → List BrokenRule
told_faults request g steps items =
    told_of request.tells_all (faults_back steps (view_of request g) items (faults_in (view_of request g) (kept steps (view_of request g) items)))

-- the readies that are taken for granted
abbrev pub assumed_readies : CheckRequest → Parts → List Step → List Item → List NotShown
assumed_readies request g steps items = readies_back steps (view_of request g) items (not_shown_in (view_of request g) (kept steps (view_of request g) items))

-- what comes too soon or takes too long by these rulers, as far as it is told beside these faults
pub record AreLateIn (rulers : Option TimeRulers) (request : CheckRequest) (g : Parts) (steps : List Step) (items : List Item) (timed : List TimedItem) (told : List BrokenRule) (late : List Violation) : Type 0 where
  pub all : List Violation
  pub all_is : AreLate rulers (view_of request g) (kept_timed steps (view_of request g) items timed) all
  pub late_is : late ≡ late_told request.tells_all told (late_back steps (view_of request g) items all)

-- how outputs differ from the dies that are given
pub record AreDifferent (files : Option Store) (request : CheckRequest) (given : Option DataRequest) (g : Parts) (steps : List Step) (items : List Item) (found : List Difference) (dies : List Die) (whole : List Item) : Type 0 where
  pub told : List Difference
  pub replayed : IsReplayedIf files (view_of request g) given (kept steps (view_of request g) items) told dies whole
  pub found_is : found ≡ differences_back steps (view_of request g) items told

-- ---- what is judged

-- the page and the files beside the trace are read
pub record AreInputs (files : Option Store) (request : CheckRequest) (g : Parts) (steps : List Step) (rulers : Option TimeRulers) : Type 0 where
  pub page : List ℕ
  pub is_page : Holds files request.trace.page.now page
  pub declares : read_as request.trace.profile page ≡ Ok g
  pub are_steps : AreSteps files request.trace.profile request.trace.vendor steps
  pub are_rulers : AreRulers files request.times page g rulers

-- and the text of the trace, with its times where they are asked for
pub record IsRead (files : Option Store) (request : CheckRequest) (items : List Item) (timed : List TimedItem) : Type 0 where
  pub text : List ℕ
  pub is_there : Holds files request.trace.input.now text
  pub is_text : IsTraceText (form_of (is_asked request.times) request.trace.form) request.trace.profile text items
  pub has_times : HasTimesIf (is_asked request.times) request.trace.profile text timed

-- where the trace that is judged is written: nowhere, if a sequence of the vendor breaks off, since what is left of it doesn't show that
abbrev pub copied_to : CheckRequest → (breaks_off : Bool) → Option (List ℕ)
copied_to request true = None
copied_to request false = option_map (λ path. path.now) request.copy

-- it is written where a path is given for it, and no other file changes
abbrev pub with_copy : Option (List ℕ) → List Item → Option Store → Option Store
with_copy None items files = files
with_copy (Some path) items files = with_file files path (text items)

abbrev pub IsCopied : (files later : Option Store) → CheckRequest → Parts → List Step → List Item → Type 0
IsCopied files later request g steps items =
    later ≡ with_copy (copied_to request (some_breaks_off steps (view_of request g) items)) (judged_in (view_of request g) (kept steps (view_of request g) items)) files

-- on chips of this geometry this is found of the trace of a request, and it is written where a path is given for it
pub record IsJudged (files later : Option Store) (request : CheckRequest) (given : Option DataRequest) (g : Parts) (told : List BrokenRule) (late : List Violation) (found : List Difference) (dies : List Die) (whole : List Item) (assumed : List NotShown) : Type 0 where
  pub steps : List Step
  pub rulers : Option TimeRulers
  pub inputs : AreInputs files request g steps rulers
  pub items : List Item
  pub timed : List TimedItem
  pub is_read : IsRead files request items timed
  pub told_is : told ≡ told_faults request g steps items
  pub assumed_is : assumed ≡ assumed_readies request g steps items
  pub late_is : AreLateIn rulers request g steps items timed told late
  pub different : AreDifferent files request given g steps items found dies whole
  pub copied : IsCopied files later request g steps items

-- ---- what is refused

-- an image that is given is refused
pub record ImageIsRefused (files : Option Store) (request : CheckRequest) (given : Option DataRequest) (fault : Fault) : Type 0 where
  pub page : List ℕ
  pub is_page : Holds files request.trace.page.now page
  pub g : Parts
  pub declares : read_as request.trace.profile page ≡ Ok g
  pub refuses : ImagesAreRefused files g (count_of request.trace.targets) given fault

-- the page is refused, or an image is
abbrev pub InputIsRefused : Option Store → CheckRequest → Option DataRequest → Fault → Type 0
InputIsRefused files request given fault = PageIsRefused files request.trace.page.now fault ⊎ ImageIsRefused files request given fault

-- the vendor file is refused, the timing file or the text of the trace
abbrev pub RecordingIsRefused : Option Store → CheckRequest → RecordingFault → Type 0
RecordingIsRefused files request fault = TraceIsRefused files (is_asked request.times) request.trace fault ⊎ RefusesTimes files request.times fault
