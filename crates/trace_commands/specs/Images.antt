-- What writing the image of a die comes to.
use Rattle.std.specs.Prelude.{◌≡◌, ◌⊎◌, ◌++◌, ℕ, true, false, List, [], ◌∷◌, if◌then◌else◌, Option, Some, None, codes, slice_get}
use Rattle.std.specs.Borrow.{Bor}
use Rattle.seq_files.specs.Store.{Store, with_file}
use Rattle.nand_geometry.specs.declared.parts.Parts.{Parts}
use Rattle.onfi_cycle.specs.declared.lun.Lun.{Lun}
use Rattle.onfi_cycle.specs.declared.item.Item.{Item}
use Rattle.die_model.specs.Die.{Die}
use Rattle.die_model.specs.Image.{image_of}
use Rattle.target_bus.specs.Bus.{Entries, number_of}
use Rattle.seq_core.specs.declared.job_fault.JobFault.TheVariants.{NoSuchLun}
use Rattle.seq_inputs.specs.declared.fault.Fault.{Fault}
use Rattle.seq_inputs.specs.declared.fault.Fault.TheVariants.{Job}
use Rattle.seq_inputs.specs.declared.style.Style.TheVariants.{Plain}
use Rattle.seq_inputs.specs.Inputs.{HasPageAs}
use Rattle.trace_faults.specs.declared.beginning.Beginning.TheVariants.{Start}
use Rattle.trace_faults.specs.declared.broken_rule.BrokenRule.{BrokenRule}
use Rattle.trace_faults.specs.declared.unshown.NotShown.{NotShown}
use Rattle.trace_data.specs.Reads.{PageBytes, page_reads, AreFilled}
use Rattle.trace_data.specs.declared.difference.Difference.{Difference}
use Rattle.recording.specs.declared.check_request.CheckRequest.{CheckRequest}
use Rattle.recording.specs.declared.recording_fault.RecordingFault.{RecordingFault}
use Rattle.recording.specs.Checks.{IsJudged, InputIsRefused, RecordingIsRefused}
use Rattle.recording.specs.Captures.{IsFirst}
use Rattle.trace_commands.specs.Reports.{fault_lines, assumed_lines}
use Rattle.recording.specs.Recordings.{fault_line}
use Rattle.recording.specs.Targets.{count_of}
use Rattle.recording.specs.declared.data_request.GivenImage.{GivenImage}
use Rattle.trace_commands.specs.declared.image_request.ImageRequest.{ImageRequest}
use Rattle.recording.specs.Opened.{has_lun}
use Rattle.recording.specs.declared.data_request.DataRequest.{DataRequest}
use Rattle.trace_timing.specs.declared.violation.Violation.{Violation}

-- how the trace is judged of which an image is made
abbrev pub check_of : ImageRequest → CheckRequest
check_of request = record {
  trace = request.trace;
  tells_all = false;
  readies = request.readies;
  assumes_ready = true;
  beginning = Start;
  judges_bytes = false;
  has_notes = false;
  times = None;
  dies = None;
  style = Plain;
  copy = None;
}

-- the image of what the die held, where that is given
abbrev pub image_on : Lun → Option (Bor (List ℕ)) → List GivenImage
image_on l None = []
image_on l (Some path) = record { lun = l; path = path } ∷ []

abbrev pub images_of : ImageRequest → List GivenImage
images_of request = image_on request.lun request.on

-- the pages that a request fills: those that the outputs of the LUN gave whole, or none
abbrev pub reads_for : ImageRequest → Parts → (whole : List Item) → List PageBytes
reads_for request g whole = if request.fills_reads then page_reads g (count_of request.trace.targets) request.lun whole else []

-- the image of a die, with the pages that were read and that it doesn't keep
pub record IsImage (die : Die) (reads : List PageBytes) (image : List ℕ) : Type 0 where
  pub pages : Entries
  pub filled : AreFilled reads die.pages pages
  pub image_is : image ≡ image_of (record die { pages = pages })

-- the trace at the path has these faults, and leaves these dies; where it has none, the channel has the LUN and the image of its die is written, and no other file
abbrev pub IsLeft : (files later : Option Store) → ImageRequest → Parts → (told : List BrokenRule) → List Die → (whole : List Item) → Type 0
IsLeft files later request g (fault ∷ told) dies whole = later ≡ files
IsLeft files later request g [] dies whole =
    (has_lun g (count_of request.trace.targets) request.lun ≡ true) × (die : Die) × (slice_get dies (number_of g request.lun) ≡ Some die)
    × (image : List ℕ) × IsImage die (reads_for request g whole) image × (later ≡ with_file files request.output.now image)

-- the dies are those of these images, and the others were erased
pub record AreDiesOf (images : List GivenImage) (given : DataRequest) : Type 0 where
  pub images_are : given.images.now ≡ images
  pub erased : given.are_erased ≡ true

pub record IsWrittenAt (files later : Option Store) (request : ImageRequest) (images : List GivenImage) (g : Parts) (told : List BrokenRule) (assumed : List NotShown) (dies : List Die) (whole : List Item) : Type 0 where
  pub given : DataRequest
  pub are_dies : AreDiesOf images given
  pub late : List Violation
  pub found : List Difference
  pub judged : IsJudged files files (check_of request) (Some given) g told late found dies whole assumed
  pub left : IsLeft files later request g told dies whole

-- a trace without faults leaves dies on a channel whose other dies were erased, and the image of the LUN's is written, and no other file
pub record IsDieWritten (files later : Option Store) (request : ImageRequest) (assumed : List NotShown) : Type 0 where
  pub g : Parts
  pub dies : List Die
  pub whole : List Item
  pub is_written : IsWrittenAt files later request (images_of request) g [] assumed dies whole

-- what is printed then
abbrev pub done_text : List NotShown → List ℕ
done_text assumed = codes "ok\n" ++ assumed_lines assumed

-- a channel of this geometry has no such LUN
abbrev pub LacksLun : ImageRequest → Parts → Fault → Type 0
LacksLun request g fault = (fault ≡ Job NoSuchLun) × (has_lun g (count_of request.trace.targets) request.lun ≡ false)

-- the page declares a geometry in which the channel has no such LUN
pub record HasNoLun (files : Option Store) (request : ImageRequest) (fault : Fault) : Type 0 where
  pub g : Parts
  pub has_page : HasPageAs files request.trace.profile request.trace.page.now g
  pub lacks : LacksLun request g fault

-- the page or an image is refused
pub record InputsAreRefused (files : Option Store) (request : ImageRequest) (images : List GivenImage) (fault : Fault) : Type 0 where
  pub given : DataRequest
  pub are_dies : AreDiesOf images given
  pub refuses : InputIsRefused files (check_of request) (Some given) fault

-- or there is no such LUN
abbrev pub RefusesAt : Option Store → ImageRequest → List GivenImage → Fault → Type 0
RefusesAt files request images fault = InputsAreRefused files request images fault ⊎ HasNoLun files request fault

abbrev pub ImageRefuses : Option Store → ImageRequest → Fault → Type 0
ImageRefuses files request fault = RefusesAt files request (images_of request) fault

-- the trace has faults, of which this is the first
pub record TraceHasFault (files later : Option Store) (request : ImageRequest) (fault : RecordingFault) (printed : List ℕ) : Type 0 where
  pub g : Parts
  pub told : List BrokenRule
  pub assumed : List NotShown
  pub dies : List Die
  pub whole : List Item
  pub is_written : IsWrittenAt files later request (images_of request) g told assumed dies whole
  pub first : IsFirst told fault
  pub lines : printed ≡ fault_lines told

-- what is found wrong with the trace or with a file beside it, and what is printed then
abbrev pub ImageTells : (files later : Option Store) → ImageRequest → RecordingFault → (printed : List ℕ) → Type 0
ImageTells files later request fault printed =
    (RecordingIsRefused files (check_of request) fault × (printed ≡ fault_line fault)) ⊎ TraceHasFault files later request fault printed
