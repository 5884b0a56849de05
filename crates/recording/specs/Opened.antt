-- The dies of a channel before a trace, by the images that are given; and what comes of the trace on them.
use Rattle.std.specs.Prelude.{◌≡◌, ◌⊎◌, ◌*◌, ◌&&◌, nat_lt, ⊤, ℕ, Bool, true, false, List, [], ◌∷◌, Option, Some, None, set, replicate, map}
use Rattle.seq_files.specs.Store.{Store, Holds}
use Rattle.nand_geometry.specs.declared.parts.Parts.{Parts}
use Rattle.onfi_cycle.specs.declared.item.Item.{Item}
use Rattle.onfi_cycle.specs.declared.lun.Lun.{Lun}
use Rattle.onfi_cycle.specs.Channel.{Channel}
use Rattle.die_model.specs.Die.{Die, new_die}
use Rattle.die_model.specs.Loading.{image_fault, IsLoaded}
use Rattle.target_bus.specs.Bus.{number_of, channel_on}
use Rattle.seq_core.specs.declared.job_fault.JobFault.TheVariants.{NoSuchLun}
use Rattle.seq_inputs.specs.declared.fault.Fault.{Fault}
use Rattle.seq_inputs.specs.declared.fault.Fault.TheVariants.{Image, Job}
use Rattle.trace_faults.specs.declared.broken_rule.BrokenRule.{BrokenRule}
use Rattle.trace_faults.specs.declared.readies.Readies.{Readies}
use Rattle.trace_faults.specs.declared.readies.Readies.TheVariants.{Written, Shown}
use Rattle.trace_data.specs.declared.difference.Difference.{Difference}
use Rattle.trace_data.specs.Data.{pages_in, IsJudged as IsJudgedOn}
use Rattle.trace_data.specs.Numbers.{cycle_places, numbers_of, numbered_by}
use Rattle.trace_data.specs.declared.opened_dies.OpenedDies.{OpenedDies}
use Rattle.recording.specs.declared.data_request.GivenImage.{GivenImage}
use Rattle.recording.specs.declared.data_request.DataRequest.{DataRequest}
use Rattle.recording.specs.declared.trace_view.TraceView.{TraceView}
use Rattle.recording.specs.Rules.{judged_trace}
use Rattle.recording.specs.Targets.{count_of}

-- a channel of so many targets has the LUN
abbrev pub has_lun : Parts → (targets : ℕ) → Lun → Bool
has_lun g targets l = nat_lt l.ce targets && nat_lt l.lun g.luns

-- ---- images that are given

-- the image is there, for a LUN of the channel, and the die has its pages, as a new die has that loads it
pub record IsGiven (files : Option Store) (g : Parts) (targets : ℕ) (image : GivenImage) (die : Die) : Type 0 where
  pub has : has_lun g targets image.lun ≡ true
  pub bytes : List ℕ
  pub is_there : Holds files image.path.now bytes
  pub faultless : image_fault g bytes ≡ None
  pub loaded : IsLoaded bytes (new_die g) die

-- each image is given for the die of its LUN, of which it is known then what it held
abbrev pub AreGiven : Option Store → Parts → (targets : ℕ) → List GivenImage → (dies later : List Die) → (known told : List Bool) → Type 0
AreGiven files g targets [] dies later known told = (later ≡ dies) × (told ≡ known)
AreGiven files g targets (image ∷ images) dies later known told =
    (die : Die) × IsGiven files g targets image die
    × AreGiven files g targets images (set dies (number_of g image.lun) die) later (set known (number_of g image.lun) true) told

-- the dies of a channel: erased ones, and those of the images; of the erased ones it is known what they held, where they were so at the beginning
abbrev pub AreOpened : Option Store → Parts → (targets : ℕ) → List GivenImage → (are_erased : Bool) → (dies : List Die) → (known : List Bool) → Type 0
AreOpened files g targets images are_erased dies known =
    AreGiven files g targets images (replicate (targets * g.luns) (new_die g)) dies (replicate (targets * g.luns) are_erased) known

-- ---- images that are refused

-- the channel has no such LUN; or the image has this fault first
abbrev pub ImageIsRefused : Option Store → Parts → (targets : ℕ) → GivenImage → Fault → Type 0
ImageIsRefused files g targets image (Job fault) = (fault ≡ NoSuchLun) × (has_lun g targets image.lun ≡ false)
ImageIsRefused files g targets image (Image fault) =
    (has_lun g targets image.lun ≡ true) × (bytes : List ℕ) × Holds files image.path.now bytes × (image_fault g bytes ≡ Some fault)
ImageIsRefused files g targets image _ = ⊥

-- one of the images is refused, and those before it are given
abbrev pub AreRefused : Option Store → Parts → (targets : ℕ) → List GivenImage → Fault → Type 0
AreRefused files g targets [] fault = ⊥
AreRefused files g targets (image ∷ images) fault =
    ImageIsRefused files g targets image fault ⊎ ((die : Die) × IsGiven files g targets image die × AreRefused files g targets images fault)

-- ---- what a step of the code leaves

-- from here on the rest of the images brings what all of them bring from the beginning on
pub record AreGoing (files : Option Store) (g : Parts) (targets : ℕ) (images rest : List GivenImage) (first dies : List Die) (before known : List Bool) : Type 0 where
  pub given : (later : List Die) (told : List Bool) → AreGiven files g targets rest dies later known told → AreGiven files g targets images first later before told
  pub refused : (fault : Fault) → AreRefused files g targets rest fault → AreRefused files g targets images fault

-- ---- a trace on its dies

-- what is told of the trace that is judged, by the numbers of the items that are written
abbrev pub numbered_as : Readies → (items whole : List Item) → List Difference → List Difference
numbered_as Written items whole told = told
numbered_as Shown items whole told = map (numbered_by (numbers_of (cycle_places 0 items) whole)) told

-- how the outputs of a trace that has come to the dies of a channel differ from them, up to its first item that isn't permitted, and the dies that it leaves
pub record IsReplayed (readies : Readies) (s : Channel) (known : List Bool) (items whole : List Item) (found : List Difference) (stopped : Option BrokenRule) (dies : List Die) : Type 0 where
  pub whole_is : whole ≡ judged_trace readies s.geometry s.targets items
  pub told : List Difference
  pub judged : IsJudgedOn s known whole told stopped dies
  pub found_is : found ≡ numbered_as readies items whole told

-- the dies before a trace are these, and it has come to them so
pub record IsReplayedOn (files : Option Store) (v : TraceView) (given : DataRequest) (items : List Item) (found : List Difference) (dies : List Die) (whole : List Item) : Type 0 where
  pub opened : List Die
  pub known : List Bool
  pub are_opened : AreOpened files v.geometry (count_of v.targets) given.images.now given.are_erased opened known
  pub stopped : Option BrokenRule
  pub replayed : IsReplayed v.readies (channel_on v.geometry (count_of v.targets) (map pages_in opened)) known items whole found stopped dies

-- where its data are judged
abbrev pub IsReplayedIf : Option Store → TraceView → Option DataRequest → List Item → List Difference → List Die → List Item → Type 0
IsReplayedIf files v None items found dies whole = found ≡ []
IsReplayedIf files v (Some given) items found dies whole = IsReplayedOn files v given items found dies whole

abbrev pub ImagesAreRefused : Option Store → Parts → (targets : ℕ) → Option DataRequest → Fault → Type 0
ImagesAreRefused files g targets None fault = ⊥
ImagesAreRefused files g targets (Some given) fault = AreRefused files g targets given.images.now fault

-- ---- the dies that a program opens

abbrev pub AreOpenedIf : Option Store → Parts → (targets : ℕ) → Option DataRequest → Option OpenedDies → Type 0
AreOpenedIf files g targets None opened = opened ≡ None
AreOpenedIf files g targets (Some given) None = ⊥
AreOpenedIf files g targets (Some given) (Some o) =
    AreOpened files g targets given.images.now given.are_erased o.dies.items o.known.items × (o.geometry ≡ g) × (o.targets ≡ targets)

-- they are those of the channel
abbrev pub AreOf : Parts → (targets : ℕ) → Option OpenedDies → Type 0
AreOf g targets None = ⊤
AreOf g targets (Some o) = (o.geometry ≡ g) × (o.targets ≡ targets)

-- what comes of a trace on them
abbrev pub AreReplayed : Readies → Option OpenedDies → List Item → List Difference → List Die → List Item → Type 0
AreReplayed readies None items found dies whole = found ≡ []
AreReplayed readies (Some o) items found dies whole =
    (stopped : Option BrokenRule) × IsReplayed readies (channel_on o.geometry o.targets (map pages_in o.dies.items)) o.known.items items whole found stopped dies
