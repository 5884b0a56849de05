-- The image of a die is written.
use Rattle.std.proofs.Common.{◌≡◌, ◌<◌, ◌≤◌, ◌*◌, ℕ, Bool, Option, Some, List, [], ◌∷◌, length, get_or, Result, Ok, Err, OnOk, None, inl, inr, ap, sym, subst, ◌∙◌, arith, refl, true, false}
use Rattle.std.specs.Prelude.{slice_get}
use Rattle.std.proofs.lemmas.Option.{slice_get-get_or}
use Rattle.seq_files.specs.Store.{Store, with_file}
use Rattle.die_model.specs.Die.{Die}
use Rattle.nand_geometry.specs.declared.parts.Parts.{Parts}
use Rattle.onfi_cycle.specs.declared.item.Item.{Item}
use Rattle.trace_faults.specs.declared.broken_rule.BrokenRule.{BrokenRule}
use Rattle.trace_faults.specs.declared.unshown.NotShown.{NotShown}
use Rattle.trace_data.specs.Reads.{PageBytes}
use Rattle.trace_data.specs.declared.difference.Difference.{Difference}
use Rattle.recording.specs.declared.check_request.CheckRequest.{CheckRequest}
use Rattle.recording.specs.declared.recording_fault.RecordingFault.{RecordingFault}
use Rattle.recording.specs.declared.recording_fault.RecordingFault.TheVariants.{Item as ItemAt}
use Rattle.recording.specs.Captures.{IsFirst}
use Rattle.recording.specs.declared.data_request.DataRequest.{DataRequest}
use Rattle.recording.specs.Kept.{kept, some_breaks_off}
use Rattle.recording.specs.Rules.{judged_in}
use Rattle.recording.specs.Checks.{view_of, copied_to, with_copy, IsJudged, InputIsRefused, RecordingIsRefused}
use Rattle.recording.specs.Endings.{SaysOf}
use Rattle.recording.specs.declared.recording_stop.RecordingStop.{RecordingStop}
use Rattle.recording.specs.declared.recording_stop.RecordingStop.TheVariants.{Stop as ForAll, Faulty}
use Rattle.seq_inputs.specs.declared.fault.Fault.{Fault}
use Rattle.seq_inputs.specs.declared.stop.Stop.{Stop}
use Rattle.seq_inputs.specs.declared.stop.Stop.TheVariants.{Refused, FileFault, ReaderGone, BuffersTooLarge, OutOfMemory}
use Rattle.seq_inputs.specs.Stops.{Says}
use Rattle.trace_timing.specs.declared.violation.Violation.{Violation}
use Rattle.trace_commands.specs.Reports.{fault_lines}
use Rattle.recording.specs.Targets.{count_of}
use Rattle.recording.specs.declared.data_request.GivenImage.{GivenImage}
use Rattle.trace_commands.specs.declared.image_request.ImageRequest.{ImageRequest}
use Rattle.trace_commands.specs.Images.{check_of, images_of, IsImage, IsLeft, AreDiesOf, IsWrittenAt, IsDieWritten, InputsAreRefused, RefusesAt, TraceHasFault}

-- the image of a die, with pages that were read, is written
pub die_written : {X E : Type 0} (r : Result X E) (dies : List Die) (n place : ℕ) (d default : Die) (reads given : List PageBytes) (image bytes : List ℕ) (old new : Option Store) (path : List ℕ) → place ≡ n → place < length dies → d ≡ get_or dies place default → IsImage d given image → given ≡ reads → bytes ≡ image → OnOk r (new ≡ with_file old path bytes) → OnOk r ((x : Die) × (slice_get dies n ≡ Some x) × (i : List ℕ) × IsImage x reads i × (new ≡ with_file old path i))
die_written (Ok x) dies n place d default reads given image bytes old new path is_place inside is_die is are same written =
    let there : slice_get dies place ≡ Some d = slice_get-get_or dies place default inside ∙ ap Some (sym is_die) in
    (d, subst (λ (k : ℕ). slice_get dies k ≡ Some d) is_place there, image, subst (λ (rs : List PageBytes). IsImage d rs image) are is, written ∙ ap (with_file old path) same)
die_written (Err e) dies n place d default reads given image bytes old new path is_place inside is_die is are same written = tt

-- a die is left for each LUN of a trace that was judged on dies
pub dies_count : (files later : Option Store) (check : CheckRequest) (given : DataRequest) (g : Parts) (told : List BrokenRule) (late : List Violation) (found : List Difference) (dies : List Die) (whole : List Item) (assumed : List NotShown) →
    IsJudged files later check (Some given) g told late found dies whole assumed → length dies ≡ count_of check.trace.targets * g.luns
dies_count files later check given g told late found dies whole assumed j = j.different.replayed.replayed.judged.count

-- the trace is judged and its die written
pub written_at : (files judged later : Option Store) (request : ImageRequest) (images : List GivenImage) (given : DataRequest) (g : Parts) (told : List BrokenRule) (late : List Violation) (found : List Difference)
    (dies : List Die) (whole : List Item) (assumed : List NotShown) → given.images.now ≡ images → given.are_erased ≡ true → judged ≡ files → IsJudged files judged (check_of request) (Some given) g told late found dies whole assumed →
    IsLeft judged later request g told dies whole → IsWrittenAt files later request images g told assumed dies whole
written_at files judged later request images given g told late found dies whole assumed are erased same j left = record {
  given = given;
  are_dies = record { images_are = are; erased = erased };
  late = late;
  found = found;
  judged = subst (λ (f : Option Store). IsJudged files f (check_of request) (Some given) g told late found dies whole assumed) same j;
  left = subst (λ (f : Option Store). IsLeft f later request g told dies whole) same left;
}

never_copied : (request : ImageRequest) (breaks_off : Bool) → copied_to (check_of request) breaks_off ≡ None
never_copied request true = refl
never_copied request false = refl

-- a check that writes no trace leaves the files as they were
pub uncopied : (files later : Option Store) (request : ImageRequest) (given : DataRequest) (g : Parts) (told : List BrokenRule) (late : List Violation) (found : List Difference) (dies : List Die) (whole : List Item)
    (assumed : List NotShown) → IsJudged files later (check_of request) (Some given) g told late found dies whole assumed → later ≡ files
uncopied files later request given g told late found dies whole assumed j =
    let v = view_of (check_of request) g in
    j.copied ∙ ap (λ (c : Option (List ℕ)). with_copy c (judged_in v (kept j.steps v j.items)) files) (never_copied request (some_breaks_off j.steps v j.items))

-- what is refused of its inputs is refused of the command
says_more : {A : Type 0} (May More : Fault → Type 0) (stop : Stop A) → ((fault : Fault) → May fault → More fault) → Says May stop → Says More stop
says_more May More (Refused refusal words) more says = (more refusal.fault says.0, says.1)
says_more May More (FileFault path fault line) more says = says
says_more May More ReaderGone more says = says
says_more May More (BuffersTooLarge bytes line) more says = says
says_more May More OutOfMemory more says = says

recording_says_more : (May More : Fault → Type 0) (MayBe : RecordingFault → Type 0) (stop : RecordingStop) → ((fault : Fault) → May fault → More fault) → SaysOf May MayBe stop → SaysOf More MayBe stop
recording_says_more May More MayBe (ForAll stop) more says = says_more May More stop more says
recording_says_more May More MayBe (Faulty fault words) more says = says

pub inputs_refused : (files now : Option Store) (request : ImageRequest) (images : List GivenImage) (given : DataRequest) (stop : RecordingStop) → given.images.now ≡ images → given.are_erased ≡ true → now ≡ files →
    SaysOf (InputIsRefused now (check_of request) (Some given)) (RecordingIsRefused now (check_of request)) stop → SaysOf (RefusesAt files request images) (RecordingIsRefused files (check_of request)) stop
inputs_refused files now request images given stop are erased same says =
    recording_says_more (InputIsRefused files (check_of request) (Some given)) (RefusesAt files request images) (RecordingIsRefused files (check_of request)) stop
    (λ fault k. inl (record { given = given; are_dies = record { images_are = are; erased = erased }; refuses = k }))
    (subst (λ (f : Option Store). SaysOf (InputIsRefused f (check_of request) (Some given)) (RecordingIsRefused f (check_of request)) stop) same says)

-- the first of these is told of a trace, and no image is written
pub has_fault : (files later : Option Store) (request : ImageRequest) (g : Parts) (seen told : List BrokenRule) (assumed : List NotShown) (dies : List Die) (whole : List Item) (d : BrokenRule) (fault : RecordingFault) →
    seen ≡ told → 1 ≤ length seen → fault ≡ ItemAt (get_or seen 0 d).rule (get_or seen 0 d).item → IsWrittenAt files later request (images_of request) g told assumed dies whole → TraceHasFault files later request fault (fault_lines told)
has_fault files later request g [] told assumed dies whole d fault same some is written = absurd (omega (arith, some))
has_fault files later request g (first ∷ rest) told assumed dies whole d fault same some is written = record {
  g = g;
  told = told;
  assumed = assumed;
  dies = dies;
  whole = whole;
  is_written = written;
  first = subst (λ (fs : List BrokenRule). IsFirst fs fault) same is;
  lines = refl;
}

pub left_alone : (files later : Option Store) (request : ImageRequest) (g : Parts) (seen told : List BrokenRule) (assumed : List NotShown) (dies : List Die) (whole : List Item) → seen ≡ told → 1 ≤ length seen →
    IsWrittenAt files later request (images_of request) g told assumed dies whole → later ≡ files
left_alone files later request g [] told assumed dies whole same some written = absurd (omega (arith, some))
left_alone files later request g (first ∷ rest) told assumed dies whole same some written = subst (λ (fs : List BrokenRule). IsLeft files later request g fs dies whole) (sym same) written.left

-- nothing is told of a trace, and the image is written
pub is_die : (files later : Option Store) (request : ImageRequest) (g : Parts) (seen told : List BrokenRule) (assumed : List NotShown) (dies : List Die) (whole : List Item) → seen ≡ told → length seen < 1 →
    IsWrittenAt files later request (images_of request) g told assumed dies whole → IsDieWritten files later request assumed
is_die files later request g [] told assumed dies whole same none written = record {
  g = g;
  dies = dies;
  whole = whole;
  is_written = subst (λ (fs : List BrokenRule). IsWrittenAt files later request (images_of request) g fs assumed dies whole) (sym same) written;
}
is_die files later request g (first ∷ rest) told assumed dies whole same none written = absurd (omega (arith, none))
