-- A trace that is judged: what is told of it is what the definitions tell, at its places.
use Rattle.std.proofs.Common.{◌≡◌, ℕ, true, false, Bool, List, [], ◌∷◌, Option, Some, None, refl, sym, ap, subst, cond, take, map, inl, inr, ◌∙◌}
use Rattle.std.specs.List.{All}
use Rattle.std.specs.Option.{option_map}
use Rattle.seq_files.specs.Store.{Store}
use Rattle.nand_geometry.specs.declared.parts.Parts.{Parts}
use Rattle.onfi_cycle.specs.declared.item.Item.{Item}
use Rattle.die_model.specs.Die.{Die}
use Rattle.target_bus.specs.Bus.{channel_on}
use Rattle.trace_text.specs.Line.{IsPrintable}
use Rattle.trace_faults.specs.declared.broken_rule.BrokenRule.{BrokenRule}
use Rattle.trace_faults.specs.declared.unshown.NotShown.{NotShown}
use Rattle.trace_timing.specs.declared.violation.Violation.{Violation}
use Rattle.trace_timing.specs.declared.watch.TimedItem.{TimedItem}
use Rattle.trace_data.specs.Data.{pages_in}
use Rattle.trace_data.specs.declared.difference.Difference.{Difference}
use Rattle.trace_data.specs.declared.opened_dies.OpenedDies.{OpenedDies}
use Rattle.vendor_file.specs.declared.step.Step.{Step}
use Rattle.seq_inputs.specs.declared.fault.Fault.{Fault}
use Rattle.seq_inputs.specs.declared.stop.Stop.{Stop}
use Rattle.seq_inputs.specs.declared.stop.Stop.TheVariants.{Refused, FileFault, ReaderGone, BuffersTooLarge, OutOfMemory}
use Rattle.seq_inputs.specs.Stops.{Says}
use Rattle.recording.specs.declared.check_request.CheckRequest.{CheckRequest}
use Rattle.recording.specs.declared.data_request.DataRequest.{DataRequest}
use Rattle.recording.specs.declared.kept_trace.KeptTrace.{KeptTrace}
use Rattle.recording.specs.declared.recording_stop.RecordingStop.{RecordingStop}
use Rattle.recording.specs.declared.recording_stop.RecordingStop.TheVariants.{Stop as ForAll, Faulty}
use Rattle.recording.specs.declared.time_rulers.TimeRulers.{TimeRulers}
use Rattle.recording.specs.declared.trace_view.TraceView.{TraceView}
use Rattle.recording.specs.Checks.{view_of, is_asked, told_faults, assumed_readies, AreLateIn, AreDifferent, AreInputs, IsRead, copied_to, with_copy, IsJudged, InputIsRefused, RecordingIsRefused}
use Rattle.recording.specs.Endings.{SaysOf}
use Rattle.recording.specs.Kept.{kept, kept_timed, is_whole, places, broken, faults_from, readies_from, late_from, differences_from, faults_back, readies_back, late_back, differences_back, breaks_off, some_breaks_off, ArePlaces, IsKept}
use Rattle.recording.specs.Opened.{AreOf, AreOpenedIf, AreReplayed, IsReplayed, IsReplayedIf}
use Rattle.recording.specs.Rules.{told_of, judged_in, faults_in, not_shown_in}
use Rattle.recording.specs.Targets.{count_of}
use Rattle.recording.specs.Times.{AreLate, late_told}
use Rattle.recording.specs.Traces.{form_of, TextIsRefused}
use Rattle.recording.proofs.Kept.{items_printable}

-- ---- all faults of what is kept are asked for, or the first of a trace that is kept whole

first_once : (faults : List BrokenRule) → take 1 (take 1 faults) ≡ take 1 faults
first_once [] = refl
first_once (f ∷ faults) = refl

cut_so : (whole all : Bool) (at : List ℕ) (broken faults : List BrokenRule) →
    told_of all (faults_from whole at broken (told_of (cond whole all true) faults)) ≡ told_of all (faults_from whole at broken faults)
cut_so true true at broken faults = refl
cut_so true false at broken faults = first_once faults
cut_so false all at broken faults = refl

pub cut_once : (whole all asked : Bool) (at : List ℕ) (broken faults found carried told : List BrokenRule) → asked ≡ cond whole all true → found ≡ told_of asked faults →
    carried ≡ faults_from whole at broken found → told ≡ told_of all carried → told ≡ told_of all (faults_from whole at broken faults)
cut_once whole all asked at broken faults found carried told a f c t = rw (t, c, f, a) (cut_so whole all at broken faults)

-- ---- the places of what is kept are those of the trace without these steps

pub faults_at : (steps : List Step) (v : TraceView) (items : List Item) (whole : Bool) (at : List ℕ) (left faults : List BrokenRule) → ArePlaces steps v items whole at left →
    faults_from whole at left faults ≡ faults_back steps v items faults
faults_at [] v items whole at left faults are = ap (λ (w : Bool). faults_from w at left faults) are
faults_at (s ∷ steps) v items whole at left faults are = rw (are.0, are.1, are.2) refl

pub readies_at : (steps : List Step) (v : TraceView) (items : List Item) (whole : Bool) (at : List ℕ) (left : List BrokenRule) (told : List NotShown) → ArePlaces steps v items whole at left →
    readies_from whole at told ≡ readies_back steps v items told
readies_at [] v items whole at left told are = ap (λ (w : Bool). readies_from w at told) are
readies_at (s ∷ steps) v items whole at left told are = rw (are.0, are.1) refl

pub late_at : (steps : List Step) (v : TraceView) (items : List Item) (whole : Bool) (at : List ℕ) (left : List BrokenRule) (late : List Violation) → ArePlaces steps v items whole at left →
    late_from whole at late ≡ late_back steps v items late
late_at [] v items whole at left late are = ap (λ (w : Bool). late_from w at late) are
late_at (s ∷ steps) v items whole at left late are = rw (are.0, are.1) refl

pub differences_at : (steps : List Step) (v : TraceView) (items : List Item) (whole : Bool) (at : List ℕ) (left : List BrokenRule) (found : List Difference) → ArePlaces steps v items whole at left →
    differences_from whole at found ≡ differences_back steps v items found
differences_at [] v items whole at left found are = ap (λ (w : Bool). differences_from w at found) are
differences_at (s ∷ steps) v items whole at left found are = rw (are.0, are.1) refl

pub breaks_at : (steps : List Step) (v : TraceView) (items : List Item) (whole : Bool) (at : List ℕ) (left : List BrokenRule) → ArePlaces steps v items whole at left →
    breaks_off whole left ≡ some_breaks_off steps v items
breaks_at [] v items whole at left are = ap (λ (w : Bool). breaks_off w left) are
breaks_at (s ∷ steps) v items whole at left are = rw (are.0, are.2) refl

-- ---- the dies that are opened

pub opened_of : (files : Option Store) (g : Parts) (n : ℕ) (given : Option DataRequest) (o : Option OpenedDies) → AreOpenedIf files g n given o → AreOf g n o
opened_of files g n None o is = subst (AreOf g n) (sym is) tt
opened_of files g n (Some d) None is = absurd is
opened_of files g n (Some d) (Some o) is = (is.1, is.2)

replayed_if : (files : Option Store) (v : TraceView) (given : Option DataRequest) (o : Option OpenedDies) (items : List Item) (found : List Difference) (dies : List Die) (whole : List Item) →
    AreOpenedIf files v.geometry (count_of v.targets) given o → AreReplayed v.readies o items found dies whole → IsReplayedIf files v given items found dies whole
replayed_if files v None o items found dies whole is r = subst (λ (x : Option OpenedDies). AreReplayed v.readies x items found dies whole) is r
replayed_if files v (Some d) None items found dies whole is r = absurd is
replayed_if files v (Some d) (Some o) items found dies whole is r = record {
  opened = o.dies.items;
  known = o.known.items;
  are_opened = is.0;
  stopped = r.0;
  replayed = subst (λ (n : ℕ). IsReplayed v.readies (channel_on v.geometry n (map pages_in o.dies.items)) o.known.items items whole found r.0 dies) is.2
      (subst (λ (g : Parts). IsReplayed v.readies (channel_on g o.targets (map pages_in o.dies.items)) o.known.items items whole found r.0 dies) is.1 r.1);
}

-- ---- a text that isn't read

says_more : {A : Type 0} (May : Fault → Type 0) (stop : Stop A) → Says (λ _. ⊥) stop → Says May stop
says_more May (Refused refusal words) says = absurd says.0
says_more May (FileFault path fault line) says = says
says_more May ReaderGone says = says
says_more May (BuffersTooLarge bytes line) says = says
says_more May OutOfMemory says = says

pub text_refused : (files now : Option Store) (request : CheckRequest) (given : Option DataRequest) (g : Parts) (steps : List Step) (rulers : Option TimeRulers) (stop : RecordingStop) → now ≡ files →
    AreInputs files request g steps rulers → SaysOf (λ _. ⊥) (TextIsRefused now (form_of (is_asked request.times) request.trace.form) request.trace.profile request.trace.input.now) stop →
    SaysOf (InputIsRefused files request given) (RecordingIsRefused files request) stop
text_refused files now request given g steps rulers (ForAll stop) same inputs says = says_more (InputIsRefused files request given) stop says
text_refused files now request given g steps rulers (Faulty fault words) same inputs says = inl (record {
  g = g;
  has_page = record { page = inputs.page; is_page = inputs.is_page; declares = inputs.declares };
  refuses = inr (subst (λ (f : Option Store). TextIsRefused f (form_of (is_asked request.times) request.trace.form) request.trace.profile request.trace.input.now fault) same says);
})

-- ---- all together

pub left_printable : (steps slice : List Step) (v : TraceView) (items left : List Item) (timed : List TimedItem) (k : KeptTrace) → slice ≡ steps → IsKept slice v items timed k → left ≡ k.items.items →
    All IsPrintable items → All IsPrintable left
left_printable steps slice v items left timed k same is_kept is all = items_printable slice v items left (is ∙ is_kept.items_are) all

pub judged : (files read before later : Option Store) (request : CheckRequest) (given : Option DataRequest) (g : Parts) (steps slice : List Step) (rulers : Option TimeRulers) (opened : Option OpenedDies)
    (items copied : List Item) (timed : List TimedItem) (k : KeptTrace) (told seen : List BrokenRule) (late : List Violation) (found : List Difference) (dies : List Die) (whole : List Item) (assumed : List NotShown) (copy : Option (List ℕ)) (broken_off : Bool) →
    read ≡ files → before ≡ files → slice ≡ steps → seen ≡ told → copied ≡ k.items.items →
    AreInputs files request g steps rulers → AreOpenedIf files g (count_of request.trace.targets) given opened → IsRead read request items timed → IsKept slice (view_of request g) items timed k →
    told ≡ told_of request.tells_all (faults_from k.is_whole k.places.items k.broken.items (faults_in (view_of request g) k.items.items)) →
    assumed ≡ readies_from k.is_whole k.places.items (not_shown_in (view_of request g) k.items.items) →
    ((all : List Violation) × AreLate rulers (view_of request g) k.timed.items all × (late ≡ late_told request.tells_all seen (late_from k.is_whole k.places.items all))) →
    ((differ : List Difference) × AreReplayed request.readies opened k.items.items differ dies whole × (found ≡ differences_from k.is_whole k.places.items differ)) →
    broken_off ≡ breaks_off k.is_whole k.broken.items → copy ≡ copied_to request broken_off →
    later ≡ with_copy copy (judged_in (view_of request g) copied) before →
    IsJudged files later request given g told late found dies whole assumed
judged files read before later request given g steps slice rulers opened items copied timed k told seen late found dies whole assumed copy broken_off same_read same_before same_steps same_told same_copied inputs are_opened is_read is_kept t a l d off to w =
    let v = view_of request g in
    let left = kept steps v items in
    let kept_is : IsKept steps v items timed k = subst (λ (ss : List Step). IsKept ss v items timed k) same_steps is_kept in
    let at = k.places.items in
    let unmet = k.broken.items in
    let are = kept_is.places_are in
    record {
      steps = steps;
      rulers = rulers;
      inputs = inputs;
      items = items;
      timed = timed;
      is_read = subst (λ (f : Option Store). IsRead f request items timed) same_read is_read;
      told_is = t ∙ ap (told_of request.tells_all) (ap (λ (is : List Item). faults_from k.is_whole at unmet (faults_in v is)) kept_is.items_are ∙ faults_at steps v items k.is_whole at unmet (faults_in v left) are);
      assumed_is = a ∙ (ap (λ (is : List Item). readies_from k.is_whole at (not_shown_in v is)) kept_is.items_are ∙ readies_at steps v items k.is_whole at unmet (not_shown_in v left) are);
      late_is = record {
        all = l.0;
        all_is = subst (λ (ts : List TimedItem). AreLate rulers v ts l.0) kept_is.timed_are l.1;
        late_is = l.2 ∙ (ap (λ (fs : List BrokenRule). late_told request.tells_all fs (late_from k.is_whole at l.0)) same_told ∙ ap (late_told request.tells_all told) (late_at steps v items k.is_whole at unmet l.0 are));
      };
      different = record {
        told = d.0;
        replayed = replayed_if files v given opened left d.0 dies whole are_opened (subst (λ (is : List Item). AreReplayed request.readies opened is d.0 dies whole) kept_is.items_are d.1);
        found_is = d.2 ∙ differences_at steps v items k.is_whole at unmet d.0 are;
      };
      copied = w ∙ (ap (λ (is : List Item). with_copy copy (judged_in v is) before) (same_copied ∙ kept_is.items_are)
          ∙ (ap (λ (c : Option (List ℕ)). with_copy c (judged_in v left) before) (to ∙ ap (copied_to request) (off ∙ breaks_at steps v items k.is_whole at unmet are))
          ∙ ap (with_copy (copied_to request (some_breaks_off steps v items)) (judged_in v left)) same_before));
    }
