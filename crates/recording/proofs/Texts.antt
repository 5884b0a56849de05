-- The text of a trace that is read with its times has the items that it has without them, and the same first fault.
use Rattle.std.proofs.Common.{◌≡◌, ℕ, Bool, true, false, List, [], ◌∷◌, ◌++◌, Result, Ok, Err, map, refl, sym, ap, subst, ◌∙◌}
use Rattle.std.proofs.lemmas.List.{map-append}
use Rattle.std.specs.List.{All}
use Rattle.nand_geometry.specs.declared.optional.Profile.{Profile}
use Rattle.onfi_cycle.specs.declared.item.Item.{Item}
use Rattle.trace_text.specs.declared.form.TraceForm.{TraceForm}
use Rattle.trace_text.specs.declared.refusal.TraceRefusal.{TraceRefusal}
use Rattle.trace_text.specs.declared.refusal.TraceRefusal.TheVariants.{Fault as TraceFaultAt, OutOfMemory}
use Rattle.trace_text.specs.declared.recorded_item.RecordedItem.{RecordedItem}
use Rattle.trace_text.specs.Forms.{read_as}
use Rattle.trace_text.specs.Line.{IsPrintable}
use Rattle.trace_text.specs.Reading.{IsRefusalOf}
use Rattle.trace_text.specs.Recorded.{Told, told, collecting, gathering, recorded, recorded_items}
use Rattle.trace_text.proofs.RecordedItems.{printable_read}
use Rattle.trace_timing.specs.declared.watch.TimedItem.{TimedItem}
use Rattle.seq_inputs.specs.declared.stop.Stop.{Stop}
use Rattle.seq_inputs.specs.declared.stop.Stop.TheVariants.{Refused, FileFault, ReaderGone, BuffersTooLarge, OutOfMemory as NoMemory}
use Rattle.seq_inputs.specs.declared.fault.Fault.{Fault}
use Rattle.seq_inputs.specs.Stops.{Says, RefusesNothing}
use Rattle.recording.specs.declared.recording_fault.RecordingFault.{RecordingFault}
use Rattle.recording.specs.declared.recording_fault.RecordingFault.TheVariants.{Trace}
use Rattle.recording.specs.declared.recording_stop.RecordingStop.{RecordingStop}
use Rattle.recording.specs.declared.recording_stop.RecordingStop.TheVariants.{Stop as ForAll, Faulty}
use Rattle.recording.specs.Endings.{SaysOf, SaysNothing}
use Rattle.recording.specs.Traces.{timed_of, item_of, HasTimes, HasTimesIf, RefusesTrace, SaysText}

-- ---- what is said of a text that isn't read

nothing_says : {A : Type 0} (May : Fault → Type 0) (stop : Stop A) → RefusesNothing stop → Says May stop
nothing_says May (Refused refusal words) none = absurd none
nothing_says May (FileFault path fault line) none = tt
nothing_says May ReaderGone none = tt
nothing_says May (BuffersTooLarge bytes line) none = absurd none
nothing_says May NoMemory none = tt

pub says_refused : (form : TraceForm) (p : Profile) (text : List ℕ) (r : TraceRefusal) (stop : RecordingStop) → IsRefusalOf r (read_as form p text) → SaysText r stop →
    SaysOf (λ _. ⊥) (RefusesTrace form p text) stop
says_refused form p text (TraceFaultAt fault line) (ForAll stop) is says = says
says_refused form p text (TraceFaultAt fault line) (Faulty told words) is says = subst (RefusesTrace form p text) (sym says) is
says_refused form p text OutOfMemory (ForAll stop) is says = nothing_says (λ _. ⊥) stop says
says_refused form p text OutOfMemory (Faulty told words) is says = absurd says

-- ---- with times and without

abbrev item_in : RecordedItem → Item
item_in r = r.item

abbrev items_in : Result (List RecordedItem) TraceRefusal → Result (List Item) TraceRefusal
items_in (Ok items) = Ok (map item_in items)
items_in (Err refusal) = Err refusal

alike : (done : List RecordedItem) (ts : List Told) → collecting (map item_in done) ts ≡ items_in (gathering done ts)
alike done [] = refl
alike done (Ok i ∷ ts) = ap (λ (items : List Item). collecting items ts) (sym (map-append item_in done (i ∷ []))) ∙ alike (done ++ i ∷ []) ts
alike done (Err refusal ∷ ts) = refl

same_text : (p : Profile) (text : List ℕ) → recorded p text ≡ items_in (recorded_items p text)
same_text p text = alike [] (told p text)

same_items : (items : List RecordedItem) → map item_in items ≡ map item_of (map timed_of items)
same_items [] = refl
same_items (i ∷ items) = ap (λ (rest : List Item). i.item ∷ rest) (same_items items)

pub recorded_timed : (p : Profile) (text : List ℕ) (items read : List RecordedItem) (timed : List TimedItem) → recorded_items p text ≡ Ok items → read ≡ items → timed ≡ map timed_of read →
    recorded p text ≡ Ok (map item_of timed)
recorded_timed p text items read timed is same times = rw (times, same) (same_text p text ∙ ap items_in is ∙ ap Ok (same_items items))

refused_in : (r : TraceRefusal) (read : Result (List RecordedItem) TraceRefusal) → IsRefusalOf r read → IsRefusalOf r (items_in read)
refused_in (TraceFaultAt fault line) read is = ap items_in is
refused_in OutOfMemory (Ok items) is = refl
refused_in OutOfMemory (Err refusal) is = cc

pub recorded_refused : (p : Profile) (text : List ℕ) (r : TraceRefusal) → IsRefusalOf r (recorded_items p text) → IsRefusalOf r (recorded p text)
recorded_refused p text r is = subst (IsRefusalOf r) (sym (same_text p text)) (refused_in r (recorded_items p text) is)

-- ---- a trace that is read

pub recorded_printable : (p : Profile) (text : List ℕ) (timed slice : List TimedItem) (items : List Item) → recorded p text ≡ Ok (map item_of timed) → slice ≡ timed → items ≡ map item_of slice → All IsPrintable items
recorded_printable p text timed slice items is same are = printable_read p (λ (x : List Item). x) text (Ok items) (is ∙ ap (λ (ts : List TimedItem). Ok (map item_of ts)) (sym same) ∙ ap Ok (sym are))

pub has_times : (asked : Bool) (p : Profile) (text : List ℕ) (timed : List TimedItem) → asked ≡ true → HasTimes p text timed → HasTimesIf asked p text timed
has_times asked p text timed is has = subst (λ (b : Bool). HasTimesIf b p text timed) (sym is) has

pub no_times : (asked : Bool) (p : Profile) (text : List ℕ) (timed : List TimedItem) → asked ≡ false → timed ≡ [] → HasTimesIf asked p text timed
no_times asked p text timed is none = subst (λ (b : Bool). HasTimesIf b p text timed) (sym is) none
