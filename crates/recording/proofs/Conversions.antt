-- A capture that becomes a text piece by piece: what is shown of a piece stands in front of what is shown of the rest.
use Rattle.std.proofs.Common.{◌≡◌, ℕ, Bool, true, false, List, [], ◌++◌, Result, flat_map, sym, ap, ◌∙◌, subst}
use Rattle.std.proofs.lemmas.List.{append-nil, map-append}
use Rattle.std.proofs.lemmas.Grind.{flat_map-append}
use Rattle.trace_text.specs.Line.{line}
use Rattle.trace_text.specs.Recorded.{timed_line}
use Rattle.seq_files.specs.Converting.{GoesOn}
use Rattle.bus_capture.specs.declared.fault.CaptureFault.{CaptureFault}
use Rattle.bus_capture.specs.declared.fault.CaptureRefusal.{CaptureRefusal}
use Rattle.bus_capture.specs.declared.fault.CaptureRefusal.TheVariants as refusal
use Rattle.bus_capture.specs.declared.inferring.Stamped.{Stamped}
use Rattle.bus_capture.specs.declared.reading.CaptureReader.{CaptureReader}
use Rattle.bus_capture.specs.Capturing.{IsRefusalOf}
use Rattle.bus_capture.specs.Tracing.{comes}
use Rattle.bus_capture.specs.Fronts.{in_front}
use Rattle.bus_capture.proofs.Fronts.{keeps_front}
use Rattle.std.specs.Global.{Global}
use Rattle.recording.specs.declared.capture_converter.CaptureConverter.{CaptureConverter}
use Rattle.recording.specs.Captures.{items_in, timed, timed_in, seen_text, Shows}

text_front : (has_times : Bool) (xs ys : List Stamped) → seen_text has_times (xs ++ ys) ≡ seen_text has_times xs ++ seen_text has_times ys
text_front false xs ys = ap (flat_map line) (map-append (λ s. s.item) xs ys) ∙ flat_map-append line (items_in xs) (items_in ys)
text_front true xs ys = ap (flat_map timed_line) (map-append timed xs ys) ∙ flat_map-append timed_line (timed_in xs) (timed_in ys)

shows_front : (has_times : Bool) (xs : List Stamped) (r : Result (List Stamped) CaptureFault) (more : List ℕ)
    → Shows has_times r more → Shows has_times (in_front xs r) (seen_text has_times xs ++ more)
shows_front has_times xs r more (ys, is, text) =
    (xs ++ ys, ap (in_front xs) is, ap (λ (l : List ℕ). seen_text has_times xs ++ l) text ∙ sym (text_front has_times xs ys))

refusal_front : (why : CaptureRefusal) (xs : List Stamped) (r : Result (List Stamped) CaptureFault) → IsRefusalOf why r → IsRefusalOf why (in_front xs r)
refusal_front (refusal.Fault f) xs r is = ap (in_front xs) is
refusal_front refusal.OutOfMemory xs r is = tt

-- a reader that has taken a piece
pub goes_on : {A : Type 0} (old new : CaptureReader A) (has_times : Bool) (xs : List Stamped) (piece made : List ℕ)
    → ((rest : List ℕ) → comes old [] (piece ++ rest) ≡ comes new xs rest) → made ≡ seen_text has_times xs
    → GoesOn (λ rest made. Shows has_times (comes old [] rest) made) (λ rest made. Shows has_times (comes new [] rest) made)
    (λ rest why. IsRefusalOf why (comes old [] rest)) (λ rest why. IsRefusalOf why (comes new [] rest)) piece made
goes_on old new has_times xs piece made taken is =
    let front : (rest : List ℕ) → comes old [] (piece ++ rest) ≡ in_front xs (comes new [] rest) =
    λ rest. taken rest ∙ ap (λ (l : List Stamped). comes new l rest) (sym (append-nil xs)) ∙ keeps_front new xs [] rest in (
      λ rest more shows. subst (λ (r : Result (List Stamped) CaptureFault). Shows has_times r (made ++ more)) (sym (front rest))
          (subst (λ (t : List ℕ). Shows has_times (in_front xs (comes new [] rest)) (t ++ more)) (sym is) (shows_front has_times xs (comes new [] rest) more shows)),
      λ rest why refused. subst (IsRefusalOf why) (sym (front rest)) (refusal_front why xs (comes new [] rest) refused),
    )

-- the same of a converter
pub taken : (old new : CaptureConverter) (read : CaptureReader Global) (xs : List Stamped) (piece made : List ℕ)
    → new.reader ≡ read → new.has_times ≡ old.has_times
    → ((rest : List ℕ) → comes old.reader [] (piece ++ rest) ≡ comes read xs rest) → made ≡ seen_text old.has_times xs
    → GoesOn (λ rest made. Shows old.has_times (comes old.reader [] rest) made) (λ rest made. Shows new.has_times (comes new.reader [] rest) made)
    (λ rest why. IsRefusalOf why (comes old.reader [] rest)) (λ rest why. IsRefusalOf why (comes new.reader [] rest)) piece made
taken old new read xs piece made same times takes is =
    let gone = goes_on old.reader read old.has_times xs piece made takes is in (
      λ rest more shows. gone.0 rest more
          (subst (λ (t : Bool). Shows t (comes read [] rest) more) times (subst (λ r. Shows new.has_times (comes r [] rest) more) same shows)),
      λ rest why refused. gone.1 rest why (subst (λ r. IsRefusalOf why (comes r [] rest)) same refused),
    )
