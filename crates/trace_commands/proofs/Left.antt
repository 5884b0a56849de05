-- What is left of a capture without a vendor's sequences is inside; and a capture that is written piece by piece is left as it is.
use Rattle.std.proofs.Common.{◌≡◌, ◌<◌, ℕ, List, [], ◌∷◌, length, Option, Some, None, refl, sym, subst, arith, Bor}
use Rattle.seq_files.specs.Store.{Store}
use Rattle.bus_capture.specs.declared.inferring.Stamped.{Stamped}
use Rattle.bus_capture.specs.declared.reading.Setup.{Setup}
use Rattle.bus_capture.specs.Inside.{AreInside}
use Rattle.vendor_file.specs.declared.step.Step.{Step}
use Rattle.recording.specs.declared.capture_request.CaptureRequest.{CaptureRequest}
use Rattle.recording.specs.Captures.{left_seen, seen_text, IsConverted, IsHandedOn, IsGiven}
use Rattle.recording.proofs.Kept.{left_inside as is_inside}

pub left_inside : (steps : List Step) (setup : Setup) (stamped left : List Stamped) → left ≡ left_seen steps setup stamped → AreInside stamped → AreInside left
left_inside steps setup stamped left is inside = is_inside steps setup stamped left is inside

-- a capture that is written piece by piece, of which nothing is left out
pub converted : (files later : Option Store) (request : CaptureRequest) (setup : Setup) (steps : List Step) (path : Bor (List ℕ)) → request.target ≡ Some path → length steps < 1 →
    IsConverted files later request setup path.now → IsHandedOn files later request setup steps None
converted files later request setup [] path is none c = record {
  made = seen_text request.has_times c.stamped;
  shown = record { stamped = c.stamped; seen = c.seen; kept = record { whole = refl; is_text = refl } };
  given = subst (λ (t : Option (Bor (List ℕ))). IsGiven files later t (seen_text request.has_times c.stamped) None) (sym is) (c.written, refl);
}
converted files later request setup (s ∷ steps) path is none c = absurd (omega (arith, none))
