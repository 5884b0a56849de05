use Rattle.std.proofs.Common.{rules, ◌≡◌, refl}
use Rattle.recording.specs.Captures.{seen_text}
use Rattle.bus_capture.proofs.Tracing.{on_ok}
use Rattle.recording.proofs.Conversions.{taken}
use Rattle.recording.proofs.capture_converter.CaptureConverterConvert.take.Goals as goal

pub returns-clause-made : goal.returns-clause-made
returns-clause-made g c =
    let made = seen_text c.args.self.now.has_times c.take.new.stamped.items in
    let same : c.push_seen.new.self.reader ≡ c.take.new.self = search rules in
    let times : c.push_seen.new.self.has_times ≡ c.args.self.now.has_times = search rules in
    on_ok c.push_seen.result _ _
    (λ pushed. (made, search rules, taken c.args.self.now c.push_seen.new.self c.take.new.self c.take.new.stamped.items c.args.piece.now made same times (search rules) refl))
    c.push_seen.ensures.ok
