use Rattle.std.proofs.Common.{rules, ◌≡◌, [], ◌++◌, ap, sym, ◌∙◌}
use Rattle.std.proofs.lemmas.List.{append-nil}
use Rattle.bus_capture.specs.Inferring.{captured, captured_after}
use Rattle.bus_capture.specs.Tracing.{comes}
use Rattle.bus_capture.proofs.Tracing.{same_refusal}
use Rattle.bus_capture.proofs.reading.read_capture.Goals as goal

pub returns-clause-err : goal.returns-clause-err
returns-clause-err g c =
    let none : c.new-stamped.result.items ≡ [] = search rules in
    same_refusal c.in-Err.refusal (captured c.args.setup.now c.args.text.now) (comes c.in_ok-reader.reader c.new-stamped.result.items (c.args.text.now ++ []))
    (ap (captured_after c.args.setup.now []) (sym (append-nil c.args.text.now))
    ∙ (ap (λ stamped. captured_after c.args.setup.now stamped (c.args.text.now ++ [])) (sym none) ∙ sym (c.in_ok-reader.ensures.comes c.new-stamped.result.items (c.args.text.now ++ []))))
    (c.in-Err.ensures.err [])
