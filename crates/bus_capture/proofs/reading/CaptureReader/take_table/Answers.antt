use Rattle.std.proofs.Common.{rules, ◌≡◌, ◌++◌, None, ap, sym, ◌∙◌, append_assoc}
use Rattle.bus_capture.specs.declared.reading.CaptureForm.TheVariants as form
use Rattle.bus_capture.specs.Inferring.{captured_by}
use Rattle.bus_capture.specs.Tracing.{comes_table}
use Rattle.bus_capture.proofs.Tracing.{same_refusal}
use Rattle.bus_capture.proofs.reading.CaptureReader.take_table.Goals as goal

pub returns-in-Err-clause-err : goal.returns-in-Err-clause-err
returns-in-Err-clause-err g c =
    let none : c.args.self.now.table ≡ None = search rules in
    let head : c.push_head.new.self.head.items ≡ c.args.self.now.head.items ++ c.args.piece.now = search rules in
    let setup : c.push_head.new.self.setup.now ≡ c.args.self.now.setup.now = search rules in
    λ rest. same_refusal c.in-Err.refusal (comes_table c.args.self.now.table c.args.self.now.setup.now c.args.self.now.head.items c.args.stamped.now.items (c.args.piece.now ++ rest))
    (captured_by form.Table c.push_head.new.self.setup.now c.args.stamped.now.items (c.push_head.new.self.head.items ++ rest))
    (ap (λ table. comes_table table c.args.self.now.setup.now c.args.self.now.head.items c.args.stamped.now.items (c.args.piece.now ++ rest)) none
    ∙ sym (ap (λ setup. captured_by form.Table setup c.args.stamped.now.items (c.push_head.new.self.head.items ++ rest)) setup
    ∙ (ap (λ head. captured_by form.Table c.args.self.now.setup.now c.args.stamped.now.items (head ++ rest)) head
    ∙ ap (captured_by form.Table c.args.self.now.setup.now c.args.stamped.now.items) (append_assoc c.args.self.now.head.items c.args.piece.now rest))))
    (c.in-Err.ensures.err c.args.stamped.now.items rest)
