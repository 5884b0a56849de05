use Rattle.std.proofs.Common.{rules, ◌≡◌, ◌∷◌, [], Ok, ap, ◌∙◌}
use Rattle.std.specs.Prelude.{Err}
use Rattle.bus_capture.specs.Capturing.{IsRefusalOf}
use Rattle.vcd_text.specs.Shown.{told_left, told_before}
use Rattle.bus_capture.specs.Tracing.{traced, dump_after}
use Rattle.bus_capture.proofs.Tracing.{ends, stands_last, on_ok, if_err, same_refusal}
use Rattle.bus_capture.proofs.dump_reader.DumpReader.finish.Goals as goal

pub returns-in-None-clause-ok : goal.returns-in-None-clause-ok
returns-in-None-clause-ok g c =
    let left : c.with-body.result.words.rest.now ≡ c.args.self.now.left.items = search rules in
    let told : told_left c.args.self.now.widths c.take_events.new.body ≡ [] = search rules in
    on_ok c.finish.result (traced c.take_events.new.tracer c.args.stamped.now.items [] ≡ Ok c.finish.new.stamped.items) (dump_after c.args.self.now c.args.stamped.now.items [] ≡ Ok c.finish.new.stamped.items)
    (λ is. ends c.args.self.now.widths c.args.self.now.standing c.with-body.result c.take_events.new.body c.args.self.now.left.items c.args.self.now.tracer c.take_events.new.tracer
    c.args.stamped.now.items [] c.with-body.ensures.standing left c.in-Ok.ensures.ok told ∙ is) c.finish.ensures.ok

pub returns-in-None-clause-err : goal.returns-in-None-clause-err
returns-in-None-clause-err g c =
    let left : c.with-body.result.words.rest.now ≡ c.args.self.now.left.items = search rules in
    let told : told_left c.args.self.now.widths c.take_events.new.body ≡ [] = search rules in
    if_err c.finish.result (λ e. IsRefusalOf e (traced c.take_events.new.tracer c.args.stamped.now.items [])) (λ e. IsRefusalOf e (dump_after c.args.self.now c.args.stamped.now.items []))
    (λ e. same_refusal e (dump_after c.args.self.now c.args.stamped.now.items []) (traced c.take_events.new.tracer c.args.stamped.now.items [])
    (ends c.args.self.now.widths c.args.self.now.standing c.with-body.result c.take_events.new.body c.args.self.now.left.items c.args.self.now.tracer c.take_events.new.tracer
    c.args.stamped.now.items [] c.with-body.ensures.standing left c.in-Ok.ensures.ok told)) c.finish.ensures.err

pub returns-in-Some-clause-err : goal.returns-in-Some-clause-err
returns-in-Some-clause-err g c =
    let left : c.with-body.result.words.rest.now ≡ c.args.self.now.left.items = search rules in
    let told : told_left c.args.self.now.widths c.take_events.new.body ≡ Err c.in-Some.fault ∷ [] = search rules in
    ends c.args.self.now.widths c.args.self.now.standing c.with-body.result c.take_events.new.body c.args.self.now.left.items c.args.self.now.tracer c.take_events.new.tracer
    c.args.stamped.now.items (Err c.in-Some.fault ∷ []) c.with-body.ensures.standing left c.in-Ok.ensures.ok told

pub returns-in-Err-clause-err : goal.returns-in-Err-clause-err
returns-in-Err-clause-err g c =
    let left : c.with-body.result.words.rest.now ≡ c.args.self.now.left.items = search rules in
    same_refusal c.in-Err.refusal (dump_after c.args.self.now c.args.stamped.now.items []) (traced c.args.self.now.tracer c.args.stamped.now.items (told_before c.args.self.now.widths c.with-body.result []))
    (ap (traced c.args.self.now.tracer c.args.stamped.now.items) (stands_last c.args.self.now.widths c.args.self.now.standing c.with-body.result c.args.self.now.left.items c.with-body.ensures.standing left))
    (c.in-Err.ensures.err c.args.stamped.now.items [])
