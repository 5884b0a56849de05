use Rattle.std.proofs.Common.{ℕ, ◌<◌, get_or, sym, ap, ◌∙◌, arith}
use Rattle.onfi_cycle.specs.declared.item.Kind.TheVariants.{Din}
use Rattle.onfi_cycle.specs.Inputs.{judged_inputs}
use Rattle.onfi_cycle.proofs.Inputs.{inputs_are_data}
use Rattle.bus_record.specs.Bus.{bus_view}
use Rattle.target_record.specs.Geometry.{parts_of}
use Rattle.bus_record.specs.Kept.{Kept}
use Rattle.target_record.specs.Record.{target_of}
use Rattle.bus_record.specs.Runs.{inputs_rule, inputs_pushed}
use Rattle.bus_record.proofs.Pushed.{fits_there, limits_there}
use Rattle.bus_record.proofs.Runs.{inputs_judged, inputs_left, no_target, run_pushed, run_sound, run_state, with_target}
use Rattle.bus_record.proofs.run.push_inputs.Goals as goal

pub push_inputs_there-rule-requires-clause-fits : goal.push_inputs_there-rule-requires-clause-fits
push_inputs_there-rule-requires-clause-fits c =
    let k : Kept = c.args.bus.now in
    fits_there k c.requires c.from-place.result c.if-bus-place.false no_target

pub returns-clause-rule : goal.returns-clause-rule
returns-clause-rule c =
    let k : Kept = c.args.bus.now in
    let some : 0 < c.args.count = omega (arith, c.if-count-eq0.false) in
    c.push_inputs_there-rule.ensures.rule
    ∙ (ap (λ (m : ℕ). inputs_rule (parts_of k.geometry) k.count m c.args.count (target_of (get_or k.targets c.from-place.result no_target))) (sym c.from-place.ensures)
    ∙ (inputs_judged k c.requires c.from-place.result c.args.count c.if-bus-place.false some no_target
    ∙ (ap (λ (m : ℕ). judged_inputs m c.args.count (bus_view k)) c.from-place.ensures)))

pub returns-clause-sound : goal.returns-clause-sound
returns-clause-sound c =
    let k : Kept = c.args.bus.now in
    let some : 0 < c.args.count = omega (arith, c.if-count-eq0.false) in
    run_sound Din inputs_are_data k c.requires c.from-place.result c.args.count c.if-bus-place.false c.push_inputs_there-rule.new.kept c.push_inputs_there-rule.ensures.numbers
    (inputs_left k c.requires c.from-place.result c.args.count c.if-bus-place.false some no_target c.push_inputs_there-rule.new.kept
    (c.push_inputs_there-rule.ensures.state
    ∙ ap (λ (m : ℕ). inputs_pushed (parts_of k.geometry) k.count m c.args.count (target_of (get_or k.targets c.from-place.result no_target))) (sym c.from-place.ensures)))

pub returns-clause-state : goal.returns-clause-state
returns-clause-state c none =
    let k : Kept = c.args.bus.now in
    let some : 0 < c.args.count = omega (arith, c.if-count-eq0.false) in
    let left = inputs_left k c.requires c.from-place.result c.args.count c.if-bus-place.false some no_target c.push_inputs_there-rule.new.kept
    (c.push_inputs_there-rule.ensures.state
    ∙ ap (λ (m : ℕ). inputs_pushed (parts_of k.geometry) k.count m c.args.count (target_of (get_or k.targets c.from-place.result no_target))) (sym c.from-place.ensures)) in
    run_state Din c.args.ce c.args.count (bus_view c.args.bus.now) (with_target k c.from-place.result c.push_inputs_there-rule.new.kept)
    (left
    ∙ (ap (λ (m : ℕ). run_pushed Din m c.args.count (bus_view k)) c.from-place.ensures))
    (sym (returns-clause-rule c) ∙ none)

pub push_inputs_there-rule-requires-clause-limits : goal.push_inputs_there-rule-requires-clause-limits
push_inputs_there-rule-requires-clause-limits c =
    let k : Kept = c.args.bus.now in
    limits_there k c.requires c.from-place.result c.if-bus-place.false
