use Rattle.std.proofs.Common.{refl, ◌≡◌, None, sym, ap, ◌∙◌, Option, subst}
use Rattle.onfi_cycle.specs.State.{BusView, judged, bus_after}
use Rattle.bus_record.specs.Channel.{IsSameChannel}
use Rattle.onfi_cycle.specs.declared.forbidden.Forbidden.{Forbidden}
use Rattle.bus_record.specs.Rule.{by_option}
use Rattle.bus_record.specs.Kept.{Kept}
use Rattle.bus_record.specs.Bus.{bus_view}
use Rattle.bus_record.proofs.Pushed.{there_whole, sound_after, judged_there, state_there, pushed_keeps}
use Rattle.bus_record.proofs.Runs.{no_target}
use Rattle.onfi_cycle.specs.Sequence.{target_of as target_of_item}
use Rattle.bus_record.proofs.Changed.{if_refused}
use Rattle.bus_record.proofs.bus.push_here.Goals as goal

pub step_target-rule-requires-clause-limits : goal.step_target-rule-requires-clause-limits
step_target-rule-requires-clause-limits c = (there_whole c.args.bus.now (target_of_item c.args.item) c.from-ce.result c.requires (c.from-ce.ensures ∙ c.target.ensures) c.if-bus-ce.false no_target).limits

pub step_target-rule-requires-clause-numbers : goal.step_target-rule-requires-clause-numbers
step_target-rule-requires-clause-numbers c = (there_whole c.args.bus.now (target_of_item c.args.item) c.from-ce.result c.requires (c.from-ce.ensures ∙ c.target.ensures) c.if-bus-ce.false _).numbers

pub step_target-rule-requires-clause-fits : goal.step_target-rule-requires-clause-fits
step_target-rule-requires-clause-fits c = (there_whole c.args.bus.now (target_of_item c.args.item) c.from-ce.result c.requires (c.from-ce.ensures ∙ c.target.ensures) c.if-bus-ce.false _).fits

pub returns-clause-sound : goal.returns-clause-sound
returns-clause-sound c sound =
    sound_after c.args.bus.now sound c.from-ce.result c.if-bus-ce.false c.step_target-rule.new.kept c.step_target-rule.ensures.numbers c.step_target-rule.ensures.fits

pub returns-clause-rule : goal.returns-clause-rule
returns-clause-rule c =
    let k : Kept = c.args.bus.now in
    c.step_target-rule.ensures.rule
    ∙ (sym (judged_there k c.requires.places c.args.item c.from-ce.result (c.from-ce.ensures ∙ c.target.ensures) c.if-bus-ce.false _))

pub returns-clause-state : goal.returns-clause-state
returns-clause-state c =
    let k : Kept = c.args.bus.now in
    state_there k c.requires.places c.args.item c.from-ce.result (c.from-ce.ensures ∙ c.target.ensures) c.if-bus-ce.false _ c.step_target-rule.new.kept
    c.step_target-rule.ensures.state

pub returns-clause-after : goal.returns-clause-after
returns-clause-after c none =
    let permitted : judged (bus_view c.args.bus.now) c.args.item ≡ None = sym (returns-clause-rule c) ∙ none in
    returns-clause-state c ∙ ap (λ (o : Option Forbidden). by_option o (bus_after c.args.item (bus_view c.args.bus.now)) (λ (rule : Forbidden). bus_view c.args.bus.now)) permitted

pub returns-clause-same : goal.returns-clause-same
returns-clause-same c =
    subst (λ (b : BusView). IsSameChannel (bus_view c.args.bus.now) b) (sym (returns-clause-state c)) (pushed_keeps (bus_view c.args.bus.now) c.args.item)

pub returns-clause-refused : goal.returns-clause-refused
returns-clause-refused c =
    let k : Kept = c.args.bus.now in
    if_refused c.step_target-rule.result k _ c.args.bus.now c.from-ce.result c.step_target-rule.new.kept _ c.step_target-rule.ensures.refused refl refl
