use Rattle.std.proofs.Common.{sym, ap, ◌∙◌, Option}
use Rattle.onfi_cycle.specs.declared.forbidden.Forbidden.{Forbidden}
use Rattle.bus_record.specs.Rule.{by_option}
use Rattle.bus_record.specs.Kept.{Kept}
use Rattle.bus_record.specs.Bus.{rule_code}
use Rattle.bus_record.proofs.Pushed.{there_whole, judged_there}
use Rattle.bus_record.proofs.Runs.{no_target}
use Rattle.onfi_cycle.specs.Sequence.{target_of as target_of_item}
use Rattle.bus_record.proofs.look.ask.Goals as goal

pub ask_target-requires-clause-limits : goal.ask_target-requires-clause-limits
ask_target-requires-clause-limits c = (there_whole c.args.bus.now (target_of_item c.args.item) c.from-ce.result c.requires (c.from-ce.ensures ∙ c.target.ensures) c.if-bus-ce.false no_target).limits

pub ask_target-requires-clause-numbers : goal.ask_target-requires-clause-numbers
ask_target-requires-clause-numbers c = (there_whole c.args.bus.now (target_of_item c.args.item) c.from-ce.result c.requires (c.from-ce.ensures ∙ c.target.ensures) c.if-bus-ce.false _).numbers

pub ask_target-requires-clause-fits : goal.ask_target-requires-clause-fits
ask_target-requires-clause-fits c = (there_whole c.args.bus.now (target_of_item c.args.item) c.from-ce.result c.requires (c.from-ce.ensures ∙ c.target.ensures) c.if-bus-ce.false _).fits

pub returns : goal.returns
returns c =
    let k : Kept = c.args.bus.now in
    let there = judged_there k c.requires.places c.args.item c.from-ce.result (c.from-ce.ensures ∙ c.target.ensures) c.if-bus-ce.false _ in
    c.ask_target.ensures
    ∙ ap (λ (o : Option Forbidden). by_option o 0 rule_code) (sym there)
