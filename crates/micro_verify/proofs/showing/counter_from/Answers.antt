use Rattle.std.proofs.lemmas.List.Elements.{All-take}
use Rattle.micro_word.specs.declared.format.Format.TheVariants.{Two}
use Rattle.micro_word.specs.declared.word.Word.TheVariants.{End}
use Rattle.micro_word.specs.Word.{IsInRange}
use Rattle.micro_verify.proofs.CountersFrom.{none_from, some_from}
use Rattle.micro_verify.proofs.showing.counter_from.Goals as goal

pub perform_all-requires-clause-range : goal.perform_all-requires-clause-range
perform_all-requires-clause-range g c = (_, All-take (IsInRange Two _) c.args.at c.words-words.result.now c.words-words.ensures.in_range)

pub returns-in-None : goal.returns-in-None
returns-in-None g c =
    none_from c.args.bus.now c.perform_all.new.bus c.args.text.now c.args.buffer.now c.perform_all.new.buffer c.words-words.result.now c.args.at c.in_ok-perform_all.field-0 c.requires.one c.requires.target c.requires.new c.requires.buffer c.words-words.ensures.value c.in-None.is c.in_ok-perform_all.ensures.run

pub returns-in_ok-counter-in-Some : goal.returns-in_ok-counter-in-Some
returns-in_ok-counter-in-Some g c =
    some_from c.args.bus.now c.perform_all.new.bus c.args.text.now c.args.buffer.now c.perform_all.new.buffer c.words-words.result.now c.args.at (End 0) c.in_ok-perform_all.field-0 c.in-Some.registers c.in_ok-counter-in-Some.counter c.requires.one c.requires.target c.requires.new c.requires.buffer c.words-words.ensures.value c.if-at-words.false c.in-Some.is c.in_ok-perform_all.ensures.run c.in_ok-counter-in-Some.ensures
