use Rattle.std.proofs.Common.{sym, ◌∙◌, arith}
use Rattle.bus_record.specs.Bus.{bus_view}
use Rattle.bus_record.proofs.AllPushed.{is_empty, all_end, one_stops, one_goes}
use Rattle.bus_record.proofs.Pushed.{fits_each}
use Rattle.bus_record.proofs.many.push_each.Goals as goal

pub returns-then-answer-ne0-clause-went : goal.returns-then-answer-ne0-clause-went
returns-then-answer-ne0-clause-went c =
    sym (c.items.invariant.so_far ∙ one_stops c.args.wide (bus_view c.items.bus) (bus_view c.push_numbers-answer.new.bus)
    c.items.rest.now c.in-Some.first.now c.in-Some.behind.now c.items.at c.push_numbers-answer.result c.in-Some.ensures.cases.0 c.push_numbers-answer.ensures.answer
    c.push_numbers-answer.ensures.state c.if-answer-ne0.true)

pub items-preserved : goal.items-preserved
items-preserved c =
    let shorter = c.in-Some.ensures.cases.1 in
    let counted = c.items.invariant.counted in
    record {
      counted = omega arith;
      so_far = c.items.invariant.so_far ∙ one_goes c.args.wide (bus_view c.items.bus) (bus_view c.push_numbers-answer.new.bus)
          c.items.rest.now c.in-Some.first.now c.in-Some.behind.now c.items.at c.push_numbers-answer.result c.in-Some.ensures.cases.0 c.push_numbers-answer.ensures.answer
          c.push_numbers-answer.ensures.state c.if-answer-ne0.false;
      magic = c.push_numbers-answer.ensures.magic ∙ c.items.invariant.magic;
      sound = c.push_numbers-answer.ensures.sound c.items.invariant.sound;
      still = λ none. absurd (omega (arith, none));
    }

pub returns-clause-went : goal.returns-clause-went
returns-clause-went c =
    sym (c.items.invariant.so_far ∙ all_end c.args.wide (bus_view c.items.bus) c.items.rest.now c.items.at (is_empty c.items.rest.now c.in_default.ensures.cases))

pub returns-then-answer-ne0-clause-magic : goal.returns-then-answer-ne0-clause-magic
returns-then-answer-ne0-clause-magic c = c.push_numbers-answer.ensures.magic ∙ c.items.invariant.magic

pub returns-then-answer-ne0-clause-still : goal.returns-then-answer-ne0-clause-still
returns-then-answer-ne0-clause-still c = λ none. c.push_numbers-answer.ensures.refused c.if-answer-ne0.true ∙ c.items.invariant.still none

pub push_numbers-answer-requires : goal.push_numbers-answer-requires
push_numbers-answer-requires c = fits_each c.items.bus c.items.invariant.sound c.in-Some.first.now.ce

pub returns-then-answer-ne0-clause-sound : goal.returns-then-answer-ne0-clause-sound
returns-then-answer-ne0-clause-sound c = c.push_numbers-answer.ensures.sound c.items.invariant.sound
