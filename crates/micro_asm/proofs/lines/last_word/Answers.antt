use Rattle.std.proofs.Common.{sym, ◌∙◌, arith}
use Rattle.micro_asm.specs.Reading.{lines}
use Rattle.micro_asm.proofs.LineByLine.{last_more, last_done, picks_first, picks_second}
use Rattle.micro_asm.proofs.lines.last_word.Goals as goal
use Rattle.micro_asm.proofs.lines.last_word.Goals.{then-begins_word, else-begins_word}

pub lines-preserved : goal.lines-preserved
lines-preserved c = record {
  room = omega (arith, c.in-Some.ensures.shorter);
  same =
      last_more c.lines.found c.if-begins_word.found c.lines.line (lines c.lines.rest.now) (lines c.in-Some.after.now) c.in-Some.front.now c.in-Some.ensures.some
      (elim c.if-begins_word.branch [
        | then-begins_word w ↦ picks_first _ _ _ _ (sym c.begins_word.ensures ∙ w.if-begins_word.true) w.found-is
        | else-begins_word w ↦ picks_second _ _ _ _ (sym c.begins_word.ensures ∙ w.if-begins_word.false) w.found-is
      ])
      ∙ c.lines.invariant.same;
}

pub returns : goal.returns
returns c = sym (last_done c.lines.found c.lines.line (lines c.lines.rest.now) c.in_default.ensures.none) ∙ c.lines.invariant.same
