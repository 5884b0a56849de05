use Rattle.std.proofs.Common.{arith, ◌∙◌, sym}
use Rattle.vcd_text.proofs.Begins.{first_byte, first_lines, first_cut, word_on}
use Rattle.vcd_text.proofs.Pieces.{lines_on, cut_on}
use Rattle.vcd_text.proofs.words.word_len.Goals as goal

pub bytes-init : goal.bytes-init
bytes-init c = record {
  some = omega arith;
  within = omega arith;
  word = λ line. first_byte line c.args.text.now c.requires.some c.requires.starts;
  lines = λ line. first_lines line c.args.text.now c.requires.some c.requires.starts;
  cut = first_cut c.args.text.now c.requires.some;
}

pub bytes-preserved : goal.bytes-preserved
bytes-preserved c = record {
  some = omega arith;
  within = omega (arith, c.bytes-test.true);
  word = λ line. c.bytes.invariant.word line ∙ word_on line c.bytes.count c.args.text.now c.bytes-test.true (sym c.is_blank.ensures ∙ c.if-not-is_blank.true);
  lines = λ line. lines_on line c.bytes.count c.args.text.now c.bytes-test.true (sym c.is_blank.ensures ∙ c.if-not-is_blank.true) ∙ c.bytes.invariant.lines line;
  cut = λ cut. cut_on c.bytes.count c.args.text.now c.bytes-test.true (c.bytes.invariant.cut cut);
}
