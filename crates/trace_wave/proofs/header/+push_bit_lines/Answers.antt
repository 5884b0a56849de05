use Rattle.trace_wave.proofs.Lists.{joined}
use Rattle.trace_wave.proofs.Counted.{bit_lines_more}
use Rattle.trace_wave.proofs.header.+push_bit_lines.Goals as goal

pub returns-clause-value : goal.returns-clause-value
returns-clause-value g t c =
    joined c.args.out.now.items c.push_variable.new.out.items c.push_bit_lines.new.out.items _ _ _ c.push_variable.ensures.value c.push_bit_lines.ensures.value (bit_lines_more c.args.code c.args.name.now c.args.count c.digit.result c.if-count-eq0.false c.digit.ensures)
