use Rattle.std.proofs.Common.{◌≤◌, sym, arith}
use Rattle.trace_text.proofs.Lines.{cycle_read}
use Rattle.trace_text.proofs.parsing.cycle_of.Goals as goal

pub returns-in-48-to-51 : goal.returns-in-48-to-51
returns-in-48-to-51 c p =
    let low : 48 ≤ c.args.ce = omega arith in
    let high : c.args.ce ≤ 51 = omega arith in
    cycle_read p c.args.ce c.args.letter c.args.high c.args.low c.in_ok-hex_value.field-0 c.in_ok-byte.field-0 c.in_ok-kind.kind low high c.in_ok-kind.ensures (sym c.in_ok-hex_value.ensures.value) (sym c.in_ok-byte.ensures.value)
