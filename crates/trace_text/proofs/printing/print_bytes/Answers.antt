use Rattle.std.proofs.Common.{◌≤◌, length, arith}
use Rattle.trace_text.proofs.Printed.{printed_all, printed_utf8}
use Rattle.trace_text.proofs.printing.print_bytes.Goals as goal

pub returns-clause-read_back : goal.returns-clause-read_back
returns-clause-read_back g c p known =
    let past : length c.args.items.now ≤ c.loop-item.item-index = omega arith in
    printed_all p c.loop-item.text.items c.args.items.now c.loop-item.item-index past c.requires c.loop-item.invariant.so_far c.loop-item.invariant.byte known

pub returns-clause-utf8 : goal.returns-clause-utf8
returns-clause-utf8 g c =
    let past : length c.args.items.now ≤ c.loop-item.item-index = omega arith in
    printed_utf8 c.loop-item.text.items c.args.items.now c.loop-item.item-index past c.requires c.loop-item.invariant.so_far c.loop-item.invariant.byte
