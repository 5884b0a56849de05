use Rattle.std.proofs.Common.{sym, ◌∙◌, arith}
use Rattle.die_model.proofs.Images.{fault_begins, has_room, fault_here, fault_later, no_fault}
use Rattle.die_model.proofs.loading.entries_fault.Goals as goal

pub loop-k-init : goal.loop-k-init
loop-k-init c = fault_begins c.args.geometry.now c.args.count c.args.entries.now c.requires

pub number_at-row-requires : goal.number_at-row-requires
number_at-row-requires c =
    let room = has_room c.args.geometry.now c.args.count c.loop-k.k c.loop-k.least c.loop-k.rest.now c.args.entries.now c.loop-k-test.true c.loop-k.invariant in
    omega (arith, room)

pub split_at-requires : goal.split_at-requires
split_at-requires c =
    let room = has_room c.args.geometry.now c.args.count c.loop-k.k c.loop-k.least c.loop-k.rest.now c.args.entries.now c.loop-k-test.true c.loop-k.invariant in
    omega (arith, room, c.entry_len-len.ensures.value)

pub loop-k-preserved : goal.loop-k-preserved
loop-k-preserved c =
    fault_later c.args.geometry.now c.args.count c.loop-k.k c.loop-k.least c.number_at-row.result c.from-least.result c.entry_len-len.result c.loop-k.rest.now c.args.entries.now c.split_at.result.1.now c.row_fault-fault.result
    c.loop-k-test.true c.number_at-row.ensures c.from-least.ensures c.entry_len-len.ensures.value c.split_at.ensures.back c.row_fault-fault.ensures (sym c.if-is_some.false ∙ c.is_some.ensures) c.loop-k.invariant

pub returns-then-is_some : goal.returns-then-is_some
returns-then-is_some c =
    fault_here c.args.geometry.now c.args.count c.loop-k.k c.loop-k.least c.number_at-row.result c.loop-k.rest.now c.args.entries.now c.row_fault-fault.result
    c.loop-k-test.true c.number_at-row.ensures c.row_fault-fault.ensures (sym c.is_some.ensures ∙ c.if-is_some.true) c.loop-k.invariant

pub returns : goal.returns
returns c = no_fault c.args.geometry.now c.args.count c.loop-k.k c.loop-k.least c.loop-k.rest.now c.args.entries.now c.loop-k-test.false c.loop-k.invariant
