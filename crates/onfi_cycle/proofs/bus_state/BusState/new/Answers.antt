use Rattle.std.proofs.Common.{◌<◌, [], length, sym, ap, ◌∙◌, arith}
use Rattle.nand_geometry.specs.declared.parts.Parts.{Parts}
use Rattle.onfi_cycle.proofs.Following.{more_targets, targets_length, beginning}
use Rattle.onfi_cycle.proofs.bus_state.BusState.new.Goals as goal

pub push-requires : goal.push-requires
push-requires c =
    let same = ap length c.loop.invariant ∙ targets_length c.args.geometry [] c.loop.counter 0 in
    let below : length c.loop.all.items < 4 = omega (arith, c.loop-test.true, c.requires) in
    (omega arith, below)

pub loop-preserved : goal.loop-preserved
loop-preserved c =
    more_targets c.args.geometry c.loop.all.items _ c.loop.counter c.new.result c.loop.invariant (λ ce. c.new.ensures c.args.geometry ce (sym (ap (λ (p : Parts). p.luns) c.parts-luns.ensures.value))) c.push.ensures.items

pub invariant_of-result : goal.invariant_of-result
invariant_of-result c = beginning c.args.geometry c.loop.all.items c.loop.counter c.parts-luns.ensures.limits (omega (arith, c.loop.auto.counter-end, c.requires)) c.loop.invariant
