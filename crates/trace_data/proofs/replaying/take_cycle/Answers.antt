use Rattle.std.proofs.Common.{◌≡◌, IfErr, sym, subst}
use Rattle.onfi_cycle.specs.declared.item.Kind.{Kind}
use Rattle.onfi_cycle.specs.Channel.{cycle}
use Rattle.onfi_cycle.specs.Permitted.{broken}
use Rattle.target_bus.specs.Bus.{Refuses}
use Rattle.trace_data.proofs.replaying.take_cycle.Goals as goal

pub returns-in-Dout-clause-err : goal.returns-in-Dout-clause-err
returns-in-Dout-clause-err c =
    let bus = c.args.bus.now in
    let it = c.args.cycle in
    subst (λ (kind : Kind). IfErr c.take_output.result (λ e. Refuses e (broken bus.geometry bus.targets bus.past (cycle it.ce kind it.byte)) × (c.take_output.new.bus ≡ bus)))
    (sym c.in-Dout.is) c.take_output.ensures.err

pub returns-in-Err-clause-err : goal.returns-in-Err-clause-err
returns-in-Err-clause-err c =
    let bus = c.args.bus.now in
    let it = c.args.cycle in
    subst (λ (kind : Kind). Refuses c.in-Err.refusal (broken bus.geometry bus.targets bus.past (cycle it.ce kind it.byte)) × (c.take_input.new.bus ≡ bus))
    (sym c.in-Din.is) c.in-Err.ensures.err
