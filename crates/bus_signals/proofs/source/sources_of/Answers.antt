use Rattle.std.proofs.Common.{◌+◌, ◌-◌, List, ◌∙◌, sym, subst, ap, arith}
use Rattle.std.specs.Prelude.{Result}
use Rattle.bus_signals.specs.declared.source.Source.{Source}
use Rattle.bus_signals.specs.declared.fault.RoleFault.{RoleFault}
use Rattle.bus_signals.specs.Roles.{sources_from}
use Rattle.bus_signals.specs.Sources.{IsRefusalOf}
use Rattle.bus_signals.proofs.Added.{goes_on, fails_as, is_done}
use Rattle.bus_signals.proofs.source.sources_of.Goals as goal

pub returns-in-Err-clause-err : goal.returns-in-Err-clause-err
returns-in-Err-clause-err g c =
    subst (λ (s : Result (List Source) RoleFault). IsRefusalOf c.in-Err.refusal s) c.loop-number.invariant
    (fails_as c.args.targets c.args.carriers.now c.loop-number.sources.items c.loop-number.number (omega arith) c.in-Err.refusal c.in-Err.ensures)

pub loop-number-preserved : goal.loop-number-preserved
loop-number-preserved g c =
    let e = c.in-Ok.ensures in
    ap (λ (sources : List Source). sources_from c.args.targets c.args.carriers.now sources (68 - (c.loop-number.number + 1)) (c.loop-number.number + 1)) e.2
    ∙ goes_on c.args.targets c.args.carriers.now c.loop-number.sources.items e.0 c.loop-number.number (omega arith) e.1 ∙ c.loop-number.invariant

pub returns-clause-ok : goal.returns-clause-ok
returns-clause-ok g c =
    sym c.loop-number.invariant ∙ is_done c.args.targets c.args.carriers.now c.loop-number.sources.items c.loop-number.number (omega arith)
