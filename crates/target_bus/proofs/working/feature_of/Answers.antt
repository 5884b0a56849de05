use Rattle.std.proofs.Common.{◌≡◌, Some, None, sym, ap, ◌∙◌}
use Rattle.onfi_cycle.specs.declared.tail_facts.TailFacts.{TailFacts}
use Rattle.onfi_cycle.specs.Sequence.{facts_of, tail}
use Rattle.target_bus.specs.Bus.{feature_set}
use Rattle.target_bus.proofs.working.feature_of.Goals as goal

pub returns-in-None : goal.returns-in-None
returns-in-None c = λ g n past f here.
    let no : None ≡ Some (facts_of (tail past c.args.ce)) = sym c.in-None.is ∙ c.tail.ensures.past g n past f here in
    cc

pub returns-in-Some : goal.returns-in-Some
returns-in-Some c = λ g n past f here.
    let some : Some c.in-Some.tail ≡ Some (facts_of (tail past c.args.ce)) = sym c.in-Some.is ∙ c.tail.ensures.past g n past f here in
    let same : c.in-Some.tail ≡ facts_of (tail past c.args.ce) = cc in
    c.feature_set.ensures ∙ ap (λ (t : TailFacts). feature_set t c.args.count) same
