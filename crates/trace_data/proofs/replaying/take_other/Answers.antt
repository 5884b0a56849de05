use Rattle.std.proofs.Common.{List, ap, ◌∙◌, length}
use Rattle.std.proofs.lemmas.List.{length-reverse}
use Rattle.onfi_cycle.specs.declared.item.Item.{Item}
use Rattle.onfi_cycle.specs.declared.item.Item.TheVariants.{Cyc}
use Rattle.target_bus.proofs.Standing.{on_ok}
use Rattle.trace_data.proofs.Walks.{other_stands}
use Rattle.trace_data.proofs.replaying.take_other.Goals as goal

pub returns-clause-works : goal.returns-clause-works
returns-clause-works c =
    let bus = c.args.bus.now in
    let stands = c.requires.stands in
    let moved = c.in_ok-go_on_all.ensures in
    let number = ap (λ (items : List Item). length items) c.trace-number.ensures.value ∙ length-reverse bus.past in
    on_ok c.put.result _ _ c.put.ensures.ok
    (λ x come. other_stands bus c.put.new.self (Cyc c.args.cycle) c.args.works.now c.go_on_all.new.works stands come.1 moved.count
    (moved.works bus.geometry bus.targets bus.past c.state-2.ensures stands.count number stands.works))
