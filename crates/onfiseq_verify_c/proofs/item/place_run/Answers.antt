use Rattle.std.proofs.Common.{List, map, ap, ◌∙◌}
use Rattle.onfi_cycle.specs.declared.item.Item.{Item}
use Rattle.onfiseq_verify_c.specs.Run.{numbers_of, placed}
use Rattle.onfiseq_verify_c.proofs.Placed.{run_placed}
use Rattle.onfiseq_verify_c.proofs.item.place_run.Goals as goal

pub returns-in-Some-clause-items : goal.returns-in-Some-clause-items
returns-in-Some-clause-items c run shown =
    run_placed c.args.run c.in-Some.field-0 run c.args.items.now c.place_items.new.items c.place_item.new.items c.len.result c.in-Some.is shown
    (c.len.ensures ∙ c.in-Some.field-0.items.ok.0)
    (c.place_items.ensures ∙ ap (λ (trace : List Item). placed (map numbers_of trace) c.args.items.now) c.as_slice.ensures.value) c.place_item.ensures
