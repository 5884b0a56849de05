use Rattle.std.proofs.Common.{refl}
use Rattle.onfiseq_verify_c.proofs.Placed.{item_placed}
use Rattle.onfiseq_verify_c.proofs.item.place_found.Goals as goal

pub returns-in-Some-clause-items : goal.returns-in-Some-clause-items
returns-in-Some-clause-items c =
    item_placed c.args.trace.now c.args.last c.in-Some.item c.args.items.now c.place_items.new.items c.place_item.new.items _ c.in-Some.is refl c.place_items.ensures c.place_item.ensures
