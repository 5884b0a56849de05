use Rattle.onfiseq_text_c.proofs.InFront.{goes_on}
use Rattle.onfiseq_text_c.proofs.trace.place_items.Goals as goal

pub loop-place-preserved : goal.loop-place-preserved
loop-place-preserved c =
    record { so_far = goes_on c.args.made.now c.loop-place.place _ c.args.items.now c.loop-place.items c.place_item.new.items c.loop-place-test.true c.loop-place.invariant.so_far c.place_item.ensures }
