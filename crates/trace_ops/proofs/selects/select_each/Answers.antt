use Rattle.std.proofs.Common.{ap}
use Rattle.trace_ops.specs.Listing.{Listing, selected_on}
use Rattle.trace_ops.proofs.Listed.{four}
use Rattle.trace_ops.proofs.selects.select_each.Goals as goal

pub returns-clause-ops : goal.returns-clause-ops
returns-clause-ops g c =
    ap (λ (l : Listing). l.ops) (four (selected_on c.args.judged.now c.args.number 0) (selected_on c.args.judged.now c.args.number 1) (selected_on c.args.judged.now c.args.number 2) (selected_on c.args.judged.now c.args.number 3) (record { places = c.args.places.now; ops = c.args.ops.now.items }) _ _ _ _ _ _ _ _ c.select_on.ensures.places c.select_on.ensures.ops c.select_on-2.ensures.places c.select_on-2.ensures.ops c.select_on-3.ensures.places c.select_on-3.ensures.ops c.select_on-4.ensures.places c.select_on-4.ensures.ops)

pub returns-clause-places : goal.returns-clause-places
returns-clause-places g c =
    ap (λ (l : Listing). l.places) (four (selected_on c.args.judged.now c.args.number 0) (selected_on c.args.judged.now c.args.number 1) (selected_on c.args.judged.now c.args.number 2) (selected_on c.args.judged.now c.args.number 3) (record { places = c.args.places.now; ops = c.args.ops.now.items }) _ _ _ _ _ _ _ _ c.select_on.ensures.places c.select_on.ensures.ops c.select_on-2.ensures.places c.select_on-2.ensures.ops c.select_on-3.ensures.places c.select_on-3.ensures.ops c.select_on-4.ensures.places c.select_on-4.ensures.ops)
