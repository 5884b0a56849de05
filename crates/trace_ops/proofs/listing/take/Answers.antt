use Rattle.std.proofs.Common.{ap, ◌∙◌, List}
use Rattle.trace_ops.specs.declared.operation.Operation.{Operation}
use Rattle.trace_ops.specs.Listing.{Listing, owner_of, number_of}
use Rattle.trace_ops.proofs.Listed.{taken}
use Rattle.trace_ops.proofs.listing.take.Goals as goal

pub returns-clause-ops : goal.returns-clause-ops
returns-clause-ops g c =
    ap (λ (l : Listing). l.ops) (taken c.args.judged.now c.args.places.now _ c.args.ops.now.items c.end_all.new.ops.items _ c.owner_of-owner.result c.number_of-number.result c.end_all.ensures (c.owner_of-owner.ensures ∙ ap (λ (os : List Operation). owner_of os c.args.places.now c.args.judged.now c.args.judged.now.item) c.as_slice.ensures.value) (c.number_of-number.ensures ∙ ap (number_of c.owner_of-owner.result) c.as_slice-2.ensures.value) c.in_ok-take_by.ensures.places c.in_ok-take_by.ensures.ops)

pub returns-clause-places : goal.returns-clause-places
returns-clause-places g c =
    ap (λ (l : Listing). l.places) (taken c.args.judged.now c.args.places.now _ c.args.ops.now.items c.end_all.new.ops.items _ c.owner_of-owner.result c.number_of-number.result c.end_all.ensures (c.owner_of-owner.ensures ∙ ap (λ (os : List Operation). owner_of os c.args.places.now c.args.judged.now c.args.judged.now.item) c.as_slice.ensures.value) (c.number_of-number.ensures ∙ ap (number_of c.owner_of-owner.result) c.as_slice-2.ensures.value) c.in_ok-take_by.ensures.places c.in_ok-take_by.ensures.ops)
