use Rattle.std.proofs.Common.{ap}
use Rattle.trace_ops.specs.Listing.{Listing}
use Rattle.trace_ops.proofs.Listed.{took}
use Rattle.trace_ops.proofs.listing.take_by.Goals as goal

pub returns-clause-ops : goal.returns-clause-ops
returns-clause-ops g c =
    ap (λ (l : Listing). l.ops) (took c.args.owner c.args.judged.now c.args.number (record { places = c.args.places.now; ops = c.args.ops.now.items }) _ _ _ _ _ _ _ _ _ c.in_ok-push_new.ensures.places c.in_ok-push_new.ensures.ops c.note_at.ensures c.begin_all.ensures.places c.begin_all.ensures.ops c.select_all.ensures.places c.select_all.ensures.ops c.poll.ensures (c.end_by_ready.ensures c.select_all.new.places))

pub returns-clause-places : goal.returns-clause-places
returns-clause-places g c =
    ap (λ (l : Listing). l.places) (took c.args.owner c.args.judged.now c.args.number (record { places = c.args.places.now; ops = c.args.ops.now.items }) _ _ _ _ _ _ _ _ _ c.in_ok-push_new.ensures.places c.in_ok-push_new.ensures.ops c.note_at.ensures c.begin_all.ensures.places c.begin_all.ensures.ops c.select_all.ensures.places c.select_all.ensures.ops c.poll.ensures (c.end_by_ready.ensures c.select_all.new.places))
