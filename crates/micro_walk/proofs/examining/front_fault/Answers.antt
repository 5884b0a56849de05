use Rattle.micro_walk.proofs.Front.{front_room}
use Rattle.micro_walk.proofs.examining.front_fault.Goals as goal

pub follow-requires : goal.follow-requires
follow-requires c =
    front_room c.args.words.now c.count_before_loops-count.result c.args.known.now c.split_at_mut-front.result.0.now c.count_before_loops-count.ensures.inside c.requires c.split_at_mut-front.ensures.front
