use Rattle.micro_walk.proofs.ShapeTable.{nothing_told}
use Rattle.micro_walk.proofs.shape.nests_two_deep.Goals as goal

pub tell_around-requires-clause-after : goal.tell_around-requires-clause-after
tell_around-requires-clause-after c = nothing_told c.args.words.now
