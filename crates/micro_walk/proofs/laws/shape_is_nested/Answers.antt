use Rattle.micro_walk.proofs.ShapeNested.{shape_is_right}
use Rattle.micro_walk.proofs.laws.shape_is_nested.Goals as goal

pub returns : goal.returns
returns c = shape_is_right
