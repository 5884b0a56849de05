-- The numbers of the one LUN are inside the limits.
use Rattle.std.proofs.lemmas.Option.{none-some}
use Rattle.nand_geometry.specs.Limits.{width}
use Rattle.run_once.proofs.once.geometry.Goals as goal

pub unreachable-requires : goal.unreachable-requires
unfolding width
unreachable-requires c = none-some c.in-Err.field-0 c.in-Err.ensures
