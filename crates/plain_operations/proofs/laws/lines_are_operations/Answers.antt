use Rattle.plain_operations.proofs.Ending.{lines_are}
use Rattle.plain_operations.proofs.laws.lines_are_operations.Goals as goal

pub returns : goal.returns
returns c s j ops seat run bytes r code plain step is legal small = lines_are s j ops seat run bytes r code plain step is legal small
