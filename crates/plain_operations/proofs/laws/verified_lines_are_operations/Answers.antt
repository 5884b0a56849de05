use Rattle.plain_operations.proofs.Ending.{verified_lines}
use Rattle.plain_operations.proofs.laws.verified_lines_are_operations.Goals as goal

pub returns : goal.returns
returns c s j ops seat run bytes r code plain safe job may step is small = verified_lines s j ops seat run bytes r code plain safe job may step is small
