use Rattle.std.proofs.Common.{◌+◌, ◌<◌, ◌^◌, length}
use Rattle.edge_timing.proofs.dump_unit.find_unit.Given as goal

abbrev pub invariant-words : goal.invariant-words
invariant-words l = l.words.line + length l.words.rest.now < 2 ^ 64

abbrev pub decreases-words : goal.decreases-words
decreases-words l = length l.words.rest.now
