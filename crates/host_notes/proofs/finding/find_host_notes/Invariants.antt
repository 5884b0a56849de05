use Rattle.std.proofs.Common.{length}
use Rattle.host_notes.proofs.finding.find_host_notes.Given as goal

abbrev pub decreases-rest : goal.decreases-rest
decreases-rest g l = length l.rest
