use Rattle.std.proofs.Common.{None}
use Rattle.test_limits.proofs.gate_tests.a_gate_is_asked_of_each_poll.Given as goal

abbrev pub ghosts-play-L-Ledger : goal.ghosts-play-L-Ledger
ghosts-play-L-Ledger g a = record { name = a.blank.name; parts = a.blank.parts }

abbrev pub ghosts-play-L-Turns : goal.ghosts-play-L-Turns
ghosts-play-L-Turns g a = record { all = a.blank.parts; origin = None }
