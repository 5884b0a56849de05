use Rattle.std.proofs.Common.{None}
use Rattle.test_channel_calls.proofs.refusal_tests.each_refusal_loses_nothing.Given as goal

abbrev pub ghosts-tell_both-L-Ledger : goal.ghosts-tell_both-L-Ledger
ghosts-tell_both-L-Ledger g a = record { name = a.blank.name; parts = a.blank.parts }

abbrev pub ghosts-tell_both-L-Turns : goal.ghosts-tell_both-L-Turns
ghosts-tell_both-L-Turns g a = record { all = a.blank.parts; origin = None }
