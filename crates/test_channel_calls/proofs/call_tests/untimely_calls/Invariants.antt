use Rattle.std.proofs.Common.{None}
use Rattle.test_channel_calls.proofs.call_tests.untimely_calls.Given as goal

abbrev pub ghosts-play_script-L-Ledger : goal.ghosts-play_script-L-Ledger
ghosts-play_script-L-Ledger g a = record { name = a.blank.name; parts = a.blank.parts }

abbrev pub ghosts-play_script-L-Turns : goal.ghosts-play_script-L-Turns
ghosts-play_script-L-Turns g a = record { all = a.blank.parts; origin = None }
