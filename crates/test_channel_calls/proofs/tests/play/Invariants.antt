use Rattle.std.proofs.Common.{None}
use Rattle.test_channel_calls.proofs.tests.play.Given as goal

abbrev pub ghosts-do_work-L-Ledger : goal.ghosts-do_work-L-Ledger
ghosts-do_work-L-Ledger g a = record { name = a.blank.name; parts = a.blank.parts }

abbrev pub ghosts-do_work-L-Turns : goal.ghosts-do_work-L-Turns
ghosts-do_work-L-Turns g a = record { all = a.blank.parts; origin = None }
