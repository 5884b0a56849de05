use Rattle.std.proofs.Common.{None}
use Rattle.test_channel_calls.proofs.refusal_tests.another_goes_on_after_a_refusal.Given as goal

abbrev pub ghosts-look_at_two-L-Ledger : goal.ghosts-look_at_two-L-Ledger
ghosts-look_at_two-L-Ledger g a = record { name = a.blank.name; parts = a.blank.parts }

abbrev pub ghosts-look_at_two-L-Turns : goal.ghosts-look_at_two-L-Turns
ghosts-look_at_two-L-Turns g a = record { all = a.blank.parts; origin = None }
