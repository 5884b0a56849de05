use Rattle.std.proofs.Common.{None}
use Rattle.test_limits.proofs.backlog_tests.waiting_jobs_keep_none_in_the_queue.Given as goal

abbrev pub ghosts-work_past_waiting-L-Ledger : goal.ghosts-work_past_waiting-L-Ledger
ghosts-work_past_waiting-L-Ledger g a = record { name = a.blank.name; parts = a.blank.parts }

abbrev pub ghosts-work_past_waiting-L-Turns : goal.ghosts-work_past_waiting-L-Turns
ghosts-work_past_waiting-L-Turns g a = record { all = a.blank.parts; origin = None }
