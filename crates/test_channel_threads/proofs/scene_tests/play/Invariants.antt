use Rattle.std.proofs.Common.{None}
use Rattle.test_channel_threads.proofs.scene_tests.play.Given as goal

abbrev pub ghosts-run_scene-L-Ledger : goal.ghosts-run_scene-L-Ledger
ghosts-run_scene-L-Ledger g a = record { name = a.blank.name; parts = a.blank.parts }

abbrev pub ghosts-run_scene-L-Turns : goal.ghosts-run_scene-L-Turns
ghosts-run_scene-L-Turns g a = record { all = a.blank.parts; origin = None }
