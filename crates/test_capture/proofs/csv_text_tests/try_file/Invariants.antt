use Rattle.csv_text.specs.Shown.{HasRoom, bytes_left}
use Rattle.test_capture.proofs.csv_text_tests.try_file.Given as goal

abbrev pub invariant-events : goal.invariant-events
invariant-events g l = HasRoom l.body

abbrev pub decreases-events : goal.decreases-events
decreases-events g l = bytes_left l.body
