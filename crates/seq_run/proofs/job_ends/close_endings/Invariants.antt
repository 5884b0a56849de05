use Rattle.std.proofs.Common.{◌≡◌, map}
use Rattle.seq_run.specs.Written.{ended_outputs}
use Rattle.seq_run.specs.Happened.{ended_names}
use Rattle.seq_run.specs.Endings.{ending_outputs, ending_names, given_of, told_of}
use Rattle.seq_run.proofs.job_ends.close_endings.Given as goal

abbrev pub invariant-loop-ending : goal.invariant-loop-ending
invariant-loop-ending l =
    (ended_outputs l.ended.items ≡ ending_outputs l.yielded)
    × (ended_names l.ended.items ≡ ending_names l.yielded)
    × (map told_of l.ended.items ≡ map given_of l.yielded)
