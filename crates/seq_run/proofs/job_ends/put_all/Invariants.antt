use Rattle.std.proofs.Common.{◌≡◌, map, length}
use Rattle.channel_work.specs.Done.{ended_of}
use Rattle.seq_run.specs.Endings.{ending_outputs, ending_names}
use Rattle.seq_run.proofs.Endings.{Puts}
use Rattle.seq_run.proofs.job_ends.put_all.Given as goal

abbrev pub invariant-loop-named : goal.invariant-loop-named
invariant-loop-named l =
    (ending_outputs l.endings.items ≡ ending_outputs l.initial.endings.items)
    × (ending_names l.endings.items ≡ ending_names l.initial.endings.items)
    × Puts (map ended_of l.initial.done.items) (map ended_of l.done.items) l.initial.endings.items l.endings.items

abbrev pub decreases-loop-named : goal.decreases-loop-named
decreases-loop-named l = length l.done.items
