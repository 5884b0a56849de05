use Rattle.std.proofs.Common.{◌≡◌, ◌++◌, map, drop}
use Rattle.trace_data.specs.Data.{ended_as}
use Rattle.trace_data.proofs.lun_works.push_ended.Given as goal

abbrev pub invariant-loop-work : goal.invariant-loop-work
invariant-loop-work l = l.ended.items ++ map (ended_as l.failed) (drop l.work-index l.working) ≡ l.initial.ended.items ++ map (ended_as l.failed) l.working
