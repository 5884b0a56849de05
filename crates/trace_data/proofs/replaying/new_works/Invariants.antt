use Rattle.std.proofs.Common.{◌≡◌, replicate}
use Rattle.trace_data.specs.Data.{no_works}
use Rattle.trace_data.proofs.replaying.new_works.Given as goal

abbrev pub invariant-loop : goal.invariant-loop
invariant-loop l = l.works.items ≡ replicate l.counter no_works
