use Rattle.std.proofs.Common.{◌≡◌, length}
use Rattle.onfi_cycle.specs.Content.{and_bytes}
use Rattle.die_model.proofs.Ands.{and_from}
use Rattle.die_model.proofs.page.and_into.Given as goal

abbrev pub invariant-loop-k : goal.invariant-loop-k
invariant-loop-k l = record { length : length l.old ≡ length l.initial.old; bytes : and_from l.k l.old l.new ≡ and_bytes l.initial.old l.new }
