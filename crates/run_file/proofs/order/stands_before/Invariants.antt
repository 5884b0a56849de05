use Rattle.std.proofs.Common.{◌≡◌, drop}
use Rattle.run_file.specs.Told.{stands_before}
use Rattle.run_file.specs.Shown.{shown_statement, shown_all}
use Rattle.run_file.proofs.order.stands_before.Given as goal

abbrev pub invariant-loop-earlier : goal.invariant-loop-earlier
invariant-loop-earlier l =
    stands_before (shown_statement l.statement) (shown_all (drop l.earlier-index l.before)) ≡
    stands_before (shown_statement l.statement) (shown_all l.before)
