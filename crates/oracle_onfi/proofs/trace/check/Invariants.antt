use Rattle.std.proofs.Common.{◌≡◌, true}
use Rattle.std.specs.Prelude.{reverse, take}
use Rattle.onfi_cycle.specs.Permitted.{is_legal}
use Rattle.oracle_onfi.proofs.trace.check.Given as goal

abbrev pub invariant-loop-i : goal.invariant-loop-i
invariant-loop-i l =
    record {
      so_far : l.past.items ≡ reverse (take l.i l.items);
      legal : is_legal l.geometry l.targets l.past.items ≡ true;
    }
