use Rattle.std.proofs.Common.{◌≡◌, drop, false}
use Rattle.trace_faults.specs.Denied.{tells_from}
use Rattle.trace_faults.proofs.denied.tells_readies.Given as goal

abbrev pub invariant-loop-item : goal.invariant-loop-item
invariant-loop-item l = tells_from l.ce l.asks l.waits (drop l.item-index l.items) ≡ tells_from l.ce false false l.items
