use Rattle.std.proofs.Common.{◌≡◌, ◌+◌, length}
use Rattle.channel_work.specs.State.{turns_of}
use Rattle.channel_work.proofs.channel_state.merge_passes.Given as goal

abbrev pub invariant-loop-pass : goal.invariant-loop-pass
invariant-loop-pass g l = record {
  turns : l.turns + turns_of l.passes.items ≡ turns_of l.fn.passes.items;
  amount : l.own.amount ≡ l.turns;
  parts : l.own.parts + length l.passes.items ≡ l.fn.own.parts + length l.fn.passes.items;
  same : l.history ≡ l.fn.history;
}

abbrev pub decreases-loop-pass : goal.decreases-loop-pass
decreases-loop-pass g l = goal.left-loop-pass g l
