use Rattle.std.proofs.Common.{◌≡◌, None, length, replicate}
use Rattle.seq_core.proofs.lun_slots.empty_slots.Given as goal

abbrev pub invariant-loop : goal.invariant-loop
invariant-loop g l = record {
  items : l.slots.items ≡ replicate l.counter None;
  count : length l.slots.items ≡ l.counter;
}
