use Rattle.std.proofs.Common.{◌≡◌, ◌+◌, ◌-◌, ◌*◌, ◌≤◌, length, take}
use Rattle.std.specs.List.{All}
use Rattle.std.specs.Vec.{vec_len, vec_capacity}
use Rattle.trace_text.specs.Recorded.{TimeFits, timed_text}
use Rattle.trace_text.proofs.recorded_printing.timed_bytes.Given as goal

abbrev pub invariant-loop-item : goal.invariant-loop-item
invariant-loop-item g l = record {
  so_far : l.text.items ≡ timed_text (take l.item-index l.items);
  places : vec_len l.text + 30 * (length l.items - l.item-index) ≤ vec_capacity l.text;
  fits : All TimeFits (take l.item-index l.items);
}
