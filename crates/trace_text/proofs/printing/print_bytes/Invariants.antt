use Rattle.std.proofs.Common.{◌≡◌, ◌+◌, ◌-◌, ◌*◌, ◌≤◌, length, take}
use Rattle.std.specs.List.{All}
use Rattle.std.specs.Vec.{vec_len, vec_capacity}
use Rattle.trace_text.specs.Line.{text, HasByte}
use Rattle.trace_text.proofs.printing.print_bytes.Given as goal

abbrev pub invariant-loop-item : goal.invariant-loop-item
invariant-loop-item g l = record {
  so_far : l.text.items ≡ text (take l.item-index l.items);
  places : vec_len l.text + 8 * (length l.items - l.item-index) ≤ vec_capacity l.text;
  byte : All HasByte (take l.item-index l.items);
}
