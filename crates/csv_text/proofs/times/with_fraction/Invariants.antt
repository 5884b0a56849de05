use Rattle.std.proofs.Common.{◌≡◌, ◌+◌, ◌*◌, ◌/◌, ◌≤◌, drop}
use Rattle.csv_text.specs.Times.{fraction_from}
use Rattle.csv_text.proofs.times.with_fraction.Given as goal

abbrev pub invariant-loop-byte : goal.invariant-loop-byte
invariant-loop-byte l = record {
  same : fraction_from l.so_far l.weight (drop l.byte-index l.digits) ≡ fraction_from l.whole (l.unit / 10) l.digits;
  room : l.so_far + 10 * l.weight ≤ 18446744000000000000;
}
