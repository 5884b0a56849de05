use Rattle.std.proofs.Common.{◌≡◌, length}
use Rattle.vcd_text.specs.Widths.{AreShort}
use Rattle.vcd_text.proofs.widths.Widths.of.Given as goal

abbrev pub invariant-loop-code : goal.invariant-loop-code
invariant-loop-code g l = record {
  short : AreShort l.all.entries 0 l.short.items;
  count : length l.short.items ≡ l.code-counter;
}
