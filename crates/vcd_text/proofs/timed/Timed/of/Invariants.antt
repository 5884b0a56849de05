use Rattle.std.proofs.Common.{◌≡◌, ◌≤◌, ◌-◌, Some, length, take}
use Rattle.vcd_text.specs.Tokens.{decimal_from}
use Rattle.vcd_text.proofs.timed.Timed.of.Given as goal

abbrev pub invariant-digits : goal.invariant-digits
invariant-digits l = record {
  within : l.count ≤ length l.text;
  number : decimal_from 0 (take l.count l.text) ≡ Some l.time;
}

abbrev pub decreases-digits : goal.decreases-digits
decreases-digits l = length l.text - l.count
