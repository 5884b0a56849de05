use Rattle.std.proofs.Common.{◌+◌, ◌*◌, Some, ap, sym, ◌∙◌, arith}
use Rattle.std.proofs.lemmas.Bool.{lt-ltb}
use Rattle.vcd_text.proofs.Digits.{digits_on}
use Rattle.vcd_text.proofs.timed.Timed.of.Goals as goal

pub digits-preserved : goal.digits-preserved
digits-preserved c = record {
  within = omega (arith, c.digits-test.true);
  number =
      digits_on c.digits.count c.args.text.now c.digits.time c.digits-test.true c.digits.invariant.number (sym c.is_digit.ensures ∙ c.if-is_digit.true)
      (lt-ltb c.digits.time 1000000000000000000 (omega (arith, c.if-time-ge1000000000000000000.false)))
      ∙ ap (λ n. Some (10 * c.digits.time + n)) (sym c.from.ensures);
}
