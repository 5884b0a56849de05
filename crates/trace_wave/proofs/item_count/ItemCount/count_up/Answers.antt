use Rattle.std.proofs.Common.{arith, refl}
use Rattle.trace_wave.proofs.Digits.{counted_on}
use Rattle.trace_wave.proofs.item_count.ItemCount.count_up.Goals as goal

pub invariant_of-self : goal.invariant_of-self
invariant_of-self c =
    let told = c.if-is_digit_below_nine.ensures refl in
    let less = c.requires in
    (omega (arith, less, c.self.view_is), c.self.invariant.1, c.self.invariant.2, counted_on c.self.inside.number c.self.inside.len c.self.inside.text c.self.invariant c.self.told told.0 told.1)
