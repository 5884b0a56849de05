use Rattle.std.proofs.Common.{arith, ◌≤◌, sym, subst, ℕ, ◌≡◌, ◌-◌, ◌^◌}
use Rattle.std.specs.Int.Count.{count_leading_zeros}
use Rattle.nand_geometry.proofs.FieldLemmas.{widths_least, width_by_zeros, width_is}
use Rattle.nand_geometry.proofs.field.width.Goals as goal

pub returns-then-count-le1-clause-value : goal.returns-then-count-le1-clause-value
returns-then-count-le1-clause-value c =
    let one = c.if-count-le1.true in
    width_is c.args.count 0 c.requires (omega (arith, one)) (λ v room. omega arith)

pub returns-clause-value : goal.returns-clause-value
returns-clause-value c =
    let same : 32 - count_leading_zeros 32 (c.args.count - 1) ≡ 32 - count_leading_zeros 32 (c.args.count - 1) = omega arith in
    width_by_zeros c.args.count (32 - count_leading_zeros 32 (c.args.count - 1)) c.if-count-le1.false c.requires same

pub returns-clause-small : goal.returns-clause-small
returns-clause-small c =
    let most = c.requires in
    let wide : c.args.count ≤ 2 ^ 17 = omega (arith, most) in
    subst (λ (w : ℕ). w ≤ 17) (sym (returns-clause-value c)) ((widths_least c.args.count c.requires).least 17 wide)
