use Rattle.std.proofs.Common.{None, get_or, ap, ◌∙◌, arith}
use Rattle.vcd_text.specs.Body.{width_of}
use Rattle.vcd_text.proofs.Looking.{short_of}
use Rattle.vcd_text.proofs.widths.Widths.get.Goals as goal

pub returns-then-code-len : goal.returns-then-code-len
returns-then-code-len g c =
    ap (λ short. get_or short c.args.code None) c.as_slice.ensures.value
    ∙ (short_of c.self.inside.all.entries c.args.code c.self.inside.short.items None c.self.invariant (omega (arith, c.if-code-len.true, c.len.ensures))
    ∙ ap (λ widths. width_of widths c.args.code) c.self.view_is)
