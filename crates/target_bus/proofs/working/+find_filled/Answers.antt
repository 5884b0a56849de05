use Rattle.std.proofs.Common.{ℕ, ◌<◌, sym, ap, ◌∙◌, arith}
use Rattle.onfi_cycle.specs.declared.item.Item.{Item}
use Rattle.onfi_cycle.specs.Filling.{filling}
use Rattle.onfi_cycle.specs.Lun.{held}
use Rattle.target_bus.specs.Bus.{lun_at}
use Rattle.target_bus.proofs.Inputs.{facts, filled_later, fills_nothing, is_input_filling}
use Rattle.target_bus.proofs.working.+find_filled.Goals as goal

pub returns-in-Leaves : goal.returns-in-Leaves
returns-in-Leaves t c =
    record {
      there = c.find_filled.ensures.there;
      past = λ g n past f here luns.
          let low : c.args.lun < g.luns = omega (arith, luns, c.requires, c.if-lun-luns.false) in
          filled_later g past c.args.ce c.args.lun c.find_filled.result
          (ap (λ (i : Item). is_input_filling (filling g (facts past c.args.ce) i (lun_at c.args.ce c.args.lun) (held g past (lun_at c.args.ce c.args.lun)))) (sym c.input.ensures) ∙
          (ap is_input_filling (sym (c.filling.ensures.past g n past f here low)) ∙ fills_nothing c.filling.result c.in-Leaves.is))
          (c.find_filled.ensures.past g n past f here luns);
    }
