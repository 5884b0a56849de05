use Rattle.std.proofs.Common.{sym, ◌∙◌, ◌<◌, arith}
use Rattle.onfi_cycle.specs.declared.item.Item.TheVariants.{Cyc}
use Rattle.target_bus.specs.Bus.{lun_at}
use Rattle.target_bus.proofs.Standing.{finds_later, rests_by}
use Rattle.target_bus.proofs.working.+find_work.Goals as goal

pub returns-clause-past : goal.returns-clause-past
returns-clause-past t c = λ g targets past f here luns.
    let low : c.args.lun < g.luns = omega (arith, luns, c.requires, c.if-lun-luns.false) in
    finds_later g past (Cyc c.args.cycle) c.args.cycle.ce c.args.lun c.find_work.result
    (rests_by g past (Cyc c.args.cycle) (lun_at c.args.cycle.ce c.args.lun) c.filling_by-filling.result c.effect-effect.result (c.filling_by-filling.ensures g targets past f here low) (c.effect-effect.ensures.past g targets past f here low) (sym c.fills.ensures ∙ c.if-fills.false) (sym c.begins.ensures ∙ c.if-begins.false))
    (c.find_work.ensures.past g targets past f here luns)
