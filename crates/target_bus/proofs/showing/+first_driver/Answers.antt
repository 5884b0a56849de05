use Rattle.std.proofs.Common.{◌<◌, sym, ◌∙◌, arith}
use Rattle.onfi_cycle.specs.Lun.{latch}
use Rattle.target_bus.proofs.Shown.{first_more}
use Rattle.target_bus.proofs.showing.+first_driver.Goals as goal

pub returns-then-is_off_at-clause-past : goal.returns-then-is_off_at-clause-past
returns-then-is_off_at-clause-past t c = λ g targets past count f here luns is.
    let low : c.args.lun < g.luns = omega (arith, luns, c.requires, c.if-lun-luns.false) in
    first_more (λ m. latch g past (record { ce = c.args.ce; lun = m })) c.args.luns c.args.lun count c.first_driver.result (sym (c.is_off_at.ensures g targets past f here low) ∙ c.if-is_off_at.true) c.if-lun-luns.false is
    (λ more later. c.first_driver.ensures.past g targets past more f here luns later)
