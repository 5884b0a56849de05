use Rattle.std.proofs.Common.{sym, ◌∙◌}
use Rattle.onfi_cycle.specs.Sequence.{facts_of, tail}
use Rattle.onfi_cycle.specs.Lun.{held}
use Rattle.target_bus.proofs.ByKind.{leaves}
use Rattle.target_bus.proofs.working.filling_by.Goals as goal

pub returns-else-may_fill : goal.returns-else-may_fill
returns-else-may_fill c = λ g n past f here low. leaves g (facts_of (tail past c.args.lun.ce)) c.args.cycle c.args.lun (held g past c.args.lun) (sym c.may_fill.ensures ∙ c.if-may_fill.false)
