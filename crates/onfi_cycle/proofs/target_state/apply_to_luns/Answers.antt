use Rattle.std.proofs.Common.{sym, ◌∙◌}
use Rattle.onfi_cycle.specs.State.{has_driver}
use Rattle.onfi_cycle.proofs.Applied.{luns_rest}
use Rattle.onfi_cycle.proofs.target_state.apply_to_luns.Goals as goal

pub returns-else-may_act : goal.returns-else-may_act
returns-else-may_act c = luns_rest c.args.geometry.now c.args.tail.now (has_driver c.args.luns.now) c.args.cycle 0 c.args.luns.now (sym c.may_act.ensures ∙ c.if-may_act.false)
