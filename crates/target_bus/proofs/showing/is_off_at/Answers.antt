use Rattle.std.proofs.Common.{sym, ◌∙◌}
use Rattle.target_bus.proofs.Shown.{off_there, not_missing}
use Rattle.target_bus.proofs.showing.is_off_at.Goals as goal

pub returns-in-None : goal.returns-in-None
returns-in-None c = λ g n past f here low. absurd (not_missing g n past c.args.lun here low (sym c.in-None.is ∙ c.lun_state.ensures.past g n past f))

pub returns-in-Some : goal.returns-in-Some
returns-in-Some c = λ g n past f here low. c.is_off.ensures ∙ off_there g n past c.args.lun c.in-Some.found here low (sym c.in-Some.is ∙ c.lun_state.ensures.past g n past f)
