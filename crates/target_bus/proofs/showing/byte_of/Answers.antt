use Rattle.std.proofs.Common.{sym, ◌∙◌}
use Rattle.target_bus.proofs.Shown.{not_missing, shown_there}
use Rattle.target_bus.proofs.showing.byte_of.Goals as goal

pub returns-in-None : goal.returns-in-None
returns-in-None g c = λ s past byte f here low is same shows. absurd (not_missing s.geometry s.targets past c.args.lun here low (sym c.in-None.is ∙ c.lun_state.ensures.past s.geometry s.targets past f))

pub returns-in-Some : goal.returns-in-Some
returns-in-Some g c = λ s past byte f here low is same shows.
    c.shown_as.ensures byte (shown_there s past c.args.lun c.args.die.now c.in-Some.look is same here low (sym c.in-Some.is ∙ c.lun_state.ensures.past s.geometry s.targets past f) ∙ shows)
