use Rattle.std.proofs.Common.{◌∙◌, refl, sym, ap}
use Rattle.seq_live.specs.Kept.{LiveView}
use Rattle.seq_live.proofs.Lives.{none_going}
use Rattle.seq_live.proofs.live.Live.begin.Goals as goal

pub returns-in-Some-clause-turn : goal.returns-in-Some-clause-turn
returns-in-Some-clause-turn g c = (λ yes. sym (ap (λ (v : LiveView). v.going) c.self.view_is) ∙ none_going c.self.inside.going c.is_some.result c.is_some.ensures c.if-is_some.false, λ none. refl)

pub returns-in-None-clause-turn : goal.returns-in-None-clause-turn
returns-in-None-clause-turn g c = (λ yes. sym (ap (λ (v : LiveView). v.going) c.self.view_is) ∙ none_going c.self.inside.going c.is_some.result c.is_some.ensures c.if-is_some.false, λ none. refl)
