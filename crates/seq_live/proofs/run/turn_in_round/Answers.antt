use Rattle.std.proofs.Common.{◌∙◌, inr, refl, sym}
use Rattle.seq_live.proofs.Turns.{never_back, never_turned, may_turn}
use Rattle.seq_live.proofs.run.turn_in_round.Goals as goal

pub returns-in-None-clause-ok : goal.returns-in-None-clause-ok
returns-in-None-clause-ok g c = inr (record { same = refl; pins = refl; job = refl; back = λ none. (never_back c.args.job.now (sym c.lun.ensures ∙ c.in-None.is), none) })

pub returns-else-take-clause-ok : goal.returns-else-take-clause-ok
returns-else-take-clause-ok g c = inr (record { same = refl; pins = refl; job = refl; back = λ none. absurd (never_turned c.take.result (c.take.ensures none) c.if-take.false) })

pub returns-then-take-clause-ok : goal.returns-then-take-clause-ok
returns-then-take-clause-ok g c = may_turn c.args.most c.args.live.now c.turn_job.new.live c.args.job.now c.turn_job.new.job c.args.turns.now.had c.take.new.self.had (g.P.Pins.driven c.args.pins.now) (g.P.Pins.driven c.turn_job.new.pins) c.turn_job.result c.turn_job.ensures.ok
