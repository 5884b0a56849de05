use Rattle.std.proofs.Common.{◌∙◌, sym, ap, length}
use Rattle.channel_work.proofs.Places.{somes_length}
use Rattle.channel_work.proofs.park.Park.len.Goals as goal

pub returns-clause-value : goal.returns-clause-value
returns-clause-value c = c.len.ensures.value ∙ (sym (somes_length c.self.inside.slots.items c.self.invariant) ∙ ap length c.self.view_is)
