use Rattle.std.proofs.Common.{subst}
use Rattle.target_bus.specs.Bus.{Traced, channel_of, StandFor}
use Rattle.target_bus.proofs.bus.Bus.left.Goals as goal

pub returns-clause-dies : goal.returns-clause-dies
returns-clause-dies g c = subst (λ (b : Traced). StandFor (channel_of b) b.past c.self.inside.dies.items) c.self.view_is c.self.invariant.standing.stand
