use Rattle.std.proofs.Common.{subst}
use Rattle.onfi_cycle.specs.Bounds.{BusFits}
use Rattle.onfi_cycle.proofs.Working.{facts_fit}
use Rattle.onfi_cycle.proofs.bus_state.BusState.facts_fit.Goals as goal

pub returns-clause-past : goal.returns-clause-past
returns-clause-past c = λ g n past f. facts_fit g n c.args.self.now past (subst BusFits c.self.view_is c.self.invariant) f
