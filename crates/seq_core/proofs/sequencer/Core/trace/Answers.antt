use Rattle.std.proofs.Common.{subst}
use Rattle.seq_core.specs.Calls.{IsCore}
use Rattle.seq_core.proofs.sequencer.Core.trace.Goals as goal

pub returns-clause-core : goal.returns-clause-core
returns-clause-core g c = subst IsCore c.self.view_is c.self.invariant
