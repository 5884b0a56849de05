use Rattle.std.proofs.Common.{subst}
use Rattle.onfi_cycle.specs.Channel.{IsChannel}
use Rattle.seq_core.specs.Shows.{channel_in}
use Rattle.channel_work.specs.Channel.{HistoryView}
use Rattle.channel_work.specs.Lawful.{IsLawful}
use Rattle.channel_work.specs.Origin.{IsFrom}
use Rattle.channel_work.proofs.Wellness.{went_well}
use Rattle.channel_work.proofs.history.History.trace.Goals as goal

pub returns-clause-lawful : goal.returns-clause-lawful
returns-clause-lawful g c = subst IsLawful c.self.view_is c.self.invariant.0

pub returns-clause-well : goal.returns-clause-well
returns-clause-well g c = went_well c.args.self.now (subst (λ (v : HistoryView). IsChannel (channel_in v.core)) c.self.view_is c.trace.ensures.core.is_channel) (subst IsLawful c.self.view_is c.self.invariant.0)

pub returns-clause-from : goal.returns-clause-from
returns-clause-from g c = subst (λ (v : HistoryView). IsFrom _ v.core v.taker) c.self.view_is c.self.invariant.2
