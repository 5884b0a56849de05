-- What a lawful value says of its run.
use Rattle.std.proofs.Common.{sym, ◌∙◌, subst}
use Rattle.onfi_cycle.specs.Channel.{IsChannel}
use Rattle.seq_core.specs.After.{Ran}
use Rattle.seq_core.specs.Shows.{channel_in, IsAt}
use Rattle.seq_core.proofs.Main.{headline}
use Rattle.seq_core.proofs.Runnings.{same_ran}
use Rattle.channel_work.specs.Channel.{HistoryView}
use Rattle.channel_work.specs.Lawful.{IsLawful, WentWell}

pub went_well : (v : HistoryView) → IsChannel (channel_in v.core) → IsLawful v → WentWell v
went_well v is h =
    let well = headline (channel_in v.core) h.events is h.verified in
    let same = same_ran h.run.ran well.ran (sym h.run.is_ran ∙ well.is_ran) in
    record { events = h.events; stored = h.stored; well = well; is_at = subst (λ (r : Ran). IsAt v.core r.world) same h.run.is_at }
