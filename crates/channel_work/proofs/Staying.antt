-- A history is where it began.
use Rattle.std.proofs.Common.{◌≡◌, Bool, true, false, Option, Some, None, sym, ◌∙◌, subst}
use Rattle.micro_program.specs.Program.{Job}
use Rattle.seq_core.specs.Event.{Event}
use Rattle.seq_core.specs.Reply.{Reply}
use Rattle.seq_core.specs.Shows.{CoreView, channel_in}
use Rattle.seq_core.specs.Calls.{IsEvent}
use Rattle.job_queue.specs.Passes.{Taking}
use Rattle.channel_work.specs.Channel.{HistoryView}
use Rattle.channel_work.specs.Lawful.{IsLawful}
use Rattle.channel_work.specs.Origin.{Origin, IsFrom}
use Rattle.channel_work.specs.Starting.{MayHaveTaken}
use Rattle.channel_work.proofs.Runs.{came_after}

channel_stays : (o : Option Origin) (core later : CoreView) (taker : Taking Job) → channel_in later ≡ channel_in core → IsFrom o core taker → IsFrom o later taker
channel_stays None core later taker same from = tt
channel_stays (Some o) core later taker same from = record { channel = same ∙ from.channel; table = from.table; hosts = from.hosts }

-- an event leaves the channel
pub event_stays : (o : Option Origin) (v : HistoryView) (later : CoreView) (e : Event) (reply : Reply) → IsLawful v → IsEvent v.core e reply later → IsFrom o v.core v.taker → IsFrom o later v.taker
event_stays o v later e reply h event from =
    channel_stays o v.core later v.taker (came_after v.core later h.events h.replies e reply h.run event).channel from

-- taking a job leaves the queue
pub taking_stays : (o : Option Origin) (v u : HistoryView) (took : Bool) → MayHaveTaken v took u → IsFrom o v.core v.taker → IsFrom o u.core u.taker
taking_stays None v u took may from = tt
taking_stays (Some o) v u true may from =
    subst (λ (w : HistoryView). IsFrom (Some o) w.core w.taker) (sym may.1) (record { channel = from.channel; table = from.table; hosts = from.hosts })
taking_stays (Some o) v u false may from = subst (λ (w : HistoryView). IsFrom (Some o) w.core w.taker) (sym may) from
