-- The lawful value under the lock of a channel.
use Rattle.std.specs.Prelude.{◌≡◌, List, ◌++◌, Some, map, reverse, length}
use Rattle.std.specs.List.{filter}
use Rattle.onfi_cycle.specs.declared.lun.Lun.{Lun}
use Rattle.onfi_cycle.specs.Channel.{same_lun}
use Rattle.micro_program.specs.Program.{Job}
use Rattle.seq_core.specs.World.{fresh}
use Rattle.seq_core.specs.Event.{Event, AllLoadVerified}
use Rattle.seq_core.specs.Reply.{Reply}
use Rattle.seq_core.specs.Shows.{channel_in, IsAt}
use Rattle.seq_core.specs.Headline.{GoesWell}
use Rattle.seq_core.specs.EventList.{RanFrom}
use Rattle.job_queue.specs.declared.rule.QueuedJob.{QueuedJob}
use Rattle.job_queue.specs.Rule.{IsInOrder}
use Rattle.channel_work.specs.Stored.{name_of, AreStoredAs, AreAnswered, loads_of, given_in, unloaded_names}
use Rattle.channel_work.specs.Turns.{turns_in, AreTurns}
use Rattle.channel_work.specs.Counts.{AreCounts}
use Rattle.channel_work.specs.Channel.{HistoryView}

-- the jobs of a LUN, in order
abbrev pub of_lun : Lun → List (QueuedJob Job) → List (QueuedJob Job)
of_lun l jobs = filter (λ x. same_lun l x.job.lun) jobs

-- the value under the lock is lawful
pub record IsLawful (v : HistoryView) : Type 0 where
  -- the events that are stored, with the job of a load found by its name among those that were taken, and how they were answered
  pub events : List Event
  pub replies : List Reply
  pub stored : AreStoredAs v.taker.taken v.events events
  -- no event that was refused is stored, and each job that was loaded is verified
  pub answered : AreAnswered v.events replies
  pub verified : AllLoadVerified events
  -- these events, run from a new channel, come to the core
  pub run : RanFrom v.core (fresh (channel_in v.core)) events replies v.core
  -- the loads among them are the started jobs, in order
  pub loads : loads_of v.events ≡ v.started
  -- the jobs that are done are those that the unloads gave, in order, and each has the name that was started on its LUN last
  pub gave : given_in replies ≡ map (λ d. (d.job, d.code)) v.done
  pub done : unloaded_names (reverse v.events) ≡ map (λ d. Some d.name) (reverse v.done)
  -- of each LUN, the taken jobs are those that were started and behind them those that wait, in their order
  pub jobs : List (QueuedJob Job)
  pub started : map name_of jobs ≡ v.started
  pub order : (l : Lun) → of_lun l jobs ++ of_lun l v.backlog ≡ of_lun l v.taker.taken
  -- the taken jobs are those that the taker took, in order; the numbers of each host rise by one from 0
  pub taken : v.taken ≡ map name_of v.taker.taken
  pub numbers : IsInOrder v.taker.taken v.taker.hosts
  -- for each LUN, its readies are counted, and the polls that showed it busy since its last one, in the trace of the stored events
  pub counts : AreCounts v.core.geometry v.counts v.core.past
  pub size : length v.counts ≡ 16
  -- a step that was stored names its turn by a number, and turns count up from 0; what one turn stored is one run of steps, on
  -- one LUN
  pub turns : AreTurns (reverse v.events)
  pub turn_count : v.turns ≡ turns_in (reverse v.events)

-- the events that are stored are a run that goes well: it is defined, its trace is legal, each event adds what is its own, and each
-- program has stayed inside its buffer and its budget and has done a beginning of what its text means
pub record WentWell (v : HistoryView) : Type 0 where
  pub events : List Event
  pub stored : AreStoredAs v.taker.taken v.events events
  pub well : GoesWell (channel_in v.core) events
  pub is_at : IsAt v.core well.ran.world
