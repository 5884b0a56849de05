-- What happened on the channel of a run: where it began, whose jobs it ran, and what has become of them.
use Rattle.std.specs.Prelude.{◌≡◌, ℕ, List, [], map, slice_index_or}
use Rattle.std.specs.List.{AllByRecursion, Contains}
use Rattle.nand_geometry.specs.declared.parts.Parts.{Parts}
use Rattle.onfi_cycle.specs.Channel.{Channel}
use Rattle.micro_program.specs.Program.{Job}
use Rattle.die_model.specs.Die.{Die}
use Rattle.target_bus.specs.Bus.{Traced, Entries, channel_on, channel_of}
use Rattle.seq_core.specs.Shows.{CoreView, channel_in}
use Rattle.job_queue.specs.declared.rule.QueuedJob.{QueuedJob}
use Rattle.job_queue.specs.Rule.{of_host, numbered}
use Rattle.channel_work.specs.declared.gathered.Gathered.{Gathered}
use Rattle.channel_work.specs.declared.stored.Name.{Name}
use Rattle.channel_work.specs.Channel.{HistoryView, Ended}
use Rattle.channel_work.specs.Done.{ended_of}
use Rattle.channel_work.specs.Lawful.{IsLawful, WentWell}
use Rattle.seq_run.specs.declared.job_ends.EndedJob.{EndedJob}
use Rattle.seq_run.specs.declared.running.Worked.{Worked}
use Rattle.run_plan.specs.Setup.{Setup, pages_of, of_target, names_of}

-- the bus is the one of the sequencer
abbrev pub IsBusOf : CoreView → Traced → Type 0
IsBusOf core bus = (bus.geometry ≡ core.geometry) × (bus.targets ≡ core.targets) × (bus.opened ≡ core.opened) × (bus.past ≡ core.past)

-- what is said of a job of a run: its name, the job with its buffer, and the code of its end
abbrev pub said_of : EndedJob → Ended
said_of job = record { name = job.name; job = job.done.job; code = job.done.code }

-- what is said of each of these jobs was given back under its name
abbrev pub WereGivenBack : List Ended → List EndedJob → Type 0
WereGivenBack ended jobs = AllByRecursion (λ (job : EndedJob). Contains ended (said_of job)) jobs

-- the names of jobs that have ended
abbrev pub ended_names : List EndedJob → List Name
ended_names jobs = map (λ (job : EndedJob). job.name) jobs

-- the taken jobs are, of each host, all of its jobs in their order, numbered from 0
abbrev pub TookAll : List (QueuedJob Job) → List (List Job) → Type 0
TookAll taken of_hosts = (host : ℕ) → of_host host taken ≡ numbered host 0 (slice_index_or of_hosts host [])

-- what workers have left of a channel is what its lawful history comes to
pub record HasWorked (left : Gathered) : Type 0 where
  pub history : HistoryView
  pub lawful : IsLawful history
  pub well : WentWell history
  pub core : left.core ≡ history.core
  pub taker : left.taker ≡ history.taker
  pub done : map ended_of left.done.items ≡ history.done

-- a channel that began so is left, once all jobs of these hosts were run: what is left is what a lawful history comes to
pub record HasRun (began : Channel) (of_hosts : List (List Job)) (left : Worked) : Type 0 where
  pub history : HistoryView
  pub lawful : IsLawful history
  pub well : WentWell history
  pub core : left.core ≡ history.core
  pub channel : channel_in history.core ≡ began
  pub taken : TookAll history.taker.taken of_hosts
  pub done : map ended_of left.done.items ≡ history.done

-- what happened on this bus is a lawful history: the model's run of loads of verified programs, steps, readies and unloads, in which no
-- program does a cycle that its text doesn't mean next, leaves its buffer, or spends more than its budget
pub record HasHappened (setup : Setup) (bus : Traced) (jobs : List EndedJob) : Type 0 where
  pub history : HistoryView
  pub lawful : IsLawful history
  pub well : WentWell history
  pub is_bus : IsBusOf history.core bus
  -- the dies began with the pages that were set up
  pub began : channel_of bus ≡ channel_on bus.geometry bus.targets (pages_of setup.dies)
  -- the jobs that were taken are, of each target, those of its lines in their order, so that each was loaded once, under its name
  pub taken : (target : ℕ) → of_host target history.taker.taken ≡ numbered target 0 (of_target target setup.jobs)
  -- there is a job for each line, under the line's name, and what is said of it is what its unload gave back
  pub named : ended_names jobs ≡ names_of setup.jobs
  pub given : WereGivenBack history.done jobs
