-- The hosts of a run and its queue.
use Rattle.std.specs.Prelude.{◌≡◌, ℕ, ◌<◌, List, [], ◌++◌, slice_index_or}
use Rattle.atomic_table.specs.Seated.{TableId}
use Rattle.micro_program.specs.Program.{Job}
use Rattle.seq_core.specs.Shows.{CoreView}
use Rattle.job_queue.specs.declared.rule.QueuedJob.{QueuedJob}
use Rattle.job_queue.specs.Rule.{of_host, numbered}
use Rattle.job_queue.specs.Passes.{Queue, Storing, AreNew}
use Rattle.channel_work.specs.Origin.{Origin}
use Rattle.seq_run.specs.declared.running.OpenQueue.{OpenQueue}

-- a pass has stored these jobs behind those that it had stored before
abbrev pub HasStored : Storing Job → List Job → Storing Job → Type 0
HasStored old jobs new = new ≡ record { table = old.table; host = old.host; stored = old.stored ++ jobs }

-- a table that stands for none
abbrev pub no_table : TableId
no_table = record { words = 0; slots = 0; views_name = 0; atom = 0; block = 0; offset = 0; slot_names = [] }

-- the queue has a new pass for each host, and nothing was taken of it
pub record IsOpen (q : OpenQueue) : Type 0 where
  pub passes : AreNew q.queue q.passes.items q.queue.hosts
  pub taker : q.taker ≡ record { table = q.queue.table; hosts = q.queue.hosts; taken = [] }

-- a run begins with this sequencer and this queue
abbrev pub origin_of : CoreView → Queue → Origin
origin_of core queue = record { geometry = core.geometry; targets = core.targets; opened = core.opened; table = queue.table; hosts = queue.hosts }

-- the pass is of this queue, and has stored all jobs of its host
abbrev pub StoredTheirs : TableId → List (List Job) → Storing Job → Type 0
StoredTheirs table of_hosts pass = (pass.table ≡ table) × (pass.stored ≡ slice_index_or of_hosts pass.host [])

-- of each host below this number all its jobs were taken, in their order, numbered from 0
abbrev pub TookBelow : ℕ → List (QueuedJob Job) → List (List Job) → Type 0
TookBelow hosts taken of_hosts = (host : ℕ) → host < hosts → of_host host taken ≡ numbered host 0 (slice_index_or of_hosts host [])
