-- What lies under the lock of a channel.
use Rattle.std.specs.Prelude.{ℕ, List}
use Rattle.micro_program.specs.Program.{Job}
use Rattle.seq_core.specs.Shows.{CoreView}
use Rattle.job_queue.specs.declared.rule.QueuedJob.{QueuedJob}
use Rattle.job_queue.specs.Passes.{Taking}
use Rattle.channel_work.specs.declared.stored.Name.{Name}
use Rattle.channel_work.specs.declared.stored.Stored.{Stored}
use Rattle.channel_work.specs.declared.tally.LunCount.{LunCount}

-- a job that has ended: its name, the job with its buffer as the program left it, and its code
pub record Ended : Type 0 where
  pub name : Name
  pub job : Job
  pub code : ℕ

-- the sequencer, the taker, the stored events, the names of the jobs taken and of those started, the taken jobs that wait, the
-- jobs that have ended, what is counted of each LUN by its number, and the number of turns
pub record HistoryView : Type 0 where
  pub core : CoreView
  pub taker : Taking Job
  pub events : List Stored
  pub taken : List Name
  pub started : List Name
  pub backlog : List (QueuedJob Job)
  pub done : List Ended
  pub counts : List LunCount
  pub turns : ℕ
