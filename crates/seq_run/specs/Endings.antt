-- The jobs of a run while their ends are put to them.
use Rattle.std.specs.Prelude.{◌≡◌, ℕ, ⊤, List, [], Option, Some, None, map}
use Rattle.std.specs.List.{AllByRecursion, Contains}
use Rattle.std.specs.Option.{option_copied, option_map}
use Rattle.channel_work.specs.declared.stored.Name.{Name}
use Rattle.channel_work.specs.Channel.{Ended}
use Rattle.channel_work.specs.Done.{ended_of}
use Rattle.seq_run.specs.declared.job_ends.Ending.{Ending}
use Rattle.seq_run.specs.declared.job_ends.EndedJob.{EndedJob}
use Rattle.run_plan.specs.declared.plan.PlannedJob.{PlannedJob}
use Rattle.seq_run.specs.Happened.{said_of}

-- what was given back of a job, if it has ended
abbrev pub given_of : Ending → Option Ended
given_of ending = option_map ended_of ending.ended

-- what is said of a job that has ended
abbrev pub told_of : EndedJob → Option Ended
told_of job = Some (said_of job)

-- where the buffers of the jobs go
abbrev pub ending_outputs : List Ending → List (Option (List ℕ))
ending_outputs endings = map (λ (ending : Ending). option_copied ending.output) endings

-- the names of the jobs
abbrev pub ending_names : List Ending → List Name
ending_names endings = map (λ (ending : Ending). ending.name) endings

-- a planned job that has not ended yet
abbrev pub opened : PlannedJob → Ending
opened job = record { name = job.name; output = job.output; ended = None }

-- what is given back of a job is one of these
abbrev pub IsGiven : List Ended → Option Ended → Type 0
IsGiven all None = ⊤
IsGiven all (Some given) = Contains all given

-- what is given back of each job that has ended is one of these
abbrev pub AllGiven : List Ended → List Ending → Type 0
AllGiven all endings = AllByRecursion (λ (ending : Ending). IsGiven all (given_of ending)) endings

-- what is newly put to a job is this
abbrev pub PutsGiven : Ended → (old new : List Ending) → Type 0
PutsGiven given old new = (all : List Ended) → Contains all given → AllGiven all old → AllGiven all new

-- what is newly put to jobs is among these
abbrev pub PutsAllGiven : List Ended → (old new : List Ending) → Type 0
PutsAllGiven some old new = (all : List Ended) → ((given : Ended) → Contains some given → Contains all given) → AllGiven all old → AllGiven all new
