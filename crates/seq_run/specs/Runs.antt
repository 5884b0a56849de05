-- A run: what its files say, what happens on its channel, and what is written and printed of it.
use Rattle.std.specs.Prelude.{◌≡◌, ◌⊎◌, ℕ, ◌*◌, ◌≤◌, ⊤, true, List, [], ◌∷◌, ◌++◌, length, reverse, drop, Option}
use Rattle.seq_files.specs.Store.{Store, Holds, Written, with_all}
use Rattle.onfi_cycle.specs.declared.lun.Lun.{Lun}
use Rattle.onfi_cycle.specs.Permitted.{is_legal}
use Rattle.micro_program.specs.Program.{Job}
use Rattle.die_model.specs.Die.{Die}
use Rattle.target_bus.specs.Bus.{Traced, channel_of, StandFor}
use Rattle.nand_geometry.specs.declared.parts.Parts.{Parts}
use Rattle.trace_text.specs.declared.recorded_item.TimedItem.{TimedItem}
use Rattle.run_file.specs.Line.{Statement}
use Rattle.run_file.specs.Told.{told}
use Rattle.seq_run.specs.declared.request.RunRequest.{RunRequest}
use Rattle.run_plan.specs.declared.plan.PlannedImage.{PlannedImage}
use Rattle.run_plan.specs.declared.plan.RunPlan.{RunPlan}
use Rattle.seq_run.specs.declared.running.Ran.{Ran}
use Rattle.seq_run.specs.declared.job_ends.EndedJob.{EndedJob}
use Rattle.seq_inputs.specs.declared.refusal.Refusal.{Refusal}
use Rattle.seq_inputs.specs.Stops.{TellsAt}
use Rattle.run_plan.specs.Judged.{Numbered, PlanPasses, PlanIsRefused}
use Rattle.run_plan.specs.Setup.{Setup, IsJobOf, SetsOne, SetsUp, erased, ArePlanned}
use Rattle.run_plan.specs.Planned.{outputs_of, images_in, planned_outputs, planned_images, planned_names, jobs_of}
use Rattle.seq_run.specs.Written.{ended_outputs}
use Rattle.run_plan.specs.Plans.{HasSetUp}
use Rattle.seq_run.specs.Lines.{job_lines}
use Rattle.run_plan.specs.Steps.{steps_of_all}
use Rattle.seq_run.specs.Happened.{HasHappened}
use Rattle.seq_run.specs.Timed.{HasTimes, text_of, files_with}
use Rattle.seq_run.specs.Written.{buffers_of, images_of, printed_trace, codes_of}

-- what has come of a channel: what happened on its bus, which is legal, a die for each LUN as that left it, the jobs after their end, the images to be
-- written, the times of its trace if it has any, and the bytes of a picture of it
pub record Outcome : Type 0 where
  pub bus : Traced
  pub legal : is_legal bus.geometry bus.targets bus.past ≡ true
  pub dies : List Die
  pub count : length dies ≡ bus.targets * bus.geometry.luns
  pub stand : StandFor (channel_of bus) bus.past dies
  pub jobs : List EndedJob
  pub images : List PlannedImage
  pub timed : List TimedItem
  pub drawn : List ℕ

-- the files that are written of the trace, those that are asked for
abbrev pub files_of_trace : RunRequest → Outcome → List Written
files_of_trace request o = files_with request.times request.trace o.bus.geometry o.bus.targets (reverse o.bus.past) o.timed o.drawn

-- the files that are written: the buffers, the images, and those of the trace
abbrev pub writes_of : RunRequest → Outcome → List Written
writes_of request o = buffers_of o.jobs ++ (images_of o.dies o.images ++ files_of_trace request o)

-- what is printed: the trace, unless it is kept quiet, and a line for each job
abbrev pub lines_of : RunRequest → Outcome → List ℕ
lines_of request o = printed_trace request.is_quiet (text_of request.times (reverse o.bus.past) o.timed) ++ job_lines 1 (codes_of o.jobs)

-- this has come of what was run, and its trace has times if the request asks for them
pub record ShowsAll (request : RunRequest) (ran : Ran) (o : Outcome) : Type 0 where
  pub times : HasTimes request.times (reverse o.bus.past) o.timed
  pub bus : o.bus ≡ ran.bus
  pub jobs : o.jobs ≡ ran.jobs.items
  pub images : o.images ≡ ran.images.items

-- what happened on a bus is of what was planned
abbrev pub HappenedAsPlanned : RunPlan → Traced → List EndedJob → Type 0
HappenedAsPlanned plan bus jobs = (setup : Setup) → HasSetUp plan setup → HasHappened setup bus jobs

-- this has come of what was planned: each job has ended, and stands in its place; and its trace has times if the request asks for them
pub record IsOutcomeOf (request : RunRequest) (plan : RunPlan) (o : Outcome) : Type 0 where
  pub times : HasTimes request.times (reverse o.bus.past) o.timed
  pub geometry : o.bus.geometry ≡ plan.dies.geometry
  pub targets : o.bus.targets ≡ plan.dies.targets
  pub outputs : ended_outputs o.jobs ≡ planned_outputs plan.jobs.all.items
  pub images : o.images ≡ plan.images.items
  pub happened : HappenedAsPlanned plan o.bus o.jobs

-- the run file is there, and all that it says passes on the channel of this outcome; there are its jobs, with the outputs that it gives them, and its
-- images; the jobs step no more words than the request allows; what happened is of the dies and the jobs that it sets up; and its trace has times if the
-- request asks for them: of each item one, and they never fall
pub record IsPlanned (files : Option Store) (request : RunRequest) (o : Outcome) : Type 0 where
  pub text : List ℕ
  pub is_there : Holds files request.path.now text
  pub passes : PlanPasses files request.profile (told text) o.bus.geometry o.bus.targets
  pub outputs : ended_outputs o.jobs ≡ outputs_of (drop 2 (told text).statements)
  pub images : planned_images o.images ≡ images_in o.bus.geometry (drop 2 (told text).statements)
  pub setup : Setup
  pub sets_up : SetsUp files o.bus.geometry (drop 2 (told text).statements) (erased o.bus.geometry o.bus.targets) setup
  pub few : steps_of_all setup.jobs ≤ request.max_steps
  pub happened : HasHappened setup o.bus o.jobs
  pub times : HasTimes request.times (reverse o.bus.past) o.timed

-- the run is done: everything is written and printed
pub record IsRunDone (files later : Option Store) (request : RunRequest) (printed : List ℕ) : Type 0 where
  pub o : Outcome
  pub planned : IsPlanned files request o
  pub left : later ≡ with_all (writes_of request o) files
  pub is_printed : printed ≡ lines_of request o

-- the run file is there, and it is refused with this fault at this line
pub record RunIsRefused (files : Option Store) (request : RunRequest) (refusal : Refusal) : Type 0 where
  pub text : List ℕ
  pub is_there : Holds files request.path.now text
  pub refused : TellsAt (PlanIsRefused files request.profile (told text)) refusal

-- all files of the run are written, though it isn't done: what is to be printed couldn't be
pub record IsRunWritten (files later : Option Store) (request : RunRequest) : Type 0 where
  pub o : Outcome
  pub planned : IsPlanned files request o
  pub left : later ≡ with_all (writes_of request o) files

-- what a run may leave, however it ends: all its files or none
abbrev pub RunMayLeave : (files later : Option Store) → RunRequest → Type 0
RunMayLeave files later request = (later ≡ files) ⊎ IsRunWritten files later request
