-- What a run file says of the outputs of its jobs, of its images and of its failures, and what is planned of its lines.
use Rattle.std.specs.Prelude.{ℕ, ◌+◌, ◌*◌, List, Option, Some, None, map, filter_map}
use Rattle.std.specs.Option.{option_copied}
use Rattle.nand_geometry.specs.declared.parts.Parts.{Parts}
use Rattle.micro_program.specs.Program.{Job}
use Rattle.channel_work.specs.declared.stored.Name.{Name}
use Rattle.run_file.specs.Line.{Statement}
use Rattle.run_file.specs.Line.{Image as ImageLine, Job as JobLine, Fail as FailLine}
use Rattle.run_plan.specs.Judged.{Numbered}
use Rattle.run_plan.specs.declared.failing.Failing.{Failing}
use Rattle.run_plan.specs.declared.plan.PlannedImage.{PlannedImage}
use Rattle.run_plan.specs.declared.plan.PlannedJob.{PlannedJob}
use Rattle.run_plan.specs.declared.plan.TargetJobs.{TargetJobs}

-- where the buffer of a job goes after the end, if anywhere
abbrev pub output_in : Statement → Option (Option (List ℕ))
output_in (JobLine target lun base text input output) = Some output
output_in _ = None

-- the same of each job, in the order of the lines
abbrev pub outputs_of : List Numbered → List (Option (List ℕ))
outputs_of statements = filter_map (λ (s : Numbered). output_in s.1) statements

-- the number of a die, and the path of its image
abbrev pub image_in : Parts → Statement → Option (ℕ × List ℕ)
image_in g (ImageLine target lun path) = Some (target * g.luns + lun, path)
image_in g _ = None

-- the same of each image, in the order of the lines
abbrev pub images_in : Parts → List Numbered → List (ℕ × List ℕ)
images_in g statements = filter_map (λ (s : Numbered). image_in g s.1) statements

-- the ready that a line tells to be with failure
abbrev pub failing_in : Statement → Option Failing
failing_in (FailLine target lun ready before) = Some (record { target = target; lun = lun; ready = ready; before = before })
failing_in _ = None

-- the same of each such line, in their order
abbrev pub failing_of : List Numbered → List Failing
failing_of statements = filter_map (λ (s : Numbered). failing_in s.1) statements

-- where the buffers of planned jobs go
abbrev pub planned_outputs : List PlannedJob → List (Option (List ℕ))
planned_outputs jobs = map (λ (job : PlannedJob). option_copied job.output) jobs

-- the numbers and the paths of planned images
abbrev pub planned_images : List PlannedImage → List (ℕ × List ℕ)
planned_images images = map (λ (image : PlannedImage). (image.number, image.path.now)) images

-- the names of planned jobs
abbrev pub planned_names : List PlannedJob → List Name
planned_names jobs = map (λ (job : PlannedJob). job.name) jobs

-- the jobs of each target
abbrev pub jobs_of : List TargetJobs → List (List Job)
jobs_of targets = map (λ (target : TargetJobs). target.jobs.items) targets
