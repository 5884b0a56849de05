-- What a run writes: files in their order, and lines.
use Rattle.std.specs.Prelude.{ℕ, Bool, if◌then◌else◌, List, [], map, Option, slice_get}
use Rattle.std.specs.List.{filter_map}
use Rattle.std.specs.Option.{option_map, option_copied}
use Rattle.seq_files.specs.Store.{Written}
use Rattle.die_model.specs.Die.{Die}
use Rattle.die_model.specs.Image.{image_of}
use Rattle.run_plan.specs.declared.plan.PlannedImage.{PlannedImage}
use Rattle.seq_run.specs.declared.job_ends.EndedJob.{EndedJob}

-- the buffer of a job, if it has an output
abbrev pub buffer_of : EndedJob → Option Written
buffer_of job = option_map (λ path. (path.now, job.done.job.buffer)) job.output

-- the buffers of the jobs that have an output, in the order of the jobs
abbrev pub buffers_of : List EndedJob → List Written
buffers_of jobs = filter_map buffer_of jobs

-- the image of a die, at its path
abbrev pub image_at : List Die → PlannedImage → Option Written
image_at dies image = option_map (λ die. (image.path.now, image_of die)) (slice_get dies image.number)

-- the images of dies, in the order of their lines
abbrev pub images_of : List Die → List PlannedImage → List Written
images_of dies images = filter_map (image_at dies) images

-- the text of a trace, unless it is kept quiet
abbrev pub printed_trace : Bool → List ℕ → List ℕ
printed_trace is_quiet lines = if is_quiet then [] else lines

-- the codes with which jobs have ended
abbrev pub codes_of : List EndedJob → List ℕ
codes_of jobs = map (λ (job : EndedJob). job.done.code) jobs

-- where the buffers of ended jobs go
abbrev pub ended_outputs : List EndedJob → List (Option (List ℕ))
ended_outputs jobs = map (λ (job : EndedJob). option_copied job.output) jobs
