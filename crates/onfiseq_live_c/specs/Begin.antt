-- Which jobs are begun.
use Rattle.std.specs.Prelude.{◌≡◌, ℕ, true, ◌+◌, ◌%◌, ◌==◌, ◌&&◌, not, Bool, nat_le, if◌then◌else◌, List, Option, Some, None, Result, Ok, Err}
use Rattle.nand_geometry.specs.Limits.{indices}
use Rattle.onfi_cycle.specs.declared.lun.Lun.{Lun}
use Rattle.onfi_cycle.specs.State.{BusView}
use Rattle.micro_word.specs.Reading.{header_at}
use Rattle.seq_core.specs.declared.job_fault.JobFault.{JobFault}
use Rattle.seq_core.specs.declared.job_fault.JobFault.TheVariants.{NoSuchLun, RowsOutside, BufferLength, NotAtBlock}
use Rattle.bus_record.specs.Channel.{is_on}
use Rattle.word_file.specs.declared.word.WordMissing.TheVariants.{Fault}
use Rattle.word_file.specs.Words.{by_result, continues}
use Rattle.onfiseq_live_c.specs.declared.stop.Stop.{Stop}
use Rattle.onfiseq_live_c.specs.declared.stop.Stop.TheVariants as stop
use Rattle.onfiseq_live_c.specs.declared.live.OnfiseqLive.{OnfiseqLive}
use Rattle.onfiseq_live_c.specs.declared.job.OnfiseqJob.{OnfiseqJob}
use Rattle.onfiseq_live_c.specs.declared.finish.OnfiseqStep.{OnfiseqStep}
use Rattle.onfiseq_live_c.specs.Job.{JobView, job_view, fresh_job, is_whole}
use Rattle.onfiseq_live_c.specs.Live.{state_of, is_live}
use Rattle.onfiseq_live_c.specs.Finish.{step, stopped}

-- the first fault of a job: the LUN isn't there, base and rows pass the indices, the buffer has another length than the header names, or the file continues a
-- cache read and the base isn't the first page of a block
abbrev pub job_fault : BusView → Lun → (base buffer rows named : ℕ) → Bool → Option JobFault
job_fault s l base buffer rows named continues =
    if not (is_on s l) then Some NoSuchLun
    else (if not (nat_le (base + rows) (indices s.geometry)) then Some RowsOutside
    else (if not (buffer == named) then Some BufferLength
    else (if continues && not (base % s.geometry.pages == 0) then Some NotAtBlock
    else None)))

abbrev pub unless_unfit : JobView → Option JobFault → Result JobView Stop
unless_unfit j None = Ok j
unless_unfit j (Some fault) = Err (stop.Unfit fault)

-- the job of a file on a LUN
abbrev pub begin_of : OnfiseqLive → Lun → (base buffer : ℕ) → List ℕ → Result JobView Stop
begin_of v l base buffer file =
    if not (is_live v) then Err stop.Damaged
    else by_result (header_at file) (λ refusal. Err (stop.Word (Fault refusal)))
    (λ h. unless_unfit (fresh_job l base buffer) (job_fault (state_of v) l base buffer h.rows h.buffer (continues file 0 h.words)))

-- the job isn't begun, its record is as it was, and the answer says why
pub record IsRefused (j next : OnfiseqJob) (answer : OnfiseqStep) (stop : Stop) : Type 0 where
  pub answered : answer ≡ stopped stop
  pub job : next ≡ j

-- it is begun
pub record IsBegun (next : OnfiseqJob) (answer : OnfiseqStep) (j : JobView) : Type 0 where
  pub answered : answer ≡ step 0 0
  pub job : job_view next ≡ j
  pub whole : is_whole next ≡ true

abbrev pub BeginsSo : OnfiseqJob → OnfiseqStep → OnfiseqJob → Result JobView Stop → Type 0
BeginsSo j answer next (Ok begun) = IsBegun next answer begun
BeginsSo j answer next (Err stop) = IsRefused j next answer stop

abbrev pub Begins : OnfiseqLive → Lun → (base buffer : ℕ) → List ℕ → OnfiseqStep → OnfiseqJob → OnfiseqJob → Type 0
Begins v l base buffer file answer j next = BeginsSo j answer next (begin_of v l base buffer file)
