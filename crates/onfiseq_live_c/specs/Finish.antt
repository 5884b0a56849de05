-- What a job's next word leaves, once its bursts are done.
use Rattle.std.specs.Prelude.{◌≡◌, ℕ, true, ◌==◌, not, if◌then◌else◌, List, Option, Some, None, Result, Ok, Err, length}
use Rattle.onfi_cycle.specs.declared.forbidden.Forbidden.{Forbidden}
use Rattle.onfi_cycle.specs.declared.item.Item.TheVariants.{Rdy, Ard}
use Rattle.onfi_cycle.specs.declared.lun.Lun.{Lun}
use Rattle.onfi_cycle.specs.State.{BusView}
use Rattle.micro_word.specs.declared.word.Word.{Word}
use Rattle.micro_program.specs.Program.{is_ready_status}
use Rattle.seq_core.specs.declared.stepped.Stepped.{Stepped}
use Rattle.seq_core.specs.declared.stepped.Stepped.TheVariants.{Empty, Ended, Held, HandedOver, NotReady, Went}
use Rattle.seq_core.specs.Progress.{status_of, outcome_of}
use Rattle.seq_core.specs.Calls.{holder_after}
use Rattle.seq_live.specs.declared.burst.Burst.{Burst}
use Rattle.seq_live.specs.Burst.{bursts_at, taken_by}
use Rattle.seq_live.specs.Calls.{is_poll, has_array_ready, has_fail, told_by}
use Rattle.bus_record.specs.Bus.{bus_pushed}
use Rattle.onfiseq_live_c.specs.declared.stop.Stop.{Stop}
use Rattle.onfiseq_live_c.specs.declared.stop.Stop.TheVariants as stop
use Rattle.onfiseq_live_c.specs.declared.live.OnfiseqLive.{OnfiseqLive}
use Rattle.onfiseq_live_c.specs.declared.job.OnfiseqJob.{OnfiseqJob}
use Rattle.onfiseq_live_c.specs.declared.finish.OnfiseqStep.{OnfiseqStep}
use Rattle.onfiseq_live_c.specs.Stop.{letter_of, number_of}
use Rattle.onfiseq_live_c.specs.Job.{JobView, job_view, job_behind}
use Rattle.onfiseq_live_c.specs.Live.{state_of, holder_of, are_whole}
use Rattle.onfiseq_live_c.specs.Bursts.{judged_bursts, after_bursts}
use Rattle.onfiseq_live_c.specs.Due.{and_do, due}

-- ---- the readies that a poll shows

-- RDY that its LUN has become ready, with the failures of FAIL and FAILC, and ARDY besides that its array has, with that of FAIL; a ready of a LUN that was ready before
-- changes nothing
abbrev pub with_array : Lun → ℕ → BusView → BusView
with_array l status s = if has_array_ready status then bus_pushed s (Some (Ard l.ce l.lun (has_fail status))) else s

abbrev pub with_status : Lun → ℕ → BusView → BusView
with_status l status s = if is_ready_status status then with_array l status (bus_pushed s (Some (Rdy l.ce l.lun (told_by status)))) else s

-- those of a word whose outputs gave these bytes
abbrev pub with_readies : Lun → Word → List ℕ → BusView → BusView
with_readies l word bytes s = if is_poll word then with_status l (status_of word bytes) s else s

-- ---- the step

-- what a step leaves: its answer, the channel, the LUN that has the bus, and the job
pub record Finished : Type 0 where
  pub answer : Stepped
  pub state : BusView
  pub holder : Option Lun
  pub job : JobView

abbrev pub finished : JobView → Word → ℕ → BusView → Finished
finished j word status later =
    record { answer = outcome_of word status; state = later; holder = holder_after (outcome_of word status) j.lun; job = job_behind j word status }

-- the bursts of a word leave the channel so, where none of their cycles breaks a rule
abbrev pub left_by : BusView → List Burst → Option Forbidden → Result BusView Stop
left_by s bursts None = Ok (after_bursts bursts s)
left_by s bursts (Some rule) = Err (stop.Breaks rule)

abbrev pub played_by : BusView → Option (List Burst) → Result BusView Stop
played_by s None = Err stop.RowOutside
played_by s (Some bursts) = left_by s bursts (judged_bursts bursts s)

abbrev pub played : JobView → Word → BusView → Result BusView Stop
played j word s = played_by s (bursts_at s.geometry j.lun j.registers word)

-- a word of a job whose outputs gave these bytes: the readies that they show come first
abbrev pub step_word : BusView → JobView → List ℕ → Word → Result Finished Stop
step_word s j bytes word =
    if not (length bytes == taken_by word) then Err stop.WrongCount
    else and_do (played j word (with_readies j.lun word bytes s)) (λ later. Ok (finished j word (status_of word bytes) later))

-- its next word
abbrev pub finish_of : OnfiseqLive → OnfiseqJob → (file bytes : List ℕ) → Result Finished Stop
finish_of v j file bytes =
    if not (are_whole v j) then Err stop.Damaged
    else and_do (due (holder_of v) (job_view j) file) (step_word (state_of v) (job_view j) bytes)

-- ---- as numbers

abbrev pub step : (letter number : ℕ) → OnfiseqStep
step letter number = record { letter = letter; number = number }

-- E, H, Y and W; 0 where it goes on
abbrev pub answer_letter : Stepped → ℕ
answer_letter Went = 0
answer_letter Ended = 69
answer_letter Held = 72
answer_letter HandedOver = 89
answer_letter NotReady = 87
answer_letter Empty = 68

abbrev pub code_number : Option ℕ → ℕ
code_number None = 0
code_number (Some code) = code

abbrev pub step_of : Finished → OnfiseqStep
step_of f = step (answer_letter f.answer) (code_number f.job.code)

abbrev pub stopped : Stop → OnfiseqStep
stopped stop = step (letter_of stop) (number_of stop)

-- nothing has changed, and the answer says why
pub record Stops (v later : OnfiseqLive) (j next : OnfiseqJob) (answer : OnfiseqStep) (stop : Stop) : Type 0 where
  pub answered : answer ≡ stopped stop
  pub live : later ≡ v
  pub job : next ≡ j

-- the step came, and both records say what it left
pub record Steps (later : OnfiseqLive) (next : OnfiseqJob) (answer : OnfiseqStep) (f : Finished) : Type 0 where
  pub answered : answer ≡ step_of f
  pub state : state_of later ≡ f.state
  pub holder : holder_of later ≡ f.holder
  pub job : job_view next ≡ f.job
  pub whole : are_whole later next ≡ true

abbrev pub FinishesSo : OnfiseqLive → OnfiseqJob → OnfiseqStep → OnfiseqLive → OnfiseqJob → Result Finished Stop → Type 0
FinishesSo v j answer later next (Ok f) = Steps later next answer f
FinishesSo v j answer later next (Err stop) = Stops v later j next answer stop

abbrev pub Finishes : OnfiseqLive → OnfiseqJob → (file bytes : List ℕ) → OnfiseqStep → OnfiseqLive → OnfiseqJob → Type 0
Finishes v j file bytes answer later next = FinishesSo v j answer later next (finish_of v j file bytes)
