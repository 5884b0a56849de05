-- What a job tells to be done now.
use Rattle.std.specs.Prelude.{ℕ, ◌==◌, not, Bool, false, if◌then◌else◌, List, [], ◌∷◌, Option, Some, None, Result, Ok, Err, length, slice_get}
use Rattle.onfi_cycle.specs.declared.forbidden.Forbidden.{Forbidden}
use Rattle.onfi_cycle.specs.State.{BusView}
use Rattle.micro_word.specs.declared.word.Word.{Word}
use Rattle.seq_live.specs.declared.burst.Burst.{Burst}
use Rattle.seq_live.specs.declared.burst.Burst.TheVariants.{Command, Address, Input, Output}
use Rattle.seq_live.specs.Burst.{bursts_at, taken_by}
use Rattle.onfiseq_live_c.specs.declared.stop.Stop.{Stop}
use Rattle.onfiseq_live_c.specs.declared.stop.Stop.TheVariants as stop
use Rattle.onfiseq_live_c.specs.declared.live.OnfiseqLive.{OnfiseqLive}
use Rattle.onfiseq_live_c.specs.declared.job.OnfiseqJob.{OnfiseqJob}
use Rattle.onfiseq_live_c.specs.declared.next.OnfiseqBurst.{OnfiseqBurst}
use Rattle.onfiseq_live_c.specs.declared.next.OnfiseqTurn.{OnfiseqTurn}
use Rattle.onfiseq_live_c.specs.Stop.{letter_of, number_of}
use Rattle.onfiseq_live_c.specs.Job.{JobView, job_view}
use Rattle.onfiseq_live_c.specs.Live.{state_of, holder_of, are_whole}
use Rattle.onfiseq_live_c.specs.Bursts.{judged_bursts}
use Rattle.onfiseq_live_c.specs.Due.{and_do, due}

-- bursts that are to be done one after another, and how many bytes their outputs give
pub record Told : Type 0 where
  pub bursts : List Burst
  pub taken : ℕ

-- bursts are told where none of their cycles breaks a rule
abbrev pub permitted : List Burst → ℕ → Option Forbidden → Result Told Stop
permitted bursts taken None = Ok (record { bursts = bursts; taken = taken })
permitted bursts taken (Some rule) = Err (stop.Breaks rule)

abbrev pub told_by : BusView → Word → Option (List Burst) → Result Told Stop
told_by s word None = Err stop.RowOutside
told_by s word (Some bursts) = permitted bursts (taken_by word) (judged_bursts bursts s)

-- the bursts of a word of a job
abbrev pub told : BusView → JobView → Word → Result Told Stop
told s j word = told_by s word (bursts_at s.geometry j.lun j.registers word)

-- those of its next word
abbrev pub next_of : OnfiseqLive → OnfiseqJob → List ℕ → Result Told Stop
next_of v j file =
    if not (are_whole v j) then Err stop.Damaged
    else and_do (due (holder_of v) (job_view j) file) (told (state_of v) (job_view j))

-- ---- as numbers

abbrev pub burst : (kind ce : ℕ) → List ℕ → (place len : ℕ) → OnfiseqBurst
burst kind ce bytes place len = record { kind = kind; ce = ce; bytes = bytes; place = place; len = len }

abbrev pub no_bytes : List ℕ
no_bytes = 0 ∷ (0 ∷ (0 ∷ (0 ∷ (0 ∷ []))))

-- C, A, I, and for outputs S where they are a status, else O with the place in the buffer that they go into
abbrev pub shown : Bool → ℕ → Burst → OnfiseqBurst
shown status into (Command ce byte) = burst 67 ce (byte ∷ (0 ∷ (0 ∷ (0 ∷ (0 ∷ []))))) 0 1
shown status into (Address ce five from count) = burst 65 ce five from count
shown status into (Input ce place len) = burst 73 ce no_bytes place len
shown status into (Output ce len) = burst (if status then 83 else 79) ce no_bytes (if status then 0 else into) len

abbrev pub shown_some : Bool → ℕ → Option Burst → OnfiseqBurst
shown_some status into None = burst 0 0 no_bytes 0 0
shown_some status into (Some b) = shown status into b

-- the first three
abbrev pub three : Bool → ℕ → List Burst → List OnfiseqBurst
three status into bursts =
    shown_some status into (slice_get bursts 0) ∷ (shown_some status into (slice_get bursts 1) ∷ (shown_some status into (slice_get bursts 2) ∷ []))

-- the outputs of a `get` are a burst of its own; those of a poll come after its command
abbrev pub is_status : List Burst → Bool
is_status bursts = not (length bursts == 1)

-- what is told of a job whose next bytes stand at this place of its buffer
abbrev pub turn_of : ℕ → Result Told Stop → OnfiseqTurn
turn_of into (Ok t) = record { letter = 0; number = 0; count = length t.bursts; taken = t.taken; bursts = three (is_status t.bursts) into t.bursts }
turn_of into (Err stop) = record { letter = letter_of stop; number = number_of stop; count = 0; taken = 0; bursts = three false 0 [] }
