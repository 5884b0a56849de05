-- Where `onfiseq_verify` accepts a file, no call about its job is answered F.
use Rattle.std.specs.Prelude.{◌≡◌, ℕ, ◌<◌, ◌^◌, true, List, None, Result, Ok, Err, length}
use Rattle.nand_geometry.specs.declared.parts.Parts.{Parts}
use Rattle.onfi_cycle.specs.declared.forbidden.Forbidden.{Forbidden}
use Rattle.micro_word.specs.Text.{Microprogram, IsFileOf}
use Rattle.micro_program.specs.Places.{IsShaped}
use Rattle.micro_program.specs.Program.{Job}
use Rattle.micro_program.specs.Safe.{IsSafe}
use Rattle.seq_core.specs.Progress.{Progress}
use Rattle.seq_live.specs.Kept.{LiveView, IsLive}
use Rattle.seq_live.specs.Calls.{live_load_fault, live_slot}
use Rattle.onfiseq_live_c.specs.declared.stop.Stop.{Stop}
use Rattle.onfiseq_live_c.specs.declared.stop.Stop.TheVariants as stop
use Rattle.onfiseq_live_c.specs.declared.live.OnfiseqLive.{OnfiseqLive}
use Rattle.onfiseq_live_c.specs.declared.job.OnfiseqJob.{OnfiseqJob}
use Rattle.onfiseq_live_c.specs.Job.{fresh_job, job_view, lun_in}
use Rattle.onfiseq_live_c.specs.Live.{state_of, holder_of, are_whole}
use Rattle.onfiseq_live_c.specs.Next.{next_of}
use Rattle.onfiseq_live_c.specs.Begin.{begin_of}
use Rattle.onfiseq_live_c.specs.Finish.{finish_of}
use Rattle.onfiseq_live_c.specs.Verified.{StandsFor, BeginsAlong}

-- this isn't that a cycle would break a rule
abbrev pub BreaksNone : {A : Type 0} → Result A Stop → Type 0
BreaksNone r = (rule : Forbidden) → r ≡ Err (stop.Breaks rule) → ⊥

-- neither `onfiseq_job_next` nor `onfiseq_job_finish` is answered F, whatever bytes the chip gave
pub record NeverBreaks (v : OnfiseqLive) (j : OnfiseqJob) (file : List ℕ) : Type 0 where
  pub next : BreaksNone (next_of v j file)
  pub finish : (bytes : List ℕ) → BreaksNone (finish_of v j file bytes)

-- the law: so it is of each job whose records stand for what the sequencer of `seq_live` keeps, whether it goes on, is held or has ended
abbrev pub StandingJobsBreakNone : Type 0
StandingJobsBreakNone = (kept : LiveView) (p : Progress) (v : OnfiseqLive) (j : OnfiseqJob) (file : List ℕ) → IsLive kept → StandsFor kept p v j file → NeverBreaks v j file

-- what `onfiseq_verify` has shown of a file where it accepts it for a chip (`IsVerified` of micro_walk says so, and more)
pub record IsAccepted (g : Parts) (file : List ℕ) (text : Microprogram) : Type 0 where
  pub is_file : IsFileOf file text
  pub safe : IsSafe text g
  pub shaped : IsShaped text.words

-- a job stands in its records, and no call about it is answered F
pub record StandsUnbroken (kept : LiveView) (x : Job) (v : OnfiseqLive) (j : OnfiseqJob) (file : List ℕ) : Type 0 where
  pub begins : BeginsAlong kept x v j file
  pub unbroken : NeverBreaks v j file

-- the law: where a file is accepted for the chip of the channel, and `onfiseq_job_begin` takes its job on a LUN that is free, the job stands in its records, and no call about it is answered F. The step that
-- it then makes leaves records of which the same holds (`VerifiedJobsGoAlong`), and so do the steps of other LUNs, and readies (`StepsAlong`, `ReadiesGoAlong`)
abbrev pub AcceptedJobsBreakNone : Type 0
AcceptedJobsBreakNone =
    (kept : LiveView) (x : Job) (v : OnfiseqLive) (j : OnfiseqJob) (file : List ℕ) → IsLive kept → state_of v ≡ kept.state → holder_of v ≡ kept.holder
    → IsAccepted x.geometry file x.text → x.geometry ≡ (state_of v).geometry → x.base < 2 ^ 32 → live_load_fault kept x.lun x ≡ None
    → begin_of v x.lun x.base (length x.buffer) file ≡ Ok (fresh_job x.lun x.base (length x.buffer)) → job_view j ≡ fresh_job x.lun x.base (length x.buffer) → are_whole v j ≡ true
    → StandsUnbroken kept x v j file

-- what a call about another LUN leaves of a job: it stands in its records where they are whole, and no call about it is answered F
pub record StillUnbroken (later : LiveView) (p : Progress) (w : OnfiseqLive) (j : OnfiseqJob) (file : List ℕ) : Type 0 where
  pub unbroken : NeverBreaks w j file
  pub stands : are_whole w j ≡ true → StandsFor later p w j file

-- the law: so it is of each job on whose LUN nothing has changed, as after a step, a load or an unload of another (`others` of `StepsAlong`, `BeginsAlong` and `EndsAlong`) and after a ready (`programs` of `ReadiesAlong`)
abbrev pub OtherJobsBreakNone : Type 0
OtherJobsBreakNone =
    (kept later : LiveView) (p : Progress) (v w : OnfiseqLive) (j : OnfiseqJob) (file : List ℕ) → IsLive later → StandsFor kept p v j file
    → live_slot later (lun_in j) ≡ live_slot kept (lun_in j) → state_of w ≡ later.state → holder_of w ≡ later.holder → StillUnbroken later p w j file
