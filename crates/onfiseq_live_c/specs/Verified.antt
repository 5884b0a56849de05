-- A verified job breaks no rule: what the records stand for, and the law.
use Rattle.std.specs.Prelude.{◌*◌, ◌^◌, ◌<◌, ◌≤◌, replicate, None, [], ◌∷◌, ◌++◌, ◌≡◌, ℕ, true, false, List, Some, Ok, length, slice_get, Bool}
use Rattle.nand_geometry.specs.declared.parts.Parts.{Parts}
use Rattle.nand_geometry.specs.Limits.{InLimits}
use Rattle.onfi_cycle.specs.declared.item.Failures.{Failures}
use Rattle.onfi_cycle.specs.declared.lun.Lun.{Lun}
use Rattle.onfi_cycle.specs.Channel.{same_lun}
use Rattle.onfi_cycle.specs.State.{BusView, Follows}
use Rattle.onfi_cycle.specs.declared.item.Item.TheVariants.{Rdy, Ard}
use Rattle.bus_record.specs.Bus.{bus_pushed}
use Rattle.micro_word.specs.declared.word.Word.{Word}
use Rattle.micro_word.specs.Text.{IsFileOf}
use Rattle.micro_program.specs.Places.{IsShaped}
use Rattle.micro_program.specs.Program.{Job}
use Rattle.micro_program.specs.Safe.{IsMade}
use Rattle.bus_record.specs.Channel.{is_on}
use Rattle.seq_core.specs.After.{is_held}
use Rattle.seq_core.specs.Event.{IsVerified}
use Rattle.seq_core.specs.Reply.{Reply, ToLoad, ToStep, ToUnload, Loaded, Unloaded}
use Rattle.seq_core.specs.Progress.{Progress, fresh_progress, outcome_of, status_of, progress_after}
use Rattle.seq_live.specs.declared.burst.Burst.{Burst}
use Rattle.seq_live.specs.Burst.{bursts_at, taken_by}
use Rattle.seq_live.specs.Kept.{LiveView, IsLive}
use Rattle.seq_live.specs.Event.{LiveEvent, Load, Step, Ready, ArrayReady, Unload}
use Rattle.seq_live.specs.Calls.{IsLiveEvent, IsLiveRun, live_load_fault, live_slot, shown}
use Rattle.onfiseq_live_c.specs.declared.live.OnfiseqLive.{OnfiseqLive}
use Rattle.onfiseq_live_c.specs.declared.job.OnfiseqJob.{OnfiseqJob}
use Rattle.onfiseq_live_c.specs.Job.{JobView, fresh_job, job_view, lun_in, loops_in, registers_in, code_in}
use Rattle.onfiseq_live_c.specs.Live.{state_of, holder_of, are_whole}
use Rattle.onfiseq_live_c.specs.Next.{next_of}
use Rattle.onfiseq_live_c.specs.Begin.{begin_of}
use Rattle.onfiseq_live_c.specs.Finish.{Finished, finish_of}

-- the records stand for what the sequencer of `seq_live` keeps: the state of the channel, the LUN that has the bus, and the program in progress on the job's LUN,
-- whose text the file is
pub record StandsFor (kept : LiveView) (p : Progress) (v : OnfiseqLive) (j : OnfiseqJob) (file : List ℕ) : Type 0 where
  pub whole : are_whole v j ≡ true
  pub state : state_of v ≡ kept.state
  pub holder : holder_of v ≡ kept.holder
  pub slot : live_slot kept (lun_in j) ≡ Some p
  pub text : IsFileOf file p.job.text
  pub base : j.base ≡ p.job.base
  pub buffer : j.buffer ≡ length p.job.buffer
  pub at : j.at ≡ p.at
  pub loops : loops_in j.loops ≡ p.loops
  pub registers : registers_in j ≡ p.registers
  pub code : code_in j.has_ended j.code ≡ p.code

-- the bursts of the program's next word are told
pub record TellsItsBursts (kept : LiveView) (p : Progress) (v : OnfiseqLive) (j : OnfiseqJob) (file : List ℕ) : Type 0 where
  pub word : Word
  pub here : slice_get p.job.text.words p.at ≡ Some word
  pub bursts : List Burst
  pub are_bursts : bursts_at kept.state.geometry p.job.lun p.registers word ≡ Some bursts
  pub tells : next_of v j file ≡ Ok (record { bursts = bursts; taken = taken_by word })

-- the law: where the records stand for what that sequencer keeps, which its main theorem speaks of, a program that goes on and isn't held is told the bursts of its
-- next word, so none of their cycles breaks a rule
abbrev pub VerifiedJobsBreakNone : Type 0
VerifiedJobsBreakNone =
    (kept : LiveView) (p : Progress) (v : OnfiseqLive) (j : OnfiseqJob) (file : List ℕ) → IsLive kept → StandsFor kept p v j file
    → p.code ≡ None → is_held kept.holder (lun_in j) ≡ false → TellsItsBursts kept p v j file

-- a step of the program's next word, whose outputs gave these bytes, is what it is for that sequencer: the readies that a poll shows and the step, as one run of
-- events. The records that it leaves stand for what that keeps then, and the programs of other LUNs are as they were
pub record StepsAlong (kept : LiveView) (p : Progress) (v : OnfiseqLive) (j : OnfiseqJob) (file bytes : List ℕ) (word : Word) : Type 0 where
  pub later : LiveView
  pub is_live : IsLive later
  pub replies : List Reply
  pub run : IsLiveRun kept (shown (lun_in j) word bytes ++ (Step (lun_in j) bytes ∷ [])) (replies ++ (ToStep (outcome_of word (status_of word bytes)) ∷ [])) later
  pub f : Finished
  pub finishes : finish_of v j file bytes ≡ Ok f
  pub others : (m : Lun) → same_lun (lun_in j) m ≡ false → live_slot later m ≡ live_slot kept m
  pub stands : (w : OnfiseqLive) (i : OnfiseqJob) → state_of w ≡ f.state → holder_of w ≡ f.holder → job_view i ≡ f.job → are_whole w i ≡ true → StandsFor later (progress_after p word bytes) w i file

-- the law: where the records stand for what that sequencer keeps, a program that goes on and isn't held makes its step, whatever its outputs give
abbrev pub VerifiedJobsGoAlong : Type 0
VerifiedJobsGoAlong =
    (kept : LiveView) (p : Progress) (v : OnfiseqLive) (j : OnfiseqJob) (file bytes : List ℕ) (word : Word) → IsLive kept → StandsFor kept p v j file
    → p.code ≡ None → is_held kept.holder (lun_in j) ≡ false → slice_get p.job.text.words p.at ≡ Some word → length bytes ≡ taken_by word
    → StepsAlong kept p v j file bytes word

-- a job may be made, and its LUN is one of the channel
pub record IsMadeThere (v : OnfiseqLive) (x : Job) : Type 0 where
  pub on : is_on (state_of v) x.lun ≡ true
  pub made : IsMade x

-- the law: where `onfiseq_job_begin` refuses a job of a text for the channel's geometry for no reason, it may be made
abbrev pub BegunJobsAreMade : Type 0
BegunJobsAreMade =
    (v : OnfiseqLive) (x : Job) (file : List ℕ) (j : JobView) → IsFileOf file x.text → x.geometry ≡ (state_of v).geometry
    → begin_of v x.lun x.base (length x.buffer) file ≡ Ok j → IsMadeThere v x

-- a job that begins is one that is loaded there: its record stands for what is kept then
pub record BeginsAlong (kept : LiveView) (x : Job) (v : OnfiseqLive) (j : OnfiseqJob) (file : List ℕ) : Type 0 where
  pub later : LiveView
  pub is_live : IsLive later
  pub run : IsLiveEvent kept (Load x.lun x) (ToLoad Loaded) later
  pub stands : StandsFor later (fresh_progress x) v j file
  pub others : (m : Lun) → same_lun x.lun m ≡ false → live_slot later m ≡ live_slot kept m

-- the law: a job of a verified text, which that sequencer takes, begins there and in its record. `onfiseq_job_begin` makes such a record
abbrev pub VerifiedJobsBegin : Type 0
VerifiedJobsBegin =
    (kept : LiveView) (x : Job) (v : OnfiseqLive) (j : OnfiseqJob) (file : List ℕ) → IsLive kept → state_of v ≡ kept.state → holder_of v ≡ kept.holder
    → IsVerified x → IsShaped x.text.words → x.base < 2 ^ 32 → IsFileOf file x.text → live_load_fault kept x.lun x ≡ None
    → are_whole v j ≡ true → job_view j ≡ fresh_job x.lun x.base (length x.buffer) → BeginsAlong kept x v j file

-- the law: a channel that begins stands for a sequencer without jobs
abbrev pub ChannelsBegin : Type 0
ChannelsBegin =
    (v : OnfiseqLive) (g : Parts) (targets : ℕ) → InLimits g → targets ≤ 4 → Follows g targets (state_of v) []
    → IsLive (record { state = state_of v; slots = replicate (targets * g.luns) None; holder = None; going = None })

-- a ready that R/B# tells, or one of an array, is one that comes there: each program is as it was
pub record ReadiesAlong (kept : LiveView) (e : LiveEvent) (s : BusView) : Type 0 where
  pub is_live : IsLive (record kept { state = s })
  pub reply : Reply
  pub run : IsLiveEvent kept e reply (record kept { state = s })
  pub programs : (m : Lun) → live_slot (record kept { state = s }) m ≡ live_slot kept m

-- the law: of both
pub record ReadiesGoAlong : Type 0 where
  pub ready : (kept : LiveView) (l : Lun) (fail : Failures) → IsLive kept → ReadiesAlong kept (Ready l fail) (bus_pushed kept.state (Some (Rdy l.ce l.lun fail)))
  pub array : (kept : LiveView) (l : Lun) (fail : Bool) → IsLive kept → ReadiesAlong kept (ArrayReady l fail) (bus_pushed kept.state (Some (Ard l.ce l.lun fail)))

-- a program that has ended is taken away: the channel and the LUN that has the bus are as they were, and its LUN is free
pub record EndsAlong (kept : LiveView) (l : Lun) (p : Progress) (code : ℕ) : Type 0 where
  pub later : LiveView
  pub is_live : IsLive later
  pub run : IsLiveEvent kept (Unload l) (ToUnload (Unloaded p.job code)) later
  pub state : later.state ≡ kept.state
  pub holder : later.holder ≡ kept.holder
  pub free : live_slot later l ≡ None
  pub others : (m : Lun) → same_lun l m ≡ false → live_slot later m ≡ live_slot kept m

-- the law: each that has ended may be forgotten, and another job begin on its LUN
abbrev pub EndedJobsGo : Type 0
EndedJobsGo = (kept : LiveView) (l : Lun) (p : Progress) (code : ℕ) → IsLive kept → live_slot kept l ≡ Some p → p.code ≡ Some code → EndsAlong kept l p code
