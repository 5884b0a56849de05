-- A list of jobs on pins: what becomes of each, by the events that came and how they were answered.
use Rattle.std.specs.Prelude.{◌≡◌, ℕ, ◌+◌, ◌-◌, ◌^◌, min, ◌<◌, ◌≤◌, ◌==◌, ◌⊎◌, Bool, true, false, ◌&&◌, if◌then◌else◌, List, [], ◌∷◌, Option, Some, None, Result, IfOk, IfErr, map, length, Contains}
use Rattle.std.specs.List.{list_all, slice_index_or}
use Rattle.onfi_cycle.specs.declared.lun.Lun.{Lun}
use Rattle.onfi_cycle.specs.declared.item.Item.{Item}
use Rattle.onfi_cycle.specs.Channel.{Channel}
use Rattle.onfi_cycle.specs.Permitted.{is_legal}
use Rattle.micro_program.specs.Program.{Job}
use Rattle.seq_core.specs.declared.sequencer.LoadRefused.{LoadRefused}
use Rattle.seq_core.specs.declared.sequencer.UnloadedJob.{UnloadedJob}
use Rattle.seq_core.specs.declared.stepped.Stepped.{Stepped}
use Rattle.seq_core.specs.declared.stepped.Stepped.TheVariants.{Empty, Held, Ended, HandedOver, NotReady, Went}
use Rattle.seq_core.specs.After.{Ran}
use Rattle.seq_core.specs.World.{fresh}
use Rattle.seq_core.specs.Reply.{Reply, ToLoad, ToStep, ToUnload, Loaded, NotLoaded, Unloaded}
use Rattle.seq_live.specs.Event.{LiveEvent, Load, Step, Ready, ArrayReady, Unload, AllLoadVerified}
use Rattle.seq_live.specs.After.{run_live}
use Rattle.seq_live.specs.Headline.{LiveGoesWell}
use Rattle.seq_live.specs.Kept.{LiveView, channel_at, IsLiveAt}
use Rattle.seq_live.specs.Calls.{IsLiveRun, IsStepFault}
use Rattle.seq_live.specs.Driven.{cycles_in, HaveCome, HasCome, AreShown, ShowReadies}
use Rattle.seq_live.specs.declared.out_of_turn.OutOfTurn.{OutOfTurn}
use Rattle.seq_live.specs.declared.run.RunEnd.{RunEnd}
use Rattle.seq_live.specs.declared.run.RunEnd.TheVariants.{AllBack, SomeLeft}
use Rattle.seq_live.specs.declared.run.RunLimits.{RunLimits}
use Rattle.seq_live.specs.Owned.{waits, AreThemselves, Moves, KeepsSound}
use Rattle.seq_live.specs.declared.live_job.OnLun.{OnLun}
use Rattle.seq_live.specs.declared.live_job.LiveJob.{LiveJob}
use Rattle.seq_live.specs.declared.live_job.LiveJob.TheVariants.{Waiting, Running, Done, Abandoned, Refused}

-- nothing more becomes of it
abbrev pub is_back : {A : Type 0} → LiveJob A → Bool
is_back (Waiting j) = false
is_back (Running on) = false
is_back (Done d) = true
is_back (Abandoned on) = true
is_back (Refused r) = true

-- the LUN that it waits for or runs on
abbrev pub lun_of : {A : Type 0} → LiveJob A → Option Lun
lun_of (Waiting j) = Some j.lun
lun_of (Running on) = Some on.lun
lun_of (Done d) = None
lun_of (Abandoned on) = None
lun_of (Refused r) = None

-- where it runs
abbrev pub place_on : {A : Type 0} → LiveJob A → Option OnLun
place_on (Waiting j) = None
place_on (Running on) = Some on
place_on (Done d) = None
place_on (Abandoned on) = None
place_on (Refused r) = None

-- an event, and how it was answered
pub record Told : Type 0 where
  pub event : LiveEvent
  pub reply : Reply

abbrev pub events_of : List Told → List LiveEvent
events_of log = map (λ (t : Told). t.event) log

abbrev pub replies_of : List Told → List Reply
replies_of log = map (λ (t : Told). t.reply) log

-- calls came to these events, one after another and each answered so; each job that they load is verified, each ready of them is one that the next step's poll shows, and what came on the pins are their cycles
pub record HasRun (v : LiveView) (log : List Told) (later : LiveView) (before after : Option (List Item)) : Type 0 where
  pub verified : AllLoadVerified (events_of log)
  pub run : IsLiveRun v (events_of log) (replies_of log) later
  pub show : ShowReadies v (events_of log)
  pub pins : HasCome v (events_of log) before after

-- one poll more that said busy, as far as the number goes
abbrev pub one_more : ℕ → ℕ
one_more n = min (n + 1) (2 ^ 64 - 1)

-- so many polls have said busy one after another, and then a step of the LUN was answered so: any other word begins anew, and where no word was stepped the number stays
abbrev pub after_step : ℕ → Stepped → ℕ
after_step n NotReady = one_more n
after_step n Went = 0
after_step n HandedOver = 0
after_step n Ended = n
after_step n Held = n
after_step n Empty = n

abbrev pub after_reply : ℕ → Reply → ℕ
after_reply n (ToStep answer) = after_step n answer
after_reply n _ = n

abbrev pub after_load : ℕ → Reply → ℕ
after_load n (ToLoad Loaded) = 0
after_load n _ = n

abbrev pub is_lun : Lun → Lun → Bool
is_lun l m = (l.ce == m.ce) && (l.lun == m.lun)

-- the same after one event of any LUN: a job that is loaded begins anew
abbrev pub polls_then : Lun → ℕ → LiveEvent → Reply → ℕ
polls_then l n (Load m j) reply = if is_lun l m then after_load n reply else n
polls_then l n (Step m bytes) reply = if is_lun l m then after_reply n reply else n
polls_then l n (Ready m fail) reply = n
polls_then l n (ArrayReady m fail) reply = n
polls_then l n (Unload m) reply = n

-- how many polls of a LUN have said busy since its last other step, where so many had before
abbrev pub polls : Lun → ℕ → List Told → ℕ
polls l n [] = n
polls l n (t ∷ log) = polls l (polls_then l n t.event t.reply) log

-- a job was loaded onto its LUN, was refused by it, or had ended there with its code and was taken away
abbrev pub loaded : Job → Told
loaded j = record { event = Load j.lun j; reply = ToLoad Loaded }

abbrev pub refused : {A : Type 0} → LoadRefused A → Told
refused r = record { event = Load r.job.lun r.job; reply = ToLoad (NotLoaded r.fault r.job) }

abbrev pub ended : {A : Type 0} → Lun → UnloadedJob A → Told
ended l d = record { event = Unload l; reply = ToUnload (Unloaded d.job d.code) }

-- a job that came in so is on a LUN: loaded there, or it was there. So many polls have said busy since its last other step
abbrev pub StandsOn : {A : Type 0} → LiveJob A → OnLun → List Told → Type 0
StandsOn (Waiting j) on log = (j.lun ≡ on.lun) × Contains log (loaded j) × ((n : ℕ) → on.busy_polls ≡ polls on.lun n log)
StandsOn (Running o) on log = (o.lun ≡ on.lun) × (on.busy_polls ≡ polls on.lun o.busy_polls log)
StandsOn (Done d) on log = ⊥
StandsOn (Abandoned o) on log = ⊥
StandsOn (Refused r) on log = ⊥

-- a job that runs has fewer busy polls than are the most, or none; or it came in so
abbrev pub HasFewPolls : {A : Type 0} → ℕ → LiveJob A → OnLun → Type 0
HasFewPolls most x on = (on.busy_polls ≡ 0) ⊎ ((on.busy_polls < most) ⊎ (x ≡ Running on))

-- what becomes of a job on its LUN where nothing ends it
abbrev pub StaysOn : {A : Type 0} → OnLun → LiveJob A → Type 0
StaysOn on (Running o) = o.lun ≡ on.lun
StaysOn on (Abandoned o) = o.lun ≡ on.lun
StaysOn on (Waiting j) = ⊥
StaysOn on (Done d) = ⊥
StaysOn on (Refused r) = ⊥

-- a job that came in so was on its LUN and has ended there
abbrev pub HasEnded : {A : Type 0} → LiveJob A → UnloadedJob A → List Told → Type 0
HasEnded (Waiting j) d log = Contains log (loaded j) × Contains log (ended j.lun d)
HasEnded (Running on) d log = Contains log (ended on.lun d)
HasEnded (Done e) d log = ⊥
HasEnded (Abandoned on) d log = ⊥
HasEnded (Refused r) d log = ⊥

-- what becomes of a job, by what came in its own turns, where so many busy polls one after another are the most. One that is back has no more turns
abbrev pub Goes : {A : Type 0} → ℕ → LiveJob A → LiveJob A → List Told → Type 0
Goes most x (Waiting j) log = (x ≡ Waiting j) × (log ≡ [])
Goes most x (Running on) log = StandsOn x on log × HasFewPolls most x on
Goes most x (Done d) log = ((x ≡ Done d) × (log ≡ [])) ⊎ HasEnded x d log
Goes most x (Abandoned on) log = ((x ≡ Abandoned on) × (log ≡ [])) ⊎ (StandsOn x on log × (most ≤ on.busy_polls))
Goes most x (Refused r) log = ((x ≡ Refused r) × (log ≡ [])) ⊎ ((x ≡ Waiting r.job) × Contains log (refused r))

-- an event that came in the turn of a job, which has this place in the list
pub record Turn : Type 0 where
  pub place : ℕ
  pub told : Told

abbrev pub tolds_of : List Turn → List Told
tolds_of turns = map (λ (t : Turn). t.told) turns

-- what came in the turns of the job of a place. No event is in the turns of two
abbrev pub own : ℕ → List Turn → List Told
own k [] = []
own k (t ∷ turns) = if t.place == k then t.told ∷ own k turns else own k turns

-- each turn is one of so many jobs
abbrev pub ArePlaced : ℕ → List Turn → Type 0
ArePlaced n [] = Unit {0}
ArePlaced n (t ∷ turns) = (t.place < n) × ArePlaced n turns

-- the same of each job of a list from this place on, by its own turns. None is lost
abbrev pub AllGo : {A : Type 0} → ℕ → ℕ → List (LiveJob A) → List (LiveJob A) → List Turn → Type 0
AllGo most n [] [] turns = Unit {0}
AllGo most n (x ∷ xs) (y ∷ ys) turns = Goes most x y (own n turns) × AllGo most (n + 1) xs ys turns
AllGo most n [] (y ∷ ys) turns = ⊥
AllGo most n (x ∷ xs) [] turns = ⊥

-- a job had a turn: something came of it
pub record HasTurned {A : Type 0} (most : ℕ) (v later : LiveView) (x y : LiveJob A) (before after : Option (List Item)) : Type 0 where
  pub log : List Told
  pub ran : HasRun v log later before after
  pub goes : Goes most x y log
  pub moves : Moves v (events_of log) x y
  pub some : 0 < length log

-- the LUNs of a round that have had their turn: none has
abbrev pub NoneHad : List Bool → Type 0
NoneHad had = (k : ℕ) → slice_index_or had k false ≡ false

-- a job had no turn in a round: it is back, or its LUN has had its turn
pub record HasNoTurn {A : Type 0} (v later : LiveView) (x y : LiveJob A) (had later_had : List Bool) (before after : Option (List Item)) : Type 0 where
  pub same : later ≡ v
  pub pins : after ≡ before
  pub job : y ≡ x
  pub back : NoneHad had → (is_back x ≡ true) × NoneHad later_had

-- the jobs of a list had a round, or several, in which something came if one of them wasn't back
pub record HaveTurned {A : Type 0} (most : ℕ) (v later : LiveView) (xs ys : List (LiveJob A)) (before after : Option (List Item)) : Type 0 where
  pub turns : List Turn
  pub ran : HasRun v (tolds_of turns) later before after
  pub placed : ArePlaced (length xs) turns
  pub go : AllGo most 0 xs ys turns
  pub keeps : KeepsSound v (events_of (tolds_of turns)) xs ys
  pub some : list_all is_back xs ≡ false → 0 < length turns

-- no step of a LUN can be made on pins, with room for so many bytes
abbrev pub IsRunFault : LiveView → ℕ → OutOfTurn → Type 0
IsRunFault v room e = (l : Lun) × IsStepFault v l room e

-- the jobs of a list had turns until a step couldn't be made
pub record HaveStopped {A : Type 0} (most : ℕ) (v later : LiveView) (xs ys : List (LiveJob A)) (room : ℕ) (e : OutOfTurn) (before after : Option (List Item)) : Type 0 where
  pub turns : List Turn
  pub ran : HasRun v (tolds_of turns) later before after
  pub placed : ArePlaced (length xs) turns
  pub go : AllGo most 0 xs ys turns
  pub keeps : KeepsSound v (events_of (tolds_of turns)) xs ys
  pub fault : IsRunFault later room e

-- how a run ended: each job is back, or some aren't and in each of so many rounds something came
abbrev pub EndsSo : {A : Type 0} → ℕ → RunEnd → List (LiveJob A) → List Turn → Type 0
EndsSo rounds AllBack ys turns = list_all is_back ys ≡ true
EndsSo rounds SomeLeft ys turns = (list_all is_back ys ≡ false) × (rounds ≤ length turns)

-- what came on the pins is legal: with the readies that its polls show it is the trace of these events, and no rule is broken in that
pub record CameLegally (s : Channel) (events : List LiveEvent) (before after : Option (List Item)) : Type 0 where
  pub ran : Ran
  pub is_ran : run_live s events (fresh s) ≡ Some ran
  pub legal : is_legal s.geometry s.targets ran.world.past ≡ true
  pub shown : AreShown s [] events (fresh s)
  pub on_pins : HaveCome (cycles_in ran.world.past) before after

-- jobs were run on pins: these events came and were answered so, each in the turn of one job, this has become of each job, which is itself where all were handed in to wait, and of a new sequencer the
-- events go well as the main theorem says, and what came on the pins is legal
pub record RunsJobs {A : Type 0} (limits : RunLimits) (v later : LiveView) (xs ys : List (LiveJob A)) (room : ℕ) (result : Result RunEnd OutOfTurn) (before after : Option (List Item)) : Type 0 where
  pub turns : List Turn
  pub ran : HasRun v (tolds_of turns) later before after
  pub placed : ArePlaced (length xs) turns
  pub go : AllGo limits.busy_polls 0 xs ys turns
  pub themselves : list_all waits xs ≡ true → AreThemselves xs ys
  pub well : IsLiveAt v (fresh (channel_at v)) → LiveGoesWell (channel_at v) (events_of (tolds_of turns))
  pub legal : IsLiveAt v (fresh (channel_at v)) → CameLegally (channel_at v) (events_of (tolds_of turns)) before after
  pub end : IfOk result (λ end. EndsSo limits.rounds end ys turns)
  pub fault : IfErr result (λ e. IsRunFault later room e)
