-- Whose job a LUN has while jobs run on pins: each job stays itself.
use Rattle.std.specs.Prelude.{◌≡◌, ℕ, ◌<◌, ◌⊎◌, Bool, true, false, List, Option, Some, None, map, length}
use Rattle.std.specs.List.{slice_index_or}
use Rattle.onfi_cycle.specs.Channel.{Channel}
use Rattle.micro_program.specs.Program.{Job}
use Rattle.seq_core.specs.World.{Slot, World, number}
use Rattle.seq_core.specs.After.{Ran}
use Rattle.seq_core.specs.Lawful.{LawfulWorld}
use Rattle.seq_live.specs.Event.{LiveEvent}
use Rattle.seq_live.specs.After.{run_live}
use Rattle.seq_live.specs.Kept.{LiveView, channel_at, IsLiveAt}
use Rattle.seq_live.specs.declared.live_job.LiveJob.{LiveJob}
use Rattle.seq_live.specs.declared.live_job.LiveJob.TheVariants.{Waiting, Running, Done, Abandoned, Refused}

-- a job as it was, but for its buffer
abbrev pub IsStill : Job → Job → Type 0
IsStill later j = (buffer : List ℕ) × (later ≡ record j { buffer = buffer })

abbrev pub waits : {A : Type 0} → LiveJob A → Bool
waits (Waiting j) = true
waits (Running on) = false
waits (Done d) = false
waits (Abandoned on) = false
waits (Refused r) = false

-- a job that was handed in and has ended is itself, but for its buffer
abbrev pub IsItself : {A : Type 0} → LiveJob A → LiveJob A → Type 0
IsItself (Waiting j) (Done d) = IsStill d.job j
IsItself _ _ = Unit {0}

-- so is each job of a list, at its own place
abbrev pub AreThemselves : {A : Type 0} → List (LiveJob A) → List (LiveJob A) → Type 0
AreThemselves {A} xs ys = (k : ℕ) → k < length ys → (d : LiveJob A) → IsItself (slice_index_or xs k d) (slice_index_or ys k d)

-- ---- along a run

-- the jobs in the slots of a world, and the one of a number
abbrev pub job_in : Option Slot → Option Job
job_in None = None
job_in (Some x) = Some x.job

abbrev pub jobs_in : World → List (Option Job)
jobs_in w = map job_in w.slots

abbrev pub Place : World → ℕ → Option Job
Place w n = slice_index_or (jobs_in w) n None

-- the number of the LUN that has a job
abbrev pub spot : {A : Type 0} → Channel → LiveJob A → Option ℕ
spot s (Waiting j) = None
spot s (Running on) = Some (number s on.lun)
spot s (Done d) = None
spot s (Abandoned on) = Some (number s on.lun)
spot s (Refused r) = None

-- a job that was handed in waits still, is in the slot of its LUN, or was itself when it ended
abbrev pub Owns : {A : Type 0} → Channel → World → LiveJob A → LiveJob A → Type 0
Owns s w (Waiting j) (Waiting k) = k ≡ j
Owns s w (Waiting j) (Running on) = Place w (number s on.lun) ≡ Some j
Owns s w (Waiting j) (Done d) = IsStill d.job j
Owns s w (Waiting j) (Abandoned on) = Place w (number s on.lun) ≡ Some j
Owns s w (Waiting j) (Refused r) = Unit {0}
Owns s w _ _ = ⊥

-- of one job: other LUNs have what they had, it comes only to a LUN without a job, and stays itself
pub record Moved {A : Type 0} (s : Channel) (w later : World) (y z : LiveJob A) : Type 0 where
  pub frame : (m : ℕ) → (spot s y ≡ Some m → ⊥) → (spot s z ≡ Some m → ⊥) → Place later m ≡ Place w m
  pub only : (n : ℕ) → spot s z ≡ Some n → (spot s y ≡ Some n) ⊎ (Place w n ≡ None)
  pub own : (x : LiveJob A) → Owns s w x y → Owns s later x z

-- of a list: each job is itself, and no two are on one LUN
pub record Sound {A : Type 0} (s : Channel) (w : World) (xs ys : List (LiveJob A)) : Type 0 where
  pub own : (k : ℕ) → k < length ys → (d : LiveJob A) → Owns s w (slice_index_or xs k d) (slice_index_or ys k d)
  pub apart : (i k : ℕ) → i < length ys → k < length ys → (d : LiveJob A) (n : ℕ) → spot s (slice_index_or ys i d) ≡ Some n → spot s (slice_index_or ys k d) ≡ Some n → i ≡ k

-- these events move a job so, from each world that is kept
abbrev pub Moves : {A : Type 0} → LiveView → List LiveEvent → LiveJob A → LiveJob A → Type 0
Moves v events y z =
    (w : World) (ran : Ran) → IsLiveAt v w → LawfulWorld (channel_at v) w → run_live (channel_at v) events w ≡ Some ran → Moved (channel_at v) w ran.world y z

-- these events keep each job of a list itself
abbrev pub KeepsSound : {A : Type 0} → LiveView → List LiveEvent → List (LiveJob A) → List (LiveJob A) → Type 0
KeepsSound {A} v events ys zs =
    (w : World) (ran : Ran) → IsLiveAt v w → LawfulWorld (channel_at v) w → run_live (channel_at v) events w ≡ Some ran → (xs : List (LiveJob A)) → Sound (channel_at v) w xs ys → Sound (channel_at v) ran.world xs zs
