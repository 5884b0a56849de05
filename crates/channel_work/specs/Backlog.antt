-- The jobs that wait, each at a place of its own, and where those of each LUN begin.
use Rattle.std.specs.Prelude.{◌≡◌, ◌≢◌, ℕ, ◌<◌, ◌≤◌, Bool, true, false, List, Option, Some, None, length, get_or}
use Rattle.std.specs.List.{All, list_any}
use Rattle.onfi_cycle.specs.declared.lun.Lun.{Lun}
use Rattle.onfi_cycle.specs.Channel.{same_lun}
use Rattle.micro_program.specs.Program.{Job}
use Rattle.job_queue.specs.declared.rule.QueuedJob.{QueuedJob}
use Rattle.channel_work.specs.declared.backlog.Front.{Front}

-- the jobs that wait, in order, and for how many more there is room
pub record BacklogView : Type 0 where
  pub items : List (QueuedJob Job)
  pub room : ℕ

-- the place has a job of the LUN
abbrev pub is_of : Lun → Option (QueuedJob Job) → Bool
is_of l None = false
is_of l (Some x) = same_lun l x.job.lun

-- no place before this one has a job of the LUN
abbrev pub NoneBelow : Lun → List (Option (QueuedJob Job)) → ℕ → Type 0
NoneBelow l places n = (j : ℕ) → j < n → is_of l (get_or places j None) ≡ false

-- the first place with a job of the LUN, or how many places there are
pub record IsNext (l : Lun) (places : List (Option (QueuedJob Job))) (n : ℕ) : Type 0 where
  pub below : NoneBelow l places n
  pub inside : n ≤ length places
  pub here : n < length places → is_of l (get_or places n None) ≡ true

-- the jobs of the LUN of a front begin at its place or behind it
pub record IsFront (places : List (Option (QueuedJob Job))) (f : Front) : Type 0 where
  pub below : NoneBelow f.lun places f.place
  pub inside : f.place ≤ length places

-- one of these fronts is of the LUN
abbrev pub has_front : List Front → Lun → Bool
has_front fronts l = list_any (λ f. same_lun f.lun l) fronts

-- each LUN of which a job waits has a front
pub record IsBacklog (places : List (Option (QueuedJob Job))) (fronts : List Front) : Type 0 where
  pub each : All (IsFront places) fronts
  pub known : (j : ℕ) (x : QueuedJob Job) → get_or places j None ≡ Some x → has_front fronts x.job.lun ≡ true

-- one front has moved on to the first job of its LUN, at this place
pub record HasAdvanced (places : List (Option (QueuedJob Job))) (before later : List Front) (at place : ℕ) : Type 0 where
  pub backlog : IsBacklog places later
  pub size : length later ≡ length before
  pub others : (k : ℕ) (d : Front) → k ≢ at → get_or later k d ≡ get_or before k d
  pub next : (d : Front) → IsNext (get_or later at d).lun places place

-- the job at this place is the oldest of its LUN
pub record IsOldestAt (places : List (Option (QueuedJob Job))) (n : ℕ) (x : QueuedJob Job) : Type 0 where
  pub here : get_or places n None ≡ Some x
  pub first : NoneBelow x.job.lun places n

-- from one place to another no job is the oldest of its LUN
abbrev pub NoOldest : List (Option (QueuedJob Job)) → ℕ → ℕ → Type 0
NoOldest places from to = (n : ℕ) (x : QueuedJob Job) → from ≤ n → n < to → IsOldestAt places n x → ⊥

-- the first place from one on whose job is the oldest of its LUN
pub record IsFirstFrom (places : List (Option (QueuedJob Job))) (from n : ℕ) : Type 0 where
  pub low : from ≤ n
  pub inside : n < length places
  pub job : QueuedJob Job
  pub oldest : IsOldestAt places n job
  pub none : NoOldest places from n
