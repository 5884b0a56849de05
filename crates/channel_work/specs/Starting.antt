-- How a job is started: the oldest of its LUN that is loaded and claimed.
use Rattle.std.specs.Prelude.{◌≡◌, ◌≢◌, ◌⊎◌, ℕ, ◌<◌, Bool, true, false, List, [], ◌∷◌, ◌++◌, Option, Some, None, map, length, take, slice_get}
use Rattle.std.specs.List.{AllByRecursion, Contains}
use Rattle.onfi_cycle.specs.declared.lun.Lun.{Lun}
use Rattle.onfi_cycle.specs.Channel.{same_lun}
use Rattle.micro_program.specs.Program.{Job}
use Rattle.seq_core.specs.World.{number}
use Rattle.seq_core.specs.Shows.{CoreView, channel_in}
use Rattle.seq_core.specs.Calls.{load_fault_at, IsEvent}
use Rattle.job_queue.specs.declared.rule.QueuedJob.{QueuedJob}
use Rattle.job_queue.specs.Passes.{Taking}
use Rattle.lun_lease.specs.declared.rule.Call.{Call}
use Rattle.lun_lease.specs.declared.rule.Call.TheVariants.{Given as WasGiven, Refused as WasRefused}
use Rattle.lun_lease.specs.Lease.{Seated, Leased}
use Rattle.seq_core.specs.Event.{Load, IsVerified}
use Rattle.seq_core.specs.Reply.{ToLoad, Loaded}
use Rattle.channel_work.specs.declared.stored.Name.{Name}
use Rattle.channel_work.specs.declared.stored.Stored.{Stored}
use Rattle.channel_work.specs.declared.stored.Stored.TheVariants.{Load as WasLoaded}
use Rattle.channel_work.specs.declared.picks.TriedOnce.{TriedOnce}
use Rattle.channel_work.specs.declared.picks.TriedOnce.TheVariants.{Given, Passed}
use Rattle.channel_work.specs.declared.picks.Tried.{Tried}
use Rattle.channel_work.specs.declared.picks.Tried.TheVariants.{GivenAt, NoneGiven}
use Rattle.channel_work.specs.declared.picks.Picked.{Picked}
use Rattle.channel_work.specs.declared.picks.Picked.TheVariants.{Picks, PicksNone}
use Rattle.channel_work.specs.declared.start.Started.{Started}
use Rattle.channel_work.specs.declared.start.Started.TheVariants.{Loaded as StartedJob, Nothing, OutOfMemory}
use Rattle.channel_work.specs.Backlog.{IsOldestAt}
use Rattle.channel_work.specs.Channel.{HistoryView}
use Rattle.channel_work.specs.Stored.{name_of}

-- no job of these is of the LUN
abbrev pub NoneOfLun : Lun → List (QueuedJob Job) → Type 0
NoneOfLun l jobs = AllByRecursion (λ y. same_lun l y.job.lun ≡ false) jobs

-- a job left the backlog, in which it was the oldest of its LUN
pub record Leaves (before : List (QueuedJob Job)) (x : QueuedJob Job) (later : List (QueuedJob Job)) : Type 0 where
  pub front : List (QueuedJob Job)
  pub rest : List (QueuedJob Job)
  pub before_is : before ≡ front ++ (x ∷ rest)
  pub later_is : later ≡ front ++ rest
  pub oldest : NoneOfLun x.job.lun front

-- the job at this place of the backlog is the oldest of its LUN
pub record IsOldest (backlog : List (QueuedJob Job)) (k : ℕ) (x : QueuedJob Job) : Type 0 where
  pub here : slice_get backlog k ≡ Some x
  pub first : NoneOfLun x.job.lun (take k backlog)

-- why a job is passed over: a load would be refused, or a claim of its LUN was
abbrev pub IsPassedOver : CoreView → List ℕ → QueuedJob Job → Type 0
IsPassedOver core refused x = (load_fault_at core x.job.lun x.job ≢ None) ⊎ Contains refused (number (channel_in core) x.job.lun)

-- the first so many jobs were tried with a seat, whose list gained the claims that were refused: each that is the oldest of its LUN was passed over
pub record WereTried (core : CoreView) (backlog : List (QueuedJob Job)) (count : ℕ) (before later : List Call) : Type 0 where
  pub refused : List ℕ
  pub calls : later ≡ before ++ map WasRefused refused
  pub passed : (k : ℕ) (x : QueuedJob Job) → k < count → IsOldest backlog k x → IsPassedOver core refused x

-- a job may be started with a lease: those before it were tried, a load of it isn't refused, and the lease is of its LUN
pub record MayStart (core : CoreView) (backlog : List (QueuedJob Job)) (seat : Seated) (k : ℕ) (x : QueuedJob Job) (lease : Leased) : Type 0 where
  pub oldest : IsOldest backlog k x
  pub admitted : load_fault_at core x.job.lun x.job ≡ None
  pub calls : List Call
  pub tried : WereTried core backlog k seat.calls calls
  pub lease_is : lease ≡ record { table = seat.table; lun = number (channel_in core) x.job.lun; calls = calls ++ (WasGiven (number (channel_in core) x.job.lun) ∷ []) }

-- no job may be started: each was tried, and the seat is back
pub record NoneMayStart (core : CoreView) (backlog : List (QueuedJob Job)) (seat back : Seated) : Type 0 where
  pub same : back.table ≡ seat.table
  pub tried : WereTried core backlog (length backlog) seat.calls back.calls

-- what the taker gave, if it gave a job, went to the end of the backlog
pub record Took (t u : Taking Job) (taken taken' : List Name) (backlog backlog' : List (QueuedJob Job)) : Type 0 where
  pub job : QueuedJob Job
  pub taker : u ≡ record { table = t.table; hosts = t.hosts; taken = t.taken ++ (job ∷ []) }
  pub names : taken' ≡ taken ++ (name_of job ∷ [])
  pub backlog_is : backlog' ≡ backlog ++ (job ∷ [])

-- the oldest job of its LUN at a place of the backlog was loaded, under its name
pub record LoadedOne (core later : CoreView) (events events' : List Stored) (started started' : List Name) (backlog backlog' : List (QueuedJob Job)) (k : ℕ) (x : QueuedJob Job) : Type 0 where
  pub here : slice_get backlog k ≡ Some x
  pub leaves : Leaves backlog x backlog'
  pub verified : IsVerified x.job
  pub event : IsEvent core (Load x.job.lun x.job) (ToLoad Loaded) later
  pub stored : events' ≡ events ++ (WasLoaded x.job.lun (name_of x) ∷ [])
  pub names : started' ≡ started ++ (name_of x ∷ [])

-- a claim of a LUN for a job that it admits: the lease, or the seat again, whose list has gained the claim if there was one
abbrev pub IsTried : CoreView → QueuedJob Job → ℕ → Seated → TriedOnce → Type 0
IsTried core x n seat (Given lease) = (load_fault_at core x.job.lun x.job ≡ None) × (lease ≡ record { table = seat.table; lun = n; calls = seat.calls ++ (WasGiven n ∷ []) })
IsTried core x n seat (Passed back) =
    ((load_fault_at core x.job.lun x.job ≢ None) × (back ≡ seat)) ⊎ (back ≡ record { table = seat.table; calls = seat.calls ++ (WasRefused n ∷ []) })

-- a job was tried with a seat
abbrev pub IsTriedJob : CoreView → QueuedJob Job → Seated → TriedOnce → Type 0
IsTriedJob core x seat answer = IsTried core x (number (channel_in core) x.job.lun) seat answer

-- of the jobs below a place each that is the oldest of its LUN was tried with a seat, and passed over
pub record WereTriedBelow (core : CoreView) (places : List (Option (QueuedJob Job))) (to : ℕ) (before later : List Call) : Type 0 where
  pub refused : List ℕ
  pub calls : later ≡ before ++ map WasRefused refused
  pub passed : (n : ℕ) (x : QueuedJob Job) → n < to → IsOldestAt places n x → IsPassedOver core refused x

-- the job at a place may be started with a lease
pub record MayStartAt (core : CoreView) (places : List (Option (QueuedJob Job))) (seat : Seated) (n : ℕ) (x : QueuedJob Job) (lease : Leased) : Type 0 where
  pub inside : n < length places
  pub oldest : IsOldestAt places n x
  pub admitted : load_fault_at core x.job.lun x.job ≡ None
  pub calls : List Call
  pub tried : WereTriedBelow core places n seat.calls calls
  pub lease_is : lease ≡ record { table = seat.table; lun = number (channel_in core) x.job.lun; calls = calls ++ (WasGiven (number (channel_in core) x.job.lun) ∷ []) }

-- the first place whose job may be started, or none
abbrev pub AreTried : CoreView → List (Option (QueuedJob Job)) → Seated → Tried → Type 0
AreTried core places seat (GivenAt n lease) = (x : QueuedJob Job) × MayStartAt core places seat n x lease
AreTried core places seat (NoneGiven back) = (back.table ≡ seat.table) × WereTriedBelow core places (length places) seat.calls back.calls

-- a job that may be started has left the backlog, or none may and the backlog is as it was
abbrev pub IsPicked : CoreView → List (QueuedJob Job) → Seated → Picked → List (QueuedJob Job) → Type 0
IsPicked core before seat (Picks x lease) later = (k : ℕ) × MayStart core before seat k x lease × Leaves before x later
IsPicked core before seat (PicksNone back) later = NoneMayStart core before seat back × (later ≡ before)

-- a job was loaded, under its name
pub record HasLoaded (core later : CoreView) (events events' : List Stored) (started started' : List Name) (x : QueuedJob Job) : Type 0 where
  pub verified : IsVerified x.job
  pub event : IsEvent core (Load x.job.lun x.job) (ToLoad Loaded) later
  pub stored : events' ≡ events ++ (WasLoaded x.job.lun (name_of x) ∷ [])
  pub names : started' ≡ started ++ (name_of x ∷ [])

-- a job was taken to the end of the backlog, or nothing changed
abbrev pub MayHaveTaken : HistoryView → Bool → HistoryView → Type 0
MayHaveTaken v true u =
    (x : QueuedJob Job) × (u ≡ record v { taker = record { table = v.taker.table; hosts = v.taker.hosts; taken = v.taker.taken ++ (x ∷ []) }; taken = v.taken ++ (name_of x ∷ []); backlog = v.backlog ++ (x ∷ []) })
MayHaveTaken v false u = u ≡ v

-- a job was started: perhaps one was taken, then the first that may be started with the last free seat was loaded
pub record HasStarted (v : HistoryView) (seats : List Seated) (lease : Leased) (u : HistoryView) (left : List Seated) : Type 0 where
  pub took : Bool
  pub middle : HistoryView
  pub taking : MayHaveTaken v took middle
  pub seat : Seated
  pub free : seats ≡ left ++ (seat ∷ [])
  pub k : ℕ
  pub job : QueuedJob Job
  pub may : MayStart middle.core middle.backlog seat k job lease
  pub loaded : LoadedOne middle.core u.core middle.events u.events middle.started u.started middle.backlog u.backlog k job
  pub same : u ≡ record middle { core = u.core; events = u.events; started = u.started; backlog = u.backlog }

-- the seats when none could start a job: there was none, or the last one was tried
abbrev pub SeatsTried : CoreView → List (QueuedJob Job) → List Seated → List Seated → Type 0
SeatsTried core backlog seats left =
    ((seats ≡ []) × (left ≡ [])) ⊎ ((front : List Seated) × (seat : Seated) × (back : Seated) × (seats ≡ front ++ (seat ∷ [])) × (left ≡ front ++ (back ∷ [])) × NoneMayStart core backlog seat back)

-- what a start answers
abbrev pub IsStart : HistoryView → List Seated → Started → HistoryView → List Seated → Type 0
IsStart v seats (StartedJob lease) u left = HasStarted v seats lease u left
IsStart v seats (Nothing took) u left = MayHaveTaken v took u × SeatsTried u.core u.backlog seats left
IsStart v seats OutOfMemory u left = (u ≡ v) × (left ≡ seats)
