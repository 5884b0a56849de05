-- The rule of the queue.
use Rattle.std.specs.Prelude.{◌≡◌, ℕ, suc, ◌+◌, ◌^◌, ◌<◌, ◌≤◌, ◌==◌, if◌then◌else◌, Option, Some, None, List, [], ◌∷◌, ◌++◌, length}
use mathlib.Core.Option.{some}
use lib.ListN.{get_elem?}
use Rattle.job_queue.specs.declared.rule.QueuedJob.{QueuedJob}
use Rattle.job_queue.specs.declared.rule.View.{View}
use Rattle.job_queue.specs.declared.rule.View.TheVariants.{Host, Taker, Closing, Spent}

module _ {J : Type 0} where
  abbrev pub queued : ℕ → ℕ → J → QueuedJob J
  queued host number job = record { host = host; number = number; job = job }

  -- the jobs of one host, in order
  abbrev pub of_host : ℕ → List (QueuedJob J) → List (QueuedJob J)
  of_host host [] = []
  of_host host (x ∷ xs) = if x.host == host then x ∷ of_host host xs else of_host host xs

  -- these jobs of a host, numbered from k
  abbrev pub numbered : ℕ → ℕ → List J → List (QueuedJob J)
  numbered host k [] = []
  numbered host k (j ∷ js) = queued host k j ∷ numbered host (suc k) js

  -- the taker at the start, before any host is made
  abbrev pub opener : View J
  opener = Taker [] 0

  abbrev pub with_next_host : View J → View J
  with_next_host (Taker taken hosts) = Taker taken (hosts + 1)
  with_next_host v = Spent

  abbrev pub next_host : View J → View J
  next_host (Taker taken hosts) = Host hosts []
  next_host v = Spent

  abbrev pub closing : View J → View J → View J
  closing (Taker taken hosts) (Host h stored) = Closing taken hosts h stored
  closing (Closing taken hosts _ _) (Host h stored) = Closing taken hosts h stored
  closing v w = Spent

  -- no host at or above this number has stored a job
  abbrev pub NoneFrom : (ℕ → Option ℕ) → (ℕ → List J) → ℕ → Type 0
  NoneFrom seat stored hosts = (h : ℕ) → hosts ≤ h → (seat h ≡ None) × (stored h ≡ [])

  -- a view says what is so: which pass each host has, what each host stored, which pass takes, and what it took
  abbrev pub Fits : (ℕ → Option ℕ) → (ℕ → List J) → ℕ → List (QueuedJob J) → ℕ → View J → Type 0
  Fits seat stored taker taken pass (Host h js) = (seat h ≡ Some pass) × (js ≡ stored h)
  Fits seat stored taker taken pass (Taker ts hosts) = (pass ≡ taker) × (ts ≡ taken) × NoneFrom seat stored hosts
  Fits seat stored taker taken pass (Closing ts hosts h js) = (pass ≡ taker) × (ts ≡ taken) × NoneFrom seat stored hosts × (seat h ≡ None) × (js ≡ stored h) × (h < hosts)
  Fits seat stored taker taken pass Spent = Unit {0}

  -- The rule, over what is queued and what the passes know
  pub record Delivers (items : List (QueuedJob J)) (views : List (View J)) : Type 0 where
    -- which pass each host has, what each host stored, which pass takes, and what it took
    pub seat : ℕ → Option ℕ
    pub stored : ℕ → List J
    pub taker : ℕ
    pub taken : List (QueuedJob J)
    -- of each host, what was taken and then what is queued are the stored jobs, in order, numbered from 0
    pub order : (h : ℕ) → of_host h (taken ++ items) ≡ numbered h 0 (stored h)
    pub short : (h : ℕ) → length (stored h) ≤ 2 ^ 62
    -- what each pass knows is so
    pub each : (pass : ℕ) (v : View J) → get_elem? views pass ≡ some v → Fits seat stored taker taken pass v

  -- the taken jobs are of these hosts, each host's numbered from 0
  pub record IsInOrder (taken : List (QueuedJob J)) (hosts : ℕ) : Type 0 where
    pub order : (h : ℕ) → (js : List J) × (of_host h taken ≡ numbered h 0 js) × (length js ≤ 2 ^ 62)
    pub none : (h : ℕ) → hosts ≤ h → of_host h taken ≡ []

  -- a job joins what the host stored
  abbrev pub TellsStored : View J → QueuedJob J → View J → Type 0
  TellsStored (Host h js) x w = w ≡ Host h (js ++ x.job ∷ [])
  TellsStored v x w = Unit {0}

  -- the job is the next one of its host
  pub record TakesNext (taken : List (QueuedJob J)) (x : QueuedJob J) (hosts : ℕ) : Type 0 where
    pub order : IsInOrder (taken ++ x ∷ []) hosts
    pub host : x.host < hosts
    pub number : x.number ≡ length (of_host x.host taken)
    pub short : x.number < 2 ^ 62

  -- a job joins what was taken
  abbrev pub TellsTaken : View J → QueuedJob J → View J → Type 0
  TellsTaken (Taker ts hosts) x w = (w ≡ Taker (ts ++ x ∷ []) hosts) × TakesNext ts x hosts
  TellsTaken v x w = Unit {0}

  -- the host that was taken in is one of the hosts; what was taken of it, and then what is queued, are what it stored
  abbrev pub TellsHost : View J → List (QueuedJob J) → Type 0
  TellsHost (Closing ts hosts h js) items = (h < hosts) × (of_host h (ts ++ items) ≡ numbered h 0 js)
  TellsHost v items = Unit {0}
