-- A pass of the ring, as a host and the taker hold it.
use Rattle.std.specs.Prelude.{◌≡◌, ℕ, ◌^◌, ◌≤◌, List, [], ◌++◌, length}
use Rattle.crossbeam_queue.specs.Passes.{Pass, view}
use Rattle.job_queue.specs.Rule.{IsInOrder, of_host, numbered}
use Rattle.job_queue.specs.Passes.{Counts}
use Rattle.job_queue.specs.declared.rule.QueuedJob.{QueuedJob}
use Rattle.job_queue.specs.declared.rule.View.{View}
use Rattle.job_queue.specs.declared.rule.View.TheVariants.{Host, Taker, Closing}

module _ {J : Type 0} where
  abbrev pub stored_in : View J → List J
  stored_in (Host h js) = js
  stored_in v = []

  abbrev pub taken_in : View J → List (QueuedJob J)
  taken_in (Taker ts hosts) = ts
  taken_in v = []

  abbrev pub stored_of : Pass (QueuedJob J) (View J) → List J
  stored_of p = stored_in (view p)

  abbrev pub taken_of : Pass (QueuedJob J) (View J) → List (QueuedJob J)
  taken_of p = taken_in (view p)

  -- no slot is out with it, it is this host's, and the next number is the length of what it stored
  pub record IsHostPass (p : Pass (QueuedJob J) (View J)) (host next : ℕ) : Type 0 where
    pub empty : p.me.1 ≡ []
    pub now : view p ≡ Host host (stored_of p)
    pub next_is : next ≡ length (stored_of p)
    pub short : next ≤ 2 ^ 62

  -- no slot is out with it, it takes, its counts are how many jobs were taken of each host, and it has room for a second number of each
  pub record IsTakerPass (p : Pass (QueuedJob J) (View J)) (hosts : ℕ) (put counts : List ℕ) : Type 0 where
    pub empty : p.me.1 ≡ []
    pub now : view p ≡ Taker (taken_of p) hosts
    pub order : IsInOrder (taken_of p) hosts
    pub room : length put ≡ hosts
    pub counted : Counts counts hosts (taken_of p)

  -- what the one taker took, and how many hosts there are, also once it has taken in a host
  abbrev pub jobs_of : View J → List (QueuedJob J)
  jobs_of (Taker ts hosts) = ts
  jobs_of (Closing ts hosts h js) = ts
  jobs_of v = []

  abbrev pub hosts_of : View J → ℕ
  hosts_of (Taker ts hosts) = hosts
  hosts_of (Closing ts hosts h js) = hosts
  hosts_of v = 0

  abbrev pub IsTaking : View J → Type 0
  IsTaking (Taker ts hosts) = Unit {0}
  IsTaking (Closing ts hosts h js) = Unit {0}
  IsTaking v = ⊥

  -- the jobs that were taken of a host are the first that it stored
  abbrev pub IsBeginning : ℕ → List J → List (QueuedJob J) → Type 0
  IsBeginning h stored taken = (rest : List (QueuedJob J)) × (numbered h 0 stored ≡ of_host h taken ++ rest)
