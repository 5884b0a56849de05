-- What clauses see of a queue, a host's pass and the taker.
use Rattle.std.specs.Prelude.{◌≡◌, ℕ, ◌<◌, List, [], ◌∷◌, length, slice_index, slice_get, Some}
use Rattle.atomic_table.specs.Seated.{TableId}
use Rattle.job_queue.specs.declared.rule.QueuedJob.{QueuedJob}
use Rattle.job_queue.specs.Rule.{of_host}

-- which queue it is, and how many hosts it has
pub record Queue : Type 0 where
  pub table : TableId
  pub hosts : ℕ

-- which queue a pass is of, its host, and the jobs that it stored
pub record Storing (J : Type 0) : Type 0 where
  pub table : TableId
  pub host : ℕ
  pub stored : List J

-- which queue the taker is of, the number of hosts, and the jobs that were taken
pub record Taking (J : Type 0) : Type 0 where
  pub table : TableId
  pub hosts : ℕ
  pub taken : List (QueuedJob J)

module _ {J : Type 0} where
  -- the pass is of the queue
  abbrev pub owns : Queue → Storing J → Type 0
  owns q p = p.table ≡ q.table

  -- each of these passes is
  abbrev pub OwnsAll : Queue → List (Storing J) → Type 0
  OwnsAll q passes = (k : ℕ) (p : Storing J) → slice_get passes k ≡ Some p → owns q p

  -- the taker is of the queue
  abbrev pub owns_taker : Queue → Taking J → Type 0
  owns_taker q t = (t.table ≡ q.table) × (t.hosts ≡ q.hosts)

  -- for each host, how many of its jobs were taken
  abbrev pub Counts : List ℕ → ℕ → List (QueuedJob J) → Type 0
  Counts counts hosts taken = (length counts ≡ hosts) × ((h : ℕ) → h < hosts → slice_index counts h ≡ length (of_host h taken))

  -- new passes, one for each host, none of which has stored a job
  pub record AreNew (q : Queue) (passes : List (Storing J)) (hosts : ℕ) : Type 0 where
    pub count : length passes ≡ hosts
    pub each : (h : ℕ) → h < hosts → slice_get passes h ≡ Some (record { table = q.table; host = h; stored = [] })
