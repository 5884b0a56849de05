-- What closing a queue answers.
use Rattle.std.specs.Prelude.{◌≡◌, ℕ, ◌<◌, ◌==◌, true, false, List, length, slice_index}
use Rattle.std.specs.List.{All, Contains, list_any}
use Rattle.job_queue.specs.declared.rule.QueuedJob.{QueuedJob}
use Rattle.job_queue.specs.Rule.{of_host}
use Rattle.job_queue.specs.Passes.{Storing}
use Rattle.job_queue.specs.Holding.{IsBeginning}

module _ {J : Type 0} where
  -- each host below this number has a pass among these
  abbrev pub HasEachPass : List (Storing J) → ℕ → Type 0
  HasEachPass passes hosts = (h : ℕ) → h < hosts → list_any (λ p. p.host == h) passes ≡ true

  -- some host below this number has none
  abbrev pub MissesPass : List (Storing J) → ℕ → Type 0
  MissesPass passes hosts = (h : ℕ) × (h < hosts) × (list_any (λ p. p.host == h) passes ≡ false)

  -- the number at the host is how many jobs its pass, one of these, stored
  abbrev pub IsPut : List (Storing J) → List ℕ → ℕ → Type 0
  IsPut passes put h = (p : Storing J) × Contains passes p × (p.host ≡ h) × (slice_index put h ≡ length p.stored)

  -- these passes came back, and these jobs were taken
  pub record IsTally (put taken : List ℕ) (passes : List (Storing J)) (jobs : List (QueuedJob J)) (hosts : ℕ) : Type 0 where
    pub counts : (length put ≡ hosts) × (length taken ≡ hosts)
    -- for each host, how many jobs it stored, and how many of them were taken
    pub stored : (h : ℕ) → h < hosts → IsPut passes put h
    pub took : (h : ℕ) → h < hosts → slice_index taken h ≡ length (of_host h jobs)
    -- the jobs that were taken of a host are the first that it stored
    pub begins : All (λ p. IsBeginning p.host p.stored jobs) passes
