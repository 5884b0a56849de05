-- What storing a job answers.
use Rattle.std.specs.Prelude.{◌≡◌, ◌^◌, ◌<◌, [], ◌∷◌, ◌++◌, length}
use Rattle.job_queue.specs.Passes.{Storing}
use Rattle.job_queue.specs.declared.queue.Submitted.{Submitted}
use Rattle.job_queue.specs.declared.queue.Submitted.TheVariants.{Stored, Full}

module _ {J : Type 0} where
  -- the pass, which had stored fewer than 2^62 jobs, has stored this one behind its others; or pass and job come back
  abbrev pub IsAnswer : Storing J → J → Submitted J → Type 0
  IsAnswer p job (Stored q) = (length p.stored < 2 ^ 62) × (q ≡ record { table = p.table; host = p.host; stored = p.stored ++ job ∷ [] })
  IsAnswer p job (Full q back) = (q ≡ p) × (back ≡ job)
