use Rattle.std.proofs.Common.{◌≡◌, ◌==◌, ◌<◌, ℕ, true}
use Rattle.std.specs.List.{list_any}
use Rattle.job_queue.proofs.queue.close.has_each_pass.Given as goal

abbrev pub invariant-loop-host : goal.invariant-loop-host
invariant-loop-host g l = (h : ℕ) → h < l.host → list_any (λ p. p.host == h) l.passes ≡ true
