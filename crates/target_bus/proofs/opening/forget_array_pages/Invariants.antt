use Rattle.std.proofs.Common.{◌≡◌}
use Rattle.target_bus.proofs.Opened.{forgotten_below}
use Rattle.target_bus.proofs.opening.forget_array_pages.Given as goal

abbrev pub invariant-loop-place : goal.invariant-loop-place
invariant-loop-place g l = l.dies ≡ forgotten_below l.place l.initial.dies
