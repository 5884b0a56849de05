use Rattle.std.proofs.Common.{◌≡◌, ◌-◌, length}
use Rattle.micro_walk.specs.Searched.{forgotten}
use Rattle.micro_walk.proofs.search.forget.Given as goal

abbrev pub invariant-loop-at : goal.invariant-loop-at
invariant-loop-at l =
    record {
      left : forgotten l.from (l.to - l.from) l.fn.claims ≡ forgotten l.at (l.to - l.at) l.claims;
      long : length l.claims ≡ length l.fn.claims;
    }
