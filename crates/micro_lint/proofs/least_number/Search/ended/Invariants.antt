use Rattle.std.proofs.Common.{◌≡◌, ◌-◌, ◌≤◌, false}
use Rattle.micro_walk.specs.Faults.{has_loop}
use Rattle.micro_lint.specs.Least.{IsBetween}
use Rattle.micro_lint.proofs.least_number.Search.ended.Given as goal

abbrev pub invariant-loop-search : goal.invariant-loop-search
invariant-loop-search g l = record {
  words : l.search.words.items ≡ l.fn.self.words.items;
  inside : l.search.low ≤ l.search.high;
  between : has_loop l.fn.self.words.items ≡ false → IsBetween l.geometry l.fn.self.words.items l.number l.fn.self.low l.fn.self.high
      → IsBetween l.geometry l.fn.self.words.items l.number l.search.low l.search.high;
}

abbrev pub decreases-loop-search : goal.decreases-loop-search
decreases-loop-search g l = l.search.high - l.search.low
