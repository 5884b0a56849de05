use Rattle.std.proofs.Common.{◌≡◌, length}
use Rattle.micro_walk.specs.Searched.{search_first}
use Rattle.micro_walk.proofs.Searching.{Left}
use Rattle.micro_walk.proofs.search.find.Given as goal

abbrev pub invariant-loop-walked : goal.invariant-loop-walked
invariant-loop-walked l =
    record {
      left : Left l.geometry l.bounds l.words l.most l.walked (search_first (length l.fn.claims)) (record { walk = l.walk; claims = l.claims });
      long : length l.claims ≡ length l.fn.claims;
    }
