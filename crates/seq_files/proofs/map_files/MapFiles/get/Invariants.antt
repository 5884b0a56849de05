use Rattle.std.proofs.Common.{◌≡◌, ◌≤◌, reverse, length, take}
use Rattle.seq_files.specs.Kept.{first_of}
use Rattle.seq_files.proofs.map_files.MapFiles.get.Given as goal

abbrev pub invariant-loop-place : goal.invariant-loop-place
invariant-loop-place l = (l.place ≤ length l.self.files.items)
    × (first_of (reverse (take l.place l.self.files.items)) l.path ≡ first_of (reverse l.self.files.items) l.path)

abbrev pub decreases-loop-place : goal.decreases-loop-place
decreases-loop-place l = l.place
