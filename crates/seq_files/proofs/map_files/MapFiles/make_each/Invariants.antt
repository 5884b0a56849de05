use Rattle.std.proofs.Common.{◌≡◌, ◌++◌, List, Some, map, drop}
use Rattle.seq_files.specs.declared.map_files.KeptFile.{KeptFile}
use Rattle.seq_files.specs.Store.{with_all, written_of}
use Rattle.seq_files.specs.Kept.{files_in}
use Rattle.seq_files.proofs.map_files.MapFiles.make_each.Given as goal

abbrev pub invariant-loop-place : goal.invariant-loop-place
invariant-loop-place l =
    (with_all (map written_of (drop l.place l.files)) (Some (files_in l.self.files.items)) ≡ with_all (map written_of l.files) (Some (files_in l.initial.self.files.items)))
    × ((later : List KeptFile) × (l.self.files.items ≡ l.initial.self.files.items ++ later))
