use Rattle.std.proofs.Common.{◌≡◌, drop, map, ◌++◌}
use Rattle.seq_files.specs.Store.{written_of, made_of}
use Rattle.seq_files.proofs.made_file.list_made.Given as goal

abbrev pub invariant-loop-file : goal.invariant-loop-file
invariant-loop-file g l = map written_of l.files.items ++ map made_of (drop l.file-index l.made) ≡ map written_of l.initial.files.items ++ map made_of l.made
