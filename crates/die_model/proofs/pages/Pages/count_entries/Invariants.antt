use Rattle.std.proofs.Common.{◌≡◌, ◌+◌, ◌%◌}
use Rattle.die_model.specs.Image.{count_of}
use Rattle.die_model.proofs.pages.Pages.count_entries.Given as goal

abbrev pub invariant-loop-row : goal.invariant-loop-row
invariant-loop-row g l = (l.count + count_of l.geometry l.row-iterator) % 4294967296 ≡ count_of l.geometry l.self % 4294967296
