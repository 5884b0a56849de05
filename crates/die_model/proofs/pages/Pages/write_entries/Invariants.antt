use Rattle.std.proofs.Common.{◌≡◌, ◌++◌}
use Rattle.die_model.specs.Image.{entries_of}
use Rattle.die_model.proofs.pages.Pages.write_entries.Given as goal

abbrev pub invariant-loop-row : goal.invariant-loop-row
invariant-loop-row g l = l.out.items ++ entries_of l.geometry l.row-iterator ≡ l.initial.out.items ++ entries_of l.geometry l.self
