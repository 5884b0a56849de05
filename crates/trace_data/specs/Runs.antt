-- Differences of neighbouring outputs.
use Rattle.std.specs.Prelude.{◌+◌, ◌==◌, Bool, ◌&&◌, min, List, [], ◌∷◌, if◌then◌else◌, ◌^◌, ◌-◌}
use Rattle.onfi_cycle.specs.Channel.{same_lun}
use Rattle.onfi_cycle.specs.Content.{same_page}
use Rattle.trace_data.specs.declared.difference.Difference.{Difference}
use Rattle.trace_data.specs.declared.difference_run.DifferenceRun.{DifferenceRun}

-- the second is of the output behind the first, and of the column behind it
abbrev pub follows_on : Difference → Difference → Bool
follows_on d e =
    e.item == d.item + 1 && (e.shown.column == d.shown.column + 1 && (same_lun e.shown.lun d.shown.lun && same_page e.shown.page d.shown.page))

abbrev pub run_of : Difference → DifferenceRun
run_of d = record { first = d; last = d; count = 1 }

abbrev pub grown : DifferenceRun → Difference → DifferenceRun
grown r d = record { first = r.first; last = d; count = min (2 ^ 64 - 1) (r.count + 1) }

-- a run that goes on and what comes after it
abbrev pub runs_from : DifferenceRun → List Difference → List DifferenceRun
runs_from run [] = run ∷ []
runs_from run (d ∷ rest) = if follows_on run.last d then runs_from (grown run d) rest else run ∷ runs_from (run_of d) rest

-- differences, those of neighbouring outputs together
abbrev pub runs_of : List Difference → List DifferenceRun
runs_of [] = []
runs_of (d ∷ rest) = runs_from (run_of d) rest
