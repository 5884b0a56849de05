-- How many targets a channel has.
use Rattle.std.specs.Prelude.{ℕ}
use Rattle.recording.specs.declared.targets.Targets.{Targets}
use Rattle.recording.specs.declared.targets.Targets.TheVariants.{One, Two, Three, Four}

abbrev pub count_of : Targets → ℕ
count_of One = 1
count_of Two = 2
count_of Three = 3
count_of Four = 4
