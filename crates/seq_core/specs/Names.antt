-- How answers are shown.
use Rattle.std.specs.Prelude.{ℕ, List, codes}
use Rattle.seq_core.specs.declared.stepped.Stepped.{Stepped}
use Rattle.seq_core.specs.declared.stepped.Stepped.TheVariants.{Empty, Ended, Held, HandedOver, NotReady, Went}

-- how a step went
abbrev pub step_name : Stepped → List ℕ
step_name Empty = codes "empty"
step_name Ended = codes "ended"
step_name Held = codes "held"
step_name HandedOver = codes "handed over"
step_name NotReady = codes "not ready"
step_name Went = codes "went"
