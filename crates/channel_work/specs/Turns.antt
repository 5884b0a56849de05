-- The turns of stored steps; the newest event comes first.
use Rattle.std.specs.Prelude.{◌≡◌, ◌⊎◌, ℕ, ◌+◌, List, [], ◌∷◌}
use Rattle.onfi_cycle.specs.declared.lun.Lun.{Lun}
use Rattle.channel_work.specs.declared.stored.Stored.{Stored}
use Rattle.channel_work.specs.declared.stored.Stored.TheVariants.{Step}

-- how many turns there are: one more than the number of the last one
abbrev pub turns_in : List Stored → ℕ
turns_in [] = 0
turns_in (Step l turn ∷ past) = turn + 1
turns_in (_ ∷ past) = turns_in past

-- the event before was a step of this LUN in this turn
abbrev pub IsInTurn : Lun → ℕ → List Stored → Type 0
IsInTurn l turn [] = ⊥
IsInTurn l turn (Step m before ∷ past) = (m ≡ l) × (before ≡ turn)
IsInTurn l turn (_ ∷ past) = ⊥

-- each step begins the next turn, or stands behind a step of its LUN in its turn
abbrev pub AreTurns : List Stored → Type 0
AreTurns [] = Unit {0}
AreTurns (Step l turn ∷ past) = ((turn ≡ turns_in past) ⊎ IsInTurn l turn past) × AreTurns past
AreTurns (_ ∷ past) = AreTurns past
