-- What holds in every state that the rule allows.
use Rattle.std.specs.Prelude.{◌≡◌, ℕ, ◌<◌, slice_index}
use Rattle.atomic_table.specs.Table.{State}
use Rattle.lun_lease.specs.declared.rule.View.{View}
use Rattle.lun_lease.specs.Rule.{Keeps, Holds, count_idle}

-- two seats that hold one LUN are one seat, and a seat holds no LUN twice
abbrev pub NoTwoHoldOneLun : Type 0
NoTwoHoldOneLun = (s : State (Unit {0}) View) → Keeps s → (lun i j : ℕ) (v w : View) → Holds s i v lun → Holds s j w lun → i ≡ j

-- some seat holds the LUN
abbrev pub IsHeld : State (Unit {0}) View → ℕ → Type 0
IsHeld s lun = (seat : ℕ) × (v : View) × Holds s seat v lun

-- the word is 1 where some seat holds the LUN, 0 where none does, and never another number
abbrev pub WordsTellHolders : Type 0
WordsTellHolders = (s : State (Unit {0}) View) → Keeps s → (lun : ℕ) → lun < 16
    → (slice_index s.words lun < 2) × (slice_index s.words lun ≡ 1 → IsHeld s lun) × (IsHeld s lun → slice_index s.words lun ≡ 1)

-- where sixteen seats have a part and hold nothing, no seat holds a LUN
abbrev pub NoneBesideSixteen : Type 0
NoneBesideSixteen = (s : State (Unit {0}) View) → Keeps s → count_idle s.views ≡ 16 → (lun seat : ℕ) (v : View) → Holds s seat v lun → ⊥
