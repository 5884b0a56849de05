-- A target that begins anew, or forgets its open sequence, while the others stay.
use Rattle.std.specs.Prelude.{◌≡◌, ◌==◌, ℕ, if◌then◌else◌, List, [], ◌∷◌, slice_get}
use Rattle.nand_geometry.specs.declared.parts.Parts.{Parts}
use Rattle.onfi_cycle.specs.declared.item.Item.{Item}
use Rattle.onfi_cycle.specs.Sequence.{target_of}
use Rattle.onfi_cycle.specs.State.{TargetView, BusView, target_view, changed_at, bus}
use Rattle.bus_record.specs.Kept.{Kept}

-- a target to which nothing has happened, in place of another
abbrev pub begun : Parts → ℕ → TargetView → TargetView
begun g ce s = target_view g [] ce

-- the channel with this target as at the start, the others as they are
abbrev pub bus_begun : ℕ → BusView → BusView
bus_begun ce s = bus s.geometry (changed_at (begun s.geometry ce) ce s.targets)

-- what has happened elsewhere than on this target
abbrev pub elsewhere : ℕ → List Item → List Item
elsewhere ce [] = []
elsewhere ce (i ∷ past) = if target_of i == ce then elsewhere ce past else i ∷ elsewhere ce past

-- but for the record of this target each number of a channel is as it was
pub record KeepsOthers (ce : ℕ) (old new : Kept) : Type 0 where
  pub magic : new.magic ≡ old.magic
  pub geometry : new.geometry ≡ old.geometry
  pub count : new.count ≡ old.count
  pub others : (k : ℕ) → (k ≡ ce → ⊥) → slice_get new.targets k ≡ slice_get old.targets k
