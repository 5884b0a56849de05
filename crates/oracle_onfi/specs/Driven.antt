-- The byte that a target gives next.
use Rattle.std.specs.Prelude.{ℕ, List, [], ◌∷◌, Option, None}
use Rattle.nand_geometry.specs.declared.parts.Parts.{Parts}
use Rattle.onfi_cycle.specs.declared.lun.Lun.{Lun}
use Rattle.onfi_cycle.specs.declared.page_address.PageAddress.{PageAddress}
use Rattle.onfi_cycle.specs.declared.item.Item.{Item}
use Rattle.onfi_cycle.specs.Lun.{drivers}
use Rattle.onfi_cycle.specs.Content.{shown}

-- what the only one of these LUNs shows; nothing where there is none, or more
abbrev pub shown_by_only : (ℕ → Option ℕ) → List ℕ → Option ℕ
shown_by_only shows (n ∷ []) = shows n
shown_by_only shows _ = None

-- the byte that the one driver of a target gives next
abbrev pub driven_byte : Parts → List ℕ → (Lun → PageAddress → List ℕ) → List Item → ℕ → Option ℕ
driven_byte g parameters opening past ce =
    shown_by_only (λ n. shown g parameters opening past (record { ce = ce; lun = n })) (drivers g past ce)
