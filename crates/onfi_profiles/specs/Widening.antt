-- What the wider profile keeps of the base profile.
use Rattle.std.specs.Prelude.{◌≡◌, ℕ, ◌<◌, true, List}
use Rattle.nand_geometry.specs.declared.parts.Parts.{Parts}
use Rattle.nand_geometry.specs.Optional.{no_optional}
use Rattle.onfi_cycle.specs.declared.item.Item.{Item}
use Rattle.onfi_cycle.specs.declared.lun.Lun.{Lun}
use Rattle.onfi_cycle.specs.declared.page_address.PageAddress.{PageAddress}
use Rattle.onfi_cycle.specs.Lun.{drivers, is_only}
use Rattle.onfi_cycle.specs.Content.{shown}
use Rattle.onfi_cycle.specs.Permitted.{is_legal}

-- the same chip in the base profile
abbrev pub in_base : Parts → Parts
in_base g = record g { optional = no_optional }

-- the law: what is legal in the base profile is legal, whatever the chip has besides, and a LUN that alone drives its target alone drives it
-- there too, and shows the same byte. (Where several LUNs drive a target nothing can be read, and the wider profile turns some of them off)
pub record Widens : Type 0 where
  pub legal : (g : Parts) (targets : ℕ) (past : List Item) → is_legal (in_base g) targets past ≡ true → is_legal g targets past ≡ true
  pub driver : (g : Parts) (targets : ℕ) (past : List Item) (l : Lun) → is_legal (in_base g) targets past ≡ true → l.ce < targets → l.lun < g.luns → is_only (drivers (in_base g) past l.ce) l.lun ≡ true → is_only (drivers g past l.ce) l.lun ≡ true
  pub shown : (g : Parts) (targets : ℕ) (parameters : List ℕ) (opening : Lun → PageAddress → List ℕ) (past : List Item) (l : Lun) → is_legal (in_base g) targets past ≡ true → l.ce < targets → l.lun < g.luns → is_only (drivers (in_base g) past l.ce) l.lun ≡ true → shown (in_base g) parameters opening past l ≡ shown g parameters opening past l
