-- Which numbers a geometry may have, and how wide the fields of its rows are.
use Rattle.std.specs.Prelude.{◌≡◌, ℕ, zero, suc, ◌+◌, ◌*◌, ◌/◌, ◌^◌, ◌≤◌, ◌↔◌, Bool, ◌||◌, ◌&&◌, not, if◌then◌else◌, nat_lt, nat_le, true, Option, Some, None}
use Rattle.nand_geometry.specs.declared.parts.Parts.{Parts}
use Rattle.nand_geometry.specs.declared.page_fault.PageFault.{PageFault}
use Rattle.nand_geometry.specs.declared.page_fault.PageFault.TheVariants.{SizeOutOfRange, LunsOutOfRange, PlanesOutOfRange, LunCommandsMissing}

-- how often n is halved, rounding up, until at most 1 is left; the first number bounds the steps
abbrev pub halvings : ℕ → ℕ → ℕ
halvings zero n = 0
halvings (suc steps) n = if nat_le n 1 then 0 else suc (halvings steps ((n + 1) / 2))

-- the width of a field for n numbers: the bits that it takes, for n up to 2 ^ 17
unfoldable pub width : ℕ → ℕ
width n = halvings 17 n

-- w bits have room for n numbers, and no fewer bits have
pub record IsLeastWidth (n w : ℕ) : Type 0 where
  pub room : n ≤ 2 ^ w
  pub least : (v : ℕ) → n ≤ 2 ^ v → w ≤ v

-- the law: a field is as wide as its numbers need, and no wider
abbrev pub WidthsAreLeast : Type 0
WidthsAreLeast = (n : ℕ) → n ≤ 65536 → IsLeastWidth n (width n)

-- the width of the page field of a row
abbrev pub page_bits : Parts → ℕ
page_bits g = width g.pages

-- the width of the block field of a row
abbrev pub block_bits : Parts → ℕ
block_bits g = width g.blocks

-- how many planes a LUN has
abbrev pub planes : Parts → ℕ
planes g = 2 ^ g.plane_bits

-- how many bytes a page has, its spare bytes among them
abbrev pub page_len : Parts → ℕ
page_len g = g.page_bytes + g.spare_bytes

-- how many page indices a LUN has: one for each page of a group, which is a block of each plane
abbrev pub indices : Parts → ℕ
indices g = g.pages * (g.blocks / planes g)

-- n is one of low, low + 1, .. high
abbrev pub is_within : ℕ → ℕ → ℕ → Bool
is_within low high n = nat_le low n && nat_le n high

-- P6: a size is out of range
abbrev pub has_size_fault : Parts → Bool
has_size_fault g =
    not (is_within 512 16384 g.page_bytes)
    || not (is_within 0 4096 g.spare_bytes)
    || not (is_within 1 4096 g.pages)
    || not (is_within 1 65536 g.blocks)

-- P7: too few or too many LUNs, or a row that needs more than 24 bits
abbrev pub has_lun_fault : Parts → Bool
has_lun_fault g = not (is_within 1 4 g.luns) || nat_lt 24 (width g.luns + block_bits g + page_bits g)

-- P8: too many plane bits, or a plane without a block
abbrev pub has_plane_fault : Parts → Bool
has_plane_fault g = nat_lt 2 g.plane_bits || nat_lt g.blocks (planes g)

-- P9: several LUNs that can't be asked for their status one by one
abbrev pub has_status_fault : Parts → Bool
has_status_fault g = nat_lt 1 g.luns && not g.enhanced

-- the first fault of the numbers
abbrev pub fault_of : Parts → Option PageFault
fault_of g =
    if has_size_fault g then Some SizeOutOfRange
    else (if has_lun_fault g then Some LunsOutOfRange
    else (if has_plane_fault g then Some PlanesOutOfRange
    else (if has_status_fault g then Some LunCommandsMissing
    else None)))

-- numbers inside the limits, said limit by limit
pub record InLimits (g : Parts) : Type 0 where
  pub page_bytes_least : 512 ≤ g.page_bytes
  pub page_bytes_most : g.page_bytes ≤ 16384
  pub spare_bytes_most : g.spare_bytes ≤ 4096
  pub pages_least : 1 ≤ g.pages
  pub pages_most : g.pages ≤ 4096
  pub blocks_least : 1 ≤ g.blocks
  pub blocks_most : g.blocks ≤ 65536
  pub luns_least : 1 ≤ g.luns
  pub luns_most : g.luns ≤ 4
  pub row_bits_most : width g.luns + block_bits g + page_bits g ≤ 24
  pub plane_bits_most : g.plane_bits ≤ 2
  pub planes_most : planes g ≤ g.blocks
  pub several_enhanced : 2 ≤ g.luns → g.enhanced ≡ true

-- what a geometry keeps: numbers inside the limits, and beside them the widths of its block and page fields
pub record KeepsWidths (g : Parts) (block_width page_width : ℕ) : Type 0 where
  pub limits : InLimits g
  pub block : block_width ≡ block_bits g
  pub page : page_width ≡ page_bits g

-- the law: numbers have no fault exactly where they are inside the limits
abbrev pub FaultlessAreInLimits : Type 0
FaultlessAreInLimits = (g : Parts) → (fault_of g ≡ None) ↔ InLimits g
