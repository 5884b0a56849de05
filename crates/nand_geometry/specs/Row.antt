-- Rows: the number that three address bytes carry, and what it names.
use Rattle.std.specs.Prelude.{◌≡◌, ℕ, ◌+◌, ◌*◌, ◌/◌, ◌%◌, ◌^◌, ◌<◌, Bool, true, ◌&&◌, if◌then◌else◌, nat_lt, List, [], ◌∷◌, Option, Some, None}
use Rattle.nand_geometry.specs.declared.parts.Parts.{Parts}
use Rattle.nand_geometry.specs.declared.row_parts.RowParts.{RowParts}
use Rattle.nand_geometry.specs.Limits.{page_bits, block_bits, planes, indices, InLimits}

-- the number of a row: its LUN, block and page in fields beside one another, the page lowest
abbrev pub row_number : Parts → RowParts → ℕ
row_number g p = p.lun * 2 ^ (block_bits g + page_bits g) + p.block * 2 ^ page_bits g + p.page

-- what an index names in a plane of a LUN: pages count up within a group, which is a block of each plane
abbrev pub indexed : Parts → ℕ → ℕ → ℕ → RowParts
indexed g lun index plane = record { lun = lun; block = index / g.pages * planes g + plane; page = index % g.pages }

-- the three bytes of a row, the least significant first
abbrev pub row_cycles : ℕ → List ℕ
row_cycles row = row % 256 ∷ (row / 256 % 256 ∷ (row / 65536 % 256 ∷ []))

-- the row that three bytes carry, the least significant first
abbrev pub row_of : ℕ → ℕ → ℕ → ℕ
row_of r1 r2 r3 = r1 + 256 * r2 + 65536 * r3

-- the LUN, block and page of a row, read back from its fields; the LUN has all bits above the other two
abbrev pub parts_of : Parts → ℕ → RowParts
parts_of g row =
    record {
      lun = row / 2 ^ (block_bits g + page_bits g);
      block = row / 2 ^ page_bits g % 2 ^ block_bits g;
      page = row % 2 ^ page_bits g;
    }

-- LUN, block and page are each inside the geometry
abbrev pub is_inside : Parts → RowParts → Bool
is_inside g p = nat_lt p.lun g.luns && nat_lt p.block g.blocks && nat_lt p.page g.pages

-- the three bytes of an index in a plane of a LUN, where each is inside the geometry
abbrev pub row_bytes_of : Parts → ℕ → ℕ → ℕ → Option (List ℕ)
row_bytes_of g lun index plane =
    if nat_lt lun g.luns && nat_lt index (indices g) && nat_lt plane (planes g)
    then Some (row_cycles (row_number g (indexed g lun index plane)))
    else None

-- what a row names, where that is inside the geometry, also where no index names it
abbrev pub row_parts_of : Parts → ℕ → Option RowParts
row_parts_of g row = if is_inside g (parts_of g row) then Some (parts_of g row) else None

-- an index in a plane of a LUN has three bytes, and they name again what the index names, which is inside the geometry
pub record ReadsBack (g : Parts) (lun index plane : ℕ) : Type 0 where
  pub r1 : ℕ
  pub r2 : ℕ
  pub r3 : ℕ
  pub r1_is_byte : r1 < 256
  pub r2_is_byte : r2 < 256
  pub r3_is_byte : r3 < 256
  pub there : row_bytes_of g lun index plane ≡ Some (r1 ∷ (r2 ∷ (r3 ∷ [])))
  pub small : row_of r1 r2 r3 < 2 ^ 24
  pub back : parts_of g (row_of r1 r2 r3) ≡ indexed g lun index plane
  pub inside : is_inside g (parts_of g (row_of r1 r2 r3)) ≡ true
  pub found : row_parts_of g (row_of r1 r2 r3) ≡ Some (indexed g lun index plane)

-- the law: a row that was made for an index gives its LUN, block and page when it is read back
abbrev pub RowsReadBack : Type 0
RowsReadBack =
    (g : Parts) (lun index plane : ℕ) → InLimits g
    → lun < g.luns → index < indices g → plane < planes g
    → ReadsBack g lun index plane

-- the law: what a row names has that row as its number, so no two rows name the same
abbrev pub PartsGiveTheRow : Type 0
PartsGiveTheRow = (g : Parts) (row : ℕ) → row_number g (parts_of g row) ≡ row

-- the law: two indices with the same three bytes are one index in one plane of one LUN
abbrev pub IndicesAreDistinct : Type 0
IndicesAreDistinct =
    (g : Parts) (lun index plane lun' index' plane' : ℕ) → InLimits g
    → lun < g.luns → index < indices g → plane < planes g
    → lun' < g.luns → index' < indices g → plane' < planes g
    → row_bytes_of g lun index plane ≡ row_bytes_of g lun' index' plane'
    → (lun ≡ lun') × (index ≡ index') × (plane ≡ plane')
