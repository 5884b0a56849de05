-- Rows: a row fits 24 bits, its bytes give it again, and it names what it was made of.
use Rattle.std.proofs.Common.{◌≡◌, ℕ, suc, ◌+◌, ◌*◌, ◌/◌, ◌%◌, ◌^◌, ◌<◌, ◌≤◌, true, [], ◌∷◌, Some, refl, sym, ap, subst, ◌∙◌, arith, lt-ltb}
use Rattle.std.proofs.lemmas.Nat.{pow-add, div-mul-add, mod-mul-add, mod-pow-add, shr_split, same_from_place, div-add-mod'}
use Rattle.std.proofs.Math.Nat.{pow-le-pow_right, div-lt_iff_lt-mul, div-mul-le_self, mul-le-mul_right}
use Rattle.nand_geometry.specs.declared.parts.Parts.{Parts}
use Rattle.nand_geometry.specs.declared.row_parts.RowParts.{RowParts}
use Rattle.nand_geometry.specs.Limits.{width, page_bits, block_bits, planes, indices, InLimits, KeepsWidths}
use Rattle.nand_geometry.specs.Row.{row_number, indexed, row_of, parts_of, is_inside, RowsReadBack, PartsGiveTheRow, IndicesAreDistinct}
use Rattle.nand_geometry.proofs.FieldLemmas.{width_fits, beside}

-- LUN, block and page are each inside the geometry
pub record IsRow (g : Parts) (p : RowParts) : Type 0 where
  pub lun : p.lun < g.luns
  pub block : p.block < g.blocks
  pub page : p.page < g.pages

-- each number of a row inside the geometry fits its field
record FitsFields (g : Parts) (p : RowParts) : Type 0 where
  pub lun : p.lun < 2 ^ width g.luns
  pub block : p.block < 2 ^ block_bits g
  pub page : p.page < 2 ^ page_bits g

fits_fields : (g : Parts) (p : RowParts) → InLimits g → IsRow g p → FitsFields g p
fits_fields g p limits is =
    record {
      lun = omega (arith, width_fits g.luns (omega (arith, limits.luns_most)), is.lun);
      block = omega (arith, width_fits g.blocks limits.blocks_most, is.block);
      page = omega (arith, width_fits g.pages (omega (arith, limits.pages_most)), is.page);
    }

-- a row inside the geometry takes at most 24 bits
pub row_fits : (g : Parts) (p : RowParts) → InLimits g → IsRow g p → row_number g p < 2 ^ 24
row_fits g p limits is =
    let fits = fits_fields g p limits is in
    let low : p.block * 2 ^ page_bits g + p.page < 2 ^ (block_bits g + page_bits g) = beside p.block p.page (block_bits g) (page_bits g) fits.block fits.page in
    let whole : p.lun * 2 ^ (block_bits g + page_bits g) + (p.block * 2 ^ page_bits g + p.page) < 2 ^ (width g.luns + (block_bits g + page_bits g)) = beside p.lun (p.block * 2 ^ page_bits g + p.page) (width g.luns) (block_bits g + page_bits g) fits.lun low in
    let bits : width g.luns + (block_bits g + page_bits g) ≤ 24 = omega (arith, limits.row_bits_most) in
    let most : 2 ^ (width g.luns + (block_bits g + page_bits g)) ≤ 2 ^ 24 = pow-le-pow_right {n = 2} (omega arith) bits in
    omega arith

-- the same of the widths that a geometry keeps
pub kept_row_fits : (inside g : Parts) (p : RowParts) (block_width page_width : ℕ) → KeepsWidths inside block_width page_width → inside ≡ g → IsRow g p → p.lun * 2 ^ (block_width + page_width) + p.block * 2 ^ page_width + p.page < 2 ^ 24
kept_row_fits inside g p block_width page_width kept same is =
    let limits : InLimits g = subst InLimits same kept.limits in
    rw (kept.block, kept.page, same) (row_fits g p limits is)

-- the three bytes of a row carry it
bytes_back : (n : ℕ) → n < 2 ^ 24 → row_of (n % 256) (n / 256 % 256) (n / 65536 % 256) ≡ n
bytes_back n h = omega arith

-- the two upper fields are one field above the lowest
upper_fields : (a b c i j : ℕ) → a * 2 ^ (i + j) + b * 2 ^ j + c ≡ (a * 2 ^ i + b) * 2 ^ j + c
upper_fields a b c i j = rw pow-add (omega arith)

-- the parts of a row come back
parts_back : (g : Parts) (p : RowParts) → InLimits g → IsRow g p → parts_of g (row_number g p) ≡ p
parts_back g p limits is =
    let fits = fits_fields g p limits is in
    let low : p.block * 2 ^ page_bits g + p.page < 2 ^ (block_bits g + page_bits g) = beside p.block p.page (block_bits g) (page_bits g) fits.block fits.page in
    let same = upper_fields p.lun p.block p.page (block_bits g) (page_bits g) in
    let flat : p.lun * 2 ^ (block_bits g + page_bits g) + p.block * 2 ^ page_bits g + p.page ≡ p.lun * 2 ^ (block_bits g + page_bits g) + (p.block * 2 ^ page_bits g + p.page) = omega arith in
    let l : row_number g p / 2 ^ (block_bits g + page_bits g) ≡ p.lun = ap (λ n. n / 2 ^ (block_bits g + page_bits g)) flat ∙ div-mul-add p.lun (2 ^ (block_bits g + page_bits g)) (p.block * 2 ^ page_bits g + p.page) low in
    let b : row_number g p / 2 ^ page_bits g % 2 ^ block_bits g ≡ p.block = ap (λ n. n / 2 ^ page_bits g % 2 ^ block_bits g) same ∙ (ap (λ n. n % 2 ^ block_bits g) (div-mul-add (p.lun * 2 ^ block_bits g + p.block) (2 ^ page_bits g) p.page fits.page) ∙ mod-mul-add p.lun (2 ^ block_bits g) p.block fits.block) in
    let a : row_number g p % 2 ^ page_bits g ≡ p.page = ap (λ n. n % 2 ^ page_bits g) same ∙ mod-mul-add (p.lun * 2 ^ block_bits g + p.block) (2 ^ page_bits g) p.page fits.page in
    λ i. record { lun = l i; block = b i; page = a i }

-- the last block of a whole group is there
block_below : (blocks planes group plane : ℕ) → group < blocks / planes → plane < planes → group * planes + plane < blocks
block_below blocks planes group plane h k =
    let whole = div-mul-le_self blocks planes in
    let most : suc group * planes ≤ blocks / planes * planes = mul-le-mul_right planes h in
    omega arith

-- an index inside the geometry names a row inside it
indexed_is : (g : Parts) (lun index plane : ℕ) → InLimits g → lun < g.luns → index < indices g → plane < planes g → IsRow g (indexed g lun index plane)
indexed_is g lun index plane limits hl hi hp =
    let pos : 0 < g.pages = omega (arith, limits.pages_least) in
    let at : index < g.blocks / planes g * g.pages = omega arith in
    let group : index / g.pages < g.blocks / planes g = (div-lt_iff_lt-mul {x = index} pos).1 at in
    record { lun = hl; block = block_below g.blocks (planes g) (index / g.pages) plane group hp; page = omega arith }

-- an index in a plane of a LUN, written and read back
pub rows_back : RowsReadBack
rows_back g lun index plane limits hl hi hp =
    let p = indexed g lun index plane in
    let is = indexed_is g lun index plane limits hl hi hp in
    let n = row_number g p in
    let fits : n < 2 ^ 24 = row_fits g p limits is in
    let bytes = bytes_back n fits in
    let back : parts_of g (row_of (n % 256) (n / 256 % 256) (n / 65536 % 256)) ≡ p = ap (parts_of g) bytes ∙ parts_back g p limits is in
    let inside : is_inside g (parts_of g (row_of (n % 256) (n / 256 % 256) (n / 65536 % 256))) ≡ true = ap (is_inside g) back ∙ rw (lt-ltb p.lun g.luns is.lun, lt-ltb p.block g.blocks is.block, lt-ltb p.page g.pages is.page) refl in
    record {
      r1 = n % 256;
      r2 = n / 256 % 256;
      r3 = n / 65536 % 256;
      r1_is_byte = omega arith;
      r2_is_byte = omega arith;
      r3_is_byte = omega arith;
      there = rw (lt-ltb lun g.luns hl, lt-ltb index (indices g) hi, lt-ltb plane (planes g) hp) refl;
      small = rw bytes fits;
      back = back;
      inside = inside;
      found = rw (inside, back) refl;
    }

-- the fields of a row make up the row
pub parts_number : PartsGiveTheRow
parts_number g row = omega (arith, shr_split row (block_bits g + page_bits g), mod-pow-add row (block_bits g) (page_bits g))

-- three equal bytes carry one row
same_row : (a1 a2 a3 b1 b2 b3 : ℕ) → Some (a1 ∷ (a2 ∷ (a3 ∷ []))) ≡ Some (b1 ∷ (b2 ∷ (b3 ∷ []))) → row_of a1 a2 a3 ≡ row_of b1 b2 b3
same_row a1 a2 a3 b1 b2 b3 h = cc

-- quotient and remainder tell a number
same_number : (a b n : ℕ) → a / n ≡ b / n → a % n ≡ b % n → a ≡ b
same_number a b n quotient remainder = cc (div-add-mod' a n, div-add-mod' b n)

-- one row has one index
pub indices_distinct : IndicesAreDistinct
indices_distinct g lun index plane lun' index' plane' limits hl hi hp hl' hi' hp' h =
    let one = rows_back g lun index plane limits hl hi hp in
    let two = rows_back g lun' index' plane' limits hl' hi' hp' in
    let row = same_row one.r1 one.r2 one.r3 two.r1 two.r2 two.r3 (sym one.there ∙ h ∙ two.there) in
    let same : indexed g lun index plane ≡ indexed g lun' index' plane' = sym one.back ∙ ap (parts_of g) row ∙ two.back in
    let place : index / g.pages * planes g + plane ≡ index' / g.pages * planes g + plane' = ap (λ (q : RowParts). q.block) same in
    let both = same_from_place (index / g.pages) plane (index' / g.pages) plane' (planes g) hp hp' place in
    let page : index % g.pages ≡ index' % g.pages = ap (λ (q : RowParts). q.page) same in
    (ap (λ (q : RowParts). q.lun) same, same_number index index' g.pages both.0 page, both.1)
