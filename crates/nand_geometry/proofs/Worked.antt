-- Rows, faults and parameter pages worked by hand, on two geometries.
use Rattle.std.proofs.Common.{◌≡◌, true, false, List, ℕ, [], ◌∷◌, ◌++◌, Some, None, Ok, slice_set, refl}
use Rattle.nand_geometry.specs.declared.parts.Parts.{Parts}
use Rattle.nand_geometry.specs.declared.page_fault.PageFault.TheVariants.{TooShort, NoSignature, WrongChecksum, LunsOutOfRange, PlanesOutOfRange, LunCommandsMissing}
use Rattle.nand_geometry.specs.Limits.{width, page_len, planes, indices, fault_of}
use Rattle.nand_geometry.specs.Optional.{no_optional}
use Rattle.nand_geometry.specs.Page.{crc_bits, plane_operations, page}
use Rattle.nand_geometry.specs.Reading.{is_signed, is_sound, declared_by, copy_fault, page_fault, read_of}
use Rattle.nand_geometry.specs.Row.{row_bytes_of, row_parts_of, row_of}

-- one LUN of 8 blocks of 4 pages of 512 + 16 bytes, in one plane
abbrev one_lun : Parts
one_lun = record { page_bytes = 512; spare_bytes = 16; pages = 4; blocks = 8; luns = 1; plane_bits = 0; enhanced = false; multi_plane = false; cache = false; optional = no_optional }

-- two such LUNs, each in two planes
abbrev two_luns : Parts
two_luns = record one_lun { luns = 2; plane_bits = 1; enhanced = true; multi_plane = true }

no_fault_of_one : fault_of one_lun ≡ None
unfolding width
no_fault_of_one = refl

no_fault_of_two : fault_of two_luns ≡ None
unfolding width
no_fault_of_two = refl

numbers_of_one : (page_len one_lun ∷ (planes one_lun ∷ (indices one_lun ∷ []))) ≡ (528 ∷ (1 ∷ (32 ∷ [])))
numbers_of_one = refl

numbers_of_two : (page_len two_luns ∷ (planes two_luns ∷ (indices two_luns ∷ []))) ≡ (528 ∷ (2 ∷ (16 ∷ [])))
numbers_of_two = refl

-- index 4 is page 0 of block 1
fifth_index : row_bytes_of one_lun 0 4 0 ≡ Some (0x04 ∷ (0x00 ∷ (0x00 ∷ [])))
unfolding width
fifth_index = refl

-- the last index of LUN 0 in plane 0 is page 3 of block 6
last_index : row_bytes_of two_luns 0 15 0 ≡ Some (0x1b ∷ (0x00 ∷ (0x00 ∷ [])))
unfolding width
last_index = refl

-- the last of LUN 1 in plane 1 is page 3 of block 7
last_of_lun_one : row_bytes_of two_luns 1 15 1 ≡ Some (0x3f ∷ (0x00 ∷ (0x00 ∷ [])))
unfolding width
last_of_lun_one = refl

first_of_lun_one : row_bytes_of two_luns 1 0 0 ≡ Some (0x20 ∷ (0x00 ∷ (0x00 ∷ [])))
unfolding width
first_of_lun_one = refl

index_outside : row_bytes_of two_luns 0 16 0 ≡ None
unfolding width
index_outside = refl

last_back : row_parts_of two_luns (row_of 0x3f 0x00 0x00) ≡ Some (record { lun = 1; block = 7; page = 3 })
unfolding width
last_back = refl

lun_outside : row_parts_of two_luns (row_of 0x40 0x00 0x00) ≡ None
unfolding width
lun_outside = refl

too_many_planes : fault_of (record two_luns { plane_bits = 3 }) ≡ Some PlanesOutOfRange
unfolding width
too_many_planes = refl

no_status_of_one_lun : fault_of (record two_luns { enhanced = false }) ≡ Some LunCommandsMissing
unfolding width
no_status_of_one_lun = refl

-- 2 bits of LUN, 16 of block and 6 of page are 24, and 12 of page are too many
row_of_24_bits : fault_of (record two_luns { luns = 4; blocks = 65536; pages = 64 }) ≡ None
unfolding width
row_of_24_bits = refl

row_too_wide : fault_of (record two_luns { luns = 4; blocks = 65536; pages = 4096 }) ≡ Some LunsOutOfRange
unfolding width
row_too_wide = refl

-- no bytes are too few
nothing_to_read : page_fault [] ≡ Some TooShort
nothing_to_read = refl

-- the page of the first geometry, with another byte 80
abbrev damaged : List ℕ
damaged = slice_set (page one_lun) 80 1

damaged_page : page_fault damaged ≡ Some WrongChecksum
unfolding crc_bits plane_operations is_signed is_sound
damaged_page = refl

-- a good copy behind it is read
good_copy_behind : read_of (damaged ++ page one_lun) ≡ Ok one_lun
unfolding crc_bits plane_operations is_signed is_sound declared_by copy_fault width
good_copy_behind = refl

-- a first copy without the signature isn't used
unsigned_page : page_fault (slice_set (page two_luns) 0 0) ≡ Some NoSignature
unfolding crc_bits plane_operations is_signed is_sound
unsigned_page = refl
