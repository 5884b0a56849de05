-- The parameter page of a geometry (ONFI 4.x, Read Parameter Page Definition).
use Rattle.std.specs.Prelude.{◌≡◌, ℕ, zero, suc, ◌+◌, ◌*◌, ◌/◌, ◌%◌, ◌^◌, ◌==◌, nat_lt, if◌then◌else◌, List, [], ◌∷◌, ◌++◌, replicate, bit_xor, length}
use Rattle.nand_geometry.specs.declared.parts.Parts.{Parts}
use Rattle.nand_geometry.specs.Flag.{flag}
use Rattle.nand_geometry.specs.Optional.{has_features, has_copyback, has_unique_id, has_enhanced_column, has_lun_reset, has_plane_reads, has_synchronous_reset, has_free_blocks, has_odd_even, has_program_cache, has_group_cache}

-- so many bytes of a number, the least significant first
abbrev pub low_bytes : ℕ → ℕ → List ℕ
low_bytes zero n = []
low_bytes (suc count) n = n % 256 ∷ low_bytes count (n / 256)

-- bit 1: operations of several LUNs; bit 3: program and erase of several planes; bit 4: copyback between odd and even pages;
-- bit 5: an interface of double data rate; bit 6: reads of several planes
abbrev pub features : Parts → ℕ
features g =
    flag 1 (nat_lt 1 g.luns) + flag 3 g.multi_plane + flag 4 (has_odd_even g.optional) + flag 5 (has_synchronous_reset g.optional) + flag 6 (has_plane_reads g.optional)

-- Page Cache Program is bit 0, read cache bit 1, Get and Set Features bit 2, Read Status Enhanced bit 3, Copyback bit 4, Read Unique ID bit 5,
-- Change Read Column Enhanced bit 6, and Reset LUN bit 9
abbrev pub optional_commands : Parts → ℕ
optional_commands g =
    flag 0 (has_program_cache g.optional) + flag 1 g.cache + flag 2 (has_features g.optional) + flag 3 g.enhanced + flag 4 (has_copyback g.optional) + flag 5 (has_unique_id g.optional) + flag 6 (has_enhanced_column g.optional) + flag 9 (has_lun_reset g.optional)

-- bit 1: the blocks of one group of planes may have any bits above those of the plane; bit 2: cache programs of several planes
unfoldable pub plane_operations : Parts → ℕ
plane_operations g = flag 1 (has_free_blocks g.optional) + flag 2 (has_group_cache g.optional)

abbrev zeros : ℕ → List ℕ
zeros count = replicate count 0

-- the bytes in front of the checksum; 23h tells two column bytes and three row bytes of an address
abbrev pub page_body : Parts → List ℕ
page_body g =
    (0x4f ∷ (0x4e ∷ (0x46 ∷ (0x49 ∷ [])))) ++ (zeros 2 ++ (low_bytes 2 (features g) ++ (low_bytes 2 (optional_commands g) ++ (zeros 70
    ++ (low_bytes 4 g.page_bytes ++ (low_bytes 2 g.spare_bytes ++ (zeros 6 ++ (low_bytes 4 g.pages ++ (low_bytes 4 g.blocks
    ++ ((g.luns ∷ (0x23 ∷ [])) ++ (zeros 11 ++ ((g.plane_bits ∷ (plane_operations g ∷ [])) ++ zeros 139))))))))))))

-- the checksum's shift register takes one bit in; 8005h is XORed in unless it equals the bit that leaves
abbrev pub crc_bit : ℕ → ℕ → ℕ
crc_bit register bit =
    if register / 2 ^ 15 == bit then register * 2 % 2 ^ 16 else bit_xor (register * 2 % 2 ^ 16) 0x8005

-- so many bits of a byte, from the most significant of them on
unfoldable pub crc_bits : ℕ → ℕ → ℕ → ℕ
crc_bits zero byte register = register
crc_bits (suc count) byte register = crc_bits count byte (crc_bit register (byte / 2 ^ count % 2))

abbrev pub crc_from : List ℕ → ℕ → ℕ
crc_from [] register = register
crc_from (byte ∷ bytes) register = crc_from bytes (crc_bits 8 byte register)

-- the checksum of some bytes
abbrev pub crc : List ℕ → ℕ
crc bytes = crc_from bytes 0x4f4e

-- the parameter page
abbrev pub page : Parts → List ℕ
page g = page_body g ++ low_bytes 2 (crc (page_body g))

-- what its register holds: three copies
unfoldable pub parameter_bytes : Parts → List ℕ
parameter_bytes g = page g ++ (page g ++ page g)

-- the law: the register of the parameter page has 768 bytes
abbrev pub ParametersHaveTheirLength : Type 0
ParametersHaveTheirLength = (g : Parts) → length (parameter_bytes g) ≡ 768
