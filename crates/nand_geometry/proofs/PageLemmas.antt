-- The parameter page has its length, and its checksum is the one meant.
use Rattle.std.proofs.Common.{◌≡◌, [], ◌∷◌, refl}
use Rattle.nand_geometry.specs.Page.{crc, crc_bits, parameter_bytes, ParametersHaveTheirLength}

pub parameters_have_their_length : ParametersHaveTheirLength
unfolding parameter_bytes
parameters_have_their_length g = refl

crc_of_nothing : crc [] ≡ 0x4f4e
unfolding crc_bits
crc_of_nothing = refl

crc_of_two : crc (0x4f ∷ (0x4e ∷ [])) ≡ 0
unfolding crc_bits
crc_of_two = refl

crc_of_four : crc (0x4f ∷ (0x4e ∷ (0x46 ∷ (0x49 ∷ [])))) ≡ 0x15b3
unfolding crc_bits
crc_of_four = refl
