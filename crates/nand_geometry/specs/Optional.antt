-- What a chip has beyond the base profile, as a set of bits.
use Rattle.std.specs.Prelude.{ℕ, ◌+◌, ◌==◌, Bool, ◌&&◌}
use Rattle.std.specs.Int.RustNames.{bit_and}
use Rattle.nand_geometry.specs.declared.optional.Optional.{Optional}
use Rattle.nand_geometry.specs.declared.optional.Profile.{Profile}
use Rattle.nand_geometry.specs.declared.optional.Profile.TheVariants.{Base, Onfi}
use Rattle.nand_geometry.specs.declared.parts.Parts.{Parts}
use Rattle.nand_geometry.specs.Flag.{flag}

-- nothing: the base profile
abbrev pub no_optional : Optional
no_optional = record { 0 = 0 }

-- all bits of a number are in the set
abbrev pub has_all : Optional → ℕ → Bool
has_all o bits = bit_and o.0 bits == bits

abbrev pub has_features : Optional → Bool
has_features o = has_all o 4

abbrev pub has_unique_id : Optional → Bool
has_unique_id o = has_all o 32

abbrev pub has_enhanced_column : Optional → Bool
has_enhanced_column o = has_all o 64

abbrev pub has_lun_reset : Optional → Bool
has_lun_reset o = has_all o 512

abbrev pub has_synchronous_reset : Optional → Bool
has_synchronous_reset o = has_all o 2048

abbrev pub is_wide : Optional → Bool
is_wide o = has_all o 32768

-- what changes a rule of the base profile counts in the wider one alone
abbrev pub has_copyback : Optional → Bool
has_copyback o = is_wide o && has_all o 16

abbrev pub has_plane_reads : Optional → Bool
has_plane_reads o = is_wide o && has_all o 1024

abbrev pub has_program_cache : Optional → Bool
has_program_cache o = is_wide o && has_all o 1

abbrev pub has_group_cache : Optional → Bool
has_group_cache o = is_wide o && has_all o 16384

abbrev pub has_free_blocks : Optional → Bool
has_free_blocks o = is_wide o && has_all o 4096

abbrev pub has_odd_even : Optional → Bool
has_odd_even o = is_wide o && has_all o 8192

-- the set of a chip that is read as one of the wider profile, by what it declares
abbrev pub wide_with : (program_cache features copyback unique_id enhanced_column lun_reset plane_reads synchronous_reset free_blocks odd_even group_cache : Bool) → Optional
wide_with program_cache features copyback unique_id enhanced_column lun_reset plane_reads synchronous_reset free_blocks odd_even group_cache =
    record {
      0 = 32768 + flag 0 program_cache + flag 2 features + flag 4 copyback + flag 5 unique_id + flag 6 enhanced_column + flag 9 lun_reset + flag 10 plane_reads
          + flag 11 synchronous_reset + flag 12 free_blocks + flag 13 odd_even + flag 14 group_cache;
    }

-- what is left of a set where a page that declares it is read for a profile
abbrev pub kept_optional : Profile → Optional → Optional
kept_optional Base o = no_optional
kept_optional Onfi o = wide_with (has_program_cache o) (has_features o) (has_copyback o) (has_unique_id o) (has_enhanced_column o) (has_lun_reset o) (has_plane_reads o)
    (has_synchronous_reset o) (has_free_blocks o) (has_odd_even o) (has_group_cache o)

-- a geometry as its own page is read for a profile
abbrev pub as_read : Profile → Parts → Parts
as_read profile g = record g { optional = kept_optional profile g.optional }
