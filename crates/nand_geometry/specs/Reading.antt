-- How a parameter page is read (ONFI 4.x, Read Parameter Page Definition): which copy is used, what it declares, and the first fault.
use Rattle.std.specs.Prelude.{◌≡◌, ℕ, zero, suc, ◌+◌, ◌*◌, ◌/◌, ◌%◌, ◌^◌, ◌==◌, Bool, true, false, ◌||◌, ◌&&◌, not, if◌then◌else◌, nat_eq, nat_lt, codes, List, [], ◌∷◌, ◌++◌, All, length, take, drop, slice_index, find, Option, Some, None, unwrap_or, Result, Ok, Err}
use Rattle.std.specs.List.{concat, list_any, starts_with}
use Rattle.nand_geometry.specs.declared.parts.Parts.{Parts}
use Rattle.nand_geometry.specs.declared.page_fault.PageFault.{PageFault}
use Rattle.nand_geometry.specs.declared.page_fault.PageFault.TheVariants.{TooShort, NoSignature, WrongChecksum, WideBus, AddressCycles, SizeOutOfRange, LunsOutOfRange, PlanesOutOfRange, LunCommandsMissing}
use Rattle.nand_geometry.specs.Limits.{is_within, has_size_fault, has_lun_fault, has_plane_fault, has_status_fault, InLimits}
use Rattle.nand_geometry.specs.declared.optional.Optional.{Optional}
use Rattle.nand_geometry.specs.declared.optional.Profile.{Profile}
use Rattle.nand_geometry.specs.declared.optional.Profile.TheVariants.{Base, Onfi}
use Rattle.nand_geometry.specs.Optional.{no_optional, wide_with, as_read}
use Rattle.nand_geometry.specs.Page.{crc, page, parameter_bytes}

-- so many copies of 256 bytes each, from the beginning
abbrev pub first_copies : ℕ → List ℕ → List (List ℕ)
first_copies zero bytes = []
first_copies (suc count) bytes = take 256 bytes ∷ first_copies count (drop 256 bytes)

-- the whole copies, in order; a rest shorter than a copy is none
abbrev pub whole_copies : List ℕ → List (List ℕ)
whole_copies bytes = first_copies (length bytes / 256) bytes

-- the numbers of two and of four bytes from a place, the least significant first
abbrev pub u16_at : List ℕ → ℕ → ℕ
u16_at copy place = slice_index copy place + 256 * slice_index copy (place + 1)

abbrev pub u32_at : List ℕ → ℕ → ℕ
u32_at copy place = u16_at copy place + 65536 * u16_at copy (place + 2)

-- a bit of a byte is set, counted from the least significant
abbrev pub has_bit : ℕ → ℕ → Bool
has_bit byte bit = byte / 2 ^ bit % 2 == 1

-- the signature comes first: 4F 4E 46 49
unfoldable pub is_signed : List ℕ → Bool
is_signed copy = starts_with nat_eq copy (codes "ONFI")

-- the last two bytes are the checksum of all the others
unfoldable pub is_sound : List ℕ → Bool
is_sound copy = u16_at copy 254 == crc (take 254 copy)

-- the copy can be used
abbrev pub is_good : List ℕ → Bool
is_good copy = is_signed copy && is_sound copy

-- the copy that is used: the first good one
abbrev pub used : List ℕ → List ℕ
used bytes = unwrap_or (find is_good (whole_copies bytes)) []

-- an interface of double data rate is declared
abbrev pub has_double_rate : List ℕ → Bool
has_double_rate copy = has_bit (slice_index copy 6) 5 || (has_bit (slice_index copy 7) 2 || has_bit (slice_index copy 7) 5)

-- what a copy declares beyond the base profile
unfoldable pub optional_by : List ℕ → Optional
optional_by copy = wide_with (has_bit (slice_index copy 8) 0) (has_bit (slice_index copy 8) 2) (has_bit (slice_index copy 8) 4) (has_bit (slice_index copy 8) 5) (has_bit (slice_index copy 8) 6)
    (has_bit (slice_index copy 9) 1) (has_bit (slice_index copy 6) 6) (has_double_rate copy) (has_bit (slice_index copy 114) 1) (has_bit (slice_index copy 6) 4)
    (has_bit (slice_index copy 114) 2)

-- the numbers that a copy declares, in the base profile
unfoldable pub declared_by : List ℕ → Parts
declared_by copy =
    record {
      page_bytes = u32_at copy 80;
      spare_bytes = u16_at copy 84;
      pages = u32_at copy 92;
      blocks = u32_at copy 96;
      luns = slice_index copy 100;
      plane_bits = slice_index copy 113 % 16;
      enhanced = has_bit (slice_index copy 8) 3;
      multi_plane = has_bit (slice_index copy 6) 3;
      cache = has_bit (slice_index copy 8) 1;
      optional = no_optional;
    }

-- and in a profile
abbrev pub declared_as : Profile → List ℕ → Parts
declared_as Base copy = declared_by copy
declared_as Onfi copy = record (declared_by copy) { optional = optional_by copy }

-- a bus of 16 bits is declared
abbrev pub has_wide_bus : List ℕ → Bool
has_wide_bus copy = has_bit (slice_index copy 6) 0

-- two address bytes of the column and three of the row are declared
abbrev pub has_address_cycles : List ℕ → Bool
has_address_cycles copy = slice_index copy 101 == 0x23

-- operations of several LUNs are declared
abbrev pub has_lun_operations : List ℕ → Bool
has_lun_operations copy = has_bit (slice_index copy 6) 1

-- several LUNs are declared, and not both of the things that they need
abbrev pub has_several_fault : List ℕ → Bool
has_several_fault copy = has_status_fault (declared_by copy) || nat_lt 1 (declared_by copy).luns && not (has_lun_operations copy)

-- the first fault of what a copy declares
unfoldable pub copy_fault : List ℕ → Option PageFault
copy_fault copy =
    if has_wide_bus copy then Some WideBus
    else (if not (has_address_cycles copy) then Some AddressCycles
    else (if has_size_fault (declared_by copy) then Some SizeOutOfRange
    else (if has_lun_fault (declared_by copy) then Some LunsOutOfRange
    else (if has_plane_fault (declared_by copy) then Some PlanesOutOfRange
    else (if has_several_fault copy then Some LunCommandsMissing
    else None)))))

-- the first fault of a parameter page
abbrev pub page_fault : List ℕ → Option PageFault
page_fault bytes =
    if nat_lt (length bytes) 256 then Some TooShort
    else (if not (list_any is_signed (whole_copies bytes)) then Some NoSignature
    else (if not (list_any is_good (whole_copies bytes)) then Some WrongChecksum
    else copy_fault (used bytes)))

-- the numbers, unless there is a fault
abbrev pub or_fault : Parts → Option PageFault → Result Parts PageFault
or_fault parts None = Ok parts
or_fault parts (Some fault) = Err fault

-- what a parameter page is read as for a profile: the numbers of the copy that is used, or else the first fault
abbrev pub read_as : Profile → List ℕ → Result Parts PageFault
read_as profile bytes = or_fault (declared_as profile (used bytes)) (page_fault bytes)

-- and for the base profile
abbrev pub read_of : List ℕ → Result Parts PageFault
read_of bytes = read_as Base bytes

-- a place of a copy that has a field which is read, but for signature and checksum
abbrev pub is_field : ℕ → Bool
is_field place = is_within 6 9 place || is_within 80 85 place || is_within 92 101 place || is_within 113 114 place

-- the law: copies with the same bytes in those places declare the same numbers and have the same fault
abbrev pub FieldsDecide : Type 0
FieldsDecide =
    (profile : Profile) (copy other : List ℕ) → ((place : ℕ) → is_field place ≡ true → slice_index copy place ≡ slice_index other place)
    → (declared_as profile copy ≡ declared_as profile other) × (copy_fault copy ≡ copy_fault other)

-- a whole copy that can't be used
pub record IsDamaged (copy : List ℕ) : Type 0 where
  pub whole : length copy ≡ 256
  pub not_good : is_good copy ≡ false

-- the law: the page of a geometry is read as that geometry, with what the profile keeps of its set, whatever comes behind it and whatever
-- damaged copies stand before it
abbrev pub PagesReadBack : Type 0
PagesReadBack =
    (profile : Profile) (g : Parts) (damaged : List (List ℕ)) (behind : List ℕ) → InLimits g → All IsDamaged damaged
    → read_as profile (concat damaged ++ (page g ++ behind)) ≡ Ok (as_read profile g)

-- the law: so are the three copies in the register of the parameter page
abbrev pub ParametersReadBack : Type 0
ParametersReadBack = (profile : Profile) (g : Parts) → InLimits g → read_as profile (parameter_bytes g) ≡ Ok (as_read profile g)
