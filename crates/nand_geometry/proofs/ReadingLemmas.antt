-- How a parameter page is read: the faults of a copy by the steps of the code, and the copies one after another.
use Rattle.std.proofs.Common.{◌≡◌, ℕ, suc, ◌+◌, ◌%◌, ◌==◌, slice_index, ◌/◌, ◌<◌, ◌≤◌, Bool, true, false, cond, not, ◌&&◌, ◌||◌, nat_lt, if◌then◌else◌, List, [], ◌∷◌, ◌++◌, length, find, Option, Some, None, unwrap_or, Result, Ok, Err, MatchResult, refl, sym, ap, ◌∙◌, arith, lt-ltb, length-append}
use Rattle.std.specs.List.{list_any}
use Rattle.std.proofs.lemmas.Bool.{le-ltb}
use Rattle.std.proofs.lemmas.List.{take_at, drop_at}
use Rattle.nand_geometry.specs.declared.parts.Parts.{Parts}
use Rattle.nand_geometry.specs.declared.page_fault.PageFault.{PageFault}
use Rattle.nand_geometry.specs.declared.page_fault.PageFault.TheVariants.{NoSignature, WrongChecksum, WideBus, AddressCycles, SizeOutOfRange, LunsOutOfRange, PlanesOutOfRange, LunCommandsMissing}
use Rattle.nand_geometry.specs.declared.optional.Profile.{Profile}
use Rattle.nand_geometry.specs.declared.optional.Profile.TheVariants.{Base, Onfi}
use Rattle.nand_geometry.specs.Optional.{no_optional, wide_with}
use Rattle.nand_geometry.specs.Limits.{has_size_fault, has_lun_fault, has_plane_fault, has_status_fault, fault_of}
use Rattle.nand_geometry.specs.Reading.{is_field, has_bit, u16_at, u32_at, FieldsDecide, whole_copies, is_signed, is_sound, is_good, optional_by, declared_by, declared_as, has_wide_bus, has_address_cycles, has_lun_operations, copy_fault, or_fault, read_as}

-- the first of two faults
abbrev or_else : Option PageFault → Option PageFault → Option PageFault
or_else None last = last
or_else (Some fault) last = Some fault

-- the faults of a copy as the code meets them: those of the numbers together
abbrev by_steps : Bool → Bool → Option PageFault → Bool → Option PageFault
by_steps wide cycles fault lacking = if wide then Some WideBus else (if not cycles then Some AddressCycles else or_else fault (if lacking then Some LunCommandsMissing else None))

steps_agree : (copy : List ℕ) → copy_fault copy ≡ by_steps (has_wide_bus copy) (has_address_cycles copy) (fault_of (declared_by copy)) (nat_lt 1 (declared_by copy).luns && not (has_lun_operations copy))
unfolding copy_fault
steps_agree copy =
    at (has_size_fault (declared_by copy)) (has_lun_fault (declared_by copy)) (has_plane_fault (declared_by copy)) (has_status_fault (declared_by copy)) (nat_lt 1 (declared_by copy).luns && not (has_lun_operations copy))
  where
    at : (size lun plane status lacking : Bool) →
        cond (has_wide_bus copy) (Some WideBus) (cond (not (has_address_cycles copy)) (Some AddressCycles) (cond size (Some SizeOutOfRange) (cond lun (Some LunsOutOfRange) (cond plane (Some PlanesOutOfRange) (cond (status || lacking) (Some LunCommandsMissing) None)))))
        ≡ by_steps (has_wide_bus copy) (has_address_cycles copy) (cond size (Some SizeOutOfRange) (cond lun (Some LunsOutOfRange) (cond plane (Some PlanesOutOfRange) (cond status (Some LunCommandsMissing) None)))) lacking
    at true lun plane status lacking = refl
    at false true plane status lacking = refl
    at false false true status lacking = refl
    at false false false true lacking = refl
    at false false false false lacking = refl

pub wide_fault : (copy : List ℕ) → has_wide_bus copy ≡ true → copy_fault copy ≡ Some WideBus
wide_fault copy wide = steps_agree copy ∙ rw wide refl

pub cycles_fault : (copy : List ℕ) → has_wide_bus copy ≡ false → has_address_cycles copy ≡ false → copy_fault copy ≡ Some AddressCycles
cycles_fault copy wide cycles = steps_agree copy ∙ rw (wide, cycles) refl

-- what a profile reads beside the numbers is no fault
pub fault_as : (profile : Profile) (copy : List ℕ) → fault_of (declared_as profile copy) ≡ fault_of (declared_by copy)
fault_as Base copy = refl
fault_as Onfi copy = refl

pub luns_as : (profile : Profile) (copy : List ℕ) → (declared_as profile copy).luns ≡ (declared_by copy).luns
luns_as Base copy = refl
luns_as Onfi copy = refl

pub numbers_fault : (profile : Profile) (copy : List ℕ) (fault : PageFault) → has_wide_bus copy ≡ false → has_address_cycles copy ≡ true → fault_of (declared_as profile copy) ≡ Some fault → copy_fault copy ≡ Some fault
numbers_fault profile copy fault wide cycles numbers =
    let same : fault_of (declared_by copy) ≡ Some fault = sym (fault_as profile copy) ∙ numbers in
    steps_agree copy ∙ rw (wide, cycles, same) refl

pub several_fault : (profile : Profile) (copy : List ℕ) → has_wide_bus copy ≡ false → has_address_cycles copy ≡ true → fault_of (declared_as profile copy) ≡ None → 1 < (declared_as profile copy).luns → has_lun_operations copy ≡ false → copy_fault copy ≡ Some LunCommandsMissing
several_fault profile copy wide cycles numbers several lacking =
    let same : fault_of (declared_by copy) ≡ None = sym (fault_as profile copy) ∙ numbers in
    let luns : nat_lt 1 (declared_by copy).luns ≡ true = ap (nat_lt 1) (sym (luns_as profile copy)) ∙ lt-ltb 1 (declared_as profile copy).luns several in
    steps_agree copy ∙ rw (wide, cycles, same, luns, lacking) refl

pub no_copy_fault : (profile : Profile) (copy : List ℕ) → has_wide_bus copy ≡ false → has_address_cycles copy ≡ true → fault_of (declared_as profile copy) ≡ None → (nat_lt 1 (declared_as profile copy).luns && not (has_lun_operations copy)) ≡ false → copy_fault copy ≡ None
no_copy_fault profile copy wide cycles numbers enough =
    let same : fault_of (declared_by copy) ≡ None = sym (fault_as profile copy) ∙ numbers in
    let few : (nat_lt 1 (declared_by copy).luns && not (has_lun_operations copy)) ≡ false = ap (λ (n : ℕ). nat_lt 1 n && not (has_lun_operations copy)) (sym (luns_as profile copy)) ∙ enough in
    steps_agree copy ∙ rw (wide, cycles, same, few) refl

-- what a copy is read as
abbrev pub read_copy : Profile → List ℕ → Result Parts PageFault
read_copy profile copy = or_fault (declared_as profile copy) (copy_fault copy)

-- the copies looked at in order, where some before them were signed, or none
abbrev pub scan : Profile → Bool → List (List ℕ) → Result Parts PageFault
scan profile signed [] = Err (if signed then WrongChecksum else NoSignature)
scan profile signed (copy ∷ rest) = if is_signed copy then (if is_sound copy then read_copy profile copy else scan profile true rest) else scan profile signed rest

-- the whole copies behind a first one
pub copies_of_append : (copy rest : List ℕ) → length copy ≡ 256 → whole_copies (copy ++ rest) ≡ copy ∷ whole_copies rest
copies_of_append copy rest h =
    let count : length (copy ++ rest) / 256 ≡ suc (length rest / 256) = omega (arith, length-append copy rest) in
    rw count (rw (take_at copy rest 256 h, drop_at copy rest 256 h) refl)

-- the faults of the copies, and then what the good one is read as
abbrev answer : Profile → Bool → Bool → Option (List ℕ) → Result Parts PageFault
answer profile signed good found = or_fault (declared_as profile (unwrap_or found [])) (if not signed then Some NoSignature else (if not good then Some WrongChecksum else copy_fault (unwrap_or found [])))

scan_agrees : (profile : Profile) (signed : Bool) (copies : List (List ℕ)) → scan profile signed copies ≡ answer profile (signed || list_any is_signed copies) (list_any is_good copies) (find is_good copies)
scan_agrees profile true [] = refl
scan_agrees profile false [] = refl
scan_agrees profile signed (copy ∷ rest) = at (is_signed copy) (is_sound copy) signed (scan_agrees profile true rest) (scan_agrees profile signed rest)
  where
    at : (s k before : Bool)
        → scan profile true rest ≡ answer profile true (list_any is_good rest) (find is_good rest)
        → scan profile before rest ≡ answer profile (before || list_any is_signed rest) (list_any is_good rest) (find is_good rest)
        → cond s (cond k (read_copy profile copy) (scan profile true rest)) (scan profile before rest)
        ≡ answer profile (before || (s || list_any is_signed rest)) (s && k || list_any is_good rest) (cond (s && k) (Some copy) (find is_good rest))
    at true true true ih other = refl
    at true true false ih other = refl
    at true false true ih other = ih
    at true false false ih other = ih
    at false k before ih other = other

-- a page that is long enough is read as its copies in order
pub scan_reads : (profile : Profile) (bytes : List ℕ) → 256 ≤ length bytes → scan profile false (whole_copies bytes) ≡ read_as profile bytes
scan_reads profile bytes long =
    let enough : nat_lt (length bytes) 256 ≡ false = le-ltb (length bytes) 256 long in
    scan_agrees profile false (whole_copies bytes) ∙ rw enough refl

-- the copies that are left begin with one, and are read as all of them
pub record Continues (profile : Profile) (signed : Bool) (bytes copy rest : List ℕ) (all : Result Parts PageFault) : Type 0 where
  pub same : scan profile signed (whole_copies bytes) ≡ all
  pub begins : bytes ≡ copy ++ rest
  pub whole : length copy ≡ 256

one_on : {profile : Profile} {signed : Bool} {bytes copy rest : List ℕ} {all : Result Parts PageFault} → Continues profile signed bytes copy rest all
    → (if is_signed copy then (if is_sound copy then read_copy profile copy else scan profile true (whole_copies rest)) else scan profile signed (whole_copies rest)) ≡ all
one_on {profile = profile} {signed = signed} {copy = copy} {rest = rest} on =
    sym (ap (λ b. scan profile signed (whole_copies b)) on.begins ∙ ap (scan profile signed) (copies_of_append copy rest on.whole)) ∙ on.same

-- a copy without the signature changes nothing
pub past_unsigned : {profile : Profile} {signed : Bool} {bytes copy rest : List ℕ} {all : Result Parts PageFault} → Continues profile signed bytes copy rest all
    → is_signed copy ≡ false → scan profile signed (whole_copies rest) ≡ all
past_unsigned {copy = copy} on h = rw h at (one_on on)

-- a signed copy with another checksum is kept in mind
pub past_unsound : {profile : Profile} {signed : Bool} {bytes copy rest : List ℕ} {all : Result Parts PageFault} → Continues profile signed bytes copy rest all
    → is_signed copy ≡ true → is_sound copy ≡ false → scan profile true (whole_copies rest) ≡ all
past_unsound {copy = copy} on h k = rw (h, k) at (one_on on)

-- a good copy is what is read
pub at_good : {profile : Profile} {signed : Bool} {bytes copy rest : List ℕ} {all : Result Parts PageFault} → Continues profile signed bytes copy rest all
    → is_signed copy ≡ true → is_sound copy ≡ true → read_copy profile copy ≡ all
at_good {copy = copy} on h k = rw (h, k) at (one_on on)

-- no copy is left
pub at_end : (profile : Profile) (signed : Bool) (bytes : List ℕ) (all : Result Parts PageFault) → scan profile signed (whole_copies bytes) ≡ all → length bytes < 256
    → all ≡ Err (if signed then WrongChecksum else NoSignature)
at_end profile signed bytes all same h =
    let count : length bytes / 256 ≡ 0 = omega arith in
    sym same ∙ rw count refl

-- a result that a copy gives is that of the page, where the page is read as the copy
pub given : (profile : Profile) (result : Result Parts PageFault) (copy : List ℕ) (all : Result Parts PageFault) → read_copy profile copy ≡ all
    → MatchResult result (λ g. (copy_fault copy ≡ None) × (g ≡ declared_as profile copy)) (λ e. copy_fault copy ≡ Some e)
    → MatchResult result (λ g. all ≡ Ok g) (λ e. all ≡ Err e)
given profile (Ok g) copy all same h = sym same ∙ rw (h.0, h.1) refl
given profile (Err e) copy all same h = sym same ∙ rw h refl

-- the numbers that a copy declares, from its bytes in those places
same_numbers : (copy other : List ℕ) → ((place : ℕ) → is_field place ≡ true → slice_index copy place ≡ slice_index other place) → declared_by copy ≡ declared_by other
unfolding declared_by
same_numbers copy other same =
    let features : slice_index copy 6 ≡ slice_index other 6 = same 6 refl in
    let commands : slice_index copy 8 ≡ slice_index other 8 = same 8 refl in
    let page_bytes : u32_at copy 80 ≡ u32_at other 80 = same_u32 80 (same 80 refl) (same 81 refl) (same 82 refl) (same 83 refl) in
    let spare_bytes : u16_at copy 84 ≡ u16_at other 84 = same_u16 84 (same 84 refl) (same 85 refl) in
    let pages : u32_at copy 92 ≡ u32_at other 92 = same_u32 92 (same 92 refl) (same 93 refl) (same 94 refl) (same 95 refl) in
    let blocks : u32_at copy 96 ≡ u32_at other 96 = same_u32 96 (same 96 refl) (same 97 refl) (same 98 refl) (same 99 refl) in
    let luns : slice_index copy 100 ≡ slice_index other 100 = same 100 refl in
    let plane_bits : slice_index copy 113 ≡ slice_index other 113 = same 113 refl in
    λ i. record {
      page_bytes = page_bytes i;
      spare_bytes = spare_bytes i;
      pages = pages i;
      blocks = blocks i;
      luns = luns i;
      plane_bits = plane_bits i % 16;
      enhanced = has_bit (commands i) 3;
      multi_plane = has_bit (features i) 3;
      cache = has_bit (commands i) 1;
      optional = no_optional;
    }
  where
    same_u16 : (place : ℕ) → slice_index copy place ≡ slice_index other place → slice_index copy (place + 1) ≡ slice_index other (place + 1) → u16_at copy place ≡ u16_at other place
    same_u16 place a b = omega (arith, a, b)

    same_u32 : (place : ℕ) → slice_index copy place ≡ slice_index other place → slice_index copy (place + 1) ≡ slice_index other (place + 1) → slice_index copy (place + 2) ≡ slice_index other (place + 2) → slice_index copy (place + 2 + 1) ≡ slice_index other (place + 2 + 1) → u32_at copy place ≡ u32_at other place
    same_u32 place a b c d = omega (arith, a, b, c, d)

-- and so its fault
same_faults : (copy other : List ℕ) → declared_by copy ≡ declared_by other → slice_index copy 6 ≡ slice_index other 6 → slice_index copy 101 ≡ slice_index other 101 → copy_fault copy ≡ copy_fault other
unfolding copy_fault
same_faults copy other numbers features cycles = λ i. fault_at (numbers i) (features i) (cycles i)
  where
    fault_at : Parts → ℕ → ℕ → Option PageFault
    fault_at parts features cycles =
        if has_bit features 0 then Some WideBus
        else (if not (cycles == 0x23) then Some AddressCycles
        else (if has_size_fault parts then Some SizeOutOfRange
        else (if has_lun_fault parts then Some LunsOutOfRange
        else (if has_plane_fault parts then Some PlanesOutOfRange
        else (if has_status_fault parts || nat_lt 1 parts.luns && not (has_bit features 1) then Some LunCommandsMissing
        else None)))))

-- and what it declares beyond the base profile
same_optional : (copy other : List ℕ) → ((place : ℕ) → is_field place ≡ true → slice_index copy place ≡ slice_index other place) → optional_by copy ≡ optional_by other
unfolding optional_by
same_optional copy other same =
    let features : slice_index copy 6 ≡ slice_index other 6 = same 6 refl in
    let more_features : slice_index copy 7 ≡ slice_index other 7 = same 7 refl in
    let commands : slice_index copy 8 ≡ slice_index other 8 = same 8 refl in
    let more_commands : slice_index copy 9 ≡ slice_index other 9 = same 9 refl in
    let planes : slice_index copy 114 ≡ slice_index other 114 = same 114 refl in
    λ i. wide_with (has_bit (commands i) 0) (has_bit (commands i) 2) (has_bit (commands i) 4) (has_bit (commands i) 5) (has_bit (commands i) 6) (has_bit (more_commands i) 1)
    (has_bit (features i) 6) (has_bit (features i) 5 || (has_bit (more_features i) 2 || has_bit (more_features i) 5)) (has_bit (planes i) 1) (has_bit (features i) 4) (has_bit (planes i) 2)

same_declared : (profile : Profile) (copy other : List ℕ) → declared_by copy ≡ declared_by other → optional_by copy ≡ optional_by other → declared_as profile copy ≡ declared_as profile other
same_declared Base copy other numbers optional = numbers
same_declared Onfi copy other numbers optional = λ i. record (numbers i) { optional = optional i }

pub fields_decide : FieldsDecide
fields_decide profile copy other same =
    let numbers = same_numbers copy other same in
    (same_declared profile copy other numbers (same_optional copy other same), same_faults copy other numbers (same 6 refl) (same 101 refl))

-- a copy whose numbers have no fault has none where it declares what several LUNs need, or one LUN alone
pub no_fault_with_operations : (profile : Profile) (copy : List ℕ) → has_wide_bus copy ≡ false → has_address_cycles copy ≡ true → fault_of (declared_as profile copy) ≡ None → has_lun_operations copy ≡ true → copy_fault copy ≡ None
no_fault_with_operations profile copy wide cycles numbers operations =
    no_copy_fault profile copy wide cycles numbers (at (nat_lt 1 (declared_as profile copy).luns) (has_lun_operations copy) operations)
  where
    at : (several declared : Bool) → declared ≡ true → (several && not declared) ≡ false
    at true true h = refl
    at true false h = absurd cc
    at false declared h = refl

pub no_fault_of_one_lun : (profile : Profile) (copy : List ℕ) → has_wide_bus copy ≡ false → has_address_cycles copy ≡ true → fault_of (declared_as profile copy) ≡ None → (declared_as profile copy).luns ≤ 1 → copy_fault copy ≡ None
no_fault_of_one_lun profile copy wide cycles numbers one =
    let few : nat_lt 1 (declared_as profile copy).luns ≡ false = le-ltb 1 (declared_as profile copy).luns one in
    no_copy_fault profile copy wide cycles numbers (rw few refl)
