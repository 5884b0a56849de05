-- The page of a geometry is signed and sound, declares the geometry and has no fault; copies before it that aren't good are passed.
use Rattle.std.proofs.Common.{◌≡◌, ℕ, ◌+◌, ◌*◌, ◌/◌, ◌%◌, ◌^◌, ◌<◌, ◌≤◌, Bool, true, false, not, cond, ◌&&◌, ◌||◌, nat_lt, List, [], ◌∷◌, ◌++◌, All, length, None, Ok, refl, sym, ap, ◌∙◌, arith, eq-eqb, append_assoc, length-append, subst, ◌==◌}
use Rattle.std.specs.List.{concat}
use Rattle.std.proofs.lemmas.List.Elements.{All-head, All-tail, All-nil}
use Rattle.nand_geometry.specs.declared.parts.Parts.{Parts}
use Rattle.nand_geometry.specs.Limits.{fault_of, InLimits}
use Rattle.nand_geometry.specs.declared.optional.Profile.{Profile}
use Rattle.nand_geometry.specs.declared.optional.Profile.TheVariants.{Base, Onfi}
use Rattle.nand_geometry.specs.Flag.{flag}
use Rattle.nand_geometry.specs.Optional.{no_optional, has_features, has_copyback, has_unique_id, has_enhanced_column, has_lun_reset, has_plane_reads, has_synchronous_reset, has_free_blocks, has_odd_even, has_program_cache, has_group_cache, wide_with, kept_optional, as_read}
use Rattle.nand_geometry.specs.Page.{features, plane_operations, page_body, crc, page, parameter_bytes}
use Rattle.nand_geometry.specs.Reading.{whole_copies, has_bit, is_signed, is_sound, optional_by, declared_by, declared_as, has_lun_operations, copy_fault, IsDamaged, PagesReadBack, ParametersReadBack}
use Rattle.nand_geometry.proofs.ChecksumLemmas.{crc_fits}
use Rattle.nand_geometry.proofs.LimitLemmas.{faultless}
use Rattle.nand_geometry.proofs.ReadingLemmas.{scan, read_copy, copies_of_append, no_copy_fault, scan_reads}

-- a number of two parts: bits 0 to 3 of one are its own, and the bits of the other stand from bit 4 on
abbrev number_of : (low high : ℕ) → ℕ
number_of low high = low + 16 * high

record LowRead (base one two three : Bool) (low : ℕ) : Type 0 where
  small : low < 16
  bit_0 : has_bit low 0 ≡ base
  bit_1 : has_bit low 1 ≡ one
  bit_2 : has_bit low 2 ≡ two
  bit_3 : has_bit low 3 ≡ three

low_read : (base one two three : Bool) → LowRead base one two three (flag 0 base + flag 1 one + flag 2 two + flag 3 three)
low_read true true true true = record { small = omega arith; bit_0 = refl; bit_1 = refl; bit_2 = refl; bit_3 = refl }
low_read true true true false = record { small = omega arith; bit_0 = refl; bit_1 = refl; bit_2 = refl; bit_3 = refl }
low_read true true false true = record { small = omega arith; bit_0 = refl; bit_1 = refl; bit_2 = refl; bit_3 = refl }
low_read true true false false = record { small = omega arith; bit_0 = refl; bit_1 = refl; bit_2 = refl; bit_3 = refl }
low_read true false true true = record { small = omega arith; bit_0 = refl; bit_1 = refl; bit_2 = refl; bit_3 = refl }
low_read true false true false = record { small = omega arith; bit_0 = refl; bit_1 = refl; bit_2 = refl; bit_3 = refl }
low_read true false false true = record { small = omega arith; bit_0 = refl; bit_1 = refl; bit_2 = refl; bit_3 = refl }
low_read true false false false = record { small = omega arith; bit_0 = refl; bit_1 = refl; bit_2 = refl; bit_3 = refl }
low_read false true true true = record { small = omega arith; bit_0 = refl; bit_1 = refl; bit_2 = refl; bit_3 = refl }
low_read false true true false = record { small = omega arith; bit_0 = refl; bit_1 = refl; bit_2 = refl; bit_3 = refl }
low_read false true false true = record { small = omega arith; bit_0 = refl; bit_1 = refl; bit_2 = refl; bit_3 = refl }
low_read false true false false = record { small = omega arith; bit_0 = refl; bit_1 = refl; bit_2 = refl; bit_3 = refl }
low_read false false true true = record { small = omega arith; bit_0 = refl; bit_1 = refl; bit_2 = refl; bit_3 = refl }
low_read false false true false = record { small = omega arith; bit_0 = refl; bit_1 = refl; bit_2 = refl; bit_3 = refl }
low_read false false false true = record { small = omega arith; bit_0 = refl; bit_1 = refl; bit_2 = refl; bit_3 = refl }
low_read false false false false = record { small = omega arith; bit_0 = refl; bit_1 = refl; bit_2 = refl; bit_3 = refl }

record HighRead (four five six nine : Bool) (high : ℕ) : Type 0 where
  bit_4 : has_bit high 0 ≡ four
  bit_5 : has_bit high 1 ≡ five
  bit_6 : has_bit high 2 ≡ six
  bit_9 : has_bit high 5 ≡ nine
  bit_10 : has_bit high 6 ≡ false
  bit_13 : has_bit high 9 ≡ false

high_read : (four five six nine : Bool) → HighRead four five six nine (flag 0 four + flag 1 five + flag 2 six + flag 5 nine)
high_read true true true true = record { bit_4 = refl; bit_5 = refl; bit_6 = refl; bit_9 = refl; bit_10 = refl; bit_13 = refl }
high_read true true true false = record { bit_4 = refl; bit_5 = refl; bit_6 = refl; bit_9 = refl; bit_10 = refl; bit_13 = refl }
high_read true true false true = record { bit_4 = refl; bit_5 = refl; bit_6 = refl; bit_9 = refl; bit_10 = refl; bit_13 = refl }
high_read true true false false = record { bit_4 = refl; bit_5 = refl; bit_6 = refl; bit_9 = refl; bit_10 = refl; bit_13 = refl }
high_read true false true true = record { bit_4 = refl; bit_5 = refl; bit_6 = refl; bit_9 = refl; bit_10 = refl; bit_13 = refl }
high_read true false true false = record { bit_4 = refl; bit_5 = refl; bit_6 = refl; bit_9 = refl; bit_10 = refl; bit_13 = refl }
high_read true false false true = record { bit_4 = refl; bit_5 = refl; bit_6 = refl; bit_9 = refl; bit_10 = refl; bit_13 = refl }
high_read true false false false = record { bit_4 = refl; bit_5 = refl; bit_6 = refl; bit_9 = refl; bit_10 = refl; bit_13 = refl }
high_read false true true true = record { bit_4 = refl; bit_5 = refl; bit_6 = refl; bit_9 = refl; bit_10 = refl; bit_13 = refl }
high_read false true true false = record { bit_4 = refl; bit_5 = refl; bit_6 = refl; bit_9 = refl; bit_10 = refl; bit_13 = refl }
high_read false true false true = record { bit_4 = refl; bit_5 = refl; bit_6 = refl; bit_9 = refl; bit_10 = refl; bit_13 = refl }
high_read false true false false = record { bit_4 = refl; bit_5 = refl; bit_6 = refl; bit_9 = refl; bit_10 = refl; bit_13 = refl }
high_read false false true true = record { bit_4 = refl; bit_5 = refl; bit_6 = refl; bit_9 = refl; bit_10 = refl; bit_13 = refl }
high_read false false true false = record { bit_4 = refl; bit_5 = refl; bit_6 = refl; bit_9 = refl; bit_10 = refl; bit_13 = refl }
high_read false false false true = record { bit_4 = refl; bit_5 = refl; bit_6 = refl; bit_9 = refl; bit_10 = refl; bit_13 = refl }
high_read false false false false = record { bit_4 = refl; bit_5 = refl; bit_6 = refl; bit_9 = refl; bit_10 = refl; bit_13 = refl }

-- a bit that is the same of two numbers
same_bit : (m n : ℕ) (is : Bool) → m ≡ n → (n == 1) ≡ is → (m == 1) ≡ is
same_bit m n is same of = ap (λ (k : ℕ). k == 1) same ∙ of

-- the bits of both bytes of such a number, read again
record BothRead (base one two three four five six nine : Bool) (number : ℕ) : Type 0 where
  bit_0 : has_bit (number % 256) 0 ≡ base
  bit_1 : has_bit (number % 256) 1 ≡ one
  bit_2 : has_bit (number % 256) 2 ≡ two
  bit_3 : has_bit (number % 256) 3 ≡ three
  bit_4 : has_bit (number % 256) 4 ≡ four
  bit_5 : has_bit (number % 256) 5 ≡ five
  bit_6 : has_bit (number % 256) 6 ≡ six
  bit_9 : has_bit (number / 256 % 256) 1 ≡ nine
  bit_10 : has_bit (number / 256 % 256) 2 ≡ false
  bit_13 : has_bit (number / 256 % 256) 5 ≡ false

both_read : {base one two three four five six nine : Bool} (low high : ℕ) → LowRead base one two three low → HighRead four five six nine high
    → BothRead base one two three four five six nine (number_of low high)
both_read {base} {one} {two} {three} {four} {five} {six} {nine} low high l h =
    let small = l.small in
    record {
      bit_0 = same_bit _ (low / 2 ^ 0 % 2) base (omega (arith, small)) l.bit_0;
      bit_1 = same_bit _ (low / 2 ^ 1 % 2) one (omega (arith, small)) l.bit_1;
      bit_2 = same_bit _ (low / 2 ^ 2 % 2) two (omega (arith, small)) l.bit_2;
      bit_3 = same_bit _ (low / 2 ^ 3 % 2) three (omega (arith, small)) l.bit_3;
      bit_4 = same_bit _ (high / 2 ^ 0 % 2) four (omega (arith, small)) h.bit_4;
      bit_5 = same_bit _ (high / 2 ^ 1 % 2) five (omega (arith, small)) h.bit_5;
      bit_6 = same_bit _ (high / 2 ^ 2 % 2) six (omega (arith, small)) h.bit_6;
      bit_9 = same_bit _ (high / 2 ^ 5 % 2) nine (omega (arith, small)) h.bit_9;
      bit_10 = same_bit _ (high / 2 ^ 6 % 2) false (omega (arith, small)) h.bit_10;
      bit_13 = same_bit _ (high / 2 ^ 9 % 2) false (omega (arith, small)) h.bit_13;
    }

abbrev flags_of : (base one two three four five six nine : Bool) → ℕ
flags_of base one two three four five six nine = number_of (flag 0 base + flag 1 one + flag 2 two + flag 3 three) (flag 0 four + flag 1 five + flag 2 six + flag 5 nine)

flags_read : (base one two three four five six nine : Bool) → BothRead base one two three four five six nine (flags_of base one two three four five six nine)
flags_read base one two three four five six nine =
    both_read (flag 0 base + flag 1 one + flag 2 two + flag 3 three) (flag 0 four + flag 1 five + flag 2 six + flag 5 nine) (low_read base one two three) (high_read four five six nine)

-- a flag sixteen times as high
raised_4 : (b : Bool) → 16 * flag 0 b ≡ flag 4 b
raised_4 true = refl
raised_4 false = refl

raised_5 : (b : Bool) → 16 * flag 1 b ≡ flag 5 b
raised_5 true = refl
raised_5 false = refl

raised_6 : (b : Bool) → 16 * flag 2 b ≡ flag 6 b
raised_6 true = refl
raised_6 false = refl

raised_9 : (b : Bool) → 16 * flag 5 b ≡ flag 9 b
raised_9 true = refl
raised_9 false = refl

features_number : (several planes odd rate reads : Bool) → flags_of false several false planes odd rate reads false ≡ flag 1 several + flag 3 planes + flag 4 odd + flag 5 rate + flag 6 reads
features_number several planes odd rate reads = omega (arith, raised_4 odd, raised_5 rate, raised_6 reads)

commands_number : (programs cache setting enhanced copyback unique column reset : Bool)
    → flags_of programs cache setting enhanced copyback unique column reset ≡ flag 0 programs + flag 1 cache + flag 2 setting + flag 3 enhanced + flag 4 copyback + flag 5 unique + flag 6 column + flag 9 reset
commands_number programs cache setting enhanced copyback unique column reset = omega (arith, raised_4 copyback, raised_5 unique, raised_6 column, raised_9 reset)

-- the bits of the features, and those of the optional commands
features_read : (several planes odd rate reads : Bool) → BothRead false several false planes odd rate reads false (flag 1 several + flag 3 planes + flag 4 odd + flag 5 rate + flag 6 reads)
features_read several planes odd rate reads =
    subst (BothRead false several false planes odd rate reads false) (features_number several planes odd rate reads) (flags_read false several false planes odd rate reads false)

commands_read : (programs cache setting enhanced copyback unique column reset : Bool)
    → BothRead programs cache setting enhanced copyback unique column reset (flag 0 programs + flag 1 cache + flag 2 setting + flag 3 enhanced + flag 4 copyback + flag 5 unique + flag 6 column + flag 9 reset)
commands_read programs cache setting enhanced copyback unique column reset =
    subst (BothRead programs cache setting enhanced copyback unique column reset) (commands_number programs cache setting enhanced copyback unique column reset) (flags_read programs cache setting enhanced copyback unique column reset)

-- an interface of double data rate is declared by one of three bits
double_rate_read : (rate : Bool) (number : ℕ) → has_bit (number % 256) 5 ≡ rate → has_bit (number / 256 % 256) 2 ≡ false → has_bit (number / 256 % 256) 5 ≡ false
    → (has_bit (number % 256) 5 || (has_bit (number / 256 % 256) 2 || has_bit (number / 256 % 256) 5)) ≡ rate
double_rate_read true number five ten thirteen = rw five refl
double_rate_read false number five ten thirteen = rw (five, ten, thirteen) refl

record PlanesRead (free group : Bool) (number : ℕ) : Type 0 where
  bit_1 : has_bit number 1 ≡ free
  bit_2 : has_bit number 2 ≡ group

planes_read : (free group : Bool) → PlanesRead free group (flag 1 free + flag 2 group)
planes_read true true = record { bit_1 = refl; bit_2 = refl }
planes_read true false = record { bit_1 = refl; bit_2 = refl }
planes_read false true = record { bit_1 = refl; bit_2 = refl }
planes_read false false = record { bit_1 = refl; bit_2 = refl }

-- a number in its bytes, read again
two_bytes : (n : ℕ) → n < 65536 → n % 256 + 256 * (n / 256 % 256) ≡ n
two_bytes n h = omega arith

four_bytes : (n : ℕ) → n < 2 ^ 32 → n % 256 + 256 * (n / 256 % 256) + 65536 * (n / 256 / 256 % 256 + 256 * (n / 256 / 256 / 256 % 256)) ≡ n
four_bytes n h = omega arith

length_page : (g : Parts) → length (page g) ≡ 256
length_page g = refl

page_signed : (g : Parts) → is_signed (page g) ≡ true
unfolding is_signed
page_signed g = refl

page_sound : (g : Parts) → is_sound (page g) ≡ true
unfolding is_sound
page_sound g = eq-eqb _ _ (two_bytes (crc (page_body g)) (crc_fits (page_body g)))

page_optional : (g : Parts) → optional_by (page g) ≡ kept_optional Onfi g.optional
unfolding optional_by plane_operations
page_optional g =
    let o = g.optional in
    let f = features_read (nat_lt 1 g.luns) g.multi_plane (has_odd_even o) (has_synchronous_reset o) (has_plane_reads o) in
    let k = commands_read (has_program_cache o) g.cache (has_features o) g.enhanced (has_copyback o) (has_unique_id o) (has_enhanced_column o) (has_lun_reset o) in
    let set_features = k.bit_2 in
    let copyback = k.bit_4 in
    let unique_id = k.bit_5 in
    let enhanced_column = k.bit_6 in
    let lun_reset = k.bit_9 in
    let odd_even = f.bit_4 in
    let plane_reads = f.bit_6 in
    let double_rate = double_rate_read (has_synchronous_reset o) (features g) f.bit_5 f.bit_10 f.bit_13 in
    let p = planes_read (has_free_blocks o) (has_group_cache o) in
    let free_blocks = p.bit_1 in
    let group_cache = p.bit_2 in
    let program_cache = k.bit_0 in
    λ i. wide_with (program_cache i) (set_features i) (copyback i) (unique_id i) (enhanced_column i) (lun_reset i) (plane_reads i) (double_rate i) (free_blocks i) (odd_even i) (group_cache i)

page_numbers : (g : Parts) → InLimits g → declared_by (page g) ≡ as_read Base g
unfolding declared_by
page_numbers g limits =
    let o = g.optional in
    let f = features_read (nat_lt 1 g.luns) g.multi_plane (has_odd_even o) (has_synchronous_reset o) (has_plane_reads o) in
    let k = commands_read (has_program_cache o) g.cache (has_features o) g.enhanced (has_copyback o) (has_unique_id o) (has_enhanced_column o) (has_lun_reset o) in
    let page_bytes = four_bytes g.page_bytes (omega (arith, limits.page_bytes_most)) in
    let spare_bytes = two_bytes g.spare_bytes (omega (arith, limits.spare_bytes_most)) in
    let pages = four_bytes g.pages (omega (arith, limits.pages_most)) in
    let blocks = four_bytes g.blocks (omega (arith, limits.blocks_most)) in
    let plane_bits : g.plane_bits % 16 ≡ g.plane_bits = omega (arith, limits.plane_bits_most) in
    let enhanced = k.bit_3 in
    let multi_plane = f.bit_3 in
    let cache = k.bit_1 in
    λ i. record {
      page_bytes = page_bytes i;
      spare_bytes = spare_bytes i;
      pages = pages i;
      blocks = blocks i;
      luns = g.luns;
      plane_bits = plane_bits i;
      enhanced = enhanced i;
      multi_plane = multi_plane i;
      cache = cache i;
      optional = no_optional;
    }

page_declares : (profile : Profile) (g : Parts) → InLimits g → declared_as profile (page g) ≡ as_read profile g
page_declares Base g limits = page_numbers g limits
page_declares Onfi g limits =
    let numbers = page_numbers g limits in
    let optional = page_optional g in
    λ i. record (numbers i) { optional = optional i }

-- several LUNs are declared together with the operations that they need
several_declared : (several : Bool) (operations : Bool) → operations ≡ several → (several && not operations) ≡ false
several_declared true operations h = rw h refl
several_declared false operations h = refl

page_faultless : (g : Parts) → InLimits g → copy_fault (page g) ≡ None
page_faultless g limits =
    let declares = page_numbers g limits in
    let f = features_read (nat_lt 1 g.luns) g.multi_plane (has_odd_even g.optional) (has_synchronous_reset g.optional) (has_plane_reads g.optional) in
    let operations : has_lun_operations (page g) ≡ nat_lt 1 (declared_by (page g)).luns = f.bit_1 ∙ ap (λ (p : Parts). nat_lt 1 p.luns) (sym declares) in
    no_copy_fault Base (page g) f.bit_0 refl (ap fault_of declares ∙ (faultless g).1 limits) (several_declared _ _ operations)

-- the page of a geometry is read as the geometry, with what the profile keeps
page_read : (profile : Profile) (g : Parts) → InLimits g → read_copy profile (page g) ≡ Ok (as_read profile g)
page_read profile g limits = rw (page_faultless g limits, page_declares profile g limits) refl

-- copies that aren't good are passed
scan_past : (profile : Profile) (signed : Bool) (damaged : List (List ℕ)) (copy rest : List ℕ) → All IsDamaged damaged → length copy ≡ 256 → is_signed copy ≡ true → is_sound copy ≡ true
    → scan profile signed (whole_copies (concat damaged ++ (copy ++ rest))) ≡ read_copy profile copy
scan_past profile signed [] copy rest all whole good sound = ap (scan profile signed) (copies_of_append copy rest whole) ∙ rw (good, sound) refl
scan_past profile signed (first ∷ others) copy rest all whole good sound =
    let damage : IsDamaged first = All-head IsDamaged first others all in
    let after : All IsDamaged others = All-tail IsDamaged first others all in
    ap (λ (bytes : List ℕ). scan profile signed (whole_copies bytes)) (append_assoc first (concat others) (copy ++ rest))
    ∙ ap (scan profile signed) (copies_of_append first (concat others ++ (copy ++ rest)) damage.whole)
    ∙ at (is_signed first) (is_sound first) damage.not_good (scan_past profile true others copy rest after whole good sound) (scan_past profile signed others copy rest after whole good sound)
  where
    at : (s k : Bool) → (s && k) ≡ false
        → scan profile true (whole_copies (concat others ++ (copy ++ rest))) ≡ read_copy profile copy
        → scan profile signed (whole_copies (concat others ++ (copy ++ rest))) ≡ read_copy profile copy
        → cond s (cond k (read_copy profile first) (scan profile true (whole_copies (concat others ++ (copy ++ rest))))) (scan profile signed (whole_copies (concat others ++ (copy ++ rest)))) ≡ read_copy profile copy
    at true true h ih other = cc
    at true false h ih other = ih
    at false k h ih other = other

-- with damaged copies before it and anything behind it
pub pages_read_back : PagesReadBack
pages_read_back profile g damaged behind limits all =
    let long : 256 ≤ length (concat damaged ++ (page g ++ behind)) = omega (arith, length-append (concat damaged) (page g ++ behind), length-append (page g) behind, length_page g) in
    sym (scan_reads profile (concat damaged ++ (page g ++ behind)) long)
    ∙ scan_past profile false damaged (page g) behind all (length_page g) (page_signed g) (page_sound g)
    ∙ page_read profile g limits

-- three copies
pub parameters_read_back : ParametersReadBack
unfolding parameter_bytes
parameters_read_back profile g limits = pages_read_back profile g [] (page g ++ page g) limits (All-nil IsDamaged)
