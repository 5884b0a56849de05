-- Openers with addresses, and the tests of one place of the tail, with their values as variables.
use Rattle.std.proofs.lemmas.Bool.Decides.{nat_tests}
use Rattle.std.proofs.Common.{◌≡◌, ℕ, ◌+◌, ◌-◌, ◌≤◌, ◌<◌, ◌==◌, Bool, true, false, ◌&&◌, ◌||◌, cond, not, ltb, nat_le, refl, arith}
use Rattle.onfi_cycle.specs.declared.command.Command.{Command}
use Rattle.onfi_cycle.specs.declared.command.Command.TheVariants.{Read, ChangeReadColumn, ChangeReadColumnEnhanced, BlockErase, PageProgram, ReadId, ReadParameterPage, ResetLun, ChangeWriteColumn}
use Rattle.onfi_cycle.specs.Command.{at_last_row, address_cycles, addresses_the_array, reads_identity}
use Rattle.micro_claims.specs.Against.{first_address, has_second_column}
use Rattle.micro_claims.proofs.Fits.{is_place, takes_column, takes_row}
use Rattle.micro_verify.proofs.AddressesNow.{carries_registers}
use Rattle.micro_verify.proofs.Mirrors.{opens_in_base}

-- 1. openers

-- which openers carry the registers
pub carries_is : (o : Command) (n : ℕ) → is_place o n ≡ true → opens_in_base o ≡ true → reads_identity o ≡ false → carries_registers o ≡ true
carries_is Read n place base other = refl
carries_is ChangeReadColumn n place base other = refl
carries_is BlockErase n place base other = refl
carries_is PageProgram n place base other = refl
carries_is ReadId n place base other = cc
carries_is ReadParameterPage n place base other = cc
carries_is ResetLun n place base other = cc
carries_is ChangeReadColumnEnhanced n place base other = cc
carries_is ChangeWriteColumn n place base other = cc
carries_is _ n place base other = cc

pub takes_is : (o : Command) (n : ℕ) → carries_registers o ≡ true → first_address o + n ≤ 1 → takes_column o ≡ true
takes_is Read n carries low = refl
takes_is ChangeReadColumn n carries low = refl
takes_is PageProgram n carries low = refl
takes_is BlockErase n carries low = absurd (omega (arith, low))
takes_is _ n carries low = cc

pub takes_first : (o : Command) → takes_column o ≡ true → first_address o ≡ 0
takes_first Read h = refl
takes_first PageProgram h = refl
takes_first ChangeWriteColumn h = refl
takes_first ChangeReadColumn h = refl
takes_first ChangeReadColumnEnhanced h = refl
takes_first _ h = cc

pub two_cycles : (o : Command) → takes_column o ≡ true → 2 ≤ address_cycles o
two_cycles Read h = omega arith
two_cycles PageProgram h = omega arith
two_cycles ChangeWriteColumn h = omega arith
two_cycles ChangeReadColumn h = omega arith
two_cycles ChangeReadColumnEnhanced h = omega arith
two_cycles _ h = cc

pub row_cycles : (o : Command) → takes_row o ≡ true → first_address o + address_cycles o ≡ 5
row_cycles Read h = refl
row_cycles PageProgram h = refl
row_cycles ChangeWriteColumn h = refl
row_cycles BlockErase h = refl
row_cycles ChangeReadColumnEnhanced h = refl
row_cycles _ h = cc

-- who takes a row addresses the array
pub row_is_of_array : (o : Command) → takes_row o ≡ true → addresses_the_array o ≡ true
row_is_of_array Read h = refl
row_is_of_array BlockErase h = refl
row_is_of_array PageProgram h = refl
row_is_of_array ChangeWriteColumn h = refl
row_is_of_array ChangeReadColumnEnhanced h = refl
row_is_of_array _ h = cc

pub last_of_row : (o : Command) (i : ℕ) → carries_registers o ≡ true → at_last_row o i ≡ true → takes_row o ≡ true
last_of_row Read i carries e = refl
last_of_row PageProgram i carries e = refl
last_of_row BlockErase i carries e = refl
last_of_row ChangeReadColumn i carries e = cc
last_of_row _ i carries e = cc

pub more_left : (c n : ℕ) → (c - n == 0) ≡ false → n < c
more_left c n h = grind (arith, nat_tests, h)

pub few_of : (o : Command) (n count : ℕ) → (address_cycles o - n == 0) ≡ false → count ≤ address_cycles o - n → n + count ≤ address_cycles o
few_of o n count left few = let less : n < address_cycles o = grind (arith, nat_tests, left) in omega (arith, less, few)

-- 2. the second column cycle

pub second_parts : (from count : ℕ) → has_second_column from count ≡ true → (from ≤ 1) × (2 ≤ from + count)
second_parts from count h = at (nat_le from 1) refl (nat_le 2 (from + count)) refl h
  where
    at : (a : Bool) → nat_le from 1 ≡ a → (b : Bool) → nat_le 2 (from + count) ≡ b → (a && b) ≡ true → (from ≤ 1) × (2 ≤ from + count)
    at true e true f h = (grind (arith, nat_tests, e), grind (arith, nat_tests, f))
    at true e false f h = cc
    at false e b f h = cc

pub second_holds : (from count : ℕ) → from ≤ 1 → 2 ≤ from + count → has_second_column from count ≡ true
second_holds from count low high =
    let one : nat_le from 1 ≡ true = grind (arith, nat_tests, low) in
    let two : nat_le 2 (from + count) ≡ true = grind (arith, nat_tests, high) in
    rw (one, two) refl

-- 3. tests

pub and_third : (a b d : Bool) → a ≡ true → b ≡ true → (a && b && d) ≡ false → d ≡ false
and_third true true d h k e = e
and_third true false d h k e = cc
and_third false b d h k e = cc

pub record PastTests (zero_left idn same second past : Bool) : Type 0 where
  pub left : zero_left ≡ false
  pub plain : idn ≡ false
  pub begins : same ≡ true
  pub reaches : second ≡ true
  pub over : past ≡ true

pub past_tests : (zero_left idn same second past : Bool) → (not zero_left && not idn && same && second && past) ≡ true → PastTests zero_left idn same second past
past_tests true idn same second past h = cc
past_tests false true same second past h = cc
past_tests false false false second past h = cc
past_tests false false true false past h = cc
past_tests false false true true false h = cc
past_tests false false true true true h = record { left = refl; plain = refl; begins = refl; reaches = refl; over = refl }

pub begins_there : (a b d : Bool) → a ≡ false → b ≡ false → (not a && not b && not d) ≡ false → d ≡ true
begins_there true b d h k e = cc
begins_there false true d h k e = cc
begins_there false false true h k e = refl
begins_there false false false h k e = cc

-- the tests of one place, where an address is wanted that isn't the one of 90h or ECh
pub unsure : (left idn surely refused x : Bool) → left ≡ false → idn ≡ false → cond left true (cond idn refused (cond surely false x)) ≡ true → (surely ≡ false) × (x ≡ true)
unsure true idn surely refused x h k e = cc
unsure false true surely refused x h k e = cc
unsure false false true refused x h k e = cc
unsure false false false refused x h k e = (refl, e)

pub of_identity : (left idn refused x : Bool) → left ≡ false → idn ≡ true → cond left true (cond idn refused x) ≡ true → refused ≡ true
of_identity true idn refused x h k e = cc
of_identity false true refused x h k e = e
of_identity false false refused x h k e = cc

pub taken : (left idn refused x : Bool) → idn ≡ true → cond left true (cond idn refused x) ≡ false → refused ≡ false
taken true idn refused x h e = cc
taken false true refused x h e = e
taken false false refused x h e = cc

-- more than the two that are wanted
pub too_many : (from count n : ℕ) (same refused : Bool) → from ≡ n → n ≤ 1 → (ltb (2 - n) count || (same && nat_le 5 (from + count) && refused)) ≡ true → 2 < n + count
too_many from count n same refused begins low h = at (ltb (2 - n) count) refl same (nat_le 5 (from + count)) refl h
  where
    at : (a : Bool) → ltb (2 - n) count ≡ a → (same b : Bool) → nat_le 5 (from + count) ≡ b → (a || (same && b && refused)) ≡ true → 2 < n + count
    at true e same b f h = grind (arith, nat_tests, e, low)
    at false e true true f h = let five : 5 ≤ from + count = grind (arith, nat_tests, f) in omega (arith, five, begins)
    at false e true false f h = cc
    at false e false b f h = cc

-- the last row cycle is refused, since no more cycles come than are wanted
pub row_tests : (from count n first cycles : ℕ) (same refused : Bool) → from ≡ first + n → first + cycles ≡ 5 → from + count ≤ 5 → (ltb (cycles - n) count || (same && nat_le 5 (from + count) && refused)) ≡ true → (5 ≤ from + count) × (refused ≡ true)
row_tests from count n first cycles same refused begins all few h = at (ltb (cycles - n) count) refl same (nat_le 5 (from + count)) refl h
  where
    at : (a : Bool) → ltb (cycles - n) count ≡ a → (same b : Bool) → nat_le 5 (from + count) ≡ b → (a || (same && b && refused)) ≡ true → (5 ≤ from + count) × (refused ≡ true)
    at true e same b f h = let more : cycles - n < count = grind (arith, nat_tests, e) in absurd (omega (arith, more, begins, all, few))
    at false e true true f h = (grind (arith, nat_tests, f), h)
    at false e true false f h = cc
    at false e false b f h = cc

pub record Clears (left same few second over : Bool) : Type 0 where
  pub left_none : left ≡ false
  pub begins : same ≡ true
  pub fits : few ≡ false
  pub inside : second ≡ true → over ≡ false

-- the tests of one place, with their values as variables
pub clears : (left idn same second over few refused : Bool) → idn ≡ false → cond left true (cond idn refused (cond (same && second && over) false few)) ≡ false → (not left && not idn && not same) ≡ false → (not left && not idn && same && second && over) ≡ false → Clears left same few second over
clears true idn same second over few refused i h e p = cc
clears false true same second over few refused i h e p = cc
clears false false false second over few refused i h e p = cc
clears false false true true true few refused i h e p = cc
clears false false true true false few refused i h e p = record { left_none = refl; begins = refl; fits = h; inside = λ x. refl }
clears false false true false over few refused i h e p = record { left_none = refl; begins = refl; fits = h; inside = λ x. cc }
