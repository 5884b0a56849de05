-- Operands in range: the test and the fact, and the two formats.
use Rattle.std.proofs.Common.{◌≡◌, ℕ, ◌≤◌, true, List, [], ◌∷◌, refl, arith}
use Rattle.std.specs.List.{AllByRecursion}
use Rattle.std.proofs.lemmas.Bool.Decides.{nat_tests}
use Rattle.micro_word.specs.declared.format.Format.{Format}
use Rattle.micro_word.specs.declared.format.Format.TheVariants.{One, Two}
use Rattle.micro_word.specs.declared.word.Word.{Word}
use Rattle.micro_word.specs.declared.word.Word.TheVariants.{End, Command, Address, Get, Put, Seek, Column, RowAdd, Row, Plane, Wait, Yield, ReadStatus, BranchOnStatus, Loop, Next, Jump}
use Rattle.micro_word.specs.Word.{limit, IsInRange, is_in_range}
use Rattle.micro_word.specs.Text.{Microprogram, FitsFormat}

-- the test says so
pub in_range : (format : Format) (words : ℕ) (w : Word) → is_in_range format words w ≡ true → IsInRange format words w
in_range format words (End code) h = grind (arith, nat_tests)
in_range format words (Command byte) h = grind (arith, nat_tests)
in_range format words (Address from count) h = grind (arith, nat_tests)
in_range format words (Get len) h = grind (arith, nat_tests)
in_range format words (Put len) h = grind (arith, nat_tests)
in_range format words (Seek place) h = grind (arith, nat_tests)
in_range format words (Column column) h = grind (arith, nat_tests)
in_range format words (RowAdd rows) h = grind (arith, nat_tests)
in_range format words (Row row) h = grind (arith, nat_tests)
in_range format words (Plane plane) h = grind (arith, nat_tests)
in_range format words (BranchOnStatus mask target) h = grind (arith, nat_tests)
in_range format words (Loop turns) h = grind (arith, nat_tests)
in_range format words (Jump target) h = grind (arith, nat_tests)
in_range format words Wait h = tt
in_range format words Yield h = tt
in_range format words ReadStatus h = tt
in_range format words Next h = tt

-- and the other way
pub passes : (format : Format) (words : ℕ) (w : Word) → IsInRange format words w → is_in_range format words w ≡ true
passes format words (End code) h = grind (arith, nat_tests)
passes format words (Command byte) h = grind (arith, nat_tests)
passes format words (Address from count) h = grind (arith, nat_tests)
passes format words (Get len) h = grind (arith, nat_tests)
passes format words (Put len) h = grind (arith, nat_tests)
passes format words (Seek place) h = grind (arith, nat_tests)
passes format words (Column column) h = grind (arith, nat_tests)
passes format words (RowAdd rows) h = grind (arith, nat_tests)
passes format words (Row row) h = grind (arith, nat_tests)
passes format words (Plane plane) h = grind (arith, nat_tests)
passes format words (BranchOnStatus mask target) h = grind (arith, nat_tests)
passes format words (Loop turns) h = grind (arith, nat_tests)
passes format words (Jump target) h = grind (arith, nat_tests)
passes format words Wait h = refl
passes format words Yield h = refl
passes format words ReadStatus h = refl
passes format words Next h = refl

-- format 2 carries what format 1 does
pub limit_grows : (format : Format) (n : ℕ) → n ≤ limit format → n ≤ limit Two
limit_grows One n h = omega arith
limit_grows Two n h = h

pub in_range_of_two : (format : Format) (words : ℕ) (w : Word) → IsInRange format words w → IsInRange Two words w
in_range_of_two format words (End code) h = h
in_range_of_two format words (Command byte) h = h
in_range_of_two format words (Address from count) h = h
in_range_of_two format words (Get len) h = (h.0, limit_grows format len h.1)
in_range_of_two format words (Put len) h = (h.0, limit_grows format len h.1)
in_range_of_two format words (Seek place) h = limit_grows format place h
in_range_of_two format words (Column column) h = h
in_range_of_two format words (RowAdd rows) h = h
in_range_of_two format words (Row row) h = h
in_range_of_two format words (Plane plane) h = h
in_range_of_two format words (BranchOnStatus mask target) h = h
in_range_of_two format words (Loop turns) h = h
in_range_of_two format words (Jump target) h = h
in_range_of_two format words Wait h = tt
in_range_of_two format words Yield h = tt
in_range_of_two format words ReadStatus h = tt
in_range_of_two format words Next h = tt

all_of_two : (format : Format) (words : ℕ) (ws : List Word) → AllByRecursion (IsInRange format words) ws → AllByRecursion (IsInRange Two words) ws
all_of_two format words [] h = tt
all_of_two format words (w ∷ ws) h = (in_range_of_two format words w h.0, all_of_two format words ws h.1)

pub fits_two : (format : Format) (x : Microprogram) → FitsFormat format x → FitsFormat Two x
fits_two format x h = record {
  some_rows = h.some_rows;
  rows = h.rows;
  buffer = limit_grows format x.buffer h.buffer;
  budget = h.budget;
  count = h.count;
  words = all_of_two format _ x.words h.words;
}
