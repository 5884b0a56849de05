-- A word that is read is spelled by its four bytes, and a word that is spelled is read.
use Rattle.std.proofs.Common.{◌≡◌, ℕ, ◌+◌, ◌*◌, ◌/◌, ◌%◌, ◌<◌, ◌≤◌, min, Bool, true, false, cond, eqb, not, ◌&&◌, ◌||◌, Option, Some, refl, ap, arith}
use Rattle.std.specs.Prelude.{IfSome}
use Rattle.std.proofs.lemmas.Bool.{eqb-true}
use Rattle.std.proofs.lemmas.Bool.Decides.{nat_tests}
use Rattle.micro_word.specs.declared.format.Format.{Format}
use Rattle.micro_word.specs.declared.format.Format.TheVariants.{One, Two}
use Rattle.micro_word.specs.declared.word.Word.{Word}
use Rattle.micro_word.specs.declared.word.Word.TheVariants.{End, Command, Address, Get, Put, Seek, Column, RowAdd, Row, Plane, Wait, Yield, ReadStatus, BranchOnStatus, Loop, Next, Jump}
use Rattle.micro_word.specs.Word.{limit, IsInRange, four, carrying, spelling, number, word_of, is_wide, has_stray}

-- ---- from the bytes to the word

-- the word is spelled by these three numbers, if no field is astray and its operands are in range
abbrev pub Spells : Format → ℕ → ℕ → ℕ → ℕ → Word → Type 0
Spells format words code a b w = has_stray format w a b ≡ false → IsInRange format words w → spelling w ≡ four code a b

at_test : (t : Bool) (P : Word → Type 0) (w : Word) (others : Option Word) → (t ≡ true → P w) → IfSome others P → IfSome (cond t (Some w) others) P
at_test true P w others here there = here refl
at_test false P w others here there = there

-- one line of the table of codes
at_code : (code k : ℕ) (P : Word → Type 0) (w : Word) (others : Option Word) → (code ≡ k → P w) → IfSome others P → IfSome (cond (eqb code k) (Some w) others) P
at_code code k P w others here there = at_test (eqb code k) P w others (λ t. here (eqb-true code k t)) there

same_four : (code k a x b y : ℕ) → code ≡ k → x ≡ a → y ≡ b → four k x y ≡ four code a b
same_four code k a x b y e f g = rw (e, f, g) refl

-- what an unused field is
b_is_0 : (b : ℕ) → not (eqb b 0) ≡ false → 0 ≡ b
b_is_0 b h = grind (arith, nat_tests)

a_is_0 : (a : ℕ) → not (eqb a 0) || false ≡ false → 0 ≡ a
a_is_0 a h = grind (arith, nat_tests)

both_are_0 : (a b : ℕ) → not (eqb a 0) || not (eqb b 0) ≡ false → (0 ≡ a) × (0 ≡ b)
both_are_0 a b h = grind (arith, nat_tests)

-- a number that both fields carry
carried : (format : Format) (code k a b : ℕ) → a < 256 → b < 65536 → code ≡ k → (not (is_wide format) && not (eqb a 0)) || false ≡ false → carrying k (number format a b) ≡ four code a b
carried One code k a b small lt e stray =
    let zero_a = a_is_0 a stray in
    same_four code k a (b / 65536 % 256) b (b % 65536) e (omega arith) (omega arith)
carried Two code k a b small lt e stray =
    same_four code k a ((a * 65536 + b) / 65536 % 256) b ((a * 65536 + b) % 65536) e (omega arith) (omega arith)

pub word_spells : (format : Format) (words code a b : ℕ) → a < 256 → b < 65536 → IfSome (word_of format code a b) (Spells format words code a b)
unfolding word_of
word_spells format words code a b small lt =
    let P : Word → Type 0 = Spells format words code a b in
    at_code code 0x00 P (End a) _ (λ e stray fits. same_four code 0x00 a a b 0 e refl (b_is_0 b stray)) (
    at_code code 0x01 P (Command a) _ (λ e stray fits. same_four code 0x01 a a b 0 e refl (b_is_0 b stray)) (
    at_code code 0x02 P (Address a (min b 255)) _ (λ e stray fits. same_four code 0x02 a a b (min b 255) e refl (omega (arith, fits))) (
    at_code code 0x03 P (Get (number format a b)) _ (λ e stray fits. carried format code 0x03 a b small lt e stray) (
    at_code code 0x04 P (Put (number format a b)) _ (λ e stray fits. carried format code 0x04 a b small lt e stray) (
    at_code code 0x05 P (Seek (number format a b)) _ (λ e stray fits. carried format code 0x05 a b small lt e stray) (
    at_code code 0x06 P (Column b) _ (λ e stray fits. same_four code 0x06 a 0 b b e (a_is_0 a stray) refl) (
    at_code code 0x07 P (RowAdd b) _ (λ e stray fits. same_four code 0x07 a 0 b b e (a_is_0 a stray) refl) (
    at_code code 0x08 P (Row b) _ (λ e stray fits. same_four code 0x08 a 0 b b e (a_is_0 a stray) refl) (
    at_code code 0x09 P (Plane a) _ (λ e stray fits. same_four code 0x09 a a b 0 e refl (b_is_0 b stray)) (
    at_code code 0x0a P Wait _ (λ e stray fits. same_four code 0x0a a 0 b 0 e (both_are_0 a b stray).0 (both_are_0 a b stray).1) (
    at_code code 0x0b P Yield _ (λ e stray fits. same_four code 0x0b a 0 b 0 e (both_are_0 a b stray).0 (both_are_0 a b stray).1) (
    at_code code 0x0c P ReadStatus _ (λ e stray fits. same_four code 0x0c a 0 b 0 e (both_are_0 a b stray).0 (both_are_0 a b stray).1) (
    at_code code 0x0d P (BranchOnStatus a b) _ (λ e stray fits. same_four code 0x0d a a b b e refl refl) (
    at_code code 0x0e P (Loop b) _ (λ e stray fits. same_four code 0x0e a 0 b b e (a_is_0 a stray) refl) (
    at_code code 0x0f P Next _ (λ e stray fits. same_four code 0x0f a 0 b 0 e (both_are_0 a b stray).0 (both_are_0 a b stray).1) (
    at_code code 0x10 P (Jump b) _ (λ e stray fits. same_four code 0x10 a 0 b b e (a_is_0 a stray) refl) tt))))))))))))))))

-- ---- from the word to its bytes

-- the three numbers that spell a word, and that it is read from them
pub record Spelled (format : Format) (w : Word) : Type 0 where
  pub code : ℕ
  pub a : ℕ
  pub b : ℕ
  pub bytes : spelling w ≡ four code a b
  pub small : b < 65536
  pub word : word_of format code a b ≡ Some w
  pub stray : has_stray format w a b ≡ false

number_again : (format : Format) (n : ℕ) → n ≤ limit format → number format (n / 65536 % 256) (n % 65536) ≡ n
number_again One n h = omega arith
number_again Two n h = omega arith

number_stray : (format : Format) (n : ℕ) → n ≤ limit format → (not (is_wide format) && not (eqb (n / 65536 % 256) 0)) || false ≡ false
number_stray One n h = let upper : n / 65536 % 256 ≡ 0 = omega arith in rw upper refl
number_stray Two n h = refl

pub spelled : (format : Format) (words : ℕ) (w : Word) → words ≤ 1024 → IsInRange format words w → Spelled format w
unfolding word_of
spelled format words (End code) few h = record { code = 0x00; a = code; b = 0; bytes = refl; small = omega arith; word = refl; stray = refl }
spelled format words (Command byte) few h = record { code = 0x01; a = byte; b = 0; bytes = refl; small = omega arith; word = refl; stray = refl }
spelled format words (Address from count) few h = record { code = 0x02; a = from; b = count; bytes = refl; small = omega arith; word = ap (λ (k : ℕ). Some (Address from k)) (omega arith); stray = refl }
spelled format words (Get len) few h = record { code = 0x03; a = len / 65536 % 256; b = len % 65536; bytes = refl; small = omega arith; word = ap (λ (k : ℕ). Some (Get k)) (number_again format len h.1); stray = number_stray format len h.1 }
spelled format words (Put len) few h = record { code = 0x04; a = len / 65536 % 256; b = len % 65536; bytes = refl; small = omega arith; word = ap (λ (k : ℕ). Some (Put k)) (number_again format len h.1); stray = number_stray format len h.1 }
spelled format words (Seek place) few h = record { code = 0x05; a = place / 65536 % 256; b = place % 65536; bytes = refl; small = omega arith; word = ap (λ (k : ℕ). Some (Seek k)) (number_again format place h); stray = number_stray format place h }
spelled format words (Column column) few h = record { code = 0x06; a = 0; b = column; bytes = refl; small = h; word = refl; stray = refl }
spelled format words (RowAdd rows) few h = record { code = 0x07; a = 0; b = rows; bytes = refl; small = h.1; word = refl; stray = refl }
spelled format words (Row row) few h = record { code = 0x08; a = 0; b = row; bytes = refl; small = omega arith; word = refl; stray = refl }
spelled format words (Plane plane) few h = record { code = 0x09; a = plane; b = 0; bytes = refl; small = omega arith; word = refl; stray = refl }
spelled format words Wait few h = record { code = 0x0a; a = 0; b = 0; bytes = refl; small = omega arith; word = refl; stray = refl }
spelled format words Yield few h = record { code = 0x0b; a = 0; b = 0; bytes = refl; small = omega arith; word = refl; stray = refl }
spelled format words ReadStatus few h = record { code = 0x0c; a = 0; b = 0; bytes = refl; small = omega arith; word = refl; stray = refl }
spelled format words (BranchOnStatus mask target) few h = record { code = 0x0d; a = mask; b = target; bytes = refl; small = omega arith; word = refl; stray = refl }
spelled format words (Loop turns) few h = record { code = 0x0e; a = 0; b = turns; bytes = refl; small = omega arith; word = refl; stray = refl }
spelled format words Next few h = record { code = 0x0f; a = 0; b = 0; bytes = refl; small = omega arith; word = refl; stray = refl }
spelled format words (Jump target) few h = record { code = 0x10; a = 0; b = target; bytes = refl; small = omega arith; word = refl; stray = refl }
