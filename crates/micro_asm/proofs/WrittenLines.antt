-- The lines of a text that is written.
use Rattle.std.proofs.Common.{◌≡◌, ℕ, ◌+◌, ◌/◌, ◌%◌, ◌^◌, ◌<◌, ◌≤◌, Bool, true, false, ◌&&◌, cond, eqb, ltb, List, [], ◌∷◌, ◌++◌, length, refl, ap, ◌∙◌, append_assoc, arith}
use Rattle.std.specs.Prelude.{codes, not}
use Rattle.std.specs.Char.{is_ascii_digit}
use Rattle.std.specs.Fmt.{decimal}
use Rattle.std.specs.List.{AllByRecursion}
use Rattle.std.specs.Str.{all_ascii_digits}
use Rattle.std.proofs.lemmas.Bool.{ltb-true, ltb-false}
use Rattle.std.proofs.lemmas.Bool.Decides.{nat_tests}
use Rattle.std.proofs.lemmas.Fmt.{digits_decimal}
use Rattle.std.proofs.lemmas.List.Splits.{slice_split_at}
use Rattle.std.proofs.lemmas.List.Elements.{All-from_recursion}
use Rattle.micro_word.specs.declared.format.Format.TheVariants.{Two}
use Rattle.micro_word.specs.declared.word.Word.{Word}
use Rattle.micro_word.specs.declared.word.Word.TheVariants as word
use Rattle.micro_word.specs.Text.{Microprogram, FitsFormat}
use Rattle.micro_word.specs.Word.{IsInRange}
use Rattle.micro_asm.specs.Assembly.{label, word_text, hex_digit, hex_byte, is_target, ended, label_line, word_lines, assembly}
use Rattle.micro_asm.specs.Reading.{lines}
use Rattle.micro_asm.proofs.Again.{and_parts, not_false}
use Rattle.micro_asm.proofs.LineByLine.{is_feed, line_first}
use Rattle.micro_asm.proofs.Numbers.{own}

-- ---- bytes that are no line feeds

abbrev pub unfed : List ℕ → Bool
unfed [] = true
unfed (b ∷ bs) = not (eqb b 10) && unfed bs

no_feed : (bs : List ℕ) → unfed bs ≡ true → AllByRecursion (λ b. is_feed b ≡ false) bs
no_feed [] h = tt
no_feed (b ∷ bs) h =
    let parts = and_parts (not (eqb b 10)) (unfed bs) h in
    (not_false (eqb b 10) parts.0, no_feed bs parts.1)

unfed_more : (xs ys : List ℕ) → unfed xs ≡ true → unfed ys ≡ true → unfed (xs ++ ys) ≡ true
unfed_more [] ys h k = k
unfed_more (x ∷ xs) ys h k =
    let parts = and_parts (not (eqb x 10)) (unfed xs) h in
    rw (parts.0, unfed_more xs ys parts.1 k) refl

-- the first line of a text that begins with it
pub line_then : (line rest : List ℕ) → unfed line ≡ true → lines (ended line ++ rest) ≡ line ∷ lines rest
line_then line rest h =
    ap lines (append_assoc line (10 ∷ []) rest) ∙ line_first (line ++ 10 ∷ rest) line rest (slice_split_at is_feed line 10 rest (All-from_recursion (λ (b : ℕ). is_feed b ≡ false) line (no_feed line h)) refl)

-- ---- what is written

digit_unfed : (c : ℕ) → is_ascii_digit c ≡ true → not (eqb c 10) ≡ true
digit_unfed c h = grind (arith, nat_tests)

digits_unfed : (ds : List ℕ) → all_ascii_digits ds ≡ true → unfed ds ≡ true
digits_unfed [] h = refl
digits_unfed (c ∷ cs) h =
    let parts = and_parts (is_ascii_digit c) (all_ascii_digits cs) h in
    rw (digit_unfed c parts.0, digits_unfed cs parts.1) refl

pub number_unfed : (n : ℕ) → n < 10 ^ 10 → unfed (decimal n) ≡ true
number_unfed n h = digits_unfed (decimal n) (digits_decimal own n (omega arith))

hex_unfed : (n : ℕ) → n < 16 → not (eqb (hex_digit n) 10) ≡ true
hex_unfed n h = by_test (ltb n 10) refl
  where
    by_test : (t : Bool) → ltb n 10 ≡ t → not (eqb (hex_digit n) 10) ≡ true
    by_test true is =
        let low : n < 10 = ltb-true n 10 is in
        let test : not (eqb (48 + n) 10) ≡ true = grind (arith, nat_tests) in
        rw is test
    by_test false is =
        let high : 10 ≤ n = ltb-false n 10 is in
        let test : not (eqb (87 + n) 10) ≡ true = grind (arith, nat_tests) in
        rw is test

byte_unfed : (n : ℕ) → n < 256 → unfed (hex_byte n) ≡ true
byte_unfed n h = rw (hex_unfed (n / 16) (omega arith), hex_unfed (n % 16) (omega arith)) refl

label_unfed : (place : ℕ) → place < 10 ^ 10 → unfed (label place) ≡ true
label_unfed place h = number_unfed place h

label_text_unfed : (place : ℕ) → place < 10 ^ 10 → unfed (label place ++ codes ":") ≡ true
label_text_unfed place h = unfed_more (label place) (codes ":") (label_unfed place h) refl

address_unfed : (from count : ℕ) → from < 10 ^ 10 → count < 10 ^ 10 → unfed (word_text (word.Address from count)) ≡ true
address_unfed from count h k = unfed_more (decimal from) (codes " " ++ decimal count) (number_unfed from h) (number_unfed count k)

branch_unfed : (mask target : ℕ) → mask < 256 → target < 10 ^ 10 → unfed (word_text (word.BranchOnStatus mask target)) ≡ true
branch_unfed mask target h k = unfed_more (hex_byte mask) (codes " " ++ label target) (byte_unfed mask h) (label_unfed target k)

pub word_unfed : (count : ℕ) (w : Word) → count ≤ 1024 → IsInRange Two count w → unfed (word_text w) ≡ true
word_unfed count (word.End code) most fits = number_unfed code (omega arith)
word_unfed count (word.Command byte) most fits = byte_unfed byte fits
word_unfed count (word.Address from len) most fits = address_unfed from len (omega arith) (omega arith)
word_unfed count (word.Get len) most fits = number_unfed len (omega arith)
word_unfed count (word.Put len) most fits = number_unfed len (omega arith)
word_unfed count (word.Seek place) most fits = number_unfed place (omega arith)
word_unfed count (word.Column column) most fits = number_unfed column (omega arith)
word_unfed count (word.RowAdd rows) most fits = number_unfed rows (omega arith)
word_unfed count (word.Row row) most fits = number_unfed row (omega arith)
word_unfed count (word.Plane plane) most fits = number_unfed plane (omega arith)
word_unfed count word.Wait most fits = refl
word_unfed count word.Yield most fits = refl
word_unfed count word.ReadStatus most fits = refl
word_unfed count (word.BranchOnStatus mask target) most fits = branch_unfed mask target (omega arith) (omega arith)
word_unfed count (word.Loop turns) most fits = number_unfed turns (omega arith)
word_unfed count word.Next most fits = refl
word_unfed count (word.Jump target) most fits = label_unfed target (omega arith)

-- ---- the lines one after another

abbrev pub label_part : Bool → ℕ → List (List ℕ)
label_part named at = cond named ((label at ++ codes ":") ∷ []) []

-- the lines of some words of a text, from a place on
abbrev pub word_part : (all : List Word) → (at : ℕ) → List Word → List (List ℕ)
word_part all at [] = []
word_part all at (w ∷ ws) = label_part (is_target all at) at ++ (word_text w ∷ word_part all (at + 1) ws)

abbrev pub header_part : Microprogram → List (List ℕ) → List (List ℕ)
header_part x rest = (codes "rows " ++ decimal x.rows) ∷ ((codes "buffer " ++ decimal x.buffer) ∷ ((codes "budget " ++ decimal x.budget) ∷ rest))

labelled_lines : (named : Bool) (at : ℕ) (rest : List ℕ) → at < 1024 → lines (label_line named at ++ rest) ≡ label_part named at ++ lines rest
labelled_lines true at rest low = line_then (label at ++ codes ":") rest (label_text_unfed at (omega arith))
labelled_lines false at rest low = refl

pub lines_of_words : (all : List Word) (count at : ℕ) (ws : List Word) → count ≤ 1024 → at + length ws ≤ 1024 → AllByRecursion (IsInRange Two count) ws → lines (word_lines all at ws) ≡ word_part all at ws
unfolding lines
lines_of_words all count at [] most low fits = refl
lines_of_words all count at (w ∷ ws) most low fits =
    let front = labelled_lines (is_target all at) at (ended (word_text w) ++ word_lines all (at + 1) ws) (omega arith) in
    let this = line_then (word_text w) (word_lines all (at + 1) ws) (word_unfed count w most fits.0) in
    let others = lines_of_words all count (at + 1) ws most (omega arith) fits.1 in
    front ∙ ap (λ (ls : List (List ℕ)). label_part (is_target all at) at ++ ls) (this ∙ ap (λ (ls : List (List ℕ)). word_text w ∷ ls) others)

pub lines_written : (x : Microprogram) → FitsFormat Two x → lines (assembly x) ≡ header_part x (word_part x.words 0 x.words)
lines_written x fits =
    let words = word_lines x.words 0 x.words in
    let rows = codes "rows " ++ decimal x.rows in
    let buffer = codes "buffer " ++ decimal x.buffer in
    let budget = codes "budget " ++ decimal x.budget in
    let apart : assembly x ≡ ended rows ++ (ended buffer ++ (ended budget ++ words)) = append_assoc (ended rows) (ended buffer ++ ended budget) words ∙ ap (λ (t : List ℕ). ended rows ++ t) (append_assoc (ended buffer) (ended budget) words) in
    let first = line_then rows (ended buffer ++ (ended budget ++ words)) (number_unfed x.rows (omega (arith, fits.rows))) in
    let second = line_then buffer (ended budget ++ words) (number_unfed x.buffer (omega (arith, fits.buffer))) in
    let third = line_then budget words (number_unfed x.budget (omega (arith, fits.budget))) in
    let others = lines_of_words x.words (length x.words) 0 x.words fits.count (omega (arith, fits.count)) fits.words in
    ap lines apart ∙ (first ∙ ap (λ (ls : List (List ℕ)). rows ∷ ls) (second ∙ ap (λ (ls : List (List ℕ)). buffer ∷ ls) (third ∙ ap (λ (ls : List (List ℕ)). budget ∷ ls) others)))
