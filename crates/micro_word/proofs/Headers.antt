-- The header of a file, as it is read and as it is spelled.
use Rattle.std.proofs.Common.{◌≡◌, ℕ, ◌+◌, ◌*◌, ◌/◌, ◌%◌, ◌^◌, ◌<◌, ◌≤◌, Bool, true, false, cond, ltb, List, [], ◌∷◌, ◌++◌, length, drop, Some, None, Ok, Err, refl, sym, ap, subst, ◌∙◌, append_assoc, arith}
use Rattle.std.specs.Prelude.{ok_or, nat_eq}
use Rattle.std.specs.List.{starts_with}
use Rattle.std.specs.Int.{w16, w32, to_le_bytes}
use Rattle.std.proofs.lemmas.Bool.{ltb-false, le-ltb}
use Rattle.std.proofs.lemmas.Bool.Decides.{nat_tests, Decides-eqb}
use Rattle.std.proofs.lemmas.Slice.Eq.{starts_is}
use Rattle.micro_word.specs.declared.format.Format.{Format}
use Rattle.micro_word.specs.declared.format.Format.TheVariants.{One, Two}
use Rattle.micro_word.specs.declared.refusal.WordFault.TheVariants.{TooShort, UnknownFormat, TooManyWords, OutOfRange}
use Rattle.micro_word.specs.declared.refusal.WordRefusal.TheVariants.{Fault}
use Rattle.micro_word.specs.declared.header.Header.{Header}
use Rattle.micro_word.specs.Word.{limit, is_header_in_range}
use Rattle.micro_word.specs.Text.{magic}
use Rattle.micro_word.specs.Reading.{◌>>=◌, u16_at, u32_at, format_at, lacks_words, header_in, judged, header_at}
use Rattle.micro_word.proofs.WordLists.{IsBytes, bind_ok, some_of, passed_false, passed_true, low_byte, high_byte}

-- the 16 bytes of a header
abbrev pub header_bytes : Header → List ℕ
header_bytes h = magic h.format ++ to_le_bytes w16 h.words ++ to_le_bytes w16 h.rows ++ to_le_bytes w32 h.buffer ++ to_le_bytes w32 h.budget

-- a header whose file holds its words, each number in its range
pub record IsSound (h : Header) (bytes : List ℕ) : Type 0 where
  pub few : h.words ≤ 1024
  pub long : 16 + 4 * h.words ≤ length bytes
  pub some_rows : 1 ≤ h.rows
  pub rows : h.rows ≤ 4096
  pub buffer : h.buffer ≤ limit h.format

-- ---- the format

begins_with : (format : Format) (bytes : List ℕ) → starts_with nat_eq bytes (magic format) ≡ true → bytes ≡ magic format ++ drop 4 bytes
begins_with One bytes e = (starts_is Decides-eqb bytes (magic One) (starts_with nat_eq bytes (magic One)) refl).0 e
begins_with Two bytes e = (starts_is Decides-eqb bytes (magic Two) (starts_with nat_eq bytes (magic Two)) refl).0 e

chosen : (one two : Bool) (format : Format) → cond one (Some One) (cond two (Some Two) None) ≡ Some format → (P : Format → Type 0) → (one ≡ true → P One) → (two ≡ true → P Two) → P format
chosen true two format e P first second = subst P (let h : Some One ≡ Some format = e in cc) (first refl)
chosen false true format e P first second = subst P (let h : Some Two ≡ Some format = e in cc) (second refl)
chosen false false format e P first second = absurd cc

pub magic_is : (format : Format) (bytes : List ℕ) → format_at bytes ≡ Some format → bytes ≡ magic format ++ drop 4 bytes
magic_is format bytes e =
    chosen (starts_with nat_eq bytes (magic One)) (starts_with nat_eq bytes (magic Two)) format e (λ f. bytes ≡ magic f ++ drop 4 bytes) (begins_with One bytes) (begins_with Two bytes)

-- ---- the numbers

two_of : (x y : ℕ) → x < 256 → y < 256 → x ∷ y ∷ [] ≡ to_le_bytes w16 (x + 256 * y)
two_of x y h k = let low = low_byte x y h in let high = high_byte x y h k in cc

four_of : (x y z w : ℕ) → x < 256 → y < 256 → z < 256 → w < 256 → x ∷ y ∷ z ∷ w ∷ [] ≡ to_le_bytes w32 ((x + 256 * y) + 65536 * (z + 256 * w))
four_of x y z w h1 h2 h3 h4 =
    let b0 : ((x + 256 * y) + 65536 * (z + 256 * w)) % 256 ≡ x = omega arith in
    let b1 : ((x + 256 * y) + 65536 * (z + 256 * w)) / 256 % 256 ≡ y = omega arith in
    let b2 : ((x + 256 * y) + 65536 * (z + 256 * w)) / 65536 % 256 ≡ z = omega arith in
    let b3 : ((x + 256 * y) + 65536 * (z + 256 * w)) / 16777216 % 256 ≡ w = omega arith in
    cc

-- the twelve bytes after the magic
numbers_are : (bytes : List ℕ) → IsBytes bytes → 16 ≤ length bytes
    → drop 4 bytes ≡ to_le_bytes w16 (u16_at bytes 4) ++ (to_le_bytes w16 (u16_at bytes 6) ++ (to_le_bytes w32 (u32_at bytes 8) ++ (to_le_bytes w32 (u32_at bytes 12) ++ drop 16 bytes)))
numbers_are (m ∷ n ∷ o ∷ p ∷ a ∷ b ∷ c ∷ d ∷ e ∷ f ∷ g ∷ h ∷ i ∷ j ∷ k ∷ l ∷ rest) fits long =
    ap (λ (t : List ℕ). t ++ (c ∷ d ∷ e ∷ f ∷ g ∷ h ∷ i ∷ j ∷ k ∷ l ∷ rest)) (two_of a b (fits 4) (fits 5))
    ∙ ap (λ (t : List ℕ). to_le_bytes w16 (a + 256 * b) ++ (t ++ (e ∷ f ∷ g ∷ h ∷ i ∷ j ∷ k ∷ l ∷ rest))) (two_of c d (fits 6) (fits 7))
    ∙ ap (λ (t : List ℕ). to_le_bytes w16 (a + 256 * b) ++ (to_le_bytes w16 (c + 256 * d) ++ (t ++ (i ∷ j ∷ k ∷ l ∷ rest)))) (four_of e f g h (fits 8) (fits 9) (fits 10) (fits 11))
    ∙ ap (λ (t : List ℕ). to_le_bytes w16 (a + 256 * b) ++ (to_le_bytes w16 (c + 256 * d) ++ (to_le_bytes w32 ((e + 256 * f) + 65536 * (g + 256 * h)) ++ (t ++ rest)))) (four_of i j k l (fits 12) (fits 13) (fits 14) (fits 15))
numbers_are _ fits long = absurd (omega arith)

regroup : (m a b c d rest : List ℕ) → m ++ (a ++ (b ++ (c ++ (d ++ rest)))) ≡ ((((m ++ a) ++ b) ++ c) ++ d) ++ rest
regroup m a b c d rest = sym (simp append_assoc)

pub header_parts : (format : Format) (bytes : List ℕ) → IsBytes bytes → 16 ≤ length bytes → format_at bytes ≡ Some format → bytes ≡ header_bytes (header_in format bytes) ++ drop 16 bytes
header_parts format bytes fits long e =
    magic_is format bytes e ∙ ap (λ (t : List ℕ). magic format ++ t) (numbers_are bytes fits long)
    ∙ regroup (magic format) (to_le_bytes w16 (u16_at bytes 4)) (to_le_bytes w16 (u16_at bytes 6)) (to_le_bytes w32 (u32_at bytes 8)) (to_le_bytes w32 (u32_at bytes 12)) (drop 16 bytes)

-- ---- the header

pub record HeaderTaken (bytes : List ℕ) (h : Header) : Type 0 where
  pub parts : bytes ≡ header_bytes h ++ drop 16 bytes
  pub sound : IsSound h bytes
  pub budget : h.budget < 2 ^ 32

sound_of : (h : Header) (bytes : List ℕ) → lacks_words h bytes ≡ false → is_header_in_range h.format h.rows h.buffer ≡ true → IsSound h bytes
sound_of h bytes whole good = record {
  few = grind (arith, nat_tests);
  long = grind (arith, nat_tests);
  some_rows = grind (arith, nat_tests);
  rows = grind (arith, nat_tests);
  buffer = grind (arith, nat_tests);
}

whole_of : (h : Header) (bytes : List ℕ) → IsSound h bytes → lacks_words h bytes ≡ false
whole_of h bytes s = let few = s.few in let long = s.long in grind (arith, nat_tests)

good_of : (h : Header) (bytes : List ℕ) → IsSound h bytes → is_header_in_range h.format h.rows h.buffer ≡ true
good_of h bytes s = let some_rows = s.some_rows in let rows = s.rows in let buffer = s.buffer in grind (arith, nat_tests)

pub header_takes : (bytes : List ℕ) (h : Header) → IsBytes bytes → header_at bytes ≡ Ok h → HeaderTaken bytes h
unfolding header_at
header_takes bytes h fits e =
    let first = passed_false (ltb (length bytes) 16) (Fault TooShort 0) (ok_or (format_at bytes) (Fault UnknownFormat 0) >>= λ format. judged (header_in format bytes) bytes) h e in
    let long : 16 ≤ length bytes = ltb-false _ _ first.0 in
    let second = bind_ok (ok_or (format_at bytes) (Fault UnknownFormat 0)) (λ format. judged (header_in format bytes) bytes) h first.1 in
    let format-is = some_of (format_at bytes) (Fault UnknownFormat 0) second.0 second.1 in
    let found : Header = header_in second.0 bytes in
    let third = passed_false (lacks_words found bytes) (Fault TooManyWords 0) (cond (is_header_in_range found.format found.rows found.buffer) (Ok found) (Err (Fault OutOfRange 0))) h second.2 in
    let fourth = passed_true (is_header_in_range found.format found.rows found.buffer) (Fault OutOfRange 0) found h third.1 in
    let same : found ≡ h = fourth.1 in
    let budget : found.budget < 2 ^ 32 = omega (arith, fits 12, fits 13, fits 14, fits 15) in
    subst (λ (x : Header). HeaderTaken bytes x) same (record { parts = header_parts second.0 bytes fits long format-is; sound = sound_of found bytes third.0 fourth.0; budget = budget })

pub header_again : (bytes : List ℕ) (h : Header) → format_at bytes ≡ Some h.format → header_in h.format bytes ≡ h → IsSound h bytes → header_at bytes ≡ Ok h
unfolding header_at
header_again bytes h format-is same sound =
    let room = sound.long in
    let long : ltb (length bytes) 16 ≡ false = le-ltb _ _ (omega arith) in
    let whole = whole_of h bytes sound in
    let good = good_of h bytes sound in
    let last : judged h bytes ≡ Ok h = rw (whole, good) refl in
    rw (long, format-is) (ap (λ (x : Header). judged x bytes) same ∙ last)
