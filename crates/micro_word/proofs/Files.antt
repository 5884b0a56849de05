-- The two laws of files: what is read is spelled so, and what is spelled so is read.
use Rattle.std.proofs.Common.{◌≡◌, ℕ, ◌+◌, ◌*◌, ◌/◌, ◌%◌, ◌^◌, ◌<◌, ◌≤◌, false, cond, ltb, List, [], ◌++◌, length, drop, Some, Result, Ok, Err, refl, sym, ap, subst, ◌∙◌, arith, length-drop, inl, inr}
use Rattle.std.specs.Prelude.{IfOk}
use Rattle.std.specs.List.{flat_map, AllByRecursion}
use Rattle.std.specs.Int.{w16, w32, to_le_bytes}
use Rattle.std.proofs.lemmas.Bool.{ltb-false, le-ltb}
use Rattle.std.proofs.lemmas.List.{append-nil, nil_from_length}
use Rattle.micro_word.specs.declared.format.Format.{Format}
use Rattle.micro_word.specs.declared.format.Format.TheVariants.{One, Two}
use Rattle.micro_word.specs.declared.word.Word.{Word}
use Rattle.micro_word.specs.declared.refusal.WordFault.TheVariants.{TrailingBytes}
use Rattle.micro_word.specs.declared.refusal.WordRefusal.{WordRefusal}
use Rattle.micro_word.specs.declared.refusal.WordRefusal.TheVariants.{Fault}
use Rattle.micro_word.specs.declared.header.Header.{Header}
use Rattle.micro_word.specs.Word.{limit, spelling, IsInRange}
use Rattle.micro_word.specs.Text.{Microprogram, FitsFormat, magic, file, IsFileOf}
use Rattle.micro_word.specs.Reading.{◌>>=◌, Gives, format_at, header_in, header_at, words_at, reading}
use Rattle.micro_word.proofs.WordLists.{IsBytes, IsBytes-drop, bind_ok, passed_false, words_take, words_again, length-spellings}
use Rattle.micro_word.proofs.Headers.{header_bytes, header_takes, header_again}

-- ---- from the bytes to the text

-- the text of a header and words
abbrev pub text_of : Header → List Word → Microprogram
text_of h ws = record { rows = h.rows; buffer = h.buffer; budget = h.budget; words = ws }

-- what a text is read from
pub record TextTaken (bytes : List ℕ) (x : Microprogram) : Type 0 where
  pub format : Format
  pub fits : FitsFormat format x
  pub spelled : bytes ≡ file format x

pub text_fits : (bytes : List ℕ) (h : Header) (ws : List Word) → IsBytes bytes → header_at bytes ≡ Ok h → words_at h 0 h.words (drop 16 bytes) ≡ Ok ws → FitsFormat h.format (text_of h ws)
text_fits bytes h ws fits header words =
    let first = header_takes bytes h fits header in
    let sound = first.sound in
    let long = sound.long in
    let second = words_take h 0 h.words (drop 16 bytes) ws (IsBytes-drop 16 bytes fits) (omega (arith, length-drop 16 bytes)) words in
    let count = second.count_is in
    record {
      some_rows = sound.some_rows;
      rows = sound.rows;
      buffer = sound.buffer;
      budget = first.budget;
      count = omega (arith, sound.few);
      words = subst (λ (n : ℕ). AllByRecursion (IsInRange h.format n) ws) (sym count) second.fits;
    }

abbrev done : Microprogram → Result Microprogram WordRefusal
done x = Ok x

pub reading_takes : (bytes : List ℕ) (x : Microprogram) → IsBytes bytes → reading bytes ≡ Ok x → TextTaken bytes x
unfolding reading
reading_takes bytes x fits e =
    let a = bind_ok (header_at bytes) (λ h. words_at h 0 h.words (drop 16 bytes) >>= λ ws. cond (ltb (16 + 4 * h.words) (length bytes)) (Err (Fault TrailingBytes 0)) (Ok (text_of h ws))) x e in
    let h : Header = a.0 in
    let b = bind_ok (words_at h 0 h.words (drop 16 bytes)) (λ ws. cond (ltb (16 + 4 * h.words) (length bytes)) (Err (Fault TrailingBytes 0)) (Ok (text_of h ws))) x a.2 in
    let ws : List Word = b.0 in
    let g = passed_false (ltb (16 + 4 * h.words) (length bytes)) (Fault TrailingBytes 0) (Ok (text_of h ws)) x b.2 in
    let short : length bytes ≤ 16 + 4 * h.words = ltb-false _ _ g.0 in
    let first = header_takes bytes h fits a.1 in
    let long = first.sound.long in
    let second = words_take h 0 h.words (drop 16 bytes) ws (IsBytes-drop 16 bytes fits) (omega (arith, length-drop 16 bytes)) b.1 in
    let count = second.count_is in
    let rest : drop (4 * h.words) (drop 16 bytes) ≡ [] = nil_from_length _ (omega (arith, length-drop (4 * h.words) (drop 16 bytes), length-drop 16 bytes)) in
    let body : drop 16 bytes ≡ flat_map spelling ws = second.parts ∙ ap (λ (t : List ℕ). flat_map spelling ws ++ t) rest ∙ append-nil (flat_map spelling ws) in
    let whole : bytes ≡ header_bytes h ++ flat_map spelling ws = first.parts ∙ ap (λ (t : List ℕ). header_bytes h ++ t) body in
    let counted : bytes ≡ file h.format (text_of h ws) =
    whole ∙ ap (λ (n : ℕ). (magic h.format ++ to_le_bytes w16 n ++ to_le_bytes w16 h.rows ++ to_le_bytes w32 h.buffer ++ to_le_bytes w32 h.budget) ++ flat_map spelling ws) (sym count) in
    let taken : TextTaken bytes (text_of h ws) = record { format = h.format; fits = text_fits bytes h ws fits a.1 b.1; spelled = counted } in
    let same : text_of h ws ≡ x = let y : done (text_of h ws) ≡ done x = g.1 in cc in
    subst (λ (y : Microprogram). TextTaken bytes y) same taken

either_of : (format : Format) (bytes : List ℕ) (x : Microprogram) → FitsFormat format x → bytes ≡ file format x → IsFileOf bytes x
either_of One bytes x fits e = inl (fits, e)
either_of Two bytes x fits e = inr (fits, e)

pub is_found : (bytes : List ℕ) (r : Result Microprogram WordRefusal) → IsBytes bytes → Gives r (reading bytes) → IfOk r (IsFileOf bytes)
is_found bytes (Ok x) fits given = let t = reading_takes bytes x fits given in either_of t.format bytes x t.fits t.spelled
is_found bytes (Err e) fits given = tt

-- ---- from the text to the bytes

-- the header of a text
abbrev pub header_of : Format → Microprogram → Header
header_of format x = record { format = format; words = length x.words; rows = x.rows; buffer = x.buffer; budget = x.budget }

u16_again : (n : ℕ) → n < 65536 → n % 256 + 256 * (n / 256 % 256) ≡ n
u16_again n h = omega arith

u32_again : (n : ℕ) → n < 2 ^ 32 → (n % 256 + 256 * (n / 256 % 256)) + 65536 * (n / 65536 % 256 + 256 * (n / 16777216 % 256)) ≡ n
u32_again n h = omega arith

same_header : (format : Format) (words words' rows rows' buffer buffer' budget budget' : ℕ) → words ≡ words' → rows ≡ rows' → buffer ≡ buffer' → budget ≡ budget'
    → (let one : Header = record { format = format; words = words; rows = rows; buffer = buffer; budget = budget } in
    let other : Header = record { format = format; words = words'; rows = rows'; buffer = buffer'; budget = budget' } in one ≡ other)
same_header format words words' rows rows' buffer buffer' budget budget' e f g h = rw (e, f, g, h) refl

-- the numbers of a text fit in their fields
pub record AreFields (x : Microprogram) : Type 0 where
  pub words : length x.words < 65536
  pub rows : x.rows < 65536
  pub buffer : x.buffer < 2 ^ 32
  pub budget : x.budget < 2 ^ 32

limit_small : (format : Format) (n : ℕ) → n ≤ limit format → n < 2 ^ 32
limit_small One n h = omega arith
limit_small Two n h = omega arith

fields_of : (format : Format) (x : Microprogram) → FitsFormat format x → AreFields x
fields_of format x fits = let count = fits.count in let rows = fits.rows in record { words = omega arith; rows = omega arith; buffer = limit_small format x.buffer fits.buffer; budget = fits.budget }

-- what the front of a file tells
pub record FrontRead (format : Format) (x : Microprogram) : Type 0 where
  pub format_is : format_at (file format x) ≡ Some format
  pub header_is : header_in format (file format x) ≡ header_of format x
  pub body : drop 16 (file format x) ≡ flat_map spelling x.words
  pub len : length (file format x) ≡ 16 + length (flat_map spelling x.words)

front_read : (format : Format) (x : Microprogram) → AreFields x → FrontRead format x
front_read One x f = record {
  format_is = refl;
  header_is = same_header One _ _ _ _ _ _ _ _ (u16_again _ f.words) (u16_again _ f.rows) (u32_again _ f.buffer) (u32_again _ f.budget);
  body = refl;
  len = omega arith;
}
front_read Two x f = record {
  format_is = refl;
  header_is = same_header Two _ _ _ _ _ _ _ _ (u16_again _ f.words) (u16_again _ f.rows) (u32_again _ f.buffer) (u32_again _ f.budget);
  body = refl;
  len = omega arith;
}

pub reading_again : (format : Format) (x : Microprogram) → FitsFormat format x → reading (file format x) ≡ Ok x
unfolding reading
reading_again format x fits =
    let h : Header = header_of format x in
    let front = front_read format x (fields_of format x fits) in
    let len = front.len in
    let spellings = length-spellings h x.words fits.count fits.words in
    let header = header_again (file format x) h front.format_is front.header_is (record { few = fits.count; long = omega arith; some_rows = fits.some_rows; rows = fits.rows; buffer = fits.buffer }) in
    let body : drop 16 (file format x) ≡ flat_map spelling x.words ++ [] = front.body ∙ sym (append-nil (flat_map spelling x.words)) in
    let words : words_at h 0 (length x.words) (drop 16 (file format x)) ≡ Ok x.words = ap (words_at h 0 (length x.words)) body ∙ words_again h 0 x.words [] fits.count fits.words in
    let ended : ltb (16 + 4 * length x.words) (length (file format x)) ≡ false = le-ltb _ _ (omega arith) in
    rw (header, words, ended) refl

pub reading_of : (bytes : List ℕ) (x : Microprogram) → IsFileOf bytes x → reading bytes ≡ Ok x
reading_of bytes x is = elim is [ inl h ↦ ap reading h.1 ∙ reading_again One x h.0 | inr h ↦ ap reading h.1 ∙ reading_again Two x h.0 ]
