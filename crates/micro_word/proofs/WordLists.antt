-- The words of a file, as they are read and as they are spelled.
use Rattle.std.proofs.Common.{◌≡◌, ℕ, zero, suc, ◌+◌, ◌*◌, ◌/◌, ◌%◌, ◌<◌, ◌≤◌, Bool, true, false, cond, List, [], ◌∷◌, ◌++◌, length, get_or, drop, Option, Some, None, Result, Ok, Err, refl, sym, ap, subst, ◌∙◌, append_assoc, arith, length-append, length-drop}
use Rattle.std.specs.Prelude.{IfSome, ok_or, slice_index}
use Rattle.std.specs.List.{flat_map, AllByRecursion}
use Rattle.std.proofs.lemmas.List.{get_or-drop, drop-drop}
use Rattle.micro_word.specs.declared.word.Word.{Word}
use Rattle.micro_word.specs.declared.refusal.WordFault.TheVariants.{UnknownCode, UnusedFieldSet, OutOfRange}
use Rattle.micro_word.specs.declared.refusal.WordRefusal.{WordRefusal}
use Rattle.micro_word.specs.declared.refusal.WordRefusal.TheVariants.{Fault}
use Rattle.micro_word.specs.declared.header.Header.{Header}
use Rattle.micro_word.specs.Word.{IsInRange, is_in_range, four, spelling, word_of, has_stray}
use Rattle.micro_word.specs.Reading.{◌>>=◌, u16_at, word_at, words_at}
use Rattle.micro_word.proofs.Ranges.{in_range, passes}
use Rattle.micro_word.proofs.Words.{Spells, word_spells, spelled}

abbrev pub IsBytes : List ℕ → Type 0
IsBytes bytes = (i : ℕ) → get_or bytes i 0 < 256

pub IsBytes-drop : (n : ℕ) (bytes : List ℕ) → IsBytes bytes → IsBytes (drop n bytes)
IsBytes-drop n bytes h i = rw get_or-drop (h (n + i))

-- the value of a step that did not fail
pub bind_ok : {A B : Type 0} (r : Result A WordRefusal) (f : A → Result B WordRefusal) (y : B) → (r >>= f) ≡ Ok y → (x : A) × (r ≡ Ok x) × (f x ≡ Ok y)
bind_ok (Ok x) f y e = (x, refl, e)
bind_ok (Err d) f y e = absurd cc

pub some_of : {A : Type 0} (o : Option A) (e : WordRefusal) (x : A) → ok_or o e ≡ Ok x → o ≡ Some x
some_of (Some y) e x h = cc
some_of None e x h = absurd cc

-- a test that did not fail
pub passed_false : {A : Type 0} (b : Bool) (d : WordRefusal) (r : Result A WordRefusal) (y : A) → cond b (Err d) r ≡ Ok y → (b ≡ false) × (r ≡ Ok y)
passed_false true d r y e = absurd cc
passed_false false d r y e = (refl, e)

pub passed_true : {A : Type 0} (b : Bool) (d : WordRefusal) (x y : A) → cond b (Ok x) (Err d) ≡ Ok y → (b ≡ true) × (x ≡ y)
passed_true true d x y e = (refl, cc)
passed_true false d x y e = absurd cc

first_four : (bytes : List ℕ) → 4 ≤ length bytes → bytes ≡ get_or bytes 0 0 ∷ get_or bytes 1 0 ∷ get_or bytes 2 0 ∷ get_or bytes 3 0 ∷ drop 4 bytes
first_four (a ∷ b ∷ c ∷ d ∷ rest) long = refl
first_four [] long = absurd (omega arith)
first_four (a ∷ []) long = absurd (omega arith)
first_four (a ∷ b ∷ []) long = absurd (omega arith)
first_four (a ∷ b ∷ c ∷ []) long = absurd (omega arith)

-- a number of two bytes is spelled by them
pub low_byte : (x y : ℕ) → x < 256 → (x + 256 * y) % 256 ≡ x
low_byte x y h = omega arith

pub high_byte : (x y : ℕ) → x < 256 → y < 256 → (x + 256 * y) / 256 % 256 ≡ y
high_byte x y h k = omega arith

four_of : (code a x y : ℕ) (rest : List ℕ) → x < 256 → y < 256 → code ∷ a ∷ x ∷ y ∷ rest ≡ four code a (x + 256 * y) ++ rest
four_of code a x y rest h k = let low = low_byte x y h in let high = high_byte x y h k in cc

-- what a word is read from
pub record WordTaken (header : Header) (bytes : List ℕ) (w : Word) : Type 0 where
  pub parts : bytes ≡ spelling w ++ drop 4 bytes
  pub fits : IsInRange header.format header.words w

pub word_takes : (header : Header) (place : ℕ) (bytes : List ℕ) (w : Word) → IsBytes bytes → 4 ≤ length bytes → word_at header place bytes ≡ Ok w → WordTaken header bytes w
unfolding word_at
word_takes header place bytes w fits long e =
    let code = slice_index bytes 0 in
    let a = slice_index bytes 1 in
    let b = u16_at bytes 2 in
    let format = header.format in
    let words = header.words in
    let found = bind_ok (ok_or (word_of format code a b) (Fault UnknownCode place)) (λ x. cond (has_stray format x a b) (Err (Fault UnusedFieldSet place)) (cond (is_in_range format words x) (Ok x) (Err (Fault OutOfRange place)))) w e in
    let is : word_of format code a b ≡ Some found.0 = some_of (word_of format code a b) (Fault UnknownCode place) found.0 found.1 in
    let clean = passed_false (has_stray format found.0 a b) (Fault UnusedFieldSet place) (cond (is_in_range format words found.0) (Ok found.0) (Err (Fault OutOfRange place))) w found.2 in
    let ranged = passed_true (is_in_range format words found.0) (Fault OutOfRange place) found.0 w clean.1 in
    let range : IsInRange format words found.0 = in_range format words found.0 ranged.0 in
    let small_2 = fits 2 in
    let small_3 = fits 3 in
    let spells : Spells format words code a b found.0 = subst (λ (o : Option Word). IfSome o (Spells format words code a b)) is (word_spells format words code a b (fits 1) (omega arith)) in
    let text : spelling found.0 ≡ four code a b = spells clean.0 range in
    let taken : WordTaken header bytes found.0 = record {
      parts = first_four bytes long ∙ four_of code a (get_or bytes 2 0) (get_or bytes 3 0) (drop 4 bytes) small_2 small_3 ∙ ap (λ (t : List ℕ). t ++ drop 4 bytes) (sym text);
      fits = range;
    } in
    subst (λ (x : Word). WordTaken header bytes x) ranged.1 taken

pub word_again : (header : Header) (place : ℕ) (w : Word) (rest : List ℕ) → header.words ≤ 1024 → IsInRange header.format header.words w → word_at header place (spelling w ++ rest) ≡ Ok w
unfolding word_at
word_again header place w rest few fits =
    let s = spelled header.format header.words w few fits in
    let small = s.small in
    let b-is : s.b % 256 + 256 * (s.b / 256 % 256) ≡ s.b = omega arith in
    let ranged = passes header.format header.words w fits in
    ap (λ (t : List ℕ). word_at header place (t ++ rest)) s.bytes ∙ rw (b-is, s.word, s.stray, ranged) refl

drop_spelling : (header : Header) (w : Word) (rest : List ℕ) → header.words ≤ 1024 → IsInRange header.format header.words w → drop 4 (spelling w ++ rest) ≡ rest
drop_spelling header w rest few fits = let s = spelled header.format header.words w few fits in ap (λ (t : List ℕ). drop 4 (t ++ rest)) s.bytes

length-spelling : (header : Header) (w : Word) → header.words ≤ 1024 → IsInRange header.format header.words w → length (spelling w) ≡ 4
length-spelling header w few fits = let s = spelled header.format header.words w few fits in ap length s.bytes

-- what words are read from
pub record WordsTaken (header : Header) (count : ℕ) (bytes : List ℕ) (ws : List Word) : Type 0 where
  pub parts : bytes ≡ flat_map spelling ws ++ drop (4 * count) bytes
  pub count_is : length ws ≡ count
  pub fits : AllByRecursion (IsInRange header.format header.words) ws

abbrev done : List Word → Result (List Word) WordRefusal
done ws = Ok ws

pub words_take : (header : Header) (place count : ℕ) (bytes : List ℕ) (ws : List Word) → IsBytes bytes → 4 * count ≤ length bytes → words_at header place count bytes ≡ Ok ws → WordsTaken header count bytes ws
unfolding words_at
words_take header place zero bytes ws fits long e =
    let empty : [] ≡ ws = let h : done [] ≡ done ws = e in cc in
    subst (λ (x : List Word). WordsTaken header 0 bytes x) empty (record { parts = refl; count_is = refl; fits = tt })
words_take header place (suc n) bytes ws fits long e =
    let first = bind_ok (word_at header place bytes) (λ w. words_at header (place + 1) n (drop 4 bytes) >>= λ others. Ok (w ∷ others)) ws e in
    let others = bind_ok (words_at header (place + 1) n (drop 4 bytes)) (λ others. Ok (first.0 ∷ others)) ws first.2 in
    let one = word_takes header place bytes first.0 fits (omega arith) first.1 in
    let more = words_take header (place + 1) n (drop 4 bytes) others.0 (IsBytes-drop 4 bytes fits) (omega (arith, length-drop 4 bytes)) others.1 in
    let past : drop (4 * n) (drop 4 bytes) ≡ drop (4 * suc n) bytes = drop-drop (4 * n) 4 bytes ∙ ap (λ (k : ℕ). drop k bytes) (omega arith) in
    let tail : drop 4 bytes ≡ flat_map spelling others.0 ++ drop (4 * suc n) bytes = more.parts ∙ ap (λ (t : List ℕ). flat_map spelling others.0 ++ t) past in
    let whole : bytes ≡ (spelling first.0 ++ flat_map spelling others.0) ++ drop (4 * suc n) bytes =
    one.parts ∙ ap (λ (t : List ℕ). spelling first.0 ++ t) tail ∙ sym (append_assoc (spelling first.0) (flat_map spelling others.0) (drop (4 * suc n) bytes)) in
    let count : length others.0 ≡ n = more.count_is in
    let last : first.0 ∷ others.0 ≡ ws = let h : done (first.0 ∷ others.0) ≡ done ws = others.2 in cc in
    subst (λ (x : List Word). WordsTaken header (suc n) bytes x) last (record { parts = whole; count_is = ap suc count; fits = (one.fits, more.fits) })

pub words_again : (header : Header) (place : ℕ) (ws : List Word) (rest : List ℕ) → header.words ≤ 1024 → AllByRecursion (IsInRange header.format header.words) ws
    → words_at header place (length ws) (flat_map spelling ws ++ rest) ≡ Ok ws
unfolding words_at
words_again header place [] rest few fits = refl
words_again header place (w ∷ ws) rest few fits =
    let after : List ℕ = flat_map spelling ws ++ rest in
    let regrouped : (spelling w ++ flat_map spelling ws) ++ rest ≡ spelling w ++ after = append_assoc (spelling w) (flat_map spelling ws) rest in
    let first = word_again header place w after few fits.0 in
    let moved = drop_spelling header w after few fits.0 in
    let others = words_again header (place + 1) ws rest few fits.1 in
    ap (words_at header place (suc (length ws))) regrouped ∙ rw (first, moved, others) refl

pub length-spellings : (header : Header) (ws : List Word) → header.words ≤ 1024 → AllByRecursion (IsInRange header.format header.words) ws → length (flat_map spelling ws) ≡ 4 * length ws
length-spellings header [] few fits = refl
length-spellings header (w ∷ ws) few fits =
    let first = length-spelling header w few fits.0 in
    let others = length-spellings header ws few fits.1 in
    omega (arith, length-append (spelling w) (flat_map spelling ws))
