-- What is read of a file of a text are its words.
use Rattle.std.proofs.Common.{◌≡◌, ℕ, zero, suc, ◌+◌, ◌*◌, ◌<◌, Bool, true, cond, ltb, List, [], ◌∷◌, length, drop, Some, Result, Ok, Err, sym, ap, subst, ◌∙◌, arith}
use Rattle.std.specs.Prelude.{slice_get}
use Rattle.std.proofs.lemmas.Bool.Decides.{nat_tests}
use Rattle.std.proofs.lemmas.List.{drop-drop}
use Rattle.micro_word.specs.declared.format.Format.{Format}
use Rattle.micro_word.specs.declared.word.Word.{Word}
use Rattle.micro_word.specs.declared.refusal.WordFault.TheVariants.{TrailingBytes}
use Rattle.micro_word.specs.declared.refusal.WordRefusal.{WordRefusal}
use Rattle.micro_word.specs.declared.refusal.WordRefusal.TheVariants.{Fault}
use Rattle.micro_word.specs.Text.{Microprogram}
use Rattle.micro_word.specs.Reading.{◌>>=◌, header_at, word_at, words_at, reading}
use Rattle.micro_word.proofs.WordLists.{bind_ok, passed_false}
use Rattle.word_file.specs.declared.word.WordMissing.TheVariants as missing
use Rattle.word_file.specs.Words.{by_result, as_word, word_in}

abbrev done : List Word → Result (List Word) WordRefusal
done ws = Ok ws

same_word : (v w : Word) → Some v ≡ Some w → v ≡ w
same_word v w h = cc

none_there : (ws : List Word) (k : ℕ) (w : Word) → [] ≡ ws → slice_get ws k ≡ Some w → ⊥
none_there ws k w e h = let nothing : slice_get [] k ≡ Some w = subst (λ (x : List Word). slice_get x k ≡ Some w) (sym e) h in cc

-- the word of number k of those that are read
nth_word : (f : Format) (n rows buffer budget place left k : ℕ) (bytes : List ℕ) (ws : List Word) (w : Word)
    → words_at (record { format = f; words = n; rows = rows; buffer = buffer; budget = budget }) place left bytes ≡ Ok ws → slice_get ws k ≡ Some w
    → (k < left) × (word_at (record { format = f; words = n; rows = rows; buffer = buffer; budget = budget }) (place + k) (drop (4 * k) bytes) ≡ Ok w)
unfolding words_at
nth_word f n rows buffer budget place zero k bytes ws w e h = absurd (none_there ws k w (let g : done [] ≡ done ws = e in cc) h)
nth_word f n rows buffer budget place (suc left) k bytes ws w e h =
    let first = bind_ok (word_at (record { format = f; words = n; rows = rows; buffer = buffer; budget = budget }) place bytes)
    (λ word. words_at (record { format = f; words = n; rows = rows; buffer = buffer; budget = budget }) (place + 1) left (drop 4 bytes) >>= λ others. Ok (word ∷ others)) ws e in
    let others = bind_ok (words_at (record { format = f; words = n; rows = rows; buffer = buffer; budget = budget }) (place + 1) left (drop 4 bytes)) (λ others. Ok (first.0 ∷ others)) ws first.2 in
    let last : first.0 ∷ others.0 ≡ ws = let g : done (first.0 ∷ others.0) ≡ done ws = others.2 in cc in
    at k first.0 others.0 first.1 (λ m. nth_word f n rows buffer budget (place + 1) left m (drop 4 bytes) others.0 w others.1) (subst (λ (x : List Word). slice_get x k ≡ Some w) (sym last) h)
  where
    at : (m : ℕ) (v : Word) (vs : List Word) → word_at (record { format = f; words = n; rows = rows; buffer = buffer; budget = budget }) place bytes ≡ Ok v
        → ((q : ℕ) → slice_get vs q ≡ Some w → (q < left) × (word_at (record { format = f; words = n; rows = rows; buffer = buffer; budget = budget }) (place + 1 + q) (drop (4 * q) (drop 4 bytes)) ≡ Ok w))
        → slice_get (v ∷ vs) m ≡ Some w
        → (m < suc left) × (word_at (record { format = f; words = n; rows = rows; buffer = buffer; budget = budget }) (place + m) (drop (4 * m) bytes) ≡ Ok w)
    at zero v vs one more g =
        let here : place + 0 ≡ place = omega arith in
        (omega arith, rw here (one ∙ ap Ok (same_word v w g)))
    at (suc m) v vs one more g =
        let rest = more m g in
        let here : place + 1 + m ≡ place + suc m = omega arith in
        let past : drop (4 * m) (drop 4 bytes) ≡ drop (4 * suc m) bytes = drop-drop (4 * m) 4 bytes ∙ ap (λ (x : ℕ). drop x bytes) (omega arith) in (
          omega (arith, rest.0),
          sym (ap (λ (x : ℕ). word_at (record { format = f; words = n; rows = rows; buffer = buffer; budget = budget }) x (drop (4 * suc m) bytes)) here)
              ∙ (sym (ap (word_at (record { format = f; words = n; rows = rows; buffer = buffer; budget = budget }) (place + 1 + m)) past) ∙ rest.1),
        )

abbrev read : Microprogram → Result Microprogram WordRefusal
read x = Ok x

abbrev text : (rows buffer budget : ℕ) → List Word → Microprogram
text rows buffer budget words = record { rows = rows; buffer = buffer; budget = budget; words = words }

pub words_are_read : (file : List ℕ) (x : Microprogram) → reading file ≡ Ok x → (k : ℕ) (w : Word) → slice_get x.words k ≡ Some w → word_in file k ≡ Ok w
unfolding reading
words_are_read file x e k w there =
    let a = bind_ok (header_at file) (λ h. words_at h 0 h.words (drop 16 file) >>= λ ws. cond (ltb (16 + 4 * h.words) (length file)) (Err (Fault TrailingBytes 0)) (Ok (text h.rows h.buffer h.budget ws))) x e in
    let h = a.0 in
    let b = bind_ok (words_at h 0 h.words (drop 16 file)) (λ ws. cond (ltb (16 + 4 * h.words) (length file)) (Err (Fault TrailingBytes 0)) (Ok (text h.rows h.buffer h.budget ws))) x a.2 in
    let g = passed_false (ltb (16 + 4 * h.words) (length file)) (Fault TrailingBytes 0) (Ok (text h.rows h.buffer h.budget b.0)) x b.2 in
    let same : b.0 ≡ x.words = words_of h.rows h.buffer h.budget b.0 g.1 in
    let nth = nth_word h.format h.words h.rows h.buffer h.budget 0 h.words k (drop 16 file) b.0 w b.1 (subst (λ (ws : List Word). slice_get ws k ≡ Some w) (sym same) there) in
    let zeroth : 0 + k ≡ k = omega arith in
    let past : drop (4 * k) (drop 16 file) ≡ drop (16 + 4 * k) file = drop-drop (4 * k) 16 file ∙ ap (λ (m : ℕ). drop m file) (omega arith) in
    let inside : ltb k h.words ≡ true = grind (arith, nat_tests, nth.0) in
    ap (λ r. by_result r (λ refusal. Err (missing.Fault refusal)) (λ h. cond (ltb k h.words) (as_word (word_at h k (drop (16 + 4 * k) file))) (Err missing.PastTheEnd))) a.1
    ∙ (ap (λ (t : Bool). cond t (as_word (word_at h k (drop (16 + 4 * k) file))) (Err missing.PastTheEnd)) inside
    ∙ ap as_word (sym (ap (word_at h k) past) ∙ (sym (ap (λ (m : ℕ). word_at h m (drop (4 * k) (drop 16 file))) zeroth) ∙ nth.1)))
  where
    words_of : (rows buffer budget : ℕ) (ws : List Word) → read (text rows buffer budget ws) ≡ read x → ws ≡ x.words
    words_of rows buffer budget ws r = let whole : text rows buffer budget ws ≡ x = cc in ap (λ (y : Microprogram). y.words) whole

-- so many words are read
so_many : (f : Format) (n rows buffer budget place left : ℕ) (bytes : List ℕ) (ws : List Word)
    → words_at (record { format = f; words = n; rows = rows; buffer = buffer; budget = budget }) place left bytes ≡ Ok ws → length ws ≡ left
unfolding words_at
so_many f n rows buffer budget place zero bytes ws e = let none : [] ≡ ws = let g : done [] ≡ done ws = e in cc in sym (ap length none)
so_many f n rows buffer budget place (suc left) bytes ws e =
    let first = bind_ok (word_at (record { format = f; words = n; rows = rows; buffer = buffer; budget = budget }) place bytes)
    (λ word. words_at (record { format = f; words = n; rows = rows; buffer = buffer; budget = budget }) (place + 1) left (drop 4 bytes) >>= λ others. Ok (word ∷ others)) ws e in
    let others = bind_ok (words_at (record { format = f; words = n; rows = rows; buffer = buffer; budget = budget }) (place + 1) left (drop 4 bytes)) (λ others. Ok (first.0 ∷ others)) ws first.2 in
    let last : first.0 ∷ others.0 ≡ ws = let g : done (first.0 ∷ others.0) ≡ done ws = others.2 in cc in
    sym (ap length last) ∙ ap suc (so_many f n rows buffer budget (place + 1) left (drop 4 bytes) others.0 others.1)

-- what hangs on the header of a file of a text hangs on that text
pub header_is_read : {B : Type 0} (file : List ℕ) (x : Microprogram) (fault : WordRefusal → B) (value : (rows buffer words : ℕ) → B) → reading file ≡ Ok x
    → by_result (header_at file) fault (λ h. value h.rows h.buffer h.words) ≡ value x.rows x.buffer (length x.words)
unfolding reading
header_is_read {B} file x fault value e =
    let a = bind_ok (header_at file) (λ h. words_at h 0 h.words (drop 16 file) >>= λ ws. cond (ltb (16 + 4 * h.words) (length file)) (Err (Fault TrailingBytes 0)) (Ok (text h.rows h.buffer h.budget ws))) x e in
    let h = a.0 in
    let b = bind_ok (words_at h 0 h.words (drop 16 file)) (λ ws. cond (ltb (16 + 4 * h.words) (length file)) (Err (Fault TrailingBytes 0)) (Ok (text h.rows h.buffer h.budget ws))) x a.2 in
    let g = passed_false (ltb (16 + 4 * h.words) (length file)) (Fault TrailingBytes 0) (Ok (text h.rows h.buffer h.budget b.0)) x b.2 in
    let same : text h.rows h.buffer h.budget b.0 ≡ x = the_text (text h.rows h.buffer h.budget b.0) x g.1 in
    let count = so_many h.format h.words h.rows h.buffer h.budget 0 h.words (drop 16 file) b.0 b.1 in
    ap (λ r. by_result r fault (λ h. value h.rows h.buffer h.words)) a.1
    ∙ (ap (value h.rows h.buffer) (sym count) ∙ ap (λ (y : Microprogram). value y.rows y.buffer (length y.words)) same)
  where
    the_text : (y z : Microprogram) → read y ≡ read z → y ≡ z
    the_text y z r = cc
