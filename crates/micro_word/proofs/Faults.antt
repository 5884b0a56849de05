-- Where reading fails, and that it never fails for want of memory.
use Rattle.std.proofs.Common.{◌≡◌, ℕ, zero, suc, ◌+◌, Bool, true, false, cond, List, [], ◌∷◌, drop, Option, Some, None, Result, Ok, Err, refl, ap}
use Rattle.std.specs.Prelude.{ok_or, slice_index}
use Rattle.micro_word.specs.declared.refusal.WordFault.{WordFault}
use Rattle.micro_word.specs.declared.refusal.WordFault.TheVariants.{TooShort, UnknownFormat, TooManyWords, UnknownCode, UnusedFieldSet, OutOfRange}
use Rattle.micro_word.specs.declared.refusal.WordRefusal.{WordRefusal}
use Rattle.micro_word.specs.declared.refusal.WordRefusal.TheVariants.{Fault, OutOfMemory}
use Rattle.micro_word.specs.declared.header.Header.{Header}
use Rattle.micro_word.specs.Word.{is_in_range, word_of, has_stray}
use Rattle.micro_word.specs.Reading.{◌>>=◌, Gives, u16_at, format_at, header_in, judged, header_at, word_at, words_at, reading}

abbrev value : {A : Type 0} → A → Result A WordRefusal
value x = Ok x

abbrev refused : {A : Type 0} → WordRefusal → Result A WordRefusal
refused e = Err e

-- it isn't want of memory
pub record IsNotMemory {A : Type 0} (r : Result A WordRefusal) : Type 0 where
  pub other : r ≡ Err OutOfMemory → ⊥

of_value : {A : Type 0} (x : A) → IsNotMemory (value x)
of_value x = record { other = λ e. cc }

of_fault : {A : Type 0} (code : WordFault) (word : ℕ) → IsNotMemory (refused {A = A} (Fault code word))
of_fault code word = record { other = λ e. cc }

of_bind : {A B : Type 0} (r : Result A WordRefusal) (f : A → Result B WordRefusal) → IsNotMemory r → ((x : A) → IsNotMemory (f x)) → IsNotMemory (r >>= f)
of_bind (Ok x) f h k = k x
of_bind (Err e) f h k = record { other = λ q. let same : e ≡ OutOfMemory = cc in h.other (ap (λ x. Err x) same) }

of_test : {A : Type 0} (b : Bool) (r q : Result A WordRefusal) → IsNotMemory r → IsNotMemory q → IsNotMemory (cond b r q)
of_test true r q h k = h
of_test false r q h k = k

of_option : {A : Type 0} (o : Option A) (code : WordFault) (word : ℕ) → IsNotMemory (ok_or o (Fault code word))
of_option (Some x) code word = of_value x
of_option None code word = of_fault code word

judged_is_fault : (h : Header) (bytes : List ℕ) → IsNotMemory (judged h bytes)
judged_is_fault h bytes = of_test _ _ _ (of_fault TooManyWords 0) (of_test _ _ _ (of_value h) (of_fault OutOfRange 0))

header_is_fault : (bytes : List ℕ) → IsNotMemory (header_at bytes)
unfolding header_at
header_is_fault bytes = of_test _ _ _ (of_fault TooShort 0) (of_bind (ok_or (format_at bytes) (Fault UnknownFormat 0)) (λ format. judged (header_in format bytes) bytes) (of_option (format_at bytes) UnknownFormat 0) (λ format. judged_is_fault (header_in format bytes) bytes))

word_is_fault : (h : Header) (place : ℕ) (bytes : List ℕ) → IsNotMemory (word_at h place bytes)
unfolding word_at
word_is_fault h place bytes =
    of_bind (ok_or (word_of h.format (slice_index bytes 0) (slice_index bytes 1) (u16_at bytes 2)) (Fault UnknownCode place))
    (λ w. cond (has_stray h.format w (slice_index bytes 1) (u16_at bytes 2)) (Err (Fault UnusedFieldSet place)) (cond (is_in_range h.format h.words w) (Ok w) (Err (Fault OutOfRange place))))
    (of_option (word_of h.format (slice_index bytes 0) (slice_index bytes 1) (u16_at bytes 2)) UnknownCode place)
    (λ w. of_test _ _ _ (of_fault UnusedFieldSet place) (of_test _ _ _ (of_value w) (of_fault OutOfRange place)))

words_are_fault : (h : Header) (place count : ℕ) (bytes : List ℕ) → IsNotMemory (words_at h place count bytes)
unfolding words_at
words_are_fault h place zero bytes = of_value []
words_are_fault h place (suc n) bytes =
    of_bind (word_at h place bytes) (λ w. words_at h (place + 1) n (drop 4 bytes) >>= λ ws. Ok (w ∷ ws)) (word_is_fault h place bytes)
    (λ w. of_bind (words_at h (place + 1) n (drop 4 bytes)) (λ ws. Ok (w ∷ ws)) (words_are_fault h (place + 1) n (drop 4 bytes)) (λ ws. of_value (w ∷ ws)))

-- a fault of the header is the fault of the file
pub header_fails : (bytes : List ℕ) (e : WordRefusal) → header_at bytes ≡ Err e → Gives (Err e) (reading bytes)
unfolding reading
header_fails bytes (Fault code word) h = rw h refl
header_fails bytes OutOfMemory h = absurd ((header_is_fault bytes).other h)

-- and so is one of the words
pub words_fail : (bytes : List ℕ) (h : Header) (e : WordRefusal) → header_at bytes ≡ Ok h → words_at h 0 h.words (drop 16 bytes) ≡ Err e → Gives (Err e) (reading bytes)
unfolding reading
words_fail bytes h (Fault code word) first second = rw (first, second) refl
words_fail bytes h OutOfMemory first second = absurd ((words_are_fault h 0 h.words (drop 16 bytes)).other second)
