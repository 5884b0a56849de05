-- Reading words one after the other, as a loop does.
use Rattle.std.proofs.Common.{◌≡◌, ℕ, suc, ◌-◌, ◌+◌, ◌*◌, ◌≤◌, ◌<◌, List, [], ◌∷◌, ◌++◌, length, drop, Result, Ok, Err, refl, sym, ap, ◌∙◌, append_assoc, arith, length-drop}
use Rattle.std.specs.Prelude.{IsOk}
use Rattle.std.proofs.lemmas.List.{append-nil}
use Rattle.micro_word.specs.declared.word.Word.{Word}
use Rattle.micro_word.specs.declared.refusal.WordRefusal.{WordRefusal}
use Rattle.micro_word.specs.declared.header.Header.{Header}
use Rattle.micro_word.specs.Reading.{◌>>=◌, word_at, words_at}

-- what was read before, and what is still read
abbrev pub with_front : List Word → Result (List Word) WordRefusal → Result (List Word) WordRefusal
with_front front read = read >>= λ words. Ok (front ++ words)

-- The words before `place` are read, and the rest of the bytes has room for the others.
pub record IsSoFar (header : Header) (place : ℕ) (rest bytes : List ℕ) (front : List Word) : Type 0 where
  pub so_far : with_front front (words_at header place (header.words - place) rest) ≡ words_at header 0 header.words bytes
  pub room : 4 * (header.words - place) ≤ length rest

empty_front : (read : Result (List Word) WordRefusal) → with_front [] read ≡ read
empty_front (Ok words) = refl
empty_front (Err e) = refl

regroup : (front : List Word) (word : Word) (read : Result (List Word) WordRefusal) → with_front front (read >>= λ words. Ok (word ∷ words)) ≡ with_front (front ++ word ∷ []) read
regroup front word (Ok words) = ap (λ (ws : List Word). Ok ws) (sym (append_assoc front (word ∷ []) words))
regroup front word (Err e) = refl

pub begins : (header : Header) (bytes : List ℕ) → 4 * header.words ≤ length bytes → IsSoFar header 0 bytes bytes []
begins header bytes room =
    let all : header.words - 0 ≡ header.words = omega arith in
    record { so_far = rw all (empty_front (words_at header 0 header.words bytes)); room = omega arith }

pub goes_on : (header : Header) (place : ℕ) (rest bytes : List ℕ) (front : List Word) (word : Word) → place < header.words → word_at header place rest ≡ Ok word
    → IsSoFar header place rest bytes front → IsSoFar header (place + 1) (drop 4 rest) bytes (front ++ word ∷ [])
unfolding words_at
goes_on header place rest bytes front word lt read before =
    let left : header.words - place ≡ suc (header.words - (place + 1)) = omega arith in
    let one : with_front front (words_at header place (header.words - place) rest) ≡ with_front (front ++ word ∷ []) (words_at header (place + 1) (header.words - (place + 1)) (drop 4 rest))
    = rw (left, read) (regroup front word (words_at header (place + 1) (header.words - (place + 1)) (drop 4 rest))) in
    let room = before.room in
    record { so_far = sym one ∙ before.so_far; room = omega (arith, length-drop 4 rest) }

pub has_room : (header : Header) (place : ℕ) (rest bytes : List ℕ) (front : List Word) → place < header.words → IsSoFar header place rest bytes front → 4 ≤ length rest
has_room header place rest bytes front lt before = let room = before.room in omega arith

pub ends : (header : Header) (place : ℕ) (rest bytes : List ℕ) (front : List Word) (e : WordRefusal) → place < header.words → word_at header place rest ≡ Err e
    → IsSoFar header place rest bytes front → words_at header 0 header.words bytes ≡ Err e
unfolding words_at
ends header place rest bytes front e lt read before =
    let left : header.words - place ≡ suc (header.words - (place + 1)) = omega arith in
    let one : with_front front (words_at header place (header.words - place) rest) ≡ Err e = rw (left, read) refl in
    sym before.so_far ∙ one

pub is_done : (header : Header) (place : ℕ) (rest bytes : List ℕ) (front : List Word) → header.words ≤ place → IsSoFar header place rest bytes front → words_at header 0 header.words bytes ≡ Ok front
unfolding words_at
is_done header place rest bytes front le before =
    let left : header.words - place ≡ 0 = omega arith in
    let one : with_front front (words_at header place (header.words - place) rest) ≡ Ok front = rw left (ap (λ (ws : List Word). Ok ws) (append-nil front)) in
    sym before.so_far ∙ one

-- where all words are read, the next one is
pub next_is_ok : (header : Header) (place : ℕ) (rest bytes : List ℕ) (front : List Word) → place < header.words → IsOk (words_at header 0 header.words bytes)
    → IsSoFar header place rest bytes front → IsOk (word_at header place rest)
next_is_ok header place rest bytes front lt ok before = at (word_at header place rest) refl
  where
    at : (read : Result Word WordRefusal) → word_at header place rest ≡ read → IsOk read
    at (Ok word) is = refl
    at (Err e) is = let failed = ends header place rest bytes front e lt is before in cc
