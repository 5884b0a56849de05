-- What a reader is told by the lines of a dump, one after the other.
use Rattle.std.specs.Prelude.{codes, ok_or, if◌then◌else◌}
use Rattle.std.proofs.Common.{◌≡◌, ℕ, zero, suc, ◌+◌, ◌-◌, ◌*◌, ◌/◌, ◌%◌, ◌^◌, ◌<◌, ◌≤◌, ◌==◌, Bool, true, false, cond, not, ◌&&◌, leb, ltb, List, [], ◌∷◌, ◌++◌, length, map, Option, Some, None, Ok, Err, refl, sym, subst, ap, ◌∙◌, arith, append_assoc, append-nil, decimal as printed}
use Rattle.std.proofs.lemmas.Bool.{and_parts, and_from, lt-leb, le-leb, lt-ltb, eqb-true, false≢true}
use Rattle.std.proofs.lemmas.Fmt.{decimal_by_steps, decimal_nonempty}
use Rattle.trace_wave.specs.Changes.{change as change_text, changes, time_line, at_time, frame}
use Rattle.trace_wave.specs.Header.{settings}
use Rattle.vcd_text.specs.declared.fault.DumpFault.TheVariants.{NotDeclared, VectorTooLong}
use Rattle.vcd_text.specs.Body.{Widths, width_of, Event, Time, Change, Anything, Told, Quiet, Tells, time_after, after_word, fits, change, told_from, any_word}
use Rattle.vcd_text.specs.Tokens.{◌>>=◌, is_digit, decimal_from, decimal, level_of, is_known, are_bits}
use Rattle.vcd_text.specs.Words.{is_blank, line_after, ended, words_from}
use Rattle.wave_laws.specs.Told.{change_event, change_events, events_at, frame_events, setting_events}

-- ---- 1. words

-- no white space
abbrev pub is_dark : List ℕ → Bool
is_dark [] = true
is_dark (b ∷ word) = not (is_blank b) && is_dark word

-- a word up to white space
pub word_before : (word front : List ℕ) (line b : ℕ) (X : List ℕ) → is_blank b ≡ true → is_dark word ≡ true →
    words_from line front (word ++ (b ∷ X)) ≡ ended line (front ++ word) (words_from (line_after line b) [] X)
word_before [] front line b X blank h =
    ap (λ x. cond x (ended line front (words_from (line_after line b) [] X)) (words_from line (front ++ (b ∷ [])) X)) blank
    ∙ ap (λ (w : List ℕ). ended line w (words_from (line_after line b) [] X)) (sym (append-nil front))
word_before (c ∷ word) front line b X blank h = at (is_blank c) refl (word_before word (front ++ (c ∷ [])) line b X blank (and_parts (not (is_blank c)) (is_dark word) h).1)
  where
    at : (x : Bool) → is_blank c ≡ x → words_from line (front ++ (c ∷ [])) (word ++ (b ∷ X)) ≡ ended line ((front ++ (c ∷ [])) ++ word) (words_from (line_after line b) [] X) →
        words_from line front ((c ∷ word) ++ (b ∷ X)) ≡ ended line (front ++ (c ∷ word)) (words_from (line_after line b) [] X)
    at true e go = let clear = (and_parts (not (is_blank c)) (is_dark word) h).0 in cc
    at false e go =
        ap (λ x. cond x (ended line front (words_from (line_after line c) [] (word ++ (b ∷ X)))) (words_from line (front ++ (c ∷ [])) (word ++ (b ∷ X)))) e
        ∙ go
        ∙ ap (λ (w : List ℕ). ended line w (words_from (line_after line b) [] X)) (append_assoc front (c ∷ []) word)

-- and up to the end of its line
pub word_through : (word : List ℕ) (line : ℕ) (X : List ℕ) → is_dark word ≡ true → words_from line [] (word ++ (10 ∷ X)) ≡ ended line word (words_from (line + 1) [] X)
word_through word line X h = word_before word [] line 10 X refl h

-- ---- 2. numbers

from_append : (n : ℕ) (xs ys : List ℕ) (m : ℕ) → decimal_from n xs ≡ Some m → decimal_from n (xs ++ ys) ≡ decimal_from m ys
from_append n [] ys m h = let same : n ≡ m = cc in ap (λ k. decimal_from k ys) same
from_append n (b ∷ xs) ys m h = at (is_digit b && ltb n 1000000000000000000) h (from_append (10 * n + (b - 48)) xs ys m)
  where
    at : (x : Bool) → cond x (decimal_from (10 * n + (b - 48)) xs) None ≡ Some m → (decimal_from (10 * n + (b - 48)) xs ≡ Some m → decimal_from (10 * n + (b - 48)) (xs ++ ys) ≡ decimal_from m ys) → cond x (decimal_from (10 * n + (b - 48)) (xs ++ ys)) None ≡ decimal_from m ys
    at true e go = go e
    at false e go = cc

digit_is : (d : ℕ) → d < 10 → is_digit (48 + d) ≡ true
digit_is d h = and_from (leb 48 (48 + d)) (leb (48 + d) 57) (le-leb 48 (48 + d) (omega arith)) (le-leb (48 + d) 57 (omega (arith, h)))

one_digit : (n d : ℕ) → d < 10 → n < 1000000000000000000 → decimal_from n ((48 + d) ∷ []) ≡ Some (10 * n + d)
one_digit n d h small =
    let value : 10 * n + (48 + d - 48) ≡ 10 * n + d = omega arith in
    rw (digit_is d h, lt-ltb n 1000000000000000000 small) (ap Some value)

pub read_back : (t : ℕ) → t < 10 ^ 18 → decimal_from 0 (printed t) ≡ Some t
read_back t small = decimal_by_steps (λ m ds. m < 10 ^ 18 → decimal_from 0 ds ≡ Some m) first more t (omega (arith, small)) small
  where
    first : (m : ℕ) → m < 10 → m < 10 ^ 18 → decimal_from 0 ((48 + m) ∷ []) ≡ Some m
    first m h s = one_digit 0 m h (omega arith) ∙ ap Some (omega arith)

    more : (m : ℕ) (ds : List ℕ) → 10 ≤ m → (m / 10 < 10 ^ 18 → decimal_from 0 ds ≡ Some (m / 10)) → m < 10 ^ 18 → decimal_from 0 (ds ++ ((48 + m % 10) ∷ [])) ≡ Some m
    more m ds h before s =
        from_append 0 ds ((48 + m % 10) ∷ []) (m / 10) (before (omega (arith, s)))
        ∙ one_digit (m / 10) (m % 10) (omega arith) (omega (arith, s))
        ∙ ap Some (omega arith)

dark_append : (xs ys : List ℕ) → is_dark xs ≡ true → is_dark ys ≡ true → is_dark (xs ++ ys) ≡ true
dark_append [] ys h k = k
dark_append (b ∷ xs) ys h k = let a = and_parts (not (is_blank b)) (is_dark xs) h in and_from (not (is_blank b)) (is_dark (xs ++ ys)) a.0 (dark_append xs ys a.1 k)

dark_digit : (d : ℕ) → is_dark ((48 + d) ∷ []) ≡ true
dark_digit d = rw (lt-leb (48 + d) 32 (omega arith)) refl

pub dark_number : (t : ℕ) → t < 10 ^ 18 → is_dark (printed t) ≡ true
dark_number t small = decimal_by_steps (λ m ds. is_dark ds ≡ true) (λ m h. dark_digit m) (λ m ds h before. dark_append ds ((48 + m % 10) ∷ []) before (dark_digit (m % 10))) t (omega (arith, small))

number_is : (ds : List ℕ) (m : ℕ) → 0 < length ds → decimal_from 0 ds ≡ Some m → decimal ds ≡ Some m
number_is [] m some h = absurd (omega (arith, some))
number_is (b ∷ ds) m some h = h

pub read_number : (t : ℕ) → t < 10 ^ 18 → decimal (printed t) ≡ Some t
read_number t small = number_is (printed t) t (decimal_nonempty t (omega (arith, small))) (read_back t small)

-- ---- 3. what a text says

-- at a time, and at a later one within this limit, it tells these events, whatever follows
pub record Heard (widths : Widths) (time limit l line : ℕ) (text X : List ℕ) (events : List Event) : Type 0 where
  pub later : ℕ
  pub within : later ≤ limit
  pub l' : ℕ
  pub line' : ℕ
  pub told : told_from widths (record { time = time; next = Anything }) l (words_from line [] (text ++ X)) ≡ map Ok events ++ told_from widths (record { time = later; next = Anything }) l' (words_from line' [] X)

abbrev pub Says : Widths → (from limit : ℕ) → List ℕ → List Event → Type 0
Says widths from limit text events = (time l line : ℕ) (X : List ℕ) → time ≤ from → Heard widths time limit l line text X events

pub says_nothing : (widths : Widths) (from limit : ℕ) → from ≤ limit → Says widths from limit [] []
says_nothing widths from limit within time l line X h = record { later = time; within = omega (arith, h, within); l' = l; line' = line; told = refl }

pub says_within : (widths : Widths) (from near limit : ℕ) (text : List ℕ) (events : List Event) → near ≤ limit → Says widths from near text events → Says widths from limit text events
says_within widths from near limit text events within s time l line X h = let x = s time l line X h in record { later = x.later; within = (let w = x.within in omega (arith, w, within)); l' = x.l'; line' = x.line'; told = x.told }

map_append : (es fs : List Event) → map {B = Told} Ok (es ++ fs) ≡ map Ok es ++ map Ok fs
map_append [] fs = refl
map_append (e ∷ es) fs = ap (λ (ts : List Told). Ok e ∷ ts) (map_append es fs)

pub says_both : (widths : Widths) (a b c : ℕ) (text more : List ℕ) (es fs : List Event) → Says widths a b text es → Says widths b c more fs → Says widths a c (text ++ more) (es ++ fs)
says_both widths a b c text more es fs s r time l line X h =
    let x = s time l line (more ++ X) h in
    let y = r x.later x.l' x.line' X x.within in
    let after = told_from widths (record { time = y.later; next = Anything }) y.l' (words_from y.line' [] X) in
    record {
      later = y.later;
      within = y.within;
      l' = y.l';
      line' = y.line';
      told =
          ap (λ (w : List ℕ). told_from widths (record { time = time; next = Anything }) l (words_from line [] w)) (append_assoc text more X)
          ∙ x.told
          ∙ ap (λ (ts : List Told). map Ok es ++ ts) y.told
          ∙ sym (append_assoc (map Ok es) (map Ok fs) after)
          ∙ ap (λ (ts : List Told). ts ++ after) (sym (map_append es fs));
    }

-- a word in a line of its own that tells an event
says_word : (widths : Widths) (from limit : ℕ) (b : ℕ) (word : List ℕ) (event : Event) → is_dark (b ∷ word) ≡ true → ((time : ℕ) → time ≤ from → (any_word widths time (b ∷ word) ≡ Ok (Tells event)) × (time_after time event ≤ limit)) → Says widths from limit (b ∷ (word ++ (10 ∷ []))) (event ∷ [])
says_word widths from limit b word event dark tells time l line X h =
    record {
      later = time_after time event;
      within = (tells time h).1;
      l' = line;
      line' = line + 1;
      told =
          ap (λ (w : List ℕ). told_from widths (record { time = time; next = Anything }) l (words_from line [] (b ∷ w))) (append_assoc word (10 ∷ []) X)
          ∙ ap (told_from widths (record { time = time; next = Anything }) l) (word_through (b ∷ word) line X dark)
          ∙ ap (λ s. after_word line time s (λ later. told_from widths later line (words_from (line + 1) [] X))) (tells time h).0;
    }

-- a mark in a line of its own, of which nothing is told
pub says_mark : (widths : Widths) (from b : ℕ) (word : List ℕ) → is_dark (b ∷ word) ≡ true → ((time : ℕ) → any_word widths time (b ∷ word) ≡ Ok (Quiet Anything)) → Says widths from from (b ∷ (word ++ (10 ∷ []))) []
says_mark widths from b word dark tells time l line X h =
    record {
      later = time;
      within = h;
      l' = line;
      line' = line + 1;
      told =
          ap (λ (w : List ℕ). told_from widths (record { time = time; next = Anything }) l (words_from line [] (b ∷ w))) (append_assoc word (10 ∷ []) X)
          ∙ ap (told_from widths (record { time = time; next = Anything }) l) (word_through (b ∷ word) line X dark)
          ∙ ap (λ s. after_word line time s (λ later. told_from widths later line (words_from (line + 1) [] X))) (tells time);
    }

-- ---- 4. times

pub says_zero : (widths : Widths) → Says widths 0 0 (codes "#0\n") (Time 0 ∷ [])
says_zero widths = says_word widths 0 0 35 (48 ∷ []) (Time 0) refl (λ time within. (rw (le-leb time 0 within) refl, omega arith))

pub says_time : (widths : Widths) (from t : ℕ) → from ≤ t → t < 10 ^ 18 → Says widths from t (time_line t) (Time t ∷ [])
says_time widths from t h small =
    says_word widths from t 35 (printed t) (Time t) (dark_number t small) (λ time within. (rw (read_number t small) (rw (le-leb time t (omega (arith, h, within))) refl), omega arith))

-- ---- 5. changes

-- a character of a level is one of these
module _ (P : ℕ → Type 0) (low : P 48) (high : P 49) (unknown : P 120) (capital : P 88) (open' : P 122) (wide : P 90) where
  pub each_level : (b : ℕ) → is_known (level_of b) ≡ true → P b
  each_level b h = at1 (b == 48) refl
    where
      at6 : b == 48 ≡ false → b == 49 ≡ false → b == 120 ≡ false → b == 88 ≡ false → b == 122 ≡ false → (x : Bool) → b == 90 ≡ x → P b
      at6 e1 e2 e3 e4 e5 true e = subst P (sym (eqb-true b 90 e)) wide
      at6 e1 e2 e3 e4 e5 false e = absurd (let no : false ≡ true = cc in false≢true no)

      at5 : b == 48 ≡ false → b == 49 ≡ false → b == 120 ≡ false → b == 88 ≡ false → (x : Bool) → b == 122 ≡ x → P b
      at5 e1 e2 e3 e4 true e = subst P (sym (eqb-true b 122 e)) open'
      at5 e1 e2 e3 e4 false e = at6 e1 e2 e3 e4 e (b == 90) refl

      at4 : b == 48 ≡ false → b == 49 ≡ false → b == 120 ≡ false → (x : Bool) → b == 88 ≡ x → P b
      at4 e1 e2 e3 true e = subst P (sym (eqb-true b 88 e)) capital
      at4 e1 e2 e3 false e = at5 e1 e2 e3 e (b == 122) refl

      at3 : b == 48 ≡ false → b == 49 ≡ false → (x : Bool) → b == 120 ≡ x → P b
      at3 e1 e2 true e = subst P (sym (eqb-true b 120 e)) unknown
      at3 e1 e2 false e = at4 e1 e2 e (b == 88) refl

      at2 : b == 48 ≡ false → (x : Bool) → b == 49 ≡ x → P b
      at2 e1 true e = subst P (sym (eqb-true b 49 e)) high
      at2 e1 false e = at3 e1 e (b == 120) refl

      at1 : (x : Bool) → b == 48 ≡ x → P b
      at1 true e = subst P (sym (eqb-true b 48 e)) low
      at1 false e = at2 e (b == 49) refl

-- each code from here on has a bit
abbrev pub is_one : Option ℕ → Bool
is_one None = false
is_one (Some n) = n == 1

abbrev pub have_bits : Widths → (code count : ℕ) → Bool
have_bits widths code zero = true
have_bits widths code (suc count) = is_one (width_of widths code) && have_bits widths (code + 1) count

-- a change
fitted : (widths : Widths) (b code : ℕ) → width_of widths code ≡ Some 1 → change widths (b ∷ []) (code ∷ []) ≡ Ok (Tells (Change code (b ∷ [])))
fitted widths b code wide =
    ap (λ (k : ℕ). ok_or (width_of widths k) NotDeclared >>= λ width. if fits width (b ∷ []) then Ok (Tells (Change k (b ∷ []))) else Err VectorTooLong) same
    ∙ ap (λ (w : Option ℕ). ok_or w NotDeclared >>= λ width. if fits width (b ∷ []) then Ok (Tells (Change code (b ∷ []))) else Err VectorTooLong) wide
  where
    same : 0 + code ≡ code
    same = omega arith

change_tells : (widths : Widths) (b code : ℕ) → is_known (level_of b) ≡ true → width_of widths code ≡ Some 1 → (time : ℕ) → any_word widths time (b ∷ (code ∷ [])) ≡ Ok (Tells (Change code (b ∷ [])))
change_tells widths b code known wide time =
    let tells = λ (b : ℕ). fitted widths b code wide in
    each_level (λ b. any_word widths time (b ∷ (code ∷ [])) ≡ Ok (Tells (Change code (b ∷ [])))) (tells 48) (tells 49) (tells 120) (tells 88) (tells 122) (tells 90) b known

dark_change : (b code : ℕ) → is_known (level_of b) ≡ true → 33 ≤ code → is_dark (b ∷ (code ∷ [])) ≡ true
dark_change b code known dark =
    let is_so : is_dark (code ∷ []) ≡ true = rw (lt-leb code 32 (omega (arith, dark))) refl in
    each_level (λ b. is_dark (b ∷ (code ∷ [])) ≡ true) is_so is_so is_so is_so is_so is_so b known

says_change : (widths : Widths) (at b code : ℕ) → is_known (level_of b) ≡ true → 33 ≤ code → width_of widths code ≡ Some 1 → Says widths at at (b ∷ (code ∷ (10 ∷ []))) (Change code (b ∷ []) ∷ [])
says_change widths at b code known dark wide =
    says_word widths at at b (code ∷ []) (Change code (b ∷ [])) (dark_change b code known dark) (λ time h. (change_tells widths b code known wide time, h))

is_one_only : (o : Option ℕ) → is_one o ≡ true → o ≡ Some 1
is_one_only None h = absurd (false≢true h)
is_one_only (Some n) h = ap Some (eqb-true n 1 h)

-- the settings
pub says_settings : (widths : Widths) (at : ℕ) (values : List ℕ) (code : ℕ) → 33 ≤ code → are_bits values ≡ true → have_bits widths code (length values) ≡ true →
    Says widths at at (settings code values) (setting_events code values)
says_settings widths at [] code dark bits have = says_nothing widths at at (omega arith)
says_settings widths at (b ∷ values) code dark bits have =
    let bit = and_parts (is_known (level_of b)) (are_bits values) bits in
    let wide = and_parts (is_one (width_of widths code)) (have_bits widths (code + 1) (length values)) have in
    says_both widths at at at (b ∷ (code ∷ (10 ∷ []))) (settings (code + 1) values) (Change code (b ∷ []) ∷ []) (setting_events (code + 1) values)
    (says_change widths at b code bit.0 dark (is_one_only (width_of widths code) wide.0))
    (says_settings widths at values (code + 1) (omega (arith, dark)) bit.1 wide.1)

-- those that change
pub says_changes : (widths : Widths) (at : ℕ) (before after : List ℕ) (code : ℕ) → 33 ≤ code → are_bits after ≡ true → have_bits widths code (length before) ≡ true →
    Says widths at at (changes code before after) (change_events code before after)
says_changes widths at [] after code dark bits have = says_nothing widths at at (omega arith)
says_changes widths at (b ∷ before) [] code dark bits have = says_nothing widths at at (omega arith)
says_changes widths at (b ∷ before) (a ∷ after) code dark bits have =
    says_both widths at at at (change_text code b a) (changes (code + 1) before after) (change_event code b a) (change_events (code + 1) before after)
    (one (b == a))
    (says_changes widths at before after (code + 1) (omega (arith, dark)) bit.1 wide.1)
  where
    bit : (is_known (level_of a) ≡ true) × (are_bits after ≡ true)
    bit = and_parts (is_known (level_of a)) (are_bits after) bits

    wide : (is_one (width_of widths code) ≡ true) × (have_bits widths (code + 1) (length before) ≡ true)
    wide = and_parts (is_one (width_of widths code)) (have_bits widths (code + 1) (length before)) have

    one : (x : Bool) → Says widths at at (cond x [] (a ∷ (code ∷ (10 ∷ [])))) (cond x [] (Change code (a ∷ []) ∷ []))
    one true = says_nothing widths at at (omega arith)
    one false = says_change widths at a code bit.0 dark (is_one_only (width_of widths code) wide.0)

-- ---- 6. frames

abbrev pub is_empty : {A : Type 0} → List A → Bool
is_empty [] = true
is_empty (x ∷ xs) = false

empty_append : {A : Type 0} (xs ys : List A) → is_empty (xs ++ ys) ≡ (is_empty xs && is_empty ys)
empty_append [] ys = refl
empty_append (x ∷ xs) ys = refl

empty_together : (before after : List ℕ) (code : ℕ) → is_empty (changes code before after) ≡ is_empty (change_events code before after)
empty_together [] after code = refl
empty_together (b ∷ before) [] code = refl
empty_together (b ∷ before) (a ∷ after) code =
    empty_append (change_text code b a) (changes (code + 1) before after)
    ∙ ap (λ (x : Bool). is_empty (change_text code b a) && x) (empty_together before after (code + 1))
    ∙ ap (λ (x : Bool). x && is_empty (change_events (code + 1) before after)) (one (b == a))
    ∙ sym (empty_append (change_event code b a) (change_events (code + 1) before after))
  where
    one : (x : Bool) → is_empty {A = ℕ} (cond x [] (a ∷ (code ∷ (10 ∷ [])))) ≡ is_empty {A = Event} (cond x [] (Change code (a ∷ []) ∷ []))
    one true = refl
    one false = refl

says_at_time : (widths : Widths) (from t : ℕ) (text : List ℕ) (events : List Event) → is_empty text ≡ is_empty events → from ≤ t → t < 10 ^ 18 → Says widths t t text events → Says widths from t (at_time t text) (events_at t events)
says_at_time widths from t [] [] same h small s = says_nothing widths from t h
says_at_time widths from t [] (e ∷ events) same h small s = absurd (false≢true (sym same))
says_at_time widths from t (b ∷ text) [] same h small s = absurd (false≢true same)
says_at_time widths from t (b ∷ text) (e ∷ events) same h small s =
    says_both widths from t t (time_line t) (b ∷ text) (Time t ∷ []) (e ∷ events) (says_time widths from t h small) s

pub says_frame : (widths : Widths) (from t : ℕ) (before after : List ℕ) → from ≤ t → t < 10 ^ 18 → are_bits after ≡ true → have_bits widths 33 (length before) ≡ true →
    Says widths from t (frame t before after) (frame_events t before after)
says_frame widths from t before after h small bits have =
    says_at_time widths from t (changes 33 before after) (change_events 33 before after) (empty_together before after 33) h small
    (says_changes widths t before after 33 (omega arith) bits have)
