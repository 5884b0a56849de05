-- What the header of a dump declares.
use Rattle.std.specs.Prelude.{codes}
use Rattle.std.specs.Ordering.{nat_cmp, match_ordering, is_eq}
use Rattle.std.specs.BTreeMap.{insert_entry}
use Rattle.std.proofs.Common.{◌≡◌, ℕ, zero, suc, ◌+◌, ◌==◌, ◌≤◌, ◌<◌, Bool, true, false, cond, not, ◌&&◌, List, [], ◌∷◌, ◌++◌, length, Some, None, Ordering, Greater, refl, sym, ap, ◌∙◌, arith, append_assoc, append-nil}
use Rattle.std.proofs.lemmas.Bool.{and_parts, lt-leb, le-ltb, ne_eqb, eqb-true, false≢true, not-true}
use Rattle.trace_wave.specs.Header.{variable}
use Rattle.vcd_text.specs.Tokens.{is_named}
use Rattle.vcd_text.specs.Body.{Widths, width_of}
use Rattle.vcd_text.specs.Words.{Word, line_after, words_from}
use Rattle.vcd_text.specs.Header.{Header, Variable, reading}
use Rattle.vcd_text.proofs.Signals.{word_at, words_of, with_signal, section_read}
use Rattle.wave_laws.specs.Told.{signal}
use Rattle.wave_laws.proofs.Texts.{is_dark, word_before, is_empty}

-- ---- 1. the line of a signal

-- a name of a signal
abbrev pub is_name : List ℕ → Bool
is_name [] = false
is_name (b ∷ name) = is_dark (b ∷ name) && not (is_named (b ∷ name) (codes "$end"))

line_words : (line code b : ℕ) (name X : List ℕ) → 33 ≤ code → is_dark (b ∷ name) ≡ true →
    words_from line [] (variable code (b ∷ name) ++ X) ≡ words_of line code (b ∷ name) (words_from (line + 1) [] X)
line_words line code b name X dark name_dark =
    ap (λ (ws : List Word). word_at line (codes "$var") ∷ (word_at line (codes "wire") ∷ (word_at line (codes "1") ∷ ws))) (
    ap (λ (x : Bool). cond x (words_from (line_after line code) [] (32 ∷ (((b ∷ name) ++ codes " $end\n") ++ X))) (words_from line (code ∷ []) (32 ∷ (((b ∷ name) ++ codes " $end\n") ++ X)))) (lt-leb code 32 (omega (arith, dark)))
    ∙ ap (λ (ws : List Word). word_at line (code ∷ []) ∷ ws) (
    ap (λ (w : List ℕ). words_from line [] w) (append_assoc (b ∷ name) (codes " $end\n") X)
    ∙ word_before (b ∷ name) [] line 32 (codes "$end\n" ++ X) refl name_dark))

-- ---- 2. the signals, one after the other

-- a header in which so many codes have a bit
abbrev pub bits_from : (code count : ℕ) → Widths
bits_from code zero = []
bits_from code (suc count) = (code, 1) ∷ bits_from (code + 1) count

abbrev pub so_far : List Variable → ℕ → Header
so_far vs k = record { variables = vs; widths = bits_from 33 k }

pub is_above : (code c : ℕ) → c < code → nat_cmp code c ≡ Greater
is_above code c h = rw (le-ltb code c (omega (arith, h))) (rw (ne_eqb code c (λ e. absurd (omega (arith, h, e)))) refl)

not_yet : (k c code : ℕ) → c + k ≤ code → width_of (bits_from c k) code ≡ None
not_yet zero c code h = refl
not_yet (suc k) c code h =
    ap (λ (o : Ordering). cond (is_eq o) (Some 1) (width_of (bits_from (c + 1) k) code)) (is_above code c (omega (arith, h)))
    ∙ not_yet k (c + 1) code (omega (arith, h))

inserted : (k c code : ℕ) → code ≡ c + k → insert_entry nat_cmp (bits_from c k) code 1 ≡ bits_from c (suc k)
inserted zero c code h = let same : code ≡ c = omega (arith, h) in ap (λ (n : ℕ). (n, 1) ∷ []) same
inserted (suc k) c code h =
    ap (λ (o : Ordering). match_ordering o ((code, 1) ∷ ((c, 1) ∷ bits_from (c + 1) k)) ((c, 1) ∷ bits_from (c + 1) k) ((c, 1) ∷ insert_entry nat_cmp (bits_from (c + 1) k) code 1)) (is_above code c (omega (arith, h)))
    ∙ ap (λ (ws : Widths). (c, 1) ∷ ws) (inserted k (c + 1) code (omega (arith, h)))

one_more : (vs : List Variable) (k code : ℕ) (name : List ℕ) → code ≡ 33 + k → with_signal (so_far vs k) code name ≡ so_far (vs ++ (signal code name ∷ [])) (suc k)
one_more vs k code name e = ap (λ (w : Widths). record { variables = vs ++ (signal code name ∷ []); widths = w }) (inserted k 33 code e)

-- a text declares what makes this header of that one
pub record Declared (h later : Header) (l line : ℕ) (text X : List ℕ) : Type 0 where
  pub l' : ℕ
  pub line' : ℕ
  pub is_read : reading h None l (words_from line [] (text ++ X)) ≡ reading later None l' (words_from line' [] X)

abbrev pub Declares : (h later : Header) → List ℕ → Type 0
Declares h later text = (l line : ℕ) (X : List ℕ) → Declared h later l line text X

-- the lines of these signals
abbrev pub declared_text : List Variable → List ℕ
declared_text [] = []
declared_text (s ∷ ss) = variable s.code s.name ++ declared_text ss

abbrev pub is_signal : (code : ℕ) → Variable → Bool
is_signal code s = (s.code == code) && ((s.width == 1) && (is_empty s.range && is_name s.name))

-- they have these codes, and names
abbrev pub are_in_order : (code : ℕ) → List Variable → Bool
are_in_order code [] = true
are_in_order code (s ∷ ss) = is_signal code s && are_in_order (code + 1) ss

signal_is : (s : Variable) → s.width ≡ 1 → s.range ≡ [] → s ≡ signal s.code s.name
signal_is s w r =
    ap (λ (x : List ℕ). record { name = s.name; range = x; width = s.width; code = s.code }) r
    ∙ ap (λ (n : ℕ). record { name = s.name; range = []; width = n; code = s.code }) w

declares_line : (vs : List Variable) (k code : ℕ) (name : List ℕ) → is_name name ≡ true → code ≡ 33 + k → Declares (so_far vs k) (so_far (vs ++ (signal code name ∷ [])) (suc k)) (variable code name)
declares_line vs k code [] named e l line X = absurd (false≢true named)
declares_line vs k code (b ∷ name) named e l line X =
    let parts = and_parts (is_dark (b ∷ name)) (not (is_named (b ∷ name) (codes "$end"))) named in
    record {
      l' = line;
      line' = line + 1;
      is_read =
          ap (λ (ws : List Word). reading (so_far vs k) None l ws) (line_words line code b name X (omega (arith, e)) parts.0)
          ∙ section_read (so_far vs k) l line code (b ∷ name) (words_from (line + 1) [] X) (not-true (is_named (b ∷ name) (codes "$end")) parts.1) (not_yet k 33 code (omega (arith, e)))
          ∙ ap (λ (h : Header). reading h None line (words_from (line + 1) [] X)) (one_more vs k code (b ∷ name) e);
    }

-- all of them
pub declares_all : (ss vs : List Variable) (k code : ℕ) → code ≡ 33 + k → are_in_order code ss ≡ true → Declares (so_far vs k) (so_far (vs ++ ss) (k + length ss)) (declared_text ss)
declares_all [] vs k code e h l line X = record { l' = l; line' = line; is_read = same }
  where
    same : reading (so_far vs k) None l (words_from line [] X) ≡ reading (so_far (vs ++ []) (k + 0)) None l (words_from line [] X)
    same = let zero' : k ≡ k + 0 = omega arith in
        ap (λ (v : List Variable). reading (so_far v k) None l (words_from line [] X)) (sym (append-nil vs))
        ∙ ap (λ (n : ℕ). reading (so_far (vs ++ []) n) None l (words_from line [] X)) zero'
declares_all (s ∷ ss) vs k code e h l line X =
    let parts = and_parts (is_signal code s) (are_in_order (code + 1) ss) h in
    let first = and_parts (s.code == code) ((s.width == 1) && (is_empty s.range && is_name s.name)) parts.0 in
    let second = and_parts (s.width == 1) (is_empty s.range && is_name s.name) first.1 in
    let third = and_parts (is_empty s.range) (is_name s.name) second.1 in
    let code_is : s.code ≡ 33 + k = eqb-true s.code code first.0 ∙ e in
    let here = declares_line vs k s.code s.name third.1 code_is l line (declared_text ss ++ X) in
    let later = declares_all ss (vs ++ (signal s.code s.name ∷ [])) (suc k) (code + 1) (omega (arith, e)) parts.1 here.l' here.line' X in
    record {
      l' = later.l';
      line' = later.line';
      is_read =
          ap (λ (w : List ℕ). reading (so_far vs k) None l (words_from line [] w)) (append_assoc (variable s.code s.name) (declared_text ss) X)
          ∙ here.is_read
          ∙ later.is_read
          ∙ ap (λ (h : Header). reading h None later.l' (words_from later.line' [] X)) (last (signal_is s (eqb-true s.width 1 second.0) (none s.range third.0)));
    }
  where
    none : (r : List ℕ) → is_empty r ≡ true → r ≡ []
    none [] h = refl
    none (b ∷ r) h = absurd (false≢true h)

    last : s ≡ signal s.code s.name → so_far ((vs ++ (signal s.code s.name ∷ [])) ++ ss) (suc k + length ss) ≡ so_far (vs ++ (s ∷ ss)) (k + suc (length ss))
    last is =
        let count : suc k + length ss ≡ k + suc (length ss) = omega arith in
        ap (λ (v : List Variable). so_far v (suc k + length ss)) (append_assoc vs (signal s.code s.name ∷ []) ss ∙ ap (λ (x : Variable). vs ++ (x ∷ ss)) (sym is))
        ∙ ap (λ (n : ℕ). so_far (vs ++ (s ∷ ss)) n) count
