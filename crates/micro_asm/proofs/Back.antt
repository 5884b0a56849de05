-- The written lines, read one after another.
use Rattle.std.proofs.Common.{◌≡◌, ℕ, ◌+◌, ◌<◌, ◌≤◌, Bool, true, false, ◌||◌, cond, eqb, ltb, List, [], ◌∷◌, ◌++◌, length, map, Option, Some, None, Result, Ok, Err, refl, sym, ap, ◌∙◌, append_assoc, length-append, arith}
use Rattle.std.specs.Prelude.{codes, is_some, ok_or, if◌then◌else◌}
use Rattle.std.specs.Fmt.{decimal}
use Rattle.std.specs.List.{AllByRecursion}
use Rattle.std.specs.Map.{update}
use Rattle.std.specs.Str.{bytes_eq}
use Rattle.std.specs.Str.Parse.{digits_value}
use Rattle.std.proofs.lemmas.Bool.{lt-ltb, eqb-true, false_from_ne_true}
use Rattle.std.proofs.lemmas.Bool.Decides.{nat_tests}
use Rattle.std.proofs.lemmas.Fmt.{digits_value-decimal}
use Rattle.std.proofs.lemmas.List.{append-nil, length-map, map-append}
use Rattle.std.proofs.lemmas.Map.{update_same, update_other}
use Rattle.std.proofs.lemmas.Slice.Eq.{bytes_eq-Decides}
use Rattle.micro_word.specs.declared.format.Format.TheVariants.{Two}
use Rattle.micro_word.specs.declared.word.Word.{Word}
use Rattle.micro_word.specs.declared.word.Word.TheVariants as word
use Rattle.micro_word.specs.Text.{Microprogram, FitsFormat}
use Rattle.micro_word.specs.Word.{IsInRange}
use Rattle.micro_asm.specs.declared.refusal.AsmRefusal.{AsmRefusal}
use Rattle.micro_asm.specs.declared.refusal.AsmFault.TheVariants.{UnknownWord}
use Rattle.micro_asm.specs.declared.heading.Numbers.{Numbers}
use Rattle.micro_asm.specs.declared.heading.Heading.TheVariants as heading
use Rattle.micro_asm.specs.declared.names.Name.{Name}
use Rattle.micro_asm.specs.Assembly.{label, word_text, branches_to, is_target, assembly}
use Rattle.micro_asm.specs.Line.{◌>>=◌, Entry, Label, Entered, spelled, fields, fields_line, first_line, before_comment, begins_word, name_of, word_name, label_of, label_line}
use Rattle.micro_asm.specs.Reading.{Seen, nothing_seen, last_word, with_line, with_lines, placed, with_label, with_entry, led, words_of, given, reading, seen_in, lines}
use Rattle.micro_asm.specs.Again.{entry_of, WrittenIsRead}
use Rattle.micro_asm.proofs.Again.{words_are_spelled, headers_are_spelled, labels_are_spelled}
use Rattle.micro_asm.proofs.Numbers.{own}
use Rattle.micro_asm.proofs.WrittenLines.{label_part, word_part, header_part, lines_written}

-- ---- labels of places

same_place : (p q : ℕ) → p < 1024 → q < 1024 → bytes_eq (label p) (label q) ≡ true → p ≡ q
same_place p q low high e =
    let same : label p ≡ label q = (bytes_eq-Decides (label p) (label q)).0 e in
    let digits : decimal p ≡ decimal q = cc in
    sym (digits_value-decimal own p (omega arith)) ∙ (ap (digits_value 10) digits ∙ digits_value-decimal own q (omega arith))

-- places below this one that a branch names have their labels, and later ones none
record LabelsTo (all : List Word) (at : ℕ) (labels : List ℕ → Option ℕ) : Type 0 where
  pub low : (p : ℕ) → p < at → is_target all p ≡ true → labels (label p) ≡ Some p
  pub high : (p : ℕ) → at ≤ p → p < 1024 → labels (label p) ≡ None

added_here : (labels : List ℕ → Option ℕ) (at : ℕ) → update bytes_eq labels (label at) (Some at) (label at) ≡ Some at
added_here labels at = update_same bytes_eq labels (label at) (Some at) (label at) ((bytes_eq-Decides (label at) (label at)).1 refl)

added_other : (labels : List ℕ → Option ℕ) (at p : ℕ) → at < 1024 → p < 1024 → (at ≡ p → ⊥) → update bytes_eq labels (label at) (Some at) (label p) ≡ labels (label p)
added_other labels at p low high apart = update_other bytes_eq labels (label at) (Some at) (label p) (false_from_ne_true (bytes_eq (label at) (label p)) (λ e. apart (same_place at p low high e)))

labels_skip : (all : List Word) (at : ℕ) (labels : List ℕ → Option ℕ) → is_target all at ≡ false → LabelsTo all at labels → LabelsTo all (at + 1) labels
labels_skip all at labels none before = record {
  low = λ p below named. by_test p (eqb at p) refl below named;
  high = λ p above small. before.high p (omega arith) small;
}
  where
    by_test : (p : ℕ) (t : Bool) → eqb at p ≡ t → p < at + 1 → is_target all p ≡ true → labels (label p) ≡ Some p
    by_test p true e below named =
        let same : at ≡ p = eqb-true at p e in
        let here : is_target all p ≡ false = ap (is_target all) (sym same) ∙ none in
        absurd cc
    by_test p false e below named =
        let less : p < at = grind (arith, nat_tests) in
        before.low p less named

labels_add : (all : List Word) (at : ℕ) (labels : List ℕ → Option ℕ) → at < 1024 → LabelsTo all at labels → LabelsTo all (at + 1) (update bytes_eq labels (label at) (Some at))
labels_add all at labels room before = record {
  low = λ p below named. by_test p (eqb at p) refl below named;
  high = λ p above small. added_other labels at p room small (λ e. absurd (omega arith)) ∙ before.high p (omega arith) small;
}
  where
    by_test : (p : ℕ) (t : Bool) → eqb at p ≡ t → p < at + 1 → is_target all p ≡ true → update bytes_eq labels (label at) (Some at) (label p) ≡ Some p
    by_test p true e below named =
        let same : at ≡ p = eqb-true at p e in
        ap (λ (q : ℕ). update bytes_eq labels (label at) (Some at) (label q)) (sym same) ∙ (added_here labels at ∙ ap (λ (q : ℕ). Some q) same)
    by_test p false e below named =
        let less : p < at = grind (arith, nat_tests) in
        added_other labels at p room (omega arith) (λ same. absurd (omega arith)) ∙ before.low p less named

-- ---- the last line with a word

picked : (t : Bool) (found n : ℕ) → found ≤ n → (found ≤ cond t n found) × (cond t n found ≤ n)
picked true found n h = (h, omega arith)
picked false found n h = (omega arith, h)

last_high : (found n : ℕ) (ls : List (List ℕ)) → found ≤ n → found ≤ last_word found n ls
unfolding last_word
last_high found n [] h = omega arith
last_high found n (l ∷ ls) h =
    let next = cond (begins_word (fields (before_comment l))) n found in
    let both : (found ≤ next) × (next ≤ n) = picked (begins_word (fields (before_comment l))) found n h in
    let later : next ≤ last_word next (n + 1) ls = last_high next (n + 1) ls (omega (arith, both.1)) in
    omega (arith, both.0, later)

-- a line that is read as a word begins with a word's name
no_entry_of : (o : Option (List ℕ)) (t : Bool) (e : Entry) → (ok_or o UnknownWord >>= λ name. if t then Err UnknownWord else Ok (Label name)) ≡ Ok (Entered e) → ⊥
no_entry_of None t e h = cc
no_entry_of (Some name) true e h = cc
no_entry_of (Some name) false e h = cc

no_entry : (first : List ℕ) (operands : List (List ℕ)) (e : Entry) → label_line first operands ≡ Ok (Entered e) → ⊥
unfolding label_line
no_entry first operands e is = no_entry_of (label_of first) (ltb 0 (length operands)) e is

begins_fields : (fs : List (List ℕ)) (e : Entry) → fields_line false fs ≡ Ok (Entered e) → begins_word fs ≡ true
unfolding fields_line begins_word name_of
begins_fields [] e is = absurd cc
begins_fields (first ∷ operands) e is = by_name (word_name first) is
  where
    by_name : (o : Option Name) → first_line o first operands ≡ Ok (Entered e) → is_some o ≡ true
    by_name (Some name) h = refl
    by_name None h = absurd (no_entry first operands e h)

begins : (line : List ℕ) (e : Entry) → spelled false line ≡ Ok (Entered e) → begins_word (fields (before_comment line)) ≡ true
unfolding spelled
begins line e is = begins_fields (fields (before_comment line)) e is

-- ---- one line

-- what has been read once the header is whole
abbrev state : ℕ → Numbers → List (ℕ × Entry) → (List ℕ → Option ℕ) → Seen
state line numbers entries labels = record { line = line; heading = heading.Whole numbers; entries = entries; labels = labels }

label_step : (last line : ℕ) (numbers : Numbers) (entries : List (ℕ × Entry)) (labels : List ℕ → Option ℕ) (at : ℕ) → at < 1024 → labels (label at) ≡ None → line < last
    → with_line last (state line numbers entries labels) (label at ++ codes ":") ≡ Ok (state (line + 1) numbers entries (update bytes_eq labels (label at) (Some (length entries))))
unfolding with_line placed with_label
label_step last line numbers entries labels at low none before =
    let test = lt-ltb line last before in
    rw (labels_are_spelled false at low, none, test) refl

word_step : (last line : ℕ) (numbers : Numbers) (entries : List (ℕ × Entry)) (labels : List ℕ → Option ℕ) (count : ℕ) (w : Word) → count ≤ 1024 → IsInRange Two count w → length entries < 1024
    → with_line last (state line numbers entries labels) (word_text w) ≡ Ok (state (line + 1) numbers (entries ++ (line, entry_of w) ∷ []) labels)
unfolding with_line placed with_entry
word_step last line numbers entries labels count w most fits low =
    let test = lt-ltb (length entries) 1024 low in
    rw (words_are_spelled count w most fits, test) refl

-- ---- all lines of words

abbrev entry_in : ℕ × Entry → Entry
entry_in e = e.1

abbrev read_as : Seen → Result Seen AsmRefusal
read_as seen = Ok seen

record ReadWhole (all : List Word) (numbers : Numbers) (last : ℕ) (from : Seen) (ls : List (List ℕ)) : Type 0 where
  pub line : ℕ
  pub entries : List (ℕ × Entry)
  pub labels : List ℕ → Option ℕ
  pub read : with_lines last from ls ≡ Ok (state line numbers entries labels)
  pub words : map entry_in entries ≡ map entry_of all
  pub named : (p : ℕ) → p < length all → is_target all p ≡ true → labels (label p) ≡ Some p

after : (all : List Word) (numbers : Numbers) (last : ℕ) (from next : Seen) (l : List ℕ) (ls : List (List ℕ)) → with_line last from l ≡ Ok next → ReadWhole all numbers last next ls → ReadWhole all numbers last from (l ∷ ls)
unfolding with_lines
after all numbers last from next l ls e r = record {
  line = r.line;
  entries = r.entries;
  labels = r.labels;
  read = ap (λ (read : Result Seen AsmRefusal). read >>= λ s. with_lines last s ls) e ∙ r.read;
  words = r.words;
  named = r.named;
}

-- the lines that follow the words in front are read whole, whatever has been read up to there
abbrev Onward : (all front : List Word) (at last : ℕ) (numbers : Numbers) (ls : List (List ℕ)) → Type 0
Onward all front at last numbers ls =
    (line found : ℕ) (entries : List (ℕ × Entry)) (labels : List ℕ → Option ℕ) → map entry_in entries ≡ map entry_of front → LabelsTo all at labels → last ≡ last_word found line ls → ReadWhole all numbers last (state line numbers entries labels) ls

word_last : (last found line : ℕ) (l : List ℕ) (ls : List (List ℕ)) (e : Entry) → spelled false l ≡ Ok (Entered e) → last ≡ last_word found line (l ∷ ls) → last ≡ last_word line (line + 1) ls
unfolding last_word
word_last last found line l ls e is h = h ∙ ap (λ (t : Bool). last_word (cond t line found) (line + 1) ls) (begins l e is)

word_read : (all front : List Word) (at last : ℕ) (numbers : Numbers) (ls : List (List ℕ)) (w : Word) (line found : ℕ) (entries : List (ℕ × Entry)) (labels : List ℕ → Option ℕ)
    → Onward all (front ++ w ∷ []) at last numbers ls → length all ≤ 1024 → IsInRange Two (length all) w → length front < 1024
    → map entry_in entries ≡ map entry_of front → LabelsTo all at labels → last ≡ last_word found line (word_text w ∷ ls)
    → ReadWhole all numbers last (state line numbers entries labels) (word_text w ∷ ls)
word_read all front at last numbers ls w line found entries labels onward most fits low words named is_last =
    let many : length entries ≡ length front = omega (arith, length-map entries entry_in, length-map front entry_of, ap length words) in
    let step = word_step last line numbers entries labels (length all) w most fits (omega arith) in
    let more : map entry_in (entries ++ (line, entry_of w) ∷ []) ≡ map entry_of (front ++ w ∷ []) =
    map-append entry_in entries ((line, entry_of w) ∷ []) ∙ (ap (λ (es : List Entry). es ++ entry_of w ∷ []) words ∙ sym (map-append entry_of front (w ∷ []))) in
    let next = word_last last found line (word_text w) ls (entry_of w) (words_are_spelled (length all) w most fits) is_last in
    after all numbers last (state line numbers entries labels) (state (line + 1) numbers (entries ++ (line, entry_of w) ∷ []) labels) (word_text w) ls step
    (onward (line + 1) line (entries ++ (line, entry_of w) ∷ []) labels more named next)

label_last : (last found line : ℕ) (l m : List ℕ) (ls : List (List ℕ)) (e : Entry) → spelled false m ≡ Ok (Entered e) → last ≡ last_word found line (l ∷ (m ∷ ls))
    → (line < last) × (last ≡ last_word (cond (begins_word (fields (before_comment l))) line found) (line + 1) (m ∷ ls))
unfolding last_word
label_last last found line l m ls e is h =
    let later : last ≡ last_word (cond (begins_word (fields (before_comment l))) line found) (line + 1) (m ∷ ls) = h in
    let at_word = word_last last (cond (begins_word (fields (before_comment l))) line found) (line + 1) m ls e is later in
    (omega (arith, at_word, last_high (line + 1) (line + 1 + 1) ls (omega arith)), later)

label_read : (all front : List Word) (at last : ℕ) (numbers : Numbers) (ls : List (List ℕ)) (w : Word) (line found : ℕ) (entries : List (ℕ × Entry)) (labels : List ℕ → Option ℕ) (named : Bool)
    → is_target all at ≡ named → Onward all (front ++ w ∷ []) (at + 1) last numbers ls → length all ≤ 1024 → IsInRange Two (length all) w → length front ≡ at → at < 1024
    → map entry_in entries ≡ map entry_of front → LabelsTo all at labels → last ≡ last_word found line (label_part named at ++ (word_text w ∷ ls))
    → ReadWhole all numbers last (state line numbers entries labels) (label_part named at ++ (word_text w ∷ ls))
label_read all front at last numbers ls w line found entries labels false is onward most fits count low words before is_last =
    word_read all front (at + 1) last numbers ls w line found entries labels onward most fits (omega arith) words (labels_skip all at labels is before) is_last
label_read all front at last numbers ls w line found entries labels true is onward most fits count low words before is_last =
    let many : length entries ≡ at = omega (arith, length-map entries entry_in, length-map front entry_of, ap length words) in
    let tested = label_last last found line (label at ++ codes ":") (word_text w) ls (entry_of w) (words_are_spelled (length all) w most fits) is_last in
    let step = label_step last line numbers entries labels at low (before.high at (omega arith) low) tested.0 ∙ ap (λ (n : ℕ). read_as (state (line + 1) numbers entries (update bytes_eq labels (label at) (Some n)))) many in
    after all numbers last (state line numbers entries labels) (state (line + 1) numbers entries (update bytes_eq labels (label at) (Some at))) (label at ++ codes ":") (word_text w ∷ ls) step
    (word_read all front (at + 1) last numbers ls w (line + 1) (cond (begins_word (fields (before_comment (label at ++ codes ":")))) line found) entries (update bytes_eq labels (label at) (Some at)) onward most fits (omega arith) words (labels_add all at labels low before) tested.1)

all_read : (all front ws : List Word) (at last : ℕ) (numbers : Numbers) → front ++ ws ≡ all → length front ≡ at → length all ≤ 1024 → AllByRecursion (IsInRange Two (length all)) ws → Onward all front at last numbers (word_part all at ws)
unfolding with_lines
all_read all front [] at last numbers whole count most fits = λ line found entries labels words named is_last.
    let same : front ≡ all = sym (append-nil front) ∙ whole in
    record {
      line = line;
      entries = entries;
      labels = labels;
      read = refl;
      words = words ∙ ap (map entry_of) same;
      named = λ p low. named.low p (omega (arith, ap length same));
    }
all_read all front (w ∷ ws) at last numbers whole count most fits = λ line found entries labels words named is_last.
    let long : length front + length (w ∷ ws) ≡ length all = sym (length-append front (w ∷ ws)) ∙ ap length whole in
    let longer : length (front ++ w ∷ []) ≡ at + 1 = omega (arith, length-append front (w ∷ []), count) in
    let onward = all_read all (front ++ w ∷ []) ws (at + 1) last numbers (append_assoc front (w ∷ []) ws ∙ whole) longer most fits.1 in
    label_read all front at last numbers (word_part all (at + 1) ws) w line found entries labels (is_target all at) refl onward most fits.0 count (omega arith) words named is_last

-- ---- the words again

same_number : (n : ℕ) → eqb n n ≡ true
same_number n = grind (arith, nat_tests)

led_back : (n : ℕ) (labels : List ℕ → Option ℕ) (w : Word) → IsInRange Two n w → ((p : ℕ) → p < n → branches_to p w ≡ true → labels (label p) ≡ Some p) → led n labels (entry_of w) ≡ Some w
led_back n labels (word.BranchOnStatus mask target) fits named =
    let test = lt-ltb target n fits.2 in
    rw (named target fits.2 (same_number target), test) refl
led_back n labels (word.Jump target) fits named =
    let test = lt-ltb target n fits in
    rw (named target fits (same_number target), test) refl
led_back n labels (word.End code) fits named = refl
led_back n labels (word.Command byte) fits named = refl
led_back n labels (word.Address from count) fits named = refl
led_back n labels (word.Get len) fits named = refl
led_back n labels (word.Put len) fits named = refl
led_back n labels (word.Seek place) fits named = refl
led_back n labels (word.Column column) fits named = refl
led_back n labels (word.RowAdd rows) fits named = refl
led_back n labels (word.Row row) fits named = refl
led_back n labels (word.Plane plane) fits named = refl
led_back n labels word.Wait fits named = refl
led_back n labels word.Yield fits named = refl
led_back n labels word.ReadStatus fits named = refl
led_back n labels (word.Loop turns) fits named = refl
led_back n labels word.Next fits named = refl

either_second : (a b : Bool) → b ≡ true → (a || b) ≡ true
either_second true b h = refl
either_second false b h = h

either_first : (a b : Bool) → a ≡ true → (a || b) ≡ true
either_first true b h = refl
either_first false b h = absurd cc

one_back : (n : ℕ) (labels : List ℕ → Option ℕ) (line : ℕ) (e : Entry) (es : List (ℕ × Entry)) (w : Word) (ws : List Word) → e ≡ entry_of w → led n labels (entry_of w) ≡ Some w → words_of n labels es ≡ Ok ws → words_of n labels ((line, e) ∷ es) ≡ Ok (w ∷ ws)
unfolding words_of
one_back n labels line e es w ws same led_to others = rw (same, led_to, others) refl

words_back : (n : ℕ) (labels : List ℕ → Option ℕ) (es : List (ℕ × Entry)) (ws : List Word) → map entry_in es ≡ map entry_of ws → AllByRecursion (IsInRange Two n) ws
    → ((p : ℕ) → p < n → is_target ws p ≡ true → labels (label p) ≡ Some p) → words_of n labels es ≡ Ok ws
unfolding words_of
words_back n labels [] [] same fits named = refl
words_back n labels [] (w ∷ ws) same fits named = absurd cc
words_back n labels (e ∷ es) [] same fits named = absurd cc
words_back n labels (e ∷ es) (w ∷ ws) same fits named =
    let front : e.1 ≡ entry_of w = cc in
    let tails : map entry_in es ≡ map entry_of ws = cc in
    let here = led_back n labels w fits.0 (λ p low is. named p low (either_first (branches_to p w) (is_target ws p) is)) in
    let others = words_back n labels es ws tails fits.1 (λ p low is. named p low (either_second (branches_to p w) (is_target ws p) is)) in
    one_back n labels e.0 e.1 es w ws front here others

-- ---- the header

abbrev numbers_in : Microprogram → Numbers
numbers_in x = record { rows = x.rows; buffer = x.buffer; budget = x.budget }

abbrev no_labels : List ℕ → Option ℕ
no_labels name = None

header_read : (last : ℕ) (x : Microprogram) (rest : List (List ℕ)) → FitsFormat Two x → with_lines last nothing_seen (header_part x rest) ≡ with_lines last (state 4 (numbers_in x) [] no_labels) rest
unfolding with_lines with_line placed
header_read last x rest fits =
    let rows = headers_are_spelled.rows x.rows fits.some_rows fits.rows in
    let buffer = headers_are_spelled.buffer x.buffer fits.buffer in
    let budget = headers_are_spelled.budget x.budget (omega (arith, fits.budget)) in
    rw (rows, buffer, budget) refl

header_last : (a b c : List ℕ) (rest : List (List ℕ)) → (found : ℕ) × (last_word 0 1 (a ∷ (b ∷ (c ∷ rest))) ≡ last_word found 4 rest)
unfolding last_word
header_last a b c rest =
    let begins_with = λ (l : List ℕ). begins_word (fields (before_comment l)) in
    (cond (begins_with c) 3 (cond (begins_with b) 2 (cond (begins_with a) 1 0)), refl)

-- ---- the whole text

given_back : (line : ℕ) (x : Microprogram) (entries : List (ℕ × Entry)) (labels : List ℕ → Option ℕ) → words_of (length entries) labels entries ≡ Ok x.words → given (state line (numbers_in x) entries labels) ≡ Ok x
unfolding given
given_back line x entries labels e = rw e refl

reading_by : (x : Microprogram) (text : List ℕ) (ls : List (List ℕ)) (seen : Seen) → lines text ≡ ls → with_lines (last_word 0 1 ls) nothing_seen ls ≡ Ok seen → given seen ≡ Ok x → reading text ≡ Ok x
unfolding reading seen_in
reading_by x text ls seen is_text is_seen is_given = rw (is_text, is_seen, is_given) refl

pub written_is_read : WrittenIsRead
written_is_read x fits =
    let rest = word_part x.words 0 x.words in
    let ls = header_part x rest in
    let last = last_word 0 1 ls in
    let found = header_last (codes "rows " ++ decimal x.rows) (codes "buffer " ++ decimal x.buffer) (codes "budget " ++ decimal x.budget) rest in
    let none : LabelsTo x.words 0 no_labels = record { low = λ p low. absurd (omega arith); high = λ p above low. refl } in
    let whole = all_read x.words [] x.words 0 last (numbers_in x) refl refl fits.count fits.words 4 found.0 [] no_labels refl none found.1 in
    let many : length whole.entries ≡ length x.words = omega (arith, length-map whole.entries entry_in, length-map x.words entry_of, ap length whole.words) in
    let words = words_back (length x.words) whole.labels whole.entries x.words whole.words fits.words whole.named in
    let counted : words_of (length whole.entries) whole.labels whole.entries ≡ Ok x.words = ap (λ (n : ℕ). words_of n whole.labels whole.entries) many ∙ words in
    reading_by x (assembly x) ls (state whole.line (numbers_in x) whole.entries whole.labels) (lines_written x fits) (header_read last x rest fits ∙ whole.read) (given_back whole.line x whole.entries whole.labels counted)
