-- What a second look finds is what reading tells.
use Rattle.std.proofs.Common.{◌≡◌, ℕ, ◌<◌, ◌≤◌, Bool, true, false, ltb, List, [], ◌∷◌, ◌++◌, length, Option, Some, None, Result, Ok, Err, refl, sym, ap, subst, ◌∙◌, arith}
use Rattle.std.proofs.Math.Path.{fun_ext}
use Rattle.std.specs.Prelude.{is_some, ok_or, if◌then◌else◌, IsOk, IfErr, MatchOption}
use Rattle.std.specs.Map.{update}
use Rattle.std.specs.Str.{bytes_eq}
use Rattle.std.proofs.lemmas.Bool.{lt-ltb, ltb-true, false_from_ne_true}
use Rattle.std.proofs.lemmas.Map.{update_same, update_other}
use Rattle.std.proofs.lemmas.Slice.Eq.{bytes_eq-Decides}
use Rattle.micro_word.specs.declared.word.Word.{Word}
use Rattle.micro_word.specs.Text.{Microprogram}
use Rattle.micro_asm.specs.declared.refusal.AsmFault.{AsmFault}
use Rattle.micro_asm.specs.declared.refusal.AsmFault.TheVariants.{NoSuchLabel, HeaderOutOfOrder}
use Rattle.micro_asm.specs.declared.refusal.AsmRefusal.{AsmRefusal}
use Rattle.micro_asm.specs.declared.refusal.AsmRefusal.TheVariants.{Fault, OutOfMemory}
use Rattle.micro_asm.specs.declared.heading.Heading.{Heading}
use Rattle.micro_asm.specs.declared.heading.Numbers.{Numbers}
use Rattle.micro_asm.specs.declared.heading.Heading.TheVariants as heading
use Rattle.micro_asm.specs.declared.progress.Progress.{Progress}
use Rattle.micro_asm.specs.Line.{◌>>=◌, and_then, Entry, Line, Nothing, Header, Label, Entered, spelled}
use Rattle.micro_asm.specs.Reading.{Seen, nothing_seen, last_word, at_line, is_heading, numbers_of, placed, with_line, with_lines, led, words_of, program, given, lines, seen_in, reading, IsRefusalOf}
use Rattle.micro_asm.specs.Judged.{at_start, judged, progress, is_taken, kept_entries, kept_labels, kept, moved}
use Rattle.micro_asm.specs.Looked.{stepped_as, stepped, is_label_line, looked, is_taken_in, walked_as, walked_line, walked, leads, lost, labels_in, fault_at_end, fault_after, fault_in}
use Rattle.micro_asm.proofs.Judgements.{placed_by, placed_as, judged_free, not_taken, comes_after, progress_is}

abbrev or_else : {A : Type 0} → Option A → Option A → Option A
or_else (Some x) y = Some x
or_else None y = y

or_none : {A : Type 0} (o : Option A) → or_else o None ≡ o
or_none (Some x) = refl
or_none None = refl

abbrev fault_of : {A : Type 0} → Result A AsmRefusal → Option AsmRefusal
fault_of (Ok x) = None
fault_of (Err e) = Some e

abbrev IsFault : AsmRefusal → Type 0
IsFault (Fault code line) = Unit {0}
IsFault OutOfMemory = ⊥

abbrev pub Tells : Option AsmRefusal → Result Microprogram AsmRefusal → Type 0
Tells o read = MatchOption o (IsOk read) (λ e. IsRefusalOf e read)

irreflexive : (n : ℕ) → n < n → ⊥
irreflexive n h = omega arith

-- ---- labels

-- The labels that have been read are those that a look finds in front; `ls` are the lines after.
abbrev Follows : ℕ → List (List ℕ) → Seen → List (List ℕ) → Type 0
Follows last whole seen ls = (name : List ℕ) (until : ℕ) → seen.line ≤ until → looked last name until at_start whole ≡ or_else (seen.labels name) (looked last name until (progress seen) ls)

-- the same, with the first of the lines after as it is spelled
abbrev looked_as : ℕ → List ℕ → ℕ → Progress → Result Line AsmFault → List (List ℕ) → Option ℕ
looked_as last name until at read ls = if ltb at.line until then and_then (stepped_as last at read) (λ x. if is_label_line name x.0 then Some at.words else looked last name until x.1 ls) else None

abbrev FollowsAs : ℕ → List (List ℕ) → Seen → Result Line AsmFault → List (List ℕ) → Type 0
FollowsAs last whole seen read ls = (name : List ℕ) (until : ℕ) → seen.line ≤ until → looked last name until at_start whole ≡ or_else (seen.labels name) (looked_as last name until (progress seen) read ls)

-- a look ends at its line
ends_there : (last : ℕ) (name : List ℕ) (at : Progress) (read : Result Line AsmFault) (ls : List (List ℕ)) → looked_as last name at.line at read ls ≡ None
ends_there last name at read ls =
    let test : ltb at.line at.line ≡ false = false_from_ne_true (ltb at.line at.line) (λ e. irreflexive at.line (ltb-true at.line at.line e)) in
    rw test refl

same_taken : (last : ℕ) (whole : List (List ℕ)) (seen : Seen) (read : Result Line AsmFault) (ls : List (List ℕ)) (l : Line) → FollowsAs last whole seen read ls → is_taken_in last whole (progress seen) l ≡ is_taken seen l
same_taken last whole seen read ls Nothing f = refl
same_taken last whole seen read ls (Header s) f = refl
same_taken last whole seen read ls (Label name) f =
    ap (λ (o : Option ℕ). is_some o) (f name seen.line (omega arith) ∙ (ap (or_else (seen.labels name)) (ends_there last name (progress seen) read ls) ∙ or_none (seen.labels name)))
same_taken last whole seen read ls (Entered e) f = refl

none_from : (o : Option ℕ) → is_some o ≡ false → o ≡ None
none_from None e = refl
none_from (Some x) e = absurd cc

label_tested : (labels : List ℕ → Option ℕ) (own name : List ℕ) (place : ℕ) (x : Option ℕ) (t : Bool) → bytes_eq own name ≡ t → labels own ≡ None
    → or_else (labels name) (if t then Some place else x) ≡ or_else (update bytes_eq labels own (Some place) name) x
label_tested labels own name place x true e none =
    let same : own ≡ name = (bytes_eq-Decides own name).0 e in
    let absent : labels name ≡ None = sym (ap labels same) ∙ none in
    let here : update bytes_eq labels own (Some place) name ≡ Some place = update_same bytes_eq labels own (Some place) name e in
    ap (λ (o : Option ℕ). or_else o (Some place)) absent ∙ sym (ap (λ (o : Option ℕ). or_else o x) here)
label_tested labels own name place x false e none =
    let there : update bytes_eq labels own (Some place) name ≡ labels name = update_other bytes_eq labels own (Some place) name e in
    sym (ap (λ (o : Option ℕ). or_else o x) there)

kept_label : (seen : Seen) (l : Line) (name : List ℕ) (x : Option ℕ) → is_taken seen l ≡ false
    → or_else (seen.labels name) (if is_label_line name l then Some (length seen.entries) else x) ≡ or_else (kept_labels seen l name) x
kept_label seen Nothing name x free = refl
kept_label seen (Header s) name x free = refl
kept_label seen (Label own) name x free = label_tested seen.labels own name (length seen.entries) x (bytes_eq own name) refl (none_from (seen.labels own) free)
kept_label seen (Entered e) name x free = refl

follows_on : (last : ℕ) (whole : List (List ℕ)) (seen : Seen) (l : Line) (next : Progress) (ls : List (List ℕ)) → judged last (progress seen) (is_taken seen l) l ≡ Ok next
    → FollowsAs last whole seen (Ok l) ls → Follows last whole (moved (kept seen l) next) ls
follows_on last whole seen l next ls is f name until low =
    let comes = comes_after last seen (is_taken seen l) l next is in
    let test : ltb seen.line until ≡ true = lt-ltb seen.line until (omega (arith, low, comes.line)) in
    let free : judged last (progress seen) false l ≡ Ok next = judged_free last (progress seen) (is_taken seen l) l next is in
    let step : looked_as last name until (progress seen) (Ok l) ls ≡ (if is_label_line name l then Some (length seen.entries) else looked last name until next ls) = rw (test, free) refl in
    f name until (omega (arith, low, comes.line))
    ∙ (ap (or_else (seen.labels name)) step
    ∙ (kept_label seen l name (looked last name until next ls) (not_taken last seen l next is)
    ∙ ap (λ (p : Progress). or_else (kept_labels seen l name) (looked last name until p ls)) (progress_is seen l next comes)))

-- ---- branches

fault_kept : (word : Word) (r : Result (List Word) AsmRefusal) → fault_of (r >>= λ words. Ok (word ∷ words)) ≡ fault_of r
fault_kept word (Ok words) = refl
fault_kept word (Err e) = refl

abbrev as_words : Result (List Word) AsmRefusal → Result (List Word) AsmRefusal
as_words r = r

first_then : (o : Option Word) (e : AsmRefusal) (r s : Result (List Word) AsmRefusal) (x y : Option AsmRefusal) → or_else (fault_of r) x ≡ or_else (fault_of s) y
    → or_else (fault_of (ok_or o e >>= λ word. r >>= λ words. Ok (word ∷ words))) x ≡ or_else (fault_of (ok_or o e >>= λ word. s >>= λ words. Ok (word ∷ words))) y
first_then None e r s x y h = refl
first_then (Some word) e r s x y h = ap (λ (o : Option AsmRefusal). or_else o x) (fault_kept word r) ∙ (h ∙ sym (ap (λ (o : Option AsmRefusal). or_else o y) (fault_kept word s)))

last_then : (o : Option Word) (e : AsmRefusal) (x : Option AsmRefusal) → or_else (fault_of (ok_or o e >>= λ word. as_words (Ok []) >>= λ words. as_words (Ok (word ∷ words)))) x ≡ (if is_some o then x else Some e)
last_then None e x = refl
last_then (Some word) e x = refl

words_more : (n : ℕ) (labels : List ℕ → Option ℕ) (es : List (ℕ × Entry)) (line : ℕ) (entry : Entry) (x : Option AsmRefusal)
    → or_else (fault_of (words_of n labels (es ++ (line, entry) ∷ []))) x ≡ or_else (fault_of (words_of n labels es)) (if is_some (led n labels entry) then x else Some (Fault NoSuchLabel line))
unfolding words_of
words_more n labels [] line entry x = last_then (led n labels entry) (Fault NoSuchLabel line) x
words_more n labels (e ∷ es) line entry x =
    first_then (led n labels e.1) (Fault NoSuchLabel e.0) (words_of n labels (es ++ (line, entry) ∷ [])) (words_of n labels es) x (if is_some (led n labels entry) then x else Some (Fault NoSuchLabel line)) (words_more n labels es line entry x)

kept_entry : (n : ℕ) (labels : List ℕ → Option ℕ) (seen : Seen) (l : Line) (x : Option AsmRefusal)
    → or_else (fault_of (words_of n labels (kept_entries seen l))) x ≡ or_else (fault_of (words_of n labels seen.entries)) (if leads n labels l then x else Some (Fault NoSuchLabel seen.line))
kept_entry n labels seen Nothing x = refl
kept_entry n labels seen (Header s) x = refl
kept_entry n labels seen (Label name) x = refl
kept_entry n labels seen (Entered entry) x = words_more n labels seen.entries seen.line entry x

-- a lost branch is a fault, and never that memory was refused
first_faults : (o : Option Word) (code : AsmFault) (line : ℕ) (r : Result (List Word) AsmRefusal) → IfErr r IsFault → IfErr (ok_or o (Fault code line) >>= λ word. r >>= λ words. as_words (Ok (word ∷ words))) IsFault
first_faults None code line r h = tt
first_faults (Some word) code line (Ok words) h = tt
first_faults (Some word) code line (Err e) h = h

words_faults : (n : ℕ) (labels : List ℕ → Option ℕ) (es : List (ℕ × Entry)) → IfErr (words_of n labels es) IsFault
unfolding words_of
words_faults n labels [] = tt
words_faults n labels (e ∷ es) = first_faults (led n labels e.1) NoSuchLabel e.0 (words_of n labels es) (words_faults n labels es)

-- ---- line by line

-- After some lines stands what reading them has seen, and no fault is among them.
record Reached (last : ℕ) (whole : List (List ℕ)) (entries : List (ℕ × Entry)) (read : Result Seen AsmRefusal) (branches : ℕ → (List ℕ → Option ℕ) → Option AsmRefusal) (end : Progress) : Type 0 where
  pub final : Seen
  pub read_is : read ≡ Ok final
  pub end_is : end ≡ progress final
  pub follows : Follows last whole final []
  pub lost_is : (n : ℕ) (labels : List ℕ → Option ℕ) → fault_of (words_of n labels final.entries) ≡ or_else (fault_of (words_of n labels entries)) (branches n labels)

record Stopped (read : Result Seen AsmRefusal) (e : AsmRefusal) : Type 0 where
  pub read_is : read ≡ Err e
  pub fault : IsFault e

abbrev Walks : ℕ → List (List ℕ) → List (ℕ × Entry) → Result Seen AsmRefusal → (ℕ → (List ℕ → Option ℕ) → Option AsmRefusal) → Result Progress AsmRefusal → Type 0
Walks last whole entries read branches (Ok end) = Reached last whole entries read branches end
Walks last whole entries read branches (Err e) = Stopped read e

-- one line more in front
walks_back : (last : ℕ) (whole : List (List ℕ)) (old entries : List (ℕ × Entry)) (read whole_read : Result Seen AsmRefusal) (some branches : ℕ → (List ℕ → Option ℕ) → Option AsmRefusal) (w : Result Progress AsmRefusal)
    → whole_read ≡ read
    → ((n : ℕ) (labels : List ℕ → Option ℕ) → or_else (fault_of (words_of n labels entries)) (some n labels) ≡ or_else (fault_of (words_of n labels old)) (branches n labels))
    → Walks last whole entries read some w → Walks last whole old whole_read branches w
walks_back last whole old entries read whole_read some branches (Ok end) same branch h = record {
  final = h.final;
  read_is = same ∙ h.read_is;
  end_is = h.end_is;
  follows = h.follows;
  lost_is = λ n labels. h.lost_is n labels ∙ branch n labels;
}
walks_back last whole old entries read whole_read some branches (Err e) same branch h = record { read_is = same ∙ h.read_is; fault = h.fault }

abbrev lost_as : ℕ → List (List ℕ) → Progress → Result Line AsmFault → ℕ → (List ℕ → Option ℕ) → Option AsmRefusal
lost_as last ls at read n labels = and_then (stepped_as last at read) (λ x. if leads n labels x.0 then lost last n labels x.1 ls else Some (Fault NoSuchLabel at.line))

abbrev Later : ℕ → List (List ℕ) → List (List ℕ) → Type 0
Later last whole ls = (seen : Seen) → Follows last whole seen ls → Walks last whole seen.entries (with_lines last seen ls) (λ n labels. lost last n labels (progress seen) ls) (walked last whole (progress seen) ls)

by_judgement : (last : ℕ) (whole ls : List (List ℕ)) (seen : Seen) (l : Line) (j : Result Progress AsmFault) → judged last (progress seen) (is_taken seen l) l ≡ j → (p : Result Seen AsmRefusal) → p ≡ placed_by seen l j
    → FollowsAs last whole seen (Ok l) ls → Later last whole ls
    → Walks last whole seen.entries (p >>= λ next. with_lines last next ls) (lost_as last ls (progress seen) (Ok l)) (at_line seen.line j >>= λ next. walked last whole next ls)
by_judgement last whole ls seen l (Err code) is p is_p f onward = record { read_is = ap (λ (r : Result Seen AsmRefusal). r >>= λ next. with_lines last next ls) is_p; fault = tt }
by_judgement last whole ls seen l (Ok next) is p is_p f onward =
    let after = moved (kept seen l) next in
    let comes = comes_after last seen (is_taken seen l) l next is in
    let is_next : next ≡ progress after = progress_is seen l next comes in
    let free : judged last (progress seen) false l ≡ Ok next = judged_free last (progress seen) (is_taken seen l) l next is in
    let later = onward after (follows_on last whole seen l next ls is f) in
    subst (λ (at : Progress). Walks last whole seen.entries (p >>= λ next. with_lines last next ls) (lost_as last ls (progress seen) (Ok l)) (walked last whole at ls)) (sym is_next)
    (walks_back last whole seen.entries (kept_entries seen l) (with_lines last after ls) (p >>= λ next. with_lines last next ls) (λ n labels. lost last n labels (progress after) ls) (lost_as last ls (progress seen) (Ok l)) (walked last whole (progress after) ls)
    (ap (λ (r : Result Seen AsmRefusal). r >>= λ next. with_lines last next ls) is_p)
    (λ n labels.
    let step : lost_as last ls (progress seen) (Ok l) n labels ≡ (if leads n labels l then lost last n labels next ls else Some (Fault NoSuchLabel seen.line)) = rw free refl in
    kept_entry n labels seen l (lost last n labels (progress after) ls)
    ∙ (ap (λ (at : Progress). or_else (fault_of (words_of n labels seen.entries)) (if leads n labels l then lost last n labels at ls else Some (Fault NoSuchLabel seen.line))) (sym is_next)
    ∙ ap (or_else (fault_of (words_of n labels seen.entries))) (sym step)))
    later)

by_line : (last : ℕ) (whole ls : List (List ℕ)) (seen : Seen) (read : Result Line AsmFault) → FollowsAs last whole seen read ls → Later last whole ls
    → Walks last whole seen.entries (at_line seen.line read >>= placed last seen >>= λ next. with_lines last next ls) (lost_as last ls (progress seen) read) (at_line seen.line (walked_as last whole (progress seen) read) >>= λ next. walked last whole next ls)
by_line last whole ls seen (Err code) f onward = record { read_is = refl; fault = tt }
by_line last whole ls seen (Ok l) f onward =
    let same = same_taken last whole seen (Ok l) ls l f in
    subst (λ (taken : Bool). Walks last whole seen.entries (placed last seen l >>= λ next. with_lines last next ls) (lost_as last ls (progress seen) (Ok l)) (at_line seen.line (judged last (progress seen) taken l) >>= λ next. walked last whole next ls)) (sym same)
    (by_judgement last whole ls seen l (judged last (progress seen) (is_taken seen l) l) refl (placed last seen l) (placed_as last seen l) f onward)

goes : (last : ℕ) (whole ls : List (List ℕ)) → Later last whole ls
unfolding walked walked_line with_lines with_line lost looked stepped
goes last whole [] seen f = record { final = seen; read_is = refl; end_is = refl; follows = f; lost_is = λ n labels. sym (or_none (fault_of (words_of n labels seen.entries))) }
goes last whole (l ∷ ls) seen f = by_line last whole ls seen (spelled (is_heading seen.heading) l) f (goes last whole ls)

-- ---- the whole text

told : {A : Type 0} (e : AsmRefusal) → IsFault e → (read : Result A AsmRefusal) → read ≡ Err e → IsRefusalOf e read
told (Fault code line) h read is = is
told OutOfMemory h read is = absurd h

with_numbers : (numbers : Numbers) (r : Result (List Word) AsmRefusal) → IfErr r IsFault → (o : Option AsmRefusal) → o ≡ fault_of r → (read : Result Microprogram AsmRefusal)
    → read ≡ (r >>= λ words. Ok (program numbers words)) → Tells o read
with_numbers numbers (Ok words) h o o_is read is = rw (o_is, is) refl
with_numbers numbers (Err e) h o o_is read is = rw o_is (told e h read is)

by_heading : (h : Heading) (line : ℕ) (r : Result (List Word) AsmRefusal) → IfErr r IsFault → (o : Option AsmRefusal) → o ≡ fault_of r → (read : Result Microprogram AsmRefusal)
    → read ≡ (ok_or (numbers_of h) (Fault HeaderOutOfOrder line) >>= λ numbers. r >>= λ words. Ok (program numbers words))
    → Tells (if is_heading h then Some (Fault HeaderOutOfOrder line) else o) read
by_heading heading.Empty line r faults o o_is read is = is
by_heading (heading.Rows rows) line r faults o o_is read is = is
by_heading (heading.Buffer rows buffer) line r faults o o_is read is = is
by_heading (heading.Whole numbers) line r faults o o_is read is = with_numbers numbers r faults o o_is read is

at_end : (last : ℕ) (whole : List (List ℕ)) (final : Seen) → Follows last whole final []
    → ((n : ℕ) (labels : List ℕ → Option ℕ) → fault_of (words_of n labels final.entries) ≡ lost last n labels at_start whole)
    → (read : Result Microprogram AsmRefusal) → read ≡ given final → Tells (fault_at_end last whole (progress final)) read
unfolding given looked
at_end last whole final f lost_is read is =
    let n = length final.entries in
    let same : labels_in last whole (progress final) ≡ final.labels = fun_ext (λ name. f name final.line (omega arith) ∙ or_none (final.labels name)) in
    let o_is : lost last n (labels_in last whole (progress final)) at_start whole ≡ fault_of (words_of n final.labels final.entries) = ap (λ (labels : List ℕ → Option ℕ). lost last n labels at_start whole) same ∙ sym (lost_is n final.labels) in
    by_heading final.heading final.line (words_of n final.labels final.entries) (words_faults n final.labels final.entries) (lost last n (labels_in last whole (progress final)) at_start whole) o_is read is

by_walk : (last : ℕ) (whole : List (List ℕ)) (w : Result Progress AsmRefusal) → Walks last whole [] (with_lines last nothing_seen whole) (λ n labels. lost last n labels at_start whole) w
    → (read : Result Microprogram AsmRefusal) → read ≡ (with_lines last nothing_seen whole >>= given) → Tells (fault_after last whole w) read
unfolding words_of
by_walk last whole (Err e) h read is = told e h.fault read (is ∙ ap (λ (r : Result Seen AsmRefusal). r >>= given) h.read_is)
by_walk last whole (Ok end) h read is =
    subst (λ (at : Progress). Tells (fault_at_end last whole at) read) (sym h.end_is) (at_end last whole h.final h.follows h.lost_is read (is ∙ ap (λ (r : Result Seen AsmRefusal). r >>= given) h.read_is))

pub look_tells : (text : List ℕ) → Tells (fault_in (last_word 0 1 (lines text)) (lines text)) (reading text)
unfolding fault_in reading seen_in
look_tells text =
    let whole = lines text in
    let last = last_word 0 1 whole in
    by_walk last whole (walked last whole at_start whole) (goes last whole whole nothing_seen (λ name until low. refl)) (reading text) refl
