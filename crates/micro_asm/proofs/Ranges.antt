-- What is read is in range.
use Rattle.std.proofs.Common.{◌≡◌, ℕ, ◌+◌, ◌-◌, ◌*◌, ◌<◌, ◌≤◌, Bool, true, false, ◌&&◌, eqb, ltb, leb, List, [], ◌∷◌, ◌++◌, length, Option, Some, None, Result, Ok, Err, refl, sym, subst, length-append, arith}
use Rattle.std.specs.Prelude.{is_some, ok_or, if◌then◌else◌, slice_index, IfOk, IfSome}
use Rattle.std.specs.List.{AllByRecursion}
use Rattle.std.specs.Map.{update}
use Rattle.std.specs.Str.{bytes_eq}
use Rattle.std.proofs.lemmas.Bool.{ltb-true, leb-true}
use Rattle.std.proofs.lemmas.Bool.Decides.{nat_tests}
use Rattle.micro_word.specs.declared.format.Format.TheVariants.{Two}
use Rattle.micro_word.specs.declared.word.Word.{Word}
use Rattle.micro_word.specs.declared.word.Word.TheVariants as word
use Rattle.micro_word.specs.Text.{Microprogram, FitsFormat}
use Rattle.micro_word.specs.Word.{IsInRange}
use Rattle.micro_asm.specs.declared.refusal.AsmFault.{AsmFault}
use Rattle.micro_asm.specs.declared.refusal.AsmFault.TheVariants.{UnknownWord, BadOperand, OperandOutOfRange, NoSuchLabel, LabelTwice, LabelAfterLastWord, TooManyWords, HeaderOutOfOrder}
use Rattle.micro_asm.specs.declared.refusal.AsmRefusal.{AsmRefusal}
use Rattle.micro_asm.specs.declared.refusal.AsmRefusal.TheVariants.{Fault}
use Rattle.micro_asm.specs.declared.heading.Numbers.{Numbers}
use Rattle.micro_asm.specs.declared.heading.Heading.{Heading}
use Rattle.micro_asm.specs.declared.heading.Heading.TheVariants as heading
use Rattle.micro_asm.specs.declared.names.Bare.{Bare}
use Rattle.micro_asm.specs.declared.names.Bare.TheVariants as bare
use Rattle.micro_asm.specs.declared.names.Counted.{Counted}
use Rattle.micro_asm.specs.declared.names.Counted.TheVariants as counted
use Rattle.micro_asm.specs.declared.names.Name.{Name}
use Rattle.micro_asm.specs.declared.names.Name.TheVariants as name
use Rattle.micro_asm.specs.declared.statement.Setting.{Setting}
use Rattle.micro_asm.specs.declared.statement.Setting.TheVariants as setting
use Rattle.micro_asm.specs.Line.{◌>>=◌, and_then, Entry, Plain, Branch, Line, Nothing, Header, Label, Entered, spelled, fields, fields_line, first_line, before_comment, name_of, named_line, label_of, label_line, counted_line, bare_line, command_line, address_line, branch_line, jump_line, target_of, number_of, byte_of, hex_value, with_number, plain_line, least, greatest, one, two}
use Rattle.micro_asm.specs.Line as line
use Rattle.micro_asm.specs.Reading.{Seen, nothing_seen, last_word, at_line, with_setting, with_heading, is_heading, with_line, with_lines, placed, with_label, with_entry, place_of, led, words_of, numbers_of, program, given, reading, seen_in, lines, Spells}
use Rattle.micro_asm.specs.Fits.{SettingFits, EntryFits, LineFits, NumbersFit, HeadingFits, PairFits, SeenFits}
use Rattle.micro_asm.specs.Again.{ReadIsWrittenAgain}
use Rattle.micro_asm.proofs.Again.{and_parts}
use Rattle.micro_asm.proofs.Back.{written_is_read}

abbrev Read : Type 0
Read = Result Line AsmFault

abbrev read_as : Read → Read
read_as r = r

abbrev choose : Bool → Line → Read
choose t l = if t then Ok l else Err OperandOutOfRange

-- ---- operands

hex_fits : (d : ℕ) → IfSome (hex_value d) (λ v. v < 16)
hex_fits d = digit (leb 48 d && leb d 57) refl
  where
    lower : (t : Bool) → (leb 97 d && leb d 102) ≡ t → IfSome (if t then Some (d - 87) else None) (λ v. v < 16)
    lower true is =
        let parts = and_parts (leb 97 d) (leb d 102) is in
        omega (arith, leb-true 97 d parts.0, leb-true d 102 parts.1)
    lower false is = tt

    upper : (t : Bool) → (leb 65 d && leb d 70) ≡ t → IfSome (if t then Some (d - 55) else (if leb 97 d && leb d 102 then Some (d - 87) else None)) (λ v. v < 16)
    upper true is =
        let parts = and_parts (leb 65 d) (leb d 70) is in
        omega (arith, leb-true 65 d parts.0, leb-true d 70 parts.1)
    upper false is = lower (leb 97 d && leb d 102) refl

    digit : (t : Bool) → (leb 48 d && leb d 57) ≡ t → IfSome (if t then Some (d - 48) else (if leb 65 d && leb d 70 then Some (d - 55) else (if leb 97 d && leb d 102 then Some (d - 87) else None))) (λ v. v < 16)
    digit true is =
        let parts = and_parts (leb 48 d) (leb d 57) is in
        omega (arith, leb-true 48 d parts.0, leb-true d 57 parts.1)
    digit false is = upper (leb 65 d && leb d 70) refl

pair_fits : (t : Bool) (high low : Option ℕ) → IfSome high (λ v. v < 16) → IfSome low (λ v. v < 16) → IfSome (if t then and_then high (λ h. and_then low (λ l. Some (16 * h + l))) else None) (λ b. b < 256)
pair_fits true (Some h) (Some l) is also = omega arith
pair_fits true (Some h) None is also = tt
pair_fits true None low is also = tt
pair_fits false high low is also = tt

byte_fits : (field : List ℕ) → IfSome (byte_of field) (λ b. b < 256)
unfolding byte_of
byte_fits field = pair_fits (eqb (length field) 2) (hex_value (slice_index field 0)) (hex_value (slice_index field 1)) (hex_fits (slice_index field 0)) (hex_fits (slice_index field 1))

-- ---- lines

number_fits : (kind : Counted) (n : ℕ) → least kind ≤ n → n ≤ greatest kind → LineFits (with_number kind n)
number_fits counted.Rows n low high = (low, high)
number_fits counted.Buffer n low high = high
number_fits counted.Budget n low high = omega arith
number_fits counted.End n low high = omega arith
number_fits counted.Get n low high = (low, high)
number_fits counted.Put n low high = (low, high)
number_fits counted.Seek n low high = high
number_fits counted.Column n low high = omega arith
number_fits counted.RowAdd n low high = (low, omega arith)
number_fits counted.Row n low high = omega arith
number_fits counted.Plane n low high = high
number_fits counted.Loop n low high = (low, high)

number_tested : (kind : Counted) (n : ℕ) (t : Bool) → (leb (least kind) n && leb n (greatest kind)) ≡ t → IfOk (choose t (with_number kind n)) LineFits
number_tested kind n true is =
    let parts = and_parts (leb (least kind) n) (leb n (greatest kind)) is in
    number_fits kind n (leb-true (least kind) n parts.0) (leb-true n (greatest kind) parts.1)
number_tested kind n false is = tt

number_read : (kind : Counted) (o : Option ℕ) → IfOk (ok_or o BadOperand >>= λ n. choose (leb (least kind) n && leb n (greatest kind)) (with_number kind n)) LineFits
number_read kind None = tt
number_read kind (Some n) = number_tested kind n (leb (least kind) n && leb n (greatest kind)) refl

counted_fits : (kind : Counted) (operands : List (List ℕ)) → IfOk (counted_line kind operands) LineFits
unfolding counted_line
counted_fits kind operands = number_read kind (and_then (one operands) number_of)

bare_fits : (kind : Bare) (operands : List (List ℕ)) → IfOk (bare_line kind operands) LineFits
unfolding bare_line
bare_fits bare.Wait [] = tt
bare_fits bare.Yield [] = tt
bare_fits bare.ReadStatus [] = tt
bare_fits bare.Next [] = tt
bare_fits kind (o ∷ operands) = tt

one_byte : (o : Option (List ℕ)) → IfSome (and_then o byte_of) (λ b. b < 256)
one_byte None = tt
one_byte (Some field) = byte_fits field

byte_read : (o : Option ℕ) → IfSome o (λ b. b < 256) → IfOk (read_as (ok_or o BadOperand >>= λ byte. Ok (plain_line (word.Command byte)))) LineFits
byte_read None h = tt
byte_read (Some byte) h = h

command_fits : (operands : List (List ℕ)) → IfOk (command_line operands) LineFits
unfolding command_line
command_fits operands = byte_read (and_then (one operands) byte_of) (one_byte (one operands))

address_tested : (from count : ℕ) (t : Bool) → (leb 1 count && leb (from + count) 5) ≡ t → IfOk (choose t (plain_line (word.Address from count))) LineFits
address_tested from count true is =
    let parts = and_parts (leb 1 count) (leb (from + count) 5) is in
    let some : 1 ≤ count = leb-true 1 count parts.0 in
    let most : from + count ≤ 5 = leb-true (from + count) 5 parts.1 in
    (omega arith, some, most)
address_tested from count false is = tt

address_second : (from : ℕ) (o : Option ℕ) → IfOk (ok_or o BadOperand >>= λ count. choose (leb 1 count && leb (from + count) 5) (plain_line (word.Address from count))) LineFits
address_second from None = tt
address_second from (Some count) = address_tested from count (leb 1 count && leb (from + count) 5) refl

address_first : (first second : Option ℕ) → IfOk (ok_or first BadOperand >>= λ from. ok_or second BadOperand >>= λ count. choose (leb 1 count && leb (from + count) 5) (plain_line (word.Address from count))) LineFits
address_first None second = tt
address_first (Some from) second = address_second from second

address_pair : (o : Option (List ℕ × List ℕ)) → IfOk (ok_or o BadOperand >>= λ pair. ok_or (number_of pair.0) BadOperand >>= λ from. ok_or (number_of pair.1) BadOperand >>= λ count. choose (leb 1 count && leb (from + count) 5) (plain_line (word.Address from count))) LineFits
address_pair None = tt
address_pair (Some pair) = address_first (number_of pair.0) (number_of pair.1)

address_fits : (operands : List (List ℕ)) → IfOk (address_line operands) LineFits
unfolding address_line
address_fits operands = address_pair (two operands)

mask_tested : (mask : ℕ) (to : List ℕ) (t : Bool) → mask < 256 → eqb mask 0 ≡ t → IfOk (if t then Err OperandOutOfRange else read_as (Ok (Entered (Branch mask to)))) LineFits
mask_tested mask to true small is = tt
mask_tested mask to false small is =
    let some : 1 ≤ mask = grind (arith, nat_tests) in
    (some, small)

mask_read : (to : List ℕ) (o : Option ℕ) → IfSome o (λ b. b < 256) → IfOk (ok_or o BadOperand >>= λ mask. if eqb mask 0 then Err OperandOutOfRange else read_as (Ok (Entered (Branch mask to)))) LineFits
mask_read to None h = tt
mask_read to (Some mask) h = mask_tested mask to (eqb mask 0) h refl

branch_read : (r : Result (List ℕ) AsmFault) (field : List ℕ) → IfOk (r >>= λ to. ok_or (byte_of field) BadOperand >>= λ mask. if eqb mask 0 then Err OperandOutOfRange else read_as (Ok (Entered (Branch mask to)))) LineFits
branch_read (Err e) field = tt
branch_read (Ok to) field = mask_read to (byte_of field) (byte_fits field)

branch_fits : (operands : List (List ℕ)) → IfOk (branch_line operands) LineFits
unfolding branch_line
branch_fits [] = tt
branch_fits (field ∷ operands) = branch_read (target_of operands) field

jump_read : (r : Result (List ℕ) AsmFault) → IfOk (r >>= λ to. read_as (Ok (Entered (line.Jump to)))) LineFits
jump_read (Err e) = tt
jump_read (Ok to) = tt

jump_fits : (operands : List (List ℕ)) → IfOk (jump_line operands) LineFits
unfolding jump_line
jump_fits operands = jump_read (target_of operands)

label_read : (o : Option (List ℕ)) (t : Bool) → IfOk (ok_or o UnknownWord >>= λ label. if t then Err UnknownWord else read_as (Ok (Label label))) LineFits
label_read None t = tt
label_read (Some label) true = tt
label_read (Some label) false = tt

label_fits : (first : List ℕ) (operands : List (List ℕ)) → IfOk (label_line first operands) LineFits
unfolding label_line
label_fits first operands = label_read (label_of first) (ltb 0 (length operands))

named_fits : (n : Name) (operands : List (List ℕ)) → IfOk (named_line n operands) LineFits
unfolding named_line
named_fits (name.Number kind) operands = counted_fits kind operands
named_fits (name.Bare kind) operands = bare_fits kind operands
named_fits name.Command operands = command_fits operands
named_fits name.Address operands = address_fits operands
named_fits name.Branch operands = branch_fits operands
named_fits name.Jump operands = jump_fits operands

first_fits : (o : Option Name) (first : List ℕ) (operands : List (List ℕ)) → IfOk (first_line o first operands) LineFits
first_fits (Some n) first operands = named_fits n operands
first_fits None first operands = label_fits first operands

fields_fit : (heads : Bool) (fs : List (List ℕ)) → IfOk (fields_line heads fs) LineFits
unfolding fields_line
fields_fit heads [] = tt
fields_fit heads (first ∷ operands) = first_fits (name_of heads first) first operands

spelled_fits : (heads : Bool) (l : List ℕ) → IfOk (spelled heads l) LineFits
unfolding spelled
spelled_fits heads l = fields_fit heads (fields (before_comment l))

-- ---- what has been read

abbrev told : Result Seen AsmRefusal → Result Seen AsmRefusal
told r = r

all_more : {X : Type 0} (P : X → Type 0) (xs : List X) (x : X) → AllByRecursion P xs → P x → AllByRecursion P (xs ++ x ∷ [])
all_more P [] x h k = (k, tt)
all_more P (y ∷ xs) x h k = (h.0, all_more P xs x h.1 k)

setting_fits : (h : Heading) (s : Setting) → HeadingFits h → SettingFits s → IfSome (with_setting h s) HeadingFits
setting_fits heading.Empty (setting.Rows rows) fits one = one
setting_fits heading.Empty (setting.Buffer buffer) fits one = tt
setting_fits heading.Empty (setting.Budget budget) fits one = tt
setting_fits (heading.Rows rows) (setting.Rows more) fits one = tt
setting_fits (heading.Rows rows) (setting.Buffer buffer) fits one = (fits.0, fits.1, one)
setting_fits (heading.Rows rows) (setting.Budget budget) fits one = tt
setting_fits (heading.Buffer rows buffer) (setting.Rows more) fits one = tt
setting_fits (heading.Buffer rows buffer) (setting.Buffer more) fits one = tt
setting_fits (heading.Buffer rows buffer) (setting.Budget budget) fits one = record { some_rows = fits.0; rows = fits.1; buffer = fits.2; budget = one }
setting_fits (heading.Whole numbers) (setting.Rows more) fits one = tt
setting_fits (heading.Whole numbers) (setting.Buffer more) fits one = tt
setting_fits (heading.Whole numbers) (setting.Budget more) fits one = tt

heading_fits : (seen : Seen) (o : Option Heading) → SeenFits seen → IfSome o HeadingFits → IfOk (with_heading seen o) SeenFits
heading_fits seen (Some h) fits one = record { heading = one; count = fits.count; entries = fits.entries }
heading_fits seen None fits one = tt

label_tested : (seen : Seen) (name : List ℕ) (a b c : Bool) → SeenFits seen
    → IfOk (if a then Err (Fault HeaderOutOfOrder seen.line) else (if b then Err (Fault LabelTwice seen.line) else (if c then told (Ok (record { line = seen.line + 1; heading = seen.heading; entries = seen.entries; labels = update bytes_eq seen.labels name (Some (length seen.entries)) })) else Err (Fault LabelAfterLastWord seen.line)))) SeenFits
label_tested seen name true b c fits = tt
label_tested seen name false true c fits = tt
label_tested seen name false false true fits = record { heading = fits.heading; count = fits.count; entries = fits.entries }
label_tested seen name false false false fits = tt

entry_tested : (seen : Seen) (entry : Entry) (a b : Bool) → ltb (length seen.entries) 1024 ≡ b → SeenFits seen → EntryFits entry
    → IfOk (if a then Err (Fault HeaderOutOfOrder seen.line) else (if b then told (Ok (record { line = seen.line + 1; heading = seen.heading; entries = seen.entries ++ (seen.line, entry) ∷ []; labels = seen.labels })) else Err (Fault TooManyWords seen.line))) SeenFits
entry_tested seen entry true b is fits one = tt
entry_tested seen entry false false is fits one = tt
entry_tested seen entry false true is fits one =
    let low : length seen.entries < 1024 = ltb-true (length seen.entries) 1024 is in
    record {
      heading = fits.heading;
      count = omega (arith, length-append seen.entries ((seen.line, entry) ∷ []));
      entries = all_more PairFits seen.entries (seen.line, entry) fits.entries one;
    }

pub placed_fits : (last : ℕ) (seen : Seen) (l : Line) → SeenFits seen → LineFits l → IfOk (placed last seen l) SeenFits
unfolding placed with_label with_entry
placed_fits last seen Nothing fits one = record { heading = fits.heading; count = fits.count; entries = fits.entries }
placed_fits last seen (Header s) fits one = heading_fits seen (with_setting seen.heading s) fits (setting_fits seen.heading s fits.heading one)
placed_fits last seen (Label name) fits one = label_tested seen name (is_heading seen.heading) (is_some (seen.labels name)) (ltb seen.line last) fits
placed_fits last seen (Entered entry) fits one = entry_tested seen entry (is_heading seen.heading) (ltb (length seen.entries) 1024) refl fits one

line_fits : (last : ℕ) (seen : Seen) (r : Read) → SeenFits seen → IfOk r LineFits → IfOk (at_line seen.line r >>= λ l. placed last seen l) SeenFits
line_fits last seen (Ok l) fits one = placed_fits last seen l fits one
line_fits last seen (Err e) fits one = tt

with_line_fits : (last : ℕ) (seen : Seen) (l : List ℕ) → SeenFits seen → IfOk (with_line last seen l) SeenFits
unfolding with_line
with_line_fits last seen l fits = line_fits last seen (spelled (is_heading seen.heading) l) fits (spelled_fits (is_heading seen.heading) l)

then_fits : (r : Result Seen AsmRefusal) (f : Seen → Result Seen AsmRefusal) → IfOk r SeenFits → ((next : Seen) → SeenFits next → IfOk (f next) SeenFits) → IfOk (r >>= f) SeenFits
then_fits (Ok next) f h onward = onward next h
then_fits (Err e) f h onward = tt

with_lines_fit : (last : ℕ) (ls : List (List ℕ)) (seen : Seen) → SeenFits seen → IfOk (with_lines last seen ls) SeenFits
unfolding with_lines
with_lines_fit last [] seen fits = fits
with_lines_fit last (l ∷ ls) seen fits = then_fits (with_line last seen l) (λ next. with_lines last next ls) (with_line_fits last seen l fits) (with_lines_fit last ls)

-- ---- the words

more_words : (n : ℕ) (w : Word) → IsInRange Two 0 w → IsInRange Two n w
more_words n (word.End code) fits = fits
more_words n (word.Command byte) fits = fits
more_words n (word.Address from count) fits = fits
more_words n (word.Get len) fits = fits
more_words n (word.Put len) fits = fits
more_words n (word.Seek place) fits = fits
more_words n (word.Column column) fits = fits
more_words n (word.RowAdd rows) fits = fits
more_words n (word.Row row) fits = fits
more_words n (word.Plane plane) fits = fits
more_words n word.Wait fits = tt
more_words n word.Yield fits = tt
more_words n word.ReadStatus fits = tt
more_words n (word.BranchOnStatus mask target) fits = absurd (omega arith)
more_words n (word.Loop turns) fits = fits
more_words n word.Next fits = tt
more_words n (word.Jump target) fits = absurd (omega arith)

place_tested : (n place : ℕ) (t : Bool) → ltb place n ≡ t → IfSome (if t then Some place else None) (λ p. p < n)
place_tested n place true is = ltb-true place n is
place_tested n place false is = tt

place_below : (n : ℕ) (o : Option ℕ) → IfSome (place_of n o) (λ p. p < n)
place_below n (Some place) = place_tested n place (ltb place n) refl
place_below n None = tt

branch_led : (n mask : ℕ) (o : Option ℕ) → (1 ≤ mask) × (mask < 256) → IfSome o (λ p. p < n) → IfSome (and_then o (λ place. Some (word.BranchOnStatus mask place))) (IsInRange Two n)
branch_led n mask (Some place) fits low = (fits.0, fits.1, low)
branch_led n mask None fits low = tt

jump_led : (n : ℕ) (o : Option ℕ) → IfSome o (λ p. p < n) → IfSome (and_then o (λ place. Some (word.Jump place))) (IsInRange Two n)
jump_led n (Some place) low = low
jump_led n None low = tt

led_fits : (n : ℕ) (labels : List ℕ → Option ℕ) (e : Entry) → EntryFits e → IfSome (led n labels e) (IsInRange Two n)
led_fits n labels (Plain w) fits = more_words n w fits
led_fits n labels (Branch mask to) fits = branch_led n mask (place_of n (labels to)) fits (place_below n (labels to))
led_fits n labels (line.Jump to) fits = jump_led n (place_of n (labels to)) (place_below n (labels to))

abbrev all_words : Result (List Word) AsmRefusal → Result (List Word) AsmRefusal
all_words r = r

abbrev whole_text : Result Microprogram AsmRefusal → Result Microprogram AsmRefusal
whole_text r = r

record WordsFit (n many : ℕ) (words : List Word) : Type 0 where
  pub count : length words ≡ many
  pub fit : AllByRecursion (IsInRange Two n) words

words_then : (n count line : ℕ) (o : Option Word) (r : Result (List Word) AsmRefusal) → IfSome o (IsInRange Two n) → IfOk r (WordsFit n count)
    → IfOk (ok_or o (Fault NoSuchLabel line) >>= λ w. r >>= λ words. all_words (Ok (w ∷ words))) (WordsFit n (count + 1))
words_then n count line None r h k = tt
words_then n count line (Some w) (Err e) h k = tt
words_then n count line (Some w) (Ok words) h k = record { count = omega (arith, k.count); fit = (h, k.fit) }

words_fit : (n : ℕ) (labels : List ℕ → Option ℕ) (es : List (ℕ × Entry)) → AllByRecursion PairFits es → IfOk (words_of n labels es) (WordsFit n (length es))
unfolding words_of
words_fit n labels [] fits = record { count = refl; fit = tt }
words_fit n labels (e ∷ es) fits =
    let longer : length es + 1 ≡ length (e ∷ es) = omega arith in
    subst (λ (count : ℕ). IfOk (words_of n labels (e ∷ es)) (WordsFit n count)) longer (words_then n (length es) e.0 (led n labels e.1) (words_of n labels es) (led_fits n labels e.1 fits.0) (words_fit n labels es fits.1))

-- ---- the whole text

header_fits : (h : Heading) → HeadingFits h → IfSome (numbers_of h) NumbersFit
header_fits heading.Empty fits = tt
header_fits (heading.Rows rows) fits = tt
header_fits (heading.Buffer rows buffer) fits = tt
header_fits (heading.Whole numbers) fits = fits

program_fits : (numbers : Numbers) (n : ℕ) (words : List Word) → NumbersFit numbers → n ≤ 1024 → WordsFit n n words → FitsFormat Two (program numbers words)
program_fits numbers n words header most fits = record {
  some_rows = header.some_rows;
  rows = header.rows;
  buffer = header.buffer;
  budget = header.budget;
  count = omega (arith, fits.count);
  words = subst (λ (count : ℕ). AllByRecursion (IsInRange Two count) words) (sym fits.count) fits.fit;
}

given_then : (n line : ℕ) (o : Option Numbers) (r : Result (List Word) AsmRefusal) → n ≤ 1024 → IfSome o NumbersFit → IfOk r (WordsFit n n)
    → IfOk (ok_or o (Fault HeaderOutOfOrder line) >>= λ numbers. r >>= λ words. whole_text (Ok (program numbers words))) (FitsFormat Two)
given_then n line None r most h k = tt
given_then n line (Some numbers) (Err e) most h k = tt
given_then n line (Some numbers) (Ok words) most h k = program_fits numbers n words h most k

given_fits : (seen : Seen) → SeenFits seen → IfOk (given seen) (FitsFormat Two)
unfolding given
given_fits seen fits = given_then (length seen.entries) seen.line (numbers_of seen.heading) (words_of (length seen.entries) seen.labels seen.entries) fits.count (header_fits seen.heading fits.heading) (words_fit (length seen.entries) seen.labels seen.entries fits.entries)

text_then : (r : Result Seen AsmRefusal) → IfOk r SeenFits → IfOk (r >>= given) (FitsFormat Two)
text_then (Ok seen) fits = given_fits seen fits
text_then (Err e) fits = tt

reading_fits : (text : List ℕ) → IfOk (reading text) (FitsFormat Two)
unfolding reading seen_in
reading_fits text = text_then (with_lines (last_word 0 1 (lines text)) nothing_seen (lines text)) (with_lines_fit (last_word 0 1 (lines text)) (lines text) nothing_seen (record { heading = tt; count = omega arith; entries = tt }))

pub spelled_text_fits : (text : List ℕ) (x : Microprogram) → Spells text x → FitsFormat Two x
spelled_text_fits text x e = subst (λ (r : Result Microprogram AsmRefusal). IfOk r (FitsFormat Two)) e (reading_fits text)

pub read_is_written_again : ReadIsWrittenAgain
read_is_written_again text x e = written_is_read x (spelled_text_fits text x e)
