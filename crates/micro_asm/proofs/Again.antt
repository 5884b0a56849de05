-- The line that is written for a word is read as that word.
use Rattle.std.proofs.Common.{◌≡◌, ℕ, zero, suc, ◌+◌, ◌-◌, ◌*◌, ◌/◌, ◌%◌, ◌^◌, ◌<◌, ◌≤◌, Bool, true, false, ◌&&◌, eqb, ltb, leb, List, [], ◌∷◌, ◌++◌, length, get_or, Some, Ok, refl, ap, ◌∙◌, arith, length-append}
use Rattle.std.specs.Prelude.{codes, not}
use Rattle.std.specs.Char.{is_ascii_digit}
use Rattle.std.specs.Fmt.{decimal}
use Rattle.std.specs.List.{AllByRecursion, filter, position_or_len, list_all}
use Rattle.std.specs.Str.{all_ascii_digits}
use Rattle.std.proofs.Math.Seq.{take-length}
use Rattle.std.proofs.lemmas.Bool.{ltb-true, ltb-false, lt-ltb, le-leb}
use Rattle.std.proofs.lemmas.Bool.Decides.{nat_tests}
use Rattle.std.proofs.lemmas.Fmt.{digits_decimal, digits_value-decimal, length-decimal-le, decimal_nonempty}
use Rattle.std.proofs.lemmas.List.Sums.{position_or_len_is}
use Rattle.std.proofs.lemmas.List.Splits.{slice_split_at, slice_split_none}
use Rattle.std.proofs.lemmas.List.Elements.{All-from_recursion}
use Rattle.micro_word.specs.declared.word.Word.TheVariants as word
use Rattle.micro_asm.specs.Assembly.{label, word_text, hex_digit, hex_byte}
use Rattle.micro_asm.specs.declared.names.Counted.{Counted}
use Rattle.micro_asm.specs.declared.names.Counted.TheVariants as counted
use Rattle.micro_asm.specs.declared.names.Name.TheVariants.{Number}
use Rattle.micro_asm.specs.Line.{with_number, least, greatest, Entered, spelled, fields, fields_line, before_comment, is_blank, is_some_field, number_of, byte_of, hex_value, is_label, label_of, label_line, is_name_byte, name_of, header_of, word_name, counted_of, other_of, named_line, counted_line, bare_line, command_line, address_line, target_of, branch_line, jump_line}
use Rattle.micro_asm.specs.Again.{entry_of, WordsAreSpelled, HeadersAreSpelled, LabelsAreSpelled}
use Rattle.micro_asm.proofs.Numbers.{own}

-- ---- bytes that are neither a blank nor a semicolon

abbrev NoComment : List ℕ → Type 0
NoComment bs = AllByRecursion (λ b. eqb b 59 ≡ false) bs

abbrev NoBlank : List ℕ → Type 0
NoBlank bs = AllByRecursion (λ b. is_blank b ≡ false) bs

at : (test : ℕ → Bool) (bs : List ℕ) (i : ℕ) → AllByRecursion (λ b. test b ≡ false) bs → i < length bs → test (get_or bs i 0) ≡ false
at test [] i h low = absurd (omega arith)
at test (b ∷ bs) zero h low = h.0
at test (b ∷ bs) (suc i) h low = at test bs i h.1 (omega arith)

uncommented : (bs : List ℕ) → NoComment bs → before_comment bs ≡ bs
uncommented bs h =
    let none : position_or_len (λ b. eqb b 59) bs ≡ length bs = position_or_len_is (λ b. eqb b 59) bs (length bs) 0 (omega arith) (λ i low. at (λ b. eqb b 59) bs i h low) (λ past. absurd (omega arith)) in
    ap (λ i. lib.ListN.take i bs) none ∙ take-length bs

both : (P : ℕ → Type 0) (xs ys : List ℕ) → AllByRecursion P xs → AllByRecursion P ys → AllByRecursion P (xs ++ ys)
both P [] ys h k = k
both P (x ∷ xs) ys h k = (h.0, both P xs ys h.1 k)

-- one field, and one before others
last_field : (a : ℕ) (field : List ℕ) → NoBlank (a ∷ field) → fields (a ∷ field) ≡ (a ∷ field) ∷ []
unfolding fields
last_field a field h = ap (filter is_some_field) (slice_split_none is_blank (a ∷ field) (All-from_recursion (λ (b : ℕ). is_blank b ≡ false) (a ∷ field) h))

more_fields : (a : ℕ) (field rest : List ℕ) → NoBlank (a ∷ field) → fields ((a ∷ field) ++ 32 ∷ rest) ≡ (a ∷ field) ∷ fields rest
unfolding fields
more_fields a field rest h = ap (filter is_some_field) (slice_split_at is_blank (a ∷ field) 32 rest (All-from_recursion (λ (b : ℕ). is_blank b ≡ false) (a ∷ field) h) refl)

-- ---- plain bytes, by a test

abbrev plain : ℕ → Bool
plain b = not (eqb b 59) && not (is_blank b)

abbrev all_plain : List ℕ → Bool
all_plain [] = true
all_plain (b ∷ bs) = plain b && all_plain bs

pub and_parts : (a b : Bool) → (a && b) ≡ true → (a ≡ true) × (b ≡ true)
and_parts true b h = (refl, h)
and_parts false b h = absurd cc

pub not_false : (a : Bool) → not a ≡ true → a ≡ false
not_false true h = absurd cc
not_false false h = refl

plain_parts : (bs : List ℕ) → all_plain bs ≡ true → NoComment bs × NoBlank bs
plain_parts [] h = (tt, tt)
plain_parts (b ∷ bs) h =
    let parts = and_parts (plain b) (all_plain bs) h in
    let one = and_parts (not (eqb b 59)) (not (is_blank b)) parts.0 in
    let others = plain_parts bs parts.1 in
    ((not_false (eqb b 59) one.0, others.0), (not_false (is_blank b) one.1, others.1))

plain_more : (xs ys : List ℕ) → all_plain xs ≡ true → all_plain ys ≡ true → all_plain (xs ++ ys) ≡ true
plain_more [] ys h k = k
plain_more (x ∷ xs) ys h k =
    let parts = and_parts (plain x) (all_plain xs) h in
    rw (parts.0, plain_more xs ys parts.1 k) refl

-- ---- decimal numbers

digit_plain : (c : ℕ) → is_ascii_digit c ≡ true → plain c ≡ true
digit_plain c h = grind (arith, nat_tests)

digits_plain : (ds : List ℕ) → all_ascii_digits ds ≡ true → all_plain ds ≡ true
digits_plain [] h = refl
digits_plain (c ∷ cs) h =
    let parts = and_parts (is_ascii_digit c) (all_ascii_digits cs) h in
    rw (digit_plain c parts.0, digits_plain cs parts.1) refl

number_again : (n : ℕ) → n < 10 ^ 10 → number_of (decimal n) ≡ Some n
unfolding number_of
number_again n h =
    let small : n < 2 ^ 64 = omega arith in
    let digits = digits_decimal own n small in
    let value = digits_value-decimal own n small in
    let some = lt-ltb 0 (length (decimal n)) (decimal_nonempty n small) in
    let short = le-leb (length (decimal n)) 10 (length-decimal-le 10 n (omega arith) h small) in
    rw (some, short, digits, value) refl

number_plain : (n : ℕ) → n < 10 ^ 10 → all_plain (decimal n) ≡ true
number_plain n h = digits_plain (decimal n) (digits_decimal own n (omega arith))

-- ---- a name and its operands

line_of_two : (a b : ℕ) (name operand : List ℕ) → all_plain (a ∷ name) ≡ true → all_plain (b ∷ operand) ≡ true → fields (before_comment ((a ∷ name) ++ 32 ∷ (b ∷ operand))) ≡ (a ∷ name) ∷ ((b ∷ operand) ∷ [])
line_of_two a b name operand h k =
    let front = plain_parts (a ∷ name) h in
    let back = plain_parts (b ∷ operand) k in
    let whole = uncommented ((a ∷ name) ++ 32 ∷ (b ∷ operand)) (both (λ c. eqb c 59 ≡ false) (a ∷ name) (32 ∷ (b ∷ operand)) front.0 (refl, back.0)) in
    ap fields whole ∙ (more_fields a name (b ∷ operand) front.1 ∙ ap (λ (fs : List (List ℕ)). (a ∷ name) ∷ fs) (last_field b operand back.1))

two_fields : (a : ℕ) (name operand : List ℕ) → all_plain (a ∷ name) ≡ true → all_plain operand ≡ true → 0 < length operand → fields (before_comment ((a ∷ name) ++ 32 ∷ operand)) ≡ (a ∷ name) ∷ (operand ∷ [])
two_fields a name [] h k some = absurd (omega arith)
two_fields a name (b ∷ operand) h k some = line_of_two a b name operand h k

counted_word : (heads : Bool) (kind : Counted) (a : ℕ) (name : List ℕ) (n : ℕ) → name_of heads (a ∷ name) ≡ Some (Number kind) → all_plain (a ∷ name) ≡ true → least kind ≤ n → n ≤ greatest kind → n < 10 ^ 10 → spelled heads ((a ∷ name) ++ 32 ∷ decimal n) ≡ Ok (with_number kind n)
unfolding spelled fields_line named_line counted_line
counted_word heads kind a name n is h low high small =
    let parts = two_fields a name (decimal n) h (number_plain n small) (decimal_nonempty n (omega arith)) in
    let above = le-leb (least kind) n low in
    let below = le-leb n (greatest kind) high in
    ap (fields_line heads) parts ∙ rw (is, number_again n small, above, below) refl

-- ---- hexadecimal bytes

hex_again : (n : ℕ) → n < 16 → hex_value (hex_digit n) ≡ Some n
hex_again n h = by_test (ltb n 10) refl
  where
    by_test : (t : Bool) → ltb n 10 ≡ t → hex_value (hex_digit n) ≡ Some n
    by_test true is =
        let low : n < 10 = ltb-true n 10 is in
        let test : (leb 48 (48 + n) && leb (48 + n) 57) ≡ true = grind (arith, nat_tests) in
        let back : 48 + n - 48 ≡ n = omega arith in
        rw (is, test, back) refl
    by_test false is =
        let high : 10 ≤ n = ltb-false n 10 is in
        let past : (leb 48 (87 + n) && leb (87 + n) 57) ≡ false = grind (arith, nat_tests) in
        let also : (leb 65 (87 + n) && leb (87 + n) 70) ≡ false = grind (arith, nat_tests) in
        let test : (leb 97 (87 + n) && leb (87 + n) 102) ≡ true = grind (arith, nat_tests) in
        let back : 87 + n - 87 ≡ n = omega arith in
        rw (is, past, also, test, back) refl

hex_plain : (n : ℕ) → n < 16 → plain (hex_digit n) ≡ true
hex_plain n h = by_test (ltb n 10) refl
  where
    by_test : (t : Bool) → ltb n 10 ≡ t → plain (hex_digit n) ≡ true
    by_test true is =
        let low : n < 10 = ltb-true n 10 is in
        let test : plain (48 + n) ≡ true = grind (arith, nat_tests) in
        rw is test
    by_test false is =
        let high : 10 ≤ n = ltb-false n 10 is in
        let test : plain (87 + n) ≡ true = grind (arith, nat_tests) in
        rw is test

byte_again : (n : ℕ) → n < 256 → byte_of (hex_byte n) ≡ Some n
unfolding byte_of
byte_again n h =
    let high = hex_again (n / 16) (omega arith) in
    let low = hex_again (n % 16) (omega arith) in
    let back : 16 * (n / 16) + n % 16 ≡ n = omega arith in
    rw (high, low, back) refl

byte_plain : (n : ℕ) → n < 256 → all_plain (hex_byte n) ≡ true
byte_plain n h = rw (hex_plain (n / 16) (omega arith), hex_plain (n % 16) (omega arith)) refl

-- ---- labels

digits_name : (ds : List ℕ) → all_ascii_digits ds ≡ true → list_all is_name_byte ds ≡ true
digits_name [] h = refl
digits_name (c ∷ cs) h =
    let parts = and_parts (is_ascii_digit c) (all_ascii_digits cs) h in
    let one : is_name_byte c ≡ true = digit_name c parts.0 in
    rw (one, digits_name cs parts.1) refl
  where
    digit_name : (d : ℕ) → is_ascii_digit d ≡ true → is_name_byte d ≡ true
    digit_name d is = grind (arith, nat_tests)

pub label_again : (n : ℕ) → n < 10 ^ 10 → is_label (label n) ≡ true
unfolding is_label
label_again n h =
    let small : n < 2 ^ 64 = omega arith in
    let digits : length (decimal n) ≤ 10 = length-decimal-le 10 n (omega arith) h small in
    let short = le-leb (length (label n)) 32 (omega (arith, digits)) in
    let rest = digits_name (decimal n) (digits_decimal own n small) in
    rw (short, rest) refl

-- ---- words

three_fields : (a : ℕ) (name first second : List ℕ) → all_plain (a ∷ name) ≡ true → all_plain first ≡ true → all_plain second ≡ true → 0 < length first → 0 < length second → fields (before_comment ((a ∷ name) ++ 32 ∷ (first ++ 32 ∷ second))) ≡ (a ∷ name) ∷ (first ∷ (second ∷ []))
three_fields a name [] second h k l some also = absurd (omega arith)
three_fields a name (b ∷ first) [] h k l some also = absurd (omega arith)
three_fields a name (b ∷ first) (c ∷ second) h k l some also =
    let front = plain_parts (a ∷ name) h in
    let mid = plain_parts (b ∷ first) k in
    let back = plain_parts (c ∷ second) l in
    let rest = (b ∷ first) ++ 32 ∷ (c ∷ second) in
    let clear = both (λ d. eqb d 59 ≡ false) (b ∷ first) (32 ∷ (c ∷ second)) mid.0 (refl, back.0) in
    let whole = uncommented ((a ∷ name) ++ 32 ∷ rest) (both (λ d. eqb d 59 ≡ false) (a ∷ name) (32 ∷ rest) front.0 (refl, clear)) in
    let others : fields rest ≡ (b ∷ first) ∷ ((c ∷ second) ∷ []) = more_fields b first (c ∷ second) mid.1 ∙ ap (λ (fs : List (List ℕ)). (b ∷ first) ∷ fs) (last_field c second back.1) in
    ap fields whole ∙ (more_fields a name rest front.1 ∙ ap (λ (fs : List (List ℕ)). (a ∷ name) ∷ fs) others)

command_word : (byte : ℕ) → byte < 256 → spelled false (word_text (word.Command byte)) ≡ Ok (Entered (entry_of (word.Command byte)))
unfolding spelled fields_line named_line command_line name_of word_name counted_of other_of
command_word byte small = ap (fields_line false) (two_fields 99 (codes "md") (hex_byte byte) refl (byte_plain byte small) (omega arith)) ∙ rw (byte_again byte small) refl

address_word : (from count : ℕ) → 1 ≤ count → from + count ≤ 5 → spelled false (word_text (word.Address from count)) ≡ Ok (Entered (entry_of (word.Address from count)))
unfolding spelled fields_line named_line address_line name_of word_name counted_of other_of
address_word from count some most =
    let first : from < 10 ^ 10 = omega arith in
    let second : count < 10 ^ 10 = omega arith in
    let low = le-leb 1 count some in
    let high = le-leb (from + count) 5 most in
    ap (fields_line false) (three_fields 97 (codes "ddr") (decimal from) (decimal count) refl (number_plain from first) (number_plain count second) (decimal_nonempty from (omega arith)) (decimal_nonempty count (omega arith)))
    ∙ rw (number_again from first, number_again count second, low, high) refl

label_plain : (n : ℕ) → n < 10 ^ 10 → all_plain (label n) ≡ true
label_plain n h = rw (number_plain n h) refl

branch_word : (mask target : ℕ) → 1 ≤ mask → mask < 256 → target < 10 ^ 10 → spelled false (word_text (word.BranchOnStatus mask target)) ≡ Ok (Entered (entry_of (word.BranchOnStatus mask target)))
unfolding spelled fields_line named_line branch_line target_of name_of word_name counted_of other_of
branch_word mask target some most small =
    let bit : eqb mask 0 ≡ false = grind (arith, nat_tests) in
    ap (fields_line false) (three_fields 98 (codes "rs") (hex_byte mask) (label target) refl (byte_plain mask most) (label_plain target small) (omega arith) (omega arith))
    ∙ rw (label_again target small, byte_again mask most, bit) refl

jump_word : (target : ℕ) → target < 10 ^ 10 → spelled false (word_text (word.Jump target)) ≡ Ok (Entered (entry_of (word.Jump target)))
unfolding spelled fields_line named_line jump_line target_of name_of word_name counted_of other_of
jump_word target small =
    ap (fields_line false) (two_fields 106 (codes "mp") (label target) refl (label_plain target small) (omega arith)) ∙ rw (label_again target small) refl

pub words_are_spelled : WordsAreSpelled
unfolding name_of word_name counted_of other_of spelled fields fields_line named_line bare_line
words_are_spelled count (word.End code) most fits = counted_word false counted.End 101 (codes "nd") code refl refl (omega arith) (omega arith) (omega arith)
words_are_spelled count (word.Command byte) most fits = command_word byte fits
words_are_spelled count (word.Address from len) most fits = address_word from len fits.1 fits.2
words_are_spelled count (word.Get len) most fits = counted_word false counted.Get 103 (codes "et") len refl refl fits.0 fits.1 (omega arith)
words_are_spelled count (word.Put len) most fits = counted_word false counted.Put 112 (codes "ut") len refl refl fits.0 fits.1 (omega arith)
words_are_spelled count (word.Seek place) most fits = counted_word false counted.Seek 115 (codes "eek") place refl refl (omega arith) fits (omega arith)
words_are_spelled count (word.Column column) most fits = counted_word false counted.Column 99 (codes "ol") column refl refl (omega arith) (omega arith) (omega arith)
words_are_spelled count (word.RowAdd rows) most fits = counted_word false counted.RowAdd 114 (codes "owadd") rows refl refl fits.0 (omega arith) (omega arith)
words_are_spelled count (word.Row row) most fits = counted_word false counted.Row 114 (codes "ow") row refl refl (omega arith) (omega arith) (omega arith)
words_are_spelled count (word.Plane plane) most fits = counted_word false counted.Plane 112 (codes "lane") plane refl refl (omega arith) fits (omega arith)
words_are_spelled count word.Wait most fits = refl
words_are_spelled count word.Yield most fits = refl
words_are_spelled count word.ReadStatus most fits = refl
words_are_spelled count (word.BranchOnStatus mask target) most fits = branch_word mask target fits.0 fits.1 (omega arith)
words_are_spelled count (word.Loop turns) most fits = counted_word false counted.Loop 108 (codes "oop") turns refl refl fits.0 fits.1 (omega arith)
words_are_spelled count word.Next most fits = refl
words_are_spelled count (word.Jump target) most fits = jump_word target (omega arith)

pub headers_are_spelled : HeadersAreSpelled
unfolding name_of header_of
headers_are_spelled = record {
  rows = λ n low high. counted_word true counted.Rows 114 (codes "ows") n refl refl low high (omega arith);
  buffer = λ n high. counted_word true counted.Buffer 98 (codes "uffer") n refl refl (omega arith) high (omega arith);
  budget = λ n high. counted_word true counted.Budget 98 (codes "udget") n refl refl (omega arith) high (omega arith);
}

-- ---- labels

last_byte : (xs : List ℕ) (y : ℕ) → get_or (xs ++ y ∷ []) (length xs) 0 ≡ y
last_byte [] y = refl
last_byte (x ∷ xs) y = last_byte xs y

front_bytes : (xs : List ℕ) (y : ℕ) → lib.ListN.take (length xs) (xs ++ y ∷ []) ≡ xs
front_bytes [] y = refl
front_bytes (x ∷ xs) y = ap (λ (ys : List ℕ). x ∷ ys) (front_bytes xs y)

label_read : (name : List ℕ) → is_label name ≡ true → label_of (name ++ 58 ∷ []) ≡ Some name
unfolding label_of
label_read name is =
    let short : length (name ++ 58 ∷ []) - 1 ≡ length name = omega (arith, length-append name (58 ∷ [])) in
    rw (short, last_byte name 58, front_bytes name 58, is) refl

pub labels_are_spelled : LabelsAreSpelled
unfolding spelled fields_line label_line name_of header_of word_name counted_of other_of
labels_are_spelled false place low =
    let plain = plain_more (label place) (58 ∷ []) (label_plain place (omega arith)) refl in
    let parts = plain_parts (label place ++ 58 ∷ []) plain in
    let line = ap fields (uncommented (label place ++ 58 ∷ []) parts.0) ∙ last_field 76 (decimal place ++ 58 ∷ []) parts.1 in
    ap (fields_line false) line ∙ rw (label_read (label place) (label_again place (omega arith))) refl
labels_are_spelled true place low =
    let plain = plain_more (label place) (58 ∷ []) (label_plain place (omega arith)) refl in
    let parts = plain_parts (label place ++ 58 ∷ []) plain in
    let line = ap fields (uncommented (label place ++ 58 ∷ []) parts.0) ∙ last_field 76 (decimal place ++ 58 ∷ []) parts.1 in
    ap (fields_line true) line ∙ rw (label_read (label place) (label_again place (omega arith))) refl
