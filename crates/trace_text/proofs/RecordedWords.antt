-- The words of the line of an item, with a time in front or without, are its fields.
use Rattle.std.proofs.Common.{◌≡◌, ℕ, ◌+◌, ◌-◌, ◌*◌, ◌/◌, ◌%◌, ◌<◌, ◌≤◌, ◌^◌, Bool, true, false, eqb, ltb, leb, List, [], ◌∷◌, ◌++◌, length, Some, None, Ok, refl, sym, ap, ◌∙◌, append_assoc, arith, get_or, length-append}
use Rattle.std.proofs.Math.Seq.{get_or-append_seam}
use Rattle.std.proofs.lemmas.List.{append-nil}
use Rattle.std.specs.List.{AllByRecursion}
use Rattle.std.specs.Fmt.{decimal}
use Rattle.std.specs.Str.Lines.{strip_carriage_return}
use Rattle.std.proofs.lemmas.Bool.{ne_eqb, ltb-true, lt-ltb, le-leb}
use Rattle.std.proofs.lemmas.Fmt.{decimal_by_steps, decimal_nonempty}
use Rattle.onfi_cycle.specs.declared.item.Failures.{Failures}
use Rattle.nand_geometry.specs.declared.optional.Profile.TheVariants.{Base, Onfi}
use Rattle.onfi_cycle.specs.declared.item.Kind.{Kind}
use Rattle.onfi_cycle.specs.declared.item.Kind.TheVariants.{Cmd, Adr, Din, Dout}
use Rattle.onfi_cycle.specs.declared.item.Item.{Item}
use Rattle.onfi_cycle.specs.declared.item.Item.TheVariants.{Cyc, Rdy, Ard}
use Rattle.nand_geometry.specs.declared.optional.Profile.{Profile}
use Rattle.trace_text.specs.declared.line.Letter.TheVariants.{CycleOf, Ready, ArrayReady}
use Rattle.trace_text.specs.declared.recorded_item.TimedItem.{TimedItem}
use Rattle.trace_text.specs.Line.{digit, hex_digit, kind_letter, fail_number, fail_digit, line, IsPrintable, HasByte, IsKnown}
use Rattle.trace_text.specs.Reading.{cycle, ready, array_ready, failed_array, array_fail_of, item_of}
use Rattle.trace_text.specs.Recorded.{ended, words_from, words, number_from, number, placed, behind_time, item_in, recorded_line, TimeFits, timed_line}
use Rattle.trace_text.proofs.Texts.{HasNoFeed}
use Rattle.trace_text.proofs.Ranges.{place_again, byte_again, fail_again, fail_small, letter_again}

-- ---- characters of a word

-- none of a blank, the beginning of a comment, a carriage return and a line feed
pub record IsQuiet (b : ℕ) : Type 0 where
  pub no_tab : eqb b 9 ≡ false
  pub no_feed : eqb b 10 ≡ false
  pub no_return : eqb b 13 ≡ false
  pub no_space : eqb b 32 ≡ false
  pub no_hash : eqb b 35 ≡ false
  pub no_semicolon : eqb b 59 ≡ false

quiet : (b : ℕ) → 36 ≤ b → eqb b 59 ≡ false → IsQuiet b
quiet b low other = record {
  no_tab = ne_eqb b 9 (λ e. absurd (omega arith));
  no_feed = ne_eqb b 10 (λ e. absurd (omega arith));
  no_return = ne_eqb b 13 (λ e. absurd (omega arith));
  no_space = ne_eqb b 32 (λ e. absurd (omega arith));
  no_hash = ne_eqb b 35 (λ e. absurd (omega arith));
  no_semicolon = other;
}

quiet_digit : (n : ℕ) → n ≤ 9 → IsQuiet (48 + n)
quiet_digit n low = quiet (48 + n) (omega arith) (ne_eqb (48 + n) 59 (λ e. absurd (omega arith)))

quiet_hex : (n : ℕ) → n < 16 → IsQuiet (hex_digit n)
quiet_hex n low = at (ltb n 10) refl
  where
    at : (t : Bool) → ltb n 10 ≡ t → IsQuiet (hex_digit n)
    at true is = let below : n < 10 = ltb-true n 10 is in rw is (quiet_digit n (omega arith))
    at false is = rw is (quiet (87 + n) (omega arith) (ne_eqb (87 + n) 59 (λ e. absurd (omega arith))))

quiet_letter : (kind : Kind) → IsQuiet (kind_letter kind)
quiet_letter Cmd = quiet 67 (omega arith) refl
quiet_letter Adr = quiet 65 (omega arith) refl
quiet_letter Din = quiet 73 (omega arith) refl
quiet_letter Dout = quiet 79 (omega arith) refl

quiet_fail : (fail : Failures) → IsQuiet (fail_digit fail)
quiet_fail fail = let small = fail_small fail in quiet_digit (fail_number fail.last fail.before) (omega (arith, small))

abbrev pub AreQuiet : List ℕ → Type 0
AreQuiet bs = AllByRecursion IsQuiet bs

-- ---- words one after another

word_more : (front w rest : List ℕ) (b : ℕ) → IsQuiet b → words_from front (b ∷ (w ++ rest)) ≡ words_from (front ++ b ∷ []) (w ++ rest)
word_more front w rest b is = rw (is.no_hash, is.no_semicolon, is.no_space, is.no_tab) refl

-- a word that a space ends
pub word_ends : (front w rest : List ℕ) → AreQuiet w → words_from front (w ++ 32 ∷ rest) ≡ ended (front ++ w) (words_from [] rest)
word_ends front [] rest are = ap (λ (bs : List ℕ). ended bs (words_from [] rest)) (sym (append-nil front))
word_ends front (b ∷ w) rest are =
    word_more front w (32 ∷ rest) b are.0
    ∙ (word_ends (front ++ b ∷ []) w rest are.1 ∙ ap (λ (bs : List ℕ). ended bs (words_from [] rest)) (append_assoc front (b ∷ []) w))

-- the last one
pub word_last : (front w : List ℕ) → AreQuiet w → words_from front w ≡ ended (front ++ w) []
word_last front [] are = ap (λ (bs : List ℕ). ended bs []) (sym (append-nil front))
word_last front (b ∷ w) are =
    rw (are.0.no_hash, are.0.no_semicolon, are.0.no_space, are.0.no_tab)
    (word_last (front ++ b ∷ []) w are.1 ∙ ap (λ (bs : List ℕ). ended bs []) (append_assoc front (b ∷ []) w))

-- a word of at least one character in front of others
one_more : (b : ℕ) (w rest : List ℕ) → AreQuiet (b ∷ w) → words_from [] ((b ∷ w) ++ 32 ∷ rest) ≡ (b ∷ w) ∷ words_from [] rest
one_more b w rest are = word_ends [] (b ∷ w) rest are

-- ---- the line of an item

-- the line of an item up to its last character, and that one
abbrev pub start : Item → List ℕ
start (Cyc c) = digit c.ce ∷ 32 ∷ kind_letter c.kind ∷ 32 ∷ hex_digit (c.byte / 16) ∷ []
start (Rdy ce lun fail) = digit ce ∷ 32 ∷ 82 ∷ 32 ∷ digit lun ∷ 32 ∷ []
start (Ard ce lun true) = digit ce ∷ 32 ∷ 89 ∷ 32 ∷ digit lun ∷ 32 ∷ []
start (Ard ce lun false) = digit ce ∷ 32 ∷ 89 ∷ 32 ∷ []

abbrev pub last : Item → ℕ
last (Cyc c) = hex_digit (c.byte % 16)
last (Rdy ce lun fail) = fail_digit fail
last (Ard ce lun true) = 49
last (Ard ce lun false) = digit lun

abbrev pub front : Item → List ℕ
front item = start item ++ last item ∷ []

pub line_is : (item : Item) → line item ≡ front item ++ 10 ∷ []
line_is (Cyc c) = refl
line_is (Rdy ce lun fail) = refl
line_is (Ard ce lun true) = refl
line_is (Ard ce lun false) = refl

abbrev pub fields_of : Item → List (List ℕ)
fields_of (Cyc c) = (digit c.ce ∷ []) ∷ (kind_letter c.kind ∷ []) ∷ (hex_digit (c.byte / 16) ∷ hex_digit (c.byte % 16) ∷ []) ∷ []
fields_of (Rdy ce lun fail) = (digit ce ∷ []) ∷ (82 ∷ []) ∷ (digit lun ∷ []) ∷ (fail_digit fail ∷ []) ∷ []
fields_of (Ard ce lun true) = (digit ce ∷ []) ∷ (89 ∷ []) ∷ (digit lun ∷ []) ∷ (49 ∷ []) ∷ []
fields_of (Ard ce lun false) = (digit ce ∷ []) ∷ (89 ∷ []) ∷ (digit lun ∷ []) ∷ []

three_words : (a k : ℕ) (w : List ℕ) → IsQuiet a → IsQuiet k → AreQuiet w → words_from [] (a ∷ 32 ∷ k ∷ 32 ∷ w) ≡ (a ∷ []) ∷ (k ∷ []) ∷ ended w []
three_words a k w qa qk qw =
    one_more a [] (k ∷ 32 ∷ w) (qa, tt) ∙ ap (λ (ws : List (List ℕ)). (a ∷ []) ∷ ws) (one_more k [] w (qk, tt) ∙ ap (λ (ws : List (List ℕ)). (k ∷ []) ∷ ws) (word_last [] w qw))

four_words : (a k l f : ℕ) → IsQuiet a → IsQuiet k → IsQuiet l → IsQuiet f → words_from [] (a ∷ 32 ∷ k ∷ 32 ∷ l ∷ 32 ∷ f ∷ []) ≡ (a ∷ []) ∷ (k ∷ []) ∷ (l ∷ []) ∷ (f ∷ []) ∷ []
four_words a k l f qa qk ql qf =
    one_more a [] (k ∷ 32 ∷ l ∷ 32 ∷ f ∷ []) (qa, tt) ∙ ap (λ (ws : List (List ℕ)). (a ∷ []) ∷ ws) (three_words k l (f ∷ []) qk ql (qf, tt))

pub words_again : (item : Item) → IsPrintable item → HasByte item → words_from [] (front item) ≡ fields_of item
words_again (Cyc c) printable byte =
    let small : c.byte < 256 = byte in
    let place : c.ce ≤ 3 = printable in
    three_words (digit c.ce) (kind_letter c.kind) (hex_digit (c.byte / 16) ∷ hex_digit (c.byte % 16) ∷ []) (quiet_digit c.ce (omega arith)) (quiet_letter c.kind)
    (quiet_hex (c.byte / 16) (omega arith), (quiet_hex (c.byte % 16) (omega arith), tt))
words_again (Rdy ce lun fail) printable byte =
    four_words (digit ce) 82 (digit lun) (fail_digit fail) (quiet_digit ce (omega arith)) (quiet 82 (omega arith) refl) (quiet_digit lun (omega arith)) (quiet_fail fail)
words_again (Ard ce lun true) printable byte =
    four_words (digit ce) 89 (digit lun) 49 (quiet_digit ce (omega arith)) (quiet 89 (omega arith) refl) (quiet_digit lun (omega arith)) (quiet 49 (omega arith) refl)
words_again (Ard ce lun false) printable byte =
    three_words (digit ce) 89 (digit lun ∷ []) (quiet_digit ce (omega arith)) (quiet 89 (omega arith) refl) (quiet_digit lun (omega arith), tt)

pub item_again : (p : Profile) (item : Item) → IsPrintable item → HasByte item → IsKnown p item → item_of p (fields_of item) ≡ Ok item
unfolding cycle ready array_ready failed_array array_fail_of
item_again p (Cyc c) printable byte known = rw (letter_again (CycleOf c.kind), place_again c.ce printable, byte_again c.byte byte) refl
item_again p (Rdy ce lun fail) printable byte known = rw (letter_again Ready, place_again ce printable.0, place_again lun printable.1, fail_again p ce lun fail known) refl
item_again p (Ard ce lun true) printable byte known = at p known
  where
    at : (q : Profile) → IsKnown q (Ard ce lun true) → item_of q (fields_of (Ard ce lun true)) ≡ Ok (Ard ce lun true)
    at Base known = cc
    at Onfi known = rw (letter_again ArrayReady, place_again ce printable.0, place_again lun printable.1) refl
item_again p (Ard ce lun false) printable byte known = rw (letter_again ArrayReady, place_again ce printable.0, place_again lun printable.1) refl

-- ---- what stands in a line

-- the last character is no carriage return
pub keeps_end : (bs : List ℕ) (c : ℕ) → IsQuiet c → strip_carriage_return (bs ++ c ∷ []) ≡ bs ++ c ∷ []
keeps_end bs c is =
    let place : length (bs ++ c ∷ []) - 1 ≡ length bs = omega (arith, length-append bs (c ∷ [])) in
    let here : get_or (bs ++ c ∷ []) (length (bs ++ c ∷ []) - 1) 0 ≡ c = ap (λ i. get_or (bs ++ c ∷ []) i 0) place ∙ get_or-append_seam bs c [] 0 in
    rw (here, is.no_return) refl

quiet_last : (item : Item) → IsPrintable item → HasByte item → IsQuiet (last item)
quiet_last (Cyc c) printable byte = quiet_hex (c.byte % 16) (omega arith)
quiet_last (Rdy ce lun fail) printable byte = quiet_fail fail
quiet_last (Ard ce lun true) printable byte = quiet 49 (omega arith) refl
quiet_last (Ard ce lun false) printable byte = quiet_digit lun (omega arith)

-- the line of an item
pub recorded_again : (p : Profile) (n : ℕ) (item : Item) → IsPrintable item → HasByte item → IsKnown p item → recorded_line p n (front item) ≡ Ok (Some (record { line = n; time = None; item = item }))
unfolding recorded_line
recorded_again p n item printable byte known =
    let whole : words (front item) ≡ fields_of item = ap (words_from []) (keeps_end (start item) (last item) (quiet_last item printable byte)) ∙ words_again item printable byte in
    ap (item_in p n) whole ∙ (no_time n item printable ∙ ap (placed n None) (item_again p item printable byte known))
  where
    no_time : (n : ℕ) (item : Item) → IsPrintable item → item_in p n (fields_of item) ≡ placed n None (item_of p (fields_of item))
    no_time n (Cyc c) printable = let place : c.ce ≤ 3 = printable in let other : eqb (digit c.ce) 64 ≡ false = ne_eqb (digit c.ce) 64 (λ e. absurd (omega arith)) in rw other refl
    no_time n (Rdy ce lun fail) printable = let place : ce ≤ 3 = printable.0 in let other : eqb (digit ce) 64 ≡ false = ne_eqb (digit ce) 64 (λ e. absurd (omega arith)) in rw other refl
    no_time n (Ard ce lun true) printable = let place : ce ≤ 3 = printable.0 in let other : eqb (digit ce) 64 ≡ false = ne_eqb (digit ce) 64 (λ e. absurd (omega arith)) in rw other refl
    no_time n (Ard ce lun false) printable = let place : ce ≤ 3 = printable.0 in let other : eqb (digit ce) 64 ≡ false = ne_eqb (digit ce) 64 (λ e. absurd (omega arith)) in rw other refl

-- ---- a time

-- digits that follow others
abbrev pub AreDigitsOf : ℕ → List ℕ → Type 0
AreDigitsOf n ds = AreQuiet ds × (n < 18446744073709551616 → (rest : List ℕ) → number_from 0 (ds ++ rest) ≡ number_from n rest)

one_digit : (m d : ℕ) (rest : List ℕ) → d ≤ 9 → 10 * m + d < 18446744073709551616 → number_from m ((48 + d) ∷ rest) ≡ number_from (10 * m + d) rest
one_digit m d rest low small =
    let value : (48 + d) - 48 ≡ d = omega arith in
    let first : leb 48 (48 + d) ≡ true = le-leb 48 (48 + d) (omega arith) in
    let second : leb (48 + d) 57 ≡ true = le-leb (48 + d) 57 (omega arith) in
    let fits : ltb (10 * m + d) 18446744073709551616 ≡ true = lt-ltb (10 * m + d) 18446744073709551616 small in
    rw (value, first, second, fits) refl

quiet_more : (ds : List ℕ) (b : ℕ) → AreQuiet ds → IsQuiet b → AreQuiet (ds ++ b ∷ [])
quiet_more [] b are is = (is, tt)
quiet_more (d ∷ ds) b are is = (are.0, quiet_more ds b are.1 is)

pub digits_again : (n : ℕ) → n < 2 ^ 64 → AreDigitsOf n (decimal n)
digits_again = decimal_by_steps AreDigitsOf one more
  where
    one : (n : ℕ) → n < 10 → AreDigitsOf n ((48 + n) ∷ [])
    one n low = ((quiet_digit n (omega arith), tt), λ small rest. let same : 10 * 0 + n ≡ n = omega arith in one_digit 0 n rest (omega arith) (omega arith) ∙ ap (λ m. number_from m rest) same)

    more : (n : ℕ) (ds : List ℕ) → 10 ≤ n → AreDigitsOf (n / 10) ds → AreDigitsOf n (ds ++ (48 + n % 10) ∷ [])
    more n ds high are = (
      quiet_more ds (48 + n % 10) are.0 (quiet_digit (n % 10) (omega arith)),
      λ small rest.
          let same : 10 * (n / 10) + n % 10 ≡ n = omega arith in
          let before : n / 10 < 18446744073709551616 = omega arith in
          ap (number_from 0) (append_assoc ds ((48 + n % 10) ∷ []) rest) ∙ are.1 before ((48 + n % 10) ∷ rest)
          ∙ one_digit (n / 10) (n % 10) rest (omega arith) (omega (arith, small)) ∙ ap (λ m. number_from m rest) same,
    )

number_some : (ds : List ℕ) → 0 < length ds → number ds ≡ number_from 0 ds
number_some [] some = absurd (omega (arith, some))
number_some (d ∷ ds) some = refl

pub number_again : (n : ℕ) → n < 18446744073709551616 → number (decimal n) ≡ Some n
number_again n small =
    number_some (decimal n) (decimal_nonempty n small) ∙ (ap (number_from 0) (sym (append-nil (decimal n))) ∙ (digits_again n small).1 small [])

-- ---- the line of an item with its time

pub timed_front : TimedItem → List ℕ
timed_front t = 64 ∷ (decimal t.time ++ (32 ∷ front t.item))

pub timed_line_is : (t : TimedItem) → timed_line t ≡ timed_front t ++ 10 ∷ []
unfolding timed_front
timed_line_is t = ap (λ (bs : List ℕ). 64 ∷ (decimal t.time ++ (32 ∷ bs))) (line_is t.item) ∙ ap (λ (bs : List ℕ). 64 ∷ bs) (sym (append_assoc (decimal t.time) (32 ∷ front t.item) (10 ∷ [])))

pub timed_again : (p : Profile) (n : ℕ) (t : TimedItem) → IsPrintable t.item → TimeFits t → IsKnown p t.item → recorded_line p n (timed_front t) ≡ Ok (Some (record { line = n; time = Some t.time; item = t.item }))
unfolding recorded_line timed_front
timed_again p n t printable fits known =
    let digits = digits_again t.time fits.1 in
    let grouped : timed_front t ≡ (64 ∷ (decimal t.time ++ (32 ∷ start t.item))) ++ last t.item ∷ [] = ap (λ (bs : List ℕ). 64 ∷ bs) (sym (append_assoc (decimal t.time) (32 ∷ start t.item) (last t.item ∷ []))) in
    let kept : strip_carriage_return (timed_front t) ≡ timed_front t =
    ap strip_carriage_return grouped ∙ keeps_end (64 ∷ (decimal t.time ++ (32 ∷ start t.item))) (last t.item) (quiet_last t.item printable fits.0) ∙ sym grouped in
    let cut : words (timed_front t) ≡ (64 ∷ decimal t.time) ∷ fields_of t.item =
    ap (words_from []) kept ∙ one_more 64 (decimal t.time) (front t.item) (quiet 64 (omega arith) refl, digits.0)
    ∙ ap (λ (ws : List (List ℕ)). (64 ∷ decimal t.time) ∷ ws) (words_again t.item printable fits.0) in
    ap (item_in p n) cut ∙ (ap (λ o. behind_time p n o (fields_of t.item)) (number_again t.time fits.1) ∙ ap (placed n (Some t.time)) (item_again p t.item printable fits.0 known))

-- ---- no line feed stands in them

feeds_append : (xs ys : List ℕ) → HasNoFeed xs → HasNoFeed ys → HasNoFeed (xs ++ ys)
feeds_append [] ys h k = k
feeds_append (x ∷ xs) ys h k = (h.0, feeds_append xs ys h.1 k)

feeds_of : (bs : List ℕ) → AreQuiet bs → HasNoFeed bs
feeds_of [] are = tt
feeds_of (b ∷ bs) are = (are.0.no_feed, feeds_of bs are.1)

pub quiet_front : (item : Item) → IsPrintable item → HasByte item → HasNoFeed (front item)
quiet_front (Cyc c) printable byte =
    let small : c.byte < 256 = byte in
    let place : c.ce ≤ 3 = printable in
    ((quiet_digit c.ce (omega arith)).no_feed, (refl, ((quiet_letter c.kind).no_feed, (refl, ((quiet_hex (c.byte / 16) (omega arith)).no_feed, ((quiet_hex (c.byte % 16) (omega arith)).no_feed, tt))))))
quiet_front (Rdy ce lun fail) printable byte =
    ((quiet_digit ce (omega arith)).no_feed, (refl, (refl, (refl, ((quiet_digit lun (omega arith)).no_feed, (refl, ((quiet_fail fail).no_feed, tt)))))))
quiet_front (Ard ce lun true) printable byte = ((quiet_digit ce (omega arith)).no_feed, (refl, (refl, (refl, ((quiet_digit lun (omega arith)).no_feed, (refl, (refl, tt)))))))
quiet_front (Ard ce lun false) printable byte = ((quiet_digit ce (omega arith)).no_feed, (refl, (refl, (refl, ((quiet_digit lun (omega arith)).no_feed, tt)))))

pub quiet_timed : (t : TimedItem) → IsPrintable t.item → TimeFits t → HasNoFeed (timed_front t)
unfolding timed_front
quiet_timed t printable fits = (refl, feeds_append (decimal t.time) (32 ∷ front t.item) (feeds_of (decimal t.time) (digits_again t.time fits.1).0) (refl, quiet_front t.item printable fits.0))
