-- What is printed of a trace is its text, which is read back.
use Rattle.std.proofs.Common.{◌≡◌, ℕ, ◌+◌, ◌/◌, ◌%◌, ◌<◌, ◌≤◌, ◌↔◌, Bool, true, false, ltb, List, [], ◌∷◌, ◌++◌, length, take, get_or, Ok, refl, sym, ap, subst, ◌∙◌, arith}
use Rattle.std.specs.List.{All, AllByRecursion, list_all}
use Rattle.std.specs.Str.{IsUtf8, IsAscii}
use Rattle.std.proofs.lemmas.Bool.Decides.{nat_tests}
use Rattle.std.proofs.lemmas.List.{take_more, take_all, flat_map_more}
use Rattle.std.proofs.lemmas.List.Elements.{All-same, All-push, All-from_recursion, recursion_from_All}
use Rattle.std.proofs.lemmas.Str.{IsUtf8-from_ascii, IsAscii-append}
use Rattle.std.proofs.lemmas.Str.Ascii.{IsAscii-nil, IsAscii-from_all}
use Rattle.std.proofs.lemmas.Bool.{and_parts as both_true}
use Rattle.onfi_cycle.specs.declared.item.Failures.{Failures}
use Rattle.onfi_cycle.specs.declared.item.Kind.{Kind}
use Rattle.onfi_cycle.specs.declared.item.Kind.TheVariants.{Cmd, Adr, Din, Dout}
use Rattle.onfi_cycle.specs.declared.item.Item.{Item}
use Rattle.onfi_cycle.specs.declared.item.Item.TheVariants.{Cyc, Rdy, Ard}
use Rattle.nand_geometry.specs.declared.optional.Profile.{Profile}
use Rattle.trace_text.specs.Line.{hex_digit, kind_letter, fail_digit, line, text, IsPrintable, is_printable_item, HasByte, IsKnown}
use Rattle.trace_text.specs.Reading.{reading}
use Rattle.trace_text.proofs.Ranges.{fail_small}
use Rattle.trace_text.proofs.Texts.{read_back}

-- one more line
pub printed_more : (old new : List ℕ) (items : List Item) (i : ℕ) (d : Item) → i < length items → old ≡ text (take i items) → new ≡ old ++ line (get_or items i d) → new ≡ text (take (i + 1) items)
printed_more old new items i d lt e f =
    let more = take_more items i d lt in
    f ∙ ap (λ (l : List ℕ). l ++ line (get_or items i d)) e ∙ flat_map_more line [] (take i items) (get_or items i d) ∙ ap text (sym more)

pub bytes_more : (items : List Item) (i : ℕ) (d : Item) → i < length items → All HasByte (take i items) → HasByte (get_or items i d) → All HasByte (take (i + 1) items)
bytes_more items i d lt h k = All-same HasByte (take (i + 1) items) (take i items ++ get_or items i d ∷ []) (take_more items i d lt) (All-push HasByte (take i items) (get_or items i d) h k)

-- and all of them
pub printed_all : (p : Profile) (new : List ℕ) (items : List Item) (i : ℕ) → length items ≤ i → All IsPrintable items → new ≡ text (take i items) → All HasByte (take i items) → All (IsKnown p) items → reading p new ≡ Ok items
printed_all p new items i le printable e byte known =
    let whole = take_all i items le in
    ap (reading p) (e ∙ ap text whole) ∙ read_back p items printable (All-same HasByte items (take i items) (sym whole) byte) known

-- ---- what can be printed

pub printable_of : (i : Item) → is_printable_item i ≡ true → IsPrintable i
printable_of (Cyc c) h = grind (arith, nat_tests)
printable_of (Rdy ce lun fail) h = grind (arith, nat_tests)
printable_of (Ard ce lun fail) h = grind (arith, nat_tests)

pub is_printable_of : (i : Item) → IsPrintable i → is_printable_item i ≡ true
is_printable_of (Cyc c) h = grind (arith, nat_tests)
is_printable_of (Rdy ce lun fail) h = grind (arith, nat_tests)
is_printable_of (Ard ce lun fail) h = grind (arith, nat_tests)

all_printable_of : (items : List Item) → list_all is_printable_item items ≡ true → AllByRecursion IsPrintable items
all_printable_of [] h = tt
all_printable_of (i ∷ items) h = let both = both_true (is_printable_item i) (list_all is_printable_item items) h in (printable_of i both.0, all_printable_of items both.1)

all_are_printable : (items : List Item) → AllByRecursion IsPrintable items → list_all is_printable_item items ≡ true
all_are_printable [] h = refl
all_are_printable (i ∷ items) h = let first = is_printable_of i h.0 in let others = all_are_printable items h.1 in rw (first, others) refl

pub tells_printable : (b : Bool) (items : List Item) → b ≡ list_all is_printable_item items → (b ≡ true) ↔ All IsPrintable items
tells_printable b items e =
    (λ t. All-from_recursion IsPrintable items (all_printable_of items (sym e ∙ t)), λ printable. e ∙ all_are_printable items (recursion_from_All IsPrintable items printable))

-- ---- a text is made of ASCII characters

hex_ascii : (n : ℕ) → n < 16 → hex_digit n < 128
hex_ascii n h = at (ltb n 10) refl
  where
    at : (t : Bool) → ltb n 10 ≡ t → hex_digit n < 128
    at true is = rw is (omega arith)
    at false is = rw is (omega arith)

letter_ascii : (kind : Kind) → kind_letter kind < 128
letter_ascii Cmd = omega arith
letter_ascii Adr = omega arith
letter_ascii Din = omega arith
letter_ascii Dout = omega arith

fail_ascii : (fail : Failures) → fail_digit fail < 128
fail_ascii fail = let small = fail_small fail in omega (arith, small)

pub line_ascii : (item : Item) → IsPrintable item → HasByte item → AllByRecursion (λ b. b < 128) (line item)
line_ascii (Cyc c) printable byte =
    let small : c.byte < 256 = byte in
    (omega arith, (omega arith, (letter_ascii c.kind, (omega arith, (hex_ascii (c.byte / 16) (omega arith), (hex_ascii (c.byte % 16) (omega arith), (omega arith, tt)))))))
line_ascii (Rdy ce lun fail) printable byte = (omega arith, (omega arith, (omega arith, (omega arith, (omega arith, (omega arith, (fail_ascii fail, (omega arith, tt))))))))
line_ascii (Ard ce lun true) printable byte = (omega arith, (omega arith, (omega arith, (omega arith, (omega arith, (omega arith, (omega arith, (omega arith, tt))))))))
line_ascii (Ard ce lun false) printable byte = (omega arith, (omega arith, (omega arith, (omega arith, (omega arith, (omega arith, tt))))))

text_ascii : (items : List Item) → AllByRecursion IsPrintable items → AllByRecursion HasByte items → IsAscii (text items)
text_ascii [] printable byte = IsAscii-nil
text_ascii (i ∷ items) printable byte =
    IsAscii-append (line i) (text items) (IsAscii-from_all (line i) (All-from_recursion (λ (b : ℕ). b < 128) (line i) (line_ascii i printable.0 byte.0))) (text_ascii items printable.1 byte.1)

-- so what is printed is UTF-8
pub printed_utf8 : (new : List ℕ) (items : List Item) (i : ℕ) → length items ≤ i → All IsPrintable items → new ≡ text (take i items) → All HasByte (take i items) → IsUtf8 new
printed_utf8 new items i le printable e byte =
    let whole = take_all i items le in
    let ascii = text_ascii items (recursion_from_All IsPrintable items printable) (recursion_from_All HasByte items (All-same HasByte items (take i items) (sym whole) byte)) in
    subst IsUtf8 (sym (e ∙ ap text whole)) (IsUtf8-from_ascii (text items) ascii)
