-- What the texts of items tell, with times and without, as recorded texts.
use Rattle.std.proofs.Common.{◌≡◌, ℕ, zero, suc, ◌+◌, ◌-◌, ◌<◌, ◌≤◌, ◌↔◌, Bool, true, false, eqb, List, [], ◌∷◌, ◌++◌, length, take, get_or, map, Some, None, Result, Ok, Err, refl, sym, ap, subst, ◌∙◌, append_assoc, arith}
use Rattle.std.specs.Prelude.{IfOk, IfErr, IfSome, MatchResult, unwrap_or}
use Rattle.std.specs.List.{All, AllByRecursion, list_all, slice_get}
use Rattle.std.specs.Option.{option_map}
use Rattle.std.specs.Str.{IsUtf8, IsAscii}
use Rattle.std.specs.Fmt.{decimal}
use Rattle.std.proofs.lemmas.Bool.{ne_eqb, and_parts as both_true}
use Rattle.std.proofs.lemmas.List.{append-nil, take_more, take_all, flat_map_more}
use Rattle.std.proofs.lemmas.List.Elements.{All-same, All-push, All-from_recursion, recursion_from_All}
use Rattle.std.proofs.lemmas.Fmt.{IsAscii-decimal}
use Rattle.std.proofs.lemmas.Str.{IsUtf8-from_ascii, IsAscii-append}
use Rattle.std.proofs.lemmas.Str.Ascii.{IsAscii-nil, IsAscii-from_all}
use Rattle.onfi_cycle.specs.declared.item.Item.{Item}
use Rattle.nand_geometry.specs.declared.optional.Profile.{Profile}
use Rattle.trace_text.specs.declared.refusal.TraceRefusal.{TraceRefusal}
use Rattle.trace_text.specs.declared.refusal.TraceRefusal.TheVariants.{Fault, OutOfMemory}
use Rattle.trace_text.specs.declared.recorded_item.RecordedItem.{RecordedItem}
use Rattle.trace_text.specs.declared.recorded_item.TimedItem.{TimedItem}
use Rattle.trace_text.specs.Line.{line, text, IsPrintable, is_printable_item, HasByte, IsKnown}
use Rattle.trace_text.specs.Reading.{reading, IsRefusalOf}
use Rattle.trace_text.specs.Recorded.{IsFault, recorded_line, Told, after_line, told_from, told, collecting, recorded, gathering, found_in, first_fault, TimeFits, timed_line, timed_text, plain, timed, RecordedTakesStrict}
use Rattle.trace_text.proofs.RecordedWords.{front, line_is, recorded_again, timed_front, timed_line_is, timed_again, quiet_front, quiet_timed}
use Rattle.trace_text.proofs.Texts.{HasNoFeed, is_found}
use Rattle.trace_text.proofs.Printed.{printable_of, is_printable_of, line_ascii}

-- ---- one line after another

pub by_line : (p : Profile) (n : ℕ) (front l rest : List ℕ) → HasNoFeed l → told_from p n front (l ++ 10 ∷ rest) ≡ after_line n (recorded_line p n (front ++ l)) (told_from p (n + 1) [] rest)
by_line p n front [] rest h = ap (λ (bs : List ℕ). after_line n (recorded_line p n bs) (told_from p (n + 1) [] rest)) (sym (append-nil front))
by_line p n front (b ∷ l) rest h =
    rw h.0 (by_line p n (front ++ b ∷ []) l rest h.1 ∙ ap (λ (bs : List ℕ). after_line n (recorded_line p n bs) (told_from p (n + 1) [] rest)) (append_assoc front (b ∷ []) l))

-- items without times
plain_again : (p : Profile) (n : ℕ) (items : List Item) → AllByRecursion IsPrintable items → AllByRecursion HasByte items → AllByRecursion (IsKnown p) items → told_from p n [] (text items) ≡ plain n items
plain_again p n [] printable byte known = refl
plain_again p n (i ∷ items) printable byte known =
    let grouped : line i ++ text items ≡ front i ++ 10 ∷ text items = ap (λ (l : List ℕ). l ++ text items) (line_is i) ∙ append_assoc (front i) (10 ∷ []) (text items) in
    let others = plain_again p (n + 1) items printable.1 byte.1 known.1 in
    ap (told_from p n []) grouped ∙ by_line p n [] (front i) (text items) (quiet_front i printable.0 byte.0)
    ∙ ap (λ o. after_line n o (told_from p (n + 1) [] (text items))) (recorded_again p n i printable.0 byte.0 known.0) ∙ ap (λ (l : List Told). Ok (record { line = n; time = None; item = i }) ∷ l) others

-- items with times
timed_told : (p : Profile) (n : ℕ) (items : List TimedItem) → AllByRecursion (λ t. IsPrintable t.item) items → AllByRecursion TimeFits items → AllByRecursion (λ t. IsKnown p t.item) items → told_from p n [] (timed_text items) ≡ timed n items
timed_told p n [] printable fits known = refl
timed_told p n (t ∷ items) printable fits known =
    let grouped : timed_line t ++ timed_text items ≡ timed_front t ++ 10 ∷ timed_text items = ap (λ (l : List ℕ). l ++ timed_text items) (timed_line_is t) ∙ append_assoc (timed_front t) (10 ∷ []) (timed_text items) in
    let others = timed_told p (n + 1) items printable.1 fits.1 known.1 in
    ap (told_from p n []) grouped ∙ by_line p n [] (timed_front t) (timed_text items) (quiet_timed t printable.0 fits.0)
    ∙ ap (λ o. after_line n o (told_from p (n + 1) [] (timed_text items))) (timed_again p n t printable.0 fits.0 known.0) ∙ ap (λ (l : List Told). Ok (record { line = n; time = Some t.time; item = t.item }) ∷ l) others

-- ---- what is collected

collected_plain : (n : ℕ) (done items : List Item) → collecting done (plain n items) ≡ Ok (done ++ items)
collected_plain n done [] = ap (λ (xs : List Item). Ok xs) (sym (append-nil done))
collected_plain n done (i ∷ items) = collected_plain (n + 1) (done ++ i ∷ []) items ∙ ap (λ (xs : List Item). Ok xs) (append_assoc done (i ∷ []) items)

collected_timed : (n : ℕ) (done : List Item) (items : List TimedItem) → collecting done (timed n items) ≡ Ok (done ++ map (λ t. t.item) items)
collected_timed n done [] = ap (λ (xs : List Item). Ok xs) (sym (append-nil done))
collected_timed n done (t ∷ items) =
    collected_timed (n + 1) (done ++ t.item ∷ []) items ∙ ap (λ (xs : List Item). Ok xs) (append_assoc done (t.item ∷ []) (map (λ t. t.item) items))

-- ---- the strict form

strict_lines : (p : Profile) (bytes : List ℕ) (items : List Item) → reading p bytes ≡ Ok items → told p bytes ≡ plain 1 items
strict_lines p bytes items e =
    let is = is_found p bytes items e in
    ap (told p) is.spelled ∙ plain_again p 1 items (recursion_from_All IsPrintable items is.printable) (recursion_from_All HasByte items is.bytes_fit) (recursion_from_All (IsKnown p) items is.known)

strict_items : (p : Profile) (bytes : List ℕ) (items : List Item) → reading p bytes ≡ Ok items → recorded p bytes ≡ Ok items
strict_items p bytes items e = ap (collecting []) (strict_lines p bytes items e) ∙ collected_plain 1 [] items

pub recorded_takes_strict : RecordedTakesStrict
recorded_takes_strict = record { lines = strict_lines; items = strict_items }

abbrev done_with : List Item → Result (List Item) TraceRefusal
done_with items = Ok items

-- what an answer says of the items of a text in the strict form
pub strict_read : (p : Profile) {X : Type 0} (view : X → List Item) (bs : List ℕ) (r : Result X TraceRefusal) → IfOk r (λ v. recorded p bs ≡ Ok (view v)) → IfErr r (λ e. IsRefusalOf e (recorded p bs))
    → (items : List Item) → reading p bs ≡ Ok items → MatchResult r (λ v. view v ≡ items) (λ e. e ≡ OutOfMemory)
strict_read p view bs (Ok v) e h items is = let both : done_with (view v) ≡ done_with items = sym e ∙ strict_items p bs items is in cc
strict_read p view bs (Err OutOfMemory) e h items is = refl
strict_read p view bs (Err (Fault code line)) e h items is = let read = strict_items p bs items is in absurd cc

-- ---- an item of a number

-- the items in front of the first fault
abbrev oks : List Told → List Item
oks [] = []
oks (Ok i ∷ later) = i.item ∷ oks later
oks (Err refusal ∷ later) = []

collected_oks : (done : List Item) (ts : List Told) (items : List Item) → collecting done ts ≡ Ok items → items ≡ done ++ oks ts
collected_oks done [] items e = let same : done_with done ≡ done_with items = e in let is : items ≡ done = cc in is ∙ sym (append-nil done)
collected_oks done (Ok i ∷ later) items e = collected_oks (done ++ i.item ∷ []) later items e ∙ append_assoc done (i.item ∷ []) (oks later)
collected_oks done (Err refusal ∷ later) items e = absurd cc

found_oks : (ts : List Told) (k : ℕ) → option_map (λ (f : RecordedItem). f.item) (found_in k ts) ≡ slice_get (oks ts) k
found_oks [] k = refl
found_oks (Ok i ∷ later) zero = refl
found_oks (Ok i ∷ later) (suc k) =
    let other : eqb (suc k) 0 ≡ false = ne_eqb (suc k) 0 (λ e. absurd (omega arith)) in
    let less : suc k - 1 ≡ k = omega arith in
    rw other (ap (λ n. option_map (λ (f : RecordedItem). f.item) (found_in n later)) less ∙ found_oks later k)
found_oks (Err refusal ∷ later) k = refl

pub found_item : (p : Profile) (bs : List ℕ) (k : ℕ) (items : List Item) → recorded p bs ≡ Ok items → option_map (λ (f : RecordedItem). f.item) (found_in k (told p bs)) ≡ slice_get items k
found_item p bs k items e = found_oks (told p bs) k ∙ ap (λ (xs : List Item). slice_get xs k) (sym (collected_oks [] (told p bs) items e))

-- ---- where memory was refused

pub refused : (done : List Item) (ts : List Told) → IfSome (first_fault ts) IsFault → IsRefusalOf (unwrap_or (first_fault ts) OutOfMemory) (collecting done ts)
refused done [] is = refl
refused done (Ok i ∷ later) is = refused (done ++ i.item ∷ []) later is
refused done (Err (Fault fault line) ∷ later) is = refl
refused done (Err OutOfMemory ∷ later) is = absurd is

pub refused_timed : (done : List RecordedItem) (ts : List Told) → IfSome (first_fault ts) IsFault → IsRefusalOf (unwrap_or (first_fault ts) OutOfMemory) (gathering done ts)
refused_timed done [] is = refl
refused_timed done (Ok i ∷ later) is = refused_timed (done ++ i ∷ []) later is
refused_timed done (Err (Fault fault line) ∷ later) is = refl
refused_timed done (Err OutOfMemory ∷ later) is = absurd is

-- ---- what is printed

-- one more line
pub timed_more : (old new : List ℕ) (items : List TimedItem) (i : ℕ) (d : TimedItem) → i < length items → old ≡ timed_text (take i items) → new ≡ old ++ timed_line (get_or items i d) → new ≡ timed_text (take (i + 1) items)
timed_more old new items i d lt e f =
    let more = take_more items i d lt in
    f ∙ ap (λ (l : List ℕ). l ++ timed_line (get_or items i d)) e ∙ flat_map_more timed_line [] (take i items) (get_or items i d) ∙ ap timed_text (sym more)

pub fits_more : (items : List TimedItem) (i : ℕ) (d : TimedItem) → i < length items → All TimeFits (take i items) → TimeFits (get_or items i d) → All TimeFits (take (i + 1) items)
fits_more items i d lt h k = All-same TimeFits (take (i + 1) items) (take i items ++ get_or items i d ∷ []) (take_more items i d lt) (All-push TimeFits (take i items) (get_or items i d) h k)

abbrev pub AreTimedPrintable : List TimedItem → Type 0
AreTimedPrintable items = All (λ t. IsPrintable t.item) items

abbrev pub AreTimedKnown : (p : Profile) → List TimedItem → Type 0
AreTimedKnown p items = All (λ t. IsKnown p t.item) items

timed_read : (p : Profile) (bs : List ℕ) (items : List TimedItem) → AreTimedPrintable items → All TimeFits items → AreTimedKnown p items → bs ≡ timed_text items → told p bs ≡ timed 1 items
timed_read p bs items printable fits known e =
    ap (told p) e ∙ timed_told p 1 items (recursion_from_All (λ (t : TimedItem). IsPrintable t.item) items printable) (recursion_from_All TimeFits items fits) (recursion_from_All (λ (t : TimedItem). IsKnown p t.item) items known)

timed_collected : (p : Profile) (bs : List ℕ) (items : List TimedItem) → AreTimedPrintable items → All TimeFits items → AreTimedKnown p items → bs ≡ timed_text items → recorded p bs ≡ Ok (map (λ t. t.item) items)
timed_collected p bs items printable fits known e = ap (collecting []) (timed_read p bs items printable fits known e) ∙ collected_timed 1 [] items

timed_ascii : (items : List TimedItem) → AllByRecursion (λ t. IsPrintable t.item) items → AllByRecursion TimeFits items → IsAscii (timed_text items)
timed_ascii [] printable fits = IsAscii-nil
timed_ascii (t ∷ items) printable fits =
    let item = IsAscii-from_all (line t.item) (All-from_recursion (λ (b : ℕ). b < 128) (line t.item) (line_ascii t.item printable.0 fits.0.0)) in
    let mark : IsAscii (64 ∷ []) = IsAscii-from_all (64 ∷ []) (All-from_recursion (λ (b : ℕ). b < 128) (64 ∷ []) (omega arith, tt)) in
    let space : IsAscii (32 ∷ []) = IsAscii-from_all (32 ∷ []) (All-from_recursion (λ (b : ℕ). b < 128) (32 ∷ []) (omega arith, tt)) in
    let whole : IsAscii (timed_line t) =
    IsAscii-append (64 ∷ []) (decimal t.time ++ (32 ∷ line t.item)) mark (IsAscii-append (decimal t.time) (32 ∷ line t.item) (IsAscii-decimal t.time fits.0.1) (IsAscii-append (32 ∷ []) (line t.item) space item)) in
    IsAscii-append (timed_line t) (timed_text items) whole (timed_ascii items printable.1 fits.1)

timed_utf8 : (bs : List ℕ) (items : List TimedItem) → AreTimedPrintable items → All TimeFits items → bs ≡ timed_text items → IsUtf8 bs
timed_utf8 bs items printable fits e =
    let ascii = timed_ascii items (recursion_from_All (λ (t : TimedItem). IsPrintable t.item) items printable) (recursion_from_All TimeFits items fits) in
    subst IsUtf8 (sym e) (IsUtf8-from_ascii (timed_text items) ascii)

-- and all of them
pub timed_whole : (bs : List ℕ) (items : List TimedItem) (i : ℕ) → length items ≤ i → AreTimedPrintable items → All TimeFits (take i items) → bs ≡ timed_text (take i items)
    → ((p : Profile) → AreTimedKnown p items → (recorded p bs ≡ Ok (map (λ t. t.item) items)) × (told p bs ≡ timed 1 items)) × IsUtf8 bs
timed_whole bs items i le printable fits e =
    let whole = take_all i items le in
    let all = All-same TimeFits items (take i items) (sym whole) fits in
    let is : bs ≡ timed_text items = e ∙ ap timed_text whole in
    (λ p known. (timed_collected p bs items printable all known is, timed_read p bs items printable all known is), timed_utf8 bs items printable all is)

-- ---- what can be printed

timed_printable : (items : List TimedItem) → list_all (λ (t : TimedItem). is_printable_item t.item) items ≡ true → AllByRecursion (λ (t : TimedItem). IsPrintable t.item) items
timed_printable [] h = tt
timed_printable (t ∷ items) h = let both = both_true (is_printable_item t.item) (list_all (λ (t : TimedItem). is_printable_item t.item) items) h in (printable_of t.item both.0, timed_printable items both.1)

timed_are : (items : List TimedItem) → AllByRecursion (λ (t : TimedItem). IsPrintable t.item) items → list_all (λ (t : TimedItem). is_printable_item t.item) items ≡ true
timed_are [] h = refl
timed_are (t ∷ items) h = let first = is_printable_of t.item h.0 in let others = timed_are items h.1 in rw (first, others) refl

pub tells_timed : (b : Bool) (items : List TimedItem) → b ≡ list_all (λ (t : TimedItem). is_printable_item t.item) items → (b ≡ true) ↔ AreTimedPrintable items
tells_timed b items e = (
  λ t. All-from_recursion (λ (t : TimedItem). IsPrintable t.item) items (timed_printable items (sym e ∙ t)),
  λ printable. e ∙ timed_are items (recursion_from_All (λ (t : TimedItem). IsPrintable t.item) items printable),
)
