-- A recorded text: one item a line at most, with blanks and comments around it and perhaps a time in front.
use Rattle.std.specs.Prelude.{◌≡◌, ⊤, ℕ, ◌+◌, ◌-◌, ◌*◌, ◌<◌, Bool, true, false, ◌&&◌, ◌||◌, ◌==◌, nat_le, nat_lt, if◌then◌else◌, List, [], ◌∷◌, ◌++◌, Option, Some, None, Result, Ok, Err}
use Rattle.std.specs.List.{flat_map}
use Rattle.std.specs.Str.Lines.{strip_carriage_return}
use Rattle.std.specs.Fmt.{decimal}
use Rattle.nand_geometry.specs.declared.optional.Profile.{Profile}
use Rattle.onfi_cycle.specs.declared.item.Item.{Item}
use Rattle.trace_text.specs.declared.refusal.TraceFault.{TraceFault}
use Rattle.trace_text.specs.declared.refusal.TraceFault.TheVariants.{BadShape}
use Rattle.trace_text.specs.declared.refusal.TraceRefusal.{TraceRefusal}
use Rattle.trace_text.specs.declared.refusal.TraceRefusal.TheVariants.{Fault, OutOfMemory}
use Rattle.trace_text.specs.declared.recorded_item.RecordedItem.{RecordedItem}
use Rattle.trace_text.specs.declared.recorded_item.TimedItem.{TimedItem}
use Rattle.trace_text.specs.Line.{line, HasByte}
use Rattle.trace_text.specs.Reading.{and_then, item_of, reading}

-- ---- the words of a line

-- a space or a tab
abbrev pub is_blank : ℕ → Bool
is_blank b = b == 32 || b == 9

-- `#` and `;` begin a comment
abbrev pub begins_comment : ℕ → Bool
begins_comment b = b == 35 || b == 59

-- a word that has ended, if it has begun, in front of others
abbrev pub ended : List ℕ → List (List ℕ) → List (List ℕ)
ended [] words = words
ended (b ∷ front) words = (b ∷ front) ∷ words

-- what stands between blanks, up to a comment, where a word has begun so
abbrev pub words_from : (front : List ℕ) → List ℕ → List (List ℕ)
words_from front [] = ended front []
words_from front (b ∷ bytes) =
    if begins_comment b then ended front [] else (
    if is_blank b then ended front (words_from [] bytes) else words_from (front ++ b ∷ []) bytes)

-- the words of a line, at whose end a carriage return may stand
abbrev pub words : List ℕ → List (List ℕ)
words line = words_from [] (strip_carriage_return line)

abbrev pub has_no_word : List (List ℕ) → Bool
has_no_word [] = true
has_no_word (first ∷ words) = false

-- ---- a time

abbrev pub is_digit : ℕ → Bool
is_digit b = nat_le 48 b && nat_le b 57

-- a decimal number after one digit more, if it is below 2 ^ 64
abbrev pub with_digit : ℕ → ℕ → Option ℕ
with_digit n b = if is_digit b && nat_lt (10 * n + (b - 48)) 18446744073709551616 then Some (10 * n + (b - 48)) else None

abbrev pub number_from : ℕ → List ℕ → Option ℕ
number_from n [] = Some n
number_from n (b ∷ digits) = and_then (with_digit n b) (λ more. number_from more digits)

abbrev pub number : List ℕ → Option ℕ
number [] = None
number (b ∷ digits) = number_from 0 (b ∷ digits)

-- what stands behind `@` (64) in a word that is to be a time
abbrev pub time_text : List ℕ → Option (List ℕ)
time_text [] = None
time_text (b ∷ digits) = if b == 64 then Some digits else None

-- ---- the item of a line

abbrev pub placed : ℕ → Option ℕ → Result Item TraceFault → Result (Option RecordedItem) TraceFault
placed line time (Ok item) = Ok (Some (record { line = line; time = time; item = item }))
placed line time (Err fault) = Err fault

-- the item behind a time, which has to be a number
abbrev pub behind_time : Profile → ℕ → Option ℕ → List (List ℕ) → Result (Option RecordedItem) TraceFault
behind_time p line None words = Err BadShape
behind_time p line (Some time) words = placed line (Some time) (item_of p words)

abbrev pub by_first : Profile → ℕ → Option (List ℕ) → (first : List ℕ) → List (List ℕ) → Result (Option RecordedItem) TraceFault
by_first p line None first words = placed line None (item_of p (first ∷ words))
by_first p line (Some digits) first words = behind_time p line (number digits) words

-- no item, or the one whose fields the words are
abbrev pub item_in : Profile → ℕ → List (List ℕ) → Result (Option RecordedItem) TraceFault
item_in p line [] = Ok None
item_in p line (first ∷ words) = by_first p line (time_text first) first words

-- what the line of this number has
unfoldable pub recorded_line : Profile → ℕ → List ℕ → Result (Option RecordedItem) TraceFault
recorded_line p line text = item_in p line (words text)

-- ---- the items of a text

-- an item, or the first fault, after which nothing is told
abbrev pub Told : Type 0
Told = Result RecordedItem TraceRefusal

abbrev pub after_line : ℕ → Result (Option RecordedItem) TraceFault → List Told → List Told
after_line line (Ok None) later = later
after_line line (Ok (Some item)) later = Ok item ∷ later
after_line line (Err fault) later = Err (Fault fault line) ∷ []

-- a line that isn't ended may have no item
abbrev pub at_end : ℕ → List (List ℕ) → List Told
at_end line [] = []
at_end line (first ∷ words) = Err (Fault BadShape line) ∷ []

-- From line number `line` on, of which `front` is read: a line feed (10) ends a line.
abbrev pub told_from : Profile → (line : ℕ) → (front : List ℕ) → List ℕ → List Told
told_from p line front [] = at_end line (words front)
told_from p line front (b ∷ bytes) =
    if b == 10 then after_line line (recorded_line p line front) (told_from p (line + 1) [] bytes) else told_from p line (front ++ b ∷ []) bytes

-- what a whole text tells
abbrev pub told : Profile → List ℕ → List Told
told p text = told_from p 1 [] text

-- the items after these, or the fault
abbrev pub collecting : List Item → List Told → Result (List Item) TraceRefusal
collecting items [] = Ok items
collecting items (Ok i ∷ later) = collecting (items ++ i.item ∷ []) later
collecting items (Err refusal ∷ later) = Err refusal

-- the items of a whole text, or its first fault
abbrev pub recorded : Profile → List ℕ → Result (List Item) TraceRefusal
recorded p text = collecting [] (told p text)

-- the same with their lines and times
abbrev pub gathering : List RecordedItem → List Told → Result (List RecordedItem) TraceRefusal
gathering items [] = Ok items
gathering items (Ok i ∷ later) = gathering (items ++ i ∷ []) later
gathering items (Err refusal ∷ later) = Err refusal

abbrev pub recorded_items : Profile → List ℕ → Result (List RecordedItem) TraceRefusal
recorded_items p text = gathering [] (told p text)

-- the item of this number, counted from 0, if no fault stands in front of it
abbrev pub found_in : ℕ → List Told → Option RecordedItem
found_in number [] = None
found_in number (Ok i ∷ later) = if number == 0 then Some i else found_in (number - 1) later
found_in number (Err refusal ∷ later) = None

abbrev pub first_fault : List Told → Option TraceRefusal
first_fault [] = None
first_fault (Ok i ∷ later) = first_fault later
first_fault (Err refusal ∷ later) = Some refusal

abbrev pub IsFault : TraceRefusal → Type 0
IsFault (Fault fault line) = ⊤
IsFault OutOfMemory = ⊥

-- ---- the text of items with their times

-- `@`, the time, a space and the line of the item
abbrev pub timed_line : TimedItem → List ℕ
timed_line t = 64 ∷ (decimal t.time ++ (32 ∷ line t.item))

abbrev pub timed_text : List TimedItem → List ℕ
timed_text items = flat_map timed_line items

-- the byte of the item is one, and the time is below 2 ^ 64
abbrev pub TimeFits : TimedItem → Type 0
TimeFits t = HasByte t.item × (t.time < 18446744073709551616)

-- ---- what other texts tell

-- items without times, one a line
abbrev pub plain : ℕ → List Item → List Told
plain line [] = []
plain line (item ∷ items) = Ok (record { line = line; time = None; item = item }) ∷ plain (line + 1) items

-- items with times, one a line
abbrev pub timed : ℕ → List TimedItem → List Told
timed line [] = []
timed line (t ∷ items) = Ok (record { line = line; time = Some t.time; item = t.item }) ∷ timed (line + 1) items

-- A text in the strict form has the same items in the recorded form, each in its line and without a time.
pub record RecordedTakesStrict : Type 0 where
  pub lines : (p : Profile) (bytes : List ℕ) (items : List Item) → reading p bytes ≡ Ok items → told p bytes ≡ plain 1 items
  pub items : (p : Profile) (bytes : List ℕ) (items : List Item) → reading p bytes ≡ Ok items → recorded p bytes ≡ Ok items
