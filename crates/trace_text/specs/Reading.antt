-- Reading a text: the items, or the first fault with its line.
use Rattle.std.specs.Prelude.{◌≡◌, ℕ, ◌+◌, ◌-◌, ◌*◌, ◌<◌, Bool, true, false, ◌&&◌, ◌==◌, nat_le, if◌then◌else◌, List, [], ◌∷◌, ◌++◌, length, slice_index, Option, Some, None, Result, Ok, Err, IsOk, ok_or}
use Rattle.std.specs.List.{slice_split}
use Rattle.onfi_cycle.specs.declared.item.Kind.{Kind}
use Rattle.onfi_cycle.specs.declared.item.Kind.TheVariants.{Cmd, Adr, Din, Dout}
use Rattle.nand_geometry.specs.declared.optional.Profile.{Profile}
use Rattle.nand_geometry.specs.declared.optional.Profile.TheVariants.{Base, Onfi}
use Rattle.onfi_cycle.specs.declared.item.Failures.{Failures}
use Rattle.onfi_cycle.specs.declared.item.Item.{Item}
use Rattle.onfi_cycle.specs.declared.item.Item.TheVariants.{Cyc, Rdy, Ard}
use Rattle.trace_text.specs.declared.refusal.TraceFault.{TraceFault}
use Rattle.trace_text.specs.declared.refusal.TraceFault.TheVariants.{BadShape, BadNumber}
use Rattle.trace_text.specs.declared.refusal.TraceRefusal.{TraceRefusal}
use Rattle.trace_text.specs.declared.refusal.TraceRefusal.TheVariants.{Fault, OutOfMemory}
use Rattle.trace_text.specs.declared.line.Letter.{Letter}
use Rattle.trace_text.specs.declared.line.Letter.TheVariants.{CycleOf, Ready, ArrayReady}

infixl 10 ◌>>=◌
abbrev pub ◌>>=◌ : {A B E : Type 0} → Result A E → (A → Result B E) → Result B E
(Ok x) >>= f = f x
(Err e) >>= f = Err e

abbrev pub and_then : {A B : Type 0} → Option A → (A → Option B) → Option B
and_then (Some x) f = f x
and_then None f = None

-- ---- the fields of a line

-- a line is split at each of its spaces (32), so two in a row have an empty field between them
abbrev pub fields : List ℕ → List (List ℕ)
fields line = slice_split (λ b. b == 32) line

-- a chip enable or a LUN: one digit from 0 to 3
abbrev pub place_of_digit : ℕ → Option ℕ
place_of_digit d = if nat_le 48 d && nat_le d 51 then Some (d - 48) else None

unfoldable pub place_of : List ℕ → Option ℕ
place_of field = if length field == 1 then place_of_digit (slice_index field 0) else None

-- the number of a hexadecimal digit in lower case
abbrev pub hex_value : ℕ → Option ℕ
hex_value d = if nat_le 48 d && nat_le d 57 then Some (d - 48) else (if nat_le 97 d && nat_le d 102 then Some (d - 87) else None)

-- a byte: two of them, the high one first
unfoldable pub byte_of : List ℕ → Option ℕ
byte_of field =
    if length field == 2 then and_then (hex_value (slice_index field 0)) (λ high. and_then (hex_value (slice_index field 1)) (λ low. Some (16 * high + low))) else None

-- the texts of the profile tell of two failures of a ready, and of that of an array ready
abbrev pub is_wide : Profile → Bool
is_wide Base = false
is_wide Onfi = true

-- the failures of a ready: 0 or 1, and in the wider profile 2 and 3 too
abbrev pub fail_of_digit : Profile → ℕ → Option Failures
fail_of_digit p d =
    if d == 48 then Some (record { last = false; before = false }) else (
    if d == 49 then Some (record { last = true; before = false }) else (
    if is_wide p && d == 50 then Some (record { last = false; before = true }) else (
    if is_wide p && d == 51 then Some (record { last = true; before = true }) else None)))

unfoldable pub fail_of : Profile → List ℕ → Option Failures
fail_of p field = if length field == 1 then fail_of_digit p (slice_index field 0) else None

-- the failure of an array ready: 1
unfoldable pub array_fail_of : List ℕ → Option Bool
array_fail_of field = if length field == 1 then (if slice_index field 0 == 49 then Some true else None) else None

-- what the second field says: one of the letters C, A, I, O, R and Y
abbrev pub letter_of_code : ℕ → Option Letter
letter_of_code c =
    if c == 67 then Some (CycleOf Cmd) else (if c == 65 then Some (CycleOf Adr) else (if c == 73 then Some (CycleOf Din) else (
    if c == 79 then Some (CycleOf Dout) else (if c == 82 then Some Ready else (if c == 89 then Some ArrayReady else None)))))

unfoldable pub letter_of : List ℕ → Option Letter
letter_of field = if length field == 1 then letter_of_code (slice_index field 0) else None

-- ---- the item of a line

-- the items of number fields, where each has its form
unfoldable pub cycle : List ℕ → Kind → List ℕ → Option Item
cycle ce kind byte = and_then (place_of ce) (λ ce. and_then (byte_of byte) (λ byte. Some (Cyc (record { ce = ce; kind = kind; byte = byte }))))

unfoldable pub ready : Profile → List ℕ → List ℕ → List ℕ → Option Item
ready p ce lun fail = and_then (place_of ce) (λ ce. and_then (place_of lun) (λ lun. and_then (fail_of p fail) (λ fail. Some (Rdy ce lun fail))))

unfoldable pub array_ready : List ℕ → List ℕ → Option Item
array_ready ce lun = and_then (place_of ce) (λ ce. and_then (place_of lun) (λ lun. Some (Ard ce lun false)))

unfoldable pub failed_array : List ℕ → List ℕ → List ℕ → Option Item
failed_array ce lun fail = and_then (place_of ce) (λ ce. and_then (place_of lun) (λ lun. and_then (array_fail_of fail) (λ fail. Some (Ard ce lun fail))))

-- C, A, I, O and Y want three fields, and R four; in the wider profile Y takes a fourth too. Only then are the number fields looked at: one that hasn't its
-- form is X2, whatever bytes it has, none at all included
abbrev pub of_three : Option Letter → List ℕ → List ℕ → Result Item TraceFault
of_three (Some (CycleOf kind)) ce byte = ok_or (cycle ce kind byte) BadNumber
of_three (Some Ready) ce third = Err BadShape
of_three (Some ArrayReady) ce lun = ok_or (array_ready ce lun) BadNumber
of_three None ce third = Err BadShape

abbrev pub of_four : Profile → Option Letter → List ℕ → List ℕ → List ℕ → Result Item TraceFault
of_four p (Some (CycleOf kind)) ce third fourth = Err BadShape
of_four p (Some Ready) ce lun fail = ok_or (ready p ce lun fail) BadNumber
of_four p (Some ArrayReady) ce lun fail = if is_wide p then ok_or (failed_array ce lun fail) BadNumber else Err BadShape
of_four p None ce third fourth = Err BadShape

abbrev pub item_of : Profile → List (List ℕ) → Result Item TraceFault
item_of p (ce ∷ letter ∷ third ∷ []) = of_three (letter_of letter) ce third
item_of p (ce ∷ letter ∷ third ∷ fourth ∷ []) = of_four p (letter_of letter) ce third fourth
item_of p _ = Err BadShape

-- the item of a line, or its fault
unfoldable pub line_item : Profile → List ℕ → Result Item TraceFault
line_item p line = item_of p (fields line)

-- ---- the items of a text

-- a fault of a line, with the number of the line
abbrev pub at_line : {A : Type 0} → ℕ → Result A TraceFault → Result A TraceRefusal
at_line line (Ok x) = Ok x
at_line line (Err code) = Err (Fault code line)

-- From line number `line` on, of which `front` is read: a line feed (10) ends a line, and the text ends after one.
unfoldable pub reading_from : Profile → ℕ → List ℕ → List ℕ → Result (List Item) TraceRefusal
reading_from p line front [] = if length front == 0 then Ok [] else Err (Fault BadShape line)
reading_from p line front (b ∷ bs) =
    if b == 10 then (at_line line (line_item p front) >>= λ item. reading_from p (line + 1) [] bs >>= λ items. Ok (item ∷ items))
    else reading_from p line (front ++ b ∷ []) bs

-- a whole text
abbrev pub reading : Profile → List ℕ → Result (List Item) TraceRefusal
reading p text = reading_from p 1 [] text

-- A refusal is the fault that reading tells; or memory ran out at a text without a fault.
abbrev pub IsRefusalOf : {A : Type 0} → TraceRefusal → Result A TraceRefusal → Type 0
IsRefusalOf (Fault code line) read = read ≡ Err (Fault code line)
IsRefusalOf OutOfMemory read = IsOk read

-- ---- a text line by line

-- the first line is the item's, and the rest stands after it
pub record BeginsWith (p : Profile) (text : List ℕ) (item : Item) (rest : List ℕ) : Type 0 where
  pub shorter : length rest < length text
  pub read : (line : ℕ) → reading_from p line [] text ≡ (reading_from p (line + 1) [] rest >>= λ items. Ok (item ∷ items))

-- the first line has this fault
pub record HasFault (p : Profile) (text : List ℕ) (code : TraceFault) : Type 0 where
  pub some : 0 < length text
  pub read : (line : ℕ) → reading_from p line [] text ≡ Err (Fault code line)
