-- What a line of assembly text spells: the word, label or header line that its fields are, or its fault.
use Rattle.std.specs.Prelude.{ℕ, ◌+◌, ◌-◌, ◌*◌, Bool, true, false, ◌&&◌, ◌||◌, ◌==◌, nat_lt, nat_le, if◌then◌else◌, List, [], ◌∷◌, length, take, filter, slice_index, codes, Option, Some, None, is_some, Result, Ok, Err, ok_or}
use Rattle.std.specs.List.{slice_split, before_first, list_all}
use Rattle.std.specs.Str.{bytes_eq, all_ascii_digits}
use Rattle.std.specs.Str.Parse.{digits_value}
use Rattle.micro_word.specs.declared.word.Word.{Word}
use Rattle.micro_word.specs.declared.word.Word.TheVariants.{End, Command, Address, Get, Put, Seek, Column, RowAdd, Row, Plane, Wait, Yield, ReadStatus, Loop, Next}
use Rattle.micro_asm.specs.declared.refusal.AsmFault.{AsmFault}
use Rattle.micro_asm.specs.declared.refusal.AsmFault.TheVariants.{UnknownWord, BadOperand, OperandOutOfRange}
use Rattle.micro_asm.specs.declared.names.Counted.{Counted}
use Rattle.micro_asm.specs.declared.names.Counted.TheVariants as counted
use Rattle.micro_asm.specs.declared.names.Bare.{Bare}
use Rattle.micro_asm.specs.declared.names.Bare.TheVariants as bare
use Rattle.micro_asm.specs.declared.names.Name.{Name}
use Rattle.micro_asm.specs.declared.names.Name.TheVariants as name
use Rattle.micro_asm.specs.declared.statement.Setting.{Setting}
use Rattle.micro_asm.specs.declared.statement.Setting.TheVariants as setting

infixl 10 ◌>>=◌
abbrev pub ◌>>=◌ : {A B E : Type 0} → Result A E → (A → Result B E) → Result B E
(Ok x) >>= f = f x
(Err e) >>= f = Err e

abbrev pub and_then : {A B : Type 0} → Option A → (A → Option B) → Option B
and_then (Some x) f = f x
and_then None f = None

-- what a line can be: nothing, a header line, a label, or a word, whose branch names a label
pub data Entry : Type 0 where
  Plain : (word : Word) → Entry
  Branch : (mask : ℕ) (to : List ℕ) → Entry
  Jump : (to : List ℕ) → Entry

pub data Line : Type 0 where
  Nothing : Line
  Header : (setting : Setting) → Line
  Label : (name : List ℕ) → Line
  Entered : (entry : Entry) → Line

-- ---- fields

-- a space or a tab
abbrev pub is_blank : ℕ → Bool
is_blank b = b == 32 || b == 9

abbrev pub is_some_field : List ℕ → Bool
is_some_field [] = false
is_some_field (_ ∷ _) = true

-- what stands between blanks
unfoldable pub fields : List ℕ → List (List ℕ)
fields text = filter is_some_field (slice_split is_blank text)

-- a semicolon (59) begins a comment
abbrev pub before_comment : List ℕ → List ℕ
before_comment line = before_first (λ b. b == 59) line

-- ---- operands

-- a decimal number of one to ten digits
unfoldable pub number_of : List ℕ → Option ℕ
number_of field = if nat_lt 0 (length field) && (nat_le (length field) 10 && all_ascii_digits field) then Some (digits_value 10 field) else None

-- a hexadecimal digit of either case
abbrev pub hex_value : ℕ → Option ℕ
hex_value d =
    if nat_le 48 d && nat_le d 57 then Some (d - 48) else (
    if nat_le 65 d && nat_le d 70 then Some (d - 55) else (
    if nat_le 97 d && nat_le d 102 then Some (d - 87) else None))

-- a byte: two of them, the high one first
unfoldable pub byte_of : List ℕ → Option ℕ
byte_of field =
    if length field == 2 then and_then (hex_value (slice_index field 0)) (λ high. and_then (hex_value (slice_index field 1)) (λ low. Some (16 * high + low))) else None

abbrev pub is_letter : ℕ → Bool
is_letter b = (nat_le 65 b && nat_le b 90) || (nat_le 97 b && nat_le b 122)

-- a letter, a digit or _
abbrev pub is_name_byte : ℕ → Bool
is_name_byte b = is_letter b || ((nat_le 48 b && nat_le b 57) || b == 95)

-- a label's name: a letter, then letters, digits or _, 32 characters at most
unfoldable pub is_label : List ℕ → Bool
is_label field = nat_le (length field) 32 && (is_letter (slice_index field 0) && list_all is_name_byte field)

-- the name of a label in front of a colon (58)
unfoldable pub label_of : List ℕ → Option (List ℕ)
label_of field =
    if slice_index field (length field - 1) == 58 then (if is_label (take (length field - 1) field) then Some (take (length field - 1) field) else None) else None

-- ---- names

abbrev pub is_named : List ℕ → List ℕ → Bool
is_named field text = bytes_eq field text

-- the name of a header line
unfoldable pub header_of : List ℕ → Option Counted
header_of field =
    if is_named field (codes "rows") then Some counted.Rows else (
    if is_named field (codes "buffer") then Some counted.Buffer else (
    if is_named field (codes "budget") then Some counted.Budget else None))

-- the name of a word with one decimal number
unfoldable pub counted_of : List ℕ → Option Counted
counted_of field =
    if is_named field (codes "end") then Some counted.End else (
    if is_named field (codes "get") then Some counted.Get else (
    if is_named field (codes "put") then Some counted.Put else (
    if is_named field (codes "seek") then Some counted.Seek else (
    if is_named field (codes "col") then Some counted.Column else (
    if is_named field (codes "rowadd") then Some counted.RowAdd else (
    if is_named field (codes "row") then Some counted.Row else (
    if is_named field (codes "plane") then Some counted.Plane else (
    if is_named field (codes "loop") then Some counted.Loop else None))))))))

-- the name of another word
unfoldable pub other_of : List ℕ → Option Name
other_of field =
    if is_named field (codes "wait") then Some (name.Bare bare.Wait) else (
    if is_named field (codes "yield") then Some (name.Bare bare.Yield) else (
    if is_named field (codes "stat") then Some (name.Bare bare.ReadStatus) else (
    if is_named field (codes "next") then Some (name.Bare bare.Next) else (
    if is_named field (codes "cmd") then Some name.Command else (
    if is_named field (codes "addr") then Some name.Address else (
    if is_named field (codes "brs") then Some name.Branch else (
    if is_named field (codes "jmp") then Some name.Jump else None)))))))

abbrev pub name_or : Option Counted → Option Name → Option Name
name_or (Some kind) other = Some (name.Number kind)
name_or None other = other

-- the name of a word
unfoldable pub word_name : List ℕ → Option Name
word_name field = name_or (counted_of field) (other_of field)

-- the names that a line may begin with: those of header lines only where one of them is to stand
unfoldable pub name_of : Bool → List ℕ → Option Name
name_of heads field = if heads then name_or (header_of field) (word_name field) else word_name field

-- ---- lines

-- the least and the greatest number that may stand after a name
abbrev pub least : Counted → ℕ
least counted.Rows = 1
least counted.Get = 1
least counted.Put = 1
least counted.RowAdd = 1
least counted.Loop = 1
least _ = 0

abbrev pub greatest : Counted → ℕ
greatest counted.Rows = 4096
greatest counted.Buffer = 16777215
greatest counted.Budget = 4294967295
greatest counted.End = 255
greatest counted.Get = 16777215
greatest counted.Put = 16777215
greatest counted.Seek = 16777215
greatest counted.Column = 65535
greatest counted.RowAdd = 65535
greatest counted.Row = 4095
greatest counted.Plane = 3
greatest counted.Loop = 4096

-- a word that is no branch
abbrev pub plain_line : Word → Line
plain_line word = Entered (Plain word)

-- the line of a name and its number
abbrev pub with_number : Counted → ℕ → Line
with_number counted.Rows n = Header (setting.Rows n)
with_number counted.Buffer n = Header (setting.Buffer n)
with_number counted.Budget n = Header (setting.Budget n)
with_number counted.End n = plain_line (End n)
with_number counted.Get n = plain_line (Get n)
with_number counted.Put n = plain_line (Put n)
with_number counted.Seek n = plain_line (Seek n)
with_number counted.Column n = plain_line (Column n)
with_number counted.RowAdd n = plain_line (RowAdd n)
with_number counted.Row n = plain_line (Row n)
with_number counted.Plane n = plain_line (Plane n)
with_number counted.Loop n = plain_line (Loop n)

-- all the operands, where they are one or two
abbrev pub one : List (List ℕ) → Option (List ℕ)
one (a ∷ []) = Some a
one _ = None

abbrev pub two : List (List ℕ) → Option (List ℕ × List ℕ)
two (a ∷ b ∷ []) = Some (a, b)
two _ = None

-- one decimal number in the range of the name
unfoldable pub counted_line : Counted → List (List ℕ) → Result Line AsmFault
counted_line kind operands = do
  n ← ok_or (and_then (one operands) number_of) BadOperand
  if nat_le (least kind) n && nat_le n (greatest kind) then Ok (with_number kind n) else Err OperandOutOfRange

-- no operand
abbrev pub bare_word : Bare → Word
bare_word bare.Wait = Wait
bare_word bare.Yield = Yield
bare_word bare.ReadStatus = ReadStatus
bare_word bare.Next = Next

unfoldable pub bare_line : Bare → List (List ℕ) → Result Line AsmFault
bare_line kind [] = Ok (plain_line (bare_word kind))
bare_line kind (_ ∷ _) = Err BadOperand

-- a byte
unfoldable pub command_line : List (List ℕ) → Result Line AsmFault
command_line operands = do
  byte ← ok_or (and_then (one operands) byte_of) BadOperand
  Ok (plain_line (Command byte))

-- the first of the five address bytes and their count, none past the fifth
unfoldable pub address_line : List (List ℕ) → Result Line AsmFault
address_line operands = do
  pair ← ok_or (two operands) BadOperand
  from ← ok_or (number_of pair.0) BadOperand
  count ← ok_or (number_of pair.1) BadOperand
  if nat_le 1 count && nat_le (from + count) 5 then Ok (plain_line (Address from count)) else Err OperandOutOfRange

-- a label that has the form of one, and nothing after it
unfoldable pub target_of : List (List ℕ) → Result (List ℕ) AsmFault
target_of [] = Err BadOperand
target_of (to ∷ []) = if is_label to then Ok to else Err UnknownWord
target_of (to ∷ _) = if is_label to then Err BadOperand else Err UnknownWord

-- a mask with a bit, and a label
unfoldable pub branch_line : List (List ℕ) → Result Line AsmFault
branch_line [] = Err BadOperand
branch_line (field ∷ operands) = do
  to ← target_of operands
  mask ← ok_or (byte_of field) BadOperand
  if mask == 0 then Err OperandOutOfRange else Ok (Entered (Branch mask to))

unfoldable pub jump_line : List (List ℕ) → Result Line AsmFault
jump_line operands = do
  to ← target_of operands
  Ok (Entered (Jump to))

-- the line of a name and its operands
unfoldable pub named_line : Name → List (List ℕ) → Result Line AsmFault
named_line (name.Number kind) operands = counted_line kind operands
named_line (name.Bare kind) operands = bare_line kind operands
named_line name.Command operands = command_line operands
named_line name.Address operands = address_line operands
named_line name.Branch operands = branch_line operands
named_line name.Jump operands = jump_line operands

-- a label stands alone
unfoldable pub label_line : List ℕ → List (List ℕ) → Result Line AsmFault
label_line first operands = do
  name ← ok_or (label_of first) UnknownWord
  if nat_lt 0 (length operands) then Err UnknownWord else Ok (Label name)

abbrev pub first_line : Option Name → List ℕ → List (List ℕ) → Result Line AsmFault
first_line (Some name) first operands = named_line name operands
first_line None first operands = label_line first operands

unfoldable pub fields_line : Bool → List (List ℕ) → Result Line AsmFault
fields_line heads [] = Ok Nothing
fields_line heads (first ∷ operands) = first_line (name_of heads first) first operands

-- What a line spells, in the place of a header line or in that of a word.
unfoldable pub spelled : Bool → List ℕ → Result Line AsmFault
spelled heads line = fields_line heads (fields (before_comment line))

-- the first field is the name of a word, whatever follows
unfoldable pub begins_word : List (List ℕ) → Bool
begins_word [] = false
begins_word (first ∷ _) = is_some (word_name first)
