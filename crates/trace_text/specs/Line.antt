-- The text of a trace: one line for each item.
use Rattle.std.specs.Prelude.{◌≡◌, not, ℕ, ◌+◌, ◌/◌, ◌%◌, ◌<◌, ◌≤◌, Bool, true, false, ◌&&◌, nat_lt, nat_le, if◌then◌else◌, List, [], ◌∷◌}
use Rattle.std.specs.List.{flat_map}
use Rattle.onfi_cycle.specs.declared.item.Kind.{Kind}
use Rattle.onfi_cycle.specs.declared.item.Kind.TheVariants.{Cmd, Adr, Din, Dout}
use Rattle.nand_geometry.specs.declared.optional.Profile.{Profile}
use Rattle.nand_geometry.specs.declared.optional.Profile.TheVariants.{Base, Onfi}
use Rattle.onfi_cycle.specs.declared.item.Failures.{Failures}
use Rattle.onfi_cycle.specs.declared.item.Item.{Item}
use Rattle.onfi_cycle.specs.declared.item.Item.TheVariants.{Cyc, Rdy, Ard}

-- the digit of a number below ten
abbrev pub digit : ℕ → ℕ
digit n = 48 + n

-- the digit of a number below sixteen, in lower case
abbrev pub hex_digit : ℕ → ℕ
hex_digit n = if nat_lt n 10 then 48 + n else 87 + n

-- the letters C, A, I and O
abbrev pub kind_letter : Kind → ℕ
kind_letter Cmd = 67
kind_letter Adr = 65
kind_letter Din = 73
kind_letter Dout = 79

-- 1 is failure of the work that ends, 2 of the page before it, and 3 of both
abbrev pub fail_number : (last before : Bool) → ℕ
fail_number false false = 0
fail_number true false = 1
fail_number false true = 2
fail_number true true = 3

abbrev pub fail_digit : Failures → ℕ
fail_digit fail = 48 + fail_number fail.last fail.before

-- the end of the line of an array ready: a failure is told by a 1 behind a space, and none isn't told
abbrev pub array_end : Bool → List ℕ
array_end false = 10 ∷ []
array_end true = 32 ∷ 49 ∷ 10 ∷ []

-- the line of an item: its fields with a space (32) between them, and a line feed (10); R is 82 and Y is 89
abbrev pub line : Item → List ℕ
line (Cyc c) = digit c.ce ∷ 32 ∷ kind_letter c.kind ∷ 32 ∷ hex_digit (c.byte / 16) ∷ hex_digit (c.byte % 16) ∷ 10 ∷ []
line (Rdy ce lun fail) = digit ce ∷ 32 ∷ 82 ∷ 32 ∷ digit lun ∷ 32 ∷ fail_digit fail ∷ 10 ∷ []
line (Ard ce lun fail) = digit ce ∷ 32 ∷ 89 ∷ 32 ∷ digit lun ∷ array_end fail

-- the text of a trace
abbrev pub text : List Item → List ℕ
text items = flat_map line items

-- the chip enable and the LUN are at most 3
abbrev pub IsPrintable : Item → Type 0
IsPrintable (Cyc c) = c.ce ≤ 3
IsPrintable (Rdy ce lun fail) = (ce ≤ 3) × (lun ≤ 3)
IsPrintable (Ard ce lun fail) = (ce ≤ 3) × (lun ≤ 3)

-- the same as a test
abbrev pub is_printable_item : Item → Bool
is_printable_item (Cyc c) = nat_le c.ce 3
is_printable_item (Rdy ce lun fail) = nat_le ce 3 && nat_le lun 3
is_printable_item (Ard ce lun fail) = nat_le ce 3 && nat_le lun 3

-- the byte of a cycle is one
abbrev pub HasByte : Item → Type 0
HasByte (Cyc c) = c.byte < 256
HasByte (Rdy ce lun fail) = Unit {0}
HasByte (Ard ce lun fail) = Unit {0}

-- the item has a line in the texts of a profile: in the base profile readies tell of one failure, and array readies of none
abbrev pub is_known : Profile → Item → Bool
is_known Onfi i = true
is_known Base (Cyc c) = true
is_known Base (Rdy ce lun fail) = not fail.before
is_known Base (Ard ce lun fail) = not fail

abbrev pub IsKnown : Profile → Item → Type 0
IsKnown p i = is_known p i ≡ true
