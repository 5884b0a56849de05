-- The changes of a dump, in the order of the file, up to the first fault.
use Rattle.std.specs.Prelude.{ℕ, ◌==◌, ◌||◌, Bool, nat_le, if◌then◌else◌, List, [], ◌∷◌, length, Option, Result, Ok, Err, ok_or, codes}
use Rattle.std.specs.Ordering.{nat_cmp}
use Rattle.std.specs.Map.{lookup}
use Rattle.std.specs.BTreeMap.{is_at}
use Rattle.vcd_text.specs.declared.fault.DumpFault.{DumpFault}
use Rattle.vcd_text.specs.declared.fault.DumpFault.TheVariants.{SectionNotEnded, BadTime, TimeGoesBack, BadVector, NoCode, NotDeclared, VectorTooLong, UnknownChange}
use Rattle.vcd_text.specs.declared.fault.LineFault.{LineFault}
use Rattle.vcd_text.specs.Words.{Word}
use Rattle.vcd_text.specs.Tokens.{◌>>=◌, is_named, decimal, code_of, level_of, is_known, are_bits}

-- the widths of the codes that are declared, by their numbers; 0 is that of what has no bits
abbrev pub Widths : Type 0
Widths = List (ℕ × ℕ)

abbrev pub width_of : Widths → ℕ → Option ℕ
width_of widths code = lookup (is_at (nat_cmp code)) widths

-- what a dump tells: the time, or that a code has other bits, of which the first is the highest
pub data Event : Type 0 where
  Time : (time : ℕ) → Event
  Change : (code : ℕ) (bits : List ℕ) → Event

-- what the next word is: a time, a change or a mark; the code of a vector with these bits; that of something without bits; or part of a comment
pub data Next : Type 0 where
  Anything : Next
  CodeOf : (bits : List ℕ) → Next
  OtherCode : Next
  Comment : Next

-- where reading is: the time, and what the next word is
pub record Place : Type 0 where
  pub time : ℕ
  pub next : Next

-- what a word says: nothing, and the next word is this; or something, after which anything may follow
pub data Said : Type 0 where
  Quiet : (next : Next) → Said
  Tells : (event : Event) → Said

-- the bits fit the width that was declared
abbrev pub fits : ℕ → List ℕ → Bool
fits width bits = (width == 0) || nat_le (length bits) width

-- a change of a code
abbrev pub change : Widths → List ℕ → List ℕ → Result Said DumpFault
change widths bits word = do
  code ← ok_or (code_of word) NotDeclared
  width ← ok_or (width_of widths code) NotDeclared
  if fits width bits then Ok (Tells (Change code bits)) else Err VectorTooLong

abbrev pub new_time : ℕ → List ℕ → Result Said DumpFault
new_time time word = do
  later ← ok_or (decimal word) BadTime
  if nat_le time later then Ok (Tells (Time later)) else Err TimeGoesBack

abbrev pub vector : List ℕ → Result Said DumpFault
vector [] = Err BadVector
vector (b ∷ bits) = if are_bits (b ∷ bits) then Ok (Quiet (CodeOf (b ∷ bits))) else Err BadVector

-- the marks of a dump, of which nothing is told
abbrev pub is_mark : List ℕ → Bool
is_mark word =
    is_named word (codes "$dumpvars") || (is_named word (codes "$end") || (is_named word (codes "$dumpall") || (
    is_named word (codes "$dumpon") || is_named word (codes "$dumpoff"))))

abbrev pub mark : List ℕ → Result Said DumpFault
mark word = if is_mark word then Ok (Quiet Anything) else (if is_named word (codes "$comment") then Ok (Quiet Comment) else Err UnknownChange)

-- b and B begin a vector
abbrev pub begins_vector : ℕ → Bool
begins_vector b = b == 98 || b == 66

-- r, R, s and S begin a number or a text, which have no bits
abbrev pub begins_other : ℕ → Bool
begins_other b = b == 114 || (b == 82 || (b == 115 || b == 83))

-- a word that is neither a time nor a bit in front of its code
abbrev pub other_word : List ℕ → Result Said DumpFault
other_word [] = Err UnknownChange
other_word (b ∷ word) = if begins_vector b then vector word else (if begins_other b then Ok (Quiet OtherCode) else mark (b ∷ word))

-- a word that may be anything: # begins a time, a bit stands in front of its code
abbrev pub any_word : Widths → ℕ → List ℕ → Result Said DumpFault
any_word widths time [] = Err UnknownChange
any_word widths time (b ∷ word) =
    if b == 35 then new_time time word else (if is_known (level_of b) then change widths (b ∷ []) word else other_word (b ∷ word))

abbrev pub comment : List ℕ → Said
comment word = if is_named word (codes "$end") then Quiet Anything else Quiet Comment

-- what a word says, by what it is
abbrev pub said_by : Widths → ℕ → Next → List ℕ → Result Said DumpFault
said_by widths time Anything word = any_word widths time word
said_by widths time (CodeOf bits) word = change widths bits word
said_by widths time OtherCode word = Ok (Quiet Anything)
said_by widths time Comment word = Ok (comment word)

abbrev pub said : Widths → Place → List ℕ → Result Said DumpFault
said widths place word = said_by widths place.time place.next word

abbrev pub Told : Type 0
Told = Result Event LineFault

abbrev pub fault_in : ℕ → DumpFault → Told
fault_in line fault = Err (record { fault = fault; line = line })

-- the end of the file, after a word of this line
abbrev pub ended_by : ℕ → Next → List Told
ended_by line Anything = []
ended_by line (CodeOf bits) = fault_in line NoCode ∷ []
ended_by line OtherCode = fault_in line NoCode ∷ []
ended_by line Comment = fault_in line SectionNotEnded ∷ []

-- the time after this is told
abbrev pub time_after : ℕ → Event → ℕ
time_after time (Time later) = later
time_after time (Change code bits) = time

-- what is told by a word of this line, which says this at this time, and later
abbrev pub after_word : (line time : ℕ) → Result Said DumpFault → (Place → List Told) → List Told
after_word line time (Err fault) later = fault_in line fault ∷ []
after_word line time (Ok (Quiet next)) later = later (record { time = time; next = next })
after_word line time (Ok (Tells event)) later = Ok event ∷ later (record { time = time_after time event; next = Anything })

-- what words tell, after a word of this line
abbrev pub told_from : Widths → Place → (line : ℕ) → List Word → List Told
told_from widths place line [] = ended_by line place.next
told_from widths place line (w ∷ words) = after_word w.line place.time (said widths place w.text) (λ later. told_from widths later w.line words)
