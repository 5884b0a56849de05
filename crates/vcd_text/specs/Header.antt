-- The header of a dump: which codes are declared, by which names.
use Rattle.std.specs.Prelude.{ℕ, ◌==◌, ◌||◌, ◌&&◌, Bool, true, false, nat_le, if◌then◌else◌, List, [], ◌∷◌, ◌++◌, Option, Some, None, Result, Ok, Err, ok_or, codes}
use Rattle.std.specs.Ordering.{nat_cmp}
use Rattle.std.specs.BTreeMap.{insert_entry}
use Rattle.vcd_text.specs.declared.fault.DumpFault.{DumpFault}
use Rattle.vcd_text.specs.declared.fault.DumpFault.TheVariants.{UnknownSection, SectionNotEnded, HeaderNotEnded, BadTimescale, BadVariable, TwoWidths}
use Rattle.vcd_text.specs.declared.fault.LineFault.{LineFault}
use Rattle.vcd_text.specs.declared.section.Keyword.{Keyword}
use Rattle.vcd_text.specs.declared.section.Keyword.TheVariants as keyword
use Rattle.vcd_text.specs.declared.tokens.Scale.TheVariants as scale
use Rattle.vcd_text.specs.Words.{Word, words}
use Rattle.vcd_text.specs.Tokens.{◌>>=◌, is_named, decimal, code_of, scale_from, is_whole}
use Rattle.vcd_text.specs.Body.{Widths, width_of}

-- a name that is declared: with its range (empty if it has none), how many bits it has (0 if it is none of bits), and its code
pub record Variable : Type 0 where
  pub name : List ℕ
  pub range : List ℕ
  pub width : ℕ
  pub code : ℕ

-- what is declared: the names, in their order, and the widths of their codes
pub record Header : Type 0 where
  pub variables : List Variable
  pub widths : Widths

abbrev pub blank : Header
blank = record { variables = []; widths = [] }

-- ---- a section: a word that begins it, and the words up to $end

abbrev pub is_skipped : List ℕ → Bool
is_skipped word =
    is_named word (codes "$scope") || (is_named word (codes "$upscope") || (is_named word (codes "$comment") || (
    is_named word (codes "$date") || (is_named word (codes "$version") || (is_named word (codes "$attrbegin") || is_named word (codes "$attrend"))))))

abbrev pub keyword_of : List ℕ → Option Keyword
keyword_of word =
    if is_named word (codes "$var") then Some keyword.Variable else (
    if is_skipped word then Some keyword.Skipped else (
    if is_named word (codes "$timescale") then Some keyword.Timescale else (
    if is_named word (codes "$enddefinitions") then Some keyword.EndDefinitions else None)))

-- a section that has begun: the first five of its words, and how many it has, where 6 stands for more than five
pub record Section : Type 0 where
  pub keyword : Keyword
  pub count : ℕ
  pub first : List ℕ
  pub second : List ℕ
  pub third : List ℕ
  pub fourth : List ℕ
  pub fifth : List ℕ

abbrev pub begun : Keyword → Section
begun k = record { keyword = k; count = 0; first = []; second = []; third = []; fourth = []; fifth = [] }

-- with one word more
abbrev pub with_word : Section → List ℕ → Section
with_word s word =
    if s.count == 0 then record s { count = 1; first = word } else (
    if s.count == 1 then record s { count = 2; second = word } else (
    if s.count == 2 then record s { count = 3; third = word } else (
    if s.count == 3 then record s { count = 4; fourth = word } else (
    if s.count == 4 then record s { count = 5; fifth = word } else record s { count = 6 }))))

-- ---- what a section declares

-- 1, 10 or 100 of a unit, in one word or two
abbrev pub is_timescale : Section → Bool
is_timescale s = nat_le s.count 2 && is_whole (scale_from (scale_from scale.Start s.first) s.second)

-- values of these kinds have no bits
abbrev pub has_bits : List ℕ → Bool
has_bits kind =
    if is_named kind (codes "real") then false else (
    if is_named kind (codes "realtime") then false else (
    if is_named kind (codes "string") then false else (
    if is_named kind (codes "event") then false else true)))

abbrev pub is_width : ℕ → Bool
is_width n = nat_le 1 n && nat_le n 65536

-- the bits of a variable of this kind and width
abbrev pub bits_of : List ℕ → ℕ → ℕ
bits_of kind width = if has_bits kind then width else 0

-- four words or five: a kind, a width, a code, a name, and perhaps a range
abbrev pub is_variable : Section → Bool
is_variable s = s.count == 4 || s.count == 5

abbrev pub sized : ℕ → Result ℕ DumpFault
sized n = if is_width n then Ok n else Err BadVariable

abbrev pub variable_of : Section → Result Variable DumpFault
variable_of s = do
  number ← ok_or (decimal s.second) BadVariable
  width ← sized number
  code ← ok_or (code_of s.third) BadVariable
  if is_variable s then Ok (record { name = s.fourth; range = s.fifth; width = bits_of s.first width; code = code }) else Err BadVariable

-- a code keeps the width that it was declared with first
abbrev pub widened : Option ℕ → Widths → (code width : ℕ) → Result Widths DumpFault
widened None widths code width = Ok (insert_entry nat_cmp widths code width)
widened (Some was) widths code width = if was == width then Ok widths else Err TwoWidths

abbrev pub declared : Header → Section → Result Header DumpFault
declared h s = do
  v ← variable_of s
  widths ← widened (width_of h.widths v.code) h.widths v.code v.width
  Ok (record { variables = h.variables ++ v ∷ []; widths = widths })

abbrev pub scaled : Header → Section → Result Header DumpFault
scaled h s = if is_timescale s then Ok h else Err BadTimescale

-- what a section leaves of the header
abbrev pub closed_by : Keyword → Header → Section → Result Header DumpFault
closed_by keyword.Skipped h s = Ok h
closed_by keyword.Timescale h s = scaled h s
closed_by keyword.Variable h s = declared h s
closed_by keyword.EndDefinitions h s = Ok h

abbrev pub closed : Header → Section → Result Header DumpFault
closed h s = closed_by s.keyword h s

abbrev pub ends_header : Keyword → Bool
ends_header keyword.Skipped = false
ends_header keyword.Timescale = false
ends_header keyword.Variable = false
ends_header keyword.EndDefinitions = true

-- ---- the whole header

-- what a header comes to: what it declares, the line of its last word, and the words after it; or its first fault
pub record Read : Type 0 where
  pub header : Header
  pub line : ℕ
  pub rest : List Word

abbrev pub at_line : {A : Type 0} → ℕ → Result A DumpFault → Result A LineFault
at_line line (Ok x) = Ok x
at_line line (Err fault) = Err (record { fault = fault; line = line })

abbrev pub unended : Option Section → DumpFault
unended None = HeaderNotEnded
unended (Some s) = SectionNotEnded

-- a word: it begins a section, or it belongs to one
abbrev pub opened : Option Section → List ℕ → Result Section DumpFault
opened None word = ok_or (keyword_of word) UnknownSection >>= λ k. Ok (begun k)
opened (Some s) word = Ok (with_word s word)

-- $end ends the section that has begun
abbrev pub ends : Option Section → List ℕ → Option Section
ends None word = None
ends (Some s) word = if is_named word (codes "$end") then Some s else None

-- the words of a header, of which this much is read, after a word of this line
abbrev pub reading : Header → Option Section → (line : ℕ) → List Word → Result Read LineFault
reading h s line [] = at_line line (Err (unended s))
reading h s line (w ∷ ws) = elim (ends s w.text) [
  | None ↦ (at_line w.line (opened s w.text) >>= λ t. reading h (Some t) w.line ws)
  | Some t ↦ (at_line w.line (closed h t) >>= λ h. if ends_header t.keyword then Ok (record { header = h; line = w.line; rest = ws }) else reading h None w.line ws)
]

-- the text ended within the header: more of it may be all that is wanting
abbrev pub is_unended : DumpFault → Bool
is_unended SectionNotEnded = true
is_unended HeaderNotEnded = true
is_unended _ = false

-- the header of a text
abbrev pub header : List ℕ → Result Read LineFault
header text = reading blank None 1 (words text)
