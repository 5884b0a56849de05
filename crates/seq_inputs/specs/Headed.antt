-- An assembly text that may be without its header.
use Rattle.std.specs.Prelude.{◌≡◌, ℕ, ◌-◌, Bool, false, ◌||◌, List, [], ◌∷◌, ◌++◌, Err, codes, if◌then◌else◌}
use Rattle.std.specs.Str.{bytes_eq}
use Rattle.micro_asm.specs.declared.refusal.AsmRefusal.TheVariants.{Fault as AsmFaultAt}
use Rattle.micro_asm.specs.Line.{before_comment, fields}
use Rattle.micro_asm.specs.Reading.{lines, reading}
use Rattle.micro_asm.specs.Reading.{Spells}
use Rattle.micro_word.specs.Text.{Microprogram}
use Rattle.seq_inputs.specs.declared.fault.Fault.{Fault}
use Rattle.seq_inputs.specs.declared.fault.Fault.TheVariants.{Source}

abbrev pub is_header_name : List ℕ → Bool
is_header_name name = bytes_eq name (codes "rows") || (bytes_eq name (codes "buffer") || bytes_eq name (codes "budget"))

-- the first line that has fields decides
abbrev pub decided_by : List (List ℕ) → (later : Bool) → Bool
decided_by [] later = later
decided_by (name ∷ _) later = is_header_name name

unfoldable pub begins_with_header : List (List ℕ) → Bool
begins_with_header [] = false
begins_with_header (line ∷ rest) = decided_by (fields (before_comment line)) (begins_with_header rest)

-- the text begins with a header line
abbrev pub has_header : List ℕ → Bool
has_header text = begins_with_header (lines text)

-- the header with the largest numbers that there are
abbrev pub largest_header : List ℕ
largest_header = codes "rows 4096\nbuffer 16777215\nbudget 4294967295\n"

-- the text, with the largest header in front if it has none
abbrev pub with_header : List ℕ → List ℕ
with_header text = if has_header text then text else largest_header ++ text

-- how many lines that puts in front
abbrev pub lines_added : List ℕ → ℕ
lines_added text = if has_header text then 0 else 3

-- the first fault of the text so completed, at its line in the text itself
abbrev pub RefusesHeaded : List ℕ → Fault → Type 0
RefusesHeaded text (Source fault line) = (at : ℕ) × (reading (with_header text) ≡ Err (AsmFaultAt fault at)) × (line ≡ at - lines_added text)
RefusesHeaded text _ = ⊥

-- ---- whether a file is such a text

-- the names of the words that bring cycles on the bus
abbrev pub is_bus_word : List ℕ → Bool
is_bus_word name =
    bytes_eq name (codes "cmd") || (bytes_eq name (codes "addr") || (bytes_eq name (codes "get") || (bytes_eq name (codes "put")
    || (bytes_eq name (codes "wait") || bytes_eq name (codes "stat")))))

-- of those that say where the program is to work
abbrev pub is_place_word : List ℕ → Bool
is_place_word name =
    bytes_eq name (codes "seek") || (bytes_eq name (codes "col") || (bytes_eq name (codes "row") || (bytes_eq name (codes "rowadd") || bytes_eq name (codes "plane"))))

-- and of those that say how it goes on
abbrev pub is_flow_word : List ℕ → Bool
is_flow_word name =
    bytes_eq name (codes "end") || (bytes_eq name (codes "yield") || (bytes_eq name (codes "brs") || (bytes_eq name (codes "jmp")
    || (bytes_eq name (codes "loop") || bytes_eq name (codes "next")))))

abbrev pub is_word_name : List ℕ → Bool
is_word_name name = is_bus_word name || (is_place_word name || is_flow_word name)

-- the first line that has fields decides
abbrev pub decided_by_word : List (List ℕ) → (later : Bool) → Bool
decided_by_word [] later = later
decided_by_word (name ∷ _) later = is_word_name name

unfoldable pub begins_with_word : List (List ℕ) → Bool
begins_with_word [] = false
begins_with_word (line ∷ rest) = decided_by_word (fields (before_comment line)) (begins_with_word rest)

-- a file is an assembly text without its header exactly when its first line that has fields begins with the name of a word
abbrev pub is_headless : List ℕ → Bool
is_headless bytes = begins_with_word (lines bytes)

-- the lines of the text, whose header may be missing, spell one microprogram, and the other has its words; its own header is counted
pub record HasWordsOf (text : List ℕ) (y : Microprogram) : Type 0 where
  pub x : Microprogram
  pub spelled : Spells (with_header text) x
  pub same_words : y.words ≡ x.words
