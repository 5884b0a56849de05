-- The least header of a text.
use Rattle.std.specs.Prelude.{◌≡◌, ℕ, ◌^◌, ◌<◌, ◌≤◌, Bool, true, false, List, length, Option, Some, None}
use Rattle.std.specs.List.{AllByRecursion}
use Rattle.nand_geometry.specs.declared.parts.Parts.{Parts}
use Rattle.micro_word.specs.declared.word.Word.{Word}
use Rattle.micro_word.specs.declared.format.Format.TheVariants.{Two}
use Rattle.micro_word.specs.Word.{IsInRange}
use Rattle.micro_word.specs.Text.{Microprogram}
use Rattle.micro_program.specs.Lines.{continues_cache_read}
use Rattle.micro_claims.specs.declared.bounds.Bounds.{Bounds}
use Rattle.micro_walk.specs.Faults.{has_loop, fault_within}
use Rattle.micro_explain.specs.declared.header_number.HeaderNumber.{HeaderNumber}
use Rattle.micro_explain.specs.declared.header_number.HeaderNumber.TheVariants.{Rows, Buffer, Budget}
use Rattle.micro_lint.specs.declared.header.Header.{Header}

-- the words of a text
pub record FitWords (words : List Word) : Type 0 where
  pub count : length words ≤ 1024
  pub each : AllByRecursion (IsInRange Two (length words)) words

-- what a header gives to words
abbrev pub bounds_with : Header → List Word → Bounds
bounds_with h words = record { rows = h.rows; buffer = h.buffer; budget = h.budget; continues_cache_read = continues_cache_read words }

-- the numbers fit a header, and with them nothing is against the words
pub record IsEnough (g : Parts) (words : List Word) (h : Header) : Type 0 where
  pub some_rows : 1 ≤ h.rows
  pub rows : h.rows ≤ 4096
  pub buffer : h.buffer ≤ 16777215
  pub budget : h.budget < 2 ^ 32
  pub accepted : fault_within g (bounds_with h words) words ≡ None

abbrev pub IsEnoughIf : Bool → Parts → List Word → Header → Type 0
IsEnoughIf true g words h = IsEnough g words h
IsEnoughIf false g words h = IsEnough g words h → ⊥

-- the numbers are enough, and each header that is enough gives as much of each
pub record IsLeast (g : Parts) (words : List Word) (h : Header) : Type 0 where
  pub enough : IsEnough g words h
  pub rows : (other : Header) → IsEnough g words other → h.rows ≤ other.rows
  pub buffer : (other : Header) → IsEnough g words other → h.buffer ≤ other.buffer
  pub budget : (other : Header) → IsEnough g words other → h.budget ≤ other.budget

-- the least header, or none is enough
abbrev pub FindsLeast : Parts → List Word → Option Header → Type 0
FindsLeast g words (Some h) = IsLeast g words h
FindsLeast g words None = (h : Header) → IsEnough g words h → ⊥

-- ---- one number

-- the largest header
abbrev pub largest : Header
largest = record { rows = 4096; buffer = 16777215; budget = 4294967295 }

-- with another number there
abbrev pub largest_but : HeaderNumber → ℕ → Header
largest_but Rows n = record largest { rows = n }
largest_but Buffer n = record largest { buffer = n }
largest_but Budget n = record largest { budget = n }

-- the least and the most that any header gives
abbrev pub least_of : HeaderNumber → ℕ
least_of Rows = 1
least_of Buffer = 0
least_of Budget = 0

abbrev pub most_of : HeaderNumber → ℕ
most_of Rows = 4096
most_of Buffer = 16777215
most_of Budget = 4294967295

-- beside the largest others one number is enough, and nothing below another is
pub record IsBetween (g : Parts) (words : List Word) (number : HeaderNumber) (low high : ℕ) : Type 0 where
  pub enough : IsEnough g words (largest_but number high)
  pub short : (n : ℕ) → n < low → IsEnough g words (largest_but number n) → ⊥

-- beside the largest others it is the least that is enough
abbrev pub IsLeastNumber : Parts → List Word → HeaderNumber → ℕ → Type 0
IsLeastNumber g words number n = IsBetween g words number n n

-- ---- a text

-- where a text has no loop, each header with which its words are accepted gives as much of each number as its own
abbrev pub HasLeastHeader : Parts → Microprogram → Type 0
HasLeastHeader g text =
    has_loop text.words ≡ false → (h : Header) → IsEnough g text.words h → (text.rows ≤ h.rows) × ((text.buffer ≤ h.buffer) × (text.budget ≤ h.budget))
