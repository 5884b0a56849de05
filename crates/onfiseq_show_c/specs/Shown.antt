-- What comes of drawing a trace and of noting a microprogram.
use Rattle.std.specs.Prelude.{◌≡◌, ℕ, Bool, ◌+◌, ◌||◌, nat_lt, if◌then◌else◌, List, [], ◌∷◌, Option, Some, None, Result, Ok, Err, IsOk, MatchResult}
use Rattle.nand_geometry.specs.declared.parts.Parts.{Parts}
use Rattle.nand_geometry.specs.Limits.{fault_of}
use Rattle.nand_geometry.specs.Optional.{is_wide}
use Rattle.micro_word.specs.Text.{Microprogram, IsFileOf}
use Rattle.micro_word.specs.Reading.{reading}
use Rattle.bus_record.specs.declared.item.OnfiseqItem.{OnfiseqItem}
use Rattle.bus_record.specs.Item.{item_of}
use Rattle.bus_record.specs.Rule.{by_option}
use Rattle.placed_bytes.specs.declared.placed.OnfiseqPlaced.{OnfiseqPlaced}
use Rattle.placed_bytes.specs.Placed.{placed, placed_in, refusal}
use Rattle.onfiseq_show_c.specs.declared.failure.Failure.{Failure}
use Rattle.onfiseq_show_c.specs.declared.failure.Failure.TheVariants as F

-- what is told of a failure
abbrev pub told_of : Failure → OnfiseqPlaced
told_of F.Targets = refusal 84 0 0
told_of F.Geometry = refusal 80 0 0
told_of (F.Item at) = refusal 73 0 at
told_of F.File = refusal 77 0 0
told_of F.OutOfMemory = refusal 79 0 0

-- the first numbers that are no item, where the first of all stand at place at
unfoldable pub no_item : (wide : Bool) → List OnfiseqItem → ℕ → Option Failure
no_item wide [] at = None
no_item wide (i ∷ items) at = by_option (item_of wide i) (Some (F.Item at)) (λ item. no_item wide items (at + 1))

-- what is wrong with a trace that is to be drawn: its targets, then its geometry, then the first numbers that are no item
abbrev pub trace_fault : Parts → ℕ → List OnfiseqItem → Option Failure
trace_fault g targets items = if nat_lt targets 1 || nat_lt 4 targets then Some F.Targets else by_option (fault_of g) (no_item (is_wide g.optional) items 0) (λ fault. Some F.Geometry)

-- this is wrong, or memory was refused
abbrev pub Fails : Option Failure → Failure → Type 0
Fails fault F.OutOfMemory = Unit {0}
Fails fault failure = fault ≡ Some failure

-- the geometry has no fault, and the file is that of a microprogram
abbrev pub IsProgram : Parts → List ℕ → Type 0
IsProgram g file = (fault_of g ≡ None) × (x : Microprogram) × IsFileOf file x

-- the geometry has a fault; or it has none, and the file has one; or memory was refused
abbrev pub FailsProgram : Parts → List ℕ → Failure → Type 0
FailsProgram g file F.Geometry = (fault_of g ≡ None) → ⊥
FailsProgram g file F.File = (fault_of g ≡ None) × (IsOk (reading file) → ⊥)
FailsProgram g file F.OutOfMemory = fault_of g ≡ None
FailsProgram g file F.Targets = ⊥
FailsProgram g file (F.Item at) = ⊥

-- what is told of bytes that were made, or of the failure
abbrev pub told : Result (List ℕ) Failure → (buffer : List ℕ) → OnfiseqPlaced
told (Ok bytes) buffer = placed bytes buffer
told (Err failure) buffer = told_of failure

-- the buffer then
abbrev pub left : Result (List ℕ) Failure → (buffer : List ℕ) → List ℕ
left (Ok bytes) buffer = placed_in bytes buffer
left (Err failure) buffer = buffer

-- bytes are made where this is so, or it fails for this; they, or the failure, are told and placed
pub record Comes (IsSo : Type 0) (Fails : Failure → Type 0) (old new : List ℕ) (w : OnfiseqPlaced) : Type 0 where
  pub made : Result (List ℕ) Failure
  pub is : MatchResult made (λ bytes. IsSo) Fails
  pub told : w ≡ told made old
  pub left : new ≡ left made old
