-- Which operations of a trace have no line of their own, where that is legal and of the base profile.
use Rattle.std.specs.Prelude.{◌≡◌, ℕ, ◌||◌, Bool, true, List, slice_get, Some, is_some}
use Rattle.nand_geometry.specs.declared.parts.Parts.{Parts}
use Rattle.onfi_cycle.specs.declared.item.Item.{Item}
use Rattle.trace_faults.specs.declared.beginning.Beginning.TheVariants.{Start}
use Rattle.trace_faults.specs.declared.readies.Readies.TheVariants.{Written}
use Rattle.trace_ops.specs.declared.operation.Operation.{Operation}
use Rattle.trace_ops.specs.AtWork.{IsLegalBase}
use Rattle.trace_ops.specs.Listing.{ops_of}
use Rattle.trace_ops.specs.Operation.{opener_of, is_byte, is_alone, is_folded}

-- it asks for a status, by 70h or 78h
abbrev pub asks_status : Operation → Bool
asks_status o = is_byte (opener_of o.beginning) 0x70 || is_byte (opener_of o.beginning) 0x78

-- it has no line of its own exactly where it is a part of another, and only a question for the status or a 00h alone is that
pub record IsFoldedAsPart (o : Operation) : Type 0 where
  pub part : is_folded o ≡ is_some o.parent
  pub kind : is_some o.parent ≡ true → (asks_status o || is_alone o) ≡ true

abbrev pub PartsAreFolded : Type 0
PartsAreFolded =
    (g : Parts) (targets : ℕ) (items : List Item) → IsLegalBase g targets items →
    (k : ℕ) (o : Operation) → slice_get (ops_of Written Start g targets items) k ≡ Some o → IsFoldedAsPart o
