-- Of which operation a question for the status is a part, and a 00h alone: of the last work of their LUN.
use Rattle.std.specs.Prelude.{◌≡◌, ℕ, ◌≤◌, ◌++◌, true, false, List, [], ◌∷◌, length, slice_get, Some, None, is_some}
use Rattle.nand_geometry.specs.declared.parts.Parts.{Parts}
use Rattle.onfi_cycle.specs.declared.item.Item.{Item}
use Rattle.onfi_cycle.specs.declared.item.Item.TheVariants.{Cyc}
use Rattle.onfi_cycle.specs.declared.item.Kind.TheVariants.{Cmd}
use Rattle.onfi_cycle.specs.declared.lun.Lun.{Lun}
use Rattle.trace_faults.specs.declared.beginning.Beginning.TheVariants.{Start}
use Rattle.trace_faults.specs.declared.readies.Readies.TheVariants.{Written}
use Rattle.trace_ops.specs.declared.operation.Operation.{Operation}
use Rattle.trace_ops.specs.AtWork.{IsLegalBase}
use Rattle.trace_ops.specs.Listing.{ops_of}

-- the operation of this number began the last work of the LUN
pub record WorkedLast (ops : List Operation) (k : ℕ) (l : Lun) : Type 0 where
  pub operation : Operation
  pub is_there : slice_get ops k ≡ Some operation
  pub target : operation.ce ≡ l.ce
  pub lun : operation.lun ≡ Some l.lun
  pub start : ℕ
  pub began : operation.start ≡ Some start
  pub last : (m : ℕ) (o : Operation) (n : ℕ) → slice_get ops m ≡ Some o → o.ce ≡ l.ce → o.lun ≡ Some l.lun → o.start ≡ Some n → n ≤ start

-- a part of the last work of the LUN, where no status byte has said that this is over
pub record AsksForWork (ops : List Operation) (q : Operation) (l : Lun) : Type 0 where
  pub part : (k : ℕ) (work : WorkedLast ops k l) → is_some work.operation.status ≡ false → q.parent ≡ Some k
  pub shown : (k : ℕ) (work : WorkedLast ops k l) → is_some work.operation.status ≡ true → q.parent ≡ None

-- 70h
abbrev pub question : ℕ → Item
question ce = Cyc (record { ce = ce; kind = Cmd; byte = 0x70 })

-- so is the operation of a 70h that ends a trace
abbrev pub QuestionsAreForWork : Type 0
QuestionsAreForWork =
    (g : Parts) (targets : ℕ) (items : List Item) (ce : ℕ) → IsLegalBase g targets (items ++ (question ce ∷ [])) →
    (k : ℕ) (q : Operation) → slice_get (ops_of Written Start g targets (items ++ (question ce ∷ []))) k ≡ Some q → q.first ≡ length items →
    AsksForWork (ops_of Written Start g targets (items ++ (question ce ∷ []))) q (record { ce = ce; lun = 0 })
