-- Which operation is at work on which LUN, in the model's words.
use Rattle.std.specs.Prelude.{◌≡◌, ℕ, ◌≤◌, ◌<◌, ◌==◌, ◌&&◌, ◌||◌, not, Bool, true, false, List, [], ◌∷◌, length, Some, is_some, reverse, slice_get, if◌then◌else◌}
use Rattle.nand_geometry.specs.declared.parts.Parts.{Parts}
use Rattle.nand_geometry.specs.Optional.{no_optional}
use Rattle.onfi_cycle.specs.declared.item.Item.{Item}
use Rattle.onfi_cycle.specs.declared.item.Item.TheVariants.{Cyc, Rdy, Ard}
use Rattle.onfi_cycle.specs.declared.lun.Lun.{Lun}
use Rattle.onfi_cycle.specs.Lun.{is_busy}
use Rattle.onfi_cycle.specs.Permitted.{is_legal}
use Rattle.onfi_cycle.specs.Working.{IsLun}
use Rattle.trace_faults.specs.declared.beginning.Beginning.TheVariants.{Start}
use Rattle.trace_faults.specs.declared.readies.Readies.TheVariants.{Written}
use Rattle.trace_ops.specs.declared.operation.Ending.{Ending}
use Rattle.trace_ops.specs.declared.operation.Ending.TheVariants.{Ready, Shown, NotShown, Abandoned}
use Rattle.trace_ops.specs.declared.operation.Operation.{Operation}
use Rattle.trace_ops.specs.Listing.{is_reset, ops_of, marks_of}

-- a trace of the base profile that is legal, of at most four targets with at most four LUNs each
pub record IsLegalBase (g : Parts) (targets : ℕ) (items : List Item) : Type 0 where
  pub few_targets : targets ≤ 4
  pub few_luns : g.luns ≤ 4
  pub base : g.optional ≡ no_optional
  pub legal : is_legal g targets (reverse items) ≡ true

-- ---- who is at work

-- the operation has begun work, and that hasn't ended
abbrev pub is_at_work : Operation → Bool
is_at_work o = is_some o.start && not (is_some o.end)

-- the operation of this number is at work on this LUN
pub record IsAtWork (ops : List Operation) (k : ℕ) (l : Lun) : Type 0 where
  pub operation : Operation
  pub is_there : slice_get ops k ≡ Some operation
  pub target : operation.ce ≡ l.ce
  pub lun : operation.lun ≡ Some l.lun
  pub at_work : is_at_work operation ≡ true

-- a LUN of the channel that works after this past, and on which the operation of this number is at work
pub record WorksOn (g : Parts) (targets : ℕ) (past : List Item) (ops : List Operation) (k : ℕ) : Type 0 where
  pub lun : Lun
  pub is_lun : IsLun g targets lun
  pub busy : is_busy g past lun ≡ true
  pub at_work : IsAtWork ops k lun

-- on a LUN that works one operation is at work, and each operation that is at work works on such a LUN
pub record AreAtWork (g : Parts) (targets : ℕ) (past : List Item) (ops : List Operation) : Type 0 where
  pub busy : (l : Lun) → IsLun g targets l → is_busy g past l ≡ true → (k : ℕ) × IsAtWork ops k l
  pub one : (l : Lun) (k m : ℕ) → IsAtWork ops k l → IsAtWork ops m l → k ≡ m
  pub works : (k : ℕ) (o : Operation) → slice_get ops k ≡ Some o → is_at_work o ≡ true → WorksOn g targets past ops k

-- of a trace with its readies written, and so up to each of its items
abbrev pub WorkIsTheModels : Type 0
WorkIsTheModels =
    (g : Parts) (targets : ℕ) (items : List Item) → IsLegalBase g targets items →
    AreAtWork g targets (reverse items) (ops_of Written Start g targets items)

-- ---- when work begins

abbrev pub resets : Item → Lun → Bool
resets (Cyc c) l = c.ce == l.ce && is_reset c
resets (Rdy ce lun fail) l = false
resets (Ard ce lun fail) l = false

-- the item begins work of the LUN: that works after it, and didn't before or is reset
abbrev pub begins_work : Parts → List Item → Item → Lun → Bool
begins_work g past i l = is_busy g (i ∷ past) l && (not (is_busy g past l) || resets i l)

-- so does the item of this number
abbrev pub begun_at : Parts → List Item → ℕ → Lun → Bool
begun_at g [] n l = false
begun_at g (i ∷ past) n l = if length past == n then begins_work g past i l else begun_at g past n l

-- the operation of this number began work of this LUN by the item of that number, which belongs to it
pub record BeganAt (marks : List ℕ) (ops : List Operation) (k n : ℕ) (l : Lun) : Type 0 where
  pub operation : Operation
  pub is_there : slice_get ops k ≡ Some operation
  pub target : operation.ce ≡ l.ce
  pub lun : operation.lun ≡ Some l.lun
  pub start : operation.start ≡ Some n
  pub mark : slice_get marks n ≡ Some k

-- where a LUN of the channel begins work, the operation of the item does
pub record BeginsOn (g : Parts) (targets : ℕ) (past : List Item) (marks : List ℕ) (ops : List Operation) (k n : ℕ) : Type 0 where
  pub lun : Lun
  pub is_lun : IsLun g targets lun
  pub begins : begun_at g past n lun ≡ true
  pub began : BeganAt marks ops k n lun

-- operations begin work at the items at which LUNs do, and at no others
pub record BeginAsLuns (g : Parts) (targets : ℕ) (past : List Item) (marks : List ℕ) (ops : List Operation) : Type 0 where
  pub begins : (l : Lun) (n : ℕ) → IsLun g targets l → begun_at g past n l ≡ true → (k : ℕ) × BeganAt marks ops k n l
  pub only : (k : ℕ) (o : Operation) (n : ℕ) → slice_get ops k ≡ Some o → o.start ≡ Some n → BeginsOn g targets past marks ops k n

abbrev pub WorkBeginsAsTheModels : Type 0
WorkBeginsAsTheModels =
    (g : Parts) (targets : ℕ) (items : List Item) → IsLegalBase g targets items →
    BeginAsLuns g targets (reverse items) (marks_of Written Start g targets items) (ops_of Written Start g targets items)

-- ---- works of one LUN

-- the number of the item that ended it
abbrev pub ended_at : Ending → ℕ
ended_at (Ready n failed) = n
ended_at (Shown n failed) = n
ended_at (NotShown n) = n
ended_at (Abandoned n) = n

-- the operation has ended by the item of this number at the latest
pub record EndedBy (o : Operation) (n : ℕ) : Type 0 where
  pub ending : Ending
  pub is : o.end ≡ Some ending
  pub by : ended_at ending ≤ n

-- of two operations that began work of one LUN the earlier one has ended where the later one begins
abbrev pub AreApart : List Operation → Type 0
AreApart ops =
    (k m : ℕ) (o p : Operation) (s t : ℕ) → slice_get ops k ≡ Some o → slice_get ops m ≡ Some p → p.ce ≡ o.ce → p.lun ≡ o.lun →
    o.start ≡ Some s → p.start ≡ Some t → s < t → EndedBy o t

abbrev pub WorksDontOverlap : Type 0
WorksDontOverlap =
    (g : Parts) (targets : ℕ) (items : List Item) → IsLegalBase g targets items →
    AreApart (ops_of Written Start g targets items)
