-- Where the operations of a trace begin that is legal and of the base profile.
use Rattle.std.specs.Prelude.{◌≡◌, ℕ, ◌+◌, ◌&&◌, Bool, false, List, [], ◌∷◌, map, if◌then◌else◌}
use Rattle.nand_geometry.specs.declared.parts.Parts.{Parts}
use Rattle.onfi_cycle.specs.declared.item.Item.{Item}
use Rattle.onfi_cycle.specs.declared.item.Item.TheVariants.{Cyc, Rdy, Ard}
use Rattle.onfi_cycle.specs.Sequence.{target_of}
use Rattle.trace_faults.specs.declared.beginning.Beginning.TheVariants.{Start}
use Rattle.trace_faults.specs.declared.readies.Readies.TheVariants.{Written}
use Rattle.trace_ops.specs.declared.operation.Beginning.{Beginning}
use Rattle.trace_ops.specs.declared.operation.Beginning.TheVariants as begins
use Rattle.trace_ops.specs.declared.operation.Operation.{Operation}
use Rattle.trace_ops.specs.AtWork.{IsLegalBase}
use Rattle.trace_ops.specs.Listing.{is_command, opens_alone, ops_of}

-- where something begins: its first item, its target, and how
pub record Opened : Type 0 where
  pub first : ℕ
  pub ce : ℕ
  pub beginning : Beginning

abbrev pub opened_at : Operation → Opened
opened_at o = record { first = o.first; ce = o.ce; beginning = o.beginning }

-- the item is a command that begins a sequence; in the base profile 85 goes on with one
abbrev pub opens : Item → Bool
opens (Cyc c) = is_command c.kind && opens_alone c.byte
opens (Rdy ce lun fail) = false
opens (Ard ce lun fail) = false

abbrev pub beginning_by : Item → Beginning
beginning_by (Cyc c) = begins.Opener c.byte
beginning_by (Rdy ce lun fail) = begins.Ready
beginning_by (Ard ce lun fail) = begins.Ready

-- the item of this number, as one that begins something
abbrev pub opening : ℕ → Item → Opened
opening n i = record { first = n; ce = target_of i; beginning = beginning_by i }

-- the commands that begin a sequence, of items that are counted from this number on
abbrev pub openings_from : ℕ → List Item → List Opened
openings_from n [] = []
openings_from n (i ∷ items) = if opens i then opening n i ∷ openings_from (n + 1) items else openings_from (n + 1) items

-- each command that begins a sequence begins an operation, and nothing else does
abbrev pub OperationsAreOpeners : Type 0
OperationsAreOpeners =
    (g : Parts) (targets : ℕ) (items : List Item) → IsLegalBase g targets items →
    map opened_at (ops_of Written Start g targets items) ≡ openings_from 0 items
