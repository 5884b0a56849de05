-- What the caller is told of a trace.
use Rattle.std.specs.Prelude.{ℕ, ◌+◌, ◌||◌, nat_lt, if◌then◌else◌, List, [], ◌∷◌, Option, Some, None}
use Rattle.nand_geometry.specs.declared.parts.Parts.{Parts}
use Rattle.nand_geometry.specs.declared.page_fault.PageFault.{PageFault}
use Rattle.nand_geometry.specs.Limits.{fault_of}
use Rattle.nand_geometry.specs.Optional.{is_wide}
use Rattle.onfi_cycle.specs.declared.item.Item.{Item}
use Rattle.onfi_cycle.specs.Permitted.{broken}
use Rattle.bus_record.specs.Rule.{by_option}
use Rattle.onfi_cycle.specs.Codes.{rule_number}
use Rattle.nand_geometry.specs.Codes.{page_fault_number}
use Rattle.bus_record.specs.Item.{item_of}
use Rattle.bus_record.specs.declared.item.OnfiseqItem.{OnfiseqItem}
use Rattle.onfiseq_c.specs.declared.check.OnfiseqAnswer.{OnfiseqAnswer}

abbrev pub answer : ℕ → ℕ → ℕ → OnfiseqAnswer
answer letter number at = record { letter = letter; number = number; at = at }

-- the items after this past, the first of them at place at: F and the rule at the first that isn't permitted, I at the first that is none
unfoldable pub checked : Parts → ℕ → List Item → List OnfiseqItem → ℕ → OnfiseqAnswer
checked g targets past [] at = answer 0 0 at
checked g targets past (i ∷ items) at =
    by_option (item_of (is_wide g.optional) i) (answer 73 0 at)
    (λ item. by_option (broken g targets past item) (checked g targets (item ∷ past) items (at + 1)) (λ rule. answer 70 (rule_number rule) at))

-- the answer where the numbers have this fault
abbrev pub answered_with : Parts → ℕ → List OnfiseqItem → Option PageFault → OnfiseqAnswer
answered_with g targets items (Some fault) = answer 80 (page_fault_number fault) 0
answered_with g targets items None = checked g targets [] items 0

abbrev pub answered : Parts → ℕ → List OnfiseqItem → OnfiseqAnswer
answered g targets items = if nat_lt targets 1 || nat_lt 4 targets then answer 84 0 0 else answered_with g targets items (fault_of g)
