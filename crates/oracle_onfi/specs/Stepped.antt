-- What an item leaves of the LUNs of a target, all at once.
use Rattle.std.specs.Prelude.{ℕ, zero, suc, ◌+◌, ◌≤◌, ◌^◌, if◌then◌else◌, List, [], ◌∷◌}
use Rattle.nand_geometry.specs.declared.parts.Parts.{Parts}
use Rattle.onfi_cycle.specs.declared.effect.Effect.{Effect}
use Rattle.onfi_cycle.specs.declared.item.Item.{Item}
use Rattle.onfi_cycle.specs.declared.latch.Latch.{Latch}
use Rattle.onfi_cycle.specs.declared.latch.Latch.TheVariants.{Off}
use Rattle.onfi_cycle.specs.declared.lun.Lun.{Lun}
use Rattle.onfi_cycle.specs.declared.tail_facts.TailFacts.{TailFacts}
use Rattle.onfi_cycle.specs.Effect.{is_off, item_effect}
use Rattle.onfi_cycle.specs.Lun.{first_view, is_only, shown_after, view_after}
use Rattle.onfi_cycle.specs.LunView.{LunView}

-- what a LUN shows if these alone drive the bus and it is the only one, and else Off
abbrev pub given_alone : List ℕ → ℕ → Latch → Latch
given_alone numbers number latch = if is_only numbers number then latch else Off

-- a LUN goes on by an effect, and what it shows by another
abbrev pub facts_by : (given effect : Effect) → LunView → LunView
facts_by given effect v = record (view_after effect v) { latch = shown_after given v }

-- what an item leaves of a LUN of a target whose tail is this, and of which these LUNs drive the bus
abbrev pub stepped : Parts → TailFacts → Item → Lun → (numbers : List ℕ) → LunView → LunView
stepped g t i l numbers v = facts_by (item_effect g t v.latch i l) (item_effect g t (given_alone numbers l.lun v.latch) i l) v

-- the same of the LUNs of a target, from this number on
abbrev pub stepped_from : Parts → TailFacts → Item → (ce : ℕ) → (numbers : List ℕ) → (n : ℕ) → List LunView → List LunView
stepped_from g t i ce numbers n [] = []
stepped_from g t i ce numbers n (v ∷ vs) = stepped g t i (record { ce = ce; lun = n }) numbers v ∷ stepped_from g t i ce numbers (n + 1) vs

-- LUNs to which nothing has happened, so many from this number on
abbrev pub firsts_from : (count n : ℕ) → List LunView
firsts_from zero n = []
firsts_from (suc count) n = first_view n ∷ firsts_from count (n + 1)

-- of the LUNs of a target, from this number on, those that drive the bus
abbrev pub numbers_from : (n : ℕ) → List LunView → List ℕ
numbers_from n [] = []
numbers_from n (v ∷ vs) = if is_off v.latch then numbers_from (n + 1) vs else n ∷ numbers_from (n + 1) vs

-- after so many items a LUN has given no more bytes, and its array has read no more pages in a row
pub record IsShort (most : ℕ) (v : LunView) : Type 0 where
  pub outputs : v.column.outputs ≤ most
  pub page : v.array_page.page ≤ 2 ^ 32 + most

abbrev pub AreShort : (most : ℕ) → List LunView → Type 0
AreShort most [] = Unit {0}
AreShort most (v ∷ vs) = IsShort most v × AreShort most vs
