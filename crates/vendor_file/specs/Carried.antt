-- A trace without the items that are passed over, and its faults carried back.
use Rattle.std.specs.Prelude.{ℕ, ◌+◌, nat_le, if◌then◌else◌, List, [], ◌∷◌, ◌++◌, map, get_or}
use Rattle.nand_geometry.specs.declared.parts.Parts.{Parts}
use Rattle.onfi_cycle.specs.declared.item.Item.{Item}
use Rattle.trace_faults.specs.declared.broken_rule.BrokenRule.{BrokenRule}
use Rattle.trace_faults.specs.declared.unshown.NotShown.{NotShown}
use Rattle.trace_faults.specs.declared.readies.Readies.{Readies}
use Rattle.trace_faults.specs.Faults.{fault_at}
use Rattle.vendor_file.specs.declared.step.Step.{Step}
use Rattle.vendor_file.specs.declared.part.Part.{Part}
use Rattle.vendor_file.specs.Passing.{parts_of}

-- ---- by what becomes of each

abbrev pub kept_by : List Item → List Part → List Item
kept_by [] parts = []
kept_by (i ∷ items) [] = []
kept_by (i ∷ items) (p ∷ parts) = if p.is_kept then i ∷ kept_by items parts else kept_by items parts

-- the places of those that are kept, of which the first is number n
abbrev pub places_from : ℕ → List Part → List ℕ
places_from n [] = []
places_from n (p ∷ parts) = if p.is_kept then n ∷ places_from (n + 1) parts else places_from (n + 1) parts

-- the faults of lines that aren't whole
abbrev pub broken_from : ℕ → List Part → List BrokenRule
broken_from n [] = []
broken_from n (p ∷ parts) = fault_at n p.rule ++ broken_from (n + 1) parts

-- ---- of a trace

abbrev pub kept_items : List Step → Readies → Parts → ℕ → List Item → List Item
kept_items steps readies g targets items = kept_by items (parts_of steps readies g targets items)

abbrev pub kept_places : List Step → Readies → Parts → ℕ → List Item → List ℕ
kept_places steps readies g targets items = places_from 0 (parts_of steps readies g targets items)

abbrev pub broken_lines : List Step → Readies → Parts → ℕ → List Item → List BrokenRule
broken_lines steps readies g targets items = broken_from 0 (parts_of steps readies g targets items)

-- ---- carried back

abbrev pub carried_fault : List ℕ → BrokenRule → BrokenRule
carried_fault places fault = record { item = get_or places fault.item 0; rule = fault.rule }

abbrev pub carried_faults : List ℕ → List BrokenRule → List BrokenRule
carried_faults places faults = map (carried_fault places) faults

abbrev pub carried_ready : List ℕ → NotShown → NotShown
carried_ready places told = record { item = get_or places told.item 0; ready = told.ready }

abbrev pub carried_readies : List ℕ → List NotShown → List NotShown
carried_readies places told = map (carried_ready places) told

-- ---- two lists of faults as one, in the order of their items

abbrev pub up_to : ℕ → List BrokenRule → List BrokenRule
up_to n [] = []
up_to n (b ∷ broken) = if nat_le b.item n then b ∷ up_to n broken else []

abbrev pub beyond : ℕ → List BrokenRule → List BrokenRule
beyond n [] = []
beyond n (b ∷ broken) = if nat_le b.item n then beyond n broken else b ∷ broken

abbrev pub merged : (faults broken : List BrokenRule) → List BrokenRule
merged [] broken = broken
merged (f ∷ faults) broken = up_to f.item broken ++ (f ∷ merged faults (beyond f.item broken))
