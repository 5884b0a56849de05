-- What pins that keep their cycles know of what was driven.
use Rattle.std.specs.Prelude.{Bool, true, false, List, [], ◌∷◌, Option, Some, None}
use Rattle.onfi_cycle.specs.declared.item.Cycle.{Cycle}
use Rattle.onfi_cycle.specs.declared.item.Item.{Item}
use Rattle.onfi_cycle.specs.declared.item.Item.TheVariants.{Cyc}

-- these cycles after a past, the newest first
abbrev pub newest_first : List Cycle → List Item → List Item
newest_first [] past = past
newest_first (c ∷ cycles) past = newest_first cycles (Cyc c ∷ past)

-- where no cycle was left out for want of memory
abbrev pub noted : Bool → List Cycle → Option (List Item)
noted true cycles = Some (newest_first cycles [])
noted false cycles = None
