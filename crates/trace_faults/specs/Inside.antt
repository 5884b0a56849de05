-- Where an item may be: on one of four targets, of one of four LUNs.
use Rattle.std.specs.Prelude.{◌≤◌}
use Rattle.onfi_cycle.specs.declared.item.Item.{Item}
use Rattle.onfi_cycle.specs.declared.item.Item.TheVariants.{Cyc, Rdy, Ard}

-- the number of its target, and that of its LUN if it has one, are at most 3
abbrev pub IsInside : Item → Type 0
IsInside (Cyc c) = c.ce ≤ 3
IsInside (Rdy ce lun fail) = (ce ≤ 3) × (lun ≤ 3)
IsInside (Ard ce lun fail) = (ce ≤ 3) × (lun ≤ 3)
