-- The page whose bytes a program begins with.
use Rattle.std.specs.Prelude.{Option, None, List}
use Rattle.nand_geometry.specs.declared.parts.Parts.{Parts}
use Rattle.nand_geometry.specs.Limits.{planes}
use Rattle.onfi_cycle.specs.declared.lun.Lun.{Lun}
use Rattle.onfi_cycle.specs.declared.item.Item.{Item}
use Rattle.onfi_cycle.specs.declared.page_address.PageAddress.{PageAddress}
use Rattle.onfi_cycle.specs.declared.effect.Effect.{Effect}
use Rattle.onfi_cycle.specs.declared.effect.Effect.TheVariants.{ProgramStarted, CacheProgramStarted}
use Rattle.onfi_cycle.specs.Sequence.{tail, facts_of, row}
use Rattle.onfi_cycle.specs.Effect.{plane_of_row}
use Rattle.onfi_cycle.specs.Lun.{held, page_in_plane}

-- the page that the LUN holds in the plane of the row of its target
abbrev pub page_begun_with : Parts → List Item → Lun → Option PageAddress
page_begun_with g past l = page_in_plane (planes g) (plane_of_row g (row (facts_of (tail past l.ce)))) (held g past l)

-- the page that an effect copies: that with whose bytes the program begins that it closes
abbrev pub page_copied : Effect → Option PageAddress → Option PageAddress
page_copied (ProgramStarted queued at) begun = begun
page_copied (CacheProgramStarted at) begun = begun
page_copied _ begun = None
