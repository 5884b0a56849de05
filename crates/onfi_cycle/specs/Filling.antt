-- What an item does to the page registers of a LUN.
use Rattle.std.specs.Prelude.{ℕ, ◌%◌, ◌==◌, ◌&&◌, if◌then◌else◌, List, [], Option, Some, None, replicate, slice_set, slice_index_or}
use Rattle.nand_geometry.specs.declared.parts.Parts.{Parts}
use Rattle.nand_geometry.specs.Limits.{page_len, planes}
use Rattle.onfi_cycle.specs.declared.item.Item.{Item}
use Rattle.onfi_cycle.specs.declared.item.Item.TheVariants.{Cyc, Rdy, Ard}
use Rattle.onfi_cycle.specs.declared.lun.Lun.{Lun}
use Rattle.onfi_cycle.specs.declared.tail_facts.TailFacts.{TailFacts}
use Rattle.onfi_cycle.specs.declared.target_cycle.TargetCycle.{TargetCycle}
use Rattle.onfi_cycle.specs.declared.target_cycle.TargetCycle.TheVariants.{CommandCycle, AddressCycle, InputCycle, OutputCycle}
use Rattle.onfi_cycle.specs.declared.page_address.PageAddress.{PageAddress}
use Rattle.onfi_cycle.specs.Command.{is_page_program, is_write_column}
use Rattle.onfi_cycle.specs.Sequence.{target_cycle, takes_data, row, row_with, input_column}
use Rattle.onfi_cycle.specs.Effect.{names_lun, page_address, plane_of_row}
use Rattle.onfi_cycle.specs.Lun.{page_in_plane}
use Rattle.onfi_cycle.specs.LunView.{LunView}
use Rattle.onfi_cycle.specs.Rules.{ends_row}
use Rattle.onfi_cycle.specs.declared.filling.Filling.{Filling}
use Rattle.onfi_cycle.specs.declared.filling.Filling.TheVariants.{Leaves, Clears, Copies, Fills}

-- the register of this page's plane gets the bytes of the page that is held there, if one is
abbrev pub copied : PageAddress → Option PageAddress → Filling
copied at None = Clears at
copied at (Some from) = Copies at from

-- what the whole row of 80, or of 85, does at the LUN that it names and that holds these pages
abbrev pub row_filling : Parts → TailFacts → ℕ → List PageAddress → Filling
row_filling g t row held =
    if ends_row is_page_program t then Clears (page_address g row)
    else (if ends_row is_write_column t then copied (page_address g row) (page_in_plane (planes g) (plane_of_row g row) held)
    else Leaves)

-- the last row cycle of 80 clears the register of its plane, that of 85 copies the page there that the LUN holds, and an input of the data fills it
abbrev pub cycle_filling : Parts → TailFacts → TargetCycle → ℕ → List PageAddress → Filling
cycle_filling g t (CommandCycle c) lun held = Leaves
cycle_filling g t (AddressCycle byte) lun held = if names_lun g (row_with t byte) lun then row_filling g t (row_with t byte) held else Leaves
cycle_filling g t (InputCycle byte) lun held = if takes_data t.phase && names_lun g (row t) lun then Fills (page_address g (row t)) (input_column t) byte else Leaves
cycle_filling g t OutputCycle lun held = Leaves

abbrev pub filling : Parts → TailFacts → Item → Lun → List PageAddress → Filling
filling g t (Cyc c) l held = if c.ce == l.ce then cycle_filling g t (target_cycle c.kind c.byte) l.lun held else Leaves
filling g t (Rdy ce lun fail) l held = Leaves
filling g t (Ard ce lun fail) l held = Leaves

-- the pages that a LUN holds, if it is there
abbrev pub held_by : Option LunView → List PageAddress
held_by None = []
held_by (Some v) = v.held

-- what it leaves of the registers, where the pages have this content
abbrev pub filled_by : Parts → (PageAddress → List ℕ) → Filling → List (List ℕ) → List (List ℕ)
filled_by g content Leaves registers = registers
filled_by g content (Clears at) registers = slice_set registers (at.block % planes g) (replicate (page_len g) 0xff)
filled_by g content (Copies at from) registers = slice_set registers (at.block % planes g) (content from)
filled_by g content (Fills at column byte) registers =
    slice_set registers (at.block % planes g) (slice_set (slice_index_or registers (at.block % planes g) []) column byte)
