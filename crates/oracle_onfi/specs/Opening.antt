-- The opening content of the dies, by a list of the pages that aren't all FF, and the works on pages as code keeps them.
use Rattle.std.specs.Prelude.{ℕ, ◌==◌, Bool, ◌&&◌, if◌then◌else◌, List, [], ◌∷◌, replicate}
use Rattle.onfi_cycle.specs.declared.lun.Lun.{Lun}
use Rattle.onfi_cycle.specs.declared.page_address.PageAddress.{PageAddress}
use Rattle.onfi_cycle.specs.Content.{ArrayWork, same_page}
use Rattle.onfi_cycle.specs.Content.ArrayWork.{ErasesBlock, ProgramsPage}
use Rattle.oracle_onfi.specs.declared.works.WorkKind.{WorkKind}
use Rattle.oracle_onfi.specs.declared.works.WorkKind.TheVariants.{Erase, Program}

-- a page with its bytes
pub record PageContent : Type 0 where
  pub lun : Lun
  pub at : PageAddress
  pub bytes : List ℕ

abbrev pub same_lun : Lun → Lun → Bool
same_lun l m = l.ce == m.ce && l.lun == m.lun

-- the bytes of a page: those of its first entry, and else FF
abbrev pub opening_of : ℕ → List PageContent → Lun → PageAddress → List ℕ
opening_of len [] l p = replicate len 0xff
opening_of len (entry ∷ entries) l p = if same_lun entry.lun l && same_page entry.at p then entry.bytes else opening_of len entries l p

-- a work by its kind, its place and its bytes
abbrev pub work_of : WorkKind → PageAddress → List ℕ → ArrayWork
work_of Erase at bytes = ErasesBlock at
work_of Program at bytes = ProgramsPage at bytes
