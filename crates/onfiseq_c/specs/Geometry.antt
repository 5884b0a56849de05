-- The page that the caller's numbers stand for.
use Rattle.std.specs.Prelude.{◌≡◌, ℕ, ◌==◌, if◌then◌else◌, Result, Ok, Err}
use Rattle.nand_geometry.specs.declared.parts.Parts.{Parts}
use Rattle.nand_geometry.specs.declared.optional.Profile.{Profile}
use Rattle.nand_geometry.specs.declared.optional.Profile.TheVariants.{Base, Onfi}
use Rattle.nand_geometry.specs.declared.page_fault.PageFault.{PageFault}
use Rattle.nand_geometry.specs.Codes.{page_fault_number}
use Rattle.target_record.specs.Geometry.{parts_of, no_geometry}
use Rattle.onfiseq_c.specs.declared.geometry.OnfiseqPage.{OnfiseqPage}

-- what is answered where a page is read so
abbrev pub page_of : Result Parts PageFault → OnfiseqPage → Type 0
page_of (Ok g) p = (p.fault ≡ 0) × (parts_of p.geometry ≡ g)
page_of (Err e) p = (p.fault ≡ page_fault_number e) × (p.geometry ≡ no_geometry)

-- the profile of a number
abbrev pub profile_of : ℕ → Profile
profile_of number = if number == 0 then Base else Onfi
