-- The codes under which faults are told.
use Rattle.std.specs.Prelude.{◌≡◌, ℕ, ◌==◌, if◌then◌else◌, List, codes, Option, Some, None}
use Rattle.nand_geometry.specs.declared.page_fault.PageFault.{PageFault}
use Rattle.nand_geometry.specs.declared.page_fault.PageFault.TheVariants.{TooShort, NoSignature, WrongChecksum, WideBus, AddressCycles, SizeOutOfRange, LunsOutOfRange, PlanesOutOfRange, LunCommandsMissing}

-- the code under which a fault of a parameter page is told
abbrev pub page_fault_code : PageFault → List ℕ
page_fault_code TooShort = codes "P1"
page_fault_code NoSignature = codes "P2"
page_fault_code WrongChecksum = codes "P3"
page_fault_code WideBus = codes "P4"
page_fault_code AddressCycles = codes "P5"
page_fault_code SizeOutOfRange = codes "P6"
page_fault_code LunsOutOfRange = codes "P7"
page_fault_code PlanesOutOfRange = codes "P8"
page_fault_code LunCommandsMissing = codes "P9"

-- the number of the code of a fault of a parameter page
abbrev pub page_fault_number : PageFault → ℕ
page_fault_number TooShort = 1
page_fault_number NoSignature = 2
page_fault_number WrongChecksum = 3
page_fault_number WideBus = 4
page_fault_number AddressCycles = 5
page_fault_number SizeOutOfRange = 6
page_fault_number LunsOutOfRange = 7
page_fault_number PlanesOutOfRange = 8
page_fault_number LunCommandsMissing = 9

-- the fault of a parameter page whose code has this number
unfoldable pub page_fault_of : ℕ → Option PageFault
page_fault_of n =
    if n == 1 then Some TooShort else (
    if n == 2 then Some NoSignature else (
    if n == 3 then Some WrongChecksum else (
    if n == 4 then Some WideBus else (
    if n == 5 then Some AddressCycles else (
    if n == 6 then Some SizeOutOfRange else (
    if n == 7 then Some LunsOutOfRange else (
    if n == 8 then Some PlanesOutOfRange else (
    if n == 9 then Some LunCommandsMissing else None))))))))

-- the law: each fault of a parameter page is that of its number
abbrev pub PageFaultsAreNumbered : Type 0
PageFaultsAreNumbered = (fault : PageFault) → page_fault_of (page_fault_number fault) ≡ Some fault
