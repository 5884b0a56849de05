-- Each fault is that of its number.
use Rattle.std.proofs.Common.{◌≡◌, Some, refl}
use Rattle.nand_geometry.specs.declared.page_fault.PageFault.{PageFault}
use Rattle.nand_geometry.specs.declared.page_fault.PageFault.TheVariants.{TooShort, NoSignature, WrongChecksum, WideBus, AddressCycles, SizeOutOfRange, LunsOutOfRange, PlanesOutOfRange, LunCommandsMissing}
use Rattle.nand_geometry.specs.Codes.{page_fault_number, page_fault_of}

pub page_faults_are_numbered : (x : PageFault) → page_fault_of (page_fault_number x) ≡ Some x
unfolding page_fault_of
page_faults_are_numbered TooShort = refl
page_faults_are_numbered NoSignature = refl
page_faults_are_numbered WrongChecksum = refl
page_faults_are_numbered WideBus = refl
page_faults_are_numbered AddressCycles = refl
page_faults_are_numbered SizeOutOfRange = refl
page_faults_are_numbered LunsOutOfRange = refl
page_faults_are_numbered PlanesOutOfRange = refl
page_faults_are_numbered LunCommandsMissing = refl
