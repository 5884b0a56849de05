-- The codes of what is wrong with a vendor file.
use Rattle.std.specs.Prelude.{ℕ, List, codes}
use Rattle.vendor_file.specs.declared.fault.VendorFault.{VendorFault}
use Rattle.vendor_file.specs.declared.fault.VendorFault.TheVariants.{BadForm, KnownCommand, Twice}

abbrev pub vendor_code : VendorFault → List ℕ
vendor_code BadForm = codes "N1"
vendor_code KnownCommand = codes "N2"
vendor_code Twice = codes "N3"
