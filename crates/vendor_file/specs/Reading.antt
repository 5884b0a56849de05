-- What reading answers, in memory.
use Rattle.std.specs.Prelude.{◌≡◌, ⊤, ℕ, List, Result, Ok, Err}
use Rattle.nand_geometry.specs.declared.optional.Profile.{Profile}
use Rattle.micro_asm.specs.Line.{fields, before_comment}
use Rattle.vendor_file.specs.declared.fault.VendorFault.{VendorFault}
use Rattle.vendor_file.specs.declared.reading.LineStop.{LineStop}
use Rattle.vendor_file.specs.declared.reading.LineStop.TheVariants.{Fault, OutOfMemory}
use Rattle.vendor_file.specs.declared.step.Step.{Step}
use Rattle.vendor_file.specs.Lines.{Written, line_after}

abbrev pub written : List Step → Step → Written
written steps last = record { steps = steps; last = last }

-- a stop is this fault; of memory that was refused nothing is said
abbrev pub IsRefusalOf : {A : Type 0} → LineStop → Result A VendorFault → Type 0
IsRefusalOf (Fault f) result = result ≡ Err f
IsRefusalOf OutOfMemory result = ⊤

-- a line is added to the sequences before it, or it is at fault
abbrev pub IsLine : {U : Type 0} → Profile → List Step → List ℕ → Result U LineStop → List Step → Type 0
IsLine profile before line (Ok u) after = line_after profile before (fields (before_comment line)) ≡ Ok after
IsLine profile before line (Err stop) after = IsRefusalOf stop (line_after profile before (fields (before_comment line)))
