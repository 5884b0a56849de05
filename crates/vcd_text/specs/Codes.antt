-- The codes of faults.
use Rattle.std.specs.Prelude.{ℕ, List, codes}
use Rattle.vcd_text.specs.declared.fault.DumpFault.{DumpFault}
use Rattle.vcd_text.specs.declared.fault.DumpFault.TheVariants.{UnknownSection, SectionNotEnded, HeaderNotEnded, BadTimescale, BadVariable, TwoWidths, BadTime, TimeGoesBack, BadVector, NoCode, NotDeclared, VectorTooLong, UnknownChange, NoColumnNames, OtherFieldCount, BadRowTime, RowGoesBack, BadSignal}

abbrev pub code : DumpFault → List ℕ
code UnknownSection = codes "G1"
code SectionNotEnded = codes "G1"
code HeaderNotEnded = codes "G1"
code BadTimescale = codes "G1"
code BadVariable = codes "G2"
code TwoWidths = codes "G2"
code BadTime = codes "G4"
code TimeGoesBack = codes "G4"
code BadVector = codes "G4"
code NoCode = codes "G4"
code NotDeclared = codes "G4"
code VectorTooLong = codes "G4"
code UnknownChange = codes "G4"
code NoColumnNames = codes "G9"
code OtherFieldCount = codes "G9"
code BadRowTime = codes "G9"
code RowGoesBack = codes "G9"
code BadSignal = codes "G9"
