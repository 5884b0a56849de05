-- The header of a dump in memory, whose names are borrowed from the text.
use Rattle.std.specs.Prelude.{◌≡◌, ⊤, List, map, Option, Some, None, Result, Ok, Err}
use Rattle.vcd_text.specs.declared.fault.DumpFault.{DumpFault}
use Rattle.vcd_text.specs.declared.section.Section.{Section}
use Rattle.vcd_text.specs.declared.section.Variable.{Variable}
use Rattle.vcd_text.specs.declared.header.Header.{Header}
use Rattle.vcd_text.specs.declared.header.SectionStop.{SectionStop}
use Rattle.vcd_text.specs.declared.header.SectionStop.TheVariants as stop
use Rattle.vcd_text.specs.Header as header

abbrev pub shown_section : Section → header.Section
shown_section s = record { keyword = s.keyword; count = s.count; first = s.first.now; second = s.second.now; third = s.third.now; fourth = s.fourth.now; fifth = s.fifth.now }

abbrev pub shown_begun : Option Section → Option header.Section
shown_begun None = None
shown_begun (Some s) = Some (shown_section s)

abbrev pub shown_variable : Variable → header.Variable
shown_variable v = record { name = v.name.now; range = v.range.now; width = v.width; code = v.code }

abbrev pub shown_variables : List Variable → List header.Variable
shown_variables variables = map shown_variable variables

-- an answer is this name, or this fault
abbrev pub IsVariable : Result Variable DumpFault → Result header.Variable DumpFault → Type 0
IsVariable (Ok v) variable = variable ≡ Ok (shown_variable v)
IsVariable (Err e) variable = variable ≡ Err e

-- what a header holds in memory
abbrev pub shown_header : {A : Type 0} → Header A → header.Header
shown_header h = record { variables = shown_variables h.variables.items; widths = h.widths.entries }

-- why a section isn't taken: its fault; of memory that was refused nothing is said
abbrev pub IsStop : {A : Type 0} → SectionStop → Result A DumpFault → Type 0
IsStop (stop.Fault fault) result = result ≡ Err fault
IsStop stop.OutOfMemory result = ⊤

-- an answer is this section, or this fault
abbrev pub IsSection : Result Section DumpFault → Result header.Section DumpFault → Type 0
IsSection (Ok s) section = section ≡ Ok (shown_section s)
IsSection (Err e) section = section ≡ Err e
